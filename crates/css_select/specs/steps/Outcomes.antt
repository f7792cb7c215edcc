-- How far matching came.
use Rattle.std.specs.Prelude.{ℕ, List}
use Rattle.viz_base.specs.declared.nodes.Node.{Node}
use Rattle.viz_base.specs.declared.selectors.Compound.{Compound}
use Rattle.viz_base.specs.declared.selectors.Join.{Join}
use Rattle.css_semantics.specs.Matching.{IsAncestor, MatchesParts}
use Rattle.css_select.specs.declared.matching.Outcome.{Outcome}
use Rattle.css_select.specs.declared.matching.Outcome.TheVariants.{Found, Failed, Hopeless}

-- each element around m is around n
abbrev pub IsAbove : List Node → ℕ → ℕ → Type 0
IsAbove nodes m n = (top : ℕ) → IsAncestor nodes top m → IsAncestor nodes top n

-- what an outcome says of simple selectors, the last first, at a node
abbrev pub IsOutcome : List Node → List (Join × Compound) → ℕ → Outcome → Type 0
IsOutcome nodes ps n Found = MatchesParts nodes ps n
IsOutcome nodes ps n Failed = MatchesParts nodes ps n → ⊥
IsOutcome nodes ps n Hopeless = (m : ℕ) → IsAbove nodes m n → MatchesParts nodes ps m → ⊥

-- no element around a node matches
abbrev pub NoneAround : List Node → List (Join × Compound) → ℕ → Type 0
NoneAround nodes ps n = (top : ℕ) → IsAncestor nodes top n → MatchesParts nodes ps top → ⊥

-- what an outcome says of the elements around a node
abbrev pub IsOutcomeAround : List Node → List (Join × Compound) → ℕ → Outcome → Type 0
IsOutcomeAround nodes ps n Found = (top : ℕ) × IsAncestor nodes top n × MatchesParts nodes ps top
IsOutcomeAround nodes ps n Failed = NoneAround nodes ps n
IsOutcomeAround nodes ps n Hopeless = NoneAround nodes ps n

use Rattle.std.proofs.Common.{ℕ, List, [], ◌∷◌, reverse, subst, sym}
use Rattle.std.proofs.lemmas.List.{reverse-append}
use Rattle.viz_base.specs.declared.nodes.Node.{Node}
use Rattle.viz_base.specs.declared.selectors.Compound.{Compound}
use Rattle.viz_base.specs.declared.selectors.Join.{Join}
use Rattle.css_semantics.specs.Matching.{Match, MatchesParts}
use Rattle.css_semantics.specs.SelectorLaws.{joined}
use Rattle.css_semantics.proofs.selectors.joins_say_where.Goals as goal

-- from its last simple selector on
opened : (nodes : List Node) (n : ℕ) (a : List (Join × Compound)) (join : Join) (b : Compound)
    → Match (joined a join b) nodes n → MatchesParts nodes ((join, b) ∷ reverse a) n
opened nodes n a join b = subst (λ (ps : List (Join × Compound)). MatchesParts nodes ps n) (reverse-append a ((join, b) ∷ []))

shut : (nodes : List Node) (n : ℕ) (a : List (Join × Compound)) (join : Join) (b : Compound)
    → MatchesParts nodes ((join, b) ∷ reverse a) n → Match (joined a join b) nodes n
shut nodes n a join b = subst (λ (ps : List (Join × Compound)). MatchesParts nodes ps n) (sym (reverse-append a ((join, b) ∷ [])))

pub returns-clause-one : goal.returns-clause-one
returns-clause-one c nodes n b = (λ m. m, λ m. m)

pub returns-clause-child : goal.returns-clause-child
returns-clause-child c nodes n a b = (opened nodes n a _ b, shut nodes n a _ b)

pub returns-clause-descendant : goal.returns-clause-descendant
returns-clause-descendant c nodes n a b = (opened nodes n a _ b, shut nodes n a _ b)

pub returns-clause-next : goal.returns-clause-next
returns-clause-next c nodes n a b = (opened nodes n a _ b, shut nodes n a _ b)

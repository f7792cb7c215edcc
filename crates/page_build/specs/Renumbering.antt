-- A formula over the page with its generated content. Its texts are matched on the page as it is written, and the nodes
-- that they find are then named by their numbers in the grown page.
use Rattle.std.specs.Prelude.{ℕ, ◌==◌, Bool, false, List, Option, flat_map}
use Rattle.std.specs.List.{position_from}
use Rattle.std.specs.Option.{option_map_or, option_to_list}
use Rattle.viz_base.specs.declared.formulas.Formula.{Formula}
use Rattle.viz_base.specs.declared.formulas.Formula.TheOpen.{Formula-F}
use Rattle.viz_base.specs.declared.formulas.Formula.TheFolds.{fold-Formula}
use Rattle.viz_base.specs.declared.formulas.Formula.TheVariants.{Const, Forall, Exists, Implies, Or, And, Not, Cmp, Overlap, Same}
use Rattle.viz_base.specs.declared.formulas.Set.{Set}
use Rattle.viz_base.specs.declared.formulas.Set.TheVariants as of_set

-- `from` lists for each node of the grown page its number on the page as it is written, and none of a generated one

abbrev pub is_number : ℕ → Option ℕ → Bool
is_number node from = option_map_or (λ n. n == node) from false

-- the number in the grown page of a node that is written
abbrev pub number_in : List (Option ℕ) → ℕ → Option ℕ
number_in from node = position_from (is_number node) 0 from

-- the same nodes by the numbers that they have there, without those that have none
abbrev pub renumbered_nodes : (ℕ → Option ℕ) → List ℕ → List ℕ
renumbered_nodes number nodes = flat_map (λ node. option_to_list (number node)) nodes

abbrev pub renumbered_set : (ℕ → Option ℕ) → Set → Set
renumbered_set number (of_set.Of kind) = of_set.Of kind
renumbered_set number of_set.Every = of_set.Every
renumbered_set number (of_set.Nodes nodes) = of_set.Nodes (renumbered_nodes number nodes)

-- one level of a formula, its parts being renumbered
abbrev pub renumber_step : (ℕ → Option ℕ) → Formula-F Formula → Formula
renumber_step number (Formula-F.Const value) = Const value
renumber_step number (Formula-F.Forall set body) = Forall (renumbered_set number set) body
renumber_step number (Formula-F.Exists set body) = Exists (renumbered_set number set) body
renumber_step number (Formula-F.Implies a b) = Implies a b
renumber_step number (Formula-F.Or a b) = Or a b
renumber_step number (Formula-F.And a b) = And a b
renumber_step number (Formula-F.Not a) = Not a
renumber_step number (Formula-F.Cmp left sign right) = Cmp left sign right
renumber_step number (Formula-F.Overlap a b) = Overlap a b
renumber_step number (Formula-F.Same a b) = Same a b

abbrev pub renumbered : (ℕ → Option ℕ) → Formula → Formula
renumbered number = fold-Formula Formula (renumber_step number)

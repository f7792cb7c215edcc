use Rattle.std.specs.Prelude.{ℕ, ◌+◌, ◌*◌, ◌^◌, Bool, true, nat_le, nat_lt, ◌&&◌, unsigned_abs, sum_by}
use Rattle.viz_base.specs.declared.formulas.Formula.{Formula}
use Rattle.viz_base.specs.declared.formulas.Formula.TheOpen.{Formula-F}
use Rattle.viz_base.specs.declared.formulas.Formula.TheFolds.{fold-Formula}
use Rattle.viz_base.specs.declared.formulas.Term.{Term}
use Rattle.viz_base.specs.declared.formulas.Summand.{Summand}
use Rattle.viz_base.specs.declared.formulas.Edge.{Edge}
use Rattle.viz_base.specs.declared.formulas.Edge.TheVariants as of_edge
use Rattle.std.specs.List.{list_all}

-- ---- names

-- a name is bound where it is below the number of quantifiers around it
abbrev pub edge_is_bound : ℕ → Edge → Bool
edge_is_bound depth (of_edge.Name name ring face) = nat_lt name depth
edge_is_bound depth _ = true

abbrev pub term_is_bound : ℕ → Term → Bool
term_is_bound depth t = list_all (λ (s : Summand). edge_is_bound depth s.edge) t.parts

-- one level of a formula, with what its parts say in their places
abbrev pub bound_step : Formula-F (ℕ → Bool) → ℕ → Bool
bound_step (Formula-F.Const value) depth = true
bound_step (Formula-F.Forall set body) depth = body (depth + 1)
bound_step (Formula-F.Exists set body) depth = body (depth + 1)
bound_step (Formula-F.Implies a b) depth = a depth && b depth
bound_step (Formula-F.Or a b) depth = a depth && b depth
bound_step (Formula-F.And a b) depth = a depth && b depth
bound_step (Formula-F.Not a) depth = a depth
bound_step (Formula-F.Cmp left sign right) depth = term_is_bound depth left && term_is_bound depth right
bound_step (Formula-F.Overlap a b) depth = nat_lt a depth && nat_lt b depth
bound_step (Formula-F.Same a b) depth = nat_lt a depth && nat_lt b depth

-- each name of the formula is bound, so many quantifiers being around it
abbrev pub is_bound_in : Formula → ℕ → Bool
is_bound_in = fold-Formula (ℕ → Bool) bound_step

-- ---- terms

-- how large an edge may be
abbrev pub edge_most : Edge → ℕ
edge_most of_edge.One = 1
edge_most (of_edge.Name name ring face) = 2 ^ 70
edge_most of_edge.ViewWidth = 2 ^ 38
edge_most of_edge.ViewHeight = 2 ^ 38
edge_most of_edge.ViewSize = 2 ^ 38

abbrev pub summand_most : Summand → ℕ
summand_most s = unsigned_abs s.times * edge_most s.edge

-- no part of the term and no sum of parts passes 2^100
abbrev pub term_is_small : Term → Bool
term_is_small t = nat_le (sum_by summand_most t.parts) (2 ^ 100)

abbrev pub small_step : Formula-F Bool → Bool
small_step (Formula-F.Const value) = true
small_step (Formula-F.Forall set body) = body
small_step (Formula-F.Exists set body) = body
small_step (Formula-F.Implies a b) = a && b
small_step (Formula-F.Or a b) = a && b
small_step (Formula-F.And a b) = a && b
small_step (Formula-F.Not a) = a
small_step (Formula-F.Cmp left sign right) = term_is_small left && term_is_small right
small_step (Formula-F.Overlap a b) = true
small_step (Formula-F.Same a b) = true

-- where edges of boxes are at most 2^70 and those of the view at most 2^38 in size, all terms are small
abbrev pub has_small_terms : Formula → Bool
has_small_terms = fold-Formula Bool small_step

use Rattle.std.specs.Prelude.{ℕ, Bool, true, false, ◌||◌, List, [], ◌∷◌, slice_get, Option, Some, None, is_some, unwrap_or}
use Rattle.std.specs.Option.{is_none}
use Rattle.std.specs.List.{list_any}
use Rattle.viz_base.specs.declared.formulas.Formula.{Formula}
use Rattle.viz_base.specs.declared.formulas.Formula.TheOpen.{Formula-F}
use Rattle.viz_base.specs.declared.formulas.Formula.TheFolds.{fold-Formula}
use Rattle.logic_semantics.specs.Scenes.{Scene, members, named}
use Rattle.logic_semantics.specs.Terms.{term_value, compares, boxes_overlap}
use Rattle.logic_semantics.specs.Truth.{are_same}

-- what is wrong with a formula where the names stand for these places:
-- nothing where it is true, and else the members to blame
abbrev pub Finding : Type 0
Finding = List ℕ → Option (List ℕ)

-- a formula of this truth, of which no member is to blame
abbrev pub blameless : Bool → Option (List ℕ)
blameless true = None
blameless false = Some []

-- what is wrong with a member, the member itself before it, or else the rest
abbrev pub with_member : ℕ → Option (List ℕ) → Option (List ℕ) → Option (List ℕ)
with_member m (Some blamed) rest = Some (m ∷ blamed)
with_member m None rest = rest

-- the first member of which something is wrong, then what is wrong with it
abbrev pub first_wrong : (ℕ → Option (List ℕ)) → List ℕ → Option (List ℕ)
first_wrong find [] = None
first_wrong find (m ∷ ms) = with_member m (find m) (first_wrong find ms)

-- the first of two things that are wrong
abbrev pub either_wrong : Option (List ℕ) → Option (List ℕ) → Option (List ℕ)
either_wrong (Some blamed) other = Some blamed
either_wrong None other = other

-- what is wrong, if the premise holds
abbrev pub wrong_where : Option (List ℕ) → Option (List ℕ) → Option (List ℕ)
wrong_where (Some blamed) other = None
wrong_where None other = other

-- one level of a formula, with what is wrong with its parts in their places
abbrev pub finding_step : Scene → Formula-F Finding → Finding
finding_step scene (Formula-F.Const value) names = blameless value
finding_step scene (Formula-F.Forall set body) names = first_wrong (λ m. body (m ∷ names)) (members set scene.boxes)
finding_step scene (Formula-F.Exists set body) names =
    blameless (list_any (λ m. is_none (body (m ∷ names))) (members set scene.boxes))
finding_step scene (Formula-F.Implies a b) names = wrong_where (a names) (b names)
finding_step scene (Formula-F.Or a b) names = blameless (is_none (a names) || is_none (b names))
finding_step scene (Formula-F.And a b) names = either_wrong (a names) (b names)
finding_step scene (Formula-F.Not a) names = blameless (is_some (a names))
finding_step scene (Formula-F.Cmp left sign right) names =
    blameless (compares sign (term_value scene names left) (term_value scene names right))
finding_step scene (Formula-F.Overlap a b) names =
    blameless (boxes_overlap (named scene.boxes names a) (named scene.boxes names b))
finding_step scene (Formula-F.Same a b) names = blameless (are_same (slice_get names a) (slice_get names b))

abbrev pub finding_in : Scene → Formula → Finding
finding_in scene = fold-Formula Finding (finding_step scene)

-- the members to blame where the names stand for these places
abbrev pub blame_in : Scene → Formula → List ℕ → List ℕ
blame_in scene f names = unwrap_or (finding_in scene f names) []

-- the members to blame for a whole formula
abbrev pub blame : Scene → Formula → List ℕ
blame scene f = blame_in scene f []

-- Places that are kept in a list of boxes.
use Rattle.std.proofs.Common.{◌≡◌, ℤ, List, [], ◌∷◌, ◌++◌, length, map, refl, ap, ◌∙◌, append_assoc}
use Rattle.std.proofs.Math.ListN.{set}
use Rattle.std.proofs.Math.Seq.{set-append_seam}
use Rattle.std.proofs.lemmas.List.{map-set, length-map, map-append}
use Rattle.viz_base.specs.declared.renderings.Placed.{Placed}
use Rattle.viz_calc.specs.World.{Reading}
use Rattle.lay_frame.specs.Readings.{boxes_at}

-- a box that is put into the place that was kept for it
pub seam : {B : Type 0} (xs : List B) (y : B) (ys : List B) (v : B) → set ((xs ++ y ∷ []) ++ ys) (length xs) v ≡ xs ++ v ∷ ys
seam {B} xs y ys v = ap (λ (l : List B). set l (length xs) v) (append_assoc xs (y ∷ []) ys) ∙ set-append_seam xs y ys v

pub ruleset seams = (seam)

pub ruleset slots = (map-set, length-map, map-append)

-- a list of nothing
pub no_boxes : {N : Type 0} (at : N → Reading → ℤ) (e : Reading) → boxes_at at [] e ≡ []
unfolding boxes_at
no_boxes at e = refl

-- at one world a rendering is what it means
pub plain_boxes : (boxes : List (Placed ℤ)) → map (λ (p : Placed ℤ). p) boxes ≡ boxes
plain_boxes [] = refl
plain_boxes (b ∷ bs) = ap (λ l. b ∷ l) (plain_boxes bs)

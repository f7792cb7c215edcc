use Rattle.std.specs.Prelude.{ℕ, ℤ, pos, ◌*ℤ◌, ◌+ℤ◌, Bool, false, not, ◌&&◌, List, map, fold, Option, Some}
use Rattle.std.specs.Int.RustNames.{int_lt, int_le}
use Rattle.std.specs.Ordering.{int_eq}
use Rattle.std.specs.Option.{option_map_or}
use Rattle.viz_base.specs.declared.formulas.Edge.{Edge}
use Rattle.viz_base.specs.declared.formulas.Edge.TheVariants as of_edge
use Rattle.viz_base.specs.declared.formulas.Ring.{Ring}
use Rattle.viz_base.specs.declared.formulas.Ring.TheVariants as of_ring
use Rattle.viz_base.specs.declared.formulas.Face.{Face}
use Rattle.viz_base.specs.declared.formulas.Face.TheVariants as of_face
use Rattle.viz_base.specs.declared.formulas.Sign.{Sign}
use Rattle.viz_base.specs.declared.formulas.Sign.TheVariants as of_sign
use Rattle.viz_base.specs.declared.formulas.Summand.{Summand}
use Rattle.viz_base.specs.declared.formulas.Term.{Term}
use Rattle.viz_base.specs.declared.renderings.Placed.{Placed}
use Rattle.viz_base.specs.declared.renderings.Quad.{Quad}
use Rattle.logic_semantics.specs.Scenes.{Scene, named}

-- ---- edges and terms

-- one of a box's rectangles (CSS 2.1, 8.1)
abbrev pub ring_of : {N : Type 0} → Ring → Placed N → Quad N
ring_of of_ring.Margin b = b.margin
ring_of of_ring.Border b = b.border
ring_of of_ring.Padding b = b.padding
ring_of of_ring.Content b = b.content

-- one of a rectangle's edges
abbrev pub face_of : {N : Type 0} → Face → Quad N → N
face_of of_face.Left q = q.left
face_of of_face.Top q = q.top
face_of of_face.Right q = q.right
face_of of_face.Bottom q = q.bottom

-- what an edge is worth where the names stand for these places; that of a name without a quantifier is 0
abbrev pub edge_value : Scene → List ℕ → Edge → ℤ
edge_value scene names of_edge.One = pos 1
edge_value scene names (of_edge.Name name ring face) =
    option_map_or (λ b. face_of face (ring_of ring b)) (named scene.boxes names name) (pos 0)
edge_value scene names of_edge.ViewWidth = scene.width
edge_value scene names of_edge.ViewHeight = scene.height
edge_value scene names of_edge.ViewSize = scene.size

abbrev pub summand_value : Scene → List ℕ → Summand → ℤ
summand_value scene names s = s.times *ℤ edge_value scene names s.edge

-- the sum of its parts
abbrev pub term_value : Scene → List ℕ → Term → ℤ
term_value scene names t = fold ◌+ℤ◌ (pos 0) (map (summand_value scene names) t.parts)

-- ---- comparisons

abbrev pub compares : Sign → ℤ → ℤ → Bool
compares of_sign.Lt x y = int_lt x y
compares of_sign.Le x y = int_le x y
compares of_sign.Eq x y = int_eq x y
compares of_sign.Ne x y = not (int_eq x y)
compares of_sign.Ge x y = int_le y x
compares of_sign.Gt x y = int_lt y x

-- each rectangle begins before the other ends, in both directions;
-- rectangles that aren't empty have an inner point in common then
abbrev pub do_overlap : Quad ℤ → Quad ℤ → Bool
do_overlap a b = int_lt a.left b.right && int_lt b.left a.right && int_lt a.top b.bottom && int_lt b.top a.bottom

-- the border rectangles of two boxes do; no box overlaps with one that is missing
abbrev pub boxes_overlap : Option (Placed ℤ) → Option (Placed ℤ) → Bool
boxes_overlap (Some a) (Some b) = do_overlap a.border b.border
boxes_overlap _ _ = false

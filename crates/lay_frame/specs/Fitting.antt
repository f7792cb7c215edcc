-- The exact values on the way to a box and its rectangles: a calc may
-- report a coefficient past its limit where one of them passes it.
use Rattle.std.specs.Prelude.{ℤ, pos, ◌+ℤ◌, List, [], ◌∷◌}
use Rattle.viz_base.specs.declared.layouts.Widths.{Widths}
use Rattle.viz_base.specs.declared.renderings.Quad.{Quad}
use Rattle.viz_calc.specs.State.{AllSmall}
use Rattle.layout_semantics.specs.Rectangles.{Frame, inset, outset, border_width, border_height}
use Rattle.layout_semantics.specs.Verticals.{Verticals}

-- to the top of its content
abbrev pub top_way : Frame → List ℤ
top_way f = (f.corner.y +ℤ f.v.border_top) ∷ (f.corner.y +ℤ f.v.border_top +ℤ f.v.padding_top) ∷ []

-- ---- rectangles

abbrev pub quad_way : Quad ℤ → List ℤ
quad_way q = q.left ∷ q.top ∷ q.right ∷ q.bottom ∷ []

abbrev pub width_way : Widths ℤ → List ℤ
width_way x =
    (x.border_left +ℤ x.padding_left)
    ∷ (x.border_left +ℤ x.padding_left +ℤ x.content)
    ∷ (x.border_left +ℤ x.padding_left +ℤ x.content +ℤ x.padding_right)
    ∷ border_width x
    ∷ []

abbrev pub tall_way : Verticals → ℤ → List ℤ
tall_way v content =
    (v.border_top +ℤ v.padding_top)
    ∷ (v.border_top +ℤ v.padding_top +ℤ content)
    ∷ (v.border_top +ℤ v.padding_top +ℤ content +ℤ v.padding_bottom)
    ∷ border_height v content
    ∷ []

abbrev pub AroundFits : Widths ℤ → Verticals → Quad ℤ → Type 0
AroundFits x v border =
    AllSmall (x.margin_left ∷ v.margin_top ∷ x.margin_right ∷ v.margin_bottom ∷ [])
    × (AllSmall (quad_way (outset border x.margin_left v.margin_top x.margin_right v.margin_bottom))
    × (AllSmall (x.border_left ∷ v.border_top ∷ x.border_right ∷ v.border_bottom ∷ [])
    × (AllSmall (quad_way (inset border x.border_left v.border_top x.border_right v.border_bottom))
    × (AllSmall ((x.border_left +ℤ x.padding_left) ∷ (v.border_top +ℤ v.padding_top)
    ∷ (x.border_right +ℤ x.padding_right) ∷ (v.border_bottom +ℤ v.padding_bottom) ∷ [])
    × AllSmall (quad_way
    (inset border (x.border_left +ℤ x.padding_left) (v.border_top +ℤ v.padding_top)
    (x.border_right +ℤ x.padding_right) (v.border_bottom +ℤ v.padding_bottom)))))))

-- the border box of a box with its content so high
abbrev pub border_of : Frame → ℤ → Quad ℤ
border_of f content = record {
  left = f.corner.x;
  top = f.corner.y;
  right = f.corner.x +ℤ border_width f.x;
  bottom = f.corner.y +ℤ border_height f.v content;
}

abbrev pub BorderFits : Frame → ℤ → Type 0
BorderFits f content =
    AllSmall (f.corner.x ∷ f.corner.y ∷ [])
    × (AllSmall (width_way f.x) × (AllSmall ((f.corner.x +ℤ border_width f.x) ∷ [])
    × (AllSmall (tall_way f.v content) × AllSmall ((f.corner.y +ℤ border_height f.v content) ∷ []))))

abbrev pub PlaceFits : Frame → ℤ → Type 0
PlaceFits f content = BorderFits f content × AroundFits f.x f.v (border_of f content)

-- a box whose height is not known yet
abbrev pub KeptFits : Frame → Type 0
KeptFits f = AllSmall (pos 0 ∷ []) × PlaceFits f (pos 0)

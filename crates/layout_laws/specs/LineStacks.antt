use Rattle.std.specs.Prelude.{◌≡◌, ℤ, ◌≤ℤ◌, List, [], ◌∷◌, ◌++◌, Bool, true, false}
use Rattle.std.specs.List.{flat_map, AllByRecursion}
use Rattle.viz_base.specs.declared.layouts.Entry.{Entry}
use Rattle.viz_base.specs.declared.layouts.Entry.TheVariants as of_entry
use Rattle.viz_base.specs.Trees.{is_line}
use Rattle.viz_base.specs.declared.renderings.Placed.{Placed}
use Rattle.viz_base.specs.declared.renderings.Quad.{Quad}
use Rattle.layout_semantics.specs.Floats.{FloatBox}

-- the rectangles of the line boxes among entries, in order
abbrev pub rectangle_if : Bool → Placed ℤ → List (Quad ℤ)
rectangle_if true p = p.border ∷ []
rectangle_if false p = []

abbrev pub line_rectangle : Entry ℤ → List (Quad ℤ)
line_rectangle (of_entry.Here p) = rectangle_if (is_line p.kind) p
line_rectangle (of_entry.Goes at spot) = []

abbrev pub line_rectangles : List (Entry ℤ) → List (Quad ℤ)
line_rectangles entries = flat_map line_rectangle entries

-- one below the other: the first from y on, each later one from the bottom
-- of the one before, and the last one's bottom is the end
abbrev pub IsStack : ℤ → List (Quad ℤ) → ℤ → Type 0
IsStack y [] end = y ≡ end
IsStack y (q ∷ qs) end = (y ≤ℤ q.top) × IsStack q.bottom qs end

-- floats after others, none of them with its top above `least`
pub record HasMoreFloats (least : ℤ) (before after : List FloatBox) : Type 0 where
  pub more : List FloatBox
  pub whole : after ≡ before ++ more
  pub low : AllByRecursion (λ (f : FloatBox). least ≤ℤ f.box.top) more

-- Bands and bottoms float by float.
use Rattle.std.specs.Prelude.{ℤ, Bool, true, false, cond, ◌&&◌, int_lt, List, [], ◌∷◌, Option}
use Rattle.std.specs.Int.{int_max, int_min}
use Rattle.viz_base.specs.declared.layouts.Band.{Band}
use Rattle.viz_base.specs.declared.styles.Clear.{Clear}
use Rattle.viz_base.specs.declared.styles.Clear.TheVariants as of_clear
use Rattle.viz_base.specs.declared.styles.Side.{Side}
use Rattle.viz_base.specs.declared.styles.Side.TheVariants as of_side
use Rattle.layout_semantics.specs.Floats.{FloatBox}
use Rattle.lay_float.specs.steps.Shelves.{tighter, facing, is_same_side}

-- whether a float meets the span between two heights
abbrev pub meets_between : ℤ → ℤ → FloatBox → Bool
meets_between y end f = int_lt f.box.top f.box.bottom && int_lt f.box.top end && int_lt y f.box.bottom

-- what is left of a band beside a float of a side, with this edge
abbrev pub narrowed : Side → ℤ → Band ℤ → Band ℤ
narrowed of_side.Left edge room = record { left = int_max edge room.left; right = room.right }
narrowed of_side.Right edge room = record { left = room.left; right = int_min edge room.right }

unfoldable pub room_beside : ℤ → ℤ → Band ℤ → FloatBox → Band ℤ
room_beside y end room f = cond (meets_between y end f) (narrowed f.side (facing f.side f.box) room) room

unfoldable pub room_from : ℤ → ℤ → List FloatBox → Band ℤ → Band ℤ
room_from y end [] room = room
room_from y end (f ∷ fs) room = room_from y end fs (room_beside y end room f)

-- whether `clear` looks at floats of a side
abbrev pub is_relevant_side : Clear → Side → Bool
is_relevant_side of_clear.Nothing side = false
is_relevant_side of_clear.Left side = is_same_side side of_side.Left
is_relevant_side of_clear.Right side = is_same_side side of_side.Right
is_relevant_side of_clear.Both side = true

-- the lower of a bottom and that of a float that `clear` looks at
unfoldable pub lower : Clear → Option ℤ → FloatBox → Option ℤ
lower clear best f = cond (is_relevant_side clear f.side) (tighter of_side.Left f.box.bottom best) best

unfoldable pub lowest_from : Clear → List FloatBox → Option ℤ → Option ℤ
lowest_from clear [] best = best
lowest_from clear (f ∷ fs) best = lowest_from clear fs (lower clear best f)

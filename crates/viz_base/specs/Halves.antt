-- The halves of a rectangle.
use Rattle.std.specs.Prelude.{ℕ, ◌+◌, ◌-◌, ◌/◌, nat_le, if◌then◌else◌}
use Rattle.viz_base.specs.declared.worlds.Axis.{Axis}
use Rattle.viz_base.specs.declared.worlds.Axis.TheVariants.{Width, Size, Height}
use Rattle.viz_base.specs.declared.worlds.Span.{Span}
use Rattle.viz_base.specs.declared.worlds.Rect.{Rect}
use Rattle.viz_base.specs.Worlds.{side_of, with_side}
use Rattle.viz_base.specs.declared.halves.Halves.{Halves}

-- the number in the middle of others, the lower one of two
abbrev pub middle : ℕ → ℕ → ℕ
middle least most = least + (most - least) / 2

-- the numbers of a side up to one, and those above it
abbrev pub up_to : Span → ℕ → Span
up_to side m = record { least = side.least; most = m }

abbrev pub above : Span → ℕ → Span
above side m = record { least = m + 1; most = side.most }

abbrev pub halves_at : Axis → Rect → ℕ → Halves
halves_at axis r m = record {
  axis = axis;
  middle = m;
  first = with_side axis r (up_to (side_of axis r) m);
  second = with_side axis r (above (side_of axis r) m);
}

-- how far it is from the first to the last number on an axis
abbrev pub length_on : Rect → Axis → ℕ
length_on r axis = (side_of axis r).most - (side_of axis r).least

-- of two axes the one on which there are more worlds in a row; of two with as many the first
abbrev pub longer_of : Rect → Axis → Axis → Axis
longer_of r first second = if nat_le (length_on r second) (length_on r first) then first else second

-- of all axes: of some with as many the width, or else the size
abbrev pub longest_axis : Rect → Axis
longest_axis r = longer_of r (longer_of r Width Size) Height

abbrev pub halved_on : Axis → Rect → Halves
halved_on axis r = halves_at axis r (middle (side_of axis r).least (side_of axis r).most)

-- on the longest side
abbrev pub halves_of : Rect → Halves
halves_of r = halved_on (longest_axis r) r

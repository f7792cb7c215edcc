-- Worlds and rectangles of worlds by axis.
use Rattle.std.specs.Prelude.{ℕ, ◌+◌, ◌-◌, ◌*◌, ◌≤◌}
use Rattle.viz_base.specs.declared.worlds.World.{World}
use Rattle.viz_base.specs.declared.worlds.Axis.{Axis}
use Rattle.viz_base.specs.declared.worlds.Axis.TheVariants.{Width, Size, Height}
use Rattle.viz_base.specs.declared.worlds.Span.{Span}
use Rattle.viz_base.specs.declared.worlds.Rect.{Rect}

-- the number that a world has on an axis
abbrev pub along : Axis → World → ℕ
along Width world = world.w
along Size world = world.s
along Height world = world.h

-- the numbers that a rectangle's worlds have on an axis
abbrev pub side_of : Axis → Rect → Span
side_of Width r = record { least = r.wl; most = r.wh }
side_of Size r = record { least = r.sl; most = r.sh }
side_of Height r = record { least = r.hl; most = r.hh }

-- the rectangle with other numbers on an axis
abbrev pub with_side : Axis → Rect → Span → Rect
with_side Width r side =
    record { wl = side.least; wh = side.most; sl = r.sl; sh = r.sh; hl = r.hl; hh = r.hh }
with_side Size r side =
    record { wl = r.wl; wh = r.wh; sl = side.least; sh = side.most; hl = r.hl; hh = r.hh }
with_side Height r side =
    record { wl = r.wl; wh = r.wh; sl = r.sl; sh = r.sh; hl = side.least; hh = side.most }

-- how many numbers a span has
abbrev pub span_count : Span → ℕ
span_count side = side.most + 1 - side.least

-- how many worlds a rectangle has
abbrev pub world_count : Rect → ℕ
world_count r =
    span_count (side_of Width r) * span_count (side_of Size r) * span_count (side_of Height r)

-- the world is in the range, both ends of each side included
pub record IsInRange (range : Rect) (world : World) : Type 0 where
  pub width_least : range.wl ≤ world.w
  pub width_most : world.w ≤ range.wh
  pub size_least : range.sl ≤ world.s
  pub size_most : world.s ≤ range.sh
  pub height_least : range.hl ≤ world.h
  pub height_most : world.h ≤ range.hh

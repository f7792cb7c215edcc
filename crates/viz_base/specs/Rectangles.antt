-- Rectangles of worlds, and what cuts leave of them.
use Rattle.std.specs.Prelude.{ℕ, ◌+◌, ◌≤◌, ℤ, pos, negsuc, nat_lt, nat_le, min, max, Option, Some, None, if◌then◌else◌}
use Rattle.std.specs.Option.{option_map}
use Rattle.viz_base.specs.declared.worlds.Rect.{Rect}
use Rattle.viz_base.specs.declared.worlds.Span.{Span}
use Rattle.viz_base.specs.Worlds.{side_of, with_side}
use Rattle.viz_base.specs.declared.rectangles.Child.{Child}
use Rattle.viz_base.specs.declared.rectangles.Child.TheVariants.{First, Second}
use Rattle.viz_base.specs.declared.rectangles.Opens.{Opens}
use Rattle.viz_base.specs.declared.rectangles.Opens.TheVariants.{Above, UpTo}
use Rattle.viz_base.specs.declared.rectangles.Cut.{Cut}

-- the rectangle has a world
pub record IsProper (r : Rect) : Type 0 where
  pub widths : r.wl ≤ r.wh
  pub sizes : r.sl ≤ r.sh
  pub heights : r.hl ≤ r.hh

-- each world of the inner rectangle is one of the outer
pub record IsWithin (outer inner : Rect) : Type 0 where
  pub width_least : outer.wl ≤ inner.wl
  pub width_most : inner.wh ≤ outer.wh
  pub size_least : outer.sl ≤ inner.sl
  pub size_most : inner.sh ≤ outer.sh
  pub height_least : outer.hl ≤ inner.hl
  pub height_most : inner.hh ≤ outer.hh

-- ---- cutting

-- the numbers of a side that are at most the bound
abbrev pub at_most : ℤ → Span → Option Span
at_most (pos b) side = if nat_le side.least b then Some (record { least = side.least; most = min b side.most })
    else None
at_most (negsuc b) side = None

-- those that are above it
abbrev pub above : ℤ → Span → Option Span
above (pos b) side = if nat_lt b side.most then Some (record { least = max (b + 1) side.least; most = side.most })
    else None
above (negsuc b) side = Some side

abbrev pub cut_side : Opens → ℤ → Span → Option Span
cut_side Above bound side = above bound side
cut_side UpTo bound side = at_most bound side

-- on which side of a cut's bound a child's worlds are
abbrev pub toward : Child → Opens → Opens
toward First opens = opens
toward Second Above = UpTo
toward Second UpTo = Above

-- the worlds of a rectangle that lie under a child of a split by a unit row
abbrev pub part_of : Cut → Child → Rect → Option Rect
part_of cut child r =
    option_map (with_side cut.axis r) (cut_side (toward child cut.opens) cut.bound (side_of cut.axis r))

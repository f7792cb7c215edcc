-- The worlds that are named on a screen, and the worlds and parts of a range that lines tell.
use Rattle.std.specs.Prelude.{ℕ, List, ◌++◌, unwrap_or}
use Rattle.std.specs.List.{flat_map}
use Rattle.viz_base.specs.declared.worlds.World.{World}
use Rattle.viz_base.specs.declared.worlds.Rect.{Rect}
use Rattle.viz_base.specs.declared.worlds.Axis.{Axis}
use Rattle.viz_base.specs.Worlds.{along, side_of}
use Rattle.cert_semantics.specs.Axes.{axes}
use Rattle.viz_replies.specs.declared.question.Screen.{Screen}
use Rattle.viz_replies.specs.Lines.{spaced}

-- the world of a screen's width, default font size and height, of the least height of the range where it has none
abbrev pub world_in : Screen → Rect → World
world_in screen range = record { w = screen.w; s = screen.s; h = unwrap_or screen.h range.hl }

-- a world as it is told of a job of this form: its width, its default font size, and in form 2 its height
abbrev pub spaced_world : ℕ → World → List ℕ
spaced_world form world = flat_map (λ axis. spaced (along axis world)) (axes form)

abbrev pub spaced_side : Rect → Axis → List ℕ
spaced_side part axis = spaced (side_of axis part).least ++ spaced (side_of axis part).most

-- a part of a range likewise: of each side the least and the greatest number
abbrev pub spaced_part : ℕ → Rect → List ℕ
spaced_part form part = flat_map (spaced_side part) (axes form)

use Rattle.std.proofs.Common.{◌≡◌, drop}
use Rattle.viz_calc.specs.World.{Reading}
use Rattle.std.specs.Prelude.{ℤ}
use Rattle.layout_semantics.specs.Fragments.{text_right}
use Rattle.lay_line.specs.Readings.{places_at}
use Rattle.lay_line.proofs.fragments.text_right.Given as goal

abbrev pub invariant-loop-place : goal.invariant-loop-place
invariant-loop-place g l = (read : _ → Reading → ℤ) (e : Reading) → text_right l.at (read l.right e) (places_at read (drop l.place-index l.after) e) ≡ text_right l.at (read l.start e) (places_at read l.after e)

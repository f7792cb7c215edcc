use Rattle.std.proofs.Common.{◌≡◌, drop, find}
use Rattle.viz_calc.specs.World.{Reading}
use Rattle.std.specs.Prelude.{ℤ}
use Rattle.layout_semantics.specs.Fragments.{is_end_of}
use Rattle.lay_line.specs.Readings.{places_at}
use Rattle.lay_line.proofs.fragments.find_end.Given as goal

abbrev pub invariant-loop-place : goal.invariant-loop-place
invariant-loop-place g l = (read : _ → Reading → ℤ) (e : Reading) → find (is_end_of l.at) (places_at read (drop l.place-index l.places) e) ≡ find (is_end_of l.at) (places_at read l.places e)

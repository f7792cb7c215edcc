use Rattle.std.proofs.Common.{◌≡◌, take}
use Rattle.std.specs.List.{flat_map}
use Rattle.viz_replies.specs.Print.{print_box}
use Rattle.viz_replies.proofs.printing.print.Given as goal

abbrev pub invariant-loop-placed : goal.invariant-loop-placed
invariant-loop-placed l = l.out.items ≡ flat_map print_box (take l.placed-index l.placed-items)

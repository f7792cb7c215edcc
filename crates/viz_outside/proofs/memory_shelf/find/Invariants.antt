use Rattle.std.proofs.Common.{◌≡◌, drop}
use Rattle.viz_outside.specs.MemoryShelf.{bytes_at}
use Rattle.viz_outside.proofs.memory_shelf.find.Given as goal

abbrev pub invariant-loop-own : goal.invariant-loop-own
invariant-loop-own l = bytes_at (drop l.own-index l.files) l.name ≡ bytes_at l.files l.name

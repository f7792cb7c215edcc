use Rattle.std.proofs.Common.{◌≡◌, ◌≤◌, ◌-◌, length, take}
use Rattle.viz_outside.specs.Sink.{grown}
use Rattle.viz_outside.proofs.sink.write_all.Given as goal

abbrev pub invariant-loop-done : goal.invariant-loop-done
invariant-loop-done g l = record {
  within : l.done ≤ length l.bytes;
  grows : g.K.Sink.written l.sink ≡ grown (g.K.Sink.written l.initial.sink) (take l.done l.bytes);
  counts : g.K.Sink.faults l.initial.sink ≤ g.K.Sink.faults l.sink;
  uncalled : l.done ≡ 0 → l.sink ≡ l.initial.sink;
}

abbrev pub decreases-loop-done : goal.decreases-loop-done
decreases-loop-done g l = length l.bytes - l.done

use Rattle.std.proofs.Common.{◌≡◌, ◌-◌}
use Rattle.cert_check.specs.steps.Worlds.{seek, first_of_size, first_of_width}
use Rattle.cert_check.proofs.look.first_of_width.Given as goal

abbrev pub invariant-loop-s : goal.invariant-loop-s
invariant-loop-s g l = seek (first_of_size (g.L.Look.passes l.fn.look) l.fn.rect l.fn.w) l.s (l.s-end - l.s) ≡ first_of_width (g.L.Look.passes l.fn.look) l.fn.rect l.fn.w

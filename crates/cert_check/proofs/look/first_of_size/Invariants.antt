use Rattle.std.proofs.Common.{◌≡◌, ◌-◌}
use Rattle.cert_check.specs.steps.Worlds.{seek, at_world, first_of_size}
use Rattle.cert_check.proofs.look.first_of_size.Given as goal

abbrev pub invariant-loop-h : goal.invariant-loop-h
invariant-loop-h g l = seek (at_world (g.L.Look.passes l.fn.look) l.fn.w l.fn.s) l.h (l.h-end - l.h) ≡ first_of_size (g.L.Look.passes l.fn.look) l.fn.rect l.fn.w l.fn.s

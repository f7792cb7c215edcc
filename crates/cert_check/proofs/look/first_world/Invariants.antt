use Rattle.std.proofs.Common.{◌≡◌, ◌-◌}
use Rattle.cert_check.specs.steps.Worlds.{seek, first_of_width, first_world}
use Rattle.cert_check.proofs.look.first_world.Given as goal

abbrev pub invariant-loop-w : goal.invariant-loop-w
invariant-loop-w g l = seek (first_of_width (g.L.Look.passes l.fn.look) l.fn.rect) l.w (l.w-end - l.w) ≡ first_world (g.L.Look.passes l.fn.look) l.fn.rect

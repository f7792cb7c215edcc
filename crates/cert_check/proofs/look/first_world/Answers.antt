use Rattle.std.proofs.Common.{◌+◌, ◌<◌, ◌≤◌, sym, ◌∙◌, arith}
use Rattle.std.proofs.lemmas.Bool.Decides.{nat_tests}
use Rattle.cert_check.specs.steps.Worlds.{first_of_width}
use Rattle.cert_check.proofs.Seeks.{seek-end, seek-next, seek-here}
use Rattle.cert_check.proofs.look.first_world.Goals as goal

pub returns-in-Some : goal.returns-in-Some
returns-in-Some t c =
    let w = c.loop-w.w in
    let end = c.args.rect.wh + 1 in
    let lt : w < end = grind (arith, nat_tests) in
    let found = sym {b = first_of_width (t.L.Look.passes c.args.look.now) c.args.rect w} c.in_ok-world.ensures ∙ c.in-Some.is in
    sym (seek-here (first_of_width (t.L.Look.passes c.args.look.now) c.args.rect) w end c.in-Some.world lt found) ∙ c.loop-w.invariant

pub loop-w-preserved : goal.loop-w-preserved
loop-w-preserved t c =
    let w = c.loop-w.w in
    let end = c.args.rect.wh + 1 in
    let lt : w < end = grind (arith, nat_tests) in
    let none = sym {b = first_of_width (t.L.Look.passes c.args.look.now) c.args.rect w} c.in_ok-world.ensures ∙ c.in_default.is in
    sym (seek-next (first_of_width (t.L.Look.passes c.args.look.now) c.args.rect) w end lt none) ∙ c.loop-w.invariant

pub returns : goal.returns
returns t c =
    let w = c.loop-w.w in
    let end = c.args.rect.wh + 1 in
    let ge : end ≤ w = grind (arith, nat_tests) in
    sym (seek-end (first_of_width (t.L.Look.passes c.args.look.now) c.args.rect) w end ge) ∙ c.loop-w.invariant

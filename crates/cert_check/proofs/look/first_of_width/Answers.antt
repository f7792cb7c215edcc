use Rattle.std.proofs.Common.{◌+◌, ◌<◌, ◌≤◌, sym, ◌∙◌, arith}
use Rattle.std.proofs.lemmas.Bool.Decides.{nat_tests}
use Rattle.cert_check.specs.steps.Worlds.{first_of_size}
use Rattle.cert_check.proofs.Seeks.{seek-end, seek-next, seek-here}
use Rattle.cert_check.proofs.look.first_of_width.Goals as goal

pub returns-in-Some : goal.returns-in-Some
returns-in-Some t c =
    let s = c.loop-s.s in
    let end = c.args.rect.sh + 1 in
    let lt : s < end = grind (arith, nat_tests) in
    let found = sym {b = first_of_size (t.L.Look.passes c.args.look.now) c.args.rect c.args.w s} c.in_ok-world.ensures ∙ c.in-Some.is in
    sym (seek-here (first_of_size (t.L.Look.passes c.args.look.now) c.args.rect c.args.w) s end c.in-Some.world lt found) ∙ c.loop-s.invariant

pub loop-s-preserved : goal.loop-s-preserved
loop-s-preserved t c =
    let s = c.loop-s.s in
    let end = c.args.rect.sh + 1 in
    let lt : s < end = grind (arith, nat_tests) in
    let none = sym {b = first_of_size (t.L.Look.passes c.args.look.now) c.args.rect c.args.w s} c.in_ok-world.ensures ∙ c.in_default.is in
    sym (seek-next (first_of_size (t.L.Look.passes c.args.look.now) c.args.rect c.args.w) s end lt none) ∙ c.loop-s.invariant

pub returns : goal.returns
returns t c =
    let s = c.loop-s.s in
    let end = c.args.rect.sh + 1 in
    let ge : end ≤ s = grind (arith, nat_tests) in
    sym (seek-end (first_of_size (t.L.Look.passes c.args.look.now) c.args.rect c.args.w) s end ge) ∙ c.loop-s.invariant

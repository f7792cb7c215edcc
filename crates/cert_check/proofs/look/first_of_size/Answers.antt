use Rattle.std.proofs.Common.{◌+◌, ◌<◌, ◌≤◌, sym, ◌∙◌, arith}
use Rattle.std.proofs.lemmas.Bool.Decides.{nat_tests}
use Rattle.cert_check.specs.steps.Worlds.{at_world}
use Rattle.cert_check.proofs.Seeks.{seek-end, seek-next, seek-here}
use Rattle.cert_check.proofs.FirstWorlds.{passes_here, fails_here}
use Rattle.cert_check.proofs.look.first_of_size.Goals as goal

pub returns-then-branch : goal.returns-then-branch
returns-then-branch t c =
    let h = c.loop-h.h in
    let end = c.args.rect.hh + 1 in
    let test = t.L.Look.passes c.args.look.now in
    let lt : h < end = grind (arith, nat_tests) in
    sym (seek-here (at_world test c.args.w c.args.s) h end (record { w = c.args.w; s = c.args.s; h = h }) lt (passes_here test c.args.w c.args.s h (sym c.in_ok-passes.ensures ∙ c.if-branch.true))) ∙ c.loop-h.invariant

pub loop-h-preserved : goal.loop-h-preserved
loop-h-preserved t c =
    let h = c.loop-h.h in
    let end = c.args.rect.hh + 1 in
    let test = t.L.Look.passes c.args.look.now in
    let lt : h < end = grind (arith, nat_tests) in
    sym (seek-next (at_world test c.args.w c.args.s) h end lt (fails_here test c.args.w c.args.s h (sym c.in_ok-passes.ensures ∙ c.if-branch.false))) ∙ c.loop-h.invariant

pub returns : goal.returns
returns t c =
    let h = c.loop-h.h in
    let end = c.args.rect.hh + 1 in
    let ge : end ≤ h = grind (arith, nat_tests) in
    sym (seek-end (at_world (t.L.Look.passes c.args.look.now) c.args.w c.args.s) h end ge) ∙ c.loop-h.invariant

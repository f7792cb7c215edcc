use Rattle.std.proofs.Common.{◌≡◌, ◌≢◌, ◌+◌, [], take, rules, sym, subst}
use Rattle.std.specs.List.{AllByRecursion}
use Rattle.viz_base.specs.declared.jobs.Job.{Job}
use Rattle.page_json.specs.Jobs.{raw_of}
use Rattle.page_build.specs.declared.faults.JobRefusal.TheVariants.{Mem}
use Rattle.page_build.specs.Jobs.{ArePartsOf, IsFirstPartRefused}
use Rattle.page_build.proofs.PartStages.{digests_more, first_part, parts_more, trees_of}
use Rattle.page_build.proofs.parts.all_parts.Goals as goal

pub loop-signs-init : goal.loop-signs-init
loop-signs-init c =
    let file = c.args.file.now in
    record {
      are = subst (ArePartsOf (raw_of file.raw) file.sheets.items file.features []) (sym c.new-jobs.ensures) ArePartsOf.nothing;
      digests = subst (AllByRecursion (λ (job : Job). job.digest ≡ file.digest)) (sym c.new-jobs.ensures) tt;
    }

pub returns-in_err-part-clause-given : goal.returns-in_err-part-clause-given
returns-in_err-part-clause-given c =
    let file = c.args.file.now in
    let refusal = c.in_err-part.field-0.0 in
    let k : (refusal ≢ Mem → IsFirstPartRefused (raw_of file.raw) file.sheets.items file.features c.args.parts.now refusal) = λ other.
    first_part (raw_of file.raw) file.sheets.items file.features c.args.parts.now c.loop-signs.signs-index c.signs-item.result refusal c.loop-signs-test.true c.signs-item.is
    (trees_of (raw_of file.raw) file.sheets.items file.features c.loop-signs.invariant.are) (c.in_err-part.ensures.given other) in
    search rules

pub loop-signs-preserved : goal.loop-signs-preserved
loop-signs-preserved c =
    let file = c.args.file.now in
    let i = c.loop-signs.signs-index in
    let job = c.in_ok-part.field-0 in
    record {
      are = subst (ArePartsOf (raw_of file.raw) file.sheets.items file.features (take (i + 1) c.args.parts.now)) (sym c.in_ok-push.ensures.ok)
          (parts_more (raw_of file.raw) file.sheets.items file.features c.args.parts.now i c.loop-signs.jobs c.signs-item.result job
          c.loop-signs-test.true c.signs-item.is c.loop-signs.invariant.are c.in_ok-part.ensures.given);
      digests = subst (AllByRecursion (λ (one : Job). one.digest ≡ file.digest)) (sym c.in_ok-push.ensures.ok)
          (digests_more file.digest c.loop-signs.jobs job c.loop-signs.invariant.digests c.in_ok-part.ensures.digest);
    }

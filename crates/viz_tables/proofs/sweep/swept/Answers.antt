use Rattle.std.proofs.Common.{◌∙◌, ap, subst}
use Rattle.viz_base.specs.declared.jobs.Job.{Job}
use Rattle.viz_tables.specs.Searches.{IsStretch}
use Rattle.viz_tables.proofs.Stretches.{swept_count, swept_inside, swept_right}
use Rattle.viz_tables.proofs.sweep.swept.Goals as goal

pub returns-then-stretch-job-clause-right : goal.returns-then-stretch-job-clause-right
returns-then-stretch-job-clause-right c =
    let before = c.loop-words.invariant in
    let stretch = c.in_ok-stretch.stretch in
    let found = subst (λ j. IsStretch j c.args.turns c.loop-words.start.w stretch) before.same c.in_ok-stretch.ensures.stretch in
    swept_right c.args.job.now c.args.turns c.loop-words.words c.push_words.new.words c.loop-words.start stretch before.count found c.in_ok-push_words.ensures before.right

pub loop-words-preserved : goal.loop-words-preserved
loop-words-preserved c =
    let job = c.args.job.now in
    let before = c.loop-words.invariant in
    let words = c.loop-words.words in
    let after = c.push_words.new.words in
    let start = c.loop-words.start in
    let stretch = c.in_ok-stretch.stretch in
    let same = c.next.ensures.same ∙ before.same in
    let found = subst (λ j. IsStretch j c.args.turns start.w stretch) before.same c.in_ok-stretch.ensures.stretch in
    let pushed = c.in_ok-push_words.ensures in
    record {
      same = same;
      inside = swept_inside job c.args.turns words after start stretch before.count found pushed c.next.new.job.range.wh (ap (λ (j : Job). j.range.wh) same) c.if-stretch-job.false;
      count = swept_count job c.args.turns words after start stretch before.count found pushed;
      right = swept_right job c.args.turns words after start stretch before.count found pushed before.right;
    }

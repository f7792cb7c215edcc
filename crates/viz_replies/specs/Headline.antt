-- What a reply tells of a job's assertion.
use Rattle.std.specs.Prelude.{◌≡◌, ℕ, List, ◌∷◌}
use Rattle.viz_base.specs.declared.jobs.Job.{Job}
use Rattle.viz_base.specs.declared.worlds.World.{World}
use Rattle.viz_replies.specs.Jobs.{SpellJobs}
use Rattle.viz_replies.specs.Replies.{violation_text}
use Rattle.viz_replies.specs.Trials.{trial_line, violated_end}
use Rattle.viz_replies.specs.Truths.{IsFalseThere}

-- the output names a world of the range, at which the assertion as it is written is false of the page's rendering, whom
-- the assertion blames there, and the boxes of that rendering
pub record IsFalseWherePrinted (bytes output : List ℕ) : Type 0 where
  pub world : World
  pub there : IsFalseThere bytes world
  pub printed : output ≡ violation_text there.job world

-- the output is the line of a trial of the jobs that the bytes spell, and names a world of the range, at which the
-- assertion as it is written is false of the page's rendering
pub record IsFalseWhereNamed (bytes output : List ℕ) : Type 0 where
  pub world : World
  pub there : IsFalseThere bytes world
  pub part : Job
  pub more : List Job
  pub spelled : SpellJobs bytes (part ∷ more)
  pub named : output ≡ trial_line part (violated_end world)

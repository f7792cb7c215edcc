-- What a run tells of the assertion of a job file.
use Rattle.std.specs.Prelude.{◌≡◌, ℕ, List, Option}
use Rattle.viz_outside.specs.Sink.{grown}
use Rattle.viz_replies.specs.Headline.{IsFalseWherePrinted}
use Rattle.viz_replies.specs.Jobs.{job_most}
use Rattle.viz_run.specs.Files.{IsGiven, Shelved}

-- the first load was of the file of the name, and the assertion of the job file that it gave is false, as it is
-- written, at a world of the range, which was written with the boxes there
pub record IsFalseOfFirst {F : Type 0} (shelf : Shelved F) (name : List ℕ) (old new : Option (List ℕ)) : Type 0 where
  pub bytes : List ℕ
  pub between : F
  pub given : IsGiven shelf name job_most shelf.old between bytes
  pub output : List ℕ
  pub untrue : IsFalseWherePrinted bytes output
  pub written : new ≡ grown old output

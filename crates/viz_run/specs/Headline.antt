-- What a run tells of the assertion of a job.
use Rattle.std.specs.Prelude.{◌≡◌, ℕ, List, Option, decimal}
use Rattle.viz_outside.specs.Sink.{grown}
use Rattle.viz_replies.specs.Generated.{job_text}
use Rattle.viz_replies.specs.Headline.{IsFalseWherePrinted, IsFalseWhereNamed}
use Rattle.viz_replies.specs.Truths.{IsTrueEverywhere}
use Rattle.viz_replies.specs.Jobs.{job_most}
use Rattle.viz_run.specs.Files.{Shelved, IsGiven}
use Rattle.viz_run.specs.Words.{word_at}

-- the first load was of the file of the name, and the assertion of the job file
-- that it gave is true, as it is written, at every world of the range
pub record IsTrueOfFile {F : Type 0} (shelf : Shelved F) (name : List ℕ) : Type 0 where
  pub bytes : List ℕ
  pub between : F
  pub given : IsGiven shelf name job_most shelf.old between bytes
  pub holds : IsTrueEverywhere bytes

-- the only load was of the file of the name, and the assertion of the job file that
-- it gave is false, as it is written, at a world of the range, which was written with
-- the boxes there
pub record IsFalseOfFile {F : Type 0} (shelf : Shelved F) (name : List ℕ) (old new : Option (List ℕ)) : Type 0 where
  pub bytes : List ℕ
  pub given : IsGiven shelf name job_most shelf.old shelf.new bytes
  pub output : List ℕ
  pub untrue : IsFalseWherePrinted bytes output
  pub written : new ≡ grown old output

-- the assertion of the job that the second word, its seed, and the third, its
-- number of sections, tell is true at every world of its range
pub record IsTrueOfGenerated (words : List (List ℕ)) : Type 0 where
  pub seed : ℕ
  pub seed_is : word_at words 1 ≡ decimal seed
  pub sections : ℕ
  pub sections_are : word_at words 2 ≡ decimal sections
  pub holds : IsTrueEverywhere (job_text seed sections)

-- its assertion is false at a world of its range, which was written
pub record IsFalseOfGenerated (words : List (List ℕ)) (old new : Option (List ℕ)) : Type 0 where
  pub seed : ℕ
  pub seed_is : word_at words 1 ≡ decimal seed
  pub sections : ℕ
  pub sections_are : word_at words 2 ≡ decimal sections
  pub output : List ℕ
  pub untrue : IsFalseWhereNamed (job_text seed sections) output
  pub written : new ≡ grown old output

-- What the loads of a run come to.
use Rattle.std.specs.Prelude.{ℕ, List, Bool, IsTrue}
use Rattle.viz_replies.specs.declared.jobs.JobsRead.{JobsRead}
use Rattle.viz_replies.specs.Jobs.{job_most}
use Rattle.viz_replies.specs.steps.Answers.{AreJobsRead}
use Rattle.viz_run.specs.declared.words.Command.{Command}
use Rattle.viz_run.specs.declared.words.Command.TheVariants as asks_for
use Rattle.viz_run.specs.Files.{Shelved, IsGiven}

-- the only load was of the file of the name, and gave these jobs, or bytes that spell none, with the reply about them
pub record IsJobFile {F : Type 0} (shelf : Shelved F) (name : List ℕ) (read : JobsRead) : Type 0 where
  pub bytes : List ℕ
  pub given : IsGiven shelf name job_most shelf.old shelf.new bytes
  pub reads : AreJobsRead bytes read

-- the job file of a command is sure to load, where it names one
abbrev pub IsSureJob : (List ℕ → Bool) → Command → Type 0
IsSureJob sure (asks_for.Lay job screen) = IsTrue (sure job.now)
IsSureJob sure (asks_for.Prove job turns) = IsTrue (sure job.now)
IsSureJob sure (asks_for.Check job cert) = IsTrue (sure job.now)
IsSureJob sure (asks_for.Gen seed sections) = Unit {0}
IsSureJob sure (asks_for.Trial seed sections turns) = Unit {0}

-- the certificate file of a command is sure to load, where it names one
abbrev pub IsSureCert : (List ℕ → Bool) → Command → Type 0
IsSureCert sure (asks_for.Lay job screen) = Unit {0}
IsSureCert sure (asks_for.Prove job turns) = Unit {0}
IsSureCert sure (asks_for.Check job cert) = IsTrue (sure cert.now)
IsSureCert sure (asks_for.Gen seed sections) = Unit {0}
IsSureCert sure (asks_for.Trial seed sections turns) = Unit {0}

-- a command names no file
abbrev pub IsFileless : Command → Type 0
IsFileless (asks_for.Gen seed sections) = Unit {0}
IsFileless (asks_for.Trial seed sections turns) = Unit {0}
IsFileless c = ⊥

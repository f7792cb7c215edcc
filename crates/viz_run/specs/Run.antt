-- How a run ends.
use Rattle.std.specs.Prelude.{◌≡◌, ◌≢◌, ◌⊎◌, ℕ, List, [], Option, Result, Err, codes}
use Rattle.viz_base.specs.Numbers.{Rose}
use Rattle.viz_outside.specs.declared.shelf.Loaded.{Loaded}
use Rattle.viz_outside.specs.declared.shelf.ShelfFault.{ShelfFault}
use Rattle.viz_outside.specs.declared.shelf.ShelfFault.TheVariants.{Failed}
use Rattle.viz_outside.specs.Sink.{grown, GrewByPart}
use Rattle.viz_replies.specs.declared.reply.Answer.{Answer}
use Rattle.viz_replies.specs.declared.reply.Answer.TheVariants as gives
use Rattle.viz_replies.specs.declared.question.Question.{Question}
use Rattle.viz_replies.specs.declared.question.Question.TheVariants as asks
use Rattle.viz_replies.specs.Jobs.{AreNoJobs, job_most}
use Rattle.viz_replies.specs.Certificates.{cert_most}
use Rattle.viz_replies.specs.Replies.{IsChecked, IsReply, IsReplyOnJobs, IsRefusal}
use Rattle.viz_replies.specs.Trials.{IsGenerated, IsTrial}
use Rattle.viz_run.specs.declared.status.File.{File}
use Rattle.viz_run.specs.declared.status.File.TheVariants as of_the
use Rattle.viz_run.specs.declared.status.Status.{Status}
use Rattle.viz_run.specs.declared.status.Status.TheVariants as ends
use Rattle.viz_run.specs.declared.words.Command.{Command}
use Rattle.viz_run.specs.declared.words.Command.TheVariants as asks_for
use Rattle.viz_run.specs.Words.{AskNothing, Asks}
use Rattle.viz_run.specs.Files.{Shelved, IsGiven, LoadsJob, LoadsBoth}

-- the number that the program ends with
abbrev pub code_of : Status → ℕ
code_of (ends.Replied gives.Done) = 0
code_of (ends.Replied gives.Violated) = 1
code_of ends.Usage = 2
code_of (ends.ReadFault file) = 3
code_of ends.WriteFault = 4
code_of (ends.Replied gives.JobRefused) = 5
code_of (ends.Replied gives.Undecided) = 6
code_of ends.Memory = 7
code_of (ends.Replied gives.CertRefused) = 8

-- ---- replies

-- the only load was of the job file of this name, and this is the reply to a question about the bytes that it gave
pub record IsReplyOfFile {F : Type 0} (shelf : Shelved F) (name : List ℕ) (question : Question) (answer : Answer)
    (output : List ℕ) : Type 0 where
  pub bytes : List ℕ
  pub given : IsGiven shelf name job_most shelf.old shelf.new bytes
  pub reply : IsReply bytes question answer output

-- from here on the only load was of the certificate file of this name, and this is the reply to
-- `check` about the bytes of a job file, which spell jobs, and the bytes that it gave
pub record IsCheckOfFile {F : Type 0} (shelf : Shelved F) (here : F) (cert bytes : List ℕ) (answer : Answer)
    (output : List ℕ) : Type 0 where
  pub cert_bytes : List ℕ
  pub given : IsGiven shelf cert cert_most here shelf.new cert_bytes
  pub reply : IsReplyOnJobs bytes (λ jobs. IsChecked jobs cert_bytes answer output)

-- the reply to `check` about the files of these names: the job file is loaded, and, where its bytes
-- spell jobs, the certificate file behind it
pub record IsCheckOfFiles {F : Type 0} (shelf : Shelved F) (job cert : List ℕ) (answer : Answer) (output : List ℕ)
    : Type 0 where
  pub bytes : List ℕ
  pub between : F
  pub given : IsGiven shelf job job_most shelf.old between bytes
  pub reply : ((shelf.new ≡ between) × IsRefusal (AreNoJobs bytes) answer output)
      ⊎ IsCheckOfFile shelf between cert bytes answer output

-- the reply to a command
abbrev pub IsReplied : {F : Type 0} → Shelved F → Command → Answer → List ℕ → Type 0
IsReplied shelf (asks_for.Lay job screen) answer output = IsReplyOfFile shelf job.now (asks.Lay screen) answer output
IsReplied shelf (asks_for.Prove job turns) answer output = IsReplyOfFile shelf job.now (asks.Prove turns) answer output
IsReplied shelf (asks_for.Check job cert) answer output = IsCheckOfFiles shelf job.now cert.now answer output
IsReplied shelf (asks_for.Gen seed sections) answer output = IsGenerated seed sections.count answer output
IsReplied shelf (asks_for.Trial seed sections turns) answer output = IsTrial seed sections.count turns answer output

-- the load that failed: that of the job file, the only one, or that of a certificate file, behind the job file, which
-- spells jobs; about a generated job no file is loaded
abbrev pub IsUnread : {F : Type 0} → Shelved F → Command → File → Type 0
IsUnread shelf (asks_for.Lay job screen) of_the.Job = LoadsJob shelf job.now (Err Failed)
IsUnread shelf (asks_for.Prove job turns) of_the.Job = LoadsJob shelf job.now (Err Failed)
IsUnread shelf (asks_for.Check job cert) of_the.Job = LoadsJob shelf job.now (Err Failed)
IsUnread shelf (asks_for.Check job cert) of_the.Certificate = LoadsBoth shelf job.now cert.now (Err Failed)
IsUnread shelf c file = ⊥

-- the loads before memory was wanted, and in the last of them: the job file's alone, or for `check` the certificate
-- file's behind the job file's, which spells jobs; none about a generated job
abbrev pub IsLoaded : {F : Type 0} → Shelved F → Command → Type 0
IsLoaded shelf (asks_for.Lay job screen) = (answer : Result Loaded ShelfFault) × LoadsJob shelf job.now answer
IsLoaded shelf (asks_for.Prove job turns) = (answer : Result Loaded ShelfFault) × LoadsJob shelf job.now answer
IsLoaded shelf (asks_for.Check job cert) = (answer : Result Loaded ShelfFault)
    × (LoadsJob shelf job.now answer ⊎ LoadsBoth shelf job.now cert.now answer)
IsLoaded shelf (asks_for.Gen seed sections) = shelf.new ≡ shelf.old
IsLoaded shelf (asks_for.Trial seed sections turns) = shelf.new ≡ shelf.old

-- ---- output

-- a sink before and after, and what one tells of its bytes and its faults
pub record Sunk (S : Type 0) : Type 0 where
  pub written : S → Option (List ℕ)
  pub faults : S → ℕ
  pub old : S
  pub new : S

-- the whole output was written, in no call where it is empty
pub record IsWritten {S : Type 0} (sink : Sunk S) (output : List ℕ) : Type 0 where
  pub whole : sink.written sink.new ≡ grown (sink.written sink.old) output
  pub uncalled : output ≡ [] → sink.new ≡ sink.old

-- the sink failed in this call, with a prefix of the output written, which was not empty
pub record IsCutShort {S : Type 0} (sink : Sunk S) (output : List ℕ) : Type 0 where
  pub failed : Rose (sink.faults sink.old) (sink.faults sink.new)
  pub part : GrewByPart (sink.written sink.old) (sink.written sink.new) output
  pub something : output ≢ []

-- a call ends so, with the whole output written, or with the fault, the sink having failed
abbrev pub Ends : {S T : Type 0} → (fault : T) → Sunk S → (result wanted : T) → List ℕ → Type 0
Ends fault sink result wanted output =
    ((result ≡ wanted) × IsWritten sink output) ⊎ ((result ≡ fault) × IsCutShort sink output)

-- the status is this one, with the whole output written, or the sink failed
abbrev pub Delivers : {S : Type 0} → Sunk S → Status → Status → List ℕ → Type 0
Delivers sink result status output = Ends ends.WriteFault sink result status output

-- ---- runs

-- a command was replied to
abbrev pub Replies : {F S : Type 0} → Shelved F → Command → Sunk S → Status → Type 0
Replies shelf c sink result =
    (answer : Answer) × (output : List ℕ) × IsReplied shelf c answer output
    × Delivers sink result (ends.Replied answer) output

-- a file could not be read
abbrev pub Misses : {F S : Type 0} → Shelved F → Command → Sunk S → Status → Type 0
Misses shelf c sink result = (file : File) × IsUnread shelf c file
    × Delivers sink result (ends.ReadFault file) (codes "read-fault\n")

-- memory was wanted, and the sink was not called
abbrev pub Wants : {F S : Type 0} → Shelved F → Command → Sunk S → Status → Type 0
Wants shelf c sink result = (result ≡ ends.Memory) × (sink.new ≡ sink.old) × IsLoaded shelf c

-- a command was replied to, or a file could not be read, or memory was wanted
abbrev pub Obeys : {F S : Type 0} → Shelved F → Command → Sunk S → Status → Type 0
Obeys shelf c sink result = Replies shelf c sink result ⊎ (Misses shelf c sink result ⊎ Wants shelf c sink result)

-- how a run ends: words of no form are answered by one line, with no load, and a command is replied to
abbrev pub IsOutcome : {F S : Type 0} → Shelved F → List (List ℕ) → Sunk S → Status → Type 0
IsOutcome shelf words sink result =
    (AskNothing words × (shelf.new ≡ shelf.old) × Delivers sink result ends.Usage (codes "usage\n"))
    ⊎ ((c : Command) × Asks words c × Obeys shelf c sink result)

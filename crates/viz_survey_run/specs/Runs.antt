-- What a run comes to.
use Rattle.std.specs.Prelude.{◌≡◌, ◌⊎◌, ℕ, ◌≤◌, List, length, Result, Err, codes}
use Rattle.viz_outside.specs.declared.shelf.Loaded.{Loaded}
use Rattle.viz_outside.specs.declared.shelf.ShelfFault.{ShelfFault}
use Rattle.viz_outside.specs.declared.shelf.ShelfFault.TheVariants.{Failed}
use Rattle.viz_replies.specs.declared.reply.Answer.{Answer}
use Rattle.viz_replies.specs.Jobs.{IsTooLong, job_most}
use Rattle.viz_run.specs.Files.{IsGiven, LoadsJob, Shelved}
use Rattle.viz_run.specs.Run.{Ends, Sunk}
use Rattle.viz_renew.specs.Kept.{IsReplyToKept}
use Rattle.viz_renew.specs.Renewals.{IsReplyToRenew}
use Rattle.viz_tables.specs.declared.table.TableAnswer.{TableAnswer}
use Rattle.viz_tables.specs.Lines.{long_list_line}
use Rattle.viz_tables.specs.Tables.{IsReplyToTable}
use Rattle.viz_survey_run.specs.declared.status.SurveyAnswer.{SurveyAnswer}
use Rattle.viz_survey_run.specs.declared.status.SurveyAnswer.TheVariants.{CertRefused, JobRefused, ListRefused}
use Rattle.viz_survey_run.specs.declared.status.SurveyStatus.{SurveyStatus}
use Rattle.viz_survey_run.specs.declared.status.SurveyStatus.TheVariants as ends
use Rattle.viz_survey_run.specs.declared.words.Command.{Command}
use Rattle.viz_survey_run.specs.declared.words.Request.{Request}
use Rattle.viz_survey_run.specs.declared.words.Request.TheVariants.{Table, Kept, Renew}
use Rattle.viz_survey_run.specs.Statuses.{answer_of_reply, answer_of_table}
use Rattle.viz_survey_run.specs.Words.{AskNothing, Asks, cap_of}

-- ---- replies

-- what is replied about the bytes of a job file and of a second file
abbrev pub IsReplyTo : Request → (job other : List ℕ) → SurveyAnswer → List ℕ → Type 0
IsReplyTo (Table turns) job other answer output =
    (told : TableAnswer) × (answer ≡ answer_of_table told) × IsReplyToTable job other turns told output
IsReplyTo Kept job other answer output =
    (told : Answer) × (answer ≡ answer_of_reply told) × IsReplyToKept job other told output
IsReplyTo (Renew turns) job other answer output =
    (told : Answer) × (answer ≡ answer_of_reply told) × IsReplyToRenew job other turns told output

-- what that is where the second file has more bytes than it may
abbrev pub long_answer : Request → SurveyAnswer
long_answer (Table turns) = ListRefused
long_answer Kept = CertRefused
long_answer (Renew turns) = CertRefused

abbrev pub long_text : Request → List ℕ
long_text (Table turns) = long_list_line
long_text Kept = codes "rejected too-long\n"
long_text (Renew turns) = codes "rejected too-long\n"

-- ---- files

-- the first load was of the job file, and gave bytes that are not too many; the second, and last, was of the other
-- file, and answered so
pub record LoadsOther {F : Type 0} (shelf : Shelved F) (c : Command) (answer : Result Loaded ShelfFault) : Type 0 where
  pub bytes : List ℕ
  pub short : length bytes ≤ job_most
  pub between : F
  pub given : IsGiven shelf c.job.now job_most shelf.old between bytes
  pub second : shelf.loads between c.other.now (cap_of c.request) answer shelf.new

-- the last load answered so, and it was of the job file or of the other file behind that
abbrev pub LoadsLast : {F : Type 0} → Shelved F → Command → Result Loaded ShelfFault → Type 0
LoadsLast shelf c answer = LoadsJob shelf c.job.now answer ⊎ LoadsOther shelf c answer

-- the only load was of the job file, which has too many bytes
pub record IsOfLongJob {F : Type 0} (shelf : Shelved F) (c : Command) (answer : SurveyAnswer) (output : List ℕ)
    : Type 0 where
  pub bytes : List ℕ
  pub given : IsGiven shelf c.job.now job_most shelf.old shelf.new bytes
  pub long : IsTooLong bytes output
  pub answer_is : answer ≡ JobRefused

-- from here on the only load was of the other file, and this is the reply about the bytes of a job file and those
-- that it gave
pub record IsOfOther {F : Type 0} (shelf : Shelved F) (here : F) (c : Command) (bytes : List ℕ)
    (answer : SurveyAnswer) (output : List ℕ) : Type 0 where
  pub other_bytes : List ℕ
  pub other_given : IsGiven shelf c.other.now (cap_of c.request) here shelf.new other_bytes
  pub reply : IsReplyTo c.request bytes other_bytes answer output

-- the first load was of the job file, which has not too many bytes, and the second of the other file, whatever the job
-- file says
pub record IsOfBoth {F : Type 0} (shelf : Shelved F) (c : Command) (answer : SurveyAnswer) (output : List ℕ)
    : Type 0 where
  pub bytes : List ℕ
  pub short : length bytes ≤ job_most
  pub between : F
  pub given : IsGiven shelf c.job.now job_most shelf.old between bytes
  pub of_other : IsOfOther shelf between c bytes answer output

-- the reply to a command
abbrev pub IsReplied : {F : Type 0} → Shelved F → Command → SurveyAnswer → List ℕ → Type 0
IsReplied shelf c answer output = IsOfLongJob shelf c answer output ⊎ IsOfBoth shelf c answer output

-- ---- runs

-- the status is this one, with the whole output written, or the sink failed
abbrev pub Delivers : {S : Type 0} → Sunk S → SurveyStatus → SurveyStatus → List ℕ → Type 0
Delivers sink result status output = Ends ends.WriteFault sink result status output

-- a command was replied to
abbrev pub Replies : {F S : Type 0} → Shelved F → Command → Sunk S → SurveyStatus → Type 0
Replies shelf c sink result = (answer : SurveyAnswer) × (output : List ℕ) × IsReplied shelf c answer output
    × Delivers sink result (ends.Replied answer) output

-- a file could not be read
abbrev pub Misses : {F S : Type 0} → Shelved F → Command → Sunk S → SurveyStatus → Type 0
Misses shelf c sink result = LoadsLast shelf c (Err Failed) × Delivers sink result ends.ReadFault (codes "read-fault\n")

-- memory was wanted, and the sink was not called
abbrev pub Wants : {F S : Type 0} → Shelved F → Command → Sunk S → SurveyStatus → Type 0
Wants shelf c sink result = (result ≡ ends.Memory) × (sink.new ≡ sink.old)
    × (answer : Result Loaded ShelfFault) × LoadsLast shelf c answer

abbrev pub Obeys : {F S : Type 0} → Shelved F → Command → Sunk S → SurveyStatus → Type 0
Obeys shelf c sink result = Replies shelf c sink result ⊎ (Misses shelf c sink result ⊎ Wants shelf c sink result)

-- how a run ends: words of no form are answered by one line, with no load, and a command is replied to
abbrev pub IsOutcome : {F S : Type 0} → Shelved F → List (List ℕ) → Sunk S → SurveyStatus → Type 0
IsOutcome shelf words sink result =
    (AskNothing words × (shelf.new ≡ shelf.old) × Delivers sink result ends.Usage (codes "usage\n"))
    ⊎ ((c : Command) × Asks words c × Obeys shelf c sink result)

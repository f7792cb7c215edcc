-- How a run ends.
use Rattle.std.specs.Prelude.{ℕ}
use Rattle.viz_replies.specs.declared.reply.Answer.{Answer}
use Rattle.viz_replies.specs.declared.reply.Answer.TheVariants as gives
use Rattle.viz_tables.specs.declared.table.TableAnswer.{TableAnswer}
use Rattle.viz_tables.specs.declared.table.TableAnswer.TheVariants as tells
use Rattle.viz_survey_run.specs.declared.status.SurveyAnswer.{SurveyAnswer}
use Rattle.viz_survey_run.specs.declared.status.SurveyAnswer.TheVariants.{Done, Violated, JobRefused, Undecided, CertRefused, ListRefused}
use Rattle.viz_survey_run.specs.declared.status.SurveyStatus.{SurveyStatus}
use Rattle.viz_survey_run.specs.declared.status.SurveyStatus.TheVariants as ends

-- the same answer among those of this program
abbrev pub answer_of_reply : Answer → SurveyAnswer
answer_of_reply gives.Done = Done
answer_of_reply gives.Violated = Violated
answer_of_reply gives.JobRefused = JobRefused
answer_of_reply gives.Undecided = Undecided
answer_of_reply gives.CertRefused = CertRefused

abbrev pub answer_of_table : TableAnswer → SurveyAnswer
answer_of_table tells.Done = Done
answer_of_table tells.Undecided = Undecided
answer_of_table tells.JobRefused = JobRefused
answer_of_table tells.ListRefused = ListRefused

-- the number that the program ends with
abbrev pub code_of : SurveyStatus → ℕ
code_of (ends.Replied Done) = 0
code_of (ends.Replied Violated) = 1
code_of ends.Usage = 2
code_of ends.ReadFault = 3
code_of ends.WriteFault = 4
code_of (ends.Replied JobRefused) = 5
code_of (ends.Replied Undecided) = 6
code_of ends.Memory = 7
code_of (ends.Replied CertRefused) = 8
code_of (ends.Replied ListRefused) = 9

-- What the loads of both files come to.
use Rattle.std.proofs.Common.{◌≡◌, ℕ, ◌<◌, ◌≤◌, List, length, refl, inl, inr}
use Rattle.viz_replies.specs.declared.reply.Answer.TheVariants as gives
use Rattle.viz_replies.specs.Jobs.{job_most}
use Rattle.viz_tables.specs.declared.table.TableAnswer.TheVariants as tells
use Rattle.viz_survey_run.specs.declared.status.SurveyAnswer.{SurveyAnswer}
use Rattle.viz_survey_run.specs.declared.words.Request.{Request}
use Rattle.viz_survey_run.specs.declared.words.Request.TheVariants.{Table, Kept, Renew}
use Rattle.viz_survey_run.specs.Words.{cap_of}
use Rattle.viz_survey_run.specs.Runs.{IsReplyTo, long_answer, long_text}

-- a second file that is longer than it may be gets this reply
pub long_replies : (request : Request) (job other : List ℕ) (answer : SurveyAnswer) (output : List ℕ) → length job ≤ job_most → cap_of request < length other
    → answer ≡ long_answer request → output ≡ long_text request → IsReplyTo request job other answer output
long_replies (Table turns) job other answer output short long is text = (tells.ListRefused, is, inr (inl (record { short = short; long = long; answer_is = refl; text = text })))
long_replies Kept job other answer output short long is text = (gives.CertRefused, is, inr (inr (inl (record { short_job = short; why = record { long = long; line = text }; answer_is = refl }))))
long_replies (Renew turns) job other answer output short long is text = (gives.CertRefused, is, inr (inr (inl (record { short_job = short; why = record { long = long; line = text }; answer_is = refl }))))

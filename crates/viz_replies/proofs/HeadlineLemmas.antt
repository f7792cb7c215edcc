-- What a reply tells of a job's assertion.
use Rattle.std.proofs.Common.{◌≡◌, inl, inr, ℕ, List, ◌∷◌}
use Rattle.std.specs.List.{AllByRecursion}
use Rattle.viz_base.specs.declared.jobs.Job.{Job}
use Rattle.cert_text.specs.declared.certificate.Cert.{Cert}
use Rattle.cert_check.specs.Truths.{Holds}
use Rattle.cert_file.specs.Files.{AllPass}
use Rattle.viz_replies.specs.declared.reply.Answer.{Answer}
use Rattle.viz_replies.specs.declared.reply.Answer.TheVariants as ends
use Rattle.viz_replies.specs.declared.question.Question.{Question}
use Rattle.viz_replies.specs.declared.question.Question.TheVariants as asks
use Rattle.viz_replies.specs.Laws.{OneJobThere, PartsAreTrueThere, PartsHold}
use Rattle.viz_replies.specs.Truths.{IsTrueEverywhere}
use Rattle.viz_replies.specs.Replies.{IsChecked, IsReply, IsReplyAbout, IsReplyOnJobs}
use Rattle.viz_replies.specs.Trials.{IsTrialOn, IsTrialOnJobs}
use Rattle.viz_replies.specs.Headline.{IsFalseWherePrinted, IsFalseWhereNamed}
use Rattle.viz_replies.proofs.ReplyLemmas.{false_there}
use Rattle.viz_replies.proofs.SearchLemmas.{proofs_hold}

-- jobs whose certificates pass hold
pub pass_hold : {jobs : List Job} {certs : List Cert} → AllPass jobs certs → AllByRecursion Holds jobs
pass_hold AllPass.nothing = tt
pass_hold (AllPass.first h hs) = (h.holds, pass_hold hs)

-- ---- bytes

-- certificates that are accepted for the jobs that bytes spell
pub accepted_everywhere : PartsHold → (bytes cert output : List ℕ) → IsReplyOnJobs bytes (λ jobs. IsChecked jobs cert ends.Done output) → IsTrueEverywhere bytes
accepted_everywhere law bytes cert output h = (law bytes h.jobs h.spelled).1 (pass_hold h.reply.accepted.pass)

-- a reply with an answer other than a refusal is about what the bytes spell
about : (bytes : List ℕ) (question : Question) (answer wanted : Answer) (output : List ℕ) → IsReply bytes question answer output
    → answer ≡ wanted → (wanted ≡ ends.JobRefused → ⊥) → IsReplyAbout bytes question wanted output
about bytes question answer wanted output (inl reply) is other = rw is at reply
about bytes question answer wanted output (inr refusal) is other = absurd (other (let same = refusal.refused in cc))

pub accepts : PartsHold → (bytes cert : List ℕ) (question : Question) (answer : Answer) (output : List ℕ) → IsReply bytes question answer output
    → question ≡ asks.Check cert → answer ≡ ends.Done → IsTrueEverywhere bytes
accepts law bytes cert question answer output reply asked is =
    accepted_everywhere law bytes cert output (about bytes (asks.Check cert) answer ends.Done output (rw asked at reply) is (λ e. absurd (cc)))

pub proves_true : PartsHold → (bytes : List ℕ) (turns : ℕ) (question : Question) (answer : Answer) (output : List ℕ) → IsReply bytes question answer output
    → question ≡ asks.Prove turns → answer ≡ ends.Done → IsTrueEverywhere bytes
proves_true law bytes turns question answer output reply asked is =
    let found = about bytes (asks.Prove turns) answer ends.Done output (rw asked at reply) is (λ e. absurd (cc)) in
    (law bytes found.jobs found.spelled).1 (proofs_hold turns _ found.reply)

printed : (bytes : List ℕ) (question : Question) (output : List ℕ) → IsReplyAbout bytes question ends.Violated output → IsFalseWherePrinted bytes output
printed bytes (asks.Lay screen) output reply = absurd reply
printed bytes (asks.Prove turns) output reply = record { world = reply.world; there = reply.there; printed = reply.text }
printed bytes (asks.Check cert) output reply = absurd reply.reply

pub violates : (bytes : List ℕ) (question : Question) (answer : Answer) (output : List ℕ) → IsReply bytes question answer output
    → answer ≡ ends.Violated → IsFalseWherePrinted bytes output
violates bytes question answer output reply is = printed bytes question output (about bytes question answer ends.Violated output reply is (λ e. absurd (cc)))

-- ---- trials

-- a reply with an answer other than a refusal is that of the trial of the jobs that the bytes spell
on_jobs : (bytes : List ℕ) (turns : ℕ) (answer wanted : Answer) (output : List ℕ) → IsTrialOn bytes turns answer output
    → answer ≡ wanted → (wanted ≡ ends.JobRefused → ⊥) → IsTrialOnJobs bytes turns wanted output
on_jobs bytes turns answer wanted output (inl reply) is other = rw is at reply
on_jobs bytes turns answer wanted output (inr refusal) is other = absurd (other (let same = refusal.refused in cc))

pub trial_proves : PartsHold → (bytes : List ℕ) (turns : ℕ) (answer : Answer) (output : List ℕ) → IsTrialOn bytes turns answer output
    → answer ≡ ends.Done → IsTrueEverywhere bytes
trial_proves law bytes turns answer output reply is =
    let found = on_jobs bytes turns answer ends.Done output reply is (λ e. absurd (cc)) in
    (law bytes (found.job ∷ found.more) found.spelled).1 (proofs_hold turns _ found.trial.proofs)

pub trial_violates : PartsAreTrueThere → OneJobThere → (bytes : List ℕ) (turns : ℕ) (answer : Answer) (output : List ℕ) → IsTrialOn bytes turns answer output
    → answer ≡ ends.Violated → IsFalseWhereNamed bytes output
trial_violates parts one bytes turns answer output reply is =
    let found = on_jobs bytes turns answer ends.Violated output reply is (λ e. absurd (cc)) in
    record {
      world = found.trial.world;
      there = false_there parts one bytes (found.job ∷ found.more) turns found.trial.world found.spelled found.trial.found;
      part = found.job;
      more = found.more;
      spelled = found.spelled;
      named = found.trial.text;
    }

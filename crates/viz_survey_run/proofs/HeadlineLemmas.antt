-- What the outcome of a run tells of a job's assertion.
use Rattle.std.proofs.Common.{◌≡◌, ◌∙◌, inl, inr, ℕ, List, Option, codes, get_or, arith, ap, refl, sym}
use Rattle.viz_outside.specs.Sink.{grown}
use Rattle.viz_replies.specs.declared.reply.Answer.{Answer}
use Rattle.viz_replies.specs.declared.reply.Answer.TheVariants as gives
use Rattle.viz_replies.specs.Headline.{IsFalseWherePrinted}
use Rattle.viz_replies.specs.Laws.{PartsHold}
use Rattle.viz_replies.specs.Truths.{IsTrueEverywhere}
use Rattle.viz_run.specs.Files.{Shelved}
use Rattle.viz_run.specs.Headline.{IsTrueOfFile}
use Rattle.viz_run.specs.Run.{IsWritten, Sunk}
use Rattle.viz_run.specs.Words.{word_at}
use Rattle.viz_renew.proofs.RenewLemmas.{renews_false, renews_true}
use Rattle.viz_survey_run.specs.declared.status.SurveyAnswer.{SurveyAnswer}
use Rattle.viz_survey_run.specs.declared.status.SurveyAnswer.TheVariants as answers
use Rattle.viz_survey_run.specs.declared.status.SurveyStatus.{SurveyStatus}
use Rattle.viz_survey_run.specs.declared.status.SurveyStatus.TheVariants as ends
use Rattle.viz_survey_run.specs.declared.words.Command.{Command}
use Rattle.viz_survey_run.specs.declared.words.Request.{Request}
use Rattle.viz_survey_run.specs.declared.words.Request.TheVariants.{Table, Kept, Renew}
use Rattle.viz_survey_run.specs.Headline.{IsFalseOfFirst}
use Rattle.viz_survey_run.specs.Runs.{IsOutcome, IsReplied, IsReplyTo, Obeys}
use Rattle.viz_survey_run.specs.Statuses.{answer_of_reply}
use Rattle.viz_survey_run.specs.Words.{Asks, verb_of}

-- ---- words

-- the letter with which the first word begins: each request has its own
abbrev letter : Request → ℕ
letter (Table turns) = 116
letter Kept = 107
letter (Renew turns) = 114

abbrev first_letter : List (List ℕ) → ℕ
first_letter words = get_or (word_at words 0) 0 0

verb_letter : (request : Request) → get_or (verb_of request) 0 0 ≡ letter request
verb_letter (Table turns) = refl
verb_letter Kept = refl
verb_letter (Renew turns) = refl

renew_letter : (words : List (List ℕ)) (c : Command) → Asks words c → word_at words 0 ≡ codes "renew" → letter c.request ≡ 114
renew_letter words c asks is = sym (verb_letter c.request) ∙ (sym (ap first_letter asks.words_are) ∙ ap (λ word. get_or word 0 0) is)

-- ---- replies

done_is : (told : Answer) → answers.Done ≡ answer_of_reply told → told ≡ gives.Done
done_is gives.Done is = refl
done_is gives.Violated is = absurd (cc)
done_is gives.JobRefused is = absurd (cc)
done_is gives.Undecided is = absurd (cc)
done_is gives.CertRefused is = absurd (cc)

violated_is : (told : Answer) → answers.Violated ≡ answer_of_reply told → told ≡ gives.Violated
violated_is gives.Done is = absurd (cc)
violated_is gives.Violated is = refl
violated_is gives.JobRefused is = absurd (cc)
violated_is gives.Undecided is = absurd (cc)
violated_is gives.CertRefused is = absurd (cc)

module _ (bytes other output : List ℕ) where
  true_by : PartsHold → (request : Request) → letter request ≡ 114 → IsReplyTo request bytes other answers.Done output → IsTrueEverywhere bytes
  true_by law (Table turns) verb reply = absurd (omega arith)
  true_by law Kept verb reply = absurd (omega arith)
  true_by law (Renew turns) verb (told, same, reply) = renews_true bytes turns told output law other reply (done_is told same)

  false_by : (request : Request) → letter request ≡ 114 → IsReplyTo request bytes other answers.Violated output → IsFalseWherePrinted bytes output
  false_by (Table turns) verb reply = absurd (omega arith)
  false_by Kept verb reply = absurd (omega arith)
  false_by (Renew turns) verb (told, same, reply) = renews_false bytes turns told output other reply (violated_is told same)

module _ {F : Type 0} (shelf : Shelved F) (c : Command) (words : List (List ℕ)) (output : List ℕ) (asks : Asks words c) (verb : letter c.request ≡ 114) where
  true_of_file : PartsHold → IsReplied shelf c answers.Done output → IsTrueOfFile shelf (word_at words 1)
  true_of_file law (inl long) = let same = long.answer_is in absurd (cc)
  true_of_file law (inr both) =
      let name = ap (λ ws. word_at ws 1) asks.words_are in
      let holds = true_by both.bytes both.of_other.other_bytes output law c.request verb both.of_other.reply in
      rw name (record { bytes = both.bytes; between = both.between; given = both.given; holds = holds })

  false_of_first : (old new : Option (List ℕ)) → IsReplied shelf c answers.Violated output → new ≡ grown old output → IsFalseOfFirst shelf (word_at words 1) old new
  false_of_first old new (inl long) written = let same = long.answer_is in absurd (cc)
  false_of_first old new (inr both) written =
      let name = ap (λ ws. word_at ws 1) asks.words_are in
      let untrue = false_by both.bytes both.of_other.other_bytes output c.request verb both.of_other.reply in
      rw name (record { bytes = both.bytes; between = both.between; given = both.given; output = output; untrue = untrue; written = written })

-- ---- runs

-- a run that ends with an answer wrote the output that goes with it
replied : {F S : Type 0} (shelf : Shelved F) (c : Command) (sink : Sunk S) (result : SurveyStatus) (wanted : SurveyAnswer) → Obeys shelf c sink result
    → result ≡ ends.Replied wanted → (output : List ℕ) × IsReplied shelf c wanted output × IsWritten sink output
replied shelf c sink result wanted (inl (answer, output, reply, inl (ended, written))) is =
    let same : answer ≡ wanted = cc in
    (output, rw same at reply, written)
replied shelf c sink result wanted (inl (answer, output, reply, inr (ended, cut))) is = absurd (cc)
replied shelf c sink result wanted (inr (inl (unread, inl (ended, written)))) is = absurd (cc)
replied shelf c sink result wanted (inr (inl (unread, inr (ended, cut)))) is = absurd (cc)
replied shelf c sink result wanted (inr (inr wants)) is = let ended = wants.0 in absurd (cc)

-- a run that ends with an answer has words of a command
record Answers {F S : Type 0} (shelf : Shelved F) (words : List (List ℕ)) (sink : Sunk S) (wanted : SurveyAnswer) : Type 0 where
  pub c : Command
  pub asks : Asks words c
  pub output : List ℕ
  pub reply : IsReplied shelf c wanted output
  pub written : IsWritten sink output

answered : {F S : Type 0} (shelf : Shelved F) (words : List (List ℕ)) (sink : Sunk S) (result : SurveyStatus) (wanted : SurveyAnswer) → IsOutcome shelf words sink result
    → result ≡ ends.Replied wanted → Answers shelf words sink wanted
answered shelf words sink result wanted (inl (nothing, same, inl (ended, written))) is = absurd (cc)
answered shelf words sink result wanted (inl (nothing, same, inr (ended, cut))) is = absurd (cc)
answered shelf words sink result wanted (inr (c, asks, obeyed)) is =
    let found = replied shelf c sink result wanted obeyed is in
    record { c = c; asks = asks; output = found.0; reply = found.1; written = found.2 }

pub run_renews : PartsHold → {F S : Type 0} (shelf : Shelved F) (words : List (List ℕ)) (sink : Sunk S) (result : SurveyStatus) → IsOutcome shelf words sink result
    → result ≡ ends.Replied answers.Done → word_at words 0 ≡ codes "renew" → IsTrueOfFile shelf (word_at words 1)
run_renews law shelf words sink result outcome is verb =
    let found = answered shelf words sink result answers.Done outcome is in
    true_of_file shelf found.c words found.output found.asks (renew_letter words found.c found.asks verb) law found.reply

pub run_violates : {F S : Type 0} (shelf : Shelved F) (words : List (List ℕ)) (sink : Sunk S) (result : SurveyStatus) → IsOutcome shelf words sink result
    → result ≡ ends.Replied answers.Violated → word_at words 0 ≡ codes "renew"
    → IsFalseOfFirst shelf (word_at words 1) (sink.written sink.old) (sink.written sink.new)
run_violates shelf words sink result outcome is verb =
    let found = answered shelf words sink result answers.Violated outcome is in
    false_of_first shelf found.c words found.output found.asks (renew_letter words found.c found.asks verb) _ _ found.reply found.written.whole

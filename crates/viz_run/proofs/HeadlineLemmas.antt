-- What the outcome of a run tells of a job's assertion.
use Rattle.std.proofs.Common.{◌≡◌, inl, inr, ℕ, List, Option, Bool, ◌⊎◌, IsTrue, codes, get_or, arith, ap, refl, sym, ◌∙◌}
use Rattle.viz_replies.specs.declared.reply.Answer.{Answer}
use Rattle.viz_replies.specs.declared.reply.Answer.TheVariants as gives
use Rattle.viz_replies.specs.declared.question.Question.TheVariants as question
use Rattle.viz_replies.specs.Jobs.{AreNoJobs}
use Rattle.viz_replies.specs.Laws.{OneJobThere, PartsAreTrueThere, PartsHold}
use Rattle.viz_replies.specs.Truths.{IsTrueEverywhere}
use Rattle.viz_replies.specs.Replies.{IsRefusal}
use Rattle.viz_outside.specs.Sink.{grown}
use Rattle.viz_replies.proofs.HeadlineLemmas.{accepted_everywhere, proves_true, violates, trial_proves, trial_violates}
use Rattle.viz_replies.specs.Generated.{job_text}
use Rattle.viz_run.specs.declared.status.Status.{Status}
use Rattle.viz_run.specs.declared.status.Status.TheVariants as ends
use Rattle.viz_run.specs.declared.words.Command.{Command}
use Rattle.viz_run.specs.declared.words.Command.TheVariants as asks_for
use Rattle.viz_run.specs.Words.{AreOfGenerated, Asks, word_at}
use Rattle.viz_run.specs.Files.{Shelved}
use Rattle.viz_run.specs.Run.{IsCheckOfFile, IsReplied, Sunk, IsWritten, Obeys, IsOutcome}
use Rattle.viz_run.specs.Headline.{IsTrueOfFile, IsFalseOfFile, IsTrueOfGenerated, IsFalseOfGenerated}
use Rattle.viz_run.specs.steps.Loads.{IsFileless, IsSureCert, IsSureJob}

-- ---- words

-- the letter with which the first word of a command begins: each command has its own
abbrev letter : Command → ℕ
letter (asks_for.Lay job screen) = 108
letter (asks_for.Prove job turns) = 112
letter (asks_for.Check job cert) = 99
letter (asks_for.Gen seed sections) = 103
letter (asks_for.Trial seed sections turns) = 116

abbrev first_letter : List (List ℕ) → ℕ
first_letter words = get_or (word_at words 0) 0 0

verb_letter : (words : List (List ℕ)) (c : Command) → Asks words c → first_letter words ≡ letter c
verb_letter words (asks_for.Lay job screen) asks = ap first_letter asks.words_are
verb_letter words (asks_for.Prove job turns) asks = ap first_letter asks.words_are
verb_letter words (asks_for.Check job cert) asks = ap first_letter asks.words_are
verb_letter words (asks_for.Gen seed sections) asks = ap first_letter asks.words_are
verb_letter words (asks_for.Trial seed sections turns) asks = ap first_letter asks.words_are

same_letter : (words : List (List ℕ)) (c : Command) (verb : List ℕ) → Asks words c → word_at words 0 ≡ verb → letter c ≡ get_or verb 0 0
same_letter words c verb asks is = sym (verb_letter words c asks) ∙ ap (λ word. get_or word 0 0) is

fileless : (c : Command) → (letter c ≡ 103) ⊎ (letter c ≡ 116) → IsFileless c
fileless (asks_for.Lay job screen) (inl is) = absurd (omega arith)
fileless (asks_for.Lay job screen) (inr is) = absurd (omega arith)
fileless (asks_for.Prove job turns) (inl is) = absurd (omega arith)
fileless (asks_for.Prove job turns) (inr is) = absurd (omega arith)
fileless (asks_for.Check job cert) (inl is) = absurd (omega arith)
fileless (asks_for.Check job cert) (inr is) = absurd (omega arith)
fileless (asks_for.Gen seed sections) is = tt
fileless (asks_for.Trial seed sections turns) is = tt

-- `gen` and `trial` name no file
pub names_no_file : (words : List (List ℕ)) (c : Command) → Asks words c → AreOfGenerated words → IsFileless c
names_no_file words c asks (inl verb) = fileless c (inl (same_letter words c (codes "gen") asks verb))
names_no_file words c asks (inr verb) = fileless c (inr (same_letter words c (codes "trial") asks verb))

-- the second word is the job file's name, where there is one
pub job_word : (sure : List ℕ → Bool) (words : List (List ℕ)) (c : Command) → Asks words c → IsTrue (sure (word_at words 1)) → IsSureJob sure c
job_word sure words (asks_for.Lay job screen) asks is = let second = ap (λ ws. word_at ws 1) asks.words_are in rw second at is
job_word sure words (asks_for.Prove job turns) asks is = let second = ap (λ ws. word_at ws 1) asks.words_are in rw second at is
job_word sure words (asks_for.Check job cert) asks is = let second = ap (λ ws. word_at ws 1) asks.words_are in rw second at is
job_word sure words (asks_for.Gen seed sections) asks is = tt
job_word sure words (asks_for.Trial seed sections turns) asks is = tt

-- the third word of `check` is the certificate's
pub cert_word : (sure : List ℕ → Bool) (words : List (List ℕ)) (c : Command) → Asks words c → IsTrue (sure (word_at words 2)) → IsSureCert sure c
cert_word sure words (asks_for.Lay job screen) asks is = tt
cert_word sure words (asks_for.Prove job turns) asks is = tt
cert_word sure words (asks_for.Check job cert) asks is = let third = ap (λ ws. word_at ws 2) asks.words_are in rw third at is
cert_word sure words (asks_for.Gen seed sections) asks is = tt
cert_word sure words (asks_for.Trial seed sections turns) asks is = tt

-- ---- replies

accepted_on : PartsHold → {F : Type 0} (shelf : Shelved F) (between : F) (cert bytes output : List ℕ)
    → ((shelf.new ≡ between) × IsRefusal (AreNoJobs bytes) gives.Done output) ⊎ IsCheckOfFile shelf between cert bytes gives.Done output
    → IsTrueEverywhere bytes
accepted_on law shelf between cert bytes output (inl (same, refusal)) = absurd (let other = refusal.refused in cc)
accepted_on law shelf between cert bytes output (inr found) = accepted_everywhere law bytes found.cert_bytes output found.reply

checks_reply : PartsHold → {F : Type 0} (shelf : Shelved F) (c : Command) (words : List (List ℕ)) (output : List ℕ) → Asks words c → letter c ≡ 99
    → IsReplied shelf c gives.Done output → IsTrueOfFile shelf (word_at words 1)
checks_reply law shelf (asks_for.Lay job screen) words output asks verb reply = absurd (omega arith)
checks_reply law shelf (asks_for.Prove job turns) words output asks verb reply = absurd (omega arith)
checks_reply law shelf (asks_for.Check job cert) words output asks verb reply =
    let name = ap (λ ws. word_at ws 1) asks.words_are in
    let holds = accepted_on law shelf reply.between cert.now reply.bytes output reply.reply in
    rw name (record { bytes = reply.bytes; between = reply.between; given = reply.given; holds = holds })
checks_reply law shelf (asks_for.Gen seed sections) words output asks verb reply = absurd (omega arith)
checks_reply law shelf (asks_for.Trial seed sections turns) words output asks verb reply = absurd (omega arith)

proves_reply : PartsHold → {F : Type 0} (shelf : Shelved F) (c : Command) (words : List (List ℕ)) (output : List ℕ) → Asks words c → letter c ≡ 112
    → IsReplied shelf c gives.Done output → IsTrueOfFile shelf (word_at words 1)
proves_reply law shelf (asks_for.Lay job screen) words output asks verb reply = absurd (omega arith)
proves_reply law shelf (asks_for.Prove job turns) words output asks verb reply =
    let name = ap (λ ws. word_at ws 1) asks.words_are in
    let holds = proves_true law reply.bytes turns (question.Prove turns) gives.Done output reply.reply refl refl in
    rw name (record { bytes = reply.bytes; between = shelf.new; given = reply.given; holds = holds })
proves_reply law shelf (asks_for.Check job cert) words output asks verb reply = absurd (omega arith)
proves_reply law shelf (asks_for.Gen seed sections) words output asks verb reply = absurd (omega arith)
proves_reply law shelf (asks_for.Trial seed sections turns) words output asks verb reply = absurd (omega arith)

violates_reply : {F : Type 0} (shelf : Shelved F) (c : Command) (words : List (List ℕ)) (old new : Option (List ℕ)) (output : List ℕ) → Asks words c
    → letter c ≡ 112 → IsReplied shelf c gives.Violated output → new ≡ grown old output → IsFalseOfFile shelf (word_at words 1) old new
violates_reply shelf (asks_for.Lay job screen) words old new output asks verb reply written = absurd (omega arith)
violates_reply shelf (asks_for.Prove job turns) words old new output asks verb reply written =
    let name = ap (λ ws. word_at ws 1) asks.words_are in
    let untrue = violates reply.bytes (question.Prove turns) gives.Violated output reply.reply refl in
    rw name (record { bytes = reply.bytes; given = reply.given; output = output; untrue = untrue; written = written })
violates_reply shelf (asks_for.Check job cert) words old new output asks verb reply written = absurd (omega arith)
violates_reply shelf (asks_for.Gen seed sections) words old new output asks verb reply written = absurd (omega arith)
violates_reply shelf (asks_for.Trial seed sections turns) words old new output asks verb reply written = absurd (omega arith)

tries_reply : PartsHold → {F : Type 0} (shelf : Shelved F) (c : Command) (words : List (List ℕ)) (output : List ℕ) → Asks words c → letter c ≡ 116
    → IsReplied shelf c gives.Done output → IsTrueOfGenerated words
tries_reply law shelf (asks_for.Lay job screen) words output asks verb reply = absurd (omega arith)
tries_reply law shelf (asks_for.Prove job turns) words output asks verb reply = absurd (omega arith)
tries_reply law shelf (asks_for.Check job cert) words output asks verb reply = absurd (omega arith)
tries_reply law shelf (asks_for.Gen seed sections) words output asks verb reply = absurd (omega arith)
tries_reply law shelf (asks_for.Trial seed sections turns) words output asks verb reply = record {
  seed = seed;
  seed_is = ap (λ ws. word_at ws 1) asks.words_are;
  sections = sections.count;
  sections_are = ap (λ ws. word_at ws 2) asks.words_are;
  holds = trial_proves law (job_text seed sections.count) turns gives.Done output reply refl;
}

fails_reply : PartsAreTrueThere → OneJobThere → {F : Type 0} (shelf : Shelved F) (c : Command) (words : List (List ℕ)) (old new : Option (List ℕ)) (output : List ℕ) → Asks words c
    → letter c ≡ 116 → IsReplied shelf c gives.Violated output → new ≡ grown old output → IsFalseOfGenerated words old new
fails_reply parts one shelf (asks_for.Lay job screen) words old new output asks verb reply written = absurd (omega arith)
fails_reply parts one shelf (asks_for.Prove job turns) words old new output asks verb reply written = absurd (omega arith)
fails_reply parts one shelf (asks_for.Check job cert) words old new output asks verb reply written = absurd (omega arith)
fails_reply parts one shelf (asks_for.Gen seed sections) words old new output asks verb reply written = absurd (omega arith)
fails_reply parts one shelf (asks_for.Trial seed sections turns) words old new output asks verb reply written = record {
  seed = seed;
  seed_is = ap (λ ws. word_at ws 1) asks.words_are;
  sections = sections.count;
  sections_are = ap (λ ws. word_at ws 2) asks.words_are;
  output = output;
  untrue = trial_violates parts one (job_text seed sections.count) turns gives.Violated output reply refl;
  written = written;
}

-- ---- runs

-- a run that ends with an answer wrote the output that goes with it
replied : {F S : Type 0} (shelf : Shelved F) (c : Command) (sink : Sunk S) (result : Status) (wanted : Answer) → Obeys shelf c sink result
    → result ≡ ends.Replied wanted → (output : List ℕ) × IsReplied shelf c wanted output × IsWritten sink output
replied shelf c sink result wanted (inl (answer, output, reply, inl (ended, written))) is =
    let same : answer ≡ wanted = cc in
    (output, rw same at reply, written)
replied shelf c sink result wanted (inl (answer, output, reply, inr (ended, cut))) is = absurd (cc)
replied shelf c sink result wanted (inr (inl (file, unread, inl (ended, written)))) is = absurd (cc)
replied shelf c sink result wanted (inr (inl (file, unread, inr (ended, cut)))) is = absurd (cc)
replied shelf c sink result wanted (inr (inr (ended, same, loaded))) is = absurd (cc)

-- a run that ends with an answer has words of a command
record Answers {F S : Type 0} (shelf : Shelved F) (words : List (List ℕ)) (sink : Sunk S) (wanted : Answer) : Type 0 where
  pub c : Command
  pub asks : Asks words c
  pub output : List ℕ
  pub reply : IsReplied shelf c wanted output
  pub written : IsWritten sink output

answered : {F S : Type 0} (shelf : Shelved F) (words : List (List ℕ)) (sink : Sunk S) (result : Status) (wanted : Answer) → IsOutcome shelf words sink result
    → result ≡ ends.Replied wanted → Answers shelf words sink wanted
answered shelf words sink result wanted (inl (nothing, same, inl (ended, written))) is = absurd (cc)
answered shelf words sink result wanted (inl (nothing, same, inr (ended, cut))) is = absurd (cc)
answered shelf words sink result wanted (inr (c, asks, obeyed)) is =
    let found = replied shelf c sink result wanted obeyed is in
    record { c = c; asks = asks; output = found.0; reply = found.1; written = found.2 }

pub run_accepts : PartsHold → {F S : Type 0} (shelf : Shelved F) (words : List (List ℕ)) (sink : Sunk S) (result : Status) → IsOutcome shelf words sink result
    → result ≡ ends.Replied gives.Done → word_at words 0 ≡ codes "check" → IsTrueOfFile shelf (word_at words 1)
run_accepts law shelf words sink result outcome is verb =
    let found = answered shelf words sink result gives.Done outcome is in
    checks_reply law shelf found.c words found.output found.asks (same_letter words found.c (codes "check") found.asks verb) found.reply

pub run_proves : PartsHold → {F S : Type 0} (shelf : Shelved F) (words : List (List ℕ)) (sink : Sunk S) (result : Status) → IsOutcome shelf words sink result
    → result ≡ ends.Replied gives.Done → word_at words 0 ≡ codes "prove" → IsTrueOfFile shelf (word_at words 1)
run_proves law shelf words sink result outcome is verb =
    let found = answered shelf words sink result gives.Done outcome is in
    proves_reply law shelf found.c words found.output found.asks (same_letter words found.c (codes "prove") found.asks verb) found.reply

pub run_violates : {F S : Type 0} (shelf : Shelved F) (words : List (List ℕ)) (sink : Sunk S) (result : Status) → IsOutcome shelf words sink result
    → result ≡ ends.Replied gives.Violated → word_at words 0 ≡ codes "prove"
    → IsFalseOfFile shelf (word_at words 1) (sink.written sink.old) (sink.written sink.new)
run_violates shelf words sink result outcome is verb =
    let found = answered shelf words sink result gives.Violated outcome is in
    violates_reply shelf found.c words _ _ found.output found.asks (same_letter words found.c (codes "prove") found.asks verb) found.reply found.written.whole

pub run_tries : PartsHold → {F S : Type 0} (shelf : Shelved F) (words : List (List ℕ)) (sink : Sunk S) (result : Status) → IsOutcome shelf words sink result
    → result ≡ ends.Replied gives.Done → word_at words 0 ≡ codes "trial" → IsTrueOfGenerated words
run_tries law shelf words sink result outcome is verb =
    let found = answered shelf words sink result gives.Done outcome is in
    tries_reply law shelf found.c words found.output found.asks (same_letter words found.c (codes "trial") found.asks verb) found.reply

pub run_fails : PartsAreTrueThere → OneJobThere → {F S : Type 0} (shelf : Shelved F) (words : List (List ℕ)) (sink : Sunk S) (result : Status) → IsOutcome shelf words sink result
    → result ≡ ends.Replied gives.Violated → word_at words 0 ≡ codes "trial"
    → IsFalseOfGenerated words (sink.written sink.old) (sink.written sink.new)
run_fails parts one shelf words sink result outcome is verb =
    let found = answered shelf words sink result gives.Violated outcome is in
    fails_reply parts one shelf found.c words _ _ found.output found.asks (same_letter words found.c (codes "trial") found.asks verb) found.reply found.written.whole

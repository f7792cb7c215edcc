-- Replies by what was found.
use Rattle.std.proofs.Common.{◌≡◌, ◌∙◌, inl, inr, ℕ, zero, suc, ◌<◌, ◌≤◌, List, [], ◌∷◌, ◌++◌, length, drop, Bool, true, false, Some, Ok, Err, refl, sym, ap, subst, arith, get_or}
use Rattle.std.specs.Prelude.{slice_get}
use Rattle.std.specs.List.{AllByRecursion}
use Rattle.viz_base.specs.declared.jobs.Job.{Job}
use Rattle.viz_base.specs.declared.worlds.World.{World}
use Rattle.viz_base.proofs.Sameness.{no_Ok, same_Ok}
use Rattle.viz_base.specs.Worlds.{IsInRange}
use Rattle.cert_text.specs.declared.certificate.Cert.{Cert}
use Rattle.cert_check.specs.Truths.{is_true_at}
use Rattle.cert_check.specs.declared.verdicts.Reject.{Reject}
use Rattle.cert_file.specs.declared.verdict.FileVerdict.{FileVerdict}
use Rattle.cert_file.specs.declared.verdict.FileVerdict.TheVariants.{Accepted, Rejected, Grammar}
use Rattle.cert_file.specs.Files.{IsFileVerdict, IsFirstWrong}
use Rattle.page_json.specs.Jobs.{Raw, raw_job}
use Rattle.page_build.specs.Laws.{OneAnswer}
use Rattle.viz_replies.specs.declared.reply.Answer.{Answer}
use Rattle.viz_replies.specs.declared.reply.Answer.TheVariants as ends
use Rattle.viz_replies.specs.declared.question.Question.TheVariants as asks
use Rattle.viz_replies.specs.declared.searches.Found.{Found}
use Rattle.viz_replies.specs.declared.searches.Found.TheVariants as found
use Rattle.viz_replies.specs.Jobs.{IsNoJobAt, SpellJobs, SpellsJobAt}
use Rattle.viz_replies.specs.Certificates.{cert_most}
use Rattle.viz_replies.specs.Laws.{OneJobThere, PartsAreTrueThere}
use Rattle.viz_replies.specs.Truths.{IsFalseThere}
use Rattle.viz_replies.specs.Replies.{IsChecked, IsFound, IsReplyAbout, violation_text}
use Rattle.viz_replies.specs.Trials.{IsTrialOf, IsTrialOnJobs}
use Rattle.viz_replies.specs.steps.Answers.{CanBeTold, IsSearchReply, IsToldOf, IsTrialReply, IsVerdictReply}
use Rattle.viz_replies.specs.steps.Searches.{IsSearch}
use Rattle.viz_replies.proofs.PartLemmas.{job_ranges}

-- ---- a world at which a part's formula is false

-- what is so of each job is so of one
of_one : (P : Job → Type 0) (before : List Job) (job : Job) (behind jobs : List Job) → jobs ≡ before ++ job ∷ behind → AllByRecursion P jobs → P job
of_one P [] job behind jobs e all = (subst (λ js. AllByRecursion P js) e all).0
of_one P (one ∷ before) job behind jobs e all = of_one P before job behind (before ++ job ∷ behind) refl (subst (λ js. AllByRecursion P js) e all).1

-- where a part's formula is false at a world of the range, the assertion as it is written is
pub false_there : PartsAreTrueThere → OneJobThere → (bytes : List ℕ) (jobs : List Job) (turns : ℕ) (world : World) → SpellJobs bytes jobs → IsFound turns jobs world → IsFalseThere bytes world
false_there parts one bytes jobs turns world spelled h =
    let raw = spelled.read.raw in
    let read = spelled.read.read in
    let first = h.first in
    let range : h.job.range ≡ raw.range = of_one (λ (job : Job). job.range ≡ raw.range) first.before h.job first.behind jobs first.whole (job_ranges bytes jobs raw spelled read) in
    let inside : IsInRange raw.range world = subst (λ r. IsInRange r world) range h.violation.in_range in
    let found = one bytes jobs raw world spelled read inside in
    let there_range : raw.range ≡ found.0.range = ap (λ (r : Raw). r.range) (same_Ok (sym read ∙ found.1.read.read)) ∙ sym found.1.read.built.range in
    by_truth raw read inside found.0 found.1 there_range (is_true_at found.0 world) refl
  where
    by_truth : (raw : Raw) → raw_job bytes ≡ Ok raw → IsInRange raw.range world → (there : Job) → SpellsJobAt bytes world.w world.s there → raw.range ≡ there.range → (b : Bool) → is_true_at there world ≡ b
        → IsFalseThere bytes world
    by_truth raw read inside there at range false is = record { job = there; spelled = at; in_range = subst (λ r. IsInRange r world) range inside; untrue = is }
    by_truth raw read inside there at range true is =
        let all = (parts bytes jobs raw world spelled read inside).0 (record { job = there; spelled = at; truth = is }) in
        let here : is_true_at h.job world ≡ true = of_one (λ job. is_true_at job world ≡ true) h.first.before h.job h.first.behind jobs h.first.whole all in
        let untrue = h.violation.untrue in
        absurd (cc)

-- bytes that spell a job somewhere aren't refused there
pub not_refused : OneAnswer → (bytes : List ℕ) (w s : ℕ) (job : Job) (output : List ℕ) → SpellsJobAt bytes w s job → IsNoJobAt bytes w s output → ⊥
not_refused one bytes w s job output at (inl long) = let short = at.short in let more = long.long in omega arith
not_refused one bytes w s job output at (inr h) = no_Ok (one.job bytes w s (Ok job) (Err h.refusal) at.read h.refused)

-- the same world, of the job that was read there
pub read_there : OneAnswer → (bytes : List ℕ) (world : World) (job : Job) → SpellsJobAt bytes world.w world.s job → (h : IsFalseThere bytes world) → h.job ≡ job
read_there one bytes world job at h = same_Ok (one.job bytes world.w world.s (Ok h.job) (Ok job) h.spelled.read at.read)

pub told_there : OneAnswer → (bytes : List ℕ) (world : World) (job : Job) (answer : Answer) (output : List ℕ) → SpellsJobAt bytes world.w world.s job → IsFalseThere bytes world
    → (answer ≡ ends.Violated) × (output ≡ violation_text job world) → IsToldOf bytes world answer output
told_there one bytes world job answer output at h (is, text) =
    record { violated = is; there = h; text = text ∙ ap (λ j. violation_text j world) (sym (read_there one bytes world job at h)) }

-- ---- searches

pub can_tell : PartsAreTrueThere → OneJobThere → (bytes : List ℕ) (jobs : List Job) (turns : ℕ) (end : Found) → SpellJobs bytes jobs → IsSearch turns jobs end → CanBeTold bytes end
can_tell parts one bytes jobs turns (found.Proved texts) spelled h = tt
can_tell parts one bytes jobs turns (found.Violated world) spelled h = false_there parts one bytes jobs turns world spelled h
can_tell parts one bytes jobs turns (found.Undecided form part) spelled h = tt

pub proves : (bytes : List ℕ) (jobs : List Job) (turns : ℕ) (end : Found) (answer : Answer) (output : List ℕ) → SpellJobs bytes jobs → IsSearch turns jobs end → IsSearchReply bytes end answer output
    → IsReplyAbout bytes (asks.Prove turns) answer output
proves bytes jobs turns (found.Proved texts) answer output spelled h reply =
    rw reply.0 (record { jobs = jobs; spelled = spelled; reply = rw reply.1 h })
proves bytes jobs turns (found.Violated world) answer output spelled h reply =
    rw reply.violated (record { jobs = jobs; spelled = spelled; world = world; found = h; there = reply.there; text = reply.text })
proves bytes jobs turns (found.Undecided form part) answer output spelled h reply =
    let form_is = h.form_is in
    let text = rw form_is at reply.1 in
    rw reply.0 (record { jobs = jobs; spelled = spelled; reply = record { job = h.job; first = h.first; part = part; undecided = h.undecided; text = text } })

-- ---- verdicts

-- the part of a certificate that is wrong is one of the jobs
pub wrong_part : {jobs : List Job} {certs : List Cert} {part : ℕ} {reject : Reject} → IsFirstWrong jobs certs part reject → part < length jobs
wrong_part (IsFirstWrong.here cause same) = omega arith
wrong_part (IsFirstWrong.later pass h) = let rest = wrong_part h in omega arith

pub checks : (jobs : List Job) (bytes : List ℕ) (verdict : FileVerdict) (answer : Answer) (output : List ℕ) → length bytes ≤ cert_most → IsFileVerdict jobs bytes verdict
    → IsVerdictReply jobs verdict answer output → IsChecked jobs bytes answer output
checks jobs bytes Accepted answer output short verdict reply = rw reply.0 (record { short = short; accepted = verdict; text = reply.1 })
checks jobs bytes (Rejected part reject) answer output short verdict reply =
    rw reply.2 (inr (record { short = short; part = part; job = reply.0; job_is = reply.1; reject = reject; rejected = verdict; text = reply.3 }))
checks jobs bytes (Grammar at) answer output short verdict reply =
    rw reply.0 (inl (inr (record { short = short; place = at; no_file = verdict; line = reply.1 })))

-- a part that is one of the jobs
pub there_is : (jobs : List Job) (part : ℕ) (job : Job) → part < length jobs → job ≡ get_or jobs part job → slice_get jobs part ≡ Some job
there_is [] part job within is = absurd (omega arith)
there_is (x ∷ xs) zero job within is = ap (λ j. Some j) (sym is)
there_is (x ∷ xs) (suc part) job within is = there_is xs part job (omega arith) is

-- ---- trials

pub first_of : (jobs : List Job) (job : Job) → 0 < length jobs → job ≡ get_or jobs 0 job → jobs ≡ job ∷ drop 1 jobs
first_of [] job some is = absurd (omega arith)
first_of (x ∷ xs) job some is = ap (λ j. j ∷ xs) (sym is)

pub on_trial : (bytes : List ℕ) (jobs slice : List Job) (turns : ℕ) (answer : Answer) (output : List ℕ) → SpellJobs bytes jobs → slice ≡ jobs
    → (job : Job) × (more : List Job) × (slice ≡ job ∷ more) × IsTrialOf turns job slice answer output → IsTrialOnJobs bytes turns answer output
on_trial bytes jobs slice turns answer output spelled same (job, more, is, trial) = record {
  job = job;
  more = more;
  spelled = subst (SpellJobs bytes) (sym same ∙ is) spelled;
  trial = subst (λ js. IsTrialOf turns job js answer output) is trial;
}

pub of_trial : (turns : ℕ) (job : Job) (jobs : List Job) (end : Found) (answer : Answer) (output : List ℕ) → IsSearch turns jobs end → IsTrialReply job end answer output → IsTrialOf turns job jobs answer output
of_trial turns job jobs (found.Proved texts) answer output h reply = rw reply.0 (record { texts = texts.items; proofs = h; text = reply.1 })
of_trial turns job jobs (found.Violated world) answer output h reply = rw reply.0 (record { world = world; found = h; text = reply.1 })
of_trial turns job jobs (found.Undecided form part) answer output h reply =
    rw reply.0 (record { left = h.job; first = h.first; part = part; undecided = h.undecided; text = reply.1 })

-- A renewal, part by part, and what it tells.
use Rattle.std.proofs.Common.{◌≡◌, ◌∙◌, inl, inr, ℕ, zero, suc, ◌+◌, ◌<◌, ◌≤◌, List, [], ◌∷◌, ◌++◌, length, take, get_or, Option, Some, None, sym, ap, subst, arith}
use Rattle.std.proofs.lemmas.List.{take_more}
use Rattle.viz_base.specs.declared.jobs.Job.{Job}
use Rattle.cert_text.specs.declared.certificate.Cert.{Cert}
use Rattle.cert_check.specs.Verdicts.{Passes}
use Rattle.cert_file.specs.Files.{AllPass, AreTexts}
use Rattle.viz_replies.specs.declared.reply.Answer.{Answer}
use Rattle.viz_replies.specs.declared.reply.Answer.TheVariants as ends
use Rattle.viz_replies.specs.declared.searches.Found.{Found}
use Rattle.viz_replies.specs.declared.searches.Found.TheVariants as found
use Rattle.viz_replies.specs.Headline.{IsFalseWherePrinted}
use Rattle.viz_replies.specs.Jobs.{SpellJobs}
use Rattle.viz_replies.specs.Laws.{OneJobThere, PartsAreTrueThere, PartsHold}
use Rattle.viz_replies.specs.Replies.{AreProofs, part_most}
use Rattle.viz_replies.specs.Truths.{IsTrueEverywhere}
use Rattle.viz_replies.specs.steps.Answers.{CanBeTold, IsSearchReply}
use Rattle.viz_replies.specs.steps.Searches.{IsOpen, IsProvedBehind, IsStep}
use Rattle.viz_replies.proofs.HeadlineLemmas.{pass_hold}
use Rattle.viz_replies.proofs.ReplyLemmas.{false_there}
use Rattle.viz_replies.proofs.SearchLemmas.{first_open, proofs_hold}
use Rattle.viz_renew.specs.Renewals.{AllStand, ArePlainlyRight, IsEnd, IsPlainlyRight, IsRenewal, IsReplyToRenew, unbounded}
use Rattle.viz_renew.specs.steps.Renew.{IsRenewalSearch, IsRenewalStep}

-- ---- certificates that are right as they are

join : {jobs : List Job} {certs : List Cert} → AllStand jobs certs → (job : Job) (cert : Cert) → Passes job cert → cert.form ≡ 1 → AllStand (jobs ++ job ∷ []) (certs ++ cert ∷ [])
join AllStand.nothing job cert pass form = AllStand.first pass form AllStand.nothing
join (AllStand.first p f all) job cert pass form = AllStand.first p f (join all job cert pass form)

all_pass : {jobs : List Job} {certs : List Cert} → AllStand jobs certs → AllPass jobs certs
all_pass AllStand.nothing = AllPass.nothing
all_pass (AllStand.first p f all) = AllPass.first p (all_pass all)

pub stand_more : (jobs : List Job) (certs : List Cert) (n : ℕ) (job : Job) (cert : Cert) → n < length jobs → length certs ≡ length jobs → job ≡ get_or jobs n job → cert ≡ get_or certs n cert
    → AllStand (take n jobs) (take n certs) → Passes job cert × (cert.form ≡ 1) → AllStand (take (n + 1) jobs) (take (n + 1) certs)
stand_more jobs certs n job cert within many job_is cert_is all (pass, form) =
    let inside : n < length certs = omega arith in
    let jobs_are : take n jobs ++ job ∷ [] ≡ take (n + 1) jobs = ap (λ j. take n jobs ++ j ∷ []) job_is ∙ sym (take_more jobs n job within) in
    let certs_are : take n certs ++ cert ∷ [] ≡ take (n + 1) certs = ap (λ c. take n certs ++ c ∷ []) cert_is ∙ sym (take_more certs n cert inside) in
    subst (λ js. AllStand js (take (n + 1) certs)) jobs_are (subst (AllStand (take n jobs ++ job ∷ [])) certs_are (join all job cert pass form))

pub plain_at : {jobs : List Job} {certs : List Cert} → ArePlainlyRight jobs certs → (n : ℕ) (job : Job) (cert : Cert) → n < length jobs → job ≡ get_or jobs n job → cert ≡ get_or certs n cert
    → IsPlainlyRight job cert
plain_at ArePlainlyRight.nothing n job cert within job_is cert_is = absurd (omega arith)
plain_at (ArePlainlyRight.first {job = one} {cert = here} right more) zero job cert within job_is cert_is =
    subst (λ j. IsPlainlyRight j cert) (sym job_is) (subst (IsPlainlyRight one) (sym cert_is) right)
plain_at (ArePlainlyRight.first right more) (suc n) job cert within job_is cert_is = plain_at more n job cert (omega arith) job_is cert_is

-- ---- one part

-- a proof within some turns is one within any turns
unbound : (turns most : ℕ) → turns ≤ unbounded → (job : Job) (old new : List ℕ) → IsProvedBehind turns most job old new → IsProvedBehind unbounded most job old new
unbound turns most le job old new h =
    let p = h.proof in
    let few = p.few in
    record {
      cert = h.cert;
      proof = record {
        right = p.right;
        holds = p.holds;
        few = omega (arith, le, few);
        text = p.text;
        spelled = p.spelled;
        short = p.short;
        one_grid = p.one_grid;
        form = p.form;
      };
      text = h.text;
      spelled = h.spelled;
      behind = h.behind;
    }

pub searched_step : (turns most : ℕ) → turns ≤ unbounded → (job : Job) (old new : List ℕ) (end : Option Found) → IsStep turns most job old new end → IsRenewalStep turns most job old new end
searched_step turns most le job old new None h = unbound turns most le job old new h
searched_step turns most le job old new (Some end) h = h

-- ---- the first part that isn't proved

pub ends_open : (turns : ℕ) (jobs : List Job) (at : ℕ) (job : Job) (texts : List ℕ) (end : Found) → 0 < unbounded → at < length jobs → job ≡ get_or jobs at job → AreProofs unbounded (part_most (length jobs)) (take at jobs) texts
    → IsOpen turns job end → IsRenewalSearch turns jobs end
ends_open turns jobs at job texts (found.Proved all) some within is proofs h = absurd h
ends_open turns jobs at job texts (found.Violated world) some within is proofs h =
    record { job = job; first = first_open unbounded (part_most (length jobs)) jobs at job texts within is proofs; turn = some; violation = h.1 }
ends_open turns jobs at job texts (found.Undecided form part) some within is proofs h =
    record { job = job; first = first_open unbounded (part_most (length jobs)) jobs at job texts within is proofs; form_is = h.0; undecided = h.1 }

-- ---- replies

pub can_tell : PartsAreTrueThere → OneJobThere → (bytes : List ℕ) (jobs : List Job) (turns : ℕ) (end : Found) → SpellJobs bytes jobs → IsRenewalSearch turns jobs end → CanBeTold bytes end
can_tell parts one bytes jobs turns (found.Proved texts) spelled h = tt
can_tell parts one bytes jobs turns (found.Violated world) spelled h = false_there parts one bytes jobs unbounded world spelled h
can_tell parts one bytes jobs turns (found.Undecided form part) spelled h = tt

pub comes_to : (bytes : List ℕ) (jobs : List Job) (certs : List Cert) (turns : ℕ) (end : Found) (answer : Answer) (output : List ℕ) → IsRenewalSearch turns jobs end → IsSearchReply bytes end answer output
    → IsEnd bytes jobs certs turns answer output
comes_to bytes jobs certs turns (found.Proved texts) answer output h reply = rw reply.0 (inr (rw reply.1 h))
comes_to bytes jobs certs turns (found.Violated world) answer output h reply = rw reply.violated (record { world = world; found = h; there = reply.there; text = reply.text })
comes_to bytes jobs certs turns (found.Undecided form part) answer output h reply =
    let form_is = h.form_is in
    let text = rw form_is at reply.1 in
    rw reply.0 (record { job = h.job; first = h.first; part = part; undecided = h.undecided; text = text })

-- certificates that are kept as they are
pub stays : (bytes : List ℕ) (jobs : List Job) (certs : List Cert) (turns : ℕ) (answer : Answer) (output : List ℕ) → AllStand jobs certs → (answer ≡ ends.Done) × AreTexts certs output → IsRenewal bytes jobs certs turns answer output
stays bytes jobs certs turns answer output stand (is, texts) = record { end = rw is (inl (record { stand = stand; texts = texts })); plain = λ plain. (is, texts) }

-- others, which are not all plain and right
pub renews : (bytes : List ℕ) (jobs : List Job) (certs : List Cert) (turns : ℕ) (end : Found) (answer : Answer) (output : List ℕ) → (ArePlainlyRight jobs certs → ⊥) → IsRenewalSearch turns jobs end
    → IsSearchReply bytes end answer output → IsRenewal bytes jobs certs turns answer output
renews bytes jobs certs turns end answer output never h reply = record { end = comes_to bytes jobs certs turns end answer output h reply; plain = λ plain. absurd (never plain) }

-- ---- the assertion

module _ (bytes : List ℕ) (turns : ℕ) (answer : Answer) (output : List ℕ) where
  holds_so : PartsHold → (jobs : List Job) (certs : List Cert) → SpellJobs bytes jobs → IsEnd bytes jobs certs turns ends.Done output → IsTrueEverywhere bytes
  holds_so law jobs certs spelled (inl kept) = (law bytes jobs spelled).1 (pass_hold (all_pass kept.stand))
  holds_so law jobs certs spelled (inr proofs) = (law bytes jobs spelled).1 (proofs_hold unbounded _ proofs)

  pub renews_true : PartsHold → (cert : List ℕ) → IsReplyToRenew bytes cert turns answer output → answer ≡ ends.Done → IsTrueEverywhere bytes
  renews_true law cert (inl h) is = holds_so law h.jobs h.certs h.spelled (rw is at h.reply.end)
  renews_true law cert (inr (inl h)) is = let same = h.answer_is in absurd (cc)
  renews_true law cert (inr (inr (inl h))) is = let same = h.answer_is in absurd (cc)
  renews_true law cert (inr (inr (inr (inl h)))) is = let same = h.answer_is in absurd (cc)
  renews_true law cert (inr (inr (inr (inr h)))) is = let same = h.answer_is in absurd (cc)

  printed : (jobs : List Job) (certs : List Cert) → IsEnd bytes jobs certs turns ends.Violated output → IsFalseWherePrinted bytes output
  printed jobs certs h = record { world = h.world; there = h.there; printed = h.text }

  pub renews_false : (cert : List ℕ) → IsReplyToRenew bytes cert turns answer output → answer ≡ ends.Violated → IsFalseWherePrinted bytes output
  renews_false cert (inl h) is = printed h.jobs h.certs (rw is at h.reply.end)
  renews_false cert (inr (inl h)) is = let same = h.answer_is in absurd (cc)
  renews_false cert (inr (inr (inl h))) is = let same = h.answer_is in absurd (cc)
  renews_false cert (inr (inr (inr (inl h)))) is = let same = h.answer_is in absurd (cc)
  renews_false cert (inr (inr (inr (inr h)))) is = let same = h.answer_is in absurd (cc)

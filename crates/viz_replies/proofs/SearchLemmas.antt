-- A search of the jobs of all parts, part by part.
use Rattle.std.proofs.Common.{◌≡◌, ◌∙◌, ℕ, ◌+◌, ◌<◌, List, [], ◌∷◌, ◌++◌, length, take, drop, get_or, refl, sym, ap, subst, append_assoc}
use Rattle.std.proofs.lemmas.List.{take_more, drop_more, take-append-drop}
use Rattle.viz_base.specs.declared.jobs.Job.{Job}
use Rattle.cert_check.specs.Truths.{Holds}
use Rattle.std.specs.List.{AllByRecursion}
use Rattle.cert_text.specs.declared.certificate.Cert.{Cert}
use Rattle.cert_text.specs.Texts.{CertText}
use Rattle.prove_search.specs.Outcomes.{IsProof}
use Rattle.viz_replies.specs.declared.searches.Found.{Found}
use Rattle.viz_replies.specs.declared.searches.Found.TheVariants as found
use Rattle.viz_replies.specs.Replies.{AreProofs, IsFirstOpen, part_most}
use Rattle.viz_replies.specs.steps.Searches.{IsOpen, IsProvedBehind, IsSearch}

append_nothing : (xs : List ℕ) → xs ++ [] ≡ xs
append_nothing [] = refl
append_nothing (x ∷ xs) = ap (λ ys. x ∷ ys) (append_nothing xs)

module _ (turns most : ℕ) where
  one_more : {jobs : List Job} {texts : List ℕ} (job : Job) (cert : Cert) (text : List ℕ) → AreProofs turns most jobs texts → IsProof job turns most cert → CertText cert text
      → AreProofs turns most (jobs ++ job ∷ []) (texts ++ text)
  one_more job cert text AreProofs.nothing proof spelled = subst (AreProofs turns most (job ∷ [])) (append_nothing text) (AreProofs.first proof spelled AreProofs.nothing)
  one_more job cert text (AreProofs.first {job = one} {jobs = jobs} {text = front} {rest = rest} h s hs) proof spelled =
      subst (AreProofs turns most (one ∷ (jobs ++ job ∷ []))) (sym (append_assoc front rest text)) (AreProofs.first h s (one_more job cert text hs proof spelled))

  -- all up to a place are proved, and the job there too
  pub proved_more : (jobs : List Job) (at : ℕ) (job : Job) (old new : List ℕ) → at < length jobs → job ≡ get_or jobs at job → AreProofs turns most (take at jobs) old → IsProvedBehind turns most job old new
      → AreProofs turns most (take (at + 1) jobs) new
  proved_more jobs at job old new within is proofs h =
      let jobs_are : take at jobs ++ job ∷ [] ≡ take (at + 1) jobs = ap (λ j. take at jobs ++ j ∷ []) is ∙ sym (take_more jobs at job within) in
      subst (AreProofs turns most (take (at + 1) jobs)) (sym h.behind)
      (subst (λ js. AreProofs turns most js (old ++ h.text)) jobs_are (one_more job h.cert h.text proofs h.proof h.spelled))

  pub first_open : (jobs : List Job) (at : ℕ) (job : Job) (texts : List ℕ) → at < length jobs → job ≡ get_or jobs at job → AreProofs turns most (take at jobs) texts → IsFirstOpen turns most jobs job
  first_open jobs at job texts within is proofs = record {
    before = take at jobs;
    behind = drop (at + 1) jobs;
    whole = sym (take-append-drop at jobs) ∙ (ap (λ js. take at jobs ++ js) (drop_more jobs at job within) ∙ ap (λ j. take at jobs ++ j ∷ drop (at + 1) jobs) (sym is));
    texts = texts;
    proofs = proofs;
  }

  -- what is proved holds
  pub proofs_hold : {jobs : List Job} {texts : List ℕ} → AreProofs turns most jobs texts → AllByRecursion Holds jobs
  proofs_hold AreProofs.nothing = tt
  proofs_hold (AreProofs.first h s hs) = (h.holds, proofs_hold hs)

-- a search ends at the first job that isn't proved
pub ends_open : (turns : ℕ) (jobs : List Job) (at : ℕ) (job : Job) (texts : List ℕ) (end : Found) → at < length jobs → job ≡ get_or jobs at job → AreProofs turns (part_most (length jobs)) (take at jobs) texts
    → IsOpen turns job end → IsSearch turns jobs end
ends_open turns jobs at job texts (found.Proved all) within is proofs h = absurd h
ends_open turns jobs at job texts (found.Violated world) within is proofs h =
    record { job = job; first = first_open turns (part_most (length jobs)) jobs at job texts within is proofs; turn = h.0; violation = h.1 }
ends_open turns jobs at job texts (found.Undecided form part) within is proofs h =
    record { job = job; first = first_open turns (part_most (length jobs)) jobs at job texts within is proofs; form_is = h.0; undecided = h.1 }

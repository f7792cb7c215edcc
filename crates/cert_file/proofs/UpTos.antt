-- A certificate file up to a part, and one part more.
use Rattle.std.proofs.Common.{◌≡◌, ℕ, suc, ◌+◌, ◌-◌, false, ◌<◌, ◌≤◌, List, [], ◌∷◌, ◌++◌, length, take, drop, Option, Some, None, refl, sym, ◌∙◌, ap, subst, arith, length-append, length-drop, take-append-drop, length-take-le, take_all, get_or}
use Rattle.std.proofs.lemmas.List.{append-nil}
use Rattle.std.proofs.Math.Seq.{take-append_seam, take-append-add, take-suc}
use Rattle.viz_base.specs.declared.jobs.Job.{Job}
use Rattle.cert_text.specs.declared.certificate.Cert.{Cert}
use Rattle.cert_text.specs.Texts.{CertText}
use Rattle.cert_text.specs.Pieces.{Reading, bytes_of, HasNoText}
use Rattle.cert_check.specs.declared.verdicts.Reject.{Reject}
use Rattle.cert_check.specs.declared.verdicts.Verdict.{Verdict}
use Rattle.cert_check.specs.declared.verdicts.Verdict.TheVariants.{Accepted, Rejected}
use Rattle.cert_check.specs.steps.Stream.{IsOneMore}
use Rattle.cert_check.specs.Verdicts.{IsCause, IsVerdict, Passes}
use Rattle.cert_file.specs.declared.checking.Wrong.{Wrong}
use Rattle.cert_file.specs.declared.checking.Found.{Found}
use Rattle.cert_file.specs.declared.checking.Found.TheVariants.{Read, Grammar}
use Rattle.cert_file.specs.Files.{AreTexts, AllPass, IsFirstWrong, here, later, IsNoFile}
use Rattle.cert_file.specs.steps.UpTo.{HasText, wrong_of, IsFound, AreJudged, IsUpTo}
use Rattle.cert_file.proofs.Parsing.{joined}
use Rattle.cert_file.proofs.Faults.{no_file_behind, none_here, none_left}

-- ---- one certificate

-- a reader at the end of a certificate's text has taken that text
pub whole_text : (old new : Reading) (bytes : List ℕ) → bytes_of old ≡ bytes → IsOneMore old false new → (n : ℕ) → n ≡ length new.taken → HasText bytes n
whole_text old new bytes all none n at =
    let whole = none.1 in
    let taken : HasText (bytes_of old) (length old.taken) = (omega (arith, length-append old.taken old.rest), (whole.0, subst (CertText whole.0) (sym (take-append_seam old.taken old.rest)) whole.1)) in
    let place : length old.taken ≡ n = sym (at ∙ ap (λ (r : Reading). length r.taken) none.0) in
    subst (HasText bytes) place (subst (λ b. HasText b (length old.taken)) all taken)

-- ---- verdicts, one job and one certificate more

pub pass_more : {jobs : List Job} {certs : List Cert} → AllPass jobs certs → (job : Job) (cert : Cert) → Passes job cert → AllPass (jobs ++ job ∷ []) (certs ++ cert ∷ [])
pass_more AllPass.nothing job cert pass = AllPass.first pass AllPass.nothing
pass_more (AllPass.first p all) job cert pass = AllPass.first p (pass_more all job cert pass)

wrong_after : {jobs : List Job} {certs : List Cert} → AllPass jobs certs → (job : Job) (cert : Cert) (reject : Reject) → IsCause job cert reject
    → IsFirstWrong (jobs ++ job ∷ []) (certs ++ cert ∷ []) (length jobs) reject
wrong_after AllPass.nothing job cert reject cause = here cause refl
wrong_after (AllPass.first p all) job cert reject cause = later p (wrong_after all job cert reject cause)

wrong_before : {jobs : List Job} {certs : List Cert} {part : ℕ} {reject : Reject} → IsFirstWrong jobs certs part reject → (job : Job) (cert : Cert)
    → IsFirstWrong (jobs ++ job ∷ []) (certs ++ cert ∷ []) part reject
wrong_before (here {jobs} {certs} cause many) job cert = here cause (length-append certs (cert ∷ []) ∙ ap (λ n. n + 1) many ∙ sym (length-append jobs (job ∷ [])))
wrong_before (later p wrong) job cert = later p (wrong_before wrong job cert)

-- there is a certificate for each job
pass_many : {jobs : List Job} {certs : List Cert} → AllPass jobs certs → length certs ≡ length jobs
pass_many AllPass.nothing = refl
pass_many (AllPass.first p all) = ap suc (pass_many all)

wrong_many : {jobs : List Job} {certs : List Cert} {part : ℕ} {reject : Reject} → IsFirstWrong jobs certs part reject → length certs ≡ length jobs
wrong_many (here cause many) = ap suc many
wrong_many (later p wrong) = ap suc (wrong_many wrong)

as_many : (jobs : List Job) (certs : List Cert) (wrong : Option Wrong) → AreJudged jobs certs wrong → length certs ≡ length jobs
as_many jobs certs None h = pass_many h
as_many jobs certs (Some wrong) h = wrong_many h

-- ---- up to a part

pub at_start : (bytes : List ℕ) → IsUpTo [] bytes 0 None
at_start bytes = record { within = omega arith; certs = []; texts = AreTexts.nothing; judged = AllPass.nothing }

module _ (jobs : List Job) (bytes : List ℕ) (at : ℕ) (wrong : Option Wrong) (upto : IsUpTo jobs bytes at wrong) where
  -- one certificate more, whose text stands behind
  one_more : (job : Job) (cert : Cert) (n : ℕ) (first : Option Wrong) → n ≤ length (drop at bytes) → CertText cert (take n (drop at bytes)) → AreJudged (jobs ++ job ∷ []) (upto.certs ++ cert ∷ []) first
      → IsUpTo (jobs ++ job ∷ []) bytes (at + n) first
  one_more job cert n first le text judged =
      let room = upto.within in
      let size = length-take-le at bytes room in
      let cut : take (at + n) bytes ≡ take at bytes ++ take n (drop at bytes) =
      ap (λ b. take (at + n) b) (sym (take-append-drop at bytes)) ∙ ap (λ m. take (m + n) (take at bytes ++ drop at bytes)) (sym size) ∙ take-append-add (take at bytes) (drop at bytes) n in
      let one : AreTexts (cert ∷ []) (take n (drop at bytes)) = subst (AreTexts (cert ∷ [])) (append-nil (take n (drop at bytes))) (AreTexts.first text AreTexts.nothing) in
      record {
        within = omega (arith, le, room, length-drop at bytes);
        certs = upto.certs ++ cert ∷ [];
        texts = subst (AreTexts (upto.certs ++ cert ∷ [])) (sym cut) (joined upto.texts one);
        judged = judged;
      }

  -- the next part
  next_part : (job : Job) (n : ℕ) (first : Option Wrong) → IsFound job (length jobs) (drop at bytes) wrong (Read n first) → IsUpTo (jobs ++ job ∷ []) bytes (at + n) first
  next_part job n first found = by_wrong wrong upto.judged found
    where
      by_verdict : (cert : Cert) (verdict : Verdict) → AllPass jobs upto.certs → IsVerdict job cert verdict → AreJudged (jobs ++ job ∷ []) (upto.certs ++ cert ∷ []) (wrong_of (length jobs) verdict)
      by_verdict cert Accepted all is = pass_more all job cert is
      by_verdict cert (Rejected reject) all is = wrong_after all job cert reject is

      by_wrong : (before : Option Wrong) → AreJudged jobs upto.certs before → IsFound job (length jobs) (drop at bytes) before (Read n first) → IsUpTo (jobs ++ job ∷ []) bytes (at + n) first
      by_wrong None all found =
          let spelled = found.1.2 in
          one_more job spelled.0 n first found.0 spelled.1
          (subst (AreJudged (jobs ++ job ∷ []) (upto.certs ++ spelled.0 ∷ [])) (sym found.1.1) (by_verdict spelled.0 found.1.0 all spelled.2))
      by_wrong (Some w) before found =
          let text = found.1.1 in
          one_more job text.0 n first found.1.0 text.1
          (subst (AreJudged (jobs ++ job ∷ []) (upto.certs ++ text.0 ∷ [])) (sym found.0) (wrong_before before job text.0))

  -- the file's fault is that of what is left
  left_fault : (count more : ℕ) → IsNoFile count (drop at bytes) more → IsNoFile (length jobs + count) bytes (at + more)
  left_fault count more none =
      let all = no_file_behind upto.texts (drop at bytes) count more none in
      let many = as_many jobs upto.certs wrong upto.judged in
      let size = length-take-le at bytes upto.within in
      let whole = take-append-drop at bytes in
      subst (λ n. IsNoFile (length jobs + count) bytes (n + more)) size
      (subst (λ b. IsNoFile (length jobs + count) b (length (take at bytes) + more)) whole
      (subst (λ n. IsNoFile (n + count) (take at bytes ++ drop at bytes) (length (take at bytes) + more)) many all))

  -- no certificate's text stands where one has to be
  no_text_here : (count n : ℕ) → HasNoText (drop at bytes) n → IsNoFile (length jobs + suc count) bytes (at + n)
  no_text_here count n none = left_fault (suc count) n (none_here (drop at bytes) count n none)

  -- bytes behind the last certificate
  too_long : at < length bytes → IsNoFile (length jobs) bytes at
  too_long some =
      let left : 0 < length (drop at bytes) = omega (arith, some, length-drop at bytes) in
      let none = left_fault 0 0 (none_left (drop at bytes) left) in
      let count : length jobs + 0 ≡ length jobs = omega arith in
      let place : at + 0 ≡ at = omega arith in
      subst (IsNoFile (length jobs) bytes) place (subst (λ n. IsNoFile n bytes (at + 0)) count none)

-- ---- up to a part of this number

module _ (jobs : List Job) (bytes : List ℕ) (at number : ℕ) (wrong : Option Wrong) (upto : IsUpTo (take number jobs) bytes at wrong) where
  -- what stands behind, as the code has it
  found_here : (job : Job) (found : Found) → number < length jobs → IsFound job number (take (length bytes - at) (drop at bytes)) wrong found
      → IsFound job (length (take number jobs)) (drop at bytes) wrong found
  found_here job found lt is =
      let left : length (drop at bytes) ≤ length bytes - at = omega (arith, length-drop at bytes) in
      let part : number ≡ length (take number jobs) = sym (length-take-le number jobs (omega (arith, lt))) in
      subst (λ n. IsFound job n (drop at bytes) wrong found) part (subst (λ b. IsFound job number b wrong found) (take_all (length bytes - at) (drop at bytes) left) is)

  pub read_next : number < length jobs → (job : Job) → job ≡ get_or jobs number job → (found : Found) → IsFound job number (take (length bytes - at) (drop at bytes)) wrong found
      → (n : ℕ) (first : Option Wrong) → found ≡ Read n first → IsUpTo (take (number + 1) jobs) bytes (at + n) first
  read_next lt job at_number found is n first read =
      let one : take (suc number) jobs ≡ take number jobs ++ job ∷ [] = take-suc jobs number job lt ∙ ap (λ j. take number jobs ++ j ∷ []) (sym at_number) in
      let count : suc number ≡ number + 1 = omega arith in
      let next = next_part (take number jobs) bytes at wrong upto job n first (subst (IsFound job (length (take number jobs)) (drop at bytes) wrong) read (found_here job found lt is)) in
      subst (λ js. IsUpTo js bytes (at + n) first) (sym one ∙ ap (λ k. take k jobs) count) next

  pub fault_next : number < length jobs → (job : Job) (found : Found) → IsFound job number (take (length bytes - at) (drop at bytes)) wrong found
      → (n : ℕ) → found ≡ Grammar n → IsNoFile (length jobs) bytes (at + n)
  fault_next lt job found is n read =
      let size = length-take-le number jobs (omega (arith, lt)) in
      let count : length (take number jobs) + suc (length jobs - suc number) ≡ length jobs = omega (arith, size, lt) in
      subst (λ k. IsNoFile k bytes (at + n)) count
      (no_text_here (take number jobs) bytes at wrong upto (length jobs - suc number) n (none_here_of wrong (subst (IsFound job (length (take number jobs)) (drop at bytes) wrong) read (found_here job found lt is))))
    where
      none_here_of : (before : Option Wrong) → IsFound job (length (take number jobs)) (drop at bytes) before (Grammar n) → HasNoText (drop at bytes) n
      none_here_of None none = none
      none_here_of (Some w) none = none

  pub fault_behind : length jobs ≤ number → at < length bytes → IsNoFile (length jobs) bytes at
  fault_behind all some =
      subst (λ js. IsNoFile (length js) bytes at) (take_all number jobs all) (too_long (take number jobs) bytes at wrong upto some)

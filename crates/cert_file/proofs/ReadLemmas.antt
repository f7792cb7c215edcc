-- A certificate file read up to a part, and one certificate more.
use Rattle.std.proofs.Common.{◌≡◌, ℕ, suc, ◌+◌, ◌-◌, ◌<◌, ◌≤◌, true, List, [], ◌∷◌, ◌++◌, length, take, drop, get_or, refl, sym, ◌∙◌, ap, subst, arith, length-append, length-drop, take-append-drop, length-take-le, take_all}
use Rattle.std.proofs.lemmas.List.{append-nil}
use Rattle.std.proofs.lemmas.Bool.{and_from, and_parts}
use Rattle.std.proofs.Math.Seq.{take-append-add, take-suc}
use Rattle.viz_base.specs.declared.jobs.Job.{Job}
use Rattle.cert_text.specs.declared.certificate.Cert.{Cert}
use Rattle.cert_text.specs.Pieces.{HasNoText}
use Rattle.cert_text.specs.Texts.{CertText, cert_text, head_has_text, is_form, job_has_text, node_has_text}
use Rattle.cert_file.specs.Files.{AreTexts, AreReadFor, IsNoFile, renamed, with_digest}
use Rattle.cert_file.specs.steps.Reads.{AreReadUpTo, IsReadMore}
use Rattle.cert_file.proofs.Parsing.{joined}
use Rattle.cert_file.proofs.Faults.{no_file_behind, none_here, none_left}

-- with another digest a certificate has a text as before
pub spelled_so : (digest : List ℕ) (cert : Cert) (text : List ℕ) → job_has_text digest ≡ true → CertText cert text → CertText (with_digest digest cert) (cert_text (with_digest digest cert))
spelled_so digest cert text fits h =
    let parts = and_parts (head_has_text cert.form cert.job) (node_has_text cert.form cert.root 512) h.0 in
    let head = and_parts (is_form cert.form) (job_has_text cert.job) parts.0 in
    (and_from (head_has_text cert.form digest) (node_has_text cert.form cert.root 512) (and_from (is_form cert.form) (job_has_text digest) head.0 fits) parts.1, refl)

-- the certificates of one part more
renamed_more : (jobs : List Job) (certs : List Cert) → length certs ≡ length jobs → (job : Job) (cert : Cert) → renamed (jobs ++ job ∷ []) (certs ++ cert ∷ []) ≡ renamed jobs certs ++ with_digest job.digest cert ∷ []
renamed_more [] [] same job cert = refl
renamed_more [] (c ∷ certs) same job cert = absurd (cc)
renamed_more (j ∷ jobs) [] same job cert = absurd (cc)
renamed_more (j ∷ jobs) (c ∷ certs) same job cert = ap (λ cs. with_digest j.digest c ∷ cs) (renamed_more jobs certs (omega (arith, same)) job cert)

pub one_text : (cert : Cert) (text : List ℕ) → CertText cert text → AreTexts (cert ∷ []) text
one_text cert text h = subst (AreTexts (cert ∷ [])) (append-nil text) (AreTexts.first h AreTexts.nothing)

pub at_start : (bytes : List ℕ) → AreReadUpTo [] bytes 0 []
at_start bytes = record { within = omega arith; given = []; texts = AreTexts.nothing; as_many = refl; are = refl; spelled = []; spell = AreTexts.nothing }

module _ (jobs : List Job) (bytes : List ℕ) (at : ℕ) (certs : List Cert) (upto : AreReadUpTo jobs bytes at certs) where
  one_more : (job : Job) (new : List Cert) (n : ℕ) → IsReadMore job (drop at bytes) certs new n → AreReadUpTo (jobs ++ job ∷ []) bytes (at + n) new
  one_more job new n h =
      let room = upto.within in
      let le = h.within in
      let size = length-take-le at bytes room in
      let cut : take (at + n) bytes ≡ take at bytes ++ take n (drop at bytes) =
      ap (λ b. take (at + n) b) (sym (take-append-drop at bytes)) ∙ ap (λ m. take (m + n) (take at bytes ++ drop at bytes)) (sym size) ∙ take-append-add (take at bytes) (drop at bytes) n in
      record {
        within = omega (arith, le, room, length-drop at bytes);
        given = upto.given ++ h.cert ∷ [];
        texts = subst (AreTexts (upto.given ++ h.cert ∷ [])) (sym cut) (joined upto.texts (one_text h.cert (take n (drop at bytes)) h.text));
        as_many = length-append upto.given (h.cert ∷ []) ∙ ap (λ k. k + 1) upto.as_many ∙ sym (length-append jobs (job ∷ []));
        are = h.pushed ∙ ap (λ cs. cs ++ with_digest job.digest h.cert ∷ []) upto.are ∙ sym (renamed_more jobs upto.given upto.as_many job h.cert);
        spelled = upto.spelled ++ h.spelled;
        spell = subst (λ cs. AreTexts cs (upto.spelled ++ h.spelled)) (sym h.pushed) (joined upto.spell (one_text (with_digest job.digest h.cert) h.spelled h.spells));
      }

  -- the file's fault is that of what is left
  left_fault : (count more : ℕ) → IsNoFile count (drop at bytes) more → IsNoFile (length jobs + count) bytes (at + more)
  left_fault count more none =
      let all = no_file_behind upto.texts (drop at bytes) count more none in
      let size = length-take-le at bytes upto.within in
      let whole = take-append-drop at bytes in
      subst (λ n. IsNoFile (length jobs + count) bytes (n + more)) size
      (subst (λ b. IsNoFile (length jobs + count) b (length (take at bytes) + more)) whole
      (subst (λ n. IsNoFile (n + count) (take at bytes ++ drop at bytes) (length (take at bytes) + more)) upto.as_many all))

  too_long : at < length bytes → IsNoFile (length jobs) bytes at
  too_long some =
      let left : 0 < length (drop at bytes) = omega (arith, some, length-drop at bytes) in
      let none = left_fault 0 0 (none_left (drop at bytes) left) in
      let count : length jobs + 0 ≡ length jobs = omega arith in
      let place : at + 0 ≡ at = omega arith in
      subst (IsNoFile (length jobs) bytes) place (subst (λ n. IsNoFile n bytes (at + 0)) count none)

  pub whole_file : length bytes ≤ at → AreReadFor jobs bytes certs
  whole_file all = record {
    given = upto.given;
    texts = subst (AreTexts upto.given) (take_all at bytes all) upto.texts;
    as_many = upto.as_many;
    are = upto.are;
    spelled = upto.spelled;
    spell = upto.spell;
  }

-- ---- up to a part of this number

module _ (jobs : List Job) (bytes : List ℕ) (at number : ℕ) (certs : List Cert) (upto : AreReadUpTo (take number jobs) bytes at certs) where
  -- the rest, as the code has it
  rest_is : take (length bytes - at) (drop at bytes) ≡ drop at bytes
  rest_is = take_all (length bytes - at) (drop at bytes) (omega (arith, length-drop at bytes))

  pub read_next : number < length jobs → (job : Job) → job ≡ get_or jobs number job → (new : List Cert) (n : ℕ) → IsReadMore job (take (length bytes - at) (drop at bytes)) certs new n
      → AreReadUpTo (take (number + 1) jobs) bytes (at + n) new
  read_next lt job at_number new n h =
      let one : take (suc number) jobs ≡ take number jobs ++ job ∷ [] = take-suc jobs number job lt ∙ ap (λ j. take number jobs ++ j ∷ []) (sym at_number) in
      let count : suc number ≡ number + 1 = omega arith in
      let next = one_more (take number jobs) bytes at certs upto job new n (subst (λ b. IsReadMore job b certs new n) rest_is h) in
      subst (λ js. AreReadUpTo js bytes (at + n) new) (sym one ∙ ap (λ k. take k jobs) count) next

  pub fault_next : number < length jobs → (n : ℕ) → HasNoText (take (length bytes - at) (drop at bytes)) n → IsNoFile (length jobs) bytes (at + n)
  fault_next lt n none =
      let size = length-take-le number jobs (omega (arith, lt)) in
      let count : length (take number jobs) + suc (length jobs - suc number) ≡ length jobs = omega (arith, size, lt) in
      subst (λ k. IsNoFile k bytes (at + n)) count
      (left_fault (take number jobs) bytes at certs upto (suc (length jobs - suc number)) n (none_here (drop at bytes) (length jobs - suc number) n (subst (λ b. HasNoText b n) rest_is none)))

  pub fault_behind : length jobs ≤ number → at < length bytes → IsNoFile (length jobs) bytes at
  fault_behind all some =
      subst (λ js. IsNoFile (length js) bytes at) (take_all number jobs all) (too_long (take number jobs) bytes at certs upto some)

  pub file_read : length jobs ≤ number → length bytes ≤ at → AreReadFor jobs bytes certs
  file_read all end = whole_file jobs bytes at certs (subst (λ js. AreReadUpTo js bytes at certs) (take_all number jobs all) upto) end

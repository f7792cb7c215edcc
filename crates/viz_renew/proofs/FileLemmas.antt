-- The certificates of a file, one by one.
use Rattle.std.proofs.Common.{◌≡◌, ◌∙◌, ℕ, zero, suc, ◌+◌, ◌<◌, ◌≤◌, ◌^◌, List, [], ◌∷◌, ◌++◌, length, take, get_or, inl, inr, refl, sym, ap, subst, arith, length-append, lit<}
use Rattle.std.proofs.lemmas.List.{take_more}
use Rattle.std.proofs.lemmas.Option.{same_Some, slice_get_read}
use Rattle.viz_base.specs.declared.jobs.Job.{Job}
use Rattle.cert_text.specs.declared.certificate.Cert.{Cert}
use Rattle.cert_text.specs.Nodes.{node_count}
use Rattle.cert_text.specs.Texts.{CertText}
use Rattle.cert_text.proofs.NodeCounts.{count_bound}
use Rattle.cert_semantics.specs.Axes.{axis_count}
use Rattle.cert_semantics.specs.Nodes.{nodes_of}
use Rattle.cert_semantics.specs.Paths.{root}
use Rattle.cert_check.proofs.Tellings.{count_is}
use Rattle.cert_file.specs.Files.{AreTexts, AreReadFor, renamed, with_digest}
use Rattle.cert_file.proofs.Parsing.{joined}
use Rattle.cert_file.proofs.ReadLemmas.{one_text}
use Rattle.prove_search.proofs.Counts.{few_axes}
use Rattle.viz_replies.specs.Certificates.{cert_most}
use Rattle.viz_replies.specs.declared.reply.Answer.{Answer}
use Rattle.viz_replies.specs.Jobs.{AreNoJobs, job_most}
use Rattle.viz_replies.specs.Replies.{IsRefusal}
use Rattle.viz_renew.specs.Files.{AreSpelledBy, IsRefused}
use Rattle.viz_renew.specs.steps.Read.{AreRead, CanRenew, HaveFewNodes}

-- ---- places

pub text_at : {certs : List Cert} {bytes : List ℕ} → AreTexts certs bytes → (n : ℕ) (cert : Cert) → n < length certs → cert ≡ get_or certs n cert → (text : List ℕ) × CertText cert text
text_at AreTexts.nothing n cert within is = absurd (omega arith)
text_at (AreTexts.first {text} h more) zero cert within is = (text, subst (λ c. CertText c text) (sym is) h)
text_at (AreTexts.first h more) (suc n) cert within is = text_at more n cert (omega arith) is

-- ---- one text more

pub texts_more : (certs : List Cert) (n : ℕ) (cert : Cert) (text old new : List ℕ) → n < length certs → cert ≡ get_or certs n cert → AreTexts (take n certs) old → CertText cert text → new ≡ old ++ text
    → AreTexts (take (n + 1) certs) new
texts_more certs n cert text old new within is texts h behind =
    let are : take n certs ++ cert ∷ [] ≡ take (n + 1) certs = ap (λ c. take n certs ++ c ∷ []) is ∙ sym (take_more certs n cert within) in
    subst (λ cs. AreTexts cs new) are (subst (AreTexts (take n certs ++ cert ∷ [])) (sym behind) (joined texts (one_text cert text h)))

-- ---- nodes

few_none : HaveFewNodes []
few_none zero cert is = absurd (cc)
few_none (suc n) cert is = absurd (cc)

few_of : {given : List Cert} {bytes : List ℕ} → AreTexts given bytes → (jobs : List Job) → length bytes ≤ cert_most → HaveFewNodes (renamed jobs given)
few_of AreTexts.nothing [] le = few_none
few_of AreTexts.nothing (j ∷ jobs) le = few_none
few_of (AreTexts.first h more) [] le = few_none
few_of (AreTexts.first {cert = one} {certs} {text} {rest} h more) (j ∷ jobs) le = by_place (few_of more jobs (omega (arith, le, length-append text rest)))
  where
    by_place : HaveFewNodes (renamed jobs certs) → HaveFewNodes (renamed (j ∷ jobs) (one ∷ certs))
    by_place few zero cert is =
        let same : node_count one.root ≡ node_count cert.root = ap (λ (c : Cert). node_count c.root) (same_Some (with_digest j.digest one) cert is) in
        let most = count_bound one text h in
        let wide : cert_most + 3 < 2 ^ 32 = lit< tt in
        omega (arith, same, most, length-append text rest, wide)
    by_place few (suc n) cert is = few n cert is

pub few_read : (jobs : List Job) (bytes : List ℕ) (certs : List Cert) → AreReadFor jobs bytes certs → length bytes ≤ cert_most → HaveFewNodes certs
few_read jobs bytes certs h le = subst HaveFewNodes (sym h.are) (few_of h.texts jobs le)

pub few_here : (certs : List Cert) → HaveFewNodes certs → (n : ℕ) (cert : Cert) → n < length certs → cert ≡ get_or certs n cert → (form : ℕ) → node_count cert.root + axis_count form < 2 ^ 32
few_here certs few n cert within is form =
    let below = few n cert (slice_get_read certs (length certs) n cert refl within is) in
    let axes = few_axes form in
    omega arith

pub few_listed : (certs : List Cert) → HaveFewNodes certs → (n : ℕ) (cert : Cert) → n < length certs → cert ≡ get_or certs n cert → (form : ℕ) → length (nodes_of form cert) + axis_count form < 2 ^ 32
few_listed certs few n cert within is form =
    let below = few_here certs few n cert within is form in
    let count : length (nodes_of form cert) ≡ node_count cert.root = count_is cert.root (root form) in
    omega arith

-- ---- as many as there are jobs

renamed_many : (jobs : List Job) (certs : List Cert) → length certs ≡ length jobs → length (renamed jobs certs) ≡ length jobs
renamed_many [] certs same = refl
renamed_many (j ∷ jobs) [] same = absurd (cc)
renamed_many (j ∷ jobs) (c ∷ certs) same = ap suc (renamed_many jobs certs (omega (arith, same)))

pub as_many_read : (jobs : List Job) (bytes : List ℕ) (certs : List Cert) → AreReadFor jobs bytes certs → length certs ≡ length jobs
as_many_read jobs bytes certs h = ap (λ (cs : List Cert). length cs) h.are ∙ renamed_many jobs h.given h.as_many

-- ---- both files

pub refused_job : (bytes cert : List ℕ) (answer : Answer) (output : List ℕ) → length bytes ≤ job_most → length cert ≤ cert_most → IsRefusal (AreNoJobs bytes) answer output → IsRefused bytes cert answer output
refused_job bytes cert answer output short few h = by_why h.why
  where
    by_why : AreNoJobs bytes output → IsRefused bytes cert answer output
    by_why (inl long) = let more = long.long in absurd (omega (arith, more, short))
    by_why (inr why) = inr (inr (inl (record { short_cert = few; why = why; answer_is = h.refused })))

pub can_renew : (bytes cert : List ℕ) (jobs : List Job) (certs : List Cert) → AreRead bytes cert jobs certs → CanRenew bytes jobs certs
can_renew bytes cert jobs certs h = record {
  spelled = h.spelled;
  as_many = as_many_read jobs cert certs h.read;
  few = few_read jobs cert certs h.read h.short;
  texts = h.read.spelled;
  spell = h.read.spell;
}

pub spelled_by : (bytes cert : List ℕ) (jobs : List Job) (certs : List Cert) (replied : List Job → List Cert → Type 0) → AreRead bytes cert jobs certs → replied jobs certs → AreSpelledBy bytes cert replied
spelled_by bytes cert jobs certs replied h reply = record { short = h.short; jobs = jobs; spelled = h.spelled.spelled; certs = certs; read = h.read; reply = reply }

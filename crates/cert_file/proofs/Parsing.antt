-- A certificate file has one parsing: what stands behind the texts of some certificates is the file of the others.
use Rattle.std.proofs.Common.{◌≡◌, ℕ, zero, suc, ◌+◌, List, [], ◌∷◌, ◌++◌, ◌⊎◌, inl, inr, length, refl, sym, ap, subst, arith, append_assoc}
use Rattle.cert_text.specs.declared.certificate.Cert.{Cert}
use Rattle.cert_text.specs.Texts.{CertText}
use Rattle.cert_text.proofs.Language.{Agree}
use Rattle.cert_text.proofs.Certificates.{good_cert}
use Rattle.cert_file.specs.Files.{AreTexts, IsFileOf}

-- ---- two fronts of one list

-- of two texts with which a list begins, neither of which only begins the other, the same is left
one_front : (P : Type 0) (s t a b : List ℕ) → Agree P s t → s ++ a ≡ t ++ b → a ≡ b
one_front P [] [] a b h same = same
one_front P [] (d ∷ t) a b h same = absurd h
one_front P (c ∷ s) [] a b h same = absurd h
one_front P (c ∷ s) (d ∷ t) a b h same =
    let first : c ≡ d = cc in
    let rest : s ++ a ≡ t ++ b = cc in
    one_front P s t a b (h first) rest

-- the second list goes on behind the first
pub record GoesOn (s t : List ℕ) : Type 0 where
  pub more : List ℕ
  pub whole : t ≡ s ++ more

-- of any two lists with which a list begins one goes on behind the other
pub fronts : (s t a b : List ℕ) → s ++ a ≡ t ++ b → GoesOn s t ⊎ GoesOn t s
fronts [] t a b same = inl (record { more = t; whole = refl })
fronts (c ∷ s) [] a b same = inr (record { more = c ∷ s; whole = refl })
fronts (c ∷ s) (d ∷ t) a b same =
    let first : c ≡ d = cc in
    let rest : s ++ a ≡ t ++ b = cc in
    by_rest first (fronts s t a b rest)
  where
    by_rest : c ≡ d → GoesOn s t ⊎ GoesOn t s → GoesOn (c ∷ s) (d ∷ t) ⊎ GoesOn (d ∷ t) (c ∷ s)
    by_rest e (inl h) = let whole = h.whole in inl (record { more = h.more; whole = cc })
    by_rest e (inr h) = let whole = h.whole in inr (record { more = h.more; whole = cc })

-- ---- files

-- behind the text of one certificate
behind_one : (cert : Cert) (text rest : List ℕ) → CertText cert text → {certs : List Cert} {bytes : List ℕ} → AreTexts certs bytes → (count : ℕ) → length certs ≡ suc count → text ++ rest ≡ bytes
    → IsFileOf count rest
behind_one cert text rest h AreTexts.nothing count many same = absurd (cc)
behind_one cert text rest h (AreTexts.first {cert = other} {certs} {text = t} {rest = more} is texts) count many same =
    let left : rest ≡ more = one_front (cert ≡ other) text t rest more (good_cert.plain cert other text t h is) same in
    record { certs = certs; as_many = cc; texts = subst (AreTexts certs) (sym left) texts }

-- behind the texts of several
pub behind : {certs : List Cert} {text : List ℕ} → AreTexts certs text → (count all : ℕ) (rest : List ℕ) → all ≡ length certs + count → IsFileOf all (text ++ rest) → IsFileOf count rest
behind AreTexts.nothing count all rest is file = subst (λ n. IsFileOf n rest) (omega (arith, is)) file
behind (AreTexts.first {cert} {certs} {text = t} {rest = texts} h more) count all rest is file =
    let size : length file.certs ≡ suc (length certs + count) = omega (arith, is, file.as_many) in
    let one = behind_one cert t (texts ++ rest) h file.texts (length certs + count) size (sym (append_assoc t texts rest)) in
    behind more count (length certs + count) rest refl one

-- the texts of some certificates, and then those of others
pub joined : {certs others : List Cert} {text more : List ℕ} → AreTexts certs text → AreTexts others more → AreTexts (certs ++ others) (text ++ more)
joined AreTexts.nothing other = other
joined {others} {more} (AreTexts.first {cert} {certs} {text = t} {rest} h texts) other =
    subst (AreTexts (cert ∷ (certs ++ others))) (sym (append_assoc t rest more)) (AreTexts.first h (joined texts other))

-- a file of no certificate is empty
pub none_empty : (bytes : List ℕ) → IsFileOf 0 bytes → bytes ≡ []
none_empty bytes file = by_texts file.texts file.as_many
  where
    by_texts : {certs : List Cert} {text : List ℕ} → AreTexts certs text → length certs ≡ 0 → text ≡ []
    by_texts AreTexts.nothing many = refl
    by_texts (AreTexts.first h texts) many = absurd (cc)

-- the first certificate of a file
pub record Begins (bytes : List ℕ) : Type 0 where
  pub cert : Cert
  pub text : List ℕ
  pub rest : List ℕ
  pub is_text : CertText cert text
  pub whole : bytes ≡ text ++ rest

pub begins : (count : ℕ) (bytes : List ℕ) → IsFileOf (suc count) bytes → Begins bytes
begins count bytes file = by_texts file.texts file.as_many
  where
    by_texts : {certs : List Cert} {text : List ℕ} → AreTexts certs text → length certs ≡ suc count → Begins text
    by_texts AreTexts.nothing many = absurd (cc)
    by_texts (AreTexts.first {cert} {text = t} {rest} h texts) many = record { cert = cert; text = t; rest = rest; is_text = h; whole = refl }

-- a file of so many certificates, all the same
pub some_file : (cert : Cert) (text : List ℕ) → CertText cert text → (count : ℕ) → (bytes : List ℕ) × IsFileOf count bytes
some_file cert text h zero = ([], record { certs = []; as_many = refl; texts = AreTexts.nothing })
some_file cert text h (suc count) =
    let rest = some_file cert text h count in
    (text ++ rest.0, record { certs = cert ∷ rest.1.certs; as_many = ap suc rest.1.as_many; texts = AreTexts.first h rest.1.texts })

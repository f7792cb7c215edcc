-- What a whole reading says of the bytes: the one certificate that they spell, or how far they could be one's text.
use Rattle.std.proofs.Common.{◌≡◌, ℕ, zero, suc, ◌-◌, ◌≤◌, List, [], ◌∷◌, ◌++◌, length, take, Ok, Err, refl, sym, ◌∙◌, ap, subst, arith, length-append}
use Rattle.std.proofs.lemmas.List.{append-nil}
use Rattle.viz_base.proofs.Sameness.{same_Ok}
use Rattle.cert_text.specs.declared.certificate.Cert.{Cert}
use Rattle.cert_text.specs.Texts.{CertText}
use Rattle.cert_text.specs.Fault.{IsNoText}
use Rattle.cert_text.specs.steps.Read.{Answer, ◌>>=◌}
use Rattle.cert_text.specs.steps.Whole.{at_end, read_front, read_whole}
use Rattle.cert_text.proofs.Language.{Agree, Leaves, IsRefused, IsTaken, IsRead, agree_begins}
use Rattle.cert_text.proofs.Certificates.{good_cert}

-- no text leaves itself
leaves_self : (read rest : List ℕ) → Leaves (read ++ rest) read rest → ⊥
leaves_self [] [] h = h
leaves_self [] (c ∷ rest) h = h refl
leaves_self (c ∷ read) rest h = leaves_self read rest (h refl)

-- a text that leaves another agrees with no more of it than was read
leaves_bound : (n : ℕ) (read rest more : List ℕ) → n ≤ length (read ++ rest) → Leaves (take n (read ++ rest) ++ more) read rest → n ≤ length read
leaves_bound zero read rest more le h = omega arith
leaves_bound (suc n) [] [] more le h = absurd (omega arith)
leaves_bound (suc n) [] (c ∷ rest) more le h = absurd (h refl)
leaves_bound (suc n) (c ∷ read) rest more le h = let below = leaves_bound n read rest more (omega arith) (h refl) in omega arith

agree_bound : (P : Type 0) (n : ℕ) (read rest more : List ℕ) → n ≤ length (read ++ rest) → Agree P read (take n (read ++ rest) ++ more) → n ≤ length read
agree_bound P zero read rest more le h = omega arith
agree_bound P (suc n) [] [] more le h = absurd (omega arith)
agree_bound P (suc n) [] (c ∷ rest) more le h = absurd h
agree_bound P (suc n) (c ∷ read) rest more le h = let below = agree_bound P n read rest more (omega arith) (h refl) in omega arith

pub take_front : (read rest : List ℕ) → take (length read) (read ++ rest) ≡ read
take_front [] rest = refl
take_front (c ∷ read) rest = ap (λ t. c ∷ t) (take_front read rest)

spelled_end : (text : List ℕ) (v c : Cert) (rest left : List ℕ) → IsTaken CertText text v rest → at_end v rest ≡ Ok (c, left) → CertText c text
spelled_end text v c [] left h is =
    let same : v ≡ c = ap (λ (p : Cert × List ℕ). p.0) (same_Ok {E = List ℕ} is) in
    subst (λ x. CertText x text) same (subst (λ t. CertText v t) (sym (h.whole ∙ append-nil h.read)) h.is_text)
spelled_end text v c (x ∷ xs) left h is = absurd (cc)

spelled_by : (text : List ℕ) (r : Answer Cert) (c : Cert) (left : List ℕ) → IsRead CertText text r → (r >>= λ cert. at_end cert.0 cert.1) ≡ Ok (c, left) → CertText c text
spelled_by text (Ok r) c left h is = spelled_end text r.0 c r.1 left h is
spelled_by text (Err rest) c left h is = absurd (cc)

pub spelled : (text : List ℕ) (c : Cert) (left : List ℕ) → read_whole text ≡ Ok (c, left) → CertText c text
spelled text c left is = spelled_by text (read_front text) c left (good_cert.read text) is

-- the place of the first byte that can't follow
pub record IsStuck (text left : List ℕ) : Type 0 where
  pub within : length left ≤ length text
  pub no_text : IsNoText text (length text - length left)

stuck_at : (text read left : List ℕ) → text ≡ read ++ left → IsNoText (read ++ left) (length read) → IsStuck text left
stuck_at text read left whole h =
    let sizes = ap length whole ∙ length-append read left in
    let at : length text - length left ≡ length read = omega arith in
    record { within = omega arith; no_text = subst (λ n. IsNoText text n) (sym at) (subst (λ t. IsNoText t (length read)) (sym whole) h) }

pub stuck_refused : (text rest : List ℕ) → IsRefused CertText text rest → IsStuck text rest
stuck_refused text rest h =
    stuck_at text h.read rest h.whole (record {
      no_text = λ cert t. leaves_self h.read rest (h.leaves cert (h.read ++ rest) t);
      within = omega (arith, length-append h.read rest);
      begins = (h.value, h.more, subst (λ x. CertText h.value (x ++ h.more)) (sym (take_front h.read rest)) h.begins);
      longest = λ n le b. leaves_bound n h.read rest b.1 le (h.leaves b.0 (take n (h.read ++ rest) ++ b.1) b.2);
    })

stuck_behind : (text : List ℕ) (v : Cert) (x : ℕ) (xs : List ℕ) → IsTaken CertText text v (x ∷ xs) → IsStuck text (x ∷ xs)
stuck_behind text v x xs h =
    stuck_at text h.read (x ∷ xs) h.whole (record {
      no_text = λ cert t.
          let none : x ∷ xs ≡ [] = (agree_begins (v ≡ cert) h.read (x ∷ xs) (good_cert.plain v cert h.read (h.read ++ x ∷ xs) h.is_text t)).0 in absurd (cc);
      within = omega (arith, length-append h.read (x ∷ xs));
      begins = (v, [], subst (λ y. CertText v y) (sym (append-nil (take (length h.read) (h.read ++ x ∷ xs)) ∙ take_front h.read (x ∷ xs))) h.is_text);
      longest = λ n le b. agree_bound (v ≡ b.0) n h.read (x ∷ xs) b.1 le (good_cert.plain v b.0 h.read (take n (h.read ++ x ∷ xs) ++ b.1) h.is_text b.2);
    })

stuck_end : (text : List ℕ) (v : Cert) (rest left : List ℕ) → IsTaken CertText text v rest → at_end v rest ≡ Err left → IsStuck text left
stuck_end text v [] left h is = absurd (cc)
stuck_end text v (x ∷ xs) left h is = let same : x ∷ xs ≡ left = cc in subst (λ l. IsStuck text l) same (stuck_behind text v x xs h)

stuck_by : (text : List ℕ) (r : Answer Cert) (left : List ℕ) → IsRead CertText text r → (r >>= λ cert. at_end cert.0 cert.1) ≡ Err left → IsStuck text left
stuck_by text (Ok r) left h is = stuck_end text r.0 r.1 left h is
stuck_by text (Err rest) left h is = let same : rest ≡ left = cc in subst (λ l. IsStuck text l) same (stuck_refused text rest h)

pub stuck : (text left : List ℕ) → read_whole text ≡ Err left → IsStuck text left
stuck text left is = stuck_by text (read_front text) left (good_cert.read text) is

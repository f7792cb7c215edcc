-- How far the bytes of a certificate file are in the grammar.
use Rattle.std.proofs.Common.{◌≡◌, ℕ, zero, suc, ◌+◌, ◌-◌, ◌<◌, ◌≤◌, List, [], ◌∷◌, ◌++◌, ◌⊎◌, inl, inr, length, take, drop, refl, sym, ◌∙◌, ap, subst, arith, append_assoc, length-append, take-append-drop, length-take-le}
use Rattle.std.proofs.Math.Seq.{take-append-add}
use Rattle.cert_text.specs.declared.certificate.Cert.{Cert}
use Rattle.cert_text.specs.Texts.{CertText}
use Rattle.cert_text.specs.Pieces.{HasNoText}
use Rattle.cert_file.specs.Files.{AreTexts, IsFileOf, BeginsFile, IsNoFile}
use Rattle.cert_file.proofs.Parsing.{GoesOn, fronts, behind, joined, none_empty, Begins, begins, some_file}

-- a number is at most another, or above it
by_order : (P : Type 0) (n size : ℕ) → (n ≤ size → P) → ((k : ℕ) → size + suc k ≡ n → P) → P
by_order P n size below above = by_test (n - size) refl
  where
    by_test : (k : ℕ) → n - size ≡ k → P
    by_test zero e = below (omega (arith, e))
    by_test (suc k) e = above k (omega (arith, e))

-- ---- behind the texts of some certificates

module _ {certs : List Cert} {text : List ℕ} (texts : AreTexts certs text) (rest : List ℕ) (count : ℕ) (at : ℕ) where
  -- how far the rest is a file of so many certificates more is how far the whole is one
  pub no_file_behind : IsNoFile count rest at → IsNoFile (length certs + count) (text ++ rest) (length text + at)
  no_file_behind none = record {
    no_file = λ file. none.no_file (behind texts count (length certs + count) rest refl file);
    within = let w = none.within in omega (arith, w, length-append text rest);
    begins =
        let b = none.begins in
        let whole = joined texts b.1.texts in
        let many = b.1.as_many in
        let cut = take-append-add text rest at in
        let same : text ++ (take at rest ++ b.0) ≡ take (length text + at) (text ++ rest) ++ b.0 = sym (append_assoc text (take at rest) b.0) ∙ ap (λ t. t ++ b.0) (sym cut) in
        (b.0, record { certs = certs ++ b.1.certs; as_many = length-append certs b.1.certs ∙ ap (λ n. length certs + n) many; texts = subst (AreTexts (certs ++ b.1.certs)) same whole });
    longest = λ n le b. by_order (n ≤ length text + at) n (length text) (λ below. omega (arith, below)) (λ k e. above n le b k e);
  }
    where
      above : (n : ℕ) → n ≤ length (text ++ rest) → BeginsFile (length certs + count) (take n (text ++ rest)) → (k : ℕ) → length text + suc k ≡ n → n ≤ length text + at
      above n le b k e =
          let cut : take n (text ++ rest) ≡ text ++ take (suc k) rest = ap (λ m. take m (text ++ rest)) (sym e) ∙ take-append-add text rest (suc k) in
          let same : take n (text ++ rest) ++ b.0 ≡ text ++ (take (suc k) rest ++ b.0) = ap (λ t. t ++ b.0) cut ∙ append_assoc text (take (suc k) rest) b.0 in
          let left = behind texts count (length certs + count) (take (suc k) rest ++ b.0) refl (subst (IsFileOf (length certs + count)) same b.1) in
          let most = none.longest (suc k) (omega (arith, le, e, length-append text rest)) (b.0, left) in
          omega (arith, most, e)

-- ---- bytes that are no more certificates

-- no certificate's text stands at their front, where one has to be
pub none_here : (rest : List ℕ) (count at : ℕ) → HasNoText rest at → IsNoFile (suc count) rest at
none_here rest count at none = record {
  no_file = λ file. none_begins (begins count rest file);
  within = none.0.within;
  begins =
      let b = none.0.begins in
      let others = some_file b.0 (take at rest ++ b.1) b.2 count in
      let same = append_assoc (take at rest) b.1 others.0 in
      (b.1 ++ others.0, record { certs = b.0 ∷ others.1.certs; as_many = ap suc others.1.as_many; texts = subst (AreTexts (b.0 ∷ others.1.certs)) same (AreTexts.first b.2 others.1.texts) });
  longest = λ n le b. by_first n le b.0 (begins count (take n rest ++ b.0) b.1);
}
  where
    none_begins : Begins rest → ⊥
    none_begins b = none.1 b.cert b.text b.rest b.is_text b.whole

    by_front : (n : ℕ) → n ≤ length rest → (more : List ℕ) (b : Begins (take n rest ++ more)) → GoesOn (take n rest) b.text ⊎ GoesOn b.text (take n rest) → n ≤ at
    by_front n le more b (inl on) = none.0.longest n le (b.cert, on.more, subst (λ t. CertText b.cert t) on.whole b.is_text)
    by_front n le more b (inr on) =
        let whole : rest ≡ b.text ++ (on.more ++ drop n rest) = sym (take-append-drop n rest) ∙ ap (λ t. t ++ drop n rest) on.whole ∙ append_assoc b.text on.more (drop n rest) in
        absurd (none.1 b.cert b.text (on.more ++ drop n rest) b.is_text whole)

    by_first : (n : ℕ) → n ≤ length rest → (more : List ℕ) → Begins (take n rest ++ more) → n ≤ at
    by_first n le more b = by_front n le more b (fronts (take n rest) b.text more b.rest b.whole)

-- something stands where nothing has to be
pub none_left : (rest : List ℕ) → 0 < length rest → IsNoFile 0 rest 0
none_left rest some = record {
  no_file = λ file. let e = ap (λ (l : List ℕ). length l) (none_empty rest file) in absurd (omega (arith, e, some));
  within = omega arith;
  begins = ([], record { certs = []; as_many = refl; texts = AreTexts.nothing });
  longest = λ n le b.
      let e = ap (λ (l : List ℕ). length l) (none_empty (take n rest ++ b.0) b.1) in
      let size = length-take-le n rest le in
      omega (arith, e, size, length-append (take n rest) b.0);
}

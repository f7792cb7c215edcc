-- What the loops of the cursor leave behind.
use Rattle.std.proofs.Common.{◌≡◌, ℕ, suc, ◌+◌, ◌*◌, ◌<◌, List, [], ◌∷◌, ◌++◌, length, drop, Ok, Err, refl, sym, ap, arith, append_assoc, drop-cons}
use Rattle.cert_text.specs.declared.cursor.Stop.{Stop}
use Rattle.cert_text.specs.declared.cursor.Stop.TheVariants.{Mem, Refused}
use Rattle.cert_text.specs.steps.Read.{Answer, Reads, ◌>>=◌, after_word, read_hex, read_bytes}

-- the text ends within the word
pub word_ended : (word text : List ℕ) (i : ℕ) → i < length word → length text ≡ 0 → after_word (drop i word) text ≡ Err text
word_ended word [] i lt none = rw (drop-cons word i 0 lt) refl
word_ended word (c ∷ cs) i lt none = absurd (omega arith)

-- where a part is refused, so is the whole
pub gives_err : {A B : Type 0} (stop : Stop) (part : Answer A) (whole : Answer B) (left : List ℕ) → ((e : List ℕ) → part ≡ Err e → whole ≡ Err e) → Reads {A = A} (Err stop) part left → Reads {A = B} (Err stop) whole left
gives_err Mem part whole left h given = tt
gives_err Refused part whole left h given = h left given

-- bytes in front of an answer's
abbrev pub put_front : List ℕ → Answer (List ℕ) → Answer (List ℕ)
put_front done (Ok r) = Ok (done ++ r.0, r.1)
put_front done (Err e) = Err e

pub put_front-none : (r : Answer (List ℕ)) → put_front [] r ≡ r
put_front-none (Ok r) = refl
put_front-none (Err e) = refl

pub refused_high : (done : List ℕ) (k : ℕ) (text e : List ℕ) → read_hex text ≡ Err e → put_front done (read_bytes (suc k) text) ≡ Err e
unfolding read_bytes
refused_high done k text e h = rw h refl

pub refused_low : (done : List ℕ) (k : ℕ) (text mid e : List ℕ) (high : ℕ) → read_hex text ≡ Ok (high, mid) → read_hex mid ≡ Err e → put_front done (read_bytes (suc k) text) ≡ Err e
unfolding read_bytes
refused_low done k text mid e high h l = rw (h, l) refl

put_front-push : (done : List ℕ) (b : ℕ) (r : Answer (List ℕ)) → put_front done (r >>= λ others. Ok (b ∷ others.0, others.1)) ≡ put_front (done ++ b ∷ []) r
put_front-push done b (Ok r) = ap (λ bs. Ok (bs, r.1)) (sym (append_assoc done (b ∷ []) r.0))
put_front-push done b (Err e) = refl

pub read_byte : (done : List ℕ) (k : ℕ) (text mid left : List ℕ) (high low : ℕ) → read_hex text ≡ Ok (high, mid) → read_hex mid ≡ Ok (low, left)
    → put_front done (read_bytes (suc k) text) ≡ put_front (done ++ (16 * high + low) ∷ []) (read_bytes k left)
unfolding read_bytes
read_byte done k text mid left high low h l = rw (h, l) (put_front-push done (16 * high + low) (read_bytes k left))

pub read_bytes-none : (done left : List ℕ) → put_front done (read_bytes 0 left) ≡ Ok (done ++ [], left)
unfolding read_bytes
read_bytes-none done left = refl

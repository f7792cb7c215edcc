-- Reading words and digests from the front of a text. Each function gives the part's value and what follows it, or else
-- the text from the first byte on that can't stand where it stands.
use Rattle.std.specs.Prelude.{ℕ, zero, suc, ◌+◌, ◌-◌, ◌*◌, ◌==◌, nat_le, Bool, false, ◌&&◌, List, [], ◌∷◌, Option, Some, None, Result, Ok, Err, if◌then◌else◌}
use Rattle.viz_base.specs.Answers.{Gives}
use Rattle.cert_text.specs.declared.cursor.Stop.{Stop}
use Rattle.cert_text.specs.declared.cursor.Stop.TheVariants.{Mem, Refused}

abbrev pub Answer : Type 0 → Type 0
Answer A = Result (A × List ℕ) (List ℕ)

infixl 10 ◌>>=◌
abbrev pub ◌>>=◌ : {A B E : Type 0} → Result A E → (A → Result B E) → Result B E
(Ok x) >>= f = f x
(Err e) >>= f = Err e

-- the bytes at which reading stopped, if it stopped at any
abbrev pub refused_at : List ℕ → Stop → Option (List ℕ)
refused_at left Mem = None
refused_at left Refused = Some left

-- a call gave the answer, and left what follows
abbrev pub Reads : {A : Type 0} → Result A Stop → Answer A → List ℕ → Type 0
Reads result answer left = Gives (λ value. (value, left)) (refused_at left) result answer

abbrev pub after_word : List ℕ → List ℕ → Answer (Unit {0})
after_word [] text = Ok (tt, text)
after_word (w ∷ ws) [] = Err []
after_word (w ∷ ws) (c ∷ cs) = if c == w then after_word ws cs else Err (c ∷ cs)

abbrev pub begins : ℕ → List ℕ → Bool
begins b [] = false
begins b (c ∷ cs) = c == b

-- the value of a digit in base 16, with lower case letters
abbrev pub lower_value : ℕ → Option ℕ
lower_value c =
    if nat_le 48 c && nat_le c 57 then Some (c - 48)
    else if nat_le 97 c && nat_le c 102 then Some (c - 97 + 10)
    else None

abbrev pub answer_hex : Option ℕ → ℕ → List ℕ → Answer ℕ
answer_hex (Some value) c cs = Ok (value, cs)
answer_hex None c cs = Err (c ∷ cs)

abbrev pub read_hex : List ℕ → Answer ℕ
read_hex [] = Err []
read_hex (c ∷ cs) = answer_hex (lower_value c) c cs

-- k bytes of two hex digits each
unfoldable pub read_bytes : ℕ → List ℕ → Answer (List ℕ)
read_bytes zero text = Ok ([], text)
read_bytes (suc k) text =
    read_hex text >>= λ high. read_hex high.1 >>= λ low. read_bytes k low.1 >>= λ others. Ok
    ((16 * high.0 + low.0) ∷ others.0, others.1)

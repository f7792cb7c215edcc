-- A number that was printed is read back.
use Rattle.std.proofs.Common.{◌≡◌, ◌≢◌, ℕ, ◌<◌, ◌^◌, List, [], ◌∷◌, length, ◌≤◌, ◌&&◌, nat_le, cond, Option, Some, None, MatchOption, refl, Bool, true, false, get_or, map, arith, Result, Ok, decimal, ap, sym, ◌∙◌}
use Rattle.viz_replies.specs.Generated.{sections_most}
use Rattle.viz_replies.specs.declared.question.Sections.{Sections}
use Rattle.std.specs.Str.Parse.{AllDigits, digits_value, ParsesUnsigned}
use Rattle.std.proofs.lemmas.Str.Parse.{IsNumeralModel, numerals_by_value, tells_digits, parse_gives}
use Rattle.std.proofs.lemmas.Bool.Decides.{nat_tests}
use Rattle.std.proofs.lemmas.Fmt.{decimal_injective, digits_decimal, digits_value-decimal, decimal_nonempty}

own : IsNumeralModel (AllDigits 10) (digits_value 10)
own = numerals_by_value (AllDigits 10) tells_digits

pub parsed : {E : Type 0} (word : List ℕ) (n : ℕ) (r : Result ℕ E) → n < 2 ^ 64 → word ≡ decimal n → ParsesUnsigned 64 10 word r → r ≡ Ok n
parsed word n r small e p =
    let q = rw e at p in
    let value = digits_value-decimal own n small in
    parse_gives own 64 (decimal n) r q (digits_decimal own n small) (decimal_nonempty n small) (rw value small) ∙ ap Ok value

-- ---- words that are there

-- the words of a list of five, and of four
pub words_5 : {X : Type 0} (f : X → List ℕ) (xs : List X) (a b c d e : X) → length xs ≡ 5 → a ≡ get_or xs 0 a → b ≡ get_or xs 1 b → c ≡ get_or xs 2 c → d ≡ get_or xs 3 d → e ≡ get_or xs 4 e
    → map f xs ≡ f a ∷ f b ∷ f c ∷ f d ∷ f e ∷ []
words_5 f [] a b c d e len p q r s t = absurd (omega arith)
words_5 f (x ∷ []) a b c d e len p q r s t = absurd (omega arith)
words_5 f (x ∷ y ∷ []) a b c d e len p q r s t = absurd (omega arith)
words_5 f (x ∷ y ∷ z ∷ []) a b c d e len p q r s t = absurd (omega arith)
words_5 f (x ∷ y ∷ z ∷ w ∷ []) a b c d e len p q r s t = absurd (omega arith)
words_5 f (x ∷ y ∷ z ∷ w ∷ v ∷ []) a b c d e len p q r s t = cc
words_5 f (x ∷ y ∷ z ∷ w ∷ v ∷ u ∷ rest) a b c d e len p q r s t = absurd (omega arith)

pub words_4 : {X : Type 0} (f : X → List ℕ) (xs : List X) (a b c d : X) → length xs ≡ 4 → a ≡ get_or xs 0 a → b ≡ get_or xs 1 b → c ≡ get_or xs 2 c → d ≡ get_or xs 3 d → map f xs ≡ f a ∷ f b ∷ f c ∷ f d ∷ []
words_4 f [] a b c d len p q r s = absurd (omega arith)
words_4 f (x ∷ []) a b c d len p q r s = absurd (omega arith)
words_4 f (x ∷ y ∷ []) a b c d len p q r s = absurd (omega arith)
words_4 f (x ∷ y ∷ z ∷ []) a b c d len p q r s = absurd (omega arith)
words_4 f (x ∷ y ∷ z ∷ w ∷ []) a b c d len p q r s = cc
words_4 f (x ∷ y ∷ z ∷ w ∷ v ∷ rest) a b c d len p q r s = absurd (omega arith)

-- ---- numbers within limits

by_test : (word : List ℕ) (n most : ℕ) (b : Bool) → n < 2 ^ 64 → most < 2 ^ 32 → word ≡ decimal n → (nat_le 1 n && nat_le n most) ≡ b
    → MatchOption (cond b (Some n) None) ((m : ℕ) → 1 ≤ m → m ≤ most → word ≢ decimal m) (λ m. (1 ≤ m) × (m ≤ most) × (word ≡ decimal m))
by_test word n most true small few is e = (grind (arith, nat_tests), grind (arith, nat_tests), is)
by_test word n most false small few is e = λ m least no_more same.
    let equal : n ≡ m = decimal_injective n m small (omega arith) (sym is ∙ same) in
    grind (arith, nat_tests)

pub number_within : (word : List ℕ) (n most : ℕ) (r : Option ℕ) → n < 2 ^ 64 → most < 2 ^ 32 → word ≡ decimal n → r ≡ cond (nat_le 1 n && nat_le n most) (Some n) None
    → MatchOption r ((m : ℕ) → 1 ≤ m → m ≤ most → word ≢ decimal m) (λ m. (1 ≤ m) × (m ≤ most) × (word ≡ decimal m))
number_within word n most r small few is e = rw e (by_test word n most (nat_le 1 n && nat_le n most) small few is refl)

-- ---- sections

pub sections_within : (word : List ℕ) (n : ℕ) (r : Option Sections) → n < 2 ^ 64 → word ≡ decimal n
    → MatchOption r (sections_most < n) (λ s. s.count ≡ n) → MatchOption r ((s : Sections) → word ≢ decimal s.count) (λ s. word ≡ decimal s.count)
sections_within word n None small is over = λ s same.
    let few = s.few in
    let equal : n ≡ s.count = decimal_injective n s.count small (omega arith) (sym is ∙ same) in
    omega arith
sections_within word n (Some s) small is count = is ∙ ap decimal (sym count)

-- Digits that spell a number, which are those that the writer gives.
use Rattle.std.proofs.Common.{◌≡◌, ℕ, ◌+◌, ◌-◌, ◌*◌, ◌/◌, ◌%◌, ◌^◌, ◌<◌, ◌≤◌, List, [], ◌∷◌, ◌++◌, refl, sym, ◌∙◌, ap, subst, arith, append_assoc}
use Rattle.std.specs.Fmt.{decimal}
use Rattle.std.specs.List.{AllByRecursion}
use Rattle.std.proofs.lemmas.List.{append-nil}
use Rattle.std.proofs.lemmas.Fmt.{decimal_digit, decimal_step_wide}

abbrev pub IsDigit : ℕ → Type 0
IsDigit c = (48 ≤ c) × (c ≤ 57)

-- the number that digits spell behind those of n
abbrev pub number_after : ℕ → List ℕ → ℕ
number_after n [] = n
number_after n (c ∷ cs) = number_after (10 * n + (c - 48)) cs

-- digits that spell n, the first of them not 0
pub record NumeralText (n : ℕ) (text : List ℕ) : Type 0 where
  pub first : ℕ
  pub others : List ℕ
  pub whole : text ≡ first ∷ others
  pub above_zero : (49 ≤ first) × (first ≤ 57)
  pub digits : AllByRecursion IsDigit others
  pub value : number_after (first - 48) others ≡ n

pub number_after-ge : (n : ℕ) (cs : List ℕ) → n ≤ number_after n cs
number_after-ge n [] = omega arith
number_after-ge n (c ∷ cs) = omega (arith, number_after-ge (10 * n + (c - 48)) cs)

numeral_on : (n : ℕ) (ds others : List ℕ) → 1 ≤ n → decimal n ≡ ds → AllByRecursion IsDigit others → number_after n others < 10 ^ 64 → decimal (number_after n others) ≡ ds ++ others
numeral_on n ds [] above is digits small = is ∙ sym (append-nil ds)
numeral_on n ds (c ∷ cs) above is digits small =
    let m = 10 * n + (c - 48) in
    let digit = digits.0 in
    let ge = number_after-ge m cs in
    let large : 10 ≤ m = omega arith in
    let m_small : m < 10 ^ 64 = omega arith in
    let top : m / 10 ≡ n = omega arith in
    let bottom : 48 + m % 10 ≡ c = omega arith in
    let step : decimal m ≡ ds ++ c ∷ [] = decimal_step_wide m large m_small ∙ rw (top, bottom, is) refl in
    numeral_on m (ds ++ c ∷ []) cs (omega arith) step digits.1 small ∙ append_assoc ds (c ∷ []) cs

pub numeral_spelled : (n : ℕ) (t : List ℕ) → NumeralText n t → n < 10 ^ 64 → decimal n ≡ t
numeral_spelled n t h small =
    let one = h.above_zero in
    let code : 48 + (h.first - 48) ≡ h.first = omega arith in
    let digit : decimal (h.first - 48) ≡ h.first ∷ [] = decimal_digit (h.first - 48) (omega arith) ∙ ap (λ x. x ∷ []) code in
    let value = h.value in
    let whole : decimal (number_after (h.first - 48) h.others) ≡ h.first ∷ h.others = numeral_on (h.first - 48) (h.first ∷ []) h.others (omega arith) digit h.digits (omega arith) in
    subst (λ m. decimal m ≡ t) value (whole ∙ sym h.whole)

-- Which numbers of a division and of a comparison are in `i128`, and what they give.
use Rattle.std.proofs.Common.{◌≡◌, ℕ, suc, ◌+◌, ℤ, pos, Bool, true, false, cond, not, ◌&&◌, ◌||◌, nat_lt, List, [], ◌∷◌, ◌++◌, length, Some, None, refl, sym, ◌∙◌, ap, subst, arith, position}
use Rattle.std.specs.Prelude.{Result, Ok, Err, Option, is_some, is_none}
use Rattle.std.specs.List.{list_any, position_or_len}
use Rattle.std.proofs.lemmas.List.Folds.{list_any-append}
use Rattle.viz_calc.specs.declared.calc.Halt.{Halt}
use Rattle.viz_calc.specs.declared.calc.Halt.TheVariants.{Mem, Coeff, Open}
use Rattle.lin_proof.specs.Form.{Form, Terms, form_fits, plus}
use Rattle.lin_proof.specs.Derivations.{are_declared}
use Rattle.cert_semantics.specs.Axes.{axis_count}
use Rattle.cert_semantics.specs.Facts.{row_of}
use Rattle.cert_semantics.specs.Shapes.{has_variable}
use Rattle.sym_calc.specs.declared.floors.Floor.{Floor}
use Rattle.sym_calc.specs.Division.{quotient, remainder}
use Rattle.sym_calc.specs.Floors.{same_floor, floor_fits}
use Rattle.sym_calc.specs.Given.{IsGiven, IsGivenWithin, IsWithin}
use Rattle.sym_calc.specs.Divided.{floor_variable, can_be, is_floor, rest_by, with_rest, divided, division_fits}

-- ---- answers

-- the same answer, where what fits is known to be the same
pub given_same : {A : Type 0} (r : Result A Halt) (x y : A) (b c : Bool) → x ≡ y → b ≡ c → IsGivenWithin r x b → IsGivenWithin r y c
given_same (Ok a) x y b c is fits h = (h.0 ∙ is, sym fits ∙ h.1)
given_same (Err Mem) x y b c is fits h = tt
given_same (Err Coeff) x y b c is fits h = sym fits ∙ h
given_same (Err Open) x y b c is fits h = h

pub within_same : {A : Type 0} (r : Result A Halt) (b c : Bool) → b ≡ c → IsWithin r b → IsWithin r c
within_same r b c fits h = subst (IsWithin r) fits h

-- a halt of a row that is computed first
pub halted : {A : Type 0} (halt : Halt) (row : Form) (exact : A) (rest : Bool) → IsGiven (Err halt) row → IsGivenWithin (Err halt) exact (form_fits row && rest)
halted Mem row exact rest h = tt
halted Coeff row exact rest h = ap (λ b. b && rest) h
halted Open row exact rest h = h

pub halted_within : (A : Type 0) (halt : Halt) (row : Form) (rest : Bool) → IsGiven (Err halt) row → IsWithin {A = A} (Err halt) (form_fits row && rest)
halted_within A Mem row rest h = tt
halted_within A Coeff row rest h = ap (λ b. b && rest) h
halted_within A Open row rest h = absurd h

-- ---- rows without variables

no_variable : (ts : Terms) → ts ≡ [] → nat_lt 0 (length ts) ≡ false
no_variable ts none = ap (λ us. nat_lt 0 (length us)) none

pub constant_fits : (row : Form) (rest : Bool) → row.terms ≡ [] → form_fits row ≡ true → (form_fits row && (not (has_variable row) || rest)) ≡ true
constant_fits row rest none fits = λ i. fits i && (not (no_variable row.terms none i) || rest)

pub variable_fits : (row : Form) (rest : Bool) → has_variable row ≡ true → form_fits row ≡ true → rest ≡ (form_fits row && (not (has_variable row) || rest))
variable_fits row rest some fits = λ i. sym fits i && (not (sym some i) || rest)

-- ---- what is asked

module _ {A : Type 0} (t : Option A) (row : Form) where
  asks_none : row.terms ≡ [] → (has_variable row && is_none t) ≡ false
  asks_none none = ap (λ b. b && is_none t) (no_variable row.terms none)

  asks_some : has_variable row ≡ true → (has_variable row && is_none t) ≡ is_none t
  asks_some some = ap (λ b. b && is_none t) some

  -- a row without variables asks nothing
  pub constant_asks : {B : Type 0} → row.terms ≡ [] → (x y : B) → y ≡ cond (has_variable row && is_none t) x y
  constant_asks none x y = ap (λ b. cond b x y) (sym (asks_none none))

  pub constant_fits_too : (rest : Bool) → row.terms ≡ [] → form_fits row ≡ true → (form_fits row && (not (has_variable row && is_none t) || rest)) ≡ true
  constant_fits_too rest none fits = λ i. fits i && (not (asks_none none i) || rest)

  -- another asks where it is not told
  pub variable_asks : {B : Type 0} → has_variable row ≡ true → (x y : B) → cond (is_some t) y x ≡ cond (has_variable row && is_none t) x y
  variable_asks some x y = by_told t ∙ ap (λ b. cond b x y) (sym (asks_some some))
    where
      by_told : (o : Option A) → cond (is_some o) y x ≡ cond (is_none o) x y
      by_told None = refl
      by_told (Some a) = refl

  pub variable_fits_too : (rest : Bool) → has_variable row ≡ true → form_fits row ≡ true → (is_some t || rest) ≡ (form_fits row && (not (has_variable row && is_none t) || rest))
  variable_fits_too rest some fits = by_told t ∙ (λ i. sym fits i && (not (sym (asks_some some) i) || rest))
    where
      by_told : (o : Option A) → (is_some o || rest) ≡ (not (is_none o) || rest)
      by_told None = refl
      by_told (Some a) = refl

-- ---- the variable of a floor

module _ (p : Floor → Bool) where
  -- the place of the first that passes, and that there is none
  among : (xs ys : List Floor) → list_any p xs ≡ true → position_or_len p (xs ++ ys) ≡ position_or_len p xs
  among [] ys some = absurd (cc)
  among (x ∷ xs) ys some = by_test (p x) refl (among xs ys)
    where
      by_test : (b : Bool) → p x ≡ b → (list_any p xs ≡ true → position_or_len p (xs ++ ys) ≡ position_or_len p xs)
          → cond (not (p x)) (1 + position_or_len p (xs ++ ys)) 0 ≡ cond (not (p x)) (1 + position_or_len p xs) 0
      by_test true e more = (λ i. cond (not (e i)) (1 + position_or_len p (xs ++ ys)) 0) ∙ sym (λ i. cond (not (e i)) (1 + position_or_len p xs) 0)
      by_test false e more = ap (λ n. cond (not (p x)) (1 + n) 0) (more ((λ i. sym e i || list_any p xs) ∙ some))

  behind : (xs ys : List Floor) → list_any p xs ≡ false → position_or_len p (xs ++ ys) ≡ length xs + position_or_len p ys
  behind [] ys none = let first : 0 + position_or_len p ys ≡ position_or_len p ys = omega arith in sym first
  behind (x ∷ xs) ys none = by_test (p x) refl (behind xs ys)
    where
      by_test : (b : Bool) → p x ≡ b → (list_any p xs ≡ false → position_or_len p (xs ++ ys) ≡ length xs + position_or_len p ys)
          → cond (not (p x)) (1 + position_or_len p (xs ++ ys)) 0 ≡ suc (length xs) + position_or_len p ys
      by_test true e more = let some : true ≡ false = (λ i. sym e i || list_any p xs) ∙ none in absurd (cc)
      by_test false e more =
          let rest = more ((λ i. sym e i || list_any p xs) ∙ none) in
          let next : 1 + position_or_len p (xs ++ ys) ≡ suc (length xs) + position_or_len p ys = omega (arith, rest) in
          (λ i. cond (not (e i)) (1 + position_or_len p (xs ++ ys)) 0) ∙ next

  no_place : (xs : List Floor) → list_any p xs ≡ false → position_or_len p xs ≡ length xs
  no_place [] none = refl
  no_place (x ∷ xs) none = by_test (p x) refl (no_place xs)
    where
      by_test : (b : Bool) → p x ≡ b → (list_any p xs ≡ false → position_or_len p xs ≡ length xs) → cond (not (p x)) (1 + position_or_len p xs) 0 ≡ suc (length xs)
      by_test true e more = let some : true ≡ false = (λ i. sym e i || list_any p xs) ∙ none in absurd (cc)
      by_test false e more =
          let rest = more ((λ i. sym e i || list_any p xs) ∙ none) in
          let next : 1 + position_or_len p xs ≡ suc (length xs) = omega (arith, rest) in
          (λ i. cond (not (e i)) (1 + position_or_len p xs) 0) ∙ next

  any_first : (xs ys : List Floor) → list_any p xs ≡ true → list_any p (xs ++ ys) ≡ true
  any_first xs ys some = list_any-append p xs ys ∙ (λ i. some i || list_any p ys)

  any_later : (xs ys : List Floor) → list_any p xs ≡ false → list_any p (xs ++ ys) ≡ list_any p ys
  any_later xs ys none = list_any-append p xs ys ∙ (λ i. none i || list_any p ys)

  at_place : (xs : List Floor) (n : ℕ) → position p xs ≡ Some n → n ≡ position_or_len p xs
  at_place xs n is = by_test (nat_lt (position_or_len p xs) (length xs)) is
    where
      by_test : (b : Bool) → cond b (Some (position_or_len p xs)) None ≡ Some n → n ≡ position_or_len p xs
      by_test true e = cc
      by_test false e = absurd (cc)

module _ (form : ℕ) (f : Floor) (xs ys : List Floor) where
  pub named_before : (n : ℕ) → position (same_floor f) xs ≡ Some n → list_any (same_floor f) xs ≡ true → IsGivenWithin (Ok (n + axis_count form)) (floor_variable form (xs ++ ys) f) (is_floor form (xs ++ ys) f)
  named_before n is some = (
    ap (λ m. m + axis_count form) (at_place (same_floor f) xs n is ∙ sym (among (same_floor f) xs ys some)),
    λ i. any_first (same_floor f) xs ys some i || can_be (length (xs ++ ys) + axis_count form) f,
  )

  pub named_behind : (n : ℕ) → list_any (same_floor f) xs ≡ false → position (same_floor f) ys ≡ Some n → list_any (same_floor f) ys ≡ true
      → IsGivenWithin (Ok (length xs + n + axis_count form)) (floor_variable form (xs ++ ys) f) (is_floor form (xs ++ ys) f)
  named_behind n none is some = (
    ap (λ m. m + axis_count form) (ap (λ m. length xs + m) (at_place (same_floor f) ys n is) ∙ sym (behind (same_floor f) xs ys none)),
    λ i. (any_later (same_floor f) xs ys none ∙ some) i || can_be (length (xs ++ ys) + axis_count form) f,
  )

  pub named_next : (r : Result ℕ Halt) → list_any (same_floor f) xs ≡ false → list_any (same_floor f) ys ≡ false
      → IsGivenWithin r (length (xs ++ ys) + axis_count form) (can_be (length (xs ++ ys) + axis_count form) f) → IsGivenWithin r (floor_variable form (xs ++ ys) f) (is_floor form (xs ++ ys) f)
  named_next r first later h =
      let none : list_any (same_floor f) (xs ++ ys) ≡ false = any_later (same_floor f) xs ys first ∙ later in
      let next = can_be (length (xs ++ ys) + axis_count form) f in
      given_same r _ _ _ _ (ap (λ m. m + axis_count form) (sym (no_place (same_floor f) (xs ++ ys) none))) (λ i. sym none i || next) h

-- ---- a floor that can be the next

pub is_next : (x y : ℕ) (f : Floor) → x ≡ y → are_declared x f.row.terms ≡ true → floor_fits x f ≡ true → can_be y f ≡ true
is_next x y f is declared fits =
    λ i. (ap (λ z. are_declared z f.row.terms) (sym is) ∙ declared) i && (ap (λ z. floor_fits z f) (sym is) ∙ fits) i

-- ---- a row that is divided

module _ (form : ℕ) (named : List Floor) (d : ℤ) (row : Form) (rest : Form) (left : rest ≡ remainder d row) where
  pub given_alone : (whole : Form) → whole ≡ quotient d row → rest.terms ≡ [] → IsGivenWithin (Ok whole) (divided form named d row) (division_fits form named d row)
  given_alone whole is none =
      let no : has_variable (remainder d row) ≡ false = no_variable (remainder d row).terms (ap (λ (f : Form). f.terms) (sym left) ∙ none) in (
        is ∙ (λ i. cond (sym no i) (with_rest form named d row) (quotient d row)),
        λ i. cond (no i) (is_floor form named (rest_by d row) && form_fits (with_rest form named d row)) true,
      )

  module _ (some : has_variable rest ≡ true) where
    has : has_variable (remainder d row) ≡ true
    has = ap has_variable (sym left) ∙ some

    floor_is : record { row = rest; by = d } ≡ rest_by d row
    floor_is = λ i. record { row = left i; by = d }

    fits_with : is_floor form named (rest_by d row) && form_fits (with_rest form named d row) ≡ division_fits form named d row
    fits_with = λ i. cond (sym has i) (is_floor form named (rest_by d row) && form_fits (with_rest form named d row)) true

    -- a halt of the floor
    pub floor_halted : (halt : Halt) → IsGivenWithin (Err halt) (floor_variable form named (record { row = rest; by = d })) (is_floor form named (record { row = rest; by = d }))
        → IsGivenWithin (Err halt) (divided form named d row) (division_fits form named d row)
    floor_halted Mem h = tt
    floor_halted Coeff h = sym fits_with ∙ (λ i. (ap (is_floor form named) (sym floor_is) ∙ h) i && form_fits (with_rest form named d row))
    floor_halted Open h = h

    pub given_with : (whole : Form) (x : ℕ) → whole ≡ quotient d row → IsGivenWithin (Ok x) (floor_variable form named (record { row = rest; by = d })) (is_floor form named (record { row = rest; by = d }))
        → (r : Result Form Halt) → IsGiven r (plus whole (pos 1) (row_of (pos 0) (pos 1) x)) → IsGivenWithin r (divided form named d row) (division_fits form named d row)
    given_with whole x is floor r h =
        let variable : x ≡ floor_variable form named (rest_by d row) = floor.0 ∙ ap (floor_variable form named) floor_is in
        let exact : plus whole (pos 1) (row_of (pos 0) (pos 1) x) ≡ with_rest form named d row = λ i. plus (is i) (pos 1) (row_of (pos 0) (pos 1) (variable i)) in
        let named_so : is_floor form named (rest_by d row) ≡ true = ap (is_floor form named) (sym floor_is) ∙ floor.1 in
        by_answer r (subst (IsGiven r) exact h)
        (λ i. cond (sym has i) (with_rest form named d row) (quotient d row)) ((λ i. sym named_so i && form_fits (with_rest form named d row)) ∙ fits_with)
      where
        by_answer : (r : Result Form Halt) → IsGiven r (with_rest form named d row) → with_rest form named d row ≡ divided form named d row → form_fits (with_rest form named d row) ≡ division_fits form named d row
            → IsGivenWithin r (divided form named d row) (division_fits form named d row)
        by_answer (Ok a) g same fits = (g.0 ∙ same, sym fits ∙ g.1)
        by_answer (Err Mem) g same fits = tt
        by_answer (Err Coeff) g same fits = sym fits ∙ g
        by_answer (Err Open) g same fits = g

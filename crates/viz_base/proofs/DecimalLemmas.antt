use Rattle.std.proofs.Common.{rules, arith, sym, subst, take-append-drop, pos, refl, ap, ◌∙◌, ◌≡◌, ◌≤◌, ◌^◌, ◌+◌, ◌-◌, ◌*◌, ℕ, Bool, true, false, List, [], ◌∷◌, ◌++◌, length, take, drop, replicate, Option, Some, None}
use Rattle.std.proofs.lemmas.Bool.Decides.{nat_tests}
use Rattle.std.proofs.lemmas.List.{drop-replicate, take_min}
use Rattle.std.proofs.lemmas.List.Folds.{list_all-append}
use Rattle.std.specs.Prelude.{min, cond, ◌&&◌, ◌==◌, nat_lt, nat_le}
use Rattle.std.specs.Char.{is_ascii_digit, digit_value}
use Rattle.std.specs.List.{list_all, position, before_first, after_first}
use Rattle.std.specs.Option.{option_and_then, option_map, option_map_or}
use Rattle.std.specs.Str.Parse.{digits_value_after}
use Rattle.viz_base.proofs.Truths.{by_bool, and_first, and_second}
use Rattle.viz_base.specs.Decimals.{is_point, read_digits, number_of, six_digits, number_parts, number_read, decimal_of}

-- the value of a list of digits, held at the first number past the bound
abbrev held : ℕ → List ℕ → Option ℕ
held n cs = cond (list_all is_ascii_digit cs) (Some (min (digits_value_after 10 n cs) (2 ^ 40 + 1))) None

pub digit_is : (c : ℕ) → is_ascii_digit c ≡ true → digit_value c ≡ c - 48
digit_is c h = grind (arith, nat_tests)

step_is : (n d : ℕ) → min (min n (2 ^ 40 + 1) * 10 + d) (2 ^ 40 + 1) ≡ min (n * 10 + d) (2 ^ 40 + 1)
step_is n d = grind arith

reads : (n : ℕ) (cs : List ℕ) → read_digits (min n (2 ^ 40 + 1)) cs ≡ held n cs
reads n [] = refl
reads n (c ∷ cs) = by_bool (is_ascii_digit c)
    (λ yes. rw (yes, step_is n (c - 48)) (subst (λ d. read_digits (min (n * 10 + d) (2 ^ 40 + 1)) cs ≡ cond (true && list_all is_ascii_digit cs)
    (Some (min (digits_value_after 10 (n * 10 + digit_value c) cs) (2 ^ 40 + 1))) None) (digit_is c yes) (reads (n * 10 + digit_value c) cs)))
    (λ no. rw no refl)

reads_more : (n : ℕ) (xs ys : List ℕ) → option_and_then (λ m. read_digits m ys) (read_digits n xs) ≡ read_digits n (xs ++ ys)
reads_more n [] ys = refl
reads_more n (x ∷ xs) ys = by_bool (is_ascii_digit x)
    (λ yes. rw yes (reads_more (min (n * 10 + (x - 48)) (2 ^ 40 + 1)) xs ys))
    (λ no. rw no refl)

-- a front and a rest of digits are digits
parts_digits : (k : ℕ) (cs : List ℕ) → list_all is_ascii_digit cs ≡ true
    → (list_all is_ascii_digit (take k cs) ≡ true) × (list_all is_ascii_digit (drop k cs) ≡ true)
parts_digits k cs h =
    let whole = sym (list_all-append is_ascii_digit (take k cs) (drop k cs)) ∙ ap (list_all is_ascii_digit) (take-append-drop k cs) ∙ h in
    (and_first _ _ whole, and_second _ _ whole)

six_are_digits : (cs : List ℕ) → list_all is_ascii_digit cs ≡ true → list_all is_ascii_digit (six_digits cs) ≡ true
six_are_digits cs h =
    rw (list_all-append is_ascii_digit (take 6 cs) (drop (length cs) (replicate 6 48)), (parts_digits 6 cs h).0, (parts_digits (length cs) (replicate 6 48) refl).1) refl

-- zeros past the sixth are none
zeros_is : (k : ℕ) → drop {A = ℕ} (min k 6) (replicate 6 48) ≡ drop k (replicate 6 48)
zeros_is k = drop-replicate (min k 6) 6 48 ∙ ap (λ n. replicate n 48) (grind arith) ∙ sym (drop-replicate k 6 48)

front_is : (cs : List ℕ) → take (min (length cs) 6) cs ≡ take 6 cs
front_is cs = ap (λ n. take n cs) (grind arith) ∙ take_min 6 cs

reads_twice : (o : Option ℕ) (ys zs : List ℕ)
    → option_and_then (λ n. option_and_then (λ m. read_digits m zs) (read_digits n ys)) o ≡ option_and_then (λ n. read_digits n (ys ++ zs)) o
reads_twice None ys zs = refl
reads_twice (Some n) ys zs = reads_more n ys zs

value_of : List ℕ → List ℕ → ℕ
value_of w f = digits_value_after 10 0 (w ++ six_digits f)

number_is : (w f : List ℕ) → number_of w f
    ≡ cond (list_all is_ascii_digit f) (cond (list_all is_ascii_digit w) (Some (min (value_of w f) (2 ^ 40 + 1))) None) None
unfolding value_of
number_is w f = by_bool (list_all is_ascii_digit f)
    (λ yes. rw yes (
    ap (λ front. option_and_then (λ n. option_and_then (λ m. read_digits m (drop (min (length f) 6) (replicate 6 48))) (read_digits n front)) (read_digits 0 w)) (front_is f)
    ∙ ap (λ back. option_and_then (λ n. option_and_then (λ m. read_digits m back) (read_digits n (take 6 f))) (read_digits 0 w)) (zeros_is (length f))
    ∙ reads_twice (read_digits 0 w) (take 6 f) (drop (length f) (replicate 6 48))
    ∙ reads_more 0 w (six_digits f)
    ∙ reads 0 (w ++ six_digits f)
    ∙ ap (λ b. cond b (Some (min (value_of w f) (2 ^ 40 + 1))) None) (list_all-append is_ascii_digit w (six_digits f) ∙ and_true (six_are_digits f yes))))
    (λ no. rw no refl)
  where
    and_true : {a b : Bool} → b ≡ true → (a && b) ≡ a
    and_true {a = true} h = h
    and_true {a = false} h = refl

-- a number held at the first one past the bound, and none in its place
pub within : Option ℕ → Option ℕ
within None = None
within (Some n) = cond (n == 2 ^ 40 + 1) None (Some n)

within_is : (v : ℕ) → within (Some (min v (2 ^ 40 + 1))) ≡ cond (nat_le v (2 ^ 40)) (Some v) None
unfolding within
within_is v = by_bool (nat_le v (2 ^ 40))
    (λ yes. let is : min v (2 ^ 40 + 1) ≡ v = grind (arith, nat_tests) in
    let other : (v == 2 ^ 40 + 1) ≡ false = grind (arith, nat_tests) in
    rw (is, yes, other) refl)
    (λ no. let is : min v (2 ^ 40 + 1) ≡ 2 ^ 40 + 1 = grind (arith, nat_tests) in rw (is, no) refl)

cases : (w f b : Bool) (v : ℕ) → within (cond b (cond f (cond w (Some (min v (2 ^ 40 + 1))) None) None) None)
    ≡ cond ((w && f && b) && nat_le v (2 ^ 40)) (Some v) None
unfolding within
cases true true true v = within_is v
cases true true false v = refl
cases true false true v = refl
cases true false false v = refl
cases false true true v = refl
cases false true false v = refl
cases false false true v = refl
cases false false false v = refl

pub decimal_is : (text : List ℕ) → within (number_read text) ≡ decimal_of text
unfolding value_of within
decimal_is text =
    let w = before_first is_point text in
    let f = after_first is_point text in
    let b = option_map_or (λ at. nat_lt 0 (length f)) (position is_point text) (nat_lt 0 (length text)) in
    ap within (spread b w f ∙ ap (λ o. cond b o None) (number_is w f)) ∙ cases (list_all is_ascii_digit w) (list_all is_ascii_digit f) b (value_of w f)
  where
    spread : (b : Bool) (w f : List ℕ) → option_and_then (λ (p : List ℕ × List ℕ). number_of p.0 p.1) (cond b (Some (w, f)) None) ≡ cond b (number_of w f) None
    spread true w f = refl
    spread false w f = refl

pub answer_is : (text : List ℕ) (o : Option ℕ) → o ≡ number_read text → option_map pos (within o) ≡ option_map pos (decimal_of text)
answer_is text o h = ap (λ o. option_map pos (within o)) h ∙ ap (option_map pos) (decimal_is text)

pub none_is : (text : List ℕ) → None ≡ number_read text → None ≡ option_map pos (decimal_of text)
unfolding within
none_is text h = answer_is text None h

pub past_is : (text : List ℕ) (n : ℕ) → n ≡ 2 ^ 40 + 1 → Some n ≡ number_read text → None ≡ option_map pos (decimal_of text)
unfolding within
past_is text n k h =
    let e : (n == 2 ^ 40 + 1) ≡ true = grind (arith, nat_tests) in
    subst (λ b. option_map pos (cond b None (Some n)) ≡ option_map pos (decimal_of text)) e (answer_is text (Some n) h)

pub some_is : (text : List ℕ) (n : ℕ) → (n ≡ 2 ^ 40 + 1 → ⊥) → Some n ≡ number_read text → Some (pos n) ≡ option_map pos (decimal_of text)
unfolding within
some_is text n k h =
    let e : (n == 2 ^ 40 + 1) ≡ false = grind (arith, nat_tests) in
    subst (λ b. option_map pos (cond b None (Some n)) ≡ option_map pos (decimal_of text)) e (answer_is text (Some n) h)

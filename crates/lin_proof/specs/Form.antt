-- Linear forms over whole numbers.
use Rattle.std.specs.Prelude.{◌≢◌, ℕ, ◌<◌, ◌==◌, nat_lt, ℤ, pos, neg_ℤ, ◌+ℤ◌, ◌-ℤ◌, ◌*ℤ◌, Bool, ◌&&◌, List, [], ◌∷◌, map, Option, Some, None, if◌then◌else◌, ⊤}
use Rattle.std.specs.Ordering.{int_eq}
use Rattle.std.specs.List.{list_all, AllByRecursion}
use Rattle.lin_proof.specs.Number.{in_i128}

-- each a variable's number and its coefficient
abbrev pub Terms : Type 0
Terms = List (ℕ × ℤ)

-- a constant and terms
pub record Form : Type 0 where
  pub k : ℤ
  pub terms : Terms

-- the sum of each coefficient times its variable, where v gives the variables' values
abbrev pub terms_value : Terms → (ℕ → ℤ) → ℤ
terms_value [] v = pos 0
terms_value (t ∷ ts) v = t.1 *ℤ v t.0 +ℤ terms_value ts v

abbrev pub value : Form → (ℕ → ℤ) → ℤ
value f v = f.k +ℤ terms_value f.terms v

-- variables strictly ascend, and no coefficient is 0
abbrev pub IsAbove : ℕ → Terms → Type 0
IsAbove x = AllByRecursion (λ t. x < t.0)

abbrev pub IsCanonical : Terms → Type 0
IsCanonical [] = ⊤
IsCanonical (t ∷ ts) = IsAbove t.0 ts × (t.1 ≢ pos 0) × IsCanonical ts

-- whether each coefficient is one of `i128`
abbrev pub terms_fit : Terms → Bool
terms_fit = list_all (λ t. in_i128 t.1)

abbrev pub checked_terms : Terms → Option Terms
checked_terms ts = if terms_fit ts then Some ts else None

-- whether each number of the form is one of `i128`
abbrev pub form_fits : Form → Bool
form_fits f = in_i128 f.k && terms_fit f.terms

abbrev pub checked_form : Form → Option Form
checked_form f = if form_fits f then Some f else None

abbrev pub opposites : Terms → Terms
opposites = map (λ t. (t.0, neg_ℤ t.1))

-- the negative of the form less 1, which over whole numbers is at least 0 exactly where the form is below 0
abbrev pub denied : Form → Form
denied f = record { k = neg_ℤ f.k -ℤ pos 1; terms = opposites f.terms }

-- a term in front, unless its coefficient is 0
abbrev pub put : ℕ → ℤ → Terms → Terms
put x c ts = if int_eq c (pos 0) then ts else (x, c) ∷ ts

-- the terms plus c times the variable x, at its place among them
abbrev pub plus_term : ℕ → ℤ → Terms → Terms
plus_term x c [] = put x c []
plus_term x c (t ∷ ts) =
    if nat_lt x t.0 then put x c (t ∷ ts) else (if x == t.0 then put x (t.1 +ℤ c) ts else t ∷ plus_term x c ts)

-- the terms plus m times each of the others
abbrev pub plus_terms : Terms → ℤ → Terms → Terms
plus_terms ts m [] = ts
plus_terms ts m (u ∷ us) = plus_term u.0 (m *ℤ u.1) (plus_terms ts m us)

-- the form plus m times another
abbrev pub plus : Form → ℤ → Form → Form
plus f m g = record { k = f.k +ℤ m *ℤ g.k; terms = plus_terms f.terms m g.terms }

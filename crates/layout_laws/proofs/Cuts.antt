use Rattle.std.proofs.Common.{◌≡◌, ℕ, zero, suc, ◌<◌, Bool, true, false, if◌then◌else◌, List, [], ◌∷◌, ◌++◌, length, take, reverse, refl, sym, ◌∙◌, ap, subst, length-append, ◌↔◌, arith}
use Rattle.std.specs.List.{AllByRecursion, onto_first}
use Rattle.layout_semantics.specs.InlineContent.{Item}
use Rattle.layout_semantics.specs.Segments.{cut_where}
use Rattle.layout_semantics.specs.LineFilling.{joined}
use Rattle.layout_laws.specs.Parts.{IsFull, EndsAPart}
use mathlib.Core.List.{reverse_aux}

abbrev pub Test : Type 0
Test = List Item → List Item → Bool

-- an item before parts, as a part of its own where the test holds after it
abbrev with_item : Item → Bool → List (List Item) → List (List Item)
with_item i b parts = if b then (i ∷ []) ∷ parts else onto_first i parts

-- ---- nothing is lost

joined-first : (i : Item) (parts : List (List Item)) → joined (onto_first i parts) ≡ i ∷ joined parts
joined-first i [] = refl
joined-first i (part ∷ parts) = refl

pub cut-joined : (test : Test) (back items : List Item) → joined (cut_where test back items) ≡ items
cut-joined test back [] = refl
cut-joined test back (i ∷ items) = by (test (i ∷ back) items) (cut-joined test (i ∷ back) items)
  where
    by : (b : Bool) → joined (cut_where test (i ∷ back) items) ≡ items → joined (with_item i b (cut_where test (i ∷ back) items)) ≡ i ∷ items
    by true e = ap (λ l. i ∷ l) e
    by false e = joined-first i (cut_where test (i ∷ back) items) ∙ ap (λ l. i ∷ l) e

-- ---- no part is empty

first-full : (i : Item) (parts : List (List Item)) → AllByRecursion IsFull parts → AllByRecursion IsFull (onto_first i parts)
first-full i [] a = (omega arith, tt)
first-full i (part ∷ parts) a = (omega arith, a.1)

pub cut-full : (test : Test) (back items : List Item) → AllByRecursion IsFull (cut_where test back items)
cut-full test back [] = tt
cut-full test back (i ∷ items) = by (test (i ∷ back) items) (cut-full test (i ∷ back) items)
  where
    by : (b : Bool) → AllByRecursion IsFull (cut_where test (i ∷ back) items) → AllByRecursion IsFull (with_item i b (cut_where test (i ∷ back) items))
    by true a = (omega arith, a)
    by false a = first-full i (cut_where test (i ∷ back) items) a

-- ---- the parts end where the test holds

-- what is before, nearest first, with more before it
abbrev pub behind : List Item → List Item → List Item
behind back [] = back
behind back (i ∷ before) = behind (i ∷ back) before

abbrev tail_of : List Item → List Item
tail_of [] = []
tail_of (i ∷ items) = items

-- an item before parts moves their ends by it
to_later : (i : Item) (b : Bool) (parts : List (List Item)) (before : List Item) → 0 < length before → EndsAPart parts before → EndsAPart (with_item i b parts) (i ∷ before)
to_later i true parts before some e = record { count = suc e.count; whole = ap (λ l. i ∷ l) e.whole }
to_later i false [] before some e = absurd (by e.count e.whole)
  where
    by : (n : ℕ) → before ≡ joined (take n []) → ⊥
    by zero w = let l = ap length w in omega arith
    by (suc n) w = let l = ap length w in omega arith
to_later i false (part ∷ parts) before some e = by e.count e.whole
  where
    by : (n : ℕ) → before ≡ joined (take n (part ∷ parts)) → EndsAPart ((i ∷ part) ∷ parts) (i ∷ before)
    by zero w = absurd (let l = ap length w in omega arith)
    by (suc n) w = record { count = suc n; whole = ap (λ l. i ∷ l) w }

from_later : (i : Item) (b : Bool) (parts : List (List Item)) (before : List Item) → 0 < length before → EndsAPart (with_item i b parts) (i ∷ before) → EndsAPart parts before
from_later i true parts before some e = by e.count e.whole
  where
    by : (n : ℕ) → i ∷ before ≡ joined (take n ((i ∷ []) ∷ parts)) → EndsAPart parts before
    by zero w = absurd (let l = ap length w in omega arith)
    by (suc n) w = record { count = n; whole = ap tail_of w }
from_later i false [] before some e = absurd (by e.count e.whole)
  where
    none : (n : ℕ) → i ∷ before ≡ (i ∷ []) ++ joined (take n []) → ⊥
    none zero w = let l = ap length w in omega arith
    none (suc n) w = let l = ap length w in omega arith

    by : (n : ℕ) → i ∷ before ≡ joined (take n ((i ∷ []) ∷ [])) → ⊥
    by zero w = let l = ap length w in omega arith
    by (suc n) w = none n w
from_later i false (part ∷ parts) before some e = by e.count e.whole
  where
    by : (n : ℕ) → i ∷ before ≡ joined (take n ((i ∷ part) ∷ parts)) → EndsAPart (part ∷ parts) before
    by zero w = absurd (let l = ap length w in omega arith)
    by (suc n) w = record { count = suc n; whole = ap tail_of w }

-- the first item is a part where the test holds after it
first-ends : (i : Item) (b : Bool) (parts : List (List Item)) → 0 < length (joined parts) → AllByRecursion IsFull parts → EndsAPart (with_item i b parts) (i ∷ []) → b ≡ true
first-ends i true parts some full e = refl
first-ends i false [] some full e = absurd (omega (arith, some))
first-ends i false (part ∷ parts) some full e = absurd (by e.count e.whole)
  where
    by : (n : ℕ) → i ∷ [] ≡ joined (take n ((i ∷ part) ∷ parts)) → ⊥
    by zero w = let l = ap length w in omega arith
    by (suc n) w = let l : length (part ++ joined (take n parts)) ≡ 0 = ap (λ l. length (tail_of l)) (sym w) in omega (arith, full.0, length-append part (joined (take n parts)))

pub cut-ends : (test : Test) (back before after : List Item) → 0 < length before → 0 < length after
    → (test (behind back before) after ≡ true) ↔ EndsAPart (cut_where test back (before ++ after)) before
cut-ends test back [] after some more = absurd (omega (arith, some))
cut-ends test back (i ∷ []) after some more = (
  (λ t. subst (λ b. EndsAPart (with_item i b (cut_where test (i ∷ back) after)) (i ∷ [])) (sym t) (record { count = 1; whole = refl })),
  (λ e. first-ends i (test (i ∷ back) after) (cut_where test (i ∷ back) after) (subst (λ l. 0 < length l) (sym (cut-joined test (i ∷ back) after)) more) (cut-full test (i ∷ back) after) e),
)
cut-ends test back (i ∷ j ∷ before) after some more =
    let again = cut-ends test (i ∷ back) (j ∷ before) after (omega arith) more in
    let b = test (i ∷ back) ((j ∷ before) ++ after) in
    let parts = cut_where test (i ∷ back) ((j ∷ before) ++ after) in (
      (λ t. to_later i b parts (j ∷ before) (omega arith) (again.0 t)),
      (λ e. again.1 (from_later i b parts (j ∷ before) (omega arith) e)),
    )

behind-reversed : (back before : List Item) → behind back before ≡ reverse_aux before back
behind-reversed back [] = refl
behind-reversed back (i ∷ before) = behind-reversed (i ∷ back) before

pub ends-reversed : (test : Test) (before after : List Item) → 0 < length before → 0 < length after
    → (test (reverse before) after ≡ true) ↔ EndsAPart (cut_where test [] (before ++ after)) before
ends-reversed test before after some more =
    subst (λ back. (test back after ≡ true) ↔ EndsAPart (cut_where test [] (before ++ after)) before) (behind-reversed [] before) (cut-ends test [] before after some more)

-- Sums over lists: how large what is made of a list can be, against the costs of its elements together.
use Rattle.std.proofs.Common.{if◌then◌else◌, ◌≡◌, ℕ, zero, suc, ◌+◌, ◌≤◌, ℤ, pos, ◌+ℤ◌, unsigned_abs, Bool, true, false, List, [], ◌∷◌, ◌++◌, map, fold, reverse, Option, Some, None, slice_index_or, refl, sym, ap, subst, arith}
use Rattle.std.specs.Prelude.{replicate, slice_set, unwrap_or}
use Rattle.std.specs.List.{AllByRecursion, onto_first}
use Rattle.std.proofs.lemmas.Int.{ints, clamps}
use Rattle.viz_base.specs.declared.layouts.Preferred.{Preferred}
use Rattle.viz_base.proofs.ListLemmas.{all_append}
use Rattle.layout_semantics.specs.Extremes.{greatest_from}
use Rattle.layout_semantics.specs.InlineContent.{Item, start, finish, word, space, atomic, forced, float}
use Rattle.layout_semantics.specs.Lengths.{total}
use Rattle.layout_semantics.specs.Lists.{table_of}
use Rattle.layout_semantics.specs.Preferred.{Child, in_flow, floated, greatest, sums_from, leading_floats, block_widths, measured_width}
use Rattle.layout_semantics.specs.Segments.{cut_where, without_leading, what_stays}
use mathlib.Core.List.{reverse_aux}

-- ---- costs

abbrev pub costs : {A : Type 0} → (A → ℕ) → List A → ℕ
costs cost [] = 0
costs cost (x ∷ xs) = cost x + costs cost xs

pub costs-append : {A : Type 0} (cost : A → ℕ) (xs ys : List A) → costs cost (xs ++ ys) ≡ costs cost xs + costs cost ys
costs-append cost [] ys = omega arith
costs-append cost (x ∷ xs) ys = let rest = costs-append cost xs ys in omega (arith, rest)

costs-onto : {A : Type 0} (cost : A → ℕ) (xs ys : List A) → costs cost (reverse_aux xs ys) ≡ costs cost xs + costs cost ys
costs-onto cost [] ys = omega arith
costs-onto cost (x ∷ xs) ys = let rest = costs-onto cost xs (x ∷ ys) in omega (arith, rest)

costs-reverse : {A : Type 0} (cost : A → ℕ) (xs : List A) → costs cost (reverse xs) ≡ costs cost xs
costs-reverse cost xs = let all = costs-onto cost xs [] in omega (arith, all)

pub costs-both : {A : Type 0} (f g : A → ℕ) (xs : List A) → costs (λ x. f x + g x) xs ≡ costs f xs + costs g xs
costs-both f g [] = refl
costs-both f g (x ∷ xs) = let rest = costs-both f g xs in omega (arith, rest)

-- each element costs no more than all
pub each-within : {A : Type 0} (cost : A → ℕ) (xs : List A) (n : ℕ) → costs cost xs ≤ n → AllByRecursion (λ x. cost x ≤ n) xs
each-within cost [] n l = tt
each-within cost (x ∷ xs) n l = (omega (arith, l), each-within cost xs n (omega (arith, l)))

-- ---- numbers

abbrev pub IsSized : ℕ → ℤ → Type 0
IsSized n z = unsigned_abs z ≤ n

pub greatest-size : (n : ℕ) (xs : List ℤ) → AllByRecursion (IsSized n) xs → IsSized n (greatest xs)
greatest-size n [] a = omega arith
greatest-size n (x ∷ xs) a = from x xs a.0 a.1
  where
    from : (x : ℤ) (xs : List ℤ) → IsSized n x → AllByRecursion (IsSized n) xs → IsSized n (greatest_from x xs)
    from x [] l a = l
    from x (y ∷ ys) l a = let rest = from x ys l a.1 in let one = a.0 in omega (arith, ints, clamps, rest, one)

pub total-size : {A : Type 0} (g : A → ℤ) (cost : A → ℕ) → ((x : A) → IsSized (cost x) (g x)) → (xs : List A) → IsSized (costs cost xs) (total (map g xs))
total-size g cost f [] = omega arith
total-size g cost f (x ∷ xs) = let rest = total-size g cost f xs in let one = f x in omega (arith, ints, rest, one)

sums-size : (n : ℕ) (before : ℤ) (xs : List ℤ) → unsigned_abs before + costs unsigned_abs xs ≤ n → AllByRecursion (IsSized n) (sums_from before xs)
sums-size n before [] l = tt
sums-size n before (x ∷ xs) l = (omega (arith, ints, l), sums-size n (before +ℤ x) xs (omega (arith, ints, l)))

-- ---- children

abbrev pub child_size : Child → ℕ
child_size (in_flow x) = unsigned_abs x
child_size (floated x) = unsigned_abs x

leading-size : (children : List Child) → costs unsigned_abs (leading_floats children) ≤ costs child_size children
leading-size [] = omega arith
leading-size (in_flow x ∷ children) = omega arith
leading-size (floated x ∷ children) = let rest = leading-size children in omega (arith, rest)

pub block-sizes : (n : ℕ) (children : List Child) → costs child_size children ≤ n → AllByRecursion (IsSized n) (block_widths children)
block-sizes n [] l = tt
block-sizes n (in_flow x ∷ children) l = (omega (arith, l), block-sizes n children (omega (arith, l)))
block-sizes n (floated x ∷ children) l =
    let all = leading-size (floated x ∷ children) in
    all_append (IsSized n) (sums_from (pos 0) (leading_floats (floated x ∷ children))) (block_widths children)
    (sums-size n (pos 0) (leading_floats (floated x ∷ children)) (omega (arith, all, l))) (block-sizes n children (omega (arith, l)))

-- ---- parts of inline content

module _ (cost : Item → ℕ) where
  leading-cost : (items : List Item) → costs cost (without_leading items) ≤ costs cost items
  leading-cost [] = omega arith
  leading-cost (word at text ∷ items) = omega arith
  leading-cost (atomic at ∷ items) = omega arith
  leading-cost (space at ∷ items) = let rest = leading-cost items in omega (arith, rest)
  leading-cost (start at ∷ items) = let rest = leading-cost items in omega (arith, rest)
  leading-cost (finish at ∷ items) = let rest = leading-cost items in omega (arith, rest)
  leading-cost (forced at ∷ items) = let rest = leading-cost items in omega (arith, rest)
  leading-cost (float at ∷ items) = let rest = leading-cost items in omega (arith, rest)

  pub stays-cost : (items : List Item) → costs cost (what_stays items) ≤ costs cost items
  stays-cost items =
      let first = leading-cost items in
      let back = costs-reverse cost (without_leading items) in
      let last = leading-cost (reverse (without_leading items)) in
      let again = costs-reverse cost (without_leading (reverse (without_leading items))) in
      omega (arith, first, back, last, again)

  abbrev with_item : Item → Bool → List (List Item) → List (List Item)
  with_item i b parts = if b then (i ∷ []) ∷ parts else onto_first i parts

  item-cost : (i : Item) (b : Bool) (parts : List (List Item)) → costs (costs cost) (with_item i b parts) ≡ cost i + costs (costs cost) parts
  item-cost i true parts = omega arith
  item-cost i false [] = omega arith
  item-cost i false (part ∷ parts) = omega arith

  pub parts-cost : (test : List Item → List Item → Bool) (back items : List Item) → costs (costs cost) (cut_where test back items) ≡ costs cost items
  parts-cost test back [] = refl
  parts-cost test back (i ∷ items) = by (test (i ∷ back) items) (parts-cost test (i ∷ back) items)
    where
      by : (b : Bool) → costs (costs cost) (cut_where test (i ∷ back) items) ≡ costs cost items → costs (costs cost) (with_item i b (cut_where test (i ∷ back) items)) ≡ cost i + costs cost items
      by true e = omega (arith, e)
      by false e = let one = item-cost i false (cut_where test (i ∷ back) items) in omega (arith, one, e)

-- ---- tables

abbrev Holds : ℕ → Option ℤ → Type 0
Holds n o = IsSized n (unwrap_or o (pos 0))

set-holds : (n : ℕ) (t : List (Option ℤ)) (k at : ℕ) (o : Option ℤ) → (k ≡ at → Holds n o) → Holds n (slice_index_or t at None) → Holds n (slice_index_or (slice_set t k o) at None)
set-holds n [] k at o f h = h
set-holds n (p ∷ t) zero zero o f h = f refl
set-holds n (p ∷ t) zero (suc at) o f h = h
set-holds n (p ∷ t) (suc k) zero o f h = h
set-holds n (p ∷ t) (suc k) (suc at) o f h = set-holds n t k at o (λ e. f (ap suc e)) h

abbrev nothing_yet : Option ℤ
nothing_yet = None

empty-holds : (n m at : ℕ) → Holds n (slice_index_or (replicate m nothing_yet) at None)
empty-holds n zero at = omega arith
empty-holds n (suc m) zero = omega arith
empty-holds n (suc m) (suc at) = empty-holds n m at

-- what a table of the widths of some boxes holds of a box is that box's, or nothing
module _ (outer : ℕ → Preferred ℤ) (part : Preferred ℤ → ℤ) where
  abbrev pub entries : List ℕ → List (ℕ × ℤ)
  entries ks = map (λ (entry : ℕ × Preferred ℤ). (entry.0, part entry.1)) (map (λ k. (k, outer k)) ks)

  all-hold : (at : ℕ) (t : List (Option ℤ)) (ks : List ℕ) → Holds (unsigned_abs (part (outer at))) (slice_index_or t at None)
      → Holds (unsigned_abs (part (outer at))) (slice_index_or (fold (λ (table : List (Option ℤ)) (entry : ℕ × ℤ). slice_set table entry.0 (Some entry.1)) t (entries ks)) at None)
  all-hold at t [] h = h
  all-hold at t (k ∷ ks) h = all-hold at (slice_set t k (Some (part (outer k)))) ks
      (set-holds (unsigned_abs (part (outer at))) t k at (Some (part (outer k))) (λ e. subst (λ j. unsigned_abs (part (outer j)) ≤ unsigned_abs (part (outer at))) (sym e) (omega arith)) h)

  pub measured-size : (n at : ℕ) (ks : List ℕ) → IsSized (unsigned_abs (part (outer at))) (measured_width (table_of n (entries ks)) at)
  measured-size n at [] = empty-holds (unsigned_abs (part (outer at))) 0 at
  measured-size n at (k ∷ ks) = all-hold at (replicate n nothing_yet) (k ∷ ks) (empty-holds (unsigned_abs (part (outer at))) n at)

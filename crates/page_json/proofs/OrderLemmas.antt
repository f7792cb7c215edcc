-- The places of a page stand in document order.
use Rattle.std.proofs.Common.{◌≡◌, ◌⊎◌, inl, inr, ℕ, zero, suc, ◌+◌, ◌<◌, ◌≤◌, List, [], ◌∷◌, ◌++◌, length, map, Option, Some, None, refl, arith, subst, Ordering, Less, Equal, Greater}
use Rattle.std.specs.Prelude.{slice_get, codes, IsTrue}
use Rattle.std.specs.Ordering.{nat_cmp, match_ordering}
use Rattle.std.specs.Cmp.Lexicographic.{slice_cmp}
use Rattle.std.proofs.lemmas.Bool.Decides.{nat_tests}
use Rattle.serde_json.specs.Data.{Data, null, boolean, number, string, array, object, Items, no_items, item, Members, no_members, member}
use Rattle.viz_base.specs.Orders.{IsInOrder, is_from}
use Rattle.page_json.specs.Documents.{Place, place, listed, children_listed, list_listed, all_listed, places_of}

-- ---- what is in an element

-- the parent is the element `q`, or stands at `low` or after it
abbrev IsUnder : ℕ → ℕ → Option ℕ → Type 0
IsUnder q low None = ⊥
IsUnder q low (Some r) = (r ≡ q) ⊎ (low ≤ r)

abbrev AreUnder : ℕ → ℕ → List Place → Type 0
AreUnder q low [] = Unit {0}
AreUnder q low (p ∷ ps) = IsUnder q low p.parent × AreUnder q low ps

is-under-less : (q low r s : ℕ) (o : Option ℕ) → low ≤ q → low ≤ r → IsUnder q r o → IsUnder s low o
is-under-less q low r s None a b h = absurd h
is-under-less q low r s (Some t) a b (inl e) = inr (omega arith)
is-under-less q low r s (Some t) a b (inr le) = inr (omega arith)

-- what is in an element at `low` or after it is in each that `low` is in
under-less : (q low r s : ℕ) (ps : List Place) → low ≤ q → low ≤ r → AreUnder q r ps → AreUnder s low ps
under-less q low r s [] a b h = tt
under-less q low r s (p ∷ ps) a b h = (is-under-less q low r s p.parent a b h.0, under-less q low r s ps a b h.1)

is-under-later : (q low far : ℕ) (o : Option ℕ) → low ≤ far → IsUnder q far o → IsUnder q low o
is-under-later q low far None le h = absurd h
is-under-later q low far (Some t) le (inl e) = inl e
is-under-later q low far (Some t) le (inr b) = inr (omega arith)

under-append : (q low far : ℕ) (xs ys : List Place) → low ≤ far → AreUnder q low xs → AreUnder q far ys → AreUnder q low (xs ++ ys)
under-append q low far [] [] le h k = tt
under-append q low far [] (y ∷ ys) le h k = (is-under-later q low far y.parent le k.0, under-append q low far [] ys le tt k.1)
under-append q low far (x ∷ xs) ys le h k = (h.0, under-append q low far xs ys le h.1 k)

-- ---- order

-- a node at `at` with this parent is in each element before it of which a child is among the places after it
abbrev IsWithin : ℕ → Option ℕ → List Place → Type 0
IsWithin at parent [] = Unit {0}
IsWithin at parent (p ∷ ps) = ((a : ℕ) → p.parent ≡ Some a → a < at → IsTrue (is_from a parent)) × IsWithin at parent ps

-- places, the first of which has the number `at`, are in document order
abbrev AreInOrder : ℕ → List Place → Type 0
AreInOrder at [] = Unit {0}
AreInOrder at (p ∷ ps) = IsWithin at p.parent ps × AreInOrder (suc at) ps

within-append : (at : ℕ) (o : Option ℕ) (xs ys : List Place) → IsWithin at o xs → IsWithin at o ys → IsWithin at o (xs ++ ys)
within-append at o [] ys h k = k
within-append at o (x ∷ xs) ys h k = (h.0, within-append at o xs ys h.1 k)

-- none of the places has its parent before
within-own : (at : ℕ) (o : Option ℕ) (ps : List Place) → AreUnder at (at + 1) ps → IsWithin at o ps
within-own at o [] h = tt
within-own at o (p ∷ ps) h = (λ a e lt. none a p.parent h.0 e lt, within-own at o ps h.1)
  where
    none : (a : ℕ) (parent : Option ℕ) → IsUnder at (at + 1) parent → parent ≡ Some a → a < at → IsTrue (is_from a o)
    none a None h e lt = absurd h
    none a (Some r) (inl same) e lt = let is : r ≡ a = cc in absurd (omega arith)
    none a (Some r) (inr le) e lt = let is : r ≡ a = cc in absurd (omega arith)

-- a node in an element, and what is in the element after it
within-next : (q low at far : ℕ) (o : Option ℕ) (ps : List Place) → q < low → at ≤ far → IsUnder q low o → AreUnder q far ps → IsWithin at o ps
within-next q low at far o [] lt le u h = tt
within-next q low at far o (p ∷ ps) lt le u h = (λ a e b. next a p.parent o h.0 e b u, within-next q low at far o ps lt le u h.1)
  where
    from : (a : ℕ) (parent : Option ℕ) → a ≡ q → IsUnder q low parent → IsTrue (is_from a parent)
    from a None is u = absurd u
    from a (Some r) is (inl same) = grind (arith, nat_tests)
    from a (Some r) is (inr b) = grind (arith, nat_tests)

    next : (a : ℕ) (own parent : Option ℕ) → IsUnder q far own → own ≡ Some a → a < at → IsUnder q low parent → IsTrue (is_from a parent)
    next a None parent h e b u = absurd h
    next a (Some r) parent (inl same) e b u = let is : r ≡ a = cc in from a parent (omega arith) u
    next a (Some r) parent (inr c) e b u = let is : r ≡ a = cc in absurd (omega arith)

order-append : (q low at far : ℕ) (xs ys : List Place) → q < low → far ≡ at + length xs → AreUnder q low xs → AreInOrder at xs
    → AreUnder q far ys → AreInOrder far ys → AreInOrder at (xs ++ ys)
order-append q low at far [] ys lt e u h v k = let same : far ≡ at = omega arith in subst (λ n. AreInOrder n ys) same k
order-append q low at far (x ∷ xs) ys lt e u h v k = (
  within-append at x.parent xs ys h.0 (within-next q low at far x.parent ys lt (omega arith) u.0 v),
  order-append q low (suc at) far xs ys lt (omega arith) u.1 h.1 v k,
)

-- ---- the places of a page

-- places in the element `q`, the first having the number `at`
abbrev Stand : ℕ → ℕ → List Place → Type 0
Stand q at ps = AreUnder q at ps × AreInOrder at ps

one-stands : (d : Data) (q k at : ℕ) → Stand q at (place d (Some q) k ∷ [])
one-stands d q k at = ((inl refl, tt), (tt, tt))

with-own : (d : Data) (o : Option ℕ) (k at : ℕ) (ps : List Place) → Stand at (at + 1) ps → AreInOrder at (place d o k ∷ ps)
with-own d o k at ps h = (within-own at o ps h.0, (let next : at + 1 ≡ suc at = omega arith in subst (λ n. AreInOrder n ps) next h.1))

by_order : (o : Ordering) (q at : ℕ) (xs ys : List Place) → Stand q at xs → Stand q at ys → Stand q at (match_ordering o xs ys xs)
by_order Less q at xs ys h k = h
by_order Equal q at xs ys h k = k
by_order Greater q at xs ys h k = h

mutual
  listed-stand : (d : Data) (q k at : ℕ) → Stand q at (listed d (Some q) k at)
  listed-stand null q k at = one-stands null q k at
  listed-stand (boolean b) q k at = one-stands (boolean b) q k at
  listed-stand (number n) q k at = one-stands (number n) q k at
  listed-stand (string s) q k at = one-stands (string s) q k at
  listed-stand (array ds) q k at = one-stands (array ds) q k at
  listed-stand (object ms) q k at =
      let own : Stand at (at + 1) (children_listed ms (Some at) (k + 1) (at + 1)) = children-stand ms at (k + 1) (at + 1) (omega arith) in
      ((inl refl, under-less at at (at + 1) q _ (omega arith) (omega arith) own.0), with-own (object ms) (Some q) k at _ own)

  children-stand : (ms : Members) (q k at : ℕ) → q < at → Stand q at (children_listed ms (Some q) k at)
  children-stand no_members q k at lt = (tt, tt)
  children-stand (member key d ms) q k at lt =
      by_order (slice_cmp nat_cmp (codes "children") key) q at (children_listed ms (Some q) k at) (list_listed d (Some q) k at)
      (children-stand ms q k at lt) (list-stand d q k at lt)

  list-stand : (d : Data) (q k at : ℕ) → q < at → Stand q at (list_listed d (Some q) k at)
  list-stand null q k at lt = (tt, tt)
  list-stand (boolean b) q k at lt = (tt, tt)
  list-stand (number n) q k at lt = (tt, tt)
  list-stand (string s) q k at lt = (tt, tt)
  list-stand (array ds) q k at lt = all-stand ds q k at lt
  list-stand (object ms) q k at lt = (tt, tt)

  all-stand : (ds : Items) (q k at : ℕ) → q < at → Stand q at (all_listed ds (Some q) k at)
  all-stand no_items q k at lt = (tt, tt)
  all-stand (item d ds) q k at lt =
      let far : ℕ = at + length (listed d (Some q) k at) in
      let first : Stand q at (listed d (Some q) k at) = listed-stand d q k at in
      let rest : Stand q far (all_listed ds (Some q) k far) = all-stand ds q k far (omega arith) in (
        under-append q at far (listed d (Some q) k at) (all_listed ds (Some q) k far) (omega arith) first.0 rest.0,
        order-append q at at far (listed d (Some q) k at) (all_listed ds (Some q) k far) lt refl first.0 first.1 rest.0 rest.1,
      )

root-order : (d : Data) → AreInOrder 0 (places_of d)
root-order null = (tt, tt)
root-order (boolean b) = (tt, tt)
root-order (number n) = (tt, tt)
root-order (string s) = (tt, tt)
root-order (array ds) = (tt, tt)
root-order (object ms) = with-own (object ms) None 1 0 _ (children-stand ms 0 (1 + 1) (0 + 1) (omega arith))

-- ---- their parents

within-parent : (at : ℕ) (o : Option ℕ) (ps : List Place) → IsWithin at o ps
    → (j a : ℕ) → slice_get (map (λ (p : Place). p.parent) ps) j ≡ Some (Some a) → a < at → IsTrue (is_from a o)
within-parent at o [] h j a e lt = cc
within-parent at o (p ∷ ps) h zero a e lt = let is : p.parent ≡ Some a = cc in h.0 a is lt
within-parent at o (p ∷ ps) h (suc j) a e lt = within-parent at o ps h.1 j a e lt

parents-order : (at : ℕ) (ps : List Place) → AreInOrder at ps → (a i j : ℕ) (o : Option ℕ) → slice_get (map (λ (p : Place). p.parent) ps) j ≡ Some (Some a)
    → slice_get (map (λ (p : Place). p.parent) ps) i ≡ Some o → a < at + i → i < j → IsTrue (is_from a o)
parents-order at [] h a i j o e f lt before = cc
parents-order at (p ∷ ps) h a i zero o e f lt before = absurd (omega arith)
parents-order at (p ∷ ps) h a zero (suc j) o e f lt before =
    let is : p.parent ≡ o = cc in subst (λ parent. IsTrue (is_from a parent)) is (within-parent at p.parent ps h.0 j a e (omega arith))
parents-order at (p ∷ ps) h a (suc i) (suc j) o e f lt before = parents-order (suc at) ps h.1 a i j o e f (omega arith) (omega arith)

pub places-order : (d : Data) → IsInOrder (map (λ (p : Place). p.parent) (places_of d))
places-order d at between child parent e f after before = parents-order 0 (places_of d) (root-order d) at between child parent e f (omega arith) before

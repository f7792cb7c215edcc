-- The nodes of a grown page stand in document order, each behind the element that it is in.
use Rattle.std.proofs.Common.{◌≡◌, ℕ, zero, suc, ◌+◌, ◌<◌, ◌≤◌, List, [], ◌∷◌, ◌++◌, length, map, slice_get, Option, Some, None, IsTrue, refl, sym, ap, ◌∙◌, subst, arith, inl, inr, ◌⊎◌, append_assoc, length-append}
use Rattle.std.specs.List.{AllByRecursion}
use Rattle.std.proofs.lemmas.Bool.Decides.{nat_tests}
use Rattle.std.proofs.lemmas.List.{append-nil, length-map, map-append}
use Rattle.std.proofs.lemmas.Option.{same_Some}
use Rattle.viz_base.specs.Orders.{IsInOrder, is_from}
use Rattle.viz_base.specs.declared.selectors.Pseudo.{Pseudo}
use Rattle.viz_base.specs.declared.selectors.Pseudo.TheVariants.{Before, After}
use Rattle.viz_base.specs.declared.settings.Setting.{Setting}
use Rattle.viz_base.proofs.ListLemmas.{all_append}
use Rattle.page_pseudo.specs.declared.nodes.GrownNode.{GrownNode}
use Rattle.page_pseudo.specs.Grown.{Grow, Written, grown, nothing, pseudo_nodes}

abbrev pub parents_of : List GrownNode → List (Option ℕ)
parents_of xs = map (λ (g : GrownNode). g.parent) xs

-- ---- what is in an element

-- the parent is the element `q`, or stands at `low` or after it
abbrev IsUnder : ℕ → ℕ → Option ℕ → Type 0
IsUnder q low None = ⊥
IsUnder q low (Some r) = (r ≡ q) ⊎ (low ≤ r)

abbrev AreUnder : ℕ → ℕ → List (Option ℕ) → Type 0
AreUnder q low ps = AllByRecursion (IsUnder q low) ps

under-less : (q low r s : ℕ) (ps : List (Option ℕ)) → low ≤ q → low ≤ r → AreUnder q r ps → AreUnder s low ps
under-less q low r s [] a b h = tt
under-less q low r s (p ∷ ps) a b h = (of_one p h.0, under-less q low r s ps a b h.1)
  where
    of_one : (o : Option ℕ) → IsUnder q r o → IsUnder s low o
    of_one None h = absurd h
    of_one (Some t) (inl e) = inr (omega arith)
    of_one (Some t) (inr le) = inr (omega arith)

under-later : (q low far : ℕ) (ps : List (Option ℕ)) → low ≤ far → AreUnder q far ps → AreUnder q low ps
under-later q low far [] le h = tt
under-later q low far (p ∷ ps) le h = (of_one p h.0, under-later q low far ps le h.1)
  where
    of_one : (o : Option ℕ) → IsUnder q far o → IsUnder q low o
    of_one None h = absurd h
    of_one (Some t) (inl e) = inl e
    of_one (Some t) (inr b) = inr (omega arith)

under-append : (q low far : ℕ) (xs ys : List (Option ℕ)) → low ≤ far → AreUnder q low xs → AreUnder q far ys → AreUnder q low (xs ++ ys)
under-append q low far xs ys le h k = all_append (IsUnder q low) xs ys h (under-later q low far ys le k)

-- ---- order

-- a node at `at` with this parent is in each element before it of which a child is among those after it
abbrev IsWithin : ℕ → Option ℕ → List (Option ℕ) → Type 0
IsWithin at parent ps = AllByRecursion (λ p. (a : ℕ) → p ≡ Some a → a < at → IsTrue (is_from a parent)) ps

-- nodes, the first of which has the number `at`, are in document order
abbrev AreInOrder : ℕ → List (Option ℕ) → Type 0
AreInOrder at [] = Unit {0}
AreInOrder at (p ∷ ps) = IsWithin at p ps × AreInOrder (suc at) ps

-- none of them has its parent before the node
within-own : (at : ℕ) (o : Option ℕ) (ps : List (Option ℕ)) → AreUnder at (suc at) ps → IsWithin at o ps
within-own at o [] h = tt
within-own at o (p ∷ ps) h = (λ a e lt. none a p h.0 e lt, within-own at o ps h.1)
  where
    none : (a : ℕ) (parent : Option ℕ) → IsUnder at (suc at) parent → parent ≡ Some a → a < at → IsTrue (is_from a o)
    none a None h e lt = absurd h
    none a (Some r) (inl same) e lt = let is = same_Some r a e in absurd (omega (arith, same, is, lt))
    none a (Some r) (inr le) e lt = let is = same_Some r a e in absurd (omega (arith, le, is, lt))

-- a node in an element, and what is in the element after it
within-next : (q low at far : ℕ) (o : Option ℕ) (ps : List (Option ℕ)) → q < low → at ≤ far → IsUnder q low o → AreUnder q far ps → IsWithin at o ps
within-next q low at far o [] lt le u h = tt
within-next q low at far o (p ∷ ps) lt le u h = (λ a e b. next a p o h.0 e b u, within-next q low at far o ps lt le u h.1)
  where
    from : (a : ℕ) (parent : Option ℕ) → a ≡ q → IsUnder q low parent → IsTrue (is_from a parent)
    from a None is u = absurd u
    from a (Some r) is (inl same) = grind (arith, nat_tests)
    from a (Some r) is (inr b) = grind (arith, nat_tests)

    next : (a : ℕ) (own parent : Option ℕ) → IsUnder q far own → own ≡ Some a → a < at → IsUnder q low parent → IsTrue (is_from a parent)
    next a None parent h e b u = absurd h
    next a (Some r) parent (inl same) e b u = let is = same_Some r a e in from a parent (omega (arith, is, same)) u
    next a (Some r) parent (inr c) e b u = let is = same_Some r a e in absurd (omega (arith, is, c, b, le))

order-append : (q low at far : ℕ) (xs ys : List (Option ℕ)) → q < low → far ≡ at + length xs → AreUnder q low xs → AreInOrder at xs → AreUnder q far ys → AreInOrder far ys → AreInOrder at (xs ++ ys)
order-append q low at far [] ys lt e u h v k = let same : far ≡ at = omega (arith, e) in subst (λ n. AreInOrder n ys) same k
order-append q low at far (x ∷ xs) ys lt e u h v k = (
  all_append (λ p. (a : ℕ) → p ≡ Some a → a < at → IsTrue (is_from a x)) xs ys h.0 (within-next q low at far x ys lt (omega (arith, e)) u.0 v),
  order-append q low (suc at) far xs ys lt (omega (arith, e)) u.1 h.1 v k,
)

-- ---- in an element

-- nodes in the element `q`, the first having the number `at`
abbrev Stand : ℕ → ℕ → List (Option ℕ) → Type 0
Stand q at ps = AreUnder q at ps × AreInOrder at ps

stand-append : (q at far : ℕ) (xs ys : List (Option ℕ)) → q < at → far ≡ at + length xs → Stand q at xs → Stand q far ys → Stand q at (xs ++ ys)
stand-append q at far xs ys lt e h k = (under-append q at far xs ys (omega (arith, e)) h.0 k.0, order-append q at at far xs ys lt e h.0 h.1 k.0 k.1)

-- an element with what is in it
stand-own : (q at : ℕ) (ps : List (Option ℕ)) → q < at → Stand at (suc at) ps → Stand q at (Some q ∷ ps)
stand-own q at ps lt h = ((inl refl, under-less at at (suc at) q ps (omega arith) (omega arith) h.0), (within-own at (Some q) ps h.0, h.1))

content-stands : (which : Pseudo) (q at : ℕ) (winners : List Setting) (o : Option (List ℕ)) → q < at → Stand q at (parents_of (pseudo_nodes which at q winners o))
content-stands which q at winners None lt = (tt, tt)
content-stands which q at winners (Some []) lt = ((inl refl, tt), (tt, tt))
content-stands which q at winners (Some (c ∷ text)) lt = stand-own q at (Some at ∷ []) lt ((inl refl, tt), (tt, tt))

parents-append : (xs ys : List GrownNode) → parents_of (xs ++ ys) ≡ parents_of xs ++ parents_of ys
parents-append xs ys = map-append (λ (g : GrownNode). g.parent) xs ys

parents-length : (xs : List GrownNode) → length (parents_of xs) ≡ length xs
parents-length xs = length-map xs (λ (g : GrownNode). g.parent)

-- the content of an element: what is before, inside and after
inner-stands : (at : ℕ) (first items last : List GrownNode) → Stand at (suc at) (parents_of first) → Stand at (suc at + length first) (parents_of items) → Stand at (suc at + length first + length items) (parents_of last)
    → Stand at (suc at) (parents_of (first ++ (items ++ last)))
inner-stands at first items last h k l =
    subst (Stand at (suc at)) (sym (parents-append first (items ++ last) ∙ ap (λ ps. parents_of first ++ ps) (parents-append items last)))
    (stand-append at (suc at) (suc at + length first) (parents_of first) (parents_of items ++ parents_of last) (omega arith) (ap (λ n. suc at + n) (sym (parents-length first))) h
    (stand-append at (suc at + length first) (suc at + length first + length items) (parents_of items) (parents_of last) (omega arith) (ap (λ n. suc at + length first + n) (sym (parents-length items))) k l))

whole-parents : (p : Option ℕ) (first items last others : List GrownNode) → p ∷ parents_of (first ++ (items ++ (last ++ others))) ≡ (p ∷ parents_of (first ++ (items ++ last))) ++ parents_of others
whole-parents p first items last others =
    ap (λ ps. p ∷ ps) (ap parents_of (let e : first ++ (items ++ (last ++ others)) ≡ (first ++ (items ++ last)) ++ others = simp append_assoc in e) ∙ parents-append (first ++ (items ++ last)) others)

grow-stands : {w : Written} {ks : List ℕ} {at : ℕ} {parent : Option ℕ} {xs : List GrownNode} (q : ℕ) → Grow w ks at parent xs → parent ≡ Some q → q < at → Stand q at (parents_of xs)
grow-stands q nothing e lt = (tt, tt)
grow-stands {w} q (grown {n = n} {at = at} {parent = parent} {node = node} {first = first} {inside = items} {last = last} {others = others} h f g l more) e lt =
    let inner = inner-stands at first items last
    (subst (λ xs. Stand at (suc at) (parents_of xs)) (sym f) (content-stands Before at (suc at) _ _ (omega arith)))
    (grow-stands at g refl (omega arith))
    (subst (λ xs. Stand at (suc at + length first + length items) (parents_of xs)) (sym l) (content-stands After at (suc at + length first + length items) _ _ (omega arith))) in
    let size : suc at + length first + length items + length last ≡ at + length (Some q ∷ parents_of (first ++ (items ++ last))) =
    omega (arith, parents-length (first ++ (items ++ last)), length-append first (items ++ last), length-append items last) in
    subst (λ p. Stand q at (p ∷ parents_of (first ++ (items ++ (last ++ others))))) (sym e)
    (subst (Stand q at) (sym (whole-parents (Some q) first items last others))
    (stand-append q at (suc at + length first + length items + length last) (Some q ∷ parents_of (first ++ (items ++ last))) (parents_of others) lt size
    (stand-own q at (parents_of (first ++ (items ++ last))) lt inner) (grow-stands q more e (omega (arith, lt)))))

-- the root with what is in it
pub root-order : (w : Written) (n : ℕ) (all : List GrownNode) → Grow w (n ∷ []) 0 None all → AreInOrder 0 (parents_of all)
root-order w n _ (grown {node = node} {first = first} {inside = items} {last = last} h f g l nothing) =
    let inner = inner-stands 0 first items last
    (subst (λ xs. Stand 0 1 (parents_of xs)) (sym f) (content-stands Before 0 1 _ _ (omega arith)))
    (grow-stands 0 g refl (omega arith))
    (subst (λ xs. Stand 0 (1 + length first + length items) (parents_of xs)) (sym l) (content-stands After 0 (1 + length first + length items) _ _ (omega arith))) in
    subst (λ xs. AreInOrder 0 (None ∷ parents_of xs)) (let e : first ++ (items ++ last) ≡ first ++ (items ++ (last ++ [])) = simp append-nil in e)
    (within-own 0 None (parents_of (first ++ (items ++ last))) inner.0, inner.1)

-- ---- as of a page

within-parent : (at : ℕ) (o : Option ℕ) (ps : List (Option ℕ)) → IsWithin at o ps → (j a : ℕ) → slice_get ps j ≡ Some (Some a) → a < at → IsTrue (is_from a o)
within-parent at o [] h j a e lt = cc
within-parent at o (p ∷ ps) h zero a e lt = h.0 a (same_Some p (Some a) e) lt
within-parent at o (p ∷ ps) h (suc j) a e lt = within-parent at o ps h.1 j a e lt

parents-order : (at : ℕ) (ps : List (Option ℕ)) → AreInOrder at ps → (a i j : ℕ) (o : Option ℕ) → slice_get ps j ≡ Some (Some a) → slice_get ps i ≡ Some o → a < at + i → i < j → IsTrue (is_from a o)
parents-order at [] h a i j o e f lt before = cc
parents-order at (p ∷ ps) h a i zero o e f lt before = absurd (omega (arith, before))
parents-order at (p ∷ ps) h a zero (suc j) o e f lt before = subst (λ parent. IsTrue (is_from a parent)) (same_Some p o f) (within-parent at p ps h.0 j a e (omega (arith, lt)))
parents-order at (p ∷ ps) h a (suc i) (suc j) o e f lt before = parents-order (suc at) ps h.1 a i j o e f (omega (arith, lt)) (omega (arith, before))

pub in-order : (ps : List (Option ℕ)) → AreInOrder 0 ps → IsInOrder ps
in-order ps h at between child parent e f after before = parents-order 0 ps h at between child parent e f (omega (arith, after)) before

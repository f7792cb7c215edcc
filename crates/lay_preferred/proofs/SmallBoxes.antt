-- Where each box is small by itself, each has a cap: 2^44 units for each box in it.
use Rattle.std.proofs.Common.{◌≡◌, ℕ, zero, suc, ◌+◌, ◌*◌, ◌^◌, ◌<◌, ◌≤◌, Bool, true, false, nat_lt, ◌==◌, List, [], ◌∷◌, ◌++◌, map, flat_map, length, Option, None, Some, option_map, slice_get, IsTrue, refl, sym, subst, ap, ◌∙◌, arith, ltb-true, ltb-false, length-append}
use Rattle.std.specs.Prelude.{sum}
use Rattle.std.specs.List.{AllByRecursion}
use Rattle.std.specs.Option.{option_and_then}
use Rattle.std.proofs.lemmas.Bool.Decides.{nat_tests}
use Rattle.std.proofs.lemmas.List.Sums.{sum_by-cons}
use Rattle.std.proofs.lemmas.Option.{slice_get-map, slice_get_within}
use Rattle.viz_base.specs.Trees.{ascends}
use Rattle.viz_base.specs.declared.trees.BoxNode.{BoxNode}
use Rattle.viz_base.specs.declared.trees.BoxTree.{BoxTree}
use Rattle.viz_base.specs.declared.worlds.World.{World}
use Rattle.viz_base.proofs.ListLemmas.{all_append}
use Rattle.viz_calc.specs.World.{Reading}
use Rattle.layout_semantics.specs.Blocks.{parent_of}
use Rattle.layout_semantics.specs.InlineContent.{Item, start, finish, atomic, forced, float, Sort, a_float, an_atomic, a_break, a_text, an_inline, sort_of, text_of, text_items, content}
use Rattle.layout_semantics.specs.Order.{kids_of, order_to, document_order}
use Rattle.layout_semantics.specs.Preferred.{Inside, a_replaced, inline_content, blocks, inside_of, preferred}
use Rattle.layout_semantics.proofs.Forest.{IsKid, both}
use Rattle.layout_semantics.proofs.Orders.{document_order-is}
use Rattle.layout_semantics.proofs.Pages.{forest}
use Rattle.layout_laws.specs.Nested.{items_of_sort, box_items}
use Rattle.layout_laws.proofs.Levels.{content-by-boxes}
use Rattle.lay_length.proofs.SmallTexts.{IsTextAt, text-only}
use Rattle.lay_preferred.specs.Fitting.{LengthsFit, WordFits, WholeTextFits, room_of, room_by, room_inside, BoxFits, BoxesFit, AreWithin, AreSmallBoxes}
use Rattle.lay_preferred.specs.steps.Outer.{outer}
use Rattle.lay_preferred.specs.steps.Parts.{width_of}
use Rattle.lay_preferred.proofs.Caps.{start-size, end-size, is-capped, inside-capped}

-- ---- how many boxes are in a box

-- a child of a box that is between two places is before the second
abbrev pub IsClosed : List BoxNode → ℕ → ℕ → Type 0
IsClosed boxes from stop = (x p : ℕ) → parent_of boxes x ≡ Some p → from ≤ p → p < stop → x < stop

module _ (tree : BoxTree) where
  parent-read : (x p : ℕ) → parent_of tree.boxes x ≡ Some p → slice_get (map (λ (b : BoxNode). b.parent) tree.boxes) x ≡ Some (Some p)
  parent-read x p e = slice_get-map (λ (b : BoxNode). b.parent) tree.boxes x ∙ by (slice_get tree.boxes x) e
    where
      by : (o : Option BoxNode) → option_and_then (λ (b : BoxNode). b.parent) o ≡ Some p → option_map (λ (b : BoxNode). b.parent) o ≡ Some (Some p)
      by None e = absurd (cc)
      by (Some b) e = ap Some e

  -- what is in a child stands before the next child
  pub before-next : (at k next : ℕ) → IsKid tree.boxes at k → IsKid tree.boxes at next → k < next → IsClosed tree.boxes k next
  before-next at k next i j l = λ x p e f m. by x p e f m (nat_lt x next) refl (x == next) refl
    where
      by : (x p : ℕ) → parent_of tree.boxes x ≡ Some p → k ≤ p → p < next → (a : Bool) → nat_lt x next ≡ a → (b : Bool) → (x == next) ≡ b → x < next
      by x p e f m true t b u = ltb-true x next t
      by x p e f m false t true u =
          let same : x ≡ next = grind (arith, nat_tests) in
          let parent = ap (parent_of tree.boxes) same in
          let own = j.parent in
          let up : Some p ≡ Some at = cc in
          let is : p ≡ at = cc in
          absurd (let after = i.after in omega (arith, after, f, is))
      by x p e f m false t false u =
          let past = ltb-false x next t in
          let other : x ≡ next → ⊥ = grind (arith, nat_tests) in
          let later : next < x = grind (arith, past, other) in
          let from = tree.ok.in_order p next x (Some at) (parent-read x p e) (parent-read next at j.parent) m later in
          let up : p < suc at = grind (arith, nat_tests, from) in
          absurd (let after = i.after in omega (arith, after, f, up))

  kids-span : (n at stop low k : ℕ) (ks : List ℕ) → ((j next : ℕ) → j < next → IsClosed tree.boxes j next → length (order_to n tree.boxes j) + j ≤ next)
      → IsClosed tree.boxes at stop → at < stop → IsTrue (ascends low (k ∷ ks)) → AllByRecursion (IsKid tree.boxes at) (k ∷ ks)
      → length (flat_map (order_to n tree.boxes) (k ∷ ks)) + k ≤ stop
  kids-span n at stop low k [] each c l r a =
      let kid = a.0 in
      let after = kid.after in
      let within = c k at kid.parent (omega arith) l in
      let own = each k stop within (λ x p e f m. c x p e (omega (arith, after, f)) m) in
      let size = length-append (order_to n tree.boxes k) [] in
      omega (arith, own, size)
  kids-span n at stop low k (j ∷ ks) each c l r a =
      let rising = both (nat_lt low k) (ascends k (j ∷ ks)) r in
      let next = both (nat_lt k j) (ascends j ks) rising.1 in
      let up : k < j = grind (arith, nat_tests, next.0) in
      let own = each k j up (before-next at k j a.0 (a.1).0 up) in
      let rest = kids-span n at stop k j ks each c l rising.1 a.1 in
      let size = length-append (order_to n tree.boxes k) (flat_map (order_to n tree.boxes) (j ∷ ks)) in
      omega (arith, own, rest, size)

  pub span : (n at stop : ℕ) → at < stop → IsClosed tree.boxes at stop → length (order_to n tree.boxes at) + at ≤ stop
  unfolding order_to
  span zero at stop l c = omega (arith, l)
  span (suc n) at stop l c = by (kids_of tree.boxes at) ((forest tree).rising at) ((forest tree).kids at) (λ j next m d. span n j next m d)
    where
      by : (ks : List ℕ) → IsTrue (ascends at ks) → AllByRecursion (IsKid tree.boxes at) ks → ((j next : ℕ) → j < next → IsClosed tree.boxes j next → length (order_to n tree.boxes j) + j ≤ next)
          → suc (length (flat_map (order_to n tree.boxes) ks)) + at ≤ stop
      by [] r a again = omega (arith, l)
      by (k ∷ ks) r a again = let all = kids-span n at stop at k ks again c l r a in let kid = a.0 in let after = kid.after in omega (arith, all, after)

  pub few-inside : (at : ℕ) → at < length tree.boxes → length (document_order tree.boxes at) ≤ length tree.boxes
  few-inside at l = let s = span (length tree.boxes) at (length tree.boxes) l (λ x p e f m. within x p e) in omega (arith, s)
    where
      within : (x p : ℕ) → parent_of tree.boxes x ≡ Some p → x < length tree.boxes
      within x p e = by (slice_get tree.boxes x) refl e
        where
          by : (o : Option BoxNode) → slice_get tree.boxes x ≡ o → option_and_then (λ (b : BoxNode). b.parent) o ≡ Some p → x < length tree.boxes
          by None f e = absurd (cc)
          by (Some b) f e = slice_get_within tree.boxes x b f

  -- ---- caps

  abbrev cap_of : ℕ → ℕ
  cap_of at = 2 ^ 44 * length (document_order tree.boxes at)

  -- of all boxes in a box
  abbrev inner : ℕ → ℕ
  inner at = length (flat_map (document_order tree.boxes) (kids_of tree.boxes at))

  cap-is : (at : ℕ) → at < length tree.boxes → cap_of at ≡ 2 ^ 44 + 2 ^ 44 * inner at
  cap-is at l = let is = ap length (document_order-is tree.boxes at (forest tree) l) in omega (arith, is)

  caps-are : (ks : List ℕ) → sum (map cap_of ks) ≡ 2 ^ 44 * length (flat_map (document_order tree.boxes) ks)
  caps-are [] = omega arith
  caps-are (k ∷ ks) =
      let all = sum_by-cons (λ (n : ℕ). n) (cap_of k) (map cap_of ks) in
      let rest = caps-are ks in
      let size = length-append (document_order tree.boxes k) (flat_map (document_order tree.boxes) ks) in
      omega (arith, all, rest, size)

  module _ (w : World) where
    abbrev room : Item → ℕ
    room = room_of tree w cap_of

    rooms-append : (xs ys : List Item) → sum (map room (xs ++ ys)) ≡ sum (map room xs) + sum (map room ys)
    rooms-append [] ys = omega arith
    rooms-append (x ∷ xs) ys =
        let all = sum_by-cons (λ (n : ℕ). n) (room x) (map room (xs ++ ys)) in
        let first = sum_by-cons (λ (n : ℕ). n) (room x) (map room xs) in
        let rest = rooms-append xs ys in
        omega (arith, all, first, rest)

    rooms-one : (x : Item) → sum (map room (x ∷ [])) ≡ room x
    rooms-one x = let all = sum_by-cons (λ (n : ℕ). n) (room x) [] in omega (arith, all)

    text-rooms : (at : ℕ) (items : List Item) → AllByRecursion (IsTextAt at) items → sum (map room items) ≡ sum (map (room_of tree w (λ (k : ℕ). 0)) items)
    text-rooms at [] a = refl
    text-rooms at (i ∷ items) a =
        let one = sum_by-cons (λ (n : ℕ). n) (room i) (map room items) in
        let other = sum_by-cons (λ (n : ℕ). n) (room_of tree w (λ (k : ℕ). 0) i) (map (room_of tree w (λ (k : ℕ). 0)) items) in
        let rest = text-rooms at items a.1 in
        let same = by i a.0 in
        omega (arith, one, other, rest, same)
      where
        by : (i : Item) → IsTextAt at i → room i ≡ room_of tree w (λ (k : ℕ). 0) i
        by _ (IsTextAt.a_word text) = refl
        by _ IsTextAt.a_space = refl

    module _ (own : (at : ℕ) → at < length tree.boxes → LengthsFit tree w (2 ^ 41) at) (texts : (at : ℕ) → at < length tree.boxes → WholeTextFits tree w (2 ^ 41) at) where
      -- ---- inline content

      -- what a box gives to inline content: its words fit, and it takes no more than its cap
      record HasRoom (items : List Item) (most : ℕ) : Type 0 where
        words : AllByRecursion (WordFits tree w) items
        size : sum (map room items) ≤ most

      box-room : (k : ℕ) (s : Sort) → k < length tree.boxes → HasRoom (content tree k) (2 ^ 44 * inner k) → HasRoom (items_of_sort tree k (content tree k) s) (cap_of k)
      unfolding width_of
      box-room k a_float l h = let one = rooms-one (float k) in record { words = (tt, tt); size = omega (arith, one) }
      box-room k an_atomic l h = let one = rooms-one (atomic k) in record { words = (tt, tt); size = omega (arith, one) }
      box-room k a_break l h = let one = rooms-one (forced k) in record { words = (tt, tt); size = omega (arith, one) }
      box-room k a_text l h =
          let text = texts k l in
          let size = text.size in
          let same = text-rooms k (text_items k (text_of tree k)) (text-only k (text_of tree k)) in
          let is = cap-is k l in
          record { words = text.words; size = omega (arith, size, same, is) }
      box-room k an_inline l h =
          let before = start-size tree w (2 ^ 41) k (own k l) in
          let behind = end-size tree w (2 ^ 41) k (own k l) in
          let first = sum_by-cons (λ (n : ℕ). n) (room (start k)) (map room (content tree k ++ finish k ∷ [])) in
          let last = rooms-one (finish k) in
          let parts = rooms-append (content tree k) (finish k ∷ []) in
          let inside = h.size in
          let is = cap-is k l in
          record {
            words = (tt, all_append (WordFits tree w) (content tree k) (finish k ∷ []) h.words (tt, tt));
            size = omega (arith, before, behind, first, last, parts, inside, is);
          }

      boxes-room : (at : ℕ) (ks : List ℕ) → AllByRecursion (IsKid tree.boxes at) ks → ((k : ℕ) → at < k → k < length tree.boxes → HasRoom (box_items tree k) (cap_of k))
          → HasRoom (flat_map (box_items tree) ks) (sum (map cap_of ks))
      boxes-room at [] a each = record { words = tt; size = omega arith }
      boxes-room at (k ∷ ks) a each =
          let kid = a.0 in
          let one = each k kid.after kid.within in
          let rest = boxes-room at ks a.1 each in
          let own = one.size in
          let others = rest.size in
          let all = sum_by-cons (λ (n : ℕ). n) (cap_of k) (map cap_of ks) in
          let parts = rooms-append (box_items tree k) (flat_map (box_items tree) ks) in
          record {
            words = all_append (WordFits tree w) (box_items tree k) (flat_map (box_items tree) ks) one.words rest.words;
            size = omega (arith, own, others, all, parts);
          }

      content-to : (levels at : ℕ) → at < length tree.boxes → length tree.boxes ≤ at + levels → HasRoom (content tree at) (2 ^ 44 * inner at)
      content-to zero at l s = absurd (omega (arith, l, s))
      content-to (suc levels) at l s =
          let inside = boxes-room at (kids_of tree.boxes at) ((forest tree).kids at)
          (λ k a b. box-room k (sort_of tree k) b (content-to levels k b (omega (arith, a, s)))) in
          subst (λ m. HasRoom (content tree at) m) (caps-are (kids_of tree.boxes at))
          (subst (λ items. HasRoom items (sum (map cap_of (kids_of tree.boxes at)))) (sym (content-by-boxes tree at (forest tree))) inside)

      box-fits : (at : ℕ) → at < length tree.boxes → BoxFits tree w (λ (k : ℕ). 2 ^ 41) cap_of at
      box-fits at l = record { own = own at l; words = inside.words; room = by (inside_of tree at) refl }
        where
          inside : HasRoom (content tree at) (2 ^ 44 * inner at)
          inside = content-to (length tree.boxes) at l (omega arith)

          by : (s : Inside) → inside_of tree at ≡ s → 8 * 2 ^ 41 + room_inside tree w cap_of at ≤ cap_of at
          by a_replaced e = let same = ap (room_by tree w cap_of at) e in let is = cap-is at l in omega (arith, same, is)
          by inline_content e = let same = ap (room_by tree w cap_of at) e in let is = cap-is at l in let size = inside.size in omega (arith, same, is, size)
          by blocks e = let same = ap (room_by tree w cap_of at) e in let is = cap-is at l in let all = caps-are (kids_of tree.boxes at) in omega (arith, same, is, all)

pub boxes-fit : (tree : BoxTree) (is_open : Reading → Bool) → AreSmallBoxes tree is_open → BoxesFit tree is_open
boxes-fit tree is_open small = record {
  lengths = λ at. 2 ^ 41;
  cap = cap_of tree;
  most = λ at l. let few = small.few_boxes in let inside = few-inside tree at l in omega (arith, few, inside);
  boxes = λ e o at l. box-fits tree e.world (small.lengths e o) (small.texts e o) at l;
}

-- ---- preferred widths

module _ (tree : BoxTree) (is_open : Reading → Bool) (small : AreSmallBoxes tree is_open) (e : Reading) (o : IsTrue (is_open e)) where
  fits : (at : ℕ) → at < length tree.boxes → BoxFits tree e.world (λ (k : ℕ). 2 ^ 41) (cap_of tree) at
  fits at l = box-fits tree e.world (small.lengths e o) (small.texts e o) at l

  cap-low : (at : ℕ) → at < length tree.boxes → cap_of tree at ≤ 2 ^ 58
  cap-low at l = let few = small.few_boxes in let inside = few-inside tree at l in omega (arith, few, inside)

  pub outer-low : (at : ℕ) → at < length tree.boxes → AreWithin (2 ^ 58) (outer tree e.world at)
  outer-low at l =
      let own = is-capped tree e.world (λ (k : ℕ). 2 ^ 41) (cap_of tree) fits at l in
      let least = own.0 in
      let most = own.1 in
      let cap = cap-low at l in
      (omega (arith, least, cap), omega (arith, most, cap))

  pub inside-low : (at : ℕ) → at < length tree.boxes → AreWithin (2 ^ 58) (preferred tree e.world at)
  inside-low at l =
      let own = inside-capped tree e.world (λ (k : ℕ). 2 ^ 41) (cap_of tree) fits at l in
      let room = (fits at l).room in
      let least = own.0 in
      let most = own.1 in
      let cap = cap-low at l in
      (omega (arith, least, room, cap), omega (arith, most, room, cap))

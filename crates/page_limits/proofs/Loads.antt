-- What is in a box makes the flow go on by no more than its boxes and characters together.
use Rattle.std.proofs.Common.{◌≡◌, ℕ, zero, suc, ◌+◌, ◌*◌, ◌<◌, ◌≤◌, ◌^◌, Bool, true, false, nat_lt, IsTrue, List, [], ◌∷◌, ◌++◌, length, refl, sym, ap, subst, arith}
use Rattle.std.specs.Prelude.{◌==◌}
use Rattle.std.specs.List.{AllByRecursion, flat_map}
use Rattle.std.proofs.lemmas.Bool.Decides.{nat_tests}
use Rattle.viz_base.specs.declared.trees.BoxTree.{BoxTree}
use Rattle.layout_semantics.specs.FlowBoxes.{flow_children}
use Rattle.layout_semantics.specs.InlineContent.{Item, start, finish, word, space, atomic, forced, float, Sort, a_float, an_atomic, a_break, a_text, an_inline, sort_of, text_of, text_items, letter_before, character_before, items_to, content, float_boxes, is_floated_at, has_line, holds_inline}
use Rattle.layout_semantics.specs.Order.{kids_of, order_to, document_order}
use Rattle.layout_semantics.proofs.Forest.{IsKid, both}
use Rattle.layout_semantics.proofs.Orders.{document_order-is}
use Rattle.layout_semantics.proofs.Pages.{forest}
use Rattle.layout_laws.specs.Nested.{items_of_sort}
use Rattle.layout_laws.proofs.Levels.{All-implied}
use Rattle.lay_steps.proofs.LeadEnds.{content-floats}
use Rattle.lay_steps.specs.Order.{next_of, each_before_next, is_before_to, is_before}
use Rattle.page_limits.specs.Bounds.{Bounds, grown, all_around, together}
use Rattle.page_limits.specs.Inline.{rise_of, float_rise, charge}
use Rattle.page_limits.specs.Loads.{greatest_length, unit, weight, weights, load, size_of}
use Rattle.page_limits.specs.Rises.{kid_rise, content_rise_to, content_rise}

abbrev most_of_item : ℕ
most_of_item = 40 * (2 ^ 45 + 1)

abbrev costs : (Item → ℕ) → List Item → ℕ
costs cost [] = 0
costs cost (i ∷ items) = cost i + costs cost items

costs-append : (cost : Item → ℕ) (xs ys : List Item) → costs cost (xs ++ ys) ≡ costs cost xs + costs cost ys
costs-append cost [] ys = omega arith
costs-append cost (x ∷ xs) ys = let rest = costs-append cost xs ys in omega (arith, rest)

module _ (tree : BoxTree) where
  weights-append : (xs ys : List ℕ) → weights tree (xs ++ ys) ≡ weights tree xs + weights tree ys
  weights-append [] ys = omega arith
  weights-append (x ∷ xs) ys = let rest = weights-append xs ys in omega (arith, rest)

  -- of several boxes and all in them
  abbrev pub loads : List ℕ → ℕ
  loads ks = weights tree (flat_map (document_order tree.boxes) ks)

  loads-cons : (k : ℕ) (ks : List ℕ) → loads (k ∷ ks) ≡ load tree k + loads ks
  loads-cons k ks = weights-append (document_order tree.boxes k) (flat_map (document_order tree.boxes) ks)

  pub load-is : (k : ℕ) → k < length tree.boxes → load tree k ≡ weight tree k + loads (kids_of tree.boxes k)
  load-is k l = ap (weights tree) (document_order-is tree.boxes k (forest tree) l)

  -- ---- items

  module _ (cost : Item → ℕ) (starts : (at : ℕ) → cost (start at) ≤ most_of_item) (ends : (at : ℕ) → cost (finish at) ≤ most_of_item) (words : (at : ℕ) (text : List ℕ) → cost (word at text) ≤ most_of_item)
      (spaces : (at : ℕ) → cost (space at) ≤ most_of_item) (breaks : (at : ℕ) → cost (forced at) ≤ most_of_item)
      (atoms : (at : ℕ) → at < length tree.boxes → cost (atomic at) ≤ unit * load tree at) (floats : (at : ℕ) → at < length tree.boxes → cost (float at) ≤ unit * load tree at) where
    letter-cost : (at c : ℕ) (items : List Item) → costs cost (letter_before at c items) ≤ most_of_item + costs cost items
    letter-cost at c [] = let a = words at (c ∷ []) in omega (arith, a)
    letter-cost at c (word other text ∷ items) = let a = words other (c ∷ text) in omega (arith, a)
    letter-cost at c (start other ∷ items) = let a = words at (c ∷ []) in omega (arith, a)
    letter-cost at c (finish other ∷ items) = let a = words at (c ∷ []) in omega (arith, a)
    letter-cost at c (space other ∷ items) = let a = words at (c ∷ []) in omega (arith, a)
    letter-cost at c (atomic other ∷ items) = let a = words at (c ∷ []) in omega (arith, a)
    letter-cost at c (forced other ∷ items) = let a = words at (c ∷ []) in omega (arith, a)
    letter-cost at c (float other ∷ items) = let a = words at (c ∷ []) in omega (arith, a)

    text-cost : (at : ℕ) (text : List ℕ) → costs cost (text_items at text) ≤ most_of_item * length text
    text-cost at [] = omega arith
    text-cost at (c ∷ cs) = by (c == 32) (text-cost at cs)
      where
        by : (b : Bool) → costs cost (text_items at cs) ≤ most_of_item * length cs → costs cost (character_before b at c (text_items at cs)) ≤ most_of_item * suc (length cs)
        by true rest = let a = spaces at in omega (arith, a, rest)
        by false rest = let a = letter-cost at c (text_items at cs) in omega (arith, a, rest)

    each-cost : (f : ℕ → List Item) (ks : List ℕ) → AllByRecursion (λ k. costs cost (f k) ≤ unit * load tree k) ks → costs cost (flat_map f ks) ≤ unit * loads ks
    each-cost f [] a = omega arith
    each-cost f (k ∷ ks) a = let rest = each-cost f ks a.1 in let split = costs-append cost (f k) (flat_map f ks) in let all = loads-cons k ks in let here = a.0 in omega (arith, rest, split, all, here)

    sort-cost : (k : ℕ) (inside : List Item) (s : Sort) → k < length tree.boxes → costs cost inside ≤ unit * loads (kids_of tree.boxes k) → costs cost (items_of_sort tree k inside s) ≤ unit * load tree k
    sort-cost k inside a_float l h = let a = floats k l in omega (arith, a)
    sort-cost k inside an_atomic l h = let a = atoms k l in omega (arith, a)
    sort-cost k inside a_break l h = let a = breaks k in let is = load-is k l in omega (arith, a, is)
    sort-cost k inside a_text l h = let a = text-cost k (text_of tree k) in let is = load-is k l in omega (arith, a, is)
    sort-cost k inside an_inline l h =
        let a = starts k in
        let b = ends k in
        let split = costs-append cost inside (finish k ∷ []) in
        let is = load-is k l in
        omega (arith, a, b, split, is, h)

    items-cost : (n k : ℕ) → k < length tree.boxes → costs cost (items_to n tree k) ≤ unit * load tree k
    unfolding items_to
    items-cost zero k l = omega arith
    items-cost (suc n) k l = sort-cost k (flat_map (items_to n tree) (kids_of tree.boxes k)) (sort_of tree k) l
        (each-cost (items_to n tree) (kids_of tree.boxes k) (All-implied (IsKid tree.boxes k) (λ j. costs cost (items_to n tree j) ≤ unit * load tree j) (kids_of tree.boxes k) (λ j i. items-cost n j i.within) ((forest tree).kids k)))

    content-cost : (k : ℕ) → costs cost (content tree k) ≤ unit * loads (kids_of tree.boxes k)
    content-cost k = each-cost (items_to (length tree.boxes) tree) (kids_of tree.boxes k)
        (All-implied (IsKid tree.boxes k) (λ j. costs cost (items_to (length tree.boxes) tree j) ≤ unit * load tree j) (kids_of tree.boxes k) (λ j i. items-cost (length tree.boxes) j i.within) ((forest tree).kids k))

  -- ---- bounds

  abbrev pub IsFew : (ℕ → Bounds) → Type 0
  IsFew own = (k : ℕ) → k < length tree.boxes → size_of (own k) + 2 * unit ≤ unit * load tree k

  module _ (own turned : ℕ → Bounds) (few : IsFew own) (turned_few : IsFew turned) where
    s : ℕ
    s = greatest_length

    charge_cost : Item → ℕ
    charge_cost i = size_of (rise_of turned i) + size_of (float_rise own i) + most_of_item

    charges-cost : (items : List Item) → size_of (together (charge own turned greatest_length) items) ≤ costs charge_cost items
    unfolding charge_cost
    charges-cost [] = omega arith
    charges-cost (i ∷ items) = let rest = charges-cost items in omega (arith, rest)

    lines-few : (k : ℕ) → size_of (together (charge own turned greatest_length) (content tree k)) ≤ unit * loads (kids_of tree.boxes k)
    unfolding charge_cost rise_of float_rise
    lines-few k =
        let all = charges-cost (content tree k) in
        let cost = content-cost charge_cost (λ at. omega arith) (λ at. omega arith) (λ at text. omega arith) (λ at. omega arith) (λ at. omega arith)
        (λ at l. (let a = turned_few at l in omega (arith, a))) (λ at l. (let a = few at l in omega (arith, a))) k in
        omega (arith, all, cost)

    float_cost : Item → ℕ
    float_cost (float at) = size_of (own at) + 2 * unit
    float_cost _ = 0

    floats-cost : (inside : ℕ → Bounds) (items : List Item) → AllByRecursion (λ k. is_floated_at tree k ≡ true) (float_boxes items) → size_of (together (kid_rise tree own turned greatest_length inside) (float_boxes items)) ≤ costs float_cost items
    unfolding float_cost
    floats-cost inside [] a = omega arith
    floats-cost inside (float at ∷ items) a =
        let rest = floats-cost inside items a.1 in
        let e = ap (λ (b : Bool). size_of (grown (all_around (32 * (greatest_length + 1))) (elim b as (λ _. Bounds) [ true ↦ own at | false ↦ inside at ]))) a.0 in
        omega (arith, rest, e)
    floats-cost inside (start at ∷ items) a = let rest = floats-cost inside items a in omega (arith, rest)
    floats-cost inside (finish at ∷ items) a = let rest = floats-cost inside items a in omega (arith, rest)
    floats-cost inside (word at text ∷ items) a = let rest = floats-cost inside items a in omega (arith, rest)
    floats-cost inside (space at ∷ items) a = let rest = floats-cost inside items a in omega (arith, rest)
    floats-cost inside (atomic at ∷ items) a = let rest = floats-cost inside items a in omega (arith, rest)
    floats-cost inside (forced at ∷ items) a = let rest = floats-cost inside items a in omega (arith, rest)

    inline-floats-few : (inside : ℕ → Bounds) (k : ℕ) → size_of (together (kid_rise tree own turned greatest_length inside) (float_boxes (content tree k))) ≤ unit * loads (kids_of tree.boxes k)
    unfolding float_cost
    inline-floats-few inside k =
        let all = floats-cost inside (content tree k) (content-floats tree k) in
        let cost = content-cost float_cost (λ at. omega arith) (λ at. omega arith) (λ at text. omega arith) (λ at. omega arith) (λ at. omega arith)
        (λ at l. omega arith) (λ at l. (let a = few at l in omega (arith, a))) k in
        omega (arith, all, cost)

    kids-few : (inside : ℕ → Bounds) (ks : List ℕ) → AllByRecursion (λ k. size_of (kid_rise tree own turned greatest_length inside k) ≤ unit * load tree k) ks → size_of (together (kid_rise tree own turned greatest_length inside) ks) ≤ unit * loads ks
    kids-few inside [] a = omega arith
    kids-few inside (k ∷ ks) a = let rest = kids-few inside ks a.1 in let here = a.0 in let all = loads-cons k ks in omega (arith, rest, here, all)

    kid-few : (inside : ℕ → Bounds) (k : ℕ) → k < length tree.boxes → size_of (inside k) ≤ unit * loads (kids_of tree.boxes k) → size_of (kid_rise tree own turned greatest_length inside k) ≤ unit * load tree k
    kid-few inside k l h = by (is_floated_at tree k)
      where
        by : (b : Bool) → size_of (grown (all_around (32 * (greatest_length + 1))) (elim b as (λ _. Bounds) [ true ↦ own k | false ↦ inside k ])) ≤ unit * load tree k
        by true = let a = few k l in omega (arith, a)
        by false = let is = load-is k l in omega (arith, is, h)

    rise-few : (n k : ℕ) → k < length tree.boxes → size_of (content_rise_to tree own turned greatest_length n k) ≤ unit * loads (kids_of tree.boxes k)
    unfolding content_rise_to
    rise-few zero k l = omega arith
    rise-few (suc n) k l = by (has_line tree k) (holds_inline tree k) refl (λ j m. rise-few n j m)
      where
        inside : ℕ → Bounds
        inside = content_rise_to tree own turned greatest_length n

        children : (h : Bool) → holds_inline tree k ≡ h → ((j : ℕ) → j < length tree.boxes → size_of (content_rise_to tree own turned greatest_length n j) ≤ unit * loads (kids_of tree.boxes j))
            → size_of (together (kid_rise tree own turned greatest_length (content_rise_to tree own turned greatest_length n)) (flow_children tree k)) ≤ unit * loads (kids_of tree.boxes k)
        children true e again = rw e (inline-floats-few (content_rise_to tree own turned greatest_length n) k)
        children false e again = rw e (kids-few (content_rise_to tree own turned greatest_length n) (kids_of tree.boxes k)
            (All-implied (IsKid tree.boxes k) (λ j. size_of (kid_rise tree own turned greatest_length (content_rise_to tree own turned greatest_length n) j) ≤ unit * load tree j) (kids_of tree.boxes k)
            (λ j i. kid-few (content_rise_to tree own turned greatest_length n) j i.within (again j i.within)) ((forest tree).kids k)))

        by : (line h : Bool) → holds_inline tree k ≡ h → ((j : ℕ) → j < length tree.boxes → size_of (content_rise_to tree own turned greatest_length n j) ≤ unit * loads (kids_of tree.boxes j))
            → size_of (elim line as (λ _. Bounds) [ true ↦ together (charge own turned greatest_length) (content tree k) | false ↦ together (kid_rise tree own turned greatest_length (content_rise_to tree own turned greatest_length n)) (flow_children tree k) ]) ≤ unit * loads (kids_of tree.boxes k)
        by true h e again = lines-few k
        by false h e again = children h e again

    pub independent-few : (k : ℕ) → k < length tree.boxes → size_of (grown (all_around (32 * (greatest_length + 1))) (content_rise tree own turned greatest_length k)) + 2 * unit ≤ unit * load tree k
    independent-few k l = let rise = rise-few (length tree.boxes) k l in let is = load-is k l in omega (arith, rise, is)

  -- ---- all boxes together

  -- of the boxes before a number
  abbrev pub rank : ℕ → ℕ
  rank zero = 0
  rank (suc n) = rank n + weight tree n

  rank-more : (m n : ℕ) → m ≤ n → rank m ≤ rank n
  rank-more m zero l = by m l
    where
      by : (m : ℕ) → m ≤ 0 → rank m ≤ 0
      by zero l = omega arith
      by (suc m) l = absurd (omega (arith, l))
  rank-more m (suc n) l = by (λ less. rank-more m n less) (nat_lt n m) refl
    where
      by : (m ≤ n → rank m ≤ rank n) → (b : Bool) → nat_lt n m ≡ b → rank m ≤ rank n + weight tree n
      by again true e = let same : m ≡ suc n = grind (arith, nat_tests) in subst (λ (x : ℕ). rank x ≤ rank n + weight tree n) (sym same) (omega arith)
      by again false e = let less : m ≤ n = grind (arith, nat_tests) in let rest = again less in omega (arith, rest)

  abbrev ordered : ℕ → ℕ → List ℕ
  ordered n k = order_to n tree.boxes k

  kids-rank : (n : ℕ) → ((k end : ℕ) → IsTrue (is_before_to n tree.boxes k end) → weights tree (ordered n k) + rank k ≤ rank end) → (low end : ℕ) (ks : List ℕ) → low ≤ next_of ks end → IsTrue (each_before_next (is_before_to n tree.boxes) ks end)
      → weights tree (flat_map (ordered n) ks) + rank low ≤ rank end
  kids-rank n again low end [] l t = let r = rank-more low end l in omega (arith, r)
  kids-rank n again low end (k ∷ ks) l t =
      let parts = both (is_before_to n tree.boxes k (next_of ks end)) (each_before_next (is_before_to n tree.boxes) ks end) t in
      let here = again k (next_of ks end) parts.0 in
      let rest = kids-rank n again (next_of ks end) end ks (omega arith) parts.1 in
      let split = weights-append (ordered n k) (flat_map (ordered n) ks) in
      let r = rank-more low k l in
      omega (arith, here, rest, split, r)

  first-from : (k end : ℕ) (ks : List ℕ) → AllByRecursion (λ j. k < j) ks → k < end → suc k ≤ next_of ks end
  first-from k end [] a l = omega (arith, l)
  first-from k end (j ∷ ks) a l = let first = a.0 in omega (arith, first)

  order-rank : (n k end : ℕ) → IsTrue (is_before_to n tree.boxes k end) → weights tree (ordered n k) + rank k ≤ rank end
  unfolding order_to is_before_to
  order-rank zero k end t = let l : k < end = grind (arith, nat_tests) in let r = rank-more k end (omega (arith, l)) in omega (arith, r)
  order-rank (suc n) k end t =
      let parts = both (nat_lt k end) (each_before_next (is_before_to n tree.boxes) (kids_of tree.boxes k) end) t in
      let first = parts.0 in
      let l : k < end = grind (arith, nat_tests, first) in
      let after = first-from k end (kids_of tree.boxes k) (All-implied (IsKid tree.boxes k) (λ j. k < j) (kids_of tree.boxes k) (λ j i. i.after) ((forest tree).kids k)) l in
      let rest = kids-rank n (order-rank n) (suc k) end (kids_of tree.boxes k) after parts.1 in
      omega (arith, rest)

  pub load-rank : (k end : ℕ) → IsTrue (is_before tree.boxes k end) → load tree k + rank k ≤ rank end
  load-rank k end t = order-rank (length tree.boxes) k end t

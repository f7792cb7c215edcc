-- The preferred widths of a box are within what its boxes cost together.
use Rattle.std.proofs.Common.{◌≡◌, ℕ, zero, suc, ◌+◌, ◌<◌, ◌≤◌, max, ℤ, pos, ◌+ℤ◌, unsigned_abs, Bool, true, false, List, [], ◌∷◌, ◌++◌, map, length, Option, slice_get, None, Some, refl, ap, arith}
use Rattle.std.specs.Prelude.{not, ◌&&◌, ◌||◌}
use Rattle.std.specs.List.{AllByRecursion, flat_map, list_any}
use Rattle.std.specs.Option.{option_map_or}
use Rattle.std.proofs.lemmas.Int.{ints}
use Rattle.viz_base.specs.Trees.{is_floated, is_fragmented, is_inline_level}
use Rattle.viz_base.specs.declared.layouts.Preferred.{Preferred}
use Rattle.viz_base.specs.declared.trees.BoxNode.{BoxNode}
use Rattle.viz_base.specs.declared.trees.BoxTree.{BoxTree}
use Rattle.viz_base.specs.declared.trees.Kind.{Kind}
use Rattle.viz_base.specs.declared.trees.Kind.TheVariants as of_kind
use Rattle.viz_base.specs.declared.worlds.World.{World}
use Rattle.viz_base.proofs.ListLemmas.{all_append}
use Rattle.layout_semantics.specs.Blocks.{kind_of, node_of}
use Rattle.layout_semantics.specs.Fonts.{text_width}
use Rattle.layout_semantics.specs.InlineContent.{Item, start, finish, word, space, atomic, forced, float, Sort, a_float, an_atomic, a_break, a_text, an_inline, sort_of, text_of, text_items, items_to, content, is_floated_at, is_inline_level_at, holds_inline, inner_boxes, start_edges, end_edges}
use Rattle.layout_semantics.specs.Lengths.{total}
use Rattle.layout_semantics.specs.Lists.{table_of}
use Rattle.layout_semantics.specs.Order.{kids_of, document_order}
use Rattle.layout_semantics.specs.Preferred.{Inside, a_replaced, inline_content, blocks, inside_of, absolute_part, outer_width, outer_preferred, preferred_item, preferred_segment, preferred_floats, measured_width, least_inline, most_inline, with_most, as_children, block_widths, preferred_inline, preferred_blocks, preferred_to, preferred}
use Rattle.layout_semantics.specs.Replaced.{preferred_replaced}
use Rattle.layout_semantics.specs.Segments.{is_break, may_part, never, what_stays, segments, pieces}
use Rattle.layout_semantics.proofs.Forest.{IsKid}
use Rattle.layout_semantics.proofs.Orders.{document_order-is}
use Rattle.layout_semantics.proofs.Pages.{forest}
use Rattle.layout_laws.proofs.Levels.{All-implied}
use Rattle.page_limits.proofs.Levels.{All-map}
use Rattle.page_limits.proofs.WidthsLists.{costs, costs-append, costs-both, each-within, IsSized, greatest-size, total-size, child_size, block-sizes, stays-cost, parts-cost, entries, measured-size}

module _ (tree : BoxTree) (w : World) where
  -- ---- inline content, by a table of the boxes in it

  module _ (inner : List (Option ℤ)) where
    plain_cost : Item → ℕ
    plain_cost i = unsigned_abs (preferred_item tree w inner i)

    float_cost : Item → ℕ
    float_cost (float at) = unsigned_abs (measured_width inner at)
    float_cost _ = 0

    abbrev item_cost : Item → ℕ
    item_cost i = plain_cost i + float_cost i

    segment-size : (items : List Item) → IsSized (costs plain_cost items) (preferred_segment tree w inner items)
    unfolding plain_cost
    segment-size items =
        let all = total-size (preferred_item tree w inner) plain_cost (λ i. omega arith) (what_stays items) in
        let stays = stays-cost plain_cost items in
        omega (arith, all, stays)

    floats-size : (items : List Item) → IsSized (costs float_cost items) (total (preferred_floats inner items))
    unfolding float_cost
    floats-size [] = omega arith
    floats-size (float at ∷ items) = let rest = floats-size items in omega (arith, ints, rest)
    floats-size (start at ∷ items) = let rest = floats-size items in omega (arith, rest)
    floats-size (finish at ∷ items) = let rest = floats-size items in omega (arith, rest)
    floats-size (word at text ∷ items) = let rest = floats-size items in omega (arith, rest)
    floats-size (space at ∷ items) = let rest = floats-size items in omega (arith, rest)
    floats-size (atomic at ∷ items) = let rest = floats-size items in omega (arith, rest)
    floats-size (forced at ∷ items) = let rest = floats-size items in omega (arith, rest)

    each-float : (n : ℕ) (items : List Item) → costs float_cost items ≤ n → AllByRecursion (IsSized n) (preferred_floats inner items)
    unfolding float_cost
    each-float n [] l = tt
    each-float n (float at ∷ items) l = (omega (arith, l), each-float n items (omega (arith, l)))
    each-float n (start at ∷ items) l = each-float n items (omega (arith, l))
    each-float n (finish at ∷ items) l = each-float n items (omega (arith, l))
    each-float n (word at text ∷ items) l = each-float n items (omega (arith, l))
    each-float n (space at ∷ items) l = each-float n items (omega (arith, l))
    each-float n (atomic at ∷ items) l = each-float n items (omega (arith, l))
    each-float n (forced at ∷ items) l = each-float n items (omega (arith, l))

    least-size : (n : ℕ) (items : List Item) → costs item_cost items ≤ n → IsSized n (least_inline tree w inner items)
    least-size n items l =
        let both = costs-both plain_cost float_cost items in
        let parts = parts-cost item_cost (is_break (may_part tree)) [] items in
        greatest-size n (map (preferred_segment tree w inner) (segments tree items) ++ preferred_floats inner items)
        (all_append (IsSized n) (map (preferred_segment tree w inner) (segments tree items)) (preferred_floats inner items)
        (All-map (IsSized n) (preferred_segment tree w inner) (segments tree items)
        (All-implied (λ part. costs item_cost part ≤ n) (λ part. IsSized n (preferred_segment tree w inner part)) (segments tree items)
        (λ part m. (let size = segment-size part in let split = costs-both plain_cost float_cost part in omega (arith, size, split, m)))
        (each-within (costs item_cost) (segments tree items) n (omega (arith, parts, l)))))
        (each-float n items (omega (arith, both, l))))

    most-size : (n : ℕ) (items : List Item) → costs item_cost items ≤ n → IsSized n (most_inline tree w inner items)
    most-size n items l =
        let parts = parts-cost item_cost (is_break never) [] items in
        greatest-size n (map (λ piece. preferred_segment tree w inner piece +ℤ total (preferred_floats inner piece)) (pieces items))
        (All-map (IsSized n) (λ piece. preferred_segment tree w inner piece +ℤ total (preferred_floats inner piece)) (pieces items)
        (All-implied (λ part. costs item_cost part ≤ n) (λ part. IsSized n (preferred_segment tree w inner part +ℤ total (preferred_floats inner part))) (pieces items)
        (λ part m. (let size = segment-size part in let beside = floats-size part in let split = costs-both plain_cost float_cost part in omega (arith, ints, size, beside, split, m)))
        (each-within (costs item_cost) (pieces items) n (omega (arith, parts, l)))))

  -- ---- inline content, by the sizes of the boxes in it

  -- what an item takes, where a box in inline content takes so much
  abbrev pub room_of : (ℕ → ℕ) → Item → ℕ
  room_of sizes (word at text) = unsigned_abs (text_width tree w (node_of tree at) text)
  room_of sizes (space at) = unsigned_abs (text_width tree w (node_of tree at) (32 ∷ []))
  room_of sizes (atomic at) = sizes at
  room_of sizes (start at) = unsigned_abs (total (map (absolute_part tree w) (start_edges tree at)))
  room_of sizes (finish at) = unsigned_abs (total (map (absolute_part tree w) (end_edges tree at)))
  room_of sizes (forced at) = 0
  room_of sizes (float at) = sizes at

  module _ (outer : ℕ → Preferred ℤ) (part : Preferred ℤ → ℤ) (sizes : ℕ → ℕ) (sized : (k : ℕ) → unsigned_abs (part (outer k)) ≤ sizes k) where
    by-room : (n : ℕ) (ks : List ℕ) (i : Item) → item_cost (table_of n (entries outer part ks)) i ≤ room_of sizes i
    unfolding plain_cost float_cost
    by-room n ks (word at text) = omega arith
    by-room n ks (space at) = omega arith
    by-room n ks (atomic at) = let own = measured-size outer part n at ks in let size = sized at in omega (arith, own, size)
    by-room n ks (start at) = omega arith
    by-room n ks (finish at) = omega arith
    by-room n ks (forced at) = omega arith
    by-room n ks (float at) = let own = measured-size outer part n at ks in let size = sized at in omega (arith, own, size)

    each-room : (n : ℕ) (ks : List ℕ) (items : List Item) → costs (item_cost (table_of n (entries outer part ks))) items ≤ costs (room_of sizes) items
    each-room n ks [] = omega arith
    each-room n ks (i ∷ items) = let one = by-room n ks i in let rest = each-room n ks items in omega (arith, one, rest)

  -- ---- what the boxes in a box cost

  module _ (cost : ℕ → ℕ) where
    abbrev pub cap : ℕ → ℕ
    cap k = costs cost (document_order tree.boxes k)

    caps-are : (ks : List ℕ) → costs cost (flat_map (document_order tree.boxes) ks) ≡ costs cap ks
    caps-are [] = refl
    caps-are (k ∷ ks) =
        let rest = caps-are ks in
        let split = costs-append cost (document_order tree.boxes k) (flat_map (document_order tree.boxes) ks) in
        omega (arith, rest, split)

    pub cap-is : (k : ℕ) → k < length tree.boxes → cap k ≡ cost k + costs cap (kids_of tree.boxes k)
    cap-is k l =
        let is = ap (costs cost) (document_order-is tree.boxes k (forest tree) l) in
        let all = caps-are (kids_of tree.boxes k) in
        omega (arith, is, all)

    -- what each box costs by itself
    pub record AreCosted : Type 0 where
      pub texts : (k : ℕ) → k < length tree.boxes → kind_of tree k ≡ of_kind.Chars → (room : Item → ℕ) → ((text : List ℕ) → room (word k text) ≡ unsigned_abs (text_width tree w (node_of tree k) text))
          → room (space k) ≡ unsigned_abs (text_width tree w (node_of tree k) (32 ∷ [])) → costs room (text_items k (text_of tree k)) ≤ cost k
      pub inlines : (k : ℕ) → k < length tree.boxes → kind_of tree k ≡ of_kind.Inline
          → unsigned_abs (total (map (absolute_part tree w) (start_edges tree k))) + unsigned_abs (total (map (absolute_part tree w) (end_edges tree k))) ≤ cost k
      pub whole : (k : ℕ) → k < length tree.boxes → is_fragmented (kind_of tree k) ≡ false → (x : ℤ) → unsigned_abs (outer_width tree w k x) ≤ cost k + unsigned_abs x
      pub replaced : (k : ℕ) → k < length tree.boxes → kind_of tree k ≡ of_kind.Replaced → unsigned_abs (outer_width tree w k (preferred_replaced tree w k)) ≤ cost k
      pub independent : (k : ℕ) → k < length tree.boxes → kind_of tree k ≡ of_kind.Replaced → unsigned_abs (preferred_replaced tree w k) ≤ cost k

    -- ---- sorts of boxes

    float-whole : (k : ℕ) → is_floated_at tree k ≡ true → is_fragmented (kind_of tree k) ≡ false
    unfolding is_floated_at
    float-whole k e = by (slice_get tree.boxes k) refl e
      where
        kinds : (b : BoxNode) (kind : Kind) → b.kind ≡ kind → is_floated tree.styles b ≡ true → is_fragmented kind ≡ false
        kinds b of_kind.Inline is e = absurd (let none : is_floated tree.styles b ≡ false = rw is refl in cc)
        kinds b of_kind.Chars is e = absurd (let none : is_floated tree.styles b ≡ false = rw is refl in cc)
        kinds b of_kind.Break is e = absurd (let none : is_floated tree.styles b ≡ false = rw is refl in cc)
        kinds b of_kind.Block is e = refl
        kinds b of_kind.Anon is e = refl
        kinds b of_kind.Float is e = refl
        kinds b of_kind.Atomic is e = refl
        kinds b of_kind.Replaced is e = refl
        kinds b of_kind.Line is e = refl

        by : (o : Option BoxNode) → slice_get tree.boxes k ≡ o → option_map_or (is_floated tree.styles) o false ≡ true → is_fragmented (option_map_or (λ (b : BoxNode). b.kind) o of_kind.Block) ≡ false
        by None is e = refl
        by (Some b) is e = kinds b b.kind refl e

    -- a box that isn't in a line is whole
    apart-whole : (k : ℕ) → is_inline_level_at tree k ≡ false → is_fragmented (kind_of tree k) ≡ false
    unfolding is_floated_at is_inline_level_at
    apart-whole k e = by (slice_get tree.boxes k) refl e
      where
        kinds : (b : BoxNode) (kind : Kind) → b.kind ≡ kind → (is_inline_level b && not (is_floated tree.styles b)) ≡ false → is_fragmented kind ≡ false
        kinds b of_kind.Inline is e = absurd (let some : (is_inline_level b && not (is_floated tree.styles b)) ≡ true = rw is refl in cc)
        kinds b of_kind.Chars is e = absurd (let some : (is_inline_level b && not (is_floated tree.styles b)) ≡ true = rw is refl in cc)
        kinds b of_kind.Break is e = absurd (let some : (is_inline_level b && not (is_floated tree.styles b)) ≡ true = rw is refl in cc)
        kinds b of_kind.Block is e = refl
        kinds b of_kind.Anon is e = refl
        kinds b of_kind.Float is e = refl
        kinds b of_kind.Atomic is e = refl
        kinds b of_kind.Replaced is e = refl
        kinds b of_kind.Line is e = refl

        by : (o : Option BoxNode) → slice_get tree.boxes k ≡ o → (option_map_or is_inline_level o false && not (option_map_or (is_floated tree.styles) o false)) ≡ false
            → is_fragmented (option_map_or (λ (b : BoxNode). b.kind) o of_kind.Block) ≡ false
        by None is e = refl
        by (Some b) is e = kinds b b.kind refl e

    -- what the sort of a box in inline content says of its kind
    abbrev KindOf : Sort → Kind → Type 0
    KindOf a_float kind = is_fragmented kind ≡ false
    KindOf an_atomic kind = is_fragmented kind ≡ false
    KindOf a_break kind = kind ≡ of_kind.Break
    KindOf a_text kind = kind ≡ of_kind.Chars
    KindOf an_inline kind = kind ≡ of_kind.Inline

    sort-kind : (k : ℕ) → KindOf (sort_of tree k) (kind_of tree k)
    sort-kind k = by (is_floated_at tree k) refl (kind_of tree k) refl
      where
        by : (b : Bool) → is_floated_at tree k ≡ b → (kind : Kind) → kind_of tree k ≡ kind → KindOf (sort_of tree k) (kind_of tree k)
        by true e kind f = rw e (float-whole k e)
        by false e of_kind.Chars f = rw (e, f) refl
        by false e of_kind.Break f = rw (e, f) refl
        by false e of_kind.Inline f = rw (e, f) refl
        by false e of_kind.Block f = rw (e, f) refl
        by false e of_kind.Anon f = rw (e, f) refl
        by false e of_kind.Float f = rw (e, f) refl
        by false e of_kind.Atomic f = rw (e, f) refl
        by false e of_kind.Replaced f = rw (e, f) refl
        by false e of_kind.Line f = rw (e, f) refl

    module _ (costed : AreCosted) where
      -- ---- inline content

      module _ (sizes : ℕ → ℕ) (small : (k : ℕ) → k < length tree.boxes → is_fragmented (kind_of tree k) ≡ false → sizes k ≤ cap k) where
        abbrev room : Item → ℕ
        room = room_of sizes

        abbrev by_sort : ℕ → List Item → Sort → List Item
        by_sort at inside s = elim s [ a_float ↦ float at ∷ [] | an_atomic ↦ atomic at ∷ [] | a_break ↦ forced at ∷ [] | a_text ↦ text_items at (text_of tree at) | an_inline ↦ start at ∷ (inside ++ finish at ∷ []) ]

        sort-cost : (k : ℕ) (inside : List Item) (s : Sort) → KindOf s (kind_of tree k) → k < length tree.boxes → costs room inside ≤ costs cap (kids_of tree.boxes k) → costs room (by_sort k inside s) ≤ cap k
        sort-cost k inside a_float e l h = let a = small k l e in omega (arith, a)
        sort-cost k inside an_atomic e l h = let a = small k l e in omega (arith, a)
        sort-cost k inside a_break e l h = omega arith
        sort-cost k inside a_text e l h = let a = costed.texts k l e room (λ text. refl) refl in let is = cap-is k l in omega (arith, a, is)
        sort-cost k inside an_inline e l h =
            let a = costed.inlines k l e in
            let split = costs-append room inside (finish k ∷ []) in
            let is = cap-is k l in
            omega (arith, a, split, is, h)

        each-cost : (f : ℕ → List Item) (ks : List ℕ) → AllByRecursion (λ k. costs room (f k) ≤ cap k) ks → costs room (flat_map f ks) ≤ costs cap ks
        each-cost f [] a = omega arith
        each-cost f (k ∷ ks) a = let rest = each-cost f ks a.1 in let split = costs-append room (f k) (flat_map f ks) in let here = a.0 in omega (arith, rest, split, here)

        items-cost : (n k : ℕ) → k < length tree.boxes → costs room (items_to n tree k) ≤ cap k
        unfolding items_to
        items-cost zero k l = omega arith
        items-cost (suc n) k l = sort-cost k (flat_map (items_to n tree) (kids_of tree.boxes k)) (sort_of tree k) (sort-kind k) l
            (each-cost (items_to n tree) (kids_of tree.boxes k) (All-implied (IsKid tree.boxes k) (λ j. costs room (items_to n tree j) ≤ cap j) (kids_of tree.boxes k) (λ j i. items-cost n j i.within) ((forest tree).kids k)))

        content-cost : (k : ℕ) → costs room (content tree k) ≤ costs cap (kids_of tree.boxes k)
        content-cost k = each-cost (items_to (length tree.boxes) tree) (kids_of tree.boxes k)
            (All-implied (IsKid tree.boxes k) (λ j. costs room (items_to (length tree.boxes) tree j) ≤ cap j) (kids_of tree.boxes k) (λ j i. items-cost (length tree.boxes) j i.within) ((forest tree).kids k))

      -- ---- all boxes

      abbrev outer_to : ℕ → ℕ → Preferred ℤ
      outer_to n k = outer_preferred tree w k (preferred_to n tree w k)

      pub record AreWithin (n : ℕ) (p : Preferred ℤ) : Type 0 where
        pub least : IsSized n p.least
        pub most : IsSized n p.most

      abbrev exact : ℕ → ℕ → ℕ
      exact n k = max (unsigned_abs (outer_to n k).least) (unsigned_abs (outer_to n k).most)

      IsFine : ℕ → Type 0
      IsFine n = (k : ℕ) → k < length tree.boxes → is_fragmented (kind_of tree k) ≡ false → exact n k ≤ cap k

      inline-within : (n k : ℕ) → IsFine n → AreWithin (costs cap (kids_of tree.boxes k)) (preferred_inline tree w (map (λ j. (j, outer_to n j)) (inner_boxes tree k)) (content tree k))
      unfolding IsFine
      inline-within n k f =
          let all = content-cost (exact n) f k in
          let least = each-room (outer_to n) (λ (p : Preferred ℤ). p.least) (exact n) (λ j. omega arith) (length tree.boxes) (inner_boxes tree k) (content tree k) in
          let most = each-room (outer_to n) (λ (p : Preferred ℤ). p.most) (exact n) (λ j. omega arith) (length tree.boxes) (inner_boxes tree k) (content tree k) in
          record {
            least = least-size (table_of (length tree.boxes) (entries (outer_to n) (λ (p : Preferred ℤ). p.least) (inner_boxes tree k))) (costs cap (kids_of tree.boxes k)) (content tree k) (omega (arith, all, least));
            most = most-size (table_of (length tree.boxes) (entries (outer_to n) (λ (p : Preferred ℤ). p.most) (inner_boxes tree k))) (costs cap (kids_of tree.boxes k)) (content tree k) (omega (arith, all, most));
          }

      kid_pair : ℕ → ℕ → ℕ × Preferred ℤ
      kid_pair n j = (j, outer_to n j)

      children-cost : (n : ℕ) (ks : List ℕ) → AllByRecursion (λ j. exact n j ≤ cap j) ks → costs child_size (as_children tree (with_most (map (kid_pair n) ks))) ≤ costs cap ks
      unfolding kid_pair
      children-cost n [] a = omega arith
      children-cost n (j ∷ ks) a =
          let rest = children-cost n ks a.1 in
          let here = a.0 in
          by (is_floated_at tree j) refl rest here
        where
          by : (b : Bool) → is_floated_at tree j ≡ b → costs child_size (as_children tree (with_most (map (kid_pair n) ks))) ≤ costs cap ks → exact n j ≤ cap j
              → costs child_size (as_children tree (with_most (map (kid_pair n) (j ∷ ks)))) ≤ costs cap (j ∷ ks)
          by true e rest here = rw e (omega (arith, rest, here))
          by false e rest here = rw e (omega (arith, rest, here))

      leasts : (n m : ℕ) (ks : List ℕ) → AllByRecursion (λ j. exact n j ≤ cap j) ks → costs cap ks ≤ m → AllByRecursion (IsSized m) (map (λ (entry : ℕ × Preferred ℤ). (entry.1).least) (map (kid_pair n) ks))
      unfolding kid_pair
      leasts n m [] a l = tt
      leasts n m (j ∷ ks) a l = let here = a.0 in (omega (arith, here, l), leasts n m ks a.1 (omega (arith, l)))

      blocks-within : (n : ℕ) (ks : List ℕ) → AllByRecursion (λ j. exact n j ≤ cap j) ks → AreWithin (costs cap ks) (preferred_blocks tree (map (kid_pair n) ks))
      blocks-within n ks a = record {
        least = greatest-size (costs cap ks) (map (λ (entry : ℕ × Preferred ℤ). (entry.1).least) (map (kid_pair n) ks)) (leasts n (costs cap ks) ks a (omega arith));
        most = greatest-size (costs cap ks) (block_widths (as_children tree (with_most (map (kid_pair n) ks)))) (block-sizes (costs cap ks) (as_children tree (with_most (map (kid_pair n) ks))) (children-cost n ks a));
      }

      none-inline : (ks : List ℕ) → list_any (is_inline_level_at tree) ks ≡ false → AllByRecursion (λ j. is_inline_level_at tree j ≡ false) ks
      none-inline [] e = tt
      none-inline (j ∷ ks) e = let parts = split (is_inline_level_at tree j) (list_any (is_inline_level_at tree) ks) e in (parts.0, none-inline ks parts.1)
        where
          split : (a b : Bool) → (a || b) ≡ false → (a ≡ false) × (b ≡ false)
          split true b e = absurd (cc)
          split false b e = (refl, e)

      both-hold : (P Q : ℕ → Type 0) (ks : List ℕ) → AllByRecursion P ks → AllByRecursion Q ks → AllByRecursion (λ j. P j × Q j) ks
      both-hold P Q [] a b = tt
      both-hold P Q (k ∷ ks) a b = ((a.0, b.0), both-hold P Q ks a.1 b.1)

      kids-fine : (n k : ℕ) → IsFine n → holds_inline tree k ≡ false → AllByRecursion (λ j. exact n j ≤ cap j) (kids_of tree.boxes k)
      unfolding IsFine holds_inline
      kids-fine n k f e =
          All-implied (λ j. IsKid tree.boxes k j × (is_inline_level_at tree j ≡ false)) (λ j. exact n j ≤ cap j) (kids_of tree.boxes k)
          (λ j i. f j (i.0).within (apart-whole j i.1))
          (both-hold (IsKid tree.boxes k) (λ j. is_inline_level_at tree j ≡ false) (kids_of tree.boxes k) ((forest tree).kids k) (none-inline (kids_of tree.boxes k) e))

      -- what is in a box is within its cap
      pub record IsInside (n k : ℕ) : Type 0 where
        pub inside : AreWithin (cap k) (preferred_to n tree w k)
        pub around : AreWithin (cap k) (outer_to n k)

      nothing-in : (k : ℕ) → k < length tree.boxes → is_fragmented (kind_of tree k) ≡ false → (p : Preferred ℤ) → AreWithin (costs cap (kids_of tree.boxes k)) p
          → AreWithin (cap k) p × AreWithin (cap k) (outer_preferred tree w k p)
      nothing-in k l e p a =
          let is = cap-is k l in
          let least = a.least in
          let most = a.most in
          let one = costed.whole k l e p.least in
          let two = costed.whole k l e p.most in
          (record { least = omega (arith, is, least); most = omega (arith, is, most) }, record { least = omega (arith, is, least, one); most = omega (arith, is, most, two) })

      kind-of-inside : (k : ℕ) → inside_of tree k ≡ a_replaced → kind_of tree k ≡ of_kind.Replaced
      kind-of-inside k e = by (kind_of tree k) (holds_inline tree k) refl refl
        where
          by : (kind : Kind) (b : Bool) → kind_of tree k ≡ kind → holds_inline tree k ≡ b → kind ≡ of_kind.Replaced
          by of_kind.Replaced b f g = refl
          by of_kind.Block true f g = absurd (let is : inside_of tree k ≡ inline_content = rw (f, g) refl in cc)
          by of_kind.Block false f g = absurd (let is : inside_of tree k ≡ blocks = rw (f, g) refl in cc)
          by of_kind.Anon true f g = absurd (let is : inside_of tree k ≡ inline_content = rw (f, g) refl in cc)
          by of_kind.Anon false f g = absurd (let is : inside_of tree k ≡ blocks = rw (f, g) refl in cc)
          by of_kind.Float true f g = absurd (let is : inside_of tree k ≡ inline_content = rw (f, g) refl in cc)
          by of_kind.Float false f g = absurd (let is : inside_of tree k ≡ blocks = rw (f, g) refl in cc)
          by of_kind.Atomic true f g = absurd (let is : inside_of tree k ≡ inline_content = rw (f, g) refl in cc)
          by of_kind.Atomic false f g = absurd (let is : inside_of tree k ≡ blocks = rw (f, g) refl in cc)
          by of_kind.Inline true f g = absurd (let is : inside_of tree k ≡ inline_content = rw (f, g) refl in cc)
          by of_kind.Inline false f g = absurd (let is : inside_of tree k ≡ blocks = rw (f, g) refl in cc)
          by of_kind.Chars true f g = absurd (let is : inside_of tree k ≡ inline_content = rw (f, g) refl in cc)
          by of_kind.Chars false f g = absurd (let is : inside_of tree k ≡ blocks = rw (f, g) refl in cc)
          by of_kind.Line true f g = absurd (let is : inside_of tree k ≡ inline_content = rw (f, g) refl in cc)
          by of_kind.Line false f g = absurd (let is : inside_of tree k ≡ blocks = rw (f, g) refl in cc)
          by of_kind.Break true f g = absurd (let is : inside_of tree k ≡ inline_content = rw (f, g) refl in cc)
          by of_kind.Break false f g = absurd (let is : inside_of tree k ≡ blocks = rw (f, g) refl in cc)

      no-lines : (k : ℕ) → inside_of tree k ≡ blocks → holds_inline tree k ≡ false
      no-lines k e = by (kind_of tree k) (holds_inline tree k) refl refl
        where
          by : (kind : Kind) (b : Bool) → kind_of tree k ≡ kind → holds_inline tree k ≡ b → b ≡ false
          by kind false f g = refl
          by of_kind.Replaced true f g = absurd (let is : inside_of tree k ≡ a_replaced = rw f refl in cc)
          by of_kind.Block true f g = absurd (let is : inside_of tree k ≡ inline_content = rw (f, g) refl in cc)
          by of_kind.Anon true f g = absurd (let is : inside_of tree k ≡ inline_content = rw (f, g) refl in cc)
          by of_kind.Float true f g = absurd (let is : inside_of tree k ≡ inline_content = rw (f, g) refl in cc)
          by of_kind.Atomic true f g = absurd (let is : inside_of tree k ≡ inline_content = rw (f, g) refl in cc)
          by of_kind.Inline true f g = absurd (let is : inside_of tree k ≡ inline_content = rw (f, g) refl in cc)
          by of_kind.Chars true f g = absurd (let is : inside_of tree k ≡ inline_content = rw (f, g) refl in cc)
          by of_kind.Line true f g = absurd (let is : inside_of tree k ≡ inline_content = rw (f, g) refl in cc)
          by of_kind.Break true f g = absurd (let is : inside_of tree k ≡ inline_content = rw (f, g) refl in cc)

      -- what is in a box and what it takes of its container are within its cap
      AreCapped : ℕ → Preferred ℤ → Type 0
      AreCapped k p = AreWithin (cap k) p × AreWithin (cap k) (outer_preferred tree w k p)

      abbrev inside_by : ℕ → ℕ → Inside → Preferred ℤ
      inside_by n k s = elim s as (λ (_ : Inside). Preferred ℤ) [
        | a_replaced ↦ record { least = preferred_replaced tree w k; most = preferred_replaced tree w k }
        | inline_content ↦ preferred_inline tree w (map (λ j. (j, outer_to n j)) (inner_boxes tree k)) (content tree k)
        | blocks ↦ preferred_blocks tree (map (λ j. (j, outer_to n j)) (kids_of tree.boxes k))
      ]

      by-inside : (n k : ℕ) → IsFine n → k < length tree.boxes → is_fragmented (kind_of tree k) ≡ false → (s : Inside) → inside_of tree k ≡ s → AreCapped k (inside_by n k s)
      unfolding AreCapped kid_pair
      by-inside n k f l e a_replaced is =
          let kind = kind-of-inside k is in
          let one = costed.independent k l kind in
          let two = costed.replaced k l kind in
          let all = cap-is k l in
          (record { least = omega (arith, one, all); most = omega (arith, one, all) }, record { least = omega (arith, two, all); most = omega (arith, two, all) })
      by-inside n k f l e inline_content is = nothing-in k l e (inside_by n k inline_content) (inline-within n k f)
      by-inside n k f l e blocks is = nothing-in k l e (inside_by n k blocks) (blocks-within n (kids_of tree.boxes k) (kids-fine n k f (no-lines k is)))

      all-inside : (n k : ℕ) → k < length tree.boxes → is_fragmented (kind_of tree k) ≡ false → AreCapped k (preferred_to n tree w k)
      unfolding preferred_to IsFine AreCapped
      all-inside zero k l e = nothing-in k l e (record { least = pos 0; most = pos 0 }) (record { least = omega arith; most = omega arith })
      all-inside (suc n) k l e = by-inside n k (λ j m is. (let own = (all-inside n j m is).1 in let least = own.least in let most = own.most in omega (arith, least, most))) l e (inside_of tree k) refl

      pub preferred-within : (k : ℕ) → k < length tree.boxes → is_fragmented (kind_of tree k) ≡ false → AreWithin (cap k) (preferred tree w k)
      unfolding AreCapped
      preferred-within k l e = (all-inside (length tree.boxes) k l e).0

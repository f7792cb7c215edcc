-- A page has each box that is rendered whole once, in document order.
use Rattle.std.proofs.Common.{◌≡◌, ℕ, zero, suc, ◌+◌, ◌<◌, ◌≤◌, ℤ, Bool, true, false, not, ◌||◌, ◌&&◌, ◌==◌, IsTrue, List, [], ◌∷◌, ◌++◌, length, flat_map, map, filter, cond, unwrap_or, refl, sym, ap, ◌∙◌, subst, arith, append-nil, eqb-true, slice_get, Option, None, Some}
use Rattle.std.specs.List.{list_any, AllByRecursion}
use Rattle.std.specs.Option.{option_map_or}
use Rattle.std.proofs.lemmas.Grind.{flat_map-append}
use Rattle.viz_base.specs.declared.layouts.Entry.{Entry}
use Rattle.viz_base.specs.declared.layouts.Entry.TheVariants as of_entry
use Rattle.viz_base.specs.Trees.{is_leaf}
use Rattle.viz_base.specs.declared.layouts.Band.{Band}
use Rattle.viz_base.specs.declared.renderings.Placed.{Placed}
use Rattle.viz_base.specs.declared.trees.BoxNode.{BoxNode}
use Rattle.viz_base.specs.declared.trees.BoxTree.{BoxTree}
use Rattle.viz_base.specs.declared.trees.Kind.{Kind}
use Rattle.viz_base.specs.declared.trees.Kind.TheVariants as of_kind
use Rattle.viz_base.specs.declared.worlds.World.{World}
use Rattle.viz_base.proofs.ListLemmas.{all_append}
use Rattle.layout_semantics.specs.Lists.{one_if}
use Rattle.layout_semantics.specs.Order.{kids_of, page_order}
use Rattle.layout_semantics.specs.Blocks.{kind_of}
use Rattle.layout_semantics.specs.FlowBoxes.{inline_size}
use Rattle.layout_semantics.specs.InlineContent.{Item, start, finish, word, atomic, forced, float, Sort, a_float, an_atomic, a_break, a_text, an_inline, sort_of, text_of, text_items, character_before, letter_before, items_to, content, float_boxes, is_floated_at, holds_inline, has_line, makes_line}
use Rattle.layout_semantics.specs.LineHeights.{InlineContext}
use Rattle.layout_semantics.specs.Lines.{LineList, lines_in}
use Rattle.layout_semantics.specs.Flow.{Progress, independent, entry_boxes, inline_context, line_content}
use Rattle.layout_semantics.specs.Page.{page_rendering}
use Rattle.layout_semantics.proofs.Forest.{IsKid}
use Rattle.layout_semantics.proofs.Pages.{forest}
use Rattle.layout_laws.specs.Entries.{named_by, name_of, is_whole}
use Rattle.layout_laws.proofs.Flowing.{Fills, entries, of_entry, all_of, all_of-is, independent-entries, entries-shifted}
use Rattle.layout_laws.proofs.Entries.{IsFlow, page-entries}
use Rattle.layout_laws.proofs.WholeItems.{inner_of, floats-independent}
use Rattle.layout_laws.proofs.WholeLines.{shown, content-shown}
use Rattle.layout_laws.proofs.Levels.{sort_by}

-- ---- boxes that hold no other

leaf_holds_none : (tree : BoxTree) (b : ℕ) → is_leaf (kind_of tree b) ≡ true → kids_of tree.boxes b ≡ []
leaf_holds_none tree b e = by_box (slice_get tree.boxes b) refl e
  where
    by_leaf : (l : Bool) (ks : List ℕ) → l ≡ true → IsTrue (not l || (length ks == 0)) → ks ≡ []
    by_leaf true [] e t = refl
    by_leaf true (k ∷ ks) e t = absurd (let none = eqb-true (length (k ∷ ks)) 0 t in omega arith)
    by_leaf false ks e t = absurd (cc)

    by_box : (o : Option BoxNode) → slice_get tree.boxes b ≡ o → is_leaf (option_map_or (λ (x : BoxNode). x.kind) o of_kind.Block) ≡ true → option_map_or (λ (x : BoxNode). x.kids) o [] ≡ []
    by_box None e t = refl
    by_box (Some x) e t = by_leaf (is_leaf x.kind) x.kids t (tree.ok.each b x e).leaf

-- ---- sorts in inline content

sort-is : (tree : BoxTree) (at : ℕ) → sort_of tree at ≡ sort_by (is_floated_at tree at) (kind_of tree at)
sort-is tree at = refl

break-kind : (f : Bool) (k : Kind) → sort_by f k ≡ a_break → k ≡ of_kind.Break
break-kind true k e = absurd (cc)
break-kind false of_kind.Break e = refl
break-kind false _ e = absurd (cc)

text-kind : (f : Bool) (k : Kind) → sort_by f k ≡ a_text → k ≡ of_kind.Chars
text-kind true k e = absurd (cc)
text-kind false of_kind.Chars e = refl
text-kind false _ e = absurd (cc)

inline-kind : (f : Bool) (k : Kind) → sort_by f k ≡ an_inline → k ≡ of_kind.Inline
inline-kind true k e = absurd (cc)
inline-kind false of_kind.Inline e = refl
inline-kind false _ e = absurd (cc)

-- ---- texts have none

letter-none : (at c : ℕ) (items : List Item) → flat_map inner_of (letter_before at c items) ≡ flat_map inner_of items
letter-none at c [] = refl
letter-none at c (word other text ∷ items) = refl
letter-none at c (i ∷ items) = refl

text-none : (at : ℕ) (cs : List ℕ) → flat_map inner_of (text_items at cs) ≡ []
text-none at [] = refl
text-none at (c ∷ cs) = by (c == 32) (text-none at cs)
  where
    by : (b : Bool) → flat_map inner_of (text_items at cs) ≡ [] → flat_map inner_of (character_before b at c (text_items at cs)) ≡ []
    by true again = again
    by false again = letter-none at c (text_items at cs) ∙ again

module _ (tree : BoxTree) (w : World) where
  abbrev every : ℕ → List (Kind × ℕ)
  every = all_of tree w is_whole

  -- a box that isn't whole has what is in it
  not-whole : (at : ℕ) (k : Kind) → at < length tree.boxes → kind_of tree at ≡ k → is_whole k ≡ false → every at ≡ flat_map every (kids_of tree.boxes at)
  not-whole at k l e n =
      all_of-is tree w is_whole at l
      ∙ ap (λ b. one_if b (name_of tree at) ++ flat_map every (kids_of tree.boxes at)) (ap is_whole e ∙ n)

  leaf-none : (at : ℕ) (k : Kind) → at < length tree.boxes → kind_of tree at ≡ k → is_whole k ≡ false → is_leaf k ≡ true → [] ≡ every at
  leaf-none at k l e n f = sym (not-whole at k l e n ∙ ap (flat_map every) (leaf_holds_none tree at (ap is_leaf e ∙ f)))

  abbrev inner_all : List Item → List (Kind × ℕ)
  inner_all items = flat_map every (flat_map inner_of items)

  -- a box's items from its sort
  abbrev items_of : ℕ → ℕ → Sort → List Item
  items_of levels at s = elim s [ a_float ↦ float at ∷ [] | an_atomic ↦ atomic at ∷ [] | a_break ↦ forced at ∷ [] | a_text ↦ text_items at (text_of tree at) | an_inline ↦ start at ∷ (flat_map (items_to levels tree) (kids_of tree.boxes at) ++ finish at ∷ []) ]

  inline-all : (levels at : ℕ) → inner_all (start at ∷ (flat_map (items_to levels tree) (kids_of tree.boxes at) ++ finish at ∷ [])) ≡ inner_all (flat_map (items_to levels tree) (kids_of tree.boxes at))
  inline-all levels at = ap (flat_map every) (flat_map-append inner_of (flat_map (items_to levels tree) (kids_of tree.boxes at)) (finish at ∷ []) ∙ append-nil (flat_map inner_of (flat_map (items_to levels tree) (kids_of tree.boxes at))))

  kids-all : (levels : ℕ) (P : ℕ → Type 0) (ks : List ℕ) → AllByRecursion P ks → ((k : ℕ) → P k → inner_all (items_to levels tree k) ≡ every k) → inner_all (flat_map (items_to levels tree) ks) ≡ flat_map every ks
  kids-all levels P [] a f = refl
  kids-all levels P (k ∷ ks) a f =
      ap (flat_map every) (flat_map-append inner_of (items_to levels tree k) (flat_map (items_to levels tree) ks))
      ∙ (flat_map-append every (flat_map inner_of (items_to levels tree k)) (flat_map inner_of (flat_map (items_to levels tree) ks))
      ∙ (ap (λ (l : List (Kind × ℕ)). l ++ inner_all (flat_map (items_to levels tree) ks)) (f k a.0)
      ∙ ap (λ (l : List (Kind × ℕ)). every k ++ l) (kids-all levels P ks a.1 f)))

  items-all : (levels at : ℕ) → at < length tree.boxes → length tree.boxes ≤ levels + at → inner_all (items_to levels tree at) ≡ every at
  unfolding items_to
  items-all zero at l m = absurd (omega arith)
  items-all (suc levels) at l m =
      by_sort (sort_of tree at) refl
      (kids-all levels (IsKid tree.boxes at) (kids_of tree.boxes at) ((forest tree).kids at) (λ k i. let after = i.after in items-all levels k i.within (omega arith)))
    where
      by_sort : (s : Sort) → sort_of tree at ≡ s → inner_all (flat_map (items_to levels tree) (kids_of tree.boxes at)) ≡ flat_map every (kids_of tree.boxes at) → inner_all (items_of levels at s) ≡ every at
      by_sort a_float e again = append-nil (every at)
      by_sort an_atomic e again = append-nil (every at)
      by_sort a_break e again = leaf-none at of_kind.Break l (break-kind (is_floated_at tree at) (kind_of tree at) (sym (sort-is tree at) ∙ e)) refl refl
      by_sort a_text e again = ap (flat_map every) (text-none at (text_of tree at)) ∙ leaf-none at of_kind.Chars l (text-kind (is_floated_at tree at) (kind_of tree at) (sym (sort-is tree at) ∙ e)) refl refl
      by_sort an_inline e again = inline-all levels at ∙ (again ∙ sym (not-whole at of_kind.Inline l (inline-kind (is_floated_at tree at) (kind_of tree at) (sym (sort-is tree at) ∙ e)) refl))

  content-all : (b : ℕ) → inner_all (content tree b) ≡ flat_map every (kids_of tree.boxes b)
  content-all b = kids-all (length tree.boxes) (IsKid tree.boxes b) (kids_of tree.boxes b) ((forest tree).kids b) (λ k i. items-all (length tree.boxes) k i.within (omega arith))

  -- ---- they are in the page, after their container

  abbrev Within : ℕ → ℕ → Type 0
  Within low k = (low ≤ k) × (k < length tree.boxes)

  within-lower : (low high : ℕ) (ks : List ℕ) → low ≤ high → AllByRecursion (Within high) ks → AllByRecursion (Within low) ks
  within-lower low high [] l a = tt
  within-lower low high (k ∷ ks) l a = let above = a.0.0 in ((omega arith, a.0.1), within-lower low high ks l a.1)

  kids-within : (levels at : ℕ) (ks : List ℕ) → AllByRecursion (IsKid tree.boxes at) ks → ((k : ℕ) → k < length tree.boxes → AllByRecursion (Within k) (flat_map inner_of (items_to levels tree k)))
      → AllByRecursion (Within (suc at)) (flat_map inner_of (flat_map (items_to levels tree) ks))
  kids-within levels at [] a f = tt
  kids-within levels at (k ∷ ks) a f =
      let after = a.0.after in
      subst (AllByRecursion (Within (suc at))) (sym (flat_map-append inner_of (items_to levels tree k) (flat_map (items_to levels tree) ks)))
      (all_append (Within (suc at)) (flat_map inner_of (items_to levels tree k)) (flat_map inner_of (flat_map (items_to levels tree) ks)) (within-lower (suc at) k (flat_map inner_of (items_to levels tree k)) (omega arith) (f k a.0.within)) (kids-within levels at ks a.1 f))

  items-within : (levels at : ℕ) → at < length tree.boxes → AllByRecursion (Within at) (flat_map inner_of (items_to levels tree at))
  unfolding items_to
  items-within zero at l = tt
  items-within (suc levels) at l =
      by_sort (sort_of tree at) (kids-within levels at (kids_of tree.boxes at) ((forest tree).kids at) (λ k m. items-within levels k m))
    where
      by_sort : (s : Sort) → AllByRecursion (Within (suc at)) (flat_map inner_of (flat_map (items_to levels tree) (kids_of tree.boxes at))) → AllByRecursion (Within at) (flat_map inner_of (items_of levels at s))
      by_sort a_float again = ((omega arith, l), tt)
      by_sort an_atomic again = ((omega arith, l), tt)
      by_sort a_break again = tt
      by_sort a_text again = subst (AllByRecursion (Within at)) (sym (text-none at (text_of tree at))) tt
      by_sort an_inline again =
          subst (AllByRecursion (Within at)) (sym (flat_map-append inner_of (flat_map (items_to levels tree) (kids_of tree.boxes at)) (finish at ∷ []) ∙ append-nil (flat_map inner_of (flat_map (items_to levels tree) (kids_of tree.boxes at)))))
          (within-lower at (suc at) (flat_map inner_of (flat_map (items_to levels tree) (kids_of tree.boxes at))) (omega arith) again)

  content-within : (b : ℕ) → AllByRecursion (Within (suc b)) (flat_map inner_of (content tree b))
  content-within b = kids-within (length tree.boxes) b (kids_of tree.boxes b) ((forest tree).kids b) (λ k m. items-within (length tree.boxes) k m)

  -- ---- boxes without lines

  after_low : (b : ℕ) (ks : List ℕ) → AllByRecursion (Within (suc b)) ks → AllByRecursion (λ k. (b < k) × (k < length tree.boxes)) ks
  after_low b [] a = tt
  after_low b (k ∷ ks) a = let above = a.0.0 in ((omega arith, a.0.1), after_low b ks a.1)

  kids_after : (b : ℕ) (ks : List ℕ) → AllByRecursion (IsKid tree.boxes b) ks → AllByRecursion (λ k. (b < k) × (k < length tree.boxes)) ks
  kids_after b [] a = tt
  kids_after b (k ∷ ks) a = ((a.0.after, a.0.within), kids_after b ks a.1)

  -- the children in its flow
  abbrev children_by : ℕ → Bool → List ℕ
  children_by b true = float_boxes (content tree b)
  children_by b false = kids_of tree.boxes b

  record IsFlowBy (b : ℕ) (holds : Bool) : Type 0 where
    same : flat_map every (children_by b holds) ≡ flat_map every (kids_of tree.boxes b)
    inside : AllByRecursion (λ k. (b < k) × (k < length tree.boxes)) (children_by b holds)

  flow-by : (b : ℕ) (holds : Bool) → (holds && list_any (makes_line tree) (content tree b)) ≡ false → IsFlowBy b holds
  flow-by b true e =
      let independent_floats = floats-independent tree (content tree b) e in
      record {
        same = ap (flat_map every) (sym independent_floats) ∙ content-all b;
        inside = subst (AllByRecursion (λ k. (b < k) × (k < length tree.boxes))) independent_floats (after_low b (flat_map inner_of (content tree b)) (content-within b));
      }
  flow-by b false e = record { same = refl; inside = kids_after b (kids_of tree.boxes b) ((forest tree).kids b) }

  flows : (b : ℕ) → b < length tree.boxes → has_line tree b ≡ false → IsFlow tree w is_whole b
  unfolding has_line
  flows b l e = let own = flow-by b (holds_inline tree b) e in record { same = own.same; inside = own.inside }

  -- ---- boxes with lines

  module _ (inside : ℕ → Band ℤ → ℤ → Progress → Progress) (levels : ℕ) (fills : Fills tree w is_whole inside levels) where
    -- a float or an atomic box, laid out alone
    abbrev one_alone : Band ℤ → ℕ → List (Kind × ℕ)
    one_alone cb k = entries tree w is_whole (independent tree w inside k (inline_size cb)).boxes

    entry-shown : (cb : Band ℤ) (e : Entry ℤ) → entries tree w is_whole (entry_boxes tree w inside cb e) ≡ shown (one_alone cb) e
    entry-shown cb (of_entry.Here p) = append-nil (one_if (is_whole p.kind) (named_by p))
    entry-shown cb (of_entry.Goes k spot) = entries-shifted tree w is_whole spot (independent tree w inside k (inline_size cb)).boxes

    entries-shown : (cb : Band ℤ) (es : List (Entry ℤ)) → entries tree w is_whole (flat_map (entry_boxes tree w inside cb) es) ≡ flat_map (shown (one_alone cb)) es
    entries-shown cb [] = refl
    entries-shown cb (e ∷ es) =
        flat_map-append (of_entry tree w is_whole) (entry_boxes tree w inside cb e) (flat_map (entry_boxes tree w inside cb) es)
        ∙ (ap (λ (l : List (Kind × ℕ)). l ++ entries tree w is_whole (flat_map (entry_boxes tree w inside cb) es)) (entry-shown cb e)
        ∙ ap (λ (l : List (Kind × ℕ)). shown (one_alone cb) e ++ l) (entries-shown cb es))

    independent-each : (cb : Band ℤ) (b : ℕ) (ks : List ℕ) → length tree.boxes ≤ suc levels + b → AllByRecursion (Within (suc b)) ks → flat_map (one_alone cb) ks ≡ flat_map every ks
    independent-each cb b [] m a = refl
    independent-each cb b (k ∷ ks) m a =
        let above = a.0.0 in
        ap (λ (l : List (Kind × ℕ)). l ++ flat_map (one_alone cb) ks) (independent-entries tree w is_whole inside levels fills k (inline_size cb) a.0.1 (omega arith))
        ∙ ap (λ (l : List (Kind × ℕ)). every k ++ l) (independent-each cb b ks m a.1)

    lines-fill : (b : ℕ) (cb : Band ℤ) (top : ℤ) (p : Progress) → length tree.boxes ≤ suc levels + b
        → entries tree w is_whole (line_content tree w inside b cb top p).boxes ≡ entries tree w is_whole p.boxes ++ flat_map every (kids_of tree.boxes b)
    lines-fill b cb top p m =
        let c : InlineContext = inline_context tree w inside b cb in
        let l : LineList = lines_in c top (unwrap_or p.least top) p.floats in
        flat_map-append (of_entry tree w is_whole) p.boxes (flat_map (entry_boxes tree w inside cb) l.entries)
        ∙ ap (λ (l : List (Kind × ℕ)). entries tree w is_whole p.boxes ++ l)
        (entries-shown cb l.entries
        ∙ (content-shown (one_alone cb) c top (unwrap_or p.least top) p.floats
        ∙ (independent-each cb b (flat_map inner_of (content tree b)) m (content-within b) ∙ content-all b)))

  -- ---- the page

  filtered : {A B : Type 0} (test : A → Bool) (f : A → B) (xs : List A) → flat_map (λ x. one_if (test x) (f x)) xs ≡ map f (filter test xs)
  filtered test f [] = refl
  filtered {A} {B} test f (x ∷ xs) = by (test x) (filtered test f xs)
    where
      by : (b : Bool) → flat_map (λ x. one_if (test x) (f x)) xs ≡ map f (filter test xs) → one_if b (f x) ++ flat_map (λ x. one_if (test x) (f x)) xs ≡ map f (cond b (x ∷ filter test xs) (filter test xs))
      by true again = ap (λ (l : List B). f x ∷ l) again
      by false again = again

  pub whole-entries : map named_by (filter (λ (p : Placed ℤ). is_whole p.kind) (page_rendering tree w).boxes) ≡ map (name_of tree) (filter (λ k. is_whole (kind_of tree k)) (page_order tree.boxes))
  whole-entries =
      sym (filtered (λ (p : Placed ℤ). is_whole p.kind) named_by (page_rendering tree w).boxes)
      ∙ (page-entries tree w is_whole (λ inside levels fills b cb top p l m e. lines-fill inside levels fills b cb top p m) flows
      ∙ filtered (λ k. is_whole (kind_of tree k)) (name_of tree) (page_order tree.boxes))

-- The boxes of a container's inline content are in its lines.
use Rattle.std.proofs.Common.{◌≡◌, ℕ, zero, suc, Bool, true, false, List, [], ◌∷◌, length, Some, refl}
use Rattle.std.specs.Prelude.{◌==◌}
use Rattle.std.specs.List.{AllByRecursion, flat_map}
use Rattle.viz_base.specs.Trees.{is_inline}
use Rattle.viz_base.specs.declared.trees.BoxTree.{BoxTree}
use Rattle.viz_base.specs.declared.trees.Kind.{Kind}
use Rattle.viz_base.specs.declared.trees.Kind.TheVariants as of_kind
use Rattle.viz_base.proofs.ListLemmas.{all_append}
use Rattle.layout_semantics.specs.Blocks.{kind_of, parent_of}
use Rattle.layout_semantics.specs.InlineContent.{Item, start, finish, word, space, atomic, forced, float, box_of, Sort, a_float, an_atomic, a_break, a_text, an_inline, sort_of, text_of, text_items, letter_before, character_before, items_to, content, is_floated_at}
use Rattle.layout_semantics.specs.Order.{kids_of}
use Rattle.layout_semantics.proofs.Forest.{IsKid}
use Rattle.layout_semantics.proofs.Pages.{forest, Each-contains}
use Rattle.layout_laws.specs.Nested.{items_of_sort}
use Rattle.layout_laws.proofs.Greatest.{All-from}
use Rattle.layout_laws.proofs.Levels.{sort_by}
use Rattle.page_limits.proofs.Raised.{IsInLines}

-- what words and spaces of a text have in common
own-letter : (P : ℕ → Type 0) (k c : ℕ) (items : List Item) → P k → AllByRecursion (λ i. P (box_of i)) items → AllByRecursion (λ i. P (box_of i)) (letter_before k c items)
own-letter P k c [] p a = (p, tt)
own-letter P k c (word other part ∷ items) p a = (a.0, a.1)
own-letter P k c (space other ∷ items) p a = (p, a)
own-letter P k c (start other ∷ items) p a = (p, a)
own-letter P k c (finish other ∷ items) p a = (p, a)
own-letter P k c (atomic other ∷ items) p a = (p, a)
own-letter P k c (forced other ∷ items) p a = (p, a)
own-letter P k c (float other ∷ items) p a = (p, a)

own-text : (P : ℕ → Type 0) (k : ℕ) (text : List ℕ) → P k → AllByRecursion (λ i. P (box_of i)) (text_items k text)
own-text P k [] p = tt
own-text P k (c ∷ cs) p = by (c == 32) (own-text P k cs p)
  where
    by : (b : Bool) → AllByRecursion (λ i. P (box_of i)) (text_items k cs) → AllByRecursion (λ i. P (box_of i)) (character_before b k c (text_items k cs))
    by true rest = (p, rest)
    by false rest = own-letter P k c (text_items k cs) p rest

module _ (tree : BoxTree) (container : ℕ) where
  abbrev pub IsItemInLines : Item → Type 0
  IsItemInLines i = IsInLines tree container (box_of i)

  of-sort : (k : ℕ) (inside : List Item) (s : Sort) → sort_of tree k ≡ s → IsInLines tree container k → (s ≡ an_inline → AllByRecursion IsItemInLines inside) → AllByRecursion IsItemInLines (items_of_sort tree k inside s)
  of-sort k inside a_float e i a = (i, tt)
  of-sort k inside an_atomic e i a = (i, tt)
  of-sort k inside a_break e i a = (i, tt)
  of-sort k inside a_text e i a = own-text (IsInLines tree container) k (text_of tree k) i
  of-sort k inside an_inline e i a = (i, all_append IsItemInLines inside (finish k ∷ []) (a refl) (i, tt))

  each-kid : (f : ℕ → List Item) (k : ℕ) → ((j : ℕ) → parent_of tree.boxes j ≡ Some k → AllByRecursion IsItemInLines (f j)) → AllByRecursion IsItemInLines (flat_map f (kids_of tree.boxes k))
  each-kid f k g = join (kids_of tree.boxes k) (All-from (λ j. AllByRecursion IsItemInLines (f j)) (kids_of tree.boxes k)
      (λ j a. g j (Each-contains (IsKid tree.boxes k) (kids_of tree.boxes k) j ((forest tree).kids k) a).parent))
    where
      join : (ks : List ℕ) → AllByRecursion (λ j. AllByRecursion IsItemInLines (f j)) ks → AllByRecursion IsItemInLines (flat_map f ks)
      join [] a = tt
      join (j ∷ ks) a = all_append IsItemInLines (f j) (flat_map f ks) a.0 (join ks a.1)

  items-in : (n k : ℕ) → IsInLines tree container k → AllByRecursion IsItemInLines (items_to n tree k)
  unfolding items_to
  items-in zero k i = tt
  items-in (suc n) k i = of-sort k (flat_map (items_to n tree) (kids_of tree.boxes k)) (sort_of tree k) refl i (λ e.
      each-kid (items_to n tree) k (λ j f. items-in n j (IsInLines.inside j k i (inline k e) f)))
    where
      inline : (k : ℕ) → sort_of tree k ≡ an_inline → is_inline (kind_of tree k) ≡ true
      inline k e = of-kind (is_floated_at tree k) (kind_of tree k) e
        where
          of-kind : (f : Bool) (kind : Kind) → sort_by f kind ≡ an_inline → is_inline kind ≡ true
          of-kind true kind e = absurd (cc)
          of-kind false of_kind.Inline e = refl
          of-kind false of_kind.Chars e = absurd (cc)
          of-kind false of_kind.Break e = absurd (cc)
          of-kind false _ e = absurd (cc)

  pub content-in-lines : AllByRecursion IsItemInLines (content tree container)
  content-in-lines = each-kid (items_to (length tree.boxes) tree) container (λ j f. items-in (length tree.boxes) j (IsInLines.child j f))

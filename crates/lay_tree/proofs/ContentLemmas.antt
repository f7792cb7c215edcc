-- What inline content makes, box by box.
use Rattle.std.proofs.Common.{◌≡◌, ℕ, Bool, true, false, not, List, [], ◌∷◌, ◌++◌, flat_map, refl, ap, ◌∙◌}
use Rattle.std.specs.Prelude.{◌==◌, ◌||◌}
use Rattle.std.specs.List.{list_any}
use Rattle.std.proofs.lemmas.List.Folds.{list_any-append}
use Rattle.std.proofs.Math.Bool.{or-false}
use Rattle.viz_base.specs.declared.trees.BoxTree.{BoxTree}
use Rattle.viz_base.specs.declared.trees.Kind.{Kind}
use Rattle.viz_base.specs.declared.trees.Kind.TheVariants as of_kind
use Rattle.layout_semantics.specs.Blocks.{kind_of}
use Rattle.layout_semantics.specs.Order.{kids_of}
use Rattle.layout_semantics.specs.InlineContent.{Item, start, finish, word, space, atomic, forced, float, an_inline, sort_of, text_of, text_items, letter_before, character_before, content, float_boxes, makes_line, is_floated_at}
use Rattle.layout_semantics.proofs.Pages.{forest}
use Rattle.layout_laws.specs.Nested.{box_items, items_of_sort}
use Rattle.layout_laws.proofs.Levels.{content-by-boxes, sort_by}
use Rattle.lay_tree.specs.Contents.{in_line_by, in_line, own_floats_by, own_floats}

-- ---- texts

text-line : (tree : BoxTree) (at : ℕ) (cs : List ℕ) → list_any (makes_line tree) (text_items at cs) ≡ list_any (λ c. not (c == 32)) cs
text-line tree at [] = refl
text-line tree at (c ∷ cs) = by (c == 32) (text_items at cs) (text-line tree at cs)
  where
    before : (items : List Item) → list_any (makes_line tree) (letter_before at c items) ≡ true
    before [] = refl
    before (word other text ∷ items) = refl
    before (start other ∷ items) = refl
    before (finish other ∷ items) = refl
    before (space other ∷ items) = refl
    before (atomic other ∷ items) = refl
    before (forced other ∷ items) = refl
    before (float other ∷ items) = refl

    by : (b : Bool) (items : List Item) → list_any (makes_line tree) items ≡ list_any (λ c. not (c == 32)) cs
        → list_any (makes_line tree) (character_before b at c items) ≡ (not b || list_any (λ c. not (c == 32)) cs)
    by true items e = e
    by false items e = before items

text-floats : (at : ℕ) (cs : List ℕ) → float_boxes (text_items at cs) ≡ []
text-floats at [] = refl
text-floats at (c ∷ cs) = by (c == 32) (text_items at cs) (text-floats at cs)
  where
    before : (items : List Item) → float_boxes items ≡ [] → float_boxes (letter_before at c items) ≡ []
    before [] e = refl
    before (word other text ∷ items) e = e
    before (start other ∷ items) e = e
    before (finish other ∷ items) e = e
    before (space other ∷ items) e = e
    before (atomic other ∷ items) e = e
    before (forced other ∷ items) e = e
    before (float other ∷ items) e = e

    by : (b : Bool) (items : List Item) → float_boxes items ≡ [] → float_boxes (character_before b at c items) ≡ []
    by true items e = e
    by false items e = before items e

-- ---- boxes

sort-by : (tree : BoxTree) (b : ℕ) (f : Bool) (k : Kind) → is_floated_at tree b ≡ f → kind_of tree b ≡ k → sort_of tree b ≡ sort_by f k
sort-by tree b true k e g = rw e refl
sort-by tree b false of_kind.Chars e g = rw (e, g) refl
sort-by tree b false of_kind.Break e g = rw (e, g) refl
sort-by tree b false of_kind.Inline e g = rw (e, g) refl
sort-by tree b false of_kind.Block e g = rw (e, g) refl
sort-by tree b false of_kind.Anon e g = rw (e, g) refl
sort-by tree b false of_kind.Float e g = rw (e, g) refl
sort-by tree b false of_kind.Atomic e g = rw (e, g) refl
sort-by tree b false of_kind.Replaced e g = rw (e, g) refl
sort-by tree b false of_kind.Line e g = rw (e, g) refl

module _ (tree : BoxTree) (b : ℕ) where
  inline-line : list_any (makes_line tree) (items_of_sort tree b (content tree b) an_inline)
      ≡ (makes_line tree (start b) || (list_any (makes_line tree) (content tree b) || makes_line tree (finish b)))
  inline-line =
      ap (λ rest. makes_line tree (start b) || rest) (list_any-append (makes_line tree) (content tree b) (finish b ∷ [])
      ∙ ap (λ last. list_any (makes_line tree) (content tree b) || last) (or-false (makes_line tree (finish b))))

  line-sorted : (f : Bool) (k : Kind) → list_any (makes_line tree) (items_of_sort tree b (content tree b) (sort_by f k)) ≡ in_line_by tree b f k
  line-sorted true k = refl
  line-sorted false of_kind.Chars = text-line tree b (text_of tree b)
  line-sorted false of_kind.Break = refl
  line-sorted false of_kind.Inline = inline-line
  line-sorted false of_kind.Block = refl
  line-sorted false of_kind.Anon = refl
  line-sorted false of_kind.Float = refl
  line-sorted false of_kind.Atomic = refl
  line-sorted false of_kind.Replaced = refl
  line-sorted false of_kind.Line = refl

  floats-append : (xs ys : List Item) → float_boxes (xs ++ ys) ≡ float_boxes xs ++ float_boxes ys
  floats-append [] ys = refl
  floats-append (start at ∷ xs) ys = floats-append xs ys
  floats-append (finish at ∷ xs) ys = floats-append xs ys
  floats-append (word at text ∷ xs) ys = floats-append xs ys
  floats-append (space at ∷ xs) ys = floats-append xs ys
  floats-append (atomic at ∷ xs) ys = floats-append xs ys
  floats-append (forced at ∷ xs) ys = floats-append xs ys
  floats-append (float at ∷ xs) ys = ap (λ fs. at ∷ fs) (floats-append xs ys)

  floats-sorted : (f : Bool) (k : Kind) → float_boxes (items_of_sort tree b (content tree b) (sort_by f k)) ≡ own_floats_by tree b f k
  floats-sorted true k = refl
  floats-sorted false of_kind.Chars = text-floats b (text_of tree b)
  floats-sorted false of_kind.Break = refl
  floats-sorted false of_kind.Inline = floats-append (content tree b) (finish b ∷ []) ∙ append-none (float_boxes (content tree b))
    where
      append-none : (xs : List ℕ) → xs ++ [] ≡ xs
      append-none [] = refl
      append-none (x ∷ xs) = ap (λ ys. x ∷ ys) (append-none xs)
  floats-sorted false of_kind.Block = refl
  floats-sorted false of_kind.Anon = refl
  floats-sorted false of_kind.Float = refl
  floats-sorted false of_kind.Atomic = refl
  floats-sorted false of_kind.Replaced = refl
  floats-sorted false of_kind.Line = refl

  box-line : list_any (makes_line tree) (box_items tree b) ≡ in_line tree b
  unfolding in_line
  box-line = ap (λ s. list_any (makes_line tree) (items_of_sort tree b (content tree b) s)) (sort-by tree b (is_floated_at tree b) (kind_of tree b) refl refl)
      ∙ line-sorted (is_floated_at tree b) (kind_of tree b)

  box-floats : float_boxes (box_items tree b) ≡ own_floats tree b
  unfolding own_floats
  box-floats = ap (λ s. float_boxes (items_of_sort tree b (content tree b) s)) (sort-by tree b (is_floated_at tree b) (kind_of tree b) refl refl)
      ∙ floats-sorted (is_floated_at tree b) (kind_of tree b)

-- ---- content

pub content-line : (tree : BoxTree) (b : ℕ) → list_any (makes_line tree) (content tree b) ≡ list_any (in_line tree) (kids_of tree.boxes b)
content-line tree b = ap (list_any (makes_line tree)) (content-by-boxes tree b (forest tree)) ∙ each (kids_of tree.boxes b)
  where
    each : (ks : List ℕ) → list_any (makes_line tree) (flat_map (box_items tree) ks) ≡ list_any (in_line tree) ks
    each [] = refl
    each (k ∷ ks) =
        list_any-append (makes_line tree) (box_items tree k) (flat_map (box_items tree) ks)
        ∙ ap (λ first. first || list_any (makes_line tree) (flat_map (box_items tree) ks)) (box-line tree k)
        ∙ ap (λ rest. in_line tree k || rest) (each ks)

pub content-floats : (tree : BoxTree) (b : ℕ) → float_boxes (content tree b) ≡ flat_map (own_floats tree) (kids_of tree.boxes b)
content-floats tree b = ap float_boxes (content-by-boxes tree b (forest tree)) ∙ each (kids_of tree.boxes b)
  where
    each : (ks : List ℕ) → float_boxes (flat_map (box_items tree) ks) ≡ flat_map (own_floats tree) ks
    each [] = refl
    each (k ∷ ks) =
        floats-append tree k (box_items tree k) (flat_map (box_items tree) ks)
        ∙ ap (λ first. first ++ float_boxes (flat_map (box_items tree) ks)) (box-floats tree k)
        ∙ ap (λ rest. own_floats tree k ++ rest) (each ks)

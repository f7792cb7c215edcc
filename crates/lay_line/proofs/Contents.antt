-- The items of inline content, text by text and box by box, with the sums of advances that the tree keeps.
use Rattle.std.proofs.Common.{◌≡◌, ℕ, ◌<◌, Bool, true, false, List, [], ◌∷◌, ◌++◌, flat_map, map, length, Some, None, cond, refl, sym, subst, ap, ◌∙◌, arith}
use Rattle.std.specs.Prelude.{◌==◌, Option, slice_get, option_map}
use Rattle.std.specs.List.{AllByRecursion, slice_split, onto_first}
use Rattle.std.specs.Option.{option_map_or}
use Rattle.std.specs.Str.{chars}
use Rattle.std.proofs.lemmas.List.{map-append}
use Rattle.std.proofs.lemmas.List.Splits.{length-slice_split}
use Rattle.std.proofs.lemmas.Option.{slice_get-map}
use Rattle.viz_base.specs.Words.{font_in, is_space, word_in, words_in, words_of}
use Rattle.viz_base.specs.declared.trees.BoxNode.{BoxNode}
use Rattle.viz_base.specs.declared.trees.BoxTree.{BoxTree}
use Rattle.viz_base.specs.declared.trees.Kind.{Kind}
use Rattle.viz_base.specs.declared.trees.Kind.TheVariants as of_kind
use Rattle.viz_base.specs.declared.trees.Word.{Word}
use Rattle.layout_semantics.specs.Blocks.{kind_of, node_of}
use Rattle.layout_semantics.specs.Order.{kids_of}
use Rattle.layout_semantics.specs.InlineContent.{Item, start, finish, word, space, text_items, text_of, letter_before, character_before, content, is_floated_at}
use Rattle.layout_semantics.proofs.Pages.{forest}
use Rattle.layout_laws.specs.Nested.{box_items}
use Rattle.layout_laws.proofs.Levels.{content-by-boxes}
use Rattle.lay_line.specs.declared.items.Item.{Item as Code}
use Rattle.lay_line.specs.Items.{item_of, items_of, summed_of}
use Rattle.lay_line.specs.steps.Content.{IsSum, Summed, behind_space, own_items_by, own_items, summed_word, summed_words, unsummed, with_sum, with_sums, word_items}

-- ---- texts

-- words, with a space before each but the first
abbrev spaced : ℕ → List (List ℕ) → List Item
spaced at ws = flat_map (λ v. space at ∷ word_items at v) ws

abbrev joined : ℕ → List (List ℕ) → List Item
joined at [] = []
joined at (w ∷ ws) = word_items at w ++ spaced at ws

letter-joined : (at c : ℕ) (ws : List (List ℕ)) → letter_before at c (joined at ws) ≡ joined at (onto_first c ws)
letter-joined at c [] = refl
letter-joined at c ([] ∷ []) = refl
letter-joined at c ([] ∷ v ∷ vs) = refl
letter-joined at c ((d ∷ w) ∷ ws) = refl

-- a text is its words and the spaces between them
text-joined : (at : ℕ) (cs : List ℕ) → text_items at cs ≡ joined at (slice_split is_space cs)
text-joined at [] = refl
text-joined at (c ∷ cs) =
    let parts = length-slice_split is_space cs in
    ap (character_before (c == 32) at c) (text-joined at cs) ∙ by (c == 32) (slice_split is_space cs) (omega (arith, parts))
  where
    by : (b : Bool) (ws : List (List ℕ)) → 0 < length ws → character_before b at c (joined at ws) ≡ joined at (cond b ([] ∷ ws) (onto_first c ws))
    by true [] l = absurd (omega (arith, l))
    by true (w ∷ ws) l = refl
    by false ws l = letter-joined at c ws

module _ (tree : BoxTree) (at : ℕ) where
  -- words with the sums of their advances in the font of a box
  behind-sums : (ws : List (List ℕ)) → flat_map (behind_space at) (map (word_in (font_in tree.styles tree.fonts (node_of tree at))) ws) ≡ with_sums tree (spaced at ws)
  behind-sums [] = refl
  behind-sums ([] ∷ ws) = ap (λ l. with_sum tree (space at) ∷ l) (behind-sums ws)
  behind-sums ((c ∷ cs) ∷ ws) = ap (λ l. with_sum tree (space at) ∷ with_sum tree (word at (c ∷ cs)) ∷ l) (behind-sums ws)

  joined-sums : (ws : List (List ℕ)) → summed_words at (map (word_in (font_in tree.styles tree.fonts (node_of tree at))) ws) ≡ with_sums tree (joined at ws)
  joined-sums [] = refl
  joined-sums ([] ∷ ws) = behind-sums ws
  joined-sums ((c ∷ cs) ∷ ws) = ap (λ l. with_sum tree (word at (c ∷ cs)) ∷ l) (behind-sums ws)

  -- the words that the tree has for a box, or none where there is no such box
  pub kept-words : (found : Option (List Word)) → found ≡ slice_get tree.words at → option_map_or (summed_words at) found [] ≡ with_sums tree (text_items at (text_of tree at))
  unfolding words_of
  kept-words found e = ap (λ (o : Option (List Word)). option_map_or (summed_words at) o []) (e ∙ (ap (λ (l : List (List Word)). slice_get l at) tree.kept ∙ slice_get-map in_box tree.boxes at)) ∙ by (slice_get tree.boxes at) refl
    where
      in_box : BoxNode → List Word
      in_box b = words_in (font_in tree.styles tree.fonts b.node) (chars b.chars)

      by : (o : Option BoxNode) → slice_get tree.boxes at ≡ o → option_map_or (summed_words at) (option_map in_box o) [] ≡ with_sums tree (text_items at (text_of tree at))
      by None h = rw h refl
      by (Some b) h =
          let node : node_of tree at ≡ b.node = ap (λ (o : Option BoxNode). option_map_or (λ (x : BoxNode). x.node) o 0) h in
          let text : text_of tree at ≡ chars b.chars = ap (λ (o : Option BoxNode). option_map_or (λ (x : BoxNode). chars x.chars) o []) h in
          ap (λ n. summed_words at (words_in (font_in tree.styles tree.fonts n) (chars b.chars))) (sym node)
          ∙ (joined-sums (slice_split is_space (chars b.chars))
          ∙ ap (with_sums tree) (sym (text-joined at (chars b.chars)) ∙ ap (text_items at) (sym text)))

-- ---- boxes

own-box-items : (tree : BoxTree) (b : ℕ) → with_sums tree (box_items tree b) ≡ own_items tree b
unfolding own_items
own-box-items tree b = by (is_floated_at tree b) (kind_of tree b) refl refl
  where
    by : (f : Bool) (k : Kind) → is_floated_at tree b ≡ f → kind_of tree b ≡ k → with_sums tree (box_items tree b) ≡ own_items_by tree b f k
    by true k e g = rw e refl
    by false of_kind.Chars e g = rw (e, g) refl
    by false of_kind.Break e g = rw (e, g) refl
    by false of_kind.Inline e g = rw (e, g) (ap (λ l. unsummed (start b) ∷ l) (map-append (with_sum tree) (content tree b) (finish b ∷ [])))
    by false of_kind.Block e g = rw (e, g) refl
    by false of_kind.Anon e g = rw (e, g) refl
    by false of_kind.Float e g = rw (e, g) refl
    by false of_kind.Atomic e g = rw (e, g) refl
    by false of_kind.Replaced e g = rw (e, g) refl
    by false of_kind.Line e g = rw (e, g) refl

pub content-is : (tree : BoxTree) (b : ℕ) → with_sums tree (content tree b) ≡ flat_map (own_items tree) (kids_of tree.boxes b)
content-is tree b = ap (with_sums tree) (content-by-boxes tree b (forest tree)) ∙ each (kids_of tree.boxes b)
  where
    each : (ks : List ℕ) → with_sums tree (flat_map (box_items tree) ks) ≡ flat_map (own_items tree) ks
    each [] = refl
    each (k ∷ ks) = map-append (with_sum tree) (box_items tree k) (flat_map (box_items tree) ks)
        ∙ (ap (λ first. first ++ with_sums tree (flat_map (box_items tree) ks)) (own-box-items tree k) ∙ ap (λ rest. own_items tree k ++ rest) (each ks))

-- ---- items with their sums

all-sums : (tree : BoxTree) (cs : List Item) → AllByRecursion (IsSum tree) (with_sums tree cs)
all-sums tree [] = tt
all-sums tree (c ∷ cs) = (refl, all-sums tree cs)

pub sums-kept : (tree : BoxTree) (items : List Code) (cs : List Item) → summed_of items ≡ with_sums tree cs → AllByRecursion (IsSum tree) (summed_of items)
sums-kept tree items cs e = subst (AllByRecursion (IsSum tree)) (sym e) (all-sums tree cs)

pub sums-bare : (tree : BoxTree) (items : List Code) (cs : List Item) → summed_of items ≡ with_sums tree cs → items_of items ≡ cs
sums-bare tree items cs e = sym (codes items) ∙ (ap (map (λ (s : Summed). s.item)) e ∙ bare cs)
  where
    codes : (is : List Code) → map (λ (s : Summed). s.item) (summed_of is) ≡ items_of is
    codes [] = refl
    codes (i ∷ is) = ap (λ l. item_of i ∷ l) (codes is)

    bare : (is : List Item) → map (λ (s : Summed). s.item) (with_sums tree is) ≡ is
    bare [] = refl
    bare (i ∷ is) = ap (λ l. i ∷ l) (bare is)

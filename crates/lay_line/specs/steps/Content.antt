-- What a box adds to inline content, with the sums of advances of its words.
use Rattle.std.specs.Prelude.{ℕ, ℤ, pos, Bool, true, false, List, [], ◌∷◌, ◌++◌, map, ◌≡◌}
use Rattle.std.specs.List.{flat_map}
use Rattle.viz_base.specs.Words.{font_in, units_in}
use Rattle.viz_base.specs.declared.trees.BoxTree.{BoxTree}
use Rattle.viz_base.specs.declared.trees.Kind.{Kind}
use Rattle.viz_base.specs.declared.trees.Kind.TheVariants as of_kind
use Rattle.viz_base.specs.declared.trees.Word.{Word}
use Rattle.layout_semantics.specs.Blocks.{kind_of, node_of}
use Rattle.layout_semantics.specs.InlineContent.{Item, start, finish, word, space, atomic, forced, float, is_floated_at, content, text_of, text_items}

-- an item with a sum of advances, which is 0 but for words
pub record Summed : Type 0 where
  pub item : Item
  pub units : ℤ

-- the sum of an item's advances in the font of its node
abbrev pub sum_in : BoxTree → Item → ℤ
sum_in tree (word at text) = units_in (font_in tree.styles tree.fonts (node_of tree at)) text
sum_in tree _ = pos 0

abbrev pub IsSum : BoxTree → Summed → Type 0
IsSum tree s = s.units ≡ sum_in tree s.item

abbrev pub with_sum : BoxTree → Item → Summed
with_sum tree i = record { item = i; units = sum_in tree i }

abbrev pub with_sums : BoxTree → List Item → List Summed
with_sums tree items = map (with_sum tree) items

abbrev pub unsummed : Item → Summed
unsummed i = record { item = i; units = pos 0 }

-- ---- texts

-- a word, where it has a letter
abbrev pub word_items : ℕ → List ℕ → List Item
word_items at [] = []
word_items at (c ∷ cs) = word at (c ∷ cs) ∷ []

abbrev pub summed_word : ℕ → Word → List Summed
summed_word at w = map (λ i. record { item = i; units = w.units }) (word_items at w.letters)

abbrev pub behind_space : ℕ → Word → List Summed
behind_space at w = unsummed (space at) ∷ summed_word at w

-- words, with a space before each but the first
abbrev pub summed_words : ℕ → List Word → List Summed
summed_words at [] = []
summed_words at (w ∷ ws) = summed_word at w ++ flat_map (behind_space at) ws

-- ---- boxes

abbrev pub own_items_by : BoxTree → ℕ → (floats : Bool) → Kind → List Summed
own_items_by tree at true kind = unsummed (float at) ∷ []
own_items_by tree at false of_kind.Chars = with_sums tree (text_items at (text_of tree at))
own_items_by tree at false of_kind.Break = unsummed (forced at) ∷ []
own_items_by tree at false of_kind.Inline =
    unsummed (start at) ∷ (with_sums tree (content tree at) ++ unsummed (finish at) ∷ [])
own_items_by tree at false kind = unsummed (atomic at) ∷ []

unfoldable pub own_items : BoxTree → ℕ → List Summed
own_items tree at = own_items_by tree at (is_floated_at tree at) (kind_of tree at)

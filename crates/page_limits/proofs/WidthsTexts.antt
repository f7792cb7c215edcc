-- The words and spaces of a text together are no wider than its characters one by one, and one unit more for each.
use Rattle.std.proofs.Common.{◌≡◌, ℕ, suc, ◌+◌, ◌≤◌, ◌==◌, Bool, true, false, unsigned_abs, List, [], ◌∷◌, map, sum, length, Option, Some, slice_get, refl, sym, ap, ◌∙◌, subst, arith}
use Rattle.std.specs.List.{AllByRecursion}
use Rattle.std.specs.Option.{option_map_or, option_and_then}
use Rattle.std.specs.Str.{chars}
use Rattle.std.proofs.lemmas.Bool.Decides.{nat_tests}
use Rattle.std.proofs.lemmas.List.Sums.{sum_by-cons}
use Rattle.viz_base.specs.FontSizes.{text_width_in}
use Rattle.viz_base.specs.Reaches.{text_extent}
use Rattle.viz_base.specs.declared.fonts.Font.{Font}
use Rattle.viz_base.specs.declared.styles.Style.{Style}
use Rattle.viz_base.specs.declared.trees.BoxNode.{BoxNode}
use Rattle.viz_base.specs.declared.trees.BoxTree.{BoxTree}
use Rattle.viz_base.specs.declared.worlds.World.{World}
use Rattle.layout_semantics.specs.Blocks.{node_of}
use Rattle.layout_semantics.specs.Fonts.{text_width}
use Rattle.layout_semantics.specs.InlineContent.{Item, word, space, text_of, text_items, letter_before, character_before}
use Rattle.lay_length.proofs.SmallFonts.{size-up}
use Rattle.lay_length.proofs.SmallTexts.{IsTextAt, text-only, wide-more, wide-up}
use Rattle.page_limits.proofs.WidthsLists.{costs}

pub costs-sum : {A : Type 0} (cost : A → ℕ) (xs : List A) → sum (map cost xs) ≡ costs cost xs
costs-sum cost [] = refl
costs-sum cost (x ∷ xs) = let all = sum_by-cons (λ (n : ℕ). n) (cost x) (map cost xs) in let rest = costs-sum cost xs in omega (arith, all, rest)

-- ---- texts in one font

-- ---- words and spaces

-- where a list of characters is so wide at most
module _ (at : ℕ) (room : Item → ℕ) (width : List ℕ → ℕ) (word-is : (text : List ℕ) → room (word at text) ≡ width text) (space-is : room (space at) ≡ width (32 ∷ []))
    (more : (c : ℕ) (cs : List ℕ) → width (c ∷ cs) ≤ width (c ∷ []) + width cs + 1) where
  abbrev each : ℕ → ℕ
  each c = width (c ∷ []) + 1

  letter : (c n : ℕ) (items : List Item) → AllByRecursion (IsTextAt at) items → costs room items ≤ n → costs room (letter_before at c items) ≤ each c + n
  letter c n [] a l = let is = word-is (c ∷ []) in omega (arith, is, l)
  letter c n (i ∷ items) a l = by i a.0 l
    where
      by : (i : Item) → IsTextAt at i → costs room (i ∷ items) ≤ n → costs room (letter_before at c (i ∷ items)) ≤ each c + n
      by _ IsTextAt.a_space l = let is = word-is (c ∷ []) in omega (arith, is, l)
      by _ (IsTextAt.a_word text) l =
          let is = word-is text in
          let then_is = word-is (c ∷ text) in
          let wider = more c text in
          omega (arith, is, then_is, wider, l)

  text-room : (cs : List ℕ) → costs room (text_items at cs) ≤ costs each cs
  text-room [] = omega arith
  text-room (c ∷ cs) = by (c == 32) refl (text-room cs)
    where
      by : (b : Bool) → (c == 32) ≡ b → costs room (text_items at cs) ≤ costs each cs → costs room (character_before b at c (text_items at cs)) ≤ each c + costs each cs
      by false e l = letter c (costs each cs) (text_items at cs) (text-only at cs) l
      by true e l =
          let same : c ≡ 32 = grind (arith, nat_tests) in
          let is = ap (λ n. width (n ∷ [])) same in
          omega (arith, is, space-is, l)

-- ---- the texts of a page

module _ (tree : BoxTree) (w : World) (small : w.s ≤ 256) where
  abbrev font_of : ℕ → Option Font
  font_of node = option_and_then (λ (style : Style). slice_get tree.fonts style.font) (slice_get tree.styles node)

  text-more : (node c : ℕ) (cs : List ℕ) → unsigned_abs (text_width tree w node (c ∷ cs)) ≤ unsigned_abs (text_width tree w node (c ∷ [])) + unsigned_abs (text_width tree w node cs) + 1
  text-more node c cs =
      let u = size-up tree.styles tree.parents w.s 256 small (suc node) node in
      let is = u.is in
      rw is (wide-more (font_of node) u.low c cs)

  text-up : (node : ℕ) (text : List ℕ) → unsigned_abs (text_width tree w node text) ≤ unsigned_abs (text_width_in tree.styles tree.parents tree.fonts 256 node text)
  text-up node text =
      let u = size-up tree.styles tree.parents w.s 256 small (suc node) node in
      let is = u.is in
      let most_is = u.most_is in
      rw (is, most_is) (wide-up (font_of node) u.low u.high text u.below)

  abbrev width_at : ℕ → List ℕ → ℕ
  width_at node text = unsigned_abs (text_width tree w node text)

  abbrev most_at : ℕ → ℕ → ℕ
  most_at node c = unsigned_abs (text_width_in tree.styles tree.parents tree.fonts 256 node (c ∷ []))

  each-low : (node : ℕ) (cs : List ℕ) → costs (λ c. width_at node (c ∷ []) + 1) cs ≤ costs (most_at node) cs + length cs
  each-low node [] = omega arith
  each-low node (c ∷ cs) = let up = text-up node (c ∷ []) in let rest = each-low node cs in omega (arith, up, rest)

  pub text-cost : (at : ℕ) (x : BoxNode) (room : Item → ℕ) → slice_get tree.boxes at ≡ Some x
      → ((text : List ℕ) → room (word at text) ≡ unsigned_abs (text_width tree w (node_of tree at) text)) → room (space at) ≡ unsigned_abs (text_width tree w (node_of tree at) (32 ∷ []))
      → costs room (text_items at (text_of tree at)) ≤ text_extent tree.styles tree.parents tree.fonts x + length (chars x.chars)
  text-cost at x room e word-is space-is =
      let node = ap (λ (o : Option BoxNode). option_map_or (λ (b : BoxNode). b.node) o 0) e in
      let text = ap (λ (o : Option BoxNode). option_map_or (λ (b : BoxNode). chars b.chars) o []) e in
      subst (λ cs. costs room (text_items at cs) ≤ text_extent tree.styles tree.parents tree.fonts x + length (chars x.chars)) (sym text)
      (let all = text-room at room (width_at x.node) (λ t. word-is t ∙ ap (λ n. width_at n t) node) (space-is ∙ ap (λ n. width_at n (32 ∷ [])) node) (text-more x.node) (chars x.chars) in
      let each = each-low x.node (chars x.chars) in
      let is = costs-sum (most_at x.node) (chars x.chars) in
      omega (arith, all, each, is))

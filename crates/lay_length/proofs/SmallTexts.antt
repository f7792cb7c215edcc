-- The widths of the texts of a small page are bounded.
use Rattle.std.proofs.Common.{◌≡◌, ℕ, suc, ◌+◌, ◌*◌, ◌/◌, ◌^◌, ◌<◌, ◌≤◌, ◌==◌, Bool, true, false, ℤ, pos, unsigned_abs, List, [], ◌∷◌, map, sum, sum_by, length, Option, Some, None, slice_get, refl, sym, ap, ◌∙◌, subst, arith}
use Rattle.std.specs.List.{AllByRecursion}
use Rattle.std.specs.Option.{option_map_or, option_and_then}
use Rattle.std.specs.Str.{chars}
use Rattle.std.proofs.Math.Nat.{lt-div-mul-add, div-lt_iff_lt-mul, mul-le-mul_left}
use Rattle.std.proofs.lemmas.Bool.Decides.{nat_tests}
use Rattle.std.proofs.lemmas.List.Sums.{sum_by-cons}
use Rattle.viz_base.specs.Numbers.{floor_of}
use Rattle.viz_base.specs.FontSizes.{measured, advance, text_width_in}
use Rattle.viz_base.specs.declared.fonts.Font.{Font}
use Rattle.viz_base.specs.declared.styles.Style.{Style}
use Rattle.viz_base.specs.declared.trees.BoxNode.{BoxNode}
use Rattle.viz_base.specs.declared.trees.BoxTree.{BoxTree}
use Rattle.viz_base.specs.declared.worlds.World.{World}
use Rattle.layout_semantics.specs.Blocks.{node_of}
use Rattle.layout_semantics.specs.Fonts.{text_width}
use Rattle.layout_semantics.specs.InlineContent.{Item, word, space, text_of, text_items, letter_before, character_before}
use Rattle.layout_laws.proofs.TreeFacts.{slice_in}
use Rattle.lay_length.proofs.SmallNumbers.{div-rises}
use Rattle.lay_length.proofs.SmallFonts.{size-up}
use Rattle.lay_length.proofs.SmallExtents.{IsLowTree, text_low}
use lib.IntN.{pos-*ℤ-pos}

-- ---- texts in one font

pub div-both : (p q d : ℕ) → 0 < d → (p + q) / d ≤ p / d + q / d + 1
div-both p q d l =
    let first = lt-div-mul-add {a = p} l in
    let other = lt-div-mul-add {a = q} l in
    let less : (p + q) / d < p / d + q / d + 2 = (div-lt_iff_lt-mul l).1 (omega (arith, first, other)) in
    omega (arith, less)

pub measured-is : (font : Font) (a n : ℕ) → unsigned_abs (measured font (pos a) n) ≡ n * a / font.upem
measured-is font a n = ap (λ z. unsigned_abs (floor_of z font.upem)) (pos-*ℤ-pos n a)

-- how wide a text is in a font, if there is one
abbrev pub wide : Option Font → ℤ → List ℕ → ℕ
wide o size text = unsigned_abs (option_map_or (λ (font : Font). measured font size (sum_by (advance font) text)) o (pos 0))

pub wide-more : (o : Option Font) (a c : ℕ) (cs : List ℕ) → wide o (pos a) (c ∷ cs) ≤ wide o (pos a) (c ∷ []) + wide o (pos a) cs + 1
wide-more None a c cs = omega arith
wide-more (Some font) a c cs =
    let own = advance font c in
    let others = sum_by (advance font) cs in
    let all : sum_by (advance font) (c ∷ cs) * a ≡ own * a + others * a = let e = sum_by-cons (advance font) c cs in ap (λ n. n * a) e ∙ omega arith in
    let one : sum_by (advance font) (c ∷ []) ≡ own = let e = sum_by-cons (advance font) c [] in omega (arith, e) in
    let whole = measured-is font a (sum_by (advance font) (c ∷ cs)) ∙ ap (λ n. n / font.upem) all in
    let first = measured-is font a (sum_by (advance font) (c ∷ [])) ∙ ap (λ n. n * a / font.upem) one in
    let rest = measured-is font a others in
    let both = div-both (own * a) (others * a) font.upem font.ok.has_em in
    omega (arith, whole, first, rest, both)

pub wide-up : (o : Option Font) (a b : ℕ) (text : List ℕ) → a ≤ b → wide o (pos a) text ≤ wide o (pos b) text
wide-up None a b text l = omega arith
wide-up (Some font) a b text l =
    let n = sum_by (advance font) text in
    let low = measured-is font a n in
    let high = measured-is font b n in
    let up = div-rises (n * a) (n * b) font.upem font.ok.has_em (mul-le-mul_left n l) in
    omega (arith, low, high, up)

-- ---- words and spaces

-- a word or a space of a text
pub data IsTextAt (at : ℕ) : Item → Type 0 where
  a_word : (text : List ℕ) → IsTextAt at (word at text)
  a_space : IsTextAt at (space at)

abbrev AreTextAt : ℕ → List Item → Type 0
AreTextAt at items = AllByRecursion (IsTextAt at) items

pub text-only : (at : ℕ) (cs : List ℕ) → AllByRecursion (IsTextAt at) (text_items at cs)
text-only at [] = tt
text-only at (c ∷ cs) = by (c == 32) (text_items at cs) (text-only at cs)
  where
    before : (i : Item) (items : List Item) → IsTextAt at i → AreTextAt at items → AreTextAt at (letter_before at c (i ∷ items))
    before _ items (IsTextAt.a_word text) a = (IsTextAt.a_word (c ∷ text), a)
    before _ items IsTextAt.a_space a = (IsTextAt.a_word (c ∷ []), (IsTextAt.a_space, a))

    by : (b : Bool) (items : List Item) → AreTextAt at items → AreTextAt at (character_before b at c items)
    by true items a = (IsTextAt.a_space, a)
    by false [] a = (IsTextAt.a_word (c ∷ []), tt)
    by false (i ∷ items) a = before i items a.0 a.1

-- by how wide a list of characters is, at most
module _ (at : ℕ) (room : Item → ℕ) (width : List ℕ → ℕ) (word-is : (text : List ℕ) → room (word at text) ≡ width text) (space-is : room (space at) ≡ width (32 ∷ []))
    (more : (c : ℕ) (cs : List ℕ) → width (c ∷ cs) ≤ width (c ∷ []) + width cs + 1) where
  -- each character by itself
  abbrev each : List ℕ → ℕ
  each [] = 0
  each (c ∷ cs) = width (c ∷ []) + 1 + each cs

  one-more : (i : Item) (items : List Item) → sum (map room (i ∷ items)) ≡ room i + sum (map room items)
  one-more i items = sum_by-cons (λ (n : ℕ). n) (room i) (map room items)

  alone : (c n : ℕ) (items : List Item) → sum (map room items) ≤ n → sum (map room (word at (c ∷ []) ∷ items)) ≤ width (c ∷ []) + 1 + n
  alone c n items l = let all = one-more (word at (c ∷ [])) items in let is = word-is (c ∷ []) in omega (arith, all, is, l)

  letter : (c n : ℕ) (items : List Item) → AreTextAt at items → sum (map room items) ≤ n → sum (map room (letter_before at c items)) ≤ width (c ∷ []) + 1 + n
  letter c n [] a l = alone c n [] l
  letter c n (i ∷ items) a l = by i a.0 l
    where
      by : (i : Item) → IsTextAt at i → sum (map room (i ∷ items)) ≤ n → sum (map room (letter_before at c (i ∷ items))) ≤ width (c ∷ []) + 1 + n
      by _ IsTextAt.a_space l = alone c n (space at ∷ items) l
      by _ (IsTextAt.a_word text) l =
          let all = one-more (word at text) items in
          let with_it = one-more (word at (c ∷ text)) items in
          let is = word-is text in
          let then_is = word-is (c ∷ text) in
          let wider = more c text in
          omega (arith, all, with_it, is, then_is, wider, l)

  text-room : (cs : List ℕ) → sum (map room (text_items at cs)) ≤ each cs
  text-room [] = omega arith
  text-room (c ∷ cs) = by (c == 32) refl (text-room cs)
    where
      by : (b : Bool) → (c == 32) ≡ b → sum (map room (text_items at cs)) ≤ each cs → sum (map room (character_before b at c (text_items at cs))) ≤ width (c ∷ []) + 1 + each cs
      by false e l = letter c (each cs) (text_items at cs) (text-only at cs) l
      by true e l =
          let same : c ≡ 32 = grind (arith, nat_tests) in
          let all = one-more (space at) (text_items at cs) in
          let is = ap (λ n. width (n ∷ [])) same in
          omega (arith, all, is, space-is, l)

-- ---- the texts of a page

module _ (tree : BoxTree) (low : IsLowTree tree) (w : World) (small : w.s ≤ 256) where
  abbrev pub font_of : ℕ → Option Font
  font_of node = option_and_then (λ (style : Style). slice_get tree.fonts style.font) (slice_get tree.styles node)

  pub text-more : (node c : ℕ) (cs : List ℕ) → unsigned_abs (text_width tree w node (c ∷ cs)) ≤ unsigned_abs (text_width tree w node (c ∷ [])) + unsigned_abs (text_width tree w node cs) + 1
  text-more node c cs =
      let u = size-up tree.styles tree.parents w.s 256 small (suc node) node in
      let is = u.is in
      rw is (wide-more (font_of node) u.low c cs)

  pub text-up : (node : ℕ) (text : List ℕ) → unsigned_abs (text_width tree w node text) ≤ unsigned_abs (text_width_in tree.styles tree.parents tree.fonts 256 node text)
  text-up node text =
      let u = size-up tree.styles tree.parents w.s 256 small (suc node) node in
      let is = u.is in
      let most_is = u.most_is in
      rw (is, most_is) (wide-up (font_of node) u.low u.high text u.below)

  abbrev width_at : ℕ → List ℕ → ℕ
  width_at node text = unsigned_abs (text_width tree w node text)

  each-low : (at : ℕ) (room : Item → ℕ) (node : ℕ) (word-is : (text : List ℕ) → room (word at text) ≡ width_at node text) (space-is : room (space at) ≡ width_at node (32 ∷ [])) (cs : List ℕ)
      → each at room (width_at node) word-is space-is (text-more node) cs ≤ sum (map (λ c. unsigned_abs (text_width_in tree.styles tree.parents tree.fonts 256 node (c ∷ []))) cs) + length cs
  each-low at room node word-is space-is [] = omega arith
  each-low at room node word-is space-is (c ∷ cs) =
      let all = sum_by-cons (λ (n : ℕ). n) (unsigned_abs (text_width_in tree.styles tree.parents tree.fonts 256 node (c ∷ []))) (map (λ d. unsigned_abs (text_width_in tree.styles tree.parents tree.fonts 256 node (d ∷ []))) cs) in
      let up = text-up node (c ∷ []) in
      let rest = each-low at room node word-is space-is cs in
      omega (arith, all, up, rest)

  -- the words and spaces of a text together, each as wide as it is
  pub texts-low : (at : ℕ) (x : BoxNode) (room : Item → ℕ) → slice_get tree.boxes at ≡ Some x
      → ((text : List ℕ) → room (word at text) ≡ unsigned_abs (text_width tree w (node_of tree at) text)) → room (space at) ≡ unsigned_abs (text_width tree w (node_of tree at) (32 ∷ []))
      → sum (map room (text_items at (text_of tree at))) ≤ 2 ^ 41
  texts-low at x room e word-is space-is =
      let node = ap (λ (o : Option BoxNode). option_map_or (λ (b : BoxNode). b.node) o 0) e in
      let text = ap (λ (o : Option BoxNode). option_map_or (λ (b : BoxNode). chars b.chars) o []) e in
      subst (λ cs. sum (map room (text_items at cs)) ≤ 2 ^ 41) (sym text)
      (let all = text-room at room (width_at x.node) (λ t. word-is t ∙ ap (λ n. width_at n t) node) (space-is ∙ ap (λ n. width_at n (32 ∷ [])) node) (text-more x.node) (chars x.chars) in
      let each = each-low at room x.node (λ t. word-is t ∙ ap (λ n. width_at n t) node) (space-is ∙ ap (λ n. width_at n (32 ∷ [])) node) (chars x.chars) in
      let extent = text_low tree low w small x (slice_in tree.boxes at x e) in
      let few = (tree.ok.each at x e).characters in
      omega (arith, all, each, extent, few))

-- Words and spaces are at least 0 wide: no number of a font size is negative.
use Rattle.std.proofs.Common.{ℕ, zero, suc, ◌*◌, ℤ, pos, negsuc, ◌*ℤ◌, ◌≤ℤ◌, nat_le, IsTrue, List, [], ◌∷◌, slice_get, sum_by, Option, Some, None, refl, sym, subst, arith}
use Rattle.std.specs.Option.{option_map_or, option_and_then}
use Rattle.std.proofs.lemmas.Int.{ints}
use lib.IntN.{pos-*ℤ-pos}
use Rattle.viz_base.specs.FontSizes.{advance, fraction, default_size, parent_in, computed_size, font_size_to, measured as measured_in}
use Rattle.viz_base.specs.Numbers.{floor_of}
use Rattle.viz_base.specs.Styles.{is_nonnegative, is_good_size}
use Rattle.viz_base.specs.declared.fonts.Font.{Font}
use Rattle.viz_base.specs.declared.lengths.Size.{Size}
use Rattle.viz_base.specs.declared.lengths.Size.TheVariants as of_size
use Rattle.viz_base.specs.declared.styles.Style.{Style}
use Rattle.viz_base.specs.declared.trees.BoxTree.{BoxTree}
use Rattle.viz_base.specs.declared.worlds.World.{World}
use Rattle.layout_laws.proofs.Truths.{left_of}
use Rattle.layout_semantics.specs.Fonts.{font_size, text_width}
use Rattle.layout_semantics.specs.InlineContent.{Item, start, finish, word, space, atomic, forced, float}
use Rattle.layout_semantics.specs.LineHeights.{InlineContext}
use Rattle.lay_line.specs.steps.Leaping.{is_text, AreWide}
use Rattle.lay_line.specs.steps.Measured.{measured}
use Rattle.lay_line.specs.steps.Words.{width_in}

floor_wide : (z : ℤ) (d : ℕ) → pos 0 ≤ℤ z → pos 0 ≤ℤ floor_of z d
floor_wide (pos n) d l = omega (arith, ints)
floor_wide (negsuc n) d l = absurd (omega (arith, ints, l))

fraction_wide : (k : ℤ) (d : ℕ) (z : ℤ) → IsTrue (is_nonnegative k) → pos 0 ≤ℤ z → pos 0 ≤ℤ fraction k d z
fraction_wide (pos n) d (pos m) k l = subst (λ x. pos 0 ≤ℤ floor_of x d) (sym (pos-*ℤ-pos n m)) (floor_wide (pos (n * m)) d (omega (arith, ints)))
fraction_wide (pos n) d (negsuc m) k l = absurd (omega (arith, ints, l))
fraction_wide (negsuc n) d z k l = absurd (cc)

number_wide : (c : ℤ) → IsTrue (is_nonnegative c) → pos 0 ≤ℤ c
number_wide (pos n) t = omega (arith, ints)
number_wide (negsuc n) t = absurd (cc)

size_wide : (s : ℕ) (above : ℤ) (size : Size) → IsTrue (is_good_size size) → pos 0 ≤ℤ above → pos 0 ≤ℤ computed_size s above size
size_wide s above of_size.Same t l = l
size_wide s above (of_size.Default num den) t l = fraction_wide num den (default_size s) (left_of (is_nonnegative num) (nat_le 1 den) t) (omega (arith, ints))
size_wide s above (of_size.Px c) t l = number_wide c t
size_wide s above (of_size.Parent num den) t l = fraction_wide num den above (left_of (is_nonnegative num) (nat_le 1 den) t) l

module _ (styles : List Style) (parents : List (Option ℕ)) (s : ℕ) where
  font_wide : (levels node : ℕ) → pos 0 ≤ℤ font_size_to levels styles parents s node
  unfolding font_size_to
  font_wide zero node = omega (arith, ints)
  font_wide (suc levels) node = of_style (slice_get styles node) (option_map_or (font_size_to levels styles parents s) (parent_in parents node) (default_size s)) (of_parent (λ parent. font_wide levels parent) (parent_in parents node))
    where
      of_parent : ((parent : ℕ) → pos 0 ≤ℤ font_size_to levels styles parents s parent) → (o : Option ℕ) → pos 0 ≤ℤ option_map_or (font_size_to levels styles parents s) o (default_size s)
      of_parent above None = omega (arith, ints)
      of_parent above (Some parent) = above parent

      of_style : (o : Option Style) (above : ℤ) → pos 0 ≤ℤ above → pos 0 ≤ℤ option_map_or (λ (style : Style). computed_size s above style.size) o above
      of_style None above l = l
      of_style (Some style) above l = size_wide s above style.size style.ok.size_good l

text_wide : (tree : BoxTree) (w : World) (node : ℕ) (text : List ℕ) → pos 0 ≤ℤ text_width tree w node text
text_wide tree w node text =
    of_font (option_and_then (λ (style : Style). slice_get tree.fonts style.font) (slice_get tree.styles node)) (font_size tree w node)
    (font_wide tree.styles tree.parents w.s (suc node) node) (λ font. sum_by (advance font) text)
  where
    of_font : (o : Option Font) (size : ℤ) → pos 0 ≤ℤ size → (units : Font → ℕ) → pos 0 ≤ℤ option_map_or (λ font. measured_in font size (units font)) o (pos 0)
    of_font None size l units = omega (arith, ints)
    of_font (Some font) size l units = fraction_wide (pos (units font)) font.upem size refl l

module _ (c : InlineContext) where
  item_wide : (i : Item) → IsTrue (is_text i) → pos 0 ≤ℤ width_in c i
  unfolding width_in
  item_wide (word at text) t = text_wide c.tree c.world _ text
  item_wide (space at) t = text_wide c.tree c.world _ (32 ∷ [])
  item_wide (atomic at) t = absurd (cc)
  item_wide (start at) t = absurd (cc)
  item_wide (finish at) t = absurd (cc)
  item_wide (forced at) t = absurd (cc)
  item_wide (float at) t = absurd (cc)

  pub items_wide : (items : List Item) → AreWide (measured (width_in c) items)
  items_wide [] = tt
  items_wide (i ∷ items) = (item_wide i, items_wide items)

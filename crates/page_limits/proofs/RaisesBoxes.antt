-- The raise of a box together with those of the inline boxes around it.
use Rattle.std.proofs.Common.{◌≡◌, ℕ, suc, ◌+◌, ◌<◌, ◌≤◌, ℤ, pos, negsuc, ◌+ℤ◌, ◌-ℤ◌, neg_ℤ, unsigned_abs, List, Option, refl, arith}
use Rattle.std.specs.Int.{int_div_euclid}
use Rattle.std.proofs.lemmas.Int.{ints}
use Rattle.std.proofs.Math.Nat.{div-le_self}
use Rattle.viz_base.specs.FontSizes.{font_size_in, line_height_in, ascent_in, descent_in}
use Rattle.viz_base.specs.Numbers.{floor_of}
use Rattle.viz_base.specs.declared.fonts.Font.{Font}
use Rattle.viz_base.specs.declared.layouts.Band.{Band}
use Rattle.viz_base.specs.declared.layouts.Inner.{Inner}
use Rattle.viz_base.specs.declared.lengths.Length.{Length}
use Rattle.viz_base.specs.declared.lengths.Length.TheVariants as of_length
use Rattle.viz_base.specs.declared.lengths.Valign.{Valign}
use Rattle.viz_base.specs.declared.lengths.Valign.TheVariants as of_valign
use Rattle.viz_base.specs.declared.trees.BoxTree.{BoxTree}
use Rattle.viz_base.specs.declared.worlds.World.{World}
use Rattle.layout_semantics.specs.Blocks.{node_of}
use Rattle.layout_semantics.specs.Fonts.{font_size, line_height, ascent, descent}
use Rattle.layout_semantics.specs.Lengths.{used}
use Rattle.layout_semantics.specs.LineHeights.{InlineContext, LineExtent, height_of_extent, inline_extent, raise}
use Rattle.lay_length.proofs.SmallExtents.{IsLowTree}
use Rattle.lay_length.proofs.SmallFonts.{IsUpTo, size-up, em-up}
use Rattle.lay_length.proofs.SmallNumbers.{fraction-grows}
use Rattle.page_limits.proofs.HeightsFonts.{line-up, measure-up, raise_cost, valign_of}

-- ---- by how much one box is raised

part-small : (n d : ℕ) → 0 < d → unsigned_abs (int_div_euclid (pos n) (pos d)) ≤ n
part-small n d l = div-le_self n d

-- the middle of an inline box
middle-cost : (l a d : ℕ) → unsigned_abs (floor_of (pos l) 2 -ℤ (pos a +ℤ floor_of (pos l -ℤ (pos a +ℤ pos d)) 2)) ≤ l + (a + d)
middle-cost l a d = by (pos l -ℤ (pos a +ℤ pos d)) refl
  where
    by : (z : ℤ) → pos l -ℤ (pos a +ℤ pos d) ≡ z → unsigned_abs (floor_of (pos l) 2 -ℤ (pos a +ℤ floor_of z 2)) ≤ l + (a + d)
    by (pos n) e = omega (arith, ints, e)
    by (negsuc n) e = omega (arith, ints, e)

module _ (tree : BoxTree) (low : IsLowTree tree) (w : World) (small : w.s ≤ 256) where
  abbrev pub size_cost : ℕ → ℕ
  size_cost node = unsigned_abs (font_size_in tree.styles tree.parents 256 node)

  -- its raise by its own alignment, and the measures of its font
  abbrev pub own_cost : ℕ → ℕ
  own_cost k =
      raise_cost tree low w small (node_of tree k) (valign_of tree low w small k)
      + (unsigned_abs (line_height_in tree.styles tree.parents 256 (node_of tree k)) + (unsigned_abs (ascent_in tree.styles tree.parents tree.fonts 256 (node_of tree k)) + unsigned_abs (descent_in tree.styles tree.parents tree.fonts 256 (node_of tree k))))

  abbrev line_cost : ℕ → ℕ
  line_cost node = unsigned_abs (line_height_in tree.styles tree.parents 256 node) + (unsigned_abs (ascent_in tree.styles tree.parents tree.fonts 256 node) + unsigned_abs (descent_in tree.styles tree.parents tree.fonts 256 node))

  -- a part of the font size of the box around
  size-part : (d node : ℕ) → 0 < d → unsigned_abs (floor_of (font_size tree w node) d) ≤ size_cost node
  size-part d node l =
      let u = size-up tree.styles tree.parents w.s 256 small (suc node) node in
      let is = u.is in
      let most_is = u.most_is in
      let below = u.below in
      rw (is, most_is) (let part = part-small u.low d l in omega (arith, part, below))

  minus-size : (z : ℤ) (n : ℕ) → unsigned_abs z ≤ n → unsigned_abs (neg_ℤ z) ≤ n
  minus-size z n l = omega (arith, ints, l)

  length-raise : (l : Length) (node : ℕ) → unsigned_abs (used tree w l (line_height tree w node)) ≤ raise_cost tree low w small node (of_valign.Raise l)
  length-raise of_length.Auto node = omega arith
  length-raise (of_length.Px c) node = omega arith
  length-raise (of_length.Em k from) node = em-up tree.styles tree.parents w.s 256 small k from
  length-raise (of_length.Pct p) node =
      let u = line-up tree.styles tree.parents w.s 256 small node in
      let is = u.is in
      let most_is = u.most_is in
      rw (is, most_is) (fraction-grows p u.low u.high 100000000 (omega arith) u.below)

  middle-of-line : (node : ℕ) → unsigned_abs (floor_of (height_of_extent (inline_extent tree w node)) 2 -ℤ (inline_extent tree w node).above) ≤ line_cost node
  middle-of-line node =
      let l = line-up tree.styles tree.parents w.s 256 small node in
      let a = measure-up tree.styles tree.parents w.s 256 small tree.fonts node (λ (f : Font). f.ascent) in
      let d = measure-up tree.styles tree.parents w.s 256 small tree.fonts node (λ (f : Font). f.descent) in
      by (line_height tree w node) (ascent tree w node) (descent tree w node) _ _ _ l a d
    where
      whole : (x y : ℤ) → x +ℤ (y -ℤ x) ≡ y
      whole x y = omega (arith, ints)

      by : (x y z l a d : ℤ) → IsUpTo x l → IsUpTo y a → IsUpTo z d
          → unsigned_abs (floor_of ((y +ℤ floor_of (x -ℤ (y +ℤ z)) 2) +ℤ (x -ℤ (y +ℤ floor_of (x -ℤ (y +ℤ z)) 2))) 2 -ℤ (y +ℤ floor_of (x -ℤ (y +ℤ z)) 2)) ≤ unsigned_abs l + (unsigned_abs a + unsigned_abs d)
      by x y z l a d u v q =
          let same = whole (y +ℤ floor_of (x -ℤ (y +ℤ z)) 2) x in
          rw same (
          let line = u.is in let line_most = u.most_is in let up = v.is in let up_most = v.most_is in let down = q.is in let down_most = q.most_is in
          rw (line, line_most, up, up_most, down, down_most) (
          let cost = middle-cost u.low v.low q.low in
          let b1 = u.below in let b2 = v.below in let b3 = q.below in
          omega (arith, cost, b1, b2, b3)))

  -- an inline box
  pub inline-raise : (container : ℕ) (inner : List (Option (Inner ℤ))) (cb : Band ℤ) (node parent : ℕ) (v : Valign)
      → let c : InlineContext = record { tree = tree; world = w; container = container; inner = inner; cb = cb } in
      unsigned_abs (raise c node parent (inline_extent tree w node) v) ≤ size_cost parent + (raise_cost tree low w small node v + line_cost node)
  inline-raise container inner cb node parent of_valign.Baseline = omega arith
  inline-raise container inner cb node parent of_valign.Sub = let part = minus-size (floor_of (font_size tree w parent) 5) _ (size-part 5 parent (omega arith)) in omega (arith, part)
  inline-raise container inner cb node parent of_valign.Super = let part = size-part 3 parent (omega arith) in omega (arith, part)
  inline-raise container inner cb node parent of_valign.Middle =
      let part = size-part 4 parent (omega arith) in
      let rest = middle-of-line node in
      sums (floor_of (font_size tree w parent) 4) (floor_of (height_of_extent (inline_extent tree w node)) 2) (inline_extent tree w node).above _ _ part rest
    where
      sums : (x y z : ℤ) (a b : ℕ) → unsigned_abs x ≤ a → unsigned_abs (y -ℤ z) ≤ b → unsigned_abs ((x +ℤ y) -ℤ z) ≤ a + (0 + b)
      sums x y z a b l m = omega (arith, ints, l, m)
  inline-raise container inner cb node parent (of_valign.Raise l) = let own = length-raise l node in omega (arith, own)

  -- any other, but for what its middle makes of its height
  abbrev pub middle_by : LineExtent → Valign → ℤ
  middle_by e of_valign.Middle = floor_of (height_of_extent e) 2 -ℤ e.above
  middle_by e _ = pos 0

  pub other-raise : (container : ℕ) (inner : List (Option (Inner ℤ))) (cb : Band ℤ) (node parent : ℕ) (e : LineExtent) (v : Valign)
      → let c : InlineContext = record { tree = tree; world = w; container = container; inner = inner; cb = cb } in
      unsigned_abs (raise c node parent e v -ℤ middle_by e v) ≤ size_cost parent + (raise_cost tree low w small node v + line_cost node)
  other-raise container inner cb node parent e of_valign.Baseline = omega arith
  other-raise container inner cb node parent e of_valign.Sub =
      let part = minus-size (floor_of (font_size tree w parent) 5) _ (size-part 5 parent (omega arith)) in less (neg_ℤ (floor_of (font_size tree w parent) 5)) _ _ part
    where
      less : (z : ℤ) (a b : ℕ) → unsigned_abs z ≤ a → unsigned_abs (z -ℤ pos 0) ≤ a + b
      less z a b l = omega (arith, ints, l)
  other-raise container inner cb node parent e of_valign.Super =
      let part = size-part 3 parent (omega arith) in less (floor_of (font_size tree w parent) 3) _ _ part
    where
      less : (z : ℤ) (a b : ℕ) → unsigned_abs z ≤ a → unsigned_abs (z -ℤ pos 0) ≤ a + b
      less z a b l = omega (arith, ints, l)
  other-raise container inner cb node parent e of_valign.Middle =
      let part = size-part 4 parent (omega arith) in
      sums (floor_of (font_size tree w parent) 4) (floor_of (height_of_extent e) 2) e.above _ _ part
    where
      sums : (x y z : ℤ) (a b : ℕ) → unsigned_abs x ≤ a → unsigned_abs (((x +ℤ y) -ℤ z) -ℤ (y -ℤ z)) ≤ a + b
      sums x y z a b l = omega (arith, ints, l)
  other-raise container inner cb node parent e (of_valign.Raise l) =
      let own = length-raise l node in less (used tree w l (line_height tree w node)) _ _ _ own
    where
      less : (z : ℤ) (a b s : ℕ) → unsigned_abs z ≤ b → unsigned_abs (z -ℤ pos 0) ≤ s + (b + a)
      less z a b s l = omega (arith, ints, l)

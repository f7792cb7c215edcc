-- The lengths of a box against its growth and its own extent, and what they make of its containing block.
use Rattle.std.proofs.Common.{◌≡◌, ℕ, ◌+◌, ◌*◌, ◌≤◌, ℤ, pos, ◌+ℤ◌, ◌-ℤ◌, unsigned_abs, Option, Some, None, refl, sym, subst, arith}
use Rattle.std.specs.Prelude.{unwrap_or, option_map}
use Rattle.std.specs.Int.{int_max}
use Rattle.std.specs.List.{AllByRecursion}
use Rattle.std.specs.Option.{option_map_or}
use Rattle.std.proofs.Math.Nat.{mul-le-mul_left, mul-le-mul_right, le_of_mul-le-mul_left}
use Rattle.viz_base.specs.Reaches.{whole, growth, percentage, own_extent}
use Rattle.viz_base.specs.Styles.{sides_of, nothing}
use Rattle.viz_base.specs.declared.lengths.Length.{Length}
use Rattle.viz_base.specs.declared.lengths.Length.TheVariants as of_length
use Rattle.viz_base.specs.declared.lengths.Sides.{Sides}
use Rattle.viz_base.specs.declared.styles.Style.{Style}
use Rattle.viz_base.specs.declared.trees.BoxNode.{BoxNode}
use Rattle.viz_base.specs.declared.trees.BoxTree.{BoxTree}
use Rattle.viz_base.specs.declared.worlds.World.{World}
use Rattle.layout_semantics.specs.DefiniteHeights.{own_height, least_height, height_around, clamped_around, own_height_around}
use Rattle.layout_semantics.specs.Horizontal.{block_flow, shrunk, placing_of, widths, terms_around, available, block_terms, shrunk_terms}
use Rattle.layout_semantics.specs.Lengths.{used, used_unless_auto, maximum, own_style, margins, borders, paddings, no_sides}
use Rattle.layout_semantics.specs.Preferred.{preferred}
use Rattle.layout_laws.specs.Terms.{own_width, own_maximum, own_minimum}
use Rattle.layout_laws.proofs.HorizontalTerms.{block-clamped, shrunk-clamped}
use Rattle.lay_length.proofs.SmallExtents.{IsLowTree, IsElementOf, ext, used-size, by-groups, lengths-low}
use Rattle.lay_length.proofs.SmallNumbers.{size-+, size--, size-max, size-min}
use Rattle.page_limits.proofs.WidthsCosts.{clamped-size}

-- ---- one level of a page

-- what percentages and lengths make of an extent `z`, so many times, against the reach of the box
pub level-up : (around m r g own z c reach : ℕ) → z * 2097152 ≤ m * around → 2097152 ≤ m → 2097152 ≤ around → 100000000 ≤ g
    → around * r * g + 100000000 * own ≤ 100000000 * reach → c * 100000000 ≤ g * (z * r) + 100000000 * own + 800000000 * r → c * 2097152 ≤ (m + 16) * reach
level-up around m r g own z c reach near most wide part goes cost =
    let a : (g * r) * (z * 2097152) ≤ (g * r) * (m * around) = mul-le-mul_left (g * r) near in
    let b : m * (around * r * g + 100000000 * own) ≤ m * (100000000 * reach) = mul-le-mul_left m goes in
    let d : own * 2097152 ≤ own * m = mul-le-mul_left own most in
    let e : r * 2097152 ≤ r * around = mul-le-mul_left r wide in
    let f : (around * r) * 100000000 ≤ (around * r) * g = mul-le-mul_left (around * r) part in
    le_of_mul-le-mul_left {k = 100000000} (omega (arith, a, b, d, e, f, cost, goes)) (omega arith)

-- once
pub level-once : (around m r g own z c reach : ℕ) → z * 2097152 ≤ m * around → 2097152 ≤ m → 2097152 ≤ around → 100000000 ≤ g → 1 ≤ r
    → around * r * g + 100000000 * own ≤ 100000000 * reach → c * 100000000 ≤ g * z + 100000000 * own + 800000000 → c * 2097152 ≤ (m + 16) * reach
level-once around m r g own z c reach near most wide part once goes cost =
    let a : (g * z) * 1 ≤ (g * z) * r = mul-le-mul_left (g * z) once in
    level-up around m r g own z c reach near most wide part goes (omega (arith, a, cost, once))

-- ---- the lengths of a box

abbrev pub margins_in : Option Style → Sides Length
margins_in o = option_map_or (λ (s : Style). s.margin) o no_sides

abbrev pub paddings_in : Option Style → Sides Length
paddings_in o = option_map_or (λ (s : Style). s.padding) o no_sides

abbrev pub borders_in : Option Style → Sides Length
borders_in o = option_map_or (λ (s : Style). s.border) o no_sides

abbrev pub width_in : Option Style → Length
width_in o = option_map_or (λ (s : Style). s.width) o of_length.Auto

abbrev pub min_width_in : Option Style → Length
min_width_in o = option_map_or (λ (s : Style). s.min_width) o nothing

abbrev pub height_in : Option Style → Length
height_in o = option_map_or (λ (s : Style). s.height) o of_length.Auto

abbrev pub min_height_in : Option Style → Length
min_height_in o = option_map_or (λ (s : Style). s.min_height) o nothing

module _ (tree : BoxTree) (low : IsLowTree tree) (w : World) (small : w.s ≤ 256) where
  abbrev pub far : Length → ℕ
  far = ext tree low w small

  -- a length of which percentages and extent are within these
  pub record IsTerm (g o : ℕ) (l : Length) : Type 0 where
    pub part : percentage l ≤ g
    pub extent : far l ≤ o

  pub record AreTerms (g o : ℕ) (s : Sides Length) : Type 0 where
    pub top : IsTerm g o s.top
    pub right : IsTerm g o s.right
    pub bottom : IsTerm g o s.bottom
    pub left : IsTerm g o s.left

  -- what the style of a box says, against its growth and its own extent
  pub record HasTerms (g o : ℕ) (style : Option Style) : Type 0 where
    pub margin : AreTerms g o (margins_in style)
    pub padding : AreTerms g o (paddings_in style)
    pub border : AreTerms g o (borders_in style)
    pub width : IsTerm g o (width_in style)
    pub min_width : IsTerm g o (min_width_in style)
    pub height : IsTerm g o (height_in style)
    pub min_height : IsTerm g o (min_height_in style)
    pub border_left : percentage (borders_in style).left ≡ 0
    pub border_right : percentage (borders_in style).right ≡ 0
    pub part : whole ≤ g
    -- beside a content that is as wide as is left
    pub beside : whole + (percentage (margins_in style).left + percentage (margins_in style).right + percentage (paddings_in style).left + percentage (paddings_in style).right) ≤ g
    pub extents : far (margins_in style).left + far (margins_in style).right + far (paddings_in style).left + far (paddings_in style).right
        + far (borders_in style).left + far (borders_in style).right ≤ o

  -- no border of the style is a percentage
  abbrev pub IsBare : Style → Type 0
  IsBare s = AllByRecursion (λ l. percentage l ≡ 0) (sides_of s.border)

  pub style-terms : (k : ℕ) (x : BoxNode) (s : Style) → IsElementOf tree k x s → IsBare s → HasTerms (growth s) (own_extent tree.styles tree.parents tree.fonts x) (Some s)
  style-terms k x s b bare =
      let all = lengths-low tree low w small k x s b in
      let groups = by-groups tree low w small far s in
      record {
        margin = record {
          top = record { part = omega arith; extent = omega (arith, all, groups) };
          right = record { part = omega arith; extent = omega (arith, all, groups) };
          bottom = record { part = omega arith; extent = omega (arith, all, groups) };
          left = record { part = omega arith; extent = omega (arith, all, groups) };
        };
        padding = record {
          top = record { part = omega arith; extent = omega (arith, all, groups) };
          right = record { part = omega arith; extent = omega (arith, all, groups) };
          bottom = record { part = omega arith; extent = omega (arith, all, groups) };
          left = record { part = omega arith; extent = omega (arith, all, groups) };
        };
        border = record {
          top = record { part = omega (arith, bare.0); extent = omega (arith, all, groups) };
          right = record { part = omega (arith, bare.1.0); extent = omega (arith, all, groups) };
          bottom = record { part = omega (arith, bare.1.1.0); extent = omega (arith, all, groups) };
          left = record { part = omega (arith, bare.1.1.1.0); extent = omega (arith, all, groups) };
        };
        width = record { part = omega arith; extent = omega (arith, all, groups) };
        min_width = record { part = omega arith; extent = omega (arith, all, groups) };
        height = record { part = omega arith; extent = omega (arith, all, groups) };
        min_height = record { part = omega arith; extent = omega (arith, all, groups) };
        border_left = bare.1.1.1.0;
        border_right = bare.1.0;
        part = omega arith;
        beside = omega arith;
        extents = omega (arith, all, groups);
      }

  -- of an anonymous box
  none-term : IsTerm whole 0 nothing
  none-term = record { part = omega arith; extent = omega arith }

  auto-term : IsTerm whole 0 of_length.Auto
  auto-term = record { part = omega arith; extent = omega arith }

  pub no-terms : HasTerms whole 0 None
  no-terms = record {
    margin = record { top = none-term; right = none-term; bottom = none-term; left = none-term };
    padding = record { top = none-term; right = none-term; bottom = none-term; left = none-term };
    border = record { top = none-term; right = none-term; bottom = none-term; left = none-term };
    width = auto-term;
    min_width = none-term;
    height = auto-term;
    min_height = none-term;
    border_left = refl;
    border_right = refl;
    part = omega arith;
    beside = omega arith;
    extents = omega arith;
  }

  -- ---- what they make of a containing block

  pub used-of : (l : Length) (cb v : ℤ) → used_unless_auto tree w l cb ≡ Some v → used tree w l cb ≡ v
  used-of of_length.Auto cb v e = absurd (cc)
  used-of (of_length.Px c) cb v e = same e
    where
      same : {x y : ℤ} → Some x ≡ Some y → x ≡ y
      same e = cc
  used-of (of_length.Em c node) cb v e = same e
    where
      same : {x y : ℤ} → Some x ≡ Some y → x ≡ y
      same e = cc
  used-of (of_length.Pct c) cb v e = same e
    where
      same : {x y : ℤ} → Some x ≡ Some y → x ≡ y
      same e = cc

  pub term-cost : (g o : ℕ) (l : Length) (cb : ℤ) → IsTerm g o l → unsigned_abs (used tree w l cb) * 100000000 ≤ g * unsigned_abs cb + 100000000 * o + 100000000
  term-cost g o l cb i =
      let size = used-size tree low w small l cb in
      let part = mul-le-mul_right (unsigned_abs cb) i.part in
      let extent = i.extent in
      omega (arith, size, part, extent)

  abbrev pub size_if : Option ℤ → ℕ
  size_if around = unsigned_abs (unwrap_or around (pos 0))

  -- a height where the one around is so large, if it is known
  pub height-cost : (g o : ℕ) (around : Option ℤ) (l : Length) → IsTerm g o l → size_if (height_around tree w around l) * 100000000 ≤ g * size_if around + 100000000 * o + 100000000
  height-cost g o around of_length.Auto i = omega arith
  height-cost g o around (of_length.Px c) i = let cost = term-cost g o (of_length.Px c) (pos 0) i in omega (arith, cost)
  height-cost g o around (of_length.Em e node) i = let cost = term-cost g o (of_length.Em e node) (pos 0) i in omega (arith, cost)
  height-cost g o None (of_length.Pct p) i = omega arith
  height-cost g o (Some z) (of_length.Pct p) i = term-cost g o (of_length.Pct p) z i

  le_from : {a b : ℕ} → a ≡ b → a ≤ b
  le_from e = omega (arith, e)

  pub room-plain : (cb a b c d e f : ℤ) → unsigned_abs (int_max (pos 0) (cb -ℤ (a +ℤ (b +ℤ (c +ℤ (pos 0 +ℤ (d +ℤ (e +ℤ f))))))))
      ≤ unsigned_abs cb + (unsigned_abs a + unsigned_abs b + unsigned_abs c + (unsigned_abs d + unsigned_abs e + unsigned_abs f))
  room-plain cb a b c d e f =
      let s1 = size-+ e f in
      let s2 = size-+ d (e +ℤ f) in
      let s3 = size-+ (pos 0) (d +ℤ (e +ℤ f)) in
      let s4 = size-+ c (pos 0 +ℤ (d +ℤ (e +ℤ f))) in
      let s5 = size-+ b (c +ℤ (pos 0 +ℤ (d +ℤ (e +ℤ f)))) in
      let s6 = size-+ a (b +ℤ (c +ℤ (pos 0 +ℤ (d +ℤ (e +ℤ f))))) in
      let s7 = size-- cb (a +ℤ (b +ℤ (c +ℤ (pos 0 +ℤ (d +ℤ (e +ℤ f)))))) in
      size-max (pos 0) (cb -ℤ (a +ℤ (b +ℤ (c +ℤ (pos 0 +ℤ (d +ℤ (e +ℤ f))))))) _ (omega arith) (omega (arith, s1, s2, s3, s4, s5, s6, s7))

  -- the edges of a box at its sides, each without its sign
  abbrev pub sides_at : ℕ → ℤ → ℕ
  sides_at k cb =
      unsigned_abs (used tree w (margins tree k).left cb) + unsigned_abs (used tree w (borders tree k).left cb) + unsigned_abs (used tree w (paddings tree k).left cb)
      + (unsigned_abs (used tree w (paddings tree k).right cb) + unsigned_abs (used tree w (borders tree k).right cb) + unsigned_abs (used tree w (margins tree k).right cb))

  module _ (k g o : ℕ) (t : HasTerms g o (own_style tree k)) where
    -- the containing block with the edges
    pub edges-cost : (cb : ℤ) → (unsigned_abs cb + sides_at k cb) * 100000000 ≤ g * unsigned_abs cb + 100000000 * o + 600000000
    edges-cost cb =
        let ml = used-size tree low w small (margins_in (own_style tree k)).left cb in
        let bl = used-size tree low w small (borders_in (own_style tree k)).left cb in
        let pl = used-size tree low w small (paddings_in (own_style tree k)).left cb in
        let pr = used-size tree low w small (paddings_in (own_style tree k)).right cb in
        let br = used-size tree low w small (borders_in (own_style tree k)).right cb in
        let mr = used-size tree low w small (margins_in (own_style tree k)).right cb in
        let beside = mul-le-mul_right (unsigned_abs cb) t.beside in
        let no_left = mul-le-mul_right (unsigned_abs cb) (le_from t.border_left) in
        let no_right = mul-le-mul_right (unsigned_abs cb) (le_from t.border_right) in
        let extents = t.extents in
        omega (arith, ml, bl, pl, pr, br, mr, beside, no_left, no_right, extents)

    left-size : (cb : ℤ) → unsigned_abs (available tree w k cb) ≤ unsigned_abs cb + sides_at k cb
    left-size cb =
        let e = terms_around tree w k cb (pos 0) in
        room-plain cb e.margin_left e.border_left e.padding_left e.padding_right e.border_right e.margin_right

    -- ---- widths

    module _ (cb : ℤ) (n : ℕ) (least : unsigned_abs (own_minimum tree w k cb) ≤ n) (wide : unsigned_abs (used tree w (width_in (own_style tree k)) cb) ≤ n) (left : unsigned_abs cb + sides_at k cb ≤ n) where
      given-size : (v : ℤ) → own_width tree w k cb ≡ Some v → unsigned_abs v ≤ n
      given-size v e = subst (λ z. unsigned_abs z ≤ n) (used-of (width_in (own_style tree k)) cb v e) wide

      pub block-size : placing_of tree k ≡ block_flow → unsigned_abs (widths tree w k cb).content ≤ n
      block-size e = subst (λ z. unsigned_abs z ≤ n) (sym (block-clamped tree w k cb e))
          (clamped-size (own_maximum tree w k cb) (own_minimum tree w k cb) (block_terms tree w k cb (own_width tree w k cb)).content n least (by (own_width tree w k cb) refl))
        where
          by : (x : Option ℤ) → own_width tree w k cb ≡ x → unsigned_abs (block_terms tree w k cb x).content ≤ n
          by None e = let room = left-size cb in omega (arith, room, left)
          by (Some v) e = given-size v e

      pub shrunk-size : placing_of tree k ≡ shrunk → unsigned_abs (preferred tree w k).least ≤ n → unsigned_abs (preferred tree w k).most ≤ n → unsigned_abs (widths tree w k cb).content ≤ n
      shrunk-size e a b = subst (λ z. unsigned_abs z ≤ n) (sym (shrunk-clamped tree w k cb e))
          (clamped-size (own_maximum tree w k cb) (own_minimum tree w k cb) (shrunk_terms tree w k cb (own_width tree w k cb)).content n least (by (own_width tree w k cb) refl))
        where
          by : (x : Option ℤ) → own_width tree w k cb ≡ x → unsigned_abs (shrunk_terms tree w k cb x).content ≤ n
          by None e =
              let room = left-size cb in
              size-min (int_max (preferred tree w k).least (available tree w k cb)) (preferred tree w k).most n (size-max (preferred tree w k).least (available tree w k cb) n a (omega (arith, room, left))) b
          by (Some v) e = given-size v e

    -- ---- heights

    pub known-size : (around : Option ℤ) (n : ℕ) → size_if (height_around tree w around (least_height tree k)) ≤ n → size_if (height_around tree w around (own_height tree k)) ≤ n → size_if (own_height_around tree w around k) ≤ n
    known-size around n least h = by (height_around tree w around (own_height tree k)) h
      where
        by : (x : Option ℤ) → size_if x ≤ n → size_if (option_map (clamped_around tree w around k) x) ≤ n
        by None l = omega arith
        by (Some h) l = clamped-size (maximum (height_around tree w around) (option_map_or (λ (s : Style). s.max_height) (own_style tree k) None)) (unwrap_or (height_around tree w around (least_height tree k)) (pos 0)) h n least l

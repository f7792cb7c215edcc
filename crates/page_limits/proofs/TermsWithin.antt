-- The used values of a box are small, where what its properties give is (CSS 2.1, 10.3, 10.4, 10.7).
use Rattle.std.proofs.Common.{◌≡◌, ℕ, ◌+◌, ◌*◌, ◌≤◌, ℤ, pos, negsuc, ◌+ℤ◌, ◌-ℤ◌, int_le, unsigned_abs, Bool, true, false, Option, Some, None, refl, sym, subst, arith}
use Rattle.std.specs.Prelude.{◌≤ℤ◌, unwrap_or}
use Rattle.std.specs.Int.{int_max, int_min}
use Rattle.std.proofs.lemmas.Int.{ints, clamps}
use Rattle.viz_base.specs.Numbers.{floor_of}
use Rattle.viz_base.specs.declared.layouts.Widths.{Widths}
use Rattle.viz_base.specs.declared.lengths.Length.TheVariants as of_length
use Rattle.viz_base.specs.declared.styles.Style.{Style}
use Rattle.viz_base.specs.declared.trees.BoxTree.{BoxTree}
use Rattle.viz_base.specs.declared.worlds.World.{World}
use Rattle.viz_base.specs.Styles.{nothing}
use Rattle.layout_semantics.specs.DefiniteHeights.{given_height, clamped_height, definite_height, height_around, least_height}
use Rattle.layout_semantics.specs.Flow.{content_height}
use Rattle.layout_semantics.specs.FlowBoxes.{room}
use Rattle.layout_semantics.specs.Horizontal.{terms_around, sum_of, available, left_margin, fixed_terms, auto_terms, block_terms, shrink_to_fit, shrunk_terms, again_unless, at_most, at_least, clamped_terms, is_auto, Placing, block_flow, shrunk, replaced_block, replaced_shrunk, placing_of, flow_widths, widths}
use Rattle.layout_semantics.specs.Lengths.{used, used_unless_auto, maximum, own, margins}
use Rattle.layout_semantics.specs.Preferred.{preferred}
use Rattle.layout_semantics.specs.Replaced.{replaced_size}
use Rattle.lay_length.proofs.SmallNumbers.{clamped-from, clamped-to}
use Rattle.page_limits.specs.Boxes.{AreWidthsSmall, IsHeightClamped, IsBoxSmall, edges_at, IsWidthWithin, ArePropertiesSmall}

-- ---- numbers

half-between : (z : ℤ) → pos 0 ≤ℤ z → (pos 0 ≤ℤ floor_of z 2) × (floor_of z 2 ≤ℤ z)
half-between (pos n) l = (omega (arith, ints), omega (arith, ints))
half-between (negsuc n) l = absurd (omega (arith, ints, l))

-- what is left of a containing block for the right margin, by the left one
record IsShared (cb inner left : ℤ) (most : ℕ) : Type 0 where
  margin : unsigned_abs left ≤ most
  rest : unsigned_abs (cb -ℤ inner -ℤ left) ≤ most

shared-margins : (la ra fits : Bool) (cb sum inner ml mr : ℤ) (most : ℕ) → int_le sum cb ≡ fits → sum ≡ inner +ℤ (ml +ℤ mr) → unsigned_abs cb + (unsigned_abs inner + (unsigned_abs ml + unsigned_abs mr)) ≤ most
    → IsShared cb inner (left_margin la ra fits (cb -ℤ sum) ml) most
shared-margins true true true cb sum inner ml mr most f s l =
    let h = half-between (cb -ℤ sum) (omega (arith, ints, f)) in
    let from = h.0 in
    let to = h.1 in
    record { margin = omega (arith, ints, s, l, from, to); rest = omega (arith, ints, s, l, from, to) }
shared-margins true false true cb sum inner ml mr most f s l = record { margin = omega (arith, ints, s, l); rest = omega (arith, ints, s, l) }
shared-margins true true false cb sum inner ml mr most f s l = record { margin = omega (arith, l); rest = omega (arith, ints, l) }
shared-margins true false false cb sum inner ml mr most f s l = record { margin = omega (arith, l); rest = omega (arith, ints, l) }
shared-margins false ra fits cb sum inner ml mr most f s l = record { margin = omega (arith, l); rest = omega (arith, ints, l) }

-- ---- the terms of a box in a containing block

module _ (tree : BoxTree) (w : World) (k : ℕ) (cb : ℤ) (most : ℕ) where
  abbrev Within : ℤ → Type 0
  Within width = IsWidthWithin tree w k cb most width

  inner_of : Widths ℤ → ℤ
  inner_of x = sum_of x -ℤ x.margin_left -ℤ x.margin_right

  inner-sum : (x : Widths ℤ) → unsigned_abs (inner_of x) ≤ unsigned_abs x.border_left + unsigned_abs x.padding_left + unsigned_abs x.content + unsigned_abs x.padding_right + unsigned_abs x.border_right
  unfolding inner_of
  inner-sum x = by x.margin_left x.border_left x.padding_left x.content x.padding_right x.border_right x.margin_right
    where
      two : (a b : ℤ) → unsigned_abs (a +ℤ b) ≤ unsigned_abs a + unsigned_abs b
      two a b = omega (arith, ints)

      same : (a b c d e f g : ℤ) → (a +ℤ (b +ℤ (c +ℤ (d +ℤ (e +ℤ (f +ℤ g)))))) -ℤ a -ℤ g ≡ b +ℤ (c +ℤ (d +ℤ (e +ℤ f)))
      same a b c d e f g = omega (arith, ints)

      by : (a b c d e f g : ℤ) → unsigned_abs ((a +ℤ (b +ℤ (c +ℤ (d +ℤ (e +ℤ (f +ℤ g)))))) -ℤ a -ℤ g) ≤ unsigned_abs b + unsigned_abs c + unsigned_abs d + unsigned_abs e + unsigned_abs f
      by a b c d e f g =
          let x1 = two e f in
          let x2 = two d (e +ℤ f) in
          let x3 = two c (d +ℤ (e +ℤ f)) in
          let x4 = two b (c +ℤ (d +ℤ (e +ℤ f))) in
          subst (λ (z : ℤ). unsigned_abs z ≤ unsigned_abs b + unsigned_abs c + unsigned_abs d + unsigned_abs e + unsigned_abs f) (sym (same a b c d e f g)) (omega (arith, x1, x2, x3, x4))

  whole-sum : (x : Widths ℤ) → sum_of x ≡ inner_of x +ℤ (x.margin_left +ℤ x.margin_right)
  unfolding inner_of
  whole-sum x = by (sum_of x) x.margin_left x.margin_right
    where
      by : (s a g : ℤ) → s ≡ (s -ℤ a -ℤ g) +ℤ (a +ℤ g)
      by s a g = omega (arith, ints)

  -- of a fixed width
  fixed-small : (width : ℤ) → Within width → AreWidthsSmall most (fixed_terms tree w k cb width)
  unfolding inner_of
  fixed-small width l =
      let x = terms_around tree w k cb width in
      let inner = inner-sum x in
      let both = shared-margins (is_auto (margins tree k).left) (is_auto (margins tree k).right) (int_le (sum_of x) cb) cb (sum_of x) (inner_of x) x.margin_left x.margin_right most refl (whole-sum x) (omega (arith, inner, l)) in
      record {
        margin_left = both.margin;
        border_left = omega (arith, l);
        padding_left = omega (arith, l);
        content = omega (arith, l);
        padding_right = omega (arith, l);
        border_right = omega (arith, l);
        margin_right = both.rest;
      }

  around-small : (width : ℤ) → Within width → AreWidthsSmall most (terms_around tree w k cb width)
  around-small width l = record {
    margin_left = omega (arith, l);
    border_left = omega (arith, l);
    padding_left = omega (arith, l);
    content = omega (arith, l);
    padding_right = omega (arith, l);
    border_right = omega (arith, l);
    margin_right = omega (arith, l);
  }

  module _ (edges : 2 * (unsigned_abs cb + edges_at tree w k cb) ≤ most) where
    room-within : unsigned_abs (available tree w k cb) ≤ unsigned_abs cb + edges_at tree w k cb
    unfolding inner_of
    room-within =
        let x = terms_around tree w k cb (pos 0) in
        let inner = inner-sum x in
        let whole = whole-sum x in
        by cb (sum_of x) (inner_of x) x.margin_left x.margin_right (edges_at tree w k cb) whole (omega (arith, inner))
      where
        by : (cb sum inner ml mr : ℤ) (n : ℕ) → sum ≡ inner +ℤ (ml +ℤ mr) → unsigned_abs inner + (unsigned_abs ml + unsigned_abs mr) ≤ n → unsigned_abs (int_max (pos 0) (cb -ℤ sum)) ≤ unsigned_abs cb + n
        by cb sum inner ml mr n e l = omega (arith, ints, clamps, e, l)

    -- of a width that follows
    auto-small : AreWidthsSmall most (auto_terms tree w k cb)
    unfolding inner_of
    auto-small =
        let x = terms_around tree w k cb (available tree w k cb) in
        let room = room-within in
        let l : Within (available tree w k cb) = omega (arith, edges, room) in
        let inner = inner-sum x in
        record {
          margin_left = omega (arith, l);
          border_left = omega (arith, l);
          padding_left = omega (arith, l);
          content = omega (arith, l);
          padding_right = omega (arith, l);
          border_right = omega (arith, l);
          margin_right = rest cb (inner_of x) x.margin_left x.margin_right most (omega (arith, inner, l));
        }
      where
        rest : (cb inner ml mr : ℤ) (n : ℕ) → unsigned_abs cb + (unsigned_abs inner + (unsigned_abs ml + unsigned_abs mr)) ≤ n → unsigned_abs (cb -ℤ inner -ℤ ml) ≤ n
        rest cb inner ml mr n l = omega (arith, ints, l)

    -- clamped by a maximum and a minimum
    clamped-small : (terms : Option ℤ → Widths ℤ) → ((v : ℤ) → Within v → AreWidthsSmall most (terms (Some v))) → ((v : ℤ) → (terms (Some v)).content ≡ v)
        → (least : ℤ) → Within least → (greatest : Option ℤ) (first : Widths ℤ) → AreWidthsSmall most first → Within first.content → AreWidthsSmall most (at_least terms least (at_most terms greatest first))
    clamped-small terms good same least l greatest first f c = by_most greatest
      where
        least-of : (x : Widths ℤ) → AreWidthsSmall most x → AreWidthsSmall most (at_least terms least x)
        least-of x a = by (int_le least x.content)
          where
            by : (b : Bool) → AreWidthsSmall most (again_unless b terms least x)
            by true = a
            by false = good least l

        narrowed : (m : ℤ) → int_le first.content m ≡ false → AreWidthsSmall most (at_least terms least (terms (Some m)))
        narrowed m e = by (int_le least (terms (Some m)).content) refl
          where
            by : (b : Bool) → int_le least (terms (Some m)).content ≡ b → AreWidthsSmall most (again_unless b terms least (terms (Some m)))
            by true g = good m (let h = same m in let low : least ≤ℤ m = omega (arith, ints, g, h) in let high : m ≤ℤ first.content = omega (arith, ints, e) in between least m first.content (unsigned_abs cb + edges_at tree w k cb) low high l c)
              where
                between : (a z b : ℤ) (n : ℕ) → a ≤ℤ z → z ≤ℤ b → n + unsigned_abs a ≤ most → n + unsigned_abs b ≤ most → n + unsigned_abs z ≤ most
                between a z b n h j p q = omega (arith, ints, h, j, p, q)
            by false g = good least l

        by_most : (o : Option ℤ) → AreWidthsSmall most (at_least terms least (at_most terms o first))
        by_most None = least-of first f
        by_most (Some m) = by (int_le first.content m) refl
          where
            by : (b : Bool) → int_le first.content m ≡ b → AreWidthsSmall most (at_least terms least (again_unless b terms m first))
            by true e = least-of first f
            by false e = narrowed m e

    -- ---- each sort of box

    module _ (given : (v : ℤ) → used_unless_auto tree w (own tree k (λ (s : Style). s.width) of_length.Auto) cb ≡ Some v → Within v) (least_in : Within (used tree w (own tree k (λ (s : Style). s.min_width) nothing) cb)) where
      abbrev own_width : Option ℤ
      own_width = used_unless_auto tree w (own tree k (λ (s : Style). s.width) of_length.Auto) cb

      abbrev least_width : ℤ
      least_width = used tree w (own tree k (λ (s : Style). s.min_width) nothing) cb

      abbrev greatest_width : Option ℤ
      greatest_width = maximum (λ length. used_unless_auto tree w length cb) (own tree k (λ (s : Style). s.max_width) None)

      room-in : Within (available tree w k cb)
      room-in = let room = room-within in omega (arith, edges, room)

      pub flow-small : AreWidthsSmall most (flow_widths tree w k cb)
      flow-small = by own_width refl
        where
          by : (o : Option ℤ) → own_width ≡ o → AreWidthsSmall most (at_least (block_terms tree w k cb) least_width (at_most (block_terms tree w k cb) greatest_width (block_terms tree w k cb own_width)))
          by None e = subst (λ (o : Option ℤ). AreWidthsSmall most (at_least (block_terms tree w k cb) least_width (at_most (block_terms tree w k cb) greatest_width (block_terms tree w k cb o)))) (sym e)
              (clamped-small (block_terms tree w k cb) fixed-small (λ v. refl) least_width least_in greatest_width (auto_terms tree w k cb) auto-small room-in)
          by (Some v) e = subst (λ (o : Option ℤ). AreWidthsSmall most (at_least (block_terms tree w k cb) least_width (at_most (block_terms tree w k cb) greatest_width (block_terms tree w k cb o)))) (sym e)
              (clamped-small (block_terms tree w k cb) fixed-small (λ v. refl) least_width least_in greatest_width (fixed_terms tree w k cb v) (fixed-small v (given v e)) (given v e))

      shrunk-small : Within (preferred tree w k).least → Within (preferred tree w k).most → AreWidthsSmall most (clamped_terms tree w k cb (shrunk_terms tree w k cb))
      shrunk-small pl pm = by own_width refl
        where
          fit : ℤ
          fit = shrink_to_fit (preferred tree w k) (available tree w k cb)

          fit-in : Within fit
          fit-in = between (preferred tree w k).least (available tree w k cb) (preferred tree w k).most (unsigned_abs cb + edges_at tree w k cb) pl room-in pm
            where
              between : (a r b : ℤ) (n : ℕ) → n + unsigned_abs a ≤ most → n + unsigned_abs r ≤ most → n + unsigned_abs b ≤ most → n + unsigned_abs (int_min (int_max a r) b) ≤ most
              between a r b n h j p = omega (arith, ints, clamps, h, j, p)

          by : (o : Option ℤ) → own_width ≡ o → AreWidthsSmall most (at_least (shrunk_terms tree w k cb) least_width (at_most (shrunk_terms tree w k cb) greatest_width (shrunk_terms tree w k cb own_width)))
          by None e = subst (λ (o : Option ℤ). AreWidthsSmall most (at_least (shrunk_terms tree w k cb) least_width (at_most (shrunk_terms tree w k cb) greatest_width (shrunk_terms tree w k cb o)))) (sym e)
              (clamped-small (shrunk_terms tree w k cb) around-small (λ v. refl) least_width least_in greatest_width (terms_around tree w k cb fit) (around-small fit fit-in) fit-in)
          by (Some v) e = subst (λ (o : Option ℤ). AreWidthsSmall most (at_least (shrunk_terms tree w k cb) least_width (at_most (shrunk_terms tree w k cb) greatest_width (shrunk_terms tree w k cb o)))) (sym e)
              (clamped-small (shrunk_terms tree w k cb) around-small (λ v. refl) least_width least_in greatest_width (terms_around tree w k cb v) (around-small v (given v e)) (given v e))

      pub widths-small : Within (preferred tree w k).least → Within (preferred tree w k).most → Within (replaced_size tree w k cb).width → AreWidthsSmall most (widths tree w k cb)
      unfolding widths
      widths-small pl pm r = by (placing_of tree k)
        where
          by : (p : Placing) → AreWidthsSmall most (elim p as (λ _. Widths ℤ) [
            | block_flow ↦ flow_widths tree w k cb
            | shrunk ↦ clamped_terms tree w k cb (shrunk_terms tree w k cb)
            | replaced_block ↦ fixed_terms tree w k cb (replaced_size tree w k cb).width
            | replaced_shrunk ↦ terms_around tree w k cb (replaced_size tree w k cb).width
          ])
          by block_flow = flow-small
          by shrunk = shrunk-small pl pm
          by replaced_block = fixed-small (replaced_size tree w k cb).width r
          by replaced_shrunk = around-small (replaced_size tree w k cb).width r

-- ---- a box

pub box-small : (tree : BoxTree) (w : World) (most k : ℕ) → ArePropertiesSmall tree w most k → IsBoxSmall tree w most k
box-small tree w most k p = record {
  widths = widths-small tree w k cb most p.edges p.width p.least p.preferred_least p.preferred_most p.replaced_width;
  flow = flow-small tree w k cb most p.edges p.width p.least;
  sides = p.sides;
  clamped = clamped_in;
  replaced = p.replaced_height;
}
  where
    cb : ℤ
    cb = room tree w k

    around : Option ℤ
    around = definite_height tree w k

    greatest : Option ℤ
    greatest = maximum (height_around tree w around) (own tree k (λ (s : Style). s.max_height) None)

    least : ℤ
    least = unwrap_or (height_around tree w around (least_height tree k)) (pos 0)

    by : (auto : ℤ) (o : Option ℤ) → given_height tree w k ≡ o → IsHeightClamped most auto (clamped_height tree w k (unwrap_or o auto))
    by auto None e =
        let from = clamped-from greatest least auto in
        let to = clamped-to greatest least auto in
        let l = p.least_height in
        record { from = omega (arith, ints, from, l); to = omega (arith, ints, clamps, to, l) }
    by auto (Some h) e =
        let from = clamped-from greatest least h in
        let to = clamped-to greatest least h in
        let l = p.least_height in
        let g = p.given_height h e in
        record { from = omega (arith, ints, from, l); to = omega (arith, ints, clamps, to, l, g) }

    clamped_in : (auto : ℤ) → IsHeightClamped most auto (content_height tree w k auto)
    clamped_in auto = by auto (given_height tree w k) refl

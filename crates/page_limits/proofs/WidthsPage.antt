-- What the properties of a box of a page give across is small.
use Rattle.std.proofs.Common.{◌≡◌, ℕ, ◌+◌, ◌*◌, ◌^◌, ◌≤◌, ◌<◌, true, false, ℤ, pos, length, Option, Some, None, unsigned_abs, slice_get, refl, sym, ap, ◌∙◌, subst, arith}
use Rattle.std.specs.Prelude.{unwrap_or}
use Rattle.std.specs.List.{AllByRecursion}
use Rattle.std.specs.Option.{option_and_then}
use Rattle.std.proofs.Math.Nat.{mul-le-mul, mul-le-mul_left}
use Rattle.viz_base.specs.Reaches.{ratio, intrinsic_extent}
use Rattle.viz_base.specs.Styles.{sides_of}
use Rattle.viz_base.specs.Trees.{is_fragmented, is_inline, is_line}
use Rattle.viz_base.specs.declared.lengths.Length.{Length}
use Rattle.viz_base.specs.declared.trees.BoxNode.{BoxNode}
use Rattle.viz_base.specs.declared.trees.BoxTree.{BoxTree}
use Rattle.viz_base.specs.declared.trees.Kind.{Kind}
use Rattle.viz_base.specs.declared.trees.Kind.TheVariants as of_kind
use Rattle.viz_base.specs.declared.worlds.World.{World}
use Rattle.viz_base.proofs.ListLemmas.{slice_some}
use Rattle.layout_semantics.specs.Blocks.{kind_of}
use Rattle.layout_semantics.specs.DefiniteHeights.{own_height, given_height, definite_height}
use Rattle.layout_semantics.specs.FlowBoxes.{room}
use Rattle.layout_semantics.specs.Lengths.{used, own_style, margins, borders, paddings}
use Rattle.layout_semantics.specs.Order.{IsOnPage}
use Rattle.layout_semantics.specs.Preferred.{preferred}
use Rattle.layout_semantics.specs.Replaced.{intrinsic, replaced_size}
use Rattle.layout_semantics.proofs.Pages.{within-page}
use Rattle.layout_laws.specs.Terms.{own_width, own_maximum, own_minimum}
use Rattle.layout_laws.proofs.Reaching.{ratio_least}
use Rattle.page_limits.proofs.WidthsCosts.{by_height, by_height-size, clamped-size, kind-at}
use Rattle.page_limits.proofs.WidthsTerms.{IsTerm, far, term-cost, height-cost, sides_at, width_in, height_in, used-of}
use Rattle.page_limits.proofs.WidthsLevels.{IsFarPage, reach_of, reach-low, HasLevel, has_terms, level-of, preferred-far, IsPlaced, placed, next, near-once, near-times, edges-near, width-near, minimum-near}

-- near what reaches so far is within twice as much
near-most : (m reach c : ℕ) → c * 2097152 ≤ (m + 16) * reach → m + 16 ≤ 4194304 → reach ≤ 2 ^ 40 → c ≤ 2 ^ 41
near-most m reach c l a b = let most = mul-le-mul a b in omega (arith, l, most)

either-size : (o : Option ℤ) (x : ℤ) (n : ℕ) → ((v : ℤ) → o ≡ Some v → unsigned_abs v ≤ n) → unsigned_abs x ≤ n → unsigned_abs (unwrap_or o x) ≤ n
either-size None x n f l = l
either-size (Some v) x n f l = f v refl

-- the ratio and the intrinsic size of a box, 0 by 0 where it has none
pub same-ratio : (o : Option (ℕ × ℕ)) → ratio (Some (unwrap_or o (0, 0))) ≡ ratio o
same-ratio None = refl
same-ratio (Some size) = refl

pub same-extent : (o : Option (ℕ × ℕ)) → 64 * (unwrap_or o (0, 0)).0 + 64 * (unwrap_or o (0, 0)).1 ≡ intrinsic_extent o
same-extent None = refl
same-extent (Some size) = refl

module _ (tree : BoxTree) (page : IsFarPage tree) (w : World) (small : w.s ≤ 256) (narrow : w.w ≤ 16384) (flat : w.h ≤ 16384) where
  abbrev Level : (k : ℕ) (x : BoxNode) → ℕ → Type 0
  Level k x around_it = HasLevel tree page w small narrow flat k x around_it

  abbrev Placed : ℕ → Type 0
  Placed k = IsPlaced tree page w small narrow flat k

  -- a box of the page, with its lengths
  pub record IsBoxOn (k : ℕ) : Type 0 where
    pub x : BoxNode
    pub place : slice_get tree.boxes k ≡ Some x
    pub within : k < length tree.boxes
    pub p : Placed k
    pub v : Level k x p.around_it

  pub box-on : (k : ℕ) → IsOnPage tree.boxes k → ((x : BoxNode) → slice_get tree.boxes k ≡ Some x → has_terms tree page w small narrow flat x.kind ≡ true) → IsBoxOn k
  box-on k on f =
      let l = within-page tree k on in
      let x = slice_some tree.boxes k l in
      let p = placed tree page w small narrow flat k on in
      record { x = x.0; place = x.1; within = l; p = p; v = level-of tree page w small narrow flat k x.0 p.around_it x.1 (f x.0 x.1) }

  -- what is laid out whole has lengths of its own
  whole-terms : (k : ℕ) → is_fragmented (kind_of tree k) ≡ false → (x : BoxNode) → slice_get tree.boxes k ≡ Some x → has_terms tree page w small narrow flat x.kind ≡ true
  whole-terms k e x place = by x.kind (sym (ap is_fragmented (kind-at tree k x place)) ∙ e) (tree.ok.each k x place).no_line
    where
      by : (kind : Kind) → is_fragmented kind ≡ false → is_line kind ≡ false → has_terms tree page w small narrow flat kind ≡ true
      by of_kind.Chars f g = absurd (cc)
      by of_kind.Line f g = absurd (cc)
      by of_kind.Anon f g = refl
      by of_kind.Block f g = refl
      by of_kind.Float f g = refl
      by of_kind.Atomic f g = refl
      by of_kind.Replaced f g = refl
      by of_kind.Inline f g = refl
      by of_kind.Break f g = refl

  inline-terms : (k : ℕ) → is_inline (kind_of tree k) ≡ true → (x : BoxNode) → slice_get tree.boxes k ≡ Some x → has_terms tree page w small narrow flat x.kind ≡ true
  inline-terms k e x place = by x.kind (sym (ap is_inline (kind-at tree k x place)) ∙ e)
    where
      by : (kind : Kind) → is_inline kind ≡ true → has_terms tree page w small narrow flat kind ≡ true
      by of_kind.Chars f = absurd (cc)
      by of_kind.Line f = absurd (cc)
      by of_kind.Anon f = refl
      by of_kind.Block f = refl
      by of_kind.Float f = refl
      by of_kind.Atomic f = refl
      by of_kind.Replaced f = refl
      by of_kind.Inline f = refl
      by of_kind.Break f = refl

  pub whole-on : (k : ℕ) → IsOnPage tree.boxes k → is_fragmented (kind_of tree k) ≡ false → IsBoxOn k
  whole-on k on e = box-on k on (whole-terms k e)

  pub inline-on : (k : ℕ) → IsOnPage tree.boxes k → is_inline (kind_of tree k) ≡ true → IsBoxOn k
  inline-on k on e = box-on k on (inline-terms k e)

  module _ (k : ℕ) (b : IsBoxOn k) where
    abbrev cb : ℤ
    cb = room tree w k

    abbrev most : ℕ
    most = next tree page w small narrow flat k b.x b.p b.v

    pub bounded : (c : ℕ) → c * 2097152 ≤ most → c ≤ 2 ^ 41
    bounded c l =
        let deep = b.p.most in
        let few = page.few_boxes in
        let within = b.within in
        near-most b.p.m (reach_of tree b.x b.p.around_it) c l (omega (arith, deep, few, within)) (reach-low tree page k b.p.around_it b.x b.place b.p.reaches)

    pub edges-bounded : unsigned_abs cb + sides_at tree page.low w small k cb ≤ 2 ^ 41
    edges-bounded = bounded (unsigned_abs cb + sides_at tree page.low w small k cb) (edges-near tree page w small narrow flat k b.x b.p b.v)

    pub width-bounded : (v : ℤ) → own_width tree w k cb ≡ Some v → unsigned_abs v ≤ 2 ^ 41
    width-bounded v e = subst (λ z. unsigned_abs z ≤ 2 ^ 41) (used-of tree page.low w small (width_in (own_style tree k)) cb v e)
        (bounded (unsigned_abs (used tree w (width_in (own_style tree k)) cb)) (width-near tree page w small narrow flat k b.x b.p b.v))

    pub minimum-bounded : unsigned_abs (own_minimum tree w k cb) ≤ 2 ^ 41
    minimum-bounded = bounded (unsigned_abs (own_minimum tree w k cb)) (minimum-near tree page w small narrow flat k b.x b.p b.v)

    -- ---- at all sides

    term-bounded : (l : Length) → IsTerm tree page.low w small b.v.g b.v.o l → unsigned_abs (used tree w l cb) ≤ 2 ^ 42
    term-bounded l i =
        let cost = term-cost tree page.low w small b.v.g b.v.o l cb i in
        let all = bounded (unsigned_abs (used tree w l cb)) (near-once tree page w small narrow flat k b.x b.p b.v (unsigned_abs cb) (unsigned_abs (used tree w l cb)) b.p.room (omega (arith, cost))) in
        omega (arith, all)

    -- the lengths of all edges
    pub record AreEdgesBounded : Type 0 where
      pub padding : AllByRecursion (λ length. unsigned_abs (used tree w length cb) ≤ 2 ^ 42) (sides_of (paddings tree k))
      pub border : AllByRecursion (λ length. unsigned_abs (used tree w length cb) ≤ 2 ^ 42) (sides_of (borders tree k))
      pub margin : AllByRecursion (λ length. unsigned_abs (used tree w length cb) ≤ 2 ^ 42) (sides_of (margins tree k))

    pub sides-bounded : AreEdgesBounded
    sides-bounded =
        let t = b.v.terms in
        record {
          padding = (term-bounded _ t.padding.top, (term-bounded _ t.padding.right, (term-bounded _ t.padding.bottom, (term-bounded _ t.padding.left, tt))));
          border = (term-bounded _ t.border.top, (term-bounded _ t.border.right, (term-bounded _ t.border.bottom, (term-bounded _ t.border.left, tt))));
          margin = (term-bounded _ t.margin.top, (term-bounded _ t.margin.right, (term-bounded _ t.margin.bottom, (term-bounded _ t.margin.left, tt))));
        }

    -- ---- the width of a replaced box

    abbrev tall : ℕ
    tall = unsigned_abs (unwrap_or (given_height tree w k) (pos 0))

    abbrev around : ℕ
    around = unsigned_abs (unwrap_or (definite_height tree w k) (pos 0))

    times-cost : (r g d f i o h c : ℕ) → 1 ≤ r → h * 100000000 ≤ g * d + 100000000 * f + 100000000 → r * (f + i) ≤ o → c ≤ r * (h + i) + 1 → c * 100000000 ≤ g * (d * r) + 100000000 * o + 800000000 * r
    times-cost r g d f i o h c once cost tall l =
        let all : r * (h * 100000000) ≤ r * (g * d + 100000000 * f + 100000000) = mul-le-mul_left r cost in
        omega (arith, once, all, tall, l)

    pub by_height-bounded : unsigned_abs (by_height (intrinsic tree k) (given_height tree w k)) ≤ 2 ^ 41
    by_height-bounded =
        let is : intrinsic tree k ≡ unwrap_or b.x.size (0, 0) = ap (λ (o : Option BoxNode). unwrap_or (option_and_then (λ (y : BoxNode). y.size) o) (0, 0)) b.place in
        let times = ap (λ (size : ℕ × ℕ). ratio (Some size)) is ∙ same-ratio b.x.size in
        let extent = ap (λ (size : ℕ × ℕ). 64 * size.0 + 64 * size.1) is ∙ same-extent b.x.size in
        let r : ℕ = ratio b.x.size in
        let i : ℕ = intrinsic_extent b.x.size in
        let same : ratio (Some (intrinsic tree k)) * (tall + (64 * (intrinsic tree k).0 + 64 * (intrinsic tree k).1)) ≡ ratio b.x.size * (tall + intrinsic_extent b.x.size) = ap (λ n. n * (tall + (64 * (intrinsic tree k).0 + 64 * (intrinsic tree k).1))) times ∙ ap (λ n. ratio b.x.size * (tall + n)) extent in
        let size = by_height-size (intrinsic tree k) (given_height tree w k) (r * (tall + i)) (omega (arith, same)) in
        let term : IsTerm tree page.low w small b.v.g (far tree page.low w small (height_in (own_style tree k))) (height_in (own_style tree k)) = record { part = b.v.terms.height.part; extent = omega arith } in
        let cost = height-cost tree page.low w small b.v.g (far tree page.low w small (height_in (own_style tree k))) (definite_height tree w k) (own_height tree k) term in
        bounded (unsigned_abs (by_height (intrinsic tree k) (given_height tree w k)))
        (near-times tree page w small narrow flat k b.x b.p b.v around (unsigned_abs (by_height (intrinsic tree k) (given_height tree w k))) b.p.definite
        (times-cost r b.v.g around (far tree page.low w small (height_in (own_style tree k))) i b.v.o tall (unsigned_abs (by_height (intrinsic tree k) (given_height tree w k))) (ratio_least b.x.size) cost b.v.tall size))

    pub replaced-bounded : unsigned_abs (replaced_size tree w k cb).width ≤ 2 ^ 41
    replaced-bounded =
        clamped-size (own_maximum tree w k cb) (own_minimum tree w k cb) (unwrap_or (own_width tree w k cb) (by_height (intrinsic tree k) (given_height tree w k))) (2 ^ 41) minimum-bounded
        (either-size (own_width tree w k cb) (by_height (intrinsic tree k) (given_height tree w k)) (2 ^ 41) width-bounded by_height-bounded)

    -- ---- preferred widths

    pub preferred-bounded : is_fragmented (kind_of tree k) ≡ false → (unsigned_abs (preferred tree w k).least ≤ 2 ^ 41) × (unsigned_abs (preferred tree w k).most ≤ 2 ^ 41)
    preferred-bounded e =
        let all = preferred-far tree page w small narrow flat k b.within e in
        let least = all.0 in
        let most = all.1 in
        let total = page.low.total in
        (omega (arith, least, total), omega (arith, most, total))

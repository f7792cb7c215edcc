-- The numbers on the way to the terms of a box across fit, where what its properties give is small.
use Rattle.std.proofs.Common.{◌≡◌, ℕ, ◌^◌, ◌≤◌, Bool, true, false, ℤ, pos, ◌+ℤ◌, ◌-ℤ◌, int_le, unsigned_abs, Option, Some, None, refl, subst, arith}
use Rattle.std.specs.Prelude.{cond, unwrap_or, ◌≤ℤ◌}
use Rattle.std.proofs.lemmas.Int.{ints}
use Rattle.viz_base.specs.declared.layouts.Widths.{Widths}
use Rattle.viz_base.specs.declared.lengths.Length.{Length}
use Rattle.viz_base.specs.declared.lengths.Length.TheVariants as of_length
use Rattle.viz_base.specs.declared.trees.BoxTree.{BoxTree}
use Rattle.viz_base.specs.declared.worlds.World.{World}
use Rattle.viz_calc.specs.State.{AllSmall}
use Rattle.layout_semantics.specs.FlowBoxes.{room}
use Rattle.layout_semantics.specs.Horizontal.{is_auto, left_margin, sum_of, terms_around}
use Rattle.layout_semantics.specs.Lengths.{used, used_unless_auto, own_style, margins}
use Rattle.layout_semantics.specs.Preferred.{preferred}
use Rattle.layout_laws.specs.Terms.{own_maximum, own_minimum}
use Rattle.lay_width.specs.steps.Terms.{around, room_between, below, again}
use Rattle.lay_width.specs.Fitting.{UsedFits, EdgesFit, VerticalsFit, FixedFits, ClampFits, BlockFits, BlockFitsBy, FillingFits, GivenBlockFits, FixedBlockFits, FittedFits, ShrunkFits, sum_way, room_way}
use Rattle.lay_length.proofs.SmallExtents.{IsLowTree}
use Rattle.lay_length.proofs.SmallNumbers.{size-+, size--, size-floor, size-between}
use Rattle.page_limits.specs.Boxes.{AreWidthsSmall}
use Rattle.page_limits.specs.InlineSizes.{AreWidthsBounded}
use Rattle.page_limits.proofs.WidthsTerms.{width_in, room-plain}
use Rattle.page_limits.proofs.FitsLengths.{IsLow, AreLengthsLow, used-fits, most-fits, max_width_in}

-- ---- the terms of a fixed width

sum-way : (t : Widths ℤ) → AreWidthsSmall (2 ^ 42) t → AllSmall (sum_way t) × (unsigned_abs (sum_of t) ≤ 2 ^ 45)
sum-way t l =
    let a = size-+ t.border_right t.margin_right in
    let b = size-+ t.padding_right (t.border_right +ℤ t.margin_right) in
    let c = size-+ t.content (t.padding_right +ℤ (t.border_right +ℤ t.margin_right)) in
    let d = size-+ t.padding_left (t.content +ℤ (t.padding_right +ℤ (t.border_right +ℤ t.margin_right))) in
    let e = size-+ t.border_left (t.padding_left +ℤ (t.content +ℤ (t.padding_right +ℤ (t.border_right +ℤ t.margin_right)))) in
    let f = size-+ t.margin_left (t.border_left +ℤ (t.padding_left +ℤ (t.content +ℤ (t.padding_right +ℤ (t.border_right +ℤ t.margin_right))))) in
    let ml = l.margin_left in
    let bl = l.border_left in
    let pl = l.padding_left in
    let co = l.content in
    let pr = l.padding_right in
    let br = l.border_right in
    let mr = l.margin_right in
    ((omega arith, (omega arith, (omega arith, (omega arith, (omega arith, (omega arith, tt)))))), omega arith)

left-low : (la ra fits : Bool) (left_over given : ℤ) → unsigned_abs left_over ≤ 2 ^ 46 → unsigned_abs given ≤ 2 ^ 42 → unsigned_abs (left_margin la ra fits left_over given) ≤ 2 ^ 47
left-low true true true z g l m = let f = size-floor z 2 (omega arith) in omega (arith, f)
left-low true false true z g l m = omega arith
left-low true true false z g l m = omega arith
left-low true false false z g l m = omega arith
left-low false ra fits z g l m = omega arith

fixed-fits : (la ra : Bool) (t : Widths ℤ) (cb : ℤ) → AreWidthsSmall (2 ^ 42) t → unsigned_abs cb ≤ 2 ^ 42 → FixedFits la ra t cb
fixed-fits la ra t cb l c =
    let ml = l.margin_left in
    let mr = l.margin_right in
    let sum = sum-way t l in
    let whole_sum = sum.1 in
    let rest = size-- cb (sum_of t) in
    let half = size-floor (cb -ℤ sum_of t) 2 (omega arith) in
    let left = left_margin la ra (int_le (sum_of t) cb) (cb -ℤ sum_of t) t.margin_left in
    let left_is = left-low la ra (int_le (sum_of t) cb) (cb -ℤ sum_of t) t.margin_left (omega arith) ml in
    let a = size-- (sum_of t) t.margin_left in
    let b = size-- (sum_of t -ℤ t.margin_left) t.margin_right in
    let d = size-- cb (sum_of t -ℤ t.margin_left -ℤ t.margin_right) in
    let e = size-- (cb -ℤ (sum_of t -ℤ t.margin_left -ℤ t.margin_right)) left in
    (sum.0, ((omega arith, (omega arith, (omega arith, tt))), (omega arith, (omega arith, (omega arith, (omega arith, tt))))))

-- ---- the width that a maximum and a minimum leave

again-low : (most : Option ℤ) (least c v : ℤ) (bound : ℕ) → unsigned_abs c ≤ bound → unsigned_abs least ≤ bound → again most least c ≡ Some v → unsigned_abs v ≤ bound
again-low None least c v bound p q e = by (int_le least c) e
  where
    by : (b : Bool) → cond b None (Some least) ≡ Some v → unsigned_abs v ≤ bound
    by true e = absurd (cc)
    by false e = let same : least ≡ v = cc in subst (λ z. unsigned_abs z ≤ bound) same q
again-low (Some m) least c v bound p q e = by (int_le c m) refl e
  where
    kept : (b : Bool) → int_le least m ≡ b → m ≤ℤ c → cond b (Some m) (Some least) ≡ Some v → unsigned_abs v ≤ bound
    kept true t l e = let same : m ≡ v = cc in subst (λ z. unsigned_abs z ≤ bound) same (size-between least c m bound (omega (arith, ints)) l q p)
    kept false t l e = let same : least ≡ v = cc in subst (λ z. unsigned_abs z ≤ bound) same q

    other : (b : Bool) → cond b None (Some least) ≡ Some v → unsigned_abs v ≤ bound
    other true e = absurd (cc)
    other false e = let same : least ≡ v = cc in subst (λ z. unsigned_abs z ≤ bound) same q

    by : (b : Bool) → int_le c m ≡ b → below least c (cond b None (Some m)) ≡ Some v → unsigned_abs v ≤ bound
    by true t e = other (int_le least c) e
    by false t e = kept (int_le least m) refl (omega (arith, ints)) e

-- ---- the terms of a box in its containing block

module _ (tree : BoxTree) (low : IsLowTree tree) (w : World) (small : w.s ≤ 256) (k : ℕ) (lengths : AreLengthsLow tree low w small (own_style tree k)) (wide : AreWidthsBounded tree w (2 ^ 42) k) where
  abbrev cb : ℤ
  cb = room tree w k

  abbrev edges : Widths ℤ
  edges = terms_around tree w k cb (pos 0)

  pub room-low : unsigned_abs cb ≤ 2 ^ 42
  room-low = let e = wide.edges in omega (arith, e)

  pub length-fits : (l : Length) → IsLow tree low w small l → UsedFits tree w l cb
  length-fits l i = let r = room-low in used-fits tree low w small l cb i (omega (arith, r))

  pub edges-fit : EdgesFit tree w k cb
  edges-fit = (
    length-fits _ lengths.margin.1.1.1.0,
    (
      length-fits _ lengths.border.1.1.1.0,
      (
        length-fits _ lengths.padding.1.1.1.0,
        ((omega arith, tt), (length-fits _ lengths.padding.1.0, (length-fits _ lengths.border.1.0, length-fits _ lengths.margin.1.0))),
      ),
    ),
  )

  pub verticals-fit : VerticalsFit tree w k cb
  verticals-fit = (
    length-fits _ lengths.margin.0,
    (
      length-fits _ lengths.border.0,
      (
        length-fits _ lengths.padding.0,
        (length-fits _ lengths.padding.1.1.0, (length-fits _ lengths.border.1.1.0, length-fits _ lengths.margin.1.1.0)),
      ),
    ),
  )

  pub hold-fits : ClampFits tree w k cb
  hold-fits = let r = room-low in (most-fits tree low w small (max_width_in (own_style tree k)) cb lengths.max_width (omega (arith, r)), length-fits _ lengths.min_width)

  edges-low : (c : ℤ) → unsigned_abs c ≤ 2 ^ 42 → AreWidthsSmall (2 ^ 42) (around edges c)
  edges-low c l =
      let e = wide.edges in
      record {
        margin_left = omega (arith, e);
        border_left = omega (arith, e);
        padding_left = omega (arith, e);
        content = l;
        padding_right = omega (arith, e);
        border_right = omega (arith, e);
        margin_right = omega (arith, e);
      }

  pub fixed-block-fits : (c : ℤ) → unsigned_abs c ≤ 2 ^ 42 → FixedBlockFits tree k edges cb c
  fixed-block-fits c l = fixed-fits (is_auto (margins tree k).left) (is_auto (margins tree k).right) (around edges c) cb (edges-low c l) room-low

  -- what is left between the edges
  between-low : unsigned_abs (room_between edges cb) ≤ 2 ^ 42
  between-low =
      let size = room-plain tree low w small cb edges.margin_left edges.border_left edges.padding_left edges.padding_right edges.border_right edges.margin_right in
      let e = wide.edges in
      omega (arith, size, e)

  least-low : unsigned_abs (own_minimum tree w k cb) ≤ 2 ^ 42
  least-low = let l = wide.least in omega (arith, l)

  again-fits : (c v : ℤ) → unsigned_abs c ≤ 2 ^ 42 → again (own_maximum tree w k cb) (own_minimum tree w k cb) c ≡ Some v → FixedBlockFits tree k edges cb v
  again-fits c v l e = fixed-block-fits v (again-low (own_maximum tree w k cb) (own_minimum tree w k cb) c v (2 ^ 42) l least-low e)

  -- the sum of the edges, and what it leaves
  between-fit : AllSmall (sum_way edges) × AllSmall (room_way edges cb)
  between-fit =
      let sum = sum-way (around edges (pos 0)) (edges-low (pos 0) (omega arith)) in
      let sum_low = sum.1 in
      let rest = size-- cb (sum_of edges) in
      let r = room-low in
      (sum.0, (omega arith, (omega (arith, rest, sum_low, r), tt)))

  -- ---- blocks in normal flow

  filling-fits : FillingFits tree w k cb edges
  filling-fits = (between-fit.0, (between-fit.1, (hold-fits, by (again (own_maximum tree w k cb) (own_minimum tree w k cb) (room_between edges cb)) refl)))
    where
      Again : Option ℤ → Type 0
      Again x = elim x as (λ (_ : Option ℤ). Type 0) [
        | None ↦ FixedFits false false (around edges (room_between edges cb)) cb
        | Some width ↦ FixedBlockFits tree k edges cb width
      ]

      by : (x : Option ℤ) → again (own_maximum tree w k cb) (own_minimum tree w k cb) (room_between edges cb) ≡ x → Again x
      by None e = fixed-fits false false (around edges (room_between edges cb)) cb (edges-low (room_between edges cb) between-low) room-low
      by (Some v) e = again-fits (room_between edges cb) v between-low e

  used-by : (l : Length) → ((v : ℤ) → used_unless_auto tree w l cb ≡ Some v → unsigned_abs v ≤ 2 ^ 42) → unsigned_abs (used tree w l cb) ≤ 2 ^ 42
  used-by of_length.Auto f = omega arith
  used-by (of_length.Px c) f = f _ refl
  used-by (of_length.Em e node) f = f _ refl
  used-by (of_length.Pct p) f = f _ refl

  width-low : unsigned_abs (used tree w (width_in (own_style tree k)) cb) ≤ 2 ^ 42
  width-low = used-by (width_in (own_style tree k)) (λ v e. (let l = wide.width v e in omega (arith, l)))

  given-fits : GivenBlockFits tree w k cb (width_in (own_style tree k)) edges
  given-fits = (length-fits (width_in (own_style tree k)) lengths.width, (hold-fits, by (again (own_maximum tree w k cb) (own_minimum tree w k cb) (used tree w (width_in (own_style tree k)) cb)) refl))
    where
      by : (x : Option ℤ) → again (own_maximum tree w k cb) (own_minimum tree w k cb) (used tree w (width_in (own_style tree k)) cb) ≡ x
          → FixedBlockFits tree k edges cb (unwrap_or x (used tree w (width_in (own_style tree k)) cb))
      by None e = fixed-block-fits (used tree w (width_in (own_style tree k)) cb) width-low
      by (Some v) e = again-fits (used tree w (width_in (own_style tree k)) cb) v width-low e

  pub block-fits : BlockFits tree w k cb
  block-fits = by (is_auto (width_in (own_style tree k)))
    where
      by : (b : Bool) → EdgesFit tree w k cb × BlockFitsBy b tree w k cb edges
      by true = (edges-fit, filling-fits)
      by false = (edges-fit, given-fits)

  -- ---- boxes that shrink to fit

  pub shrunk-fits : ShrunkFits tree w k cb (preferred tree w k)
  shrunk-fits = (edges-fit, (by (width_in (own_style tree k)) refl, hold-fits))
    where
      of_length-fits : (l : Length) → width_in (own_style tree k) ≡ l → UsedFits tree w l cb
      of_length-fits l e = length-fits l (subst (IsLow tree low w small) e lengths.width)

      by : (l : Length) → width_in (own_style tree k) ≡ l → FittedFits tree w l cb (preferred tree w k) edges
      by of_length.Auto e =
          let least = wide.preferred_least in
          let most = wide.preferred_most in
          (between-fit.0, (between-fit.1, (omega (arith, most), (omega (arith, least), tt))))
      by (of_length.Px c) e = of_length-fits (of_length.Px c) e
      by (of_length.Em m node) e = of_length-fits (of_length.Em m node) e
      by (of_length.Pct p) e = of_length-fits (of_length.Pct p) e

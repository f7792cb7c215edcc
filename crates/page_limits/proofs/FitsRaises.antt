-- What is computed of the raises of boxes in lines fits, for each number, of a box or not.
use Rattle.std.proofs.Common.{◌≡◌, ℕ, zero, suc, ◌+◌, ◌*◌, ◌^◌, ◌≤◌, ◌==◌, Bool, true, false, ℤ, pos, ◌+ℤ◌, ◌-ℤ◌, neg_ℤ, unsigned_abs, List, [], ◌∷◌, length, Option, Some, None, slice_get, refl, sym, ap, subst, arith}
use Rattle.std.specs.Option.{option_map_or, option_and_then}
use Rattle.std.proofs.lemmas.Int.{ints}
use Rattle.std.proofs.lemmas.Option.{slice_get_within}
use Rattle.viz_base.specs.FontSizes.{fraction}
use Rattle.viz_base.specs.Numbers.{floor_of}
use Rattle.viz_base.specs.Trees.{valign_nodes}
use Rattle.viz_base.specs.declared.layouts.Band.{Band}
use Rattle.viz_base.specs.declared.layouts.Inner.{Inner}
use Rattle.viz_base.specs.declared.lengths.Valign.{Valign}
use Rattle.viz_base.specs.declared.lengths.Valign.TheVariants as of_valign
use Rattle.viz_base.specs.declared.styles.Style.{Style}
use Rattle.viz_base.specs.declared.trees.BoxNode.{BoxNode}
use Rattle.viz_base.specs.declared.trees.BoxTree.{BoxTree}
use Rattle.viz_base.specs.declared.worlds.World.{World}
use Rattle.viz_calc.specs.State.{AllSmall}
use Rattle.layout_semantics.specs.Blocks.{node_of, parent_of}
use Rattle.layout_semantics.specs.Fonts.{font_size, line_height}
use Rattle.layout_semantics.specs.Lengths.{own_style}
use Rattle.layout_semantics.specs.LineHeights.{InlineContext, LineExtent, height_of_extent, inline_extent, raise, shift_to}
use Rattle.lay_line.specs.Fits.{CentredFits, InlineFits, InlineShiftFits, RaiseFits, ShiftFits, ShiftFits_to, TextShiftFits}
use Rattle.lay_line.specs.steps.Words.{raise_in, raised, inline_raised}
use Rattle.lay_length.proofs.SmallExtents.{IsLowTree, boxed}
use Rattle.lay_length.proofs.SmallNumbers.{size-+, size--, size-floor, size-fraction}
use Rattle.page_limits.proofs.HeightsFonts.{raise_cost, valign_of, box-cost}
use Rattle.page_limits.proofs.FitsEdges.{no-box-style, node-style}
use Rattle.page_limits.proofs.RaisesBoxes.{middle_by, inline-raise, other-raise}
use Rattle.page_limits.proofs.FitsFonts.{IsBoxed, AreBoxed, IsNodeLow, inline-fits, names-boxed, node-low, part-fits, used-way-fits}

-- how far a box reaches above and below its own baseline is not too far
pub record IsExtentLow (e : LineExtent) : Type 0 where
  pub above : unsigned_abs e.above ≤ 2 ^ 72
  pub below : unsigned_abs e.below ≤ 2 ^ 73

-- both together, as its middle counts them
abbrev pub size_of : LineExtent → ℕ
size_of e = 3 * unsigned_abs e.above + unsigned_abs e.below

module _ (tree : BoxTree) (low : IsLowTree tree) (first : IsBoxed tree 0) (w : World) (small : w.s ≤ 256) where
  -- ---- the nodes of boxes

  pub at-boxed : (at : ℕ) → IsBoxed tree (node_of tree at)
  at-boxed at = by (slice_get tree.boxes at) refl
    where
      by : (o : Option BoxNode) → slice_get tree.boxes at ≡ o → IsBoxed tree (node_of tree at)
      by None e = subst (λ (o : Option BoxNode). IsBoxed tree (option_map_or (λ (b : BoxNode). b.node) o 0)) (sym e) first
      by (Some x) e = subst (λ (o : Option BoxNode). IsBoxed tree (option_map_or (λ (b : BoxNode). b.node) o 0)) (sym e) (boxed tree low w small at x e)

  pub at-low : (at : ℕ) → IsNodeLow tree low w small (node_of tree at)
  at-low at = node-low tree low w small (node_of tree at) (at-boxed at)

  -- ---- one raise

  -- the alignment of a box of a node is no farther than it costs, and names nodes that have boxes
  pub record IsRaiseLow (node : ℕ) (v : Valign) : Type 0 where
    pub cost : raise_cost tree low w small node v ≤ 2 ^ 40
    pub names : AreBoxed tree (valign_nodes v)

  baseline-low : (node : ℕ) → IsRaiseLow node of_valign.Baseline
  baseline-low node = record { cost = omega arith; names = refl }

  raise-low : (k : ℕ) → IsRaiseLow (node_of tree k) (valign_of tree low w small k)
  raise-low k = by (slice_get tree.boxes k) refl (own_style tree k) refl
    where
      by : (o : Option BoxNode) → slice_get tree.boxes k ≡ o → (p : Option Style) → own_style tree k ≡ p → IsRaiseLow (node_of tree k) (valign_of tree low w small k)
      by o e None f = subst (λ (p : Option Style). IsRaiseLow (node_of tree k) (option_map_or (λ (s : Style). s.valign) p of_valign.Baseline)) (sym f) (baseline-low (node_of tree k))
      by None e (Some s) f = absurd (no-box-style tree k s e f)
      by (Some x) e (Some s) f =
          let node : node_of tree k ≡ x.node = ap (λ (o : Option BoxNode). option_map_or (λ (b : BoxNode). b.node) o 0) e in
          let there = node-style tree k x s e f in
          let valign : valign_of tree low w small k ≡ s.valign = ap (λ (p : Option Style). option_map_or (λ (s : Style). s.valign) p of_valign.Baseline) f in
          let cost = box-cost tree low w small k x e in
          let names = names-boxed tree low w small x.node s (boxed tree low w small k x e) there in
          subst (λ (n : ℕ). IsRaiseLow n (valign_of tree low w small k)) (sym node)
          (record { cost = omega (arith, cost); names = subst (λ (v : Valign). AreBoxed tree (valign_nodes v)) (sym valign) names.1 })

  -- a box by its middle
  middle-size : (e : LineExtent) (v : Valign) → 2 * unsigned_abs (middle_by tree low w small e v) ≤ size_of e + 2
  middle-size e of_valign.Middle =
      let half = size-floor (height_of_extent e) 2 (omega arith) in
      let two = size-+ e.above e.below in
      let all = size-- (floor_of (height_of_extent e) 2) e.above in
      omega (arith, half, two, all)
  middle-size e of_valign.Baseline = omega arith
  middle-size e of_valign.Sub = omega arith
  middle-size e of_valign.Super = omega arith
  middle-size e (of_valign.Raise l) = omega arith

  module _ (container : ℕ) (inner : List (Option (Inner ℤ))) (cb : Band ℤ) where
    abbrev c : InlineContext
    c = record { tree = tree; world = w; container = container; inner = inner; cb = cb }

    raise-size : (node parent : ℕ) (e : LineExtent) (v : Valign) → IsNodeLow tree low w small node → IsNodeLow tree low w small parent → IsRaiseLow node v → 2 * unsigned_abs (raise c node parent e v) ≤ size_of e + 2 ^ 43
    raise-size node parent e v n p r =
        let rest = other-raise tree low w small container inner cb node parent e v in
        let middle = middle-size e v in
        let own = n.cost in
        let above = p.cost in
        let cost = r.cost in
        by (raise c node parent e v) (middle_by tree low w small e v) _ _ rest middle (omega (arith, own, above, cost))
      where
        by : (x m : ℤ) (a s : ℕ) → unsigned_abs (x -ℤ m) ≤ a → 2 * unsigned_abs m ≤ s + 2 → a ≤ 2 ^ 41 + 2 ^ 40 → 2 * unsigned_abs x ≤ s + 2 ^ 43
        by x m a s l h k = omega (arith, ints, l, h, k)

    centred-fits : (node parent : ℕ) (e : LineExtent) → IsNodeLow tree low w small parent → IsExtentLow e → CentredFits tree w parent e
    centred-fits node parent e p x =
        let fonts = p.fonts in
        let part = size-fraction (pos 1) (font_size tree w parent) 4 (omega arith) in
        let quarter = size-floor (font_size tree w parent) 4 (omega arith) in
        let two = size-+ e.above e.below in
        let half = size-floor (height_of_extent e) 2 (omega arith) in
        let sum = size-+ (floor_of (font_size tree w parent) 4) (floor_of (height_of_extent e) 2) in
        let all = size-- (floor_of (font_size tree w parent) 4 +ℤ floor_of (height_of_extent e) 2) e.above in
        let above = x.above in
        let below = x.below in (
          part-fits tree low w small parent (fraction (pos 1) 4 (font_size tree w parent)) p.boxed (omega (arith, fonts, part)),
          (omega (arith, two, above, below), (omega (arith, two, half, above, below), (omega (arith, fonts, quarter, two, half, sum, above, below), (omega (arith, fonts, quarter, two, half, sum, all, above, below), tt)))),
        )

    raise-fits : (node parent : ℕ) (e : LineExtent) (v : Valign) → IsNodeLow tree low w small node → IsNodeLow tree low w small parent → IsRaiseLow node v → IsExtentLow e → RaiseFits c node parent e v
    unfolding RaiseFits
    raise-fits node parent e of_valign.Baseline n p r x = (omega arith, tt)
    raise-fits node parent e of_valign.Sub n p r x =
        let fonts = p.fonts in
        let part = size-fraction (pos 1) (font_size tree w parent) 5 (omega arith) in
        let own = size-floor (font_size tree w parent) 5 (omega arith) in
        (part-fits tree low w small parent (fraction (pos 1) 5 (font_size tree w parent)) p.boxed (omega (arith, fonts, part)), (omega arith, (minus (floor_of (font_size tree w parent) 5) (omega (arith, fonts, own)), tt)))
      where
        minus : (z : ℤ) → unsigned_abs z ≤ 2 ^ 100 → unsigned_abs (neg_ℤ z) ≤ 2 ^ 100
        minus z l = omega (arith, ints, l)
    raise-fits node parent e of_valign.Super n p r x =
        let fonts = p.fonts in
        let part = size-fraction (pos 1) (font_size tree w parent) 3 (omega arith) in
        part-fits tree low w small parent (fraction (pos 1) 3 (font_size tree w parent)) p.boxed (omega (arith, fonts, part))
    raise-fits node parent e of_valign.Middle n p r x = centred-fits node parent e p x
    raise-fits node parent e (of_valign.Raise l) n p r x =
        let size = inline-raise tree low w small container inner cb node parent (of_valign.Raise l) in
        let own = n.cost in
        let above = p.cost in
        let cost = r.cost in
        (n.line, used-way-fits tree low w small l (line_height tree w node) r.names (omega (arith, size, own, above, cost)))

    -- ---- with those of the boxes around it

    abbrev extent_at : ℕ → LineExtent
    extent_at at = inline_extent tree w (node_of tree at)

    inline-size : (at : ℕ) → size_of (extent_at at) ≤ 2 ^ 44
    inline-size at = let n = at-low at in let above = n.above in let below = n.below in omega (arith, above, below)

    pub inline-low : (at : ℕ) → IsExtentLow (extent_at at)
    inline-low at = let n = at-low at in let above = n.above in let below = n.below in record { above = omega (arith, above); below = omega (arith, below) }

    own-raise : (at parent : ℕ) (e : LineExtent) → 2 * unsigned_abs (raise c (node_of tree at) (node_of tree parent) e (valign_of tree low w small at)) ≤ size_of e + 2 ^ 43
    own-raise at parent e = raise-size (node_of tree at) (node_of tree parent) e (valign_of tree low w small at) (at-low at) (at-low parent) (raise-low at)

    abbrev ShiftBy : ℕ → ℕ → LineExtent → Bool → Option ℕ → ℤ
    ShiftBy n at e b o = elim b as (λ _. ℤ) [
      | true ↦ pos 0
      | false ↦ option_map_or (λ parent. raise c (node_of tree at) (node_of tree parent) e (valign_of tree low w small at) +ℤ shift_to n c parent (extent_at parent)) o (pos 0)
    ]

    sums : (x y : ℤ) (a b m : ℕ) → 2 * unsigned_abs x ≤ a → 2 * unsigned_abs y ≤ b → a + b ≤ m → 2 * unsigned_abs (x +ℤ y) ≤ m
    sums x y a b m h j k = omega (arith, ints, h, j, k)

    shift-size : (n at : ℕ) (e : LineExtent) → 2 * unsigned_abs (shift_to n c at e) ≤ size_of e + n * 2 ^ 46
    unfolding shift_to
    shift-size zero at e = omega arith
    shift-size (suc n) at e = by (at == container) (parent_of tree.boxes at) (λ q. shift-size n q (extent_at q))
      where
        by : (b : Bool) (o : Option ℕ) → ((q : ℕ) → 2 * unsigned_abs (shift_to n c q (extent_at q)) ≤ size_of (extent_at q) + n * 2 ^ 46) → 2 * unsigned_abs (ShiftBy n at e b o) ≤ size_of e + suc n * 2 ^ 46
        by true o again = omega arith
        by false None again = omega arith
        by false (Some q) again =
            let here = own-raise at q e in
            let rest = again q in
            let inline = inline-size q in
            sums (raise c (node_of tree at) (node_of tree q) e (valign_of tree low w small at)) (shift_to n c q (extent_at q)) _ _ (size_of e + suc n * 2 ^ 46) here rest (omega (arith, inline))

    abbrev UpFits : ℕ → ℕ → LineExtent → ℕ → Type 0
    UpFits n at e parent =
        RaiseFits c (node_of tree at) (node_of tree parent) e (valign_of tree low w small at)
        × (InlineFits tree w (node_of tree parent)
        × (ShiftFits_to n c parent (extent_at parent)
        × AllSmall ((raise_in c (node_of tree at) (node_of tree parent) e (valign_of tree low w small at) +ℤ shift_to n c parent (extent_at parent)) ∷ [])))

    abbrev FitsBy : ℕ → ℕ → LineExtent → Bool → Option ℕ → Type 0
    FitsBy n at e b o = elim b as (λ (b : Bool). Type 0) [
      | true ↦ AllSmall (pos 0 ∷ [])
      | false ↦ elim o as (λ (o : Option ℕ). Type 0) [ None ↦ AllSmall (pos 0 ∷ []) | Some parent ↦ UpFits n at e parent ]
    ]

    up-sum : (n at q : ℕ) (e : LineExtent) → n ≤ 16384 → IsExtentLow e → AllSmall ((raise_in c (node_of tree at) (node_of tree q) e (valign_of tree low w small at) +ℤ shift_to n c q (extent_at q)) ∷ [])
    unfolding raise_in
    up-sum n at q e l x =
        let here = own-raise at q e in
        let rest = shift-size n q (extent_at q) in
        let inline = inline-size q in
        let above = x.above in
        let below = x.below in
        let all = sums (raise c (node_of tree at) (node_of tree q) e (valign_of tree low w small at)) (shift_to n c q (extent_at q)) _ _ (2 ^ 90) here rest (omega (arith, inline, above, below, l)) in
        (omega (arith, all), tt)

    shift-fits-to : (n at : ℕ) (e : LineExtent) → n ≤ 16384 → IsExtentLow e → ShiftFits_to n c at e
    unfolding ShiftFits_to
    shift-fits-to zero at e l x = (omega arith, tt)
    shift-fits-to (suc n) at e l x = by (at == container) (parent_of tree.boxes at) (λ q. shift-fits-to n q (extent_at q) (omega (arith, l)) (inline-low q))
      where
        by : (b : Bool) (o : Option ℕ) → ((q : ℕ) → ShiftFits_to n c q (extent_at q)) → FitsBy n at e b o
        by true o again = (omega arith, tt)
        by false None again = (omega arith, tt)
        by false (Some q) again = (
          raise-fits (node_of tree at) (node_of tree q) e (valign_of tree low w small at) (at-low at) (at-low q) (raise-low at) x,
          (inline-fits tree low w small (node_of tree q) (at-low q), (again q, up-sum n at q e (omega (arith, l)) x)),
        )

    -- ---- of each number

    module _ (few : length tree.boxes ≤ 16384) where
      no-parent : (at : ℕ) → slice_get tree.boxes at ≡ None → parent_of tree.boxes at ≡ None
      no-parent at e = ap (option_and_then (λ (b : BoxNode). b.parent)) e

      pub shift-fits : (at : ℕ) (e : LineExtent) → IsExtentLow e → ShiftFits c at e
      unfolding ShiftFits ShiftFits_to
      shift-fits at e x = by (slice_get tree.boxes at) refl
        where
          independent : (b : Bool) → FitsBy at at e b None
          independent true = (omega arith, tt)
          independent false = (omega arith, tt)

          by : (o : Option BoxNode) → slice_get tree.boxes at ≡ o → FitsBy at at e (at == container) (parent_of tree.boxes at)
          by None f = subst (λ (o : Option ℕ). FitsBy at at e (at == container) o) (sym (no-parent at f)) (independent (at == container))
          by (Some b) f = let within = slice_get_within tree.boxes at b f in shift-fits-to (suc at) at e (omega (arith, within, few)) x

      pub shift-low : (at : ℕ) (e : LineExtent) → 2 * unsigned_abs (raised c at e) ≤ size_of e + 2 ^ 61
      unfolding raised shift_to
      shift-low at e = by (slice_get tree.boxes at) refl
        where
          independent : (b : Bool) → 2 * unsigned_abs (ShiftBy at at e b None) ≤ size_of e + 2 ^ 61
          independent true = omega arith
          independent false = omega arith

          by : (o : Option BoxNode) → slice_get tree.boxes at ≡ o → 2 * unsigned_abs (ShiftBy at at e (at == container) (parent_of tree.boxes at)) ≤ size_of e + 2 ^ 61
          by None f = subst (λ (o : Option ℕ). 2 * unsigned_abs (ShiftBy at at e (at == container) o) ≤ size_of e + 2 ^ 61) (sym (no-parent at f)) (independent (at == container))
          by (Some b) f = let within = slice_get_within tree.boxes at b f in let size = shift-size (suc at) at e in omega (arith, within, few, size)

      -- an inline box, and a text
      pub inline-shift-fits : (at : ℕ) → InlineShiftFits c at
      unfolding InlineShiftFits
      inline-shift-fits at = (inline-fits tree low w small (node_of tree at) (at-low at), shift-fits at (extent_at at) (inline-low at))

      pub inline-shift-low : (at : ℕ) → unsigned_abs (inline_raised c at) ≤ 2 ^ 90
      unfolding inline_raised
      inline-shift-low at = let shift = shift-low at (extent_at at) in let size = inline-size at in omega (arith, shift, size)

      pub text-shift-fits : (at : ℕ) → TextShiftFits c at
      unfolding TextShiftFits
      text-shift-fits at = by (parent_of tree.boxes at)
        where
          by : (o : Option ℕ) → elim o as (λ (o : Option ℕ). Type 0) [ None ↦ AllSmall (pos 0 ∷ []) | Some parent ↦ InlineShiftFits c parent ]
          by None = (omega arith, tt)
          by (Some parent) = inline-shift-fits parent

      pub text-shift-low : (at : ℕ) → unsigned_abs (option_map_or (inline_raised c) (parent_of tree.boxes at) (pos 0)) ≤ 2 ^ 90
      text-shift-low at = by (parent_of tree.boxes at)
        where
          by : (o : Option ℕ) → unsigned_abs (option_map_or (inline_raised c) o (pos 0)) ≤ 2 ^ 90
          by None = omega arith
          by (Some parent) = inline-shift-low parent

-- The edges of boxes: rectangles, automatic margins, and what parts margins.
use Rattle.std.specs.Int.{int_max}
use Rattle.std.specs.Ordering.{int_eq}
use Rattle.std.proofs.Common.{◌≡◌, ℕ, zero, suc, ◌<◌, ℤ, pos, negsuc, ◌+ℤ◌, ◌-ℤ◌, ◌≤ℤ◌, Bool, true, false, not, ◌&&◌, ◌||◌, int_le, [], ◌∷◌, length, Option, Some, None, refl, sym, ap, inl, inr, subst, arith}
use Rattle.std.proofs.lemmas.Int.{ints, clamps}
use Rattle.viz_base.specs.Numbers.{floor_of}
use Rattle.viz_base.specs.declared.layouts.Band.{Band}
use Rattle.viz_base.specs.declared.layouts.Widths.{Widths}
use Rattle.viz_base.specs.declared.lengths.Length.{Length}
use Rattle.viz_base.specs.declared.lengths.Length.TheVariants as of_length
use Rattle.viz_base.specs.declared.styles.Align.{Align}
use Rattle.viz_base.specs.declared.styles.Align.TheVariants as of_align
use Rattle.viz_base.specs.declared.styles.Clear.TheVariants as of_clear
use Rattle.viz_base.specs.declared.trees.BoxTree.{BoxTree}
use Rattle.viz_base.specs.declared.worlds.World.{World}
use Rattle.layout_semantics.specs.DefiniteHeights.{counts_as_auto, has_auto_height, has_no_minimum, is_definite, least_height, own_height}
use Rattle.layout_semantics.specs.FlowBoxes.{clear_of, is_context_root, is_replaced_at, is_open_above, is_open_below, may_collapse_through, joins_last_child}
use Rattle.layout_semantics.specs.Horizontal.{block_flow, replaced_block, widths, sum_of, terms_around, block_terms, fixed_terms, left_margin, with_margins, is_auto}
use Rattle.layout_semantics.specs.InlineContent.{is_zero, has_line}
use Rattle.layout_semantics.specs.Leads.{lead, lead_to, top_margin}
use Rattle.layout_semantics.specs.Lengths.{borders, paddings, margins, used}
use Rattle.layout_semantics.specs.LineFilling.{band_width}
use Rattle.layout_semantics.specs.Lines.{aligned}
use Rattle.layout_semantics.specs.Rectangles.{Frame, placed_box}
use Rattle.layout_semantics.specs.Replaced.{replaced_size}
use Rattle.layout_laws.specs.Edges.{HasEdges, IsNonzero}
use Rattle.layout_laws.specs.Terms.{IsInFlowBlock, own_width, own_maximum, own_minimum}
use Rattle.layout_laws.proofs.HorizontalTerms.{widths-placed, clamped-any}

-- ---- rectangles

pub edges_of : (tree : BoxTree) (b : ℕ) (f : Frame) (height : ℤ) → HasEdges f.x f.v height (placed_box tree b f height)
edges_of tree b f height = record {
  margin_left = omega (arith, ints);
  margin_top = omega (arith, ints);
  margin_right = refl;
  margin_bottom = refl;
  border_left = refl;
  border_top = refl;
  border_right = omega (arith, ints);
  border_bottom = omega (arith, ints);
  padding_left = omega (arith, ints);
  padding_top = omega (arith, ints);
  padding_right = omega (arith, ints);
  padding_bottom = omega (arith, ints);
  width = omega (arith, ints);
  height = omega (arith, ints);
}

-- ---- automatic margins

-- the smaller and the greater half
pub half : (x : ℤ) → pos 0 ≤ℤ x → (floor_of x 2 ≤ℤ (x -ℤ floor_of x 2)) × ((x -ℤ floor_of x 2) ≤ℤ (floor_of x 2 +ℤ pos 1))
half (pos a) h = (omega (arith, ints), omega (arith, ints))
half (negsuc a) h = absurd (omega (arith, ints))

-- they differ by one at most, where the right one is not negative
abbrev pub Halved : Widths ℤ → Type 0
Halved t = pos 0 ≤ℤ t.margin_right → (t.margin_left ≤ℤ t.margin_right) × (t.margin_right ≤ℤ (t.margin_left +ℤ pos 1))

halved : (t : Widths ℤ) (cb : ℤ) (a b fits : Bool) → a ≡ true → b ≡ true → int_le (sum_of t) cb ≡ fits → t.margin_left ≡ pos 0 → t.margin_right ≡ pos 0
    → Halved (with_margins t cb (left_margin a b fits (cb -ℤ sum_of t) t.margin_left))
halved t cb true true true p q e l r h = let x = half (cb -ℤ sum_of t) (omega (arith, ints)) in (omega (arith, ints, x.0), omega (arith, ints, x.1))
halved t cb true true false p q e l r h = absurd (omega (arith, ints))
halved t cb false b fits p q e l r h = absurd (cc)
halved t cb true false fits p q e l r h = absurd (cc)

module _ (tree : BoxTree) (w : World) (at : ℕ) (left : (margins tree at).left ≡ of_length.Auto) (right : (margins tree at).right ≡ of_length.Auto) (cb : ℤ) where
  none_at_left : used tree w (margins tree at).left cb ≡ pos 0
  none_at_left = ap (λ (l : Length). used tree w l cb) left

  none_at_right : used tree w (margins tree at).right cb ≡ pos 0
  none_at_right = ap (λ (l : Length). used tree w l cb) right

  fixed-halved : (width : ℤ) → Halved (fixed_terms tree w at cb width)
  fixed-halved width = halved (terms_around tree w at cb width) cb _ _ _ (ap is_auto left) (ap is_auto right) refl none_at_left none_at_right

  auto-halved : Halved (block_terms tree w at cb None)
  auto-halved h =
      let l = none_at_left in
      let r = none_at_right in
      (omega (arith, ints, clamps, l, r), omega (arith, ints, clamps, l, r))

  terms-halved : (width : Option ℤ) → Halved (block_terms tree w at cb width)
  terms-halved None = auto-halved
  terms-halved (Some width) = fixed-halved width

  pub block-halved : IsInFlowBlock tree at → Halved (widths tree w at cb)
  block-halved (inl e) =
      subst Halved (sym (widths-placed tree w at cb block_flow e)) (clamped-any Halved (block_terms tree w at cb) (own_maximum tree w at cb) (own_minimum tree w at cb) (own_width tree w at cb) terms-halved)
  block-halved (inr e) = subst Halved (sym (widths-placed tree w at cb replaced_block e)) (fixed-halved (replaced_size tree w at cb).width)

-- ---- what parts margins

last_false : (a b c d : Bool) → d ≡ false → (a && b && c && d) ≡ false
last_false true true true d e = e
last_false true true false d e = refl
last_false true false c d e = refl
last_false false b c d e = refl

third_false : (a b c d : Bool) → c ≡ false → (a && b && c && d) ≡ false
third_false true true c d e = rw e refl
third_false true false c d e = refl
third_false false b c d e = refl

closed_by_border : (tree : BoxTree) (b : ℕ) → is_zero (borders tree b).top ≡ false → is_open_above tree b ≡ false
unfolding is_open_above
closed_by_border tree b e = third_false (not (is_context_root tree b)) (not (is_replaced_at tree b)) (is_zero (borders tree b).top) (is_zero (paddings tree b).top) e

closed_by_padding : (tree : BoxTree) (b : ℕ) → is_zero (paddings tree b).top ≡ false → is_open_above tree b ≡ false
unfolding is_open_above
closed_by_padding tree b e = last_false (not (is_context_root tree b)) (not (is_replaced_at tree b)) (is_zero (borders tree b).top) (is_zero (paddings tree b).top) e

parted : (tree : BoxTree) (w : World) (levels : ℕ) (passed : ℕ → Bool) (cb : Band ℤ) (b : ℕ) → 0 < levels → clear_of tree b ≡ of_clear.Nothing → is_open_above tree b ≡ false
    → (lead_to tree w levels passed cb b).margins ≡ top_margin tree w cb b ∷ []
unfolding lead_to
parted tree w zero passed cb b l c o = absurd (omega arith)
parted tree w (suc levels) passed cb b l c o = rw c (rw o refl)

module _ (tree : BoxTree) (w : World) (b : ℕ) (within : b < length tree.boxes) (clear : clear_of tree b ≡ of_clear.Nothing) (passed : ℕ → Bool) (cb : Band ℤ) where
  pub border-parts : is_zero (borders tree b).top ≡ false → (lead tree w passed cb b).margins ≡ top_margin tree w cb b ∷ []
  border-parts e = parted tree w (length tree.boxes) passed cb b (omega arith) clear (closed_by_border tree b e)

  pub padding-parts : is_zero (paddings tree b).top ≡ false → (lead tree w passed cb b).margins ≡ top_margin tree w cb b ∷ []
  padding-parts e = parted tree w (length tree.boxes) passed cb b (omega arith) clear (closed_by_padding tree b e)

-- ---- minimum heights

not_zero : (definite : Bool) (l : Length) → IsNonzero l → (counts_as_auto definite l || is_zero l) ≡ false
not_zero definite (of_length.Px c) some = let zero : int_eq c (pos 0) ≡ false = grind (arith, ints) in zero
not_zero definite (of_length.Em k node) some = let zero : int_eq k (pos 0) ≡ false = grind (arith, ints) in zero
not_zero definite of_length.Auto some = absurd some
not_zero definite (of_length.Pct p) some = absurd some

has_minimum : (tree : BoxTree) (b : ℕ) → IsNonzero (least_height tree b) → has_no_minimum tree b ≡ false
unfolding has_no_minimum
has_minimum tree b m = not_zero (is_definite tree b) (least_height tree b) m

last_of_three : (a b c : Bool) → c ≡ false → (a && b && c) ≡ false
last_of_three true true c e = e
last_of_three true false c e = refl
last_of_three false b c e = refl

third_of_five : (a b c d e : Bool) → c ≡ false → (a && b && c && d && e) ≡ false
third_of_five true true c d e f = rw f refl
third_of_five true false c d e f = refl
third_of_five false b c d e f = refl

pub minimum-apart : (tree : BoxTree) (b : ℕ) → IsNonzero (least_height tree b) → may_collapse_through tree b ≡ false
unfolding may_collapse_through
minimum-apart tree b m = third_of_five (is_open_above tree b) (is_open_below tree b) (has_no_minimum tree b) (has_auto_height tree b || is_zero (own_height tree b)) (not (has_line tree b)) (has_minimum tree b m)

pub minimum-keeps : (tree : BoxTree) (b : ℕ) → IsNonzero (least_height tree b) → joins_last_child tree b ≡ false
unfolding joins_last_child
minimum-keeps tree b m = last_of_three (is_open_below tree b) (has_auto_height tree b) (has_no_minimum tree b) (has_minimum tree b m)

-- ---- the middle of a line

pub centred : (a : Align) (room : Band ℤ) (held : ℤ) → a ≡ of_align.Center → (room.left +ℤ held) ≤ℤ room.right
    → (((room.left +ℤ aligned a (band_width room -ℤ held)) -ℤ room.left) ≤ℤ (room.right -ℤ ((room.left +ℤ aligned a (band_width room -ℤ held)) +ℤ held)))
    × ((room.right -ℤ ((room.left +ℤ aligned a (band_width room -ℤ held)) +ℤ held)) ≤ℤ (((room.left +ℤ aligned a (band_width room -ℤ held)) -ℤ room.left) +ℤ pos 1))
centred a room held e h =
    let x = half (int_max (pos 0) (band_width room -ℤ held)) (omega (arith, ints, clamps)) in
    rw e (omega (arith, ints, clamps, x.0), omega (arith, ints, clamps, x.1))

use Rattle.std.proofs.Common.{◌≡◌, ℕ, ℤ, ◌-ℤ◌, Bool, true, false, int_le, Option, Some, None, refl, ◌∙◌, ap, inl, inr, arith}
use Rattle.std.specs.Int.{int_min}
use Rattle.std.specs.Option.{option_map_or}
use Rattle.std.proofs.lemmas.Int.{ints, clamps}
use Rattle.viz_base.specs.declared.layouts.Widths.{Widths}
use Rattle.viz_base.specs.declared.trees.BoxTree.{BoxTree}
use Rattle.viz_base.specs.declared.worlds.World.{World}
use Rattle.layout_semantics.specs.Lengths.{clamped, margins}
use Rattle.layout_semantics.specs.Replaced.{replaced_size}
use Rattle.layout_semantics.specs.Horizontal.{Placing, block_flow, shrunk, replaced_block, replaced_shrunk, placing_of, flow_widths, widths, sum_of, with_margins, terms_around, block_terms, shrunk_terms, fixed_terms, clamped_terms, at_most, at_least, again_unless, available, left_margin, is_auto}
use Rattle.layout_laws.specs.Terms.{IsInFlowBlock, own_width, own_maximum, own_minimum, clamped_width}

-- ---- by the placing of a box

abbrev of_placing : BoxTree → World → ℕ → ℤ → Placing → Widths ℤ
of_placing tree w at cb p = elim p [
  | block_flow ↦ flow_widths tree w at cb
  | shrunk ↦ clamped_terms tree w at cb (shrunk_terms tree w at cb)
  | replaced_block ↦ fixed_terms tree w at cb (replaced_size tree w at cb).width
  | replaced_shrunk ↦ terms_around tree w at cb (replaced_size tree w at cb).width
]

pub widths-placed : (tree : BoxTree) (w : World) (at : ℕ) (cb : ℤ) (p : Placing) → placing_of tree at ≡ p → widths tree w at cb ≡ of_placing tree w at cb p
unfolding widths
widths-placed tree w at cb p e = ap (of_placing tree w at cb) e

-- ---- the sum

with_margins-sum : (t : Widths ℤ) (cb left : ℤ) → sum_of (with_margins t cb left) ≡ cb
with_margins-sum t cb left = omega (arith, ints)

fixed-sum : (tree : BoxTree) (w : World) (at : ℕ) (cb width : ℤ) → sum_of (fixed_terms tree w at cb width) ≡ cb
fixed-sum tree w at cb width = let t = terms_around tree w at cb width in with_margins-sum t cb (left_margin (is_auto (margins tree at).left) (is_auto (margins tree at).right) (int_le (sum_of t) cb) (cb -ℤ sum_of t) t.margin_left)

terms-sum : (tree : BoxTree) (w : World) (at : ℕ) (cb : ℤ) (width : Option ℤ) → sum_of (block_terms tree w at cb width) ≡ cb
terms-sum tree w at cb None = with_margins-sum (terms_around tree w at cb (available tree w at cb)) cb (terms_around tree w at cb (available tree w at cb)).margin_left
terms-sum tree w at cb (Some width) = fixed-sum tree w at cb width

-- what holds of all terms holds of those that are clamped
again-any : (P : Widths ℤ → Type 0) (b : Bool) (terms : Option ℤ → Widths ℤ) (width : ℤ) (t : Widths ℤ) → ((o : Option ℤ) → P (terms o)) → P t → P (again_unless b terms width t)
again-any P true terms width t all one = one
again-any P false terms width t all one = all (Some width)

most-any : (P : Widths ℤ → Type 0) (terms : Option ℤ → Widths ℤ) (most : Option ℤ) (t : Widths ℤ) → ((o : Option ℤ) → P (terms o)) → P t → P (at_most terms most t)
most-any P terms None t all one = one
most-any P terms (Some most) t all one = again-any P (int_le t.content most) terms most t all one

pub clamped-any : (P : Widths ℤ → Type 0) (terms : Option ℤ → Widths ℤ) (most : Option ℤ) (least : ℤ) (o : Option ℤ) → ((o : Option ℤ) → P (terms o)) → P (at_least terms least (at_most terms most (terms o)))
clamped-any P terms most least o all = again-any P (int_le least (at_most terms most (terms o)).content) terms least (at_most terms most (terms o)) all (most-any P terms most (terms o) all (all o))

pub block-sum : (tree : BoxTree) (w : World) (at : ℕ) (cb : ℤ) → IsInFlowBlock tree at → sum_of (widths tree w at cb) ≡ cb
block-sum tree w at cb (inl e) =
    ap sum_of (widths-placed tree w at cb block_flow e) ∙ clamped-any (λ t. sum_of t ≡ cb) (block_terms tree w at cb) (own_maximum tree w at cb) (own_minimum tree w at cb) (own_width tree w at cb) (terms-sum tree w at cb)
block-sum tree w at cb (inr e) = ap sum_of (widths-placed tree w at cb replaced_block e) ∙ fixed-sum tree w at cb (replaced_size tree w at cb).width

-- ---- the width

most-content : (terms : Option ℤ → Widths ℤ) (most : Option ℤ) (t : Widths ℤ) → ((width : ℤ) → (terms (Some width)).content ≡ width) → (at_most terms most t).content ≡ option_map_or (int_min t.content) most t.content
most-content terms None t of = refl
most-content terms (Some most) t of = by (int_le t.content most) refl
  where
    by : (b : Bool) → int_le t.content most ≡ b → (again_unless b terms most t).content ≡ int_min t.content most
    by true e = omega (arith, ints, clamps)
    by false e = let same = of most in omega (arith, ints, clamps)

clamped-content : (terms : Option ℤ → Widths ℤ) (most : Option ℤ) (least : ℤ) (t : Widths ℤ) → ((width : ℤ) → (terms (Some width)).content ≡ width) → (at_least terms least (at_most terms most t)).content ≡ clamped most least t.content
clamped-content terms most least t of = by (int_le least (at_most terms most t).content) refl (most-content terms most t of)
  where
    by : (b : Bool) → int_le least (at_most terms most t).content ≡ b → (at_most terms most t).content ≡ option_map_or (int_min t.content) most t.content → (again_unless b terms least (at_most terms most t)).content ≡ clamped most least t.content
    by true e m = omega (arith, ints, clamps)
    by false e m = let same = of least in omega (arith, ints, clamps)

pub block-clamped : (tree : BoxTree) (w : World) (at : ℕ) (cb : ℤ) → placing_of tree at ≡ block_flow
    → (widths tree w at cb).content ≡ clamped_width tree w at cb (block_terms tree w at cb (own_width tree w at cb)).content
block-clamped tree w at cb e =
    ap (λ (t : Widths ℤ). t.content) (widths-placed tree w at cb block_flow e)
    ∙ clamped-content (block_terms tree w at cb) (own_maximum tree w at cb) (own_minimum tree w at cb) (block_terms tree w at cb (own_width tree w at cb)) (λ width. refl)

pub shrunk-clamped : (tree : BoxTree) (w : World) (at : ℕ) (cb : ℤ) → placing_of tree at ≡ shrunk
    → (widths tree w at cb).content ≡ clamped_width tree w at cb (shrunk_terms tree w at cb (own_width tree w at cb)).content
shrunk-clamped tree w at cb e =
    ap (λ (t : Widths ℤ). t.content) (widths-placed tree w at cb shrunk e)
    ∙ clamped-content (shrunk_terms tree w at cb) (own_maximum tree w at cb) (own_minimum tree w at cb) (shrunk_terms tree w at cb (own_width tree w at cb)) (λ width. refl)

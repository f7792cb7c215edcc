-- The terms of a box are computed again at most once: with the width that its maximum and its minimum leave.
use Rattle.std.proofs.Common.{◌≡◌, ℕ, ℤ, pos, Bool, true, false, int_le, Option, Some, None, refl, sym, ◌∙◌, ap, subst, arith}
use Rattle.std.specs.Prelude.{cond, unwrap_or}
use Rattle.std.specs.Int.{int_min}
use Rattle.std.specs.Option.{option_map_or}
use Rattle.std.proofs.lemmas.Grind.{common_steps}
use Rattle.viz_base.specs.declared.layouts.Preferred.{Preferred}
use Rattle.viz_base.specs.declared.layouts.Widths.{Widths}
use Rattle.viz_base.specs.declared.lengths.Length.{Length}
use Rattle.viz_base.specs.declared.lengths.Length.TheVariants as of_length
use Rattle.viz_base.specs.declared.trees.BoxTree.{BoxTree}
use Rattle.viz_base.specs.declared.worlds.World.{World}
use Rattle.layout_semantics.specs.Lengths.{used, used_unless_auto, margins}
use Rattle.layout_semantics.specs.Horizontal.{is_auto, terms_around, fixed_terms, auto_terms, block_terms, shrunk_terms, clamped_terms, at_most, at_least, again_unless, shrink_to_fit, available}
use Rattle.layout_semantics.specs.Preferred.{preferred}
use Rattle.layout_laws.specs.Terms.{own_width, own_maximum, own_minimum}
use Rattle.lay_width.specs.Fitting.{own_width_of, FillingFits, FixedFits, FixedBlockFits}
use Rattle.lay_width.specs.steps.Terms.{around, room_between, fixed_around, below, again, clamped_again, filled_block, given_block, fitted_by}

floor-again : (terms : Option ℤ → Widths ℤ) (least : ℤ) (t : Widths ℤ) (b : Bool) → again_unless b terms least t ≡ option_map_or (λ x. terms (Some x)) (cond b None (Some least)) t
floor-again terms least t true = refl
floor-again terms least t false = refl

two-again : (terms : Option ℤ → Widths ℤ) (m least : ℤ) (t : Widths ℤ) (b : Bool) → again_unless b terms least (terms (Some m)) ≡ option_map_or (λ x. terms (Some x)) (cond b (Some m) (Some least)) t
two-again terms m least t true = refl
two-again terms m least t false = refl

cap-again : (terms : Option ℤ → Widths ℤ) (m least : ℤ) (t : Widths ℤ) → ((x : ℤ) → (terms (Some x)).content ≡ x) → (b : Bool)
    → at_least terms least (again_unless b terms m t) ≡ option_map_or (λ x. terms (Some x)) (below least t.content (cond b None (Some m))) t
cap-again terms m least t same true = floor-again terms least t (int_le least t.content)
cap-again terms m least t same false =
    ap (λ c. again_unless (int_le least c) terms least (terms (Some m))) (same m) ∙ two-again terms m least t (int_le least m)

pub terms-again : (terms : Option ℤ → Widths ℤ) (most : Option ℤ) (least : ℤ) (t : Widths ℤ) → ((x : ℤ) → (terms (Some x)).content ≡ x)
    → at_least terms least (at_most terms most t) ≡ option_map_or (λ x. terms (Some x)) (again most least t.content) t
terms-again terms None least t same = floor-again terms least t (int_le least t.content)
terms-again terms (Some m) least t same = cap-again terms m least t same (int_le t.content m)

-- where the width is given, the terms are those of the clamped one
given-again : (terms : Option ℤ → Widths ℤ) (most : Option ℤ) (least x : ℤ) → ((x : ℤ) → (terms (Some x)).content ≡ x)
    → at_least terms least (at_most terms most (terms (Some x))) ≡ terms (Some (unwrap_or (again most least x) x))
given-again terms most least x same =
    terms-again terms most least (terms (Some x)) same
    ∙ ap (λ c. option_map_or (λ y. terms (Some y)) (again most least c) (terms (Some x))) (same x)
    ∙ by (again most least x)
  where
    by : (o : Option ℤ) → option_map_or (λ y. terms (Some y)) o (terms (Some x)) ≡ terms (Some (unwrap_or o x))
    by None = refl
    by (Some y) = refl

-- ---- lengths

auto-none : (tree : BoxTree) (w : World) (length : Length) (cb : ℤ) → is_auto length ≡ true → used_unless_auto tree w length cb ≡ None
auto-none tree w of_length.Auto cb e = refl
auto-none tree w (of_length.Px c) cb e = absurd (cc)
auto-none tree w (of_length.Em k node) cb e = absurd (cc)
auto-none tree w (of_length.Pct p) cb e = absurd (cc)

given-some : (tree : BoxTree) (w : World) (length : Length) (cb : ℤ) → is_auto length ≡ false → used_unless_auto tree w length cb ≡ Some (used tree w length cb)
given-some tree w of_length.Auto cb e = absurd (cc)
given-some tree w (of_length.Px c) cb e = refl
given-some tree w (of_length.Em k node) cb e = refl
given-some tree w (of_length.Pct p) cb e = refl

-- ---- blocks in normal flow

pub block-given : (tree : BoxTree) (w : World) (at : ℕ) (cb x : ℤ) → own_width tree w at cb ≡ Some x
    → clamped_terms tree w at cb (block_terms tree w at cb) ≡ fixed_terms tree w at cb (clamped_again tree w at cb x)
block-given tree w at cb x e =
    ap (λ o. at_least (block_terms tree w at cb) (own_minimum tree w at cb) (at_most (block_terms tree w at cb) (own_maximum tree w at cb) (block_terms tree w at cb o))) e
    ∙ given-again (block_terms tree w at cb) (own_maximum tree w at cb) (own_minimum tree w at cb) x (λ y. refl)

pub block-filling : (tree : BoxTree) (w : World) (at : ℕ) (cb : ℤ) → own_width tree w at cb ≡ None
    → clamped_terms tree w at cb (block_terms tree w at cb) ≡ filled_block tree w at cb (terms_around tree w at cb (pos 0))
block-filling tree w at cb e =
    ap (λ o. at_least (block_terms tree w at cb) (own_minimum tree w at cb) (at_most (block_terms tree w at cb) (own_maximum tree w at cb) (block_terms tree w at cb o))) e
    ∙ terms-again (block_terms tree w at cb) (own_maximum tree w at cb) (own_minimum tree w at cb) (auto_terms tree w at cb) (λ y. refl)
    ∙ by (again (own_maximum tree w at cb) (own_minimum tree w at cb) (available tree w at cb))
  where
    filled : Option ℤ → Widths ℤ
    filled o = elim o [ None ↦ auto_terms tree w at cb | Some x ↦ fixed_terms tree w at cb x ]

    by : (o : Option ℤ) → option_map_or (λ x. block_terms tree w at cb (Some x)) o (auto_terms tree w at cb) ≡ filled o
    by None = refl
    by (Some x) = refl

pub block-auto : (tree : BoxTree) (w : World) (at : ℕ) (cb : ℤ) → is_auto (own_width_of tree at) ≡ true
    → clamped_terms tree w at cb (block_terms tree w at cb) ≡ filled_block tree w at cb (terms_around tree w at cb (pos 0))
block-auto tree w at cb e = block-filling tree w at cb (auto-none tree w (own_width_of tree at) cb e)

pub block-length : (tree : BoxTree) (w : World) (at : ℕ) (cb : ℤ) → is_auto (own_width_of tree at) ≡ false
    → clamped_terms tree w at cb (block_terms tree w at cb) ≡ given_block tree w at cb (own_width_of tree at) (terms_around tree w at cb (pos 0))
block-length tree w at cb e = block-given tree w at cb (used tree w (own_width_of tree at) cb) (given-some tree w (own_width_of tree at) cb e)

-- ---- floats and inline-blocks

pub shrunk-given : (tree : BoxTree) (w : World) (at : ℕ) (cb x : ℤ) → own_width tree w at cb ≡ Some x
    → clamped_terms tree w at cb (shrunk_terms tree w at cb) ≡ terms_around tree w at cb (clamped_again tree w at cb x)
shrunk-given tree w at cb x e =
    ap (λ o. at_least (shrunk_terms tree w at cb) (own_minimum tree w at cb) (at_most (shrunk_terms tree w at cb) (own_maximum tree w at cb) (shrunk_terms tree w at cb o))) e
    ∙ given-again (shrunk_terms tree w at cb) (own_maximum tree w at cb) (own_minimum tree w at cb) x (λ y. refl)

pub shrunk-fitted : (tree : BoxTree) (w : World) (at : ℕ) (cb : ℤ) → own_width tree w at cb ≡ None
    → clamped_terms tree w at cb (shrunk_terms tree w at cb)
    ≡ terms_around tree w at cb (clamped_again tree w at cb (shrink_to_fit (preferred tree w at) (available tree w at cb)))
shrunk-fitted tree w at cb e =
    ap (λ o. at_least (shrunk_terms tree w at cb) (own_minimum tree w at cb) (at_most (shrunk_terms tree w at cb) (own_maximum tree w at cb) (shrunk_terms tree w at cb o))) e
    ∙ given-again (shrunk_terms tree w at cb) (own_maximum tree w at cb) (own_minimum tree w at cb) (shrink_to_fit (preferred tree w at) (available tree w at cb)) (λ y. refl)

pub shrunk-by : (tree : BoxTree) (w : World) (at : ℕ) (cb : ℤ)
    → clamped_terms tree w at cb (shrunk_terms tree w at cb)
    ≡ around (terms_around tree w at cb (pos 0)) (clamped_again tree w at cb (fitted_by tree w (own_width_of tree at) cb (preferred tree w at) (terms_around tree w at cb (pos 0))))
shrunk-by tree w at cb = by (own_width_of tree at) refl
  where
    by : (length : Length) → own_width_of tree at ≡ length
        → clamped_terms tree w at cb (shrunk_terms tree w at cb)
        ≡ around (terms_around tree w at cb (pos 0)) (clamped_again tree w at cb (fitted_by tree w length cb (preferred tree w at) (terms_around tree w at cb (pos 0))))
    by of_length.Auto e = shrunk-fitted tree w at cb (ap (λ (l : Length). used_unless_auto tree w l cb) e)
    by (of_length.Px c) e = shrunk-given tree w at cb (used tree w (of_length.Px c) cb) (ap (λ (l : Length). used_unless_auto tree w l cb) e)
    by (of_length.Em k node) e = shrunk-given tree w at cb (used tree w (of_length.Em k node) cb) (ap (λ (l : Length). used_unless_auto tree w l cb) e)
    by (of_length.Pct p) e = shrunk-given tree w at cb (used tree w (of_length.Pct p) cb) (ap (λ (l : Length). used_unless_auto tree w l cb) e)

-- ---- a block whose width is what is left

-- its terms, and what has to fit for them, by the width that they are computed again with
abbrev filled_by : BoxTree → ℕ → ℤ → Widths ℤ → Option ℤ → Widths ℤ
filled_by tree at cb edges o = elim o [
  | None ↦ fixed_around false false (around edges (room_between edges cb)) cb
  | Some x ↦ fixed_around (is_auto (margins tree at).left) (is_auto (margins tree at).right) (around edges x) cb
]

abbrev FilledFits : BoxTree → ℕ → ℤ → Widths ℤ → Option ℤ → Type 0
FilledFits tree at cb edges o = elim o as (λ (o : Option ℤ). Type 0) [
  | None ↦ FixedFits false false (around edges (room_between edges cb)) cb
  | Some x ↦ FixedBlockFits tree at edges cb x
]

pub filled-again : (tree : BoxTree) (w : World) (at : ℕ) (cb : ℤ) (edges : Widths ℤ) (width : ℤ) (o : Option ℤ)
    → width ≡ room_between edges cb → o ≡ again (own_maximum tree w at cb) (own_minimum tree w at cb) width
    → filled_by tree at cb edges o ≡ filled_block tree w at cb edges
filled-again tree w at cb edges width o r e =
    ap (filled_by tree at cb edges) (e ∙ ap (again (own_maximum tree w at cb) (own_minimum tree w at cb)) r)

pub filled-fits : (tree : BoxTree) (w : World) (at : ℕ) (cb : ℤ) (edges : Widths ℤ) (width : ℤ) (o : Option ℤ)
    → width ≡ room_between edges cb → o ≡ again (own_maximum tree w at cb) (own_minimum tree w at cb) width
    → FillingFits tree w at cb edges → FilledFits tree at cb edges o
filled-fits tree w at cb edges width o r e f =
    subst (FilledFits tree at cb edges) (sym (e ∙ ap (again (own_maximum tree w at cb) (own_minimum tree w at cb)) r)) f.1.1.1

-- ---- a width that shrinks to fit

pub fit-most : (p : Preferred ℤ) (room : ℤ) → true ≡ int_le p.most room → p.most ≡ shrink_to_fit p room
fit-most p room e = grind (arith, common_steps)

pub fit-room : (p : Preferred ℤ) (room : ℤ) → false ≡ int_le p.most room → true ≡ int_le p.least room → room ≡ shrink_to_fit p room
fit-room p room e f = grind (arith, common_steps)

pub fit-least : (p : Preferred ℤ) (room : ℤ) → false ≡ int_le p.most room → false ≡ int_le p.least room → int_min p.least p.most ≡ shrink_to_fit p room
fit-least p room e f = grind (arith, common_steps)

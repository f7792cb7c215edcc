-- A box with its edges, by whether its `width` says how wide it is.
use Rattle.std.proofs.Common.{◌≡◌, ℕ, ℤ, ◌+ℤ◌, Bool, true, false, unwrap_or, refl, sym, ap, ◌∙◌}
use Rattle.std.specs.Prelude.{◌&&◌}
use Rattle.viz_base.specs.declared.layouts.Preferred.{Preferred}
use Rattle.viz_base.specs.declared.lengths.Length.{Length}
use Rattle.viz_base.specs.declared.lengths.Length.TheVariants as of_length
use Rattle.viz_base.specs.declared.trees.BoxTree.{BoxTree}
use Rattle.viz_base.specs.declared.trees.Kind.{Kind}
use Rattle.viz_base.specs.declared.trees.Kind.TheVariants as of_kind
use Rattle.viz_base.specs.declared.worlds.World.{World}
use Rattle.layout_semantics.specs.Blocks.{kind_of}
use Rattle.layout_semantics.specs.Lengths.{used_if_absolute}
use Rattle.layout_semantics.specs.Preferred.{absolute_part, outer_edges, clamped_absolute, outer_width, preferred}
use Rattle.lay_width.specs.Fitting.{own_width_of}
use Rattle.lay_preferred.specs.steps.Outer.{edge, edges_of, clamped_of, with_edges, has_own, is_absolute, is_given, given, around, outer}

module _ (tree : BoxTree) (w : World) (at : ℕ) where
  abbrev so_wide : ℤ → ℤ
  so_wide y = clamped_absolute tree w at y +ℤ outer_edges tree w at

  by-own : (x : ℤ) (k : Kind) → kind_of tree at ≡ k → has_own k ≡ true → outer_width tree w at x ≡ so_wide (unwrap_or (used_if_absolute tree w (own_width_of tree at)) x)
  by-own x of_kind.Replaced e f = absurd (cc)
  by-own x of_kind.Block e f = cc
  by-own x of_kind.Anon e f = cc
  by-own x of_kind.Float e f = cc
  by-own x of_kind.Atomic e f = cc
  by-own x of_kind.Inline e f = cc
  by-own x of_kind.Chars e f = cc
  by-own x of_kind.Line e f = cc
  by-own x of_kind.Break e f = cc

  by-inside : (x : ℤ) (k : Kind) → kind_of tree at ≡ k → has_own k ≡ false → outer_width tree w at x ≡ so_wide x
  by-inside x of_kind.Replaced e f = cc
  by-inside x of_kind.Block e f = absurd (cc)
  by-inside x of_kind.Anon e f = absurd (cc)
  by-inside x of_kind.Float e f = absurd (cc)
  by-inside x of_kind.Atomic e f = absurd (cc)
  by-inside x of_kind.Inline e f = absurd (cc)
  by-inside x of_kind.Chars e f = absurd (cc)
  by-inside x of_kind.Line e f = absurd (cc)
  by-inside x of_kind.Break e f = absurd (cc)

  absolute-is : (x : ℤ) (l : Length) → is_absolute l ≡ true → unwrap_or (used_if_absolute tree w l) x ≡ absolute_part tree w l
  absolute-is x of_length.Auto e = absurd (cc)
  absolute-is x (of_length.Pct p) e = absurd (cc)
  absolute-is x (of_length.Px c) e = refl
  absolute-is x (of_length.Em n d) e = refl

  relative-is : (x : ℤ) (l : Length) → is_absolute l ≡ false → unwrap_or (used_if_absolute tree w l) x ≡ x
  relative-is x of_length.Auto e = refl
  relative-is x (of_length.Pct p) e = refl
  relative-is x (of_length.Px c) e = absurd (cc)
  relative-is x (of_length.Em n d) e = absurd (cc)

  width-given : (x : ℤ) → is_given tree at ≡ true → outer_width tree w at x ≡ so_wide (absolute_part tree w (own_width_of tree at))
  unfolding is_given
  width-given x e = by (has_own (kind_of tree at)) refl e
    where
      by : (b : Bool) → has_own (kind_of tree at) ≡ b → (b && is_absolute (own_width_of tree at)) ≡ true → outer_width tree w at x ≡ so_wide (absolute_part tree w (own_width_of tree at))
      by true f g = by-own x (kind_of tree at) refl f ∙ ap so_wide (absolute-is x (own_width_of tree at) g)
      by false f g = absurd (cc)

  width-inside : (x : ℤ) → is_given tree at ≡ false → outer_width tree w at x ≡ so_wide x
  unfolding is_given
  width-inside x e = by (has_own (kind_of tree at)) refl e
    where
      by : (b : Bool) → has_own (kind_of tree at) ≡ b → (b && is_absolute (own_width_of tree at)) ≡ false → outer_width tree w at x ≡ so_wide x
      by true f g = by-own x (kind_of tree at) refl f ∙ ap so_wide (relative-is x (own_width_of tree at) g)
      by false f g = by-inside x (kind_of tree at) refl f

  abbrev pair : ℤ → ℤ → Preferred ℤ
  pair x y = record { least = x; most = y }

  -- a box of a given width, whatever is in it
  pub outer-given : is_given tree at ≡ true → given tree w at ≡ outer tree w at
  unfolding given outer with_edges clamped_of edges_of edge
  outer-given e = ap (λ x. pair x (so_wide (absolute_part tree w (own_width_of tree at)))) (sym (width-given (preferred tree w at).least e))
      ∙ ap (pair (outer_width tree w at (preferred tree w at).least)) (sym (width-given (preferred tree w at).most e))

  -- another by what is in it
  pub outer-inside : is_given tree at ≡ false → around tree w at (preferred tree w at) ≡ outer tree w at
  unfolding around outer with_edges clamped_of edges_of
  outer-inside e = ap (λ x. pair x (so_wide (preferred tree w at).most)) (sym (width-inside (preferred tree w at).least e))
      ∙ ap (pair (outer_width tree w at (preferred tree w at).least)) (sym (width-inside (preferred tree w at).most e))

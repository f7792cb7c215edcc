-- What is asked of one box, part by part.
use Rattle.std.proofs.Common.{◌≡◌, ◌==◌, ℕ, zero, suc, ℤ, pos, ◌+ℤ◌, Bool, true, false, [], ◌∷◌, Option, Some, None, option_map, slice_index_or, refl, subst, eq-eqb, ne_eqb}
use Rattle.viz_base.specs.declared.layouts.Extent.{Extent}
use Rattle.viz_base.specs.declared.layouts.Inner.{Inner}
use Rattle.viz_base.specs.declared.lengths.Valign.TheVariants as of_valign
use Rattle.viz_base.specs.declared.styles.Style.{Style}
use Rattle.viz_calc.specs.State.{AllSmall}
use Rattle.viz_calc.specs.World.{Reading}
use Rattle.layout_semantics.specs.Blocks.{node_of, parent_of}
use Rattle.layout_semantics.specs.InlineContent.{atomic}
use Rattle.layout_semantics.specs.Lengths.{own}
use Rattle.layout_semantics.specs.LineHeights.{InlineContext, LineExtent, inline_extent, shift_to}
use Rattle.lay_line.specs.Contexts.{inner_at, context_at}
use Rattle.lay_line.specs.Fits.{WidthFits, InlineFits, RaiseFits, ShiftFits_to, InlineShiftFits, OwnFits, TextShiftFits}
use Rattle.lay_line.specs.declared.containers.Container.{Container}
use Rattle.lay_line.specs.steps.Words.{raise_in, size_in}
use Rattle.lay_line.proofs.Tables.{inner-is, width-some, width-none, size-some, size-none}

-- ---- raises, one level up

abbrev pub UpFits : ℕ → InlineContext → ℕ → LineExtent → ℕ → Type 0
UpFits n c at e parent =
    RaiseFits c (node_of c.tree at) (node_of c.tree parent) e (own c.tree at (λ (s : Style). s.valign) of_valign.Baseline)
    × (InlineFits c.tree c.world (node_of c.tree parent)
    × (ShiftFits_to n c parent (inline_extent c.tree c.world (node_of c.tree parent))
    × AllSmall ((raise_in c (node_of c.tree at) (node_of c.tree parent) e (own c.tree at (λ (s : Style). s.valign) of_valign.Baseline)
    +ℤ shift_to n c parent (inline_extent c.tree c.world (node_of c.tree parent))) ∷ [])))

abbrev FitsBy : ℕ → InlineContext → ℕ → LineExtent → Bool → Option ℕ → Type 0
FitsBy n c at e b o = elim b as (λ (b : Bool). Type 0) [
  | true ↦ AllSmall (pos 0 ∷ [])
  | false ↦ elim o as (λ (o : Option ℕ). Type 0) [ None ↦ AllSmall (pos 0 ∷ []) | Some parent ↦ UpFits n c at e parent ]
]

fits-step : (n : ℕ) (c : InlineContext) (at : ℕ) (e : LineExtent) (b : Bool) (o : Option ℕ) → (at == c.container) ≡ b → parent_of c.tree.boxes at ≡ o → ShiftFits_to (suc n) c at e → FitsBy n c at e b o
unfolding ShiftFits_to
fits-step n c at e b o p q f = subst (λ (x : Bool). FitsBy n c at e x o) p (subst (λ (r : Option ℕ). FitsBy n c at e (at == c.container) r) q f)

pub fits-none : (n : ℕ) (c : InlineContext) (at : ℕ) (e : LineExtent) → n ≡ 0 → ShiftFits_to n c at e → AllSmall (pos 0 ∷ [])
unfolding ShiftFits_to
fits-none n c at e z f = subst (λ k. ShiftFits_to k c at e) z f

pub fits-here : (n : ℕ) (c : InlineContext) (at : ℕ) (e : LineExtent) → at ≡ c.container → ShiftFits_to n c at e → AllSmall (pos 0 ∷ [])
unfolding ShiftFits_to
fits-here zero c at e p f = f
fits-here (suc n) c at e p f = fits-step n c at e true (parent_of c.tree.boxes at) (eq-eqb at c.container p) refl f

pub fits-root : (n : ℕ) (c : InlineContext) (at : ℕ) (e : LineExtent) → parent_of c.tree.boxes at ≡ None → ShiftFits_to n c at e → AllSmall (pos 0 ∷ [])
unfolding ShiftFits_to
fits-root zero c at e q f = f
fits-root (suc n) c at e q f = by (at == c.container) refl
  where
    by : (b : Bool) → (at == c.container) ≡ b → AllSmall (pos 0 ∷ [])
    by true p = fits-step n c at e true None p q f
    by false p = fits-step n c at e false None p q f

pub fits-up : (n m : ℕ) (c : InlineContext) (at : ℕ) (e : LineExtent) (parent : ℕ) → n ≡ suc m → (at ≡ c.container → ⊥) → parent_of c.tree.boxes at ≡ Some parent → ShiftFits_to n c at e → UpFits m c at e parent
fits-up n m c at e parent s p q f = fits-step m c at e false (Some parent) (ne_eqb at c.container p) q (subst (λ k. ShiftFits_to k c at e) s f)

-- ---- sizes of boxes

module _ {N : Type 0} (at : N → Reading → ℤ) (e : Reading) (c : Container N) (b : ℕ) where
  abbrev OwnBy : Option (Inner ℤ) → Type 0
  OwnBy o = elim o as (λ (o : Option (Inner ℤ)). Type 0) [ None ↦ InlineFits c.tree.now e.world (node_of c.tree.now b) | Some i ↦ AllSmall (i.above ∷ i.below ∷ []) ]

  own-by : (o : Option (Inner N)) → slice_index_or c.inner.now b None ≡ o → OwnFits (context_at at c e) b → OwnBy (option_map (λ i. inner_at at i e) o)
  unfolding OwnFits context_at
  own-by o s f = subst OwnBy (inner-is at e c b o s) f

  pub own-some : (i : Inner N) → slice_index_or c.inner.now b None ≡ Some i → OwnFits (context_at at c e) b → AllSmall (at i.above e ∷ at i.below e ∷ [])
  own-some i s f = own-by (Some i) s f

  pub own-none : slice_index_or c.inner.now b None ≡ None → OwnFits (context_at at c e) b → InlineFits c.tree.now e.world (node_of c.tree.now b)
  own-none s f = own-by None s f

  pub takes-some : (i : Inner N) → slice_index_or c.inner.now b None ≡ Some i → WidthFits (context_at at c e) (atomic b) → AllSmall (at i.width e ∷ [])
  unfolding WidthFits
  takes-some i s f = subst (λ x. AllSmall (x ∷ [])) (width-some at e c b i s) f

  pub takes-none : slice_index_or c.inner.now b None ≡ None → WidthFits (context_at at c e) (atomic b) → AllSmall (pos 0 ∷ [])
  unfolding WidthFits
  takes-none s f = subst (λ x. AllSmall (x ∷ [])) (width-none at e c b s) f

  pub sizes-some : (i : Inner N) → slice_index_or c.inner.now b None ≡ Some i → AllSmall ((size_in (context_at at c e) b).width ∷ (size_in (context_at at c e) b).height ∷ [])
      → AllSmall (at i.width e ∷ (at i.above e +ℤ at i.below e) ∷ [])
  sizes-some i s f = subst (λ (x : Extent ℤ). AllSmall (x.width ∷ x.height ∷ [])) (size-some at e c b i s) f

  pub sizes-none : slice_index_or c.inner.now b None ≡ None → AllSmall ((size_in (context_at at c e) b).width ∷ (size_in (context_at at c e) b).height ∷ []) → AllSmall (pos 0 ∷ pos 0 ∷ [])
  sizes-none s f = subst (λ (x : Extent ℤ). AllSmall (x.width ∷ x.height ∷ [])) (size-none at e c b s) f

-- ---- texts

abbrev TextBy : InlineContext → Option ℕ → Type 0
TextBy c o = elim o as (λ (o : Option ℕ). Type 0) [ None ↦ AllSmall (pos 0 ∷ []) | Some parent ↦ InlineShiftFits c parent ]

pub text-some : (c : InlineContext) (at parent : ℕ) → parent_of c.tree.boxes at ≡ Some parent → TextShiftFits c at → InlineShiftFits c parent
unfolding TextShiftFits
text-some c at parent q f = subst (TextBy c) q f

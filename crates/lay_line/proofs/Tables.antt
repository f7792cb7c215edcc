-- A block container at a reading, part by part.
use Rattle.std.proofs.Common.{◌≡◌, ◌==◌, ℕ, zero, suc, ℤ, pos, ◌+ℤ◌, ◌*ℤ◌, Bool, true, false, List, [], ◌∷◌, Option, Some, None, option_map, slice_index_or, refl, ap, ◌∙◌, eq-eqb, ne_eqb, arith}
use Rattle.std.specs.Option.{option_map_or}
use Rattle.std.proofs.lemmas.Int.{ints}
use Rattle.viz_base.specs.FontSizes.{fraction}
use Rattle.viz_base.specs.Numbers.{floor_of}
use Rattle.viz_base.specs.declared.layouts.Extent.{Extent}
use Rattle.viz_base.specs.declared.layouts.Inner.{Inner}
use Rattle.viz_base.specs.declared.lengths.Valign.TheVariants as of_valign
use Rattle.viz_base.specs.declared.styles.Style.{Style}
use Rattle.viz_calc.specs.World.{Reading}
use Rattle.layout_semantics.specs.Blocks.{node_of, parent_of}
use Rattle.layout_semantics.specs.InlineContent.{atomic}
use Rattle.layout_semantics.specs.Lengths.{own}
use Rattle.layout_semantics.specs.LineHeights.{InlineContext, LineExtent, inner_of, inline_extent, shift_to}
use Rattle.lay_line.specs.Contexts.{inner_at, table_at, context_at}
use Rattle.lay_line.specs.declared.containers.Container.{Container}
use Rattle.lay_line.specs.steps.Words.{width_in, own_reach, size_in, raise_in}

-- ---- sizes of boxes

module _ {N : Type 0} (at : N → Reading → ℤ) (e : Reading) where
  inner-same : (table : List (Option (Inner N))) (b : ℕ) → slice_index_or (table_at at table e) b None ≡ option_map (λ i. inner_at at i e) (slice_index_or table b None)
  inner-same [] b = refl
  inner-same (o ∷ table) zero = refl
  inner-same (o ∷ table) (suc b) = inner-same table b

  pub inner-is : (c : Container N) (b : ℕ) (o : Option (Inner N)) → slice_index_or c.inner.now b None ≡ o → inner_of (context_at at c e) b ≡ option_map (λ i. inner_at at i e) o
  unfolding context_at
  inner-is c b o s = inner-same c.inner.now b ∙ ap (option_map (λ i. inner_at at i e)) s

  pub reach-some : (c : Container N) (b : ℕ) (i : Inner N) → slice_index_or c.inner.now b None ≡ Some i → own_reach (context_at at c e) b ≡ record { above = at i.above e; below = at i.below e }
  unfolding own_reach
  reach-some c b i s = ap (λ o. option_map_or (λ (i : Inner ℤ). made i.above i.below) o (inline_extent (context_at at c e).tree (context_at at c e).world (node_of (context_at at c e).tree b))) (inner-is c b (Some i) s)
    where
      made : ℤ → ℤ → LineExtent
      made x y = record { above = x; below = y }

  pub reach-none : (c : Container N) (b : ℕ) → slice_index_or c.inner.now b None ≡ None → own_reach (context_at at c e) b ≡ inline_extent c.tree.now e.world (node_of c.tree.now b)
  unfolding own_reach context_at
  reach-none c b s = ap (λ o. option_map_or (λ (i : Inner ℤ). made i.above i.below) o (inline_extent c.tree.now e.world (node_of c.tree.now b))) (inner-is c b None s)
    where
      made : ℤ → ℤ → LineExtent
      made x y = record { above = x; below = y }

  pub width-some : (c : Container N) (b : ℕ) (i : Inner N) → slice_index_or c.inner.now b None ≡ Some i → width_in (context_at at c e) (atomic b) ≡ at i.width e
  unfolding width_in
  width-some c b i s = ap (λ o. option_map_or (λ (i : Inner ℤ). i.width) o (pos 0)) (inner-is c b (Some i) s)

  pub width-none : (c : Container N) (b : ℕ) → slice_index_or c.inner.now b None ≡ None → width_in (context_at at c e) (atomic b) ≡ pos 0
  unfolding width_in
  width-none c b s = ap (λ o. option_map_or (λ (i : Inner ℤ). i.width) o (pos 0)) (inner-is c b None s)

  abbrev pub sized : ℤ → ℤ → Extent ℤ
  sized x y = record { width = x; height = y }

  pub size-some : (c : Container N) (b : ℕ) (i : Inner N) → slice_index_or c.inner.now b None ≡ Some i → size_in (context_at at c e) b ≡ sized (at i.width e) (at i.above e +ℤ at i.below e)
  unfolding size_in
  size-some c b i s = ap (λ o. option_map_or (λ (i : Inner ℤ). sized i.width (i.above +ℤ i.below)) o (sized (pos 0) (pos 0))) (inner-is c b (Some i) s)

  pub size-none : (c : Container N) (b : ℕ) → slice_index_or c.inner.now b None ≡ None → size_in (context_at at c e) b ≡ sized (pos 0) (pos 0)
  unfolding size_in
  size-none c b s = ap (λ o. option_map_or (λ (i : Inner ℤ). sized i.width (i.above +ℤ i.below)) o (sized (pos 0) (pos 0))) (inner-is c b None s)

-- ---- parts of font sizes

pub one-part : (d : ℕ) (x : ℤ) → fraction (pos 1) d x ≡ floor_of x d
one-part d x = ap (λ y. floor_of y d) one
  where
    one : pos 1 *ℤ x ≡ x
    one = omega (arith, ints)

-- ---- raises, one level up

pub shift-none : (n : ℕ) (c : InlineContext) (at : ℕ) (e : LineExtent) → n ≡ 0 → shift_to n c at e ≡ pos 0
unfolding shift_to
shift-none n c at e z = ap (λ k. shift_to k c at e) z

abbrev up_from : ℕ → InlineContext → ℕ → LineExtent → ℕ → ℤ
up_from n c at e parent = raise_in c (node_of c.tree at) (node_of c.tree parent) e (own c.tree at (λ (s : Style). s.valign) of_valign.Baseline)
    +ℤ shift_to n c parent (inline_extent c.tree c.world (node_of c.tree parent))

abbrev shift_by : ℕ → InlineContext → ℕ → LineExtent → Bool → Option ℕ → ℤ
shift_by n c at e true o = pos 0
shift_by n c at e false o = option_map_or (up_from n c at e) o (pos 0)

shift-step : (n : ℕ) (c : InlineContext) (at : ℕ) (e : LineExtent) (b : Bool) (o : Option ℕ) → (at == c.container) ≡ b → parent_of c.tree.boxes at ≡ o → shift_to (suc n) c at e ≡ shift_by n c at e b o
unfolding shift_to raise_in
shift-step n c at e b o p q =
    ap (λ (x : Bool). elim x as (λ (y : Bool). ℤ) [ true ↦ pos 0 | false ↦ option_map_or (up_from n c at e) (parent_of c.tree.boxes at) (pos 0) ]) p
    ∙ by b
  where
    by : (x : Bool) → elim x as (λ (y : Bool). ℤ) [ true ↦ pos 0 | false ↦ option_map_or (up_from n c at e) (parent_of c.tree.boxes at) (pos 0) ] ≡ shift_by n c at e x o
    by true = refl
    by false = ap (λ r. option_map_or (up_from n c at e) r (pos 0)) q

pub shift-here : (n : ℕ) (c : InlineContext) (at : ℕ) (e : LineExtent) → at ≡ c.container → shift_to n c at e ≡ pos 0
unfolding shift_to
shift-here zero c at e p = refl
shift-here (suc n) c at e p = shift-step n c at e true (parent_of c.tree.boxes at) (eq-eqb at c.container p) refl

pub shift-root : (n : ℕ) (c : InlineContext) (at : ℕ) (e : LineExtent) → parent_of c.tree.boxes at ≡ None → shift_to n c at e ≡ pos 0
unfolding shift_to
shift-root zero c at e q = refl
shift-root (suc n) c at e q = by (at == c.container) refl
  where
    by : (b : Bool) → (at == c.container) ≡ b → shift_to (suc n) c at e ≡ pos 0
    by true p = shift-step n c at e true None p q
    by false p = shift-step n c at e false None p q

pub shift-up : (n m : ℕ) (c : InlineContext) (at : ℕ) (e : LineExtent) (parent : ℕ) → n ≡ suc m → (at ≡ c.container → ⊥) → parent_of c.tree.boxes at ≡ Some parent
    → shift_to n c at e ≡ raise_in c (node_of c.tree at) (node_of c.tree parent) e (own c.tree at (λ (s : Style). s.valign) of_valign.Baseline)
    +ℤ shift_to m c parent (inline_extent c.tree c.world (node_of c.tree parent))
shift-up n m c at e parent s p q = ap (λ k. shift_to k c at e) s ∙ shift-step m c at e false (Some parent) (ne_eqb at c.container p) q

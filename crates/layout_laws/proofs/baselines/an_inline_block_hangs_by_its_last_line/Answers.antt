use Rattle.std.proofs.Common.{◌≡◌, ◌⊎◌, inl, inr, ℕ, ℤ, ◌+ℤ◌, ◌-ℤ◌, Bool, true, false, Option, Some, None, refl, arith}
use Rattle.std.proofs.lemmas.Int.{ints}
use Rattle.viz_base.specs.declared.trees.BoxTree.{BoxTree}
use Rattle.viz_base.specs.declared.worlds.World.{World}
use Rattle.viz_base.specs.declared.layouts.Band.{Band}
use Rattle.viz_base.specs.declared.styles.Style.{Style}
use Rattle.layout_semantics.specs.FlowBoxes.{inline_size, is_replaced_at}
use Rattle.layout_semantics.specs.InlineContent.{is_floated_at}
use Rattle.layout_semantics.specs.Lengths.{own}
use Rattle.layout_semantics.specs.Flow.{Progress, independent, inner_size}
use Rattle.layout_laws.proofs.baselines.an_inline_block_hangs_by_its_last_line.Goals as goal

both : (a h : ℤ) → (a +ℤ (h -ℤ a)) ≡ h
both a h = omega (arith, ints)

module _ (tree : BoxTree) (w : World) (inside : ℕ → Band ℤ → ℤ → Progress → Progress) (cb : Band ℤ) (k : ℕ) where
  abbrev clips : Bool
  clips = own tree k (λ (s : Style). s.clips) false

  at_edge : (floats replaced hidden : Bool) (o : Option ℤ) → is_floated_at tree k ≡ floats → is_replaced_at tree k ≡ replaced → clips ≡ hidden → (independent tree w inside k (inline_size cb)).baseline ≡ o
      → (replaced ≡ true) ⊎ ((hidden ≡ true) ⊎ (o ≡ None)) → (inner_size tree w inside cb k).above ≡ (independent tree w inside k (inline_size cb)).size.height
  at_edge true replaced hidden o f r h e b = rw f refl
  at_edge false true hidden o f r h e b = rw (f, r) refl
  at_edge false false true o f r h e b = rw (f, r, h) refl
  at_edge false false false None f r h e b = rw (e, f, r, h) refl
  at_edge false false false (Some y) f r h e (inl b) = absurd (cc)
  at_edge false false false (Some y) f r h e (inr (inl b)) = absurd (cc)
  at_edge false false false (Some y) f r h e (inr (inr b)) = absurd (cc)

  whole : (floats replaced hidden : Bool) (o : Option ℤ) → is_floated_at tree k ≡ floats → is_replaced_at tree k ≡ replaced → clips ≡ hidden → (independent tree w inside k (inline_size cb)).baseline ≡ o
      → ((inner_size tree w inside cb k).above +ℤ (inner_size tree w inside cb k).below) ≡ (independent tree w inside k (inline_size cb)).size.height
  whole true replaced hidden o f r h e = rw f (both _ _)
  whole false true hidden o f r h e = rw (f, r) (both _ _)
  whole false false true o f r h e = rw (f, r, h) (both _ _)
  whole false false false None f r h e = rw (e, f, r, h) (both _ _)
  whole false false false (Some y) f r h e = rw (e, f, r, h) (both _ _)

pub returns-clause-line : goal.returns-clause-line
returns-clause-line c tree w inside cb k y f r h e = rw (e, f, r, h) refl

pub returns-clause-edge : goal.returns-clause-edge
returns-clause-edge c tree w inside cb k = at_edge tree w inside cb k (is_floated_at tree k) (is_replaced_at tree k) (own tree k (λ (s : Style). s.clips) false) (independent tree w inside k (inline_size cb)).baseline refl refl refl refl

pub returns-clause-whole : goal.returns-clause-whole
returns-clause-whole c tree w inside cb k = whole tree w inside cb k (is_floated_at tree k) (is_replaced_at tree k) (own tree k (λ (s : Style). s.clips) false) (independent tree w inside k (inline_size cb)).baseline refl refl refl refl

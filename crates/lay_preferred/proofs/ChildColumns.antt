-- Children one after another have the preferred widths of their block container.
use Rattle.std.proofs.Common.{◌≡◌, ℕ, ℤ, pos, ◌+ℤ◌, Bool, true, false, List, [], ◌∷◌, map, Option, Some, None, refl, sym, ap, ◌∙◌, arith}
use Rattle.std.specs.Int.{int_max}
use Rattle.std.proofs.lemmas.Int.{ints, clamps}
use Rattle.viz_base.specs.declared.layouts.Preferred.{Preferred}
use Rattle.viz_base.specs.declared.trees.BoxTree.{BoxTree}
use Rattle.layout_semantics.specs.InlineContent.{is_floated_at}
use Rattle.layout_semantics.specs.Preferred.{Child, in_flow, floated, leading_floats, sums_from, block_widths, greatest, with_most, as_children, preferred_blocks}
use Rattle.lay_preferred.specs.declared.columns.Column.{Column}
use Rattle.lay_preferred.specs.steps.Columns.{no_children, beside, with_in_flow, with_float, with_child, with_children, whole}
use Rattle.lay_preferred.specs.steps.Extremes.{larger, or_zero, most_of}
use Rattle.lay_preferred.proofs.Maxima.{larger-then, greatest-same, most-append}

-- ---- floats that follow one another

-- the greatest of a number and of its sums with what a list begins with
widest_run : ℤ → List ℤ → ℤ
widest_run s [] = s
widest_run s (x ∷ xs) = int_max s (widest_run (s +ℤ x) xs)

run-same : (best : Option ℤ) (s : ℤ) (xs : List ℤ) → most_of best (s ∷ sums_from s xs) ≡ Some (larger best (widest_run s xs))
unfolding widest_run
run-same best s [] = refl
run-same best s (x ∷ xs) = run-same (Some (larger best s)) (s +ℤ x) xs ∙ ap Some (larger-then best s (widest_run (s +ℤ x) xs))

run-greatest : (s t : ℤ) (xs : List ℤ) → int_max (widest_run s xs) (widest_run t xs) ≡ widest_run (int_max s t) xs
unfolding widest_run
run-greatest s t [] = refl
run-greatest s t (x ∷ xs) = let rest = run-greatest (s +ℤ x) (t +ℤ x) xs ∙ ap (λ k. widest_run k xs) shifted in omega (arith, ints, clamps)
  where
    shifted : int_max (s +ℤ x) (t +ℤ x) ≡ int_max s t +ℤ x
    shifted = omega (arith, ints, clamps)

two-runs : (best : Option ℤ) (s t : ℤ) (xs : List ℤ) → most_of (most_of best (s ∷ sums_from s xs)) (t ∷ sums_from t xs) ≡ most_of best (int_max s t ∷ sums_from (int_max s t) xs)
two-runs best s t xs =
    ap (λ o. most_of o (t ∷ sums_from t xs)) (run-same best s xs)
    ∙ run-same (Some (larger best (widest_run s xs))) t xs
    ∙ ap Some (larger-then best (widest_run s xs) (widest_run t xs) ∙ ap (larger best) (run-greatest s t xs))
    ∙ sym (run-same best (int_max s t) xs)

-- the greatest widths, child by child
walked : Option ℤ → Option ℤ → List Child → Option ℤ
walked best floats [] = best
walked best floats (in_flow x ∷ children) = walked (Some (larger best x)) None children
walked best floats (floated x ∷ children) = walked (Some (larger best (beside floats x))) (Some (beside floats x)) children

sums_behind : Option ℤ → List Child → List ℤ
sums_behind None children = []
sums_behind (Some floats) children = sums_from floats (leading_floats children)

no_more : (x : ℤ) → pos 0 +ℤ x ≡ x
no_more x = omega (arith, ints)

either_run : (r x : ℤ) → int_max (r +ℤ x) (pos 0 +ℤ x) ≡ int_max (pos 0) r +ℤ x
either_run r x = omega (arith, ints, clamps)

walk-same : (best floats : Option ℤ) (children : List Child) → walked best floats children ≡ most_of (most_of best (sums_behind floats children)) (block_widths children)
unfolding walked sums_behind
walk-same best None [] = refl
walk-same best (Some r) [] = refl
walk-same best None (in_flow x ∷ children) = walk-same (Some (larger best x)) None children
walk-same best (Some r) (in_flow x ∷ children) = walk-same (Some (larger best x)) None children
walk-same best None (floated x ∷ children) =
    let run = leading_floats children in
    walk-same (Some (larger best x)) (Some x) children
    ∙ sym (most-append best ((pos 0 +ℤ x) ∷ sums_from (pos 0 +ℤ x) run) (block_widths children)
    ∙ ap (λ k. most_of (most_of best (k ∷ sums_from k run)) (block_widths children)) (no_more x))
walk-same best (Some r) (floated x ∷ children) =
    let run = leading_floats children in
    walk-same (Some (larger best (int_max (pos 0) r +ℤ x))) (Some (int_max (pos 0) r +ℤ x)) children
    ∙ sym (most-append (most_of best ((r +ℤ x) ∷ sums_from (r +ℤ x) run)) ((pos 0 +ℤ x) ∷ sums_from (pos 0 +ℤ x) run) (block_widths children)
    ∙ ap (λ o. most_of o (block_widths children)) (two-runs best (r +ℤ x) (pos 0 +ℤ x) run
    ∙ ap (λ k. most_of best (k ∷ sums_from k run)) (either_run r x)))

-- ---- columns

module _ (tree : BoxTree) (outer : ℕ → Preferred ℤ) where
  abbrev boxes : List ℕ → List (ℕ × Preferred ℤ)
  boxes ks = map (λ k. (k, outer k)) ks

  least-same : (c : Column ℤ) (ks : List ℕ) → (with_children (is_floated_at tree) outer c ks).least ≡ most_of c.least (map (λ entry. (entry.1).least) (boxes ks))
  unfolding with_in_flow with_float
  least-same c [] = refl
  least-same c (k ∷ ks) = by (is_floated_at tree k) (least-same (with_float c (outer k)) ks) (least-same (with_in_flow c (outer k)) ks)
    where
      by : (b : Bool)
          → (with_children (is_floated_at tree) outer (with_float c (outer k)) ks).least ≡ most_of (Some (larger c.least (outer k).least)) (map (λ entry. (entry.1).least) (boxes ks))
          → (with_children (is_floated_at tree) outer (with_in_flow c (outer k)) ks).least ≡ most_of (Some (larger c.least (outer k).least)) (map (λ entry. (entry.1).least) (boxes ks))
          → (with_children (is_floated_at tree) outer (with_child c b (outer k)) ks).least ≡ most_of (Some (larger c.least (outer k).least)) (map (λ entry. (entry.1).least) (boxes ks))
      by true p q = p
      by false p q = q

  most-same : (c : Column ℤ) (ks : List ℕ) → (with_children (is_floated_at tree) outer c ks).most ≡ walked c.most c.floats (as_children tree (with_most (boxes ks)))
  unfolding with_in_flow with_float walked
  most-same c [] = refl
  most-same c (k ∷ ks) = by (is_floated_at tree k) refl (most-same (with_float c (outer k)) ks) (most-same (with_in_flow c (outer k)) ks)
    where
      by : (b : Bool) → is_floated_at tree k ≡ b
          → (with_children (is_floated_at tree) outer (with_float c (outer k)) ks).most ≡ walked (Some (larger c.most (beside c.floats (outer k).most))) (Some (beside c.floats (outer k).most)) (as_children tree (with_most (boxes ks)))
          → (with_children (is_floated_at tree) outer (with_in_flow c (outer k)) ks).most ≡ walked (Some (larger c.most (outer k).most)) None (as_children tree (with_most (boxes ks)))
          → (with_children (is_floated_at tree) outer (with_child c (is_floated_at tree k) (outer k)) ks).most ≡ walked c.most c.floats (as_children tree (with_most ((k, outer k) ∷ boxes ks)))
      by true e p q = rw e p
      by false e p q = rw e q

  pub blocks-same : (ks : List ℕ) → whole (with_children (is_floated_at tree) outer no_children ks) ≡ preferred_blocks tree (boxes ks)
  unfolding sums_behind
  blocks-same ks =
      ap (λ x. both_of (or_zero x) (or_zero (with_children (is_floated_at tree) outer no_children ks).most)) (least-same no_children ks)
      ∙ ap (λ x. both_of x (or_zero (with_children (is_floated_at tree) outer no_children ks).most)) (greatest-same (map (λ entry. (entry.1).least) (boxes ks)))
      ∙ ap (λ x. both_of (greatest (map (λ entry. (entry.1).least) (boxes ks))) (or_zero x)) (most-same no_children ks ∙ walk-same None None (as_children tree (with_most (boxes ks))) ∙ nothing_before (as_children tree (with_most (boxes ks))))
      ∙ ap (both_of (greatest (map (λ entry. (entry.1).least) (boxes ks)))) (greatest-same (block_widths (as_children tree (with_most (boxes ks)))))
    where
      both_of : ℤ → ℤ → Preferred ℤ
      both_of x y = record { least = x; most = y }

      nothing_before : (children : List Child) → most_of (most_of None (sums_behind None children)) (block_widths children) ≡ most_of None (block_widths children)
      nothing_before children = refl

-- Whether a height is definite is told by the tree alone.
use Rattle.std.proofs.Common.{◌≡◌, ℕ, zero, suc, ℤ, not, is_some, is_none, option_map, Option, None, Some, refl, ap, ◌∙◌}
use Rattle.viz_base.specs.declared.lengths.Length.{Length}
use Rattle.viz_base.specs.declared.lengths.Length.TheVariants as of_length
use Rattle.viz_base.specs.declared.trees.BoxTree.{BoxTree}
use Rattle.viz_base.specs.declared.worlds.World.{World}
use Rattle.layout_semantics.specs.DefiniteHeights.{percentage_container, own_height, counts_as_auto, is_definite_to, is_definite, has_auto_height, height_around, clamped_around, definite_height_to, definite_height, given_height}

module _ (tree : BoxTree) (w : World) where
  auto-is : (around : Option ℤ) (length : Length) → counts_as_auto (is_some around) length ≡ is_none (height_around tree w around length)
  auto-is around of_length.Auto = refl
  auto-is around (of_length.Px c) = refl
  auto-is around (of_length.Em k node) = refl
  auto-is None (of_length.Pct p) = refl
  auto-is (Some h) (of_length.Pct p) = refl

  mapped : (f : ℤ → ℤ) (o : Option ℤ) → not (is_none o) ≡ is_some (option_map f o)
  mapped f None = refl
  mapped f (Some h) = refl

  levels-definite : (n at : ℕ) → is_definite_to n tree at ≡ is_some (definite_height_to n tree w at)
  unfolding is_definite_to definite_height_to
  levels-definite zero at = refl
  levels-definite (suc n) at = by (percentage_container tree at) refl (λ c. levels-definite n c)
    where
      by : (o : Option ℕ) → percentage_container tree at ≡ o → ((c : ℕ) → is_definite_to n tree c ≡ is_some (definite_height_to n tree w c))
          → is_definite_to (suc n) tree at ≡ is_some (definite_height_to (suc n) tree w at)
      by None e again = rw e refl
      by (Some c) e again =
          let around = definite_height_to n tree w c in
          rw e (ap (λ d. not (counts_as_auto d (own_height tree c))) (again c) ∙ (ap not (auto-is around (own_height tree c)) ∙ mapped (clamped_around tree w around c) (height_around tree w around (own_height tree c))))

  pub definite-is : (at : ℕ) → is_definite tree at ≡ is_some (definite_height tree w at)
  definite-is at = levels-definite (suc at) at

  pub auto-height-is : (at : ℕ) → has_auto_height tree at ≡ is_none (given_height tree w at)
  unfolding has_auto_height
  auto-height-is at = ap (λ d. counts_as_auto d (own_height tree at)) (definite-is at) ∙ auto-is (definite_height tree w at) (own_height tree at)

use Rattle.std.proofs.Common.{◌≡◌, ℤ, pos, ◌+ℤ◌, ◌-ℤ◌, ◌≤ℤ◌, List, ◌∷◌, map, Contains, refl, ◌∙◌, inl, inr, ◌⊎◌, ⊎_elim, arith}
use Rattle.std.proofs.lemmas.Int.{ints}
use Rattle.viz_base.specs.declared.trees.BoxTree.{BoxTree}
use Rattle.viz_base.specs.declared.worlds.World.{World}
use Rattle.viz_base.proofs.ListLemmas.{later_member}
use Rattle.layout_semantics.specs.Floats.{FloatBox}
use Rattle.layout_semantics.specs.Flow.{Progress, next_edge, context_height}
use Rattle.layout_laws.specs.Heights.{ReachesDown}
use Rattle.layout_laws.proofs.Members.{first_member, first_or_later, to_map, from_map}
use Rattle.layout_laws.proofs.Extremes.{below_greatest, start_below_greatest, greatest_is_one}

module _ (tree : BoxTree) (w : World) (top : ℤ) (end : Progress) where
  abbrev bottom : FloatBox → ℤ
  bottom f = f.box.bottom

  abbrev edges : List ℤ
  edges = next_edge end.standing ∷ map bottom end.floats

  abbrev down : ℤ → ℤ
  down y = y -ℤ top

  abbrev h : ℤ
  h = context_height tree w top end

  within : (y : ℤ) → Contains edges y → y ≤ℤ (top +ℤ h)
  within y i = let t = below_greatest (pos 0) (map down edges) (down y) (to_map down edges y i) in omega (arith, ints)

  of_edge : (y : ℤ) → Contains edges y → y ≡ top +ℤ h → (h ≡ pos 0) ⊎ ((next_edge end.standing ≡ top +ℤ h) ⊎ ((f : FloatBox) × Contains end.floats f × (f.box.bottom ≡ top +ℤ h)))
  of_edge y i s =
      ⊎_elim
      (λ e. inr (inl (e ∙ s)))
      (λ j. let f = from_map bottom end.floats y j in inr (inr (f.0, f.1, f.2 ∙ s)))
      (first_or_later (next_edge end.standing) (map bottom end.floats) y i)

  reached : ((h ≡ pos 0) ⊎ Contains (map down edges) h) → (h ≡ pos 0) ⊎ ((next_edge end.standing ≡ top +ℤ h) ⊎ ((f : FloatBox) × Contains end.floats f × (f.box.bottom ≡ top +ℤ h)))
  reached (inl e) = inl e
  reached (inr i) = let y = from_map down edges h i in of_edge y.0 y.1 (let t = y.2 in omega (arith, ints, y.2))

  pub reaches_down : ReachesDown top end h
  reaches_down = record {
    not_negative = start_below_greatest (pos 0) (map down edges);
    content = within (next_edge end.standing) (first_member (map bottom end.floats) refl);
    floats = λ f i. within f.box.bottom (later_member (map bottom end.floats) (to_map bottom end.floats f i));
    no_further = reached (greatest_is_one (pos 0) (map down edges));
  }

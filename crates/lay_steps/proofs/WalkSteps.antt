-- What the walk has of a box, put together as its steps have it.
use Rattle.std.proofs.Common.{◌≡◌, ℕ, ℤ, List, None, refl, ap, ◌∙◌}
use Rattle.std.specs.Int.{int_max}
use Rattle.viz_base.specs.declared.layouts.Band.{Band}
use Rattle.viz_base.specs.declared.layouts.Extent.{Extent}
use Rattle.viz_base.specs.declared.layouts.Spot.{Spot}
use Rattle.viz_base.specs.declared.trees.BoxTree.{BoxTree}
use Rattle.viz_base.specs.declared.worlds.World.{World}
use Rattle.layout_semantics.specs.Floats.{FloatBox, floating, float_spot, with_float_at}
use Rattle.layout_semantics.specs.Flow.{Independent}
use Rattle.layout_semantics.specs.Rectangles.{shifted}
use Rattle.lay_steps.specs.Flow.{Standing, Context, Ending, Laid, Met, met, next_edge, without_boxes, float_of, reached_of, laid_of, standing_after, flow_child, in_flow}

module _ (tree : BoxTree) (w : World) (apart : ℕ → Independent) (cb : Band ℤ) (top : ℤ) (s : Context) (k : ℕ) where
  -- where a float stands, by what was found of its size and of the place where it comes
  spot-found : (size : Extent ℤ) (edge y : ℤ) (spot : Spot ℤ) → size ≡ (apart k).size → edge ≡ next_edge s.standing → y ≡ int_max top edge
      → spot ≡ float_spot (floating tree k size cb) s.floats s.least y
      → spot ≡ float_spot (floating tree k (apart k).size cb) s.floats s.least (int_max top (next_edge s.standing))
  spot-found size edge y spot sized at comes is =
      is
      ∙ ap (λ z. float_spot (floating tree k z cb) s.floats s.least y) sized
      ∙ ap (λ q. float_spot (floating tree k (apart k).size cb) s.floats s.least q) (comes ∙ ap (int_max top) at)

  pub float-context : (size : Extent ℤ) (edge y : ℤ) (spot : Spot ℤ) (floats : List FloatBox) → size ≡ (apart k).size → edge ≡ next_edge s.standing → y ≡ int_max top edge
      → spot ≡ float_spot (floating tree k size cb) s.floats s.least y → floats ≡ with_float_at (floating tree k size cb) s.floats spot
      → record s { floats = floats } ≡ (float_of tree w apart cb top s k).context
  unfolding float_of
  float-context size edge y spot floats sized at comes is with =
      ap (λ (l : List FloatBox). record s { floats = l })
      (with ∙ ap (λ z. with_float_at (floating tree k z cb) s.floats spot) sized
      ∙ ap (with_float_at (floating tree k (apart k).size cb) s.floats) (spot-found size edge y spot sized at comes is))

  pub float-boxes : (size : Extent ℤ) (edge y : ℤ) (spot : Spot ℤ) → size ≡ (apart k).size → edge ≡ next_edge s.standing → y ≡ int_max top edge
      → spot ≡ float_spot (floating tree k size cb) s.floats s.least y → shifted spot (apart k).boxes ≡ (float_of tree w apart cb top s k).boxes
  unfolding float_of
  float-boxes size edge y spot sized at comes is = ap (λ p. shifted p (apart k).boxes) (spot-found size edge y spot sized at comes is)

module _ (tree : BoxTree) (w : World) (apart : ℕ → Independent) (cb : Band ℤ) (s : Context) (b : ℕ) where
  -- a standing asks nothing of the cleared box ahead
  after-same : (before : Standing) (m : Met) (end : Ending)
      → standing_after tree w cb before b (met (record m.reached { cleared = None }) m.run) end ≡ standing_after tree w cb before b m end
  unfolding standing_after
  after-same before m end = refl

  abbrev done : Met → Context
  done m = record (laid_of tree w apart cb s b m.reached).after.context {
    standing = standing_after tree w cb s.standing b m (laid_of tree w apart cb s b m.reached).ending;
  }

  pub flow-context : (m : Met) (l : Laid) (before after : Standing) → m ≡ reached_of tree w apart cb s b → l ≡ without_boxes (laid_of tree w apart cb s b m.reached)
      → before ≡ s.standing → after ≡ standing_after tree w cb before b (met (record m.reached { cleared = None }) m.run) l.ending
      → record l.after.context { standing = after } ≡ (in_flow tree w apart cb s b).context
  unfolding flow_child
  flow-context m l before after is laid same next =
      ap (λ (x : Standing). record l.after.context { standing = x })
      (next ∙ after-same before m l.ending ∙ ap (λ (x : Standing). standing_after tree w cb x b m l.ending) same)
      ∙ ap (λ (x : Laid). record x.after.context { standing = standing_after tree w cb s.standing b m x.ending }) laid
      ∙ ap done is

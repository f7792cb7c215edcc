-- A box by itself is replaced, or starts a context.
use Rattle.std.proofs.Common.{◌≡◌, ℕ, ℤ, true, false, sym, ap, ◌∙◌}
use Rattle.viz_base.specs.declared.trees.BoxTree.{BoxTree}
use Rattle.viz_base.specs.declared.worlds.World.{World}
use Rattle.layout_semantics.specs.Flow.{Independent}
use Rattle.layout_semantics.specs.FlowBoxes.{is_replaced_at}
use Rattle.layout_semantics.specs.Rectangles.{Frame}
use Rattle.lay_frame.proofs.Slots.{seam, no_boxes}
use Rattle.lay_steps.specs.Flow.{corner_of, replaced_independent, context_independent, content_of, independent_of}
use Rattle.lay_steps.proofs.StepCases.{independent-replaced, independent-context}

-- places that are kept in a list of nothing
pub ruleset kept = (seam, no_boxes)

module _ (tree : BoxTree) (w : World) (apart : ℕ → Independent) (b : ℕ) (room : ℤ) where
  -- from its frame, as it is found
  pub from-replaced : (a : Independent) (f : Frame) → is_replaced_at tree b ≡ true → a ≡ replaced_independent tree w b room f → f ≡ corner_of tree w b room → a ≡ independent_of tree w apart b room
  from-replaced a f is laid shape = laid ∙ ap (replaced_independent tree w b room) shape ∙ sym (independent-replaced tree w (content_of tree w apart) b room is)

  pub from-context : (a : Independent) (f : Frame) → is_replaced_at tree b ≡ false → a ≡ context_independent tree w (content_of tree w apart) b f → f ≡ corner_of tree w b room → a ≡ independent_of tree w apart b room
  from-context a f is laid shape = laid ∙ ap (context_independent tree w (content_of tree w apart) b) shape ∙ sym (independent-context tree w (content_of tree w apart) b room is)

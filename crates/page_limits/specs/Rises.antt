-- How far boxes can make the flow go on.
use Rattle.std.specs.Prelude.{ℕ, zero, suc, ◌+◌, ◌*◌, true, false, length}
use Rattle.viz_base.specs.declared.trees.BoxTree.{BoxTree}
use Rattle.layout_semantics.specs.FlowBoxes.{flow_children}
use Rattle.layout_semantics.specs.InlineContent.{is_floated_at, has_line, content}
use Rattle.page_limits.specs.Bounds.{Bounds, grown, no_bounds, all_around, together}
use Rattle.page_limits.specs.Inline.{charge}

module _ (tree : BoxTree) (own turned : ℕ → Bounds) (s : ℕ) where
  -- a child by itself, and what is in it; a float by its coordinates of its own
  abbrev pub kid_rise : (ℕ → Bounds) → ℕ → Bounds
  kid_rise inside k =
      grown (all_around (32 * (s + 1))) (elim (is_floated_at tree k) [ true ↦ own k | false ↦ inside k ])

  -- what is in a box: its lines, or its children
  unfoldable pub content_rise_to : ℕ → ℕ → Bounds
  content_rise_to zero b = no_bounds
  content_rise_to (suc levels) b = elim (has_line tree b) [
    | true ↦ together (charge own turned s) (content tree b)
    | false ↦ together (kid_rise (content_rise_to levels)) (flow_children tree b)
  ]

  abbrev pub content_rise : ℕ → Bounds
  content_rise b = content_rise_to (length tree.boxes) b

  abbrev pub rise_in_flow : ℕ → Bounds
  rise_in_flow k = kid_rise content_rise k

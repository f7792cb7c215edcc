-- The exact values on the way to a lead: a calc may report a coefficient past its limit where one of them passes it.
use Rattle.std.specs.Prelude.{◌≡◌, ◌<◌, ℕ, ℤ, ◌+ℤ◌, true, false, List, [], ◌∷◌, length, slice_index_or}
use Rattle.viz_base.specs.declared.layouts.Band.{Band}
use Rattle.viz_base.specs.declared.layouts.Widths.{Widths}
use Rattle.viz_base.specs.declared.lengths.Length.{Length}
use Rattle.viz_base.specs.declared.trees.BoxTree.{BoxTree}
use Rattle.viz_base.specs.declared.worlds.World.{World}
use Rattle.viz_calc.specs.State.{AllSmall}
use Rattle.layout_semantics.specs.FlowBoxes.{inline_size, content_from, flow_children, block_band}
use Rattle.layout_semantics.specs.Horizontal.{flow_widths}
use Rattle.layout_semantics.specs.InlineContent.{is_floated_at}
use Rattle.layout_semantics.specs.Lengths.{margins}
use Rattle.lay_width.specs.Fitting.{UsedFits, BlockFits}
use Rattle.lay_margin.specs.declared.runs.Run.{Run}
use Rattle.lay_margin.specs.steps.Leads.{enters}

abbrev pub edges : Band ℤ → List ℤ
edges band = band.left ∷ band.right ∷ []

abbrev pub ends : Run ℤ → List ℤ
ends r = r.pos ∷ r.neg ∷ []

-- from the margin edge of a box to the edges of its content
abbrev pub content_way : ℤ → Widths ℤ → List ℤ
content_way left x = (left +ℤ x.margin_left) ∷ (left +ℤ x.margin_left +ℤ x.border_left) ∷ edges (content_from left x)

-- to a margin in a containing block
abbrev pub MarginFits : BoxTree → World → Length → Band ℤ → Type 0
MarginFits tree w length cb = AllSmall (inline_size cb ∷ []) × UsedFits tree w length (inline_size cb)

-- to the containing block of the boxes in a block
abbrev pub InsideFits : BoxTree → World → Band ℤ → ℕ → Type 0
InsideFits tree w cb b = AllSmall (inline_size cb ∷ [])
    × (BlockFits tree w b (inline_size cb) × AllSmall (content_way cb.left (flow_widths tree w b (inline_size cb))))

-- of a box in its containing block, which itself fits: to its margins above and below,
-- and to the containing block of the boxes in it where margins go on inside
pub record BoxFits (tree : BoxTree) (w : World) (cb : Band ℤ) (b : ℕ) : Type 0 where
  pub band : AllSmall (edges cb)
  pub top : MarginFits tree w (margins tree b).top cb
  pub bottom : MarginFits tree w (margins tree b).bottom cb
  pub inside : enters tree b ≡ true → InsideFits tree w cb b

-- from a box in its containing block to a box in its own: margins that
-- adjoin the top of the first may go on to the second
pub data LeadsTo (tree : BoxTree) (w : World) : Band ℤ → ℕ → Band ℤ → ℕ → Type 0 where
  itself : (cb : Band ℤ) (b : ℕ) → LeadsTo tree w cb b cb b
  inside : {cb band : Band ℤ} {b i k : ℕ} → enters tree b ≡ true → i < length (flow_children tree b)
      → is_floated_at tree (slice_index_or (flow_children tree b) i 0) ≡ false
      → LeadsTo tree w (block_band tree w cb b) (slice_index_or (flow_children tree b) i 0) band k
      → LeadsTo tree w cb b band k

-- of each of these boxes
abbrev pub LeadFits : BoxTree → World → Band ℤ → ℕ → Type 0
LeadFits tree w cb b = (band : Band ℤ) (k : ℕ) → LeadsTo tree w cb b band k → BoxFits tree w band k

-- of boxes in one containing block, where they do not float
abbrev pub KidsFit : BoxTree → World → Band ℤ → List ℕ → Type 0
KidsFit tree w band ks = AllSmall (edges band)
    × ((i : ℕ) → i < length ks → is_floated_at tree (slice_index_or ks i 0) ≡ false
    → LeadFits tree w band (slice_index_or ks i 0))

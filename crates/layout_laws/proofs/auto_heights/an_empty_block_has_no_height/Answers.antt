use Rattle.std.proofs.Common.{◌≡◌, ℕ, ℤ, pos, ◌+ℤ◌, Bool, true, false, [], refl, ap, arith}
use Rattle.std.proofs.lemmas.Int.{ints}
use Rattle.viz_base.specs.declared.trees.BoxTree.{BoxTree}
use Rattle.viz_base.specs.declared.worlds.World.{World}
use Rattle.viz_base.specs.declared.layouts.Band.{Band}
use Rattle.layout_semantics.specs.FlowBoxes.{flow_children, is_open_above, joins_last_child}
use Rattle.layout_semantics.specs.InlineContent.{has_line}
use Rattle.layout_semantics.specs.Rectangles.{Frame, content_top, border_height}
use Rattle.layout_semantics.specs.Flow.{Cleared, Progress, below, block_height, content_height, flow_step, laid_block}
use Rattle.layout_laws.proofs.auto_heights.an_empty_block_has_no_height.Goals as goal

-- where nothing has come since the content's top
none-below : (tree : BoxTree) (w : World) (joins : Bool) (top : ℤ) → block_height tree w joins top (below top [] false) ≡ pos 0
none-below tree w true top = omega (arith, ints)
none-below tree w false top = omega (arith, ints)

none-in : (tree : BoxTree) (w : World) (inside : ℕ → Band ℤ → ℤ → Progress → Progress) (cb : Band ℤ) (p : Progress) (b : ℕ) (cleared : Cleared) (f : Frame) (opens : Bool)
    → is_open_above tree b ≡ opens → has_line tree b ≡ false → flow_children tree b ≡ []
    → (laid_block tree w (flow_step tree w inside) cb p b cleared f).bottom ≡ f.corner.y +ℤ border_height f.v (content_height tree w b (pos 0))
none-in tree w inside cb p b cleared f true o l e = rw (o, l, e) refl
none-in tree w inside cb p b cleared f false o l e =
    rw (o, l, e) (ap (λ (h : ℤ). f.corner.y +ℤ border_height f.v (content_height tree w b h)) (none-below tree w (joins_last_child tree b) (content_top f)))

pub returns : goal.returns
returns c tree w inside cb p b cleared f = none-in tree w inside cb p b cleared f (is_open_above tree b) refl

-- What fits in a box that margins enter fits in the boxes in it.
use Rattle.std.proofs.Common.{◌≡◌, ℕ, ℤ, true}
use Rattle.viz_base.specs.declared.layouts.Band.{Band}
use Rattle.viz_base.specs.declared.trees.BoxTree.{BoxTree}
use Rattle.viz_base.specs.declared.worlds.World.{World}
use Rattle.layout_semantics.specs.FlowBoxes.{flow_children}
use Rattle.lay_margin.specs.Fitting.{BoxFits, itself, inside, LeadFits, KidsFit}
use Rattle.lay_margin.specs.steps.Leads.{enters, inner_band}

pub box-fits : (tree : BoxTree) (w : World) (cb : Band ℤ) (b : ℕ) → LeadFits tree w cb b → BoxFits tree w cb b
box-fits tree w cb b f = f cb b (itself cb b)

pub kids-fit : (tree : BoxTree) (w : World) (cb : Band ℤ) (b : ℕ) → enters tree b ≡ true → LeadFits tree w cb b → KidsFit tree w (inner_band tree w cb b) (flow_children tree b)
unfolding inner_band
kids-fit tree w cb b goes f =
    let here = (f cb b (itself cb b)).inside goes in
    (here.1.1.1.1, λ i l h band k r. f band k (inside goes l h r))

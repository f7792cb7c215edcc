use Rattle.std.proofs.Common.{◌<◌, length, sym, subst}
use Rattle.viz_base.specs.declared.trees.BoxTree.{BoxTree}
use Rattle.layout_laws.proofs.FlowLevels.{resolve-is}
use Rattle.layout_laws.proofs.recursions.a_lead_goes_on_through_what_is_not_cleared.Goals as goal

pub returns : goal.returns
returns c g run cb passed same = resolve-is g run cb c.args.at (subst (λ (t : BoxTree). c.args.at < length t.boxes) (sym same) c.requires.within) passed

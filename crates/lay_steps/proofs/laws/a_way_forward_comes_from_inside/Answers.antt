use Rattle.std.proofs.Common.{◌<◌, length, sym, subst}
use Rattle.viz_base.specs.declared.trees.BoxTree.{BoxTree}
use Rattle.lay_steps.proofs.Levels.{way-is}
use Rattle.lay_steps.proofs.laws.a_way_forward_comes_from_inside.Goals as goal

pub returns : goal.returns
returns c g passed cb run waiting is =
    way-is g.tree g.world g.size g.base g.floats g.least passed c.args.at cb run waiting (subst (λ (tree : BoxTree). c.args.at < length tree.boxes) (sym is) c.requires.within)

use Rattle.std.proofs.lemmas.Result.{IfOk-weaker}
use Rattle.viz_tables.proofs.LineLemmas.{lines_by}
use Rattle.viz_tables.proofs.joining.lines_of.Goals as goal

pub returns-clause-lines : goal.returns-clause-lines
returns-clause-lines c =
    IfOk-weaker c.joined.result _ _
    (λ lines h. lines_by c.args.range c.args.jobs c.into_vec.result.items c.args.turns c.in_ok-words.words c.as_slice.result.now lines c.into_vec.ensures c.as_slice.ensures
    c.in_ok-words.ensures.count c.in_ok-words.ensures.right h)
    c.joined.ensures

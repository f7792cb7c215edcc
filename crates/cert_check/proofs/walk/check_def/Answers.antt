use Rattle.std.proofs.Common.{◌∙◌, sym, FitsSigned, to_z-of_z}
use Rattle.std.specs.Int.{w128}
use Rattle.cert_semantics.specs.Nodes.{names, node_on}
use Rattle.cert_check.specs.steps.Ways.{path_at}
use Rattle.cert_check.proofs.Judging.{judged}
use Rattle.cert_check.proofs.walk.check_def.Goals as goal

pub returns-then-branch : goal.returns-then-branch
returns-then-branch c =
    let fits : FitsSigned w128 c.args.by = c.ranges.by in
    let shaped = simp to_z-of_z at c.in_ok-is_shaped_def.ensures in
    judged c.args.descent.now.job.now (node_on (path_at c.args.descent.now) (names c.args.row.now c.args.by)) c.args.number tt
    (record { shaped = sym shaped ∙ c.if-branch.true; decides = tt })

pub returns-else-branch : goal.returns-else-branch
returns-else-branch c =
    let fits : FitsSigned w128 c.args.by = c.ranges.by in
    let shaped = simp to_z-of_z at c.in_ok-is_shaped_def.ensures in
    c.rejected.ensures c.args.descent.now.job.now (node_on (path_at c.args.descent.now) (names c.args.row.now c.args.by)) (sym shaped ∙ c.if-branch.false)

use Rattle.std.proofs.Common.{◌∙◌, sym}
use Rattle.cert_semantics.specs.Nodes.{splits, node_on}
use Rattle.cert_check.specs.steps.Ways.{path_at}
use Rattle.cert_check.proofs.Judging.{judged}
use Rattle.cert_check.proofs.walk.check_split.Goals as goal

pub returns-then-not-is_shaped_row : goal.returns-then-not-is_shaped_row
returns-then-not-is_shaped_row c =
    c.rejected.ensures c.args.descent.now.job.now (node_on (path_at c.args.descent.now) (splits c.args.row.now))
    (sym c.is_shaped_row.ensures ∙ c.if-not-is_shaped_row.true)

pub returns-then-branch : goal.returns-then-branch
returns-then-branch c =
    judged c.args.descent.now.job.now (node_on (path_at c.args.descent.now) (splits c.args.row.now)) c.args.number tt
    (record { shaped = sym c.is_shaped_row.ensures ∙ c.if-not-is_shaped_row.false; decides = sym c.in_ok-has_denial.ensures ∙ c.if-branch.true })

pub returns-else-branch : goal.returns-else-branch
returns-else-branch c =
    c.rejected-else-branch.ensures c.args.descent.now.job.now (node_on (path_at c.args.descent.now) (splits c.args.row.now))
    (sym c.is_shaped_row.ensures ∙ c.if-not-is_shaped_row.false, sym c.in_ok-has_denial.ensures ∙ c.if-branch.false)

use Rattle.std.proofs.Common.{◌+◌, ◌∙◌, [], ◌∷◌, Err, ap, FitsSigned, to_z, of_z, to_z-of_z}
use Rattle.std.specs.Int.{w128}
use Rattle.std.proofs.lemmas.Result.{err_from_is_err_and}
use Rattle.cert_semantics.specs.Nodes.{names, node_on}
use Rattle.cert_check.specs.steps.Ways.{path_at}
use Rattle.cert_check.proofs.Judging.{is_judged}
use Rattle.cert_check.proofs.Tellings.{tells_one}
use Rattle.cert_check.proofs.Turns.{told_err, told_mem}
use Rattle.cert_check.proofs.visits.Visits.visit_def.Goals as goal

pub returns-in_err-check_def-clause-tells : goal.returns-in_err-check_def-clause-tells
returns-in_err-check_def-clause-tells c =
    let s = c.args.self.now.descent in
    let fits : FitsSigned w128 c.args.by = c.ranges.by in
    let p = err_from_is_err_and c.from_residual.result c.from_residual.ensures.1 in
    let found = simp to_z-of_z at c.in_err-check_def.ensures in
    told_err s.job.now (node_on (path_at s) (names c.args.row.now c.args.by)) c.args.number c.from_residual.result c.in_err-check_def.field-0.0 (p.1 ∙ ap Err p.2) found

pub enter_def-requires-clause-shaped : goal.enter_def-requires-clause-shaped
enter_def-requires-clause-shaped c =
    let s = c.args.self.now.descent in
    let node = node_on (path_at s) (names c.args.row.now (to_z w128 (of_z w128 c.args.by))) in
    (is_judged s.job.now node c.args.number c.in_ok-check_def.field-0 c.in_ok-check_def.ensures).shaped

pub returns-in_err-enter_def-clause-tells : goal.returns-in_err-enter_def-clause-tells
returns-in_err-enter_def-clause-tells c =
    let s = c.args.self.now.descent in
    let p = err_from_is_err_and c.from_residual-in_err-enter_def.result c.from_residual-in_err-enter_def.ensures.1 in
    told_mem s.job.now (node_on (path_at s) (names c.args.row.now c.args.by) ∷ []) c.args.number c.from_residual-in_err-enter_def.result (p.1 ∙ ap Err p.2)

pub returns-clause-tells : goal.returns-clause-tells
returns-clause-tells c =
    let s = c.args.self.now.descent in
    let fits : FitsSigned w128 c.args.by = c.ranges.by in
    let found = simp to_z-of_z at c.in_ok-check_def.ensures in
    tells_one s.job.now (node_on (path_at s) (names c.args.row.now c.args.by)) c.args.number (c.args.number + 1) c.in_ok-check_def.field-0 found

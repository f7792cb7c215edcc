use Rattle.std.proofs.Common.{◌+◌, ◌∙◌, [], ◌∷◌, Err, ap}
use Rattle.std.proofs.lemmas.Bool.{and_parts}
use Rattle.std.proofs.lemmas.Result.{err_from_is_err_and}
use Rattle.lin_proof.proofs.Sound.{entailment_law}
use Rattle.cert_semantics.specs.Paths.{variables, is_declared}
use Rattle.cert_semantics.specs.Facts.{facts}
use Rattle.cert_semantics.specs.Shapes.{has_variable}
use Rattle.cert_semantics.specs.Nodes.{states, node_on}
use Rattle.cert_check.specs.steps.Ways.{path_at}
use Rattle.cert_check.proofs.Judging.{is_judged}
use Rattle.cert_check.proofs.Tellings.{tells_one}
use Rattle.cert_check.proofs.Turns.{told_err, told_mem}
use Rattle.cert_check.proofs.visits.Visits.visit_lemma.Goals as goal

pub returns-in_err-check_lemma-clause-tells : goal.returns-in_err-check_lemma-clause-tells
returns-in_err-check_lemma-clause-tells c =
    let s = c.args.self.now.descent in
    let p = err_from_is_err_and c.from_residual.result c.from_residual.ensures.1 in
    told_err s.job.now (node_on (path_at s) (states c.args.row.now c.args.why.now)) c.args.number c.from_residual.result c.in_err-check_lemma.field-0.0 (p.1 ∙ ap Err p.2) c.in_err-check_lemma.ensures

pub enter_lemma-requires-clause-declared : goal.enter_lemma-requires-clause-declared
enter_lemma-requires-clause-declared c =
    let s = c.args.self.now.descent in
    let row = c.args.row.now in
    let good = is_judged s.job.now (node_on (path_at s) (states row c.args.why.now)) c.args.number c.in_ok-check_lemma.field-0 c.in_ok-check_lemma.ensures in
    (and_parts (is_declared (path_at s) row) (has_variable row) good.shaped).0

pub enter_lemma-requires-clause-entailed : goal.enter_lemma-requires-clause-entailed
enter_lemma-requires-clause-entailed c =
    let s = c.args.self.now.descent in
    let row = c.args.row.now in
    let good = is_judged s.job.now (node_on (path_at s) (states row c.args.why.now)) c.args.number c.in_ok-check_lemma.field-0 c.in_ok-check_lemma.ensures in
    entailment_law (facts s.job.now.range (path_at s)) (variables (path_at s)) row c.args.why.now good.decides

pub returns-in_err-enter_lemma-clause-tells : goal.returns-in_err-enter_lemma-clause-tells
returns-in_err-enter_lemma-clause-tells c =
    let s = c.args.self.now.descent in
    let p = err_from_is_err_and c.from_residual-in_err-enter_lemma.result c.from_residual-in_err-enter_lemma.ensures.1 in
    told_mem s.job.now (node_on (path_at s) (states c.args.row.now c.args.why.now) ∷ []) c.args.number c.from_residual-in_err-enter_lemma.result (p.1 ∙ ap Err p.2)

pub returns-clause-tells : goal.returns-clause-tells
returns-clause-tells c =
    let s = c.args.self.now.descent in
    tells_one s.job.now (node_on (path_at s) (states c.args.row.now c.args.why.now)) c.args.number (c.args.number + 1) c.in_ok-check_lemma.field-0 c.in_ok-check_lemma.ensures

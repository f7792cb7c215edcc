use Rattle.std.proofs.lemmas.Result.{err_from_is_err_and}
use Rattle.cert_text.specs.steps.Whole.{piece_of, read_node, read_piece}
use Rattle.cert_text.proofs.CursorLemmas.{gives_err}
use Rattle.cert_text.proofs.NodeTexts.{node_more, node_refused}
use Rattle.cert_text.proofs.nodes.+nodes.Goals as goal

pub read_node-returns-in_err-lines : goal.read_node-returns-in_err-lines
read_node-returns-in_err-lines t c =
    let p = err_from_is_err_and c.from_residual.result c.from_residual.ensures.1 in
    let text = c.args.cursor.now.rest.now in
    rw (p.1, p.2) (gives_err _ (read_piece c.args.form c.args.levels text) (read_node c.args.form c.args.levels text) _ (λ e h. node_refused c.args.form c.args.levels text e h) c.in_err-lines.ensures.gives)

pub read_node-returns : goal.read_node-returns
read_node-returns t c = rw (node_more c.args.form c.args.levels c.args.cursor.now.rest.now c.read_lines.new.cursor.rest.now (piece_of c.in_ok-lines.lines) c.in_ok-lines.ensures.gives) c.read_below.ensures

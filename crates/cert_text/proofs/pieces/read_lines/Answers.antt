use Rattle.cert_text.proofs.PieceTexts.{lines_have}
use Rattle.cert_text.proofs.pieces.read_lines.Goals as goal

pub returns-clause-has : goal.returns-clause-has
returns-clause-has c = lines_have c.args.form c.args.levels c.args.cursor.now.rest.now c.read_any.new.cursor.rest.now c.read_any.result c.read_any.ensures

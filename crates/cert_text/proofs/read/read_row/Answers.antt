use Rattle.cert_text.proofs.Rows.{read_canonical}
use Rattle.cert_text.proofs.read.read_row.Goals as goal

pub invariant_of-result : goal.invariant_of-result
invariant_of-result c = read_canonical c.args.is_def _ _ _ c.in_ok-terms.ensures

use Rattle.sym_calc.proofs.Refuted.{right_is_refuted, wrong_is_fault}
use Rattle.sym_calc.proofs.laws.answers_are_refuted_below_their_path.Goals as goal

pub returns : goal.returns
returns c = record { refuted = right_is_refuted; wrong = wrong_is_fault }

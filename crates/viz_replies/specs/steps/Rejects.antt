-- The line of a rejected certificate in two parts: its words, and what stands behind them.
use Rattle.std.specs.Prelude.{ℕ, List, [], ◌++◌, codes}
use Rattle.cert_text.specs.steps.Write.{row_bytes}
use Rattle.cert_check.specs.declared.verdicts.Reject.{Reject}
use Rattle.cert_check.specs.declared.verdicts.Reject.TheVariants.{OtherJob, Shape, Line, Untrue, Unmet, Differs, Short, Left, Coeff}
use Rattle.lin_proof.specs.Form.{Form}
use Rattle.viz_replies.specs.Lines.{spaced}
use Rattle.viz_replies.specs.Screens.{spaced_world}

abbrev pub reject_words : Reject → List ℕ
reject_words OtherJob = codes "other-job"
reject_words (Shape node) = codes "shape"
reject_words (Line node number line) = codes "line"
reject_words (Untrue node world) = codes "untrue"
reject_words (Unmet node) = codes "unmet"
reject_words (Differs node number ours theirs) = codes "differs"
reject_words (Short node) = codes "short"
reject_words (Left node count) = codes "left"
reject_words (Coeff node) = codes "coeff"

abbrev pub rows_text : (ours theirs : Form) → List ℕ
rows_text ours theirs = codes " " ++ (row_bytes ours ++ (codes " / " ++ row_bytes theirs))

abbrev pub reject_places : ℕ → Reject → List ℕ
reject_places form OtherJob = []
reject_places form (Shape node) = spaced node
reject_places form (Line node number line) = spaced node ++ (spaced number ++ spaced line)
reject_places form (Untrue node world) = spaced node ++ spaced_world form world
reject_places form (Unmet node) = spaced node
reject_places form (Differs node number ours theirs) = spaced node ++ (spaced number ++ rows_text ours theirs)
reject_places form (Short node) = spaced node
reject_places form (Left node count) = spaced node ++ spaced count
reject_places form (Coeff node) = spaced node

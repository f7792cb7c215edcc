use Rattle.std.proofs.Common.{true, false}
use Rattle.std.specs.Prelude.{slice_get}
use Rattle.logic_semantics.specs.Terms.{term_value}
use Rattle.logic_semantics.proofs.Meanings.{truth-Const, truth-Cmp, truth-Overlap, truth-Same}
use Rattle.logic_semantics.proofs.Atoms.{related, one_place, common_cell}
use Rattle.logic_semantics.proofs.truth_of_atoms.Goals as goal

pub returns-clause-constants : goal.returns-clause-constants
returns-clause-constants c = λ scene names. (truth-Const scene true names, truth-Const scene false names)

pub returns-clause-comparisons : goal.returns-clause-comparisons
returns-clause-comparisons c = truth-Cmp

pub returns-clause-signs : goal.returns-clause-signs
returns-clause-signs c = λ scene left right sign names. rw (truth-Cmp scene left right sign names) (related sign (term_value scene names left) (term_value scene names right))

pub returns-clause-sames : goal.returns-clause-sames
returns-clause-sames c = λ scene a b names. rw (truth-Same scene a b names) (one_place (slice_get names a) (slice_get names b))

pub returns-clause-overlaps : goal.returns-clause-overlaps
returns-clause-overlaps c = λ scene a b names first second is_a is_b some_a some_b. rw (truth-Overlap scene a b names, is_a, is_b) (common_cell first.border second.border some_a some_b)

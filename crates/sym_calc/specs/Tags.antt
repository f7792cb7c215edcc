-- One number for the form, the facts and the floors of a path and for a tape of answers, and another for all others.
use Rattle.std.specs.Prelude.{ℕ, zero, suc, ◌+◌, List}
use Rattle.std.specs.Coded.{Coded, coded_list, coded×}
use base.Stored.{Gv, gnil, gnum, gcons}
use Rattle.lin_proof.specs.Form.{Form}
use Rattle.lin_proof.specs.contracts.row.Row as a_row
use Rattle.lin_proof.specs.declared.derivation.Answer.{Answer}
use Rattle.lin_proof.specs.contracts.derivation.Answer as an_answer
use Rattle.sym_calc.specs.declared.floors.Floor.{Floor}
use Rattle.sym_calc.specs.contracts.floors.Floor as a_floor

-- 2^a times the odd number of b
unfoldable pub pair : ℕ → ℕ → ℕ
pair zero b = b + b + 1
pair (suc a) b = pair a b + pair a b

-- the number of a tree of numbers
unfoldable pub number_of : Gv → ℕ
number_of gnil = 0
number_of (gnum n) = pair 0 n
number_of (gcons a b) = pair (suc (number_of a)) (number_of b)

abbrev pub given_code : Coded (List Form × (List Floor × List Answer))
given_code = coded× (coded_list a_row.the_row.coded)
    (coded× (coded_list a_floor.the_row.coded) (coded_list an_answer.the_row.coded))

unfoldable pub tag : ℕ → List Form → List Floor → List Answer → ℕ
tag form facts floors tape = pair form (number_of (given_code.code (facts, (floors, tape))))

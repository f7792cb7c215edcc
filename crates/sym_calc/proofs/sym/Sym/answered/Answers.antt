use Rattle.std.proofs.Common.{◌≡◌, ◌≤◌, length, Option, None, Some, sym, ◌∙◌, ap, refl, subst, arith}
use Rattle.std.specs.Prelude.{slice_get, is_some, IfOk}
use Rattle.std.proofs.lemmas.Bool.Decides.{nat_tests}
use Rattle.std.proofs.lemmas.Option.{slice_get_read}
use Rattle.lin_proof.specs.declared.derivation.Answer.{Answer}
use Rattle.sym_calc.specs.Calc.{facts_of, variables_of}
use Rattle.sym_calc.specs.Troubles.{trouble_by, first_of}
use Rattle.sym_calc.proofs.Histories.{accounted_short, none_past}
use Rattle.sym_calc.proofs.sym.Sym.answered.Goals as goal

pub stuck-requires : goal.stuck-requires
stuck-requires c =
    let s = c.args.self.now in
    let lookup = c.in-None.ensures.lookup in
    let past : length s.tape.now ≤ s.taken = grind (arith, nat_tests) in
    accounted_short s.path.now.origin.form s.path.now.facts s.path.now.floors s.floors s.tape.now s.taken s.trouble (none_past s.tape.now s.taken past) s.accounted

pub returns-in-Some-clause-answer : goal.returns-in-Some-clause-answer
returns-in-Some-clause-answer c =
    let s = c.args.self.now in
    let found = c.in-Some.ensures.lookup in
    let is : slice_get s.tape.now s.taken ≡ Some c.in-Some.answer.now = slice_get_read s.tape.now (length s.tape.now) s.taken c.in-Some.answer.now refl found.3.0 found.1 in
    subst (λ (o : Option Answer). IfOk c.answered_by.result (λ yes. trouble_by (facts_of s) (variables_of s) s.taken c.args.row o ≡ None)) (sym is) c.answered_by.ensures.answer

pub returns-in-Some-clause-opened : goal.returns-in-Some-clause-opened
returns-in-Some-clause-opened c =
    let s = c.args.self.now in
    let found = c.in-Some.ensures.lookup in
    let is : slice_get s.tape.now s.taken ≡ Some c.in-Some.answer.now = slice_get_read s.tape.now (length s.tape.now) s.taken c.in-Some.answer.now refl found.3.0 found.1 in
    λ e. ap (λ (o : Option Answer). is_some (trouble_by (facts_of s) (variables_of s) s.taken c.args.row o)) is ∙ c.answered_by.ensures.opened e

pub returns-in-Some-clause-trouble : goal.returns-in-Some-clause-trouble
returns-in-Some-clause-trouble c =
    let s = c.args.self.now in
    let found = c.in-Some.ensures.lookup in
    let is : slice_get s.tape.now s.taken ≡ Some c.in-Some.answer.now = slice_get_read s.tape.now (length s.tape.now) s.taken c.in-Some.answer.now refl found.3.0 found.1 in
    λ e. c.answered_by.ensures.trouble e ∙ ap (λ (o : Option Answer). first_of s.trouble (trouble_by (facts_of s) (variables_of s) s.taken c.args.row o)) (sym is)

pub returns-in-None-clause-opened : goal.returns-in-None-clause-opened
returns-in-None-clause-opened c =
    let s = c.args.self.now in
    let lookup = c.in-None.ensures.lookup in
    let past : length s.tape.now ≤ s.taken = grind (arith, nat_tests) in
    λ e. ap (λ (o : Option Answer). is_some (trouble_by (facts_of s) (variables_of s) s.taken c.args.row o)) (none_past s.tape.now s.taken past)

pub returns-in-None-clause-trouble : goal.returns-in-None-clause-trouble
returns-in-None-clause-trouble c =
    let s = c.args.self.now in
    let lookup = c.in-None.ensures.lookup in
    let past : length s.tape.now ≤ s.taken = grind (arith, nat_tests) in
    λ e. c.stuck.ensures.trouble ∙ ap (λ (o : Option Answer). first_of s.trouble (trouble_by (facts_of s) (variables_of s) s.taken c.args.row o)) (sym (none_past s.tape.now s.taken past))

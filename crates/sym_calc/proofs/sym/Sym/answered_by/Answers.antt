use Rattle.std.proofs.Common.{◌≡◌, ◌+◌, true, false, Some, sym, ap, ◌∙◌, subst, rules}
use Rattle.std.specs.Prelude.{slice_get}
use Rattle.viz_calc.specs.State.{State, Grows}
use Rattle.cert_semantics.specs.Shapes.{same_row}
use Rattle.sym_calc.specs.declared.troubles.Trouble.TheVariants.{Line, Differs}
use Rattle.sym_calc.specs.Troubles.{first_of}
use Rattle.sym_calc.specs.History.{is_accounted}
use Rattle.sym_calc.specs.Calc.{facts_of, state_of}
use Rattle.sym_calc.proofs.Answering.{answer_right}
use Rattle.sym_calc.proofs.Knowing.{open_meets}
use Rattle.sym_calc.proofs.States.{grows_then}
use Rattle.sym_calc.proofs.Histories.{accounted_took, accounted_differs, accounted_line, fault_is}
use Rattle.sym_calc.proofs.sym.Sym.answered_by.Goals as goal

pub returns-then-not-same_row-clause-grows : goal.returns-then-not-same_row-clause-grows
returns-then-not-same_row-clause-grows c = grows_then _ _ _ c.in_ok-contrary.ensures.grows c.stuck.ensures.grows

pub returns-in-None-clause-value : goal.returns-in-None-clause-value
returns-in-None-clause-value c =
    let same = c.in_ok-fault_of.ensures.state in
    let line = sym c.in_ok-fault_of.ensures.line ∙ c.in-None.is in
    λ e met. answer_right (facts_of c.contrary_of.new.self) c.args.answer.now.yes c.args.row c.in_ok-contrary.contrary _ c.args.answer.now.why
    c.in_ok-contrary.ensures.exact.0 line e.terms
    (open_meets c.contrary_of.new.self.path.now.origin (facts_of c.contrary_of.new.self) e (ap (λ (s : State). s.is_open e) (sym same) ∙ met))

pub returns-clause-grows : goal.returns-clause-grows
returns-clause-grows c =
    grows_then _ _ _ c.in_ok-contrary.ensures.grows
    (subst (λ s. Grows s (state_of c.stuck-in-Some.new.self)) c.in_ok-fault_of.ensures.state c.stuck-in-Some.ensures.grows)

pub stuck-requires : goal.stuck-requires
stuck-requires c =
    let s = c.contrary_of.new.self in
    let answer = c.args.answer.now in
    let rest = c.in_ok-contrary.ensures.rest in
    let number : c.in-Ok.number ≡ c.args.self.now.taken = search rules in
    let theirs : c.in_ok-theirs.theirs ≡ answer.row = search rules in
    let other : same_row c.args.row answer.row ≡ false = search rules in
    let is = (λ i. slice_get (rest.tape i) (rest.taken i)) ∙ c.requires.next in
    (λ i. is_accounted s.path.now.origin.form s.path.now.facts s.path.now.floors s.floors s.tape.now (s.taken + 1)
    (first_of s.trouble (Some (Differs ((number ∙ sym rest.taken) i) c.args.row (theirs i)))))
    ∙ accounted_differs s.path.now.origin.form s.path.now.facts s.path.now.floors s.floors s.tape.now s.taken (s.taken + 1) answer c.args.row s.trouble is other s.accounted

pub invariant_of-self-clause-accounted : goal.invariant_of-self-clause-accounted
invariant_of-self-clause-accounted c =
    let s = c.contrary_of.new.self in
    let answer = c.args.answer.now in
    let rest = c.in_ok-contrary.ensures.rest in
    let later = c.in_ok-fault_of.ensures.rest in
    let same : same_row c.args.row answer.row ≡ true = search rules in
    let is = (λ i. slice_get (rest.tape i) (rest.taken i)) ∙ c.requires.next in
    let right = fault_is s.path.now.origin.form s.path.now.facts s.rows s.path.now.floors s.floors c.args.row c.in_ok-contrary.contrary answer c.in_ok-fault_of.field-0 s.made same
    c.in_ok-contrary.ensures.exact.0 c.in_ok-fault_of.ensures.line ∙ c.in-None.is in
    (λ i. is_accounted (later.path i).origin.form (later.path i).facts (later.path i).floors (later.floors i) (later.tape i) (later.taken i + 1) (later.trouble i))
    ∙ accounted_took s.path.now.origin.form s.path.now.facts s.path.now.floors s.floors s.tape.now s.taken answer is right s.trouble s.accounted

pub stuck-requires-in-Some : goal.stuck-requires-in-Some
stuck-requires-in-Some c =
    let s = c.contrary_of.new.self in
    let answer = c.args.answer.now in
    let rest = c.in_ok-contrary.ensures.rest in
    let later = c.in_ok-fault_of.ensures.rest in
    let number : c.in-Ok.number ≡ c.args.self.now.taken = search rules in
    let same : same_row c.args.row answer.row ≡ true = search rules in
    let is = (λ i. slice_get (rest.tape i) (rest.taken i)) ∙ c.requires.next in
    let wrong = fault_is s.path.now.origin.form s.path.now.facts s.rows s.path.now.floors s.floors c.args.row c.in_ok-contrary.contrary answer c.in_ok-fault_of.field-0 s.made same
    c.in_ok-contrary.ensures.exact.0 c.in_ok-fault_of.ensures.line ∙ c.in-Some.is in
    (λ i. is_accounted (later.path i).origin.form (later.path i).facts (later.path i).floors (later.floors i) (later.tape i) (later.taken i + 1)
    (first_of (later.trouble i) (Some (Line ((number ∙ sym rest.taken) i) c.in-Some.line))))
    ∙ accounted_line s.path.now.origin.form s.path.now.facts s.path.now.floors s.floors s.tape.now s.taken (s.taken + 1) answer c.in-Some.line s.trouble is wrong s.accounted

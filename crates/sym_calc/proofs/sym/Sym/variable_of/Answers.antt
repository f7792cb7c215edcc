use Rattle.std.proofs.Common.{◌+◌, ◌++◌, sym, ap, ◌∙◌, subst}
use Rattle.std.specs.Prelude.{Ok}
use Rattle.sym_calc.specs.Given.{IsGivenWithin}
use Rattle.sym_calc.specs.Divided.{floor_variable, is_floor}
use Rattle.sym_calc.specs.Calc.{facts_of, named_of}
use Rattle.sym_calc.proofs.Fitting.{named_before, named_behind, named_next}
use Rattle.sym_calc.proofs.Knowing.{open_meets}
use Rattle.sym_calc.proofs.States.{floor_before, floor_behind}
use Rattle.sym_calc.proofs.sym.Sym.variable_of.Goals as goal

pub returns-in-Some-clause-value : goal.returns-in-Some-clause-value
returns-in-Some-clause-value c =
    let s = c.args.self.now in
    λ e met. ap (λ n. e.terms (c.in-Some.place + n)) c.axis_count.ensures ∙ floor_before s.path.now.origin.form (s.path.now.facts ++ s.rows) s.path.now.floors s.floors s.known c.args.floor c.in-Some.place (sym c.in-Some.ensures.place) e.terms (open_meets s.path.now.origin (facts_of s) e met)

pub returns-in-Some-place_of-clause-value : goal.returns-in-Some-place_of-clause-value
returns-in-Some-place_of-clause-value c =
    let s = c.args.self.now in
    λ e met. (λ i. e.terms (c.len.ensures i + c.in-Some-place_of.place + c.axis_count-in-Some-place_of.ensures i))
    ∙ floor_behind s.path.now.origin.form (s.path.now.facts ++ s.rows) s.path.now.floors s.floors s.known c.args.floor c.in-Some-place_of.place (sym c.in-Some-place_of.ensures.place) e.terms (open_meets s.path.now.origin (facts_of s) e met)

pub returns-in-Some-clause-exact : goal.returns-in-Some-clause-exact
returns-in-Some-clause-exact c =
    let s = c.args.self.now in
    let some = sym c.in-Some.ensures.found in
    subst (λ n. IsGivenWithin (Ok (c.in-Some.place + n)) (floor_variable s.path.now.origin.form (named_of s) c.args.floor) (is_floor s.path.now.origin.form (named_of s) c.args.floor)) (sym c.axis_count.ensures)
    (named_before s.path.now.origin.form c.args.floor s.path.now.floors s.floors c.in-Some.place (sym c.in-Some.ensures.place) some)

pub returns-in-Some-place_of-clause-exact : goal.returns-in-Some-place_of-clause-exact
returns-in-Some-place_of-clause-exact c =
    let s = c.args.self.now in
    let first = sym c.in_default.ensures.found in
    let some = sym c.in-Some-place_of.ensures.found in
    subst (λ n. IsGivenWithin (Ok n) (floor_variable s.path.now.origin.form (named_of s) c.args.floor) (is_floor s.path.now.origin.form (named_of s) c.args.floor))
    (sym (λ i. c.len.ensures i + c.in-Some-place_of.place + c.axis_count-in-Some-place_of.ensures i))
    (named_behind s.path.now.origin.form c.args.floor s.path.now.floors s.floors c.in-Some-place_of.place first (sym c.in-Some-place_of.ensures.place) some)

pub returns-clause-exact : goal.returns-clause-exact
returns-clause-exact c =
    let s = c.args.self.now in
    let first = sym c.in_default.ensures.found in
    let later = sym c.in_default-place_of.ensures.found in
    named_next s.path.now.origin.form c.args.floor s.path.now.floors s.floors c.name.result first later c.name.ensures.exact

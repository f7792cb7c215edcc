use Rattle.std.proofs.Common.{◌≡◌, ◌≢◌, ◌+◌, ◌||◌, cond, negsuc, [], rules, refl, sym, ap, ◌∙◌, subst, true≢false, FitsSigned, to_z-of_z}
use Rattle.std.specs.Int.{w128}
use Rattle.std.specs.Int.RustNames.{int_le}
use Rattle.std.specs.Prelude.{pos, Bool, slice_get, is_some, OnOk}
use Rattle.std.proofs.lemmas.Result.{IfOk-weaker, err_from_is_err_and}
use Rattle.lin_proof.specs.Form.{Form, plus}
use Rattle.lin_proof.specs.Exact.{IsExact}
use Rattle.sym_calc.specs.Calc.{contrary_fits}
use Rattle.sym_calc.specs.Told.{learned, tells}
use Rattle.sym_calc.proofs.Fitting.{halted_within, within_same, constant_asks, constant_fits_too, variable_asks, variable_fits_too}
use Rattle.sym_calc.proofs.Rests.{some_variable}
use Rattle.sym_calc.proofs.Numbers.{constant_le, row_le}
use Rattle.sym_calc.proofs.States.{grows_then}
use Rattle.sym_calc.proofs.sym.SymCalc.at_most.Goals as goal

pub returns-then-is_empty-clause-value : goal.returns-then-is_empty-clause-value
returns-then-is_empty-clause-value c =
    let exact = plus c.args.b.now (negsuc 0) c.args.a.now in
    let d = c.in_ok-difference.difference in
    let is : d ≡ exact = (subst (λ a. IsExact a exact) c.in_ok-difference.ensures.row c.add_scaled-difference.ensures).0 in
    let none : d.terms ≡ _ = ap (λ (f : Form). f.terms) (sym c.difference.view_is) ∙ c.if-is_empty.ensures.0 refl in
    let number : c.difference.inside.k ≡ d.k = ap (λ (f : Form). f.k) c.difference.view_is in
    let fits : FitsSigned w128 c.difference.inside.k = search rules in
    λ e met. simp to_z-of_z (ap (int_le (pos 0)) number ∙ constant_le c.args.a.now c.args.b.now d e.terms is none)

pub returns-clause-grows : goal.returns-clause-grows
returns-clause-grows c = grows_then _ _ _ c.in_ok-difference.ensures.grows c.recalled.ensures.grows

pub returns-clause-value : goal.returns-clause-value
returns-clause-value c =
    let exact = plus c.args.b.now (negsuc 0) c.args.a.now in
    let d = c.in_ok-difference.difference in
    let is : d ≡ exact = (subst (λ a. IsExact a exact) c.in_ok-difference.ensures.row c.add_scaled-difference.ensures).0 in
    IfOk-weaker c.recalled.result _ _ (λ r h e met. h e met ∙ row_le c.args.a.now c.args.b.now d e.terms is) c.recalled.ensures.value

pub returns-in_err-difference-clause-within : goal.returns-in_err-difference-clause-within
returns-in_err-difference-clause-within c =
    let exact = plus c.args.b.now (negsuc 0) c.args.a.now in
    let p = err_from_is_err_and c.from_residual.result c.from_residual.ensures.1 in
    rw (p.1, p.2) (halted_within Bool c.in_err-difference.field-0.0 exact _ (c.in_err-difference.ensures.exact exact c.add_scaled-difference.ensures))

pub returns-then-is_empty-clause-within : goal.returns-then-is_empty-clause-within
returns-then-is_empty-clause-within c =
    let exact = plus c.args.b.now (negsuc 0) c.args.a.now in
    let given = c.in_ok-difference.ensures.exact exact c.add_scaled-difference.ensures in
    let none : c.in_ok-difference.difference.terms ≡ _ = ap (λ (f : Form). f.terms) (sym c.difference.view_is) ∙ c.if-is_empty.ensures.0 refl in
    constant_fits_too (tells c.args.self.now.told (record { row = exact })) exact _ (ap (λ (f : Form). f.terms) (sym given.0) ∙ none) given.1

pub returns-then-is_empty-clause-taken : goal.returns-then-is_empty-clause-taken
returns-then-is_empty-clause-taken c =
    let s = c.args.self.now in
    let exact = plus c.args.b.now (negsuc 0) c.args.a.now in
    let given = c.in_ok-difference.ensures.exact exact c.add_scaled-difference.ensures in
    let none : c.in_ok-difference.difference.terms ≡ _ = ap (λ (f : Form). f.terms) (sym c.difference.view_is) ∙ c.if-is_empty.ensures.0 refl in
    c.in_ok-difference.ensures.rest.taken
    ∙ constant_asks (tells s.told (record { row = exact })) exact (ap (λ (f : Form). f.terms) (sym given.0) ∙ none) (s.taken + 1) s.taken

pub returns-then-is_empty-clause-told : goal.returns-then-is_empty-clause-told
returns-then-is_empty-clause-told c =
    let s = c.args.self.now in
    let exact = plus c.args.b.now (negsuc 0) c.args.a.now in
    let given = c.in_ok-difference.ensures.exact exact c.add_scaled-difference.ensures in
    let none : c.in_ok-difference.difference.terms ≡ _ = ap (λ (f : Form). f.terms) (sym c.difference.view_is) ∙ c.if-is_empty.ensures.0 refl in
    c.in_ok-difference.ensures.rest.told
    ∙ constant_asks (tells s.told (record { row = exact })) exact (ap (λ (f : Form). f.terms) (sym given.0) ∙ none) (learned s.told (record { row = exact }) _) s.told

pub returns-clause-within : goal.returns-clause-within
returns-clause-within c =
    let s = c.args.self.now in
    let exact = plus c.args.b.now (negsuc 0) c.args.a.now in
    let given = c.in_ok-difference.ensures.exact exact c.add_scaled-difference.ensures in
    let rest = c.in_ok-difference.ensures.rest in
    let some : exact.terms ≢ [] = λ none. true≢false (sym (c.is_empty.ensures.1 (ap (λ (f : Form). f.terms) (c.difference.view_is ∙ given.0) ∙ none)) ∙ c.if-is_empty.false) in
    within_same c.recalled.result _ _
    ((λ i. is_some (tells (rest.told i) (record { row = given.0 i })) || contrary_fits (given.0 i) (slice_get (rest.tape i) (rest.taken i)))
    ∙ variable_fits_too (tells s.told (record { row = exact })) exact _ (some_variable exact some) given.1)
    c.recalled.ensures.within

pub returns-clause-taken : goal.returns-clause-taken
returns-clause-taken c =
    let s = c.args.self.now in
    let exact = plus c.args.b.now (negsuc 0) c.args.a.now in
    let given = c.in_ok-difference.ensures.exact exact c.add_scaled-difference.ensures in
    let rest = c.in_ok-difference.ensures.rest in
    let some : exact.terms ≢ [] = λ none. true≢false (sym (c.is_empty.ensures.1 (ap (λ (f : Form). f.terms) (c.difference.view_is ∙ given.0) ∙ none)) ∙ c.if-is_empty.false) in
    subst (λ n. OnOk c.recalled.result (c.recalled.new.self.taken ≡ n))
    ((λ i. cond (is_some (tells (rest.told i) (record { row = given.0 i }))) (rest.taken i) (rest.taken i + 1))
    ∙ variable_asks (tells s.told (record { row = exact })) exact (some_variable exact some) (s.taken + 1) s.taken)
    c.recalled.ensures.taken

pub returns-clause-told : goal.returns-clause-told
returns-clause-told c =
    let s = c.args.self.now in
    let exact = plus c.args.b.now (negsuc 0) c.args.a.now in
    let given = c.in_ok-difference.ensures.exact exact c.add_scaled-difference.ensures in
    let rest = c.in_ok-difference.ensures.rest in
    let some : exact.terms ≢ [] = λ none. true≢false (sym (c.is_empty.ensures.1 (ap (λ (f : Form). f.terms) (c.difference.view_is ∙ given.0) ∙ none)) ∙ c.if-is_empty.false) in
    IfOk-weaker c.recalled.result _ _
    (λ yes h. h ∙ ((λ i. cond (is_some (tells (rest.told i) (record { row = given.0 i }))) (rest.told i) (learned (rest.told i) (record { row = given.0 i }) yes))
    ∙ variable_asks (tells s.told (record { row = exact })) exact (some_variable exact some) (learned s.told (record { row = exact }) yes) s.told))
    c.recalled.ensures.told

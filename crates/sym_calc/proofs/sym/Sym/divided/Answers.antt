use Rattle.std.proofs.Common.{◌≡◌, ◌≢◌, pos, [], ap, sym, ◌∙◌, refl, subst, true≢false, FitsSigned, to_z-of_z, IsTrue}
use Rattle.std.specs.Int.{w128}
use Rattle.std.proofs.lemmas.Result.{IfOk-weaker, err_from_is_err_and}
use Rattle.lin_proof.specs.Form.{Form, value, plus}
use Rattle.cert_semantics.specs.Facts.{row_of}
use Rattle.cert_semantics.specs.Shapes.{has_remainders}
use Rattle.sym_calc.specs.Calc.{named_of}
use Rattle.sym_calc.proofs.States.{grows_then, counted_is}
use Rattle.sym_calc.proofs.Fitting.{given_alone, floor_halted, given_with}
use Rattle.sym_calc.proofs.Quotients.{alone_by, with_by}
use Rattle.sym_calc.proofs.Rests.{rest_has_remainders, rest_by_more, some_variable}
use Rattle.sym_calc.proofs.sym.Sym.divided.Goals as goal

pub returns-then-is_empty-clause-value : goal.returns-then-is_empty-clause-value
returns-then-is_empty-clause-value c =
    let fits : FitsSigned w128 c.args.by = c.ranges.by in
    let whole = simp to_z-of_z at c.in_ok-whole.ensures in
    let rest = simp to_z-of_z at c.in_ok-rest.ensures in
    let none = c.if-is_empty.ensures.0 refl in
    λ e met. alone_by c.args.by c.args.row.now c.in_ok-whole.whole c.in_ok-rest.rest e.terms c.requires whole rest
    (ap (λ (g : Form). g.terms) (sym c.rest.view_is) ∙ none)

pub variable_of-requires-clause-some : goal.variable_of-requires-clause-some
variable_of-requires-clause-some c =
    let some : c.in_ok-rest.rest.terms ≢ [] = λ none. true≢false (sym (c.is_empty.ensures.1 (ap (λ (g : Form). g.terms) c.rest.view_is ∙ none)) ∙ c.if-is_empty.false) in
    some_variable c.in_ok-rest.rest some

pub variable_of-requires-clause-number : goal.variable_of-requires-clause-number
variable_of-requires-clause-number c =
    let some : c.in_ok-rest.rest.terms ≢ [] = λ none. true≢false (sym (c.is_empty.ensures.1 (ap (λ (g : Form). g.terms) c.rest.view_is ∙ none)) ∙ c.if-is_empty.false) in
    let fits : FitsSigned w128 c.args.by = c.ranges.by in
    let rest = simp to_z-of_z at c.in_ok-rest.ensures in
    simp to_z-of_z (rest_by_more c.args.by c.args.row.now c.requires (λ none. some (ap (λ (g : Form). g.terms) rest ∙ none)))

pub variable_of-requires-clause-remainders : goal.variable_of-requires-clause-remainders
variable_of-requires-clause-remainders c =
    let fits : FitsSigned w128 c.args.by = c.ranges.by in
    let rest = simp to_z-of_z at c.in_ok-rest.ensures in
    simp to_z-of_z (subst (λ f. IsTrue (has_remainders c.args.by f)) (sym rest) (rest_has_remainders c.args.by c.args.row.now c.requires))

pub returns-clause-grows : goal.returns-clause-grows
returns-clause-grows c = grows_then _ _ _ c.in_ok-variable.ensures.grows c.counted.ensures.grows

pub returns-clause-value : goal.returns-clause-value
returns-clause-value c =
    let fits : FitsSigned w128 c.args.by = c.ranges.by in
    let whole = simp to_z-of_z at c.in_ok-whole.ensures in
    let rest = simp to_z-of_z at c.in_ok-rest.ensures in
    let floor = simp to_z-of_z at c.in_ok-variable.ensures.value in
    let x = c.in_ok-variable.variable in
    let exact = plus c.in_ok-whole.whole (pos 1) (row_of (pos 0) (pos 1) x) in
    IfOk-weaker c.counted.result (λ r. r ≡ exact) _
    (λ r is e met. ap (λ g. value g e.terms) is
    ∙ with_by c.args.by c.args.row.now c.in_ok-whole.whole c.in_ok-rest.rest x e.terms c.requires whole rest (floor e (c.counted.ensures.grows.closes e met)))
    (counted_is c.with_variable-sum.result exact c.counted.result c.with_variable-sum.ensures c.counted.ensures.row)

pub returns-then-is_empty-clause-exact : goal.returns-then-is_empty-clause-exact
returns-then-is_empty-clause-exact c =
    let fits : FitsSigned w128 c.args.by = c.ranges.by in
    let whole = simp to_z-of_z at c.in_ok-whole.ensures in
    let rest = simp to_z-of_z at c.in_ok-rest.ensures in
    let none = c.if-is_empty.ensures.0 refl in
    given_alone c.args.self.now.path.now.origin.form (named_of c.args.self.now) c.args.by c.args.row.now c.in_ok-rest.rest rest c.in_ok-whole.whole whole (ap (λ (g : Form). g.terms) (sym c.rest.view_is) ∙ none)

pub returns-in_err-variable-clause-exact : goal.returns-in_err-variable-clause-exact
returns-in_err-variable-clause-exact c =
    let fits : FitsSigned w128 c.args.by = c.ranges.by in
    let rest = simp to_z-of_z at c.in_ok-rest.ensures in
    let floor = simp to_z-of_z at c.in_err-variable.ensures.exact in
    let some : c.in_ok-rest.rest.terms ≢ [] = λ none. true≢false (sym (c.is_empty.ensures.1 (ap (λ (g : Form). g.terms) c.rest.view_is ∙ none)) ∙ c.if-is_empty.false) in
    let p = err_from_is_err_and c.from_residual-in_err-variable.result c.from_residual-in_err-variable.ensures.1 in
    rw (p.1, p.2) (floor_halted c.args.self.now.path.now.origin.form (named_of c.args.self.now) c.args.by c.args.row.now c.in_ok-rest.rest rest (some_variable c.in_ok-rest.rest some) _ floor)

pub returns-clause-exact : goal.returns-clause-exact
returns-clause-exact c =
    let fits : FitsSigned w128 c.args.by = c.ranges.by in
    let whole = simp to_z-of_z at c.in_ok-whole.ensures in
    let rest = simp to_z-of_z at c.in_ok-rest.ensures in
    let floor = simp to_z-of_z at c.in_ok-variable.ensures.exact in
    let some : c.in_ok-rest.rest.terms ≢ [] = λ none. true≢false (sym (c.is_empty.ensures.1 (ap (λ (g : Form). g.terms) c.rest.view_is ∙ none)) ∙ c.if-is_empty.false) in
    given_with c.args.self.now.path.now.origin.form (named_of c.args.self.now) c.args.by c.args.row.now c.in_ok-rest.rest rest (some_variable c.in_ok-rest.rest some) c.in_ok-whole.whole c.in_ok-variable.variable whole floor
    c.counted.result (c.counted.ensures.exact _ c.with_variable-sum.ensures)

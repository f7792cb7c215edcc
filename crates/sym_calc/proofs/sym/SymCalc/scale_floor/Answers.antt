use Rattle.std.proofs.Common.{◌≡◌, ◌++◌, ◌&&◌, pos, ◌*ℤ◌, rules, sym, ap, ◌∙◌, subst, FitsSigned, to_z-of_z}
use Rattle.std.specs.Prelude.{Err}
use Rattle.std.specs.Int.{w128, int_div_euclid}
use Rattle.std.proofs.lemmas.Result.{IfOk-weaker, err_from_is_err_and}
use Rattle.viz_calc.specs.World.{Reading}
use Rattle.lin_proof.specs.Form.{value, form_fits, plus}
use Rattle.lin_proof.specs.Exact.{IsExact}
use Rattle.sym_calc.specs.Calc.{named_of}
use Rattle.sym_calc.specs.Given.{IsGiven}
use Rattle.sym_calc.specs.Divided.{divided, division_fits, multiple}
use Rattle.sym_calc.proofs.Fitting.{halted, given_same}
use Rattle.sym_calc.proofs.Numbers.{product_at}
use Rattle.sym_calc.proofs.States.{grows_then}
use Rattle.sym_calc.proofs.sym.SymCalc.scale_floor.Goals as goal

pub returns-clause-grows : goal.returns-clause-grows
returns-clause-grows c = grows_then _ _ _ c.in_ok-product.ensures.grows c.divided.ensures.grows

pub returns-clause-worlds : goal.returns-clause-worlds
returns-clause-worlds c = record { keeps = λ w o. c.divided.ensures.worlds.keeps w (c.in_ok-product.ensures.worlds.keeps w o) }

pub returns-clause-value : goal.returns-clause-value
returns-clause-value c =
    let num : c.from.result ≡ c.args.num = search rules in
    let den : c.from-2.result ≡ pos c.args.den = search rules in
    let num_fits : FitsSigned w128 c.from.result = search rules in
    let den_fits : FitsSigned w128 c.from-2.result = search rules in
    let product = simp to_z-of_z at c.add_scaled-product.ensures in
    let divided = simp to_z-of_z at c.divided.ensures.value in
    let exact = plus c.constant-zero.result c.from.result c.args.a.now in
    let is : c.in_ok-product.product ≡ exact = (subst (λ a. IsExact a exact) c.in_ok-product.ensures.row product).0 in
    let at = λ (e : Reading). ap (λ f. value f e.terms) is ∙ product_at c.constant-zero.result c.from.result c.args.a.now e.terms c.constant-zero.ensures
    ∙ ap (λ n. n *ℤ value c.args.a.now e.terms) num in
    IfOk-weaker c.divided.result _ _ (λ r h e met. h e met ∙ (λ i. int_div_euclid (at e i) (den i))) divided

pub returns-in_err-product-clause-exact : goal.returns-in_err-product-clause-exact
returns-in_err-product-clause-exact c =
    let num : c.from.result ≡ c.args.num = search rules in
    let num_fits : FitsSigned w128 c.from.result = search rules in
    let product = simp to_z-of_z at c.add_scaled-product.ensures in
    let given = c.in_err-product.ensures.exact (plus c.constant-zero.result c.from.result c.args.a.now) product in
    let p = err_from_is_err_and c.from_residual.result c.from_residual.ensures.1 in
    rw (p.1, p.2) (halted c.in_err-product.field-0.0 (multiple c.args.num c.args.a.now) _ _
    (subst (IsGiven (Err c.in_err-product.field-0.0)) (λ i. plus (c.constant-zero.ensures i) (num i) c.args.a.now) given))

pub returns-clause-exact : goal.returns-clause-exact
returns-clause-exact c =
    let num : c.from.result ≡ c.args.num = search rules in
    let den : c.from-2.result ≡ pos c.args.den = search rules in
    let num_fits : FitsSigned w128 c.from.result = search rules in
    let den_fits : FitsSigned w128 c.from-2.result = search rules in
    let product = simp to_z-of_z at c.add_scaled-product.ensures in
    let divided_is = simp to_z-of_z at c.divided.ensures.exact in
    let given = c.in_ok-product.ensures.exact (plus c.constant-zero.result c.from.result c.args.a.now) product in
    let same : plus c.constant-zero.result c.from.result c.args.a.now ≡ multiple c.args.num c.args.a.now = λ i. plus (c.constant-zero.ensures i) (num i) c.args.a.now in
    let row = given.0 ∙ same in
    let fits = ap form_fits (sym same) ∙ given.1 in
    let rest = c.in_ok-product.ensures.rest in
    given_same c.divided.result _ _ _ _ (λ i. divided (rest.path i).origin.form ((rest.path i).floors ++ rest.floors i) (den i) (row i))
    ((λ i. division_fits (rest.path i).origin.form ((rest.path i).floors ++ rest.floors i) (den i) (row i)) ∙ (λ i. sym fits i && division_fits c.args.self.now.path.now.origin.form (named_of c.args.self.now) (pos c.args.den) (multiple c.args.num c.args.a.now)))
    divided_is

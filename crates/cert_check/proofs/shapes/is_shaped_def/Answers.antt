use Rattle.std.proofs.Common.{◌≡◌, ◌∙◌, true, not, ◌&&◌, pos, Option, Some, None, refl, sym, rules, FitsSigned, to_z-of_z}
use Rattle.std.specs.Prelude.{is_some, is_none}
use Rattle.std.specs.Int.{w128}
use Rattle.std.specs.Int.Signed.{lt_z}
use Rattle.std.specs.List.{list_any}
use Rattle.lin_proof.specs.Derivations.{are_declared}
use Rattle.cert_semantics.specs.Paths.{variables}
use Rattle.cert_semantics.specs.Shapes.{has_variable, has_remainders}
use Rattle.sym_calc.specs.Floors.{same_floor}
use Rattle.sym_calc.proofs.Refuted.{named_is}
use Rattle.cert_check.specs.steps.Ways.{path_at}
use Rattle.cert_check.proofs.shapes.is_shaped_def.Goals as goal

none_not_some : {A : Type 0} (o : Option A) → is_none o ≡ not (is_some o)
none_not_some None = refl
none_not_some (Some x) = refl

pub returns : goal.returns
returns c =
    let path = path_at c.args.descent.now in
    let fits : FitsSigned w128 c.args.by = c.ranges.by in
    let copied : c.in_ok-clone.field-0 ≡ c.args.row.now = search rules in
    let fit = simp to_z-of_z at c.has_fit_numbers.ensures in
    let numbers : (are_declared (variables path) c.args.row.now.terms && has_variable c.args.row.now && lt_z (pos 1) c.args.by && has_remainders c.args.by c.args.row.now) ≡ true =
    (λ i. are_declared (sym c.variables.ensures i) c.args.row.now.terms && has_variable c.args.row.now && lt_z (pos 1) c.args.by && has_remainders c.args.by c.args.row.now)
    ∙ sym fit ∙ c.if-not-has_fit_numbers.false in
    let found = simp to_z-of_z at c.place_of.ensures.found in
    let named = found ∙ (λ i. list_any (same_floor (record { row = copied i; by = c.args.by })) (c.path.ensures.floors i)) ∙ sym (named_is (record { row = c.args.row.now; by = c.args.by }) path) in
    let none : c.is_none.result ≡ is_none c.place_of.result = search rules in
    none ∙ none_not_some c.place_of.result ∙ (λ i. sym numbers i && not (named i))

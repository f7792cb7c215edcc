use Rattle.std.proofs.Common.{◌≡◌, ◌∙◌, ◌∷◌, ◌++◌, [], true, ◌&&◌, Err, length, sym, ap, subst, arith, rules, FitsSigned, to_z-of_z}
use Rattle.std.specs.Int.{w128}
use Rattle.std.specs.List.{list_any}
use Rattle.std.proofs.lemmas.Bool.{false≢true}
use Rattle.cert_semantics.specs.Axes.{axis_count}
use Rattle.cert_semantics.specs.Paths.{def, variables}
use Rattle.sym_calc.specs.declared.paths.Origin.{Origin}
use Rattle.cert_semantics.specs.Facts.{step_facts, facts}
use Rattle.cert_semantics.specs.Derived.{AreEntailed}
use Rattle.sym_calc.specs.Laws.{origin_of}
use Rattle.sym_calc.specs.Floors.{same_floor, floors_of, floor_fits}
use Rattle.sym_calc.proofs.Along.{variables_of}
use Rattle.cert_check.specs.declared.descent.Above.TheVariants.{Def}
use Rattle.cert_check.specs.steps.Ways.{path_at}
use Rattle.cert_check.specs.steps.Descent.{are_sound}
use Rattle.cert_check.proofs.Descents.{after_push, fit_here, form_is}
use Rattle.cert_check.proofs.FitFloors.{floor_is_fit}
use Rattle.cert_check.proofs.descent.Descent.enter_def.Goals as goal

pub define-requires-clause-new : goal.define-requires-clause-new
define-requires-clause-new c =
    let s = c.args.self.now in
    let fits : FitsSigned w128 c.args.by = c.ranges.by in
    let copied : c.in_ok-clone.field-0 ≡ c.args.row.now = search rules in
    let fit = fit_here s.job.now.range (path_at s) c.args.row.now c.args.by c.requires.shaped in
    simp to_z-of_z ((λ i. list_any (same_floor (record { row = copied i; by = c.args.by })) (s.floors i)) ∙ fit.new)

pub define-requires-clause-next : goal.define-requires-clause-next
define-requires-clause-next c =
    let s = c.args.self.now in
    let count = variables_of (path_at s) in
    let floors = ap length s.floors in
    let same = ap axis_count (form_is s.job.now.form s.above) in
    let begun = ap (λ (o : Origin). axis_count o.form) s.origin in
    omega (arith, count, floors, same, begun)

pub invariant_of-self-in-Ok : goal.invariant_of-self-in-Ok
invariant_of-self-in-Ok c =
    let s = c.args.self.now in
    let fits : FitsSigned w128 c.args.by = c.ranges.by in
    let copied : c.in_ok-clone.field-0 ≡ c.args.row.now = search rules in
    let fit = fit_here s.job.now.range (path_at s) c.args.row.now c.args.by c.requires.shaped in
    let again : c.in_ok-clone-2.field-0 ≡ c.args.row.now = search rules in
    let added = simp to_z-of_z at c.in_ok-push.ensures.ok in
    let pushed = added ∙ (λ i. s.above ++ Def (again i) c.args.by ∷ []) in
    let path = after_push s.job.now.form s.above c.push.new.self (Def c.args.row.now c.args.by) pushed in
    let declared = fit.declared in
    let test = fit.test in
    let sound = s.sound in
    let facts_more = simp to_z-of_z at c.in-Ok.ensures.facts in
    let floors_more = simp to_z-of_z at c.in-Ok.ensures.floors in
    record {
      origin = c.define.ensures.origin ∙ s.origin ∙ ap (origin_of s.job.now.range) (sym path);
      entailed = subst (AreEntailed s.job.now.range) (sym path) s.entailed;
      sound = subst (λ p. are_sound p ≡ true) (sym path) (λ i. declared i && test i && sound i);
      facts = facts_more ∙ (λ i. s.facts i ++ step_facts (c.variables-variable.ensures i) (def (copied i) c.args.by)) ∙ ap (facts s.job.now.range) (sym path);
      floors = floors_more ∙ (λ i. s.floors i ++ record { row = copied i; by = c.args.by } ∷ []) ∙ ap floors_of (sym path);
    }

pub returns-in-Ok-clause-above : goal.returns-in-Ok-clause-above
returns-in-Ok-clause-above c =
    let s = c.args.self.now in
    let fits : FitsSigned w128 c.args.by = c.ranges.by in
    let again : c.in_ok-clone-2.field-0 ≡ c.args.row.now = search rules in
    let added = simp to_z-of_z at c.in_ok-push.ensures.ok in
    after_push s.job.now.form s.above c.push.new.self (Def c.args.row.now c.args.by) (added ∙ (λ i. s.above ++ Def (again i) c.args.by ∷ []))

pub unreachable-requires : goal.unreachable-requires
unreachable-requires c =
    let s = c.args.self.now in
    let path = path_at s in
    let by = c.args.by in
    let fits : FitsSigned w128 by = c.ranges.by in
    let copied : c.in_ok-clone.field-0 ≡ c.args.row.now = search rules in
    let fit = fit_here s.job.now.range path c.args.row.now by c.requires.shaped in
    let good = floor_is_fit by fits fit.above (variables path) c.args.row.now c.note_order.ensures fit.declared fit.remainders in
    let told = c.define.ensures.outside (c.in-Err-Coeff.is ∙ ap Err c.in-Err-Coeff.field-0-is) in
    let outside = simp to_z-of_z at told in
    absurd (false≢true (sym outside ∙ (λ i. floor_fits (c.variables-variable.ensures i) (record { row = copied i; by = by })) ∙ good))

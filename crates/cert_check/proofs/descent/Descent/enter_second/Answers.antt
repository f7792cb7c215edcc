use Rattle.std.proofs.Common.{◌≡◌, ◌∙◌, ◌∷◌, ◌++◌, [], true, ◌&&◌, rules, sym, ap, subst}
use Rattle.lin_proof.specs.Form.{denied}
use Rattle.cert_semantics.specs.Facts.{facts}
use Rattle.cert_semantics.specs.Derived.{AreEntailed}
use Rattle.sym_calc.specs.Laws.{origin_of}
use Rattle.sym_calc.specs.Floors.{floors_of}
use Rattle.cert_check.specs.declared.descent.Above.TheVariants.{Second}
use Rattle.cert_check.specs.steps.Descent.{are_sound}
use Rattle.cert_check.proofs.Descents.{after_push}
use Rattle.cert_check.proofs.descent.Descent.enter_second.Goals as goal

pub invariant_of-self-in-Ok : goal.invariant_of-self-in-Ok
invariant_of-self-in-Ok c =
    let s = c.args.self.now in
    let declared = c.requires.declared in
    let copied : c.in_ok-clone.field-0 ≡ c.args.row.now = search rules in
    let pushed = c.in_ok-push.ensures.ok ∙ (λ i. s.above ++ Second (copied i) ∷ []) in
    let path = after_push s.job.now.form s.above c.push.new.self (Second c.args.row.now) pushed in
    let sound = s.sound in
    record {
      origin = c.enter_second.ensures.origin ∙ s.origin ∙ ap (origin_of s.job.now.range) (sym path);
      entailed = subst (AreEntailed s.job.now.range) (sym path) s.entailed;
      sound = subst (λ p. are_sound p ≡ true) (sym path) (λ i. declared i && sound i);
      facts = c.in-Ok.ensures.facts ∙ (λ i. s.facts i ++ denied c.args.row.now ∷ []) ∙ ap (facts s.job.now.range) (sym path);
      floors = c.enter_second.ensures.floors ∙ s.floors ∙ ap floors_of (sym path);
    }

pub returns-in-Ok-clause-above : goal.returns-in-Ok-clause-above
returns-in-Ok-clause-above c =
    let s = c.args.self.now in
    let copied : c.in_ok-clone.field-0 ≡ c.args.row.now = search rules in
    after_push s.job.now.form s.above c.push.new.self (Second c.args.row.now) (c.in_ok-push.ensures.ok ∙ (λ i. s.above ++ Second (copied i) ∷ []))

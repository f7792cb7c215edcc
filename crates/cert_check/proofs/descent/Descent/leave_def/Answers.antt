use Rattle.std.proofs.Common.{◌≡◌, ◌∙◌, ◌-◌, true, length, take, sym, ap, subst}
use Rattle.cert_semantics.specs.Facts.{facts}
use Rattle.cert_semantics.specs.Paths.{form_of}
use Rattle.cert_semantics.specs.Derived.{AreEntailed}
use Rattle.sym_calc.specs.Floors.{floors_of}
use Rattle.cert_check.specs.steps.Ways.{path_at}
use Rattle.cert_check.specs.steps.Descent.{path_of, are_sound, outer_of}
use Rattle.cert_check.proofs.Descents.{form_is, left_def}
use Rattle.cert_check.proofs.descent.Descent.leave_def.Goals as goal

pub invariant_of-self : goal.invariant_of-self
invariant_of-self c =
    let s = c.args.self.now in
    let left = left_def s.job.now.form s.job.now.range s.above c.requires in
    let path : path_of s.job.now.form c.truncate.new.self ≡ outer_of (path_at s) = ap (path_of s.job.now.form) (c.truncate.ensures ∙ (λ i. take (c.len.ensures i - 1) s.above)) ∙ left.above_are in
    let begun : form_of (path_at s) ≡ form_of (path_of s.job.now.form c.truncate.new.self) = form_is s.job.now.form s.above ∙ sym (form_is s.job.now.form c.truncate.new.self) in
    record {
      origin = c.leave.ensures.origin ∙ s.origin ∙ (λ i. record { form = begun i; height = s.job.now.range.hl });
      entailed = subst (AreEntailed s.job.now.range) (sym path) (left.entailed s.entailed);
      sound = subst (λ p. are_sound p ≡ true) (sym path) (left.sound s.sound);
      facts = c.leave.ensures.facts ∙ (λ i. take (c.len-facts.ensures i - 2) s.path.facts) ∙ (λ i. take (length (s.facts i) - 2) (s.facts i)) ∙ left.facts_are
          ∙ ap (facts s.job.now.range) (sym path);
      floors = c.leave.ensures.floors ∙ (λ i. take (c.len-floors.ensures i - 1) s.path.floors) ∙ (λ i. take (length (s.floors i) - 1) (s.floors i)) ∙ left.floors_are
          ∙ ap floors_of (sym path);
    }

pub returns-clause-above : goal.returns-clause-above
returns-clause-above c =
    let s = c.args.self.now in
    let left = left_def s.job.now.form s.job.now.range s.above c.requires in
    ap (path_of s.job.now.form) (c.truncate.ensures ∙ (λ i. take (c.len.ensures i - 1) s.above)) ∙ left.above_are

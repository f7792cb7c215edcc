use Rattle.std.proofs.Common.{◌∷◌, sym, ◌∙◌}
use Rattle.logic_semantics.specs.Truth.{truth_in}
use Rattle.logic_semantics.proofs.Members.{each_member, of_each_member, some_member, of_some_member}
use Rattle.logic_semantics.proofs.Meanings.{truth-Forall, truth-Exists}
use Rattle.logic_semantics.proofs.truth_of_quantifiers.Goals as goal

pub returns-clause-each : goal.returns-clause-each
returns-clause-each c = λ scene set body names. (
  λ h. each_member (λ m. truth_in scene body (m ∷ names)) set scene.boxes (sym (truth-Forall scene set body names) ∙ h),
  λ h. truth-Forall scene set body names ∙ of_each_member (λ m. truth_in scene body (m ∷ names)) set scene.boxes h,
)

pub returns-clause-some : goal.returns-clause-some
returns-clause-some c = λ scene set body names. (
  λ h. some_member (λ m. truth_in scene body (m ∷ names)) set scene.boxes (sym (truth-Exists scene set body names) ∙ h),
  λ h. truth-Exists scene set body names ∙ of_some_member (λ m. truth_in scene body (m ∷ names)) set scene.boxes h.0 h.1.0 h.1.1,
)

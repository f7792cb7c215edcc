-- From what is found of a grid or a leaf to whether it is kept.
use Rattle.std.proofs.Common.{◌≡◌, ◌∙◌, ℕ, Bool, true, false, IsTrue, List, Err, refl, sym}
use Rattle.std.specs.Prelude.{◌↔◌}
use Rattle.viz_base.specs.declared.jobs.Job.{Job}
use Rattle.viz_base.proofs.Truths.{not_both}
use Rattle.lin_proof.specs.Form.{Form}
use Rattle.lin_proof.specs.declared.derivation.Derivation.{Derivation}
use Rattle.lin_proof.specs.declared.derivation.Answer.{Answer}
use Rattle.lin_proof.proofs.Sound.{entailment_law}
use Rattle.cert_semantics.specs.Derived.{IsEntailed}
use Rattle.cert_semantics.specs.Facts.{facts}
use Rattle.cert_semantics.specs.Paths.{Path, variables}
use Rattle.cert_semantics.specs.Nodes.{states, by_worlds, by_answers, Node, node_on}
use Rattle.cert_semantics.specs.Shapes.{is_shaped}
use Rattle.cert_check.specs.declared.verdicts.Reject.{Reject}
use Rattle.cert_check.specs.declared.verdicts.Reject.TheVariants.{OtherJob, Shape, Line, Untrue, Unmet, Differs, Short, Left, Coeff}
use Rattle.cert_check.specs.declared.walk.Stop.TheVariants as of_stop
use Rattle.cert_check.specs.Numbers.{are_computed}
use Rattle.cert_check.specs.Truths.{is_true_at}
use Rattle.cert_check.specs.Verdicts.{IsRejected}
use Rattle.cert_check.specs.steps.Tells.{Judges}
use Rattle.viz_renew.specs.Pieces.{stands, IsKeptGrid, IsKeptLeaf}
use Rattle.viz_renew.specs.steps.Bare.{bare, IsFoundGood}
use Rattle.viz_renew.proofs.Barely.{same_shape, same_truth, same_numbers}

-- ---- a node

pub bad_found : (A : Type 0) (job : Job) (node : Node) (n : ℕ) (reject : Reject) → Judges {A = A} job node n (Err (of_stop.Rejected reject)) → (why : Reject) × IsRejected job node why
unfolding Judges
bad_found A job node n reject h = (reject, h.1)

-- ---- lemmas

pub derived_found : (job : Job) (path : Path) (row : Form) (why : Derivation) (so : Bool) → IsFoundGood job (node_on path (states row why)) so → IsTrue so → IsEntailed job.range path row
derived_found job path row why true good h = entailment_law (facts job.range path) (variables path) row why good.decides
derived_found job path row why false good h = absurd (cc)

-- ---- grids

module _ (job : Job) (path at : Path) (like : bare path ≡ bare at) (stand : stands job.range path ≡ true) where
  -- a grid that is rejected is badly shaped, or one of its numbers is outside `i128`, or the formula is false at a world
  pub grid_mark : (so : Bool) → IsFoundGood job (node_on at by_worlds) so → IsTrue so ↔ IsKeptGrid job path
  grid_mark true good = (
    λ h. record {
      above = stand;
      shaped = same_shape path at like job.range by_worlds ∙ good.shaped;
      computed = same_numbers job.range path at like good.decides.0;
      holds = same_truth job path at like good.decides.1;
    },
    λ kept. refl,
  )
  grid_mark false bad = (λ h. absurd (cc), λ kept. absurd (refused bad.0 bad.1 kept))
    where
      refused : (reject : Reject) → IsRejected job (node_on at by_worlds) reject → IsKeptGrid job path → ⊥
      refused OtherJob bad kept = bad
      refused (Shape n) bad kept = not_both (is_shaped job.range at by_worlds) (same_shape at path (sym like) job.range by_worlds ∙ kept.shaped) bad
      refused (Line n number line) bad kept = absurd bad.1
      refused (Untrue n world) bad kept = not_both (is_true_at job world) (same_truth job at path (sym like) kept.holds world bad.1.1.in_range bad.1.1.on_path) bad.1.1.untrue
      refused (Unmet n) bad kept = absurd bad.1
      refused (Differs n number ours theirs) bad kept = absurd bad.1
      refused (Short n) bad kept = absurd bad.1
      refused (Left n count) bad kept = absurd bad.1
      refused (Coeff n) bad kept = not_both (are_computed at bad.1.world) (same_numbers job.range at path (sym like) kept.computed bad.1.world bad.1.inside) bad.1.outside

  pub leaf_mark : (answers : List Answer) (so : Bool) → IsFoundGood job (node_on at (by_answers answers)) so → IsTrue so → IsKeptLeaf job path
  leaf_mark answers true good h = record { above = stand; holds = same_truth job path at like good.decides.0 }
  leaf_mark answers false good h = absurd (cc)

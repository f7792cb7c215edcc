-- Where the walk is one step further down.
use Rattle.std.proofs.Common.{◌≡◌, ◌∙◌, ℕ, ℤ, ◌+◌, ◌<◌, ◌≤◌, ◌^◌, [], Option, Some, refl, sym, ap, subst, arith}
use Rattle.std.specs.Prelude.{IfSome}
use Rattle.std.specs.Option.{option_and_then}
use Rattle.viz_base.specs.declared.jobs.Job.{Job}
use Rattle.viz_base.specs.declared.worlds.Rect.{Rect}
use Rattle.lin_proof.specs.Form.{Form}
use Rattle.cert_semantics.specs.Paths.{def, lemma, root, ◌▸◌, variables}
use Rattle.cert_semantics.specs.Axes.{axis_count}
use Rattle.cert_semantics.specs.Rectangles.{rectangle}
use Rattle.viz_base.specs.declared.rectangles.Child.{Child}
use Rattle.cert_check.specs.declared.descent.Descent.{Descent}
use Rattle.viz_base.specs.Rectangles.{IsWithin}
use Rattle.cert_semantics.specs.Units.{cut_of, cut_at}
use Rattle.cert_check.specs.steps.Descent.{path_of}
use Rattle.cert_check.specs.steps.Grids.{IsPart}
use Rattle.cert_check.specs.steps.Ways.{path_at}
use Rattle.cert_check.proofs.Descents.{form_is}
use Rattle.cert_check.proofs.PartSides.{step_at, variables_under, part_under, within_under}
use Rattle.viz_renew.specs.declared.here.Here.{Here}
use Rattle.viz_renew.specs.steps.Walks.{IsHere}

-- at the root of a certificate for a job
pub here_first : (job : Job) (descent : Descent) (here : Here) (n : ℕ) → descent.job.now ≡ job → descent.above ≡ [] → here.part ≡ Some job.range → n + axis_count job.form < 2 ^ 32 → IsHere descent here n
here_first job descent here n same none part_is few =
    let r = job.ok.in_range in
    let at : path_at descent ≡ root job.form = λ i. path_of (same i).form (none i) in
    record {
      few = let count = ap variables at in omega (arith, few);
      part = subst (λ (j : Job). IsPart here.part (rectangle j.range (path_at descent))) (sym same)
          (subst (λ p. IsPart here.part (rectangle job.range p)) (sym at)
          (subst (λ o. IsPart o (rectangle job.range (root job.form))) (sym part_is) (record { widths = r.widths; sizes = r.sizes; heights = r.heights }, refl)));
      within = subst (λ (j : Job). IfSome here.part (IsWithin j.range)) (sym same)
          (subst (λ o. IfSome o (IsWithin job.range)) (sym part_is)
          (record { width_least = omega arith; width_most = omega arith; size_least = omega arith; size_most = omega arith; height_least = omega arith; height_most = omega arith }));
    }

pub here_less : (descent : Descent) (here : Here) (n m : ℕ) → m ≤ n → IsHere descent here n → IsHere descent here m
here_less descent here n m le at = record { few = let few = at.few in omega (arith, le); part = at.part; within = at.within }

module _ (old now : Descent) (here : Here) (n : ℕ) (same : now.job.now ≡ old.job.now) (at : IsHere old here (n + 1)) where
  pub below_def : (row : Form) (d : ℤ) → path_at now ≡ def row d ▸ path_at old → IsHere now here n
  below_def row d down = record {
    few = let count = ap variables down in let few = at.few in omega arith;
    part = subst (λ (j : Job). IsPart here.part (rectangle j.range (path_at now))) (sym same) (subst (λ p. IsPart here.part (rectangle old.job.now.range p)) (sym down) at.part);
    within = subst (λ (j : Job). IfSome here.part (IsWithin j.range)) (sym same) at.within;
  }

  pub below_lemma : (row : Form) → path_at now ≡ lemma row ▸ path_at old → IsHere now here n
  below_lemma row down = record {
    few = let count = ap variables down in let few = at.few in omega arith;
    part = subst (λ (j : Job). IsPart here.part (rectangle j.range (path_at now))) (sym same) (subst (λ p. IsPart here.part (rectangle old.job.now.range p)) (sym down) at.part);
    within = subst (λ (j : Job). IfSome here.part (IsWithin j.range)) (sym same) at.within;
  }

  -- in a part of a split, which is this one of the range; `form` is the job's as the walk reads it
  pub below_part : (row : Form) (child : Child) (form : ℕ) (under : Option Rect) (there : Here) → path_at now ≡ step_at child row ▸ path_at old → form ≡ now.job.now.form
      → under ≡ option_and_then (cut_at (cut_of form row) child) here.part → there.part ≡ under → IsHere now there n
  below_part row child form under there down form_so is part_is =
      let form_here = form_so ∙ ap (λ (j : Job). j.form) same ∙ sym (form_is old.job.now.form old.above) in
      let cut = is ∙ (λ i. option_and_then (cut_at (cut_of (form_here i) row) child) here.part) in
      let few = at.few in
      let count = variables_under row child old.job.now now.job.now (path_at old) (path_at now) here.part under same down cut (variables (path_at old)) (omega arith) in
      record {
        few = omega arith;
        part = subst (λ o. IsPart o (rectangle now.job.now.range (path_at now))) (sym part_is) (part_under row child old.job.now now.job.now (path_at old) (path_at now) here.part under same down cut at.part);
        within = subst (λ o. IfSome o (IsWithin now.job.now.range)) (sym part_is) (within_under row child old.job.now now.job.now (path_at old) (path_at now) here.part under same down cut at.within);
      }

-- back above, behind the first part of a split
pub here_behind : (old now : Descent) (here there : Here) (n m : ℕ) → now.job.now ≡ old.job.now → path_at now ≡ path_at old → there.part ≡ here.part → m ≤ n → IsHere old here n → IsHere now there m
here_behind old now here there n m same stays part_is le at = record {
  few = let count = ap variables stays in let few = at.few in omega (arith, le);
  part = subst (λ o. IsPart o (rectangle now.job.now.range (path_at now))) (sym part_is)
      (subst (λ (j : Job). IsPart here.part (rectangle j.range (path_at now))) (sym same) (subst (λ p. IsPart here.part (rectangle old.job.now.range p)) (sym stays) at.part));
  within = subst (λ o. IfSome o (IsWithin now.job.now.range)) (sym part_is) (subst (λ (j : Job). IfSome here.part (IsWithin j.range)) (sym same) at.within);
}

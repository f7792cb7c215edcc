-- What is found of a node, and whether it is good.
use Rattle.std.proofs.Common.{◌≡◌, ℕ, ◌<◌, ◌≤◌, ◌^◌, Bool, true, false, nat_le, ◌&&◌, List, [], ◌++◌, Option, Some, None, Ok, Err, refl, sym, ◌∙◌, subst, arith, append-nil}
use Rattle.std.proofs.lemmas.Bool.Decides.{nat_tests}
use Rattle.viz_base.specs.declared.worlds.World.{World}
use Rattle.viz_base.specs.declared.worlds.Rect.{Rect}
use Rattle.viz_base.specs.Worlds.{world_count as count_of}
use Rattle.viz_base.specs.declared.jobs.Job.{Job}
use Rattle.lin_proof.specs.Form.{Form, form_fits, denied}
use Rattle.lin_proof.specs.declared.derivation.Derivation.{Derivation}
use Rattle.lin_proof.specs.declared.derivation.Answer.{Answer}
use Rattle.lin_proof.specs.Derivations.{first_fault}
use Rattle.lin_proof.specs.Entailments.{with_denied}
use Rattle.cert_semantics.specs.Paths.{Path, form_of, variables, is_declared}
use Rattle.cert_semantics.specs.Facts.{facts}
use Rattle.cert_semantics.specs.Nodes.{states, is_empty, by_worlds, by_answers, Node, node_on}
use Rattle.cert_semantics.specs.Rectangles.{rectangle, world_count}
use Rattle.cert_semantics.specs.Shapes.{has_variable, is_shaped}
use Rattle.sym_calc.specs.Floors.{floors_of}
use Rattle.sym_calc.specs.Knowledge.{AreKnown}
use Rattle.sym_calc.specs.declared.floors.Floor.{Floor}
use Rattle.sym_calc.proofs.Along.{sound_is_known}
use Rattle.cert_check.specs.declared.descent.Above.{Above}
use Rattle.cert_check.specs.declared.verdicts.Reject.{Reject}
use Rattle.cert_check.specs.declared.verdicts.Reject.TheVariants.{OtherJob, Shape, Line, Untrue, Unmet, Differs, Short, Left, Coeff}
use Rattle.cert_check.specs.declared.walk.Stop.TheVariants as of_stop
use Rattle.cert_check.specs.steps.Descent.{path_of, are_sound}
use Rattle.cert_check.specs.steps.Tells.{Judges}
use Rattle.cert_check.specs.steps.Grids.{is_outside, is_untrue_on, IsPart}
use Rattle.cert_check.specs.steps.Worlds.{first_world}
use Rattle.cert_check.specs.Leaves.{node_in, IsLeafFault}
use Rattle.cert_check.specs.Right.{IsGood}
use Rattle.cert_check.specs.Verdicts.{IsRejected}
use Rattle.cert_check.proofs.Descents.{sound_is}
use Rattle.cert_check.proofs.GridWorlds.{all_computed, one_outside, all_true, first_false, on_units}
use Rattle.cert_check.proofs.PartSides.{none_small, some_count, none_inside}
use Rattle.cert_semantics.proofs.Sides.{rectangle_is_units}

-- ---- lemmas

pub lemma_good : (job : Job) (path : Path) (row : Form) (why : Derivation) (known : List Form) (line : Option ℕ) → (is_declared path row && has_variable row) ≡ true → form_fits (denied row) ≡ true
    → known ≡ facts job.range path → line ≡ first_fault (with_denied known row) (variables path) why → line ≡ None → IsGood job (node_on path (states row why))
lemma_good job path row why known line shaped fits is found none =
    record { shaped = shaped; decides = (fits, (λ i. first_fault (with_denied (sym is i) row) (variables path) why) ∙ sym found ∙ none) }

-- ---- voids

pub void_good : (job : Job) (path : Path) (known : List Form) (why : Derivation) → known ≡ facts job.range path → (line : Option ℕ) → line ≡ first_fault (known ++ []) (variables path) why → line ≡ None
    → IsGood job (node_on path (is_empty why))
void_good job path known why is line found none =
    record { shaped = refl; decides = (λ i. first_fault ((sym is ∙ sym (append-nil known)) i) (variables path) why) ∙ sym found ∙ none }

pub void_bad : (job : Job) (path : Path) (known : List Form) (why : Derivation) (n l : ℕ) → known ≡ facts job.range path → (line : Option ℕ) → line ≡ first_fault (known ++ []) (variables path) why → line ≡ Some l
    → IsRejected job (node_on path (is_empty why)) (Line n 0 l)
void_bad job path known why n l is line found some =
    (refl, (refl, (λ i. first_fault ((sym is ∙ sym (append-nil known)) i) (variables path) why) ∙ sym found ∙ some))

-- ---- grids

pub grid_empty : (job : Job) (path : Path) → IsPart None (rectangle job.range path) → IsGood job (node_on path by_worlds)
grid_empty job path part = record {
  shaped = none_small (rectangle job.range path) part;
  decides = (
    λ world inside. absurd (none_inside (rectangle job.range path) part world inside),
    λ world in_range on. absurd (none_inside (rectangle job.range path) part world ((rectangle_is_units job.range path world).1 (in_range, on_units path world on))),
  );
}

module _ (job : Job) (above : List Above) (r : Rect) (part : IsPart (Some r) (rectangle job.range (path_of job.form above))) where
  count_is : world_count (rectangle job.range (path_of job.form above)) ≡ count_of r
  count_is = some_count r (rectangle job.range (path_of job.form above)) part

  pub grid_large : (n : ℕ) → 64 < count_of r → IsRejected job (node_on (path_of job.form above) by_worlds) (Shape n)
  grid_large n large = by_test (nat_le (world_count (rectangle job.range (path_of job.form above))) 64) refl
    where
      by_test : (b : Bool) → nat_le (world_count (rectangle job.range (path_of job.form above))) 64 ≡ b → b ≡ false
      by_test true e = let same = count_is in absurd (grind (arith, nat_tests))
      by_test false e = refl

  small : count_of r ≤ 64 → is_shaped job.range (path_of job.form above) by_worlds ≡ true
  small le = by_test (nat_le (world_count (rectangle job.range (path_of job.form above))) 64) refl
    where
      by_test : (b : Bool) → nat_le (world_count (rectangle job.range (path_of job.form above))) 64 ≡ b → b ≡ true
      by_test true e = refl
      by_test false e = let same = count_is in absurd (grind (arith, nat_tests))

  pub grid_outside : (n : ℕ) (world : World) → count_of r ≤ 64 → first_world (is_outside job.form above) r ≡ Some world → IsRejected job (node_on (path_of job.form above) by_worlds) (Coeff n)
  grid_outside n world le some = (small le, one_outside job above r part world some)

  pub grid_untrue : (n : ℕ) (world : World) → count_of r ≤ 64 → first_world (is_outside job.form above) r ≡ None → first_world (is_untrue_on job above) r ≡ Some world → IsRejected job (node_on (path_of job.form above) by_worlds) (Untrue n world)
  grid_untrue n world le none some =
      let fits = all_computed job above r part none in
      (small le, (fits, first_false job above r part fits world some))

  pub grid_good : count_of r ≤ 64 → first_world (is_outside job.form above) r ≡ None → first_world (is_untrue_on job above) r ≡ None → IsGood job (node_on (path_of job.form above) by_worlds)
  grid_good le none nowhere =
      let fits = all_computed job above r part none in
      record { shaped = small le; decides = (fits, all_true job above r part fits nowhere) }

-- ---- leaves

pub known_along : (job : Job) (path : Path) (known : List Form) (floors : List Floor) → are_sound path ≡ true → variables path < 2 ^ 32 → known ≡ facts job.range path → floors ≡ floors_of path
    → AreKnown (form_of path) known floors
known_along job path known floors sound few a b =
    subst (λ fs. AreKnown (form_of path) fs floors) (sym a) (subst (λ gs. AreKnown (form_of path) (facts job.range path) gs) (sym b) (sound_is_known job.range path (sound_is path sound) few))

-- a leaf's cause is that of its node
pub leaf_rejected : (job : Job) (path : Path) (answers : List Answer) (reject : Reject) → IsLeafFault job path answers reject → IsRejected job (node_on path (by_answers answers)) reject
leaf_rejected job path answers OtherJob h = h
leaf_rejected job path answers (Shape n) h = absurd h
leaf_rejected job path answers (Line n number line) h = (refl, h)
leaf_rejected job path answers (Untrue n world) h = absurd h
leaf_rejected job path answers (Unmet n) h = (refl, h)
leaf_rejected job path answers (Differs n number ours theirs) h = (refl, h)
leaf_rejected job path answers (Short n) h = (refl, h)
leaf_rejected job path answers (Left n count) h = (refl, h)
leaf_rejected job path answers (Coeff n) h = (refl, h)

-- ---- what is said of a node

pub judged : {A : Type 0} (job : Job) (node : Node) (n : ℕ) (done : A) → IsGood job node → Judges job node n (Ok done)
unfolding Judges
judged job node n done good = good

pub judged_mem : (A : Type 0) (job : Job) (node : Node) (n : ℕ) → Judges {A = A} job node n (Err of_stop.Mem)
unfolding Judges
judged_mem A job node n = tt

pub judged_bad : (A : Type 0) (job : Job) (node : Node) (n : ℕ) (reject : Reject) → node_in reject ≡ n → IsRejected job node reject → Judges {A = A} job node n (Err (of_stop.Rejected reject))
unfolding Judges
judged_bad A job node n reject same bad = (same, bad)

pub is_judged : {A : Type 0} (job : Job) (node : Node) (n : ℕ) (done : A) → Judges job node n (Ok done) → IsGood job node
unfolding Judges
is_judged job node n done h = h

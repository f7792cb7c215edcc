-- The way from the root down to a node, one def, split or lemma after another.
use Rattle.std.specs.Prelude.{ℕ, Bool, true, false, ◌&&◌, pos, List, [], ◌∷◌}
use Rattle.std.specs.Int.Signed.{lt_z}
use Rattle.viz_base.specs.declared.jobs.Job.{Job}
use Rattle.cert_semantics.specs.Derived.{AreEntailed}
use Rattle.cert_semantics.specs.Once.{entailed_once}
use Rattle.cert_semantics.specs.Paths.{Step, def, first, second, lemma, Path, root, ◌▸◌, is_declared}
use Rattle.cert_check.specs.declared.descent.Above.{Above}
use Rattle.cert_check.specs.declared.descent.Above.TheVariants.{Def, First, Second, Lemma}

abbrev pub step_of : Above → Step
step_of (Def row d) = def row d
step_of (First row) = first row
step_of (Second row) = second row
step_of (Lemma row) = lemma row

-- the path that goes on with these steps
abbrev pub path_from : Path → List Above → Path
path_from path [] = path
path_from path (step ∷ steps) = path_from (step_of step ▸ path) steps

-- the path down from the root, for a job of a form
abbrev pub path_of : ℕ → List Above → Path
path_of form = path_from (root form)

-- that the lemmas above are entailed is so in one way
pub entailed_above : (job : Job) (above : List Above) → IsProp (AreEntailed job.range (path_of job.form above))
entailed_above job above = entailed_once job.range (path_of job.form above)

-- whether each row names declared variables alone, and each def's number is above 0
abbrev pub are_sound : Path → Bool
are_sound (root form) = true
are_sound (def row d ▸ outer) = is_declared outer row && lt_z (pos 0) d && are_sound outer
are_sound (first row ▸ outer) = is_declared outer row && are_sound outer
are_sound (second row ▸ outer) = is_declared outer row && are_sound outer
are_sound (lemma row ▸ outer) = is_declared outer row && are_sound outer

-- ---- the step down to a node, and the path above it

abbrev pub outer_of : Path → Path
outer_of (root form) = root form
outer_of (step ▸ outer) = outer

abbrev pub is_below_def : Path → Bool
is_below_def (root form) = false
is_below_def (def row d ▸ outer) = true
is_below_def (first row ▸ outer) = false
is_below_def (second row ▸ outer) = false
is_below_def (lemma row ▸ outer) = false

-- below a split or a lemma, which add one fact
abbrev pub is_below_row : Path → Bool
is_below_row (root form) = false
is_below_row (def row d ▸ outer) = false
is_below_row (first row ▸ outer) = true
is_below_row (second row ▸ outer) = true
is_below_row (lemma row ▸ outer) = true

-- What the verdict on a leaf says.
use Rattle.std.specs.Prelude.{◌≡◌, ◌≢◌, ℕ, ◌<◌, ◌≤◌, ◌-◌, Bool, true, false, IsTrue, List, length, take, Option, Some, None, slice_get}
use Rattle.viz_base.specs.Numbers.{Rose}
use Rattle.viz_base.specs.declared.worlds.Rect.{Rect}
use Rattle.viz_base.specs.declared.worlds.World.{World}
use Rattle.viz_base.specs.declared.jobs.Job.{Job}
use Rattle.viz_base.specs.Jobs.{IsFormed}
use Rattle.viz_calc.specs.World.{Reading}
use Rattle.viz_calc.specs.State.{Grows}
use Rattle.lin_proof.specs.Form.{Form}
use Rattle.lin_proof.specs.declared.derivation.Answer.{Answer}
use Rattle.cert_semantics.specs.Paths.{Path, form_of, AreSound}
use Rattle.cert_semantics.specs.Facts.{facts}
use Rattle.cert_semantics.specs.Derived.{AreEntailed, AreRefuted}
use Rattle.sym_calc.specs.declared.sym.Sym.{Sym}
use Rattle.sym_calc.specs.declared.troubles.Trouble.{Trouble}
use Rattle.sym_calc.specs.declared.troubles.Trouble.TheVariants as of_trouble
use Rattle.sym_calc.specs.Calc.{state_of}
use Rattle.sym_calc.specs.Floors.{floors_of}
use Rattle.sym_calc.specs.Knowledge.{is_kept}
use Rattle.sym_calc.specs.Laws.{IsFaultBelow, origin_of}
use Rattle.cert_check.specs.declared.verdicts.Verdict.{Verdict}
use Rattle.cert_check.specs.declared.verdicts.Verdict.TheVariants.{Accepted, Rejected}
use Rattle.cert_check.specs.declared.verdicts.Reject.{Reject}
use Rattle.cert_check.specs.declared.verdicts.Reject.TheVariants.{OtherJob, Shape, Line, Untrue, Unmet, Differs, Short, Left, Coeff}
use Rattle.cert_check.specs.Truths.{is_true_at, IsThroughout, IsTrueOn}

-- the calc stands over this path of a range, whose lemmas were derived, and keeps its worlds
pub record StandsOver (range : Rect) (path : Path) (s : Sym) : Type 0 where
  pub formed : IsFormed (form_of path) range
  pub sound : AreSound path
  pub entailed : AreEntailed range path
  pub origin_is : s.path.now.origin ≡ origin_of range path
  pub facts_are : s.path.now.facts ≡ facts range path
  pub floors_are : s.path.now.floors ≡ floors_of path
  pub kept : (world : World)
      → (state_of s).kept.worlds world ≡ is_kept (origin_of range path) (facts range path) (floors_of path) world

-- ---- causes

-- the answer of this number is wrong at this line, and those before it are right
pub record IsWrongAnswer (range : Rect) (path : Path) (answers : List Answer) (number line : ℕ) : Type 0 where
  pub answer : Answer
  pub is_answer : slice_get answers number ≡ Some answer
  pub before : AreRefuted range path (take number answers)
  pub wrong : IsFaultBelow range path answer line

-- the answer of this number is to this row and not to ours, and those before it are right
pub record IsToAnother (range : Rect) (path : Path) (answers : List Answer) (number : ℕ) (ours theirs : Form)
    : Type 0 where
  pub answer : Answer
  pub is_answer : slice_get answers number ≡ Some answer
  pub before : AreRefuted range path (take number answers)
  pub theirs_is : answer.row ≡ theirs
  pub other : ours ≢ theirs

-- the formula is true at each world of the path, and so many answers are left behind those that were taken, which are
-- right
pub record AreLeft (job : Job) (path : Path) (answers : List Answer) (count : ℕ) : Type 0 where
  pub holds : IsTrueOn job path
  pub some : 0 < count
  pub most : count ≤ length answers
  pub right : AreRefuted job.range path (take (length answers - count) answers)

-- a calc that stood over the path, with these answers as its tape, went on without a trouble, and counted a number
-- outside `i128` on the way
pub record CountsOutside (range : Rect) (path : Path) (answers : List Answer) : Type 0 where
  pub before : Sym
  pub stands : StandsOver range path before
  pub tape_is : before.tape.now ≡ answers
  pub after : Sym
  pub grows : Grows (state_of before) (state_of after)
  pub untroubled : after.trouble ≡ None
  pub counted : Rose before.coeffs after.coeffs

-- why a leaf on a path with these answers is rejected
abbrev pub IsLeafFault : Job → Path → List Answer → Reject → Type 0
IsLeafFault job path answers OtherJob = ⊥
IsLeafFault job path answers (Shape n) = ⊥
IsLeafFault job path answers (Untrue n world) = ⊥
IsLeafFault job path answers (Line n number line) = IsWrongAnswer job.range path answers number line
IsLeafFault job path answers (Differs n number ours theirs) = IsToAnother job.range path answers number ours theirs
IsLeafFault job path answers (Short n) = AreRefuted job.range path answers
IsLeafFault job path answers (Unmet n) = IsThroughout job path false
IsLeafFault job path answers (Left n count) = AreLeft job path answers count
IsLeafFault job path answers (Coeff n) = CountsOutside job.range path answers

-- the number of the node that is rejected
abbrev pub node_in : Reject → ℕ
node_in OtherJob = 0
node_in (Shape n) = n
node_in (Line n number line) = n
node_in (Untrue n world) = n
node_in (Unmet n) = n
node_in (Differs n number ours theirs) = n
node_in (Short n) = n
node_in (Left n count) = n
node_in (Coeff n) = n

-- A leaf of this number is accepted only where the formula is true at each world of its path and its answers are right.
abbrev pub IsLeafVerdict : Job → ℕ → Path → List Answer → Verdict → Type 0
IsLeafVerdict job n path answers Accepted = IsTrueOn job path × AreRefuted job.range path answers
IsLeafVerdict job n path answers (Rejected reject) = (node_in reject ≡ n) × IsLeafFault job path answers reject

-- ---- the calc's own words

-- how a trouble of a leaf's calc is told
abbrev pub reject_of : ℕ → Trouble → Reject
reject_of n (of_trouble.Line number line) = Line n number line
reject_of n (of_trouble.Differs number ours theirs) = Differs n number ours theirs
reject_of n of_trouble.Short = Short n

-- how many answers of its tape are not taken
abbrev pub left_of : Sym → ℕ
left_of s = length s.tape.now - s.taken

-- where the calc met no trouble, each answer that it took is right
abbrev pub TakesRight : Rect → Sym → Sym → Type 0
TakesRight range old new = new.trouble ≡ None → (path : Path) → StandsOver range path old
    → AreRefuted range path (take new.taken old.tape.now)

-- the formula has this truth at each reading that the calc still has open, after the answers that it took
abbrev pub IsKnown : Job → Sym → Bool → Type 0
IsKnown job s wanted = (e : Reading) → IsTrue ((state_of s).is_open e) → is_true_at job e.world ≡ wanted

-- the verdicts that tell of no trouble: the truth is what the calc knows after the answers that it took, none or so
-- many are left behind these, and a number is outside `i128` only where it counted one
abbrev pub IsUntroubled : Job → Sym → Sym → Verdict → Type 0
IsUntroubled job old new Accepted = IsKnown job new true × (left_of new ≡ 0)
IsUntroubled job old new (Rejected (Unmet n)) = IsKnown job new false
IsUntroubled job old new (Rejected (Left n count)) = IsKnown job new true × (count ≡ left_of new)
IsUntroubled job old new (Rejected (Coeff n)) = Rose old.coeffs new.coeffs
IsUntroubled job old new (Rejected _) = ⊥

-- a trouble is told exactly where the calc met it
abbrev pub IsTold : Job → ℕ → Sym → Sym → Option Trouble → Verdict → Type 0
IsTold job n old new (Some trouble) verdict = verdict ≡ Rejected (reject_of n trouble)
IsTold job n old new None verdict = IsUntroubled job old new verdict

-- What the plain prover finds of a rectangle with so many turns.
use Rattle.std.specs.Prelude.{◌≡◌, ℕ, ◌+◌, ◌*◌, ◌^◌, ◌<◌, ◌≤◌, max, length, Result, Ok, Err, IsTrue}
use Rattle.std.specs.List.{AllByRecursion}
use Rattle.viz_base.specs.declared.worlds.Rect.{Rect}
use Rattle.viz_base.specs.declared.worlds.Axis.TheVariants.{Width, Size, Height}
use Rattle.viz_base.specs.Worlds.{side_of, span_count, world_count}
use Rattle.viz_base.specs.declared.jobs.Job.{Job}
use Rattle.cert_text.specs.declared.certificate.CertNode.TheVariants.{Grid}
use Rattle.cert_text.specs.Texts.{node_text, node_has_text}
use Rattle.cert_semantics.specs.Paths.{Path, form_of}
use Rattle.cert_semantics.specs.Rectangles.{whole, rectangle}
use Rattle.cert_semantics.specs.Nodes.{nodes_from}
use Rattle.cert_semantics.specs.Units.{AreUnits}
use Rattle.cert_check.specs.Truths.{IsTrueIn}
use Rattle.cert_check.specs.Right.{IsGood}
use Rattle.prove_search.specs.declared.plain.Closed.{Closed}
use Rattle.prove_search.specs.declared.plain.Stop.{Stop}
use Rattle.prove_search.specs.declared.plain.Stop.TheVariants.{Mem, Violated, Undecided}
use Rattle.prove_search.specs.Outcomes.{laid_out_count, IsViolation, IsUndecided}

-- the rectangle is one world after so many halvings
pub record HasLevels (levels : ℕ) (r : Rect) : Type 0 where
  pub of_width : ℕ
  pub of_size : ℕ
  pub of_height : ℕ
  pub whole : of_width + of_size + of_height ≡ levels
  pub widths : span_count (side_of Width r) ≤ 2 ^ of_width
  pub sizes : span_count (side_of Size r) ≤ 2 ^ of_size
  pub heights : span_count (side_of Height r) ≤ 2 ^ of_height

-- such a path of a certificate for the job, and what it leaves of the range is this rectangle
pub record LeadsTo (job : Job) (path : Path) (r : Rect) : Type 0 where
  pub form : form_of path ≡ job.form
  pub units : AreUnits path
  pub left : rectangle job.range path ≡ whole r

-- the node decides the rectangle, wherever it stands in a certificate, and is one grid where there are at most 64 worlds;
-- what it cost; and its text, which it has where defs and splits may stand as deep in one another below it as the
-- rectangle can be halved
pub record IsClosed (job : Job) (r : Rect) (turns : ℕ) (closed : Closed) : Type 0 where
  pub good : (path : Path) → LeadsTo job path r → AllByRecursion (IsGood job) (nodes_from closed.node path)
  pub holds : IsTrueIn job r
  pub one_grid : world_count r ≤ 64 → closed.node ≡ Grid
  pub turn : 0 < turns
  pub few_grids : laid_out_count closed.node + closed.left ≤ turns
  pub few_turns : turns + 1 ≤ closed.left + 2 * world_count r
  pub spelled : (levels depth : ℕ) → HasLevels levels r → levels ≤ depth → IsTrue (node_has_text 1 closed.node depth)
  pub short : length (node_text closed.node) + 17 ≤ max 22 (world_count r)

abbrev pub IsFinding : Job → Rect → ℕ → Result Closed Stop → Type 0
IsFinding job r turns (Ok closed) = IsClosed job r turns closed
IsFinding job r turns (Err Mem) = Unit {0}
IsFinding job r turns (Err (Violated world)) = (0 < turns) × IsViolation job r world
IsFinding job r turns (Err (Undecided part)) = IsUndecided r turns part

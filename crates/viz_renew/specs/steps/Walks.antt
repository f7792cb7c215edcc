-- Where a walk is, and what it brings of a node and of all below it.
use Rattle.std.specs.Prelude.{◌≡◌, ℕ, ◌+◌, ◌<◌, ◌^◌, true, ◌++◌, IfSome}
use Rattle.viz_base.specs.declared.jobs.Job.{Job}
use Rattle.cert_text.specs.declared.certificate.CertNode.{CertNode}
use Rattle.lin_proof.specs.Form.{Form}
use Rattle.cert_semantics.specs.Nodes.{nodes_from}
use Rattle.cert_semantics.specs.Paths.{Step, first, second, Path, ◌▸◌, variables}
use Rattle.cert_semantics.specs.Rectangles.{rectangle}
use Rattle.viz_base.specs.Rectangles.{IsWithin}
use Rattle.cert_check.specs.declared.descent.Descent.{Descent}
use Rattle.cert_check.specs.steps.Grids.{IsPart}
use Rattle.cert_check.specs.steps.Ways.{path_at}
use Rattle.viz_renew.specs.declared.counts.Kept.{Kept}
use Rattle.viz_renew.specs.declared.here.Here.{Here}
use Rattle.viz_renew.specs.Pieces.{Keeps, stands}
use Rattle.viz_renew.specs.steps.Bare.{bare}

-- the walk is at a node on this descent, and so many more variables may be declared
pub record IsHere (descent : Descent) (here : Here) (more : ℕ) : Type 0 where
  pub few : variables (path_at descent) + more < 2 ^ 32
  pub part : IsPart here.part (rectangle descent.job.now.range (path_at descent))
  pub within : IfSome here.part (IsWithin descent.job.now.range)

-- a node and all below it bring the counts from the first to the second, on each path that stands and that is the
-- walk's but for lemmas
abbrev pub KeepsHere : Job → Path → CertNode → Kept → Kept → Type 0
KeepsHere job at node old new = (path : Path) → bare path ≡ bare at → stands job.range path ≡ true
    → Keeps job (nodes_from node path) old new

-- so it is with a node one step below
abbrev pub KeepsBelow : Job → Path → Step → CertNode → Kept → Kept → Type 0
KeepsBelow job at step node old new = (path : Path) → bare path ≡ bare at → stands job.range path ≡ true
    → Keeps job (nodes_from node (step ▸ path)) old new

-- and with both parts of a split
abbrev pub KeepsBoth : Job → Path → Form → CertNode → CertNode → Kept → Kept → Type 0
KeepsBoth job at row one other old new = (path : Path) → bare path ≡ bare at → stands job.range path ≡ true
    → Keeps job (nodes_from one (first row ▸ path) ++ nodes_from other (second row ▸ path)) old new

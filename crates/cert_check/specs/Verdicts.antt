-- The causes of verdicts.
use Rattle.std.specs.Prelude.{◌≡◌, ◌≢◌, ℕ, ◌<◌, false, true, IsTrue, Some, slice_get}
use Rattle.viz_base.specs.declared.worlds.World.{World}
use Rattle.viz_base.specs.declared.worlds.Rect.{Rect}
use Rattle.viz_base.specs.declared.jobs.Job.{Job}
use Rattle.viz_base.specs.Worlds.{IsInRange}
use Rattle.lin_proof.specs.Form.{form_fits, denied}
use Rattle.lin_proof.specs.Derivations.{first_fault}
use Rattle.lin_proof.specs.Entailments.{with_denied}
use Rattle.cert_text.specs.declared.certificate.Cert.{Cert}
use Rattle.cert_semantics.specs.Paths.{Path, variables, IsOn}
use Rattle.cert_semantics.specs.Facts.{facts}
use Rattle.cert_semantics.specs.Nodes.{Decision, names, splits, states, is_empty, by_worlds, by_answers, Node, nodes_of}
use Rattle.cert_semantics.specs.Rectangles.{rectangle}
use Rattle.cert_semantics.specs.Shapes.{is_shaped}
use Rattle.cert_semantics.specs.Laws.{IsInside}
use Rattle.cert_check.specs.declared.verdicts.Verdict.{Verdict}
use Rattle.cert_check.specs.declared.verdicts.Verdict.TheVariants.{Accepted, Rejected}
use Rattle.cert_check.specs.declared.verdicts.Reject.{Reject}
use Rattle.cert_check.specs.declared.verdicts.Reject.TheVariants.{OtherJob, Shape, Line, Untrue, Coeff}
use Rattle.cert_check.specs.Truths.{is_true_at, Holds}
use Rattle.cert_check.specs.Truths.{IsBefore}
use Rattle.cert_check.specs.Numbers.{are_computed, IsComputed}
use Rattle.cert_check.specs.Leaves.{IsLeafFault, node_in}
use Rattle.cert_check.specs.Right.{IsGood, AreGood, Right}

-- ---- faults of nodes

-- the first world of the range on the path at which the formula is false
pub record IsFirstUntrue (job : Job) (path : Path) (world : World) : Type 0 where
  pub in_range : IsInRange job.range world
  pub on_path : IsOn path world
  pub untrue : is_true_at job world ≡ false
  pub first : (other : World) → IsBefore other world → IsInRange job.range other → IsOn path other
      → IsTrue (is_true_at job other)

-- a world of the path's rectangle at which a number on the path is outside `i128`
pub record IsOutside (range : Rect) (path : Path) : Type 0 where
  pub world : World
  pub inside : IsInside (rectangle range path) world
  pub outside : are_computed path world ≡ false

-- what is wrong with a node that is well shaped
abbrev pub IsFault : Job → Path → Decision → Reject → Type 0
IsFault job path (names row d) reject = ⊥
IsFault job path (splits row) (Coeff n) = form_fits (denied row) ≡ false
IsFault job path (splits row) _ = ⊥
IsFault job path (states row why) (Coeff n) = form_fits (denied row) ≡ false
IsFault job path (states row why) (Line n number line) = (number ≡ 0) × (form_fits (denied row) ≡ true)
    × (first_fault (with_denied (facts job.range path) row) (variables path) why ≡ Some line)
IsFault job path (states row why) _ = ⊥
IsFault job path (is_empty why) (Line n number line) = (number ≡ 0)
    × (first_fault (facts job.range path) (variables path) why ≡ Some line)
IsFault job path (is_empty why) _ = ⊥
IsFault job path by_worlds (Coeff n) = IsOutside job.range path
IsFault job path by_worlds (Untrue n world) = IsComputed job.range path × IsFirstUntrue job path world
IsFault job path by_worlds _ = ⊥
IsFault job path (by_answers answers) reject = IsLeafFault job path answers reject

-- why a node is rejected: it is badly shaped, or else it has another fault
abbrev pub IsRejected : Job → Node → Reject → Type 0
IsRejected job node (Shape n) = is_shaped job.range node.path node.decision ≡ false
IsRejected job node OtherJob = ⊥
IsRejected job node reject = (is_shaped job.range node.path node.decision ≡ true)
    × IsFault job node.path node.decision reject

-- ---- verdicts

-- the certificate names the job's digest, this is its node of this number, and each node before it is good
pub record IsReached (job : Job) (cert : Cert) (n : ℕ) (node : Node) : Type 0 where
  pub digest : cert.job ≡ job.digest
  pub is_node : slice_get (nodes_of job.form cert) n ≡ Some node
  pub before : (k : ℕ) (other : Node) → k < n → slice_get (nodes_of job.form cert) k ≡ Some other → IsGood job other

-- a node is rejected so, and each before it is good
pub record IsFirstRejected (job : Job) (cert : Cert) (reject : Reject) : Type 0 where
  pub node : Node
  pub reached : IsReached job cert (node_in reject) node
  pub rejected : IsRejected job node reject

-- why a certificate is rejected
abbrev pub IsCause : Job → Cert → Reject → Type 0
IsCause job cert OtherJob = cert.job ≢ job.digest
IsCause job cert reject = IsFirstRejected job cert reject

-- the certificate is right for the job, which holds, and each of its nodes is good, so that no number of a split's or
-- lemma's denial or of a grid's path is outside `i128`
pub record Passes (job : Job) (cert : Cert) : Type 0 where
  pub right : Right job cert
  pub holds : Holds job
  pub good : AreGood job cert

-- the verdict on a certificate for a job; where it is accepted, the job holds
abbrev pub IsVerdict : Job → Cert → Verdict → Type 0
IsVerdict job cert Accepted = Passes job cert
IsVerdict job cert (Rejected reject) = IsCause job cert reject

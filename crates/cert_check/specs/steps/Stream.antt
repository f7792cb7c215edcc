-- The nodes of a certificate as its pieces come, one after another.
use Rattle.std.specs.Prelude.{◌≡◌, ℕ, ◌+◌, ◌≤◌, Bool, true, false, IsTrue, IfSome, List, [], ◌∷◌, ◌++◌, length, reverse, Option, Some, None, Ok, ⊤}
use Rattle.viz_base.specs.declared.worlds.Rect.{Rect}
use Rattle.viz_base.specs.declared.jobs.Job.{Job}
use Rattle.lin_proof.specs.Form.{Form, form_fits, denied}
use Rattle.cert_text.specs.declared.certificate.Cert.{Cert}
use Rattle.cert_text.specs.declared.certificate.Piece.{Piece}
use Rattle.cert_text.specs.declared.certificate.Piece.TheVariants.{Head, Def, Split, Lemma, Void, Grid, Leaf}
use Rattle.cert_text.specs.Texts.{CertText}
use Rattle.cert_text.specs.declared.certificate.CertFault.{CertFault}
use Rattle.cert_text.specs.declared.certificate.CertFault.TheVariants.{Mem, Grammar}
use Rattle.cert_text.specs.Pieces.{Reading, HasGiven, IsWhole, HasNoText, IsNext, cert_pieces, bytes_of}
use Rattle.cert_semantics.specs.Axes.{axis_count}
use Rattle.cert_semantics.specs.Paths.{def, first, second, lemma, Path, root, ◌▸◌, is_declared, variables}
use Rattle.cert_semantics.specs.Nodes.{names, splits, states, is_empty, by_worlds, by_answers, Node, node_on}
use Rattle.cert_semantics.specs.Rectangles.{rectangle}
use Rattle.cert_check.specs.declared.verdicts.Verdict.{Verdict}
use Rattle.cert_check.specs.declared.verdicts.Verdict.TheVariants.{Accepted, Rejected}
use Rattle.cert_check.specs.declared.verdicts.Reject.{Reject}
use Rattle.cert_check.specs.declared.bytes.BytesVerdict.{BytesVerdict}
use Rattle.cert_check.specs.declared.bytes.BytesVerdict.TheVariants as of_bytes
use Rattle.cert_check.specs.declared.visits.Last.{Last}
use Rattle.cert_check.specs.declared.visits.Last.TheVariants as of_last
use Rattle.cert_check.specs.declared.visits.Pending.{Pending}
use Rattle.cert_check.specs.declared.visits.Visits.{Visits}
use Rattle.viz_base.specs.Rectangles.{IsWithin}
use Rattle.cert_check.specs.Verdicts.{Passes, IsCause, IsVerdict}
use Rattle.cert_check.specs.steps.Tells.{AllGood}
use Rattle.cert_check.specs.steps.Grids.{IsPart}
use Rattle.cert_check.specs.steps.Ways.{path_at}

-- ---- pieces and nodes

-- the node of a piece on a path; a head has none
abbrev pub own_nodes : Path → Piece → List Node
own_nodes path (Head form job) = []
own_nodes path (Def row d) = node_on path (names row d) ∷ []
own_nodes path (Split row) = node_on path (splits row) ∷ []
own_nodes path (Lemma row why) = node_on path (states row why) ∷ []
own_nodes path (Void why) = node_on path (is_empty why) ∷ []
own_nodes path Grid = node_on path by_worlds ∷ []
own_nodes path (Leaf answers) = node_on path (by_answers answers) ∷ []

-- the paths to the nodes that come below a node; below a head comes the root, on the path that is due
abbrev pub paths_below : Path → Piece → List Path
paths_below path (Head form job) = path ∷ []
paths_below path (Def row d) = (def row d ▸ path) ∷ []
paths_below path (Split row) = (first row ▸ path) ∷ (second row ▸ path) ∷ []
paths_below path (Lemma row why) = (lemma row ▸ path) ∷ []
paths_below path (Void why) = []
paths_below path Grid = []
paths_below path (Leaf answers) = []

-- the nodes of pieces, where nodes on these paths are due
abbrev pub nodes_by : List Path → List Piece → List Node
nodes_by paths [] = []
nodes_by [] (piece ∷ pieces) = []
nodes_by (path ∷ paths) (piece ∷ pieces) = own_nodes path piece ++ nodes_by (paths_below path piece ++ paths) pieces

-- the paths on which nodes are due after these pieces
abbrev pub paths_after : List Path → List Piece → List Path
paths_after paths [] = paths
paths_after [] (piece ∷ pieces) = []
paths_after (path ∷ paths) (piece ∷ pieces) = paths_after (paths_below path piece ++ paths) pieces

-- ---- the way down to the node that is due

-- the second children of splits in whose first child a path is: they are due behind it, the innermost first
abbrev pub seconds : Path → List Path
seconds (root form) = []
seconds (def row d ▸ outer) = seconds outer
seconds (first row ▸ outer) = (second row ▸ outer) ∷ seconds outer
seconds (second row ▸ outer) = seconds outer
seconds (lemma row ▸ outer) = seconds outer

-- how many steps a path has
abbrev pub depth : Path → ℕ
depth (root form) = 0
depth (step ▸ outer) = depth outer + 1

-- the last step
abbrev pub last_of : Path → Option Last
last_of (root form) = None
last_of (def row d ▸ outer) = Some of_last.Def
last_of (first row ▸ outer) = Some of_last.First
last_of (second row ▸ outer) = Some of_last.Other
last_of (lemma row ▸ outer) = Some of_last.Other

-- what is held of a split by this row below a path
pub record IsHeld (range : Rect) (outer : Path) (row : Form) (held : Pending) : Type 0 where
  pub row_is : held.row ≡ row
  pub declared : IsTrue (is_declared outer row)
  pub fits : IsTrue (form_fits (denied row))
  pub part : IsPart held.part (rectangle range outer)
  pub within : IfSome held.part (IsWithin range)

-- each split in whose first child a path is is held, the innermost first
abbrev pub AreHeld : Rect → Path → List Pending → Type 0
AreHeld range (root form) pending = ⊤
AreHeld range (def row d ▸ outer) pending = AreHeld range outer pending
AreHeld range (first row ▸ outer) [] = ⊥
AreHeld range (first row ▸ outer) (held ∷ pending) = IsHeld range outer row held × AreHeld range outer pending
AreHeld range (second row ▸ outer) pending = AreHeld range outer pending
AreHeld range (lemma row ▸ outer) pending = AreHeld range outer pending

-- the visits can go up from a node before this number
pub record CanTurn (visits : Visits) (number : ℕ) : Type 0 where
  pub held : AreHeld visits.descent.job.now.range (path_at visits.descent) (reverse visits.pending.items)
  pub variables : variables (path_at visits.descent) ≤ number + axis_count visits.descent.job.now.form

-- they stand before the node of this number
pub record IsReady (visits : Visits) (number : ℕ) : Type 0 where
  pub part : IsPart visits.part (rectangle visits.descent.job.now.range (path_at visits.descent))
  pub within : IfSome visits.part (IsWithin visits.descent.job.now.range)
  pub turns : CanTurn visits number

-- nodes on these paths are due, the first of them being the node of this number
abbrev pub IsDue : Visits → ℕ → List Path → Type 0
IsDue visits number [] = ⊤
IsDue visits number (path ∷ paths) = (path_at visits.descent ≡ path) × (paths ≡ seconds path) × IsReady visits number

-- the node of a piece that comes now
abbrev pub nodes_here : Visits → Piece → List Node
nodes_here visits piece = own_nodes (path_at visits.descent) piece

-- the paths on which nodes are due behind it
abbrev pub due_behind : Visits → Piece → List Path
due_behind visits piece = paths_below (path_at visits.descent) piece ++ seconds (path_at visits.descent)

-- ---- what is found

-- the piece is the head of a certificate for the job
abbrev pub HeadsFor : Job → Piece → Type 0
HeadsFor job (Head form digest) = digest ≡ job.digest
HeadsFor job (Def row d) = ⊥
HeadsFor job (Split row) = ⊥
HeadsFor job (Lemma row why) = ⊥
HeadsFor job (Void why) = ⊥
HeadsFor job Grid = ⊥
HeadsFor job (Leaf answers) = ⊥

-- where the head was read, and whether it is for the job
abbrev pub IsHead : Job → Reading → Bool → Type 0
IsHead job reading true = (piece : Piece) × HasGiven reading (piece ∷ []) × HeadsFor job piece
IsHead job reading false = (piece : Piece) × HasGiven reading (piece ∷ []) × (HeadsFor job piece → ⊥)

-- a certificate that begins with the pieces that were given is rejected so
pub record IsRejectedFrom (job : Job) (reading : Reading) (reject : Reject) : Type 0 where
  pub given : List Piece
  pub has : HasGiven reading given
  pub cause : (cert : Cert) (more : List Piece) → cert_pieces cert ≡ given ++ more → IsCause job cert reject

-- what was found up to here; a certificate is accepted only at its end
abbrev pub IsFound : Job → Reading → Verdict → Type 0
IsFound job reading Accepted = IsWhole reading × ((cert : Cert) → CertText cert reading.taken → Passes job cert)
IsFound job reading (Rejected reject) = IsRejectedFrom job reading reject

-- the bytes taken are a certificate's text, and this is the verdict on it
abbrev pub IsFoundOfAll : Job → Reading → Verdict → Type 0
IsFoundOfAll job reading verdict = (cert : Cert) × CertText cert reading.taken × IsVerdict job cert verdict

-- one piece more was read, or there was none
abbrev pub IsOneMore : Reading → Bool → Reading → Type 0
IsOneMore old true new = (piece : Piece) × IsNext old (Ok (Some piece)) new
IsOneMore old false new = (new ≡ old) × IsWhole old

-- a certificate was read on to its end
abbrev pub IsReadOn : Reading → Reading → Type 0
IsReadOn old new = IsWhole new
    × ((given : List Piece) → HasGiven old given → (more : List Piece) × HasGiven new (given ++ more))

-- the cause of a reader's fault; want of memory says nothing
abbrev pub HasFault : CertFault → List ℕ → Type 0
HasFault Mem bytes = ⊤
HasFault (Grammar at) bytes = HasNoText bytes at

-- as verdicts on bytes
abbrev pub of_verdict : Verdict → BytesVerdict
of_verdict Accepted = of_bytes.Accepted
of_verdict (Rejected reject) = of_bytes.Rejected reject

-- ---- the loop over the pieces

-- the pieces given so far begin with a head for the job, their nodes are good, and what is due behind them is before us
pub record IsWalking (job : Job) (start now : Reading) (visits : Visits) (number : ℕ) : Type 0 where
  pub bytes : bytes_of now ≡ bytes_of start
  pub given : List Piece
  pub has : HasGiven now given
  pub head : (piece : Piece) × (more : List Piece) × HeadsFor job piece × (given ≡ piece ∷ more)
  pub job_is : visits.descent.job.now ≡ job
  pub good : AllGood job (nodes_by (root job.form ∷ []) given)
  pub number_is : number ≡ length (nodes_by (root job.form ∷ []) given)
  pub due : IsDue visits number (paths_after (root job.form ∷ []) given)

-- How many leaves and grids of a certificate are kept under a job.
use Rattle.std.specs.Prelude.{◌≡◌, ◌↔◌, ℕ, ◌+◌, Bool, true, ◌&&◌, IsTrue, List, [], ◌∷◌, if◌then◌else◌, ⊤}
use Rattle.viz_base.specs.declared.jobs.Job.{Job}
use Rattle.viz_base.specs.declared.worlds.Rect.{Rect}
use Rattle.lin_proof.specs.Form.{form_fits, denied}
use Rattle.cert_text.specs.declared.certificate.Cert.{Cert}
use Rattle.cert_semantics.specs.Paths.{Step, def, first, second, lemma, Path, root, ◌▸◌}
use Rattle.cert_semantics.specs.Nodes.{Decision, names, splits, states, is_empty, by_worlds, by_answers, Node, nodes_of}
use Rattle.cert_semantics.specs.Shapes.{is_shaped}
use Rattle.cert_check.specs.Numbers.{IsComputed}
use Rattle.cert_check.specs.Truths.{IsTrueOn}
use Rattle.viz_renew.specs.declared.counts.Kept.{Kept}

-- ---- counts

abbrev pub raised : Bool → ℕ → ℕ
raised more count = if more then count + 1 else count

abbrev pub nothing : Kept
nothing = record { leaves = 0; leaves_kept = 0; grids = 0; grids_kept = 0 }

-- a grid more, and whether it is kept
abbrev pub with_grid : Bool → Kept → Kept
with_grid so k = record {
  leaves = k.leaves;
  leaves_kept = k.leaves_kept;
  grids = k.grids + 1;
  grids_kept = raised so k.grids_kept;
}

abbrev pub with_leaf : Bool → Kept → Kept
with_leaf so k = record {
  leaves = k.leaves + 1;
  leaves_kept = raised so k.leaves_kept;
  grids = k.grids;
  grids_kept = k.grids_kept;
}

-- a node more: only grids and leaves are counted
abbrev pub with_node : Decision → Bool → Kept → Kept
with_node (names row d) so kept = kept
with_node (splits row) so kept = kept
with_node (states row why) so kept = kept
with_node (is_empty why) so kept = kept
with_node by_worlds so kept = with_grid so kept
with_node (by_answers answers) so kept = with_leaf so kept

-- ---- what is kept

-- the node above from which this step goes down is well shaped, and the denial of a split's or a lemma's row is in
-- `i128`; a lemma's derivation isn't looked at
abbrev pub is_firm : Rect → Path → Step → Bool
is_firm range path (def row d) = is_shaped range path (names row d)
is_firm range path (first row) = is_shaped range path (splits row) && form_fits (denied row)
is_firm range path (second row) = is_shaped range path (splits row) && form_fits (denied row)
is_firm range path (lemma row) = is_shaped range path (splits row) && form_fits (denied row)

-- so it is with each node above
abbrev pub stands : Rect → Path → Bool
stands range (root form) = true
stands range (step ▸ outer) = is_firm range outer step && stands range outer

-- the nodes above stand and the grid is well shaped, its numbers are in `i128`, and the formula is true at each world of
-- its path
pub record IsKeptGrid (job : Job) (path : Path) : Type 0 where
  pub above : stands job.range path ≡ true
  pub shaped : is_shaped job.range path by_worlds ≡ true
  pub computed : IsComputed job.range path
  pub holds : IsTrueOn job path

-- the nodes above stand, as a leaf always does, and the formula is true at each world of its path
pub record IsKeptLeaf (job : Job) (path : Path) : Type 0 where
  pub above : stands job.range path ≡ true
  pub holds : IsTrueOn job path

-- a grid is counted as kept exactly where it is; a leaf only where it is
abbrev pub IsMark : Job → Path → Decision → Bool → Type 0
IsMark job path (names row d) so = ⊤
IsMark job path (splits row) so = ⊤
IsMark job path (states row why) so = ⊤
IsMark job path (is_empty why) so = ⊤
IsMark job path by_worlds so = IsTrue so ↔ IsKeptGrid job path
IsMark job path (by_answers answers) so = IsTrue so → IsKeptLeaf job path

-- nodes one after another bring the counts from the first to the second
pub data Keeps (job : Job) : List Node → Kept → Kept → Type 0 where
  none : {kept : Kept} → Keeps job [] kept kept
  node : {node : Node} {nodes : List Node} {old new : Kept} (so : Bool) → IsMark job node.path node.decision so
      → Keeps job nodes (with_node node.decision so old) new → Keeps job (node ∷ nodes) old new

-- the counts of a certificate for a job
abbrev pub ArePieces : Job → Cert → Kept → Type 0
ArePieces job cert kept = Keeps job (nodes_of job.form cert) nothing kept

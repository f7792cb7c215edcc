-- The nodes of a certificate.
use Rattle.std.specs.Prelude.{ℕ, ℤ, Bool, true, false, List, [], ◌∷◌, ◌++◌}
use Rattle.lin_proof.specs.Form.{Form}
use Rattle.lin_proof.specs.declared.derivation.Derivation.{Derivation}
use Rattle.lin_proof.specs.declared.derivation.Answer.{Answer}
use Rattle.cert_text.specs.declared.certificate.Cert.{Cert}
use Rattle.cert_text.specs.declared.certificate.CertNode.{CertNode}
use Rattle.cert_text.specs.declared.certificate.CertNode.TheOpen.{CertNode-F}
use Rattle.cert_text.specs.declared.certificate.CertNode.TheFolds.{fold-CertNode}
use Rattle.cert_semantics.specs.Paths.{def, first, second, lemma, Path, root, ◌▸◌}

-- what a node says of its part of the range
pub data Decision : Type 0 where
  -- a def: the next variable is the row divided by the number and rounded down
  names : Form → ℤ → Decision
  -- a split: the row is at least 0, or below 0
  splits : Form → Decision
  -- a lemma: by this derivation the row is at least 0
  states : Form → Derivation → Decision
  -- a void: by this derivation the part has no world
  is_empty : Derivation → Decision
  -- a grid: each world is laid out
  by_worlds : Decision
  -- a leaf: the part is laid out as a whole, by these answers
  by_answers : List Answer → Decision

-- whether the node is a void, a grid or a leaf, below which there is no other
abbrev pub is_end : Decision → Bool
is_end (names row d) = false
is_end (splits row) = false
is_end (states row why) = false
is_end (is_empty why) = true
is_end by_worlds = true
is_end (by_answers answers) = true

-- whether it is a grid or a leaf, where pages are laid out
abbrev pub is_laid_out : Decision → Bool
is_laid_out (names row d) = false
is_laid_out (splits row) = false
is_laid_out (states row why) = false
is_laid_out (is_empty why) = false
is_laid_out by_worlds = true
is_laid_out (by_answers answers) = true

pub record Node : Type 0 where
  pub path : Path
  pub decision : Decision

abbrev pub node_on : Path → Decision → Node
node_on path decision = record { path = path; decision = decision }

-- one level of a certificate, with the lists of its children in their places
abbrev pub nodes_step : CertNode-F (Path → List Node) → Path → List Node
nodes_step (CertNode-F.Def row d below) path = node_on path (names row d) ∷ below (def row d ▸ path)
nodes_step (CertNode-F.Split row one other) path =
    node_on path (splits row) ∷ (one (first row ▸ path) ++ other (second row ▸ path))
nodes_step (CertNode-F.Lemma row why below) path = node_on path (states row why) ∷ below (lemma row ▸ path)
nodes_step (CertNode-F.Void why) path = node_on path (is_empty why) ∷ []
nodes_step CertNode-F.Grid path = node_on path by_worlds ∷ []
nodes_step (CertNode-F.Leaf answers) path = node_on path (by_answers answers) ∷ []

-- a node on a path and all below it, in preorder: each before its first child's, and these before its second child's
abbrev pub nodes_from : CertNode → Path → List Node
nodes_from = fold-CertNode (Path → List Node) nodes_step

-- the nodes of a certificate for a job of a form, in preorder; a node's number is its place in this list
abbrev pub nodes_of : ℕ → Cert → List Node
nodes_of form cert = nodes_from cert.root (root form)

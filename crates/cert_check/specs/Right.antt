-- What a certificate has to be.
use Rattle.std.specs.Prelude.{◌≡◌, ℕ, true, IsTrue, Some, slice_get, ⊤}
use Rattle.std.specs.List.{All}
use Rattle.viz_base.specs.declared.jobs.Job.{Job}
use Rattle.lin_proof.specs.Form.{form_fits, denied}
use Rattle.lin_proof.specs.Derivations.{Refutes}
use Rattle.lin_proof.specs.Entailments.{Entails}
use Rattle.cert_text.specs.declared.certificate.Cert.{Cert}
use Rattle.cert_semantics.specs.Paths.{Path, variables}
use Rattle.cert_semantics.specs.Facts.{facts}
use Rattle.cert_semantics.specs.Nodes.{Decision, names, splits, states, is_empty, by_worlds, by_answers, Node, nodes_of}
use Rattle.cert_semantics.specs.Shapes.{has_shape}
use Rattle.cert_semantics.specs.Derived.{AreRefuted, HasReasons}
use Rattle.cert_semantics.specs.Laws.{IsUnit}
use Rattle.cert_check.specs.Truths.{IsTrueOn}
use Rattle.cert_check.specs.Numbers.{IsComputed}

-- ---- the certificate

-- a grid's formula is true at each world of the range on its path
abbrev pub IsTrueIfGrid : Job → Path → Decision → Type 0
IsTrueIfGrid job path (names row d) = ⊤
IsTrueIfGrid job path (splits row) = ⊤
IsTrueIfGrid job path (states row why) = ⊤
IsTrueIfGrid job path (is_empty why) = ⊤
IsTrueIfGrid job path by_worlds = IsTrueOn job path
IsTrueIfGrid job path (by_answers answers) = ⊤

-- the node is well shaped, the derivations of a lemma, a void or a leaf are right, and a grid's formula is true
pub record IsRightNode (job : Job) (node : Node) : Type 0 where
  pub shaped : has_shape job.range node ≡ true
  pub reasons : HasReasons job.range node.path node.decision
  pub holds : IsTrueIfGrid job node.path node.decision

-- the certificate is right for the job: it names the job's digest, and each of its nodes is right
pub record Right (job : Job) (cert : Cert) : Type 0 where
  pub digest : cert.job ≡ job.digest
  pub nodes : (n : ℕ) (node : Node) → slice_get (nodes_of job.form cert) n ≡ Some node → IsRightNode job node

-- ---- what is computed of it

-- the node is no leaf, and its numbers are in `i128`: those of a split's denial, and those of a grid's path
abbrev pub IsWithin128 : Job → Path → Decision → Type 0
IsWithin128 job path (names row d) = ⊤
IsWithin128 job path (splits row) = IsTrue (form_fits (denied row))
IsWithin128 job path (states row why) = ⊤
IsWithin128 job path (is_empty why) = ⊤
IsWithin128 job path by_worlds = IsComputed job.range path
IsWithin128 job path (by_answers answers) = ⊥

-- no node is a leaf, and all such numbers are in `i128`
abbrev pub IsPlainlyComputed : Job → Cert → Type 0
IsPlainlyComputed job cert = (n : ℕ) (node : Node) → slice_get (nodes_of job.form cert) n ≡ Some node
    → IsWithin128 job node.path node.decision

-- the node is no leaf
abbrev pub IsNoLeaf : Decision → Type 0
IsNoLeaf (names row d) = ⊤
IsNoLeaf (splits row) = ⊤
IsNoLeaf (states row why) = ⊤
IsNoLeaf (is_empty why) = ⊤
IsNoLeaf by_worlds = ⊤
IsNoLeaf (by_answers answers) = ⊥

-- none of the certificate's nodes is one
abbrev pub HasNoLeaf : Job → Cert → Type 0
HasNoLeaf job cert = (n : ℕ) (node : Node) → slice_get (nodes_of job.form cert) n ≡ Some node
    → IsNoLeaf node.decision

-- ---- unit splits and grids

-- the node is a split by a unit row, or a grid
abbrev pub IsUnitOrGrid : ℕ → Decision → Type 0
IsUnitOrGrid form (names row d) = ⊥
IsUnitOrGrid form (splits row) = IsUnit form row
IsUnitOrGrid form (states row why) = ⊥
IsUnitOrGrid form (is_empty why) = ⊥
IsUnitOrGrid form by_worlds = ⊤
IsUnitOrGrid form (by_answers answers) = ⊥

-- each node of the certificate is one of these
abbrev pub AreUnitsAndGrids : Job → Cert → Type 0
AreUnitsAndGrids job cert = All (λ (node : Node). IsUnitOrGrid job.form node.decision) (nodes_of job.form cert)

-- ---- good nodes: those at which the checker goes on

-- a split's denial is in `i128`, a lemma's row is entailed, a void's derivation is right, a grid's numbers are in `i128`
-- and its formula is true, a leaf's formula is true and its answers are right
abbrev pub DecidesWell : Job → Path → Decision → Type 0
DecidesWell job path (names row d) = ⊤
DecidesWell job path (splits row) = IsTrue (form_fits (denied row))
DecidesWell job path (states row why) = Entails (facts job.range path) (variables path) row why
DecidesWell job path (is_empty why) = Refutes (facts job.range path) (variables path) why
DecidesWell job path by_worlds = IsComputed job.range path × IsTrueOn job path
DecidesWell job path (by_answers answers) = IsTrueOn job path × AreRefuted job.range path answers

pub record IsGood (job : Job) (node : Node) : Type 0 where
  pub shaped : has_shape job.range node ≡ true
  pub decides : DecidesWell job node.path node.decision

-- each node of the certificate is good
abbrev pub AreGood : Job → Cert → Type 0
AreGood job cert = (n : ℕ) (node : Node) → slice_get (nodes_of job.form cert) n ≡ Some node → IsGood job node

-- Induction over the nodes of a certificate, and the list of its nodes at each form of node.
use Rattle.std.proofs.Common.{◌≡◌, ℤ, List, subst, rules}
use Rattle.lin_proof.specs.Form.{Form}
use Rattle.lin_proof.specs.declared.derivation.Derivation.{Derivation}
use Rattle.lin_proof.specs.declared.derivation.Answer.{Answer}
use Rattle.cert_text.specs.declared.certificate.CertNode.{CertNode}
use Rattle.cert_text.specs.declared.certificate.CertNode.TheOpen.{CertNode-F}
use Rattle.cert_text.specs.declared.certificate.CertNode.TheViews.{the_lemmas, roll-CertNode}
use Rattle.cert_text.specs.declared.certificate.CertNode.TheFolds.{ind-CertNode, map-CertNode, fold-roll-CertNode, fold_out-CertNode}
use Rattle.cert_text.specs.declared.certificate.CertNode.TheVariants.{Def, Split, Lemma, Void, Grid, Leaf}
use Rattle.cert_semantics.specs.Paths.{Path}
use Rattle.cert_semantics.specs.Nodes.{Node, nodes_step, nodes_from}
use Rattle.cert_semantics.specs.Laws.{IsPreorder}

abbrev pub def_node : Form → ℤ → CertNode → CertNode
def_node row d below = roll-CertNode (CertNode-F.Def row d below)

abbrev pub split_node : Form → CertNode → CertNode → CertNode
split_node row one other = roll-CertNode (CertNode-F.Split row one other)

abbrev pub lemma_node : Form → Derivation → CertNode → CertNode
lemma_node row why below = roll-CertNode (CertNode-F.Lemma row why below)

abbrev pub void_node : Derivation → CertNode
void_node why = roll-CertNode (CertNode-F.Void why)

abbrev pub grid_node : CertNode
grid_node = roll-CertNode CertNode-F.Grid

abbrev pub leaf_node : List Answer → CertNode
leaf_node answers = roll-CertNode (CertNode-F.Leaf answers)

-- what holds of each form of node where it holds of the children
pub record Layers (P : CertNode → Type 0) : Type 0 where
  pub def : (row : Form) (d : ℤ) (below : CertNode) → P below → P (def_node row d below)
  pub split : (row : Form) (one other : CertNode) → P one → P other → P (split_node row one other)
  pub lemma : (row : Form) (why : Derivation) (below : CertNode) → P below → P (lemma_node row why below)
  pub void : (why : Derivation) → P (void_node why)
  pub grid : P grid_node
  pub leaf : (answers : List Answer) → P (leaf_node answers)

layer : {E : Type 0} (P : CertNode → Type 0) (e : E → CertNode) (y : CertNode-F E) → ((p : E) → P (e p)) → Layers P → P (roll-CertNode (map-CertNode E CertNode e y))
layer P e (CertNode-F.Def row d below) parts layers = layers.def row d (e below) (parts below)
layer P e (CertNode-F.Split row one other) parts layers = layers.split row (e one) (e other) (parts one) (parts other)
layer P e (CertNode-F.Lemma row why below) parts layers = layers.lemma row why (e below) (parts below)
layer P e (CertNode-F.Void why) parts layers = layers.void why
layer P e CertNode-F.Grid parts layers = layers.grid
layer P e (CertNode-F.Leaf answers) parts layers = layers.leaf answers

pub by_nodes : (P : CertNode → Type 0) → Layers P → (node : CertNode) → P node
by_nodes P layers = ind-CertNode P (λ x y is. subst (λ z. P (roll-CertNode z)) is (layer P (λ p. p.0) y (λ p. p.1) layers))

pub nodes-def : (row : Form) (d : ℤ) (below : CertNode) → nodes_from (def_node row d below) ≡ nodes_step (CertNode-F.Def row d (nodes_from below))
nodes-def row d below = fold-roll-CertNode (Path → List Node) nodes_step (CertNode-F.Def row d below)

pub nodes-split : (row : Form) (one other : CertNode) → nodes_from (split_node row one other) ≡ nodes_step (CertNode-F.Split row (nodes_from one) (nodes_from other))
nodes-split row one other = fold-roll-CertNode (Path → List Node) nodes_step (CertNode-F.Split row one other)

pub nodes-lemma : (row : Form) (why : Derivation) (below : CertNode) → nodes_from (lemma_node row why below) ≡ nodes_step (CertNode-F.Lemma row why (nodes_from below))
nodes-lemma row why below = fold-roll-CertNode (Path → List Node) nodes_step (CertNode-F.Lemma row why below)

pub nodes-void : (why : Derivation) → nodes_from (void_node why) ≡ nodes_step (CertNode-F.Void why)
nodes-void why = fold-roll-CertNode (Path → List Node) nodes_step (CertNode-F.Void why)

pub nodes-grid : nodes_from grid_node ≡ nodes_step CertNode-F.Grid
nodes-grid = fold-roll-CertNode (Path → List Node) nodes_step CertNode-F.Grid

pub nodes-leaf : (answers : List Answer) → nodes_from (leaf_node answers) ≡ nodes_step (CertNode-F.Leaf answers)
nodes-leaf answers = fold-roll-CertNode (Path → List Node) nodes_step (CertNode-F.Leaf answers)

-- ---- by the constructors of certificates

nodes-Def : (row : Form) (d : ℤ) (below : CertNode) → nodes_from (Def row d below) ≡ nodes_step (CertNode-F.Def row d (nodes_from below))
nodes-Def row d below = search (rules, the_lemmas, fold_out-CertNode)

nodes-Split : (row : Form) (one other : CertNode) → nodes_from (Split row one other) ≡ nodes_step (CertNode-F.Split row (nodes_from one) (nodes_from other))
nodes-Split row one other = search (rules, the_lemmas, fold_out-CertNode)

nodes-Lemma : (row : Form) (why : Derivation) (below : CertNode) → nodes_from (Lemma row why below) ≡ nodes_step (CertNode-F.Lemma row why (nodes_from below))
nodes-Lemma row why below = search (rules, the_lemmas, fold_out-CertNode)

nodes-Void : (why : Derivation) → nodes_from (Void why) ≡ nodes_step (CertNode-F.Void why)
nodes-Void why = search (rules, the_lemmas, fold_out-CertNode)

nodes-Grid : nodes_from Grid ≡ nodes_step CertNode-F.Grid
nodes-Grid = search (rules, the_lemmas, fold_out-CertNode)

nodes-Leaf : (answers : List Answer) → nodes_from (Leaf answers) ≡ nodes_step (CertNode-F.Leaf answers)
nodes-Leaf answers = search (rules, the_lemmas, fold_out-CertNode)

pub preorder : IsPreorder
preorder = record {
  def = λ row d below path. λ i. nodes-Def row d below i path;
  split = λ row one other path. λ i. nodes-Split row one other i path;
  lemma = λ row why below path. λ i. nodes-Lemma row why below i path;
  void = λ why path. λ i. nodes-Void why i path;
  grid = λ path. λ i. nodes-Grid i path;
  leaf = λ answers path. λ i. nodes-Leaf answers i path;
}

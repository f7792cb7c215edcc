-- Well shaped nodes: the steps below them are sound, those below nodes with reasons are entailed, and the first node that is
-- badly shaped.
use Rattle.std.proofs.Common.{◌≡◌, ℕ, zero, suc, ◌<◌, ℤ, pos, Bool, true, false, nat_lt, List, [], ◌∷◌, ◌++◌, length, Some, refl, subst, arith, inl, inr, IsTrue, not, ◌&&◌}
use Rattle.std.specs.Prelude.{◌⊎◌, slice_get}
use Rattle.std.specs.Int.Signed.{lt_z}
use Rattle.std.proofs.lemmas.Int.{ints}
use Rattle.std.proofs.lemmas.Bool.{and_parts}
use Rattle.std.proofs.lemmas.Bool.Decides.{nat_tests}
use Rattle.std.proofs.lemmas.Option.{same_Some}
use Rattle.viz_base.specs.declared.worlds.Rect.{Rect}
use Rattle.viz_base.proofs.Truths.{not_both}
use Rattle.lin_proof.specs.Form.{Form}
use Rattle.lin_proof.specs.declared.derivation.Derivation.{Derivation}
use Rattle.cert_text.specs.declared.certificate.Cert.{Cert}
use Rattle.cert_text.specs.declared.certificate.CertNode.{CertNode}
use Rattle.cert_semantics.specs.Paths.{def, first, second, lemma, Path, root, ◌▸◌, variables, is_declared, IsSound, AreSound}
use Rattle.cert_semantics.specs.Nodes.{Decision, names, splits, states, is_empty, by_worlds, by_answers, Node, node_on, nodes_from, nodes_of}
use Rattle.lin_proof.proofs.Sound.{entailment_law}
use Rattle.cert_semantics.specs.Facts.{facts}
use Rattle.cert_semantics.specs.Derived.{AreEntailed, HasReasons, HaveReasonsBefore}
use Rattle.cert_semantics.specs.Shapes.{has_variable, has_remainders, is_named, is_shaped, has_shape, AreShapedBefore, IsFirstFault}
use Rattle.cert_semantics.proofs.Trees.{def_node, split_node, lemma_node, by_nodes, nodes-def, nodes-split, nodes-lemma, nodes-void, nodes-grid, nodes-leaf}

-- ---- lists of nodes

-- each node before the one of this number has a property
abbrev Before : (Node → Type 0) → List Node → ℕ → Type 0
Before Ok nodes n = (k : ℕ) (node : Node) → k < n → slice_get nodes k ≡ Some node → Ok node

before_next : (Ok : Node → Type 0) (x : Node) (xs : List Node) (n : ℕ) → Ok x → Before Ok xs n → Before Ok (x ∷ xs) (suc n)
before_next Ok x xs n ok h zero node less is = subst Ok (same_Some x node is) ok
before_next Ok x xs n ok h (suc k) node less is = h k node (omega arith) is

-- a step below a node with the one property keeps the other, of paths
record Keeps (Ok : Node → Type 0) (Fit : Path → Type 0) : Type 0 where
  pub def : (path : Path) (row : Form) (d : ℤ) → Ok (node_on path (names row d)) → Fit path → Fit (def row d ▸ path)
  pub first : (path : Path) (row : Form) → Ok (node_on path (splits row)) → Fit path → Fit (first row ▸ path)
  pub second : (path : Path) (row : Form) → Ok (node_on path (splits row)) → Fit path → Fit (second row ▸ path)
  pub lemma : (path : Path) (row : Form) (why : Derivation) → Ok (node_on path (states row why)) → Fit path → Fit (lemma row ▸ path)

-- the path of each node has the one property, where all nodes before it have the other
abbrev FitBelow : (Node → Type 0) → (Path → Type 0) → List Node → Type 0
FitBelow Ok Fit nodes = (n : ℕ) (node : Node) → slice_get nodes n ≡ Some node → Before Ok nodes n → Fit node.path

abbrev FitTree : (Node → Type 0) → (Path → Type 0) → CertNode → Type 0
FitTree Ok Fit node = (path : Path) → Fit path → FitBelow Ok Fit (nodes_from node path)

module _ (Ok : Node → Type 0) (Fit : Path → Type 0) (keeps : Keeps Ok Fit) where
  after_first : (x : Node) (xs : List Node) (n : ℕ) → Before Ok (x ∷ xs) (suc n) → Before Ok xs n
  after_first x xs n h k node less is = h (suc k) node (omega arith) is

  fit_append : (xs ys : List Node) → FitBelow Ok Fit xs → FitBelow Ok Fit ys → FitBelow Ok Fit (xs ++ ys)
  fit_append [] ys h k n node is before = k n node is before
  fit_append (x ∷ xs) ys h k zero node is before = h zero node is (λ m other less at. absurd (omega arith))
  fit_append (x ∷ xs) ys h k (suc n) node is before =
      let ok = before zero x (omega arith) refl in
      fit_append xs ys (λ m other at earlier. h (suc m) other at (before_next Ok x xs m ok earlier)) k n node is (after_first x (xs ++ ys) n before)

  -- a node whose path is fit, and the nodes below it, whose paths are fit where it has the property
  fit_cons : (x : Node) (xs : List Node) → Fit x.path → (Ok x → FitBelow Ok Fit xs) → FitBelow Ok Fit (x ∷ xs)
  fit_cons x xs fit below zero node is before = subst (λ (y : Node). Fit y.path) (same_Some x node is) fit
  fit_cons x xs fit below (suc n) node is before = below (before zero x (omega arith) refl) n node is (after_first x xs n before)

  none_below : FitBelow Ok Fit []
  none_below n node is before = absurd (cc)

  end_tree : (path : Path) (decision : Decision) → Fit path → FitBelow Ok Fit (node_on path decision ∷ [])
  end_tree path decision fit = fit_cons (node_on path decision) [] fit (λ ok. none_below)

  def_tree : (row : Form) (d : ℤ) (below : CertNode) → FitTree Ok Fit below → FitTree Ok Fit (def_node row d below)
  def_tree row d below h path fit =
      rw nodes-def (fit_cons (node_on path (names row d)) (nodes_from below (def row d ▸ path)) fit
      (λ ok. h (def row d ▸ path) (keeps.def path row d ok fit)))

  split_tree : (row : Form) (one other : CertNode) → FitTree Ok Fit one → FitTree Ok Fit other → FitTree Ok Fit (split_node row one other)
  split_tree row one other h k path fit =
      rw nodes-split (fit_cons (node_on path (splits row)) (nodes_from one (first row ▸ path) ++ nodes_from other (second row ▸ path)) fit
      (λ ok. fit_append (nodes_from one (first row ▸ path)) (nodes_from other (second row ▸ path))
      (h (first row ▸ path) (keeps.first path row ok fit)) (k (second row ▸ path) (keeps.second path row ok fit))))

  lemma_tree : (row : Form) (why : Derivation) (below : CertNode) → FitTree Ok Fit below → FitTree Ok Fit (lemma_node row why below)
  lemma_tree row why below h path fit =
      rw nodes-lemma (fit_cons (node_on path (states row why)) (nodes_from below (lemma row ▸ path)) fit
      (λ ok. h (lemma row ▸ path) (keeps.lemma path row why ok fit)))

  fit_tree : (node : CertNode) → FitTree Ok Fit node
  fit_tree = by_nodes (FitTree Ok Fit) (record {
    def = def_tree;
    split = split_tree;
    lemma = lemma_tree;
    void = λ why path fit. rw nodes-void (end_tree path (is_empty why) fit);
    grid = λ path fit. rw nodes-grid (end_tree path by_worlds fit);
    leaf = λ answers path fit. rw nodes-leaf (end_tree path (by_answers answers) fit);
  })

-- ---- well shaped nodes

pub def_sound : (range : Rect) (path : Path) (row : Form) (d : ℤ) → is_shaped range path (names row d) ≡ true → IsSound path (def row d)
def_sound range path row d shaped =
    let a = and_parts (is_declared path row && has_variable row && lt_z (pos 1) d && has_remainders d row) (not (is_named row d path)) shaped in
    let b = and_parts (is_declared path row && has_variable row && lt_z (pos 1) d) (has_remainders d row) a.0 in
    let c = and_parts (is_declared path row && has_variable row) (lt_z (pos 1) d) b.0 in
    let e = and_parts (is_declared path row) (has_variable row) c.0 in
    (e.0, omega (arith, ints, c.1))

-- so it is of a lemma's row
row_sound : (path : Path) (row : Form) → (is_declared path row && has_variable row) ≡ true → IsTrue (is_declared path row)
row_sound path row shaped = (and_parts (is_declared path row) (has_variable row) shaped).0

keeps_sound : (range : Rect) → Keeps (λ node. has_shape range node ≡ true) AreSound
keeps_sound range = record {
  def = λ path row d shaped sound. (def_sound range path row d shaped, sound);
  first = λ path row shaped sound. (row_sound path row shaped, sound);
  second = λ path row shaped sound. (row_sound path row shaped, sound);
  lemma = λ path row why shaped sound. (row_sound path row shaped, sound);
}

pub shaped_is_sound : (form : ℕ) (range : Rect) (cert : Cert) (n : ℕ) (node : Node) → slice_get (nodes_of form cert) n ≡ Some node → AreShapedBefore form range cert n → AreSound node.path
shaped_is_sound form range cert = fit_tree (λ node. has_shape range node ≡ true) AreSound (keeps_sound range) cert.root (root form) tt

-- ---- nodes with reasons

keeps_entailed : (range : Rect) → Keeps (λ node. HasReasons range node.path node.decision) (AreEntailed range)
keeps_entailed range = record {
  def = λ path row d has entailed. entailed;
  first = λ path row has entailed. entailed;
  second = λ path row has entailed. entailed;
  lemma = λ path row why has entailed. (entailment_law (facts range path) (variables path) row why has, entailed);
}

pub reasoned_is_entailed : (form : ℕ) (range : Rect) (cert : Cert) (n : ℕ) (node : Node) → slice_get (nodes_of form cert) n ≡ Some node → HaveReasonsBefore form range cert n → AreEntailed range node.path
reasoned_is_entailed form range cert = fit_tree (λ node. HasReasons range node.path node.decision) (AreEntailed range) (keeps_entailed range) cert.root (root form) tt

-- ---- the first fault

abbrev ShapedBefore : Rect → List Node → ℕ → Type 0
ShapedBefore range = Before (λ node. has_shape range node ≡ true)

pub record IsFirstIn (range : Rect) (nodes : List Node) (n : ℕ) : Type 0 where
  pub node : Node
  pub is_node : slice_get nodes n ≡ Some node
  pub bad : has_shape range node ≡ false
  pub before : ShapedBefore range nodes n

abbrev FirstOrNone : Rect → List Node → Type 0
FirstOrNone range nodes = ((n : ℕ) × IsFirstIn range nodes n) ⊎ ShapedBefore range nodes (length nodes)

first_or_none : (range : Rect) (nodes : List Node) → FirstOrNone range nodes
first_or_none range [] = inr (λ k node less is. absurd (cc))
first_or_none range (x ∷ xs) = by_test (has_shape range x) refl (first_or_none range xs)
  where
    by_test : (b : Bool) → has_shape range x ≡ b → FirstOrNone range xs → FirstOrNone range (x ∷ xs)
    by_test false e rest = inl (zero, record { node = x; is_node = refl; bad = e; before = λ k node less is. absurd (omega arith) })
    by_test true e (inl rest) =
        inl (suc rest.0, record { node = rest.1.node; is_node = rest.1.is_node; bad = rest.1.bad; before = before_next (λ node. has_shape range node ≡ true) x xs rest.0 e rest.1.before })
    by_test true e (inr rest) = inr (before_next (λ node. has_shape range node ≡ true) x xs (length xs) e rest)

pub first_fault_or_none : (form : ℕ) (range : Rect) (cert : Cert) → ((n : ℕ) × IsFirstFault form range cert n) ⊎ AreShapedBefore form range cert (length (nodes_of form cert))
first_fault_or_none form range cert = by_list (first_or_none range (nodes_of form cert))
  where
    by_list : FirstOrNone range (nodes_of form cert) → ((n : ℕ) × IsFirstFault form range cert n) ⊎ AreShapedBefore form range cert (length (nodes_of form cert))
    by_list (inl found) = inl (found.0, record { node = found.1.node; is_node = found.1.is_node; bad = found.1.bad; before = found.1.before })
    by_list (inr none) = inr none

not_before : (form : ℕ) (range : Rect) (cert : Cert) (n m : ℕ) → IsFirstFault form range cert n → IsFirstFault form range cert m → n < m → ⊥
not_before form range cert n m h k less = not_both (has_shape range h.node) (k.before n h.node less h.is_node) h.bad

pub one_first_fault : (form : ℕ) (range : Rect) (cert : Cert) (n m : ℕ) → IsFirstFault form range cert n → IsFirstFault form range cert m → n ≡ m
one_first_fault form range cert n m h k = by_order (nat_lt n m) refl (nat_lt m n) refl
  where
    by_order : (b : Bool) → nat_lt n m ≡ b → (c : Bool) → nat_lt m n ≡ c → n ≡ m
    by_order true e c f = absurd (not_before form range cert n m h k (grind (arith, nat_tests)))
    by_order false e true f = absurd (not_before form range cert m n k h (grind (arith, nat_tests)))
    by_order false e false f = grind (arith, nat_tests)

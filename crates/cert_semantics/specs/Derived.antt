-- What the derivations of lemmas, voids and leaves are to show.
use Rattle.std.specs.Prelude.{◌≡◌, ℕ, ◌<◌, ℤ, pos, ◌≤ℤ◌, ◌<ℤ◌, Bool, true, false, List, [], ◌∷◌, Some, IsTrue, slice_get, ⊤}
use Rattle.viz_base.specs.declared.worlds.Rect.{Rect}
use Rattle.lin_proof.specs.Form.{Form, value}
use Rattle.lin_proof.specs.declared.derivation.Answer.{Answer}
use Rattle.lin_proof.specs.Law.{Meets}
use Rattle.lin_proof.specs.Derivations.{Refutes}
use Rattle.lin_proof.specs.Entailments.{Entails}
use Rattle.cert_text.specs.declared.certificate.Cert.{Cert}
use Rattle.cert_semantics.specs.Paths.{Step, def, first, second, lemma, Path, root, ◌▸◌, variables}
use Rattle.cert_semantics.specs.Facts.{facts}
use Rattle.cert_semantics.specs.Nodes.{Decision, names, splits, states, is_empty, by_worlds, by_answers, Node, nodes_of}
use Rattle.cert_semantics.specs.Shapes.{is_shaped, has_shape}

-- ---- lemmas

-- values of the variables that make the facts of a path at least 0 make the row so
abbrev pub IsEntailed : Rect → Path → Form → Type 0
IsEntailed range path row = (v : ℕ → ℤ) → Meets v (facts range path) → pos 0 ≤ℤ value row v

-- so it is with the row of each lemma of the path, by the facts of the steps above it
abbrev pub AreEntailed : Rect → Path → Type 0
AreEntailed range (root form) = ⊤
AreEntailed range (def row d ▸ outer) = AreEntailed range outer
AreEntailed range (first row ▸ outer) = AreEntailed range outer
AreEntailed range (second row ▸ outer) = AreEntailed range outer
AreEntailed range (lemma row ▸ outer) = IsEntailed range outer row × AreEntailed range outer

-- ---- leaves: the layout makes floors, each by a row and a number, and asks whether rows are at least 0

-- the path below floors that are made one after another, each as by a def
abbrev pub below_floors : Path → List (Form × ℤ) → Path
below_floors path [] = path
below_floors path (t ∷ ts) = below_floors (def t.0 t.1 ▸ path) ts

-- each is new and well shaped, as a def at its place would be
abbrev pub AreFloors : Rect → Path → List (Form × ℤ) → Type 0
AreFloors range path [] = ⊤
AreFloors range path (t ∷ ts) = IsTrue (is_shaped range path (names t.0 t.1)) × AreFloors range (def t.0 t.1 ▸ path) ts

-- an answer says that a row is at least 0, or that it is below 0
abbrev pub IsAnswer : Bool → ℤ → Type 0
IsAnswer true v = pos 0 ≤ℤ v
IsAnswer false v = v <ℤ pos 0

-- the side of a row on which an answer would be wrong
abbrev pub denial : Bool → Form → Step
denial true row = second row
denial false row = first row

-- the derivation of an answer refutes the facts of a path, and behind them the row's denial, or the row after a `no`
abbrev pub IsRefuted : Rect → Path → Answer → Type 0
IsRefuted range path answer = Refutes (facts range (denial answer.yes answer.row ▸ path)) (variables path) answer.why

-- each answer's does, below floors that were made before it; they stay for the answers behind it
abbrev pub AreRefuted : Rect → Path → List Answer → Type 0
AreRefuted range path [] = ⊤
AreRefuted range path (answer ∷ answers) =
    (floors : List (Form × ℤ)) × AreFloors range path floors × IsRefuted range (below_floors path floors) answer
    × AreRefuted range (below_floors path floors) answers

-- ---- nodes

-- a lemma's derivation entails its row by the facts of its path; a void's refutes them, and so do a leaf's with each
-- answer denied
abbrev pub HasReasons : Rect → Path → Decision → Type 0
HasReasons range path (names row d) = ⊤
HasReasons range path (splits row) = ⊤
HasReasons range path (states row why) = Entails (facts range path) (variables path) row why
HasReasons range path (is_empty why) = Refutes (facts range path) (variables path) why
HasReasons range path by_worlds = ⊤
HasReasons range path (by_answers answers) = AreRefuted range path answers

-- each node before the one of this number has its reasons
abbrev pub HaveReasonsBefore : ℕ → Rect → Cert → ℕ → Type 0
HaveReasonsBefore form range cert n = (k : ℕ) (node : Node) → k < n → slice_get (nodes_of form cert) k ≡ Some node
    → HasReasons range node.path node.decision

-- each node of the certificate is well shaped and has its reasons
pub record IsReasoned (form : ℕ) (range : Rect) (cert : Cert) : Type 0 where
  pub shaped : (n : ℕ) (node : Node) → slice_get (nodes_of form cert) n ≡ Some node → has_shape range node ≡ true
  pub reasons : (n : ℕ) (node : Node) → slice_get (nodes_of form cert) n ≡ Some node →
      HasReasons range node.path node.decision

-- Laws over paths.
use Rattle.std.specs.Prelude.{◌≡◌, ◌≢◌, ◌⊎◌, ◌↔◌, ℕ, ◌<◌, nat_lt, ℤ, pos, negsuc, ◌≤ℤ◌, ◌<ℤ◌, List, [], ◌∷◌, ◌++◌, length, IsTrue, Some, is_some, slice_get, ⊤}
use Rattle.std.specs.List.{All}
use Rattle.viz_base.specs.declared.worlds.World.{World}
use Rattle.viz_base.specs.declared.worlds.Axis.{Axis}
use Rattle.viz_base.specs.declared.worlds.Axis.TheVariants.{Height}
use Rattle.viz_base.specs.declared.worlds.Rect.{Rect}
use Rattle.viz_base.specs.Worlds.{along, IsInRange}
use Rattle.viz_base.specs.Jobs.{IsFormed}
use Rattle.lin_proof.specs.Form.{Form, value}
use Rattle.lin_proof.specs.declared.derivation.Derivation.{Derivation}
use Rattle.lin_proof.specs.declared.derivation.Answer.{Answer}
use Rattle.lin_proof.specs.Derivations.{Refutes}
use Rattle.lin_proof.specs.Entailments.{Entails}
use Rattle.lin_proof.specs.Law.{Meets}
use Rattle.cert_text.specs.declared.certificate.Cert.{Cert}
use Rattle.cert_text.specs.declared.certificate.CertNode.{CertNode}
use Rattle.cert_text.specs.declared.certificate.CertNode.TheVariants.{Def, Split, Lemma, Void, Grid, Leaf}
use Rattle.cert_semantics.specs.Axes.{variable_of, axis_of, axis_count}
use Rattle.cert_semantics.specs.Paths.{Step, def, first, second, lemma, Path, root, ◌▸◌, HasStep, form_of, variables, values_along, IsTaken, IsOn, AreSound}
use Rattle.cert_semantics.specs.Facts.{facts}
use Rattle.cert_semantics.specs.Nodes.{names, splits, states, is_empty, by_worlds, by_answers, is_end, is_laid_out, Node, node_on, nodes_from, nodes_of}
use Rattle.cert_semantics.specs.Rectangles.{Side, Sides, rectangle}
use Rattle.cert_semantics.specs.Derived.{AreEntailed, HaveReasonsBefore, below_floors, AreFloors, IsAnswer, IsRefuted, IsReasoned}
use Rattle.cert_semantics.specs.Shapes.{is_shaped, AreShapedBefore, IsFirstFault}

-- ---- axes

-- each axis of the form has a variable, which stands for no other, and these are those below the count of axes
pub record HaveVariables (form : ℕ) : Type 0 where
  pub own : (axis : Axis) → variable_of axis < axis_count form → axis_of form (variable_of axis) ≡ Some axis
  pub one : (x : ℕ) (axis : Axis) → axis_of form x ≡ Some axis → x ≡ variable_of axis
  pub below : (x : ℕ) → is_some (axis_of form x) ≡ nat_lt x (axis_count form)

-- the height has one in form 2 alone
abbrev pub HeightIsOfForm2 : Type 0
HeightIsOfForm2 = (form : ℕ) → (axis_of form 2 ≡ Some Height) ↔ (form ≡ 2)

-- ---- facts

-- at each world of the range on a path whose lemmas are entailed its facts are at least 0
abbrev pub FactsHold : Type 0
FactsHold = (range : Rect) (path : Path) → AreSound path → AreEntailed range path
    → (world : World) → IsInRange range world → IsOn path world → Meets (values_along world path) (facts range path)

-- the variables that are declared along the path are what they are along it at a world of the range on it
pub record AreAlong (range : Rect) (path : Path) (v : ℕ → ℤ) : Type 0 where
  pub world : World
  pub in_range : IsInRange range world
  pub on_path : IsOn path world
  pub values : (x : ℕ) → x < variables path → v x ≡ values_along world path x

-- values of the variables that make all facts at least 0 are those at a world of the range on the path
abbrev pub FactsSayAll : Type 0
FactsSayAll = (range : Rect) (path : Path) → IsFormed (form_of path) range → AreSound path
    → (v : ℕ → ℤ) → Meets v (facts range path) → AreAlong range path v

-- ---- lemmas

-- a row that a derivation entails by the facts of a path is at least 0 at each world of the range on it
abbrev pub EntailedHolds : Type 0
EntailedHolds = (range : Rect) (path : Path) → AreSound path → AreEntailed range path → (row : Form) (why : Derivation)
    → Entails (facts range path) (variables path) row why
    → (world : World) → IsInRange range world → IsOn path world → pos 0 ≤ℤ value row (values_along world path)

-- where each node before one has its reasons, the lemmas on the way down to it are entailed
abbrev pub ReasonedIsEntailed : Type 0
ReasonedIsEntailed = (form : ℕ) (range : Rect) (cert : Cert) (n : ℕ) (node : Node)
    → slice_get (nodes_of form cert) n ≡ Some node → HaveReasonsBefore form range cert n → AreEntailed range node.path

-- ---- ends

-- the node of this number is a void, a grid or a leaf on whose path the world lies
pub record IsEndOf (form : ℕ) (cert : Cert) (world : World) (n : ℕ) : Type 0 where
  pub node : Node
  pub is_node : slice_get (nodes_of form cert) n ≡ Some node
  pub ends : IsTrue (is_end node.decision)
  pub on_path : IsOn node.path world

-- each world lies on the path of exactly one void, grid or leaf
abbrev pub OneEnd : Type 0
OneEnd = (form : ℕ) (cert : Cert) (world : World)
    → (n : ℕ) × (IsEndOf form cert world n × ((m : ℕ) → IsEndOf form cert world m → m ≡ n))

-- ---- voids

-- where a derivation refutes the facts of a path whose lemmas are entailed, no world of the range is on it
abbrev pub RefutedIsEmpty : Type 0
RefutedIsEmpty = (range : Rect) (path : Path) → AreSound path → AreEntailed range path
    → (vars : ℕ) (why : Derivation) → Refutes (facts range path) vars why
    → (world : World) → IsInRange range world → IsOn path world → ⊥

-- where each node before one is well shaped, the steps down to it are sound
abbrev pub ShapedIsSound : Type 0
ShapedIsSound = (form : ℕ) (range : Rect) (cert : Cert) (n : ℕ) (node : Node)
    → slice_get (nodes_of form cert) n ≡ Some node → AreShapedBefore form range cert n → AreSound node.path

-- an answer whose denial is refuted below floors is right, at each world of the range on the path
abbrev pub AnswersAreRight : Type 0
AnswersAreRight = (range : Rect) (path : Path) (floors : List (Form × ℤ)) (answer : Answer) → AreSound path
    → AreEntailed range path → AreFloors range path floors → IsRefuted range (below_floors path floors) answer
    → (world : World) → IsInRange range world → IsOn path world
    → IsAnswer answer.yes (value answer.row (values_along world (below_floors path floors)))

-- the node of this number is a grid or a leaf on whose path the world lies
pub record IsLaidOutBy (form : ℕ) (cert : Cert) (world : World) (n : ℕ) : Type 0 where
  pub node : Node
  pub is_node : slice_get (nodes_of form cert) n ≡ Some node
  pub laid_out : IsTrue (is_laid_out node.decision)
  pub on_path : IsOn node.path world

-- where each node is well shaped and has its reasons, each world of the range lies on the path of exactly one grid or
-- leaf
abbrev pub OneLaidOut : Type 0
OneLaidOut = (form : ℕ) (range : Rect) (cert : Cert) → IsReasoned form range cert
    → (world : World) → IsInRange range world
    → (n : ℕ) × (IsLaidOutBy form cert world n × ((m : ℕ) → IsLaidOutBy form cert world m → m ≡ n))

-- ---- the order of nodes

-- the nodes at and below each form of node, by the constructors of certificates
pub record IsPreorder : Type 0 where
  pub def : (row : Form) (d : ℤ) (below : CertNode) (path : Path) →
      nodes_from (Def row d below) path ≡ node_on path (names row d) ∷ nodes_from below (def row d ▸ path)
  pub split : (row : Form) (one other : CertNode) (path : Path) →
      nodes_from (Split row one other) path
      ≡ node_on path (splits row) ∷ (nodes_from one (first row ▸ path) ++ nodes_from other (second row ▸ path))
  pub lemma : (row : Form) (why : Derivation) (below : CertNode) (path : Path) →
      nodes_from (Lemma row why below) path ≡ node_on path (states row why) ∷ nodes_from below (lemma row ▸ path)
  pub void : (why : Derivation) (path : Path) → nodes_from (Void why) path ≡ node_on path (is_empty why) ∷ []
  pub grid : (path : Path) → nodes_from Grid path ≡ node_on path by_worlds ∷ []
  pub leaf : (answers : List Answer) (path : Path)
      → nodes_from (Leaf answers) path ≡ node_on path (by_answers answers) ∷ []

-- ---- shapes

-- from 0 to d less 1
abbrev pub IsRemainder : ℤ → ℤ → Type 0
IsRemainder d n = (pos 0 ≤ℤ n) × (n <ℤ d)

-- a def on a path as it is to be: its row has variables, all of them declared; its number is above 1, and each number
-- of the row is a remainder by it; and no step of the path is the same def
pub record IsFitDef (path : Path) (row : Form) (d : ℤ) : Type 0 where
  pub declared : All (λ t. t.0 < variables path) row.terms
  pub some : row.terms ≢ []
  pub number : pos 1 <ℤ d
  pub constant : IsRemainder d row.k
  pub coefficients : All (λ t. IsRemainder d t.1) row.terms
  pub new : HasStep (def row d) path → ⊥

-- such defs and no others are well shaped
abbrev pub ShapedDefsAreFit : Type 0
ShapedDefsAreFit = (range : Rect) (path : Path) (row : Form) (d : ℤ)
    → IsTrue (is_shaped range path (names row d)) ↔ IsFitDef path row d

-- a certificate has a first badly shaped node, or all its nodes are well shaped
abbrev pub FirstFaultOrNone : Type 0
FirstFaultOrNone = (form : ℕ) (range : Rect) (cert : Cert)
    → ((n : ℕ) × IsFirstFault form range cert n) ⊎ AreShapedBefore form range cert (length (nodes_of form cert))

-- and no other is the first
abbrev pub OneFirstFault : Type 0
OneFirstFault = (form : ℕ) (range : Rect) (cert : Cert) (n m : ℕ)
    → IsFirstFault form range cert n → IsFirstFault form range cert m → n ≡ m

-- ---- rectangles

-- a number is on a side
abbrev pub IsOnSide : Side → ℕ → Type 0
IsOnSide side n = (side.least ≤ℤ pos n) × (pos n ≤ℤ side.most)

-- so is a world's on each axis
abbrev pub IsInside : Sides → World → Type 0
IsInside sides world = (axis : Axis) → IsOnSide (sides axis) (along axis world)

-- a row with one variable, which stands for an axis of the form, and the coefficient 1 or -1
pub record IsUnit (form : ℕ) (row : Form) : Type 0 where
  pub variable : ℕ
  pub of_axis : variable < axis_count form
  pub coefficient : ℤ
  pub terms : row.terms ≡ (variable, coefficient) ∷ []
  pub unit : (coefficient ≡ pos 1) ⊎ (coefficient ≡ negsuc 0)

-- a step that is no unit split, or is taken
abbrev pub IsTakenIfUnit : ℕ → (ℕ → ℤ) → Step → Type 0
IsTakenIfUnit form v (def row d) = ⊤
IsTakenIfUnit form v (first row) = IsUnit form row → IsTaken v (first row)
IsTakenIfUnit form v (second row) = IsUnit form row → IsTaken v (second row)
IsTakenIfUnit form v (lemma row) = ⊤

-- each unit split of the path is taken as the path says
abbrev pub UnitsAreTaken : Path → World → Type 0
UnitsAreTaken (root form) world = ⊤
UnitsAreTaken (step ▸ outer) world = IsTakenIfUnit (form_of outer) (values_along world outer) step
    × UnitsAreTaken outer world

-- the rectangle of a path has exactly the worlds of the range at which its unit splits are taken as it says
abbrev pub RectangleIsUnits : Type 0
RectangleIsUnits = (range : Rect) (path : Path) (world : World)
    → IsInside (rectangle range path) world ↔ (IsInRange range world × UnitsAreTaken path world)

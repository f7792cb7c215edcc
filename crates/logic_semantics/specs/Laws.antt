use Rattle.std.specs.Prelude.{◌≡◌, ◌≢◌, ℕ, ◌*◌, ◌<◌, ◌≤◌, ℤ, pos, ◌≤ℤ◌, ◌<ℤ◌, Bool, ◌↔◌, ◌⊎◌, true, false, List, [], ◌∷◌, IsTrue, Some, slice_get}
use Rattle.viz_base.specs.declared.worlds.World.{World}
use Rattle.viz_base.specs.declared.worlds.Rect.{Rect}
use Rattle.viz_base.specs.declared.trees.Kind.TheVariants as of_kind
use Rattle.viz_base.specs.declared.formulas.Set.{Set}
use Rattle.viz_base.specs.declared.formulas.Set.TheVariants as of_set
use Rattle.viz_base.specs.declared.formulas.Sign.{Sign}
use Rattle.viz_base.specs.declared.formulas.Sign.TheVariants.{Lt, Le, Eq, Ne, Ge, Gt}
use Rattle.viz_base.specs.declared.formulas.Edge.TheVariants.{Name, ViewWidth, ViewHeight, ViewSize}
use Rattle.viz_base.specs.declared.formulas.Ring.{Ring}
use Rattle.viz_base.specs.declared.formulas.Ring.TheVariants.{Margin, Border, Padding, Content}
use Rattle.viz_base.specs.declared.formulas.Face.TheVariants.{Left, Top, Right, Bottom}
use Rattle.viz_base.specs.declared.renderings.Quad.{Quad}
use Rattle.viz_base.specs.declared.renderings.Placed.{Placed}
use Rattle.viz_base.specs.declared.renderings.Rendering.{Rendering}
use Rattle.viz_base.specs.declared.formulas.Term.{Term}
use Rattle.viz_base.specs.declared.formulas.Formula.{Formula}
use Rattle.viz_base.specs.declared.formulas.Formula.TheVariants.{Const, Forall, Exists, Implies, Or, And, Not, Cmp, Overlap, Same}
use Rattle.logic_semantics.specs.Scenes.{Scene, scene_of, is_member, is_member_at, named}
use Rattle.logic_semantics.specs.Terms.{compares, edge_value, term_value}
use Rattle.logic_semantics.specs.Truth.{truth_in}
use Rattle.logic_semantics.specs.Blame.{blame_in}
use Rattle.viz_base.specs.Worlds.{IsInRange}

-- ---- truth

-- `forall` is true exactly where each member of the set makes its body true
abbrev pub ForallIsEach : Type 0
ForallIsEach = (scene : Scene) (set : Set) (body : Formula) (names : List ℕ)
    → IsTrue (truth_in scene (Forall set body) names)
    ↔ ((m : ℕ) → IsTrue (is_member_at set scene.boxes m) → IsTrue (truth_in scene body (m ∷ names)))

-- `exists` is true exactly where some member does
abbrev pub ExistsIsSome : Type 0
ExistsIsSome = (scene : Scene) (set : Set) (body : Formula) (names : List ℕ)
    → IsTrue (truth_in scene (Exists set body) names)
    ↔ ((m : ℕ) × (IsTrue (is_member_at set scene.boxes m) × IsTrue (truth_in scene body (m ∷ names))))

abbrev pub NotIsNot : Type 0
NotIsNot = (scene : Scene) (a : Formula) (names : List ℕ)
    → IsTrue (truth_in scene (Not a) names) ↔ (IsTrue (truth_in scene a names) → ⊥)

abbrev pub AndIsBoth : Type 0
AndIsBoth = (scene : Scene) (a b : Formula) (names : List ℕ)
    → IsTrue (truth_in scene (And a b) names) ↔ (IsTrue (truth_in scene a names) × IsTrue (truth_in scene b names))

abbrev pub OrIsEither : Type 0
OrIsEither = (scene : Scene) (a b : Formula) (names : List ℕ)
    → IsTrue (truth_in scene (Or a b) names) ↔ (IsTrue (truth_in scene a names) ⊎ IsTrue (truth_in scene b names))

abbrev pub ImpliesIsIf : Type 0
ImpliesIsIf = (scene : Scene) (a b : Formula) (names : List ℕ)
    → IsTrue (truth_in scene (Implies a b) names) ↔ (IsTrue (truth_in scene a names) → IsTrue (truth_in scene b names))

-- `true` and `false` are what they say, and a comparison compares the values of its terms
abbrev pub ConstIsValue : Type 0
ConstIsValue = (scene : Scene) (names : List ℕ) → (truth_in scene (Const true) names ≡ true)
    × (truth_in scene (Const false) names ≡ false)

abbrev pub CmpCompares : Type 0
CmpCompares = (scene : Scene) (left right : Term) (sign : Sign) (names : List ℕ)
    → truth_in scene (Cmp left sign right) names
    ≡ compares sign (term_value scene names left) (term_value scene names right)

-- what each sign says of two numbers
abbrev pub IsRelated : Sign → ℤ → ℤ → Type 0
IsRelated Lt x y = x <ℤ y
IsRelated Le x y = x ≤ℤ y
IsRelated Eq x y = x ≡ y
IsRelated Ne x y = x ≢ y
IsRelated Ge x y = y ≤ℤ x
IsRelated Gt x y = y <ℤ x

-- a comparison is true exactly where its terms are related as its sign says
abbrev pub CmpIsItsSign : Type 0
CmpIsItsSign = (scene : Scene) (left right : Term) (sign : Sign) (names : List ℕ)
    → IsTrue (truth_in scene (Cmp left sign right) names) ↔ IsRelated sign (term_value scene names left)
    (term_value scene names right)

-- two names are the same exactly where they stand for one place
abbrev pub SameIsOnePlace : Type 0
SameIsOnePlace = (scene : Scene) (a b : ℕ) (names : List ℕ)
    → IsTrue (truth_in scene (Same a b) names) ↔
    ((place : ℕ) × ((slice_get names a ≡ Some place) × (slice_get names b ≡ Some place)))

-- the square of one unit whose upper left corner is this point lies in the rectangle
pub record HasCell (q : Quad ℤ) (x y : ℤ) : Type 0 where
  pub left : q.left ≤ℤ x
  pub right : x <ℤ q.right
  pub top : q.top ≤ℤ y
  pub bottom : y <ℤ q.bottom

abbrev pub HasSomeCell : Quad ℤ → Type 0
HasSomeCell q = (x y : ℤ) × HasCell q x y

-- two boxes whose border rectangles are not empty overlap exactly where these have a square of one unit in common; so
-- boxes that only touch do not
abbrev pub OverlapIsCommonCell : Type 0
OverlapIsCommonCell = (scene : Scene) (a b : ℕ) (names : List ℕ) (first second : Placed ℤ)
    → named scene.boxes names a ≡ Some first → named scene.boxes names b ≡ Some second
    → HasSomeCell first.border → HasSomeCell second.border
    → IsTrue (truth_in scene (Overlap a b) names) ↔ ((x y : ℤ) × (HasCell first.border x y × HasCell second.border x y))

-- ---- edges

-- the edges of a ring of the box that a name stands for have the values of these
pub record HasEdges (scene : Scene) (names : List ℕ) (name : ℕ) (ring : Ring) (q : Quad ℤ) : Type 0 where
  pub left : edge_value scene names (Name name ring Left) ≡ q.left
  pub top : edge_value scene names (Name name ring Top) ≡ q.top
  pub right : edge_value scene names (Name name ring Right) ≡ q.right
  pub bottom : edge_value scene names (Name name ring Bottom) ≡ q.bottom

-- each edge is that of its ring of the box
pub record HasRings (scene : Scene) (names : List ℕ) (name : ℕ) (box : Placed ℤ) : Type 0 where
  pub margin : HasEdges scene names name Margin box.margin
  pub border : HasEdges scene names name Border box.border
  pub padding : HasEdges scene names name Padding box.padding
  pub content : HasEdges scene names name Content box.content

abbrev pub EdgesAreOfTheirBox : Type 0
EdgesAreOfTheirBox = (scene : Scene) (names : List ℕ) (name : ℕ) (box : Placed ℤ)
    → named scene.boxes names name ≡ Some box → HasRings scene names name box

-- the viewport's width and height and the default font size are the world's, in units of 1/64 px
abbrev pub ViewportIsTheWorlds : Type 0
ViewportIsTheWorlds = (r : Rendering ℤ) (world : World) (names : List ℕ)
    → (edge_value (scene_of r world) names ViewWidth ≡ pos (64 * world.w))
    × (edge_value (scene_of r world) names ViewHeight ≡ pos (64 * world.h))
    × (edge_value (scene_of r world) names ViewSize ≡ pos (64 * world.s))

-- ---- blame

-- a formula that is true blames no member
abbrev pub TrueBlamesNone : Type 0
TrueBlamesNone = (scene : Scene) (f : Formula) (names : List ℕ) → IsTrue (truth_in scene f names)
    → blame_in scene f names ≡ []

-- the first member of the set, in the rendering's order, that makes the body false
pub record IsFirstFailing (scene : Scene) (set : Set) (body : Formula) (names : List ℕ) (m : ℕ) : Type 0 where
  pub member : IsTrue (is_member_at set scene.boxes m)
  pub fails : truth_in scene body (m ∷ names) ≡ false
  pub none_before : (k : ℕ) → k < m → IsTrue (is_member_at set scene.boxes k) → IsTrue (truth_in scene body (k ∷ names))

-- a false `forall` blames the first member whose body is false, and then whom that body blames
abbrev pub ForallBlamesFirst : Type 0
ForallBlamesFirst = (scene : Scene) (set : Set) (body : Formula) (names : List ℕ)
    → truth_in scene (Forall set body) names ≡ false
    → (m : ℕ) × (IsFirstFailing scene set body names m
    × (blame_in scene (Forall set body) names ≡ m ∷ blame_in scene body (m ∷ names)))

-- a false `and` blames whom its first false part blames
abbrev pub AndBlamesFirst : Type 0
AndBlamesFirst = (scene : Scene) (a b : Formula) (names : List ℕ)
    → (truth_in scene a names ≡ false → blame_in scene (And a b) names ≡ blame_in scene a names)
    × (truth_in scene a names ≡ true → blame_in scene (And a b) names ≡ blame_in scene b names)

-- a false `implies` blames whom its conclusion blames
abbrev pub ImpliesBlamesConclusion : Type 0
ImpliesBlamesConclusion = (scene : Scene) (a b : Formula) (names : List ℕ)
    → truth_in scene (Implies a b) names ≡ false → blame_in scene (Implies a b) names ≡ blame_in scene b names

-- all other formulas blame no member
pub record OthersBlameNone : Type 0 where
  pub constants : (scene : Scene) (value : Bool) (names : List ℕ) → blame_in scene (Const value) names ≡ []
  pub exists : (scene : Scene) (set : Set) (body : Formula) (names : List ℕ)
      → blame_in scene (Exists set body) names ≡ []
  pub disjunctions : (scene : Scene) (a b : Formula) (names : List ℕ) → blame_in scene (Or a b) names ≡ []
  pub negations : (scene : Scene) (a : Formula) (names : List ℕ) → blame_in scene (Not a) names ≡ []
  pub comparisons : (scene : Scene) (left right : Term) (sign : Sign) (names : List ℕ)
      → blame_in scene (Cmp left sign right) names ≡ []
  pub overlaps : (scene : Scene) (a b : ℕ) (names : List ℕ) → blame_in scene (Overlap a b) names ≡ []
  pub sames : (scene : Scene) (a b : ℕ) (names : List ℕ) → blame_in scene (Same a b) names ≡ []

-- ---- sets

-- anonymous boxes, lines, texts and forced breaks are members of no set of nodes
abbrev pub NodesAreElements : Type 0
NodesAreElements = (nodes : List ℕ) (node : ℕ)
    → (is_member (of_set.Nodes nodes) of_kind.Anon node ≡ false)
    × (is_member (of_set.Nodes nodes) of_kind.Line node ≡ false)
    × (is_member (of_set.Nodes nodes) of_kind.Chars node ≡ false)
    × (is_member (of_set.Nodes nodes) of_kind.Break node ≡ false)

-- ---- ranges

-- a world lies in a range exactly where its width, its size and its height lie within the bounds
abbrev pub RangeIsItsBounds : Type 0
RangeIsItsBounds = (range : Rect) (world : World)
    → IsInRange range world ↔
    ((range.wl ≤ world.w) × (world.w ≤ range.wh) × (range.sl ≤ world.s) × (world.s ≤ range.sh)
    × (range.hl ≤ world.h) × (world.h ≤ range.hh))

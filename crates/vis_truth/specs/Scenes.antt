use Rattle.std.specs.Prelude.{Bool, true, false, not, ◌&&◌, ◌≡◌, ℕ, ◌≤◌, ◌<◌, ◌^◌, ℤ, pos, ◌+ℤ◌, unsigned_abs, IsTrue, List, [], ◌∷◌, slice_get, Some}
use Rattle.viz_base.specs.declared.worlds.World.{World}
use Rattle.viz_base.specs.declared.formulas.Formula.{Formula}
use Rattle.viz_base.specs.declared.formulas.Set.{Set}
use Rattle.viz_base.specs.declared.formulas.Summand.{Summand}
use Rattle.viz_base.specs.declared.formulas.Term.{Term}
use Rattle.viz_base.specs.declared.renderings.Quad.{Quad}
use Rattle.viz_base.specs.declared.renderings.Placed.{Placed}
use Rattle.viz_base.specs.declared.renderings.Rendering.{Rendering}
use Rattle.viz_base.specs.Formulas.{has_small_terms}
use Rattle.viz_calc.specs.World.{Reading}
use Rattle.viz_calc.specs.Renderings.{rendering_at}
use Rattle.logic_semantics.specs.Scenes.{Scene, scene_of, is_member_at}
use Rattle.logic_semantics.specs.Truth.{truth_in}
use Rattle.logic_semantics.specs.Terms.{edge_value, summand_value}

-- what a formula speaks of at a reading
abbrev pub scene_at : {N : Type 0} → (N → Reading → ℤ) → Rendering N → Reading → Scene
scene_at at r e = scene_of (rendering_at at r e) e.world

-- ---- quantifiers

-- a truth value is the one that is wanted
abbrev pub agrees : Bool → Bool → Bool
agrees true b = b
agrees false b = not b

-- the box at a place is a member of the set with which the body's truth is the one that is wanted
abbrev pub is_witness : Scene → Set → Formula → Bool → List ℕ → ℕ → Bool
is_witness scene set body wanted names m = is_member_at set scene.boxes m
    && agrees wanted (truth_in scene body (m ∷ names))

-- ---- what has to fit

-- each value on the way to a sum that goes on from another
abbrev pub sum_parts : Scene → List ℕ → ℤ → List Summand → List ℤ
sum_parts scene names sum [] = []
sum_parts scene names sum (s ∷ ss) =
    edge_value scene names s.edge
    ∷ summand_value scene names s
    ∷ (sum +ℤ summand_value scene names s)
    ∷ sum_parts scene names (sum +ℤ summand_value scene names s) ss

-- each value on the way to a term's
abbrev pub term_parts : Scene → List ℕ → Term → List ℤ
term_parts scene names t = pos 0 ∷ sum_parts scene names (pos 0) t.parts

-- ---- bounds under which no value of a formula passes 2^100 in size

-- the rectangle's edges are at most 2^70 in size
pub record IsBoundedQuad (q : Quad ℤ) : Type 0 where
  pub left : unsigned_abs q.left ≤ 2 ^ 70
  pub top : unsigned_abs q.top ≤ 2 ^ 70
  pub right : unsigned_abs q.right ≤ 2 ^ 70
  pub bottom : unsigned_abs q.bottom ≤ 2 ^ 70

-- those of each of the box's rectangles
pub record IsBoundedBox (b : Placed ℤ) : Type 0 where
  pub margin : IsBoundedQuad b.margin
  pub border : IsBoundedQuad b.border
  pub padding : IsBoundedQuad b.padding
  pub content : IsBoundedQuad b.content

-- those of each box
pub record IsBoundedRendering (r : Rendering ℤ) : Type 0 where
  pub each : (place : ℕ) (b : Placed ℤ) → slice_get r.boxes place ≡ Some b → IsBoundedBox b

-- the world's numbers are ones of 32 bits
pub record IsNarrow (world : World) : Type 0 where
  pub width : world.w < 2 ^ 32
  pub size : world.s < 2 ^ 32
  pub height : world.h < 2 ^ 32

-- at a reading the boxes' edges and the world's numbers are bounded
pub record IsBoundedAt {N : Type 0} (at : N → Reading → ℤ) (r : Rendering N) (e : Reading) : Type 0 where
  pub rendering : IsBoundedRendering (rendering_at at r e)
  pub world : IsNarrow e.world

-- at each open reading all is bounded, and so are the formula's terms
pub record IsTame {N : Type 0} (is_open : Reading → Bool) (at : N → Reading → ℤ) (r : Rendering N) (f : Formula)
    : Type 0 where
  pub bounded : (e : Reading) → IsTrue (is_open e) → IsBoundedAt at r e
  pub small : IsTrue (has_small_terms f)

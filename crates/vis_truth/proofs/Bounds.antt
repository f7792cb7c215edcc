use Rattle.std.proofs.Common.{◌≡◌, ℕ, ◌+◌, ◌*◌, ◌≤◌, ◌^◌, ℤ, pos, ◌+ℤ◌, unsigned_abs, true, ◌&&◌, List, [], ◌∷◌, slice_get, Option, Some, None, refl, sym, ◌∙◌, rules, arith}
use Rattle.std.specs.Prelude.{sum_by}
use Rattle.std.specs.Option.{option_map_or}
use Rattle.std.proofs.Math.Nat.{mul-le-mul_left}
use Rattle.std.proofs.lemmas.Int.{ints, unsigned_abs-mul}
use Rattle.std.proofs.lemmas.Bool.Decides.{nat_tests}
use Rattle.std.proofs.lemmas.List.Sums.{sum_by-cons}
use Rattle.std.proofs.lemmas.Bool.{and_parts}
use Rattle.viz_base.specs.declared.formulas.Edge.{Edge}
use Rattle.viz_base.specs.declared.formulas.Edge.TheVariants as of_edge
use Rattle.viz_base.specs.declared.formulas.Ring.{Ring}
use Rattle.viz_base.specs.declared.formulas.Ring.TheVariants as of_ring
use Rattle.viz_base.specs.declared.formulas.Face.{Face}
use Rattle.viz_base.specs.declared.formulas.Face.TheVariants as of_face
use Rattle.viz_base.specs.declared.formulas.Sign.{Sign}
use Rattle.viz_base.specs.declared.formulas.Summand.{Summand}
use Rattle.viz_base.specs.declared.formulas.Term.{Term}
use Rattle.viz_base.specs.declared.formulas.Formula.TheVariants.{Cmp}
use Rattle.viz_base.specs.declared.formulas.Formula.TheViews.{the_lemmas}
use Rattle.viz_base.specs.declared.formulas.Formula.TheFolds.{fold-roll-Formula, fold_out-Formula}
use Rattle.viz_base.specs.declared.renderings.Placed.{Placed}
use Rattle.viz_base.specs.declared.renderings.Quad.{Quad}
use Rattle.viz_base.specs.declared.renderings.Rendering.{Rendering}
use Rattle.viz_base.specs.Formulas.{edge_most, summand_most, term_is_small, has_small_terms}
use Rattle.viz_calc.specs.World.{Reading}
use Rattle.viz_calc.specs.State.{AllSmall}
use Rattle.viz_calc.specs.Renderings.{rendering_at}
use Rattle.logic_semantics.specs.Scenes.{Scene, named, box_at}
use Rattle.logic_semantics.specs.Terms.{ring_of, face_of, edge_value, summand_value}
use Rattle.vis_truth.specs.Scenes.{scene_at, sum_parts, term_parts, IsBoundedQuad, IsBoundedBox, IsBoundedAt}

abs-sum : (a b : ℤ) → unsigned_abs (a +ℤ b) ≤ unsigned_abs a + unsigned_abs b
abs-sum a b = omega (arith, ints)

face-bounded : (q : Quad ℤ) (face : Face) → IsBoundedQuad q → unsigned_abs (face_of face q) ≤ 2 ^ 70
face-bounded q of_face.Left b = b.left
face-bounded q of_face.Top b = b.top
face-bounded q of_face.Right b = b.right
face-bounded q of_face.Bottom b = b.bottom

ring-bounded : (p : Placed ℤ) (ring : Ring) → IsBoundedBox p → IsBoundedQuad (ring_of ring p)
ring-bounded p of_ring.Margin b = b.margin
ring-bounded p of_ring.Border b = b.border
ring-bounded p of_ring.Padding b = b.padding
ring-bounded p of_ring.Content b = b.content

some-bounded : (ring : Ring) (face : Face) (o : Option (Placed ℤ)) → ((b : Placed ℤ) → o ≡ Some b → IsBoundedBox b) → unsigned_abs (option_map_or (λ b. face_of face (ring_of ring b)) o (pos 0)) ≤ 2 ^ 70
some-bounded ring face None h = omega arith
some-bounded ring face (Some b) h = face-bounded (ring_of ring b) face (ring-bounded b ring (h b refl))

named-bounded : (boxes : List (Placed ℤ)) → ((place : ℕ) (b : Placed ℤ) → slice_get boxes place ≡ Some b → IsBoundedBox b)
    → (place : Option ℕ) (b : Placed ℤ) → box_at boxes place ≡ Some b → IsBoundedBox b
named-bounded boxes each None b h = absurd (cc)
named-bounded boxes each (Some place) b h = each place b h

pub edge-bounded : {N : Type 0} (at : N → Reading → ℤ) (r : Rendering N) (e : Reading) (names : List ℕ) (edge : Edge) → IsBoundedAt at r e
    → unsigned_abs (edge_value (scene_at at r e) names edge) ≤ edge_most edge
edge-bounded at r e names of_edge.One b = omega arith
edge-bounded at r e names (of_edge.Name name ring face) b =
    some-bounded ring face (named (rendering_at at r e).boxes names name) (named-bounded (rendering_at at r e).boxes b.rendering.each (slice_get names name))
edge-bounded at r e names of_edge.ViewWidth b = let w = b.world.width in omega (arith, ints)
edge-bounded at r e names of_edge.ViewHeight b = let h = b.world.height in omega (arith, ints)
edge-bounded at r e names of_edge.ViewSize b = let s = b.world.size in omega (arith, ints)

edge_most-small : (edge : Edge) → edge_most edge ≤ 2 ^ 100
edge_most-small of_edge.One = omega arith
edge_most-small (of_edge.Name name ring face) = omega arith
edge_most-small of_edge.ViewWidth = omega arith
edge_most-small of_edge.ViewHeight = omega arith
edge_most-small of_edge.ViewSize = omega arith

pub parts-small : (scene : Scene) (names : List ℕ) → ((edge : Edge) → unsigned_abs (edge_value scene names edge) ≤ edge_most edge)
    → (parts : List Summand) (sum : ℤ) → unsigned_abs sum + sum_by summand_most parts ≤ 2 ^ 100 → AllSmall (sum_parts scene names sum parts)
parts-small scene names bounded [] sum h = tt
parts-small scene names bounded (s ∷ ss) sum h =
    let total : sum_by summand_most (s ∷ ss) ≡ summand_most s + sum_by summand_most ss = sum_by-cons summand_most s ss in
    let edge = bounded s.edge in
    let most = edge_most-small s.edge in
    let product : unsigned_abs (summand_value scene names s) ≡ unsigned_abs s.times * unsigned_abs (edge_value scene names s.edge) = unsigned_abs-mul s.times (edge_value scene names s.edge) in
    let below : unsigned_abs s.times * unsigned_abs (edge_value scene names s.edge) ≤ summand_most s = mul-le-mul_left (unsigned_abs s.times) edge in
    let value : unsigned_abs (summand_value scene names s) ≤ summand_most s = omega (arith, product, below) in
    let next : unsigned_abs (sum +ℤ summand_value scene names s) ≤ unsigned_abs sum + unsigned_abs (summand_value scene names s) = abs-sum sum (summand_value scene names s) in
    (omega (arith, edge, most), (omega (arith, value, h, total), (omega (arith, next, value, h, total), parts-small scene names bounded ss (sum +ℤ summand_value scene names s) (omega (arith, next, value, h, total)))))

pub term-small : {N : Type 0} (at : N → Reading → ℤ) (r : Rendering N) (e : Reading) (names : List ℕ) (t : Term) → IsBoundedAt at r e
    → term_is_small t ≡ true → AllSmall (term_parts (scene_at at r e) names t)
term-small at r e names t b small =
    let le : sum_by summand_most t.parts ≤ 2 ^ 100 = grind (arith, nat_tests) in
    (omega arith, parts-small (scene_at at r e) names (λ edge. edge-bounded at r e names edge b) t.parts (pos 0) (omega (arith, le)))

pub small-Cmp : (left right : Term) (sign : Sign) → has_small_terms (Cmp left sign right) ≡ true → (term_is_small left ≡ true) × (term_is_small right ≡ true)
small-Cmp left right sign h =
    let is : has_small_terms (Cmp left sign right) ≡ (term_is_small left && term_is_small right) = search (rules, the_lemmas, fold-roll-Formula, fold_out-Formula) in
    and_parts (term_is_small left) (term_is_small right) (sym is ∙ h)

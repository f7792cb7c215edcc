use Rattle.std.proofs.Common.{◌≡◌, ℕ, ℤ, pos, List, map, slice_get, Option, Some, None, refl, ap, sym, ◌∙◌}
use Rattle.std.specs.Option.{option_map, option_map_or}
use Rattle.std.proofs.lemmas.Option.{slice_get-map}
use Rattle.viz_base.specs.declared.formulas.Edge.TheVariants as of_edge
use Rattle.viz_base.specs.declared.formulas.Ring.{Ring}
use Rattle.viz_base.specs.declared.formulas.Ring.TheVariants as of_ring
use Rattle.viz_base.specs.declared.formulas.Face.{Face}
use Rattle.viz_base.specs.declared.formulas.Face.TheVariants as of_face
use Rattle.viz_base.specs.declared.renderings.Placed.{Placed}
use Rattle.viz_base.specs.declared.renderings.Quad.{Quad}
use Rattle.viz_base.specs.declared.renderings.Rendering.{Rendering}
use Rattle.viz_calc.specs.World.{Reading}
use Rattle.viz_calc.specs.Renderings.{placed_at, quad_at}
use Rattle.logic_semantics.specs.Scenes.{named, box_at}
use Rattle.logic_semantics.specs.Terms.{ring_of, face_of, edge_value, boxes_overlap}
use Rattle.vis_truth.specs.Scenes.{scene_at}

box_at-map : {M N : Type 0} (f : Placed M → Placed N) (boxes : List (Placed M)) (place : Option ℕ) → box_at (map f boxes) place ≡ option_map f (box_at boxes place)
box_at-map f boxes None = refl
box_at-map f boxes (Some place) = slice_get-map f boxes place

pub named-map : {M N : Type 0} (f : Placed M → Placed N) (boxes : List (Placed M)) (names : List ℕ) (name : ℕ) → named (map f boxes) names name ≡ option_map f (named boxes names name)
named-map f boxes names name = box_at-map f boxes (slice_get names name)

face-at : {N : Type 0} (at : N → Reading → ℤ) (q : Quad N) (face : Face) (e : Reading) → face_of face (quad_at at q e) ≡ at (face_of face q) e
face-at at q of_face.Left e = refl
face-at at q of_face.Top e = refl
face-at at q of_face.Right e = refl
face-at at q of_face.Bottom e = refl

ring-at : {N : Type 0} (at : N → Reading → ℤ) (b : Placed N) (ring : Ring) (e : Reading) → ring_of ring (placed_at at b e) ≡ quad_at at (ring_of ring b) e
ring-at at b of_ring.Margin e = refl
ring-at at b of_ring.Border e = refl
ring-at at b of_ring.Padding e = refl
ring-at at b of_ring.Content e = refl

-- the edge of a box that there is
pub edge-some : {N : Type 0} (at : N → Reading → ℤ) (r : Rendering N) (e : Reading) (names : List ℕ) (name : ℕ) (ring : Ring) (face : Face) (b : Placed N)
    → Some b ≡ named r.boxes names name → edge_value (scene_at at r e) names (of_edge.Name name ring face) ≡ at (face_of face (ring_of ring b)) e
edge-some at r e names name ring face b is =
    ap (λ (o : Option (Placed ℤ)). option_map_or (λ b. face_of face (ring_of ring b)) o (pos 0)) (named-map (λ p. placed_at at p e) r.boxes names name ∙ ap (option_map (λ p. placed_at at p e)) (sym is))
    ∙ ap (face_of face) (ring-at at b ring e)
    ∙ face-at at (ring_of ring b) face e

-- and of one that there isn't
pub edge-none : {N : Type 0} (at : N → Reading → ℤ) (r : Rendering N) (e : Reading) (names : List ℕ) (name : ℕ) (ring : Ring) (face : Face)
    → None ≡ named r.boxes names name → edge_value (scene_at at r e) names (of_edge.Name name ring face) ≡ pos 0
edge-none at r e names name ring face is =
    ap (λ (o : Option (Placed ℤ)). option_map_or (λ b. face_of face (ring_of ring b)) o (pos 0)) (named-map (λ p. placed_at at p e) r.boxes names name ∙ ap (option_map (λ p. placed_at at p e)) (sym is))

-- whether two boxes overlap, by what their names stand for
pub overlap-named : {N : Type 0} (at : N → Reading → ℤ) (r : Rendering N) (e : Reading) (names : List ℕ) (a b : ℕ) (x y : Option (Placed N))
    → x ≡ named r.boxes names a → y ≡ named r.boxes names b
    → boxes_overlap (option_map (λ p. placed_at at p e) x) (option_map (λ p. placed_at at p e) y) ≡ boxes_overlap (named (scene_at at r e).boxes names a) (named (scene_at at r e).boxes names b)
overlap-named {N} at r e names a b x y p q =
    let f = (λ (p : Placed N). placed_at at p e) in
    ap (λ o. boxes_overlap o (option_map f y)) (ap (option_map f) p ∙ sym (named-map f r.boxes names a))
    ∙ ap (boxes_overlap (named (map f r.boxes) names a)) (ap (option_map f) q ∙ sym (named-map f r.boxes names b))

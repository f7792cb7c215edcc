use Rattle.std.specs.Prelude.{ℤ, map}
use Rattle.viz_base.specs.declared.layouts.Band.{Band}
use Rattle.viz_base.specs.declared.layouts.Spot.{Spot}
use Rattle.viz_base.specs.declared.renderings.Placed.{Placed}
use Rattle.viz_base.specs.declared.renderings.Quad.{Quad}
use Rattle.viz_base.specs.declared.renderings.Rendering.{Rendering}
use Rattle.viz_calc.specs.World.{Reading}

-- the edges of a rectangle at a reading
abbrev pub quad_at : {N : Type 0} → (N → Reading → ℤ) → Quad N → Reading → Quad ℤ
quad_at at q e = record { left = at q.left e; top = at q.top e; right = at q.right e; bottom = at q.bottom e }

-- the left and the right edge of a band at a reading
abbrev pub band_at : {N : Type 0} → (N → Reading → ℤ) → Band N → Reading → Band ℤ
band_at at b e = record { left = at b.left e; right = at b.right e }

-- a place at a reading
abbrev pub spot_at : {N : Type 0} → (N → Reading → ℤ) → Spot N → Reading → Spot ℤ
spot_at at s e = record { x = at s.x e; y = at s.y e }

-- a placed box at a reading
abbrev pub placed_at : {N : Type 0} → (N → Reading → ℤ) → Placed N → Reading → Placed ℤ
placed_at at p e = record {
  kind = p.kind;
  node = p.node;
  margin = quad_at at p.margin e;
  border = quad_at at p.border e;
  padding = quad_at at p.padding e;
  content = quad_at at p.content e;
}

-- a rendering at a reading
abbrev pub rendering_at : {N : Type 0} → (N → Reading → ℤ) → Rendering N → Reading → Rendering ℤ
rendering_at at r e = record { boxes = map (λ p. placed_at at p e) r.boxes }

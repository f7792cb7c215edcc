-- A block container at a reading.
use Rattle.std.specs.Prelude.{ℤ, List, map, Option, option_map}
use Rattle.viz_base.specs.declared.layouts.Inner.{Inner}
use Rattle.viz_calc.specs.World.{Reading}
use Rattle.viz_calc.specs.Renderings.{band_at}
use Rattle.layout_semantics.specs.LineHeights.{InlineContext}
use Rattle.lay_line.specs.declared.containers.Container.{Container}

abbrev pub inner_at : {N : Type 0} → (N → Reading → ℤ) → Inner N → Reading → Inner ℤ
inner_at at i e = record { b = i.b; width = at i.width e; above = at i.above e; below = at i.below e }

abbrev pub table_at : {N : Type 0} → (N → Reading → ℤ) → List (Option (Inner N)) → Reading → List (Option (Inner ℤ))
table_at at table e = map (λ o. option_map (λ i. inner_at at i e) o) table

unfoldable pub context_at : {N : Type 0} → (N → Reading → ℤ) → Container N → Reading → InlineContext
context_at at c e =
    record {
      tree = c.tree.now;
      world = e.world;
      container = c.at;
      inner = table_at at c.inner.now e;
      cb = band_at at c.cb.now e;
    }

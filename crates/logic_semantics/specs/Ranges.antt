use Rattle.std.specs.Prelude.{Bool, IsTrue}
use Rattle.viz_base.specs.declared.worlds.World.{World}
use Rattle.viz_base.specs.declared.worlds.Rect.{Rect}
use Rattle.viz_base.specs.Worlds.{IsInRange}
use Rattle.viz_base.specs.declared.formulas.Formula.{Formula}
use Rattle.viz_base.specs.declared.renderings.Rendering.{Rendering}
use Rattle.std.specs.Prelude.{ℤ}
use Rattle.logic_semantics.specs.Scenes.{scene_of}
use Rattle.logic_semantics.specs.Truth.{truth}

-- the formula's truth at a world, on what this gives as the rendering there
abbrev pub holds_at : (World → Rendering ℤ) → Formula → World → Bool
holds_at rendering_of f world = truth (scene_of (rendering_of world) world) f

-- the formula is true at each world of the range
abbrev pub Holds : (World → Rendering ℤ) → Rect → Formula → Type 0
Holds rendering_of range f = (world : World) → IsInRange range world → IsTrue (holds_at rendering_of f world)

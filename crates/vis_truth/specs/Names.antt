use Rattle.std.specs.Prelude.{ℕ, List, [], ◌∷◌}
use Rattle.vis_truth.specs.declared.names.Names.{Names}
use Rattle.vis_truth.specs.declared.names.Names.TheOpen.{Names-F}
use Rattle.vis_truth.specs.declared.names.Names.TheFolds.{fold-Names}

-- one name, the places of those around it being listed
abbrev pub places_step : Names-F (List ℕ) → List ℕ
places_step Names-F.Unbound = []
places_step (Names-F.Inner place outer) = place ∷ outer.now

-- the places that names stand for, from the innermost on
abbrev pub places_of : Names → List ℕ
places_of = fold-Names (List ℕ) places_step

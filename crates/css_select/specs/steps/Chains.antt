-- Simple selectors that stand before another one in a selector.
use Rattle.std.specs.Prelude.{Bool, not, ◌&&◌, List, [], ◌∷◌, IsTrue}
use Rattle.viz_base.specs.declared.selectors.Compound.{Compound}
use Rattle.viz_base.specs.declared.selectors.Join.{Join}
use Rattle.viz_base.specs.Selectors.{is_first, has_one_first}

-- the first simple selector alone is joined as the first, also the next one
abbrev pub fits : List (Join × Compound) → Join → Bool
fits [] join = is_first join
fits (p ∷ ps) join = has_one_first (p ∷ ps) && not (is_first join)

pub record IsChain (parts : List (Join × Compound)) (join : Join) : Type 0 where
  pub shape : IsTrue (fits parts join)

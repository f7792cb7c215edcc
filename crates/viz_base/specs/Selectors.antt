use Rattle.std.specs.Prelude.{Bool, true, false, not, ◌&&◌, List, [], ◌∷◌, IsTrue}
use Rattle.std.specs.List.{list_all}
use Rattle.viz_base.specs.declared.selectors.Compound.{Compound}
use Rattle.viz_base.specs.declared.selectors.Join.{Join}
use Rattle.viz_base.specs.declared.selectors.Join.TheVariants as of_join

abbrev pub is_first : Join → Bool
is_first of_join.First = true
is_first _ = false

-- there is a part, and the first alone is joined as the first
abbrev pub has_one_first : List (Join × Compound) → Bool
has_one_first [] = false
has_one_first (p ∷ ps) = is_first p.0 && list_all (λ (q : Join × Compound). not (is_first q.0)) ps

-- the facts that a selector keeps
pub record IsSelector (parts : List (Join × Compound)) : Type 0 where
  pub shape : IsTrue (has_one_first parts)

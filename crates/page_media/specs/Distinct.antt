-- Lists in which nothing is twice.
use Rattle.std.specs.Prelude.{Bool, List, [], ◌∷◌, ◌++◌, if◌then◌else◌}
use Rattle.std.specs.List.{fold, list_any}

-- a list, with this behind it unless it has it
abbrev pub noted : {X : Type 0} → (X → X → Bool) → List X → X → List X
noted same known x = if list_any (same x) known then known else known ++ x ∷ []

-- each of these once, by its first place
abbrev pub distinct : {X : Type 0} → (X → X → Bool) → List X → List X
distinct same xs = fold (noted same) [] xs

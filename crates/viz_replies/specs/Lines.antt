-- Lines of a word and numbers.
use Rattle.std.specs.Prelude.{ℕ, List, ◌++◌, codes, decimal}
use Rattle.std.specs.List.{flat_map}

-- a number in decimal, after a space
abbrev pub spaced : ℕ → List ℕ
spaced n = codes " " ++ decimal n

-- the words, and then the numbers
abbrev pub numbered : List ℕ → List ℕ → List ℕ
numbered words numbers = words ++ flat_map spaced numbers ++ codes "\n"

-- How the bytes grow that a sink has taken.
use Rattle.std.specs.Prelude.{◌≡◌, ◌≤◌, ◌++◌, ℕ, List, Option, length, take, option_map}

-- with a piece behind what was written, where that is told
abbrev pub grown : Option (List ℕ) → List ℕ → Option (List ℕ)
grown written piece = option_map (λ bytes. bytes ++ piece) written

-- what was written has grown by a prefix of the bytes
abbrev pub GrewByPart : Option (List ℕ) → Option (List ℕ) → List ℕ → Type 0
GrewByPart old new bytes = (n : ℕ) × (n ≤ length bytes) × (new ≡ grown old (take n bytes))

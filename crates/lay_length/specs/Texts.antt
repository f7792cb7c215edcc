use Rattle.std.specs.Prelude.{◌≡◌, ◌<◌, ℕ, List, ◌∷◌, length}
use Rattle.std.specs.Str.{IsUtf8, chars}

-- a text begins with this character, and this text follows it
pub record IsSplit (text : List ℕ) (first : ℕ) (rest : List ℕ) : Type 0 where
  pub letters : chars text ≡ first ∷ chars rest
  pub shorter : length rest < length text
  pub is_text : IsUtf8 rest

use Rattle.std.specs.Prelude.{◌≡◌, ℕ, ◌<◌, List, length, take}
use Rattle.layout_semantics.specs.InlineContent.{Item}
use Rattle.layout_semantics.specs.LineFilling.{joined}

abbrev pub IsFull : List Item → Type 0
IsFull part = 0 < length part

-- some of the parts, from the first on, make up this list
pub record EndsAPart (parts : List (List Item)) (before : List Item) : Type 0 where
  pub count : ℕ
  pub whole : before ≡ joined (take count parts)

use Rattle.std.specs.Prelude.{◌≡◌, ℤ, ◌<◌, ◌⊎◌, List, ◌++◌, map, length, Contains}
use Rattle.layout_semantics.specs.Lengths.{total}
use Rattle.layout_semantics.specs.Preferred.{Child, in_flow, floated}

-- the sum of the widths of floats that follow one another among the children
pub record IsRunSum (children : List Child) (sum : ℤ) : Type 0 where
  pub before : List Child
  pub run : List ℤ
  pub after : List Child
  pub some : 0 < length run
  pub whole : children ≡ before ++ (map floated run ++ after)
  pub adds_up : sum ≡ total run

-- the width of a child in normal flow, or such a sum
abbrev pub IsChildWidth : List Child → ℤ → Type 0
IsChildWidth children x = Contains children (in_flow x) ⊎ IsRunSum children x

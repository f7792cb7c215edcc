-- White space among the things of inline content.
use Rattle.std.specs.Prelude.{Bool, false, not, List, filter}
use Rattle.layout_semantics.specs.WhiteSpace.{Thing, is_white}

abbrev pub is_space : Thing → Bool
is_space (Thing.letter node c) = is_white c
is_space Thing.atom = false
is_space Thing.edge = false

-- the things that are no white space
abbrev pub others : List Thing → List Thing
others = filter (λ thing. not (is_space thing))

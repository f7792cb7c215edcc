use Rattle.std.specs.Prelude.{ℤ, pos, ◌+ℤ◌, List}
use Rattle.layout_semantics.specs.Extremes.{greatest_from, least_from}

-- the margin that adjoining margins collapse to: the greatest of the positive ones less the greatest absolute value of
-- the negative ones, each 0 where there is none (CSS 2.1, 8.3.1)
abbrev pub collapsed : List ℤ → ℤ
collapsed margins = greatest_from (pos 0) margins +ℤ least_from (pos 0) margins

-- Margins that adjoin, as they are joined one after the other (CSS 2.1, 8.3.1).
use Rattle.std.specs.Prelude.{◌≡◌, ℤ, pos, ◌+ℤ◌, List, [], ◌∷◌}
use Rattle.std.specs.Int.{int_max, int_min}
use Rattle.viz_calc.specs.World.{Reading}
use Rattle.layout_semantics.specs.Extremes.{greatest_from, least_from}
use Rattle.lay_margin.specs.declared.runs.Run.{Run}

-- a run at a reading
abbrev pub run_at : {N : Type 0} → (N → Reading → ℤ) → Run N → Reading → Run ℤ
run_at at r e = record { pos = at r.pos e; neg = at r.neg e }

-- a run stands for margins: it has the greatest and the least of them and of 0
pub record IsRunOf (r : Run ℤ) (margins : List ℤ) : Type 0 where
  pub greatest : r.pos ≡ greatest_from (pos 0) margins
  pub least : r.neg ≡ least_from (pos 0) margins

-- the run of no margins
abbrev pub no_run : Run ℤ
no_run = record { pos = pos 0; neg = pos 0 }

-- what a run's margins collapse to
abbrev pub collapse : Run ℤ → ℤ
collapse r = r.pos +ℤ r.neg

-- the run of one margin more
abbrev pub with_margin : Run ℤ → ℤ → Run ℤ
with_margin r margin = record { pos = int_max r.pos margin; neg = int_min r.neg margin }

-- the values on the way to it
abbrev pub joined_way : Run ℤ → ℤ → List ℤ
joined_way r margin = int_max r.pos margin ∷ int_min r.neg margin ∷ []

abbrev pub value_way : Run ℤ → List ℤ
value_way r = (r.pos +ℤ r.neg) ∷ []

-- the run of these margins more, one after the other
abbrev pub joined_all : Run ℤ → List ℤ → Run ℤ
joined_all r [] = r
joined_all r (m ∷ ms) = joined_all (with_margin r m) ms

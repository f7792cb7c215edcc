-- Margins that adjoin, as two numbers (CSS 2.1, 8.3.1).
use Rattle.std.specs.Prelude.{ℤ, pos, ◌+ℤ◌, List}
use Rattle.layout_semantics.specs.Clearance.{Base, hangs, stands}
use Rattle.layout_semantics.specs.Extremes.{greatest_from, least_from}
use Rattle.lay_margin.specs.declared.runs.Run.{Run}
use Rattle.lay_margin.specs.Runs.{collapse}

-- the run of a list of margins
abbrev pub run_of : List ℤ → Run ℤ
run_of margins = record { pos = greatest_from (pos 0) margins; neg = least_from (pos 0) margins }

-- the border edge that ends a run
abbrev pub edge_at : Base → Run ℤ → ℤ
edge_at (hangs edge) run = edge +ℤ collapse run
edge_at (stands edge) run = edge

use Rattle.std.proofs.Common.{◌≡◌, length}
use Rattle.page_pseudo.specs.steps.Seeds.{written}
use Rattle.page_pseudo.specs.steps.Upto.{IsGrowing, open_behind}
use Rattle.page_pseudo.proofs.walking.walk.Given as goal

abbrev pub invariant-loop-at : goal.invariant-loop-at
invariant-loop-at l = record {
  growing : IsGrowing (written l.seeds) l.growing;
  numbers : length l.growing.numbers.items ≡ l.at;
  going : l.growing.going ≡ open_behind l.seeds.page.now.nodes l.at;
}

use Rattle.std.proofs.Common.{◌≡◌, suc}
use Rattle.std.specs.Option.{option_map_or}
use Rattle.page_pseudo.specs.steps.Seeds.{written}
use Rattle.page_pseudo.specs.steps.Upto.{IsAbove, IsGrowing}
use Rattle.page_pseudo.proofs.walking.Growing.close_to.Given as goal

abbrev pub invariant-loop-nodes : goal.invariant-loop-nodes
invariant-loop-nodes l = record {
  growing : IsGrowing (written l.seeds) l.self;
  numbers : l.self.numbers.items ≡ l.fn.self.numbers.items;
  above : IsAbove l.parent l.self.going;
}

abbrev pub decreases-loop-nodes : goal.decreases-loop-nodes
decreases-loop-nodes l = option_map_or suc l.self.going 0

-- The page and the cascades that the code is given.
use Rattle.page_pseudo.specs.declared.seeds.Seeds.{Seeds}
use Rattle.page_pseudo.specs.Grown.{Written}

abbrev pub written : Seeds → Written
written s = record {
  nodes = s.page.now.nodes;
  own = s.own.now.winners;
  before = s.before.now.winners;
  after = s.after.now.winners;
}

use Rattle.std.proofs.Common.{drop, map}
use Rattle.css_semantics.specs.Spelled.{spelled}
use Rattle.vis_read.specs.Tokens.{MatchesOne}
use Rattle.vis_read.proofs.sets.matches_one.Given as goal

-- the rest decides
abbrev pub invariant-loop-selector : goal.invariant-loop-selector
invariant-loop-selector l = record {
  suffices : MatchesOne l.page.nodes (map spelled (drop l.selector-index l.group)) l.node → MatchesOne l.page.nodes (map spelled l.group) l.node;
  needed : MatchesOne l.page.nodes (map spelled l.group) l.node → MatchesOne l.page.nodes (map spelled (drop l.selector-index l.group)) l.node;
}

use Rattle.std.proofs.Common.{◌≡◌, take}
use Rattle.css_semantics.specs.Specificity.{others}
use Rattle.css_select.proofs.counts.others.Given as goal

abbrev pub invariant-loop-compound : goal.invariant-loop-compound
invariant-loop-compound l = l.count ≡ others (take l.compound-index l.parts)

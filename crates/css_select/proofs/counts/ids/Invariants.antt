use Rattle.std.proofs.Common.{◌≡◌, take}
use Rattle.css_semantics.specs.Specificity.{ids}
use Rattle.css_select.proofs.counts.ids.Given as goal

abbrev pub invariant-loop-compound : goal.invariant-loop-compound
invariant-loop-compound l = l.count ≡ ids (take l.compound-index l.parts)

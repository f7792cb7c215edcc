use Rattle.std.proofs.Common.{◌≡◌, take}
use Rattle.css_semantics.specs.Specificity.{tags}
use Rattle.css_select.proofs.counts.tags.Given as goal

abbrev pub invariant-loop-compound : goal.invariant-loop-compound
invariant-loop-compound l = l.count ≡ tags (take l.compound-index l.parts)

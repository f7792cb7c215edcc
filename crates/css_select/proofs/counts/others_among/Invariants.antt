use Rattle.std.proofs.Common.{◌≡◌, take}
use Rattle.std.specs.List.{count_by}
use Rattle.css_semantics.specs.Specificity.{is_other}
use Rattle.css_select.proofs.counts.others_among.Given as goal

abbrev pub invariant-loop-test : goal.invariant-loop-test
invariant-loop-test l = l.count ≡ count_by is_other (take l.test-index l.tests)

use Rattle.std.proofs.Common.{◌≡◌, take}
use Rattle.std.specs.List.{count_by}
use Rattle.css_semantics.specs.Specificity.{is_id}
use Rattle.css_select.proofs.counts.ids_among.Given as goal

abbrev pub invariant-loop-test : goal.invariant-loop-test
invariant-loop-test l = l.count ≡ count_by is_id (take l.test-index l.tests)

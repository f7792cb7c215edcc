use Rattle.std.proofs.Common.{◌≡◌, drop}
use Rattle.std.specs.List.{list_any}
use Rattle.css_cascade.specs.steps.Present.{lacks_test}
use Rattle.css_cascade.proofs.present.lacks_tests.Given as goal

abbrev pub invariant-loop-test : goal.invariant-loop-test
invariant-loop-test l = list_any (lacks_test l.present) (drop l.test-index l.tests) ≡ list_any (lacks_test l.present) l.tests

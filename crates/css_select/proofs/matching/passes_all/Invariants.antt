use Rattle.std.proofs.Common.{drop}
use Rattle.std.specs.List.{AllByRecursion}
use Rattle.css_semantics.specs.Matching.{Passes}
use Rattle.css_select.proofs.matching.passes_all.Given as goal

-- the rest decides
abbrev pub invariant-loop-test : goal.invariant-loop-test
invariant-loop-test l = record {
  suffices : AllByRecursion (Passes l.page.nodes l.node l.element) (drop l.test-index l.tests) → AllByRecursion (Passes l.page.nodes l.node l.element) l.tests;
  needed : AllByRecursion (Passes l.page.nodes l.node l.element) l.tests → AllByRecursion (Passes l.page.nodes l.node l.element) (drop l.test-index l.tests);
}

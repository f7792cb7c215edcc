use Rattle.std.proofs.Common.{◌≡◌, ◌++◌, map}
use Rattle.std.specs.List.{AllByRecursion}
use Rattle.css_semantics.specs.Specificity.{IsCountable}
use Rattle.css_semantics.specs.Spelled.{spelled}
use Rattle.css_semantics.specs.CascadeReading.{those_of}
use Rattle.css_cascade.proofs.reading.those_of.Given as goal

abbrev pub invariant-loop-selector : goal.invariant-loop-selector
invariant-loop-selector l = record {
  rest : AllByRecursion (λ s. IsCountable (spelled s)) l.selector-iterator.rest.items;
  countable : AllByRecursion (λ s. IsCountable (spelled s)) l.those;
  same : map spelled l.those ++ those_of l.which (map spelled l.selector-iterator.rest.items) ≡ those_of l.which (map spelled l.fn.selectors);
}

use Rattle.std.proofs.Common.{◌≡◌, ◌++◌, map}
use Rattle.std.specs.List.{AllByRecursion}
use Rattle.css_semantics.specs.Specificity.{IsCountable, spec_of}
use Rattle.css_semantics.specs.Spelled.{spelled}
use Rattle.css_semantics.specs.CascadeReading.{spelled_and_spec}
use Rattle.css_cascade.proofs.reading.ranked.Given as goal

abbrev pub invariant-loop-selector : goal.invariant-loop-selector
invariant-loop-selector l = record {
  countable : AllByRecursion (λ s. IsCountable (spelled s)) l.selector-iterator.rest.items;
  same : map spelled_and_spec l.group ++ map (λ s. (s, spec_of s)) (map spelled l.selector-iterator.rest.items) ≡ map (λ s. (s, spec_of s)) (map spelled l.fn.selectors);
}

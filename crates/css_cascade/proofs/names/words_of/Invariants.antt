use Rattle.std.proofs.Common.{◌≡◌, ◌++◌, drop}
use Rattle.std.specs.Prelude.{flat_map}
use Rattle.css_cascade.specs.steps.Buckets.{attribute_buckets, element_buckets}
use Rattle.css_cascade.proofs.names.words_of.Given as goal

abbrev pub invariant-loop-attr : goal.invariant-loop-attr
invariant-loop-attr l = l.buckets.items ++ flat_map attribute_buckets (drop l.attr-index l.element.attrs) ≡ element_buckets l.element

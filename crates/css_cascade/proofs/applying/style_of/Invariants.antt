use Rattle.std.proofs.Common.{◌≡◌, drop}
use Rattle.css_semantics.specs.CascadeReading.{style_of}
use Rattle.css_cascade.proofs.applying.style_of.Given as goal

abbrev pub invariant-loop-attr : goal.invariant-loop-attr
invariant-loop-attr l = style_of (drop l.attr-index l.attrs) ≡ style_of l.attrs

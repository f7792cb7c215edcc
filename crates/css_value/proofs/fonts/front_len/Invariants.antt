use Rattle.std.proofs.Common.{◌≡◌, ◌+◌, drop}
use Rattle.css_semantics.specs.Shorthands.{front_len}
use Rattle.css_value.proofs.fonts.front_len.Given as goal

abbrev pub invariant-loop-at : goal.invariant-loop-at
invariant-loop-at l = l.at + front_len (drop l.at l.parts) ≡ front_len l.parts

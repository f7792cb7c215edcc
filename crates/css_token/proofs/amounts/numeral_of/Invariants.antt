use Rattle.std.proofs.Common.{◌≡◌, ◌+◌, drop}
use Rattle.std.specs.List.{prefix_len}
use Rattle.css_semantics.specs.ValuesParts.{is_numeral}
use Rattle.css_token.proofs.amounts.numeral_of.Given as goal

abbrev pub invariant-loop-at : goal.invariant-loop-at
invariant-loop-at l = l.at + prefix_len is_numeral (drop l.at l.text) ≡ prefix_len is_numeral l.text

use Rattle.std.proofs.Common.{length, ◌-◌, ◌≡◌, ◌++◌, drop}
use Rattle.css_semantics.specs.SheetsReading.{gathered}
use Rattle.css_semantics.specs.ValuesParts.{after_part, part_item}
use Rattle.css_value.proofs.splitting.split.Given as goal

abbrev pub invariant-loop-at : goal.invariant-loop-at
invariant-loop-at l = l.parts ++ gathered part_item after_part 0 (drop l.at l.tokens) ≡ gathered part_item after_part 0 l.tokens

abbrev pub decreases-loop-at : goal.decreases-loop-at
decreases-loop-at l = length l.tokens - l.at

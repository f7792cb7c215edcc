use Rattle.std.proofs.Common.{◌≡◌, drop}
use Rattle.css_semantics.specs.ComputedValues.{winner}
use Rattle.page_style.proofs.winners.winner.Given as goal

abbrev pub invariant-loop-setting : goal.invariant-loop-setting
invariant-loop-setting l = winner l.prop (drop l.setting-index l.winners) ≡ winner l.prop l.winners

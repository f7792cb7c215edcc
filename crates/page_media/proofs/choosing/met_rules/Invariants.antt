use Rattle.std.proofs.Common.{◌≡◌, ◌++◌, drop, filter}
use Rattle.page_media.specs.Queries.{rule_met}
use Rattle.page_media.specs.Parts.{sign_of}
use Rattle.page_media.proofs.choosing.met_rules.Given as goal

abbrev pub invariant-loop-rule : goal.invariant-loop-rule
invariant-loop-rule l =
    l.met ++ filter (rule_met (sign_of l.features l.signs)) (drop l.rule-index l.rules)
    ≡ filter (rule_met (sign_of l.features l.signs)) l.rules

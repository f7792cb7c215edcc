use Rattle.std.proofs.Common.{◌≡◌, length, map, option_map}
use Rattle.css_cascade.specs.steps.Buckets.{numbered}
use Rattle.css_cascade.specs.steps.Seen.{seen}
use Rattle.css_cascade.proofs.Tries.{ReachedTry}
use Rattle.css_cascade.proofs.trying.try_all.Given as goal

abbrev pub invariant-loop-number : goal.invariant-loop-number
invariant-loop-number l =
    (length l.best.items ≡ 40)
    × ReachedTry l.page.nodes l.node l.rulesets (map numbered l.candidates) l.numbers l.number-index (map (option_map seen) l.initial.best.items) (map (option_map seen) l.best.items) l.going

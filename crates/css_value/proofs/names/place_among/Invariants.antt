use Rattle.std.proofs.Common.{◌≡◌, ◌+◌, drop, map}
use Rattle.std.specs.List.{position}
use Rattle.std.specs.Option.{option_map}
use Rattle.css_semantics.specs.Names.{same_name}
use Rattle.css_value.proofs.names.place_among.Given as goal

abbrev pub invariant-loop-at : goal.invariant-loop-at
invariant-loop-at l = option_map (λ n. l.at + n) (position (same_name l.word) (map (λ w. w.now) (drop l.at l.words))) ≡ position (same_name l.word) (map (λ w. w.now) l.words)

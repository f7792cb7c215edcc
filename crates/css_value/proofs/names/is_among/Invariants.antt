use Rattle.std.proofs.Common.{◌≡◌, map, drop}
use Rattle.std.specs.List.{list_any}
use Rattle.css_semantics.specs.Names.{same_name}
use Rattle.css_value.proofs.names.is_among.Given as goal

abbrev pub invariant-loop-known : goal.invariant-loop-known
invariant-loop-known l = list_any (same_name l.word) (map (λ w. w.now) (drop l.known-index l.words)) ≡ list_any (same_name l.word) (map (λ w. w.now) l.words)

use Rattle.std.proofs.Common.{◌≡◌, ◌+◌, drop, option_map}
use Rattle.css_semantics.specs.ComputedValues.{font_named}
use Rattle.page_style.proofs.families.font_named.Given as goal

abbrev pub invariant-loop-at : goal.invariant-loop-at
invariant-loop-at l = option_map (λ n. l.at + n) (font_named (drop l.at l.fonts) l.name) ≡ font_named l.fonts l.name

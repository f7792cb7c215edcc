-- What a text spells as a selector.
use Rattle.std.specs.Prelude.{List, Option}
use Rattle.viz_base.specs.declared.groups.Selector.{Selector}
use Rattle.viz_base.specs.declared.selectors.Compound.{Compound}
use Rattle.viz_base.specs.declared.selectors.Join.{Join}
use Rattle.viz_base.specs.declared.selectors.Pseudo.{Pseudo}

-- its simple selectors, and the pseudo-element of what the last one matches, where there is one (CSS 2.1, 5.2 and 5.12.3)
abbrev pub Spelled : Type 0
Spelled = List (Join × Compound) × Option Pseudo

abbrev pub spelled : Selector → Spelled
spelled s = (s.parts, s.pseudo)

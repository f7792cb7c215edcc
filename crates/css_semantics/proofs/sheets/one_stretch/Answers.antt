use Rattle.std.proofs.Common.{sym, ◌∙◌}
use Rattle.css_semantics.proofs.Stretches.{is_stretch, stretch_front, stretch_behind}
use Rattle.css_semantics.proofs.sheets.one_stretch.Goals as goal

pub returns-clause-exists : goal.returns-clause-exists
returns-clause-exists c = λ stop ts. (_, _, is_stretch stop ts)

pub returns-clause-unique : goal.returns-clause-unique
returns-clause-unique c = λ stop ts f g r s h k.
    (stretch_front stop ts f r h ∙ sym (stretch_front stop ts g s k), stretch_behind stop ts f r h ∙ sym (stretch_behind stop ts g s k))

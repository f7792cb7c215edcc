use Rattle.std.proofs.Common.{sym, subst, ◌∙◌}
use Rattle.std.specs.Str.{chars}
use Rattle.css_semantics.specs.SheetsReading.{closed_by_end}
use Rattle.css_semantics.specs.SheetsGrammar.{AreDeclarations}
use Rattle.css_semantics.proofs.PieceLemmas.{pieces_same}
use Rattle.css_semantics.proofs.Declarations.{are_declarations, declarations_are}
use Rattle.css_semantics.proofs.sheets.one_list_of_declarations.Goals as goal

pub returns-clause-exists : goal.returns-clause-exists
returns-clause-exists c = λ ts. (_, are_declarations ts)

pub returns-clause-unique : goal.returns-clause-unique
returns-clause-unique c = λ ts ds es h k. declarations_are h ∙ sym (declarations_are k)

pub returns-clause-text : goal.returns-clause-text
returns-clause-text c = λ text ds es h k.
    declarations_are h.2 ∙ sym (declarations_are (subst (λ ts. AreDeclarations (closed_by_end ts) es) (pieces_same k.0 h.0 0 (chars text) k.1 h.1) k.2))

use Rattle.std.proofs.Common.{sym, subst, ◌∙◌}
use Rattle.std.specs.Str.{chars}
use Rattle.css_semantics.specs.SheetsGrammar.{IsSheet}
use Rattle.css_semantics.proofs.PieceLemmas.{pieces_same}
use Rattle.css_semantics.proofs.Answers.{is_sheet, sheet_is}
use Rattle.css_semantics.proofs.sheets.one_sheet.Goals as goal

pub returns-clause-exists : goal.returns-clause-exists
returns-clause-exists c = λ ts. (_, is_sheet ts)

pub returns-clause-unique : goal.returns-clause-unique
returns-clause-unique c = λ ts a b h k. sheet_is ts a h ∙ sym (sheet_is ts b k)

pub returns-clause-text : goal.returns-clause-text
returns-clause-text c = λ text a b h k.
    sheet_is h.0 a h.2 ∙ sym (sheet_is h.0 b (subst (λ ts. IsSheet ts b) (pieces_same k.0 h.0 0 (chars text) k.1 h.1) k.2))

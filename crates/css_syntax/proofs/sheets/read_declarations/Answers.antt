use Rattle.std.proofs.Common.{◌∙◌, ap}
use Rattle.std.proofs.lemmas.Result.{IfOk-weaker}
use Rattle.css_semantics.specs.SheetsReading.{closed_by_end}
use Rattle.css_syntax.proofs.Texts.{declarations_of}
use Rattle.css_syntax.proofs.sheets.read_declarations.Goals as goal

pub returns : goal.returns
returns c =
    IfOk-weaker _ _ _
    (λ ds e. declarations_of _ c.in_ok-tokens.field-0 c.as_slice.result.now ds c.in_ok-tokens.ensures (c.as_slice.ensures.value ∙ c.close_by_end.ensures ∙ ap closed_by_end c.into_vec-tokens.ensures) e)
    c.declarations.ensures

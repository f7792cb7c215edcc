use Rattle.std.proofs.Common.{◌∙◌, ap}
use Rattle.css_semantics.specs.SheetsReading.{closed_by_end}
use Rattle.css_syntax.proofs.Texts.{gives_of}
use Rattle.css_syntax.proofs.sheets.read_sheet.Goals as goal

pub returns : goal.returns
returns c =
    gives_of _ _ c.in_ok-tokens.field-0 c.as_slice.result.now c.in_ok-tokens.ensures (c.as_slice.ensures.value ∙ c.close_by_end.ensures ∙ ap closed_by_end c.into_vec-tokens.ensures) c.read_rules.ensures

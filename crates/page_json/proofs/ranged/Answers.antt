use Rattle.std.proofs.Common.{◌∙◌, ap, length, sym, arith}
use Rattle.std.proofs.lemmas.List.{length-map}
use Rattle.page_json.specs.Fonts.{measures_of}
use Rattle.page_json.specs.Seen.{parts_seen}
use Rattle.page_json.proofs.LimitLemmas.{formed-good, in_range-good}
use Rattle.page_json.proofs.ranged.Goals as goal

pub returns-clause-limits : goal.returns-clause-limits
returns-clause-limits c = record {
  formed = formed-good (parts_seen c.args.parts) c.requires.formed;
  in_range = in_range-good (parts_seen c.args.parts) (sym c.in_range.ensures ∙ c.if-not-in_range.false);
  has_font = omega (arith, c.requires.has_font, length-map c.args.parts.fonts measures_of);
  few_characters = c.requires.few_characters;
  short_formula = omega (arith, ap length c.in_ok-from_text.ensures, c.requires.short_formula);
}

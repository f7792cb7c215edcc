use Rattle.page_json.proofs.PageLemmas.{document-page}
use Rattle.page_json.proofs.job_under.Goals as goal

pub ranged-requires : goal.ranged-requires
ranged-requires c = record {
  formed = c.in_ok-parts.ensures.formed;
  page = document-page c.in_ok-parts.parts.page.nodes c.in_ok-parts.ensures.document c.in_ok-limited.ensures.few_characters;
  has_font = c.in_ok-parts.ensures.has_font;
  few_characters = c.in_ok-limited.ensures.few_characters;
  short_formula = c.in_ok-limited.ensures.short_formula;
}

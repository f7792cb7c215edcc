use Rattle.std.proofs.Common.{sym, ◌∙◌}
use Rattle.serde_json.specs.View.{view}
use Rattle.page_json.proofs.FontLemmas.{advances_of-fit}
use Rattle.page_json.proofs.fonts.font_of.Goals as goal

pub invariant_of-result : goal.invariant_of-result
invariant_of-result c = record {
  ok = record {
    has_em = c.in-Some-whole_in.ensures.bounds.0;
    em = c.in-Some-whole_in.ensures.bounds.1;
    ascent_most = c.in-Some-whole_in-2.ensures.bounds.1;
    descent_most = c.in-Some-whole_in-3.ensures.bounds.1;
    other_most = c.in-Some-whole_in-4.ensures.bounds.1;
    advances_most = advances_of-fit (view c.args.value.now) c.in-Some-2.advances (sym c.in_ok-advances.ensures ∙ c.in-Some-2.is);
  };
}

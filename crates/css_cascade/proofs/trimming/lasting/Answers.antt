use Rattle.std.proofs.Common.{◌∙◌, map, ap, option_map}
use Rattle.css_cascade.specs.steps.Seen.{seen}
use Rattle.css_cascade.proofs.Applies.{if_ok}
use Rattle.css_cascade.proofs.Deciding.{trimmed_as}
use Rattle.css_cascade.proofs.trimming.lasting.Goals as goal

pub returns : goal.returns
returns c = if_ok c.claims_among.result
    (λ kept e. trimmed_as _ c.args.claims.now _ _ _ c.in_ok-best.ensures.none (ap (map (option_map seen)) c.as_slice.ensures.value ∙ c.keep_claims.ensures.kept) e)
    c.claims_among.ensures

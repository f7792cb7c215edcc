use Rattle.std.proofs.Common.{map, subst}
use Rattle.viz_base.proofs.ListLemmas.{drop_at}
use Rattle.css_cascade.specs.steps.Trimming.{LastsAs}
use Rattle.css_cascade.proofs.Deciding.{trim_more}
use Rattle.css_cascade.proofs.trimming.trim.Goals as goal

pub loop-rules-preserved : goal.loop-rules-preserved
loop-rules-preserved c =
    trim_more _ _ _ _ _ (drop_at c.args.rulesets.now c.loop-rules.rules-index c.rules-item.result c.loop-rules-test.true c.rules-item.is)
    (subst (LastsAs (map (λ x. x.now) c.in_ok-claims.claims.items)) c.as_slice.ensures c.in_ok-claims.ensures)
    c.in_ok-push.ensures.items c.loop-rules.invariant

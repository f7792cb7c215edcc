use Rattle.std.proofs.Common.{map, sym, subst}
use Rattle.css_cascade.specs.steps.Buckets.{numbered, numbered_from}
use Rattle.css_cascade.specs.steps.Trimming.{rules_of}
use Rattle.css_cascade.specs.steps.Trying.{AreAll, StandFor}
use Rattle.css_cascade.proofs.Standing.{are_all}
use Rattle.css_cascade.proofs.Strongest.{tried_kept}
use Rattle.css_cascade.proofs.applying.applied.Goals as goal

pub try_all-requires-clause-all : goal.try_all-requires-clause-all
try_all-requires-clause-all c =
    subst (AreAll c.args.page.now.nodes c.args.node (map numbered c.as_slice-candidates.result.now)) (sym c.deref.ensures.value)
    (subst (λ cs. AreAll c.args.page.now.nodes c.args.node (map numbered cs) c.in_ok-numbers.numbers.items) (sym c.as_slice-candidates.ensures.value)
    (are_all _ _ c.args.element.now c.args.buckets.now _ c.requires.element c.requires.buckets.1 c.in_ok-numbers.ensures.all))

pub returns-clause-kept : goal.returns-clause-kept
returns-clause-kept c =
    tried_kept c.args.page.now.nodes c.args.node c.args.rulesets.now (map numbered c.as_slice-candidates.result.now) _ _ _ c.args.style.now c.requires.trimmed
    (subst (λ cs. StandFor c.args.page.now.nodes (map numbered cs) (numbered_from 0 (map rules_of c.args.rulesets.now))) (sym c.as_slice-candidates.ensures.value) c.requires.buckets.0) c.in_ok-best.ensures.none c.try_all.ensures.tried c.keep_claims.ensures.kept

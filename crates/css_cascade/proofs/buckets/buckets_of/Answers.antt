use Rattle.std.proofs.Common.{◌++◌, ◌∙◌, map, [], refl, ap, subst}
use Rattle.viz_base.proofs.ListLemmas.{drop_at}
use Rattle.css_semantics.specs.declared.claims.Ranked.{Ranked}
use Rattle.css_cascade.specs.steps.Buckets.{Numbered, numbered}
use Rattle.css_cascade.specs.steps.Trying.{StandFor}
use Rattle.css_cascade.proofs.Repeating.{nothing_for_nothing}
use Rattle.css_cascade.proofs.Standing.{none_stand, rulesets_end, rulesets_more}
use Rattle.css_cascade.proofs.buckets.buckets_of.Goals as goal

pub loop-rules-init : goal.loop-rules-init
loop-rules-init c = (
  c.in_ok-buckets.ensures.1,
  ([], nothing_for_nothing c.args.page.now.nodes (map numbered c.in_ok-buckets.buckets.candidates.items) (ap (map numbered) c.in_ok-buckets.ensures.0), refl),
  none_stand c.in_ok-buckets.buckets c.in_ok-buckets.ensures.0,
  c.in_ok-present.ensures,
)

pub loop-rules-preserved : goal.loop-rules-preserved
loop-rules-preserved c =
    let i = c.loop-rules.rules in
    let number : Ranked → Numbered = λ r. (i, r) in
    let k = c.loop-rules.invariant.1 in
    let group = map number c.as_slice-in-loop-rules.result.now in (
      c.add_group.ensures.len,
      (
        k.0 ++ group,
        c.in_ok-add_group.ensures.added c.args.page.now.nodes k.0 (c.as_slice.ensures.value ∙ c.loop-rules.invariant.3) k.1,
        rulesets_more k.0 group i _ _ c.index-rulesets-rules.result _ _ (drop_at c.args.rulesets.now i c.index-rulesets-rules.result c.loop-rules-test.true c.index-rulesets-rules.is) (ap (map number) c.as_slice-in-loop-rules.ensures) refl k.2,
      ),
      c.in_ok-add_group.ensures.stand c.loop-rules.invariant.2,
      c.loop-rules.invariant.3,
    )

pub returns : goal.returns
returns c =
    let k = c.loop-rules.invariant.1 in (
      subst (StandFor c.args.page.now.nodes (map numbered c.loop-rules.buckets.candidates.items)) (rulesets_end k.0 _ c.loop-rules.rules c.args.rulesets.now c.loop-rules-test.false k.2) k.1,
      c.loop-rules.invariant.2,
    )

use Rattle.std.proofs.Common.{◌++◌, ◌∷◌, [], map, refl, subst}
use Rattle.viz_base.proofs.ListLemmas.{drop_at}
use Rattle.css_cascade.specs.steps.Buckets.{numbered}
use Rattle.css_cascade.specs.steps.Trying.{StandFor}
use Rattle.css_cascade.proofs.Standing.{group_end, group_more}
use Rattle.css_cascade.proofs.buckets.Buckets.add_group.Goals as goal

pub loop-ranked-preserved : goal.loop-ranked-preserved
loop-ranked-preserved c = (
  c.add.ensures.len,
  λ nodes all of_page h.
      let k = c.loop-ranked.invariant.1 nodes all of_page h in (
        k.0 ++ (c.args.rules, c.ranked-item.result) ∷ [],
        c.in_ok-add.ensures.added nodes k.0 of_page k.1,
        group_more k.0 _ _ c.args.rules c.ranked-item.result _ _ (drop_at c.args.group.now c.loop-ranked.ranked-index c.ranked-item.result c.loop-ranked-test.true c.ranked-item.is) refl k.2,
      ),
  λ h. c.in_ok-add.ensures.stand (c.loop-ranked.invariant.2 h),
)

pub returns-clause-added : goal.returns-clause-added
returns-clause-added c = λ nodes all of_page h.
    let k = c.loop-ranked.invariant.1 nodes all of_page h in
    subst (StandFor nodes (map numbered c.loop-ranked.self.candidates.items)) (group_end k.0 _ c.args.rules c.args.group.now c.loop-ranked.ranked-index c.loop-ranked-test.false k.2) k.1

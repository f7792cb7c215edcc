use Rattle.std.proofs.Common.{subst}
use Rattle.std.proofs.lemmas.Result.{IfOk-weaker}
use Rattle.viz_renew.specs.steps.Renew.{AreJudged}
use Rattle.viz_renew.proofs.RenewLemmas.{can_tell, stays, renews}
use Rattle.viz_renew.proofs.renewals.renewed.Goals as goal

pub all_stand-requires : goal.all_stand-requires
all_stand-requires c = record { as_many = c.requires.as_many; few = c.requires.few; texts = (c.requires.texts, c.requires.spell) }

pub unchanged-requires : goal.unchanged-requires
unchanged-requires c = (c.requires.texts, c.requires.spell)

pub returns-then-stand : goal.returns-then-stand
returns-then-stand c =
    let all = subst (AreJudged c.args.jobs.now c.args.certs.now) c.if-stand.true c.in_ok-stand.ensures in
    IfOk-weaker c.unchanged.result _ _ (λ r h. stays c.args.bytes.now c.args.jobs.now c.args.certs.now c.args.turns r.answer r.output.items all h) c.unchanged.ensures

pub search_reply-requires : goal.search_reply-requires
search_reply-requires c =
    can_tell c.parts_hold.ensures.there c.parts_hold.ensures.one c.args.bytes.now c.args.jobs.now c.args.turns c.in_ok-found.found c.requires.spelled.spelled c.in_ok-found.ensures

pub returns : goal.returns
returns c =
    let never = subst (AreJudged c.args.jobs.now c.args.certs.now) c.if-stand.false c.in_ok-stand.ensures in
    IfOk-weaker c.search_reply.result _ _
    (λ r h. renews c.args.bytes.now c.args.jobs.now c.args.certs.now c.args.turns c.in_ok-found.found r.answer r.output.items never c.in_ok-found.ensures h) c.search_reply.ensures

use Rattle.std.proofs.Common.{◌<◌, ◌≤◌, length, take, arith, subst, take_all}
use Rattle.viz_renew.specs.Renewals.{AllStand}
use Rattle.viz_renew.specs.steps.Renew.{IsJudged}
use Rattle.viz_renew.proofs.FileLemmas.{few_listed, text_at}
use Rattle.viz_renew.proofs.RenewLemmas.{stand_more, plain_at}
use Rattle.viz_renew.proofs.parts.all_stand.Goals as goal

pub loop-at-init : goal.loop-at-init
loop-at-init c = AllStand.nothing

pub stands-requires-clause-few : goal.stands-requires-clause-few
stands-requires-clause-few c =
    let inside : c.loop-at.at < length c.args.certs.now = omega arith in
    few_listed c.args.certs.now c.requires.few c.loop-at.at c.index-certs-at.result inside c.index-certs-at.is c.index-jobs-at.result.form

pub stands-requires-clause-text : goal.stands-requires-clause-text
stands-requires-clause-text c =
    let inside : c.loop-at.at < length c.args.certs.now = omega arith in
    text_at c.requires.texts.1 c.loop-at.at c.index-certs-at.result inside c.index-certs-at.is

pub loop-at-preserved : goal.loop-at-preserved
loop-at-preserved c =
    let stands = subst (IsJudged c.index-jobs-at.result c.index-certs-at.result) c.if-not-good.false c.in_ok-good.ensures in
    stand_more c.args.jobs.now c.args.certs.now c.loop-at.at c.index-jobs-at.result c.index-certs-at.result c.loop-at-test.true c.requires.as_many c.index-jobs-at.is c.index-certs-at.is c.loop-at.invariant stands

pub returns-then-not-good : goal.returns-then-not-good
returns-then-not-good c = λ plain.
    let never = subst (IsJudged c.index-jobs-at.result c.index-certs-at.result) c.if-not-good.true c.in_ok-good.ensures in
    never (plain_at plain c.loop-at.at c.index-jobs-at.result c.index-certs-at.result c.loop-at-test.true c.index-jobs-at.is c.index-certs-at.is)

pub returns : goal.returns
returns c =
    let all : length c.args.jobs.now ≤ c.loop-at.at = omega arith in
    let most : length c.args.certs.now ≤ c.loop-at.at = let many = c.requires.as_many in omega arith in
    subst (λ js. AllStand js c.args.certs.now) (take_all c.loop-at.at c.args.jobs.now all) (subst (λ cs. AllStand (take c.loop-at.at c.args.jobs.now) cs) (take_all c.loop-at.at c.args.certs.now most) c.loop-at.invariant)

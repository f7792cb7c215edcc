use Rattle.std.proofs.Common.{◌≡◌, ℤ, false, arith, length, ◌<◌, ◌≤◌}
use Rattle.lin_proof.specs.Form.{Form}
use Rattle.lin_proof.specs.Pairs.{closes}
use Rattle.lin_search.proofs.Walks.{each_more, each_of_all}
use Rattle.lin_search.proofs.at_hand.partner.Goals as goal

pub loop-at-preserved : goal.loop-at-preserved
loop-at-preserved c =
    let P : Form → Type 0 = λ g. (a b : ℤ) → closes c.args.fact.now g a b ≡ false in
    let lt : c.loop-at.at < length c.args.facts.now = omega (arith, c.loop-at-test.true) in
    each_more P c.args.facts.now c.loop-at.at c.index-facts-at.result lt c.index-facts-at.is c.loop-at.invariant (rw c.in_default.is at c.in_ok-multiples.ensures)

pub returns : goal.returns
returns c =
    let P : Form → Type 0 = λ g. (a b : ℤ) → closes c.args.fact.now g a b ≡ false in
    let past : length c.args.facts.now ≤ c.loop-at.at = omega (arith, c.loop-at-test.false) in
    each_of_all P c.args.facts.now c.loop-at.at past c.loop-at.invariant

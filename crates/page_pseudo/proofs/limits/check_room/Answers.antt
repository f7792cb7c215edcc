use Rattle.std.proofs.Common.{◌≡◌, ◌<◌, ◌+◌, suc, Some, length, slice_get, refl, sym, ap, subst, arith, get_or}
use Rattle.std.proofs.lemmas.Option.{slice_get_read}
use Rattle.viz_base.specs.declared.nodes.Node.{Node}
use Rattle.page_pseudo.specs.Limits.{IsTooMuch, made_at, made_before}
use Rattle.page_pseudo.specs.steps.Seeds.{written}
use Rattle.page_pseudo.proofs.Counting.{made_more}
use Rattle.page_pseudo.proofs.limits.check_room.Goals as goal

pub returns-in-None : goal.returns-in-None
returns-in-None c =
    let w = written c.args.seeds in
    let n = c.loop-at.at in
    let node = c.index-nodes-at.result in
    let within : n < length w.nodes = rw c.as_slice-nodes.ensures at c.loop-at-test.true in
    let here : slice_get w.nodes n ≡ Some node = slice_get_read w.nodes (length w.nodes) n node refl within (subst (λ ns. node ≡ get_or ns n node) c.as_slice-nodes.ensures c.index-nodes-at.is) in
    let step = made_more w n node here in
    let same = ap (λ (x : Node). made_at w n x.body) c.index-nodes-at.is in
    let room = c.loop-at.invariant in
    let full = c.in-None.ensures in
    subst (IsTooMuch w) (sym c.in_ok-number-in-None.ensures) (record { is_node = within; enough = omega (arith, room); too_much = omega (arith, step, same, room, full) })

pub loop-at-preserved : goal.loop-at-preserved
loop-at-preserved c =
    let w = written c.args.seeds in
    let n = c.loop-at.at in
    let node = c.index-nodes-at.result in
    let within : n < length w.nodes = rw c.as_slice-nodes.ensures at c.loop-at-test.true in
    let here : slice_get w.nodes n ≡ Some node = slice_get_read w.nodes (length w.nodes) n node refl within (subst (λ ns. node ≡ get_or ns n node) c.as_slice-nodes.ensures c.index-nodes-at.is) in
    let step = made_more w n node here in
    let far = ap (made_before w) (let e : suc n ≡ n + 1 = omega arith in e) in
    let room = c.loop-at.invariant in
    let same = ap (λ (x : Node). made_at w n x.body) c.index-nodes-at.is in
    let left = c.in-Some.ensures in
    omega (arith, step, same, room, left, far)

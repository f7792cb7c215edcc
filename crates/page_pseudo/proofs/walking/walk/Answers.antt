use Rattle.std.proofs.Common.{◌≡◌, ◌<◌, ◌≤◌, Some, length, get_or, slice_get, refl, sym, ap, ◌∙◌, subst, arith}
use Rattle.std.proofs.lemmas.Option.{slice_get_read}
use Rattle.viz_base.specs.declared.nodes.Node.{Node}
use Rattle.page_pseudo.specs.steps.Seeds.{written}
use Rattle.page_pseudo.specs.steps.Upto.{parent_at}
use Rattle.page_pseudo.proofs.Above.{at_parent, past_parent}
use Rattle.page_pseudo.proofs.Nesting.{starts}
use Rattle.page_pseudo.proofs.walking.walk.Goals as goal

pub loop-at-init : goal.loop-at-init
loop-at-init c =
    let begin = c.new-growing.ensures in
    record { growing = starts (written c.args.seeds) c.new-growing.result.numbers.items c.new-growing.result.going c.new-growing.result.grown.items begin.numbers begin.going begin.grown; numbers = ap length begin.numbers; going = begin.going }

pub close_to-requires-clause-parent : goal.close_to-requires-clause-parent
close_to-requires-clause-parent c =
    let nodes = c.args.seeds.page.now.nodes in
    let n = c.loop-at.at in
    let node = c.index-nodes-at.result in
    let within : n < length nodes = rw c.as_slice-nodes.ensures at c.loop-at-test.true in
    let here : slice_get nodes n ≡ Some node = slice_get_read nodes (length nodes) n node refl within (subst (λ ns. node ≡ get_or ns n node) c.as_slice-nodes.ensures c.index-nodes-at.is) in
    ap (λ (m : Node). m.parent) (sym c.index-nodes-at.is) ∙ sym (at_parent nodes c.args.seeds.page.now.ok n node here) ∙ ap (parent_at nodes) (sym c.loop-at.invariant.numbers)

pub add-requires-clause-found : goal.add-requires-clause-found
add-requires-clause-found c =
    let nodes = c.args.seeds.page.now.nodes in
    let n = c.loop-at.at in
    let node = c.index-nodes-at-in-loop-at.result in
    let within : n < length nodes = rw c.as_slice-nodes.ensures at c.loop-at-test.true in
    let here : slice_get nodes n ≡ Some node = slice_get_read nodes (length nodes) n node refl within (subst (λ ns. node ≡ get_or ns n node) c.as_slice-nodes.ensures c.index-nodes-at-in-loop-at.is) in
    ap (slice_get nodes) c.in_ok-number.ensures ∙ here

pub close_to-requires-2-clause-parent : goal.close_to-requires-2-clause-parent
close_to-requires-2-clause-parent c =
    let nodes = c.args.seeds.page.now.nodes in
    let past : length nodes ≤ c.loop-at.at = rw c.as_slice-nodes.ensures at c.loop-at-test.false in
    let same = c.loop-at.invariant.numbers in
    sym (past_parent nodes c.args.seeds.page.now.ok (length c.loop-at.growing.numbers.items) (omega (arith, past, same)))

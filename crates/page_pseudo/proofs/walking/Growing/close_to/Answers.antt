use Rattle.std.proofs.Common.{◌≡◌, ◌<◌, ◌≤◌, Some, length, refl, sym, ap, ◌∙◌, subst}
use Rattle.page_pseudo.specs.steps.Upto.{HasAllBefore, IsAbove, parent_at}
use Rattle.page_pseudo.proofs.Above.{above_parent, above_start, smaller_open, told_apart, whole_before}
use Rattle.page_pseudo.proofs.Nesting.{found_going, within_open}
use Rattle.page_pseudo.proofs.walking.Growing.close_to.Goals as goal

pub loop-nodes-init : goal.loop-nodes-init
loop-nodes-init c =
    let nodes = c.args.seeds.page.now.nodes in
    let n = length c.args.self.now.numbers.items in
    record {
      growing = c.requires.growing;
      numbers = refl;
      above = subst (λ p. IsAbove p c.args.self.now.going) (sym c.requires.parent) (subst (IsAbove (parent_at nodes n)) (sym c.requires.going) (above_start nodes c.args.seeds.page.now.ok n));
    }

pub close-requires-clause-found : goal.close-requires-clause-found
close-requires-clause-found c =
    let nodes = c.args.seeds.page.now.nodes in
    let n = length c.args.self.now.numbers.items in
    let at = c.in-Some.at in
    let node = c.index-nodes-at.result in
    let few : length c.loop-nodes.self.numbers.items ≤ length nodes = subst (λ ns. length ns ≤ length nodes) (sym c.loop-nodes.invariant.numbers) c.requires.few in
    let here = found_going at node c.as_slice-nodes.result.now c.loop-nodes.invariant.growing c.in-Some.is few c.as_slice-nodes.ensures c.index-nodes-at.is in
    here

pub close-requires-clause-whole : goal.close-requires-clause-whole
close-requires-clause-whole c =
    let nodes = c.args.seeds.page.now.nodes in
    let n = length c.args.self.now.numbers.items in
    let at = c.in-Some.at in
    let node = c.index-nodes-at.result in
    let few : length c.loop-nodes.self.numbers.items ≤ length nodes = subst (λ ns. length ns ≤ length nodes) (sym c.loop-nodes.invariant.numbers) c.requires.few in
    let here = found_going at node c.as_slice-nodes.result.now c.loop-nodes.invariant.growing c.in-Some.is few c.as_slice-nodes.ensures c.index-nodes-at.is in
    let before : at < n = subst (λ ns. at < length ns) c.loop-nodes.invariant.numbers (within_open at c.loop-nodes.invariant.growing c.in-Some.is) in
    let above : IsAbove (parent_at nodes n) (Some at) = subst (λ p. IsAbove p (Some at)) c.requires.parent (subst (IsAbove c.args.parent) c.in-Some.is c.loop-nodes.invariant.above) in
    let other : Some at ≡ parent_at nodes n → ⊥ = λ e. told_apart c.loop-nodes.self.going c.args.parent c.ne.result c.ne.ensures c.loop-nodes-test.true (c.in-Some.is ∙ e ∙ sym c.requires.parent) in
    subst (HasAllBefore nodes at) (ap length (sym c.loop-nodes.invariant.numbers)) (whole_before nodes c.args.seeds.page.now.ok n at node here before above other)

pub loop-nodes-smaller : goal.loop-nodes-smaller
loop-nodes-smaller c =
    let nodes = c.args.seeds.page.now.nodes in
    let n = length c.args.self.now.numbers.items in
    let at = c.in-Some.at in
    let node = c.index-nodes-at.result in
    let few : length c.loop-nodes.self.numbers.items ≤ length nodes = subst (λ ns. length ns ≤ length nodes) (sym c.loop-nodes.invariant.numbers) c.requires.few in
    let here = found_going at node c.as_slice-nodes.result.now c.loop-nodes.invariant.growing c.in-Some.is few c.as_slice-nodes.ensures c.index-nodes-at.is in
    smaller_open nodes c.args.seeds.page.now.ok at node c.close.new.self.going c.loop-nodes.self.going here (c.in_ok-close.ensures).going c.in-Some.is

pub loop-nodes-preserved : goal.loop-nodes-preserved
loop-nodes-preserved c =
    let nodes = c.args.seeds.page.now.nodes in
    let n = length c.args.self.now.numbers.items in
    let at = c.in-Some.at in
    let node = c.index-nodes-at.result in
    let few : length c.loop-nodes.self.numbers.items ≤ length nodes = subst (λ ns. length ns ≤ length nodes) (sym c.loop-nodes.invariant.numbers) c.requires.few in
    let here = found_going at node c.as_slice-nodes.result.now c.loop-nodes.invariant.growing c.in-Some.is few c.as_slice-nodes.ensures c.index-nodes-at.is in
    let before : at < n = subst (λ ns. at < length ns) c.loop-nodes.invariant.numbers (within_open at c.loop-nodes.invariant.growing c.in-Some.is) in
    let above : IsAbove (parent_at nodes n) (Some at) = subst (λ p. IsAbove p (Some at)) c.requires.parent (subst (IsAbove c.args.parent) c.in-Some.is c.loop-nodes.invariant.above) in
    let other : Some at ≡ parent_at nodes n → ⊥ = λ e. told_apart c.loop-nodes.self.going c.args.parent c.ne.result c.ne.ensures c.loop-nodes-test.true (c.in-Some.is ∙ e ∙ sym c.requires.parent) in
    record {
      growing = (c.in_ok-close.ensures).growing;
      numbers = (c.in_ok-close.ensures).numbers ∙ c.loop-nodes.invariant.numbers;
      above = subst (λ p. IsAbove p c.close.new.self.going) (sym c.requires.parent) (subst (IsAbove (parent_at nodes n)) (sym (c.in_ok-close.ensures).going) (above_parent nodes c.args.seeds.page.now.ok n at node here before above other));
    }

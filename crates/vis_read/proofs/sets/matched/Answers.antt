use Rattle.std.proofs.Common.{◌+◌, ◌∙◌, map, subst, sym}
use Rattle.std.proofs.lemmas.Bool.{false≢true}
use Rattle.css_semantics.specs.Spelled.{spelled}
use Rattle.vis_read.specs.Tokens.{AreMatched}
use Rattle.vis_read.proofs.sets.matched.Goals as goal
use Rattle.vis_read.proofs.sets.matched.Goals.{then-matches_one+in_ok-push, else-matches_one}

pub loop-node-init : goal.loop-node-init
loop-node-init c = subst (AreMatched c.args.page.now.nodes (map spelled c.args.group.now) 0) (sym c.new-found.ensures) AreMatched.nothing

pub loop-node-preserved : goal.loop-node-preserved
loop-node-preserved c =
    let nodes = c.args.page.now.nodes in
    let group = map spelled c.args.group.now in
    let n = c.loop-node.node in
    let found = c.loop-node.found in
    elim c.if-matches_one.branch [
      | then-matches_one+in_ok-push w ↦ subst (AreMatched nodes group (n + 1)) (sym w.found-is) (subst (AreMatched nodes group (n + 1)) (sym w.in_ok-push.ensures.ok) (AreMatched.matched n found c.loop-node.invariant (c.matches_one.ensures.0 w.if-matches_one.true)))
      | else-matches_one w ↦ subst (AreMatched nodes group (n + 1)) (sym w.found-is) (AreMatched.passed n found c.loop-node.invariant (λ one. false≢true (sym w.if-matches_one.false ∙ c.matches_one.ensures.1 one)))
    ]

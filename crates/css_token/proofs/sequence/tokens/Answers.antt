use Rattle.std.proofs.Common.{◌+◌, ◌≤◌, [], ◌∷◌, ◌++◌, sym, subst, arith, length}
use Rattle.std.specs.Str.{IsCharBoundary}
use Rattle.std.proofs.lemmas.Str.{IsCharBoundary-start}
use Rattle.css_token.proofs.SequenceLemmas.{Goes, goes_first, goes_on, goes_to_end, token_some}
use Rattle.css_token.proofs.sequence.tokens.Goals as goal

pub loop-token-init : goal.loop-token-init
loop-token-init c = (IsCharBoundary-start c.args.text.now c.utf8.text, subst (λ f. Goes c.args.text.now f 0) (sym c.new-found.ensures) (goes_first c.args.text.now))

pub loop-token-smaller : goal.loop-token-smaller
loop-token-smaller c =
    let some = token_some c.args.text.now c.loop-token.at c.in-Some.token c.in-Some.ensures in
    let within : c.loop-token.at + length c.in-Some.token.text ≤ length c.args.text.now = c.in-Some.ensures.boundary.0 in
    omega (arith, c.len_of-at.ensures)

pub loop-token-preserved : goal.loop-token-preserved
loop-token-preserved c =
    let text = c.args.text.now in
    let more = goes_on text c.loop-token.found c.loop-token.at c.in-Some.token c.in-Some.ensures c.loop-token.invariant.1 in
    let len = sym c.len_of-at.ensures in (
      subst (λ n. IsCharBoundary text (c.loop-token.at + n)) len c.in-Some.ensures.boundary,
      subst (λ f. Goes text f (c.loop-token.at + c.len_of-at.result)) (sym c.in_ok-push.ensures.ok)
          (subst (λ n. Goes text (c.loop-token.found ++ c.in-Some.token ∷ []) (c.loop-token.at + n)) len more),
    )

pub returns : goal.returns
returns c = goes_to_end c.args.text.now c.loop-token.found c.loop-token.at c.in_default.ensures c.loop-token.invariant.1

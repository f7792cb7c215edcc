use Rattle.std.proofs.Common.{◌≡◌, ◌∷◌, ◌++◌, ◌+◌, [], false, true, get_or, subst, sym, ap, ◌∙◌, arith}
use Rattle.vis_read.specs.Tokens.{AreTokens, is_white}
use Rattle.vis_read.specs.declared.lexemes.Token.{Token}
use Rattle.vis_read.proofs.Sequence.{Goes, goes_white, goes_next, goes_unknown, goes_end}
use Rattle.vis_read.proofs.tokens.tokens.Goals as goal

pub loop-at-preserved-then-is_white : goal.loop-at-preserved-then-is_white
loop-at-preserved-then-is_white c =
    let white : is_white (get_or c.args.text.now c.loop-at.at 0) ≡ true = ap (λ bs. is_white (get_or bs c.loop-at.at 0)) (sym c.as_bytes.ensures.value) ∙ (sym c.is_white.ensures ∙ c.if-is_white.true) in
    goes_white c.loop-at.invariant c.loop-at-test.true white

pub returns-then-len-eq0 : goal.returns-then-len-eq0
returns-then-len-eq0 c =
    let black : is_white (get_or c.args.text.now c.loop-at.at 0) ≡ false = ap (λ bs. is_white (get_or bs c.loop-at.at 0)) (sym c.as_bytes.ensures.value) ∙ (sym c.is_white.ensures ∙ c.if-is_white.false) in
    let t : Token = c.in_ok-token.token in
    let is : c.push.new.self ≡ c.loop-at.found ++ t ∷ [] = c.in_ok-push.ensures.ok in
    let same : t ≡ record { lexeme = t.lexeme; at = c.loop-at.at } = ap (λ n. record { lexeme = t.lexeme; at = n }) c.in_ok-token.ensures.place in
    subst (AreTokens c.args.page.now.nodes 0 c.args.text.now) (sym (is ∙ ap (λ x. c.loop-at.found ++ x ∷ []) same))
    (goes_unknown t.lexeme c.in_ok-token.len c.loop-at.invariant c.loop-at-test.true c.in_ok-token.ensures.next c.if-len-eq0.true black)

pub loop-at-preserved : goal.loop-at-preserved
loop-at-preserved c =
    let t : Token = c.in_ok-token.token in
    let is : c.push.new.self ≡ c.loop-at.found ++ t ∷ [] = c.in_ok-push.ensures.ok in
    let same : t ≡ record { lexeme = t.lexeme; at = c.loop-at.at } = ap (λ n. record { lexeme = t.lexeme; at = n }) c.in_ok-token.ensures.place in
    subst (λ found. Goes c.args.page.now.nodes c.args.text.now found (c.loop-at.at + c.in_ok-token.len)) (sym (is ∙ ap (λ x. c.loop-at.found ++ x ∷ []) same))
    (goes_next t.lexeme c.in_ok-token.len c.loop-at.invariant c.in_ok-token.ensures.next (λ none. omega (arith, none, c.if-len-eq0.false)))

pub returns : goal.returns
returns c = goes_end c.loop-at.invariant c.loop-at-test.false

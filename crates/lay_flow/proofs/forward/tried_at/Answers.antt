use Rattle.std.proofs.Common.{◌≡◌, ℤ, true, ◌&&◌, int_le, sym, ◌∙◌, arith}
use Rattle.std.proofs.lemmas.Int.{ints}
use Rattle.lay_flow.proofs.forward.tried_at.Goals as goal

-- numbers neither of which is more than the other
same-numbers : (a b : ℤ) → true ≡ int_le a b && int_le b a → a ≡ b
same-numbers a b e = grind (arith, ints)

pub returns-then-is_same-clause-value : goal.returns-then-is_same-clause-value
returns-then-is_same-clause-value g c = λ e o.
    let at = g.S.Steady.at in
    (c.in_ok-tries.was, same-numbers (at c.in_ok-tries.tries.y e) (at c.args.y.now e) (sym c.if-is_same.true ∙ c.is_same.ensures.value e o))

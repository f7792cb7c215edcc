use Rattle.std.proofs.Common.{◌≡◌, arith, subst, sym}
use Rattle.lin_proof.specs.Multiples.{Divides}
use Rattle.lin_proof.proofs.Divisors.{lifted, undone, of_itself, of_zero}
use Rattle.lin_proof.proofs.multiples.common_divisor.Goals as goal

pub loop-low-preserved : goal.loop-low-preserved
loop-low-preserved c =
    let before = c.loop-low.invariant in
    let x = c.loop-low.high in
    let y = c.loop-low.low in
    record {
      divides = λ d p q. before.divides d (undone d x y p q) p;
      lifts = λ n k p q. let both = before.lifts n k p q in (both.1, lifted n k x y both.0 both.1);
    }

pub returns : goal.returns
returns c =
    let before = c.loop-low.invariant in
    let none : c.loop-low.low ≡ 0 = omega (arith, c.loop-low-test.false) in
    let both = before.divides c.loop-low.high (of_itself c.loop-low.high) (subst (Divides c.loop-low.high) (sym none) (of_zero c.loop-low.high)) in
    record {
      first = both.0;
      second = both.1;
      lifts = λ n k p q. (before.lifts n k p q).0;
    }

use Rattle.std.proofs.Common.{rules, ◌≡◌, ◌≢◌, ◌++◌, ◌∷◌, [], pos, ◌∙◌, arith, FitsSigned, to_z-of_z}
use Rattle.std.specs.Int.{w128}
use Rattle.std.proofs.lemmas.Int.{ints}
use Rattle.lin_proof.proofs.Merges.{turn-push, turn-skip}
use Rattle.lin_proof.proofs.merge.merged.Goals as goal
use Rattle.lin_proof.proofs.merge.merged.Goals.{then-coefficient-ne0+in_ok-push, else-coefficient-ne0}

pub loop-front-preserved : goal.loop-front-preserved
loop-front-preserved c =
    let front = c.in-Some.front in
    let next = c.in-Some.ensures in
    let before = c.loop-front.invariant in
    let coefficient = c.in-Some-coefficient.coefficient in
    let fits : FitsSigned w128 coefficient = search rules in
    elim c.if-coefficient-ne0.branch [
      | then-coefficient-ne0+in_ok-push w ↦
          let some : coefficient ≢ pos 0 = omega (arith, ints, w.if-coefficient-ne0.true) in
          let pushed : c.if-coefficient-ne0.sum ≡ c.loop-front.sum ++ (front.variable, coefficient) ∷ [] = w.sum-is ∙ rw to_z-of_z at w.in_ok-push.ensures.ok in
          let turn = turn-push c.loop-front.sum _ _ _ _ front coefficient next before.whole before.fits c.in-Some-coefficient.is some in
          record { whole = rw pushed turn.0; fits = rw pushed turn.1; left = next.left_canonical; right = next.right_canonical }
      | else-coefficient-ne0 w ↦
          let none : coefficient ≡ pos 0 = omega (arith, ints, w.if-coefficient-ne0.false) in
          record {
            whole = rw w.sum-is (turn-skip c.loop-front.sum _ _ _ _ front coefficient next before.whole c.in-Some-coefficient.is none);
            fits = rw w.sum-is before.fits;
            left = next.left_canonical;
            right = next.right_canonical;
          }
    ]

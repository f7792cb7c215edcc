use Rattle.std.proofs.Common.{◌≡◌, pos, arith, to_z, of_z, FitsSigned}
use Rattle.std.specs.Int.{w128}
use Rattle.std.proofs.lemmas.Int.{ints, to_z-of_z}
use Rattle.lin_proof.proofs.Cancelling.{IsLeast-of, NoneCancel-first, NoneCancel-second, opposite_signs, at_least_half}
use Rattle.lin_proof.proofs.multiples.least_multiples.Goals as goal

pub returns-in_default : goal.returns-in_default
returns-in_default c =
    let c_fits : FitsSigned w128 c.args.c = c.ranges.c in
    let e_fits : FitsSigned w128 c.args.e = c.ranges.e in
    let factors = c.lowest_factors-factors in
    let opposite = simp to_z-of_z at c.if-c-e.false in
    let lowest = simp (c.unsigned_abs.ensures.value, c.unsigned_abs-2.ensures.value, to_z-of_z) at factors.ensures in
    NoneCancel-first c.args.c c.args.e factors.result.0 factors.result.1 (opposite_signs c.args.c c.args.e opposite) lowest (at_least_half factors.result.0 c.in_default.ensures)

pub returns-in_default-try_from : goal.returns-in_default-try_from
returns-in_default-try_from c =
    let c_fits : FitsSigned w128 c.args.c = c.ranges.c in
    let e_fits : FitsSigned w128 c.args.e = c.ranges.e in
    let factors = c.lowest_factors-factors in
    let opposite = simp to_z-of_z at c.if-c-e.false in
    let lowest = simp (c.unsigned_abs.ensures.value, c.unsigned_abs-2.ensures.value, to_z-of_z) at factors.ensures in
    NoneCancel-second c.args.c c.args.e factors.result.0 factors.result.1 (opposite_signs c.args.c c.args.e opposite) lowest (at_least_half factors.result.1 c.in_default-try_from.ensures)

pub returns : goal.returns
returns c =
    let c_fits : FitsSigned w128 c.args.c = c.ranges.c in
    let e_fits : FitsSigned w128 c.args.e = c.ranges.e in
    let factors = c.lowest_factors-factors in
    let opposite = simp to_z-of_z at c.if-c-e.false in
    let lowest = simp (c.unsigned_abs.ensures.value, c.unsigned_abs-2.ensures.value, to_z-of_z) at factors.ensures in
    let first : to_z w128 (of_z w128 c.in-Ok.first) ≡ pos factors.result.0 = omega (arith, ints, c.in-Ok.ensures) in
    let second : to_z w128 (of_z w128 c.in-Ok-try_from.second) ≡ pos factors.result.1 = omega (arith, ints, c.in-Ok-try_from.ensures) in
    rw (first, second) (IsLeast-of c.args.c c.args.e factors.result.0 factors.result.1 (opposite_signs c.args.c c.args.e opposite) lowest)

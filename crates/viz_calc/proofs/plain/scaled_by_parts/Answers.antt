use Rattle.std.proofs.Common.{◌≡◌, ◌≤◌, ◌^◌, pos, ◌+ℤ◌, ◌*ℤ◌, unsigned_abs, ◌-◌, ◌+◌, arith, rules, ap, ◌∙◌}
use Rattle.std.specs.Int.{int_div_euclid}
use Rattle.std.specs.Prelude.{FitsSigned}
use Rattle.std.proofs.lemmas.Int.{ints, to_z-of_z, fits_signed_mul}
use mir.Syntax.{w128}
use Rattle.viz_calc.specs.Plain.{fitted}
use Rattle.viz_calc.proofs.PlainLemmas.{fitted_past}
use Rattle.viz_calc.proofs.Floors.{div-product, part_small, not_fits}
use Rattle.viz_calc.proofs.plain.scaled_by_parts.Goals as goal

pub returns-in-Some : goal.returns-in-Some
returns-in-Some c =
    let num : c.from-num.result ≡ c.args.num = search rules in
    let den : c.from-den.result ≡ pos c.args.den = search rules in
    let fa : FitsSigned w128 c.args.a = search rules in
    let fn : FitsSigned w128 c.from-num.result = search rules in
    let fd : FitsSigned w128 c.from-den.result = search rules in
    let fw : FitsSigned w128 c.div_euclid-whole.result = search rules in
    let fr : FitsSigned w128 c.rem_euclid.result = search rules in
    let fe : FitsSigned w128 c.div_euclid-rest.result = search rules in
    let small : unsigned_abs c.args.num ≤ 2 ^ 63 = omega (arith, ints) in
    let below : unsigned_abs c.rem_euclid.result ≤ 2 ^ 64 - 1 = omega (arith, ints) in
    let fm : FitsSigned w128 (c.from-num.result *ℤ c.rem_euclid.result) = fits_signed_mul w128 c.from-num.result c.rem_euclid.result (2 ^ 63) (2 ^ 64 - 1) (rw num small) below (omega arith) in
    let whole = simp to_z-of_z at c.div_euclid-whole.ensures in
    let rem = simp to_z-of_z at c.rem_euclid.ensures.value in
    let rest = simp to_z-of_z at c.div_euclid-rest.ensures in
    let product = simp to_z-of_z at c.checked_mul.ensures in
    let fp : FitsSigned w128 c.in-Some.product = search rules in
    let sum : c.sum.result ≡ fitted (c.in-Some.product +ℤ c.div_euclid-rest.result) = simp to_z-of_z at c.sum.ensures in
    let parts = div-product c.args.num c.args.a c.args.den c.requires in
    let made = (rw c.in-Some.is at product).1 in
    let total : c.in-Some.product +ℤ c.div_euclid-rest.result ≡ int_div_euclid (c.args.num *ℤ c.args.a) (pos c.args.den) = cc in
    sum ∙ ap fitted total

pub returns-in-None : goal.returns-in-None
returns-in-None c =
    let num : c.from-num.result ≡ c.args.num = search rules in
    let den : c.from-den.result ≡ pos c.args.den = search rules in
    let fa : FitsSigned w128 c.args.a = search rules in
    let fn : FitsSigned w128 c.from-num.result = search rules in
    let fd : FitsSigned w128 c.from-den.result = search rules in
    let fw : FitsSigned w128 c.div_euclid-whole.result = search rules in
    let fr : FitsSigned w128 c.rem_euclid.result = search rules in
    let fe : FitsSigned w128 c.div_euclid-rest.result = search rules in
    let small : unsigned_abs c.args.num ≤ 2 ^ 63 = omega (arith, ints) in
    let below : unsigned_abs c.rem_euclid.result ≤ 2 ^ 64 - 1 = omega (arith, ints) in
    let fm : FitsSigned w128 (c.from-num.result *ℤ c.rem_euclid.result) = fits_signed_mul w128 c.from-num.result c.rem_euclid.result (2 ^ 63) (2 ^ 64 - 1) (rw num small) below (omega arith) in
    let whole = simp to_z-of_z at c.div_euclid-whole.ensures in
    let rem = simp to_z-of_z at c.rem_euclid.ensures.value in
    let rest = simp to_z-of_z at c.div_euclid-rest.ensures in
    let product = simp to_z-of_z at c.checked_mul.ensures in
    let part = part_small c.args.num c.args.a c.args.den c.requires small in
    let parts = div-product c.args.num c.args.a c.args.den c.requires in
    let no_fit = rw c.in-None.is at product in
    let large : 2 ^ 127 ≤ unsigned_abs (c.args.num *ℤ int_div_euclid c.args.a (pos c.args.den)) = let same : c.from-num.result *ℤ c.div_euclid-whole.result ≡ c.args.num *ℤ int_div_euclid c.args.a (pos c.args.den) = cc in rw (← same) (not_fits _ no_fit) in
    let total : unsigned_abs (c.args.num *ℤ int_div_euclid c.args.a (pos c.args.den)) ≤ unsigned_abs (int_div_euclid (c.args.num *ℤ c.args.a) (pos c.args.den)) + 2 ^ 63 = omega (arith, ints) in
    fitted_past (int_div_euclid (c.args.num *ℤ c.args.a) (pos c.args.den)) (omega (arith, large, total))

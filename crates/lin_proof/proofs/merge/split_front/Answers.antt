use Rattle.std.proofs.Common.{rules, ◌∙◌, ap, sym, arith, FitsSigned, to_z-of_z, ◌+ℤ◌, ◌*ℤ◌}
use Rattle.std.proofs.Math.IntN.{+ℤ_idl}
use Rattle.std.specs.Int.{w128}
use Rattle.lin_proof.specs.steps.Front.{checked}
use Rattle.lin_proof.proofs.Sums.{front_less, front_alone, front_greater, front_other, front_equal, canonical_rest, checked_fitting}
use Rattle.lin_proof.proofs.merge.split_front.Goals as goal

pub returns-in-Some-None : goal.returns-in-Some-None
returns-in-Some-None c =
    let term = c.in-Some-None.term.now in
    let rest = c.in-Some-None.rest.now in
    let left = c.in-Some-None.ensures.cases in
    let fits : FitsSigned w128 term.1 = search rules in
    record {
      exact = term.1;
      coefficient = rw to_z-of_z (sym (checked_fitting term.1 fits));
      sum = front_alone c.args.left.now c.args.times c.args.right.now term rest left.0 c.in-Some-None.ensures'.cases c.requires.left;
      left_canonical = canonical_rest c.args.left.now term rest left.0 c.requires.left;
      right_canonical = c.requires.right;
      shorter = omega (arith, left.1);
    }

pub returns-in-None-Some : goal.returns-in-None-Some
returns-in-None-Some c =
    let other = c.in-None-Some.other.now in
    let rest = c.in-None-Some.rest.now in
    let right = c.in-None-Some.ensures'.cases in
    let fits_times : FitsSigned w128 c.args.times = c.ranges.times in
    let fits : FitsSigned w128 other.1 = search rules in
    let product = simp to_z-of_z at c.add_product.ensures in
    record {
      exact = c.args.times *ℤ other.1;
      coefficient = product ∙ ap checked (+ℤ_idl (c.args.times *ℤ other.1));
      sum = front_other c.args.left.now c.args.times c.args.right.now other rest c.in-None-Some.ensures.cases right.0 c.requires.right;
      left_canonical = c.requires.left;
      right_canonical = canonical_rest c.args.right.now other rest right.0 c.requires.right;
      shorter = omega (arith, right.1);
    }

pub returns-in-Less : goal.returns-in-Less
returns-in-Less c =
    let term = c.in-Some-Some.term.now in
    let rest = c.in-Some-Some.left_rest.now in
    let left = c.in-Some-Some.ensures.cases in
    let right = c.in-Some-Some.ensures'.cases in
    let fits : FitsSigned w128 term.1 = search rules in
    record {
      exact = term.1;
      coefficient = rw to_z-of_z (sym (checked_fitting term.1 fits));
      sum = front_less c.args.left.now c.args.times c.args.right.now term c.in-Some-Some.other.now rest c.in-Some-Some.right_rest.now left.0 right.0 c.requires.left c.requires.right (search rules);
      left_canonical = canonical_rest c.args.left.now term rest left.0 c.requires.left;
      right_canonical = c.requires.right;
      shorter = omega (arith, left.1);
    }

pub returns-in-Greater : goal.returns-in-Greater
returns-in-Greater c =
    let other = c.in-Some-Some.other.now in
    let rest = c.in-Some-Some.right_rest.now in
    let left = c.in-Some-Some.ensures.cases in
    let right = c.in-Some-Some.ensures'.cases in
    let fits_times : FitsSigned w128 c.args.times = c.ranges.times in
    let fits : FitsSigned w128 other.1 = search rules in
    let product = simp to_z-of_z at c.add_product-in-Greater.ensures in
    record {
      exact = c.args.times *ℤ other.1;
      coefficient = product ∙ ap checked (+ℤ_idl (c.args.times *ℤ other.1));
      sum = front_greater c.args.left.now c.args.times c.args.right.now c.in-Some-Some.term.now other c.in-Some-Some.left_rest.now rest left.0 right.0 c.requires.left c.requires.right (search rules);
      left_canonical = c.requires.left;
      right_canonical = canonical_rest c.args.right.now other rest right.0 c.requires.right;
      shorter = omega (arith, right.1);
    }

pub returns-in-Equal : goal.returns-in-Equal
returns-in-Equal c =
    let term = c.in-Some-Some.term.now in
    let other = c.in-Some-Some.other.now in
    let left = c.in-Some-Some.ensures.cases in
    let right = c.in-Some-Some.ensures'.cases in
    let fits_times : FitsSigned w128 c.args.times = c.ranges.times in
    let fits_term : FitsSigned w128 term.1 = search rules in
    let fits : FitsSigned w128 other.1 = search rules in
    let product = simp to_z-of_z at c.add_product-in-Equal.ensures in
    record {
      exact = term.1 +ℤ c.args.times *ℤ other.1;
      coefficient = product;
      sum = front_equal c.args.left.now c.args.times c.args.right.now term other c.in-Some-Some.left_rest.now c.in-Some-Some.right_rest.now left.0 right.0 c.requires.left c.requires.right (search rules);
      left_canonical = canonical_rest c.args.left.now term c.in-Some-Some.left_rest.now left.0 c.requires.left;
      right_canonical = canonical_rest c.args.right.now other c.in-Some-Some.right_rest.now right.0 c.requires.right;
      shorter = omega (arith, left.1, right.1);
    }

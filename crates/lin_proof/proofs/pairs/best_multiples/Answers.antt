use Rattle.std.proofs.Common.{rules, FitsSigned}
use Rattle.std.specs.Int.{w128}
use Rattle.std.proofs.lemmas.Int.{to_z-of_z}
use Rattle.lin_proof.proofs.ClosingSums.{first_empty, second_empty, apart, told}
use Rattle.lin_proof.proofs.pairs.best_multiples.Goals as goal

pub returns-in_default : goal.returns-in_default
returns-in_default c =
    let f = c.first_term-left.ensures in
    let g = c.first_term-right.ensures in
    first_empty c.args.f.now c.args.g.now f.canonical g.canonical c.requires.first c.requires.second c.in_default.ensures.first

pub returns-in_default-right : goal.returns-in_default-right
returns-in_default-right c =
    let f = c.first_term-left.ensures in
    let g = c.first_term-right.ensures in
    second_empty c.args.f.now c.args.g.now f.canonical g.canonical c.requires.first c.requires.second c.in_default-right.ensures.first

pub returns-else-variable-other : goal.returns-else-variable-other
returns-else-variable-other c =
    let f = c.first_term-left.ensures in
    let g = c.first_term-right.ensures in
    let left = c.in-Some.ensures.first in
    let right = c.in-Some-right.ensures.first in
    apart c.args.f.now c.args.g.now f.canonical g.canonical c.requires.first c.requires.second (c.in-Some.variable, c.in-Some.c) (c.in-Some-right.other, c.in-Some-right.e) left.0 right.0 left.1 right.1 (c.if-variable-other.false)

pub returns-then-variable-other : goal.returns-then-variable-other
returns-then-variable-other c =
    let f = c.first_term-left.ensures in
    let g = c.first_term-right.ensures in
    let left = c.in-Some.ensures.first in
    let right = c.in-Some-right.ensures.first in
    let c_fits : FitsSigned w128 c.in-Some.c = search rules in
    let e_fits : FitsSigned w128 c.in-Some-right.e = search rules in
    let least = simp to_z-of_z at c.least_multiples.ensures in
    told c.args.f.now c.args.g.now f.canonical g.canonical c.requires.first c.requires.second (c.in-Some.variable, c.in-Some.c) (c.in-Some-right.other, c.in-Some-right.e) left.0 right.0 left.1 right.1 c.least_multiples.result c.if-variable-other.true least

use Rattle.std.proofs.Common.{◌≡◌, suc, ◌+◌, ◌-◌, Some, None, arith, sym, ap, ◌∙◌}
use Rattle.layout_semantics.specs.DefiniteHeights.{container_to, percentage_container}
use Rattle.lay_tree.proofs.Definite.{definite-none, definite-step}
use Rattle.lay_tree.proofs.heights.+is_definite.Goals as goal

pub returns-then-levels-eq0 : goal.returns-then-levels-eq0
returns-then-levels-eq0 t c = sym (definite-none c.args.levels c.args.tree.now c.args.at c.if-levels-eq0.true)

pub returns-in-Auto : goal.returns-in-Auto
returns-in-Auto t c =
    let up : c.args.levels ≡ suc (c.args.levels - 1) = omega arith in
    let one : c.from.result + 1 ≡ suc c.args.at = grind arith in
    let outer : percentage_container c.args.tree.now c.args.at ≡ Some c.in-Some.outer = sym (ap (λ n. container_to n c.args.tree.now c.args.at) one) ∙ grind arith in
    let is = definite-step c.args.levels (c.args.levels - 1) c.args.tree.now c.args.at (Some c.in-Some.outer) up outer in
    grind arith

pub returns-in-Pct : goal.returns-in-Pct
returns-in-Pct t c =
    let up : c.args.levels ≡ suc (c.args.levels - 1) = omega arith in
    let one : c.from.result + 1 ≡ suc c.args.at = grind arith in
    let outer : percentage_container c.args.tree.now c.args.at ≡ Some c.in-Some.outer = sym (ap (λ n. container_to n c.args.tree.now c.args.at) one) ∙ grind arith in
    let is = definite-step c.args.levels (c.args.levels - 1) c.args.tree.now c.args.at (Some c.in-Some.outer) up outer in
    grind arith

pub returns-in-Px : goal.returns-in-Px
returns-in-Px t c =
    let up : c.args.levels ≡ suc (c.args.levels - 1) = omega arith in
    let one : c.from.result + 1 ≡ suc c.args.at = grind arith in
    let outer : percentage_container c.args.tree.now c.args.at ≡ Some c.in-Some.outer = sym (ap (λ n. container_to n c.args.tree.now c.args.at) one) ∙ grind arith in
    let is = definite-step c.args.levels (c.args.levels - 1) c.args.tree.now c.args.at (Some c.in-Some.outer) up outer in
    grind arith

pub returns-in-None : goal.returns-in-None
returns-in-None t c =
    let up : c.args.levels ≡ suc (c.args.levels - 1) = omega arith in
    let one : c.from.result + 1 ≡ suc c.args.at = grind arith in
    let outer : percentage_container c.args.tree.now c.args.at ≡ None = sym (ap (λ n. container_to n c.args.tree.now c.args.at) one) ∙ grind arith in
    let is = definite-step c.args.levels (c.args.levels - 1) c.args.tree.now c.args.at None up outer in
    grind arith

use Rattle.std.proofs.Common.{◌≡◌, suc, ◌-◌, Some, None, true, false, arith, sym}
use Rattle.layout_semantics.specs.Blocks.{kind_of, parent_of}
use Rattle.layout_semantics.specs.DefiniteHeights.{is_passed_over}
use Rattle.lay_tree.proofs.Containers.{container-none, container-root, container-past, container-here}
use Rattle.lay_tree.proofs.heights.+container.Goals as goal

pub returns-then-levels-eq0 : goal.returns-then-levels-eq0
returns-then-levels-eq0 t c = sym (container-none c.args.levels c.args.tree.now c.args.at c.if-levels-eq0.true)

pub returns-in_err-outer : goal.returns-in_err-outer
returns-in_err-outer t c =
    let up : c.args.levels ≡ suc (c.args.levels - 1) = omega arith in
    let none : parent_of c.args.tree.now.boxes c.args.at ≡ None = grind arith in
    let is = container-root c.args.levels (c.args.levels - 1) c.args.tree.now c.args.at up none in
    grind arith

pub returns-then-is_passed_over : goal.returns-then-is_passed_over
returns-then-is_passed_over t c =
    let up : c.args.levels ≡ suc (c.args.levels - 1) = omega arith in
    let some : parent_of c.args.tree.now.boxes c.args.at ≡ Some c.in_ok-outer.outer = grind arith in
    let past : is_passed_over (kind_of c.args.tree.now c.in_ok-outer.outer) ≡ true = grind arith in
    let is = container-past c.args.levels (c.args.levels - 1) c.args.tree.now c.args.at c.in_ok-outer.outer up some past in
    grind arith

pub returns-else-is_passed_over : goal.returns-else-is_passed_over
returns-else-is_passed_over t c =
    let up : c.args.levels ≡ suc (c.args.levels - 1) = omega arith in
    let some : parent_of c.args.tree.now.boxes c.args.at ≡ Some c.in_ok-outer.outer = grind arith in
    let here : is_passed_over (kind_of c.args.tree.now c.in_ok-outer.outer) ≡ false = grind arith in
    sym (container-here c.args.levels (c.args.levels - 1) c.args.tree.now c.args.at c.in_ok-outer.outer up some here)

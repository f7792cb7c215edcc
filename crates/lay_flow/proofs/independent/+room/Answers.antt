use Rattle.std.proofs.Common.{◌≡◌, ℤ, suc, ◌-◌, false, Some, None, sym, subst, arith}
use Rattle.viz_base.specs.Trees.{is_inline}
use Rattle.viz_calc.specs.World.{Reading}
use Rattle.layout_semantics.specs.Blocks.{kind_of, parent_of}
use Rattle.lay_flow.specs.IndependentFits.{RoomFits}
use Rattle.lay_flow.specs.Fits.{IsShapeFit}
use Rattle.lay_flow.proofs.Givens.{first, first_at, more}
use Rattle.lay_flow.proofs.Rooms.{room-top, room-independent, room-inside}
use Rattle.lay_preferred.proofs.Founds.{found-later}
use Rattle.lay_flow.proofs.independent.+room.Goals as goal

pub returns-then-levels-eq0-clause-found : goal.returns-then-levels-eq0-clause-found
returns-then-levels-eq0-clause-found g t c = found-later g.S.Steady.at c.args.tree.now (g.S.Steady.run c.args.calc.now) (g.S.Steady.run c.width.new.self) _ c.width.ensures.goes c.requires

pub returns-in-None-clause-found : goal.returns-in-None-clause-found
returns-in-None-clause-found g t c =
    found-later g.S.Steady.at c.args.tree.now (g.S.Steady.run c.args.calc.now) (g.S.Steady.run c.width-in-None.new.self) _ c.width-in-None.ensures.goes c.requires

pub returns-then-levels-eq0-clause-cause : goal.returns-then-levels-eq0-clause-cause
returns-then-levels-eq0-clause-cause g t c =
    let tree = c.args.tree.now in
    let asks = (λ (e : Reading). RoomFits tree e.world c.args.levels c.args.b) in
    let none : c.args.levels ≡ 0 = grind arith in
    (first_at {tree = tree} {asks = asks} c.width.ensures.goes c.width.ensures.cause (λ a e o. room-top tree e.world c.args.levels c.args.b none (a e o))).cause

pub returns-in-None-clause-cause : goal.returns-in-None-clause-cause
returns-in-None-clause-cause g t c =
    let tree = c.args.tree.now in
    let asks = (λ (e : Reading). RoomFits tree e.world c.args.levels c.args.b) in
    let none : parent_of tree.boxes c.args.b ≡ None = grind arith in
    (first_at {tree = tree} {asks = asks} c.width-in-None.ensures.goes c.width-in-None.ensures.cause (λ a e o. room-independent tree e.world c.args.levels c.args.b none (a e o))).cause

pub returns-then-matches-clause-cause : goal.returns-then-matches-clause-cause
returns-then-matches-clause-cause g t c =
    let tree = c.args.tree.now in
    let parent = c.in-Some.parent in
    let asks = (λ (e : Reading). RoomFits tree e.world c.args.levels c.args.b) in
    let some : parent_of tree.boxes c.args.b ≡ Some parent = grind arith in
    let level : c.args.levels ≡ suc (c.args.levels - 1) = grind arith in
    (first {tree = tree} {asks = asks} c.room-around.ensures.goes c.room-around.ensures.cause (λ a. (
      a.0,
      λ e o.
          (room-inside tree e.world c.args.levels (c.args.levels - 1) c.args.b parent level some (a.1 e o)).0,
    ))).cause

pub returns-else-matches-clause-cause : goal.returns-else-matches-clause-cause
returns-else-matches-clause-cause g t c =
    let at = g.S.Steady.at in
    let tree = c.args.tree.now in
    let parent = c.in-Some.parent in
    let asks = (λ (e : Reading). RoomFits tree e.world c.args.levels c.args.b) in
    let some : parent_of tree.boxes c.args.b ≡ Some parent = grind arith in
    let level : c.args.levels ≡ suc (c.args.levels - 1) = grind arith in
    let block : is_inline (kind_of tree parent) ≡ false = grind arith in
    let around = c.room-around.ensures in
    let up = (λ (e : Reading) (f : asks e). room-inside tree e.world c.args.levels (c.args.levels - 1) c.args.b parent level some f) in
    let one = first {tree = tree} {asks = asks} around.goes around.cause (λ a. (a.0, λ e o. (up e (a.1 e o)).0)) in
    (more one c.widths.ensures.goes c.widths.ensures.cause (λ a. (
      a.0,
      λ e o.
          subst (λ (z : ℤ). IsShapeFit tree e.world parent z) (sym (around.value e o)) ((up e (a.1 e o)).1 block),
    ))).cause

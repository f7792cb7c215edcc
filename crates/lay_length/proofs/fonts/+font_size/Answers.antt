use Rattle.std.proofs.Common.{arith}
use Rattle.std.proofs.lemmas.Grind.{common_steps}
use Rattle.viz_calc.specs.World.{Reading}
use Rattle.lay_length.proofs.SizeWays.{size-known, way-known}
use Rattle.lay_length.proofs.fonts.+font_size.Goals as goal

pub returns-in-Px-default : goal.returns-in-Px-default
returns-in-Px-default g t c = record {
  goes = grind (arith, common_steps);
  value = λ e o. let is = size-known c.args.tree.now e.world c.args.node c.own_size.result c.parent_node.result c.own_size.ensures.value c.parent_node.ensures in grind arith;
  cause = grind (arith, common_steps);
}

pub returns-in-Default-default : goal.returns-in-Default-default
returns-in-Default-default g t c = record {
  goes = grind (arith, common_steps);
  value = λ e o. let is = size-known c.args.tree.now e.world c.args.node c.own_size.result c.parent_node.result c.own_size.ensures.value c.parent_node.ensures in grind arith;
  cause = record {
    mem = grind arith;
    coeff = λ f.
        let way = (λ (e : Reading). way-known c.args.tree.now e.world c.args.node c.parent_node.result c.parent_node.ensures) in
        let is = (λ (e : Reading). size-known c.args.tree.now e.world c.args.node c.own_size.result c.parent_node.result c.own_size.ensures.value c.parent_node.ensures) in
        grind arith;
    opens = grind arith;
  };
}

pub returns-in-Parent-None : goal.returns-in-Parent-None
returns-in-Parent-None g t c = record {
  goes = grind (arith, common_steps);
  value = λ e o. let is = size-known c.args.tree.now e.world c.args.node c.own_size.result c.parent_node.result c.own_size.ensures.value c.parent_node.ensures in grind arith;
  cause = record {
    mem = grind arith;
    coeff = λ f.
        let way = (λ (e : Reading). way-known c.args.tree.now e.world c.args.node c.parent_node.result c.parent_node.ensures) in
        let is = (λ (e : Reading). size-known c.args.tree.now e.world c.args.node c.own_size.result c.parent_node.result c.own_size.ensures.value c.parent_node.ensures) in
        grind arith;
    opens = grind arith;
  };
}

pub returns-in-Parent-Some : goal.returns-in-Parent-Some
returns-in-Parent-Some g t c = record {
  goes = grind (arith, common_steps);
  value = λ e o. let is = size-known c.args.tree.now e.world c.args.node c.own_size.result c.parent_node.result c.own_size.ensures.value c.parent_node.ensures in grind arith;
  cause = record {
    mem = grind arith;
    coeff = λ f.
        let way = (λ (e : Reading). way-known c.args.tree.now e.world c.args.node c.parent_node.result c.parent_node.ensures) in
        let is = (λ (e : Reading). size-known c.args.tree.now e.world c.args.node c.own_size.result c.parent_node.result c.own_size.ensures.value c.parent_node.ensures) in
        grind arith;
    opens = grind arith;
  };
}

pub returns-in-Same-None : goal.returns-in-Same-None
returns-in-Same-None g t c = record {
  goes = grind (arith, common_steps);
  value = λ e o. let is = size-known c.args.tree.now e.world c.args.node c.own_size.result c.parent_node.result c.own_size.ensures.value c.parent_node.ensures in grind arith;
  cause = record {
    mem = grind arith;
    coeff = λ f.
        let way = (λ (e : Reading). way-known c.args.tree.now e.world c.args.node c.parent_node.result c.parent_node.ensures) in
        let is = (λ (e : Reading). size-known c.args.tree.now e.world c.args.node c.own_size.result c.parent_node.result c.own_size.ensures.value c.parent_node.ensures) in
        grind arith;
    opens = grind arith;
  };
}

pub returns-in-Same-Some : goal.returns-in-Same-Some
returns-in-Same-Some g t c = record {
  goes = grind (arith, common_steps);
  value = λ e o. let is = size-known c.args.tree.now e.world c.args.node c.own_size.result c.parent_node.result c.own_size.ensures.value c.parent_node.ensures in grind arith;
  cause = record {
    mem = grind arith;
    coeff = λ f.
        let way = (λ (e : Reading). way-known c.args.tree.now e.world c.args.node c.parent_node.result c.parent_node.ensures) in
        let is = (λ (e : Reading). size-known c.args.tree.now e.world c.args.node c.own_size.result c.parent_node.result c.own_size.ensures.value c.parent_node.ensures) in
        grind arith;
    opens = grind arith;
  };
}

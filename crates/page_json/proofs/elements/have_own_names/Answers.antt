use Rattle.std.proofs.Common.{true, sym, ap, ◌∙◌, take, cond}
use Rattle.std.specs.Prelude.{bytes_eq}
use Rattle.std.specs.List.{list_any}
use Rattle.page_json.specs.Elements.{has_name}
use Rattle.page_json.proofs.NameLemmas.{own_step, own_fails, among_step, was_there, was_new}
use Rattle.page_json.proofs.elements.have_own_names.Goals as goal

pub returns-then-not-branch : goal.returns-then-not-branch
returns-then-not-branch c = own_fails c.args.attrs.now c.loop-attr.attr-index c.attr-item.result c.loop-attr-test.true c.attr-item.is
    (ap (λ name. list_any (has_name name) (take c.loop-attr.attr-index c.args.attrs.now)) (sym c.as_str.ensures)
    ∙ was_there c.in_ok-insert.field-0 _ _ c.in_ok-insert.ensures.added c.if-not-branch.true (c.loop-attr.invariant.names c.as_str.result))

pub loop-attr-preserved : goal.loop-attr-preserved
loop-attr-preserved c = record {
  own = own_step c.args.attrs.now c.loop-attr.attr-index c.attr-item.result c.loop-attr-test.true c.attr-item.is c.loop-attr.invariant.own
      (ap (λ name. list_any (has_name name) (take c.loop-attr.attr-index c.args.attrs.now)) (sym c.as_str.ensures)
      ∙ was_new c.in_ok-insert.field-0 _ _ c.in_ok-insert.ensures.added c.if-not-branch.false (c.loop-attr.invariant.names c.as_str.result));
  names = λ q. c.in_ok-insert.ensures.updates.0 q
      ∙ ap (λ b. cond (bytes_eq c.as_str.result.now q.now) true b) (c.loop-attr.invariant.names q)
      ∙ among_step c.args.attrs.now c.loop-attr.attr-index c.attr-item.result c.as_str.result.now q.now c.loop-attr-test.true c.attr-item.is c.as_str.ensures;
}

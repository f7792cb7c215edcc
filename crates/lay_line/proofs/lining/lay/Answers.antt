use Rattle.std.proofs.Common.{◌≡◌, ◌-◌, ◌+◌, ◌++◌, suc, List, [], length, sym, subst, ap, ◌∙◌, append-nil, arith, rules}
use Rattle.viz_calc.specs.World.{Reading}
use Rattle.layout_semantics.specs.Lines.{SoFar as SoFarOf}
use Rattle.lay_line.specs.Contexts.{context_at}
use Rattle.lay_line.specs.LinesFit.{RestFits}
use Rattle.lay_line.specs.Lining.{so_far_at}
use Rattle.lay_line.specs.Readings.{entries_at, parts_at, pieces_at}
use Rattle.lay_line.specs.steps.Leaping.{AreWide}
use Rattle.lay_line.specs.steps.Lining.{joined_parts, next_in}
use Rattle.lay_line.specs.steps.Measured.{Measured}
use Rattle.lay_line.proofs.Chains.{ChainButMem, next_but_mem}
use Rattle.lay_line.proofs.Filling.{pieces_joined}
use Rattle.lay_line.proofs.Growing.{rest_fits}
use Rattle.lay_line.proofs.AtOnce.{wide_back}
use Rattle.lay_line.proofs.LeftWide.{next_wide}
use Rattle.lay_line.proofs.LoadSteps.{parts-same}
use Rattle.lay_line.proofs.NextLines.{joined-read, shorter-read, after-next, added-next, after-none, added-none, after-all, added-all}
use Rattle.lay_line.proofs.lining.lay.Goals as goal

pub loop-line-init : goal.loop-line-init
loop-line-init g c = record {
  goes = search rules;
  after = search rules;
  added = search rules;
  fits = search rules;
  wide = c.requires;
  cause = search rules;
}

pub next_line-next-requires : goal.next_line-next-requires
next_line-next-requires g c = record {
  parts = c.in-Some.ensures.1 ∙ c.in-Some.ensures.0.joined;
  wide = λ e o. subst (λ l. AreWide (pieces_at g.S.Steady.at l e)) (sym c.in-Some.ensures.1) (c.loop-line.invariant.wide e o);
}

pub loop-line-preserved : goal.loop-line-preserved
loop-line-preserved g c =
    let at = g.S.Steady.at in
    let cut = c.in-Some.cut in
    let count = length c.args.segments.pieces.now in
    let line = c.loop-line.line in
    let one : count - line ≡ suc (count - (line + 1)) = omega (arith, c.loop-line-test.true) in
    let run = g.S.Steady.run in
    let ctx = (λ (e : Reading). context_at at c.args.frame.now.container.now e) in
    let tall = (λ (e : Reading). at c.args.frame.now.tall e) in
    let asks = (λ (e : Reading). RestFits (ctx e) (tall e) (so_far_at at c.args.start e) (pieces_at at c.args.segments.pieces.now e)) in
    let cut_is = c.in-Some.ensures.1 in
    let so_far : ChainButMem (run c.args.calc.now) (run c.loop-line.calc) asks = record { goes = c.loop-line.invariant.goes; cause = c.loop-line.invariant.cause } in
    let then = next_but_mem so_far c.next_line-next.ensures.goes c.next_line-next.ensures.cause (λ f e o.
    subst (λ l. RestFits (ctx e) (tall e) (so_far_at at c.loop-line.now e) (pieces_at at l e)) (sym cut_is) (c.loop-line.invariant.fits e o (f e o))) in
    record {
      goes = then.goes;
      cause = then.cause;
      fits = λ e o r.
          let o1 = c.next_line-next.ensures.goes.closes e o in
          let first = pieces_at at cut.first.now e in
          let rest = parts_at at cut.rest e in
          let joined = c.in-Some.ensures.0.joined in
          let all = pieces_joined at e c.loop-line.rest.pieces.now cut.first.now cut.rest.pieces.now joined ∙ ap (λ l. first ++ l) (sym (joined-read at e cut.rest)) in
          let fits = subst (λ (l : List Measured). RestFits (ctx e) (tall e) (so_far_at at c.loop-line.now e) l) all (c.loop-line.invariant.fits e o1 r) in
          let fewer = shorter-read at e c.loop-line.rest.pieces.now cut.first.now cut.rest joined c.in-Some.ensures.0.shorter in
          subst (λ (l : List Measured). RestFits (ctx e) (tall e) (so_far_at at c.next_line-next.result.now e) l) (joined-read at e c.next_line-next.result.rest)
          (subst (λ (l : List (List Measured)). RestFits (ctx e) (tall e) (so_far_at at c.next_line-next.result.now e) (joined_parts l)) (sym (c.next_line-next.ensures.rest e o))
          (subst (λ (x : SoFarOf). RestFits (ctx e) (tall e) x (joined_parts (next_in (ctx e) (tall e) (so_far_at at c.loop-line.now e) first rest).1)) (sym (c.next_line-next.ensures.after e o))
          (rest_fits (ctx e) (tall e) (so_far_at at c.loop-line.now e) first rest fits fewer)));
      wide = λ e o.
          let o1 = c.next_line-next.ensures.goes.closes e o in
          let joined = c.in-Some.ensures.0.joined in
          let behind = wide_back (pieces_at at cut.first.now e) (pieces_at at cut.rest.pieces.now e) (subst AreWide (pieces_joined at e c.loop-line.rest.pieces.now cut.first.now cut.rest.pieces.now joined) (c.loop-line.invariant.wide e o1)) in
          subst AreWide (joined-read at e c.next_line-next.result.rest)
          (subst (λ l. AreWide (joined_parts l)) (sym (c.next_line-next.ensures.rest e o))
          (next_wide (ctx e) (tall e) (so_far_at at c.loop-line.now e) (pieces_at at cut.first.now e) (parts_at at cut.rest e) (subst AreWide (sym (joined-read at e cut.rest)) behind)));
      after = λ e o.
          after-next (context_at at c.args.frame.now.container.now e) (at c.args.frame.now.tall e) (so_far_at at c.loop-line.now e) (count - (line + 1)) (count - line)
          (pieces_at at cut.first.now e) (parts_at at cut.rest e) (parts_at at c.loop-line.rest e) (so_far_at at c.next_line-next.result.now e) (parts_at at c.next_line-next.result.rest e)
          one (parts-same at e c.loop-line.rest _ c.in-Some.ensures.0.parts) (c.next_line-next.ensures.after e o) (c.next_line-next.ensures.rest e o)
          ∙ c.loop-line.invariant.after e (c.next_line-next.ensures.goes.closes e o);
      added = λ e o.
          added-next (context_at at c.args.frame.now.container.now e) (at c.args.frame.now.tall e) (so_far_at at c.loop-line.now e) (count - (line + 1)) (count - line)
          (pieces_at at cut.first.now e) (parts_at at cut.rest e) (parts_at at c.loop-line.rest e) (so_far_at at c.next_line-next.result.now e) (parts_at at c.next_line-next.result.rest e)
          (entries_at at c.loop-line.entries e) (entries_at at c.next_line-next.new.entries e)
          one (parts-same at e c.loop-line.rest _ c.in-Some.ensures.0.parts) (c.next_line-next.ensures.after e o) (c.next_line-next.ensures.rest e o) (c.next_line-next.ensures.added e o)
          ∙ c.loop-line.invariant.added e (c.next_line-next.ensures.goes.closes e o);
    }

pub returns-in-None-clause-after : goal.returns-in-None-clause-after
returns-in-None-clause-after g c = λ e o.
    let at = g.S.Steady.at in
    sym (after-none (context_at at c.args.frame.now.container.now e) (at c.args.frame.now.tall e) (so_far_at at c.loop-line.now e) (length c.args.segments.pieces.now - c.loop-line.line) (parts_at at c.loop-line.rest e)
    (parts-same at e c.loop-line.rest [] c.in-None.ensures))
    ∙ c.loop-line.invariant.after e o

pub returns-in-None-clause-added : goal.returns-in-None-clause-added
returns-in-None-clause-added g c = λ e o.
    let at = g.S.Steady.at in
    sym (append-nil (entries_at at c.loop-line.entries e))
    ∙ ap (λ l. entries_at at c.loop-line.entries e ++ l) (sym (added-none (context_at at c.args.frame.now.container.now e) (at c.args.frame.now.tall e) (so_far_at at c.loop-line.now e)
    (length c.args.segments.pieces.now - c.loop-line.line) (parts_at at c.loop-line.rest e) (parts-same at e c.loop-line.rest [] c.in-None.ensures)))
    ∙ c.loop-line.invariant.added e o

pub returns-clause-after : goal.returns-clause-after
returns-clause-after g c = λ e o.
    let at = g.S.Steady.at in
    let none : length c.args.segments.pieces.now - c.loop-line.line ≡ 0 = omega (arith, c.loop-line-test.false) in
    sym (after-all (context_at at c.args.frame.now.container.now e) (at c.args.frame.now.tall e) (so_far_at at c.loop-line.now e) (length c.args.segments.pieces.now - c.loop-line.line) (parts_at at c.loop-line.rest e) none)
    ∙ c.loop-line.invariant.after e o

pub returns-clause-added : goal.returns-clause-added
returns-clause-added g c = λ e o.
    let at = g.S.Steady.at in
    let none : length c.args.segments.pieces.now - c.loop-line.line ≡ 0 = omega (arith, c.loop-line-test.false) in
    sym (append-nil (entries_at at c.loop-line.entries e))
    ∙ ap (λ l. entries_at at c.loop-line.entries e ++ l) (sym (added-all (context_at at c.args.frame.now.container.now e) (at c.args.frame.now.tall e) (so_far_at at c.loop-line.now e)
    (length c.args.segments.pieces.now - c.loop-line.line) (parts_at at c.loop-line.rest e) none))
    ∙ c.loop-line.invariant.added e o

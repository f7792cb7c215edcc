use Rattle.std.proofs.Common.{◌++◌, ap, ◌∙◌}
use Rattle.layout_semantics.specs.Lines.{LaidLines}
use Rattle.lay_line.specs.Contexts.{context_at}
use Rattle.lay_line.specs.Lining.{begun_at}
use Rattle.lay_line.specs.Readings.{entries_at, load_at, pieces_at, slot_at}
use Rattle.lay_line.proofs.LineEnds.{ended-full, ended-empty}
use Rattle.lay_line.proofs.endings.end_line.Goals as goal

pub returns-then-line-clause-after : goal.returns-then-line-clause-after
returns-then-line-clause-after g c = λ e o floats len.
    let at = g.S.Steady.at in
    c.end_full.ensures.after e o floats len
    ∙ ap (λ (l : LaidLines). l.after) (ended-full (context_at at c.args.container.now e) (begun_at at c.args.begun floats e) (slot_at at c.args.line.slot e) (load_at at c.args.line.load e) (pieces_at at c.args.line.pieces.now e) c.if-line.true)

pub returns-then-line-clause-added : goal.returns-then-line-clause-added
returns-then-line-clause-added g c = λ e o floats len.
    let at = g.S.Steady.at in
    c.end_full.ensures.added e o floats len
    ∙ ap (λ (l : LaidLines). entries_at at c.args.entries.now e ++ l.entries) (ended-full (context_at at c.args.container.now e) (begun_at at c.args.begun floats e) (slot_at at c.args.line.slot e) (load_at at c.args.line.load e) (pieces_at at c.args.line.pieces.now e) c.if-line.true)

pub returns-else-line-clause-after : goal.returns-else-line-clause-after
returns-else-line-clause-after g c = λ e o floats len.
    let at = g.S.Steady.at in
    c.end_empty.ensures.after e o floats len
    ∙ ap (λ (l : LaidLines). l.after) (ended-empty (context_at at c.args.container.now e) (begun_at at c.args.begun floats e) (slot_at at c.args.line.slot e) (load_at at c.args.line.load e) (pieces_at at c.args.line.pieces.now e) c.if-line.false)

pub returns-else-line-clause-added : goal.returns-else-line-clause-added
returns-else-line-clause-added g c = λ e o floats len.
    let at = g.S.Steady.at in
    c.end_empty.ensures.added e o floats len
    ∙ ap (λ (l : LaidLines). entries_at at c.args.entries.now e ++ l.entries) (ended-empty (context_at at c.args.container.now e) (begun_at at c.args.begun floats e) (slot_at at c.args.line.slot e) (load_at at c.args.line.load e) (pieces_at at c.args.line.pieces.now e) c.if-line.false)

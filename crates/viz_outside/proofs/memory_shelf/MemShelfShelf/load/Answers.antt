use Rattle.std.proofs.Common.{refl, arith}
use Rattle.viz_outside.specs.MemoryShelf.{ShelfState}
use Rattle.viz_outside.proofs.CallLemmas.{sure_gives, not_failed, not_counted, stays_sure}
use Rattle.viz_outside.proofs.memory_shelf.MemShelfShelf.load.Goals as goal

pub returns-clause-sure_loads : goal.returns-clause-sure_loads
returns-clause-sure_loads c =
    let s : ShelfState = record { files = c.self.inside.files; fails = c.self.inside.fails; calls = c.self.inside.calls; faults = c.self.inside.faults } in
    rw (← c.self.view_is) (λ sure. not_failed _ _ (sure_gives s c.args.name.now c.args.cap sure) (rw c.as_slice.ensures at c.call-answer.ensures))

pub returns-clause-sure_counts : goal.returns-clause-sure_counts
returns-clause-sure_counts c =
    let s : ShelfState = record { files = c.self.inside.files; fails = c.self.inside.fails; calls = c.self.inside.calls; faults = c.self.inside.faults } in
    rw (← c.self.view_is, c.counted-self-inside.ensures) (λ sure. not_counted _ _ _ (sure_gives s c.args.name.now c.args.cap sure) (rw c.as_slice.ensures at c.call-answer.ensures))

pub returns-clause-stays_sure : goal.returns-clause-stays_sure
returns-clause-stays_sure c =
    let s : ShelfState = record { files = c.self.inside.files; fails = c.self.inside.fails; calls = c.self.inside.calls; faults = c.self.inside.faults } in
    let t : ShelfState = record { files = c.self.inside.files; fails = c.self.inside.fails; calls = c.saturating_add-self-inside.result; faults = c.counted-self-inside.result } in
    rw (← c.self.view_is) (λ other. stays_sure s t other refl refl (omega arith))

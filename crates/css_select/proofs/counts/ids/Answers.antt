use Rattle.css_semantics.specs.Specificity.{is_id}
use Rattle.css_select.proofs.Counting.{sum_fits}
use Rattle.css_select.proofs.counts.ids.Goals as goal

pub overflow_add-count : goal.overflow_add-count
overflow_add-count c =
    sum_fits is_id c.args.parts.now c.loop-compound.compound-index c.loop-compound-item.result c.as_slice.result.now c.loop-compound.count c.ids_among-count.result c.requires c.loop-compound-test.true c.loop-compound-item.is c.loop-compound.invariant c.as_slice.ensures
    c.ids_among-count.ensures

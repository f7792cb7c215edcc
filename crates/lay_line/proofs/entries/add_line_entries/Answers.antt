use Rattle.std.proofs.Common.{◌++◌, None, append_assoc, ap, ◌∙◌}
use Rattle.lay_line.specs.Contexts.{context_at}
use Rattle.lay_line.specs.Readings.{entries_at, places_at, spots_at, set_line_at}
use Rattle.lay_line.specs.steps.Entries.{items_in, opened_in}
use Rattle.lay_line.proofs.Chains.{start_but_mem, next_but_mem}
use Rattle.lay_line.proofs.Entering.{entries-same}
use Rattle.lay_line.proofs.entries.add_line_entries.Goals as goal

pub returns : goal.returns
returns g c =
    let chain = (next_but_mem (start_but_mem c.add_opened.ensures.goes c.add_opened.ensures.cause (λ f. f)) c.add_items.ensures.goes c.add_items.ensures.cause (λ f. f)) in
    record {
      goes = chain.goes;
      value = λ e o.
          let at = g.S.Steady.at in
          let ctx = context_at at c.args.container.now e in
          let line = set_line_at at c.args.line.now e in
          let old = entries_at at c.args.entries.now e in
          let items = items_in ctx line None (places_at at c.args.line.now.places.now e) (spots_at at c.args.line.now.spots.now e) in
          c.add_items.ensures.value e o
          ∙ (ap (λ l. l ++ items) (c.add_opened.ensures.value e (c.add_items.ensures.goes.closes e o))
          ∙ (append_assoc old (opened_in ctx line c.args.opened.now) items
          ∙ ap (λ l. old ++ l) (entries-same ctx line c.args.opened.now)));
      cause = chain.cause;
    }

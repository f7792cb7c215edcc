use Rattle.std.proofs.Common.{map, sym, ◌∙◌, subst}
use Rattle.css_cascade.specs.steps.Trimming.{rules_of}
use Rattle.css_cascade.specs.steps.Trying.{AreBuckets}
use Rattle.css_cascade.proofs.hidden.hidden_nodes.Goals as goal

pub hidden_by-requires-clause-buckets : goal.hidden_by-requires-clause-buckets
hidden_by-requires-clause-buckets c =
    subst (λ ts. AreBuckets c.args.page.now.nodes (map rules_of ts) c.in_ok-buckets.buckets) (c.deref-2.ensures.value ∙ sym c.deref-3.ensures.value) c.in_ok-buckets.ensures

use Rattle.std.proofs.Common.{map, sym, ◌∙◌, subst}
use Rattle.css_cascade.specs.steps.Trimming.{rules_of}
use Rattle.css_cascade.specs.steps.Trying.{AreBuckets}
use Rattle.css_cascade.proofs.pseudo.beside_all.Goals as goal

pub beside_nodes-requires-clause-buckets : goal.beside_nodes-requires-clause-buckets
beside_nodes-requires-clause-buckets c =
    subst (λ ts. AreBuckets c.args.page.now.nodes (map rules_of ts) c.in_ok-buckets.buckets) (c.deref.ensures.value ∙ sym c.deref-2.ensures.value) c.in_ok-buckets.ensures

use Rattle.std.proofs.Common.{◌∙◌, sym, ap}
use Rattle.std.specs.Prelude.{map}
use Rattle.serde_json.specs.View.{view}
use Rattle.viz_base.specs.declared.raw_jobs.Part.TheVariants as part
use Rattle.page_json.specs.Documents.{node_of}
use Rattle.page_json.specs.Faults.{shaped_at}
use Rattle.page_json.specs.Seen.{seen}
use Rattle.page_json.specs.Values.{each_of}
use Rattle.page_json.proofs.PageLemmas.{nodes-document}
use Rattle.page_json.proofs.jobs.page_in.Goals as goal

pub returns-clause-document : goal.returns-clause-document
returns-clause-document c = nodes-document part.Page (view c.args.root.now) c.in_ok-nodes.nodes (sym c.is_string.ensures ∙ c.if-is_string.false)
    (ap (λ ps. shaped_at part.Page (each_of node_of 0 ps)) (sym c.in_ok-places.ensures ∙ ap (map seen) (sym c.as_slice.ensures.value)) ∙ c.in_ok-nodes.ensures)

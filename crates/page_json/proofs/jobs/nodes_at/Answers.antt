use Rattle.std.proofs.Common.{ap, sym, ◌∙◌, ℕ}
use Rattle.viz_base.specs.declared.nodes.Body.{Body}
use Rattle.viz_base.specs.declared.nodes.Node.{Node}
use Rattle.std.specs.Prelude.{Option, option_map}
use Rattle.viz_base.specs.declared.raw_jobs.Part.TheVariants as part
use Rattle.page_json.specs.Documents.{node_of}
use Rattle.page_json.specs.Faults.{shaped_at}
use Rattle.page_json.specs.Seen.{seen}
use Rattle.page_json.proofs.Fronts.{after_more, after_none, after_all, after_shape}
use Rattle.page_json.proofs.jobs.nodes_at.Goals as goal

abbrev with_body : Option ℕ → Body → Node
with_body parent body = record { parent = parent; body = body }

pub loop-at-preserved : goal.loop-at-preserved
loop-at-preserved c = after_more seen node_of c.args.places.now c.loop-at.at c.index-places-at.result (record { parent = c.index-places-at.result.parent; body = c.in-Some.body }) c.loop-at.nodes c.push.new.self _
    c.loop-at-test.true c.index-places-at.is
    (ap (option_map (with_body c.index-places-at.result.parent)) (sym c.in_ok-body.ensures ∙ c.in-Some.is)) c.in_ok-push-in-Some.ensures.ok c.loop-at.invariant

pub returns : goal.returns
returns c = ap (shaped_at part.Page) (after_all seen node_of c.args.places.now c.loop-at.at c.loop-at.nodes _ c.loop-at-test.false c.loop-at.invariant)

pub returns-in-None : goal.returns-in-None
returns-in-None c = after_shape part.Page (after_none seen node_of c.args.places.now c.loop-at.at c.index-places-at.result c.loop-at.nodes _ c.loop-at-test.true c.index-places-at.is
    (ap (option_map (with_body c.index-places-at.result.parent)) (sym c.in_ok-body.ensures ∙ c.in-None.is)) c.loop-at.invariant) c.in_ok-number_of-in-None.ensures

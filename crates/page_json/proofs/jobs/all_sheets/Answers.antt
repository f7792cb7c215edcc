use Rattle.std.proofs.Common.{ap, sym, ◌∙◌, ℕ, List, Some}
use Rattle.std.specs.Prelude.{option_map}
use denote.Ref.{Bor}
use Rattle.serde_json.specs.Find.{as_str}
use Rattle.serde_json.specs.View.{view}
use Rattle.viz_base.specs.declared.raw_jobs.Part.TheVariants as part
use Rattle.page_json.specs.Faults.{shaped_at}
use Rattle.page_json.proofs.Fronts.{after_more, after_none, after_all, after_shape}
use Rattle.page_json.proofs.jobs.all_sheets.Goals as goal

pub loop-place-preserved : goal.loop-place-preserved
loop-place-preserved c = after_more view as_str c.args.values.now c.loop-place.place c.index-values-place.result c.in_ok-from_text-in-Some.field-0 c.loop-place.sheets c.push.new.self _
    c.loop-place-test.true c.index-values-place.is
    (sym c.as_str.ensures ∙ (ap (option_map (λ (s : Bor (List ℕ)). s.now)) c.in-Some.is ∙ ap Some (sym c.in_ok-from_text-in-Some.ensures))) c.in_ok-push-in-Some.ensures.ok c.loop-place.invariant

pub returns : goal.returns
returns c = ap (shaped_at part.Css) (after_all view as_str c.args.values.now c.loop-place.place c.loop-place.sheets _ c.loop-place-test.false c.loop-place.invariant)

pub returns-in-None : goal.returns-in-None
returns-in-None c = after_shape part.Css (after_none view as_str c.args.values.now c.loop-place.place c.index-values-place.result c.loop-place.sheets _ c.loop-place-test.true c.index-values-place.is
    (sym c.as_str.ensures ∙ ap (option_map (λ (s : Bor (List ℕ)). s.now)) c.in-None.is) c.loop-place.invariant) c.in_ok-number_of-in-None.ensures

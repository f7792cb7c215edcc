use Rattle.std.proofs.Common.{ap, map, sym, ◌∙◌, ◌∷◌, []}
use Rattle.std.specs.Prelude.{option_map}
use Rattle.std.proofs.lemmas.List.{map-append}
use Rattle.serde_json.specs.View.{view}
use Rattle.viz_base.specs.declared.raw_jobs.Part.TheVariants as part
use Rattle.page_json.specs.Faults.{shaped_at}
use Rattle.page_json.specs.Fonts.{font_of, measures_of}
use Rattle.page_json.proofs.Fronts.{after_more, after_none, after_all, after_shape, length_more}
use Rattle.page_json.proofs.jobs.all_fonts.Goals as goal

pub loop-place-preserved : goal.loop-place-preserved
loop-place-preserved c = record {
  made = after_more view font_of c.args.values.now c.loop-place.place c.index-values-place.result (measures_of c.in-Some.font) (map measures_of c.loop-place.fonts) (map measures_of c.push.new.self) _
      c.loop-place-test.true c.index-values-place.is (sym c.in_ok-font.ensures ∙ ap (option_map measures_of) c.in-Some.is)
      (ap (map measures_of) c.in_ok-push-in-Some.ensures.ok ∙ map-append measures_of c.loop-place.fonts (c.in-Some.font ∷ [])) c.loop-place.invariant.made;
  count = length_more c.loop-place.fonts c.push.new.self c.in-Some.font c.loop-place.place c.in_ok-push-in-Some.ensures.ok c.loop-place.invariant.count;
}

pub returns-clause-gives : goal.returns-clause-gives
returns-clause-gives c = ap (shaped_at part.Fonts) (after_all view font_of c.args.values.now c.loop-place.place (map measures_of c.loop-place.fonts) _ c.loop-place-test.false c.loop-place.invariant.made)

pub returns-in-None-clause-gives : goal.returns-in-None-clause-gives
returns-in-None-clause-gives c = after_shape part.Fonts (after_none view font_of c.args.values.now c.loop-place.place c.index-values-place.result (map measures_of c.loop-place.fonts) _
    c.loop-place-test.true c.index-values-place.is (sym c.in_ok-font.ensures ∙ ap (option_map measures_of) c.in-None.is) c.loop-place.invariant.made) c.in_ok-number_of-in-None.ensures

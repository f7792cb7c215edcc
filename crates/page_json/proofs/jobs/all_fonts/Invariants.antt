use Rattle.std.proofs.Common.{◌≡◌, drop, length}
use Rattle.std.specs.Prelude.{map}
use Rattle.serde_json.specs.View.{view}
use Rattle.page_json.specs.Values.{each_of}
use Rattle.page_json.specs.Fonts.{font_of, measures_of}
use Rattle.page_json.proofs.Fronts.{after}
use Rattle.page_json.proofs.jobs.all_fonts.Given as goal

abbrev pub invariant-loop-place : goal.invariant-loop-place
invariant-loop-place l = record {
  made : after (map measures_of l.fonts) (each_of font_of l.place (map view (drop l.place l.values))) ≡ each_of font_of 0 (map view l.values);
  count : length l.fonts ≡ l.place;
}

use Rattle.std.proofs.Common.{◌≡◌, drop}
use Rattle.std.specs.Prelude.{map}
use Rattle.serde_json.specs.View.{view}
use Rattle.page_json.specs.Values.{all_of}
use Rattle.page_json.specs.Fonts.{advance_of}
use Rattle.page_json.proofs.Fronts.{with_front}
use Rattle.page_json.proofs.fonts.all_advances.Given as goal

abbrev pub invariant-loop-value : goal.invariant-loop-value
invariant-loop-value l = with_front l.advances (all_of advance_of (map view (drop l.value-index l.values))) ≡ all_of advance_of (map view l.values)

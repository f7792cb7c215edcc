use Rattle.std.proofs.Common.{◌≡◌}
use Rattle.serde_json.specs.View.{members_view}
use Rattle.page_json.specs.Values.{all_of, members_in}
use Rattle.page_json.specs.Elements.{attr_of}
use Rattle.page_json.proofs.Fronts.{with_front}
use Rattle.page_json.proofs.elements.all_attrs.Given as goal

abbrev pub invariant-loop-name : goal.invariant-loop-name
invariant-loop-name l = with_front l.attrs (all_of attr_of (members_in (members_view l.name-iterator))) ≡ all_of attr_of (members_in (members_view l.members.entries))

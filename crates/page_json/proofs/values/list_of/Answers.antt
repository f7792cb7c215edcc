use Rattle.serde_json.specs.View.{view}
use Rattle.page_json.proofs.ValueLemmas.{list_of_values}
use Rattle.page_json.proofs.values.list_of.Goals as goal

pub returns-in-Some : goal.returns-in-Some
returns-in-Some c = list_of_values (view c.args.value.now) c.in-Some.items.now.items c.as_slice.result.now c.in-Some.ensures c.as_slice.ensures.value

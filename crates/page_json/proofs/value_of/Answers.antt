use Rattle.std.proofs.Common.{sym, ap, ◌∙◌, Option}
use Rattle.std.specs.Option.{ok_or}
use Rattle.std.proofs.lemmas.Bool.{false≢true}
use Rattle.serde_json.specs.Data.{Data}
use Rattle.serde_json.specs.View.{view}
use Rattle.page_json.specs.declared.faults.JobFault.TheVariants.{NotJson}
use Rattle.page_json.proofs.ByteLemmas.{value_some, value_none}
use Rattle.page_json.proofs.value_of.Goals as goal

pub returns-in-Ok : goal.returns-in-Ok
returns-in-Ok c = ap (λ (o : Option Data). ok_or o NotJson) (value_some c.args.bytes.now (view c.in-Ok.value) c.in-Ok.ensures.ok.0 c.in-Ok.ensures.ok.1)

pub returns-else-is_memory : goal.returns-else-is_memory
returns-else-is_memory c = ap (λ (o : Option Data). ok_or o NotJson)
    (value_none c.args.bytes.now (λ text. c.in-Err.ensures.err (λ m. false≢true (sym c.if-is_memory.false ∙ c.is_memory.ensures.1 m)) text))

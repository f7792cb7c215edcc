use Rattle.std.proofs.Common.{rules}
use Rattle.std.proofs.lemmas.List.{length-map}
use Rattle.page_json.proofs.limits.lists_limited.Goals as goal

pub returns-clause-gives : goal.returns-clause-gives
returns-clause-gives c = search (rules, length-map)

pub returns-in_err-within-2 : goal.returns-in_err-within-2
returns-in_err-within-2 c = search (rules, length-map)

pub returns-in_err-within-3 : goal.returns-in_err-within-3
returns-in_err-within-3 c = search (rules, length-map)

pub returns-in_err-advances : goal.returns-in_err-advances
returns-in_err-advances c = search (rules, length-map)

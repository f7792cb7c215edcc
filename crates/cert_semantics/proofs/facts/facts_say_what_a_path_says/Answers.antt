use Rattle.cert_semantics.proofs.PathFacts.{facts_hold, facts_say_all}
use Rattle.cert_semantics.proofs.facts.facts_say_what_a_path_says.Goals as goal

pub returns-clause-hold : goal.returns-clause-hold
returns-clause-hold c = facts_hold

pub returns-clause-all : goal.returns-clause-all
returns-clause-all c = facts_say_all

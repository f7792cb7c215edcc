use Rattle.std.proofs.Common.{ℕ, List, map, Ok, None}
use Rattle.viz_base.specs.declared.sheets.Sheet.{Sheet}
use Rattle.css_semantics.specs.CascadeReading.{AreRulesets}
use Rattle.css_cascade.specs.steps.Beside.{AreHiddenTo}
use Rattle.css_cascade.specs.steps.Trimming.{rules_of}
use Rattle.css_cascade.proofs.hidden.hidden_by.Given as goal

abbrev pub invariant-loop-at : goal.invariant-loop-at
invariant-loop-at l = (texts : List (List ℕ)) (sheets : List Sheet) → AreRulesets None texts sheets (Ok (map rules_of l.rulesets)) → AreHiddenTo l.page.nodes texts sheets l.at l.hidden.items

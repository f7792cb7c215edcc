use Rattle.css_semantics.specs.Properties.{property_named}
use Rattle.css_semantics.specs.Shorthands.{shorthand_named}
use Rattle.css_semantics.proofs.OrderLemmas.{declared_among, longhand_sets, sets_ok, shorthand_sets}
use Rattle.css_semantics.proofs.value_laws.settings_in_order.Goals as goal

pub returns : goal.returns
returns c = record {
  alone = λ p ps settings e. sets_ok _ _ settings (longhand_sets p ps) e;
  whole = λ s ps settings e. sets_ok _ _ settings (shorthand_sets s ps) e;
  ordered = λ name ps settings e. declared_among (property_named name) (shorthand_named name) ps settings e;
}

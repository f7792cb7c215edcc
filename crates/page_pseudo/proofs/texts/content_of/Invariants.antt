use Rattle.std.proofs.Common.{◌≡◌, drop}
use Rattle.viz_base.specs.declared.settings.Prop.TheVariants.{Content}
use Rattle.css_semantics.specs.ComputedValues.{winner}
use Rattle.page_pseudo.specs.Generated.{text_of}
use Rattle.page_pseudo.proofs.texts.content_of.Given as goal

abbrev pub invariant-loop-setting : goal.invariant-loop-setting
invariant-loop-setting l = text_of (winner Content (drop l.setting-index l.winners)) ≡ text_of (winner Content l.winners)

-- A computed value from the parent's part.
use Rattle.std.proofs.Common.{◌≡◌, List, Option, option_map, ap, ◌∙◌}
use Rattle.viz_base.specs.declared.settings.Prop.{Prop}
use Rattle.viz_base.specs.declared.settings.Setting.{Setting}
use Rattle.viz_base.specs.declared.settings.Value.{Value}
use Rattle.viz_base.specs.declared.styles.Style.{Style}
use Rattle.css_semantics.specs.ComputedValues.{computed, resolved, specified}
use Rattle.css_semantics.specs.Properties.{row}

pub beside : {A : Type 0} (p : Prop) (says : Value → A) (part : Style → A) (parent : Option Style) (winners : List Setting) (value : A) (parents : Option A)
    → value ≡ resolved says parents (row p).initial (specified p winners) → parents ≡ option_map part parent → value ≡ computed p says part parent winners
beside p says part parent winners value parents is same = is ∙ ap (λ o. resolved says o (row p).initial (specified p winners)) same

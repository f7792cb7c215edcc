-- The ruleset of those selectors of a rule that are looked at.
use Rattle.std.specs.Prelude.{◌≡◌, ℕ, List, [], ◌∷◌, Option, Some, None}
use Rattle.viz_base.specs.declared.sheets.Rule.{Rule}
use Rattle.css_semantics.specs.declared.claims.Origin.{Origin}
use Rattle.css_semantics.specs.declared.claims.Ruleset.{Ruleset}
use Rattle.css_semantics.specs.CascadeReading.{AreClaimed, IsRanked}
use Rattle.css_semantics.specs.Spelled.{Spelled}

-- none where there is no selector
abbrev pub IsRulesetOf : Origin → List ℕ → Rule → List Spelled → Option Ruleset → Type 0
IsRulesetOf origin text rule selectors None = selectors ≡ []
IsRulesetOf origin text rule selectors (Some one) = (first : Spelled) × (more : List Spelled)
    × (selectors ≡ first ∷ more) × IsRanked one.group selectors × AreClaimed origin text rule.decls one.claims

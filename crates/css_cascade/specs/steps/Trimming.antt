-- Rulesets without those of their claims that can't win.
use Rattle.std.specs.Prelude.{◌≡◌, ◌++◌, ℕ, List, map, Option, None, Ok}
use Rattle.std.specs.List.{AllByRecursion}
use Rattle.viz_base.specs.declared.nodes.Node.{Node}
use Rattle.viz_base.specs.declared.selectors.Spec.{Spec}
use Rattle.viz_base.specs.declared.settings.Prop.{Prop}
use Rattle.css_semantics.specs.declared.claims.Claim.{Claim}
use Rattle.css_semantics.specs.declared.claims.Ruleset.{Ruleset}
use Rattle.css_semantics.specs.CascadeOrder.{Applied, applied, style_spec}
use Rattle.css_semantics.specs.CascadeReading.{AppliesTo, Each}
use Rattle.css_semantics.specs.Properties.{properties}
use Rattle.css_cascade.specs.declared.trimming.Trimmed.{Trimmed}
use Rattle.css_cascade.specs.steps.Seen.{kept_all}

-- Some of the claims of a ruleset stand for all of them: by whatever
-- specificity they apply, and whatever won before them.
abbrev pub LastsAs : List Claim → List Claim → Type 0
LastsAs some claims = (s : Spec) (f : Prop → Option Applied)
    → kept_all (map f properties) (map (applied s) some) ≡ kept_all (map f properties) (map (applied s) claims)

abbrev pub rules_of : Trimmed → Ruleset
rules_of t = t.rules.now

abbrev pub IsTrimmed : Trimmed → Type 0
IsTrimmed t = LastsAs (map (λ c. c.now) t.claims.items) t.rules.now.claims

abbrev pub AreTrimmed : List Ruleset → List Trimmed → Type 0
AreTrimmed rulesets all = (map rules_of all ≡ rulesets) × AllByRecursion IsTrimmed all

-- no winners behind which these settings come
abbrev pub slots : List Applied → List (Option Applied)
slots all = kept_all (map (λ p. None) properties) all

-- The winners of all that rulesets say that applies to a node, and behind it its style attribute.
abbrev pub AreKept : List Node → ℕ → List Trimmed → List Claim → List (Option Applied) → Type 0
AreKept nodes n trimmed style best =
    (all : List Applied) × Each (AppliesTo nodes n) (map rules_of trimmed) (Ok all)
    × (best ≡ slots (all ++ map (applied style_spec) style))

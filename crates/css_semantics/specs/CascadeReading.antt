-- What the declarations of style sheets and of style attributes say of each property, in
-- order, and which of it applies to a node (CSS 2.1, 4.1.7, 4.1.8, 6.4).
use Rattle.std.specs.Prelude.{◌≡◌, ℕ, ◌+◌, zero, suc, Bool, true, false, List, [], ◌∷◌, ◌++◌, filter, map, Option, Some, None, Result, Ok, Err, slice_range, if◌then◌else◌, codes}
use Rattle.std.specs.Str.{IsCharBoundary}
use Rattle.viz_base.specs.declared.nodes.Attr.{Attr}
use Rattle.viz_base.specs.declared.nodes.Body.{Body}
use Rattle.viz_base.specs.declared.nodes.Body.TheVariants as of_body
use Rattle.viz_base.specs.declared.nodes.Element.{Element}
use Rattle.viz_base.specs.declared.nodes.Node.{Node}
use Rattle.viz_base.specs.declared.selectors.Pseudo.{Pseudo}
use Rattle.viz_base.specs.declared.selectors.Pseudo.TheVariants.{Before, After}
use Rattle.viz_base.specs.declared.selectors.Spec.{Spec}
use Rattle.viz_base.specs.declared.settings.Prop.{Prop}
use Rattle.viz_base.specs.declared.settings.Setting.{Setting}
use Rattle.viz_base.specs.declared.settings.Source.{Source}
use Rattle.viz_base.specs.declared.settings.Source.TheVariants as of_source
use Rattle.viz_base.specs.declared.settings.Value.{Value}
use Rattle.viz_base.specs.declared.sheets.Decl.{Decl}
use Rattle.viz_base.specs.declared.sheets.Rule.{Rule}
use Rattle.viz_base.specs.declared.sheets.Sheet.{Sheet}
use Rattle.css_semantics.specs.declared.claims.Claim.{Claim}
use Rattle.css_semantics.specs.declared.claims.Origin.{Origin}
use Rattle.css_semantics.specs.declared.claims.Origin.TheVariants as of_origin
use Rattle.css_semantics.specs.declared.claims.Ranked.{Ranked}
use Rattle.css_semantics.specs.declared.claims.Ruleset.{Ruleset}
use Rattle.css_semantics.specs.declared.claims.Weight.{Weight}
use Rattle.css_semantics.specs.declared.claims.Weight.TheVariants as of_weight
use Rattle.css_semantics.specs.declared.parts.Refusal.{Refusal}
use Rattle.css_semantics.specs.declared.parts.Refusal.TheVariants as refusal
use Rattle.css_semantics.specs.SheetsGrammar.{AreDeclarationsOf}
use Rattle.css_semantics.specs.SelectorGrammar.{IsGroupOf, IsUnsupportedAt, IsBadAt}
use Rattle.css_semantics.specs.Matching.{Match}
use Rattle.css_semantics.specs.Specificity.{spec_of}
use Rattle.css_semantics.specs.Spelled.{Spelled, spelled}
use Rattle.css_semantics.specs.Names.{same_name}
use Rattle.css_semantics.specs.Shorthands.{Says}
use Rattle.css_semantics.specs.CascadeOrder.{Applied, applied, greatest, spec_cmp, style_spec}

-- ---- one after another

-- What items give, one after another, joined; or the first refusal.
pub data Each {A B E : Type 0} (Gives : A → Result (List B) E → Type 0) : List A → Result (List B) E → Type 0 where
  nothing : Each Gives [] (Ok [])
  joined : {x : A} {xs : List A} {ys zs : List B} → Gives x (Ok ys) → Each Gives xs (Ok zs)
      → Each Gives (x ∷ xs) (Ok (ys ++ zs))
  refused : {x : A} {xs : List A} {e : E} → Gives x (Err e) → Each Gives (x ∷ xs) (Err e)
  refused_behind : {x : A} {xs : List A} {ys : List B} {e : E} → Gives x (Ok ys) → Each Gives xs (Err e)
      → Each Gives (x ∷ xs) (Err e)

-- ---- slices

-- so many bytes of a text from a place on, from one character to another
pub record IsSlice (text : List ℕ) (at len : ℕ) (piece : List ℕ) : Type 0 where
  pub start : IsCharBoundary text at
  pub end : IsCharBoundary text (at + len)
  pub is : piece ≡ slice_range text at (at + len)

-- they begin or end within a character or past the text
abbrev pub IsNoSlice : List ℕ → ℕ → ℕ → Type 0
IsNoSlice text at len = IsCharBoundary text at → IsCharBoundary text (at + len) → ⊥

-- ---- declarations

-- What is `!important` counts for the author alone, whose style attributes count as his sheets do (CSS 2.1, 6.4.1).
abbrev pub weight_of : Origin → Bool → Weight
weight_of of_origin.Default important = of_weight.Default
weight_of (of_origin.Author sheet) important = if important then of_weight.Important else of_weight.Normal
weight_of (of_origin.Style node) important = if important then of_weight.Important else of_weight.Normal

abbrev pub source_of : Origin → ℕ → ℕ → Source
source_of of_origin.Default at len = of_source.Default at len
source_of (of_origin.Author sheet) at len = of_source.Author sheet at len
source_of (of_origin.Style node) at len = of_source.Style node at len

abbrev pub claim_of : Origin → Decl → Prop → Option Value → Claim
claim_of origin d p v =
    record { prop = p; value = v; weight = weight_of origin d.important; source = source_of origin d.at d.len }

-- What a declaration says of each property: nothing where it is dropped; of
-- a value that is refused by name, that it is.
abbrev pub claims_of : Origin → Decl → Result (List Setting) Refusal → List Claim
claims_of origin d (Ok settings) = map (λ s. claim_of origin d s.prop (Some s.value)) settings
claims_of origin d (Err refusal.Ignored) = []
claims_of origin d (Err (refusal.Unsupported p)) = claim_of origin d p None ∷ []

-- where a ruleset is refused: the author's sheet, and the place in it
abbrev pub Refused : Type 0
Refused = ℕ × ℕ

pub data IsClaimed (origin : Origin) (text : List ℕ) (d : Decl) : Result (List Claim) Refused → Type 0 where
  says : {value : List ℕ} {answer : Result (List Setting) Refusal} → IsSlice text d.at d.len value
      → Says d.name value answer → IsClaimed origin text d (Ok (claims_of origin d answer))
  nothing_there : IsNoSlice text d.at d.len → IsClaimed origin text d (Ok [])

-- what declarations say, one after another
abbrev pub AreClaimed : Origin → List ℕ → List Decl → List Claim → Type 0
AreClaimed origin text decls claims = Each (IsClaimed origin text) decls (Ok claims)

-- ---- rulesets

-- the same pseudo-element, or none both
abbrev pub is_pseudo : Option Pseudo → Option Pseudo → Bool
is_pseudo None None = true
is_pseudo (Some Before) (Some Before) = true
is_pseudo (Some After) (Some After) = true
is_pseudo _ _ = false

-- the selectors with this pseudo-element, or without one
abbrev pub those_of : Option Pseudo → List Spelled → List Spelled
those_of which selectors = filter (λ s. is_pseudo which s.1) selectors

abbrev pub spelled_and_spec : Ranked → Spelled × Spec
spelled_and_spec r = (spelled r.selector, r.spec)

-- the selectors of a group, each with its specificity
abbrev pub IsRanked : List Ranked → List Spelled → Type 0
IsRanked group selectors = map spelled_and_spec group ≡ map (λ s. (s, spec_of s)) selectors

-- An unsupported selector refuses an author's sheet; a ruleset of the default sheet is dropped for it.
abbrev pub unsupported_at : Origin → ℕ → Result (List Ruleset) Refused
unsupported_at of_origin.Default at = Ok []
unsupported_at (of_origin.Author sheet) at = Err (sheet, at)
unsupported_at (of_origin.Style node) at = Ok []

-- A ruleset, with those of its selectors that have this pseudo-element, or none; no ruleset where there are no such
-- selectors, or its selectors can't be read (CSS 2.1, 4.1.7); or the place of its first refused selector.
pub data IsRuleset (which : Option Pseudo) (origin : Origin) (text : List ℕ) (rule : Rule)
    : Result (List Ruleset) Refused → Type 0 where
  read : {selector : List ℕ} {selectors more : List Spelled} {first : Spelled} {one : Ruleset}
      → IsSlice text rule.at rule.len selector → IsGroupOf selector selectors
      → those_of which selectors ≡ first ∷ more → IsRanked one.group (first ∷ more)
      → AreClaimed origin text rule.decls one.claims
      → IsRuleset which origin text rule (Ok (one ∷ []))
  of_others : {selector : List ℕ} {selectors : List Spelled} → IsSlice text rule.at rule.len selector
      → IsGroupOf selector selectors → those_of which selectors ≡ []
      → IsRuleset which origin text rule (Ok [])
  bad : {selector : List ℕ} {at : ℕ} → IsSlice text rule.at rule.len selector → IsBadAt selector at
      → IsRuleset which origin text rule (Ok [])
  not_supported : {selector : List ℕ} {at : ℕ} → IsSlice text rule.at rule.len selector → IsUnsupportedAt selector at
      → IsRuleset which origin text rule (unsupported_at origin (rule.at + at))
  nothing_there : IsNoSlice text rule.at rule.len → IsRuleset which origin text rule (Ok [])

-- ---- sheets

-- a rule, where it stands
pub record Placed : Type 0 where
  pub origin : Origin
  pub text : List ℕ
  pub rule : Rule

abbrev pub placed : Origin → List ℕ → Rule → Placed
placed o t r = record { origin = o; text = t; rule = r }

-- the first sheet is the default one, and those behind it the author's
abbrev pub sheet_origin : ℕ → Origin
sheet_origin zero = of_origin.Default
sheet_origin (suc n) = of_origin.Author n

-- the rules of all sheets from this number on, in order
abbrev pub rules_from : ℕ → List (List ℕ) → List Sheet → List Placed
rules_from n [] sheets = []
rules_from n (t ∷ texts) [] = []
rules_from n (t ∷ texts) (s ∷ sheets) = map (placed (sheet_origin n) t) s.rules ++ rules_from (suc n) texts sheets

-- the rulesets of the sheets in order, by their selectors with this pseudo-element, or without one; or the first refused
-- selector of an author
abbrev pub AreRulesets : Option Pseudo → List (List ℕ) → List Sheet → Result (List Ruleset) Refused → Type 0
AreRulesets which texts sheets answer =
    Each (λ p. IsRuleset which p.origin p.text p.rule) (rules_from 0 texts sheets) answer

-- ---- style attributes

-- the value of the first attribute `style`
abbrev pub style_of : List Attr → Option (List ℕ)
style_of [] = None
style_of (a ∷ attrs) = if same_name a.name (codes "style") then Some a.value else style_of attrs

-- what the style attribute of a node says
pub data IsStyled (n : ℕ) (attrs : List Attr) : List Claim → Type 0 where
  unstyled : style_of attrs ≡ None → IsStyled n attrs []
  styled : {text : List ℕ} {decls : List Decl} {claims : List Claim} → style_of attrs ≡ Some text
      → AreDeclarationsOf text decls → AreClaimed (of_origin.Style n) text decls claims → IsStyled n attrs claims

-- ---- what applies to a node

-- the specificities of the selectors of a group that match a node
pub data Matching (nodes : List Node) (n : ℕ) : List Ranked → List Spec → Type 0 where
  none : Matching nodes n [] []
  matches : {r : Ranked} {group : List Ranked} {specs : List Spec} → Match r.selector.parts nodes n
      → Matching nodes n group specs → Matching nodes n (r ∷ group) (r.spec ∷ specs)
  passes_by : {r : Ranked} {group : List Ranked} {specs : List Spec} → (Match r.selector.parts nodes n → ⊥)
      → Matching nodes n group specs → Matching nodes n (r ∷ group) specs

abbrev pub all_applied : Option Spec → List Claim → List Applied
all_applied None claims = []
all_applied (Some s) claims = map (applied s) claims

-- What a ruleset says applies with the specificity of the most specific of
-- its selectors that match (CSS 2.1, 5.2.1 and 6.4.3).
pub data AppliesTo (nodes : List Node) (n : ℕ) (one : Ruleset) : Result (List Applied) Refused → Type 0 where
  applies : {specs : List Spec} → Matching nodes n one.group specs
      → AppliesTo nodes n one (Ok (all_applied (greatest spec_cmp specs) one.claims))

-- All settings that apply to a node, in order: those of the rulesets and
-- those of its style attribute. To a text none does.
pub data AreApplied (nodes : List Node) (rulesets : List Ruleset) (n : ℕ) : Body → List Applied → Type 0 where
  to_element : {e : Element} {all : List Applied} {style : List Claim} → Each (AppliesTo nodes n) rulesets (Ok all)
      → IsStyled n e.attrs style
      → AreApplied nodes rulesets n (of_body.Element e) (all ++ map (applied style_spec) style)
  to_text : {text : List ℕ} → AreApplied nodes rulesets n (of_body.Chars text) []

-- All settings that apply to a pseudo-element of a node, of rulesets with its selectors: a style attribute says nothing of
-- one. A text has none.
pub data AreAppliedBeside (nodes : List Node) (rulesets : List Ruleset) (n : ℕ) : Body → List Applied → Type 0 where
  to_element : {e : Element} {all : List Applied} → Each (AppliesTo nodes n) rulesets (Ok all)
      → AreAppliedBeside nodes rulesets n (of_body.Element e) all
  to_text : {text : List ℕ} → AreAppliedBeside nodes rulesets n (of_body.Chars text) []

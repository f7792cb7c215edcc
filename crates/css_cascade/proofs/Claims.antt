-- What the claims of rulesets and of style attributes say: values that the table allows, each a slice of its text.
use Rattle.std.proofs.Common.{◌≡◌, ℕ, ◌+◌, zero, suc, List, [], ◌∷◌, map, slice_get, Option, Some, None, Result, Ok, Err, refl, sym, ap, ◌∙◌, subst, arith}
use Rattle.std.specs.List.{AllByRecursion}
use Rattle.std.specs.Option.{option_and_then}
use Rattle.viz_base.specs.declared.nodes.Attr.{Attr}
use Rattle.viz_base.specs.declared.nodes.Body.{Body}
use Rattle.viz_base.specs.declared.nodes.Node.{Node}
use Rattle.viz_base.specs.declared.selectors.Pseudo.{Pseudo}
use Rattle.viz_base.specs.declared.selectors.Spec.{Spec}
use Rattle.viz_base.specs.declared.settings.Setting.{Setting}
use Rattle.viz_base.specs.declared.settings.Value.{Value}
use Rattle.viz_base.specs.declared.sheets.Decl.{Decl}
use Rattle.viz_base.specs.declared.sheets.Rule.{Rule}
use Rattle.viz_base.specs.declared.sheets.Sheet.{Sheet}
use Rattle.viz_base.proofs.ListLemmas.{all_append}
use Rattle.css_semantics.specs.declared.claims.Claim.{Claim}
use Rattle.css_semantics.specs.declared.claims.Origin.{Origin}
use Rattle.css_semantics.specs.declared.claims.Origin.TheVariants as of_origin
use Rattle.css_semantics.specs.declared.claims.Ruleset.{Ruleset}
use Rattle.css_semantics.specs.declared.parts.Refusal.{Refusal}
use Rattle.css_semantics.specs.declared.parts.Refusal.TheVariants as refusal
use Rattle.css_semantics.specs.CascadeOrder.{Applied, applied, style_spec}
use Rattle.css_semantics.specs.CascadeReading.{AppliesTo, AreApplied, AreAppliedBeside, AreRulesets, Each, IsClaimed, IsRuleset, IsSlice, IsStyled, Placed, Refused, all_applied, claim_of, claims_of, placed, rules_from, sheet_origin, source_of, style_of, unsupported_at}
use Rattle.css_semantics.specs.Sources.{IsValueAt, style_text}
use Rattle.css_semantics.specs.Values.{setting}
use Rattle.css_semantics.specs.Winners.{IsAllowed}
use Rattle.css_semantics.proofs.Allowed.{declared_allowed}

pub record IsStated (nodes : List Node) (texts : List (List ℕ)) (c : Claim) : Type 0 where
  pub allowed : (v : Value) → c.value ≡ Some v → IsAllowed (setting c.prop v)
  pub value : List ℕ
  pub stands : IsValueAt nodes texts c.source value

abbrev pub AreStated : List Node → List (List ℕ) → List Claim → Type 0
AreStated nodes texts claims = AllByRecursion (IsStated nodes texts) claims

-- what holds of each item, where there are any
abbrev pub AllOf : {A E : Type 0} → (A → Type 0) → Result (List A) E → Type 0
AllOf P (Ok xs) = AllByRecursion P xs
AllOf P (Err e) = Unit {0}

each_all : {A B E : Type 0} {Gives : A → Result (List B) E → Type 0} {xs : List A} {r : Result (List B) E} (P : A → Type 0) (Q : B → Type 0) → ((x : A) (s : Result (List B) E) → P x → Gives x s → AllOf Q s) → AllByRecursion P xs → Each Gives xs r → AllOf Q r
each_all P Q f h Each.nothing = tt
each_all P Q f h (Each.joined {x = x} {ys = ys} {zs = zs} g more) = all_append Q ys zs (f x (Ok ys) h.0 g) (each_all P Q f h.1 more)
each_all P Q f h (Each.refused g) = tt
each_all P Q f h (Each.refused_behind g more) = tt

always : {A : Type 0} (xs : List A) → AllByRecursion (λ x. Unit {0}) xs
always [] = tt
always (x ∷ xs) = (tt, always xs)

-- ---- declarations

-- the text in which what is of this origin stands
abbrev origin_text : List Node → List (List ℕ) → Origin → Option (List ℕ)
origin_text nodes texts of_origin.Default = slice_get texts 0
origin_text nodes texts (of_origin.Author sheet) = slice_get texts (suc sheet)
origin_text nodes texts (of_origin.Style node) = option_and_then (λ (n : Node). style_text n.body) (slice_get nodes node)

source_stands : (nodes : List Node) (texts : List (List ℕ)) (origin : Origin) (at len : ℕ) (text value : List ℕ) → origin_text nodes texts origin ≡ Some text → IsSlice text at len value → IsValueAt nodes texts (source_of origin at len) value
source_stands nodes texts of_origin.Default at len text value e s = record { text = text; stands = e; slice = s }
source_stands nodes texts (of_origin.Author sheet) at len text value e s = record { text = text; stands = e; slice = s }
source_stands nodes texts (of_origin.Style node) at len text value e s = record { text = text; stands = e; slice = s }

same_value : (u v : Value) → Some u ≡ Some v → u ≡ v
same_value u v e = cc

settings_stated : (nodes : List Node) (texts : List (List ℕ)) (origin : Origin) (d : Decl) (value : List ℕ) (settings : List Setting) → IsValueAt nodes texts (source_of origin d.at d.len) value → AllByRecursion IsAllowed settings → AreStated nodes texts (map (λ s. claim_of origin d s.prop (Some s.value)) settings)
settings_stated nodes texts origin d value [] h k = tt
settings_stated nodes texts origin d value (s ∷ settings) h k = (
  record {
    allowed = λ v e. subst (λ u. IsAllowed (setting s.prop u)) (same_value s.value v e) k.0;
    value = value;
    stands = h;
  },
  settings_stated nodes texts origin d value settings h k.1,
)

said_stated : (nodes : List Node) (texts : List (List ℕ)) (origin : Origin) (d : Decl) (value : List ℕ) (answer : Result (List Setting) Refusal) → IsValueAt nodes texts (source_of origin d.at d.len) value → ((settings : List Setting) → answer ≡ Ok settings → AllByRecursion IsAllowed settings) → AreStated nodes texts (claims_of origin d answer)
said_stated nodes texts origin d value (Ok settings) h k = settings_stated nodes texts origin d value settings h (k settings refl)
said_stated nodes texts origin d value (Err refusal.Ignored) h k = tt
said_stated nodes texts origin d value (Err (refusal.Unsupported p)) h k = (record { allowed = λ v e. cc; value = value; stands = h }, tt)

claimed_stated : {origin : Origin} {text : List ℕ} {d : Decl} {r : Result (List Claim) Refused} (nodes : List Node) (texts : List (List ℕ)) → origin_text nodes texts origin ≡ Some text → IsClaimed origin text d r → AllOf (IsStated nodes texts) r
claimed_stated {origin} {text} {d} nodes texts e (IsClaimed.says {value = value} {answer = answer} s h) =
    said_stated nodes texts origin d value answer (source_stands nodes texts origin d.at d.len text value e s) (λ settings is. declared_allowed d.name h.tokens settings (sym is ∙ h.answers))
claimed_stated nodes texts e (IsClaimed.nothing_there n) = tt

all_stated : {origin : Origin} {text : List ℕ} {decls : List Decl} {r : Result (List Claim) Refused} (nodes : List Node) (texts : List (List ℕ)) → origin_text nodes texts origin ≡ Some text → Each (IsClaimed origin text) decls r → AllOf (IsStated nodes texts) r
all_stated {decls = decls} nodes texts e h = each_all (λ d. Unit {0}) (IsStated nodes texts) (λ d s u g. claimed_stated nodes texts e g) (always decls) h

-- ---- rulesets

abbrev pub IsStatedRuleset : List Node → List (List ℕ) → Ruleset → Type 0
IsStatedRuleset nodes texts one = AreStated nodes texts one.claims

-- a sheet of the author of this number is one of the texts
abbrev pub IsInRange : List (List ℕ) → Refused → Type 0
IsInRange texts refused = (text : List ℕ) × (slice_get texts (suc refused.0) ≡ Some text)

abbrev Stands : List Node → List (List ℕ) → Placed → Type 0
Stands nodes texts p = origin_text nodes texts p.origin ≡ Some p.text

-- rulesets that are stated, or a refusal in a sheet of the author
abbrev pub Read : List Node → List (List ℕ) → Result (List Ruleset) Refused → Type 0
Read nodes texts (Ok rulesets) = AllByRecursion (IsStatedRuleset nodes texts) rulesets
Read nodes texts (Err refused) = IsInRange texts refused

unsupported_read : (nodes : List Node) (texts : List (List ℕ)) (origin : Origin) (text : List ℕ) (at : ℕ) → origin_text nodes texts origin ≡ Some text → Read nodes texts (unsupported_at origin at)
unsupported_read nodes texts of_origin.Default text at e = tt
unsupported_read nodes texts (of_origin.Author sheet) text at e = (text, e)
unsupported_read nodes texts (of_origin.Style node) text at e = tt

rule_read : {which : Option Pseudo} {origin : Origin} {text : List ℕ} {rule : Rule} {r : Result (List Ruleset) Refused} (nodes : List Node) (texts : List (List ℕ)) → origin_text nodes texts origin ≡ Some text → IsRuleset which origin text rule r → Read nodes texts r
rule_read nodes texts e (IsRuleset.read s g some ranked claimed) = (all_stated nodes texts e claimed, tt)
rule_read nodes texts e (IsRuleset.of_others s g none) = tt
rule_read nodes texts e (IsRuleset.bad s b) = tt
rule_read {origin = origin} {text = text} {rule = rule} nodes texts e (IsRuleset.not_supported {at = at} s u) = unsupported_read nodes texts origin text (rule.at + at) e
rule_read nodes texts e (IsRuleset.nothing_there n) = tt

rules_read : {which : Option Pseudo} {rules : List Placed} {r : Result (List Ruleset) Refused} (nodes : List Node) (texts : List (List ℕ)) → AllByRecursion (Stands nodes texts) rules → Each (λ p. IsRuleset which p.origin p.text p.rule) rules r → Read nodes texts r
rules_read nodes texts h Each.nothing = tt
rules_read nodes texts h (Each.joined {ys = ys} {zs = zs} g more) = all_append (IsStatedRuleset nodes texts) ys zs (rule_read nodes texts h.0 g) (rules_read nodes texts h.1 more)
rules_read nodes texts h (Each.refused g) = rule_read nodes texts h.0 g
rules_read nodes texts h (Each.refused_behind g more) = rules_read nodes texts h.1 more

-- ---- sheets

abbrev pub IsRest : {A : Type 0} → ℕ → List A → List A → Type 0
IsRest n rest xs = (k : ℕ) → slice_get rest k ≡ slice_get xs (n + k)

pub rest_more : {A : Type 0} (n : ℕ) (x : A) (rest xs : List A) → IsRest n (x ∷ rest) xs → IsRest (suc n) rest xs
rest_more n x rest xs h = λ k. h (suc k) ∙ ap (slice_get xs) (let e : n + suc k ≡ suc n + k = omega arith in e)

pub rest_here : {A : Type 0} (n : ℕ) (x : A) (rest xs : List A) → IsRest n (x ∷ rest) xs → slice_get xs n ≡ Some x
rest_here n x rest xs h = ap (slice_get xs) (let e : n ≡ n + 0 = omega arith in e) ∙ sym (h 0)

pub rest_whole : {A : Type 0} (xs : List A) → IsRest 0 xs xs
rest_whole xs = λ k. ap (slice_get xs) (let e : k ≡ 0 + k = omega arith in e)

origin_stands : (nodes : List Node) (texts : List (List ℕ)) (n : ℕ) → origin_text nodes texts (sheet_origin n) ≡ slice_get texts n
origin_stands nodes texts zero = refl
origin_stands nodes texts (suc n) = refl

placed_stand : (nodes : List Node) (texts : List (List ℕ)) (origin : Origin) (text : List ℕ) (rules : List Rule) → origin_text nodes texts origin ≡ Some text → AllByRecursion (Stands nodes texts) (map (placed origin text) rules)
placed_stand nodes texts origin text [] e = tt
placed_stand nodes texts origin text (r ∷ rules) e = (e, placed_stand nodes texts origin text rules e)

rules_stand : (nodes : List Node) (texts : List (List ℕ)) (n : ℕ) (rest : List (List ℕ)) (sheets : List Sheet) → IsRest n rest texts → AllByRecursion (Stands nodes texts) (rules_from n rest sheets)
rules_stand nodes texts n [] sheets h = tt
rules_stand nodes texts n (t ∷ rest) [] h = tt
rules_stand nodes texts n (t ∷ rest) (s ∷ sheets) h =
    all_append (Stands nodes texts) (map (placed (sheet_origin n) t) s.rules) (rules_from (suc n) rest sheets)
    (placed_stand nodes texts (sheet_origin n) t s.rules (origin_stands nodes texts n ∙ rest_here n t rest texts h))
    (rules_stand nodes texts (suc n) rest sheets (rest_more n t rest texts h))

pub rulesets_read : (which : Option Pseudo) (nodes : List Node) (texts : List (List ℕ)) (sheets : List Sheet) (r : Result (List Ruleset) Refused) → AreRulesets which texts sheets r → Read nodes texts r
rulesets_read which nodes texts sheets r h = rules_read nodes texts (rules_stand nodes texts 0 texts sheets (rest_whole texts)) h

-- ---- what applies to a node

abbrev pub AreStatedApplied : List Node → List (List ℕ) → List Applied → Type 0
AreStatedApplied nodes texts all = AllByRecursion (λ a. IsStated nodes texts a.claim) all

applied_stated : (nodes : List Node) (texts : List (List ℕ)) (s : Spec) (claims : List Claim) → AreStated nodes texts claims → AreStatedApplied nodes texts (map (applied s) claims)
applied_stated nodes texts s [] h = tt
applied_stated nodes texts s (c ∷ claims) h = (h.0, applied_stated nodes texts s claims h.1)

greatest_stated : (nodes : List Node) (texts : List (List ℕ)) (o : Option Spec) (claims : List Claim) → AreStated nodes texts claims → AreStatedApplied nodes texts (all_applied o claims)
greatest_stated nodes texts None claims h = tt
greatest_stated nodes texts (Some s) claims h = applied_stated nodes texts s claims h

applies_stated : {nodes : List Node} {n : ℕ} {one : Ruleset} {r : Result (List Applied) Refused} (texts : List (List ℕ)) → IsStatedRuleset nodes texts one → AppliesTo nodes n one r → AllOf (λ a. IsStated nodes texts a.claim) r
applies_stated {nodes} {one = one} texts h (AppliesTo.applies {specs = specs} m) = greatest_stated nodes texts _ one.claims h

styled_stated : {n : ℕ} {attrs : List Attr} {style : List Claim} (nodes : List Node) (texts : List (List ℕ)) → ((text : List ℕ) → style_of attrs ≡ Some text → origin_text nodes texts (of_origin.Style n) ≡ Some text) → IsStyled n attrs style → AreStated nodes texts style
styled_stated nodes texts f (IsStyled.unstyled e) = tt
styled_stated nodes texts f (IsStyled.styled {text = text} e d claimed) = all_stated nodes texts (f text e) claimed

pub all_applied_stated : {nodes : List Node} {rulesets : List Ruleset} {n : ℕ} {body : Body} {all : List Applied} (texts : List (List ℕ)) (node : Node) → slice_get nodes n ≡ Some node → node.body ≡ body → AllByRecursion (IsStatedRuleset nodes texts) rulesets → AreApplied nodes rulesets n body all → AreStatedApplied nodes texts all
all_applied_stated {nodes} {n = n} texts node at is h (AreApplied.to_element {e = e} {all = all} {style = style} applies says) =
    all_append _ all (map (applied style_spec) style)
    (each_all (IsStatedRuleset nodes texts) (λ a. IsStated nodes texts a.claim) (λ one s g k. applies_stated texts g k) h applies)
    (applied_stated nodes texts style_spec style (styled_stated nodes texts (λ text k. ap (option_and_then (λ (m : Node). style_text m.body)) at ∙ ap style_text is ∙ k) says))
all_applied_stated texts node at is h AreApplied.to_text = tt

pub all_beside_stated : {nodes : List Node} {rulesets : List Ruleset} {n : ℕ} {body : Body} {all : List Applied} (texts : List (List ℕ)) → AllByRecursion (IsStatedRuleset nodes texts) rulesets → AreAppliedBeside nodes rulesets n body all → AreStatedApplied nodes texts all
all_beside_stated {nodes} texts h (AreAppliedBeside.to_element applies) = each_all (IsStatedRuleset nodes texts) (λ a. IsStated nodes texts a.claim) (λ one s g k. applies_stated texts g k) h applies
all_beside_stated texts h AreAppliedBeside.to_text = tt

-- What the answers of the code on one rule say.
use Rattle.std.proofs.Common.{◌≡◌, ℕ, ◌<◌, List, length, get_or, None, Some, Option, Result, Ok, Err, sym, ◌∙◌, subst}
use Rattle.std.specs.Option.{option_to_list}
use Rattle.viz_base.specs.declared.nodes.Node.{Node}
use Rattle.viz_base.specs.declared.settings.Cascaded.{Cascaded}
use Rattle.viz_base.specs.declared.settings.Setting.{Setting}
use Rattle.viz_base.specs.declared.selectors.Pseudo.{Pseudo}
use Rattle.viz_base.specs.declared.sheets.Rule.{Rule}
use Rattle.viz_base.specs.declared.sheets.Sheet.{Sheet}
use Rattle.css_semantics.specs.declared.claims.Origin.{Origin}
use Rattle.css_semantics.specs.declared.claims.Ruleset.{Ruleset}
use Rattle.css_semantics.specs.CascadeReading.{AreRulesets, Each, IsRanked, IsRuleset, IsSlice, Refused, sheet_origin, those_of}
use Rattle.css_semantics.specs.SelectorGrammar.{IsGroupOf}
use Rattle.css_semantics.specs.Spelled.{Spelled}
use Rattle.css_cascade.specs.steps.Chosen.{IsRulesetOf}
use Rattle.css_semantics.specs.Cascade.{IsCascade, Fault, refused_selector}
use Rattle.css_cascade.specs.declared.faults.CascadeFault.{CascadeFault}
use Rattle.css_cascade.specs.declared.faults.CascadeFault.TheVariants.{Mem, Selector as SelectorAt, Value}
use Rattle.css_select.specs.declared.faults.SelFault.{SelFault}
use Rattle.css_select.specs.declared.faults.SelFault.TheVariants as of_selector
use Rattle.css_select.specs.Refusals.{refusal_of as reason_of}
use Rattle.css_select.specs.Verdicts.{IsReadingOf}
use Rattle.viz_base.specs.Answers.{FailsWith, GivesOneOf}
use Rattle.css_cascade.specs.Faults.{BySelector, IsUnread, refusal_of}
use Rattle.css_cascade.proofs.Reaching.{Reached, ReachedSheets, reached_refusal, sheets_refusal}

-- a fault says the same of two readings of which the first refuses where the second does
pub fails_on : {B C : Type 0} (fault : CascadeFault) (P : Result (List B) Refused → Type 0) (Q : Result (List C) Refused → Type 0) → ((e : Refused) → P (Err e) → Q (Err e)) → FailsWith (refusal_of fault) (BySelector P) → FailsWith (refusal_of fault) (BySelector Q)
fails_on Mem P Q f h = h
fails_on (SelectorAt s at) P Q f h = f (s, at) h
fails_on (Value n p source) P Q f h = h

unread_at : (which : Option Pseudo) (origin : Origin) (text : List ℕ) (rule : Rule) (selector : List ℕ) (fault : SelFault) → IsSlice text rule.at rule.len selector → FailsWith (reason_of fault) (IsReadingOf selector) → (answer : Result (List Ruleset) Refused) → IsUnread origin rule.at fault answer → IsRuleset which origin text rule answer
unread_at which origin text rule selector of_selector.Mem s f answer h = absurd h
unread_at which origin text rule selector (of_selector.Bad at) s f answer h = subst (IsRuleset which origin text rule) (sym h) (IsRuleset.bad s f)
unread_at which origin text rule selector (of_selector.Unsupported at) s f answer h = subst (IsRuleset which origin text rule) (sym h) (IsRuleset.not_supported s f)

pub unread_is : (which : Option Pseudo) (origin : Origin) (text : List ℕ) (rule : Rule) (selector : List ℕ) (fault : SelFault) → IsSlice text rule.at rule.len selector → FailsWith (reason_of fault) (IsReadingOf selector) → (r : Result (Option Ruleset) CascadeFault)
    → GivesOneOf option_to_list refusal_of r (BySelector (IsUnread origin rule.at fault))
    → GivesOneOf option_to_list refusal_of r (BySelector (IsRuleset which origin text rule))
unread_is which origin text rule selector fault s f (Ok found) h = unread_at which origin text rule selector fault s f _ h
unread_is which origin text rule selector fault s f (Err answered) h = fails_on answered (IsUnread origin rule.at fault) (IsRuleset which origin text rule) (λ e. unread_at which origin text rule selector fault s f (Err e)) h

-- the ruleset of those selectors of a rule that are looked at is one of the rule's
pub ruleset_is : (which : Option Pseudo) (origin : Origin) (text : List ℕ) (rule : Rule) (selector : List ℕ) (selectors those : List Spelled) (found : Option Ruleset) → IsSlice text rule.at rule.len selector → IsGroupOf selector selectors
    → those ≡ those_of which selectors → IsRulesetOf origin text rule those found → IsRuleset which origin text rule (Ok (option_to_list found))
ruleset_is which origin text rule selector selectors those None slice group e none = IsRuleset.of_others slice group (sym e ∙ none)
ruleset_is which origin text rule selector selectors those (Some one) slice group e h =
    IsRuleset.read slice group (sym e ∙ h.2) (subst (IsRanked one.group) h.2 h.3) h.4

pub fails_refusal : {A B : Type 0} (Gives : A → Result (List B) Refused → Type 0) (xs : List A) (i : ℕ) (items : List B) (x : A) (fault : CascadeFault) → i < length xs → x ≡ get_or xs i x → Reached Gives xs i items → FailsWith (refusal_of fault) (BySelector (Gives x))
    → FailsWith (refusal_of fault) (BySelector (Each Gives xs))
fails_refusal Gives xs i items x fault l at r h = fails_on fault (Gives x) (Each Gives xs) (λ e k. reached_refusal x e l at r k) h

pub each_at : {which : Option Pseudo} {o p : Origin} {t u : List ℕ} {rules others : List Rule} (answer : Result (List Ruleset) Refused) → o ≡ p → t ≡ u → rules ≡ others → Each (IsRuleset which o t) rules answer → Each (IsRuleset which p u) others answer
each_at {which = which} {o = o} {p = p} {t = t} {u = u} {rules = rules} {others = others} answer e f g h =
    subst (λ x. Each (IsRuleset which x u) others answer) e (subst (λ x. Each (IsRuleset which o x) others answer) f (subst (λ x. Each (IsRuleset which o t) x answer) g h))

pub fails_sheets : (which : Option Pseudo) (texts : List (List ℕ)) (sheets : List Sheet) (at : ℕ) (items : List Ruleset) (t : List ℕ) (s : Sheet) (fault : CascadeFault) (o : Origin) (u : List ℕ) (rules : List Rule) → at < length texts → t ≡ get_or texts at t → at < length sheets → s ≡ get_or sheets at s → ReachedSheets which texts sheets at items
    → o ≡ sheet_origin at → u ≡ t → rules ≡ s.rules → FailsWith (refusal_of fault) (BySelector (Each (IsRuleset which o u) rules)) → FailsWith (refusal_of fault) (BySelector (AreRulesets which texts sheets))
fails_sheets which texts sheets at items t s fault o u rules l e m f r same text all h = fails_on fault (Each (IsRuleset which o u) rules) (AreRulesets which texts sheets) (λ x k. sheets_refusal which texts sheets at items t s x l e m f r (each_at (Err x) same text all k)) h

pub refused_page : (nodes : List Node) (texts : List (List ℕ)) (sheets : List Sheet) (fault : CascadeFault) → FailsWith (refusal_of fault) (BySelector (AreRulesets None texts sheets)) → FailsWith (refusal_of fault) (IsCascade nodes texts sheets)
refused_page nodes texts sheets Mem h = h
refused_page nodes texts sheets (SelectorAt s at) h = refused_selector h
refused_page nodes texts sheets (Value n p source) h = absurd h

pub gives_on : (r : Result Cascaded CascadeFault) (P Q : Result (List (List Setting)) Fault → Type 0) → ((a : Result (List (List Setting)) Fault) → P a → Q a) → GivesOneOf (λ c. c.winners) refusal_of r P → GivesOneOf (λ c. c.winners) refusal_of r Q
gives_on (Ok c) P Q f h = f _ h
gives_on (Err Mem) P Q f h = h
gives_on (Err (SelectorAt s at)) P Q f h = f _ h
gives_on (Err (Value n p source)) P Q f h = f _ h

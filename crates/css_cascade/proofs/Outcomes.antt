-- The winners at the nodes: one list for each, with values that the table allows; and where what refuses a page stands.
use Rattle.std.proofs.Common.{◌≡◌, ℕ, ◌+◌, suc, Bool, true, false, cond, List, [], ◌∷◌, ◌++◌, map, filter, length, slice_get, Option, Some, None, Result, Ok, Err, refl, sym, ◌∙◌, subst, arith, length-append}
use Rattle.std.specs.Prelude.{IfErr, IfOk, IfSome, flat_map}
use Rattle.std.specs.List.{AllByRecursion}
use Rattle.std.specs.Option.{option_to_list}
use Rattle.std.specs.Ordering.{is_gt}
use Rattle.std.proofs.lemmas.Option.{slice_get_within}
use Rattle.viz_base.specs.Answers.{GivesOneOf}
use Rattle.viz_base.specs.declared.nodes.Node.{Node}
use Rattle.viz_base.specs.declared.settings.Cascaded.{Cascaded}
use Rattle.viz_base.specs.declared.settings.Prop.{Prop}
use Rattle.viz_base.specs.declared.settings.Setting.{Setting}
use Rattle.viz_base.specs.declared.settings.Value.{Value}
use Rattle.viz_base.specs.declared.sheets.Sheet.{Sheet}
use Rattle.viz_base.proofs.ListLemmas.{all_append}
use Rattle.css_semantics.specs.declared.claims.Claim.{Claim}
use Rattle.css_semantics.specs.declared.claims.Ruleset.{Ruleset}
use Rattle.css_semantics.specs.declared.claims.Standing.{Standing}
use Rattle.css_semantics.specs.Cascade.{ComesTo, Fault, Goes, IsCascade, comes_to, selector_at}
use Rattle.css_semantics.specs.CascadeNodes.{first_refused, is_hidden, is_refused, judged, node_outcome, refused_at, set_by, settings_by, settings_of, winners_for}
use Rattle.css_semantics.specs.CascadeOrder.{Applied, cascade_cmp, greatest, greatest_from, is_prop, later_of, of_prop}
use Rattle.css_semantics.specs.Properties.{properties}
use Rattle.css_semantics.specs.Winners.{AreWinners, IsAllowed, IsInOrder}
use Rattle.css_cascade.specs.declared.faults.CascadeFault.{CascadeFault}
use Rattle.css_cascade.specs.declared.faults.CascadeFault.TheVariants.{Mem, Selector, Value as ValueAt}
use Rattle.css_cascade.specs.Faults.{IsPlaced, refusal_of}
use Rattle.css_cascade.proofs.Claims.{AreStated, AreStatedApplied, IsInRange, IsRest, IsStated, IsStatedRuleset, all_applied_stated, rest_here, rest_more, rest_whole, rulesets_read}
use Rattle.css_cascade.proofs.Orders.{node_in_order}

-- ---- the winners of a node are of what applies to it

if_all : (P : Applied → Type 0) (b : Bool) (a : Applied) (all : List Applied) → P a → AllByRecursion P all → AllByRecursion P (cond b (a ∷ all) all)
if_all P true a all h k = (h, k)
if_all P false a all h k = k

filter_all : (P : Applied → Type 0) (test : Applied → Bool) (all : List Applied) → AllByRecursion P all → AllByRecursion P (filter test all)
filter_all P test [] h = tt
filter_all P test (a ∷ all) h = if_all P (test a) a (filter test all) h.0 (filter_all P test all h.1)

of_two : (P : Applied → Type 0) (b : Bool) (x y : Applied) → P x → P y → P (cond b x y)
of_two P true x y h k = h
of_two P false x y h k = k

from_all : (P : Applied → Type 0) (best : Applied) (all : List Applied) → P best → AllByRecursion P all → P (greatest_from cascade_cmp best all)
from_all P best [] h k = h
from_all P best (a ∷ all) h k = from_all P (later_of cascade_cmp best a) all (of_two P (is_gt (cascade_cmp best a)) best a h k.0) k.1

greatest_all : (nodes : List Node) (texts : List (List ℕ)) (all : List Applied) → AreStatedApplied nodes texts all → AreStated nodes texts (map (λ a. a.claim) (option_to_list (greatest cascade_cmp all)))
greatest_all nodes texts [] h = tt
greatest_all nodes texts (a ∷ all) h = (from_all (λ x. IsStated nodes texts x.claim) a all h.0 h.1, tt)

pub each_winner : (nodes : List Node) (texts : List (List ℕ)) (all : List Applied) (ps : List Prop) → AreStatedApplied nodes texts all → AreStated nodes texts (flat_map (λ p. winners_for p all) ps)
each_winner nodes texts all [] h = tt
each_winner nodes texts all (p ∷ ps) h =
    all_append (IsStated nodes texts) (winners_for p all) (flat_map (λ q. winners_for q all) ps)
    (greatest_all nodes texts (of_prop p all) (filter_all (λ a. IsStated nodes texts a.claim) (λ a. is_prop a.claim.prop p) all h))
    (each_winner nodes texts all ps h)

-- ---- what a node comes to

value_allowed : (nodes : List Node) (texts : List (List ℕ)) (c : Claim) (o : Option Value) → c.value ≡ o → IsStated nodes texts c → AllByRecursion IsAllowed (set_by c.prop o)
value_allowed nodes texts c None e h = tt
value_allowed nodes texts c (Some v) e h = (h.allowed v e, tt)

setting_allowed : (nodes : List Node) (texts : List (List ℕ)) (b : Bool) (c : Claim) → IsStated nodes texts c → AllByRecursion IsAllowed (cond b [] (set_by c.prop c.value))
setting_allowed nodes texts true c h = tt
setting_allowed nodes texts false c h = value_allowed nodes texts c c.value refl h

pub settings_allowed : (nodes : List Node) (texts : List (List ℕ)) (replaced : Bool) (outer : Standing) (cs : List Claim) → AreStated nodes texts cs → AllByRecursion IsAllowed (settings_of replaced outer cs)
settings_allowed nodes texts replaced outer [] h = tt
settings_allowed nodes texts replaced outer (c ∷ cs) h =
    all_append IsAllowed (settings_by replaced outer c) (settings_of replaced outer cs) (setting_allowed nodes texts (is_refused replaced outer c) c h.0) (settings_allowed nodes texts replaced outer cs h.1)

-- a claim that is stated, if there is one
abbrev StatedIn : List Node → List (List ℕ) → Option Claim → Type 0
StatedIn nodes texts None = Unit {0}
StatedIn nodes texts (Some c) = IsStated nodes texts c

either_stated : (nodes : List Node) (texts : List (List ℕ)) (b : Bool) (x y : Option Claim) → StatedIn nodes texts x → StatedIn nodes texts y → StatedIn nodes texts (cond b x y)
either_stated nodes texts true x y h k = h
either_stated nodes texts false x y h k = k

refused_stated : (nodes : List Node) (texts : List (List ℕ)) (replaced : Bool) (outer : Standing) (cs : List Claim) → AreStated nodes texts cs → StatedIn nodes texts (first_refused replaced outer cs)
refused_stated nodes texts replaced outer [] h = tt
refused_stated nodes texts replaced outer (c ∷ cs) h = either_stated nodes texts (is_refused replaced outer c) (Some c) (first_refused replaced outer cs) h.0 (refused_stated nodes texts replaced outer cs h.1)

abbrev OutcomeStated : List Node → List (List ℕ) → Result (List Setting × Standing) Claim → Type 0
OutcomeStated nodes texts (Ok come) = AllByRecursion IsAllowed come.0
OutcomeStated nodes texts (Err c) = IsStated nodes texts c

outcome_stated : (nodes : List Node) (texts : List (List ℕ)) (outer : Standing) (hidden : Bool) (settings : List Setting) (o : Option Claim) → AllByRecursion IsAllowed settings → StatedIn nodes texts o → OutcomeStated nodes texts (node_outcome outer hidden settings o)
outcome_stated nodes texts outer hidden settings (Some c) h k = k
outcome_stated nodes texts outer hidden settings None h k = h

judged_stated : (nodes : List Node) (texts : List (List ℕ)) (replaced : Bool) (outer : Standing) (cs : List Claim) → AreStated nodes texts cs → OutcomeStated nodes texts (judged replaced outer cs)
judged_stated nodes texts replaced outer cs h =
    outcome_stated nodes texts outer (is_hidden outer cs) (settings_of replaced outer cs) (refused_at (is_hidden outer cs) (first_refused replaced outer cs))
    (settings_allowed nodes texts replaced outer cs h) (either_stated nodes texts (is_hidden outer cs) None (first_refused replaced outer cs) tt (refused_stated nodes texts replaced outer cs h))

node_stated : {nodes : List Node} {rulesets : List Ruleset} {standings : List Standing} {n : ℕ} {node : Node} {r : Result (List Setting × Standing) Claim} (texts : List (List ℕ)) → slice_get nodes n ≡ Some node → AllByRecursion (IsStatedRuleset nodes texts) rulesets → ComesTo nodes rulesets standings n node r → OutcomeStated nodes texts r
node_stated {nodes} {node = node} texts at h (comes_to {all = all} applies) = judged_stated nodes texts _ _ _ (each_winner nodes texts all properties (all_applied_stated texts node at refl h applies))

-- ---- all nodes

abbrev pub IsOneNode : List Setting → Type 0
IsOneNode settings = IsInOrder settings × AllByRecursion IsAllowed settings

abbrev pub Ends : List Node → List (List ℕ) → Result (List (List Setting)) Fault → Type 0
Ends nodes texts (Ok all) = (length all ≡ length nodes) × AllByRecursion IsOneNode all
Ends nodes texts (Err fault) = IsPlaced nodes texts fault

goes_ends : {nodes : List Node} {rulesets : List Ruleset} {standings : List Standing} {winners : List (List Setting)} {rest : List Node} {answer : Result (List (List Setting)) Fault} (texts : List (List ℕ)) → AllByRecursion (IsStatedRuleset nodes texts) rulesets → Goes nodes rulesets standings winners rest answer
    → AllByRecursion IsOneNode winners → IsRest (length winners) rest nodes → length nodes ≡ length winners + length rest → Ends nodes texts answer
goes_ends texts good Goes.ends h from e = (let l = e in omega arith, h)
goes_ends {nodes} texts good (Goes.refuses {winners = winners} {node = node} {rest = rest} come) h from e =
    let at = rest_here (length winners) node rest nodes from in
    let k = node_stated texts at good come in
    (slice_get_within nodes (length winners) node at, (k.value, k.stands))
goes_ends {nodes} texts good (Goes.goes_on {winners = winners} {node = node} {rest = rest} {settings = settings} come more) h from e =
    let longer : length (winners ++ settings ∷ []) ≡ suc (length winners) = length-append winners (settings ∷ []) ∙ (let s : length winners + 1 ≡ suc (length winners) = omega arith in s) in
    goes_ends texts good more
    (all_append IsOneNode winners (settings ∷ []) h ((node_in_order come, node_stated texts (rest_here (length winners) node rest nodes from) good come), tt))
    (subst (λ n. IsRest n rest nodes) (sym longer) (rest_more (length winners) node rest nodes from))
    (omega arith)

pub selector_placed : (nodes : List Node) (texts : List (List ℕ)) (sheet at : ℕ) → IsInRange texts (sheet, at) → Ends nodes texts (Err (selector_at sheet at))
selector_placed nodes texts sheet at h = slice_get_within texts (suc sheet) h.0 h.1

cascade_ends : (nodes : List Node) (texts : List (List ℕ)) (sheets : List Sheet) (answer : Result (List (List Setting)) Fault) → IsCascade nodes texts sheets answer → Ends nodes texts answer
cascade_ends nodes texts sheets _ (IsCascade.refused_selector {sheet = sheet} {at = at} r) = selector_placed nodes texts sheet at (rulesets_read None nodes texts sheets _ r)
cascade_ends nodes texts sheets answer (IsCascade.cascaded {rulesets = rulesets} r goes) =
    goes_ends texts (rulesets_read None nodes texts sheets (Ok rulesets) r) goes tt (rest_whole nodes) (let e : length nodes ≡ 0 + length nodes = omega arith in e)

pub orders_of : (all : List (List Setting)) → AllByRecursion IsOneNode all → AllByRecursion IsInOrder all
orders_of [] h = tt
orders_of (x ∷ all) h = (h.0.0, orders_of all h.1)

pub values_of : (all : List (List Setting)) → AllByRecursion IsOneNode all → AllByRecursion (AllByRecursion IsAllowed) all
values_of [] h = tt
values_of (x ∷ all) h = (h.0.1, values_of all h.1)

pub lists_on : (r : Result Cascaded CascadeFault) (nodes : List Node) (texts : List (List ℕ)) (sheets : List Sheet) → GivesOneOf (λ c. c.winners) refusal_of r (IsCascade nodes texts sheets) → IfOk r (λ c. AreWinners nodes c.winners)
lists_on (Ok c) nodes texts sheets h =
    let k : Ends nodes texts (Ok c.winners) = cascade_ends nodes texts sheets (Ok c.winners) h in
    record { each = k.0; ordered = orders_of c.winners k.1; allowed = values_of c.winners k.1 }
lists_on (Err fault) nodes texts sheets h = tt

fault_placed : (nodes : List Node) (texts : List (List ℕ)) (sheets : List Sheet) (fault : CascadeFault) → GivesOneOf (λ (c : Cascaded). c.winners) refusal_of (Err fault) (IsCascade nodes texts sheets) → IfSome (refusal_of fault) (IsPlaced nodes texts)
fault_placed nodes texts sheets Mem h = tt
fault_placed nodes texts sheets (Selector s at) h = cascade_ends nodes texts sheets _ h
fault_placed nodes texts sheets (ValueAt n p source) h = cascade_ends nodes texts sheets _ h

pub places_on : (r : Result Cascaded CascadeFault) (nodes : List Node) (texts : List (List ℕ)) (sheets : List Sheet) → GivesOneOf (λ c. c.winners) refusal_of r (IsCascade nodes texts sheets) → IfErr r (λ fault. IfSome (refusal_of fault) (IsPlaced nodes texts))
places_on (Ok c) nodes texts sheets h = tt
places_on (Err fault) nodes texts sheets h = fault_placed nodes texts sheets fault h

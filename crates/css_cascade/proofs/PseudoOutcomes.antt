-- The winners at the pseudo-elements of the nodes: one list for each, with values that the table allows; and where what
-- refuses a page stands.
use Rattle.std.proofs.Common.{◌≡◌, ℕ, ◌+◌, suc, Bool, true, false, cond, List, [], ◌∷◌, ◌++◌, length, replicate, slice_get, Option, Some, None, Result, Ok, Err, refl, sym, ap, ◌∙◌, subst, arith, append_assoc, length-append, is_none}
use Rattle.std.proofs.lemmas.List.{append-nil}
use Rattle.std.specs.Prelude.{IfErr, IfOk, IfSome}
use Rattle.std.specs.List.{AllByRecursion}
use Rattle.std.proofs.lemmas.Option.{slice_get_within}
use Rattle.viz_base.specs.Answers.{FailsWith, GivesOneOf}
use Rattle.viz_base.specs.declared.nodes.Body.{Body}
use Rattle.viz_base.specs.declared.nodes.Body.TheVariants as of_body
use Rattle.viz_base.specs.declared.nodes.Node.{Node}
use Rattle.viz_base.specs.declared.selectors.Pseudo.{Pseudo}
use Rattle.viz_base.specs.declared.settings.Cascaded.{Cascaded}
use Rattle.viz_base.specs.declared.settings.Prop.{Prop}
use Rattle.viz_base.specs.declared.settings.Setting.{Setting}
use Rattle.viz_base.specs.declared.settings.Value.{Value}
use Rattle.viz_base.specs.declared.sheets.Sheet.{Sheet}
use Rattle.viz_base.proofs.ListLemmas.{all_append}
use Rattle.css_semantics.specs.declared.claims.Claim.{Claim}
use Rattle.css_semantics.specs.declared.claims.Ruleset.{Ruleset}
use Rattle.css_semantics.specs.Cascade.{Fault, selector_at}
use Rattle.css_semantics.specs.CascadeNodes.{around_root, refuses, set_by, settings_by, settings_of, winners_of}
use Rattle.css_semantics.specs.CascadeOrder.{Applied}
use Rattle.css_semantics.specs.CascadeReading.{AreAppliedBeside, AreRulesets, Each}
use Rattle.css_semantics.specs.Properties.{properties}
use Rattle.css_semantics.specs.PseudoCascade.{ComesToBeside, GoesBeside, IsPseudoCascade, first_unsupported, settings_beside}
use Rattle.css_semantics.specs.Winners.{AreWinners, IsAllowed, IsInOrder}
use Rattle.css_cascade.specs.declared.faults.CascadeFault.{CascadeFault}
use Rattle.css_cascade.specs.declared.faults.CascadeFault.TheVariants.{Mem, Selector, Value as ValueAt}
use Rattle.css_cascade.specs.Faults.{BySelector, IsPlaced, refusal_of}
use Rattle.css_cascade.proofs.Claims.{AreStated, IsRest, IsStated, IsStatedRuleset, all_beside_stated, rest_here, rest_more, rest_whole, rulesets_read}
use Rattle.css_cascade.proofs.Orders.{each_among}
use Rattle.css_cascade.proofs.Outcomes.{Ends, IsOneNode, each_winner, orders_of, selector_placed, settings_allowed, values_of}

-- ---- what a pseudo-element sets is what an element that isn't replaced would

no_setting : (b : Bool) → ◌≡◌ {A = List Setting} (cond b [] []) []
no_setting true = refl
no_setting false = refl

one_setting : (p : Prop) (o : Option Value) → cond (refuses false around_root p o) [] (set_by p o) ≡ set_by p o
one_setting p None = no_setting (refuses false around_root p None)
one_setting p (Some v) = refl

settings_same : (cs : List Claim) → settings_of false around_root cs ≡ settings_beside cs
settings_same [] = refl
settings_same (c ∷ cs) = ap (λ xs. xs ++ settings_of false around_root cs) (one_setting c.prop c.value) ∙ ap (λ xs. set_by c.prop c.value ++ xs) (settings_same cs)

beside_in_order : (all : List Applied) → IsInOrder (settings_beside (winners_of all))
beside_in_order all = subst IsInOrder (settings_same (winners_of all)) (each_among false around_root all properties)

beside_allowed : (nodes : List Node) (texts : List (List ℕ)) (cs : List Claim) → AreStated nodes texts cs → AllByRecursion IsAllowed (settings_beside cs)
beside_allowed nodes texts cs h = subst (AllByRecursion IsAllowed) (settings_same cs) (settings_allowed nodes texts false around_root cs h)

-- ---- what is refused is stated

unsupported_by : (nodes : List Node) (texts : List (List ℕ)) (b : Bool) (x : Claim) (o : Option Claim) (c : Claim) → IsStated nodes texts x → ((d : Claim) → o ≡ Some d → IsStated nodes texts d) → cond b (Some x) o ≡ Some c → IsStated nodes texts c
unsupported_by nodes texts true x o c h k e = let same : x ≡ c = cc in subst (IsStated nodes texts) same h
unsupported_by nodes texts false x o c h k e = k c e

unsupported_stated : (nodes : List Node) (texts : List (List ℕ)) (cs : List Claim) (c : Claim) → AreStated nodes texts cs → first_unsupported cs ≡ Some c → IsStated nodes texts c
unsupported_stated nodes texts [] c h e = cc
unsupported_stated nodes texts (x ∷ cs) c h e = unsupported_by nodes texts (is_none x.value) x (first_unsupported cs) c h.0 (λ d f. unsupported_stated nodes texts cs d h.1 f) e

-- ---- one node

abbrev NodeEnds : List Node → List (List ℕ) → Result (List Setting) Claim → Type 0
NodeEnds nodes texts (Ok settings) = IsOneNode settings
NodeEnds nodes texts (Err c) = IsStated nodes texts c

node_ends : {nodes : List Node} {texts : List (List ℕ)} {sheets : List Sheet} {rulesets : List Ruleset} {n : ℕ} {node : Node} {r : Result (List Setting) Claim} → AllByRecursion (IsStatedRuleset nodes texts) rulesets → ComesToBeside nodes texts sheets rulesets n node r → NodeEnds nodes texts r
node_ends {nodes} {texts} good (ComesToBeside.refused {all = all} {c = c} applied f) = unsupported_stated nodes texts (winners_of all) c (each_winner nodes texts all properties (all_beside_stated texts good applied)) f.first
node_ends {nodes} {texts} good (ComesToBeside.given {all = all} applied f) = (beside_in_order all, beside_allowed nodes texts (winners_of all) (each_winner nodes texts all properties (all_beside_stated texts good applied)))

-- ---- all nodes

goes_ends : {nodes : List Node} {texts : List (List ℕ)} {sheets : List Sheet} {rulesets : List Ruleset} {winners : List (List Setting)} {rest : List Node} {answer : Result (List (List Setting)) Fault} → AllByRecursion (IsStatedRuleset nodes texts) rulesets → GoesBeside nodes texts sheets rulesets winners rest answer
    → AllByRecursion IsOneNode winners → IsRest (length winners) rest nodes → length nodes ≡ length winners + length rest → Ends nodes texts answer
goes_ends good GoesBeside.ends h from e = (let l = e in omega arith, h)
goes_ends {nodes} good (GoesBeside.refuses {winners = winners} {node = node} {rest = rest} come) h from e =
    let at = rest_here (length winners) node rest nodes from in
    let k = node_ends good come in
    (slice_get_within nodes (length winners) node at, (k.value, k.stands))
goes_ends {nodes} good (GoesBeside.goes_on {winners = winners} {node = node} {rest = rest} {settings = settings} come more) h from e =
    let longer : length (winners ++ settings ∷ []) ≡ suc (length winners) = length-append winners (settings ∷ []) ∙ (let s : length winners + 1 ≡ suc (length winners) = omega arith in s) in
    goes_ends good more
    (all_append IsOneNode winners (settings ∷ []) h (node_ends good come, tt))
    (subst (λ n. IsRest n rest nodes) (sym longer) (rest_more (length winners) node rest nodes from))
    (omega arith)

pseudo_ends : (nodes : List Node) (texts : List (List ℕ)) (sheets : List Sheet) (which : Pseudo) (answer : Result (List (List Setting)) Fault) → IsPseudoCascade nodes texts sheets which answer → Ends nodes texts answer
pseudo_ends nodes texts sheets which _ (IsPseudoCascade.refused_selector {sheet = sheet} {at = at} r) = selector_placed nodes texts sheet at (rulesets_read (Some which) nodes texts sheets _ r)
pseudo_ends nodes texts sheets which answer (IsPseudoCascade.cascaded {rulesets = rulesets} r goes) =
    goes_ends (rulesets_read (Some which) nodes texts sheets (Ok rulesets) r) goes tt (rest_whole nodes) (let e : length nodes ≡ 0 + length nodes = omega arith in e)

pub pseudo_lists : (r : Result Cascaded CascadeFault) (nodes : List Node) (texts : List (List ℕ)) (sheets : List Sheet) (which : Pseudo) → GivesOneOf (λ c. c.winners) refusal_of r (IsPseudoCascade nodes texts sheets which) → IfOk r (λ c. AreWinners nodes c.winners)
pseudo_lists (Ok c) nodes texts sheets which h =
    let k : Ends nodes texts (Ok c.winners) = pseudo_ends nodes texts sheets which (Ok c.winners) h in
    record { each = k.0; ordered = orders_of c.winners k.1; allowed = values_of c.winners k.1 }
pseudo_lists (Err fault) nodes texts sheets which h = tt

fault_placed : (nodes : List Node) (texts : List (List ℕ)) (sheets : List Sheet) (which : Pseudo) (fault : CascadeFault) → GivesOneOf (λ (c : Cascaded). c.winners) refusal_of (Err fault) (IsPseudoCascade nodes texts sheets which) → IfSome (refusal_of fault) (IsPlaced nodes texts)
fault_placed nodes texts sheets which Mem h = tt
fault_placed nodes texts sheets which (Selector s at) h = pseudo_ends nodes texts sheets which _ h
fault_placed nodes texts sheets which (ValueAt n p source) h = pseudo_ends nodes texts sheets which _ h

pub pseudo_places : (r : Result Cascaded CascadeFault) (nodes : List Node) (texts : List (List ℕ)) (sheets : List Sheet) (which : Pseudo) → GivesOneOf (λ c. c.winners) refusal_of r (IsPseudoCascade nodes texts sheets which) → IfErr r (λ fault. IfSome (refusal_of fault) (IsPlaced nodes texts))
pseudo_places (Ok c) nodes texts sheets which h = tt
pseudo_places (Err fault) nodes texts sheets which h = fault_placed nodes texts sheets which fault h

-- ---- where no rule has the pseudo-element

nothing_applies : (nodes : List Node) (n : ℕ) (body : Body) → AreAppliedBeside nodes [] n body []
nothing_applies nodes n (of_body.Element e) = AreAppliedBeside.to_element Each.nothing
nothing_applies nodes n (of_body.Chars text) = AreAppliedBeside.to_text

nothing_comes : (nodes : List Node) (texts : List (List ℕ)) (sheets : List Sheet) (n : ℕ) (node : Node) → ComesToBeside nodes texts sheets [] n node (Ok [])
nothing_comes nodes texts sheets n node = ComesToBeside.given (nothing_applies nodes n node.body) (λ c f. let asked = f.asked in cc)

push_nothing : (k : ℕ) (winners : List (List Setting)) → (winners ++ [] ∷ []) ++ replicate k [] ≡ winners ++ replicate (suc k) []
push_nothing k winners = append_assoc winners ([] ∷ []) (replicate k [])

nothing_goes : (nodes : List Node) (texts : List (List ℕ)) (sheets : List Sheet) (winners : List (List Setting)) (rest : List Node) → GoesBeside nodes texts sheets [] winners rest (Ok (winners ++ replicate (length rest) []))
nothing_goes nodes texts sheets winners [] = subst (λ ws. GoesBeside nodes texts sheets [] winners [] (Ok ws)) (sym (append-nil winners)) GoesBeside.ends
nothing_goes nodes texts sheets winners (node ∷ rest) =
    GoesBeside.goes_on (nothing_comes nodes texts sheets (length winners) node)
    (subst (λ ws. GoesBeside nodes texts sheets [] (winners ++ [] ∷ []) rest (Ok ws)) (push_nothing (length rest) winners) (nothing_goes nodes texts sheets (winners ++ [] ∷ []) rest))

pub no_pseudo : (nodes : List Node) (texts : List (List ℕ)) (sheets : List Sheet) (which : Pseudo) (rulesets : List Ruleset) → rulesets ≡ [] → AreRulesets (Some which) texts sheets (Ok rulesets) → IsPseudoCascade nodes texts sheets which (Ok (replicate (length nodes) []))
no_pseudo nodes texts sheets which rulesets e h = IsPseudoCascade.cascaded (subst (λ rs. AreRulesets (Some which) texts sheets (Ok rs)) e h) (nothing_goes nodes texts sheets [] nodes)

-- ---- a refused selector

pub refused_pseudo : (nodes : List Node) (texts : List (List ℕ)) (sheets : List Sheet) (which : Pseudo) (fault : CascadeFault) → FailsWith (refusal_of fault) (BySelector (AreRulesets (Some which) texts sheets)) → FailsWith (refusal_of fault) (IsPseudoCascade nodes texts sheets which)
refused_pseudo nodes texts sheets which Mem h = h
refused_pseudo nodes texts sheets which (Selector s at) h = IsPseudoCascade.refused_selector h
refused_pseudo nodes texts sheets which (ValueAt n p source) h = absurd h

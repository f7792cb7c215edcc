-- The settings of a node: each property at most once, in the order of the table.
use Rattle.std.proofs.Common.{◌≡◌, ℕ, Bool, true, false, cond, ◌&&◌, List, [], ◌∷◌, ◌++◌, map, filter, Option, Some, None, Result, Ok, Err, refl, sym, ap, ◌∙◌, subst}
use Rattle.std.specs.Prelude.{flat_map}
use Rattle.std.specs.List.{list_all}
use Rattle.std.specs.Option.{option_to_list}
use Rattle.std.specs.Ordering.{is_gt}
use Rattle.std.proofs.lemmas.Bool.{and_parts}
use Rattle.viz_base.specs.declared.nodes.Node.{Node}
use Rattle.viz_base.specs.declared.settings.Prop.{Prop}
use Rattle.viz_base.specs.declared.settings.Prop.TheVariants as prop
use Rattle.viz_base.specs.declared.settings.Setting.{Setting}
use Rattle.viz_base.specs.declared.settings.Value.{Value}
use Rattle.viz_base.proofs.Truths.{by_bool}
use Rattle.css_cascade.proofs.Winners.{is_of}
use Rattle.css_semantics.specs.declared.claims.Claim.{Claim}
use Rattle.css_semantics.specs.declared.claims.Ruleset.{Ruleset}
use Rattle.css_semantics.specs.declared.claims.Standing.{Standing}
use Rattle.css_semantics.specs.Cascade.{ComesTo, comes_to}
use Rattle.css_semantics.specs.CascadeNodes.{first_refused, is_hidden, is_refused, judged, node_outcome, refused_at, set_by, settings_of, winners_for, winners_of}
use Rattle.css_semantics.specs.CascadeOrder.{Applied, cascade_cmp, greatest, greatest_from, later_of, of_prop, winner_of}
use Rattle.css_semantics.specs.Properties.{properties}
use Rattle.css_semantics.specs.ValuesLaws.{IsAmong, none, passed, props, taken}
use Rattle.css_semantics.specs.Winners.{IsInOrder}
use Rattle.css_semantics.proofs.PropLemmas.{same_prop}

-- ---- the property of a winner

all_pass : (p : Prop) (all : List Applied) → list_all (is_of p) (filter (is_of p) all) ≡ true
all_pass p [] = refl
all_pass p (a ∷ all) =
    by_bool (is_of p a)
    (λ t. subst (λ b. list_all (is_of p) (cond b (a ∷ filter (is_of p) all) (filter (is_of p) all)) ≡ true) (sym t) (ap (λ b. b && list_all (is_of p) (filter (is_of p) all)) t ∙ all_pass p all))
    (λ f. subst (λ b. list_all (is_of p) (cond b (a ∷ filter (is_of p) all) (filter (is_of p) all)) ≡ true) (sym f) (all_pass p all))

one_of_two : (p : Prop) (b : Bool) (x y : Applied) → is_of p x ≡ true → is_of p y ≡ true → is_of p (cond b x y) ≡ true
one_of_two p true x y e f = e
one_of_two p false x y e f = f

from_passes : (p : Prop) (best : Applied) (all : List Applied) → is_of p best ≡ true → list_all (is_of p) all ≡ true → is_of p (greatest_from cascade_cmp best all) ≡ true
from_passes p best [] e f = e
from_passes p best (a ∷ all) e f =
    let h = and_parts (is_of p a) (list_all (is_of p) all) f in
    from_passes p (later_of cascade_cmp best a) all (one_of_two p (is_gt (cascade_cmp best a)) best a e h.0) h.1

abbrev pub HasProp : Prop → Option Applied → Type 0
HasProp p None = Unit {0}
HasProp p (Some a) = a.claim.prop ≡ p

greatest_passes : (p : Prop) (all : List Applied) → list_all (is_of p) all ≡ true → HasProp p (greatest cascade_cmp all)
greatest_passes p [] e = tt
greatest_passes p (a ∷ all) e =
    let h = and_parts (is_of p a) (list_all (is_of p) all) e in
    same_prop (greatest_from cascade_cmp a all).claim.prop p (from_passes p a all h.0 h.1)

pub winner_has : (p : Prop) (all : List Applied) → HasProp p (winner_of p all)
winner_has p all = greatest_passes p (of_prop p all) (all_pass p all)

-- ---- the settings of one node

value_among : (p : Prop) (c : Prop) (v : Option Value) (rest : List Setting) (ps : List Prop) → c ≡ p → IsAmong (props rest) ps → IsAmong (props (set_by c v ++ rest)) (p ∷ ps)
value_among p c None rest ps e h = passed h
value_among p c (Some v) rest ps e h = subst (λ q. IsAmong (q ∷ props rest) (p ∷ ps)) (sym e) (taken h)

either_among : (b : Bool) (p : Prop) (c : Claim) (rest : List Setting) (ps : List Prop) → c.prop ≡ p → IsAmong (props rest) ps → IsAmong (props (cond b [] (set_by c.prop c.value) ++ rest)) (p ∷ ps)
either_among true p c rest ps e h = passed h
either_among false p c rest ps e h = value_among p c.prop c.value rest ps e h

one_among : (replaced : Bool) (outer : Standing) (p : Prop) (o : Option Applied) (rest : List Claim) (ps : List Prop) → HasProp p o → IsAmong (props (settings_of replaced outer rest)) ps → IsAmong (props (settings_of replaced outer (map (λ a. a.claim) (option_to_list o) ++ rest))) (p ∷ ps)
one_among replaced outer p None rest ps e h = passed h
one_among replaced outer p (Some a) rest ps e h = either_among (is_refused replaced outer a.claim) p a.claim (settings_of replaced outer rest) ps e h

pub each_among : (replaced : Bool) (outer : Standing) (all : List Applied) (ps : List Prop) → IsAmong (props (settings_of replaced outer (flat_map (λ p. winners_for p all) ps))) ps
each_among replaced outer all [] = none
each_among replaced outer all (p ∷ ps) = one_among replaced outer p (winner_of p all) (flat_map (λ q. winners_for q all) ps) ps (winner_has p all) (each_among replaced outer all ps)

abbrev pub OutcomeInOrder : Result (List Setting × Standing) Claim → Type 0
OutcomeInOrder (Ok come) = IsInOrder come.0
OutcomeInOrder (Err c) = Unit {0}

outcome_in_order : (outer : Standing) (hidden : Bool) (settings : List Setting) (c : Option Claim) → IsInOrder settings → OutcomeInOrder (node_outcome outer hidden settings c)
outcome_in_order outer hidden settings (Some c) h = tt
outcome_in_order outer hidden settings None h = h

judged_in_order : (replaced : Bool) (outer : Standing) (all : List Applied) → OutcomeInOrder (judged replaced outer (winners_of all))
judged_in_order replaced outer all =
    outcome_in_order outer (is_hidden outer (winners_of all)) (settings_of replaced outer (winners_of all))
    (refused_at (is_hidden outer (winners_of all)) (first_refused replaced outer (winners_of all))) (each_among replaced outer all properties)

pub node_in_order : {nodes : List Node} {rulesets : List Ruleset} {standings : List Standing} {n : ℕ} {node : Node} {r : Result (List Setting × Standing) Claim} → ComesTo nodes rulesets standings n node r → OutcomeInOrder r
node_in_order (comes_to {all = all} h) = judged_in_order _ _ all

-- What beats what by its weight alone, and what is hidden.
use Rattle.std.proofs.Common.{◌≡◌, Bool, true, false, cond, ◌||◌, List, [], ◌∷◌, filter, Option, Some, None, refl, sym, ap, ◌∙◌, subst}
use Rattle.std.proofs.Math.Bool.{or-true}
use Rattle.std.specs.Ordering.{nat_cmp, is_gt, ordering_then}
use Rattle.std.specs.declared.cmp.Ordering.{Ordering}
use Rattle.std.specs.declared.cmp.Ordering.TheVariants.{Less, Greater}
use Rattle.std.specs.List.{list_any}
use Rattle.viz_base.specs.declared.settings.Prop.{Prop}
use Rattle.viz_base.specs.declared.settings.Setting.{Setting}
use Rattle.viz_base.specs.declared.sheets.Decl.{Decl}
use Rattle.viz_base.proofs.Truths.{same_number}
use Rattle.css_semantics.specs.declared.claims.Claim.{Claim}
use Rattle.css_semantics.specs.declared.claims.Origin.{Origin}
use Rattle.css_semantics.specs.declared.claims.Origin.TheVariants as of_origin
use Rattle.css_semantics.specs.declared.claims.Standing.{Standing}
use Rattle.css_semantics.specs.declared.claims.Weight.{Weight}
use Rattle.css_semantics.specs.declared.claims.Weight.TheVariants.{Default, Normal, Important}
use Rattle.css_semantics.specs.CascadeOrder.{Applied, applied, cascade_cmp, greatest, spec_cmp, of_prop, is_prop, place_of, weight_number}
use Rattle.css_semantics.specs.CascadeReading.{claim_of, weight_of}
use Rattle.css_semantics.specs.CascadeNodes.{hides, is_hidden, judged, node_outcome, settings_of, first_refused, refused_at}
use Rattle.css_semantics.specs.CascadeLaws.{Beats, Overrides, IsHiddenOutcome, IsImportant, IsShownOutcome, is_author}

in_turn : (o r : Ordering) → o ≡ Greater → ordering_then o r ≡ Greater
in_turn o r e = ap (λ x. ordering_then x r) e

in_turn_less : (o r : Ordering) → o ≡ Less → ordering_then o r ≡ Less
in_turn_less o r e = ap (λ x. ordering_then x r) e

both_of : (p : Prop) (a b : Applied) → is_prop a.claim.prop p ≡ true → is_prop b.claim.prop p ≡ true → of_prop p (a ∷ b ∷ []) ≡ a ∷ b ∷ []
both_of p a b e f = ap (λ x. cond x (a ∷ filter (λ y. is_prop y.claim.prop p) (b ∷ [])) (filter (λ y. is_prop y.claim.prop p) (b ∷ []))) e ∙ ap (λ x. a ∷ cond x (b ∷ []) []) f

-- one that outweighs another
abbrev Outweighs : Weight → Weight → Type 0
Outweighs a b = (nat_cmp (weight_number a) (weight_number b) ≡ Greater) × (nat_cmp (weight_number b) (weight_number a) ≡ Less)

by_weight : (p : Prop) (a b : Applied) → is_prop a.claim.prop p ≡ true → is_prop b.claim.prop p ≡ true → Outweighs a.claim.weight b.claim.weight → Beats p a b
by_weight p a b e f h = (
  ap (greatest cascade_cmp) (both_of p a b e f) ∙ ap (λ o. Some (cond (is_gt o) a b)) (in_turn _ (spec_cmp a.spec b.spec) h.0),
  ap (greatest cascade_cmp) (both_of p b a f e) ∙ ap (λ o. Some (cond (is_gt o) b a)) (in_turn_less _ (spec_cmp b.spec a.spec) h.1),
)

overrides_by : (o q : Origin) (d e : Decl) → Outweighs (weight_of o d.important) (weight_of q e.important) → Overrides o d q e
overrides_by o q d e h = λ p s t v w. by_weight p (applied s (claim_of o d p v)) (applied t (claim_of q e p w)) (same_number (place_of p)) (same_number (place_of p)) h

author_weight : (o : Origin) (b : Bool) → is_author o ≡ true → weight_of o b ≡ cond b Important Normal
author_weight of_origin.Default b h = cc
author_weight (of_origin.Author sheet) b h = refl
author_weight (of_origin.Style node) b h = refl

default_weight : (o : Origin) (b : Bool) → is_author o ≡ false → weight_of o b ≡ Default
default_weight of_origin.Default b h = refl
default_weight (of_origin.Author sheet) b h = cc
default_weight (of_origin.Style node) b h = cc

outweighs_default : (b : Bool) → Outweighs (cond b Important Normal) Default
outweighs_default true = (refl, refl)
outweighs_default false = (refl, refl)

over_normal : (q : Origin) (b c : Bool) → b ≡ true → c ≡ false → Outweighs (cond b Important Normal) (weight_of q c)
over_normal of_origin.Default b c e f = outweighs_default b
over_normal (of_origin.Author sheet) b c e f = rw (e, f) (refl, refl)
over_normal (of_origin.Style node) b c e f = rw (e, f) (refl, refl)

pub important_over : (o q : Origin) (d e : Decl) → IsImportant o d → e.important ≡ false → Overrides o d q e
important_over o q d e h n = overrides_by o q d e (subst (λ w. Outweighs w (weight_of q e.important)) (sym (author_weight o d.important h.0)) (over_normal q d.important e.important h.1 n))

pub author_over : (o q : Origin) (d e : Decl) → is_author o ≡ true → is_author q ≡ false → Overrides o d q e
author_over o q d e h i =
    overrides_by o q d e
    (subst (λ w. Outweighs w (weight_of q e.important)) (sym (author_weight o d.important h))
    (subst (λ w. Outweighs (cond d.important Important Normal) w) (sym (default_weight q e.important i)) (outweighs_default d.important)))

-- ---- what is hidden

hidden_out : (outer : Standing) (hidden : Bool) (settings : List Setting) (c : Option Claim) → hidden ≡ true → IsHiddenOutcome (node_outcome outer hidden settings (refused_at hidden c))
hidden_out outer true settings c e = refl
hidden_out outer false settings c e = cc

shown_out : (outer : Standing) (hidden : Bool) (settings : List Setting) (c : Option Claim) → hidden ≡ false → IsShownOutcome (node_outcome outer hidden settings c)
shown_out outer hidden settings (Some c) e = tt
shown_out outer hidden settings None e = e

pub hidden_below : (replaced : Bool) (outer : Standing) (winners : List Claim) → outer.hidden ≡ true → IsHiddenOutcome (judged replaced outer winners)
hidden_below replaced outer winners e =
    hidden_out outer (is_hidden outer winners) (settings_of replaced outer winners) (first_refused replaced outer winners) (ap (λ x. x || list_any hides winners) e)

pub hidden_self : (replaced : Bool) (outer : Standing) (winners : List Claim) → list_any hides winners ≡ true → IsHiddenOutcome (judged replaced outer winners)
hidden_self replaced outer winners e =
    hidden_out outer (is_hidden outer winners) (settings_of replaced outer winners) (first_refused replaced outer winners) (ap (λ x. outer.hidden || x) e ∙ or-true outer.hidden)

pub shown_else : (replaced : Bool) (outer : Standing) (winners : List Claim) → outer.hidden ≡ false → list_any hides winners ≡ false → IsShownOutcome (judged replaced outer winners)
shown_else replaced outer winners e f =
    shown_out outer (is_hidden outer winners) (settings_of replaced outer winners) (refused_at (is_hidden outer winners) (first_refused replaced outer winners)) (ap (λ x. x || list_any hides winners) e ∙ f)

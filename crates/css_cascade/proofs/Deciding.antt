-- Of what a ruleset says of a property, its own winner alone decides, by whatever specificity the ruleset applies.
use Rattle.std.proofs.Common.{◌≡◌, ℕ, ◌+◌, drop, Bool, true, false, cond, List, [], ◌∷◌, ◌++◌, map, filter, Option, Some, None, refl, sym, ap, ◌∙◌, subst}
use Rattle.std.specs.Prelude.{flat_map}
use Rattle.std.specs.List.{AllByRecursion}
use Rattle.std.specs.Ordering.{nat_cmp, on, is_gt, ordering_reverse, ordering_then}
use Rattle.std.specs.declared.cmp.Ordering.{Ordering}
use Rattle.std.specs.declared.cmp.Ordering.TheVariants.{Less, Equal, Greater}
use Rattle.std.proofs.lemmas.Cmp.{upto}
use Rattle.viz_base.specs.declared.selectors.Spec.{Spec}
use Rattle.viz_base.specs.declared.settings.Prop.{Prop}
use Rattle.viz_base.specs.declared.settings.Prop.TheVariants as prop
use Rattle.viz_base.proofs.Truths.{by_bool, not_both, same_number}
use Rattle.css_semantics.specs.declared.claims.Claim.{Claim}
use Rattle.css_semantics.specs.declared.claims.Ruleset.{Ruleset}
use Rattle.css_semantics.specs.CascadeNodes.{winners_for}
use Rattle.css_semantics.specs.CascadeOrder.{Applied, applied, cascade_cmp, greatest, greatest_from, is_prop, later_of, of_prop, place_of, spec_cmp, weight_number, winner_of}
use Rattle.css_semantics.specs.Properties.{properties}
use Rattle.css_semantics.proofs.Greatest.{cascade_total, spec_total}
use Rattle.css_semantics.proofs.PropLemmas.{same_prop}
use Rattle.css_cascade.specs.steps.Seen.{claims_in, greatest_on, kept_all, later_or, winner_on}
use Rattle.css_cascade.specs.declared.trimming.Trimmed.{Trimmed}
use Rattle.css_cascade.specs.steps.Trimming.{IsTrimmed, LastsAs, rules_of}
use Rattle.css_cascade.proofs.Orders.{HasProp, winner_has}
use Rattle.css_cascade.proofs.Slots.{all_kept, claims_are, slots_are}
use Rattle.css_cascade.proofs.Winners.{kept, nothing}

-- ---- later of three

gt_back : (o p : Ordering) → o ≡ ordering_reverse p → is_gt o ≡ true → is_gt p ≡ false
gt_back o Less e h = refl
gt_back o Equal e h = refl
gt_back o Greater e h = let same : o ≡ Less = e in let no : is_gt Less ≡ true = subst (λ x. is_gt x ≡ true) same h in cc

abbrev passes : Applied → Applied → Bool
passes x y = is_gt (cascade_cmp x y)

abbrev Joined : Applied → Applied → Applied → Bool → Bool → Type 0
Joined x y z a b = cond (passes (cond a x y) z) (cond a x y) z ≡ cond (passes x (cond b y z)) x (cond b y z)

passes_through : (x y z : Applied) → passes x y ≡ true → passes y z ≡ true → passes x z ≡ false → passes x y ≡ false
passes_through x y z p q r = upto cascade_total x z y r (gt_back (cascade_cmp y z) (cascade_cmp z y) (cascade_total.antisymm y z) q)

joined : (x y z : Applied) (a b : Bool) → passes x y ≡ a → passes y z ≡ b → Joined x y z a b
joined x y z true false p q = refl
joined x y z false true p q = ap (λ t. cond t y z) q ∙ sym (ap (λ t. cond t x y) p)
joined x y z true true p q =
    by_bool (passes x z)
    (λ r. ap (λ t. cond t x z) r ∙ sym (ap (λ t. cond t x y) p))
    (λ r. absurd (not_both (passes x y) p (passes_through x y z p q r)))
joined x y z false false p q = ap (λ t. cond t y z) q ∙ sym (ap (λ t. cond t x z) (upto cascade_total x y z p q))

of_three : (x y z : Applied) → later_of cascade_cmp (later_of cascade_cmp x y) z ≡ later_of cascade_cmp x (later_of cascade_cmp y z)
of_three x y z = joined x y z (passes x y) (passes y z) refl refl

grown_from : (x y : Applied) (ys : List Applied) → greatest_from cascade_cmp (later_of cascade_cmp x y) ys ≡ later_of cascade_cmp x (greatest_from cascade_cmp y ys)
grown_from x y [] = refl
grown_from x y (z ∷ ys) =
    ap (λ a. greatest_from cascade_cmp a ys) (of_three x y z)
    ∙ grown_from x (later_of cascade_cmp y z) ys

-- ---- of claims with one specificity

abbrev weigh : Claim → Claim → Ordering
weigh = on (λ c. weight_number c.weight) nat_cmp

level : (o : Ordering) → o ≡ ordering_reverse o → o ≡ Equal
level Less e = cc
level Equal e = refl
level Greater e = cc

first_alone : (o p : Ordering) → p ≡ Equal → ordering_then o p ≡ o
first_alone Less p e = refl
first_alone Equal p e = e
first_alone Greater p e = refl

by_weight : (s : Spec) (a b : Claim) → cascade_cmp (applied s a) (applied s b) ≡ weigh a b
by_weight s a b = first_alone (weigh a b) (spec_cmp s s) (level (spec_cmp s s) (spec_total.antisymm s s))

either_applied : (s : Spec) (b : Bool) (x y : Claim) → cond b (applied s x) (applied s y) ≡ applied s (cond b x y)
either_applied s true x y = refl
either_applied s false x y = refl

later_claim : (s : Spec) (a b : Claim) → later_of cascade_cmp (applied s a) (applied s b) ≡ applied s (later_of weigh a b)
later_claim s a b = ap (λ o. cond (is_gt o) (applied s a) (applied s b)) (by_weight s a b) ∙ either_applied s (is_gt (weigh a b)) a b

from_claims : (s : Spec) (c : Claim) (cs : List Claim) → greatest_from cascade_cmp (applied s c) (map (applied s) cs) ≡ applied s (greatest_from weigh c cs)
from_claims s c [] = refl
from_claims s c (d ∷ cs) = ap (λ a. greatest_from cascade_cmp a (map (applied s) cs)) (later_claim s c d) ∙ from_claims s (later_of weigh c d) cs

abbrev claims_for : Prop → List Claim → List Claim
claims_for p cs = filter (λ c. is_prop c.prop p) cs

one_for : (s : Spec) (c : Claim) (xs : List Applied) (ys : List Claim) (b : Bool) → xs ≡ map (applied s) ys → cond b (applied s c ∷ xs) xs ≡ map (applied s) (cond b (c ∷ ys) ys)
one_for s c xs ys true e = ap (λ l. applied s c ∷ l) e
one_for s c xs ys false e = e

all_for : (p : Prop) (s : Spec) (cs : List Claim) → of_prop p (map (applied s) cs) ≡ map (applied s) (claims_for p cs)
all_for p s [] = refl
all_for p s (c ∷ cs) = one_for s c (of_prop p (map (applied s) cs)) (claims_for p cs) (is_prop c.prop p) (all_for p s cs)

-- the winner among claims decides behind whatever was the winner before them
decides : (s : Spec) (b : Option Applied) (c : Claim) (cs : List Claim) → Some (later_or b (applied s (greatest_from weigh c cs))) ≡ greatest_on cascade_cmp b (map (applied s) (c ∷ cs))
decides s None c cs = ap Some (sym (from_claims s c cs))
decides s (Some x) c cs = ap Some (ap (later_of cascade_cmp x) (sym (from_claims s c cs)) ∙ sym (grown_from x (applied s c) (map (applied s) cs)))

abbrev behind : Prop → Spec → Option Applied → Option Applied → Option Applied
behind p s b o = winner_on p b (map (applied s) (claims_in o))

-- of claims of one property
one_decides : (p : Prop) (r s : Spec) (b : Option Applied) (cs : List Claim) → HasProp p (greatest cascade_cmp (map (applied r) cs)) → behind p s b (greatest cascade_cmp (map (applied r) cs)) ≡ greatest_on cascade_cmp b (map (applied s) cs)
one_decides p r s b [] h = nothing b
one_decides p r s b (c ∷ cs) h =
    let won = greatest_from cascade_cmp (applied r c) (map (applied r) cs) in
    let of_p : is_prop won.claim.prop p ≡ true = ap (λ q. is_prop q p) h ∙ same_number (place_of p) in
    ap (λ t. cond t (Some (later_or b (applied s won.claim))) b) of_p
    ∙ ap (λ a. Some (later_or b (applied s a.claim))) (from_claims r c cs)
    ∙ decides s b c cs

behind_all : (p : Prop) (r s : Spec) (b : Option Applied) (cs : List Claim) → behind p s b (winner_of p (map (applied r) cs)) ≡ winner_on p b (map (applied s) cs)
behind_all p r s b cs =
    let found : winner_of p (map (applied r) cs) ≡ greatest cascade_cmp (map (applied r) (claims_for p cs)) = ap (greatest cascade_cmp) (all_for p r cs) in
    ap (behind p s b) found
    ∙ one_decides p r s b (claims_for p cs) (subst (HasProp p) found (winner_has p (map (applied r) cs)))
    ∙ ap (greatest_on cascade_cmp b) (sym (all_for p s cs))
    ∙ sym (kept p b (map (applied s) cs))

-- ---- of claims of all properties

-- what changes at one property of a list alone
abbrev through : {A : Type 0} → Prop → (A → A) → A → List Prop → A
through p f x [] = x
through p f x (q ∷ qs) = through p f (cond (is_prop q p) (f x) x) qs

once : {A : Type 0} (p : Prop) (f : A → A) (x : A) → through p f x properties ≡ f x
once prop.Display f x = refl
once prop.Position f x = refl
once prop.Float f x = refl
once prop.Clear f x = refl
once prop.Overflow f x = refl
once prop.Direction f x = refl
once prop.Width f x = refl
once prop.Height f x = refl
once prop.MinWidth f x = refl
once prop.MinHeight f x = refl
once prop.MaxWidth f x = refl
once prop.MaxHeight f x = refl
once prop.MarginTop f x = refl
once prop.MarginRight f x = refl
once prop.MarginBottom f x = refl
once prop.MarginLeft f x = refl
once prop.PaddingTop f x = refl
once prop.PaddingRight f x = refl
once prop.PaddingBottom f x = refl
once prop.PaddingLeft f x = refl
once prop.BorderTopWidth f x = refl
once prop.BorderRightWidth f x = refl
once prop.BorderBottomWidth f x = refl
once prop.BorderLeftWidth f x = refl
once prop.BorderTopStyle f x = refl
once prop.BorderRightStyle f x = refl
once prop.BorderBottomStyle f x = refl
once prop.BorderLeftStyle f x = refl
once prop.FontSize f x = refl
once prop.FontFamily f x = refl
once prop.LineHeight f x = refl
once prop.VerticalAlign f x = refl
once prop.TextAlign f x = refl
once prop.WhiteSpace f x = refl
once prop.TextIndent f x = refl
once prop.LetterSpacing f x = refl
once prop.WordSpacing f x = refl
once prop.TextTransform f x = refl
once prop.ListStylePosition f x = refl
once prop.Content f x = refl

passed : (p q : Prop) (s : Spec) (b o : Option Applied) (cs : List Claim) → HasProp q o → is_prop q p ≡ false → winner_on p b (map (applied s) (claims_in o ++ cs)) ≡ winner_on p b (map (applied s) cs)
passed p q s b None cs h f = refl
passed p q s b (Some a) cs h f = ap (λ t. winner_on p (cond t (Some (later_or b (applied s a.claim))) b) (map (applied s) cs)) (ap (λ r. is_prop r p) h ∙ f)

taken : (p : Prop) (s : Spec) (b o : Option Applied) (cs : List Claim) → winner_on p b (map (applied s) (claims_in o ++ cs)) ≡ winner_on p (behind p s b o) (map (applied s) cs)
taken p s b None cs = refl
taken p s b (Some a) cs = refl

each_passed : (p : Prop) (s : Spec) (all : List Applied) (b : Option Applied) (qs : List Prop) → winner_on p b (map (applied s) (flat_map (λ q. winners_for q all) qs)) ≡ through p (λ x. behind p s x (winner_of p all)) b qs
each_passed p s all b [] = refl
each_passed p s all b (q ∷ qs) =
    let rest = flat_map (λ r. winners_for r all) qs in
    let f : Option Applied → Option Applied = λ x. behind p s x (winner_of p all) in
    by_bool (is_prop q p)
    (λ yes. subst (λ r. winner_on p b (map (applied s) (claims_in (winner_of r all) ++ rest)) ≡ winner_on p (f b) (map (applied s) rest)) (sym (same_prop q p yes)) (taken p s b (winner_of p all) rest)
    ∙ each_passed p s all (f b) qs
    ∙ ap (λ t. through p f (cond t (f b) b) qs) (sym yes))
    (λ no. passed p q s b (winner_of q all) rest (winner_has q all) no
    ∙ each_passed p s all b qs
    ∙ ap (λ t. through p f (cond t (f b) b) qs) (sym no))

one_property : (p : Prop) (r s : Spec) (b : Option Applied) (cs : List Claim) → winner_on p b (map (applied s) (flat_map (λ q. winners_for q (map (applied r) cs)) properties)) ≡ winner_on p b (map (applied s) cs)
one_property p r s b cs =
    each_passed p s (map (applied r) cs) b properties
    ∙ once p (λ x. behind p s x (winner_of p (map (applied r) cs))) b
    ∙ behind_all p r s b cs

each_property : (f : Prop → Option Applied) (xs ys : List Applied) → ((p : Prop) → winner_on p (f p) xs ≡ winner_on p (f p) ys) → (ps : List Prop) → map (λ p. winner_on p (f p) xs) ps ≡ map (λ p. winner_on p (f p) ys) ps
each_property f xs ys h [] = refl
each_property f xs ys h (p ∷ ps) = ap (λ o. o ∷ map (λ q. winner_on q (f q) xs) ps) (h p) ∙ ap (λ os. winner_on p (f p) ys ∷ os) (each_property f xs ys h ps)

-- the winners among the claims of a ruleset stand for all of them
pub winners_last : (r : Spec) (cs kept : List Claim) → kept ≡ flat_map (λ p. winners_for p (map (applied r) cs)) properties → LastsAs kept cs
winners_last r cs kept e s f = rw e
    (all_kept (map (applied s) (flat_map (λ q. winners_for q (map (applied r) cs)) properties)) f
    ∙ each_property f (map (applied s) (flat_map (λ q. winners_for q (map (applied r) cs)) properties)) (map (applied s) cs) (λ p. one_property p r s (f p) cs) properties
    ∙ sym (all_kept (map (applied s) cs) f))

pub trimmed_as : (r : Spec) (cs some : List Claim) (best none : List (Option Applied)) → none ≡ map (λ p. None) properties → best ≡ kept_all none (map (applied r) cs) → some ≡ flat_map claims_in best → LastsAs some cs
trimmed_as r cs some best none start e f =
    winners_last r cs some
    (f ∙ ap (flat_map claims_in) (e ∙ ap (λ b. kept_all b (map (applied r) cs)) start ∙ slots_are (map (applied r) cs)) ∙ claims_are (map (applied r) cs) properties)

-- ---- one ruleset after another

moved : (all : List Trimmed) (t : Trimmed) (rest : List Ruleset) → map rules_of (all ++ t ∷ []) ++ rest ≡ map rules_of all ++ rules_of t ∷ rest
moved [] t rest = refl
moved (a ∷ all) t rest = ap (λ rs. rules_of a ∷ rs) (moved all t rest)

all_more : (all : List Trimmed) (t : Trimmed) → AllByRecursion IsTrimmed all → IsTrimmed t → AllByRecursion IsTrimmed (all ++ t ∷ [])
all_more [] t h k = (k, tt)
all_more (a ∷ all) t h k = (h.0, all_more all t h.1 k)

abbrev pub TrimmedTo : List Ruleset → ℕ → List Trimmed → Type 0
TrimmedTo rulesets i all = (map rules_of all ++ drop i rulesets ≡ rulesets) × AllByRecursion IsTrimmed all

pub trim_more : (rulesets : List Ruleset) (i : ℕ) (all more : List Trimmed) (t : Trimmed) → drop i rulesets ≡ rules_of t ∷ drop (i + 1) rulesets → IsTrimmed t → more ≡ all ++ t ∷ [] → TrimmedTo rulesets i all → TrimmedTo rulesets (i + 1) more
trim_more rulesets i all more t next is e h = rw e (
  moved all t (drop (i + 1) rulesets) ∙ ap (λ rs. map rules_of all ++ rs) (sym next) ∙ h.0,
  all_more all t h.1 is,
)

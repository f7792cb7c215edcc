-- Of each ruleset the most specific selector that matches gives what applies to a node.
use Rattle.std.proofs.Common.{◌≡◌, ℕ, ◌<◌, ◌==◌, zero, suc, false, cond, List, [], ◌∷◌, ◌++◌, length, map, slice_get, Option, Some, None, Result, Ok, refl, sym, ◌∙◌, ap, subst, arith, append_assoc, length-append}
use Rattle.std.specs.Prelude.{flat_map}
use Rattle.std.specs.List.{AllByRecursion}
use Rattle.std.proofs.lemmas.Bool.Decides.{nat_tests}
use Rattle.viz_base.specs.declared.nodes.Node.{Node}
use Rattle.viz_base.specs.declared.selectors.Spec.{Spec}
use Rattle.viz_base.specs.declared.settings.Prop.{Prop}
use Rattle.viz_base.proofs.ListLemmas.{all_append}
use Rattle.viz_base.proofs.Truths.{same_number}
use Rattle.css_semantics.specs.declared.claims.Claim.{Claim}
use Rattle.css_semantics.specs.declared.claims.Ranked.{Ranked}
use Rattle.css_semantics.specs.declared.claims.Ruleset.{Ruleset}
use Rattle.css_semantics.specs.CascadeOrder.{Applied, applied, greatest, greatest_from, later_of, spec_cmp, style_spec}
use Rattle.css_semantics.specs.CascadeReading.{AppliesTo, Each, Matching, Refused, all_applied, applies, joined as each_joined, nothing}
use Rattle.css_semantics.specs.Properties.{properties}
use Rattle.css_cascade.specs.declared.trimming.Trimmed.{Trimmed}
use Rattle.css_cascade.specs.declared.trying.Found.{Found}
use Rattle.css_cascade.specs.steps.Buckets.{Numbered, numbered_from}
use Rattle.css_cascade.specs.steps.Seen.{kept_all, winner_on}
use Rattle.css_cascade.specs.steps.Trimming.{AreKept, IsTrimmed, rules_of, slots}
use Rattle.css_cascade.specs.steps.Trying.{AreTried, Behind, Matched, StandFor, claims_at, joined, said, strongest_behind}
use Rattle.css_cascade.proofs.Keeping.{slots_behind}
use Rattle.css_cascade.proofs.Slots.{all_kept}

-- ---- of one ruleset

abbrev at : ℕ → Spec → Found
at i s = record { rules = i; spec = s }

pub record OfGroup (nodes : List Node) (n i : ℕ) (group : List Ranked) (others : List Numbered) (all : List Found) : Type 0 where
  pub specs : List Spec
  pub rest : List Found
  pub matching : Matching nodes n group specs
  pub behind : Matched nodes n others rest
  pub whole : all ≡ map (at i) specs ++ rest

of_group : (nodes : List Node) (n i : ℕ) (group : List Ranked) (others : List Numbered) (all : List Found) → Matched nodes n (map (λ r. (i, r)) group ++ others) all → OfGroup nodes n i group others all
of_group nodes n i [] others all m = record { specs = []; rest = all; matching = Matching.none; behind = m; whole = refl }
of_group nodes n i (r ∷ group) others _ (Matched.matches h m) =
    let k = of_group nodes n i group others _ m in
    record { specs = r.spec ∷ k.specs; rest = k.rest; matching = Matching.matches h k.matching; behind = k.behind; whole = ap (λ all. at i r.spec ∷ all) k.whole }
of_group nodes n i (r ∷ group) others _ (Matched.passes_by h m) =
    let k = of_group nodes n i group others _ m in
    record { specs = k.specs; rest = k.rest; matching = Matching.passes_by h k.matching; behind = k.behind; whole = k.whole }

-- ---- of the rulesets behind it

abbrev BeginsPast : ℕ → List Found → Type 0
BeginsPast i [] = Unit {0}
BeginsPast i (f ∷ all) = i < f.rules

abbrev IsPast : ℕ → Numbered → Type 0
IsPast i r = i < r.0

begins_past : (nodes : List Node) (n i : ℕ) {selectors : List Numbered} {all : List Found} → AllByRecursion (IsPast i) selectors → Matched nodes n selectors all → BeginsPast i all
begins_past nodes n i h Matched.none = tt
begins_past nodes n i h (Matched.matches k m) = h.0
begins_past nodes n i h (Matched.passes_by k m) = begins_past nodes n i h.1 m

group_past : (i j : ℕ) → i < j → (group : List Ranked) → AllByRecursion (IsPast i) (map (λ r. (j, r)) group)
group_past i j l [] = tt
group_past i j l (r ∷ group) = (l, group_past i j l group)

all_past : (i j : ℕ) → i < j → (rulesets : List Ruleset) → AllByRecursion (IsPast i) (numbered_from j rulesets)
all_past i j l [] = tt
all_past i j l (one ∷ rulesets) = all_append (IsPast i) (map (λ r. (j, r)) one.group) (numbered_from (suc j) rulesets) (group_past i j l one.group) (all_past i (suc j) (omega (arith, l)) rulesets)

other_number : (i j : ℕ) → i < j → (i == j) ≡ false
other_number i j l = grind (arith, nat_tests)

strongest_of : (i : ℕ) (s : Spec) (specs : List Spec) (rest : List Found) → BeginsPast i rest → strongest_behind (Some (at i s)) (map (at i) specs ++ rest) ≡ at i (greatest_from spec_cmp s specs) ∷ strongest_behind None rest
strongest_of i s [] [] h = refl
strongest_of i s [] (g ∷ rest) h = ap (λ b. cond b (strongest_behind (Some (joined (at i s) g)) rest) (at i s ∷ strongest_behind (Some g) rest)) (other_number i g.rules h)
strongest_of i s (t ∷ specs) rest h =
    ap (λ b. cond b (strongest_behind (Some (joined (at i s) (at i t))) (map (at i) specs ++ rest)) (at i s ∷ strongest_behind (Some (at i t)) (map (at i) specs ++ rest))) (same_number i)
    ∙ strongest_of i (later_of spec_cmp s t) specs rest h

-- one of another ruleset comes behind it
pub other_behind : (rulesets : List Trimmed) (before after : List (Option Applied)) (f g : Found) (behind : List Found) → (f.rules == g.rules) ≡ false → after ≡ kept_all before (said rulesets f) → Behind rulesets after (Some g) behind ≡ Behind rulesets before (Some f) (g ∷ behind)
other_behind rulesets before after f g behind other is =
    let rest = flat_map (said rulesets) (strongest_behind (Some g) behind) in
    ap (λ b. kept_all b rest) is
    ∙ sym (slots_behind before (said rulesets f) rest)
    ∙ sym (ap (λ b. kept_all before (flat_map (said rulesets) (cond b (strongest_behind (Some (joined f g)) behind) (f ∷ strongest_behind (Some g) behind)))) other)

-- ---- what the rulesets say that applies

abbrev claims_of_one : Option Ruleset → List Claim
claims_of_one None = []
claims_of_one (Some one) = one.claims

-- what a ruleset says by all of its claims
abbrev said_whole : List Ruleset → Found → List Applied
said_whole rulesets f = map (applied f.spec) (claims_of_one (slice_get rulesets f.rules))

abbrev all_said : List Ruleset → List Found → List Applied
all_said rulesets all = flat_map (said_whole rulesets) all

at_length : (before : List Ruleset) (one : Ruleset) (rest : List Ruleset) → slice_get (before ++ one ∷ rest) (length before) ≡ Some one
at_length [] one rest = refl
at_length (b ∷ before) one rest = at_length before one rest

one_longer : (before : List Ruleset) (one : Ruleset) (i : ℕ) → length before ≡ i → length (before ++ one ∷ []) ≡ suc i
one_longer before one i e = simp length-append (omega (arith, e))

abbrev Gives : List Node → ℕ → Ruleset → Result (List Applied) Refused → Type 0
Gives nodes n one answer = AppliesTo nodes n one answer

one_said : (nodes : List Node) (n i : ℕ) (rulesets : List Ruleset) (one : Ruleset) (specs : List Spec) (rest : List Found) → slice_get rulesets i ≡ Some one → BeginsPast i rest → all_said rulesets (strongest_behind None (map (at i) specs ++ rest)) ≡ all_applied (greatest spec_cmp specs) one.claims ++ all_said rulesets (strongest_behind None rest)
one_said nodes n i rulesets one [] rest is h = refl
one_said nodes n i rulesets one (s ∷ specs) rest is h =
    ap (all_said rulesets) (strongest_of i s specs rest h)
    ∙ ap (λ o. map (applied (greatest_from spec_cmp s specs)) (claims_of_one o) ++ all_said rulesets (strongest_behind None rest)) is

each_said : (nodes : List Node) (n : ℕ) (rulesets before rest : List Ruleset) (i : ℕ) (all : List Found) → rulesets ≡ before ++ rest → length before ≡ i → Matched nodes n (numbered_from i rest) all → Each (Gives nodes n) rest (Ok (all_said rulesets (strongest_behind None all)))
each_said nodes n rulesets before [] i _ whole at_i Matched.none = nothing
each_said nodes n rulesets before (one ∷ rest) i all whole at_i m =
    let k = of_group nodes n i one.group (numbered_from (suc i) rest) all m in
    let here : slice_get rulesets i ≡ Some one = subst (λ j. slice_get rulesets j ≡ Some one) at_i (ap (λ rs. slice_get rs (length before)) whole ∙ at_length before one rest) in
    let past = begins_past nodes n i (all_past i (suc i) (omega arith) rest) k.behind in
    let more = each_said nodes n rulesets (before ++ one ∷ []) rest (suc i) k.rest (whole ∙ sym (append_assoc before (one ∷ []) rest)) (one_longer before one i at_i) k.behind in
    subst (λ said. Each (Gives nodes n) (one ∷ rest) (Ok said)) (sym (ap (λ found. all_said rulesets (strongest_behind None found)) k.whole ∙ one_said nodes n i rulesets one k.specs k.rest here past))
    (each_joined (applies k.matching) more)

-- ---- by the claims that can win

same_said : (trimmed : List Trimmed) → AllByRecursion IsTrimmed trimmed → (i : ℕ) (s : Spec) (f : Prop → Option Applied) → kept_all (map f properties) (map (applied s) (claims_at trimmed i)) ≡ kept_all (map f properties) (map (applied s) (claims_of_one (slice_get (map rules_of trimmed) i)))
same_said [] h zero s f = refl
same_said [] h (suc i) s f = refl
same_said (t ∷ trimmed) h zero s f = h.0 s f
same_said (t ∷ trimmed) h (suc i) s f = same_said trimmed h.1 i s f

whole_said : (trimmed : List Trimmed) → AllByRecursion IsTrimmed trimmed → (all : List Found) (f : Prop → Option Applied) → kept_all (map f properties) (flat_map (said trimmed) all) ≡ kept_all (map f properties) (all_said (map rules_of trimmed) all)
whole_said trimmed h [] f = refl
whole_said trimmed h (g ∷ all) f =
    let some = said trimmed g in
    let more = said_whole (map rules_of trimmed) g in
    let next : Prop → Option Applied = λ p. winner_on p (f p) more in
    slots_behind (map f properties) some (flat_map (said trimmed) all)
    ∙ ap (λ b. kept_all b (flat_map (said trimmed) all)) (same_said trimmed h g.rules g.spec f ∙ all_kept more f)
    ∙ whole_said trimmed h all next
    ∙ ap (λ b. kept_all b (all_said (map rules_of trimmed) all)) (sym (all_kept more f))
    ∙ sym (slots_behind (map f properties) more (all_said (map rules_of trimmed) all))

pub tried_kept : (nodes : List Node) (n : ℕ) (trimmed : List Trimmed) (selectors : List Numbered) (start best after : List (Option Applied)) (style : List Claim) → AllByRecursion IsTrimmed trimmed → StandFor nodes selectors (numbered_from 0 (map rules_of trimmed)) → start ≡ map (λ p. None) properties → AreTried nodes n trimmed selectors start best
    → after ≡ kept_all best (map (applied style_spec) style) → AreKept nodes n trimmed style after
tried_kept nodes n trimmed selectors start best after style h are begun tried is =
    let none : Prop → Option Applied = λ p. None in
    let whole = are n tried.0 tried.1 in
    let found = strongest_behind None whole.0 in
    let all = all_said (map rules_of trimmed) found in
    let styled = map (applied style_spec) style in
    let won : best ≡ slots all = tried.2 ∙ ap (λ fs. kept_all start (flat_map (said trimmed) fs)) whole.2 ∙ ap (λ b. kept_all b (flat_map (said trimmed) found)) begun ∙ whole_said trimmed h found none in (
      all,
      each_said nodes n (map rules_of trimmed) [] (map rules_of trimmed) 0 whole.0 refl refl whole.1,
      is ∙ ap (λ b. kept_all b styled) won ∙ sym (slots_behind (map none properties) all styled),
    )

-- No values of the variables meet facts that a derivation refutes, and all that meet facts meet what they entail.
use Rattle.std.proofs.Common.{◌≡◌, ◌≢◌, ℕ, zero, suc, ◌+◌, ◌-◌, ◌<◌, ◌≤◌, ◌==◌, ℤ, pos, neg_ℤ, ◌-ℤ◌, ◌≤ℤ◌, Bool, true, false, cond, List, [], ◌∷◌, ◌++◌, length, Option, Some, None, Result, Ok, Err, slice_get, refl, sym, ap, subst, inl, inr, arith}
use Rattle.std.specs.Option.{ok_or}
use Rattle.std.specs.Result.{result_err}
use Rattle.std.specs.Int.Signed.{lt_z}
use Rattle.std.proofs.lemmas.Int.{ints, by_lt_z}
use Rattle.std.proofs.lemmas.Bool.{and_parts, cases_lt, false≢true}
use Rattle.std.proofs.lemmas.Bool.Decides.{nat_tests}
use Rattle.std.proofs.lemmas.Option.{cond_some, option_and_then_some, same_Some}
use Rattle.viz_base.proofs.Sameness.{same_Ok}
use Rattle.lin_proof.specs.declared.derivation.Step.{Step}
use Rattle.lin_proof.specs.declared.derivation.Step.TheVariants.{Fact, Sum, Cut}
use Rattle.lin_proof.specs.declared.derivation.Derivation.{Derivation}
use Rattle.lin_proof.specs.declared.derivation.Branch.{Branch}
use Rattle.lin_proof.specs.declared.derivation.Ending.{Ending}
use Rattle.lin_proof.specs.declared.derivation.Ending.TheOpen.{Ending-F, Branch-F, Derivation-F}
use Rattle.lin_proof.specs.declared.derivation.Ending.TheViews.{roll-Ending, roll-Branch, roll-Derivation}
use Rattle.lin_proof.specs.declared.derivation.Ending.TheFolds.{map-Ending, ind-Derivation, fold-roll-Ending, fold-roll-Branch, fold-roll-Derivation}
use Rattle.lin_proof.specs.Form.{Form, Terms, terms_value, value, plus, denied, form_fits}
use Rattle.lin_proof.specs.Cut.{divides, cut}
use Rattle.lin_proof.specs.Law.{Meets, Law, EntailmentLaw}
use Rattle.lin_proof.specs.Derivations.{◌>>=◌, zero_form, add_part, checked_plus, sum_from, cut_of, step_form, run_steps, last_of, is_contradiction, Check, case_form, are_declared, ending_step, branch_step, derivation_step, check_ending, check_branch, check_derivation}
use Rattle.lin_proof.specs.Entailments.{with_denied}
use Rattle.lin_proof.proofs.Values.{value-plus, value-cut, value-denied}
use Rattle.lin_proof.proofs.Whole.{times_above}

-- ---- results and options

bind_ok : {A B E : Type 0} (r : Result A E) (f : A → Result B E) (y : B) → (r >>= f) ≡ Ok y → (x : A) × (r ≡ Ok x) × (f x ≡ Ok y)
bind_ok (Ok x) f y h = (x, refl, h)
bind_ok (Err e) f y h = absurd (cc)

ok_or_ok : {A E : Type 0} (o : Option A) (e : E) (x : A) → ok_or o e ≡ Ok x → o ≡ Some x
ok_or_ok None e x h = absurd (cc)
ok_or_ok (Some y) e x h = cc

cond_ok : {A E : Type 0} (b : Bool) (x y : A) (e : E) → cond b (Ok x) (Err e) ≡ Ok y → b ≡ true
cond_ok true x y e h = refl
cond_ok false x y e h = absurd (cc)

cond_then : {A : Type 0} {x y : Option A} (b : Bool) → cond b x None ≡ y → y ≢ None → (b ≡ true) × (x ≡ y)
cond_then true h some = (refl, h)
cond_then false h some = absurd (some (sym h))

no_fault : {A E : Type 0} (r : Result A E) → result_err r ≡ None → (x : A) × (r ≡ Ok x)
no_fault (Ok x) h = (x, refl)
no_fault (Err e) h = absurd (cc)

-- ---- what meets the forms known so far

at_end : (fs : List Form) (f g : Form) (n : ℕ) → length fs ≤ n → slice_get (fs ++ f ∷ []) n ≡ Some g → f ≡ g
at_end [] f g zero le is = same_Some f g is
at_end [] f g (suc n) le is = absurd (cc)
at_end (e ∷ fs) f g zero le is = absurd (omega arith)
at_end (e ∷ fs) f g (suc n) le is = at_end fs f g n (omega arith) is

before_end : (fs : List Form) (f g : Form) (n : ℕ) → n < length fs → slice_get (fs ++ f ∷ []) n ≡ Some g → slice_get fs n ≡ Some g
before_end [] f g n lt is = absurd (omega arith)
before_end (e ∷ fs) f g zero lt is = is
before_end (e ∷ fs) f g (suc n) lt is = before_end fs f g n (omega arith) is

Meets-push : (v : ℕ → ℤ) (fs : List Form) (f : Form) → Meets v fs → pos 0 ≤ℤ value f v → Meets v (fs ++ f ∷ [])
Meets-push v fs f meets here n g is =
    elim (cases_lt n (length fs)) [
      | inl lt ↦ meets n g (before_end fs f g n lt is)
      | inr le ↦ subst (λ h. pos 0 ≤ℤ value h v) (at_end fs f g n le is) here
    ]

-- ---- the steps

checked_plus-meets : (v : ℕ → ℤ) (f g h : Form) (m : ℤ) → checked_plus f m g ≡ Some h → pos 0 ≤ℤ value f v → pos 0 ≤ℤ value g v → pos 0 ≤ℤ value h v
checked_plus-meets v f g h m is at_f at_g =
    let c = cond_then (lt_z (pos 0) m) is (λ none. cc) in
    let same = (cond_some (form_fits (plus f m g)) (plus f m g) h c.1).1 in
    subst (λ e. pos 0 ≤ℤ value e v) same (omega (arith, ints, value-plus f m g v, times_above m (value g v) (omega (arith, ints, c.0)) at_g))

sum_from-meets : (v : ℕ → ℤ) (known : List Form) (f h : Form) (ps : List (ℤ × ℕ)) → Meets v known → sum_from known f ps ≡ Some h → pos 0 ≤ℤ value f v → pos 0 ≤ℤ value h v
sum_from-meets v known f h [] meets is at_f = subst (λ e. pos 0 ≤ℤ value e v) (same_Some f h is) at_f
sum_from-meets v known f h (p ∷ ps) meets is at_f =
    option_and_then_some (λ sum. sum_from known sum ps) (add_part known f p) h is (λ sum step rest.
    option_and_then_some (checked_plus f p.0) (slice_get known p.1) sum step (λ g at plus_is.
    sum_from-meets v known sum h ps meets rest (checked_plus-meets v f g sum p.0 plus_is at_f (meets p.1 g at))))

step_form-meets : (v : ℕ → ℤ) (facts known : List Form) (step : Step) (f : Form) → Meets v facts → Meets v known → step_form facts known step ≡ Some f → pos 0 ≤ℤ value f v
step_form-meets v facts known (Fact n) f at_facts at_known is = at_facts n f is
step_form-meets v facts known (Sum parts) f at_facts at_known is = sum_from-meets v known zero_form f parts at_known is (omega (arith, ints))
step_form-meets v facts known (Cut d n) f at_facts at_known is =
    option_and_then_some (cut_of d) (slice_get known n) f is (λ g at cut_is.
    let c = cond_some (divides d g) (cut d g) f cut_is in
    subst (λ e. pos 0 ≤ℤ value e v) c.1 ((value-cut g d c.0 v).0 (at_known n g at)))

run_steps-meets : (v : ℕ → ℤ) (facts known : List Form) (line : ℕ) (steps : List Step) (after : List Form × ℕ) → Meets v facts → Meets v known → run_steps facts known line steps ≡ Ok after → Meets v after.0
run_steps-meets v facts known line [] after at_facts at_known is = subst (Meets v) (ap (λ (p : List Form × ℕ). p.0) (same_Ok is)) at_known
run_steps-meets v facts known line (step ∷ steps) after at_facts at_known is =
    let b = bind_ok (ok_or (step_form facts known step) line) (λ f. run_steps facts (known ++ f ∷ []) (line + 1) steps) after is in
    let made = ok_or_ok (step_form facts known step) line b.0 b.1 in
    run_steps-meets v facts (known ++ b.0 ∷ []) (line + 1) steps after at_facts (Meets-push v known b.0 at_known (step_form-meets v facts known step b.0 at_facts at_known made)) b.2

-- ---- the ends, and induction

module _ (v : ℕ → ℤ) (facts : List Form) (variables : ℕ) (at_facts : Meets v facts) where
  -- a check that is passed rules out these values
  abbrev Sound : Check → Type 0
  Sound check = (known : List Form) (line next : ℕ) → Meets v known → check known line ≡ Ok next → ⊥

  no_terms : (ts : Terms) → (length ts == 0) ≡ true → terms_value ts v ≡ pos 0
  no_terms [] h = refl
  no_terms (t ∷ ts) h = absurd (grind (arith, nat_tests))

  contradiction_fails : (known : List Form) (o : Option Form) → last_of known ≡ o → is_contradiction o ≡ true → Meets v known → ⊥
  contradiction_fails known None is h meets = absurd (false≢true h)
  contradiction_fails known (Some f) is h meets =
      let both = and_parts (length f.terms == 0) (lt_z f.k (pos 0)) h in
      let at_least = meets (length known - 1) f is in
      absurd (omega (arith, ints, no_terms f.terms both.0, both.1, at_least))

  closed_sound : Sound (ending_step Ending-F.Closed)
  closed_sound known line next meets is = contradiction_fails known (last_of known) refl (cond_ok (is_contradiction (last_of known)) (line + 1) next line is) meets

  case_form-denied : (f other : Form) → case_form variables f ≡ Some other → value other v ≡ neg_ℤ (value f v) -ℤ pos 1
  case_form-denied f other is =
      let c = cond_then (are_declared variables f.terms) is (λ none. cc) in
      let same = (cond_some (form_fits (denied f)) (denied f) other c.1).1 in
      subst (λ g. value g v ≡ neg_ℤ (value f v) -ℤ pos 1) same (value-denied f v)

  branch_sound : (b : Branch-F Check Check Check) → Sound b.first → Sound b.second → Sound (branch_step variables b)
  branch_sound b first second known line next meets is =
      let made = bind_ok (ok_or (case_form variables b.row) line) (λ other. b.first (known ++ b.row ∷ []) (line + 1) >>= b.second (known ++ other ∷ [])) next is in
      let other = ok_or_ok (case_form variables b.row) line made.0 made.1 in
      let halves = bind_ok (b.first (known ++ b.row ∷ []) (line + 1)) (b.second (known ++ made.0 ∷ [])) next made.2 in
      by_lt_z (value b.row v) (pos 0)
      (λ below. second (known ++ made.0 ∷ []) halves.0 next (Meets-push v known made.0 meets (omega (arith, ints, case_form-denied b.row made.0 other))) halves.2)
      (λ above. first (known ++ b.row ∷ []) (line + 1) halves.0 (Meets-push v known b.row meets above) halves.1)

  derivation_sound : (d : Derivation-F Check Check Check) → Sound d.last → Sound (derivation_step facts d)
  derivation_sound d last known line next meets is =
      let run = bind_ok (run_steps facts known line d.steps) (λ after. d.last after.0 after.1) next is in
      last run.0.0 run.0.1 next (run_steps-meets v facts known line d.steps run.0 at_facts meets run.1) run.2

  abbrev EndingSound : Ending → Type 0
  EndingSound e = Sound (check_ending facts variables e)

  abbrev BranchSound : Branch → Type 0
  BranchSound b = Sound (check_branch facts variables b)

  abbrev DerivationSound : Derivation → Type 0
  DerivationSound d = Sound (check_derivation facts variables d)

  -- one layer, whose parts are sound
  ending_layer : {E B D : Type 0} (e : E → Ending) (b : B → Branch) (d : D → Derivation) (y : Ending-F E B D) → ((p : B) → BranchSound (b p)) → EndingSound (roll-Ending (map-Ending E B D Ending Branch Derivation e b d y))
  ending_layer e b d Ending-F.Closed parts = subst Sound (sym (fold-roll-Ending Check Check Check ending_step (branch_step variables) (derivation_step facts) Ending-F.Closed)) closed_sound
  ending_layer e b d (Ending-F.Cases p) parts = subst Sound (sym (fold-roll-Ending Check Check Check ending_step (branch_step variables) (derivation_step facts) (Ending-F.Cases (b p)))) (parts p)

  branch_layer : (x : Branch-F Ending Branch Derivation) → DerivationSound x.first → DerivationSound x.second → BranchSound (roll-Branch x)
  branch_layer x first second = subst Sound (sym (fold-roll-Branch Check Check Check ending_step (branch_step variables) (derivation_step facts) x)) (branch_sound (record { row = x.row; first = check_derivation facts variables x.first; second = check_derivation facts variables x.second }) first second)

  derivation_layer : (x : Derivation-F Ending Branch Derivation) → EndingSound x.last → DerivationSound (roll-Derivation x)
  derivation_layer x last = subst Sound (sym (fold-roll-Derivation Check Check Check ending_step (branch_step variables) (derivation_step facts) x)) (derivation_sound (record { steps = x.steps; last = check_ending facts variables x.last }) last)

  pub all_sound : (d : Derivation) → DerivationSound d
  all_sound = ind-Derivation EndingSound BranchSound DerivationSound
      (λ x y is. subst (λ z. EndingSound (roll-Ending z)) is (ending_layer (λ e. e.0) (λ b. b.0) (λ d. d.0) y (λ p. p.1)))
      (λ x y is. branch_layer x (subst DerivationSound (ap (λ b. b.first) is) y.first.1) (subst DerivationSound (ap (λ b. b.second) is) y.second.1))
      (λ x y is. derivation_layer x (subst EndingSound (ap (λ d. d.last) is) y.last.1))

pub law : Law
law facts variables d refutes v at_facts =
    let passed = no_fault (check_derivation facts variables d [] 0) refutes in
    all_sound v facts variables at_facts d [] 0 passed.0 (λ n f is. absurd (cc)) passed.1

pub entailment_law : EntailmentLaw
entailment_law facts variables f d entails v at_facts =
    by_lt_z (value f v) (pos 0)
    (λ below. absurd (law (with_denied facts f) variables d entails.1 v (Meets-push v facts (denied f) at_facts (omega (arith, ints, value-denied f v, below)))))
    (λ above. omega (arith, ints, above))

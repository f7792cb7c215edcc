-- What reading says of tokens is what they are, and they are nothing else.
use Rattle.std.proofs.Common.{◌≡◌, ℕ, ◌<◌, ◌≤◌, Bool, true, false, cond, List, [], ◌∷◌, ◌++◌, length, Option, Some, None, Result, Ok, Err, refl, sym, ◌∙◌, ap, subst, arith, append_assoc, length-append}
use Rattle.std.proofs.lemmas.List.{append-nil}
use Rattle.viz_base.specs.declared.selectors.Compound.{Compound}
use Rattle.viz_base.specs.declared.selectors.Join.{Join}
use Rattle.viz_base.proofs.Sameness.{same_Ok}
use Rattle.viz_base.proofs.Truths.{not_both}
use Rattle.css_semantics.specs.Pieces.{Token}
use Rattle.css_semantics.specs.SheetsReading.{start_of}
use Rattle.css_semantics.specs.SelectorTerminals.{without_comments}
use Rattle.css_semantics.specs.Spelled.{Spelled}
use Rattle.css_semantics.specs.SelectorGrammar.{at_start, none_earlier, IsGroup, BeginsGroup, IsNoGroup}
use Rattle.css_select.specs.declared.reading.Place.{Place}
use Rattle.css_select.specs.declared.reading.Place.TheVariants.{Compound as InCompound, Gap, Element}
use Rattle.css_select.specs.steps.Machine.{State, initial, ended, may_end, pseudo_at, step, then_run}
use Rattle.css_select.specs.Refusals.{Refusal, unsupported_at, bad_at}
use Rattle.css_select.specs.Verdicts.{Verdict, judged, verdict, verdict_of, IsReading}
use Rattle.css_select.proofs.Following.{follow, follow_on, run_follow, leads_on}
use Rattle.css_select.proofs.Held.{Part, first_of, ReadsAt, Reads}
use Rattle.css_select.proofs.Sound.{IsFinal, some_final, spaced_final, ended_final, final_group}
use Rattle.css_select.proofs.Kept.{step_reads}
use Rattle.css_select.proofs.Complete.{follow_group}
use Rattle.css_select.proofs.Faulty.{step_fails}

-- ---- reading keeps what the tokens are

initial_reads : Reads initial []
initial_reads = record {
  refused = [];
  is_before = record { earlier = []; gap = []; front = []; refused_earlier = []; refused_front = []; whole = refl; are_earlier = none_earlier; is_gap = tt; is_front = at_start; all = refl };
  none = refl;
  is_first = refl;
}

reads_by : (r : Result State Refusal) (s : State) (ts : List Token) (t : Token) (us : List Token) (next : State) → step s t ≡ r → Reads s ts
    → ((m : State) → Reads m (ts ++ t ∷ []) → follow m us ≡ Ok next → Reads next ((ts ++ t ∷ []) ++ us)) → then_run r (λ m. follow m us) ≡ Ok next → Reads next (ts ++ t ∷ us)
reads_by (Ok m) s ts t us next is h k e = subst (Reads next) (append_assoc ts (t ∷ []) us) (k m (step_reads s ts t m h is) e)
reads_by (Err refusal) s ts t us next is h k e = absurd (cc)

follow_reads : (s : State) (ts us : List Token) (next : State) → Reads s ts → follow s us ≡ Ok next → Reads next (ts ++ us)
follow_reads s ts [] next h e = subst (λ n. Reads n (ts ++ [])) (same_Ok e) (subst (Reads s) (sym (append-nil ts)) h)
follow_reads s ts (t ∷ us) next h e = reads_by (step s t) s ts t us next refl h (λ m k f. follow_reads m (ts ++ t ∷ []) us next k f) e

-- behind the last simple selector
abbrev done : State → State
done s = ended s (pseudo_at s.place)

reads_final : (place : Place) (group : List Spelled) (parts : List Part) (join : Join) (c : Compound) (first : Option ℕ) (ts : List Token) → ReadsAt place group parts join c first ts → may_end place ≡ true
    → IsFinal group (parts ++ (join, c) ∷ [], pseudo_at place) first ts
reads_final InCompound group parts join c first ts h e = subst (IsFinal group (parts ++ (join, c) ∷ [], None) first) (append-nil ts) (some_final ts [] h tt)
reads_final Gap group parts join c first ts h e = spaced_final ts h
reads_final (Element pseudo) group parts join c first ts h e = ended_final ts h
reads_final place group parts join c first ts h e = absurd (cc)

sound : (ts : List Token) (s : State) → follow initial ts ≡ Ok s → may_end s.place ≡ true → (all : List ℕ) × (s.refused ≡ first_of all) × IsGroup ts (done s).group all
sound ts s e m = final_group ts (reads_final s.place s.group s.parts s.join s.compound s.refused ts (follow_reads initial [] ts s initial_reads e) m)

-- what is read begins a group
begins : (ts : List Token) (s : State) → follow initial ts ≡ Ok s → BeginsGroup ts
begins ts s e =
    let l = leads_on s in
    let g = sound (ts ++ l.more) l.next (follow_on initial s ts l.more e ∙ l.follows) l.ends in
    (l.more, (done l.next).group, g.0, g.2)

-- ---- where reading stops

record Stuck (s : State) (ts : List Token) (refusal : Refusal) : Type 0 where
  front : List Token
  token : Token
  rest : List Token
  whole : ts ≡ front ++ token ∷ rest
  state : State
  read : follow s front ≡ Ok state
  stuck : step state token ≡ Err refusal

stuck_by : (r : Result State Refusal) (s : State) (t : Token) (ts : List Token) (refusal : Refusal) → step s t ≡ r → ((m : State) → follow m ts ≡ Err refusal → Stuck m ts refusal) → then_run r (λ m. follow m ts) ≡ Err refusal → Stuck s (t ∷ ts) refusal
stuck_by (Ok m) s t ts refusal is k e =
    let h = k m e in
    record { front = t ∷ h.front; token = h.token; rest = h.rest; whole = ap (λ x. t ∷ x) h.whole; state = h.state; read = ap (λ r. then_run r (λ n. follow n h.front)) is ∙ h.read; stuck = h.stuck }
stuck_by (Err other) s t ts refusal is k e = record { front = []; token = t; rest = ts; whole = refl; state = s; read = refl; stuck = is ∙ e }

stuck_at : (s : State) (ts : List Token) (refusal : Refusal) → follow s ts ≡ Err refusal → Stuck s ts refusal
stuck_at s [] refusal e = absurd (cc)
stuck_at s (t ∷ ts) refusal e = stuck_by (step s t) s t ts refusal refl (λ m f. stuck_at m ts refusal f) e

-- no group begins with more
stuck_follow : (s : State) (ts : List Token) (refusal : Refusal) (h : Stuck s ts refusal) (us : List Token) → follow s (h.front ++ h.token ∷ us) ≡ Err refusal
stuck_follow s ts refusal h us = follow_on s h.state h.front (h.token ∷ us) h.read ∙ ap (λ r. then_run r (λ n. follow n us)) h.stuck

longer : (front : List Token) (t : Token) (rest p r : List Token) → front ++ t ∷ rest ≡ p ++ r → length front < length p → (q : List Token) × (p ≡ front ++ t ∷ q)
longer [] t rest [] r e l = absurd (omega arith)
longer [] t rest (u ∷ p) r e l = let same : t ≡ u = cc in (p, ap (λ x. x ∷ p) (sym same))
longer (x ∷ front) t rest [] r e l = absurd (omega arith)
longer (x ∷ front) t rest (u ∷ p) r e l =
    let same : x ≡ u = cc in
    let others : front ++ t ∷ rest ≡ p ++ r = cc in
    let h = longer front t rest p r others (omega arith) in
    (h.0, ap (λ y. y ∷ p) (sym same) ∙ ap (λ y. x ∷ y) h.1)

-- an order that holds since its contrary can't
nat_le_by : (m n : ℕ) → (n < m → m ≤ n) → m ≤ n
nat_le_by m n h = grind arith

no_more : (ts : List Token) (refusal : Refusal) (h : Stuck initial ts refusal) (p r : List Token) → ts ≡ p ++ r → BeginsGroup p → length p ≤ length h.front
no_more ts refusal h p r e b =
    nat_le_by (length p) (length h.front) (λ more.
    let l = longer h.front h.token h.rest p r (sym h.whole ∙ e) more in
    let g = follow_group b.3 in
    let whole : p ++ b.0 ≡ h.front ++ h.token ∷ (l.0 ++ b.0) = ap (λ x. x ++ b.0) l.1 ∙ append_assoc h.front (h.token ∷ l.0) b.0 in
    let fails = ap (follow initial) whole ∙ stuck_follow initial ts refusal h (l.0 ++ b.0) in
    absurd (cc (g.is, fails)))

stuck_bad : (end : ℕ) (ts : List Token) (refusal : Refusal) → follow initial ts ≡ Err refusal → IsReading end ts (Err refusal)
stuck_bad end ts refusal e =
    let h = stuck_at initial ts refusal e in
    let bad : IsNoGroup ts end h.token.at = record {
      no_group = λ group refused g. let k = follow_group g in absurd (cc (k.is, e));
      front = h.front;
      rest = h.token ∷ h.rest;
      whole = h.whole;
      place = refl;
      begins = begins h.front h.state h.read;
      longest = λ p r f g. no_more ts refusal h p r f g;
    } in
    subst (λ r. IsReading end ts (Err r)) (sym (step_fails h.state h.token refusal h.stuck)) bad

-- ---- where the text ends

shorter : (ts p r : List Token) → ts ≡ p ++ r → length p ≤ length ts
shorter ts p r e = omega (arith, ap length e, length-append p r)

ended_bad : (end : ℕ) (ts : List Token) (s : State) → follow initial ts ≡ Ok s → may_end s.place ≡ false → IsNoGroup ts end end
ended_bad end ts s e m = record {
  no_group = λ group refused g.
      let k = follow_group g in
      let same : k.state ≡ s = same_Ok (sym k.is ∙ e) in
      absurd (not_both (may_end k.state.place) k.ends (ap (λ (x : State). may_end x.place) same ∙ m));
  front = ts;
  rest = [];
  whole = sym (append-nil ts);
  place = refl;
  begins = begins ts s e;
  longest = λ p r f g. shorter ts p r f;
}

first_none : (all : List ℕ) → first_of all ≡ None → all ≡ []
first_none [] e = refl
first_none (x ∷ xs) e = absurd (cc)

first_some : (all : List ℕ) (x : ℕ) → first_of all ≡ Some x → (others : List ℕ) × (all ≡ x ∷ others)
first_some [] x e = absurd (cc)
first_some (y ∷ ys) x e = let same : y ≡ x = cc in (ys, ap (λ z. z ∷ ys) same)

judged_reads : (end : ℕ) (ts : List Token) (s : State) (first : Option ℕ) → s.refused ≡ first → (all : List ℕ) → s.refused ≡ first_of all → IsGroup ts (done s).group all → IsReading end ts (judged first (done s))
judged_reads end ts s None e all f g = subst (IsGroup ts (done s).group) (first_none all (sym f ∙ e)) g
judged_reads end ts s (Some x) e all f g = let k = first_some all x (sym f ∙ e) in ((done s).group, k.0, subst (IsGroup ts (done s).group) k.1 g)

finished_reads : (end : ℕ) (ts : List Token) (s : State) → follow initial ts ≡ Ok s → (yes : Bool) → may_end s.place ≡ yes → IsReading end ts (cond yes (judged s.refused (done s)) (Err (bad_at end)))
finished_reads end ts s e true m = let g = sound ts s e m in judged_reads end ts s s.refused refl g.0 g.1 g.2
finished_reads end ts s e false m = ended_bad end ts s e m

verdict_reads : (end : ℕ) (ts : List Token) (r : Result State Refusal) → follow initial ts ≡ r → IsReading end ts (verdict end r)
verdict_reads end ts (Ok s) e = finished_reads end ts s e (may_end s.place) refl
verdict_reads end ts (Err refusal) e = stuck_bad end ts refusal e

-- the answer for tokens is what they are without comments
pub reads_all : (end : ℕ) (ts : List Token) → IsReading end (without_comments ts) (verdict_of end ts)
reads_all end ts = subst (λ r. IsReading end (without_comments ts) (verdict end r)) (sym (run_follow initial ts)) (verdict_reads end (without_comments ts) (follow initial (without_comments ts)) refl)

-- ---- nothing else

judged_same : (first : Option ℕ) (s : State) (group : List Spelled) → s.group ≡ group → judged first s ≡ judged first (record initial { group = group })
judged_same None s group e = ap Ok e
judged_same (Some place) s group e = refl

group_only : (end : ℕ) (ts : List Token) (group : List Spelled) (all : List ℕ) → IsGroup ts group all → verdict end (follow initial ts) ≡ judged (first_of all) (record initial { group = group })
group_only end ts group all g =
    let k = follow_group g in
    ap (verdict end) k.is ∙ ap (λ b. cond b (judged k.state.refused (done k.state)) (Err (bad_at end))) k.ends ∙ ap (λ r. judged r (done k.state)) k.first ∙ judged_same (first_of all) (done k.state) group k.gives

same_rest : (p q r s : List Token) → p ++ q ≡ r ++ s → length p ≡ length r → q ≡ s
same_rest [] q [] s e l = e
same_rest [] q (y ∷ r) s e l = absurd (omega (arith, l))
same_rest (x ∷ p) q [] s e l = absurd (omega (arith, l))
same_rest (x ∷ p) q (y ∷ r) s e l =
    let others : p ++ q ≡ r ++ s = cc in
    same_rest p q r s others (omega (arith, l))

nothing_left : (rest : List Token) (end : ℕ) → length rest ≡ 0 → start_of end rest ≡ end
nothing_left [] end e = refl
nothing_left (t ∷ rest) end e = absurd (omega (arith, e))

bad_finished : (end : ℕ) (ts : List Token) (place : ℕ) → IsNoGroup ts end place → (s : State) → follow initial ts ≡ Ok s → (yes : Bool) → may_end s.place ≡ yes
    → cond yes (judged s.refused (done s)) (Err (bad_at end)) ≡ Err (bad_at place)
bad_finished end ts place h s e true m = let g = sound ts s e m in absurd (h.no_group (done s).group g.0 g.2)
bad_finished end ts place h s e false m =
    let all = h.longest ts [] (sym (append-nil ts)) (begins ts s e) in
    let size = ap length h.whole ∙ length-append h.front h.rest in
    let none : length h.rest ≡ 0 = omega (arith, all, size) in
    ap (λ n. Err (bad_at n)) (sym (h.place ∙ nothing_left h.rest end none))

bad_by : (end : ℕ) (ts : List Token) (place : ℕ) → IsNoGroup ts end place → (r : Result State Refusal) → follow initial ts ≡ r → verdict end r ≡ Err (bad_at place)
bad_by end ts place h (Ok s) e = bad_finished end ts place h s e (may_end s.place) refl
bad_by end ts place h (Err other) e =
    let k = stuck_at initial ts other e in
    let upper = no_more ts other k h.front h.rest h.whole h.begins in
    let lower = h.longest k.front (k.token ∷ k.rest) k.whole (begins k.front k.state k.read) in
    let same : h.rest ≡ k.token ∷ k.rest = same_rest h.front h.rest k.front (k.token ∷ k.rest) (sym h.whole ∙ k.whole) (omega (arith, upper, lower)) in
    ap Err (step_fails k.state k.token other k.stuck ∙ ap bad_at (sym (h.place ∙ ap (start_of end) same)))

bad_only : (end : ℕ) (ts : List Token) (place : ℕ) → IsNoGroup ts end place → verdict end (follow initial ts) ≡ Err (bad_at place)
bad_only end ts place h = bad_by end ts place h (follow initial ts) refl

only : (end : ℕ) (ts : List Token) (v : Verdict) → IsReading end ts v → verdict end (follow initial ts) ≡ v
only end ts (Ok group) h = group_only end ts group [] h
only end ts (Err (unsupported_at place)) h = group_only end ts h.0 (place ∷ h.1) h.2
only end ts (Err (bad_at place)) h = bad_only end ts place h

pub one_reading : (end : ℕ) (ts : List Token) (v w : Verdict) → IsReading end ts v → IsReading end ts w → v ≡ w
one_reading end ts v w h k = sym (only end ts v h) ∙ only end ts w k

pub some_reading : (end : ℕ) (ts : List Token) → (v : Verdict) × IsReading end ts v
some_reading end ts = (verdict end (follow initial ts), verdict_reads end ts (follow initial ts) refl)

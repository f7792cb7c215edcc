-- What reading says of tokens is what they are.
use Rattle.std.proofs.Common.{◌≡◌, ℕ, ◌<◌, ◌≤◌, Bool, true, false, List, [], ◌∷◌, ◌++◌, length, Option, Some, None, Result, Ok, Err, refl, sym, ◌∙◌, ap, subst, arith, length-append}
use Rattle.std.proofs.lemmas.List.{append_assoc, append-nil, length-map}
use Rattle.viz_base.specs.declared.formulas.Formula.{Formula}
use Rattle.vis_read.specs.declared.faults.FormulaFault.{FormulaFault}
use Rattle.vis_read.specs.declared.faults.FormulaFault.TheVariants as of_fault
use Rattle.vis_read.specs.declared.lexemes.Lexeme.{Lexeme}
use Rattle.vis_read.specs.declared.lexemes.Lexeme.TheVariants.{Unknown}
use Rattle.vis_read.specs.declared.lexemes.Token.{Token}
use Rattle.vis_read.specs.declared.reading.Reading.{Reading}
use Rattle.vis_read.specs.Grammar.{Check, fine, unbound, too_deep, Judged, judged, token_of, tokens_of, AreFine, AreFormula, BeginFormula, IsFormula, IsBad, IsFirst, start_of, Outcome, formula_is, bad_at as is_bad_at, unbound_at, too_deep_at}
use Rattle.vis_read.specs.steps.Machine.{Step, ended, formula_read, initial, step, taken}
use Rattle.vis_read.specs.steps.Verdicts.{end_with, run, then_end, then_run, verdict}
use Rattle.vis_read.proofs.Walks.{Walk, stop, take, walk_on, walk_before}
use Rattle.vis_read.proofs.Complete.{completes}
use Rattle.vis_read.proofs.Sound.{no_formula, sounds}
use Rattle.vis_read.proofs.Finish.{finishes}

-- ---- one walk for each list of tokens

abbrev head_or : {A : Type 0} → A → List A → A
head_or a [] = a
head_or a (x ∷ xs) = x

abbrev tail_of : {A : Type 0} → List A → List A
tail_of [] = []
tail_of (x ∷ xs) = xs

abbrev is_some : {A : Type 0} → List A → Bool
is_some [] = false
is_some (x ∷ xs) = true

abbrev state_or : Reading → Step → Reading
state_or s None = s
state_or s (Some (next, check)) = next

abbrev is_step : Step → Bool
is_step None = false
is_step (Some x) = true

true_false : true ≡ false → ⊥
true_false e = cc

no_cons : {A : Type 0} (x : A) (xs : List A) → x ∷ xs ≡ [] → ⊥
no_cons x xs e = true_false (ap is_some e)

record Head (s : Reading) (i : Judged) (js : List Judged) (t : Reading) : Type 0 where
  next : Reading
  steps : step s i.lexeme ≡ Some (next, i.check)
  walk : Walk next js [] t

head_of : {s t : Reading} {ks us : List Judged} (i : Judged) (js : List Judged) → Walk s ks us t → us ≡ [] → ks ≡ i ∷ js → Head s i js t
head_of i js stop u e = absurd (no_cons i js (sym e ∙ u))
head_of {s = s} {t = t} {us = us} i js (take {next = n} {j = j} {js = ks} k w) u e = record {
  next = n;
  steps = subst (λ x. step s x.lexeme ≡ Some (n, x.check)) (ap (head_or i) e) k;
  walk = subst (λ x. Walk n x [] t) (ap tail_of e) (subst (λ x. Walk n ks x t) u w);
}

end_of : {s t : Reading} {ks us : List Judged} → Walk s ks us t → us ≡ [] → ks ≡ [] → s ≡ t
end_of stop u e = refl
end_of (take {j = j} {js = js} k w) u e = absurd (no_cons j js e)

abbrev no_token : Token
no_token = record { lexeme = Unknown; at = 0 }

same_next : {s : Reading} {i j : Judged} {js ks : List Judged} {m t : Reading} (a : Head s i js m) (b : Head s j ks t) → token_of i ≡ token_of j → a.next ≡ b.next
same_next {s = s} a b e = ap (state_or s) (sym a.steps ∙ (ap (λ (x : Token). step s x.lexeme) e ∙ b.steps))

one_end : (js ks : List Judged) {s m t : Reading} → Walk s js [] m → Walk s ks [] t → tokens_of js ≡ tokens_of ks → m ≡ t
one_end [] [] w v e = sym (end_of w refl refl) ∙ end_of v refl refl
one_end [] (k ∷ ks) w v e = absurd (no_cons (token_of k) (tokens_of ks) (sym e))
one_end (j ∷ js) [] w v e = absurd (no_cons (token_of j) (tokens_of js) e)
one_end (j ∷ js) (k ∷ ks) {m = m} w v e =
    let a = head_of j js w refl refl in
    let b = head_of k ks v refl refl in
    one_end js ks (subst (λ x. Walk x js [] m) (same_next a b (ap (head_or no_token) e)) a.walk) b.walk (ap tail_of e)

-- a token that can't follow ends each front with which a formula begins
blocked : (front p : List Judged) (next : Token) (rest others : List Token) (more : List Judged) {s m t : Reading}
    → Walk s front [] m → step m next.lexeme ≡ None → Walk s (p ++ more) [] t → tokens_of front ++ next ∷ rest ≡ tokens_of p ++ others → length p ≤ length front
blocked front [] next rest others more w e v h = omega arith
blocked [] (i ∷ p) next rest others more {s = s} w e v h =
    let a = head_of i (p ++ more) v refl refl in
    let heads : next ≡ token_of i = ap (head_or no_token) h in
    let none : step s i.lexeme ≡ None = ap (λ (x : Token). step s x.lexeme) (sym heads) ∙ (ap (λ x. step x next.lexeme) (end_of w refl refl) ∙ e) in
    absurd (true_false (ap is_step (sym a.steps ∙ none)))
blocked (j ∷ front) (i ∷ p) next rest others more {m = m} w e v h =
    let a = head_of j front w refl refl in
    let b = head_of i (p ++ more) v refl refl in
    let same : a.next ≡ b.next = same_next a b (ap (head_or no_token) h) in
    let less : length p ≤ length front = blocked front p next rest others more (subst (λ x. Walk x front [] m) same a.walk) e b.walk (ap tail_of h) in
    omega arith

abbrev formula_or : Formula → Option Formula → Formula
formula_or f None = f
formula_or f (Some g) = g

-- ---- what tokens are

-- what an answer says of the tokens of a text that ends at a place
abbrev pub IsReading : List Token → ℕ → Result Formula FormulaFault → Type 0
IsReading tokens end (Ok f) = IsFormula tokens f
IsReading tokens end (Err of_fault.Mem) = ⊥
IsReading tokens end (Err (of_fault.Bad at)) = IsBad tokens end at
IsReading tokens end (Err (of_fault.Unbound at)) = IsFirst unbound tokens at
IsReading tokens end (Err (of_fault.TooDeep at)) = IsFirst too_deep tokens at

begins : (front : List Judged) {m : Reading} → Walk initial front [] m → BeginFormula front
begins front {m = m} w =
    let f = finishes m in
    (f.tokens, f.value, sounds (walk_on (walk_before w f.tokens) f.walk) f.ends)

fine_on : (front : List Judged) (lexeme : Lexeme) (at : ℕ) → AreFine front → AreFine (front ++ judged fine lexeme at ∷ [])
fine_on [] lexeme at h = (refl, tt)
fine_on (j ∷ front) lexeme at h = (h.0, fine_on front lexeme at h.1)

tokens_on : (front : List Judged) (j : Judged) (rest : List Token) → tokens_of front ++ token_of j ∷ rest ≡ tokens_of (front ++ j ∷ []) ++ rest
tokens_on [] j rest = refl
tokens_on (i ∷ front) j rest = ap (λ ts. token_of i ∷ ts) (tokens_on front j rest)

-- the tokens are no formula
not_whole : (front : List Judged) (rest : List Token) {m : Reading} → Walk initial front [] m → (tokens : List Token) → tokens ≡ tokens_of front ++ rest
    → ((ts : List Judged) (others : List Token) → tokens ≡ tokens_of ts ++ others → BeginFormula ts → length ts ≤ length front) → 0 < length rest
    → (ts : List Judged) (f : Formula) → tokens_of ts ≡ tokens → AreFormula ts f → ⊥
not_whole front rest w tokens e longest some ts f same h =
    let begin : BeginFormula ts = ([], f, subst (λ x. AreFormula x f) (sym (append-nil ts)) h) in
    let le : length ts ≤ length front = longest ts [] (sym same ∙ sym (append-nil (tokens_of ts))) begin in
    let lens : length (tokens_of ts) ≡ length (tokens_of front ++ rest) = ap length (same ∙ e) in
    absurd (omega (arith, le, some, lens, length-append (tokens_of front) rest, length-map ts token_of, length-map front token_of))

bad_at : (tokens : List Token) (end : ℕ) (front : List Judged) (next : Token) (rest : List Token) {m : Reading} → Walk initial front [] m → AreFine front
    → tokens ≡ tokens_of front ++ next ∷ rest → step m next.lexeme ≡ None → IsBad tokens end next.at
bad_at tokens end front next rest w fines e none =
    let longest : (ts : List Judged) (others : List Token) → tokens ≡ tokens_of ts ++ others → BeginFormula ts → length ts ≤ length front
    = λ ts others h b. let c = completes b.2 in blocked front ts next rest others b.0 w none c.1 (sym e ∙ h) in
    record {
      none = not_whole front (next ∷ rest) w tokens e longest (omega arith);
      front = front;
      rest = next ∷ rest;
      whole = e;
      place = refl;
      begins = begins front w;
      longest = longest;
      are_fine = fines;
    }

bad_end : (tokens : List Token) (end : ℕ) (front : List Judged) {m : Reading} → Walk initial front [] m → AreFine front → tokens ≡ tokens_of front → ended m ≡ None → IsBad tokens end end
bad_end tokens end front {m = m} w fines e none = record {
  none = λ ts f same h.
      let c = completes h in
      let last : c.0 ≡ m = one_end ts front c.1 w (same ∙ e) in
      absurd (no_formula (sym none ∙ (ap ended (sym last) ∙ c.2)));
  front = front;
  rest = [];
  whole = e ∙ sym (append-nil (tokens_of front));
  place = refl;
  begins = begins front w;
  longest = λ ts others h begin.
      let lens : length (tokens_of front) ≡ length (tokens_of ts ++ others) = ap length (sym e ∙ h) in
      omega (arith, lens, length-append (tokens_of ts) others, length-map ts token_of, length-map front token_of);
  are_fine = fines;
}

first_at : (check : Check) (tokens : List Token) (front : List Judged) (next : Token) (rest : List Token) {m n : Reading} → Walk initial front [] m → AreFine front
    → tokens ≡ tokens_of front ++ next ∷ rest → step m next.lexeme ≡ Some (n, check) → IsFirst check tokens next.at
first_at check tokens front next rest w fines e s = record {
  front = front;
  lexeme = next.lexeme;
  rest = rest;
  whole = e;
  begins = begins (front ++ judged check next.lexeme next.at ∷ []) (walk_on (walk_before w (judged check next.lexeme next.at ∷ [])) (take s stop));
  are_fine = fines;
}

ends_read : (tokens : List Token) (end : ℕ) (front : List Judged) {m : Reading} (x : Option Formula) → Walk initial front [] m → AreFine front → tokens ≡ tokens_of front → ended m ≡ x → IsReading tokens end (end_with end (formula_read x))
ends_read tokens end front None w fines e n = bad_end tokens end front w fines e n
ends_read tokens end front (Some f) w fines e n = (front, sym e, fines, sounds w n)

reads_step : (tokens : List Token) (end : ℕ) (front : List Judged) (t : Token) (ts : List Token) {m : Reading} (x : Step) → Walk initial front [] m → AreFine front
    → tokens ≡ tokens_of front ++ t ∷ ts → step m t.lexeme ≡ x → ((next : Reading) → step m t.lexeme ≡ Some (next, fine) → IsReading tokens end (then_end end (run next ts)))
    → IsReading tokens end (then_end end (then_run t.at (taken x) (λ next. run next ts)))
reads_step tokens end front t ts None w fines e s further = bad_at tokens end front t ts w fines e s
reads_step tokens end front t ts (Some (next, fine)) w fines e s further = further next s
reads_step tokens end front t ts (Some (next, unbound)) w fines e s further = first_at unbound tokens front t ts w fines e s
reads_step tokens end front t ts (Some (next, too_deep)) w fines e s further = first_at too_deep tokens front t ts w fines e s

reads_on : (tokens : List Token) (end : ℕ) (front : List Judged) (ts : List Token) {m : Reading} → Walk initial front [] m → AreFine front → tokens ≡ tokens_of front ++ ts → IsReading tokens end (then_end end (run m ts))
reads_on tokens end front [] {m = m} w fines e = ends_read tokens end front (ended m) w fines (e ∙ append-nil (tokens_of front)) refl
reads_on tokens end front (t ∷ ts) {m = m} w fines e =
    let j = judged fine t.lexeme t.at in
    reads_step tokens end front t ts (step m t.lexeme) w fines e refl
    (λ next s. reads_on tokens end (front ++ j ∷ []) ts (walk_on (walk_before w (j ∷ [])) (take s stop)) (fine_on front t.lexeme t.at fines) (e ∙ tokens_on front j ts))

pub reads_all : (end : ℕ) (tokens : List Token) → IsReading tokens end (verdict end tokens)
reads_all end tokens = reads_on tokens end [] tokens stop tt refl

outcome_of : (end : ℕ) (tokens : List Token) (x : Result Formula FormulaFault) → IsReading tokens end x → Outcome tokens end
outcome_of end tokens (Ok f) h = formula_is f h
outcome_of end tokens (Err of_fault.Mem) h = absurd h
outcome_of end tokens (Err (of_fault.Bad at)) h = is_bad_at at h
outcome_of end tokens (Err (of_fault.Unbound at)) h = unbound_at at h
outcome_of end tokens (Err (of_fault.TooDeep at)) h = too_deep_at at h

-- each list of tokens has one
pub outcome : (tokens : List Token) (end : ℕ) → Outcome tokens end
outcome tokens end = outcome_of end tokens (verdict end tokens) (reads_all end tokens)

-- tokens are one formula
pub one_formula : (ts us : List Judged) (f g : Formula) → tokens_of ts ≡ tokens_of us → AreFormula ts f → AreFormula us g → f ≡ g
one_formula ts us f g e h k =
    let c = completes h in
    let d = completes k in
    ap (formula_or f) (sym c.2 ∙ (ap ended (one_end ts us c.1 d.1 e) ∙ d.2))

-- ---- tokens have one answer

-- reading goes on behind tokens that may stand where they stand
run_walk : (front : List Judged) (rest : List Token) {s m : Reading} → Walk s front [] m → AreFine front → run s (tokens_of front ++ rest) ≡ run m rest
run_walk [] rest w h = ap (λ x. run x rest) (end_of w refl refl)
run_walk (j ∷ front) rest {s = s} {m = m} w h =
    let a = head_of j front w refl refl in
    ap (λ x. then_run j.at (taken x) (λ next. run next (tokens_of front ++ rest))) (a.steps ∙ ap (λ c. Some (a.next, c)) h.0) ∙ run_walk front rest a.walk h.1

record Split (s t : Reading) (front more : List Judged) : Type 0 where
  between : Reading
  before : Walk s front [] between
  behind : Walk between more [] t

split : (front more : List Judged) {s t : Reading} → Walk s (front ++ more) [] t → Split s t front more
split [] more {s = s} w = record { between = s; before = stop; behind = w }
split (j ∷ front) more w =
    let a = head_of j (front ++ more) w refl refl in
    let b = split front more a.walk in
    record { between = b.between; before = take a.steps b.before; behind = b.behind }

formula_reading : (tokens : List Token) (end : ℕ) (f : Formula) → IsFormula tokens f → verdict end tokens ≡ Ok f
formula_reading tokens end f h =
    let c = completes h.3 in
    let same : tokens ≡ tokens_of h.0 ++ [] = sym h.1 ∙ sym (append-nil (tokens_of h.0)) in
    ap (then_end end) (ap (run initial) same ∙ run_walk h.0 [] c.1 h.2) ∙ ap (λ x. end_with end (formula_read x)) c.2

-- what a token says that may not stand where it stands
first_reading : (tokens : List Token) (end at : ℕ) (check : Check) (h : IsFirst check tokens at)
    → (m : Reading) × (n : Reading) × (step m h.lexeme ≡ Some (n, check)) × (verdict end tokens ≡ then_end end (then_run at (taken (step m h.lexeme)) (λ next. run next h.rest)))
first_reading tokens end at check h =
    let j = judged check h.lexeme at in
    let b = h.begins in
    let w = subst (λ ts. AreFormula ts b.1) (append_assoc h.front (j ∷ []) b.0) b.2 in
    let c = completes w in
    let s = split h.front (j ∷ b.0) c.1 in
    let a = head_of j b.0 s.behind refl refl in
    (s.between, a.next, a.steps, ap (then_end end) (ap (run initial) h.whole ∙ run_walk h.front (record { lexeme = h.lexeme; at = at } ∷ h.rest) s.before h.are_fine))

unbound_reading : (tokens : List Token) (end at : ℕ) → IsFirst unbound tokens at → verdict end tokens ≡ Err (of_fault.Unbound at)
unbound_reading tokens end at h =
    let x = first_reading tokens end at unbound h in
    x.3 ∙ ap (λ y. then_end end (then_run at (taken y) (λ next. run next h.rest))) x.2

deep_reading : (tokens : List Token) (end at : ℕ) → IsFirst too_deep tokens at → verdict end tokens ≡ Err (of_fault.TooDeep at)
deep_reading tokens end at h =
    let x = first_reading tokens end at too_deep h in
    x.3 ∙ ap (λ y. then_end end (then_run at (taken y) (λ next. run next h.rest))) x.2

bad_end_reading : (tokens : List Token) (end : ℕ) (front : List Judged) {m : Reading} → Walk initial front [] m → tokens ≡ tokens_of front
    → ((ts : List Judged) (f : Formula) → tokens_of ts ≡ tokens → AreFormula ts f → ⊥) → (x : Option Formula) → ended m ≡ x → end_with end (formula_read x) ≡ Err (of_fault.Bad end)
bad_end_reading tokens end front w e none None h = refl
bad_end_reading tokens end front w e none (Some f) h = absurd (none front f (sym e) (sounds w h))

bad_step_reading : (tokens : List Token) (end : ℕ) (front : List Judged) (t : Token) (ts : List Token) {m : Reading} → Walk initial front [] m → tokens ≡ tokens_of front ++ t ∷ ts
    → ((us : List Judged) (others : List Token) → tokens ≡ tokens_of us ++ others → BeginFormula us → length us ≤ length front) → (x : Step) → step m t.lexeme ≡ x
    → then_end end (then_run t.at (taken x) (λ next. run next ts)) ≡ Err (of_fault.Bad t.at)
bad_step_reading tokens end front t ts w e longest None s = refl
bad_step_reading tokens end front t ts w e longest (Some (next, check)) s =
    let j = judged check t.lexeme t.at in
    let begun : BeginFormula (front ++ j ∷ []) = begins (front ++ j ∷ []) (walk_on (walk_before w (j ∷ [])) (take s stop)) in
    let le = longest (front ++ j ∷ []) ts (e ∙ tokens_on front j ts) begun in
    absurd (omega (arith, le, length-append front (j ∷ [])))

bad_rest : (tokens : List Token) (end at : ℕ) (front : List Judged) (rest : List Token) {m : Reading} → Walk initial front [] m → AreFine front → tokens ≡ tokens_of front ++ rest → at ≡ start_of end rest
    → ((ts : List Judged) (f : Formula) → tokens_of ts ≡ tokens → AreFormula ts f → ⊥)
    → ((us : List Judged) (others : List Token) → tokens ≡ tokens_of us ++ others → BeginFormula us → length us ≤ length front) → then_end end (run m rest) ≡ Err (of_fault.Bad at)
bad_rest tokens end at front [] {m = m} w fines e place none longest =
    bad_end_reading tokens end front w (e ∙ append-nil (tokens_of front)) none (ended m) refl ∙ ap (λ n. Err (of_fault.Bad n)) (sym place)
bad_rest tokens end at front (t ∷ ts) {m = m} w fines e place none longest =
    bad_step_reading tokens end front t ts w e longest (step m t.lexeme) refl ∙ ap (λ n. Err (of_fault.Bad n)) (sym place)

bad_reading : (tokens : List Token) (end at : ℕ) → IsBad tokens end at → verdict end tokens ≡ Err (of_fault.Bad at)
bad_reading tokens end at h =
    let b = h.begins in
    let c = completes b.2 in
    let s = split h.front b.0 c.1 in
    ap (then_end end) (ap (run initial) h.whole ∙ run_walk h.front h.rest s.before h.are_fine) ∙ bad_rest tokens end at h.front h.rest s.before h.are_fine h.whole h.place h.none h.longest

-- what tokens are is what reading says of them
pub reading_is : (tokens : List Token) (end : ℕ) (x : Result Formula FormulaFault) → IsReading tokens end x → verdict end tokens ≡ x
reading_is tokens end (Ok f) h = formula_reading tokens end f h
reading_is tokens end (Err of_fault.Mem) h = absurd h
reading_is tokens end (Err (of_fault.Bad at)) h = bad_reading tokens end at h
reading_is tokens end (Err (of_fault.Unbound at)) h = unbound_reading tokens end at h
reading_is tokens end (Err (of_fault.TooDeep at)) h = deep_reading tokens end at h

-- Statements have exactly one answer, the one that reading them gives.
use Rattle.std.proofs.Common.{◌≡◌, ℕ, ◌<◌, ◌≤◌, Bool, true, false, cond, not, ◌||◌, List, [], ◌∷◌, ◌++◌, length, Result, Ok, Err, refl, sym, ◌∙◌, ap, subst, ◌⊎◌, inl, inr, arith, append_assoc, nat_lt}
use Rattle.std.specs.List.{list_any}
use Rattle.std.proofs.lemmas.List.{append-nil}
use Rattle.std.proofs.lemmas.Bool.{ltb-true, ltb-false}
use Rattle.std.proofs.lemmas.Bool.Decides.{nat_tests}
use Rattle.std.proofs.Math.Bool.{or-true, or-false}
use Rattle.css_semantics.specs.Pieces.{Token}
use Rattle.viz_base.specs.declared.sheets.Rule.{Rule}
use Rattle.viz_base.proofs.Truths.{by_bool}
use Rattle.css_semantics.specs.declared.statements.Statement.{Statement}
use Rattle.css_semantics.specs.declared.statements.Statement.TheVariants.{Ruleset, Import, Page, MediaQuery, Media}
use Rattle.css_semantics.specs.SheetsReading.{Refusal, import_at, media_at, too_many, closed_by_end}
use Rattle.css_semantics.specs.steps.Sheets.{capped, with_statement, if_ok, read_on, sheet_of, statements}
use Rattle.css_semantics.specs.SheetsGrammar.{rules_of, ends_imports, is_refused, IsAccepted, IsFirstRefused, IsAnswer, refused_import, refused_query, too_long, rules_are, IsSheet}
use Rattle.css_semantics.proofs.Rules.{are_statements, statements_are}

-- whether an `@import` may still come behind statements
abbrev early : List Statement → Bool
early ss = not (list_any ends_imports ss)

or_assoc : (a b c : Bool) → (a || (b || c)) ≡ ((a || b) || c)
or_assoc true b c = refl
or_assoc false b c = refl

any_push : (ss : List Statement) (s : Statement) → list_any ends_imports (ss ++ s ∷ []) ≡ (list_any ends_imports ss || ends_imports s)
any_push [] s = or-false (ends_imports s)
any_push (x ∷ ss) s = ap (λ b. ends_imports x || b) (any_push ss s) ∙ or_assoc (ends_imports x) (list_any ends_imports ss) (ends_imports s)

late : (ss : List Statement) (s : Statement) → ends_imports s ≡ true → false ≡ early (ss ++ s ∷ [])
late ss s e = sym (ap not (any_push ss s ∙ ap (λ b. list_any ends_imports ss || b) e ∙ or-true (list_any ends_imports ss)))

still : (ss : List Statement) (s : Statement) → ends_imports s ≡ false → early ss ≡ early (ss ++ s ∷ [])
still ss s e = sym (ap not (any_push ss s ∙ ap (λ b. list_any ends_imports ss || b) e ∙ or-false (list_any ends_imports ss)))

rules_append : (ss us : List Statement) → rules_of (ss ++ us) ≡ rules_of ss ++ rules_of us
rules_append [] us = refl
rules_append (Ruleset rule ∷ ss) us = ap (λ x. rule ∷ x) (rules_append ss us)
rules_append (Media rules ∷ ss) us = ap (λ x. rules ++ x) (rules_append ss us) ∙ sym (append_assoc rules (rules_of ss) (rules_of us))
rules_append (Import place ∷ ss) us = rules_append ss us
rules_append (Page ∷ ss) us = rules_append ss us
rules_append (MediaQuery place ∷ ss) us = rules_append ss us

-- ---- one statement

same_pair : {a b : Bool} {x y : List Rule} → a ≡ b → x ≡ y → ◌≡◌ {A = Result (Bool × List Rule) Refusal} (Ok (a, x)) (Ok (b, y))
same_pair {a} {b} {x} {y} e f = ap (λ k. Ok (k, x)) e ∙ ap (λ k. Ok (b, k)) f

rules_same : (ss : List Statement) (s : Statement) → rules_of (s ∷ []) ≡ [] → rules_of ss ≡ rules_of (ss ++ s ∷ [])
rules_same ss s e = sym (rules_append ss (s ∷ []) ∙ ap (λ x. rules_of ss ++ x) e ∙ append-nil (rules_of ss))

accepts : (ss : List Statement) (s : Statement) → is_refused ss s ≡ false → with_statement (early ss) (rules_of ss) s ≡ Ok (early (ss ++ s ∷ []), rules_of (ss ++ s ∷ []))
accepts ss (Ruleset rule) h = same_pair (late ss (Ruleset rule) refl) (sym (rules_append ss (Ruleset rule ∷ [])))
accepts ss (Import place) h =
    ap (λ b. cond b (Err (import_at place)) (Ok (b, rules_of ss))) h ∙ same_pair (sym h ∙ still ss (Import place) refl) (rules_same ss (Import place) refl)
accepts ss Page h = same_pair (late ss Page refl) (rules_same ss Page refl)
accepts ss (MediaQuery place) h = cc
accepts ss (Media held) h = same_pair (late ss (Media held) refl) (ap (λ x. rules_of ss ++ x) (sym (append-nil held)) ∙ sym (rules_append ss (Media held ∷ [])))

refuses_import : (ss : List Statement) (place : ℕ) → is_refused ss (Import place) ≡ true → with_statement (early ss) (rules_of ss) (Import place) ≡ Err (import_at place)
refuses_import ss place h = ap (λ b. cond b (Err (import_at place)) (Ok (b, rules_of ss))) h

-- ---- statements that are accepted

read_step : (ss : List Statement) (s : Statement) (us : List Statement) → is_refused ss s ≡ false → read_on (early ss) (rules_of ss) (s ∷ us) ≡ read_on (early (ss ++ s ∷ [])) (rules_of (ss ++ s ∷ [])) us
read_step ss s us h = ap (λ x. if_ok x (λ e rs. read_on e rs us)) (accepts ss s h)

abbrev Accepted : List Statement → List Statement → Type 0
Accepted passed ss = (before : List Statement) (s : Statement) (after : List Statement) → ss ≡ before ++ s ∷ after → is_refused (passed ++ before) s ≡ false

read_past : (ss passed us : List Statement) → Accepted passed ss → read_on (early passed) (rules_of passed) (ss ++ us) ≡ read_on (early (passed ++ ss)) (rules_of (passed ++ ss)) us
read_past [] passed us h = ap (λ x. read_on (early x) (rules_of x) us) (sym (append-nil passed))
read_past (s ∷ ss) passed us h =
    let first : is_refused passed s ≡ false = ap (λ x. is_refused x s) (sym (append-nil passed)) ∙ h [] s ss refl in
    read_step passed s (ss ++ us) first
    ∙ read_past ss (passed ++ s ∷ []) us (λ before t after e. ap (λ x. is_refused x t) (append_assoc passed (s ∷ []) before) ∙ h (s ∷ before) t after (ap (λ x. s ∷ x) e))
    ∙ ap (λ x. read_on (early x) (rules_of x) us) (append_assoc passed (s ∷ []) ss)

read_accepted : (ss us : List Statement) → IsAccepted ss → read_on true [] (ss ++ us) ≡ read_on (early ss) (rules_of ss) us
read_accepted ss us h = read_past ss [] us h

-- ---- the answer is the one that is read

over : (rules : List Rule) → 8192 < length rules → capped rules ≡ Err too_many
over rules h = ap (λ b. cond b (Err too_many) (Ok rules)) (let e : nat_lt 8192 (length rules) ≡ true = grind (arith, nat_tests) in e)

under : (rules : List Rule) → length rules ≤ 8192 → capped rules ≡ Ok rules
under rules h = ap (λ b. cond b (Err too_many) (Ok rules)) (let e : nat_lt 8192 (length rules) ≡ false = grind (arith, nat_tests) in e)

all_read : (ss : List Statement) → IsAccepted ss → read_on true [] ss ≡ capped (rules_of ss)
all_read ss h = ap (read_on true []) (sym (append-nil ss)) ∙ read_accepted ss [] h

pub answer_is : {ss : List Statement} {answer : Result (List Rule) Refusal} → IsAnswer ss answer → answer ≡ read_on true [] ss
answer_is {ss} (refused_import {place = place} h) =
    sym (ap (read_on true []) h.whole ∙ read_accepted h.before (Import place ∷ h.after) h.first
    ∙ ap (λ x. if_ok x (λ e rs. read_on e rs h.after)) (refuses_import h.before place h.refused))
answer_is {ss} (refused_query {place = place} h) =
    sym (ap (read_on true []) h.whole ∙ read_accepted h.before (MediaQuery place ∷ h.after) h.first)
answer_is {ss} (too_long h long) = sym (all_read ss h ∙ over (rules_of ss) long)
answer_is {ss} (rules_are h short) = sym (all_read ss h ∙ under (rules_of ss) short)

-- ---- and there is one

tail_of : (s t : Statement) (ss us : List Statement) → (s ∷ ss) ≡ (t ∷ us) → ss ≡ us
tail_of s t ss us h = cc

head_of : (s t : Statement) (ss us : List Statement) → (s ∷ ss) ≡ (t ∷ us) → s ≡ t
head_of s t ss us h = cc

not_empty : (before : List Statement) (s : Statement) (after : List Statement) → [] ≡ before ++ s ∷ after → ⊥
not_empty [] s after h = cc
not_empty (b ∷ before) s after h = cc

last_cons : (x b : Statement) (ss : List Statement) (s : Statement) (before : List Statement) (t : Statement) → x ≡ b → (((before ≡ ss) × (t ≡ s)) ⊎ ((rest : List Statement) × (ss ≡ before ++ t ∷ rest))) → (((b ∷ before) ≡ (x ∷ ss)) × (t ≡ s)) ⊎ ((rest : List Statement) × ((x ∷ ss) ≡ (b ∷ before) ++ t ∷ rest))
last_cons x b ss s before t e (inl k) = inl (ap (λ y. y ∷ before) (sym e) ∙ ap (λ y. x ∷ y) k.0, k.1)
last_cons x b ss s before t e (inr k) = inr (k.0, ap (λ y. y ∷ ss) e ∙ ap (λ y. b ∷ y) k.1)

-- a statement of a list with one more is the last, or one of the list
last_or : (ss : List Statement) (s : Statement) (before : List Statement) (t : Statement) (after : List Statement) → (ss ++ s ∷ []) ≡ (before ++ t ∷ after) → ((before ≡ ss) × (t ≡ s)) ⊎ ((rest : List Statement) × (ss ≡ before ++ t ∷ rest))
last_or [] s [] t after h = inl (refl, sym (head_of s t [] after h))
last_or [] s (b ∷ before) t after h = absurd (not_empty before t after (tail_of s b [] (before ++ t ∷ after) h))
last_or (x ∷ ss) s [] t after h = inr (ss, ap (λ y. y ∷ ss) (head_of x t (ss ++ s ∷ []) after h))
last_or (x ∷ ss) s (b ∷ before) t after h =
    last_cons x b ss s before t (head_of x b (ss ++ s ∷ []) (before ++ t ∷ after) h) (last_or ss s before t after (tail_of x b (ss ++ s ∷ []) (before ++ t ∷ after) h))

accepted_last : (ss : List Statement) (s : Statement) (before : List Statement) (t : Statement) → IsAccepted ss → is_refused ss s ≡ false → (((before ≡ ss) × (t ≡ s)) ⊎ ((rest : List Statement) × (ss ≡ before ++ t ∷ rest))) → is_refused before t ≡ false
accepted_last ss s before t h e (inl k) = ap (λ x. is_refused x t) k.0 ∙ ap (is_refused ss) k.1 ∙ e
accepted_last ss s before t h e (inr k) = h before t k.0 k.1

accepted_push : (ss : List Statement) (s : Statement) → IsAccepted ss → is_refused ss s ≡ false → IsAccepted (ss ++ s ∷ [])
accepted_push ss s h e before t after whole = accepted_last ss s before t h e (last_or ss s before t after whole)

-- the statements are accepted, or one is the first that is refused
abbrev Judged : List Statement → Type 0
Judged ss = IsAccepted ss ⊎ ((s : Statement) × IsFirstRefused ss s)

judge : (ss passed : List Statement) → IsAccepted passed → Judged (passed ++ ss)
judge [] passed h = inl (subst IsAccepted (sym (append-nil passed)) h)
judge (s ∷ ss) passed h =
    by_bool (is_refused passed s)
    (λ e. inr (s, record { before = passed; after = ss; whole = refl; refused = e; first = h }))
    (λ e. subst Judged (append_assoc passed (s ∷ []) ss) (judge ss (passed ++ s ∷ []) (accepted_push passed s h e)))

false_true : ◌≡◌ {A = Bool} false true → ⊥
false_true h = cc

refused_answer : (ss : List Statement) (s : Statement) → IsFirstRefused ss s → (answer : Result (List Rule) Refusal) × IsAnswer ss answer
refused_answer ss (Ruleset rule) h = let e : false ≡ true = h.refused in absurd (false_true e)
refused_answer ss (Import place) h = (Err (import_at place), refused_import h)
refused_answer ss Page h = let e : false ≡ true = h.refused in absurd (false_true e)
refused_answer ss (MediaQuery place) h = (Err (media_at place), refused_query h)
refused_answer ss (Media held) h = let e : false ≡ true = h.refused in absurd (false_true e)

some_answer : (ss : List Statement) → Judged ss → (answer : Result (List Rule) Refusal) × IsAnswer ss answer
some_answer ss (inl h) =
    by_bool (nat_lt 8192 (length (rules_of ss)))
    (λ e. (Err too_many, too_long h (ltb-true _ _ e)))
    (λ e. (Ok (rules_of ss), rules_are h (ltb-false _ _ e)))
some_answer ss (inr h) = refused_answer ss h.0 h.1

pub is_answer : (ss : List Statement) → IsAnswer ss (read_on true [] ss)
is_answer ss =
    let none : IsAccepted [] = λ before s after e. absurd (not_empty before s after e) in
    let a = some_answer ss (judge ss [] none) in
    subst (IsAnswer ss) (answer_is a.1) a.1

-- ---- the sheet

pub is_sheet : (tokens : List Token) → IsSheet tokens (sheet_of tokens)
is_sheet tokens =
    record { statements = statements (closed_by_end tokens); read = are_statements (closed_by_end tokens); gives = is_answer (statements (closed_by_end tokens)) }

pub sheet_is : (tokens : List Token) (answer : Result (List Rule) Refusal) → IsSheet tokens answer → answer ≡ sheet_of tokens
sheet_is tokens answer h = answer_is h.gives ∙ ap (read_on true []) (statements_are h.read)

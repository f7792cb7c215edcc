-- Tokens of the grammar are read to where the grammar says.
use Rattle.std.proofs.Common.{◌≡◌, ℕ, ◌<◌, Bool, true, false, List, [], ◌∷◌, ◌++◌, length, Option, Some, None, Ok, refl, sym, ◌∙◌, ap, subst, arith, append_assoc}
use Rattle.std.proofs.lemmas.List.{append-nil}
use Rattle.viz_base.specs.declared.selectors.Compound.{Compound}
use Rattle.viz_base.specs.declared.selectors.Join.{Join}
use Rattle.viz_base.specs.declared.selectors.Join.TheVariants.{First, Descendant, Child, Next}
use Rattle.viz_base.specs.declared.selectors.Test.{Test}
use Rattle.viz_base.specs.declared.selectors.Test.TheVariants as of_test
use Rattle.css_semantics.specs.Pieces.{Token}
use Rattle.css_semantics.specs.declared.terminals.Comparison.{Comparison}
use Rattle.css_semantics.specs.declared.terminals.Terminal.{Terminal}
use Rattle.css_semantics.specs.declared.terminals.Terminal.TheVariants as a
use Rattle.css_semantics.specs.SelectorTerminals.{terminal, name_of, comparison, compared, is_value}
use Rattle.css_semantics.specs.SheetsMarks.{text_of}
use Rattle.css_semantics.specs.Spelled.{Spelled}
use Rattle.viz_base.specs.declared.selectors.Pseudo.{Pseudo}
use Rattle.css_semantics.specs.SelectorGrammar.{IsGap, IsTest, id, class, has, compares, pseudo_class, language, AreTests, no_test, one_more, IsHead, nothing, star, tag, IsBody, IsCompound, IsCombinator, descendant, child, adjacent, IsFront, at_start, further, IsLast, plain, generated, two_colons, with_refused, IsSelectorText, selector, AreEarlier, none_earlier, one_later, IsGroup, selectors}
use Rattle.css_select.specs.declared.reading.Place.{Place}
use Rattle.css_select.specs.declared.reading.Place.TheVariants.{Fresh, Compound as InCompound, Gap, Dot, Colon, Colons, Language, LanguageEnd, Element, Bracket, Name, Sign, Value}
use Rattle.css_select.specs.steps.Machine.{State, initial, at, empty, ended, joined, may_end, or_first, pseudo_at, refused as refused_at, tested, then_run, step, step_at, step_fresh, step_function, step_gap, step_generated, step_name, step_pseudo, step_sign, step_test, step_value}
use Rattle.css_select.proofs.Following.{follow, follow_on}
use Rattle.css_select.proofs.Held.{Part, first_of}

abbrev pub st : Place → List Spelled → List Part → Join → Compound → Option ℕ → State
st place group parts join c first = record { place = place; group = group; parts = parts; join = join; compound = c; refused = first }

-- the first refused selector behind more of them
abbrev pub or_all : Option ℕ → List ℕ → Option ℕ
or_all first [] = first
or_all first (x ∷ xs) = or_all (or_first first x) xs

or_append : (first : Option ℕ) (xs ys : List ℕ) → or_all (or_all first xs) ys ≡ or_all first (xs ++ ys)
or_append first [] ys = refl
or_append first (x ∷ xs) ys = or_append (or_first first x) xs ys

or_some : (x : ℕ) (xs : List ℕ) → or_all (Some x) xs ≡ Some x
or_some x [] = refl
or_some x (y ∷ ys) = or_some x ys

pub or_none : (xs : List ℕ) → or_all None xs ≡ first_of xs
or_none [] = refl
or_none (x ∷ xs) = or_some x xs

-- ---- one token

on : (s : State) (t : Token) (next : State) (us : List Token) → step s t ≡ Ok next → follow s (t ∷ us) ≡ follow next us
on s t next us e = ap (λ r. then_run r (λ n. follow n us)) e

-- white space at a place that stays
stays : (s : State) → ((t : Token) → terminal t ≡ a.Space → step s t ≡ Ok s) → (gap us : List Token) → IsGap gap → follow s (gap ++ us) ≡ follow s us
stays s h [] us g = refl
stays s h (t ∷ gap) us g = on s t s (gap ++ us) (h t g.0) ∙ stays s h gap us g.1

-- ---- tests

abbrev starts_test : Terminal → Bool
starts_test a.Id = true
starts_test a.Dot = true
starts_test a.LeftBracket = true
starts_test a.Colon = true
starts_test _ = false

-- where a test may begin
record Enters (s : State) : Type 0 where
  enters : (t : Token) (sign : Terminal) → starts_test sign ≡ true → terminal t ≡ sign → step s t ≡ step_test (at s Fresh) t sign

fresh_enters : (group : List Spelled) (parts : List Part) (join : Join) (c : Compound) (first : Option ℕ) (t : Token) (sign : Terminal) → starts_test sign ≡ true → terminal t ≡ sign
    → step (st Fresh group parts join c first) t ≡ step_test (st Fresh group parts join c first) t sign
fresh_enters group parts join c first t a.Id e k = ap (step_at Fresh (st Fresh group parts join c first) t) k
fresh_enters group parts join c first t a.Dot e k = ap (step_at Fresh (st Fresh group parts join c first) t) k
fresh_enters group parts join c first t a.LeftBracket e k = ap (step_at Fresh (st Fresh group parts join c first) t) k
fresh_enters group parts join c first t a.Colon e k = ap (step_at Fresh (st Fresh group parts join c first) t) k
fresh_enters group parts join c first t sign e k = absurd (cc)

compound_enters : (group : List Spelled) (parts : List Part) (join : Join) (c : Compound) (first : Option ℕ) (t : Token) (sign : Terminal) → starts_test sign ≡ true → terminal t ≡ sign
    → step (st InCompound group parts join c first) t ≡ step_test (st Fresh group parts join c first) t sign
compound_enters group parts join c first t a.Id e k = ap (step_at InCompound (st Fresh group parts join c first) t) k
compound_enters group parts join c first t a.Dot e k = ap (step_at InCompound (st Fresh group parts join c first) t) k
compound_enters group parts join c first t a.LeftBracket e k = ap (step_at InCompound (st Fresh group parts join c first) t) k
compound_enters group parts join c first t a.Colon e k = ap (step_at InCompound (st Fresh group parts join c first) t) k
compound_enters group parts join c first t sign e k = absurd (cc)

at_fresh : (group : List Spelled) (parts : List Part) (join : Join) (c : Compound) (first : Option ℕ) → Enters (st Fresh group parts join c first)
at_fresh group parts join c first = record { enters = fresh_enters group parts join c first }

at_compound : (group : List Spelled) (parts : List Part) (join : Join) (c : Compound) (first : Option ℕ) → Enters (st InCompound group parts join c first)
at_compound group parts join c first = record { enters = compound_enters group parts join c first }

-- behind tests
abbrev after : Place → State → List Test → List ℕ → State
after place s tests others = st place s.group s.parts s.join (record { tag = s.compound.tag; tests = s.compound.tests ++ tests }) (or_all s.refused others)

name_sign : (s : State) (name : List ℕ) (t : Token) (sign : Terminal) (how : Comparison) → comparison sign ≡ Some how → step_name s name t sign ≡ Ok (at s (Sign name how))
name_sign s name t a.Equal how e = ap (step_sign s name t) e
name_sign s name t a.Includes how e = ap (step_sign s name t) e
name_sign s name t a.DashMatch how e = ap (step_sign s name t) e
name_sign s name t sign how e = absurd (cc)

value_read : (s : State) (name : List ℕ) (how : Comparison) (t : Token) (sign : Terminal) → is_value sign ≡ true → step_value s name how t sign ≡ Ok (at s (Value (compared how name (text_of t))))
value_read s name how t a.Ident e = refl
value_read s name how t a.Str e = refl
value_read s name how t sign e = absurd (cc)

follow_test : (s : State) → Enters s → {piece : List Token} {tests : List Test} {others : List ℕ} → IsTest piece tests others → (us : List Token) → follow s (piece ++ us) ≡ follow (after InCompound s tests others) us
follow_test s h (id {t = t} k) us = on s t (tested (at s Fresh) (of_test.Id (text_of t))) us (h.enters t a.Id refl k)
follow_test s h (class {dot = dot} {name = name} k m) us =
    on s dot (at s Dot) (name ∷ us) (h.enters dot a.Dot refl k) ∙ on (at s Dot) name (tested (at s Fresh) (of_test.Class (text_of name))) us (ap (step_at Dot (at s Fresh) name) m)
follow_test s h (has opening name closing before behind k g m f l) us =
    let whole : (opening ∷ (before ++ name ∷ (behind ++ closing ∷ []))) ++ us ≡ opening ∷ (before ++ name ∷ (behind ++ closing ∷ us)) = simp append_assoc in
    ap (follow s) whole
    ∙ on s opening (at s Bracket) (before ++ name ∷ (behind ++ closing ∷ us)) (h.enters opening a.LeftBracket refl k)
    ∙ stays (at s Bracket) (λ t e. ap (step_at Bracket (at s Fresh) t) e) before (name ∷ (behind ++ closing ∷ us)) g
    ∙ on (at s Bracket) name (at s (Name (name_of name))) (behind ++ closing ∷ us) (ap (step_at Bracket (at s Fresh) name) m)
    ∙ stays (at s (Name (name_of name))) (λ t e. ap (step_at (Name (name_of name)) (at s Fresh) t) e) behind (closing ∷ us) f
    ∙ on (at s (Name (name_of name))) closing (tested (at s Fresh) (of_test.Has (name_of name))) us (ap (step_at (Name (name_of name)) (at s Fresh) closing) l)
follow_test s h (compares opening name sign value closing before behind between beyond how k g m f c d v e l) us =
    let test = compared how (name_of name) (text_of value) in
    let whole : (opening ∷ (before ++ name ∷ (behind ++ sign ∷ (between ++ value ∷ (beyond ++ closing ∷ []))))) ++ us ≡ opening ∷ (before ++ name ∷ (behind ++ sign ∷ (between ++ value ∷ (beyond ++ closing ∷ us)))) = simp append_assoc in
    ap (follow s) whole
    ∙ on s opening (at s Bracket) (before ++ name ∷ (behind ++ sign ∷ (between ++ value ∷ (beyond ++ closing ∷ us)))) (h.enters opening a.LeftBracket refl k)
    ∙ stays (at s Bracket) (λ t e. ap (step_at Bracket (at s Fresh) t) e) before (name ∷ (behind ++ sign ∷ (between ++ value ∷ (beyond ++ closing ∷ us)))) g
    ∙ on (at s Bracket) name (at s (Name (name_of name))) (behind ++ sign ∷ (between ++ value ∷ (beyond ++ closing ∷ us))) (ap (step_at Bracket (at s Fresh) name) m)
    ∙ stays (at s (Name (name_of name))) (λ t e. ap (step_at (Name (name_of name)) (at s Fresh) t) e) behind (sign ∷ (between ++ value ∷ (beyond ++ closing ∷ us))) f
    ∙ on (at s (Name (name_of name))) sign (at s (Sign (name_of name) how)) (between ++ value ∷ (beyond ++ closing ∷ us)) (name_sign (at s Fresh) (name_of name) sign (terminal sign) how c)
    ∙ stays (at s (Sign (name_of name) how)) (λ t e. ap (step_at (Sign (name_of name) how) (at s Fresh) t) e) between (value ∷ (beyond ++ closing ∷ us)) d
    ∙ on (at s (Sign (name_of name) how)) value (at s (Value test)) (beyond ++ closing ∷ us) (value_read (at s Fresh) (name_of name) how value (terminal value) v)
    ∙ stays (at s (Value test)) (λ t e. ap (step_at (Value test) (at s Fresh) t) e) beyond (closing ∷ us) e
    ∙ on (at s (Value test)) closing (tested (at s Fresh) test) us (ap (step_at (Value test) (at s Fresh) closing) l)
follow_test s h (pseudo_class {colon = colon} {name = name} {test = test} k m p) us =
    on s colon (at s (Colon colon.at)) (name ∷ us) (h.enters colon a.Colon refl k)
    ∙ on (at s (Colon colon.at)) name (tested (at s Fresh) test) us (ap (step_at (Colon colon.at) (at s Fresh) name) m ∙ ap (step_pseudo (at s Fresh) colon.at name) p)
follow_test s h (language colon function name closing before behind k f l g m e r) us =
    let whole : (colon ∷ function ∷ (before ++ name ∷ (behind ++ closing ∷ []))) ++ us ≡ colon ∷ function ∷ (before ++ name ∷ (behind ++ closing ∷ us)) = simp append_assoc in
    ap (follow s) whole
    ∙ on s colon (at s (Colon colon.at)) (function ∷ (before ++ name ∷ (behind ++ closing ∷ us))) (h.enters colon a.Colon refl k)
    ∙ on (at s (Colon colon.at)) function (at s (Language colon.at)) (before ++ name ∷ (behind ++ closing ∷ us)) (ap (step_at (Colon colon.at) (at s Fresh) function) f ∙ ap (step_function (at s Fresh) colon.at function) l)
    ∙ stays (at s (Language colon.at)) (λ t e. ap (step_at (Language colon.at) (at s Fresh) t) e) before (name ∷ (behind ++ closing ∷ us)) g
    ∙ on (at s (Language colon.at)) name (at s (LanguageEnd colon.at)) (behind ++ closing ∷ us) (ap (step_at (Language colon.at) (at s Fresh) name) m)
    ∙ stays (at s (LanguageEnd colon.at)) (λ t e. ap (step_at (LanguageEnd colon.at) (at s Fresh) t) e) behind (closing ∷ us) e
    ∙ on (at s (LanguageEnd colon.at)) closing (refused_at (at s Fresh) colon.at InCompound) us (ap (step_at (LanguageEnd colon.at) (at s Fresh) closing) r)
    ∙ ap (λ x. follow (st InCompound s.group s.parts s.join (record { tag = s.compound.tag; tests = x }) (or_first s.refused colon.at)) us) (sym (append-nil s.compound.tests))

-- ---- what begins a simple selector

abbrev starts_compound : Terminal → Bool
starts_compound a.Ident = true
starts_compound a.Star = true
starts_compound a.Id = true
starts_compound a.Dot = true
starts_compound a.LeftBracket = true
starts_compound a.Colon = true
starts_compound _ = false

record Begins (ts : List Token) : Type 0 where
  first : Token
  rest : List Token
  whole : ts ≡ first ∷ rest
  starts : starts_compound (terminal first) ≡ true

begins_append : (ts us : List Token) → Begins ts → Begins (ts ++ us)
begins_append ts us h = record { first = h.first; rest = h.rest ++ us; whole = ap (λ x. x ++ us) h.whole; starts = h.starts }

begins_more : (ts us : List Token) → (0 < length ts → Begins ts) → Begins us → Begins (ts ++ us)
begins_more [] us h k = k
begins_more (t ∷ ts) us h k = begins_append (t ∷ ts) us (h (omega arith))

test_begins : {piece : List Token} {tests : List Test} {others : List ℕ} → IsTest piece tests others → Begins piece
test_begins (id {t = t} k) = record { first = t; rest = []; whole = refl; starts = ap starts_compound k }
test_begins (class {dot = dot} {name = name} k m) = record { first = dot; rest = name ∷ []; whole = refl; starts = ap starts_compound k }
test_begins (has opening name closing before behind k g m f l) = record { first = opening; rest = before ++ name ∷ (behind ++ closing ∷ []); whole = refl; starts = ap starts_compound k }
test_begins (compares opening name sign value closing before behind between beyond how k g m f c d v e l) =
    record { first = opening; rest = before ++ name ∷ (behind ++ sign ∷ (between ++ value ∷ (beyond ++ closing ∷ []))); whole = refl; starts = ap starts_compound k }
test_begins (pseudo_class {colon = colon} {name = name} k m p) = record { first = colon; rest = name ∷ []; whole = refl; starts = ap starts_compound k }
test_begins (language colon function name closing before behind k f l g m e r) =
    record { first = colon; rest = function ∷ (before ++ name ∷ (behind ++ closing ∷ [])); whole = refl; starts = ap starts_compound k }

tests_begin : {ts : List Token} {tests : List Test} {others : List ℕ} → AreTests ts tests others → 0 < length ts → Begins ts
tests_begin no_test some = absurd (omega arith)
tests_begin (one_more ts piece h t) some = begins_more ts piece (tests_begin h) (test_begins t)

head_begins : {ts : List Token} {name : Option (List ℕ)} → IsHead ts name → 0 < length ts → Begins ts
head_begins nothing some = absurd (omega arith)
head_begins (star {t = t} k) some = record { first = t; rest = []; whole = refl; starts = ap starts_compound k }
head_begins (tag {t = t} k) some = record { first = t; rest = []; whole = refl; starts = ap starts_compound k }

append_begins : (ts us : List Token) → (0 < length ts → Begins ts) → (0 < length us → Begins us) → 0 < length (ts ++ us) → Begins (ts ++ us)
append_begins [] us h k some = k some
append_begins (t ∷ ts) us h k some = begins_append (t ∷ ts) us (h (omega arith))

body_begins : {ts : List Token} {c : Compound} {others : List ℕ} → IsBody ts c others → 0 < length ts → Begins ts
body_begins h some = subst Begins (sym h.whole) (append_begins h.head h.tail (head_begins h.has_head) (tests_begin h.has_tests) (subst (λ x. 0 < length x) h.whole some))

compound_begins : {ts : List Token} {c : Compound} {others : List ℕ} → IsCompound ts c others → Begins ts
compound_begins h = body_begins h.body h.some

last_begins : {ts : List Token} {c : Compound} {pseudo : Option Pseudo} {others : List ℕ} → IsLast ts c pseudo others → Begins ts
last_begins (plain h) = compound_begins h
last_begins (generated ts colon name h k m p) = begins_more ts (colon ∷ name ∷ []) (body_begins h) (record { first = colon; rest = name ∷ []; whole = refl; starts = ap starts_compound k })
last_begins (two_colons ts colon second name h k l m p) = begins_more ts (colon ∷ second ∷ name ∷ []) (body_begins h) (record { first = colon; rest = second ∷ name ∷ []; whole = refl; starts = ap starts_compound k })
last_begins (with_refused ts colon name h k m p) = begins_more ts (colon ∷ name ∷ []) (body_begins h) (record { first = colon; rest = name ∷ []; whole = refl; starts = ap starts_compound k })

-- ---- a simple selector

-- tests that are read from a place lead to a place
record TestsRead (s : State) (ts : List Token) (tests : List Test) (others : List ℕ) : Type 0 where
  place : Place
  is : (us : List Token) → follow s (ts ++ us) ≡ follow (after place s tests others) us
  can_go : Enters (after place s tests others)
  some : 0 < length ts → place ≡ InCompound
  keeps : s.place ≡ InCompound → place ≡ InCompound

tests_none : (s : State) → Enters s → TestsRead s [] [] []
tests_none s h = record {
  place = s.place;
  is = λ us. ap (λ x. follow (st s.place s.group s.parts s.join (record { tag = s.compound.tag; tests = x }) s.refused) us) (sym (append-nil s.compound.tests));
  can_go = subst (λ x. Enters (st s.place s.group s.parts s.join (record { tag = s.compound.tag; tests = x }) s.refused)) (sym (append-nil s.compound.tests)) h;
  some = λ e. absurd (omega arith);
  keeps = λ e. e;
}

tests_more : (s : State) (ts piece : List Token) (tests more : List Test) (refused others : List ℕ) → TestsRead s ts tests refused → IsTest piece more others → TestsRead s (ts ++ piece) (tests ++ more) (refused ++ others)
tests_more s ts piece tests more refused others h t = record {
  place = InCompound;
  is = λ us. ap (follow s) (append_assoc ts piece us) ∙ h.is (piece ++ us) ∙ follow_test (after h.place s tests refused) h.can_go t us
      ∙ ap (λ x. follow (st InCompound s.group s.parts s.join (record { tag = s.compound.tag; tests = x }) (or_all (or_all s.refused refused) others)) us) (append_assoc s.compound.tests tests more)
      ∙ ap (λ x. follow (st InCompound s.group s.parts s.join (record { tag = s.compound.tag; tests = s.compound.tests ++ (tests ++ more) }) x) us) (or_append s.refused refused others);
  can_go = at_compound s.group s.parts s.join (record { tag = s.compound.tag; tests = s.compound.tests ++ (tests ++ more) }) (or_all s.refused (refused ++ others));
  some = λ e. refl;
  keeps = λ e. refl;
}

follow_tests : {ts : List Token} {tests : List Test} {others : List ℕ} → AreTests ts tests others → (s : State) → Enters s → TestsRead s ts tests others
follow_tests no_test s h = tests_none s h
follow_tests (one_more ts piece {tests = tests} {more = more} {refused = refused} {others = others} k t) s h = tests_more s ts piece tests more refused others (follow_tests k s h) t

record BodyRead (group : List Spelled) (parts : List Part) (join : Join) (first : Option ℕ) (ts : List Token) (c : Compound) (others : List ℕ) : Type 0 where
  place : Place
  is : (us : List Token) → follow (st Fresh group parts join empty first) (ts ++ us) ≡ follow (st place group parts join c (or_all first others)) us
  can_go : Enters (st place group parts join c (or_all first others))
  some : 0 < length ts → place ≡ InCompound

body_by : {head : List Token} {name : Option (List ℕ)} → IsHead head name → (tail : List Token) (tests : List Test) (others : List ℕ) → AreTests tail tests others → (group : List Spelled) (parts : List Part) (join : Join) (first : Option ℕ)
    → BodyRead group parts join first (head ++ tail) (record { tag = name; tests = tests }) others
body_by nothing tail tests others h group parts join first =
    let k = follow_tests h (st Fresh group parts join empty first) (at_fresh group parts join empty first) in
    record { place = k.place; is = k.is; can_go = k.can_go; some = k.some }
body_by (star {t = t} e) tail tests others h group parts join first =
    let s = st InCompound group parts join empty first in
    let k = follow_tests h s (at_compound group parts join empty first) in
    record { place = k.place; is = λ us. on (st Fresh group parts join empty first) t s (tail ++ us) (ap (step_at Fresh (st Fresh group parts join empty first) t) e) ∙ k.is us; can_go = k.can_go; some = λ _. k.keeps refl }
body_by (tag {t = t} e) tail tests others h group parts join first =
    let c : Compound = record { tag = Some (name_of t); tests = [] } in
    let s = st InCompound group parts join c first in
    let k = follow_tests h s (at_compound group parts join c first) in
    record { place = k.place; is = λ us. on (st Fresh group parts join empty first) t s (tail ++ us) (ap (step_at Fresh (st Fresh group parts join empty first) t) e) ∙ k.is us; can_go = k.can_go; some = λ _. k.keeps refl }

follow_body : (ts : List Token) (c : Compound) (others : List ℕ) → IsBody ts c others → (group : List Spelled) (parts : List Part) (join : Join) (first : Option ℕ) → BodyRead group parts join first ts c others
follow_body ts c others h group parts join first = subst (λ x. BodyRead group parts join first x c others) (sym h.whole) (body_by h.has_head h.tail c.tests others h.has_tests group parts join first)

follow_compound : (ts : List Token) (c : Compound) (others : List ℕ) → IsCompound ts c others → (group : List Spelled) (parts : List Part) (join : Join) (first : Option ℕ) (us : List Token)
    → follow (st Fresh group parts join empty first) (ts ++ us) ≡ follow (st InCompound group parts join c (or_all first others)) us
follow_compound ts c others h group parts join first us =
    let k = follow_body ts c others h.body group parts join first in
    k.is us ∙ ap (λ x. follow (st x group parts join c (or_all first others)) us) (k.some h.some)

-- ---- combinators

gap_fresh : (s : State) (t : Token) (sign : Terminal) → starts_compound sign ≡ true → step_gap s t sign ≡ step_fresh (joined s Descendant) t sign
gap_fresh s t a.Ident e = refl
gap_fresh s t a.Star e = refl
gap_fresh s t a.Id e = refl
gap_fresh s t a.Dot e = refl
gap_fresh s t a.LeftBracket e = refl
gap_fresh s t a.Colon e = refl
gap_fresh s t sign e = absurd (cc)

follow_gap : (group : List Spelled) (parts : List Part) (join : Join) (c : Compound) (first : Option ℕ) (us : List Token) → Begins us
    → follow (st Gap group parts join c first) us ≡ follow (st Fresh group (parts ++ (join, c) ∷ []) Descendant empty first) us
follow_gap group parts join c first us h =
    let next = st Fresh group (parts ++ (join, c) ∷ []) Descendant empty first in
    ap (follow (st Gap group parts join c first)) h.whole
    ∙ ap (λ r. then_run r (λ n. follow n h.rest)) (gap_fresh (st Fresh group parts join c first) h.first (terminal h.first) h.starts)
    ∙ ap (follow next) (sym h.whole)

-- behind `>` or `+` of which a step is known
follow_sign : (s next : State) (t : Token) (behind us : List Token) → step s t ≡ Ok next → ((u : Token) → terminal u ≡ a.Space → step next u ≡ Ok next) → IsGap behind → follow s ((t ∷ behind) ++ us) ≡ follow next us
follow_sign s next t behind us e h g = on s t next (behind ++ us) e ∙ stays next h behind us g

follow_spaced : (group : List Spelled) (parts : List Part) (join : Join) (c : Compound) (first : Option ℕ) (before : List Token) → IsGap before → (next : State) (t : Token) (behind us : List Token)
    → step (st InCompound group parts join c first) t ≡ Ok next → step (st Gap group parts join c first) t ≡ Ok next → ((u : Token) → terminal u ≡ a.Space → step next u ≡ Ok next) → IsGap behind
    → follow (st InCompound group parts join c first) ((before ++ t ∷ behind) ++ us) ≡ follow next us
follow_spaced group parts join c first [] b next t behind us e f h g = follow_sign (st InCompound group parts join c first) next t behind us e h g
follow_spaced group parts join c first (u ∷ before) b next t behind us e f h g =
    let there = st Gap group parts join c first in
    on (st InCompound group parts join c first) u there ((before ++ t ∷ behind) ++ us) (ap (step_at InCompound (st Fresh group parts join c first) u) b.0)
    ∙ ap (follow there) (append_assoc before (t ∷ behind) us)
    ∙ stays there (λ v k. ap (step_at Gap (st Fresh group parts join c first) v) k) before ((t ∷ behind) ++ us) b.1
    ∙ follow_sign there next t behind us f h g

follow_combinator : {gap : List Token} {how : Join} → IsCombinator gap how → (group : List Spelled) (parts : List Part) (join : Join) (c : Compound) (first : Option ℕ) (us : List Token) → Begins us
    → follow (st InCompound group parts join c first) (gap ++ us) ≡ follow (st Fresh group (parts ++ (join, c) ∷ []) how empty first) us
follow_combinator (descendant {t = t} {more = more} k g) group parts join c first us h =
    let there = st Gap group parts join c first in
    on (st InCompound group parts join c first) t there (more ++ us) (ap (step_at InCompound (st Fresh group parts join c first) t) k)
    ∙ stays there (λ v e. ap (step_at Gap (st Fresh group parts join c first) v) e) more us g
    ∙ follow_gap group parts join c first us h
follow_combinator (child t before behind b k g) group parts join c first us h =
    let s = st Fresh group parts join c first in
    follow_spaced group parts join c first before b (joined s Child) t behind us (ap (step_at InCompound s t) k) (ap (step_at Gap s t) k) (λ u e. ap (step_at Fresh (joined s Child) u) e) g
follow_combinator (adjacent t before behind b k g) group parts join c first us h =
    let s = st Fresh group parts join c first in
    follow_spaced group parts join c first before b (joined s Next) t behind us (ap (step_at InCompound s t) k) (ap (step_at Gap s t) k) (λ u e. ap (step_at Fresh (joined s Next) u) e) g

-- ---- selectors

follow_front : {front : List Token} {parts : List Part} {join : Join} {others : List ℕ} → IsFront front parts join others → (group : List Spelled) (first : Option ℕ) (us : List Token) → Begins us
    → follow (st Fresh group [] First empty first) (front ++ us) ≡ follow (st Fresh group parts join empty (or_all first others)) us
follow_front at_start group first us h = refl
follow_front (further ts piece gap {parts = parts} {join = join} {next = how} {c = c} {refused = refused} {others = others} f k j) group first us h =
    ap (follow (st Fresh group [] First empty first)) (append_assoc ts (piece ++ gap) us ∙ ap (λ x. ts ++ x) (append_assoc piece gap us))
    ∙ follow_front f group first (piece ++ (gap ++ us)) (begins_append piece (gap ++ us) (compound_begins k))
    ∙ follow_compound piece c others k group parts join (or_all first refused) (gap ++ us)
    ∙ follow_combinator j group parts join c (or_all (or_all first refused) others) us h
    ∙ ap (λ x. follow (st Fresh group (parts ++ (join, c) ∷ []) how empty x) us) (or_append first refused others)

-- a last simple selector and white space
record LastRead (group : List Spelled) (parts : List Part) (join : Join) (c : Compound) (pseudo : Option Pseudo) (first : Option ℕ) (others : List ℕ) (ts : List Token) : Type 0 where
  place : Place
  pseudo_is : pseudo_at place ≡ pseudo
  is : follow (st Fresh group parts join empty first) ts ≡ Ok (st place group parts join c (or_all first others))
  ends : may_end place ≡ true
  comma : (t : Token) → terminal t ≡ a.Comma → step (st place group parts join c (or_all first others)) t ≡ Ok (ended (st place group parts join c (or_all first others)) pseudo)

gap_behind : (group : List Spelled) (parts : List Part) (join : Join) (c : Compound) (first : Option ℕ) (others : List ℕ) (ts gap : List Token) → IsGap gap
    → ((us : List Token) → follow (st Fresh group parts join empty first) (ts ++ us) ≡ follow (st InCompound group parts join c (or_all first others)) us) → LastRead group parts join c None first others (ts ++ gap)
gap_behind group parts join c first others ts [] g h = record {
  place = InCompound;
  pseudo_is = refl;
  is = h [];
  ends = refl;
  comma = λ t k. ap (step_at InCompound (st Fresh group parts join c (or_all first others)) t) k;
}
gap_behind group parts join c first others ts (u ∷ gap) g h =
    let s = st Fresh group parts join c (or_all first others) in
    let there = st Gap group parts join c (or_all first others) in record {
      place = Gap;
      pseudo_is = refl;
      is = h (u ∷ gap) ∙ on (st InCompound group parts join c (or_all first others)) u there gap (ap (step_at InCompound s u) g.0)
          ∙ ap (follow there) (sym (append-nil gap)) ∙ stays there (λ v k. ap (step_at Gap s v) k) gap [] g.1;
      ends = refl;
      comma = λ t k. ap (step_at Gap s t) k;
    }

-- behind a pseudo-element, from the place behind its name
element_behind : (group : List Spelled) (parts : List Part) (join : Join) (c : Compound) (pseudo : Option Pseudo) (first : Option ℕ) (others : List ℕ) (ts gap : List Token) → IsGap gap
    → follow (st Fresh group parts join empty first) (ts ++ gap) ≡ follow (st (Element pseudo) group parts join c (or_all first others)) gap → LastRead group parts join c pseudo first others (ts ++ gap)
element_behind group parts join c pseudo first others ts gap g h =
    let s = st Fresh group parts join c (or_all first others) in
    let there = st (Element pseudo) group parts join c (or_all first others) in record {
      place = Element pseudo;
      pseudo_is = refl;
      is = h ∙ ap (follow there) (sym (append-nil gap)) ∙ stays there (λ v e. ap (step_at (Element pseudo) s v) e) gap [] g;
      ends = refl;
      comma = λ t e. ap (step_at (Element pseudo) s t) e;
    }

follow_last : {last : List Token} {c : Compound} {pseudo : Option Pseudo} {others : List ℕ} → IsLast last c pseudo others → (group : List Spelled) (parts : List Part) (join : Join) (first : Option ℕ) (gap : List Token) → IsGap gap
    → LastRead group parts join c pseudo first others (last ++ gap)
follow_last (plain {ts = ts} {c = c} {refused = others} h) group parts join first gap g = gap_behind group parts join c first others ts gap g (follow_compound ts c others h group parts join first)
follow_last (generated ts {c = c} {refused = others} {p = p} colon name h k m e) group parts join first gap g =
    let b = follow_body ts c others h group parts join first in
    let s = st Fresh group parts join c (or_all first others) in
    element_behind group parts join c (Some p) first others (ts ++ colon ∷ name ∷ []) gap g
    (ap (follow (st Fresh group parts join empty first)) (append_assoc ts (colon ∷ name ∷ []) gap) ∙ b.is (colon ∷ name ∷ gap)
    ∙ on (st b.place group parts join c (or_all first others)) colon (at s (Colon colon.at)) (name ∷ gap) (b.can_go.enters colon a.Colon refl k)
    ∙ on (at s (Colon colon.at)) name (at s (Element (Some p))) gap (ap (step_at (Colon colon.at) s name) m ∙ ap (step_pseudo s colon.at name) e))
follow_last (two_colons ts {c = c} {refused = others} {p = p} colon second name h k l m e) group parts join first gap g =
    let b = follow_body ts c others h group parts join first in
    let s = st Fresh group parts join c (or_all first others) in
    element_behind group parts join c (Some p) first others (ts ++ colon ∷ second ∷ name ∷ []) gap g
    (ap (follow (st Fresh group parts join empty first)) (append_assoc ts (colon ∷ second ∷ name ∷ []) gap) ∙ b.is (colon ∷ second ∷ name ∷ gap)
    ∙ on (st b.place group parts join c (or_all first others)) colon (at s (Colon colon.at)) (second ∷ name ∷ gap) (b.can_go.enters colon a.Colon refl k)
    ∙ on (at s (Colon colon.at)) second (at s Colons) (name ∷ gap) (ap (step_at (Colon colon.at) s second) l)
    ∙ on (at s Colons) name (at s (Element (Some p))) gap (ap (step_at Colons s name) m ∙ ap (step_generated s name) e))
follow_last (with_refused ts {c = c} {refused = others} colon name h k m p) group parts join first gap g =
    let b = follow_body ts c others h group parts join first in
    let s = st Fresh group parts join c (or_all first others) in
    let all : or_first (or_all first others) colon.at ≡ or_all first (others ++ colon.at ∷ []) = or_append first others (colon.at ∷ []) in
    element_behind group parts join c None first (others ++ colon.at ∷ []) (ts ++ colon ∷ name ∷ []) gap g
    (ap (follow (st Fresh group parts join empty first)) (append_assoc ts (colon ∷ name ∷ []) gap) ∙ b.is (colon ∷ name ∷ gap)
    ∙ on (st b.place group parts join c (or_all first others)) colon (at s (Colon colon.at)) (name ∷ gap) (b.can_go.enters colon a.Colon refl k)
    ∙ on (at s (Colon colon.at)) name (refused_at s colon.at (Element None)) gap (ap (step_at (Colon colon.at) s name) m ∙ ap (step_pseudo s colon.at name) p)
    ∙ ap (λ x. follow (st (Element None) group parts join c x) gap) all)

record SelectorRead (group : List Spelled) (first : Option ℕ) (piece : List Token) (one : Spelled) (others : List ℕ) : Type 0 where
  place : Place
  before : List Part
  join : Join
  c : Compound
  whole : (before ++ (join, c) ∷ [], pseudo_at place) ≡ one
  is : follow (st Fresh group [] First empty first) piece ≡ Ok (st place group before join c (or_all first others))
  ends : may_end place ≡ true
  comma : (t : Token) → terminal t ≡ a.Comma → step (st place group before join c (or_all first others)) t ≡ Ok (ended (st place group before join c (or_all first others)) (pseudo_at place))

follow_selector : {piece : List Token} {one : Spelled} {others : List ℕ} → IsSelectorText piece one others → (group : List Spelled) (first : Option ℕ) → SelectorRead group first piece one others
follow_selector (selector before front last behind {parts = parts} {join = join} {c = c} {refused = refused} {others = others} b f l g) group first =
    let start = st Fresh group [] First empty first in
    let k = follow_last l group parts join (or_all first refused) behind g in
    let all = or_append first refused others in record {
      place = k.place;
      before = parts;
      join = join;
      c = c;
      whole = ap (λ p. (parts ++ (join, c) ∷ [], p)) k.pseudo_is;
      is = stays start (λ t e. ap (step_at Fresh start t) e) before (front ++ (last ++ behind)) b
          ∙ follow_front f group first (last ++ behind) (begins_append last behind (last_begins l)) ∙ k.is ∙ ap (λ x. Ok (st k.place group parts join c x)) all;
      ends = k.ends;
      comma = λ t e. subst (λ x. step (st k.place group parts join c x) t ≡ Ok (ended (st k.place group parts join c x) (pseudo_at k.place))) all
          (k.comma t e ∙ ap (λ p. Ok (ended (st k.place group parts join c (or_all (or_all first refused) others)) p)) (sym k.pseudo_is));
    }

-- ---- groups

follow_earlier : {ts : List Token} {group : List Spelled} {others : List ℕ} → AreEarlier ts group others → follow initial ts ≡ Ok (st Fresh group [] First empty (or_all None others))
follow_earlier none_earlier = refl
follow_earlier (one_later ts piece comma {group = group} {one = one} {refused = refused} {others = others} h k e) =
    let first = or_all None refused in
    let m = follow_selector k group first in
    let there = st m.place group m.before m.join m.c (or_all first others) in
    follow_on initial (st Fresh group [] First empty first) ts (piece ++ comma ∷ []) (follow_earlier h)
    ∙ follow_on (st Fresh group [] First empty first) there piece (comma ∷ []) m.is
    ∙ on there comma (ended there (pseudo_at m.place)) [] (m.comma comma e)
    ∙ ap (λ x. Ok (st Fresh (group ++ x ∷ []) [] First empty (or_all first others))) m.whole
    ∙ ap (λ x. Ok (st Fresh (group ++ one ∷ []) [] First empty x)) (or_append None refused others)

-- a group is read to where it may end
pub record GroupRead (ts : List Token) (group : List Spelled) (others : List ℕ) : Type 0 where
  pub state : State
  pub is : follow initial ts ≡ Ok state
  pub ends : may_end state.place ≡ true
  pub gives : (ended state (pseudo_at state.place)).group ≡ group
  pub first : state.refused ≡ first_of others

pub follow_group : {ts : List Token} {group : List Spelled} {others : List ℕ} → IsGroup ts group others → GroupRead ts group others
follow_group (selectors ts piece {group = group} {one = one} {refused = refused} {others = others} h k) =
    let first = or_all None refused in
    let m = follow_selector k group first in record {
      state = st m.place group m.before m.join m.c (or_all first others);
      is = follow_on initial (st Fresh group [] First empty first) ts piece (follow_earlier h) ∙ m.is;
      ends = m.ends;
      gives = ap (λ x. group ++ x ∷ []) m.whole;
      first = or_append None refused others ∙ or_none (refused ++ others);
    }

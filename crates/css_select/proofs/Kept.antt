-- Each step goes from what the tokens are to what they are with one more.
use Rattle.std.proofs.Common.{◌≡◌, ℕ, ◌<◌, Bool, true, false, List, [], ◌∷◌, ◌++◌, length, Option, Some, None, Result, Ok, Err, refl, sym, ◌∙◌, ap, subst, arith, append_assoc, length-append}
use Rattle.std.proofs.lemmas.List.{append-nil}
use Rattle.std.specs.Prelude.{codes}
use Rattle.viz_base.specs.declared.selectors.Join.TheVariants.{Descendant, Child, Next}
use Rattle.viz_base.specs.declared.selectors.Test.{Test}
use Rattle.viz_base.specs.declared.selectors.Test.TheVariants as of_test
use Rattle.viz_base.proofs.Sameness.{same_Ok}
use Rattle.css_semantics.specs.Pieces.{Token}
use Rattle.css_semantics.specs.declared.terminals.Comparison.{Comparison}
use Rattle.css_semantics.specs.declared.terminals.ColonName.{ColonName}
use Rattle.css_semantics.specs.declared.terminals.ColonName.TheVariants as of_name
use Rattle.viz_base.specs.declared.selectors.Pseudo.{Pseudo}
use Rattle.css_semantics.specs.declared.terminals.Terminal.{Terminal}
use Rattle.css_semantics.specs.declared.terminals.Terminal.TheVariants as a
use Rattle.css_semantics.specs.Names.{same_name}
use Rattle.css_semantics.specs.SelectorTerminals.{terminal, name_of, pseudo, comparison, compared, is_value}
use Rattle.css_semantics.specs.SheetsMarks.{text_of}
use Rattle.css_semantics.specs.SelectorGrammar.{IsTest, id, class, has, compares, pseudo_class, language, star, tag, child, adjacent, generated, two_colons, with_refused}
use Rattle.css_select.specs.declared.reading.Place.{Place}
use Rattle.css_select.specs.declared.reading.Place.TheVariants.{Fresh, Compound as InCompound, Gap, Dot, Colon, Colons, Language, LanguageEnd, Element, Bracket, Name, Sign, Value}
use Rattle.css_select.specs.Refusals.{Refusal, bad_at}
use Rattle.css_select.specs.steps.Machine.{State, at, ended, joined, or_first, refused, tagged, tested, step, step_at, step_bracket, step_closing, step_colon, step_colons, step_compound, step_dot, step_element, step_fresh, step_function, step_gap, step_generated, step_language, step_language_end, step_name, step_operand, step_pseudo, step_sign, step_test, step_value}
use Rattle.css_select.proofs.Held.{first_of, first_more, IsHeld, IsSome, IsFresh, IsSpaced, IsEnded, IsOpen, DotOnly, ColonOnly, ColonsOnly, LanguageOpen, LanguageClosing, BracketOpen, NameRead, SignRead, ValueRead, ReadsAt, Reads, gap_more, held_test}
use Rattle.css_select.proofs.Sound.{IsFinal, fresh_held, before_space, fresh_head, some_final, spaced_final, ended_final, final_comma, some_joined, spaced_joined, spaced_child, spaced_next}

got : (x next : State) (us : List Token) → ◌≡◌ {A = Result State Refusal} (Ok x) (Ok next) → Reads x us → Reads next us
got x next us e h = subst (λ n. Reads n us) (same_Ok e) h

never : {P : Type 0} (place : ℕ) (next : State) → ◌≡◌ {A = Result State Refusal} (Err (bad_at place)) (Ok next) → P
never place next e = absurd (cc)

unchanged : {first : Option ℕ} (xs : List ℕ) → first ≡ first_of xs → first ≡ first_of (xs ++ [])
unchanged xs e = e ∙ ap first_of (sym (append-nil xs))

-- a test that refuses nothing
kept_test : (s : State) (ts piece : List Token) (test : Test) → IsHeld s.group s.parts s.join s.compound s.refused ts → IsTest piece (test ∷ []) [] → 0 < length piece → Reads (tested (at s Fresh) test) (ts ++ piece)
kept_test s ts piece test h t some = held_test s.group s.parts s.join s.compound s.refused ts piece (test ∷ []) [] h t some s.refused (λ xs e. unchanged xs e)

-- the last token of a piece ends a test
open_test : {Shape : List Token → Type 0} (s : State) (ts : List Token) (t : Token) (test : Test) → (h : IsOpen Shape s.group s.parts s.join s.compound s.refused ts) → IsTest (h.piece ++ t ∷ []) (test ∷ []) [] → Reads (tested (at s Fresh) test) (ts ++ t ∷ [])
open_test s ts t test h k =
    subst (Reads (tested (at s Fresh) test)) (sym (append_assoc h.front h.piece (t ∷ [])) ∙ ap (λ x. x ++ t ∷ []) (sym h.whole))
    (kept_test s h.front (h.piece ++ t ∷ []) test h.held k (omega (arith, length-append h.piece (t ∷ []))))

-- one more token of a piece
open_more : {Shape Wanted : List Token → Type 0} (s : State) (ts : List Token) (t : Token) → (h : IsOpen Shape s.group s.parts s.join s.compound s.refused ts) → Wanted (h.piece ++ t ∷ [])
    → IsOpen Wanted s.group s.parts s.join s.compound s.refused (ts ++ t ∷ [])
open_more s ts t h k = record { front = h.front; piece = h.piece ++ t ∷ []; whole = ap (λ x. x ++ t ∷ []) h.whole ∙ append_assoc h.front h.piece (t ∷ []); held = h.held; shape = k }

-- ---- where a test may begin

reads_test : (s : State) (ts : List Token) (t : Token) (sign : Terminal) (next : State) → terminal t ≡ sign → IsHeld s.group s.parts s.join s.compound s.refused ts → step_test (at s Fresh) t sign ≡ Ok next → Reads next (ts ++ t ∷ [])
reads_test s ts t a.Id next k h e = got (tested (at s Fresh) (of_test.Id (text_of t))) next (ts ++ t ∷ []) e (kept_test s ts (t ∷ []) (of_test.Id (text_of t)) h (id k) (omega arith))
reads_test s ts t a.Dot next k h e = got (at s Dot) next (ts ++ t ∷ []) e (record { front = ts; piece = t ∷ []; whole = refl; held = h; shape = (t, refl, k) })
reads_test s ts t a.LeftBracket next k h e = got (at s Bracket) next (ts ++ t ∷ []) e (record { front = ts; piece = t ∷ []; whole = refl; held = h; shape = record { opening = t; before = []; whole = refl; is_opening = k; is_gap = tt } })
reads_test s ts t a.Colon next k h e = got (at s (Colon t.at)) next (ts ++ t ∷ []) e (record { front = ts; piece = t ∷ []; whole = refl; held = h; shape = (t, refl, k, refl) })
reads_test s ts t sign next k h e = never t.at next e

reads_fresh : (s : State) (ts : List Token) (t : Token) (sign : Terminal) (next : State) → terminal t ≡ sign → IsFresh s.group s.parts s.join s.compound s.refused ts → step_fresh (at s Fresh) t sign ≡ Ok next → Reads next (ts ++ t ∷ [])
reads_fresh s ts t a.Space next k h e = got (at s Fresh) next (ts ++ t ∷ []) e (record { refused = h.refused; is_before = before_space ts t h.is_before k; none = h.none; is_first = h.is_first })
reads_fresh s ts t a.Ident next k h e = got (tagged (at s Fresh) (Some (name_of t))) next (ts ++ t ∷ []) e (fresh_head ts t (Some (name_of t)) h (tag k))
reads_fresh s ts t a.Star next k h e = got (tagged (at s Fresh) None) next (ts ++ t ∷ []) e (fresh_head ts t None h (star k))
reads_fresh s ts t sign next k h e = reads_test s ts t sign next k (fresh_held ts h) e

reads_compound : (s : State) (ts : List Token) (t : Token) (sign : Terminal) (next : State) → terminal t ≡ sign → IsSome s.group s.parts s.join s.compound s.refused ts → step_compound (at s Fresh) t sign ≡ Ok next → Reads next (ts ++ t ∷ [])
reads_compound s ts t a.Space next k h e = got (at s Gap) next (ts ++ t ∷ []) e (record { front = ts; space = t; gap = []; whole = refl; is_some = h; is_space = k; is_gap = tt })
reads_compound s ts t a.Greater n k h e = got (joined (at s Fresh) Child) n (ts ++ t ∷ []) e (some_joined ts (t ∷ []) Child h (child t [] [] tt k tt))
reads_compound s ts t a.Plus n k h e = got (joined (at s Fresh) Next) n (ts ++ t ∷ []) e (some_joined ts (t ∷ []) Next h (adjacent t [] [] tt k tt))
reads_compound s ts t a.Comma n k h e =
    got (ended (at s Fresh) None) n (ts ++ t ∷ []) e (final_comma ts t (subst (IsFinal s.group (s.parts ++ (s.join, s.compound) ∷ [], None) s.refused) (append-nil ts) (some_final ts [] h tt)) k)
reads_compound s ts t sign next k h e = reads_test s ts t sign next k h.held e

reads_gap : (s : State) (ts : List Token) (t : Token) (sign : Terminal) (next : State) → terminal t ≡ sign → IsSpaced s.group s.parts s.join s.compound s.refused ts → step_gap (at s Fresh) t sign ≡ Ok next → Reads next (ts ++ t ∷ [])
reads_gap s ts t a.Space next k h e =
    got (at s Gap) next (ts ++ t ∷ []) e
    (record { front = h.front; space = h.space; gap = h.gap ++ t ∷ []; whole = ap (λ x. x ++ t ∷ []) h.whole ∙ append_assoc h.front (h.space ∷ h.gap) (t ∷ []); is_some = h.is_some; is_space = h.is_space; is_gap = gap_more h.gap t h.is_gap k })
reads_gap s ts t a.Greater n k h e = got (joined (at s Fresh) Child) n (ts ++ t ∷ []) e (spaced_child ts t h k)
reads_gap s ts t a.Plus n k h e = got (joined (at s Fresh) Next) n (ts ++ t ∷ []) e (spaced_next ts t h k)
reads_gap s ts t a.Comma n k h e = got (ended (at s Fresh) None) n (ts ++ t ∷ []) e (final_comma ts t (spaced_final ts h) k)
reads_gap s ts t sign next k h e = reads_fresh (joined (at s Fresh) Descendant) ts t sign next k (spaced_joined ts h) e

-- ---- in a test

reads_dot : (s : State) (ts : List Token) (t : Token) (sign : Terminal) (next : State) → terminal t ≡ sign → IsOpen DotOnly s.group s.parts s.join s.compound s.refused ts → step_dot (at s Fresh) t sign ≡ Ok next → Reads next (ts ++ t ∷ [])
reads_dot s ts t a.Ident next k h e =
    got (tested (at s Fresh) (of_test.Class (text_of t))) next (ts ++ t ∷ []) e
    (open_test s ts t (of_test.Class (text_of t)) h (subst (λ x. IsTest (x ++ t ∷ []) (of_test.Class (text_of t) ∷ []) []) (sym h.shape.1) (class h.shape.2 k)))
reads_dot s ts t sign next k h e = never t.at next e

-- a pseudo-element behind one colon
reads_generated : (s : State) (ts : List Token) (t : Token) (place : ℕ) (p : Pseudo) → terminal t ≡ a.Ident → pseudo (text_of t) ≡ Some (of_name.Generated p) → IsOpen (ColonOnly place) s.group s.parts s.join s.compound s.refused ts
    → Reads (at s (Element (Some p))) (ts ++ t ∷ [])
reads_generated s ts t place p k e h =
    let m = h.held in
    let colon = h.shape.0 in record {
      before = m.before;
      last = m.body ++ colon ∷ t ∷ [];
      gap = [];
      refused_before = m.refused_before;
      refused_last = m.refused_body;
      whole = ap (λ x. x ++ t ∷ []) h.whole ∙ ap (λ x. (h.front ++ x) ++ t ∷ []) h.shape.1 ∙ ap (λ x. (x ++ colon ∷ []) ++ t ∷ []) m.whole ∙ simp (append_assoc, append-nil);
      is_before = m.is_before;
      is_last = generated m.body colon t m.is_body h.shape.2 k e;
      is_gap = tt;
      is_first = m.is_first;
    }

reads_refused : (s : State) (ts : List Token) (t : Token) (place : ℕ) → terminal t ≡ a.Ident → pseudo (text_of t) ≡ Some of_name.Refused → IsOpen (ColonOnly place) s.group s.parts s.join s.compound s.refused ts
    → Reads (refused (at s Fresh) place (Element None)) (ts ++ t ∷ [])
reads_refused s ts t place k p h =
    let m = h.held in
    let colon = h.shape.0 in
    let more : or_first s.refused place ≡ first_of (m.refused_before ++ (m.refused_body ++ colon.at ∷ [])) =
    ap (λ r. or_first r place) m.is_first ∙ sym (first_more (m.refused_before ++ m.refused_body) place) ∙ ap first_of (append_assoc m.refused_before m.refused_body (place ∷ [])) ∙ ap (λ x. first_of (m.refused_before ++ (m.refused_body ++ x ∷ []))) (sym h.shape.3) in record {
      before = m.before;
      last = m.body ++ colon ∷ t ∷ [];
      gap = [];
      refused_before = m.refused_before;
      refused_last = m.refused_body ++ colon.at ∷ [];
      whole = ap (λ x. x ++ t ∷ []) h.whole ∙ ap (λ x. (h.front ++ x) ++ t ∷ []) h.shape.1 ∙ ap (λ x. (x ++ colon ∷ []) ++ t ∷ []) m.whole ∙ simp (append_assoc, append-nil);
      is_before = m.is_before;
      is_last = with_refused m.body colon t m.is_body h.shape.2 k p;
      is_gap = tt;
      is_first = more;
    }

reads_pseudo : (s : State) (ts : List Token) (t : Token) (place : ℕ) (said : Option ColonName) (next : State) → terminal t ≡ a.Ident → pseudo (text_of t) ≡ said → IsOpen (ColonOnly place) s.group s.parts s.join s.compound s.refused ts
    → step_pseudo (at s Fresh) place t said ≡ Ok next → Reads next (ts ++ t ∷ [])
reads_pseudo s ts t place None next k p h e = never t.at next e
reads_pseudo s ts t place (Some (of_name.Class test)) next k p h e =
    got (tested (at s Fresh) test) next (ts ++ t ∷ []) e (open_test s ts t test h (subst (λ x. IsTest (x ++ t ∷ []) (test ∷ []) []) (sym h.shape.1) (pseudo_class h.shape.2 k p)))
reads_pseudo s ts t place (Some (of_name.Generated which)) next k p h e = got (at s (Element (Some which))) next (ts ++ t ∷ []) e (reads_generated s ts t place which k p h)
reads_pseudo s ts t place (Some of_name.Refused) next k p h e = got (refused (at s Fresh) place (Element None)) next (ts ++ t ∷ []) e (reads_refused s ts t place k p h)

reads_function : (s : State) (ts : List Token) (t : Token) (place : ℕ) (yes : Bool) (next : State) → terminal t ≡ a.Function → same_name (text_of t) (codes "lang") ≡ yes → IsOpen (ColonOnly place) s.group s.parts s.join s.compound s.refused ts
    → step_function (at s Fresh) place t yes ≡ Ok next → Reads next (ts ++ t ∷ [])
reads_function s ts t place true next k p h e =
    got (at s (Language place)) next (ts ++ t ∷ []) e
    (open_more s ts t h (record { colon = h.shape.0; function = t; before = []; whole = ap (λ x. x ++ t ∷ []) h.shape.1; is_colon = h.shape.2; is_at = h.shape.3; is_function = k; is_lang = p; is_gap = tt }))
reads_function s ts t place false next k p h e = never t.at next e

reads_colon : (s : State) (ts : List Token) (t : Token) (place : ℕ) (sign : Terminal) (next : State) → terminal t ≡ sign → IsOpen (ColonOnly place) s.group s.parts s.join s.compound s.refused ts → step_colon (at s Fresh) place t sign ≡ Ok next → Reads next (ts ++ t ∷ [])
reads_colon s ts t place a.Ident next k h e = reads_pseudo s ts t place (pseudo (text_of t)) next k refl h e
reads_colon s ts t place a.Function next k h e = reads_function s ts t place (same_name (text_of t) (codes "lang")) next k refl h e
reads_colon s ts t place a.Colon next k h e =
    got (at s Colons) next (ts ++ t ∷ []) e (open_more s ts t h (h.shape.0, t, ap (λ x. x ++ t ∷ []) h.shape.1, h.shape.2, k))
reads_colon s ts t place sign next k h e = never t.at next e

-- a pseudo-element behind two colons
reads_second : (s : State) (ts : List Token) (t : Token) (said : Option ColonName) (next : State) → terminal t ≡ a.Ident → pseudo (text_of t) ≡ said → IsOpen ColonsOnly s.group s.parts s.join s.compound s.refused ts
    → step_generated (at s Fresh) t said ≡ Ok next → Reads next (ts ++ t ∷ [])
reads_second s ts t (Some (of_name.Generated which)) next k p h e =
    let m = h.held in
    let colon = h.shape.0 in
    let second = h.shape.1 in
    got (at s (Element (Some which))) next (ts ++ t ∷ []) e (record {
      before = m.before;
      last = m.body ++ colon ∷ second ∷ t ∷ [];
      gap = [];
      refused_before = m.refused_before;
      refused_last = m.refused_body;
      whole = ap (λ x. x ++ t ∷ []) h.whole ∙ ap (λ x. (h.front ++ x) ++ t ∷ []) h.shape.2 ∙ ap (λ x. (x ++ colon ∷ second ∷ []) ++ t ∷ []) m.whole ∙ simp (append_assoc, append-nil);
      is_before = m.is_before;
      is_last = two_colons m.body colon second t m.is_body h.shape.3 h.shape.4 k p;
      is_gap = tt;
      is_first = m.is_first;
    })
reads_second s ts t said next k p h e = never t.at next e

reads_colons : (s : State) (ts : List Token) (t : Token) (sign : Terminal) (next : State) → terminal t ≡ sign → IsOpen ColonsOnly s.group s.parts s.join s.compound s.refused ts → step_colons (at s Fresh) t sign ≡ Ok next → Reads next (ts ++ t ∷ [])
reads_colons s ts t a.Ident next k h e = reads_second s ts t (pseudo (text_of t)) next k refl h e
reads_colons s ts t sign next k h e = never t.at next e

reads_language : (s : State) (ts : List Token) (t : Token) (place : ℕ) (sign : Terminal) (next : State) → terminal t ≡ sign → IsOpen (LanguageOpen place) s.group s.parts s.join s.compound s.refused ts → step_language (at s Fresh) place t sign ≡ Ok next → Reads next (ts ++ t ∷ [])
reads_language s ts t place a.Space next k h e =
    let o = h.shape in
    got (at s (Language place)) next (ts ++ t ∷ []) e
    (open_more s ts t h (record { colon = o.colon; function = o.function; before = o.before ++ t ∷ []; whole = ap (λ x. x ++ t ∷ []) o.whole; is_colon = o.is_colon; is_at = o.is_at; is_function = o.is_function; is_lang = o.is_lang; is_gap = gap_more o.before t o.is_gap k }))
reads_language s ts t place a.Ident next k h e =
    got (at s (LanguageEnd place)) next (ts ++ t ∷ []) e (open_more s ts t h (record { front = h.piece; name = t; after = []; whole = refl; is_open = h.shape; is_name = k; is_gap = tt }))
reads_language s ts t place sign next k h e = never t.at next e

language_test : (piece : List Token) (t : Token) (place : ℕ) → LanguageClosing place piece → terminal t ≡ a.RightParen → IsTest (piece ++ t ∷ []) [] (place ∷ [])
language_test piece t place h k =
    let o = h.is_open in
    subst (λ x. IsTest x [] (place ∷ [])) (sym (ap (λ x. x ++ t ∷ []) h.whole ∙ ap (λ x. (x ++ h.name ∷ h.after) ++ t ∷ []) o.whole ∙ simp append_assoc))
    (subst (λ x. IsTest (o.colon ∷ o.function ∷ (o.before ++ h.name ∷ (h.after ++ t ∷ []))) [] (x ∷ [])) o.is_at (language o.colon o.function h.name t o.before h.after o.is_colon o.is_function o.is_lang o.is_gap h.is_name h.is_gap k))

reads_language_end : (s : State) (ts : List Token) (t : Token) (place : ℕ) (sign : Terminal) (next : State) → terminal t ≡ sign → IsOpen (LanguageClosing place) s.group s.parts s.join s.compound s.refused ts → step_language_end (at s Fresh) place t sign ≡ Ok next → Reads next (ts ++ t ∷ [])
reads_language_end s ts t place a.Space next k h e =
    let o = h.shape in
    got (at s (LanguageEnd place)) next (ts ++ t ∷ []) e
    (open_more s ts t h (record { front = o.front; name = o.name; after = o.after ++ t ∷ []; whole = ap (λ x. x ++ t ∷ []) o.whole ∙ append_assoc o.front (o.name ∷ o.after) (t ∷ []); is_open = o.is_open; is_name = o.is_name; is_gap = gap_more o.after t o.is_gap k }))
reads_language_end s ts t place a.RightParen next k h e =
    let held = held_test s.group s.parts s.join s.compound s.refused h.front (h.piece ++ t ∷ []) [] (place ∷ []) h.held (language_test h.piece t place h.shape k) (omega (arith, length-append h.piece (t ∷ [])))
    (or_first s.refused place) (λ xs q. ap (λ r. or_first r place) q ∙ sym (first_more xs place)) in
    got (refused (at s Fresh) place InCompound) next (ts ++ t ∷ []) e
    (subst (IsSome s.group s.parts s.join s.compound (or_first s.refused place)) (sym (append_assoc h.front h.piece (t ∷ [])) ∙ ap (λ x. x ++ t ∷ []) (sym h.whole))
    (subst (λ x. IsSome s.group s.parts s.join (record { tag = s.compound.tag; tests = x }) (or_first s.refused place) (h.front ++ (h.piece ++ t ∷ []))) (append-nil s.compound.tests) held))
reads_language_end s ts t place sign next k h e = never t.at next e

reads_element : (s : State) (pseudo : Option Pseudo) (ts : List Token) (t : Token) (sign : Terminal) (next : State) → terminal t ≡ sign → IsEnded pseudo s.group s.parts s.join s.compound s.refused ts → step_element (at s Fresh) pseudo t sign ≡ Ok next → Reads next (ts ++ t ∷ [])
reads_element s pseudo ts t a.Space next k h e =
    got (at s (Element pseudo)) next (ts ++ t ∷ []) e (record {
      before = h.before;
      last = h.last;
      gap = h.gap ++ t ∷ [];
      refused_before = h.refused_before;
      refused_last = h.refused_last;
      whole = ap (λ x. x ++ t ∷ []) h.whole ∙ simp append_assoc;
      is_before = h.is_before;
      is_last = h.is_last;
      is_gap = gap_more h.gap t h.is_gap k;
      is_first = h.is_first;
    })
reads_element s pseudo ts t a.Comma next k h e = got (ended (at s Fresh) pseudo) next (ts ++ t ∷ []) e (final_comma ts t (ended_final ts h) k)
reads_element s pseudo ts t sign next k h e = never t.at next e

reads_bracket : (s : State) (ts : List Token) (t : Token) (sign : Terminal) (next : State) → terminal t ≡ sign → IsOpen BracketOpen s.group s.parts s.join s.compound s.refused ts → step_bracket (at s Fresh) t sign ≡ Ok next → Reads next (ts ++ t ∷ [])
reads_bracket s ts t a.Space next k h e =
    let o = h.shape in
    got (at s Bracket) next (ts ++ t ∷ []) e (open_more s ts t h (record { opening = o.opening; before = o.before ++ t ∷ []; whole = ap (λ x. x ++ t ∷ []) o.whole; is_opening = o.is_opening; is_gap = gap_more o.before t o.is_gap k }))
reads_bracket s ts t a.Ident next k h e =
    got (at s (Name (name_of t))) next (ts ++ t ∷ []) e (open_more s ts t h (record { front = h.piece; token = t; after = []; whole = refl; is_open = h.shape; is_name = k; is = refl; is_gap = tt }))
reads_bracket s ts t sign next k h e = never t.at next e

has_test : (piece : List Token) (t : Token) (name : List ℕ) → NameRead name piece → terminal t ≡ a.RightBracket → IsTest (piece ++ t ∷ []) (of_test.Has name ∷ []) []
has_test piece t name h k =
    let o = h.is_open in
    subst (λ x. IsTest x (of_test.Has name ∷ []) []) (sym (ap (λ x. x ++ t ∷ []) h.whole ∙ ap (λ x. (x ++ h.token ∷ h.after) ++ t ∷ []) o.whole ∙ simp append_assoc))
    (subst (λ x. IsTest (o.opening ∷ (o.before ++ h.token ∷ (h.after ++ t ∷ []))) (of_test.Has x ∷ []) []) h.is (has o.opening h.token t o.before h.after o.is_opening o.is_gap h.is_name h.is_gap k))

reads_sign : (s : State) (ts : List Token) (t : Token) (name : List ℕ) (how : Option Comparison) (next : State) → comparison (terminal t) ≡ how → IsOpen (NameRead name) s.group s.parts s.join s.compound s.refused ts
    → step_sign (at s Fresh) name t how ≡ Ok next → Reads next (ts ++ t ∷ [])
reads_sign s ts t name None next k h e = never t.at next e
reads_sign s ts t name (Some how) next k h e =
    got (at s (Sign name how)) next (ts ++ t ∷ []) e (open_more s ts t h (record { front = h.piece; sign = t; after = []; whole = refl; is_named = h.shape; is_sign = k; is_gap = tt }))

reads_name : (s : State) (ts : List Token) (t : Token) (name : List ℕ) (sign : Terminal) (next : State) → terminal t ≡ sign → IsOpen (NameRead name) s.group s.parts s.join s.compound s.refused ts → step_name (at s Fresh) name t sign ≡ Ok next → Reads next (ts ++ t ∷ [])
reads_name s ts t name a.Space next k h e =
    let o = h.shape in
    got (at s (Name name)) next (ts ++ t ∷ []) e
    (open_more s ts t h (record { front = o.front; token = o.token; after = o.after ++ t ∷ []; whole = ap (λ x. x ++ t ∷ []) o.whole ∙ append_assoc o.front (o.token ∷ o.after) (t ∷ []); is_open = o.is_open; is_name = o.is_name; is = o.is; is_gap = gap_more o.after t o.is_gap k }))
reads_name s ts t name a.RightBracket next k h e = got (tested (at s Fresh) (of_test.Has name)) next (ts ++ t ∷ []) e (open_test s ts t (of_test.Has name) h (has_test h.piece t name h.shape k))
reads_name s ts t name sign next k h e = reads_sign s ts t name (comparison sign) next (ap comparison k) h e

reads_operand : (s : State) (ts : List Token) (t : Token) (name : List ℕ) (how : Comparison) (yes : Bool) (next : State) → is_value (terminal t) ≡ yes → IsOpen (SignRead name how) s.group s.parts s.join s.compound s.refused ts
    → step_operand (at s Fresh) name how t yes ≡ Ok next → Reads next (ts ++ t ∷ [])
reads_operand s ts t name how true next k h e =
    got (at s (Value (compared how name (text_of t)))) next (ts ++ t ∷ []) e
    (open_more s ts t h (record { name = name; how = how; front = h.piece; token = t; after = []; whole = refl; is_signed = h.shape; is_value = k; is = refl; is_gap = tt }))
reads_operand s ts t name how false next k h e = never t.at next e

reads_value : (s : State) (ts : List Token) (t : Token) (name : List ℕ) (how : Comparison) (sign : Terminal) (next : State) → terminal t ≡ sign → IsOpen (SignRead name how) s.group s.parts s.join s.compound s.refused ts → step_value (at s Fresh) name how t sign ≡ Ok next
    → Reads next (ts ++ t ∷ [])
reads_value s ts t name how a.Space next k h e =
    let o = h.shape in
    got (at s (Sign name how)) next (ts ++ t ∷ []) e
    (open_more s ts t h (record { front = o.front; sign = o.sign; after = o.after ++ t ∷ []; whole = ap (λ x. x ++ t ∷ []) o.whole ∙ append_assoc o.front (o.sign ∷ o.after) (t ∷ []); is_named = o.is_named; is_sign = o.is_sign; is_gap = gap_more o.after t o.is_gap k }))
reads_value s ts t name how sign next k h e = reads_operand s ts t name how (is_value sign) next (ap is_value k) h e

compared_test : (piece : List Token) (t : Token) (test : Test) → ValueRead test piece → terminal t ≡ a.RightBracket → IsTest (piece ++ t ∷ []) (test ∷ []) []
compared_test piece t test h k =
    let o = h.is_signed in
    let n = o.is_named in
    let b = n.is_open in
    let test_is : compared h.how (name_of n.token) (text_of h.token) ≡ test = ap (λ x. compared h.how x (text_of h.token)) n.is ∙ h.is in
    let whole : piece ++ t ∷ [] ≡ b.opening ∷ (b.before ++ n.token ∷ (n.after ++ o.sign ∷ (o.after ++ h.token ∷ (h.after ++ t ∷ [])))) =
    ap (λ x. x ++ t ∷ []) h.whole ∙ ap (λ x. (x ++ h.token ∷ h.after) ++ t ∷ []) o.whole ∙ ap (λ x. ((x ++ o.sign ∷ o.after) ++ h.token ∷ h.after) ++ t ∷ []) n.whole
    ∙ ap (λ x. (((x ++ n.token ∷ n.after) ++ o.sign ∷ o.after) ++ h.token ∷ h.after) ++ t ∷ []) b.whole ∙ simp append_assoc in
    subst (λ x. IsTest x (test ∷ []) []) (sym whole)
    (subst (λ x. IsTest (b.opening ∷ (b.before ++ n.token ∷ (n.after ++ o.sign ∷ (o.after ++ h.token ∷ (h.after ++ t ∷ []))))) (x ∷ []) []) test_is
    (compares b.opening n.token o.sign h.token t b.before n.after o.after h.after h.how b.is_opening b.is_gap n.is_name n.is_gap o.is_sign o.is_gap h.is_value h.is_gap k))

reads_closing : (s : State) (ts : List Token) (t : Token) (test : Test) (sign : Terminal) (next : State) → terminal t ≡ sign → IsOpen (ValueRead test) s.group s.parts s.join s.compound s.refused ts → step_closing (at s Fresh) test t sign ≡ Ok next → Reads next (ts ++ t ∷ [])
reads_closing s ts t test a.Space next k h e =
    let o = h.shape in
    got (at s (Value test)) next (ts ++ t ∷ []) e
    (open_more s ts t h (record { name = o.name; how = o.how; front = o.front; token = o.token; after = o.after ++ t ∷ []; whole = ap (λ x. x ++ t ∷ []) o.whole ∙ append_assoc o.front (o.token ∷ o.after) (t ∷ []); is_signed = o.is_signed; is_value = o.is_value; is = o.is; is_gap = gap_more o.after t o.is_gap k }))
reads_closing s ts t test a.RightBracket next k h e = got (tested (at s Fresh) test) next (ts ++ t ∷ []) e (open_test s ts t test h (compared_test h.piece t test h.shape k))
reads_closing s ts t test sign next k h e = never t.at next e

-- ---- a step

reads_at : (place : Place) (s : State) (ts : List Token) (t : Token) (next : State) → ReadsAt place s.group s.parts s.join s.compound s.refused ts → step_at place (at s Fresh) t (terminal t) ≡ Ok next → Reads next (ts ++ t ∷ [])
reads_at Fresh s ts t next h e = reads_fresh s ts t (terminal t) next refl h e
reads_at InCompound s ts t next h e = reads_compound s ts t (terminal t) next refl h e
reads_at Gap s ts t next h e = reads_gap s ts t (terminal t) next refl h e
reads_at Dot s ts t next h e = reads_dot s ts t (terminal t) next refl h e
reads_at (Colon place) s ts t next h e = reads_colon s ts t place (terminal t) next refl h e
reads_at Colons s ts t next h e = reads_colons s ts t (terminal t) next refl h e
reads_at (Language place) s ts t next h e = reads_language s ts t place (terminal t) next refl h e
reads_at (LanguageEnd place) s ts t next h e = reads_language_end s ts t place (terminal t) next refl h e
reads_at (Element pseudo) s ts t next h e = reads_element s pseudo ts t (terminal t) next refl h e
reads_at Bracket s ts t next h e = reads_bracket s ts t (terminal t) next refl h e
reads_at (Name name) s ts t next h e = reads_name s ts t name (terminal t) next refl h e
reads_at (Sign name how) s ts t next h e = reads_value s ts t name how (terminal t) next refl h e
reads_at (Value test) s ts t next h e = reads_closing s ts t test (terminal t) next refl h e

pub step_reads : (s : State) (ts : List Token) (t : Token) (next : State) → Reads s ts → step s t ≡ Ok next → Reads next (ts ++ t ∷ [])
step_reads s ts t next h e = reads_at s.place s ts t next h e

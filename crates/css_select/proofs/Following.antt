-- Reading on behind tokens that are read, comments left out.
use Rattle.std.proofs.Common.{◌≡◌, ℕ, Bool, true, false, cond, List, [], ◌∷◌, ◌++◌, Some, None, Result, Ok, Err, refl, ◌∙◌, ap}
use Rattle.std.specs.Prelude.{codes}
use Rattle.std.specs.Str.{chars}
use lib.Utf8.{encode}
use Rattle.css_semantics.specs.Pieces.{Token}
use Rattle.viz_base.specs.declared.tokens.TokenKind.{TokenKind}
use Rattle.viz_base.specs.declared.tokens.TokenKind.TheVariants as of_kind
use Rattle.css_semantics.specs.SelectorTerminals.{is_comment, without_comments, name_of, pseudo, compared}
use Rattle.css_semantics.specs.SheetsMarks.{text_of}
use Rattle.css_select.specs.declared.reading.Place.{Place}
use Rattle.css_select.specs.declared.reading.Place.TheVariants.{Fresh, Compound as InCompound, Gap, Dot, Colon, Colons, Language, LanguageEnd, Element, Bracket, Name, Sign, Value}
use Rattle.css_semantics.specs.declared.terminals.ColonName.TheVariants as of_name
use Rattle.viz_base.specs.declared.selectors.Pseudo.TheVariants.{Before}
use Rattle.viz_base.specs.declared.selectors.Test.TheVariants as of_test
use Rattle.css_select.specs.Refusals.{Refusal}
use Rattle.css_select.specs.steps.Machine.{State, run, step, step_generated, step_pseudo, at, tagged, tested, refused, then_run, may_end}

abbrev pub follow : State → List Token → Result State Refusal
follow s [] = Ok s
follow s (t ∷ ts) = then_run (step s t) (λ next. follow next ts)

then_same : (r : Result State Refusal) (f g : State → Result State Refusal) → ((s : State) → f s ≡ g s) → then_run r f ≡ then_run r g
then_same (Ok s) f g h = h s
then_same (Err refusal) f g h = refl

run_by : (b : Bool) (s : State) (t : Token) (ts : List Token) → ((next : State) → run next ts ≡ follow next (without_comments ts))
    → cond b (run s ts) (then_run (step s t) (λ next. run next ts)) ≡ follow s (cond b (without_comments ts) (t ∷ without_comments ts))
run_by true s t ts h = h s
run_by false s t ts h = then_same (step s t) (λ next. run next ts) (λ next. follow next (without_comments ts)) h

pub run_follow : (s : State) (ts : List Token) → run s ts ≡ follow s (without_comments ts)
run_follow s [] = refl
run_follow s (t ∷ ts) = run_by (is_comment t.kind) s t ts (λ next. run_follow next ts)

append_by : (r : Result State Refusal) (ts us : List Token) → ((s : State) → follow s (ts ++ us) ≡ then_run (follow s ts) (λ next. follow next us))
    → then_run r (λ next. follow next (ts ++ us)) ≡ then_run (then_run r (λ next. follow next ts)) (λ next. follow next us)
append_by (Ok s) ts us h = h s
append_by (Err refusal) ts us h = refl

pub follow_append : (s : State) (ts us : List Token) → follow s (ts ++ us) ≡ then_run (follow s ts) (λ next. follow next us)
follow_append s [] us = refl
follow_append s (t ∷ ts) us = append_by (step s t) ts us (λ next. follow_append next ts us)

pub follow_on : (s next : State) (ts us : List Token) → follow s ts ≡ Ok next → follow s (ts ++ us) ≡ follow next us
follow_on s next ts us e = follow_append s ts us ∙ ap (λ r. then_run r (λ n. follow n us)) e

-- ---- every place leads on to the end of a group

-- a token that says a text
abbrev pub made : TokenKind → List ℕ → Token
made kind text = record { kind = kind; at = 0; text = text }

-- tokens that lead on to where a group may end
pub record LeadsOn (s : State) : Type 0 where
  pub more : List Token
  pub next : State
  pub follows : follow s more ≡ Ok next
  pub ends : may_end next.place ≡ true

link_is : pseudo (text_of (made of_kind.Ident (codes "link"))) ≡ Some (of_name.Class of_test.Link)
unfolding text_of chars encode
link_is = refl

before_is : pseudo (text_of (made of_kind.Ident (codes "before"))) ≡ Some (of_name.Generated Before)
unfolding text_of chars encode
before_is = refl

leads_at : (place : Place) (s : State) → s.place ≡ place → LeadsOn s
leads_at Fresh s e = record { more = made of_kind.Delim (codes "*") ∷ []; next = tagged s None; follows = rw e refl; ends = refl }
leads_at InCompound s e = record { more = []; next = s; follows = refl; ends = rw e refl }
leads_at Gap s e = record { more = []; next = s; follows = refl; ends = rw e refl }
leads_at Dot s e = record { more = made of_kind.Ident (codes "a") ∷ []; next = tested s (of_test.Class (text_of (made of_kind.Ident (codes "a")))); follows = rw e refl; ends = refl }
leads_at (Colon colon) s e =
    let link = made of_kind.Ident (codes "link") in
    let follows : follow s (link ∷ []) ≡ Ok (tested s of_test.Link) = rw e (ap (λ r. then_run r (λ next. follow next [])) (ap (step_pseudo (at s Fresh) colon link) link_is)) in
    record { more = link ∷ []; next = tested s of_test.Link; follows = follows; ends = refl }
leads_at Colons s e =
    let before = made of_kind.Ident (codes "before") in
    let follows : follow s (before ∷ []) ≡ Ok (at s (Element (Some Before))) = rw e (ap (λ r. then_run r (λ next. follow next [])) (ap (step_generated (at s Fresh) before) before_is)) in
    record { more = before ∷ []; next = at s (Element (Some Before)); follows = follows; ends = refl }
leads_at (Language colon) s e = record { more = made of_kind.Ident (codes "a") ∷ made of_kind.RightParen (codes ")") ∷ []; next = refused s colon InCompound; follows = rw e refl; ends = refl }
leads_at (LanguageEnd colon) s e = record { more = made of_kind.RightParen (codes ")") ∷ []; next = refused s colon InCompound; follows = rw e refl; ends = refl }
leads_at (Element pseudo) s e = record { more = []; next = s; follows = refl; ends = rw e refl }
leads_at Bracket s e = record { more = made of_kind.Ident (codes "a") ∷ made of_kind.RightBracket (codes "]") ∷ []; next = tested s (of_test.Has (name_of (made of_kind.Ident (codes "a")))); follows = rw e refl; ends = refl }
leads_at (Name name) s e = record { more = made of_kind.RightBracket (codes "]") ∷ []; next = tested s (of_test.Has name); follows = rw e refl; ends = refl }
leads_at (Sign name how) s e = record { more = made of_kind.Ident (codes "a") ∷ made of_kind.RightBracket (codes "]") ∷ []; next = tested s (compared how name (text_of (made of_kind.Ident (codes "a")))); follows = rw e refl; ends = refl }
leads_at (Value test) s e = record { more = made of_kind.RightBracket (codes "]") ∷ []; next = tested s test; follows = rw e refl; ends = refl }

pub leads_on : (s : State) → LeadsOn s
leads_on s = leads_at s.place s refl

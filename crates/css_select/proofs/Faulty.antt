-- A step that fails says that its token is bad, at its place.
use Rattle.std.proofs.Common.{◌≡◌, ℕ, Bool, true, false, List, Option, Some, None, Result, Ok, Err, refl}
use Rattle.std.specs.Prelude.{codes}
use Rattle.viz_base.specs.declared.selectors.Join.TheVariants.{Descendant}
use Rattle.viz_base.specs.declared.selectors.Test.{Test}
use Rattle.css_semantics.specs.Pieces.{Token}
use Rattle.css_semantics.specs.declared.terminals.Comparison.{Comparison}
use Rattle.css_semantics.specs.declared.terminals.ColonName.{ColonName}
use Rattle.css_semantics.specs.declared.terminals.ColonName.TheVariants as of_name
use Rattle.viz_base.specs.declared.selectors.Pseudo.{Pseudo}
use Rattle.css_semantics.specs.declared.terminals.Terminal.{Terminal}
use Rattle.css_semantics.specs.declared.terminals.Terminal.TheVariants as a
use Rattle.css_semantics.specs.Names.{same_name}
use Rattle.css_semantics.specs.SelectorTerminals.{terminal, pseudo, comparison, is_value}
use Rattle.css_semantics.specs.SheetsMarks.{text_of}
use Rattle.css_select.specs.declared.reading.Place.{Place}
use Rattle.css_select.specs.declared.reading.Place.TheVariants.{Fresh, Compound as InCompound, Gap, Dot, Colon, Colons, Language, LanguageEnd, Element, Bracket, Name, Sign, Value}
use Rattle.css_select.specs.Refusals.{Refusal, bad_at}
use Rattle.css_select.specs.steps.Machine.{State, at, joined, step, step_at, step_bracket, step_closing, step_colon, step_colons, step_compound, step_dot, step_element, step_fresh, step_function, step_gap, step_generated, step_language, step_language_end, step_name, step_operand, step_pseudo, step_sign, step_test, step_value}

-- where an answer fails, a token is bad at the place
abbrev FailsAt : ℕ → Result State Refusal → Type 0
FailsAt place (Ok s) = Unit {0}
FailsAt place (Err refusal) = refusal ≡ bad_at place

test_fails : (s : State) (t : Token) (sign : Terminal) → FailsAt t.at (step_test s t sign)
test_fails s t a.Id = tt
test_fails s t a.Dot = tt
test_fails s t a.LeftBracket = tt
test_fails s t a.Colon = tt
test_fails s t sign = refl

fresh_fails : (s : State) (t : Token) (sign : Terminal) → FailsAt t.at (step_fresh s t sign)
fresh_fails s t a.Space = tt
fresh_fails s t a.Ident = tt
fresh_fails s t a.Star = tt
fresh_fails s t sign = test_fails s t sign

compound_fails : (s : State) (t : Token) (sign : Terminal) → FailsAt t.at (step_compound s t sign)
compound_fails s t a.Space = tt
compound_fails s t a.Greater = tt
compound_fails s t a.Plus = tt
compound_fails s t a.Comma = tt
compound_fails s t sign = test_fails s t sign

gap_fails : (s : State) (t : Token) (sign : Terminal) → FailsAt t.at (step_gap s t sign)
gap_fails s t a.Space = tt
gap_fails s t a.Greater = tt
gap_fails s t a.Plus = tt
gap_fails s t a.Comma = tt
gap_fails s t sign = fresh_fails (joined s Descendant) t sign

dot_fails : (s : State) (t : Token) (sign : Terminal) → FailsAt t.at (step_dot s t sign)
dot_fails s t a.Ident = tt
dot_fails s t sign = refl

pseudo_fails : (s : State) (place : ℕ) (t : Token) (said : Option ColonName) → FailsAt t.at (step_pseudo s place t said)
pseudo_fails s place t None = refl
pseudo_fails s place t (Some (of_name.Class test)) = tt
pseudo_fails s place t (Some (of_name.Generated p)) = tt
pseudo_fails s place t (Some of_name.Refused) = tt

generated_fails : (s : State) (t : Token) (said : Option ColonName) → FailsAt t.at (step_generated s t said)
generated_fails s t (Some (of_name.Generated p)) = tt
generated_fails s t said = refl

function_fails : (s : State) (place : ℕ) (t : Token) (yes : Bool) → FailsAt t.at (step_function s place t yes)
function_fails s place t true = tt
function_fails s place t false = refl

colon_fails : (s : State) (place : ℕ) (t : Token) (sign : Terminal) → FailsAt t.at (step_colon s place t sign)
colon_fails s place t a.Ident = pseudo_fails s place t (pseudo (text_of t))
colon_fails s place t a.Function = function_fails s place t (same_name (text_of t) (codes "lang"))
colon_fails s place t a.Colon = tt
colon_fails s place t sign = refl

colons_fail : (s : State) (t : Token) (sign : Terminal) → FailsAt t.at (step_colons s t sign)
colons_fail s t a.Ident = generated_fails s t (pseudo (text_of t))
colons_fail s t sign = refl

language_fails : (s : State) (place : ℕ) (t : Token) (sign : Terminal) → FailsAt t.at (step_language s place t sign)
language_fails s place t a.Space = tt
language_fails s place t a.Ident = tt
language_fails s place t sign = refl

language_end_fails : (s : State) (place : ℕ) (t : Token) (sign : Terminal) → FailsAt t.at (step_language_end s place t sign)
language_end_fails s place t a.Space = tt
language_end_fails s place t a.RightParen = tt
language_end_fails s place t sign = refl

element_fails : (s : State) (pseudo : Option Pseudo) (t : Token) (sign : Terminal) → FailsAt t.at (step_element s pseudo t sign)
element_fails s pseudo t a.Space = tt
element_fails s pseudo t a.Comma = tt
element_fails s pseudo t sign = refl

bracket_fails : (s : State) (t : Token) (sign : Terminal) → FailsAt t.at (step_bracket s t sign)
bracket_fails s t a.Space = tt
bracket_fails s t a.Ident = tt
bracket_fails s t sign = refl

sign_fails : (s : State) (name : List ℕ) (t : Token) (how : Option Comparison) → FailsAt t.at (step_sign s name t how)
sign_fails s name t None = refl
sign_fails s name t (Some how) = tt

name_fails : (s : State) (name : List ℕ) (t : Token) (sign : Terminal) → FailsAt t.at (step_name s name t sign)
name_fails s name t a.Space = tt
name_fails s name t a.RightBracket = tt
name_fails s name t sign = sign_fails s name t (comparison sign)

operand_fails : (s : State) (name : List ℕ) (how : Comparison) (t : Token) (yes : Bool) → FailsAt t.at (step_operand s name how t yes)
operand_fails s name how t true = tt
operand_fails s name how t false = refl

value_fails : (s : State) (name : List ℕ) (how : Comparison) (t : Token) (sign : Terminal) → FailsAt t.at (step_value s name how t sign)
value_fails s name how t a.Space = tt
value_fails s name how t sign = operand_fails s name how t (is_value sign)

closing_fails : (s : State) (test : Test) (t : Token) (sign : Terminal) → FailsAt t.at (step_closing s test t sign)
closing_fails s test t a.Space = tt
closing_fails s test t a.RightBracket = tt
closing_fails s test t sign = refl

at_fails : (place : Place) (s : State) (t : Token) → FailsAt t.at (step_at place s t (terminal t))
at_fails Fresh s t = fresh_fails s t (terminal t)
at_fails InCompound s t = compound_fails s t (terminal t)
at_fails Gap s t = gap_fails s t (terminal t)
at_fails Dot s t = dot_fails s t (terminal t)
at_fails (Colon place) s t = colon_fails s place t (terminal t)
at_fails Colons s t = colons_fail s t (terminal t)
at_fails (Language place) s t = language_fails s place t (terminal t)
at_fails (LanguageEnd place) s t = language_end_fails s place t (terminal t)
at_fails (Element pseudo) s t = element_fails s pseudo t (terminal t)
at_fails Bracket s t = bracket_fails s t (terminal t)
at_fails (Name name) s t = name_fails s name t (terminal t)
at_fails (Sign name how) s t = value_fails s name how t (terminal t)
at_fails (Value test) s t = closing_fails s test t (terminal t)

fails_by : (r : Result State Refusal) (place : ℕ) (other : Refusal) → FailsAt place r → r ≡ Err other → other ≡ bad_at place
fails_by (Ok s) place other h e = absurd (cc)
fails_by (Err refusal) place other h e = cc

pub step_fails : (s : State) (t : Token) (refusal : Refusal) → step s t ≡ Err refusal → refusal ≡ bad_at t.at
step_fails s t refusal e = fails_by (step s t) t.at refusal (at_fails s.place (at s Fresh) t) e

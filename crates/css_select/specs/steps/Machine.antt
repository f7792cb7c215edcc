-- Reading a group of selectors token by token: what is read at each place, and what the next token does there.
use Rattle.std.specs.Prelude.{ℕ, Bool, true, false, List, [], ◌∷◌, ◌++◌, map, Option, Some, None, Result, Ok, Err, if◌then◌else◌, codes}
use Rattle.viz_base.specs.declared.selectors.Compound.{Compound}
use Rattle.viz_base.specs.declared.selectors.Join.{Join}
use Rattle.viz_base.specs.declared.selectors.Join.TheVariants.{First, Descendant, Child, Next}
use Rattle.viz_base.specs.declared.selectors.Pseudo.{Pseudo}
use Rattle.viz_base.specs.declared.selectors.Test.{Test}
use Rattle.viz_base.specs.declared.selectors.Test.TheVariants as of_test
use Rattle.css_semantics.specs.Pieces.{Token}
use Rattle.css_semantics.specs.declared.terminals.Comparison.{Comparison}
use Rattle.css_semantics.specs.declared.terminals.ColonName.{ColonName}
use Rattle.css_semantics.specs.declared.terminals.ColonName.TheVariants as of_name
use Rattle.css_semantics.specs.declared.terminals.Terminal.{Terminal}
use Rattle.css_semantics.specs.declared.terminals.Terminal.TheVariants as a
use Rattle.css_semantics.specs.Names.{same_name}
use Rattle.css_semantics.specs.SelectorTerminals.{terminal, is_comment, name_of, pseudo, comparison, compared, is_value}
use Rattle.css_semantics.specs.SheetsMarks.{text_of}
use Rattle.css_semantics.specs.Spelled.{Spelled, spelled}
use Rattle.css_select.specs.declared.reading.Place.{Place}
use Rattle.css_select.specs.declared.reading.Place.TheVariants.{Fresh, Compound as InCompound, Gap, Dot, Colon, Colons, Language, LanguageEnd, Element, Bracket, Name, Sign, Value}
use Rattle.css_select.specs.declared.reading.Reading.{Reading}
use Rattle.css_select.specs.Refusals.{Refusal, bad_at}

pub record State : Type 0 where
  pub place : Place
  pub group : List Spelled
  pub parts : List (Join × Compound)
  pub join : Join
  pub compound : Compound
  pub refused : Option ℕ

abbrev pub state_of : Reading → State
state_of r = record {
  place = r.place;
  group = map spelled r.group;
  parts = r.chain.parts;
  join = r.chain.join;
  compound = r.compound;
  refused = r.refused;
}

abbrev pub empty : Compound
empty = record { tag = None; tests = [] }

abbrev pub initial : State
initial = record { place = Fresh; group = []; parts = []; join = First; compound = empty; refused = None }

-- ---- what a token does

abbrev pub at : State → Place → State
at s place = record s { place = place }

-- a tag is read, or `*`
abbrev pub tagged : State → Option (List ℕ) → State
tagged s tag = record s { place = InCompound; compound = record { tag = tag; tests = s.compound.tests } }

-- a test
abbrev pub tested : State → Test → State
tested s test = record s
    { place = InCompound; compound = record { tag = s.compound.tag; tests = s.compound.tests ++ test ∷ [] } }

abbrev pub or_first : Option ℕ → ℕ → Option ℕ
or_first None place = Some place
or_first (Some first) place = Some first

-- a refused selector, whose colon stands at a place
abbrev pub refused : State → ℕ → Place → State
refused s colon place = record s { place = place; refused = or_first s.refused colon }

-- a simple selector that another one follows
abbrev pub joined : State → Join → State
joined s join = record s { place = Fresh; parts = s.parts ++ (s.join, s.compound) ∷ []; join = join; compound = empty }

-- a selector, with its pseudo-element
abbrev pub ended : State → Option Pseudo → State
ended s pseudo = record {
  place = Fresh;
  group = s.group ++ (s.parts ++ (s.join, s.compound) ∷ [], pseudo) ∷ [];
  parts = [];
  join = First;
  compound = empty;
  refused = s.refused;
}

-- ---- what the next token does at each place, or that it can't stand there

abbrev pub step_test : State → Token → Terminal → Result State Refusal
step_test s t a.Id = Ok (tested s (of_test.Id (text_of t)))
step_test s t a.Dot = Ok (at s Dot)
step_test s t a.LeftBracket = Ok (at s Bracket)
step_test s t a.Colon = Ok (at s (Colon t.at))
step_test s t _ = Err (bad_at t.at)

abbrev pub step_fresh : State → Token → Terminal → Result State Refusal
step_fresh s t a.Space = Ok (at s Fresh)
step_fresh s t a.Ident = Ok (tagged s (Some (name_of t)))
step_fresh s t a.Star = Ok (tagged s None)
step_fresh s t sign = step_test s t sign

abbrev pub step_compound : State → Token → Terminal → Result State Refusal
step_compound s t a.Space = Ok (at s Gap)
step_compound s t a.Greater = Ok (joined s Child)
step_compound s t a.Plus = Ok (joined s Next)
step_compound s t a.Comma = Ok (ended s None)
step_compound s t sign = step_test s t sign

abbrev pub step_gap : State → Token → Terminal → Result State Refusal
step_gap s t a.Space = Ok (at s Gap)
step_gap s t a.Greater = Ok (joined s Child)
step_gap s t a.Plus = Ok (joined s Next)
step_gap s t a.Comma = Ok (ended s None)
step_gap s t sign = step_fresh (joined s Descendant) t sign

abbrev pub step_dot : State → Token → Terminal → Result State Refusal
step_dot s t a.Ident = Ok (tested s (of_test.Class (text_of t)))
step_dot s t _ = Err (bad_at t.at)

abbrev pub step_pseudo : State → ℕ → Token → Option ColonName → Result State Refusal
step_pseudo s colon t None = Err (bad_at t.at)
step_pseudo s colon t (Some (of_name.Class test)) = Ok (tested s test)
step_pseudo s colon t (Some (of_name.Generated p)) = Ok (at s (Element (Some p)))
step_pseudo s colon t (Some of_name.Refused) = Ok (refused s colon (Element None))

abbrev pub step_function : State → ℕ → Token → Bool → Result State Refusal
step_function s colon t true = Ok (at s (Language colon))
step_function s colon t false = Err (bad_at t.at)

abbrev pub step_colon : State → ℕ → Token → Terminal → Result State Refusal
step_colon s colon t a.Ident = step_pseudo s colon t (pseudo (text_of t))
step_colon s colon t a.Function = step_function s colon t (same_name (text_of t) (codes "lang"))
step_colon s colon t a.Colon = Ok (at s Colons)
step_colon s colon t _ = Err (bad_at t.at)

abbrev pub step_generated : State → Token → Option ColonName → Result State Refusal
step_generated s t (Some (of_name.Generated p)) = Ok (at s (Element (Some p)))
step_generated s t _ = Err (bad_at t.at)

abbrev pub step_colons : State → Token → Terminal → Result State Refusal
step_colons s t a.Ident = step_generated s t (pseudo (text_of t))
step_colons s t _ = Err (bad_at t.at)

abbrev pub step_language : State → ℕ → Token → Terminal → Result State Refusal
step_language s colon t a.Space = Ok (at s (Language colon))
step_language s colon t a.Ident = Ok (at s (LanguageEnd colon))
step_language s colon t _ = Err (bad_at t.at)

abbrev pub step_language_end : State → ℕ → Token → Terminal → Result State Refusal
step_language_end s colon t a.Space = Ok (at s (LanguageEnd colon))
step_language_end s colon t a.RightParen = Ok (refused s colon InCompound)
step_language_end s colon t _ = Err (bad_at t.at)

abbrev pub step_element : State → Option Pseudo → Token → Terminal → Result State Refusal
step_element s pseudo t a.Space = Ok (at s (Element pseudo))
step_element s pseudo t a.Comma = Ok (ended s pseudo)
step_element s pseudo t _ = Err (bad_at t.at)

abbrev pub step_bracket : State → Token → Terminal → Result State Refusal
step_bracket s t a.Space = Ok (at s Bracket)
step_bracket s t a.Ident = Ok (at s (Name (name_of t)))
step_bracket s t _ = Err (bad_at t.at)

abbrev pub step_sign : State → List ℕ → Token → Option Comparison → Result State Refusal
step_sign s name t None = Err (bad_at t.at)
step_sign s name t (Some how) = Ok (at s (Sign name how))

abbrev pub step_name : State → List ℕ → Token → Terminal → Result State Refusal
step_name s name t a.Space = Ok (at s (Name name))
step_name s name t a.RightBracket = Ok (tested s (of_test.Has name))
step_name s name t sign = step_sign s name t (comparison sign)

abbrev pub step_operand : State → List ℕ → Comparison → Token → Bool → Result State Refusal
step_operand s name how t true = Ok (at s (Value (compared how name (text_of t))))
step_operand s name how t false = Err (bad_at t.at)

abbrev pub step_value : State → List ℕ → Comparison → Token → Terminal → Result State Refusal
step_value s name how t a.Space = Ok (at s (Sign name how))
step_value s name how t sign = step_operand s name how t (is_value sign)

abbrev pub step_closing : State → Test → Token → Terminal → Result State Refusal
step_closing s test t a.Space = Ok (at s (Value test))
step_closing s test t a.RightBracket = Ok (tested s test)
step_closing s test t _ = Err (bad_at t.at)

abbrev pub step_at : Place → State → Token → Terminal → Result State Refusal
step_at Fresh s t sign = step_fresh s t sign
step_at InCompound s t sign = step_compound s t sign
step_at Gap s t sign = step_gap s t sign
step_at Dot s t sign = step_dot s t sign
step_at (Colon colon) s t sign = step_colon s colon t sign
step_at Colons s t sign = step_colons s t sign
step_at (Language colon) s t sign = step_language s colon t sign
step_at (LanguageEnd colon) s t sign = step_language_end s colon t sign
step_at (Element pseudo) s t sign = step_element s pseudo t sign
step_at Bracket s t sign = step_bracket s t sign
step_at (Name name) s t sign = step_name s name t sign
step_at (Sign name how) s t sign = step_value s name how t sign
step_at (Value test) s t sign = step_closing s test t sign

abbrev pub step : State → Token → Result State Refusal
step s t = step_at s.place (at s Fresh) t (terminal t)

-- ---- all tokens

abbrev pub then_run : Result State Refusal → (State → Result State Refusal) → Result State Refusal
then_run (Ok s) f = f s
then_run (Err refusal) f = Err refusal

abbrev pub run : State → List Token → Result State Refusal
run s [] = Ok s
run s (t ∷ ts) = if is_comment t.kind then run s ts else then_run (step s t) (λ next. run next ts)

-- whether the group may end at a place
abbrev pub may_end : Place → Bool
may_end InCompound = true
may_end Gap = true
may_end (Element pseudo) = true
may_end _ = false

-- the pseudo-element that is read there
abbrev pub pseudo_at : Place → Option Pseudo
pseudo_at (Element pseudo) = pseudo
pseudo_at _ = None

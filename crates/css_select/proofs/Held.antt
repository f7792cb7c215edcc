-- What tokens are, by the grammar, that lead to a place of reading.
use Rattle.std.proofs.Common.{◌≡◌, ℕ, ◌<◌, true, List, [], ◌∷◌, ◌++◌, length, Option, Some, None, refl, ◌∙◌, ap, arith, append_assoc, length-append}
use Rattle.std.specs.Prelude.{codes}
use Rattle.viz_base.specs.declared.selectors.Compound.{Compound}
use Rattle.viz_base.specs.declared.selectors.Join.{Join}
use Rattle.viz_base.specs.declared.selectors.Test.{Test}
use Rattle.css_semantics.specs.Pieces.{Token}
use Rattle.css_semantics.specs.declared.terminals.Terminal.TheVariants as a
use Rattle.css_semantics.specs.declared.terminals.Comparison.{Comparison}
use Rattle.css_semantics.specs.Names.{same_name}
use Rattle.css_semantics.specs.SelectorTerminals.{terminal, name_of, comparison, compared, is_value}
use Rattle.css_semantics.specs.SheetsMarks.{text_of}
use Rattle.css_semantics.specs.Spelled.{Spelled}
use Rattle.viz_base.specs.declared.selectors.Pseudo.{Pseudo}
use Rattle.css_semantics.specs.SelectorGrammar.{IsGap, IsTest, one_more, IsBody, IsFront, IsLast, AreEarlier}
use Rattle.css_select.specs.declared.reading.Place.{Place}
use Rattle.css_select.specs.declared.reading.Place.TheVariants.{Fresh, Compound as InCompound, Gap, Dot, Colon, Colons, Language, LanguageEnd, Element, Bracket, Name, Sign, Value}
use Rattle.css_select.specs.steps.Machine.{State, empty, or_first}

abbrev pub Part : Type 0
Part = Join × Compound

abbrev pub first_of : List ℕ → Option ℕ
first_of [] = None
first_of (x ∷ xs) = Some x

pub first_more : (xs : List ℕ) (x : ℕ) → first_of (xs ++ x ∷ []) ≡ or_first (first_of xs) x
first_more [] x = refl
first_more (y ∷ ys) x = refl

-- ---- before a simple selector

-- earlier selectors, and what stands before a simple selector
pub record IsBefore (group : List Spelled) (parts : List Part) (join : Join) (refused : List ℕ) (ts : List Token) : Type 0 where
  pub earlier : List Token
  pub gap : List Token
  pub front : List Token
  pub refused_earlier : List ℕ
  pub refused_front : List ℕ
  pub whole : ts ≡ earlier ++ (gap ++ front)
  pub are_earlier : AreEarlier earlier group refused_earlier
  pub is_gap : IsGap gap
  pub is_front : IsFront front parts join refused_front
  pub all : refused ≡ refused_earlier ++ refused_front

-- and what is read of it
pub record IsHeld (group : List Spelled) (parts : List Part) (join : Join) (c : Compound) (first : Option ℕ) (ts : List Token) : Type 0 where
  pub before : List Token
  pub body : List Token
  pub refused_before : List ℕ
  pub refused_body : List ℕ
  pub whole : ts ≡ before ++ body
  pub is_before : IsBefore group parts join refused_before before
  pub is_body : IsBody body c refused_body
  pub is_first : first ≡ first_of (refused_before ++ refused_body)

-- at least a part of it
pub record IsSome (group : List Spelled) (parts : List Part) (join : Join) (c : Compound) (first : Option ℕ) (ts : List Token) : Type 0 where
  pub held : IsHeld group parts join c first ts
  pub some : 0 < length held.body

-- nothing of it
pub record IsFresh (group : List Spelled) (parts : List Part) (join : Join) (c : Compound) (first : Option ℕ) (ts : List Token) : Type 0 where
  pub refused : List ℕ
  pub is_before : IsBefore group parts join refused ts
  pub none : c ≡ empty
  pub is_first : first ≡ first_of refused

-- it, and white space
pub record IsSpaced (group : List Spelled) (parts : List Part) (join : Join) (c : Compound) (first : Option ℕ) (ts : List Token) : Type 0 where
  pub front : List Token
  pub space : Token
  pub gap : List Token
  pub whole : ts ≡ front ++ space ∷ gap
  pub is_some : IsSome group parts join c first front
  pub is_space : terminal space ≡ a.Space
  pub is_gap : IsGap gap

-- a last simple selector with a pseudo-element, and white space
pub record IsEnded (pseudo : Option Pseudo) (group : List Spelled) (parts : List Part) (join : Join) (c : Compound) (first : Option ℕ) (ts : List Token) : Type 0 where
  pub before : List Token
  pub last : List Token
  pub gap : List Token
  pub refused_before : List ℕ
  pub refused_last : List ℕ
  pub whole : ts ≡ before ++ (last ++ gap)
  pub is_before : IsBefore group parts join refused_before before
  pub is_last : IsLast last c pseudo refused_last
  pub is_gap : IsGap gap
  pub is_first : first ≡ first_of (refused_before ++ refused_last)

-- what is held, and a piece that is not yet a test
pub record IsOpen (Shape : List Token → Type 0) (group : List Spelled) (parts : List Part) (join : Join) (c : Compound) (first : Option ℕ) (ts : List Token) : Type 0 where
  pub front : List Token
  pub piece : List Token
  pub whole : ts ≡ front ++ piece
  pub held : IsHeld group parts join c first front
  pub shape : Shape piece

-- ---- pieces that are not yet tests

abbrev pub DotOnly : List Token → Type 0
DotOnly piece = (dot : Token) × (piece ≡ dot ∷ []) × (terminal dot ≡ a.Dot)

abbrev pub ColonOnly : ℕ → List Token → Type 0
ColonOnly place piece = (colon : Token) × (piece ≡ colon ∷ []) × (terminal colon ≡ a.Colon) × (colon.at ≡ place)

abbrev pub ColonsOnly : List Token → Type 0
ColonsOnly piece = (colon : Token) × (second : Token) × (piece ≡ colon ∷ second ∷ []) × (terminal colon ≡ a.Colon) × (terminal second ≡ a.Colon)

pub record LanguageOpen (place : ℕ) (piece : List Token) : Type 0 where
  pub colon : Token
  pub function : Token
  pub before : List Token
  pub whole : piece ≡ colon ∷ function ∷ before
  pub is_colon : terminal colon ≡ a.Colon
  pub is_at : colon.at ≡ place
  pub is_function : terminal function ≡ a.Function
  pub is_lang : same_name (text_of function) (codes "lang") ≡ true
  pub is_gap : IsGap before

pub record LanguageClosing (place : ℕ) (piece : List Token) : Type 0 where
  pub front : List Token
  pub name : Token
  pub after : List Token
  pub whole : piece ≡ front ++ name ∷ after
  pub is_open : LanguageOpen place front
  pub is_name : terminal name ≡ a.Ident
  pub is_gap : IsGap after

pub record BracketOpen (piece : List Token) : Type 0 where
  pub opening : Token
  pub before : List Token
  pub whole : piece ≡ opening ∷ before
  pub is_opening : terminal opening ≡ a.LeftBracket
  pub is_gap : IsGap before

pub record NameRead (name : List ℕ) (piece : List Token) : Type 0 where
  pub front : List Token
  pub token : Token
  pub after : List Token
  pub whole : piece ≡ front ++ token ∷ after
  pub is_open : BracketOpen front
  pub is_name : terminal token ≡ a.Ident
  pub is : name_of token ≡ name
  pub is_gap : IsGap after

pub record SignRead (name : List ℕ) (how : Comparison) (piece : List Token) : Type 0 where
  pub front : List Token
  pub sign : Token
  pub after : List Token
  pub whole : piece ≡ front ++ sign ∷ after
  pub is_named : NameRead name front
  pub is_sign : comparison (terminal sign) ≡ Some how
  pub is_gap : IsGap after

pub record ValueRead (test : Test) (piece : List Token) : Type 0 where
  pub name : List ℕ
  pub how : Comparison
  pub front : List Token
  pub token : Token
  pub after : List Token
  pub whole : piece ≡ front ++ token ∷ after
  pub is_signed : SignRead name how front
  pub is_value : is_value (terminal token) ≡ true
  pub is : compared how name (text_of token) ≡ test
  pub is_gap : IsGap after

-- ---- what tokens are at each place

abbrev pub ReadsAt : Place → List Spelled → List Part → Join → Compound → Option ℕ → List Token → Type 0
ReadsAt Fresh = IsFresh
ReadsAt InCompound = IsSome
ReadsAt Gap = IsSpaced
ReadsAt Dot = IsOpen DotOnly
ReadsAt (Colon place) = IsOpen (ColonOnly place)
ReadsAt Colons = IsOpen ColonsOnly
ReadsAt (Language place) = IsOpen (LanguageOpen place)
ReadsAt (LanguageEnd place) = IsOpen (LanguageClosing place)
ReadsAt (Element pseudo) = IsEnded pseudo
ReadsAt Bracket = IsOpen BracketOpen
ReadsAt (Name name) = IsOpen (NameRead name)
ReadsAt (Sign name how) = IsOpen (SignRead name how)
ReadsAt (Value test) = IsOpen (ValueRead test)

abbrev pub Reads : State → List Token → Type 0
Reads s ts = ReadsAt s.place s.group s.parts s.join s.compound s.refused ts

-- ---- gaps

pub gap_more : (gap : List Token) (t : Token) → IsGap gap → terminal t ≡ a.Space → IsGap (gap ++ t ∷ [])
gap_more [] t h e = (e, tt)
gap_more (u ∷ gap) t h e = (h.0, gap_more gap t h.1 e)

-- ---- tests

-- one more test
pub held_test : (group : List Spelled) (parts : List Part) (join : Join) (c : Compound) (first : Option ℕ) (ts piece : List Token) (tests : List Test) (refused : List ℕ)
    → IsHeld group parts join c first ts → IsTest piece tests refused → 0 < length piece → (others : Option ℕ)
    → ((xs : List ℕ) → first ≡ first_of xs → others ≡ first_of (xs ++ refused))
    → IsSome group parts join (record { tag = c.tag; tests = c.tests ++ tests }) others (ts ++ piece)
held_test group parts join c first ts piece tests refused h t some others now = record {
  held = record {
    before = h.before;
    body = h.body ++ piece;
    refused_before = h.refused_before;
    refused_body = h.refused_body ++ refused;
    whole = ap (λ x. x ++ piece) h.whole ∙ append_assoc h.before h.body piece;
    is_before = h.is_before;
    is_body = record {
      head = h.is_body.head;
      tail = h.is_body.tail ++ piece;
      whole = ap (λ x. x ++ piece) h.is_body.whole ∙ append_assoc h.is_body.head h.is_body.tail piece;
      has_head = h.is_body.has_head;
      has_tests = one_more h.is_body.tail piece h.is_body.has_tests t;
    };
    is_first = now (h.refused_before ++ h.refused_body) h.is_first ∙ ap first_of (append_assoc h.refused_before h.refused_body refused);
  };
  some = omega (arith, length-append h.body piece);
}

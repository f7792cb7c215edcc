-- The grammar of groups of selectors (CSS 2.1, chapter 5 and appendix G.1), over the tokens that are no comments:
--
--     group      := gap selector gap [ "," gap selector gap ]*
--     selector   := [ compound combinator ]* last
--     last       := compound | compound? ":" pseudo_element | compound? "::" generated
--     compound   := [ IDENT | "*" ]? test*            but not nothing
--     combinator := SPACE gap | gap ">" gap | gap "+" gap
--     test       := "#" identifier | "." IDENT | "[" gap IDENT gap "]" | "[" gap IDENT gap comparison gap value gap "]"
--                 | ":" pseudo_class | ":lang(" gap IDENT gap ")"
--
-- A pseudo-element is generated, `before` or `after`, or it is one of `first-line` and `first-letter`. Two colons before
-- a generated one are our own reading. The selectors that are refused, `:lang()`, `:first-line` and `:first-letter`, are
-- in the grammar. Beside the selectors that tokens spell stand the places of the refused ones, in order. Of these a place
-- is that of the colon.
use Rattle.std.specs.Prelude.{◌≡◌, ℕ, ◌<◌, ◌≤◌, true, List, [], ◌∷◌, ◌++◌, length, Option, Some, None, codes}
use Rattle.std.specs.List.{AllByRecursion}
use Rattle.css_semantics.specs.Pieces.{Token}
use Rattle.viz_base.specs.declared.selectors.Compound.{Compound}
use Rattle.viz_base.specs.declared.selectors.Join.{Join}
use Rattle.viz_base.specs.declared.selectors.Join.TheVariants.{First, Descendant, Child, Next}
use Rattle.viz_base.specs.declared.selectors.Test.{Test}
use Rattle.viz_base.specs.declared.selectors.Test.TheVariants as of_test
use Rattle.css_semantics.specs.declared.terminals.Terminal.TheVariants as a
use Rattle.css_semantics.specs.declared.terminals.Comparison.{Comparison}
use Rattle.css_semantics.specs.declared.terminals.ColonName.TheVariants as of_name
use Rattle.viz_base.specs.declared.selectors.Pseudo.{Pseudo}
use Rattle.css_semantics.specs.Spelled.{Spelled}
use Rattle.css_semantics.specs.Tokens.{AreTokens}
use Rattle.css_semantics.specs.SheetsMarks.{text_of}
use Rattle.css_semantics.specs.SheetsReading.{start_of}
use Rattle.css_semantics.specs.Names.{same_name}
use Rattle.css_semantics.specs.SelectorTerminals.{terminal, without_comments, name_of, pseudo, comparison, compared, is_value}

-- white space, as much as there is
abbrev pub IsGap : List Token → Type 0
IsGap = AllByRecursion (λ t. terminal t ≡ a.Space)

-- one test (CSS 2.1, 5.8 to 5.11)
pub data IsTest : List Token → List Test → List ℕ → Type 0 where
  id : {t : Token} → terminal t ≡ a.Id → IsTest (t ∷ []) (of_test.Id (text_of t) ∷ []) []
  class : {dot name : Token} → terminal dot ≡ a.Dot → terminal name ≡ a.Ident
      → IsTest (dot ∷ name ∷ []) (of_test.Class (text_of name) ∷ []) []
  has : (opening name closing : Token) (before after : List Token)
      → terminal opening ≡ a.LeftBracket → IsGap before → terminal name ≡ a.Ident → IsGap after
      → terminal closing ≡ a.RightBracket
      → IsTest (opening ∷ (before ++ name ∷ (after ++ closing ∷ []))) (of_test.Has (name_of name) ∷ []) []
  compares : (opening name sign value closing : Token) (before after between behind : List Token) (how : Comparison)
      → terminal opening ≡ a.LeftBracket → IsGap before → terminal name ≡ a.Ident → IsGap after
      → comparison (terminal sign) ≡ Some how
      → IsGap between → is_value (terminal value) ≡ true → IsGap behind → terminal closing ≡ a.RightBracket
      → IsTest (opening ∷ (before ++ name ∷ (after ++ sign ∷ (between ++ value ∷ (behind ++ closing ∷ [])))))
      (compared how (name_of name) (text_of value) ∷ []) []
  pseudo_class : {colon name : Token} {test : Test} → terminal colon ≡ a.Colon → terminal name ≡ a.Ident
      → pseudo (text_of name) ≡ Some (of_name.Class test)
      → IsTest (colon ∷ name ∷ []) (test ∷ []) []
  language : (colon function name closing : Token) (before after : List Token)
      → terminal colon ≡ a.Colon → terminal function ≡ a.Function → same_name (text_of function) (codes "lang") ≡ true
      → IsGap before → terminal name ≡ a.Ident → IsGap after → terminal closing ≡ a.RightParen
      → IsTest (colon ∷ function ∷ (before ++ name ∷ (after ++ closing ∷ []))) [] (colon.at ∷ [])

-- tests, one after another
pub data AreTests : List Token → List Test → List ℕ → Type 0 where
  no_test : AreTests [] [] []
  one_more : (ts piece : List Token) {tests more : List Test} {refused others : List ℕ}
      → AreTests ts tests refused → IsTest piece more others
      → AreTests (ts ++ piece) (tests ++ more) (refused ++ others)

-- a type selector, `*`, or neither (CSS 2.1, 5.3 and 5.4)
pub data IsHead : List Token → Option (List ℕ) → Type 0 where
  nothing : IsHead [] None
  star : {t : Token} → terminal t ≡ a.Star → IsHead (t ∷ []) None
  tag : {t : Token} → terminal t ≡ a.Ident → IsHead (t ∷ []) (Some (name_of t))

-- a simple selector, or nothing
pub record IsBody (ts : List Token) (c : Compound) (refused : List ℕ) : Type 0 where
  pub head : List Token
  pub tail : List Token
  pub whole : ts ≡ head ++ tail
  pub has_head : IsHead head c.tag
  pub has_tests : AreTests tail c.tests refused

-- a simple selector (CSS 2.1, 5.2)
pub record IsCompound (ts : List Token) (c : Compound) (refused : List ℕ) : Type 0 where
  pub some : 0 < length ts
  pub body : IsBody ts c refused

-- how simple selectors are joined (CSS 2.1, 5.5 to 5.7)
pub data IsCombinator : List Token → Join → Type 0 where
  descendant : {t : Token} {more : List Token} → terminal t ≡ a.Space → IsGap more → IsCombinator (t ∷ more) Descendant
  child : (t : Token) (before after : List Token) → IsGap before → terminal t ≡ a.Greater → IsGap after
      → IsCombinator (before ++ t ∷ after) Child
  adjacent : (t : Token) (before after : List Token) → IsGap before → terminal t ≡ a.Plus → IsGap after
      → IsCombinator (before ++ t ∷ after) Next

-- what stands in a selector before one of its simple selectors, and how that is joined to it
pub data IsFront : List Token → List (Join × Compound) → Join → List ℕ → Type 0 where
  at_start : IsFront [] [] First []
  further : (ts piece gap : List Token) {parts : List (Join × Compound)} {join next : Join} {c : Compound}
      {refused others : List ℕ}
      → IsFront ts parts join refused → IsCompound piece c others → IsCombinator gap next
      → IsFront (ts ++ (piece ++ gap)) (parts ++ (join, c) ∷ []) next (refused ++ others)

-- The last simple selector, with its pseudo-element: one stands at a selector's end alone (CSS 2.1, 5.10).
pub data IsLast : List Token → Compound → Option Pseudo → List ℕ → Type 0 where
  plain : {ts : List Token} {c : Compound} {refused : List ℕ} → IsCompound ts c refused → IsLast ts c None refused
  generated : (ts : List Token) {c : Compound} {refused : List ℕ} {p : Pseudo} (colon name : Token)
      → IsBody ts c refused → terminal colon ≡ a.Colon → terminal name ≡ a.Ident
      → pseudo (text_of name) ≡ Some (of_name.Generated p)
      → IsLast (ts ++ colon ∷ name ∷ []) c (Some p) refused
  two_colons : (ts : List Token) {c : Compound} {refused : List ℕ} {p : Pseudo} (colon second name : Token)
      → IsBody ts c refused → terminal colon ≡ a.Colon → terminal second ≡ a.Colon → terminal name ≡ a.Ident
      → pseudo (text_of name) ≡ Some (of_name.Generated p)
      → IsLast (ts ++ colon ∷ second ∷ name ∷ []) c (Some p) refused
  with_refused : (ts : List Token) {c : Compound} {refused : List ℕ} (colon name : Token)
      → IsBody ts c refused → terminal colon ≡ a.Colon → terminal name ≡ a.Ident
      → pseudo (text_of name) ≡ Some of_name.Refused
      → IsLast (ts ++ colon ∷ name ∷ []) c None (refused ++ colon.at ∷ [])

-- a selector with white space around it
pub data IsSelectorText : List Token → Spelled → List ℕ → Type 0 where
  selector : (before front last after : List Token) {parts : List (Join × Compound)} {join : Join} {c : Compound}
      {pseudo : Option Pseudo} {refused others : List ℕ}
      → IsGap before → IsFront front parts join refused → IsLast last c pseudo others → IsGap after
      → IsSelectorText (before ++ (front ++ (last ++ after))) (parts ++ (join, c) ∷ [], pseudo) (refused ++ others)

-- selectors, each with a comma behind it
pub data AreEarlier : List Token → List Spelled → List ℕ → Type 0 where
  none_earlier : AreEarlier [] [] []
  one_later : (ts piece : List Token) (comma : Token) {group : List Spelled} {one : Spelled} {refused others : List ℕ}
      → AreEarlier ts group refused → IsSelectorText piece one others → terminal comma ≡ a.Comma
      → AreEarlier (ts ++ (piece ++ comma ∷ [])) (group ++ one ∷ []) (refused ++ others)

-- a group of selectors (CSS 2.1, 5.2.1)
pub data IsGroup : List Token → List Spelled → List ℕ → Type 0 where
  selectors : (ts piece : List Token) {group : List Spelled} {one : Spelled} {refused others : List ℕ}
      → AreEarlier ts group refused → IsSelectorText piece one others
      → IsGroup (ts ++ piece) (group ++ one ∷ []) (refused ++ others)

-- ---- what a text is

-- tokens with which some group begins
abbrev pub BeginsGroup : List Token → Type 0
BeginsGroup ts = (more : List Token) × (group : List Spelled) × (refused : List ℕ) × IsGroup (ts ++ more) group refused

-- The tokens are no group. Of their longest front with which some group begins the rest
-- begins at the place, or there is no rest, and the place is the end of the text.
pub record IsNoGroup (ts : List Token) (end at : ℕ) : Type 0 where
  pub no_group : (group : List Spelled) (refused : List ℕ) → IsGroup ts group refused → ⊥
  pub front : List Token
  pub rest : List Token
  pub whole : ts ≡ front ++ rest
  pub place : at ≡ start_of end rest
  pub begins : BeginsGroup front
  pub longest : (p r : List Token) → ts ≡ p ++ r → BeginsGroup p → length p ≤ length front

-- the text is a group of selectors none of which is refused: these
abbrev pub IsGroupOf : List ℕ → List Spelled → Type 0
IsGroupOf text group = (tokens : List Token) × AreTokens text tokens × IsGroup (without_comments tokens) group []

-- the text is a group of selectors, the first refused one at the place
abbrev pub IsUnsupportedAt : List ℕ → ℕ → Type 0
IsUnsupportedAt text at =
    (tokens : List Token) × AreTokens text tokens × (group : List Spelled) × (others : List ℕ)
    × IsGroup (without_comments tokens) group (at ∷ others)

-- The text is no group of selectors, even with the refused ones. The place is that of
-- the first token that no such group can have there, or the text's length.
abbrev pub IsBadAt : List ℕ → ℕ → Type 0
IsBadAt text at = (tokens : List Token) × AreTokens text tokens × IsNoGroup (without_comments tokens) (length text) at

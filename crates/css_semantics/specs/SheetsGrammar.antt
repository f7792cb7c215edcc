-- The grammar of sheets over lists of tokens, with all that error recovery drops (CSS 2.1, 4.1.5 to 4.1.8, 4.2, 6.3 and
-- 7.2.1). What is kept and what is dropped are stretches.
use Rattle.std.specs.Prelude.{◌≡◌, ℕ, ◌<◌, ◌≤◌, Bool, true, false, not, ◌&&◌, List, [], ◌∷◌, ◌++◌, length, map, Option, Some, None, Result, Ok, Err, codes}
use Rattle.std.specs.Option.{option_to_list, is_none}
use Rattle.std.specs.List.{list_any, list_all}
use Rattle.css_semantics.specs.Pieces.{Token}
use Rattle.viz_base.specs.declared.tokens.TokenKind.{TokenKind}
use Rattle.viz_base.specs.declared.sheets.Decl.{Decl}
use Rattle.viz_base.specs.declared.sheets.MediaEntry.{MediaEntry}
use Rattle.viz_base.specs.declared.sheets.Rule.{Rule}
use Rattle.css_semantics.specs.declared.statements.Statement.{Statement}
use Rattle.css_semantics.specs.declared.statements.Statement.TheVariants.{Ruleset, Import, Page, MediaQuery, Media}
use Rattle.css_semantics.specs.Tokens.{AreTokens}
use Rattle.css_semantics.specs.SheetsMarks.{closing_mark, is_mark, is_ident, is_at_keyword, is_colon, is_space, is_gap, is_bad, has_paren, is_word, ends_selector, ends_declaration}
use Rattle.css_semantics.specs.SheetsReading.{Refusal, import_at, media_at, too_many, is_closing, may_stand, before_important, declared_at, start_of, extent, trimmed, is_blank, is_between, closed_by_end}
use Rattle.css_semantics.specs.SheetsStretches.{IsStretch, IsBlock, IsAtRule, Listed}
use Rattle.css_semantics.specs.MediaLists.{IsMediaList, shown_entry}

-- ---- declarations

-- Tokens that are in the grammar of values (CSS 2.1, 4.1.1: value, any, block, unused) but for being none. `closed`
-- says that all pairs in them are closed, as they are but for those that the end of the text closes.
pub data Standing : Bool → Option TokenKind → List Token → Type 0 where
  nothing_more : {closed : Bool} {within : Option TokenKind} → Standing closed within []
  stands : {closed : Bool} {within : Option TokenKind} {t : Token} {ts : List Token}
      → closing_mark t.kind ≡ None
      → is_closing t.kind ≡ false
      → may_stand (option_to_list within) t.kind ≡ true
      → Standing closed within ts
      → Standing closed within (t ∷ ts)
  closed_pair : {closed : Bool} {within : Option TokenKind} {opener : Token} {ts : List Token}
      → (mark : TokenKind) (inner : List Token) (close : Token) (rest : List Token)
      → ts ≡ inner ++ close ∷ rest
      → closing_mark opener.kind ≡ Some mark
      → is_bad opener.kind ≡ false
      → Standing true (Some mark) inner
      → is_mark mark close.kind ≡ true
      → Standing closed within rest
      → Standing closed within (opener ∷ ts)
  open_pair : {within : Option TokenKind} {opener : Token} {inner : List Token} (mark : TokenKind)
      → closing_mark opener.kind ≡ Some mark
      → is_bad opener.kind ≡ false
      → Standing false (Some mark) inner
      → Standing false within (opener ∷ inner)

-- A declaration: a name, a colon and a value, which isn't white space and comments alone.
pub record IsDeclaration (piece : List Token) (d : Decl) : Type 0 where
  pub name : Token
  pub gap : List Token
  pub colon : Token
  pub value : List Token
  pub whole : piece ≡ name ∷ (gap ++ colon ∷ value)
  pub named : is_ident name.kind ≡ true
  pub blank : list_all (λ t. is_gap t.kind) gap ≡ true
  pub parted : is_colon colon.kind ≡ true
  pub standing : Standing false None value
  pub some : list_all (λ t. is_gap t.kind) value ≡ false
  pub gives : d ≡ declared_at name value (before_important value)

-- What stands where a declaration may: white space, a comment or a `;`; an at-rule, which is dropped; a declaration; or
-- what is dropped up to the next `;` since it is none.
pub data DeclarationItem : List Token → List Decl → List Token → Type 0 where
  blank : {t : Token} {ts : List Token} → is_blank t.kind ≡ true → DeclarationItem (t ∷ ts) [] ts
  at_rule : {t : Token} {ts prelude block rest : List Token}
      → is_blank t.kind ≡ false
      → is_at_keyword t.kind ≡ true
      → IsAtRule ts prelude block rest
      → DeclarationItem (t ∷ ts) [] rest
  well_formed : {t : Token} {ts piece rest : List Token} {d : Decl}
      → is_blank t.kind ≡ false
      → is_at_keyword t.kind ≡ false
      → IsStretch ends_declaration (t ∷ ts) piece rest
      → IsDeclaration piece d
      → DeclarationItem (t ∷ ts) (d ∷ []) rest
  malformed : {t : Token} {ts piece rest : List Token}
      → is_blank t.kind ≡ false
      → is_at_keyword t.kind ≡ false
      → IsStretch ends_declaration (t ∷ ts) piece rest
      → ((d : Decl) → IsDeclaration piece d → ⊥)
      → DeclarationItem (t ∷ ts) [] rest

-- the declarations of a block
abbrev pub AreDeclarations : List Token → List Decl → Type 0
AreDeclarations = Listed DeclarationItem

-- ---- rulesets

-- the rule of a selector without white space at its ends, which is at this place where it is empty
abbrev pub rule_with : ℕ → List Token → List Decl → Option (List MediaEntry) → Rule
rule_with place selector decls media =
    record { at = start_of place selector; len = extent selector; decls = decls; media = media }

-- A ruleset: a selector, which may be anything, and a block. Without a block it is none.
pub data RulesetAt (media : Option (List MediaEntry)) : List Token → List Rule → List Token → Type 0 where
  ruleset_with : {ts selector after block rest : List Token} {brace : Token} {decls : List Decl} {rule : Rule}
      → IsStretch ends_selector ts selector (brace ∷ after) → IsBlock after block rest → AreDeclarations block decls
      → rule ≡ rule_with brace.at (trimmed is_space selector) decls media
      → RulesetAt media ts (rule ∷ []) rest
  unfinished : {ts selector : List Token} → IsStretch ends_selector ts selector [] → RulesetAt media ts [] []

-- What stands in a block of `@media`: at-rules in it are dropped.
pub data RuleItem (media : Option (List MediaEntry)) : List Token → List Rule → List Token → Type 0 where
  blank_rule : {t : Token} {ts : List Token} → is_gap t.kind ≡ true → RuleItem media (t ∷ ts) [] ts
  dropped_at_rule : {t : Token} {ts prelude block rest : List Token}
      → is_gap t.kind ≡ false
      → is_at_keyword t.kind ≡ true
      → IsAtRule ts prelude block rest
      → RuleItem media (t ∷ ts) [] rest
  kept_rule : {t : Token} {ts rest : List Token} {rules : List Rule}
      → is_gap t.kind ≡ false
      → is_at_keyword t.kind ≡ false
      → RulesetAt media (t ∷ ts) rules rest
      → RuleItem media (t ∷ ts) rules rest

-- the rules of such a block, each with the list that it stands under
abbrev pub AreRules : Option (List MediaEntry) → List Token → List Rule → Type 0
AreRules media = Listed (RuleItem media)

-- ---- statements

-- An `@media` that asks for what this profile has not: in its prelude a `(` stands, and an entry is outside the grammar.
abbrev pub is_beyond : List Token → List (Option MediaEntry) → Bool
is_beyond prelude entries = list_any (λ t. has_paren t.kind) prelude && list_any is_none entries

-- What an at-rule of a sheet says: its keyword, its prelude and what stands in its block.
pub data AtStatement : Token → List Token → List Token → List Statement → Type 0 where
  an_import : {t : Token} {prelude block : List Token}
      → is_word (codes "import") t ≡ true
      → AtStatement t prelude block (Import t.at ∷ [])
  a_page : {t : Token} {prelude block : List Token}
      → is_word (codes "import") t ≡ false
      → is_word (codes "page") t ≡ true
      → AtStatement t prelude block (Page ∷ [])
  a_query : {t : Token} {prelude block : List Token} {entries : List (Option MediaEntry)}
      → is_word (codes "import") t ≡ false
      → is_word (codes "page") t ≡ false
      → is_word (codes "media") t ≡ true
      → IsMediaList prelude entries
      → is_beyond prelude entries ≡ true
      → AtStatement t prelude block (MediaQuery t.at ∷ [])
  a_media : {t : Token} {prelude block : List Token} {entries : List (Option MediaEntry)} {rules : List Rule}
      → is_word (codes "import") t ≡ false
      → is_word (codes "page") t ≡ false
      → is_word (codes "media") t ≡ true
      → IsMediaList prelude entries
      → is_beyond prelude entries ≡ false
      → AreRules (Some (map shown_entry entries)) block rules
      → AtStatement t prelude block (Media rules ∷ [])
  unknown : {t : Token} {prelude block : List Token}
      → is_word (codes "import") t ≡ false
      → is_word (codes "page") t ≡ false
      → is_word (codes "media") t ≡ false
      → AtStatement t prelude block []

-- What stands in a sheet: white space, a comment, `<!--` or `-->`; an at-rule; a ruleset.
pub data StatementItem : List Token → List Statement → List Token → Type 0 where
  between : {t : Token} {ts : List Token} → is_between t.kind ≡ true → StatementItem (t ∷ ts) [] ts
  at_statement : {t : Token} {ts prelude block rest : List Token} {said : List Statement}
      → is_between t.kind ≡ false
      → is_at_keyword t.kind ≡ true
      → IsAtRule ts prelude block rest
      → AtStatement t prelude block said
      → StatementItem (t ∷ ts) said rest
  rule_statement : {t : Token} {ts rest : List Token} {rules : List Rule}
      → is_between t.kind ≡ false
      → is_at_keyword t.kind ≡ false
      → RulesetAt None (t ∷ ts) rules rest
      → StatementItem (t ∷ ts) (map Ruleset rules) rest

abbrev pub AreStatements : List Token → List Statement → Type 0
AreStatements = Listed StatementItem

-- ---- the sheet

-- the rules that statements hold, in order
abbrev pub rules_of : List Statement → List Rule
rules_of [] = []
rules_of (Ruleset rule ∷ ss) = rule ∷ rules_of ss
rules_of (Media rules ∷ ss) = rules ++ rules_of ss
rules_of (Import place ∷ ss) = rules_of ss
rules_of (Page ∷ ss) = rules_of ss
rules_of (MediaQuery place ∷ ss) = rules_of ss

-- an `@import` behind such a statement is dropped (this project's own reading of CSS 2.1, 4.1.5)
abbrev pub ends_imports : Statement → Bool
ends_imports (Import place) = false
ends_imports _ = true

-- whether a statement is refused behind these
abbrev pub is_refused : List Statement → Statement → Bool
is_refused before (Import place) = not (list_any ends_imports before)
is_refused before (MediaQuery place) = true
is_refused before _ = false

-- no statement is refused
abbrev pub IsAccepted : List Statement → Type 0
IsAccepted ss = (before : List Statement) (s : Statement) (after : List Statement) → ss ≡ before ++ s ∷ after
    → is_refused before s ≡ false

-- the first statement that is refused
pub record IsFirstRefused (ss : List Statement) (s : Statement) : Type 0 where
  pub before : List Statement
  pub after : List Statement
  pub whole : ss ≡ before ++ s ∷ after
  pub refused : is_refused before s ≡ true
  pub first : IsAccepted before

-- The answer of a sheet: the first statement that is refused, more than 8,192 rules, or the rules.
pub data IsAnswer (ss : List Statement) : Result (List Rule) Refusal → Type 0 where
  refused_import : {place : ℕ} → IsFirstRefused ss (Import place) → IsAnswer ss (Err (import_at place))
  refused_query : {place : ℕ} → IsFirstRefused ss (MediaQuery place) → IsAnswer ss (Err (media_at place))
  too_long : IsAccepted ss → 8192 < length (rules_of ss) → IsAnswer ss (Err too_many)
  rules_are : IsAccepted ss → length (rules_of ss) ≤ 8192 → IsAnswer ss (Ok (rules_of ss))

-- what the tokens of a sheet spell
pub record IsSheet (tokens : List Token) (answer : Result (List Rule) Refusal) : Type 0 where
  pub statements : List Statement
  pub read : AreStatements (closed_by_end tokens) statements
  pub gives : IsAnswer statements answer

-- what a text spells
abbrev pub IsSheetOf : List ℕ → Result (List Rule) Refusal → Type 0
IsSheetOf text answer = (tokens : List Token) × AreTokens text tokens × IsSheet tokens answer

-- the declarations that the text of a style attribute spells
abbrev pub AreDeclarationsOf : List ℕ → List Decl → Type 0
AreDeclarationsOf text decls = (tokens : List Token) × AreTokens text tokens
    × AreDeclarations (closed_by_end tokens) decls

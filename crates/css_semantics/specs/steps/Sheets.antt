-- What a list of tokens spells, computed step by step. No definition of the grammar of sheets cites
-- these words: the laws are proved by them, and the functions that read a sheet give them.
use Rattle.std.specs.Prelude.{ℕ, Bool, true, false, not, ◌&&◌, List, [], ◌∷◌, ◌++◌, length, map, drop, Option, Some, None, option_map, if◌then◌else◌, codes, nat_lt, Result, Ok, Err}
use Rattle.std.specs.Option.{option_to_list}
use Rattle.std.specs.List.{list_all}
use Rattle.css_semantics.specs.Pieces.{Token}
use Rattle.viz_base.specs.declared.sheets.Decl.{Decl}
use Rattle.viz_base.specs.declared.sheets.MediaEntry.{MediaEntry}
use Rattle.viz_base.specs.declared.sheets.Rule.{Rule}
use Rattle.css_semantics.specs.declared.statements.Statement.{Statement}
use Rattle.css_semantics.specs.declared.statements.Statement.TheVariants.{Ruleset, Import, Page, MediaQuery, Media}
use Rattle.css_semantics.specs.SheetsMarks.{is_ident, is_at_keyword, is_colon, is_left_brace, is_space, is_gap, is_word, ends_prelude, ends_selector, ends_block, ends_declaration}
use Rattle.css_semantics.specs.SheetsReading.{Refusal, import_at, media_at, too_many, gathered, trim_start, trimmed, start_of, extent, goes_on, before_important, declared_at, is_blank, is_between, closed_by_end}
use Rattle.css_semantics.specs.MediaLists.{shown_entry}
use Rattle.css_semantics.specs.SheetsGrammar.{is_beyond}
use Rattle.css_semantics.specs.steps.Stretches.{front, behind}
use Rattle.css_semantics.specs.steps.MediaLists.{entries}

-- ---- one after another

-- what an item gives, and what follows it, at tokens that may be none
abbrev pub at_head : {A : Type 0} → (Token → List Token → List A) → List Token → List A
at_head item [] = []
at_head item (t ∷ ts) = item t ts

-- ---- at-rules

-- what follows the block whose `{` has been passed
abbrev pub after_block : List Token → List Token
after_block ts = drop 1 (behind ends_block ts)

-- what follows an at-rule whose prelude has been passed
abbrev pub after_prelude : List Token → List Token
after_prelude [] = []
after_prelude (t ∷ ts) = if is_left_brace t.kind then after_block ts else ts

-- what follows an at-rule whose keyword has been passed
abbrev pub after_at_rule : List Token → List Token
after_at_rule ts = after_prelude (behind ends_prelude ts)

-- what stands in its block
abbrev pub in_block : List Token → List Token
in_block [] = []
in_block (t ∷ ts) = if is_left_brace t.kind then front ends_block ts else []

-- ---- declarations

abbrev pub is_value : List Token → Bool
is_value ts = goes_on [] ts && not (list_all (λ t. is_gap t.kind) ts)

abbrev pub declared : Token → List Token → Option Decl
declared name [] = None
declared name (t ∷ ts) = if is_colon t.kind && is_value ts then Some (declared_at name ts (before_important ts))
    else None

-- the declaration that these tokens spell, if they spell one
abbrev pub declaration : List Token → Option Decl
declaration [] = None
declaration (t ∷ ts) = if is_ident t.kind then declared t (trim_start is_gap ts) else None

abbrev pub declaration_item : Token → List Token → List Decl
declaration_item t ts = if is_blank t.kind then []
    else (if is_at_keyword t.kind then [] else option_to_list (declaration (front ends_declaration (t ∷ ts))))

abbrev pub after_declaration : Token → List Token → List Token
after_declaration t ts = if is_blank t.kind then ts
    else (if is_at_keyword t.kind then after_at_rule ts else behind ends_declaration (t ∷ ts))

-- the declarations of a block
abbrev pub declarations : List Token → List Decl
declarations = gathered declaration_item after_declaration 0

-- ---- rulesets

abbrev pub rule_of : Option (List MediaEntry) → List Token → ℕ → List Token → Rule
rule_of media selector place block =
    record { at = start_of place selector; len = extent selector; decls = declarations block; media = media }

abbrev pub ruleset_of : Option (List MediaEntry) → List Token → List Token → Option Rule
ruleset_of media selector [] = None
ruleset_of media selector (t ∷ ts) = Some (rule_of media (trimmed is_space selector) t.at (front ends_block ts))

-- the ruleset at the head of these tokens, if a block comes
abbrev pub block_rule : Option (List MediaEntry) → List Token → Option Rule
block_rule media ts = ruleset_of media (front ends_selector ts) (behind ends_selector ts)

abbrev pub after_selector : List Token → List Token
after_selector [] = []
after_selector (t ∷ ts) = after_block ts

abbrev pub after_ruleset : List Token → List Token
after_ruleset ts = after_selector (behind ends_selector ts)

abbrev pub rule_item : Option (List MediaEntry) → Token → List Token → List Rule
rule_item media t ts = if is_gap t.kind then []
    else (if is_at_keyword t.kind then [] else option_to_list (block_rule media (t ∷ ts)))

abbrev pub after_rule : Token → List Token → List Token
after_rule t ts = if is_gap t.kind then ts
    else (if is_at_keyword t.kind then after_at_rule ts else after_ruleset (t ∷ ts))

-- the rules of the block of an `@media`
abbrev pub rules_in : Option (List MediaEntry) → List Token → List Rule
rules_in media = gathered (rule_item media) after_rule 0

-- ---- statements

abbrev pub media_of : ℕ → List Token → List Token → Statement
media_of place prelude block = if is_beyond prelude (entries prelude) then MediaQuery place
    else Media (rules_in (Some (map shown_entry (entries prelude))) block)

abbrev pub at_rule : Token → List Token → Option Statement
at_rule t ts =
    if is_word (codes "import") t then Some (Import t.at)
    else (if is_word (codes "page") t then Some Page
    else (if is_word (codes "media") t
    then Some (media_of t.at (front ends_prelude ts) (in_block (behind ends_prelude ts)))
    else None))

abbrev pub statement_item : Token → List Token → List Statement
statement_item t ts = if is_between t.kind then []
    else (if is_at_keyword t.kind then option_to_list (at_rule t ts)
    else option_to_list (option_map Ruleset (block_rule None (t ∷ ts))))

abbrev pub after_statement : Token → List Token → List Token
after_statement t ts = if is_between t.kind then ts
    else (if is_at_keyword t.kind then after_at_rule ts else after_ruleset (t ∷ ts))

abbrev pub statements : List Token → List Statement
statements = gathered statement_item after_statement 0

-- ---- the answer

abbrev pub capped : List Rule → Result (List Rule) Refusal
capped rules = if nat_lt 8192 (length rules) then Err too_many else Ok rules

-- Whether an `@import` may still come, and the rules so far, behind one more statement.
abbrev pub with_statement : Bool → List Rule → Statement → Result (Bool × List Rule) Refusal
with_statement early rules (Ruleset rule) = Ok (false, rules ++ rule ∷ [])
with_statement early rules (Import place) = if early then Err (import_at place) else Ok (early, rules)
with_statement early rules Page = Ok (false, rules)
with_statement early rules (MediaQuery place) = Err (media_at place)
with_statement early rules (Media held) = Ok (false, rules ++ held)

abbrev pub if_ok : Result (Bool × List Rule) Refusal → (Bool → List Rule → Result (List Rule) Refusal)
    → Result (List Rule) Refusal
if_ok (Ok p) f = f p.0 p.1
if_ok (Err refusal) f = Err refusal

abbrev pub read_on : Bool → List Rule → List Statement → Result (List Rule) Refusal
read_on early rules [] = capped rules
read_on early rules (s ∷ ss) = if_ok (with_statement early rules s) (λ e rs. read_on e rs ss)

abbrev pub sheet_of : List Token → Result (List Rule) Refusal
sheet_of ts = read_on true [] (statements (closed_by_end ts))

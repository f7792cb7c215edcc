-- What a list of rules says: each line is a rule, that is a name, a space and a formula.
use Rattle.std.specs.Prelude.{◌≡◌, ◌≢◌, ℕ, ◌+◌, ◌==◌, ◌&&◌, ◌||◌, nat_le, nat_lt, Bool, not, List, [], ◌∷◌, ◌++◌, length, take, drop, get_or, Option, Some, None, Result, Ok, Err, bytes_eq, if◌then◌else◌}
use Rattle.std.specs.List.{list_any, position, prefix_len}
use Rattle.std.specs.Str.{is_utf8}
use Rattle.viz_tables.specs.declared.rules.Rule.{Rule}
use Rattle.viz_base.specs.declared.limits.TheConstants.{MOST_FORMULA}

-- ---- one line

-- a small letter, a digit or `-`
abbrev pub is_name_byte : ℕ → Bool
is_name_byte byte = (nat_le 97 byte && nat_le byte 122) || ((nat_le 48 byte && nat_le byte 57) || (byte == 45))

-- UTF-8 of at most 16,384 bytes, which may be none
abbrev pub is_formula : List ℕ → Bool
is_formula formula = nat_le (length formula) MOST_FORMULA && is_utf8 formula

-- a name of one to 32 of these bytes stands first, and then a space
abbrev pub is_named : ℕ → List ℕ → Bool
is_named name line = nat_le 1 name && (nat_le name 32 && (get_or line name 0 == 32))

-- the rule of a line whose name has so many bytes
abbrev pub rule_with : ℕ → List ℕ → Option Rule
rule_with name line =
    if is_named name line && is_formula (drop (name + 1) line)
    then Some (record { name = take name line; formula = drop (name + 1) line }) else None

-- the rule that a line is
abbrev pub rule_in : List ℕ → Option Rule
rule_in line = rule_with (prefix_len is_name_byte line) line

-- ---- lines one after another

abbrev pub has_name : List Rule → List ℕ → Bool
has_name rules name = list_any (λ (rule : Rule). bytes_eq rule.name name) rules

-- there are at most 64 rules, and no two have the same name
abbrev pub fits : List Rule → Rule → Bool
fits rules rule = nat_lt (length rules) 64 && not (has_name rules rule.name)

abbrev pub kept : List Rule → Option Rule → Option Rule
kept rules None = None
kept rules (Some rule) = if fits rules rule then Some rule else None

-- the rule that a line is behind others
abbrev pub next_rule : List Rule → List ℕ → Option Rule
next_rule rules line = kept rules (rule_in line)

abbrev pub is_feed : ℕ → Bool
is_feed byte = byte == 10

-- What bytes come to behind these rules: all rules, at least one, where a line feed ends each line; or the number of the
-- first line that breaks the form. So it is with an empty list, and with bytes behind the last line feed.
pub data Reads : List Rule → List ℕ → Result (List Rule) ℕ → Type 0 where
  ended : {rules : List Rule} → rules ≢ [] → Reads rules [] (Ok rules)
  more : {rules : List Rule} {rest : List ℕ} {at : ℕ} {rule : Rule} {answer : Result (List Rule) ℕ}
      → position is_feed rest ≡ Some at → next_rule rules (take at rest) ≡ Some rule
      → Reads (rules ++ rule ∷ []) (drop (at + 1) rest) answer → Reads rules rest answer
  broken : {rules : List Rule} {rest : List ℕ} {at : ℕ} → position is_feed rest ≡ Some at
      → next_rule rules (take at rest) ≡ None → Reads rules rest (Err (length rules))
  unended : {rules : List Rule} {rest : List ℕ} → position is_feed rest ≡ None → (rest ≡ [] → rules ≡ [])
      → Reads rules rest (Err (length rules))

-- what a whole list comes to
abbrev pub IsListOf : List ℕ → Result (List Rule) ℕ → Type 0
IsListOf bytes answer = Reads [] bytes answer

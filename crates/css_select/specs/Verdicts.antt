-- What tokens are, and what reading all of them says.
use Rattle.std.specs.Prelude.{ℕ, List, [], ◌∷◌, Option, Some, None, Result, Ok, Err, if◌then◌else◌}
use Rattle.css_semantics.specs.Pieces.{Token}
use Rattle.css_semantics.specs.Spelled.{Spelled}
use Rattle.css_semantics.specs.SelectorGrammar.{IsBadAt, IsGroup, IsGroupOf, IsNoGroup, IsUnsupportedAt}
use Rattle.css_select.specs.Refusals.{Refusal, bad_at, unsupported_at}
use Rattle.css_select.specs.steps.Machine.{State, initial, run, ended, may_end, pseudo_at}

-- a group of selectors, or why there is none
abbrev pub Verdict : Type 0
Verdict = Result (List Spelled) Refusal

abbrev pub judged : Option ℕ → State → Verdict
judged None s = Ok s.group
judged (Some place) s = Err (unsupported_at place)

-- what the state behind all tokens says, the text ending at a place
abbrev pub finished : ℕ → State → Verdict
finished end s = if may_end s.place then judged s.refused (ended s (pseudo_at s.place)) else Err (bad_at end)

abbrev pub verdict : ℕ → Result State Refusal → Verdict
verdict end (Ok s) = finished end s
verdict end (Err refusal) = Err refusal

-- what the tokens say
abbrev pub verdict_of : ℕ → List Token → Verdict
verdict_of end ts = verdict end (run initial ts)

-- what tokens are, a text that ends at a place having them: a group of selectors, one with refused selectors, or none
abbrev pub IsReading : ℕ → List Token → Verdict → Type 0
IsReading end ts (Ok group) = IsGroup ts group []
IsReading end ts (Err (unsupported_at place)) = (group : List Spelled) × (others : List ℕ) × IsGroup ts group (place ∷ others)
IsReading end ts (Err (bad_at place)) = IsNoGroup ts end place

-- what a text is
abbrev pub IsReadingOf : List ℕ → Verdict → Type 0
IsReadingOf text (Ok group) = IsGroupOf text group
IsReadingOf text (Err (unsupported_at place)) = IsUnsupportedAt text place
IsReadingOf text (Err (bad_at place)) = IsBadAt text place

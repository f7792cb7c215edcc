-- The lines of a table.
use Rattle.std.specs.Prelude.{ℕ, Bool, true, false, List, ◌++◌, codes}
use Rattle.viz_replies.specs.Lines.{spaced}
use Rattle.viz_tables.specs.declared.words.Word.{Word}
use Rattle.viz_tables.specs.declared.words.Word.TheVariants.{Holds, Fails, Undecided}
use Rattle.viz_tables.specs.declared.words.Line.{Line}

-- what is said of the widths of a line
abbrev pub word_text : Word → List ℕ
word_text Holds = codes " holds\n"
word_text Fails = codes " fails\n"
word_text Undecided = codes " undecided\n"

-- a rule's name, the first width, the last, and what is said of them
abbrev pub line_text : List ℕ → Line → List ℕ
line_text name line = name ++ (spaced line.wl ++ spaced line.wh) ++ word_text line.word

abbrev pub is_open_word : Word → Bool
is_open_word Holds = false
is_open_word Fails = false
is_open_word Undecided = true

-- a line that is undecided
abbrev pub is_open : Line → Bool
is_open line = is_open_word line.word

-- ---- refusals

abbrev pub long_list_line : List ℕ
long_list_line = codes "list-refused too-long\n"

-- a line of the list, from 0, that breaks the form
abbrev pub form_line : ℕ → List ℕ
form_line line = codes "list-refused" ++ (spaced line ++ codes " form\n")

-- a line of the list, from 0, whose formula is at fault at a place
abbrev pub place_line : ℕ → List ℕ → ℕ → List ℕ
place_line line words at = codes "list-refused" ++ (spaced line ++ (words ++ (spaced at ++ codes "\n")))

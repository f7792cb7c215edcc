-- The forms of the program's words.
use Rattle.std.specs.Prelude.{◌≡◌, ◌≢◌, ◌⊎◌, ℕ, ◌≤◌, ◌<◌, ◌^◌, List, [], ◌∷◌, codes, Option, Some, None, IfSome, decimal, slice_get, unwrap_or}
use Rattle.viz_replies.specs.Generated.{sections_most}
use Rattle.viz_replies.specs.declared.question.Screen.{Screen}
use Rattle.viz_run.specs.declared.words.Command.{Command}
use Rattle.viz_run.specs.declared.words.Command.TheVariants as asks_for
use Rattle.viz_base.specs.declared.limits.TheConstants.{MOST_PIXELS, MOST_SIZE}

-- a height's word, where it is named
abbrev pub height_words : Option ℕ → List (List ℕ)
height_words None = []
height_words (Some h) = decimal h ∷ []

-- the words of a command
abbrev pub spelled : Command → List (List ℕ)
spelled (asks_for.Lay job screen) = codes "lay" ∷ job.now ∷ decimal screen.w ∷ decimal screen.s ∷ height_words screen.h
spelled (asks_for.Prove job turns) = codes "prove" ∷ job.now ∷ decimal turns ∷ []
spelled (asks_for.Check job cert) = codes "check" ∷ job.now ∷ cert.now ∷ []
spelled (asks_for.Gen seed sections) = codes "gen" ∷ decimal seed ∷ decimal sections.count ∷ []
spelled (asks_for.Trial seed sections turns) = codes "trial" ∷ decimal seed ∷ decimal sections.count ∷ decimal turns
    ∷ []

-- a width from 1 to 16,384 pixels, a default font size from 1 to 256, and a height from 1 to 16,384 where one is named
pub record IsScreen (screen : Screen) : Type 0 where
  pub width_least : 1 ≤ screen.w
  pub width_most : screen.w ≤ MOST_PIXELS
  pub size_least : 1 ≤ screen.s
  pub size_most : screen.s ≤ MOST_SIZE
  pub height_least : IfSome screen.h (λ h. 1 ≤ h)
  pub height_most : IfSome screen.h (λ h. h ≤ MOST_PIXELS)

-- a generated job's seed has 64 bits, and its sections are not too many
pub record IsGenerable (seed sections : ℕ) : Type 0 where
  pub bits : seed < 2 ^ 64
  pub few : sections ≤ sections_most

-- a command's numbers are within their limits, and the names of its files are not empty
abbrev pub IsProper : Command → Type 0
IsProper (asks_for.Lay job screen) = (job.now ≢ []) × IsScreen screen
IsProper (asks_for.Prove job turns) = (job.now ≢ []) × (turns < 2 ^ 64)
IsProper (asks_for.Check job cert) = (job.now ≢ []) × (cert.now ≢ [])
IsProper (asks_for.Gen seed sections) = IsGenerable seed sections.count
IsProper (asks_for.Trial seed sections turns) = IsGenerable seed sections.count × (turns < 2 ^ 64)

-- the words ask for the command
pub record Asks (words : List (List ℕ)) (c : Command) : Type 0 where
  pub words_are : words ≡ spelled c
  pub proper : IsProper c

-- the words are none of the forms
abbrev pub AskNothing : List (List ℕ) → Type 0
AskNothing words = (c : Command) → Asks words c → ⊥

-- the word at a place
abbrev pub word_at : List (List ℕ) → ℕ → List ℕ
word_at words at = unwrap_or (slice_get words at) []

-- the words begin as those of a command about a generated job
abbrev pub AreOfGenerated : List (List ℕ) → Type 0
AreOfGenerated words = (word_at words 0 ≡ codes "gen") ⊎ (word_at words 0 ≡ codes "trial")

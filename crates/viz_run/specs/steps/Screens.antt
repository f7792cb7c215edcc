-- The words that name a screen.
use Rattle.std.specs.Prelude.{◌≡◌, ℕ, List, ◌∷◌, decimal}
use Rattle.viz_replies.specs.declared.question.Screen.{Screen}
use Rattle.viz_run.specs.Words.{IsScreen, height_words}

-- these words name the screen, and it is one at which pages can be laid out
abbrev pub AreScreen : List (List ℕ) → Screen → Type 0
AreScreen words screen = IsScreen screen × (words ≡ decimal screen.w ∷ decimal screen.s ∷ height_words screen.h)

-- they name none
abbrev pub AreNoScreen : List (List ℕ) → Type 0
AreNoScreen words = (screen : Screen) → AreScreen words screen → ⊥

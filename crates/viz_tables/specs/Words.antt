-- What is said of the widths of a range, and when it is right.
use Rattle.std.specs.Prelude.{◌≡◌, ◌≢◌, ℕ, suc, ◌+◌, ◌*◌, ◌<◌, ◌≤◌, Bool, true, false, List, [], ◌∷◌}
use Rattle.viz_base.specs.declared.worlds.Axis.TheVariants.{Height, Size}
use Rattle.viz_base.specs.declared.worlds.Rect.{Rect}
use Rattle.viz_base.specs.declared.worlds.World.{World}
use Rattle.viz_base.specs.Worlds.{side_of, span_count, IsInRange}
use Rattle.viz_tables.specs.declared.words.Word.{Word}
use Rattle.viz_tables.specs.declared.words.Word.TheVariants.{Holds, Fails, Undecided}
use Rattle.viz_tables.specs.declared.words.Line.{Line}

-- ---- one width

-- a world of the range that has this width
pub record IsWorldAt (range : Rect) (w : ℕ) (world : World) : Type 0 where
  pub inside : IsInRange range world
  pub width : world.w ≡ w

-- how many worlds of a range have the same width
abbrev pub height_of : Rect → ℕ
height_of range = span_count (side_of Size range) * span_count (side_of Height range)

-- What is said of a width is right, where this tells at which worlds an assertion is true: it holds where it is true at
-- each world of the width, it fails where it is false at one of them, and it is undecided only where there are fewer
-- turns than two a world less one.
abbrev pub IsRight : Rect → (World → Bool) → ℕ → Word → ℕ → Type 0
IsRight range truth turns Holds w = (world : World) → IsWorldAt range w world → truth world ≡ true
IsRight range truth turns Fails w = (world : World) × IsWorldAt range w world × (truth world ≡ false)
IsRight range truth turns Undecided w = turns + 1 < 2 * height_of range

-- ---- widths one after another

-- so it is of each of these, the first being of this width
abbrev pub AreRight : Rect → (World → Bool) → ℕ → ℕ → List Word → Type 0
AreRight range truth turns w [] = Unit {0}
AreRight range truth turns w (word ∷ words) = IsRight range truth turns word w
    × AreRight range truth turns (suc w) words

-- what is said of an assertion that consists of two
abbrev pub both : Word → Word → Word
both Fails b = Fails
both Holds b = b
both Undecided Fails = Fails
both Undecided Holds = Undecided
both Undecided Undecided = Undecided

-- ---- lines

-- what a line says is so of each of its widths
pub record IsLine (Is : Word → ℕ → Type 0) (line : Line) : Type 0 where
  pub widths : line.wl ≤ line.wh
  pub right : (w : ℕ) → line.wl ≤ w → w ≤ line.wh → Is line.word w

-- the first of these lines, if there is one, says another word
abbrev pub IsOther : Word → List Line → Type 0
IsOther word [] = Unit {0}
IsOther word (line ∷ lines) = word ≢ line.word

-- The lines go without gap from a width to the one before another; what they say is so, and no two neighbours say the
-- same.
abbrev pub AreLines : (Word → ℕ → Type 0) → (from to : ℕ) → List Line → Type 0
AreLines Is from to [] = from ≡ to
AreLines Is from to (line ∷ lines) = (line.wl ≡ from) × IsLine Is line × IsOther line.word lines
    × AreLines Is (suc line.wh) to lines

-- the lines of a range, where this tells at which worlds an assertion is true
abbrev pub AreLinesOf : Rect → (World → Bool) → ℕ → List Line → Type 0
AreLinesOf range truth turns lines = AreLines (IsRight range truth turns) range.wl (suc range.wh) lines

-- the line that says of all widths of a range that the turns did not tell
abbrev pub undecided_line : Rect → Line
undecided_line range = record { wl = range.wl; wh = range.wh; word = Undecided }

-- Escapes resolved one character at a time.
use Rattle.std.specs.Prelude.{ℕ, ◌==◌, ◌<◌, List, [], ◌∷◌, if◌then◌else◌}
use Rattle.css_semantics.specs.TokensLetters.{is_space}
use Rattle.css_semantics.specs.TokensUnescaped.{Extent, resolved, escaped, numbered, returned, open_extent, marked_extent, address_extent}
use Rattle.css_token.specs.declared.escapes.Ending.{Ending}
use Rattle.css_token.specs.declared.escapes.Ending.TheVariants.{Nowhere, Mark, Closing}
use Rattle.css_token.specs.declared.escapes.Mode.{Mode}
use Rattle.css_token.specs.declared.escapes.Mode.TheVariants.{Plain, Backslash, Number, Return, Done}

abbrev pub extent_of : Ending → Extent
extent_of Nowhere = open_extent
extent_of (Mark mark) = marked_extent mark
extent_of Closing = address_extent

-- the rest of a text, resolved behind what was read
abbrev pub resolved_in : Ending → Mode → List ℕ → List ℕ
resolved_in ending Plain cs = resolved (extent_of ending) cs
resolved_in ending Backslash cs = escaped (extent_of ending) cs
resolved_in ending (Number left n) cs = numbered (extent_of ending) left n cs
resolved_in ending Return cs = returned (extent_of ending) cs
resolved_in ending Done cs = []

-- above each number of so many digits fewer than six
abbrev pub above_digits : ℕ → ℕ
above_digits left =
    if left == 5 then 16 else (if left == 4 then 256 else (if left == 3 then 4096 else (if left == 2 then 65536
    else (if left == 1 then 1048576 else 16777216))))

abbrev pub IsSmall : Mode → Type 0
IsSmall Plain = Unit {0}
IsSmall Backslash = Unit {0}
IsSmall (Number left n) = (left < 6) × (n < above_digits left)
IsSmall Return = Unit {0}
IsSmall Done = Unit {0}

-- behind a number that is complete
abbrev pub after_number : Extent → ℕ → List ℕ → List ℕ
after_number extent c cs =
    if c == 13 then returned extent cs else (if is_space c then resolved extent cs else resolved extent (c ∷ cs))

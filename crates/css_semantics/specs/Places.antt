-- The places of keywords in the rows of their properties, from 0, by name.
use Rattle.std.specs.Prelude.{ℕ}

abbrev pub at_none : ℕ
at_none = 0

abbrev pub at_inline : ℕ
at_inline = 2

abbrev pub at_static : ℕ
at_static = 0

abbrev pub at_visible : ℕ
at_visible = 0

abbrev pub at_ltr : ℕ
at_ltr = 0

abbrev pub at_auto : ℕ
at_auto = 0

abbrev pub at_normal : ℕ
at_normal = 0

abbrev pub at_baseline : ℕ
at_baseline = 0

abbrev pub at_left : ℕ
at_left = 0

abbrev pub at_outside : ℕ
at_outside = 0

-- `medium` among widths of borders, and among sizes of fonts
abbrev pub at_medium_width : ℕ
at_medium_width = 1

abbrev pub at_medium_size : ℕ
at_medium_size = 3

-- Characters that are written from right to left, and marks that turn the
-- direction (CSS 2.1, 9.10): the list is our own.
use Rattle.std.specs.Prelude.{ℕ, nat_le, Bool, ◌&&◌, List, [], ◌∷◌}
use Rattle.std.specs.List.{list_any}

-- Hebrew, Arabic, Syriac and their neighbours; the marks of right to left order; the forms of presentation; and the
-- scripts of the supplementary plane
abbrev pub right_to_left_ranges : List (ℕ × ℕ)
right_to_left_ranges =
    (0x0590, 0x08FF) ∷ (0x200F, 0x200F) ∷ (0x202B, 0x202B) ∷ (0x202E, 0x202E) ∷ (0x2067, 0x2067)
    ∷ (0xFB1D, 0xFDFF) ∷ (0xFE70, 0xFEFE) ∷ (0x10800, 0x10FFF) ∷ (0x1E800, 0x1EFFF) ∷ []

abbrev pub is_right_to_left : ℕ → Bool
is_right_to_left c = list_any (λ (range : ℕ × ℕ). nat_le range.0 c && nat_le c range.1) right_to_left_ranges

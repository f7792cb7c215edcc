-- The classes of characters from which tokens are made (CSS 2.1, 4.1.1 and 4.1.3). A character is its code.
use Rattle.std.specs.Prelude.{ℕ, ◌==◌, nat_le, Bool, ◌&&◌, ◌||◌, not}

abbrev pub within : ℕ → ℕ → ℕ → Bool
within low high c = nat_le low c && nat_le c high

abbrev pub is_digit : ℕ → Bool
is_digit = within 48 57

-- a hexadecimal digit, in either case
abbrev pub is_hex : ℕ → Bool
is_hex c = is_digit c || within 97 102 c || within 65 70 c

-- line feed, carriage return, form feed
abbrev pub is_newline : ℕ → Bool
is_newline c = c == 10 || c == 13 || c == 12

-- white space: space, tab, and the ends of lines
abbrev pub is_space : ℕ → Bool
is_space c = c == 32 || c == 9 || c == 10 || c == 13 || c == 12

-- an ASCII letter, an underscore or any character from U+00A0: what begins an identifier
abbrev pub is_start : ℕ → Bool
is_start c = within 97 122 c || within 65 90 c || c == 95 || nat_le 160 c

-- also a digit or a hyphen: what goes on with it
abbrev pub is_name : ℕ → Bool
is_name c = is_start c || is_digit c || c == 45

-- a double or a single quote
abbrev pub is_quote : ℕ → Bool
is_quote c = c == 34 || c == 39

-- what stands for itself in a string within this quote
abbrev pub is_quoted : ℕ → ℕ → Bool
is_quoted quote c = not (is_newline c || c == 92 || c == quote)

-- what stands for itself in an address without quotes: `!`, `#` to `&`, and
-- from `*` on all that is visible but the backslash
abbrev pub is_url : ℕ → Bool
is_url c = c == 33 || within 35 38 c || within 42 91 c || within 93 126 c || nat_le 160 c

-- the letter U in either case
abbrev pub is_u : ℕ → Bool
is_u c = c == 117 || c == 85

-- R
abbrev pub is_r : ℕ → Bool
is_r c = c == 114 || c == 82

-- L
abbrev pub is_l : ℕ → Bool
is_l c = c == 108 || c == 76

-- a hexadecimal digit or `?`, which stands for any
abbrev pub is_range : ℕ → Bool
is_range c = is_hex c || c == 63

-- The parts of a value, of which the grammars of the properties are made (CSS 2.1, 4.1.1 and 4.3).
use Rattle.std.specs.Prelude.{ℕ, ℤ, pos, neg_ℤ, ◌*ℤ◌, ◌==◌, Bool, true, false, ◌||◌, List, [], ◌∷◌, take, drop, Option, Some, None, if◌then◌else◌, codes, encode_utf8_all}
use Rattle.std.specs.List.{prefix_len}
use Rattle.std.specs.Str.{chars}
use Rattle.viz_base.specs.Decimals.{decimal_of}
use Rattle.viz_base.specs.Numbers.{floor_of}
use Rattle.css_semantics.specs.Pieces.{Token}
use Rattle.viz_base.specs.declared.tokens.TokenKind.{TokenKind}
use Rattle.viz_base.specs.declared.tokens.TokenKind.TheVariants.{Ident, Str, Hash, Number, Percentage, Dimension, Uri, RightParen, Function, Delim}
use Rattle.css_semantics.specs.declared.parts.Part.{Part}
use Rattle.css_semantics.specs.declared.parts.Part.TheVariants as part
use Rattle.css_semantics.specs.TokensLetters.{is_digit}
use Rattle.css_semantics.specs.TokensUnescaped.{open_extent, resolved}
use Rattle.css_semantics.specs.SheetsMarks.{closing_mark, is_gap, is_character, is_comma, text_of}
use Rattle.css_semantics.specs.SheetsReading.{gathered, goes_on, stretch_len, closed_by_end}
use Rattle.css_semantics.specs.Names.{same_name}

-- ---- amounts

-- A length of so many millionths of a unit (CSS 2.1, 4.3.2). An absolute one is the floor of its value in 1/64 px:
-- 1in = 96px, 1in = 2.54cm, 1cm = 10mm, 72pt = 1in, 1pc = 12pt. Units are read in any ASCII case.
abbrev pub length_of : ℤ → List ℕ → Part
length_of n unit =
    if same_name unit (codes "px") then part.Px (floor_of (n *ℤ pos 64) 1000000)
    else (if same_name unit (codes "in") then part.Px (floor_of (n *ℤ pos 6144) 1000000)
    else (if same_name unit (codes "cm") then part.Px (floor_of (n *ℤ pos 614400) 254000000)
    else (if same_name unit (codes "mm") then part.Px (floor_of (n *ℤ pos 61440) 254000000)
    else (if same_name unit (codes "pt") then part.Px (floor_of (n *ℤ pos 6144) 72000000)
    else (if same_name unit (codes "pc") then part.Px (floor_of (n *ℤ pos 73728) 72000000)
    else (if same_name unit (codes "em") then part.Em n
    else (if same_name unit (codes "ex") then part.Ex n
    else part.Other)))))))

abbrev pub is_numeral : ℕ → Bool
is_numeral c = is_digit c || c == 46

-- the digits and the point of a number, a percentage or a dimension, by its bytes
abbrev pub numeral_of : List ℕ → List ℕ
numeral_of text = take (prefix_len is_numeral text) text

-- what follows them, by its characters and after escapes
abbrev pub behind_numeral : List ℕ → List ℕ
behind_numeral [] = []
behind_numeral (c ∷ cs) = if is_numeral c then behind_numeral cs else c ∷ cs

abbrev pub unit_of : List ℕ → List ℕ
unit_of letters = encode_utf8_all (resolved open_extent (behind_numeral letters))

abbrev pub signed : Bool → ℕ → ℤ
signed negative n = if negative then neg_ℤ (pos n) else pos n

abbrev pub amount_in : TokenKind → ℤ → List ℕ → Part
amount_in Number n unit = part.Number n
amount_in Percentage n unit = part.Percentage n
amount_in _ n unit = length_of n unit

-- an amount of more than `2^40` millionths is illegal, as a part that no property takes
abbrev pub counted : Bool → Token → Option ℕ → Part
counted negative t None = part.Other
counted negative t (Some n) = amount_in t.kind (signed negative n) (unit_of (chars t.text))

abbrev pub amount_of : Bool → Token → Part
amount_of negative t = counted negative t (decimal_of (numeral_of t.text))

-- ---- parts

abbrev pub is_amount : TokenKind → Bool
is_amount Number = true
is_amount Percentage = true
is_amount Dimension = true
is_amount _ = false

-- `+` and `-`
abbrev pub is_minus : Token → Bool
is_minus = is_character 45

abbrev pub is_sign : Token → Bool
is_sign t = is_character 43 t || is_minus t

-- how many of these tokens stand in the brackets that this mark closes,
-- with the mark, or up to the end, which closes them
abbrev pub bracket_len : TokenKind → List Token → ℕ
bracket_len mark ts = stretch_len (λ t. true) (mark ∷ []) ts

-- a function, of which the brackets may match
abbrev pub function_part : List Token → Part
function_part ts = part.Function (goes_on (RightParen ∷ []) (take (bracket_len RightParen ts) ts))

-- a sign belongs to the amount directly behind it
abbrev pub signed_part : Token → List Token → Part
signed_part t [] = part.Other
signed_part t (u ∷ us) = if is_amount u.kind then amount_of (is_minus t) u else part.Other

abbrev pub delim_part : Token → List Token → Part
delim_part t ts = if is_comma t then part.Comma
    else (if is_character 47 t then part.Solidus else (if is_sign t then signed_part t ts else part.Other))

-- the part that begins with a token of this kind
abbrev pub part_of : TokenKind → Token → List Token → Part
part_of Ident t ts = part.Word (text_of t)
part_of Str t ts = part.Quoted (text_of t)
part_of Number t ts = amount_of false t
part_of Percentage t ts = amount_of false t
part_of Dimension t ts = amount_of false t
part_of Hash t ts = part.Colour
part_of Function t ts = function_part ts
part_of Uri t ts = part.Uri
part_of Delim t ts = delim_part t ts
part_of _ t ts = part.Other

abbrev pub part_item : Token → List Token → List Part
part_item t ts = if is_gap t.kind then [] else part_of t.kind t ts ∷ []

-- what follows it: brackets are passed whole
abbrev pub after_sign : List Token → List Token
after_sign [] = []
after_sign (t ∷ ts) = if is_amount t.kind then ts else t ∷ ts

abbrev pub after_opener : Option TokenKind → Token → List Token → List Token
after_opener (Some mark) t ts = drop (bracket_len mark ts) ts
after_opener None t ts = if is_sign t then after_sign ts else ts

abbrev pub after_part : Token → List Token → List Token
after_part t ts = after_opener (closing_mark t.kind) t ts

-- The parts of a value, between which white space and comments say nothing. The end of the text closes what is open.
abbrev pub parts : List Token → List Part
parts ts = gathered part_item after_part 0 (closed_by_end ts)

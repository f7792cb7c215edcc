-- What the value of a declaration says by the table of properties.
use Rattle.std.specs.Prelude.{ℕ, ℤ, pos, negsuc, ◌==◌, Bool, true, false, List, [], ◌∷◌, ◌++◌, Option, Some, None, Result, Ok, Err, option_map, if◌then◌else◌, codes, int_div, flat_map}
use Rattle.std.specs.List.{list_all, list_any, position}
use Rattle.viz_base.specs.declared.settings.Prop.{Prop}
use Rattle.viz_base.specs.declared.settings.Value.{Value}
use Rattle.viz_base.specs.declared.settings.Value.TheVariants as value
use Rattle.viz_base.specs.declared.settings.Setting.{Setting}
use Rattle.css_semantics.specs.declared.parts.Part.{Part}
use Rattle.css_semantics.specs.declared.parts.Part.TheVariants as part
use Rattle.css_semantics.specs.declared.parts.Takes.{Takes}
use Rattle.css_semantics.specs.declared.parts.Takes.TheVariants.{Nothing, All, NotNegative, ZeroAlone}
use Rattle.css_semantics.specs.declared.parts.Refusal.{Refusal}
use Rattle.css_semantics.specs.declared.parts.Refusal.TheVariants.{Ignored, Unsupported}
use Rattle.css_semantics.specs.Names.{same_name}
use Rattle.css_semantics.specs.Properties.{row}

abbrev pub then_on : {A B : Type 0} → Result A Refusal → (A → Result B Refusal) → Result B Refusal
then_on (Ok x) f = f x
then_on (Err refusal) f = Err refusal

abbrev pub setting : Prop → Value → Setting
setting p v = record { prop = p; value = v }

-- ---- one part

abbrev pub placed : Prop → List ℕ → Option ℕ → Result Value Refusal
placed p word (Some place) = Ok (value.Word place)
placed p word None = if list_any (same_name word) (row p).refused then Err (Unsupported p) else Err Ignored

-- a keyword by its place among those of the property
abbrev pub word_value : Prop → List ℕ → Result Value Refusal
word_value p word = placed p word (position (same_name word) (row p).words)

abbrev pub is_negative : ℤ → Bool
is_negative (pos n) = false
is_negative (negsuc n) = true

abbrev pub is_zero : ℤ → Bool
is_zero (pos n) = n == 0
is_zero (negsuc n) = false

-- A value that a number gives, judged by what the property takes. Whether it is negative is
-- asked of the number as it is written, and whether it is zero of what it comes to.
abbrev pub judged : Prop → Takes → ℤ → ℤ → Value → Result Value Refusal
judged p Nothing written n v = Err Ignored
judged p All written n v = Ok v
judged p NotNegative written n v = if is_negative written then Err Ignored else Ok v
judged p ZeroAlone written n v = if is_zero n then Ok v else Err (Unsupported p)

-- A number without a unit is a length where it is zero and the property takes no numbers (CSS 2.1, 4.3.2).
abbrev pub number_value : Prop → Takes → ℤ → Result Value Refusal
number_value p Nothing n = if is_zero n then judged p (row p).lengths n n (value.Px n) else Err Ignored
number_value p takes n = judged p takes n n (value.Number n)

-- `1ex` is half an `em`, and an odd count of millionths loses its last one (our own reading).
abbrev pub half : ℤ → ℤ
half n = int_div n (pos 2)

-- the value that a part gives a property
abbrev pub part_value : Prop → Part → Result Value Refusal
part_value p (part.Word word) = word_value p word
part_value p (part.Number n) = number_value p (row p).numbers n
part_value p (part.Percentage n) = judged p (row p).percentages n n (value.Pct n)
part_value p (part.Px n) = judged p (row p).lengths n n (value.Px n)
part_value p (part.Em n) = judged p (row p).lengths n n (value.Em n)
part_value p (part.Ex n) = judged p (row p).lengths n (half n) (value.Em (half n))
part_value p (part.Quoted text) = Err Ignored
part_value p part.Comma = Err Ignored
part_value p part.Solidus = Err Ignored
part_value p part.Colour = Err Ignored
part_value p (part.Function matched) = Err Ignored
part_value p part.Uri = Err Ignored
part_value p part.Other = Err Ignored

-- ---- names of font families (CSS 2.1, 15.3)

abbrev pub with_name : List ℕ → Option (List (List ℕ)) → Option (List (List ℕ))
with_name name names = option_map (λ ns. name ∷ ns) names

abbrev mutual
  -- Names with commas between them. A name is a string, or identifiers, which are joined by a space.
  pub families : List Part → Option (List (List ℕ))
  families (part.Quoted name ∷ ps) = with_name name (after_family ps)
  families (part.Word name ∷ ps) = family_from name ps
  families _ = None

  pub after_family : List Part → Option (List (List ℕ))
  after_family [] = Some []
  after_family (part.Comma ∷ ps) = families ps
  after_family _ = None

  pub family_from : List ℕ → List Part → Option (List (List ℕ))
  family_from name [] = Some (name ∷ [])
  family_from name (part.Comma ∷ ps) = with_name name (families ps)
  family_from name (part.Word more ∷ ps) = family_from (name ++ 32 ∷ more) ps
  family_from name _ = None

-- ---- the text of generated content (CSS 2.1, 12.2)

abbrev pub is_quoted : Part → Bool
is_quoted (part.Quoted text) = true
is_quoted _ = false

abbrev pub quoted : Part → List ℕ
quoted (part.Quoted text) = text
quoted _ = []

-- one or more strings
abbrev pub are_strings : List Part → Bool
are_strings [] = false
are_strings (a ∷ ps) = list_all is_quoted (a ∷ ps)

-- what stands for content that is no string: a function, a URI, or a keyword that is refused by name
abbrev pub is_other_content : Prop → Part → Bool
is_other_content p (part.Word word) = list_any (same_name word) (row p).refused
is_other_content p (part.Function matched) = true
is_other_content p part.Uri = true
is_other_content p _ = false

-- ---- whole values

-- whether a part is this word
abbrev pub is_keyword : List ℕ → Part → Bool
is_keyword word (part.Word w) = same_name w word
is_keyword word _ = false

abbrev pub is_inherit : List Part → Bool
is_inherit (p ∷ []) = is_keyword (codes "inherit") p
is_inherit _ = false

abbrev pub families_of : Option (List (List ℕ)) → Result Value Refusal
families_of None = Err Ignored
families_of (Some names) = Ok (value.Names names)

abbrev pub one_part : Prop → List Part → Result Value Refusal
one_part p (a ∷ []) = part_value p a
one_part p _ = Err Ignored

-- Strings are joined. What stands for other content refuses the value by name, whatever else is in it.
abbrev pub text_or_one : Prop → List Part → Result Value Refusal
text_or_one p ps = if are_strings ps then Ok (value.Chars (flat_map quoted ps))
    else (if list_any (is_other_content p) ps then Err (Unsupported p) else one_part p ps)

abbrev pub whole_value : Prop → List Part → Result Value Refusal
whole_value p ps = if is_inherit ps then Ok value.Inherit
    else (if (row p).families then families_of (families ps)
    else (if (row p).strings then text_or_one p ps else one_part p ps))

-- what the value of a property of the table gives
abbrev pub longhand : Prop → List Part → Result (List Setting) Refusal
longhand p ps = then_on (whole_value p ps) (λ v. Ok (setting p v ∷ []))

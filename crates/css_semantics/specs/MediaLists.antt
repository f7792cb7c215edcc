-- Media lists: what stands between the keyword of an `@media` and its block (CSS 2.1, 7.2.1; Media Queries 3, chapters
-- 2 to 4). Its grammar is
--
--     list    := nothing | entry [ "," entry ]*
--     entry   := [ "only" | "not" ]? medium [ "and" feature ]* | feature [ "and" feature ]*
--     feature := "(" [ "min-width" | "max-width" ] ":" width ")"
--
-- White space and comments may stand between any two tokens. Words are identifiers, after escapes and in any ASCII case.
-- A medium is any word but `only`, `not`, `and` and `or`. Of the features of Media Queries 3, chapter 4, these two alone
-- are in this profile, in px and em.
use Rattle.std.specs.Prelude.{◌≡◌, ℕ, ℤ, pos, ◌*ℤ◌, Bool, true, false, List, [], ◌∷◌, ◌++◌, Option, Some, None, if◌then◌else◌, codes}
use Rattle.std.specs.List.{list_all}
use Rattle.std.specs.Option.{option_map}
use Rattle.std.specs.Str.{chars}
use Rattle.viz_base.specs.Decimals.{decimal_of}
use Rattle.viz_base.specs.Numbers.{floor_of}
use Rattle.viz_base.specs.declared.tokens.TokenKind.{TokenKind}
use Rattle.viz_base.specs.declared.tokens.TokenKind.TheVariants as of_kind
use Rattle.viz_base.specs.declared.sheets.Bound.{Bound}
use Rattle.viz_base.specs.declared.sheets.Bound.TheVariants as of_bound
use Rattle.viz_base.specs.declared.sheets.Feature.{Feature}
use Rattle.viz_base.specs.declared.sheets.MediaEntry.{MediaEntry}
use Rattle.css_semantics.specs.Pieces.{Token}
use Rattle.css_semantics.specs.declared.media.MediaWord.{MediaWord}
use Rattle.css_semantics.specs.declared.media.MediaWord.TheVariants.{Only, Not, And, Or, Shown, MinWidth, MaxWidth, Other}
use Rattle.css_semantics.specs.declared.media.MediaPiece.{MediaPiece}
use Rattle.css_semantics.specs.declared.media.MediaPiece.TheVariants as a
use Rattle.css_semantics.specs.Names.{same_name}
use Rattle.css_semantics.specs.SheetsMarks.{is_gap, text_of, ends_entry}
use Rattle.css_semantics.specs.SheetsReading.{gathered, is_closed}
use Rattle.css_semantics.specs.SheetsStretches.{IsStretch, Listed}
use Rattle.css_semantics.specs.Values.{is_negative, is_zero}
use Rattle.css_semantics.specs.ValuesParts.{numeral_of, unit_of, signed, is_minus, is_sign, is_amount, after_sign}

-- ---- words

-- what an identifier says
abbrev pub word_of : List ℕ → MediaWord
word_of name =
    if same_name name (codes "only") then Only
    else (if same_name name (codes "not") then Not
    else (if same_name name (codes "and") then And
    else (if same_name name (codes "or") then Or
    else (if same_name name (codes "all") then Shown
    else (if same_name name (codes "screen") then Shown
    else (if same_name name (codes "min-width") then MinWidth
    else (if same_name name (codes "max-width") then MaxWidth
    else Other)))))))

-- whether a word can name a medium
abbrev pub is_medium : MediaWord → Bool
is_medium Only = false
is_medium Not = false
is_medium And = false
is_medium Or = false
is_medium _ = true

-- whether the page is shown on the medium that a word names
abbrev pub is_shown : MediaWord → Bool
is_shown Shown = true
is_shown _ = false

-- whether the feature that a word names asks for at most a width, if it names one
abbrev pub direction : MediaWord → Option Bool
direction MinWidth = Some false
direction MaxWidth = Some true
direction _ = None

-- ---- widths

-- A width of so many millionths of a unit, which may not be below zero (Media Queries 3, 4.1). In px it is the floor of its
-- value in 1/64 px.
abbrev pub width_in : ℤ → List ℕ → Option Bound
width_in n unit =
    if is_negative n then None
    else (if same_name unit (codes "px") then Some (of_bound.Px (floor_of (n *ℤ pos 64) 1000000))
    else (if same_name unit (codes "em") then Some (of_bound.Em n)
    else None))

-- Zero needs no unit (CSS 2.1, 4.3.2).
abbrev pub width_of : TokenKind → ℤ → List ℕ → Option Bound
width_of of_kind.Number n unit = if is_zero n then Some (of_bound.Px n) else None
width_of of_kind.Dimension n unit = width_in n unit
width_of _ n unit = None

abbrev pub width_piece : Option Bound → MediaPiece
width_piece None = a.Other
width_piece (Some bound) = a.Width bound

abbrev pub counted_piece : Token → Option ℤ → MediaPiece
counted_piece t None = a.Other
counted_piece t (Some n) = width_piece (width_of t.kind n (unit_of (chars t.text)))

-- what a number with its unit is, of more than `2^40` millionths nothing
abbrev pub amount_piece : Bool → Token → MediaPiece
amount_piece negative t = counted_piece t (option_map (signed negative) (decimal_of (numeral_of t.text)))

-- ---- pieces

-- a sign belongs to the number directly behind it
abbrev pub signed_piece : Token → List Token → MediaPiece
signed_piece t [] = a.Other
signed_piece t (u ∷ us) = if is_amount u.kind then amount_piece (is_minus t) u else a.Other

-- what begins with a token of this kind
abbrev pub piece_of : TokenKind → Token → List Token → MediaPiece
piece_of of_kind.Ident t ts = a.Word (word_of (text_of t))
piece_of of_kind.LeftParen t ts = a.Open
piece_of of_kind.RightParen t ts = a.Close
piece_of of_kind.Colon t ts = a.Colon
piece_of of_kind.Number t ts = amount_piece false t
piece_of of_kind.Dimension t ts = amount_piece false t
piece_of of_kind.Delim t ts = if is_sign t then signed_piece t ts else a.Other
piece_of _ t ts = a.Other

abbrev pub piece_item : Token → List Token → List MediaPiece
piece_item t ts = if is_gap t.kind then [] else piece_of t.kind t ts ∷ []

abbrev pub after_piece : Token → List Token → List Token
after_piece t ts = if is_sign t then after_sign ts else ts

-- The pieces of an entry. The end of the sheet closes the parenthesis that is open there (CSS 2.1, 4.2).
abbrev pub pieces : List Token → List MediaPiece
pieces ts = gathered piece_item after_piece 0 ts ++ (if is_closed ts then [] else a.Close ∷ [])

-- ---- entries

-- a feature (Media Queries 3, 4.1)
pub data IsFeature : List MediaPiece → Feature → Type 0 where
  feature : {name : MediaWord} {most : Bool} {bound : Bound}
      → direction name ≡ Some most
      → IsFeature (a.Open ∷ a.Word name ∷ a.Colon ∷ a.Width bound ∷ a.Close ∷ [])
      (record { most = most; bound = bound })

-- `and` with a feature, any number of times
pub data AreFurther : List MediaPiece → List Feature → Type 0 where
  no_further : AreFurther [] []
  and_feature : {piece rest : List MediaPiece} {f : Feature} {fs : List Feature}
      → IsFeature piece f
      → AreFurther rest fs
      → AreFurther (a.Word And ∷ (piece ++ rest)) (f ∷ fs)

-- An entry of the grammar. `only` says nothing to those who know it (Media Queries 3, 2).
pub data IsEntry : List MediaPiece → MediaEntry → Type 0 where
  of_medium : {name : MediaWord} {rest : List MediaPiece} {fs : List Feature}
      → is_medium name ≡ true
      → AreFurther rest fs
      → IsEntry (a.Word name ∷ rest) (record { negated = false; on = is_shown name; features = fs })
  only_medium : {name : MediaWord} {rest : List MediaPiece} {fs : List Feature}
      → is_medium name ≡ true
      → AreFurther rest fs
      → IsEntry (a.Word Only ∷ a.Word name ∷ rest) (record { negated = false; on = is_shown name; features = fs })
  not_medium : {name : MediaWord} {rest : List MediaPiece} {fs : List Feature}
      → is_medium name ≡ true
      → AreFurther rest fs
      → IsEntry (a.Word Not ∷ a.Word name ∷ rest) (record { negated = true; on = is_shown name; features = fs })
  of_feature : {piece rest : List MediaPiece} {f : Feature} {fs : List Feature}
      → IsFeature piece f
      → AreFurther rest fs
      → IsEntry (piece ++ rest) (record { negated = false; on = true; features = f ∷ fs })

-- What the tokens between two commas say, if they are in the grammar.
pub data IsReadAs (ts : List Token) : Option MediaEntry → Type 0 where
  in_grammar : {e : MediaEntry} → IsEntry (pieces ts) e → IsReadAs ts (Some e)
  outside : ((e : MediaEntry) → IsEntry (pieces ts) e → ⊥) → IsReadAs ts None

-- ---- lists

-- a comma, and the entry behind it
pub data EntryItem : List Token → List (Option MediaEntry) → List Token → Type 0 where
  behind_comma : {comma : Token} {ts piece rest : List Token} {entry : Option MediaEntry}
      → IsStretch ends_entry ts piece rest
      → IsReadAs piece entry
      → EntryItem (comma ∷ ts) (entry ∷ []) rest

-- A media list: nothing, or what stands between the commas outside all pairs, which may be nothing too.
pub data IsMediaList : List Token → List (Option MediaEntry) → Type 0 where
  empty_list : {ts : List Token} → list_all (λ t. is_gap t.kind) ts ≡ true → IsMediaList ts []
  parted_list : {ts piece rest : List Token} {entry : Option MediaEntry} {entries : List (Option MediaEntry)}
      → list_all (λ t. is_gap t.kind) ts ≡ false
      → IsStretch ends_entry ts piece rest
      → IsReadAs piece entry
      → Listed EntryItem rest entries
      → IsMediaList ts (entry ∷ entries)

-- an entry that is met nowhere, as one outside the grammar is
abbrev pub unmet : MediaEntry
unmet = record { negated = false; on = false; features = [] }

abbrev pub shown_entry : Option MediaEntry → MediaEntry
shown_entry None = unmet
shown_entry (Some e) = e

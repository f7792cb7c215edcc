-- What a media list says, computed step by step. No definition of its grammar cites these words: the laws are proved by
-- them, and the functions that read a media list give them.
use Rattle.std.specs.Prelude.{Bool, true, false, List, [], ◌∷◌, ◌++◌, Option, Some, None, if◌then◌else◌}
use Rattle.std.specs.List.{list_all}
use Rattle.std.specs.Option.{option_map}
use Rattle.viz_base.specs.declared.sheets.Bound.{Bound}
use Rattle.viz_base.specs.declared.sheets.Feature.{Feature}
use Rattle.viz_base.specs.declared.sheets.MediaEntry.{MediaEntry}
use Rattle.css_semantics.specs.Pieces.{Token}
use Rattle.css_semantics.specs.declared.media.MediaWord.{MediaWord}
use Rattle.css_semantics.specs.declared.media.MediaWord.TheVariants.{Only, Not, And}
use Rattle.css_semantics.specs.declared.media.MediaPiece.{MediaPiece}
use Rattle.css_semantics.specs.declared.media.MediaPiece.TheVariants as a
use Rattle.css_semantics.specs.SheetsMarks.{is_gap, ends_entry}
use Rattle.css_semantics.specs.SheetsReading.{gathered}
use Rattle.css_semantics.specs.MediaLists.{is_medium, is_shown, direction, pieces}
use Rattle.css_semantics.specs.steps.Stretches.{front, behind}

-- ---- features

abbrev pub featured : Option Bool → Bound → List MediaPiece → Option (Feature × List MediaPiece)
featured None bound rest = None
featured (Some most) bound rest = Some (record { most = most; bound = bound }, rest)

-- the feature that the pieces begin with, and what follows it
abbrev pub feature_at : List MediaPiece → Option (Feature × List MediaPiece)
feature_at (a.Open ∷ a.Word name ∷ a.Colon ∷ a.Width bound ∷ a.Close ∷ rest) = featured (direction name) bound rest
feature_at _ = None

-- the feature behind an `and` that the pieces begin with, and what follows it
abbrev pub and_feature : List MediaPiece → Option (Feature × List MediaPiece)
and_feature (a.Word And ∷ rest) = feature_at rest
and_feature _ = None

-- a feature before others
abbrev pub before : Option Bool → Bound → Option (List Feature) → Option (List Feature)
before (Some most) bound (Some fs) = Some (record { most = most; bound = bound } ∷ fs)
before _ bound _ = None

-- each feature behind an `and`, if nothing else is there
abbrev pub further : List MediaPiece → Option (List Feature)
further [] = Some []
further (a.Word And ∷ a.Open ∷ a.Word name ∷ a.Colon ∷ a.Width bound ∷ a.Close ∷ rest) =
    before (direction name) bound (further rest)
further _ = None

-- these features before others
abbrev pub with_front : List Feature → Option (List Feature) → Option (List Feature)
with_front fs more = option_map (λ gs. fs ++ gs) more

-- ---- entries

abbrev pub entry_with : Bool → Bool → Option (List Feature) → Option MediaEntry
entry_with negated on None = None
entry_with negated on (Some fs) = Some (record { negated = negated; on = on; features = fs })

abbrev pub medium_entry : Bool → MediaWord → List MediaPiece → Option MediaEntry
medium_entry negated name rest = if is_medium name then entry_with negated (is_shown name) (further rest) else None

abbrev pub behind_first : Option (Feature × List MediaPiece) → Option (List Feature)
behind_first None = None
behind_first (Some p) = with_front (p.0 ∷ []) (further p.1)

abbrev pub feature_entry : List MediaPiece → Option MediaEntry
feature_entry ps = entry_with false true (behind_first (feature_at ps))

-- the entry that these pieces are, if they are one
abbrev pub entry_of : List MediaPiece → Option MediaEntry
entry_of (a.Word Only ∷ a.Word name ∷ rest) = medium_entry false name rest
entry_of (a.Word Not ∷ a.Word name ∷ rest) = medium_entry true name rest
entry_of (a.Word name ∷ rest) = medium_entry false name rest
entry_of ps = feature_entry ps

abbrev pub read_entry : List Token → Option MediaEntry
read_entry ts = entry_of (pieces ts)

-- ---- lists

-- what a comma with an entry behind it gives, and what follows
abbrev pub comma_item : Token → List Token → List (Option MediaEntry)
comma_item t ts = read_entry (front ends_entry ts) ∷ []

abbrev pub after_comma : Token → List Token → List Token
after_comma t ts = behind ends_entry ts

abbrev pub later_entries : List Token → List (Option MediaEntry)
later_entries = gathered comma_item after_comma 0

abbrev pub entries : List Token → List (Option MediaEntry)
entries ts = if list_all (λ t. is_gap t.kind) ts then []
    else read_entry (front ends_entry ts) ∷ later_entries (behind ends_entry ts)

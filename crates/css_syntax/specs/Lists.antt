-- What the code keeps of a media list.
use Rattle.std.specs.Prelude.{Bool, true, false, ◌&&◌, List, [], ◌∷◌, ◌++◌, map, Option, Some, None}
use Rattle.std.specs.List.{list_all}
use Rattle.std.specs.Option.{is_some}
use Rattle.viz_base.specs.declared.sheets.MediaEntry.{MediaEntry}
use Rattle.css_semantics.specs.declared.media.MediaWord.{MediaWord}
use Rattle.css_semantics.specs.declared.media.MediaWord.TheVariants.{Only, Not}
use Rattle.css_semantics.specs.declared.media.MediaPiece.{MediaPiece}
use Rattle.css_semantics.specs.declared.media.MediaPiece.TheVariants as a
use Rattle.css_semantics.specs.MediaLists.{shown_entry}
use Rattle.css_syntax.specs.declared.media.MediaList.{MediaList}

-- ---- an entry

-- whether there is a `not`, the word that may name a medium, and what follows it
abbrev pub Named : Type 0
Named = Bool × MediaWord × List MediaPiece

abbrev pub named_behind : Bool → MediaWord → List MediaPiece → Named
named_behind negated word (a.Word name ∷ rest) = (negated, name, rest)
named_behind negated word ps = (false, word, ps)

abbrev pub named_by : MediaWord → List MediaPiece → Named
named_by Only rest = named_behind false Only rest
named_by Not rest = named_behind true Not rest
named_by word rest = (false, word, rest)

abbrev pub named : List MediaPiece → Option Named
named (a.Word word ∷ rest) = Some (named_by word rest)
named _ = None

-- ---- a list

-- the list with one more entry
abbrev pub with_entry : MediaList → Option MediaEntry → MediaList
with_entry list entry = record { entries = list.entries ++ shown_entry entry ∷ []; is_known = list.is_known && is_some entry }

-- the list with these at its end
abbrev pub joined : MediaList → List (Option MediaEntry) → MediaList
joined list [] = list
joined list (entry ∷ entries) = joined (with_entry list entry) entries

-- what is kept of a list of these entries
abbrev pub listed : List (Option MediaEntry) → MediaList
listed entries = record { entries = map shown_entry entries; is_known = list_all is_some entries }

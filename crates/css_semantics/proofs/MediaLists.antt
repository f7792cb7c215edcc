-- A media list has exactly one reading.
use Rattle.std.proofs.Common.{◌≡◌, Bool, true, false, cond, List, [], ◌∷◌, Option, Some, None, refl, sym, ◌∙◌, ap, subst}
use Rattle.std.specs.List.{list_all}
use Rattle.viz_base.specs.declared.sheets.Bound.{Bound}
use Rattle.viz_base.specs.declared.sheets.Feature.{Feature}
use Rattle.viz_base.specs.declared.sheets.MediaEntry.{MediaEntry}
use Rattle.viz_base.proofs.Truths.{by_bool, not_both}
use Rattle.css_semantics.specs.Pieces.{Token}
use Rattle.css_semantics.specs.declared.media.MediaWord.{MediaWord}
use Rattle.css_semantics.specs.declared.media.MediaWord.TheVariants.{Only, Not, And, Or, Shown, MinWidth, MaxWidth, Other}
use Rattle.css_semantics.specs.declared.media.MediaPiece.{MediaPiece}
use Rattle.css_semantics.specs.declared.media.MediaPiece.TheVariants as a
use Rattle.css_semantics.specs.SheetsMarks.{is_gap, ends_entry}
use Rattle.css_semantics.specs.SheetsStretches.{Listed}
use Rattle.css_semantics.specs.MediaLists.{is_medium, is_shown, direction, pieces, feature, AreFurther, no_further, and_feature, IsEntry, of_medium, only_medium, not_medium, of_feature, IsReadAs, in_grammar, outside, EntryItem, behind_comma, IsMediaList, empty_list, parted_list}
use Rattle.css_semantics.specs.steps.Stretches.{front, behind}
use Rattle.css_semantics.specs.steps.MediaLists.{featured, before, further, with_front, entry_with, medium_entry, behind_first, feature_entry, entry_of, read_entry, comma_item, after_comma, later_entries, entries}
use Rattle.css_semantics.proofs.Stretches.{is_stretch, stretch_front, stretch_behind}
use Rattle.css_semantics.proofs.Items.{Takes, TakesOnly, listed, listed_only}
use Rattle.css_semantics.proofs.Tails.{comma_tails}

-- ---- features

further_read : {ps : List MediaPiece} {fs : List Feature} → AreFurther ps fs → further ps ≡ Some fs
further_read no_further = refl
further_read (and_feature {rest = rest} (feature {most = most} {bound = bound} d) h) =
    ap (λ x. before x bound (further rest)) d ∙ ap (before (Some most) bound) (further_read h)

record IsBefore (d : Option Bool) (bound : Bound) (more : Option (List Feature)) (fs : List Feature) : Type 0 where
  most : Bool
  later : List Feature
  asks : d ≡ Some most
  rest : more ≡ Some later
  all : fs ≡ record { most = most; bound = bound } ∷ later

no_features : {P : Type 0} (fs : List Feature) → ◌≡◌ {A = Option (List Feature)} None (Some fs) → P
no_features fs h = absurd (cc)

same_features : (fs gs : List Feature) → Some fs ≡ Some gs → fs ≡ gs
same_features fs gs h = cc

before_is : (d : Option Bool) (bound : Bound) (more : Option (List Feature)) (fs : List Feature) → before d bound more ≡ Some fs → IsBefore d bound more fs
before_is None bound more fs h = no_features fs h
before_is (Some most) bound None fs h = no_features fs h
before_is (Some most) bound (Some later) fs h = record { most = most; later = later; asks = refl; rest = refl; all = sym (same_features _ fs h) }

read_further : (ps : List MediaPiece) (fs : List Feature) → further ps ≡ Some fs → AreFurther ps fs
read_further [] fs h = subst (AreFurther []) (same_features [] fs h) no_further
read_further (a.Word And ∷ a.Open ∷ a.Word name ∷ a.Colon ∷ a.Width bound ∷ a.Close ∷ rest) fs h =
    let k = before_is (direction name) bound (further rest) fs h in
    subst (AreFurther (a.Word And ∷ a.Open ∷ a.Word name ∷ a.Colon ∷ a.Width bound ∷ a.Close ∷ rest)) (sym k.all) (and_feature (feature k.asks) (read_further rest k.later k.rest))
read_further _ fs h = no_features fs h

-- ---- entries

no_entry : {P : Type 0} (e : MediaEntry) → ◌≡◌ {A = Option MediaEntry} None (Some e) → P
no_entry e h = absurd (cc)

same_entry : (e f : MediaEntry) → Some e ≡ Some f → e ≡ f
same_entry e f h = cc

medium_read : (negated : Bool) (name : MediaWord) (rest : List MediaPiece) (fs : List Feature) → is_medium name ≡ true → AreFurther rest fs → medium_entry negated name rest ≡ Some (record { negated = negated; on = is_shown name; features = fs })
medium_read negated name rest fs m h =
    ap (λ b. cond b (entry_with negated (is_shown name) (further rest)) None) m ∙ ap (entry_with negated (is_shown name)) (further_read h)

-- a word that names a medium begins an entry as one
word_entry : (name : MediaWord) (rest : List MediaPiece) → is_medium name ≡ true → entry_of (a.Word name ∷ rest) ≡ medium_entry false name rest
word_entry Only rest h = absurd (not_both (is_medium Only) h refl)
word_entry Not rest h = absurd (not_both (is_medium Not) h refl)
word_entry And rest h = refl
word_entry Or rest h = refl
word_entry Shown rest h = refl
word_entry MinWidth rest h = refl
word_entry MaxWidth rest h = refl
word_entry Other rest h = refl

pub entry_read : {ps : List MediaPiece} {e : MediaEntry} → IsEntry ps e → entry_of ps ≡ Some e
entry_read (of_medium {name = name} {rest = rest} {fs = fs} m h) = word_entry name rest m ∙ medium_read false name rest fs m h
entry_read (only_medium {name = name} {rest = rest} {fs = fs} m h) = medium_read false name rest fs m h
entry_read (not_medium {name = name} {rest = rest} {fs = fs} m h) = medium_read true name rest fs m h
entry_read (of_feature {rest = rest} (feature {most = most} {bound = bound} d) h) =
    ap (λ x. entry_with false true (behind_first (featured x bound rest))) d
    ∙ ap (λ x. entry_with false true (with_front (record { most = most; bound = bound } ∷ []) x)) (further_read h)

record IsMadeOf (negated on : Bool) (features : Option (List Feature)) (e : MediaEntry) : Type 0 where
  list : List Feature
  is : features ≡ Some list
  all : e ≡ record { negated = negated; on = on; features = list }

made_of : (negated on : Bool) (features : Option (List Feature)) (e : MediaEntry) → entry_with negated on features ≡ Some e → IsMadeOf negated on features e
made_of negated on None e h = no_entry e h
made_of negated on (Some fs) e h = record { list = fs; is = refl; all = sym (same_entry _ e h) }

record IsOfMedium (negated : Bool) (name : MediaWord) (rest : List MediaPiece) (e : MediaEntry) : Type 0 where
  list : List Feature
  medium : is_medium name ≡ true
  later : AreFurther rest list
  all : e ≡ record { negated = negated; on = is_shown name; features = list }

medium_is : (negated : Bool) (name : MediaWord) (rest : List MediaPiece) (e : MediaEntry) → medium_entry negated name rest ≡ Some e → IsOfMedium negated name rest e
medium_is negated name rest e h =
    by_bool (is_medium name)
    (λ m.
    let k = made_of negated (is_shown name) (further rest) e (sym (ap (λ b. cond b (entry_with negated (is_shown name) (further rest)) None) m) ∙ h) in
    record { list = k.list; medium = m; later = read_further rest k.list k.is; all = k.all })
    (λ m. no_entry e (sym (ap (λ b. cond b (entry_with negated (is_shown name) (further rest)) None) m) ∙ h))

front_before : (most : Bool) (bound : Bound) (more : Option (List Feature)) → with_front (record { most = most; bound = bound } ∷ []) more ≡ before (Some most) bound more
front_before most bound None = refl
front_before most bound (Some fs) = refl

behind_is : (d : Option Bool) (bound : Bound) (rest : List MediaPiece) (fs : List Feature) → behind_first (featured d bound rest) ≡ Some fs → IsBefore d bound (further rest) fs
behind_is None bound rest fs h = no_features fs h
behind_is (Some most) bound rest fs h = before_is (Some most) bound (further rest) fs (sym (front_before most bound (further rest)) ∙ h)

first_is : (ps : List MediaPiece) (e : MediaEntry) → feature_entry ps ≡ Some e → IsEntry ps e
first_is (a.Open ∷ a.Word name ∷ a.Colon ∷ a.Width bound ∷ a.Close ∷ rest) e h =
    let made = made_of false true (behind_first (featured (direction name) bound rest)) e h in
    let k = behind_is (direction name) bound rest made.list made.is in
    subst (IsEntry (a.Open ∷ a.Word name ∷ a.Colon ∷ a.Width bound ∷ a.Close ∷ rest)) (sym (made.all ∙ ap (λ x. record { negated = false; on = true; features = x }) k.all)) (of_feature (feature k.asks) (read_further rest k.later k.rest))
first_is _ e h = no_entry e h

of_plain : (name : MediaWord) (rest : List MediaPiece) (e : MediaEntry) → medium_entry false name rest ≡ Some e → IsEntry (a.Word name ∷ rest) e
of_plain name rest e h =
    let k = medium_is false name rest e h in
    subst (IsEntry (a.Word name ∷ rest)) (sym k.all) (of_medium k.medium k.later)

of_only : (name : MediaWord) (rest : List MediaPiece) (e : MediaEntry) → medium_entry false name rest ≡ Some e → IsEntry (a.Word Only ∷ a.Word name ∷ rest) e
of_only name rest e h =
    let k = medium_is false name rest e h in
    subst (IsEntry (a.Word Only ∷ a.Word name ∷ rest)) (sym k.all) (only_medium k.medium k.later)

of_not : (name : MediaWord) (rest : List MediaPiece) (e : MediaEntry) → medium_entry true name rest ≡ Some e → IsEntry (a.Word Not ∷ a.Word name ∷ rest) e
of_not name rest e h =
    let k = medium_is true name rest e h in
    subst (IsEntry (a.Word Not ∷ a.Word name ∷ rest)) (sym k.all) (not_medium k.medium k.later)

pub read_is_entry : (ps : List MediaPiece) (e : MediaEntry) → entry_of ps ≡ Some e → IsEntry ps e
read_is_entry (a.Word Only ∷ a.Word name ∷ rest) e h = of_only name rest e h
read_is_entry (a.Word Not ∷ a.Word name ∷ rest) e h = of_not name rest e h
read_is_entry (a.Word name ∷ rest) e h = of_plain name rest e h
read_is_entry ps e h = first_is ps e h

read_as : (ts : List Token) (o : Option MediaEntry) → read_entry ts ≡ o → IsReadAs ts o
read_as ts None h = outside (λ e k. no_entry e (sym h ∙ entry_read k))
read_as ts (Some e) h = in_grammar (read_is_entry (pieces ts) e h)

is_read : (ts : List Token) → IsReadAs ts (read_entry ts)
is_read ts = read_as ts (read_entry ts) refl

none_of : (o : Option MediaEntry) → ((e : MediaEntry) → o ≡ Some e → ⊥) → None ≡ o
none_of None h = refl
none_of (Some e) h = absurd (h e refl)

read_is : {ts : List Token} {o : Option MediaEntry} → IsReadAs ts o → o ≡ read_entry ts
read_is (in_grammar h) = sym (entry_read h)
read_is {ts} (outside k) = none_of (read_entry ts) (λ e h. k e (read_is_entry (pieces ts) e h))

-- ---- lists

comma_takes : Takes EntryItem comma_item after_comma
comma_takes t ts = behind_comma (is_stretch ends_entry ts) (is_read (front ends_entry ts))

comma_only : TakesOnly EntryItem comma_item after_comma
comma_only t ts xs rest (behind_comma {piece = piece} h r) =
    (ap (λ x. x ∷ []) (read_is r ∙ ap read_entry (stretch_front ends_entry ts piece rest h)), stretch_behind ends_entry ts piece rest h)

are_later : (ts : List Token) → Listed EntryItem ts (later_entries ts)
are_later ts = listed EntryItem comma_item after_comma comma_tails comma_takes ts

later_are : {ts : List Token} {es : List (Option MediaEntry)} → Listed EntryItem ts es → es ≡ later_entries ts
later_are h = listed_only EntryItem comma_item after_comma comma_tails comma_only h

abbrev entries_by : Bool → List Token → List (Option MediaEntry)
entries_by blank ts = cond blank [] (read_entry (front ends_entry ts) ∷ later_entries (behind ends_entry ts))

entries_is : (ts : List Token) (b : Bool) → list_all (λ t. is_gap t.kind) ts ≡ b → entries ts ≡ entries_by b ts
entries_is ts b e = ap (λ x. entries_by x ts) e

pub is_media_list : (ts : List Token) → IsMediaList ts (entries ts)
is_media_list ts =
    by_bool (list_all (λ t. is_gap t.kind) ts)
    (λ e. subst (IsMediaList ts) (sym (entries_is ts true e)) (empty_list e))
    (λ e. subst (IsMediaList ts) (sym (entries_is ts false e)) (parted_list e (is_stretch ends_entry ts) (is_read (front ends_entry ts)) (are_later (behind ends_entry ts))))

pub media_list_is : {ts : List Token} {es : List (Option MediaEntry)} → IsMediaList ts es → es ≡ entries ts
media_list_is (empty_list {ts = ts} e) = sym (entries_is ts true e)
media_list_is (parted_list {ts = ts} {piece = piece} {rest = rest} {entry = entry} {entries = es} e h r l) =
    ap (λ x. x ∷ es) (read_is r ∙ ap read_entry (stretch_front ends_entry ts piece rest h))
    ∙ ap (λ x. read_entry (front ends_entry ts) ∷ x) (later_are l ∙ ap later_entries (stretch_behind ends_entry ts piece rest h))
    ∙ sym (entries_is ts false e)

-- How a media list is read.
use Rattle.std.proofs.Common.{◌≡◌, ℕ, Bool, true, false, cond, not, ◌&&◌, ◌||◌, List, [], ◌∷◌, ◌++◌, map, Option, Some, None, refl, sym, ◌∙◌, ap, append_assoc}
use Rattle.std.specs.List.{list_all, list_any}
use Rattle.std.specs.Option.{is_none, is_some, option_map_or}
use Rattle.std.proofs.Math.Bool.{and_assoc, and-true}
use Rattle.viz_base.specs.declared.sheets.Bound.{Bound}
use Rattle.viz_base.specs.declared.sheets.Feature.{Feature}
use Rattle.viz_base.specs.declared.sheets.MediaEntry.{MediaEntry}
use Rattle.css_semantics.specs.Pieces.{Token}
use Rattle.css_semantics.specs.declared.media.MediaWord.{MediaWord}
use Rattle.css_semantics.specs.declared.media.MediaWord.TheVariants.{Only, Not, And, Or, Shown, MinWidth, MaxWidth, Other}
use Rattle.css_semantics.specs.declared.media.MediaPiece.{MediaPiece}
use Rattle.css_semantics.specs.declared.media.MediaPiece.TheVariants as a
use Rattle.css_semantics.specs.MediaLists.{is_medium, is_shown, direction, shown_entry}
use Rattle.css_semantics.specs.SheetsGrammar.{is_beyond}
use Rattle.css_semantics.specs.declared.statements.Statement.{Statement}
use Rattle.css_semantics.specs.declared.statements.Statement.TheVariants.{MediaQuery, Media}
use Rattle.css_semantics.specs.steps.Sheets.{media_of, rules_in}
use Rattle.viz_base.specs.declared.sheets.Rule.{Rule}
use Rattle.css_semantics.specs.SheetsMarks.{has_paren, is_gap, ends_entry}
use Rattle.css_semantics.specs.steps.MediaLists.{featured, and_feature, before, further, with_front, entry_with, medium_entry, feature_entry, entry_of, read_entry, later_entries, entries}
use Rattle.css_semantics.specs.steps.Stretches.{front, behind}
use Rattle.css_syntax.specs.Lists.{Named, named, named_by, with_entry, joined, listed}
use Rattle.css_syntax.specs.declared.media.MediaList.{MediaList}

-- ---- features

pub front_none : (m : Option (List Feature)) → with_front [] m ≡ m
front_none None = refl
front_none (Some fs) = refl

front_more : (fs : List Feature) (f : Feature) (m : Option (List Feature)) → with_front (fs ++ f ∷ []) m ≡ with_front fs (with_front (f ∷ []) m)
front_more fs f None = refl
front_more fs f (Some gs) = ap Some (append_assoc fs (f ∷ []) gs)

first_before : (most : Bool) (bound : Bound) (m : Option (List Feature)) → before (Some most) bound m ≡ with_front (record { most = most; bound = bound } ∷ []) m
first_before most bound None = refl
first_before most bound (Some fs) = refl

no_feature : {P : Type 0} (f : Feature) (rest : List MediaPiece) → ◌≡◌ {A = Option (Feature × List MediaPiece)} None (Some (f, rest)) → P
no_feature f rest h = absurd (cc)

same_pair : {p q : Feature × List MediaPiece} → ◌≡◌ {A = Option (Feature × List MediaPiece)} (Some p) (Some q) → p ≡ q
same_pair h = cc

by_direction : (d : Option Bool) (bound : Bound) (tail : List MediaPiece) (f : Feature) (rest : List MediaPiece) → featured d bound tail ≡ Some (f, rest) → before d bound (further tail) ≡ with_front (f ∷ []) (further rest)
by_direction None bound tail f rest h = no_feature f rest h
by_direction (Some most) bound tail f rest h =
    first_before most bound (further tail)
    ∙ ap (λ (g : Feature). with_front (g ∷ []) (further tail)) (ap (λ p. p.0) (same_pair h))
    ∙ ap (λ ps. with_front (f ∷ []) (further ps)) (ap (λ p. p.1) (same_pair h))

further_is : (ps : List MediaPiece) (f : Feature) (rest : List MediaPiece) → and_feature ps ≡ Some (f, rest) → further ps ≡ with_front (f ∷ []) (further rest)
further_is (a.Word And ∷ a.Open ∷ a.Word name ∷ a.Colon ∷ a.Width bound ∷ a.Close ∷ tail) f rest h = by_direction (direction name) bound tail f rest h
further_is _ f rest h = no_feature f rest h

-- one turn of the loop over features
pub further_turn : (ps rest : List MediaPiece) (f : Feature) (fs more : List Feature) → and_feature ps ≡ Some (f, rest) → more ≡ fs ++ f ∷ [] → with_front more (further rest) ≡ with_front fs (further ps)
further_turn ps rest f fs more h e =
    ap (λ x. with_front x (further rest)) e ∙ front_more fs f (further rest) ∙ ap (with_front fs) (sym (further_is ps f rest h))

-- ---- entries

pub medium_made : (negated : Bool) (name : MediaWord) (rest : List MediaPiece) (shown : Bool) (features : Option (List Feature)) → is_medium name ≡ true → shown ≡ is_shown name → features ≡ with_front [] (further rest) → entry_with negated shown features ≡ medium_entry negated name rest
medium_made negated name rest shown features m s e =
    ap (λ b. entry_with negated b features) s ∙ ap (entry_with negated (is_shown name)) (e ∙ front_none (further rest))
    ∙ sym (ap (λ b. cond b (entry_with negated (is_shown name) (further rest)) None) m)

abbrev entry_by : Named → Option MediaEntry
entry_by p = medium_entry p.0 p.1 p.2

by_word : (word : MediaWord) (rest : List MediaPiece) → entry_of (a.Word word ∷ rest) ≡ entry_by (named_by word rest)
by_word Only [] = refl
by_word Only (a.Word name ∷ rest) = refl
by_word Only (a.Open ∷ rest) = refl
by_word Only (a.Close ∷ rest) = refl
by_word Only (a.Colon ∷ rest) = refl
by_word Only (a.Width bound ∷ rest) = refl
by_word Only (a.Other ∷ rest) = refl
by_word Not [] = refl
by_word Not (a.Word name ∷ rest) = refl
by_word Not (a.Open ∷ rest) = refl
by_word Not (a.Close ∷ rest) = refl
by_word Not (a.Colon ∷ rest) = refl
by_word Not (a.Width bound ∷ rest) = refl
by_word Not (a.Other ∷ rest) = refl
by_word And rest = refl
by_word Or rest = refl
by_word Shown rest = refl
by_word MinWidth rest = refl
by_word MaxWidth rest = refl
by_word Other rest = refl

entry_is : (ps : List MediaPiece) → entry_of ps ≡ option_map_or entry_by (named ps) (feature_entry ps)
entry_is (a.Word word ∷ rest) = by_word word rest
entry_is [] = refl
entry_is (a.Open ∷ rest) = refl
entry_is (a.Close ∷ rest) = refl
entry_is (a.Colon ∷ rest) = refl
entry_is (a.Width bound ∷ rest) = refl
entry_is (a.Other ∷ rest) = refl

pub entry_named : (ps : List MediaPiece) (p : Named) → named ps ≡ Some p → medium_entry p.0 p.1 p.2 ≡ entry_of ps
entry_named ps p h = sym (entry_is ps ∙ ap (λ o. option_map_or entry_by o (feature_entry ps)) h)

-- ---- lists

no_more : (xs : List MediaEntry) → xs ≡ xs ++ []
no_more [] = refl
no_more (x ∷ xs) = ap (λ ys. x ∷ ys) (no_more xs)

joined_is : (list : MediaList) (es : List (Option MediaEntry)) → joined list es ≡ record { entries = list.entries ++ map shown_entry es; is_known = list.is_known && list_all is_some es }
joined_is list [] = ap (λ (xs : List MediaEntry). record { entries = xs; is_known = list.is_known }) (no_more list.entries) ∙ ap (λ b. record { entries = list.entries ++ []; is_known = b }) (sym (and-true list.is_known))
joined_is list (e ∷ es) =
    joined_is (with_entry list e) es
    ∙ ap (λ (xs : List MediaEntry). record { entries = xs; is_known = (list.is_known && is_some e) && list_all is_some es }) (append_assoc list.entries (shown_entry e ∷ []) (map shown_entry es))
    ∙ ap (λ b. record { entries = list.entries ++ (shown_entry e ∷ map shown_entry es); is_known = b }) (and_assoc list.is_known (is_some e) (list_all is_some es))

-- a list of entries, the first one before the others
pub listed_is : (ts : List Token) (start first : MediaList) → list_all (λ t. is_gap t.kind) ts ≡ false → start ≡ record { entries = []; is_known = true } → first ≡ with_entry start (read_entry (front ends_entry ts)) → joined first (later_entries (behind ends_entry ts)) ≡ listed (entries ts)
listed_is ts start first blank s e =
    let entry = read_entry (front ends_entry ts) in
    let later = later_entries (behind ends_entry ts) in
    ap (λ x. joined x later) (e ∙ ap (λ x. with_entry x entry) s) ∙ joined_is (with_entry (record { entries = []; is_known = true }) entry) later
    ∙ ap listed (sym (ap (λ b. cond b [] (entry ∷ later)) blank))

-- ---- preludes

none_or : (o : Option MediaEntry) (b c : Bool) → b ≡ not c → (is_none o || b) ≡ not (is_some o && c)
none_or None b c e = refl
none_or (Some x) b c e = e

none_any : (es : List (Option MediaEntry)) → list_any is_none es ≡ not (list_all is_some es)
none_any [] = refl
none_any (o ∷ es) = none_or o _ _ (none_any es)

beyond_is : (b : Bool) (prelude : List Token) (list : MediaList) → list ≡ listed (entries prelude) → b ≡ (list_any (λ t. has_paren t.kind) prelude && not list.is_known) → is_beyond prelude (entries prelude) ≡ b
beyond_is b prelude list l e =
    ap (λ x. list_any (λ t. has_paren t.kind) prelude && x) (none_any (entries prelude) ∙ ap (λ (x : MediaList). not x.is_known) (sym l)) ∙ sym e

abbrev media_by : Bool → ℕ → List Token → List Token → Statement
media_by b place prelude block = cond b (MediaQuery place) (Media (rules_in (Some (map shown_entry (entries prelude))) block))

pub query_is : (place n : ℕ) (prelude block : List Token) (list : MediaList) (b : Bool) → list ≡ listed (entries prelude) → b ≡ (list_any (λ t. has_paren t.kind) prelude && not list.is_known) → b ≡ true → n ≡ place → MediaQuery n ≡ media_of place prelude block
query_is place n prelude block list b l e holds is =
    ap MediaQuery is ∙ sym (ap (λ x. media_by x place prelude block) (beyond_is b prelude list l e ∙ holds))

pub media_is : (place : ℕ) (prelude block : List Token) (list : MediaList) (rules : List Rule) (b : Bool) → list ≡ listed (entries prelude) → b ≡ (list_any (λ t. has_paren t.kind) prelude && not list.is_known) → b ≡ false → rules ≡ rules_in (Some list.entries) block → Media rules ≡ media_of place prelude block
media_is place prelude block list rules b l e fails is =
    ap Media (is ∙ ap (λ (x : MediaList). rules_in (Some x.entries) block) l) ∙ sym (ap (λ x. media_by x place prelude block) (beyond_is b prelude list l e ∙ fails))

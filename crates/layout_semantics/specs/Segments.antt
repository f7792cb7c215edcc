-- Where lines may break (CSS 2.1, 9.4.2, 16.6): our own reading of what the standard leaves open.
use Rattle.std.specs.Prelude.{ℕ, ◌==◌, Bool, true, false, not, ◌&&◌, ◌||◌, nat_le, cond, if◌then◌else◌, List, [], ◌∷◌, ◌++◌, length, drop, reverse, Option, Some, None, find}
use Rattle.std.specs.List.{list_all, list_any, onto_first, before_first, last_or}
use Rattle.std.specs.Option.{option_map_or}
use Rattle.viz_base.specs.declared.styles.Style.{Style}
use Rattle.viz_base.specs.declared.trees.BoxTree.{BoxTree}
use Rattle.layout_semantics.specs.Blocks.{parent_of, style_of}
use Rattle.layout_semantics.specs.InlineContent.{Item, start, finish, word, space, atomic, forced}

-- ---- things and opportunities

-- words, spaces, atomic boxes and forced breaks
abbrev pub is_thing : Item → Bool
is_thing (word at text) = true
is_thing (space at) = true
is_thing (atomic at) = true
is_thing (forced at) = true
is_thing _ = false

-- `white-space` of a box's node lets lines break (CSS 2.1, 16.6)
unfoldable pub wraps : BoxTree → ℕ → Bool
wraps tree at = option_map_or (λ (s : Style). s.wraps) (style_of tree at) false

-- a line may break at a space of text that wraps
abbrev pub is_wrapping_space : BoxTree → Item → Bool
is_wrapping_space tree (space at) = wraps tree at
is_wrapping_space tree _ = false

-- and before and after an atomic box in a box that wraps
abbrev pub is_wrapping_atomic : BoxTree → Item → Bool
is_wrapping_atomic tree (atomic at) = option_map_or (wraps tree) (parent_of tree.boxes at) false
is_wrapping_atomic tree _ = false

abbrev pub is_forced : Item → Bool
is_forced (forced at) = true
is_forced _ = false

abbrev pub is_space : Item → Bool
is_space (space at) = true
is_space _ = false

-- directly behind an atomic box that lets lines break there, or behind a space that follows one
abbrev pub is_behind_atomic : BoxTree → Option Item → Item → Bool
is_behind_atomic tree before (space at) = option_map_or (is_wrapping_atomic tree) before false
is_behind_atomic tree before first = is_wrapping_atomic tree first

-- a test of whether two things that follow one another may be parted, given the thing before them too, if there is one
abbrev pub Parting : Type 0
Parting = (before : Option Item) → (first next : Item) → Bool

-- a line may break behind a space at which it may, behind an atomic box where it may, and before one; but not before
-- a space, which goes with what is before it, nor before a forced break, which ends the line of what is before it
abbrev pub may_part : BoxTree → Parting
may_part tree before first next =
    not (is_space next) && not (is_forced next)
    && (is_wrapping_space tree first || is_behind_atomic tree before first || is_wrapping_atomic tree next)

-- where only forced breaks part
abbrev pub never : Parting
never before first next = false

-- ---- where the break stands

abbrev pub is_end : Item → Bool
is_end (finish at) = true
is_end _ = false

-- starts and ends of inline boxes and floats, up to the next thing
abbrev pub until_thing : List Item → List Item
until_thing items = before_first is_thing items

abbrev pub ends : ℕ → Item → Bool
ends at (finish other) = at == other
ends at _ = false

-- the start of an inline box that doesn't end among these: it holds the thing that follows them
abbrev pub stays_open : Item → List Item → Bool
stays_open (start at) run = not (list_any (ends at) run)
stays_open _ run = false

-- the run up to the first start of an inline box that holds the thing that follows
abbrev pub closed_run : List Item → List Item
closed_run [] = []
closed_run (i ∷ run) = cond (stays_open i run) [] (i ∷ closed_run run)

-- after a thing that isn't a forced break, the break stands after the last end in that run, and directly after the
-- thing where there is none: `since` stands between the thing and the break, and `run` between the two things
abbrev pub is_after_last_end : List Item → List Item → Bool
is_after_last_end since run =
    nat_le (length since) (length run)
    && option_map_or is_end (last_or None since) true
    && not (list_any is_end (drop (length since) run))

-- after a forced break it stands after the ends that come directly after it
abbrev pub is_after_its_ends : List Item → List Item → Bool
is_after_its_ends since [] = false
is_after_its_ends since (i ∷ after) = list_all is_end since && not (is_end i)

-- the thing before the nearest one
abbrev pub thing_before : List Item → Option Item
thing_before [] = None
thing_before (i ∷ back) = cond (is_thing i) (find is_thing back) (thing_before back)

-- whether a break stands between what is before, nearest first, and what is after:
-- after each forced break, and between two other things that may be parted
abbrev pub is_break : Parting → List Item → List Item → Bool
is_break may_be_parted back after = by_things (find is_thing back) (find is_thing after) (reverse (until_thing back))
  where
    by_things : Option Item → Option Item → List Item → Bool
    by_things None next since = false
    by_things (Some (forced at)) next since = is_after_its_ends since after
    by_things (Some first) None since = false
    by_things (Some first) (Some next) since = may_be_parted (thing_before back) first next
        && is_after_last_end since (closed_run (since ++ until_thing after))

-- ---- the content in parts

-- a list cut where the test holds of what is before, nearest first, and what is after
abbrev pub cut_where : (List Item → List Item → Bool) → List Item → List Item → List (List Item)
cut_where test back [] = []
cut_where test back (i ∷ items) =
    let parts = cut_where test (i ∷ back) items in
    if test (i ∷ back) items then (i ∷ []) ∷ parts else onto_first i parts

-- the segments that no line may break
abbrev pub segments : BoxTree → List Item → List (List Item)
segments tree items = cut_where (is_break (may_part tree)) [] items

-- the pieces between forced breaks
abbrev pub pieces : List Item → List (List Item)
pieces items = cut_where (is_break never) [] items

-- ---- spaces at the ends of a line

-- a line without the spaces that no word and no atomic box stands before (CSS 2.1, 16.6.1), whatever edges lie between
abbrev pub without_leading : List Item → List Item
without_leading [] = []
without_leading (i ∷ items) = led i (without_leading items)
  where
    led : Item → List Item → List Item
    led (word at text) rest = word at text ∷ items
    led (atomic at) rest = atomic at ∷ items
    led (space at) rest = rest
    led other rest = other ∷ rest

-- nor after
abbrev pub what_stays : List Item → List Item
what_stays items = reverse (without_leading (reverse (without_leading items)))

-- Where content is parted, as a mark at each item: whether a part ends behind it.
use Rattle.std.specs.Prelude.{ℕ, suc, Bool, false, cond, List, [], ◌∷◌, ◌++◌, Option, Some, None, find}
use Rattle.layout_semantics.specs.InlineContent.{Item, start, finish, forced}
use Rattle.layout_semantics.specs.Segments.{is_thing, Parting}
use Rattle.lay_line.specs.steps.Cutting.{Starts, first_or, without, leading_ends, one_less, is_here, last_after, parted}

-- what is known of the items of a run that are behind: the starts that have
-- not ended, and the place behind the last end
pub record Run : Type 0 where
  pub starts : Starts
  pub last : ℕ

abbrev pub no_run : Run
no_run = record { starts = []; last = 0 }

-- with one item more, which is the nth
abbrev pub run_after : ℕ → Run → Item → Run
run_after n r (start at) = record { starts = r.starts ++ (at, r.last) ∷ []; last = r.last }
run_after n r (finish at) = record { starts = without at r.starts; last = n }
run_after n r i = r

-- item by item up to the next thing, n items being behind
abbrev pub break_until : ℕ → Run → List Item → ℕ
break_until n r [] = first_or r.starts r.last
break_until n r (i ∷ items) =
    cond (is_thing i) (first_or r.starts r.last) (break_until (suc n) (run_after (suc n) r i) items)

-- behind how many items after a thing the content is parted
abbrev pub behind_in : Parting → Option Item → Item → Option Item → List Item → Option ℕ
behind_in part before thing None after = None
behind_in part before thing (Some next) after = cond (part before thing next) (Some (break_until 0 no_run after)) None

abbrev pub place_in : Parting → Option Item → Item → List Item → Option ℕ
place_in part before (forced at) after = Some (leading_ends after)
place_in part before thing after = behind_in part before thing (find is_thing after) after

abbrev pub left_in : Parting → Option Item → Option ℕ → Item → List Item → Option ℕ
left_in part last left i after = cond (is_thing i) (place_in part last i after) (one_less left)

abbrev pub marks : Parting → Option Item → Option ℕ → List Item → List Bool
marks part last left [] = []
marks part last left (i ∷ items) = is_here (left_in part last left i items)
    ∷ marks part (last_after last i) (left_in part last left i items) items

-- items in the parts that such marks make
abbrev pub marked_parts : List Item → List Bool → List (List Item)
marked_parts [] ms = []
marked_parts (i ∷ items) [] = parted i false (marked_parts items [])
marked_parts (i ∷ items) (m ∷ ms) = parted i m (marked_parts items ms)

-- Marks make the parts that the content is cut into.
use Rattle.std.proofs.Common.{◌≡◌, ℕ, suc, ◌+◌, false, not, cond, List, [], ◌∷◌, take, Option, Some, None, find, refl, sym, ◌∙◌, ap, arith}
use Rattle.std.specs.List.{prefix_len}
use Rattle.layout_semantics.specs.InlineContent.{Item, start, finish, word, space, atomic, forced, float}
use Rattle.layout_semantics.specs.Segments.{is_thing, until_thing, Parting}
use Rattle.lay_line.specs.steps.Cutting.{break_from, one_less, is_here, last_after, parted, behind, place, left_after, cut}
use Rattle.lay_line.specs.steps.Marks.{Run, no_run, run_after, break_until, behind_in, place_in, left_in, marks, marked_parts}

until-more : (i : Item) (items : List Item) → is_thing i ≡ false → until_thing (i ∷ items) ≡ i ∷ until_thing items
until-more i items p = rw p (ap (λ k. take k (i ∷ items)) (one_more (prefix_len (λ x. not (is_thing x)) items)))
  where
    one_more : (n : ℕ) → 1 + n ≡ suc n
    one_more n = omega arith

until-same : (n : ℕ) (r : Run) (items : List Item) → break_until n r items ≡ break_from n r.last r.starts (until_thing items)
until-same n r [] = refl
until-same n r (start at ∷ items) = until-same (suc n) (run_after (suc n) r (start at)) items ∙ ap (break_from n r.last r.starts) (sym (until-more (start at) items refl))
until-same n r (finish at ∷ items) = until-same (suc n) (run_after (suc n) r (finish at)) items ∙ ap (break_from n r.last r.starts) (sym (until-more (finish at) items refl))
until-same n r (float at ∷ items) = until-same (suc n) r items ∙ ap (break_from n r.last r.starts) (sym (until-more (float at) items refl))
until-same n r (word at text ∷ items) = refl
until-same n r (space at ∷ items) = refl
until-same n r (atomic at ∷ items) = refl
until-same n r (forced at ∷ items) = refl

module _ (part : Parting) where
  behind-same : (before : Option Item) (thing : Item) (next : Option Item) (after : List Item) → behind_in part before thing next after ≡ behind part before thing next (until_thing after)
  behind-same before thing None after = refl
  behind-same before thing (Some next) after = ap (λ k. cond (part before thing next) (Some k) None) (until-same 0 no_run after)

  place-same : (before : Option Item) (thing : Item) (after : List Item) → place_in part before thing after ≡ place part before thing after
  place-same before (forced at) after = refl
  place-same before (start at) after = behind-same before (start at) (find is_thing after) after
  place-same before (finish at) after = behind-same before (finish at) (find is_thing after) after
  place-same before (word at text) after = behind-same before (word at text) (find is_thing after) after
  place-same before (space at) after = behind-same before (space at) (find is_thing after) after
  place-same before (atomic at) after = behind-same before (atomic at) (find is_thing after) after
  place-same before (float at) after = behind-same before (float at) (find is_thing after) after

  left-same : (last : Option Item) (left : Option ℕ) (i : Item) (after : List Item) → left_in part last left i after ≡ left_after part last left i after
  left-same last left i after = ap (λ o. cond (is_thing i) o (one_less left)) (place-same last i after)

  pub marks-same : (last : Option Item) (left : Option ℕ) (items : List Item) → marked_parts items (marks part last left items) ≡ cut part last left items
  unfolding marks
  marks-same last left [] = refl
  marks-same last left (i ∷ items) =
      let here = left-same last left i items in
      ap (λ o. parted i (is_here o) (marked_parts items (marks part (last_after last i) o items))) here
      ∙ ap (parted i (is_here (left_after part last left i items))) (marks-same (last_after last i) (left_after part last left i items) items)

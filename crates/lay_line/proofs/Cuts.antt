use Rattle.std.proofs.Common.{◌≡◌, ℕ, suc, ◌+◌, Bool, true, false, not, cond, List, [], ◌∷◌, ◌++◌, length, take, reverse, Option, Some, None, find, refl, sym, ◌∙◌, ap, subst, append_assoc, arith}
use Rattle.std.specs.Prelude.{◌&&◌}
use Rattle.std.specs.List.{AllByRecursion, prefix_len}
use Rattle.std.proofs.lemmas.List.{reverse-append}
use Rattle.viz_base.specs.declared.trees.BoxTree.{BoxTree}
use Rattle.layout_semantics.specs.InlineContent.{Item, start, finish, word, space, atomic, forced, float}
use Rattle.layout_semantics.specs.Segments.{is_thing, until_thing, closed_run, is_after_last_end, is_after_its_ends, Parting, may_part, never, thing_before, is_break, cut_where, segments, pieces}
use Rattle.lay_line.specs.steps.Cutting.{leading_ends, break_in, one_less, is_here, parted, behind, place, left_after, cut}
use Rattle.lay_line.proofs.Runs.{break-in}
use Rattle.lay_line.proofs.Ends.{closed-begins, last-said, leading-same, same, less, here-none, here-some}

module _ (part : Parting) where
  -- from the last thing, what lies after it so far, and what is to come
  abbrev left_of : Option Item → Option Item → List Item → List Item → Option ℕ
  left_of before None since items = None
  left_of before (Some thing) since items = less (length since) (place part before thing (since ++ items))

  abbrev Plain : List Item → Type 0
  Plain items = AllByRecursion (λ i. is_thing i ≡ false) items

  find-past : (since items : List Item) → Plain since → find is_thing (since ++ items) ≡ find is_thing items
  find-past [] items p = refl
  find-past (i ∷ since) items p = rw p.0 (find-past since items p.1)

  until-cons : (i : Item) (items : List Item) → is_thing i ≡ false → until_thing (i ∷ items) ≡ i ∷ until_thing items
  until-cons i items p = rw p (ap (λ k. take k (i ∷ items)) (one_more (prefix_len (λ x. not (is_thing x)) items)))
    where
      one_more : (n : ℕ) → 1 + n ≡ suc n
      one_more n = omega arith

  until-past : (since items : List Item) → Plain since → until_thing (since ++ items) ≡ since ++ until_thing items
  until-past [] items p = refl
  until-past (i ∷ since) items p = until-cons i (since ++ items) p.0 ∙ ap (λ l. i ∷ l) (until-past since items p.1)

  -- ---- the test of a break is that no items are left

  by_place : (since items : List Item) (b : Bool) (k : ℕ) (t : Bool) → t ≡ same (length since) k → is_here (less (length since) (cond b (Some k) None)) ≡ (b && t)
  by_place since items true k t e = here-some (length since) k ∙ sym e
  by_place since items false k t e = ap is_here (here-none (length since))

  abbrev tested : Option Item → Item → Option Item → List Item → List Item → Bool
  tested before thing None since run = false
  tested before thing (Some next) since run = part before thing next && is_after_last_end since (closed_run run)

  tested-same : (before : Option Item) (thing : Item) (next : Option Item) (since more : List Item) → is_here (less (length since) (behind part before thing next (since ++ more))) ≡ tested before thing next since (since ++ more)
  tested-same before thing None since more = ap is_here (here-none (length since))
  tested-same before thing (Some next) since more = by_place since more (part before thing next) (break_in (since ++ more)) (is_after_last_end since (closed_run (since ++ more)))
      (last-said since (closed_run (since ++ more)) more (closed-begins (since ++ more)) ∙ ap (same (length since)) (sym (break-in (since ++ more))))

  -- with what lies before found
  moved : (before : Option Item) (thing : Item) (since items : List Item) → Plain since → behind part before thing (find is_thing (since ++ items)) (until_thing (since ++ items)) ≡ behind part before thing (find is_thing items) (since ++ until_thing items)
  moved before thing since items p = ap (λ n. behind part before thing n (until_thing (since ++ items))) (find-past since items p) ∙ ap (behind part before thing (find is_thing items)) (until-past since items p)

  -- ---- the pass

  abbrev breaks : Option Item → Option Item → List Item → List Item → Bool
  breaks before None since after = false
  breaks before (Some (forced at)) since after = is_after_its_ends since after
  breaks before (Some thing) since after = tested before thing (find is_thing after) since (since ++ until_thing after)

  abbrev since_of : List Item → List Item
  since_of back = reverse (until_thing back)

  -- the test by what the pass carries, where something follows
  test-same : (before last : Option Item) (since : List Item) (j : Item) (after : List Item) → Plain since → is_here (left_of before last since (j ∷ after)) ≡ breaks before last since (j ∷ after)
  test-same before None since j after p = refl
  test-same before (Some (forced at)) since j after p = here-some (length since) (leading_ends (since ++ j ∷ after)) ∙ sym (leading-same since j after)
  test-same before (Some (start at)) since j after p = ap (λ o. is_here (less (length since) o)) (moved before (start at) since (j ∷ after) p) ∙ tested-same before (start at) (find is_thing (j ∷ after)) since (until_thing (j ∷ after))
  test-same before (Some (finish at)) since j after p = ap (λ o. is_here (less (length since) o)) (moved before (finish at) since (j ∷ after) p) ∙ tested-same before (finish at) (find is_thing (j ∷ after)) since (until_thing (j ∷ after))
  test-same before (Some (word at text)) since j after p = ap (λ o. is_here (less (length since) o)) (moved before (word at text) since (j ∷ after) p) ∙ tested-same before (word at text) (find is_thing (j ∷ after)) since (until_thing (j ∷ after))
  test-same before (Some (space at)) since j after p = ap (λ o. is_here (less (length since) o)) (moved before (space at) since (j ∷ after) p) ∙ tested-same before (space at) (find is_thing (j ∷ after)) since (until_thing (j ∷ after))
  test-same before (Some (atomic at)) since j after p = ap (λ o. is_here (less (length since) o)) (moved before (atomic at) since (j ∷ after) p) ∙ tested-same before (atomic at) (find is_thing (j ∷ after)) since (until_thing (j ∷ after))
  test-same before (Some (float at)) since j after p = ap (λ o. is_here (less (length since) o)) (moved before (float at) since (j ∷ after) p) ∙ tested-same before (float at) (find is_thing (j ∷ after)) since (until_thing (j ∷ after))

  break-said : (back after : List Item) (last next : Option Item) → find is_thing back ≡ last → find is_thing after ≡ next → is_break part back after ≡ breaks (thing_before back) last (since_of back) after
  break-said back after None next e f = rw e refl
  break-said back after (Some (forced at)) next e f = rw e refl
  break-said back after (Some (start at)) None e f = rw (e, f) refl
  break-said back after (Some (finish at)) None e f = rw (e, f) refl
  break-said back after (Some (word at text)) None e f = rw (e, f) refl
  break-said back after (Some (space at)) None e f = rw (e, f) refl
  break-said back after (Some (atomic at)) None e f = rw (e, f) refl
  break-said back after (Some (float at)) None e f = rw (e, f) refl
  break-said back after (Some (start at)) (Some n) e f = rw (e, f) refl
  break-said back after (Some (finish at)) (Some n) e f = rw (e, f) refl
  break-said back after (Some (word at text)) (Some n) e f = rw (e, f) refl
  break-said back after (Some (space at)) (Some n) e f = rw (e, f) refl
  break-said back after (Some (atomic at)) (Some n) e f = rw (e, f) refl
  break-said back after (Some (float at)) (Some n) e f = rw (e, f) refl

  -- what the pass carries behind some items
  abbrev carried : List Item → List Item → Option ℕ
  carried back items = left_of (thing_before back) (find is_thing back) (since_of back) items

  less-more : (since : List Item) (i : Item) (o : Option ℕ) → less (length (since ++ i ∷ [])) o ≡ one_less (less (length since) o)
  less-more [] i o = refl
  less-more (k ∷ since) i o = ap one_less (less-more since i o)

  carried-next : (back : List Item) (i : Item) (items : List Item) → carried (i ∷ back) items ≡ left_after part (find is_thing back) (carried back (i ∷ items)) i items
  carried-next back i items = by (is_thing i) refl
    where
      further : (last : Option Item) (since : List Item) → left_of (thing_before back) last (since ++ i ∷ []) items ≡ one_less (left_of (thing_before back) last since (i ∷ items))
      further None since = refl
      further (Some thing) since = ap (λ l. less (length (since ++ i ∷ [])) (place part (thing_before back) thing l)) (append_assoc since (i ∷ []) items) ∙ less-more since i (place part (thing_before back) thing (since ++ i ∷ items))

      by : (b : Bool) → is_thing i ≡ b → carried (i ∷ back) items ≡ left_after part (find is_thing back) (carried back (i ∷ items)) i items
      by true e = rw e refl
      by false e =
          ap (λ (b : Bool). left_of (cond b (find is_thing back) (thing_before back)) (cond b (Some i) (find is_thing back)) (since_of (i ∷ back)) items) e
          ∙ (ap (λ u. left_of (thing_before back) (find is_thing back) (reverse u) items) (until-cons i back e)
          ∙ (ap (λ l. left_of (thing_before back) (find is_thing back) l items) (reverse-append (i ∷ []) (until_thing back))
          ∙ (further (find is_thing back) (since_of back)
          ∙ ap (λ (b : Bool). cond b (place part (find is_thing back) i items) (one_less (carried back (i ∷ items)))) (sym e))))

  plain-append : (xs ys : List Item) → Plain xs → Plain ys → Plain (xs ++ ys)
  plain-append [] ys p q = q
  plain-append (x ∷ xs) ys p q = (p.0, plain-append xs ys p.1 q)

  plain-reversed : (xs : List Item) → Plain xs → Plain (reverse xs)
  plain-reversed [] p = tt
  plain-reversed (x ∷ xs) p = subst Plain (sym (reverse-append (x ∷ []) xs)) (plain-append (reverse xs) (x ∷ []) (plain-reversed xs p.1) (p.0, tt))

  until-plain : (xs : List Item) → Plain (until_thing xs)
  until-plain [] = tt
  until-plain (x ∷ xs) = by (is_thing x) refl (until-plain xs)
    where
      by : (b : Bool) → is_thing x ≡ b → Plain (until_thing xs) → Plain (until_thing (x ∷ xs))
      by true e rest = rw e tt
      by false e rest = subst Plain (sym (until-cons x xs e)) (e, rest)

  -- the pass gives the parts
  cut-same : (back items : List Item) → cut_where (is_break part) back items ≡ cut part (find is_thing back) (carried back items) items
  cut-same back [] = refl
  cut-same back (i ∷ []) = both (is_break part (i ∷ back) []) (is_here (left_after part (find is_thing back) (carried back (i ∷ [])) i []))
    where
      both : (a b : Bool) → parted i a [] ≡ parted i b []
      both true true = refl
      both true false = refl
      both false true = refl
      both false false = refl
  cut-same back (i ∷ j ∷ items) =
      let rest = cut-same (i ∷ back) (j ∷ items) in
      let next = carried-next back i (j ∷ items) in
      let test = break-said (i ∷ back) (j ∷ items) (find is_thing (i ∷ back)) (find is_thing (j ∷ items)) refl refl
      ∙ (sym (test-same (thing_before (i ∷ back)) (find is_thing (i ∷ back)) (since_of (i ∷ back)) j items (plain-reversed (until_thing (i ∷ back)) (until-plain (i ∷ back)))) ∙ ap is_here next) in
      ap (λ b. parted i b (cut_where (is_break part) (i ∷ back) (j ∷ items))) test
      ∙ ap (parted i (is_here (left_after part (find is_thing back) (carried back (i ∷ j ∷ items)) i (j ∷ items)))) (rest ∙ ap (λ o. cut part (find is_thing (i ∷ back)) o (j ∷ items)) next)

-- segments and pieces are what one pass gives
pub segments-are : (tree : BoxTree) (items : List Item) → segments tree items ≡ cut (may_part tree) None None items
segments-are tree items = cut-same (may_part tree) [] items

pub pieces-are : (items : List Item) → pieces items ≡ cut never None None items
pieces-are items = cut-same never [] items

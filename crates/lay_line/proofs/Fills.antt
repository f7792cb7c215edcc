use Rattle.std.proofs.Common.{◌≡◌, ℕ, zero, suc, ◌+◌, ◌-◌, ℤ, Bool, true, false, not, cond, List, [], ◌∷◌, ◌++◌, length, slice_index_or, fold, take, drop, refl, sym, ◌∙◌, ap, append_assoc, append-nil, arith}
use Rattle.std.specs.Prelude.{◌&&◌}
use Rattle.std.specs.List.{list_any, prefix_len, range_with_len}
use Rattle.std.proofs.lemmas.List.Sums.{fold-append}
use Rattle.std.proofs.lemmas.List.Folds.{list_any-append}
use Rattle.layout_semantics.specs.Floats.{band_at}
use Rattle.layout_semantics.specs.InlineContent.{Item, float_boxes, makes_line}
use Rattle.layout_semantics.specs.Segments.{is_forced}
use Rattle.layout_semantics.specs.LineHeights.{InlineContext, LineExtent}
use Rattle.layout_semantics.specs.LineFilling.{Met, Line, fits, meet, item_width, width_held, joined, first_items, floats_met, met_after, may_hold, segments_held}
use Rattle.lay_line.specs.steps.Held.{Held, nothing_held, with_items}
use Rattle.layout_semantics.specs.Lines.{opened_after}
use Rattle.lay_line.specs.steps.Filling.{Filled, with_item_box, extent_at_start, with_segment, first_filled, takes, past, filled}
use Rattle.lay_line.specs.steps.Staying.{Span, no_items, span_after, spanned}
use Rattle.lay_line.proofs.Widths.{width-same}

-- ---- lists

joined-append : (ps qs : List (List Item)) → joined (ps ++ qs) ≡ joined ps ++ joined qs
joined-append [] qs = refl
joined-append (p ∷ ps) qs = ap (λ l. p ++ l) (joined-append ps qs) ∙ sym (append_assoc p (joined ps) (joined qs))

take-grows : {A : Type 0} (n : ℕ) (xs : List A) (y : A) (ys : List A) → drop n xs ≡ y ∷ ys → take (suc n) xs ≡ take n xs ++ y ∷ []
take-grows zero xs y ys e = ap (take 1) e
take-grows (suc n) [] y ys e = absurd (cc)
take-grows (suc n) (x ∷ xs) y ys e = ap (λ l. x ∷ l) (take-grows n xs y ys e)

index-at : {A : Type 0} (n : ℕ) (xs : List A) (y d : A) (ys : List A) → drop n xs ≡ y ∷ ys → slice_index_or xs n d ≡ y
index-at zero xs y d ys e = ap (λ l. slice_index_or l 0 d) e
index-at (suc n) [] y d ys e = absurd (cc)
index-at (suc n) (x ∷ xs) y d ys e = index-at n xs y d ys e

pub drop-next : {A : Type 0} (n : ℕ) (xs : List A) (y : A) (ys : List A) → drop n xs ≡ y ∷ ys → drop (suc n) xs ≡ ys
drop-next zero xs y ys e = ap (drop 1) e
drop-next (suc n) [] y ys e = absurd (cc)
drop-next (suc n) (x ∷ xs) y ys e = drop-next n xs y ys e

-- ---- a line with n segments

module _ (c : InlineContext) (line : Line) (opened : List ℕ) where
  -- what the definitions say
  abbrev pub state : ℕ → Filled
  state n = record { count = n; span = spanned no_items (first_items line n); held = with_items (item_width c) nothing_held (first_items line n); is_ended = list_any is_forced (first_items line n); is_line = list_any (makes_line c.tree) (first_items line n); met = met_after c line n; extent = fold (with_item_box c) (extent_at_start c opened) (first_items line n); opened = fold opened_after opened (first_items line n) }

  items-grow : (n : ℕ) (part : List Item) (rest : List (List Item)) → drop n line.parts ≡ part ∷ rest → first_items line (suc n) ≡ first_items line n ++ part
  items-grow n part rest e = ap joined (take-grows n line.parts part rest e) ∙ (joined-append (take n line.parts) (part ∷ []) ∙ ap (λ l. first_items line n ++ l) (append-nil part))

  held-grows : (n : ℕ) (part : List Item) (rest : List (List Item)) → drop n line.parts ≡ part ∷ rest
      → with_items (item_width c) nothing_held (first_items line (suc n)) ≡ with_items (item_width c) (with_items (item_width c) nothing_held (first_items line n)) part
  held-grows n part rest e = ap (with_items (item_width c) nothing_held) (items-grow n part rest e) ∙ fold-append _ nothing_held (first_items line n) part

  width-grows : (n : ℕ) (part : List Item) (rest : List (List Item)) → drop n line.parts ≡ part ∷ rest
      → width_held c (first_items line (suc n)) ≡ (with_items (item_width c) (with_items (item_width c) nothing_held (first_items line n)) part).width
  width-grows n part rest e = width-same c (first_items line (suc n)) ∙ ap (λ (h : Held). h.width) (held-grows n part rest e)

  -- one segment more is one step more
  grows : (n : ℕ) (part : List Item) (rest : List (List Item)) → drop n line.parts ≡ part ∷ rest
      → state (suc n) ≡ with_segment c line (state n) part (floats_met c.tree n part) (with_items (item_width c) (state n).held part)
  grows n part rest e =
      let held = with_items (item_width c) (with_items (item_width c) nothing_held (first_items line n)) part in
      let one : ℤ → List Item → Met = λ w p. fold (meet c line w) (met_after c line n) (floats_met c.tree n p) in
      let met = ap (λ w. one w (slice_index_or line.parts n [])) (width-grows n part rest e) ∙ ap (one held.width) (index-at n line.parts part [] rest e) in
      let items = items-grow n part rest e in
      all_same (ap (spanned no_items) items ∙ fold-append span_after no_items (first_items line n) part)
      (held-grows n part rest e)
      (ap (list_any is_forced) items ∙ list_any-append is_forced (first_items line n) part)
      (ap (list_any (makes_line c.tree)) items ∙ list_any-append (makes_line c.tree) (first_items line n) part)
      met
      (ap (fold (with_item_box c) (extent_at_start c opened)) items ∙ fold-append (with_item_box c) (extent_at_start c opened) (first_items line n) part)
      (ap (fold opened_after opened) items ∙ fold-append opened_after opened (first_items line n) part)
    where
      made : Span → Held → Bool → Bool → Met → LineExtent → List ℕ → Filled
      made s h b l m x o = record { count = suc n; span = s; held = h; is_ended = b; is_line = l; met = m; extent = x; opened = o }

      all_same : {s s' : Span} {h h' : Held} {b b' l l' : Bool} {m m' : Met} {x x' : LineExtent} {o o' : List ℕ} → s ≡ s' → h ≡ h' → b ≡ b' → l ≡ l' → m ≡ m' → x ≡ x' → o ≡ o' → made s h b l m x o ≡ made s' h' b' l' m' x' o'
      all_same {s} {s'} {h} {h'} {b} {b'} {l} {l'} {m} {m'} {x} {x'} {o} {o'} j p q r t u v =
          ap (λ z. made z h b l m x o) j ∙ (ap (λ z. made s' z b l m x o) p ∙ (ap (λ z. made s' h' z l m x o) q ∙ (ap (λ z. made s' h' b' z m x o) r
          ∙ (ap (λ z. made s' h' b' l' z x o) t ∙ (ap (λ z. made s' h' b' l' m' z o) u ∙ ap (made s' h' b' l' m' x') v)))))

  -- the test is that of the definitions
  takes-same : (n m : ℕ) (part : List Item) (rest : List (List Item)) → drop n line.parts ≡ part ∷ rest → m ≡ suc n
      → takes c line (state n) (with_items (item_width c) (state n).held part) ≡ may_hold c line m
  takes-same n m part rest e q =
      let room : ℤ → ℕ → Bool = λ w k. fits w (band_at (met_after c line k).floats c.cb line.top line.tall) && not (list_any is_forced (first_items line k)) in
      let back : n ≡ suc n - 1 = omega arith in
      ap (λ w. room w n) (sym (width-grows n part rest e)) ∙ (ap (room (width_held c (first_items line (suc n)))) back ∙ ap (may_hold c line) (sym q))

  -- from n segments on, the steps go as far as the definitions say
  filled-same : (n m : ℕ) (rest : List (List Item)) → drop (suc n) line.parts ≡ rest → m ≡ suc (suc n)
      → filled c line (state (suc n)) rest ≡ state (suc n + prefix_len (may_hold c line) (range_with_len m (length rest)))
  filled-same n m [] e q = ap state (omega arith)
  filled-same n m (part ∷ rest) e q =
      ap (λ t. past t (state (suc n)) (λ f. filled c line f rest) next) (takes-same (suc n) m part rest e q)
      ∙ by (may_hold c line m) (ap (λ f. filled c line f rest) (sym (grows (suc n) part rest e)) ∙ filled-same (suc n) (m + 1) rest (drop-next (suc n) line.parts part rest e) (omega arith))
    where
      next : Filled
      next = with_segment c line (state (suc n)) part (float_boxes part) (with_items (item_width c) (state (suc n)).held part)

      more : ℕ
      more = prefix_len (may_hold c line) (range_with_len (m + 1) (length rest))

      by : (b : Bool) → filled c line next rest ≡ state (suc (suc n) + more) → past b (state (suc n)) (λ f. filled c line f rest) next ≡ state (suc n + cond b (1 + more) 0)
      by true again = again ∙ ap state (omega arith)
      by false again = ap state (omega arith)

  -- stopping at the first segment that doesn't fit gives as many as the line holds, with their width and the floats met
  pub line-filled : (first : List Item) (rest : List (List Item)) → line.parts ≡ first ∷ rest → filled c line (first_filled c line opened first (with_items (item_width c) nothing_held first)) rest ≡ state (segments_held c line)
  line-filled first rest e =
      let long = ap length e in
      let left : length rest ≡ length line.parts - 1 = omega (arith, long) in
      ap (λ f. filled c line f rest) (sym (grows 0 first rest e))
      ∙ (filled-same 0 2 rest (drop-next 0 line.parts first rest e) refl
      ∙ ap state (one_more (length rest) (length line.parts - 1) left))
    where
      one_more : (a b : ℕ) → a ≡ b → 1 + prefix_len (may_hold c line) (range_with_len 2 a) ≡ suc (prefix_len (may_hold c line) (range_with_len 2 b))
      one_more a b e = ap (λ k. 1 + prefix_len (may_hold c line) (range_with_len 2 k)) e ∙ omega arith

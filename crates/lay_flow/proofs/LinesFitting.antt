-- The lines of each container of a page fit, where the boxes in them by themselves and what stands before them stay within bounds.
use Rattle.std.proofs.Common.{◌≡◌, ℕ, zero, suc, ◌^◌, ◌≤◌, Bool, true, false, ℤ, ◌-ℤ◌, unsigned_abs, List, [], ◌∷◌, map, fold, length, Option, Some, None, slice_index_or, subst, arith}
use Rattle.std.specs.Prelude.{◌||◌, replicate, slice_set, unwrap_or}
use Rattle.std.specs.List.{AllByRecursion}
use Rattle.std.specs.Option.{option_to_list}
use Rattle.std.proofs.lemmas.Int.{ints}
use Rattle.viz_base.specs.declared.layouts.Band.{Band}
use Rattle.viz_base.specs.declared.layouts.Inner.{Inner}
use Rattle.viz_base.specs.declared.styles.Style.{Style}
use Rattle.viz_base.specs.declared.trees.BoxTree.{BoxTree}
use Rattle.viz_base.specs.declared.worlds.World.{World}
use Rattle.layout_semantics.specs.Flow.{Independent}
use Rattle.layout_semantics.specs.FlowBoxes.{inline_size, is_replaced_at, room}
use Rattle.layout_semantics.specs.Horizontal.{widths}
use Rattle.layout_semantics.specs.InlineContent.{inner_boxes, is_floated_at}
use Rattle.layout_semantics.specs.Lengths.{own}
use Rattle.layout_semantics.specs.Lists.{table_of, room_for}
use Rattle.layout_semantics.specs.Order.{IsOnPage}
use Rattle.lay_line.specs.LinesFit.{LinesFit}
use Rattle.lay_steps.specs.Flow.{Context}
use Rattle.page_limits.specs.Bounds.{all_around, IsBandIn, IsFloatIn, IsLevelIn}
use Rattle.page_limits.specs.Boxes.{IsIndependentIn, IsWhole}
use Rattle.page_limits.proofs.WidthsLevels.{IsFarPage}
use Rattle.page_limits.proofs.FitsFonts.{IsBoxed}
use Rattle.page_limits.proofs.FitsLines.{IsInnerLow}
use Rattle.page_limits.proofs.FitsWidths.{lines-fit-here}
use Rattle.lay_flow.specs.WalkFits.{inline_context}
use Rattle.lay_steps.specs.Flow.{inner_size, inner_table}

-- ---- what holds of each entry of a table

module _ {A : Type 0} (P : Option A → Type 0) (none : P None) (f : ℕ → A) (each : (k : ℕ) → P (Some (f k))) where
  set-each : (t : List (Option A)) (k : ℕ) (o : Option A) → P o → AllByRecursion P t → AllByRecursion P (slice_set t k o)
  set-each [] k o p a = tt
  set-each (x ∷ t) zero o p a = (p, a.1)
  set-each (x ∷ t) (suc k) o p a = (a.0, set-each t k o p a.1)

  all-each : (t : List (Option A)) (ks : List ℕ) → AllByRecursion P t
      → AllByRecursion P (fold (λ (table : List (Option A)) (entry : ℕ × A). slice_set table entry.0 (Some entry.1)) t (map (λ k. (k, f k)) ks))
  all-each t [] a = a
  all-each t (k ∷ ks) a = all-each (slice_set t k (Some (f k))) ks (set-each t k (Some (f k)) (each k) a)

  none-each : (n : ℕ) → AllByRecursion P (replicate n None)
  none-each zero = tt
  none-each (suc n) = (none, none-each n)

  at-each : (t : List (Option A)) (at : ℕ) → AllByRecursion P t → P (slice_index_or t at None)
  at-each [] at a = none
  at-each (x ∷ t) zero a = a.0
  at-each (x ∷ t) (suc at) a = at-each t at a.1

  table-each : (n : ℕ) (ks : List ℕ) (at : ℕ) → P (slice_index_or (table_of n (map (λ k. (k, f k)) ks)) at None)
  table-each n ks at = at-each (table_of n (map (λ k. (k, f k)) ks)) at (all-each (replicate (room_for n (map (λ k. (k, f k)) ks)) None) ks (none-each (room_for n (map (λ k. (k, f k)) ks))))

-- ---- what a box takes of lines

abbrev IsClampedLow : Option (Inner ℤ) → Type 0
IsClampedLow None = Unit {0}
IsClampedLow (Some i) = IsInnerLow i

module _ (tree : BoxTree) (w : World) (apart : ℕ → Independent) (small : (j : ℕ) → IsIndependentIn (all_around (2 ^ 72)) (2 ^ 72) (apart j)) where
  level-size : (y : ℤ) → IsLevelIn (all_around (2 ^ 72)) y → unsigned_abs y ≤ 2 ^ 72
  level-size y l = let top = l.top in let bottom = l.bottom in omega (arith, ints, top, bottom)

  inner-low : (k : ℕ) → IsInnerLow (inner_size tree w apart k)
  unfolding inner_size
  inner-low k = by (is_floated_at tree k || is_replaced_at tree k || own tree k (λ (s : Style). s.clips) false) (apart k).baseline (small k).baseline
    where
      sized : ℤ → Inner ℤ
      sized above = record { b = k; width = (apart k).size.width; above = above; below = (apart k).size.height -ℤ above }

      inner_by : Bool → Option ℤ → Inner ℤ
      inner_by false (Some baseline) = sized baseline
      inner_by _ _ = sized (apart k).size.height

      sized-low : (above : ℤ) → unsigned_abs above ≤ 2 ^ 72 → IsInnerLow (sized above)
      sized-low above l =
          let wide = (small k).width in
          let tall = level-size (apart k).size.height (small k).height in
          record { width = wide; above = l; below = omega (arith, ints, l, tall) }

      by : (b : Bool) (o : Option ℤ) → AllByRecursion (IsLevelIn (all_around (2 ^ 72))) (option_to_list o) → IsInnerLow (inner_by b o)
      by false (Some baseline) a = sized-low baseline (level-size baseline a.0)
      by false None a = sized-low (apart k).size.height (level-size (apart k).size.height (small k).height)
      by true (Some baseline) a = sized-low (apart k).size.height (level-size (apart k).size.height (small k).height)
      by true None a = sized-low (apart k).size.height (level-size (apart k).size.height (small k).height)

  inners-low : (b at : ℕ) (i : Inner ℤ) → slice_index_or (inner_table tree w apart b) at None ≡ Some i → IsInnerLow i
  unfolding inner_table
  inners-low b at i e = subst IsClampedLow e (table-each IsClampedLow tt (inner_size tree w apart) inner-low (length tree.boxes) (inner_boxes tree b) at)

-- ---- the lines of a container

module _ (tree : BoxTree) (page : IsFarPage tree) (first : IsBoxed tree 0) (w : World) (small : w.s ≤ 256) (narrow : w.w ≤ 16384) (flat : w.h ≤ 16384) where
  pub lines-fit : (k : ℕ) → IsOnPage tree.boxes k → IsWhole tree k → (apart : ℕ → Independent) (cb : Band ℤ) (top : ℤ) (s : Context) → ((j : ℕ) → IsIndependentIn (all_around (2 ^ 72)) (2 ^ 72) (apart j))
      → inline_size cb ≡ (widths tree w k (room tree w k)).content → IsBandIn (all_around (2 ^ 81)) cb → IsLevelIn (all_around (2 ^ 81)) top
      → AllByRecursion (IsFloatIn (all_around (2 ^ 81))) s.floats → AllByRecursion (IsLevelIn (all_around (2 ^ 81))) (option_to_list s.least)
      → LinesFit (inline_context tree w apart k cb) top (unwrap_or s.least top) s.floats
  lines-fit k on whole apart cb top s independent same band at beside above =
      lines-fit-here tree page first w small narrow flat k on whole (inner_table tree w apart k) cb same (inners-low tree w apart independent k) top (unwrap_or s.least top) s.floats band at (by s.least above) beside
    where
      by : (o : Option ℤ) → AllByRecursion (IsLevelIn (all_around (2 ^ 81))) (option_to_list o) → IsLevelIn (all_around (2 ^ 81)) (unwrap_or o top)
      by None a = at
      by (Some y) a = a.0

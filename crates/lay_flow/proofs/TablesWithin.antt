-- The boxes that stand outside the flow of a page, as they are laid out so far, stay within bounds.
use Rattle.std.proofs.Common.{◌≡◌, ◌≢◌, ℕ, zero, suc, ◌+◌, ◌*◌, ◌<◌, ◌≤◌, ◌^◌, ℤ, pos, Bool, true, false, List, length, set, replicate, Option, Some, None, refl, sym, ap, ◌∙◌, subst, arith}
use Rattle.std.specs.Prelude.{◌==◌, unsigned_abs, unwrap_or, min}
use Rattle.std.specs.Int.{int_min}
use Rattle.std.proofs.lemmas.Bool.Decides.{nat_tests}
use Rattle.std.proofs.lemmas.Int.{ints}
use Rattle.std.proofs.lemmas.List.{get_or-set_same, get_or-set_other, length-set, length-replicate}
use Rattle.viz_base.specs.declared.trees.BoxTree.{BoxTree}
use Rattle.viz_base.specs.declared.worlds.World.{World}
use Rattle.layout_semantics.specs.Flow.{Independent}
use Rattle.layout_semantics.specs.FlowBoxes.{room}
use Rattle.layout_semantics.specs.InlineContent.{has_line}
use Rattle.layout_semantics.specs.Order.{IsOnPage}
use Rattle.lay_steps.specs.Tables.{laid_at, nothing_independent}
use Rattle.lay_steps.proofs.InOrder.{box_before}
use Rattle.lay_steps.proofs.Sound.{IsSound}
use Rattle.page_limits.specs.Bounds.{Bounds, AreInside, all_around, no_bounds}
use Rattle.page_limits.specs.Boxes.{IsIndependentIn, IsBoxSmall, IsWhole}
use Rattle.page_limits.specs.Inline.{IsContentSmall}
use Rattle.page_limits.specs.Loads.{greatest_length, unit, load, size_of}
use Rattle.page_limits.proofs.IndependentWithin.{independent_rise, independent-within}
use Rattle.page_limits.proofs.ContentWithin.{line_context}
use Rattle.page_limits.proofs.InlineWithin.{content-small}
use Rattle.page_limits.proofs.Loads.{IsFew, independent-few, load-is, load-rank}
use Rattle.page_limits.proofs.PageWithin.{base_of, turned_of}
use Rattle.page_limits.proofs.TermsWithin.{box-small}
use Rattle.page_limits.proofs.WholePage.{few}
use Rattle.lay_flow.proofs.PageFits.{IsPageFit}
use Rattle.lay_steps.specs.Flow.{independent_of}
use Rattle.lay_steps.specs.Tables.{with_box}

none-at : (n k : ℕ) → laid_at (replicate n None) k ≡ nothing_independent
none-at zero k = refl
none-at (suc n) zero = refl
none-at (suc n) (suc k) = none-at n k

nothing-in : (b : Bounds) → IsIndependentIn b greatest_length nothing_independent
nothing-in b = record { width = omega arith; height = record { top = omega (arith, ints); bottom = omega (arith, ints) }; baseline = tt; boxes = tt }

module _ (tree : BoxTree) (w : World) (page : IsPageFit tree w) where
  pub fine : 8 * 2 ^ 42 ≤ greatest_length
  fine = omega arith

  pub boxes-small : (k : ℕ) → IsOnPage tree.boxes k → IsWhole tree k → IsBoxSmall tree w (2 ^ 42) k
  boxes-small k p q = box-small tree w (2 ^ 42) k (page.boxes k p q)

  pub lines-small : (own : ℕ → Bounds) (apart : ℕ → Independent) (independent_in : (k : ℕ) → IsIndependentIn (own k) greatest_length (apart k)) (k : ℕ) (left wide : ℤ) → IsSound tree w k wide → has_line tree k ≡ true
      → IsContentSmall (line_context tree w own (turned_of tree w apart own) greatest_length (2 ^ 42) fine boxes-small apart independent_in k left wide) own (turned_of tree w apart own) greatest_length
  lines-small own apart independent_in k left wide i e = content-small tree w (2 ^ 42) fine boxes-small page.lines page.raises.raises page.raises.each page.raises.all own apart independent_in k left wide i

  turned-few : (apart : ℕ → Independent) (own : ℕ → Bounds) → IsFew tree own → IsFew tree (turned_of tree w apart own)
  turned-few apart own f k l = let a = f k l in let n = turn (unsigned_abs (int_min (base_of tree w apart k) (pos 0))) (own k).up in omega (arith, a, n)
    where
      turn : (m n : ℕ) → min m n ≤ n
      turn m n = omega arith

  -- boxes in coordinates of their own, each within bounds by what is in it
  pub record AreBounded (apart : ℕ → Independent) : Type 0 where
    pub own : ℕ → Bounds
    pub known : (k : ℕ) → IsIndependentIn (own k) greatest_length (apart k)
    pub few : IsFew tree own
    pub far : (k : ℕ) → AreInside (own k) (all_around (2 ^ 72))

  abbrev pub turned : (apart : ℕ → Independent) → AreBounded apart → ℕ → Bounds
  turned apart a = turned_of tree w apart a.own

  -- a box that is laid out by these
  abbrev pub rise_by : (apart : ℕ → Independent) → AreBounded apart → ℕ → Bounds
  rise_by apart a k = independent_rise tree w a.own (turned apart a) greatest_length (2 ^ 42) fine boxes-small apart a.known (lines-small a.own apart a.known) k

  module _ (apart : ℕ → Independent) (a : AreBounded apart) (k : ℕ) (l : k < length tree.boxes) where
    pub rise-few : size_of (rise_by apart a k) + 2 * unit ≤ unit * load tree k
    rise-few = independent-few tree a.own (turned apart a) a.few (turned-few apart a.own a.few) k l

    pub rise-far : AreInside (rise_by apart a k) (all_around (2 ^ 72))
    rise-far =
        let here = rise-few in
        let order = load-rank tree k (length tree.boxes) (box_before tree k l) in
        let all = few tree page.few_boxes page.few_characters in
        record { up = omega (arith, here, order, all); down = omega (arith, here, order, all); aside = omega (arith, here, order, all) }

    pub independent-known : (wide : ℤ) → IsSound tree w k wide → IsWhole tree k → IsIndependentIn (rise_by apart a k) greatest_length (independent_of tree w apart k wide)
    independent-known wide i q =
        independent-within tree w a.own (turned apart a) greatest_length (2 ^ 42) fine boxes-small apart a.known (lines-small a.own apart a.known) k wide i q l

    abbrev own_after : ℕ → Bounds
    own_after j = elim (j == k) as (λ _. Bounds) [ true ↦ rise_by apart a k | false ↦ a.own j ]

    -- with that box too
    with-one : (after : ℕ → Independent) (wide : ℤ) → IsSound tree w k wide → IsWhole tree k → after k ≡ independent_of tree w apart k wide → ((j : ℕ) → j ≢ k → after j ≡ apart j) → AreBounded after
    with-one after wide i q here others = record { own = own_after; known = known; few = few_; far = far }
      where
        known : (j : ℕ) → IsIndependentIn (own_after j) greatest_length (after j)
        known j = by (j == k) refl
          where
            by : (b : Bool) → (j == k) ≡ b → IsIndependentIn (elim b as (λ _. Bounds) [ true ↦ rise_by apart a k | false ↦ a.own j ]) greatest_length (after j)
            by true e =
                let same : k ≡ j = grind (arith, nat_tests) in
                subst (λ (x : ℕ). IsIndependentIn (rise_by apart a k) greatest_length (after x)) same (subst (IsIndependentIn (rise_by apart a k) greatest_length) (sym here) (independent-known wide i q))
            by false e =
                let other : j ≢ k = λ same. absurd (grind (arith, nat_tests)) in
                subst (IsIndependentIn (a.own j) greatest_length) (sym (others j other)) (a.known j)

        few_ : IsFew tree own_after
        few_ j m = by (j == k) refl
          where
            by : (b : Bool) → (j == k) ≡ b → size_of (elim b as (λ _. Bounds) [ true ↦ rise_by apart a k | false ↦ a.own j ]) + 2 * unit ≤ unit * load tree j
            by true e = let same : k ≡ j = grind (arith, nat_tests) in subst (λ (x : ℕ). size_of (rise_by apart a k) + 2 * unit ≤ unit * load tree x) same rise-few
            by false e = a.few j m

        far : (j : ℕ) → AreInside (own_after j) (all_around (2 ^ 72))
        far j = by (j == k)
          where
            by : (b : Bool) → AreInside (elim b as (λ _. Bounds) [ true ↦ rise_by apart a k | false ↦ a.own j ]) (all_around (2 ^ 72))
            by true = rise-far
            by false = a.far j

  -- ---- a table

  pub record IsBounded (table : List (Option Independent)) : Type 0 where
    pub long : length table ≡ length tree.boxes
    pub boxes : AreBounded (laid_at table)

  pub one-bounded : (table : List (Option Independent)) (k : ℕ) → IsBounded table → k < length tree.boxes → IsSound tree w k (room tree w k) → IsWhole tree k → IsBounded (with_box tree w table k)
  unfolding with_box
  one-bounded table k t l i q =
      let x = independent_of tree w (laid_at table) k (room tree w k) in
      let long = t.long in
      record {
        long = length-set table k (Some x) ∙ t.long;
        boxes = with-one (laid_at table) t.boxes k l (laid_at (set table k (Some x))) (room tree w k) i q
            (ap (λ (o : Option Independent). unwrap_or o nothing_independent) (get_or-set_same table k (Some x) None (omega (arith, long, l))))
            (λ j n. ap (λ (o : Option Independent). unwrap_or o nothing_independent) (get_or-set_other table k j (Some x) None n));
      }

  pub none-bounded : IsBounded (replicate (length tree.boxes) None)
  none-bounded = record {
    long = length-replicate (length tree.boxes) None;
    boxes = record {
      own = λ k. no_bounds;
      known = λ k. subst (IsIndependentIn no_bounds greatest_length) (sym (none-at (length tree.boxes) k)) (nothing-in no_bounds);
      few = λ k l. (let is = load-is tree k l in omega (arith, is));
      far = λ k. record { up = omega arith; down = omega arith; aside = omega arith };
    };
  }

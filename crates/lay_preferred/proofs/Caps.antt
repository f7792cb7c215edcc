-- Where each box has a cap, all that is computed of boxes is small.
use Rattle.std.proofs.Common.{◌≡◌, ℕ, zero, suc, ◌+◌, ◌*◌, ◌<◌, ◌≤◌, ◌^◌, ℤ, pos, ◌+ℤ◌, unsigned_abs, Bool, true, false, List, [], ◌∷◌, length, map, Option, Some, None, refl, subst, ap, arith}
use Rattle.std.specs.Prelude.{sum, unwrap_or}
use Rattle.std.specs.List.{AllByRecursion}
use Rattle.std.proofs.lemmas.List.Sums.{sum_by-cons}
use Rattle.viz_base.specs.declared.layouts.Preferred.{Preferred}
use Rattle.viz_base.specs.declared.lengths.Length.{Length}
use Rattle.viz_base.specs.declared.trees.BoxTree.{BoxTree}
use Rattle.viz_base.specs.declared.worlds.World.{World}
use Rattle.viz_calc.specs.State.{AllSmall}
use Rattle.layout_semantics.proofs.Pages.{forest}
use Rattle.layout_semantics.specs.InlineContent.{Item, start, finish, word, space, atomic, forced, float, box_of, content, is_floated_at}
use Rattle.layout_semantics.specs.Lengths.{clamped, maximum, margins, borders, paddings, used_if_absolute}
use Rattle.layout_semantics.specs.Order.{kids_of}
use Rattle.layout_semantics.specs.Preferred.{Inside, a_replaced, inline_content, blocks, inside_of, absolute_part, preferred}
use Rattle.layout_semantics.specs.Replaced.{intrinsic}
use Rattle.layout_semantics.specs.Segments.{may_part, never}
use Rattle.layout_laws.proofs.Levels.{IsFrom, All-implied, kids-within}
use Rattle.lay_line.specs.steps.Marks.{marks}
use Rattle.lay_width.specs.Fitting.{own_width_of, MostFits, RatioFits}
use Rattle.lay_width.specs.steps.Terms.{tentative}
use Rattle.lay_length.proofs.SmallNumbers.{size-+, size-max, size-min}
use Rattle.lay_preferred.specs.Fitting.{side_way, SideFits, StartFits, EndFits, AroundFits, GivenFits, ReplacedFits, leasts, mosts, LengthFits, MaximumFits, LengthsFit, room_of, room_by, room_inside, BoxFits, AreWithin}
use Rattle.lay_preferred.specs.steps.Columns.{no_children}
use Rattle.lay_preferred.specs.steps.Outer.{edge, start_of, end_of, edges_of, clamped_of, with_edges, is_given, given, around, replaced, outer}
use Rattle.lay_preferred.specs.steps.Parts.{Sized, sized, widths_of, inline_of, inline_in, blocks_in, IsInside}
use Rattle.lay_preferred.proofs.Levels.{of-replaced, of-inline, of-blocks, content-inside}
use Rattle.lay_preferred.proofs.OuterWidths.{outer-given, outer-inside}
use Rattle.lay_preferred.proofs.Sizes.{IsWithin, zero-within, widest_least-within, widest_most-within, widest_float-within, children-within}

-- ---- numbers

side-small : (m b p rest : ℤ) (n k : ℕ) → unsigned_abs m ≤ n → unsigned_abs b ≤ n → unsigned_abs p ≤ n → unsigned_abs rest ≤ k → k + 3 * n ≤ 2 ^ 100 → AllSmall (side_way m b p rest)
side-small m b p rest n k lm lb lp lr l =
    let x = size-+ p rest in
    let y = size-+ b (p +ℤ rest) in
    let z = size-+ m (b +ℤ (p +ℤ rest)) in
    (omega (arith, lp, lr, l, x), (omega (arith, lb, lp, lr, l, x, y), (omega (arith, lm, lb, lp, lr, l, x, y, z), tt)))

three-size : (m b p : ℤ) (rest : ℤ) (n k : ℕ) → unsigned_abs m ≤ n → unsigned_abs b ≤ n → unsigned_abs p ≤ n → unsigned_abs rest ≤ k → unsigned_abs (m +ℤ (b +ℤ (p +ℤ rest))) ≤ k + 3 * n
three-size m b p rest n k lm lb lp lr =
    let x = size-+ p rest in
    let y = size-+ b (p +ℤ rest) in
    let z = size-+ m (b +ℤ (p +ℤ rest)) in
    omega (arith, lm, lb, lp, lr, x, y, z)

clamped-size : (most : Option ℤ) (least x : ℤ) (k : ℕ) → IsWithin k most → unsigned_abs least ≤ k → unsigned_abs x ≤ k → unsigned_abs (clamped most least x) ≤ k
clamped-size None least x k m l h = size-max x least k h l
clamped-size (Some m) least x k lm l h = size-max _ least k (size-min x m k h lm) l

within-by : (n : ℕ) (o : Option ℤ) → unsigned_abs (unwrap_or o (pos 0)) ≤ n → IsWithin n o
within-by n None l = tt
within-by n (Some x) l = l

within-more : (n k : ℕ) (o : Option ℤ) → n ≤ k → IsWithin n o → IsWithin k o
within-more n k None l w = tt
within-more n k (Some x) l w = omega (arith, l, w)

either-size : (n : ℕ) (o : Option ℤ) (x : ℤ) → IsWithin n o → unsigned_abs x ≤ n → unsigned_abs (unwrap_or o x) ≤ n
either-size n None x w l = l
either-size n (Some y) x w l = w

-- ---- the lengths of a box

module _ (tree : BoxTree) (w : World) where
  abbrev part : Length → ℤ
  part l = absolute_part tree w l

  absolute-within : (n : ℕ) (l : Length) → LengthFits tree w n l → IsWithin n (used_if_absolute tree w l)
  unfolding edge
  absolute-within n l f = within-by n (used_if_absolute tree w l) f.size

  maximum-within : (n : ℕ) (o : Option Length) → MaximumFits tree w n o → IsWithin n (maximum (used_if_absolute tree w) o)
  maximum-within n None f = tt
  maximum-within n (Some l) f = absolute-within n l f

  most-fits : (n : ℕ) (o : Option Length) → MaximumFits tree w n o → MostFits tree w o (pos 0)
  most-fits n None f = tt
  most-fits n (Some l) f = f.way

  side-fits : (n k : ℕ) (m b p : Length) (rest : ℤ) → LengthFits tree w n m → LengthFits tree w n b → LengthFits tree w n p → unsigned_abs rest ≤ k → k + 3 * n ≤ 2 ^ 100 → SideFits tree w m b p rest
  side-fits n k m b p rest fm fb fp lr l = (fp.way, (fb.way, (fm.way, side-small (edge tree w m) (edge tree w b) (edge tree w p) rest n k fm.size fb.size fp.size lr l)))

  module _ (n at : ℕ) (f : LengthsFit tree w n at) where
    pub end-size : unsigned_abs (end_of tree w at) ≤ 3 * n
    unfolding edge end_of
    end-size = let s = three-size (part (margins tree at).right) (part (borders tree at).right) (part (paddings tree at).right) (pos 0) n 0 f.margin.1.size f.border.1.size f.padding.1.size (omega arith) in omega (arith, s)

    pub start-size : unsigned_abs (start_of tree w at) ≤ 3 * n
    unfolding edge start_of
    start-size = let s = three-size (part (margins tree at).left) (part (borders tree at).left) (part (paddings tree at).left) (pos 0) n 0 f.margin.0.size f.border.0.size f.padding.0.size (omega arith) in omega (arith, s)

    edges-size : unsigned_abs (edges_of tree w at) ≤ 6 * n
    unfolding edge edges_of
    edges-size =
        let right = three-size (part (margins tree at).right) (part (borders tree at).right) (part (paddings tree at).right) (pos 0) n 0 f.margin.1.size f.border.1.size f.padding.1.size (omega arith) in
        let left = three-size (part (margins tree at).left) (part (borders tree at).left) (part (paddings tree at).left)
        (part (margins tree at).right +ℤ (part (borders tree at).right +ℤ (part (paddings tree at).right +ℤ pos 0))) n (0 + 3 * n) f.margin.0.size f.border.0.size f.padding.0.size right in
        omega (arith, left)

    clamped_of-size : (k : ℕ) (x : ℤ) → n ≤ k → unsigned_abs x ≤ k → unsigned_abs (clamped_of tree w at x) ≤ k
    unfolding edge clamped_of
    clamped_of-size k x l h =
        let least = f.least.size in
        clamped-size _ _ x k (within-more n k _ l (maximum-within n _ f.greatest)) (omega (arith, l, least)) h

    around-size : (k : ℕ) (x : ℤ) → n ≤ k → unsigned_abs x ≤ k → unsigned_abs (with_edges tree w at x) ≤ k + 6 * n
    unfolding with_edges
    around-size k x l h =
        let own = clamped_of-size k x l h in
        let e = edges-size in
        let s = size-+ (clamped_of tree w at x) (edges_of tree w at) in
        omega (arith, own, e, s)

    pub end-fits : n ≤ 2 ^ 90 → EndFits tree w at
    end-fits l = side-fits n 0 _ _ _ (pos 0) f.margin.1 f.border.1 f.padding.1 (omega arith) (omega (arith, l))

    pub start-fits : n ≤ 2 ^ 90 → StartFits tree w at (pos 0)
    start-fits l = side-fits n 0 _ _ _ (pos 0) f.margin.0 f.border.0 f.padding.0 (omega arith) (omega (arith, l))

    pub around-fits : (k : ℕ) (x : ℤ) → n ≤ k → k ≤ 2 ^ 90 → unsigned_abs x ≤ k → AroundFits tree w at x
    around-fits k x l most h =
        let s = around-size k x l h in (
          (most-fits n _ f.greatest, f.least.way),
          (
            (end-fits (omega (arith, l, most)), side-fits n (3 * n) _ _ _ (end_of tree w at) f.margin.0 f.border.0 f.padding.0 end-size (omega (arith, l, most))),
            (omega (arith, s, l, most), tt),
          ),
        )

    pub given-fits : n ≤ 2 ^ 90 → GivenFits tree w at
    given-fits l = (f.width.way, around-fits n (edge tree w (own_width_of tree at)) (omega arith) l f.width.size)

    pub replaced-size : AreWithin n (replaced tree w at)
    unfolding replaced edge
    replaced-size = (one, one)
      where
        one : unsigned_abs (replaced tree w at).least ≤ n
        one = clamped-size _ _ _ n (maximum-within n _ f.greatest) f.least.size (either-size n _ _ (absolute-within n _ f.width) f.by_height)

    ratio-fits : (o : Option ℤ) → unsigned_abs (tentative (intrinsic tree at) None o) ≤ 2 ^ 100 → RatioFits (intrinsic tree at) o
    ratio-fits None l = (l, tt)
    ratio-fits (Some h) l = (l, tt)

    pub replaced-fits : n ≤ 2 ^ 90 → ReplacedFits tree w at
    replaced-fits l =
        let ratio = f.by_height in
        let size = replaced-size.0 in
        (f.width.way, ((f.height.way, ratio-fits _ (omega (arith, l, ratio))), ((most-fits n _ f.greatest, f.least.way), (omega (arith, l, size), tt))))

-- ---- boxes with what is in them

module _ (tree : BoxTree) (w : World) (lengths cap : ℕ → ℕ) (fits : (at : ℕ) → at < length tree.boxes → BoxFits tree w lengths cap at) where
  -- what is in a box, by what is in the boxes in it
  abbrev IsCapped : ℕ → Type 0
  IsCapped at = AreWithin (cap at) (outer tree w at)

  item-within : (i : Item) → (box_of i < length tree.boxes → IsCapped (box_of i)) → box_of i < length tree.boxes → AreWithin (room_of tree w cap i) (widths_of tree w i)
  item-within (atomic at) c l = c l
  item-within (float at) c l = c l
  item-within (word at text) c l = (omega arith, omega arith)
  item-within (space at) c l = (omega arith, omega arith)
  item-within (start at) c l = (omega arith, omega arith)
  item-within (finish at) c l = (omega arith, omega arith)
  item-within (forced at) c l = (omega arith, omega arith)

  items-within : (items : List Item) → AllByRecursion (λ i. AreWithin (room_of tree w cap i) (widths_of tree w i)) items
      → (leasts (sized (widths_of tree w) items) ≤ sum (map (room_of tree w cap) items)) × (mosts (sized (widths_of tree w) items) ≤ sum (map (room_of tree w cap) items))
  items-within [] a = (omega arith, omega arith)
  items-within (i ∷ items) a =
      let rest = items-within items a.1 in
      let total = sum_by-cons (λ (m : ℕ). m) (room_of tree w cap i) (map (room_of tree w cap) items) in
      let r0 = rest.0 in
      let r1 = rest.1 in
      let l0 = (a.0).0 in
      let l1 = (a.0).1 in
      (omega (arith, total, r0, l0), omega (arith, total, r1, l1))

  inline-within : (n : ℕ) (items : List Item) (ss : List Sized) → leasts ss ≤ n → mosts ss ≤ n → AreWithin n (inline_of tree items ss)
  inline-within n items ss l m = (
    zero-within n _ (widest_float-within n _ ss (widest_least-within n ss (marks (may_part tree) None None items) l) l),
    zero-within n _ (widest_most-within n ss (marks never None None items) m),
  )

  outer-within : (at : ℕ) → at < length tree.boxes → AreWithin (lengths at + room_inside tree w cap at) (preferred tree w at) → IsCapped at
  unfolding given around
  outer-within at l inside = by (is_given tree at) refl
    where
      box : BoxFits tree w lengths cap at
      box = fits at l

      n : ℕ
      n = lengths at

      k : ℕ
      k = lengths at + room_inside tree w cap at

      room : 8 * lengths at + room_inside tree w cap at ≤ cap at
      room = box.room

      by : (b : Bool) → is_given tree at ≡ b → IsCapped at
      by true e = subst (AreWithin (cap at)) (outer-given tree w at e) held_by
        where
          held_by : AreWithin (cap at) (given tree w at)
          held_by = let s = around-size tree w (lengths at) at box.own (lengths at) (edge tree w (own_width_of tree at)) (omega arith) box.own.width.size in
              (omega (arith, s, room), omega (arith, s, room))
      by false e = subst (AreWithin (cap at)) (outer-inside tree w at e) held_by
        where
          held_by : AreWithin (cap at) (around tree w at (preferred tree w at))
          held_by =
              let s = around-size tree w (lengths at) at box.own (lengths at + room_inside tree w cap at) (preferred tree w at).least (omega arith) inside.0 in
              let t = around-size tree w (lengths at) at box.own (lengths at + room_inside tree w cap at) (preferred tree w at).most (omega arith) inside.1 in
              (omega (arith, s, room), omega (arith, t, room))

  more-within : (n k : ℕ) (p : Preferred ℤ) → n ≤ k → AreWithin n p → AreWithin k p
  more-within n k p l a = let x = a.0 in let y = a.1 in (omega (arith, l, x), omega (arith, l, y))

  inside-within : (at : ℕ) → at < length tree.boxes → ((k : ℕ) → at < k → k < length tree.boxes → IsCapped k) → AreWithin (lengths at + room_inside tree w cap at) (preferred tree w at)
  unfolding inline_in blocks_in
  inside-within at l below = by (inside_of tree at) refl
    where
      inner : AllByRecursion (λ i. AreWithin (room_of tree w cap i) (widths_of tree w i)) (content tree at)
      inner = All-implied (IsInside tree at) (λ i. AreWithin (room_of tree w cap i) (widths_of tree w i)) (content tree at)
          (λ i is. item-within i (λ m. below (box_of i) is.0 m) is.1) (content-inside tree at)

      kids : AllByRecursion (λ k. AreWithin (cap k) (outer tree w k)) (kids_of tree.boxes at)
      kids = All-implied (IsFrom tree.boxes (suc at)) (λ k. AreWithin (cap k) (outer tree w k)) (kids_of tree.boxes at)
          (λ k is. below k (let f = is.from in omega (arith, f)) is.within) (kids-within tree at (forest tree))

      by : (s : Inside) → inside_of tree at ≡ s → AreWithin (lengths at + room_inside tree w cap at) (preferred tree w at)
      by a_replaced e = subst (AreWithin (lengths at + room_inside tree w cap at)) (of-replaced tree w at l e)
          (more-within (lengths at) (lengths at + room_inside tree w cap at) (replaced tree w at) (omega arith) (replaced-size tree w (lengths at) at (fits at l).own))
      by inline_content e = subst (AreWithin (lengths at + room_inside tree w cap at)) (of-inline tree w at l e) held_by
        where
          held_by : AreWithin (lengths at + room_inside tree w cap at) (inline_in tree w at)
          held_by =
              let s = items-within (content tree at) inner in
              let s0 = s.0 in
              let s1 = s.1 in
              let room = ap (room_by tree w cap at) e in
              inline-within (lengths at + room_inside tree w cap at) (content tree at) (sized (widths_of tree w) (content tree at)) (omega (arith, s0, room)) (omega (arith, s1, room))
      by blocks e = subst (AreWithin (lengths at + room_inside tree w cap at)) (of-blocks tree w at l e) held_by
        where
          held_by : AreWithin (lengths at + room_inside tree w cap at) (blocks_in tree w at)
          held_by =
              let room = ap (room_by tree w cap at) e in
              children-within (is_floated_at tree) (outer tree w) cap (lengths at + room_inside tree w cap at) no_children (kids_of tree.boxes at) kids tt tt (omega (arith, room))

  capped-to : (levels at : ℕ) → at < length tree.boxes → length tree.boxes ≤ at + levels → IsCapped at
  capped-to zero at l s = absurd (omega arith)
  capped-to (suc levels) at l s = outer-within at l (inside-within at l (λ k a b. capped-to levels k b (omega (arith, a, s))))

  pub is-capped : (at : ℕ) → at < length tree.boxes → AreWithin (cap at) (outer tree w at)
  is-capped at l = capped-to (length tree.boxes) at l (omega arith)

  pub inside-capped : (at : ℕ) → at < length tree.boxes → AreWithin (lengths at + room_inside tree w cap at) (preferred tree w at)
  inside-capped at l = inside-within at l (λ k a b. is-capped k b)

  pub content-sizes : (at : ℕ) → at < length tree.boxes
      → (leasts (sized (widths_of tree w) (content tree at)) ≤ sum (map (room_of tree w cap) (content tree at))) × (mosts (sized (widths_of tree w) (content tree at)) ≤ sum (map (room_of tree w cap) (content tree at)))
  content-sizes at l = items-within (content tree at) (All-implied (IsInside tree at) (λ i. AreWithin (room_of tree w cap i) (widths_of tree w i)) (content tree at)
      (λ i is. item-within i (λ m. is-capped (box_of i) m) is.1) (content-inside tree at))

-- What each box costs by itself: what it has by itself and its text, as they reach, and one unit more for it and each of its characters.
use Rattle.std.proofs.Common.{◌≡◌, ℕ, ◌+◌, ◌*◌, ◌≤◌, true, false, ℤ, pos, ◌+ℤ◌, unsigned_abs, List, [], ◌∷◌, map, length, Option, Some, None, slice_get, refl, sym, subst, ap, ◌∙◌, arith}
use Rattle.std.specs.Prelude.{sum, sum_by, is_some, unwrap_or, chars}
use Rattle.std.specs.Int.{int_max}
use Rattle.std.specs.Option.{option_map_or, option_and_then}
use Rattle.std.proofs.Math.Nat.{mul-le-mul_left}
use Rattle.std.proofs.lemmas.Int.{ints}
use Rattle.std.proofs.lemmas.List.Sums.{sum_by-cons}
use Rattle.viz_base.specs.Reaches.{is_of_element, ratio, lengths_of, raise_extent, font_extent, intrinsic_extent, own_extent, text_extent, total_extent}
use Rattle.viz_base.specs.Trees.{is_fragmented, is_line, is_replaced}
use Rattle.viz_base.specs.declared.lengths.Length.{Length}
use Rattle.viz_base.specs.declared.lengths.Length.TheVariants as of_length
use Rattle.viz_base.specs.declared.styles.Style.{Style}
use Rattle.viz_base.specs.declared.trees.BoxNode.{BoxNode}
use Rattle.viz_base.specs.declared.trees.BoxTree.{BoxTree}
use Rattle.viz_base.specs.declared.trees.Kind.{Kind}
use Rattle.viz_base.specs.declared.trees.Kind.TheVariants as of_kind
use Rattle.viz_base.specs.declared.worlds.World.{World}
use Rattle.viz_base.proofs.ListLemmas.{slice_some}
use Rattle.layout_semantics.specs.Blocks.{kind_of, style_of}
use Rattle.layout_semantics.specs.InlineContent.{start_edges, end_edges}
use Rattle.layout_semantics.specs.Lengths.{used_if_absolute, maximum, clamped, total, own_style}
use Rattle.layout_semantics.specs.Preferred.{absolute_part, outer_width}
use Rattle.layout_semantics.specs.Replaced.{intrinsic, by_ratio, preferred_replaced}
use Rattle.layout_laws.proofs.Reaching.{ratio_least}
use Rattle.lay_preferred.proofs.SmallPages.{by_ratio-size}
use Rattle.lay_length.proofs.SmallExtents.{IsLowTree, IsElementOf, ext, own-is, style-of, by-groups}
use Rattle.lay_length.proofs.SmallFonts.{em-up}
use Rattle.lay_length.proofs.SmallNumbers.{size-max, size-between, clamped-from, clamped-to}
use Rattle.page_limits.proofs.WidthsLists.{costs, costs-both}
use Rattle.page_limits.proofs.WidthsTexts.{costs-sum, text-cost}
use Rattle.page_limits.proofs.WidthsOrder.{rank, rank-of-list}
use Rattle.page_limits.proofs.WidthsInside.{AreCosted}

-- ---- the ratio of a replaced box

-- the width that a replaced box has by its height, or else by itself
abbrev pub by_height : ℕ × ℕ → Option ℤ → ℤ
by_height size height = option_map_or (λ h. by_ratio h size.1 size.0) height (pos (64 * size.0))

pub by_height-size : (size : ℕ × ℕ) (v : Option ℤ) (n : ℕ) → ratio (Some size) * (unsigned_abs (unwrap_or v (pos 0)) + (64 * size.0 + 64 * size.1)) ≤ n → unsigned_abs (by_height size v) ≤ n + 1
by_height-size size None n l =
    let once : (0 + (64 * size.0 + 64 * size.1)) * 1 ≤ (0 + (64 * size.0 + 64 * size.1)) * ratio (Some size) = mul-le-mul_left (0 + (64 * size.0 + 64 * size.1)) (ratio_least (Some size)) in
    omega (arith, l, once)
by_height-size size (Some h) n l = by_ratio-size h size.0 size.1 n l (ratio_least (Some size))

-- ---- numbers

-- a number that is clamped is no larger than it was, or its minimum
pub clamped-size : (most : Option ℤ) (least h : ℤ) (n : ℕ) → unsigned_abs least ≤ n → unsigned_abs h ≤ n → unsigned_abs (clamped most least h) ≤ n
clamped-size most least h n l m = size-between least (int_max h least) (clamped most least h) n (clamped-from most least h) (clamped-to most least h) l (size-max h least n m l)

three : (a b c : ℤ) → unsigned_abs (a +ℤ (b +ℤ (c +ℤ pos 0))) ≤ unsigned_abs a + unsigned_abs b + unsigned_abs c
three a b c = omega (arith, ints)

six : (a b c d e f : ℤ) → unsigned_abs (a +ℤ (b +ℤ (c +ℤ (d +ℤ (e +ℤ (f +ℤ pos 0)))))) ≤ unsigned_abs a + unsigned_abs b + unsigned_abs c + (unsigned_abs d + unsigned_abs e + unsigned_abs f)
six a b c d e f = omega (arith, ints)

plus : (a b : ℤ) → unsigned_abs (a +ℤ b) ≤ unsigned_abs a + unsigned_abs b
plus a b = omega (arith, ints)

own-or : (o : Option ℤ) (x : ℤ) → unsigned_abs (unwrap_or o x) ≤ unsigned_abs (unwrap_or o (pos 0)) + unsigned_abs x
own-or None x = omega arith
own-or (Some v) x = omega arith

pub kind-at : (tree : BoxTree) (k : ℕ) (x : BoxNode) → slice_get tree.boxes k ≡ Some x → kind_of tree k ≡ x.kind
kind-at tree k x e = ap (λ (o : Option BoxNode). option_map_or (λ (b : BoxNode). b.kind) o of_kind.Block) e

pub style-at : (tree : BoxTree) (k : ℕ) (x : BoxNode) (s : Style) → slice_get tree.boxes k ≡ Some x → slice_get tree.styles x.node ≡ Some s → style_of tree k ≡ Some s
style-at tree k x s e f = ap (option_and_then (λ (b : BoxNode). slice_get tree.styles b.node)) e ∙ f

-- the box of an element has its style
pub own-style-at : (tree : BoxTree) (k : ℕ) (x : BoxNode) (s : Style) → IsElementOf tree k x s → own_style tree k ≡ Some s
own-style-at tree k x s b = by x.kind (kind-at tree k x b.place) b.element
  where
    by : (kind : Kind) → kind_of tree k ≡ kind → is_of_element kind ≡ true → own_style tree k ≡ Some s
    by of_kind.Block e t = rw e (style-at tree k x s b.place b.style)
    by of_kind.Float e t = rw e (style-at tree k x s b.place b.style)
    by of_kind.Atomic e t = rw e (style-at tree k x s b.place b.style)
    by of_kind.Replaced e t = rw e (style-at tree k x s b.place b.style)
    by of_kind.Inline e t = rw e (style-at tree k x s b.place b.style)
    by of_kind.Break e t = rw e (style-at tree k x s b.place b.style)
    by of_kind.Chars e t = absurd (cc)
    by of_kind.Anon e t = absurd (cc)
    by of_kind.Line e t = absurd (cc)

pub no-style-at : (tree : BoxTree) (k : ℕ) → kind_of tree k ≡ of_kind.Anon → own_style tree k ≡ None
no-style-at tree k e = rw e refl

pub replaced-kind : (kind : Kind) → is_replaced kind ≡ true → kind ≡ of_kind.Replaced
replaced-kind of_kind.Replaced t = refl
replaced-kind of_kind.Block t = absurd (cc)
replaced-kind of_kind.Anon t = absurd (cc)
replaced-kind of_kind.Float t = absurd (cc)
replaced-kind of_kind.Atomic t = absurd (cc)
replaced-kind of_kind.Inline t = absurd (cc)
replaced-kind of_kind.Chars t = absurd (cc)
replaced-kind of_kind.Line t = absurd (cc)
replaced-kind of_kind.Break t = absurd (cc)

module _ (tree : BoxTree) (low : IsLowTree tree) (w : World) (small : w.s ≤ 256) where
  abbrev pub far_of : Length → ℕ
  far_of = ext tree low w small

  abbrev pub own_of : BoxNode → ℕ
  own_of = own_extent tree.styles tree.parents tree.fonts

  abbrev pub text_part : BoxNode → ℕ
  text_part = text_extent tree.styles tree.parents tree.fonts

  -- an absolute length is within its extent
  pub absolute-size : (l : Length) → unsigned_abs (unwrap_or (used_if_absolute tree w l) (pos 0)) ≤ far_of l
  absolute-size of_length.Auto = omega arith
  absolute-size (of_length.Px c) = omega arith
  absolute-size (of_length.Em k node) = em-up tree.styles tree.parents w.s 256 small k node
  absolute-size (of_length.Pct p) = omega arith

  -- ---- the edges of a style

  abbrev pub edges_far : Style → ℕ
  edges_far s = far_of s.margin.left + far_of s.border.left + far_of s.padding.left + (far_of s.margin.right + far_of s.border.right + far_of s.padding.right)

  -- once of all lengths, beside so many times the height and the intrinsic size
  pub lengths-far : (k : ℕ) (x : BoxNode) (s : Style) → IsElementOf tree k x s → ratio x.size * (far_of s.height + intrinsic_extent x.size) + (edges_far s + far_of s.width + far_of s.min_width) ≤ own_of x
  lengths-far k x s b =
      let own = own-is tree low w small k x s b in
      let groups = by-groups tree low w small far_of s in
      let rest : ℕ = edges_far s + far_of s.width + far_of s.min_width in
      let inner : ℕ = sum (map far_of (lengths_of s)) + raise_extent tree.styles tree.parents tree.fonts x.node s.valign + font_extent tree.styles tree.parents tree.fonts x.node + intrinsic_extent x.size in
      let part : (far_of s.height + intrinsic_extent x.size) + rest ≤ inner = omega (arith, groups) in
      let grown : ratio x.size * ((far_of s.height + intrinsic_extent x.size) + rest) ≤ ratio x.size * inner = mul-le-mul_left (ratio x.size) part in
      let once : rest * 1 ≤ rest * ratio x.size = mul-le-mul_left rest (ratio_least x.size) in
      omega (arith, own, grown, once)

  abbrev outer_by : Style → ℤ → ℤ
  outer_by s inside = clamped (maximum (used_if_absolute tree w) s.max_width) (absolute_part tree w s.min_width) inside
      +ℤ total (map (absolute_part tree w) (s.margin.left ∷ s.border.left ∷ s.padding.left ∷ s.margin.right ∷ s.border.right ∷ s.padding.right ∷ []))

  outer_by-size : (s : Style) (inside : ℤ) (n : ℕ) → unsigned_abs inside ≤ n → far_of s.min_width ≤ n → unsigned_abs (outer_by s inside) ≤ n + edges_far s
  outer_by-size s inside n l m =
      let least = absolute-size s.min_width in
      let h = clamped-size (maximum (used_if_absolute tree w) s.max_width) (absolute_part tree w s.min_width) inside n (omega (arith, least, m)) l in
      let a = absolute-size s.margin.left in
      let b = absolute-size s.border.left in
      let c = absolute-size s.padding.left in
      let d = absolute-size s.margin.right in
      let e = absolute-size s.border.right in
      let f = absolute-size s.padding.right in
      let edges = six (absolute_part tree w s.margin.left) (absolute_part tree w s.border.left) (absolute_part tree w s.padding.left) (absolute_part tree w s.margin.right) (absolute_part tree w s.border.right) (absolute_part tree w s.padding.right) in
      let sum = plus (clamped (maximum (used_if_absolute tree w) s.max_width) (absolute_part tree w s.min_width) inside)
      (total (map (absolute_part tree w) (s.margin.left ∷ s.border.left ∷ s.padding.left ∷ s.margin.right ∷ s.border.right ∷ s.padding.right ∷ []))) in
      omega (arith, sum, h, edges, a, b, c, d, e, f)

  -- ---- boxes

  -- the box of an element or an anonymous box
  pub whole-outer : (k : ℕ) (x : BoxNode) → slice_get tree.boxes k ≡ Some x → is_fragmented (kind_of tree k) ≡ false → (y : ℤ) → unsigned_abs (outer_width tree w k y) ≤ own_of x + unsigned_abs y
  whole-outer k x place whole y = let s = style-of tree low w small k x place in by s.0 s.1 x.kind refl
    where
      by : (s : Style) → slice_get tree.styles x.node ≡ Some s → (kind : Kind) → x.kind ≡ kind → unsigned_abs (outer_width tree w k y) ≤ own_of x + unsigned_abs y
      by s style kind e = on kind e
        where
          all : is_of_element x.kind ≡ true → ratio x.size * (far_of s.height + intrinsic_extent x.size) + (edges_far s + far_of s.width + far_of s.min_width) ≤ own_of x
          all t = lengths-far k x s (record { place = place; style = style; element = t })

          sized : is_of_element x.kind ≡ true → unsigned_abs (outer_by s (unwrap_or (used_if_absolute tree w s.width) y)) ≤ own_of x + unsigned_abs y
          sized t =
              let far = all t in
              let wide = absolute-size s.width in
              let one = own-or (used_if_absolute tree w s.width) y in
              let o = outer_by-size s (unwrap_or (used_if_absolute tree w s.width) y) (far_of s.width + far_of s.min_width + unsigned_abs y) (omega (arith, one, wide)) (omega arith) in
              omega (arith, o, far)

          kept : is_of_element x.kind ≡ true → unsigned_abs (outer_by s y) ≤ own_of x + unsigned_abs y
          kept t =
              let far = all t in
              let o = outer_by-size s y (far_of s.min_width + unsigned_abs y) (omega arith) (omega arith) in
              omega (arith, o, far)

          on : (kind : Kind) → x.kind ≡ kind → unsigned_abs (outer_width tree w k y) ≤ own_of x + unsigned_abs y
          on of_kind.Block e = let kind = kind-at tree k x place ∙ e in let at = style-at tree k x s place style in let own = own-style-at tree k x s (record { place = place; style = style; element = ap is_of_element e }) in rw (kind, at, own) (sized (ap is_of_element e))
          on of_kind.Float e = let kind = kind-at tree k x place ∙ e in let at = style-at tree k x s place style in let own = own-style-at tree k x s (record { place = place; style = style; element = ap is_of_element e }) in rw (kind, at, own) (sized (ap is_of_element e))
          on of_kind.Atomic e = let kind = kind-at tree k x place ∙ e in let at = style-at tree k x s place style in let own = own-style-at tree k x s (record { place = place; style = style; element = ap is_of_element e }) in rw (kind, at, own) (sized (ap is_of_element e))
          on of_kind.Replaced e = let kind = kind-at tree k x place ∙ e in let at = style-at tree k x s place style in rw (kind, at) (kept (ap is_of_element e))
          on of_kind.Anon e = let kind = kind-at tree k x place ∙ e in let own = no-style-at tree k kind in rw (kind, own) (let h = clamped-size None (pos 0) y (unsigned_abs y) (omega arith) (omega arith) in let sum = plus (clamped None (pos 0) y) (pos 0) in omega (arith, h, sum))
          on of_kind.Line e = absurd (let none = (tree.ok.each k x place).no_line in let line = ap is_line e in cc)
          on of_kind.Inline e = absurd (let is : is_fragmented (kind_of tree k) ≡ true = ap is_fragmented (kind-at tree k x place ∙ e) in cc)
          on of_kind.Chars e = absurd (let is : is_fragmented (kind_of tree k) ≡ true = ap is_fragmented (kind-at tree k x place ∙ e) in cc)
          on of_kind.Break e = absurd (let is : is_fragmented (kind_of tree k) ≡ true = ap is_fragmented (kind-at tree k x place ∙ e) in cc)

  inline-edges : (k : ℕ) (x : BoxNode) → slice_get tree.boxes k ≡ Some x → x.kind ≡ of_kind.Inline
      → unsigned_abs (total (map (absolute_part tree w) (start_edges tree k))) + unsigned_abs (total (map (absolute_part tree w) (end_edges tree k))) ≤ own_of x
  inline-edges k x place e =
      let style = style-of tree low w small k x place in
      let s = style.0 in
      let own = own-style-at tree k x s (record { place = place; style = style.1; element = ap is_of_element e }) in
      let far = lengths-far k x s (record { place = place; style = style.1; element = ap is_of_element e }) in
      rw own (
      let a = absolute-size s.margin.left in
      let b = absolute-size s.border.left in
      let c = absolute-size s.padding.left in
      let d = absolute-size s.margin.right in
      let e = absolute-size s.border.right in
      let f = absolute-size s.padding.right in
      let left = three (absolute_part tree w s.margin.left) (absolute_part tree w s.border.left) (absolute_part tree w s.padding.left) in
      let right = three (absolute_part tree w s.margin.right) (absolute_part tree w s.border.right) (absolute_part tree w s.padding.right) in
      omega (arith, far, a, b, c, d, e, f, left, right))

  -- ---- replaced boxes

  abbrev replaced_by : Style → ℕ × ℕ → ℤ
  replaced_by s size = clamped (maximum (used_if_absolute tree w) s.max_width) (absolute_part tree w s.min_width) (unwrap_or (used_if_absolute tree w s.width) (by_height size (used_if_absolute tree w s.height)))

  replaced_by-size : (s : Style) (size : ℕ × ℕ) (n : ℕ) → ratio (Some size) * (far_of s.height + (64 * size.0 + 64 * size.1)) ≤ n → unsigned_abs (replaced_by s size) ≤ far_of s.min_width + far_of s.width + n + 1
  replaced_by-size s size n l =
      let tall = absolute-size s.height in
      let part : ratio (Some size) * (unsigned_abs (unwrap_or (used_if_absolute tree w s.height) (pos 0)) + (64 * size.0 + 64 * size.1)) ≤ ratio (Some size) * (far_of s.height + (64 * size.0 + 64 * size.1)) = mul-le-mul_left (ratio (Some size)) (omega (arith, tall)) in
      let by = by_height-size size (used_if_absolute tree w s.height) n (omega (arith, part, l)) in
      let wide = absolute-size s.width in
      let least = absolute-size s.min_width in
      let one = own-or (used_if_absolute tree w s.width) (by_height size (used_if_absolute tree w s.height)) in
      clamped-size (maximum (used_if_absolute tree w) s.max_width) (absolute_part tree w s.min_width) (unwrap_or (used_if_absolute tree w s.width) (by_height size (used_if_absolute tree w s.height)))
      (far_of s.min_width + far_of s.width + n + 1) (omega (arith, least)) (omega (arith, one, wide, by))

  -- its own width, and that with its edges
  pub record IsReplacedCosted (k : ℕ) (x : BoxNode) : Type 0 where
    pub around : unsigned_abs (outer_width tree w k (preferred_replaced tree w k)) ≤ own_of x + 1
    pub independent : unsigned_abs (preferred_replaced tree w k) ≤ own_of x + 1

  pub replaced-costed : (k : ℕ) (x : BoxNode) → slice_get tree.boxes k ≡ Some x → x.kind ≡ of_kind.Replaced → IsReplacedCosted k x
  replaced-costed k x place e = let s = style-of tree low w small k x place in by s.0 s.1 x.size refl
    where
      sized : is_some x.size ≡ true
      sized = (tree.ok.each k x place).size ∙ ap is_replaced e

      by : (s : Style) → slice_get tree.styles x.node ≡ Some s → (o : Option (ℕ × ℕ)) → x.size ≡ o → IsReplacedCosted k x
      by s style None f = absurd (let some = sized in let none : is_some x.size ≡ false = ap (λ (o : Option (ℕ × ℕ)). is_some o) f in cc)
      by s style (Some size) f =
          let b : IsElementOf tree k x s = record { place = place; style = style; element = ap is_of_element e } in
          let kind = kind-at tree k x place ∙ e in
          let at = style-at tree k x s place style in
          let own = own-style-at tree k x s b in
          let is : intrinsic tree k ≡ size = ap (λ (o : Option BoxNode). unwrap_or (option_and_then (λ (y : BoxNode). y.size) o) (0, 0)) place ∙ ap (λ (o : Option (ℕ × ℕ)). unwrap_or o (0, 0)) f in
          let far = subst (λ (o : Option (ℕ × ℕ)). ratio o * (far_of s.height + intrinsic_extent o) + (edges_far s + far_of s.width + far_of s.min_width) ≤ own_of x) f (lengths-far k x s b) in
          let n : ℕ = ratio (Some size) * (far_of s.height + (64 * size.0 + 64 * size.1)) in
          let r = replaced_by-size s size n (omega arith) in
          let same : preferred_replaced tree w k ≡ replaced_by s size = rw (own, is) refl in
          let o = outer_by-size s (replaced_by s size) (far_of s.min_width + far_of s.width + n + 1) r (omega arith) in
          record {
            around = subst (λ z. unsigned_abs (outer_width tree w k z) ≤ own_of x + 1) (sym same) (rw (kind, at) (omega (arith, o, far)));
            independent = subst (λ z. unsigned_abs z ≤ own_of x + 1) (sym same) (omega (arith, r, far));
          }

  -- ---- all boxes

  abbrev pub cost_of : BoxNode → ℕ
  cost_of x = own_of x + text_part x + (length (chars x.chars) + 1)

  abbrev pub cost_at : ℕ → ℕ
  cost_at k = option_map_or cost_of (slice_get tree.boxes k) 0

  cost-is : (k : ℕ) (x : BoxNode) → slice_get tree.boxes k ≡ Some x → cost_at k ≡ cost_of x
  cost-is k x e = ap (λ (o : Option BoxNode). option_map_or cost_of o 0) e

  same-kind : (k : ℕ) (x : BoxNode) (kind : Kind) → slice_get tree.boxes k ≡ Some x → kind_of tree k ≡ kind → x.kind ≡ kind
  same-kind k x kind e f = sym (kind-at tree k x e) ∙ f

  pub are-costed : AreCosted tree w cost_at
  are-costed = record {
    texts = λ k l e room words spaces. (let x = slice_some tree.boxes k l in let is = cost-is k x.0 x.1 in let all = text-cost tree w small k x.0 room x.1 words spaces in omega (arith, is, all));
    inlines = λ k l e. (let x = slice_some tree.boxes k l in let is = cost-is k x.0 x.1 in let all = inline-edges k x.0 x.1 (same-kind k x.0 of_kind.Inline x.1 e) in omega (arith, is, all));
    whole = λ k l e y. (let x = slice_some tree.boxes k l in let is = cost-is k x.0 x.1 in let all = whole-outer k x.0 x.1 e y in omega (arith, is, all));
    replaced = λ k l e. (let x = slice_some tree.boxes k l in let is = cost-is k x.0 x.1 in let all = (replaced-costed k x.0 x.1 (same-kind k x.0 of_kind.Replaced x.1 e)).around in omega (arith, is, all));
    independent = λ k l e. (let x = slice_some tree.boxes k l in let is = cost-is k x.0 x.1 in let all = (replaced-costed k x.0 x.1 (same-kind k x.0 of_kind.Replaced x.1 e)).independent in omega (arith, is, all));
  }

  -- ---- together

  letters : (bs : List BoxNode) → costs (λ (x : BoxNode). length (chars x.chars) + 1) bs ≡ sum_by (λ (x : BoxNode). length (chars x.chars)) bs + length bs
  letters [] = refl
  letters (b ∷ bs) = let all = sum_by-cons (λ (x : BoxNode). length (chars x.chars)) b bs in let rest = letters bs in omega (arith, all, rest)

  -- less than the whole page reaches
  pub all-cost : length tree.boxes ≤ 16384 → sum_by (λ (x : BoxNode). length (chars x.chars)) tree.boxes ≤ 524288 → rank cost_at (length tree.boxes) ≤ total_extent tree.styles tree.parents tree.fonts tree.boxes
  all-cost few short =
      let all = rank-of-list cost_of tree.boxes in
      let parts = costs-both (λ (x : BoxNode). own_of x + text_part x) (λ (x : BoxNode). length (chars x.chars) + 1) tree.boxes in
      let far = costs-sum (λ (x : BoxNode). own_of x + text_part x) tree.boxes in
      let rest = letters tree.boxes in
      omega (arith, all, parts, far, rest, few, short)

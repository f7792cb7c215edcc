-- The inline content of a block container is small where the terms of its boxes are, and the boxes apart stay within bounds.
use Rattle.std.proofs.Common.{◌≡◌, inl, inr, ℕ, suc, ◌+◌, ◌-◌, ◌*◌, ◌≤◌, ℤ, pos, negsuc, ◌+ℤ◌, ◌-ℤ◌, unsigned_abs, Bool, true, false, ◌||◌, List, [], ◌∷◌, ◌++◌, length, Contains, Option, Some, None, refl, sym, ◌∙◌, ap, subst, arith}
use Rattle.std.specs.Prelude.{◌==◌, min, if◌then◌else◌}
use Rattle.std.specs.Int.{int_min}
use Rattle.std.specs.List.{AllByRecursion}
use Rattle.std.specs.Option.{option_map_or, option_to_list}
use Rattle.std.proofs.lemmas.Bool.Decides.{nat_tests}
use Rattle.std.proofs.lemmas.Int.{ints, clamps}
use Rattle.viz_base.specs.Numbers.{floor_of}
use Rattle.viz_base.specs.Styles.{sides_of}
use Rattle.viz_base.specs.Trees.{is_inline}
use Rattle.viz_base.specs.declared.layouts.Extent.{Extent}
use Rattle.viz_base.specs.declared.layouts.Inner.{Inner}
use Rattle.viz_base.specs.declared.layouts.Widths.{Widths}
use Rattle.viz_base.specs.declared.lengths.Length.{Length}
use Rattle.viz_base.specs.declared.lengths.Valign.{Valign}
use Rattle.viz_base.specs.declared.lengths.Valign.TheVariants as of_valign
use Rattle.viz_base.specs.declared.styles.Style.{Style}
use Rattle.viz_base.specs.declared.trees.BoxTree.{BoxTree}
use Rattle.viz_base.specs.declared.worlds.World.{World}
use Rattle.layout_semantics.specs.Blocks.{kind_of, node_of, parent_of}
use Rattle.layout_semantics.specs.Flow.{Independent}
use Rattle.layout_semantics.specs.FlowBoxes.{is_replaced_at, content_from, room}
use Rattle.layout_semantics.specs.Fonts.{text_width}
use Rattle.layout_semantics.specs.Horizontal.{widths}
use Rattle.layout_semantics.specs.InlineContent.{Item, start, finish, word, space, atomic, forced, float, an_inline, sort_of, text_of, content, inner_boxes, is_floated_at}
use Rattle.layout_semantics.specs.Lengths.{own as own_of, used, margins, borders, paddings}
use Rattle.layout_semantics.specs.LineFilling.{item_width, band_width, float_size}
use Rattle.layout_semantics.specs.LineHeights.{InlineContext, LineExtent, inner_of, height_of_extent, inline_extent, box_extent, extent_in_line, shift, inline_shift}
use Rattle.layout_semantics.specs.Order.{IsOnPage}
use Rattle.layout_semantics.proofs.Pages.{forest, within-page}
use Rattle.layout_laws.proofs.Greatest.{All-at}
use Rattle.layout_laws.proofs.Levels.{IsFrom, All-implied, inner_boxes-from}
use Rattle.lay_steps.specs.Flow.{inner_size, inner_table}
use Rattle.lay_steps.proofs.Sound.{IsSound}
use Rattle.page_limits.specs.Bounds.{Bounds, IsLevelIn}
use Rattle.page_limits.specs.Boxes.{IsBoxSmall, IsWhole, IsIndependentIn, IsPartOf, middle_of, IsInlineBoxSmall}
use Rattle.page_limits.specs.Inline.{IsSmall, IsAtomIn, IsFontSmall, IsInlineSmall, IsTextSmall, IsFloatSmall, IsItemBoxSmall, IsItemSmall, IsContentSmall}
use Rattle.page_limits.specs.Loads.{greatest_length}
use Rattle.page_limits.proofs.ContentBoxes.{IsIn, ItemIn, content-items, IsClampedIn, clamped-in, IsNoInline, no-inlines, is-inline}
use Rattle.page_limits.proofs.InnerTables.{clamped, not-clamped}
use Rattle.page_limits.specs.Raises.{AreRaisedBy}
use Rattle.page_limits.proofs.Raised.{around, IsInLines, inline-raised, around-raised, other-raised}
use Rattle.page_limits.proofs.InLines.{IsItemInLines, content-in-lines}
use Rattle.page_limits.proofs.ContentWithin.{line_context}
use Rattle.page_limits.proofs.PageWithin.{base_of, turned_of}

module _ (tree : BoxTree) (w : World) where
  -- ---- a box apart, as it stands in a line

  record IsInnerOf (own : Bounds) (a : Independent) (i : Inner ℤ) : Type 0 where
    wide : i.width ≡ a.size.width
    above : IsLevelIn own i.above
    tall : i.above +ℤ i.below ≡ a.size.height

  inner-of : (own : Bounds) (apart : ℕ → Independent) (k : ℕ) → IsIndependentIn own greatest_length (apart k) → IsInnerOf own (apart k) (inner_size tree w apart k)
  unfolding inner_size
  inner-of own apart k h = by (is_floated_at tree k || is_replaced_at tree k || own_of tree k (λ (s : Style). s.clips) false) (apart k).baseline refl refl h.baseline
    where
      whole : (h z : ℤ) → z +ℤ (h -ℤ z) ≡ h
      whole h z = omega (arith, ints)

      by : (t : Bool) (o : Option ℤ) → (is_floated_at tree k || is_replaced_at tree k || own_of tree k (λ (s : Style). s.clips) false) ≡ t → (apart k).baseline ≡ o → AllByRecursion (IsLevelIn own) (option_to_list o)
          → IsInnerOf own (apart k) (inner_size tree w apart k)
      by false (Some y) e f b = rw (e, f, inner_size) (record { wide = refl; above = b.0; tall = whole (apart k).size.height y })
      by false None e f b = rw (e, f, inner_size) (record { wide = refl; above = h.height; tall = whole (apart k).size.height (apart k).size.height })
      by true o e f b = rw (e, inner_size) (record { wide = refl; above = h.height; tall = whole (apart k).size.height (apart k).size.height })

  half-in : (b : Bounds) (h : ℤ) → IsLevelIn b h → IsLevelIn b (floor_of h 2)
  half-in b (pos n) l = let u = l.bottom in record { top = omega (arith, ints); bottom = omega (arith, ints) }
  half-in b (negsuc n) l = let t = l.top in record { top = omega (arith, ints); bottom = omega (arith, ints) }

  -- an atomic box whose extents are near its base
  atom-by : (own : Bounds) (base above below h : ℤ) (t : ℕ) → 8 * t ≤ greatest_length → IsLevelIn own base → unsigned_abs (above -ℤ base) ≤ t → above +ℤ below ≡ h → IsLevelIn own h
      → let n = min (unsigned_abs (int_min base (pos 0))) own.up in IsAtomIn own (record { up = own.up - n; down = own.down + n; aside = own.aside }) greatest_length (record { above = above; below = below })
  atom-by own (pos b) above below h t fine l near e i =
      let u = l.bottom in let v = i.bottom in
      let none : min (unsigned_abs (int_min (pos b) (pos 0))) own.up ≡ 0 = omega (arith, ints, clamps) in
      record {
        turn = min (unsigned_abs (int_min (pos b) (pos 0))) own.up;
        up = omega (arith, none);
        down = omega arith;
        aside = omega arith;
        from = omega (arith, ints, near, none, fine);
        lifted = inl none;
        to = omega (arith, ints, near, fine);
        tall = omega (arith, ints, e);
      }
  atom-by own (negsuc b) above below h t fine l near e i =
      let u = l.top in let v = i.bottom in
      let some : min (unsigned_abs (int_min (negsuc b) (pos 0))) own.up ≡ suc b = omega (arith, ints, clamps) in
      record {
        turn = min (unsigned_abs (int_min (negsuc b) (pos 0))) own.up;
        up = omega (arith, some, ints);
        down = omega arith;
        aside = omega arith;
        from = omega (arith, ints, near, some, fine);
        lifted = inr (omega (arith, ints, near, some, fine));
        to = omega (arith, ints, near, fine);
        tall = omega (arith, ints, e);
      }

  -- ---- the content

  module _ (t : ℕ) (fine : 8 * t ≤ greatest_length) (boxes : (k : ℕ) → IsOnPage tree.boxes k → IsWhole tree k → IsBoxSmall tree w t k) (terms : (k : ℕ) → IsOnPage tree.boxes k → IsInlineBoxSmall tree w t k)
      (raises : ℕ → ℕ) (raised : AreRaisedBy tree w raises) (few_raises : (k : ℕ) → IsOnPage tree.boxes k → raises k ≤ t)
      (own : ℕ → Bounds) (apart : ℕ → Independent) (independent_in : (k : ℕ) → IsIndependentIn (own k) greatest_length (apart k)) (k : ℕ) (left wide : ℤ) (sound : IsSound tree w k wide) where
    abbrev turned : ℕ → Bounds
    turned = turned_of tree w apart own

    abbrev c : InlineContext
    c = line_context tree w own turned greatest_length t fine boxes apart independent_in k left wide

    abbrev inside : ℤ
    inside = (widths tree w k wide).content

    abbrev inner_at : ℕ → Inner ℤ
    inner_at j = inner_size tree w apart j

    raise-small : (at : ℕ) → IsOnPage tree.boxes at → IsInLines tree k at → IsSmall t (inline_shift c at)
    raise-small at p l =
        let own_is = inline-raised tree w raises raised k c.inner c.cb at p l in
        let most_is = few_raises at p in
        omega (arith, own_is, most_is)

    -- the box around one in the lines is raised by no more
    around-small : (at q : ℕ) → IsOnPage tree.boxes at → IsInLines tree k at → parent_of tree.boxes at ≡ Some q → IsSmall t (inline_shift c q)
    around-small at q p l e = by (is_inline (kind_of tree q)) (around-raised tree w raises raised k c.inner c.cb at q p l e) (few_raises q (around tree at q p e))
      where
        by : (b : Bool) → unsigned_abs (inline_shift c q) ≤ (if b then raises q else 0) → raises q ≤ t → IsSmall t (inline_shift c q)
        by true own_is most_is = omega (arith, own_is, most_is)
        by false own_is most_is = omega (arith, own_is)

    shift-small : (at : ℕ) (e : LineExtent) → IsOnPage tree.boxes at → IsInLines tree k at → (at == k) ≡ false → IsSmall t (shift c at e -ℤ middle_of c at e)
    shift-small at e p l apart_is =
        let own_is = other-raised tree w raises raised k c.inner c.cb at e p l apart_is in
        let most_is = few_raises at p in
        omega (arith, own_is, most_is)

    band-is : band_width c.cb ≡ inside
    band-is = by left (widths tree w k wide)
      where
        by : (left : ℤ) (x : Widths ℤ) → band_width (content_from left x) ≡ x.content
        by left x = omega (arith, ints)

    edges-small : (at : ℕ) → IsIn tree w inside at → (ls : List Length) → AllByRecursion (λ length. IsSmall t (used tree w length (room tree w at))) ls → AllByRecursion (λ length. IsSmall t (used tree w length (band_width c.cb))) ls
    edges-small at i ls a = subst (λ (z : ℤ). AllByRecursion (λ length. IsSmall t (used tree w length z)) ls) (i.room ∙ sym band-is) a

    more : (ls : List Length) → AllByRecursion (λ length. IsSmall t (used tree w length (band_width c.cb))) ls → AllByRecursion (λ length. IsSmall greatest_length (used tree w length (band_width c.cb))) ls
    more ls a = All-implied (λ length. IsSmall t (used tree w length (band_width c.cb))) (λ length. IsSmall greatest_length (used tree w length (band_width c.cb))) ls (λ l h. omega (arith, h, fine)) a

    three : (x y z : ℤ) → unsigned_abs x ≤ t → unsigned_abs y ≤ t → unsigned_abs z ≤ t → unsigned_abs (x +ℤ (y +ℤ (z +ℤ pos 0))) ≤ greatest_length
    three x y z a b d = omega (arith, ints, a, b, d, fine)

    inline-kind : (at : ℕ) → sort_of tree at ≡ an_inline → is_inline (kind_of tree at) ≡ true
    inline-kind at e = is-inline tree w (is_floated_at tree at) (kind_of tree at) e

    start-width : (at : ℕ) → IsIn tree w inside at → sort_of tree at ≡ an_inline → IsSmall greatest_length (item_width c (start at))
    start-width at i s =
        let e = edges-small at i (sides_of (paddings tree at) ++ (sides_of (borders tree at) ++ sides_of (margins tree at))) ((terms at i.page).edges (inline-kind at s)) in
        three (used tree w (margins tree at).left (band_width c.cb)) (used tree w (borders tree at).left (band_width c.cb)) (used tree w (paddings tree at).left (band_width c.cb)) e.1.1.1.1.1.1.1.1.1.1.1.0 e.1.1.1.1.1.1.1.0 e.1.1.1.0

    finish-width : (at : ℕ) → IsIn tree w inside at → sort_of tree at ≡ an_inline → IsSmall greatest_length (item_width c (finish at))
    finish-width at i s =
        let e = edges-small at i (sides_of (paddings tree at) ++ (sides_of (borders tree at) ++ sides_of (margins tree at))) ((terms at i.page).edges (inline-kind at s)) in
        three (used tree w (margins tree at).right (band_width c.cb)) (used tree w (borders tree at).right (band_width c.cb)) (used tree w (paddings tree at).right (band_width c.cb)) e.1.1.1.1.1.1.1.1.1.0 e.1.1.1.1.1.0 e.1.0

    font-small : (at : ℕ) → IsOnPage tree.boxes at → IsFontSmall c own turned greatest_length at
    font-small at p = let a = (terms at p).ascent in let d = (terms at p).descent in record { ascent = omega (arith, a, fine); descent = omega (arith, d, fine) }

    no-inner : (at : ℕ) → sort_of tree at ≡ an_inline → inner_of c at ≡ None
    unfolding IsNoInline inner_table
    no-inner at e = not-clamped inner_at at (length tree.boxes) (inner_boxes tree k) (λ a. All-at (IsNoInline tree w) (inner_boxes tree k) at (no-inlines tree w inside (content tree k) (content-items tree w k wide sound)) a e)

    inline-small : (at : ℕ) → IsIn tree w inside at → IsInLines tree k at → sort_of tree at ≡ an_inline → IsInlineSmall c own turned greatest_length at
    inline-small at i l e =
        let x = terms at i.page in
        let a = x.above in
        let b = x.below in
        let r = raise-small at i.page l in
        let own_is = inline_extent tree w (node_of tree at) in
        let same : box_extent c at ≡ own_is = ap (λ (o : Option (Inner ℤ)). option_map_or (λ (j : Inner ℤ). made j.above j.below) o own_is) (no-inner at e) in
        let both = subst (λ (z : LineExtent). unsigned_abs (z.above +ℤ shift c at z) ≤ greatest_length × unsigned_abs (z.below -ℤ shift c at z) ≤ greatest_length) (sym same) (omega (arith, ints, a, r, fine), omega (arith, ints, b, r, fine)) in
        record {
          above = both.0;
          below = both.1;
          shift = omega (arith, r, fine);
          font = font-small at i.page;
          edges = more (sides_of (paddings tree at) ++ (sides_of (borders tree at) ++ sides_of (margins tree at))) (edges-small at i (sides_of (paddings tree at) ++ (sides_of (borders tree at) ++ sides_of (margins tree at))) (x.edges (inline-kind at e)));
        }
      where
        made : ℤ → ℤ → LineExtent
        made x y = record { above = x; below = y }

    text-small : (at : ℕ) → IsOnPage tree.boxes at → IsInLines tree k at → IsTextSmall c own turned greatest_length at
    text-small at p l = record { shift = by (parent_of tree.boxes at) refl; font = font-small at p }
      where
        by : (o : Option ℕ) → parent_of tree.boxes at ≡ o → IsSmall greatest_length (option_map_or (inline_shift c) o (pos 0))
        by None e = omega arith
        by (Some q) e = let r = around-small at q p l e in omega (arith, r, fine)

    width-small : (at : ℕ) (part : List ℕ) → IsOnPage tree.boxes at → IsPartOf part (text_of tree at) → IsSmall greatest_length (text_width tree w (node_of tree at) part)
    width-small at part p q = let x = (terms at p).text part q in omega (arith, x, fine)

    inner-clamped : (at : ℕ) → IsOnPage tree.boxes at → Contains (inner_boxes tree k) at → inner_of c at ≡ Some (inner_at at)
    unfolding inner_table
    inner-clamped at p a = clamped inner_at at (length tree.boxes) (inner_boxes tree k) (within-page tree at p) a

    atom-width : (at : ℕ) → IsOnPage tree.boxes at → Contains (inner_boxes tree k) at → IsSmall greatest_length (item_width c (atomic at))
    atom-width at p a =
        let i = inner-of (own at) apart at (independent_in at) in
        let w_ = (independent_in at).width in
        subst (λ (o : Option (Inner ℤ)). unsigned_abs (option_map_or (λ (j : Inner ℤ). j.width) o (pos 0)) ≤ greatest_length) (sym (inner-clamped at p a))
        (subst (λ (z : ℤ). unsigned_abs z ≤ greatest_length) (sym i.wide) w_)

    float-small : (at : ℕ) → IsOnPage tree.boxes at → Contains (inner_boxes tree k) at → IsFloatSmall c own turned greatest_length at
    float-small at p a =
        let i = inner-of (own at) apart at (independent_in at) in
        let w_ = (independent_in at).width in
        let h = (independent_in at).height in
        let same : float_size c at ≡ sized (inner_at at).width ((inner_at at).above +ℤ (inner_at at).below) = ap (λ (o : Option (Inner ℤ)). option_map_or (λ (j : Inner ℤ). sized j.width (j.above +ℤ j.below)) o (sized (pos 0) (pos 0))) (inner-clamped at p a) in
        record {
          width = subst (λ (x : Extent ℤ). unsigned_abs x.width ≤ greatest_length) (sym same) (subst (λ (z : ℤ). unsigned_abs z ≤ greatest_length) (sym i.wide) w_);
          height = subst (λ (x : Extent ℤ). IsLevelIn (own at) x.height) (sym same) (subst (IsLevelIn (own at)) (sym i.tall) h);
        }
      where
        sized : ℤ → ℤ → Extent ℤ
        sized x y = record { width = x; height = y }

    -- by its own middle, or by its baseline
    atom-in : (at : ℕ) → IsOnPage tree.boxes at → IsInLines tree k at → Contains (inner_boxes tree k) at → (at == k) ≡ false → IsAtomIn (own at) (turned at) greatest_length (extent_in_line c at)
    atom-in at p l a apart_is =
        let i = inner-of (own at) apart at (independent_in at) in
        let e : LineExtent = made (inner_at at).above (inner_at at).below in
        let same : box_extent c at ≡ e = ap (λ (o : Option (Inner ℤ)). option_map_or (λ (j : Inner ℤ). made j.above j.below) o (inline_extent tree w (node_of tree at))) (inner-clamped at p a) in
        subst (λ (z : LineExtent). IsAtomIn (own at) (turned at) greatest_length (made (z.above +ℤ shift c at z) (z.below -ℤ shift c at z))) (sym same)
        (by (own_of tree at (λ (s : Style). s.valign) of_valign.Baseline) refl i (shift-small at e p l apart_is))
      where
        made : ℤ → ℤ → LineExtent
        made x y = record { above = x; below = y }

        sums : (x y z : ℤ) → (x +ℤ z) +ℤ (y -ℤ z) ≡ x +ℤ y
        sums x y z = omega (arith, ints)

        by_base : (base : ℤ) → base_of tree w apart at ≡ base → IsLevelIn (own at) base → let e = made (inner_at at).above (inner_at at).below in unsigned_abs ((e.above +ℤ shift c at e) -ℤ base) ≤ t
            → IsInnerOf (own at) (apart at) (inner_at at) → IsAtomIn (own at) (turned at) greatest_length (made (e.above +ℤ shift c at e) (e.below -ℤ shift c at e))
        by_base base f l near i =
            let e = made (inner_at at).above (inner_at at).below in
            subst (λ (z : ℤ). IsAtomIn (own at) (record { up = (own at).up - min (unsigned_abs (int_min z (pos 0))) (own at).up; down = (own at).down + min (unsigned_abs (int_min z (pos 0))) (own at).up; aside = (own at).aside }) greatest_length (made (e.above +ℤ shift c at e) (e.below -ℤ shift c at e))) (sym f)
            (atom-by (own at) base (e.above +ℤ shift c at e) (e.below -ℤ shift c at e) (apart at).size.height t fine l near (sums e.above e.below (shift c at e) ∙ i.tall) (independent_in at).height)

        by_other : IsInnerOf (own at) (apart at) (inner_at at) → base_of tree w apart at ≡ (inner_at at).above → let e = made (inner_at at).above (inner_at at).below in middle_of c at e ≡ pos 0 → IsSmall t (shift c at e -ℤ middle_of c at e)
            → IsAtomIn (own at) (turned at) greatest_length (made (e.above +ℤ shift c at e) (e.below -ℤ shift c at e))
        by_other i b m h =
            let e = made (inner_at at).above (inner_at at).below in
            by_base (inner_at at).above b i.above (near e.above (shift c at e) (middle_of c at e) m h) i
          where
            near : (x z m : ℤ) → m ≡ pos 0 → unsigned_abs (z -ℤ m) ≤ t → unsigned_abs ((x +ℤ z) -ℤ x) ≤ t
            near x z m d h = omega (arith, ints, d, h)

        by : (v : Valign) → own_of tree at (λ (s : Style). s.valign) of_valign.Baseline ≡ v → IsInnerOf (own at) (apart at) (inner_at at)
            → let e = made (inner_at at).above (inner_at at).below in IsSmall t (shift c at e -ℤ middle_of c at e) → IsAtomIn (own at) (turned at) greatest_length (made (e.above +ℤ shift c at e) (e.below -ℤ shift c at e))
        by of_valign.Middle f i h =
            let e = made (inner_at at).above (inner_at at).below in
            let middle : middle_of c at e ≡ floor_of (height_of_extent e) 2 -ℤ e.above = rw f refl in
            let base : base_of tree w apart at ≡ floor_of (apart at).size.height 2 = rw f refl in
            let tall : floor_of (height_of_extent e) 2 ≡ floor_of (apart at).size.height 2 = ap (λ (z : ℤ). floor_of z 2) i.tall in
            by_base (floor_of (apart at).size.height 2) base (half-in (own at) (apart at).size.height (independent_in at).height) (near e.above (shift c at e) (middle_of c at e) (floor_of (height_of_extent e) 2) (floor_of (apart at).size.height 2) middle tall h) i
          where
            near : (x z m f g : ℤ) → m ≡ f -ℤ x → f ≡ g → unsigned_abs (z -ℤ m) ≤ t → unsigned_abs ((x +ℤ z) -ℤ g) ≤ t
            near x z m f g d e h = omega (arith, ints, d, e, h)
        by of_valign.Baseline f i h = by_other i (rw f refl) (rw f refl) h
        by of_valign.Sub f i h = by_other i (rw f refl) (rw f refl) h
        by of_valign.Super f i h = by_other i (rw f refl) (rw f refl) h
        by (of_valign.Raise length) f i h = by_other i (rw f refl) (rw f refl) h

    -- ---- each item

    apart-from : (at : ℕ) → Contains (inner_boxes tree k) at → (at == k) ≡ false
    apart-from at a = by (at == k) refl (All-at (IsFrom tree.boxes (suc k)) (inner_boxes tree k) at (inner_boxes-from tree k (forest tree)) a).from
      where
        by : (b : Bool) → (at == k) ≡ b → suc k ≤ at → b ≡ false
        by false e l = refl
        by true e l = absurd (let same : at ≡ k = grind (arith, nat_tests) in omega arith)

    item-small : (i : Item) → ItemIn tree w inside i → IsClampedIn tree w (inner_boxes tree k) i → IsItemInLines tree k i → IsItemSmall c own turned greatest_length i
    unfolding ItemIn IsItemBoxSmall
    item-small (start at) p h l = record { width = start-width at p.0 p.1; box = inline-small at p.0 l p.1 }
    item-small (finish at) p h l = record { width = finish-width at p.0 p.1; box = tt }
    item-small (word at part) p h l = record { width = width-small at part p.0.page p.1; box = text-small at p.0.page l }
    item-small (space at) p h l = record { width = width-small at (32 ∷ []) p.0.page p.1; box = text-small at p.0.page l }
    item-small (atomic at) p h l = record { width = atom-width at p.0.page h; box = atom-in at p.0.page l h (apart-from at h) }
    item-small (forced at) p h l = record { width = omega arith; box = tt }
    item-small (float at) p h l = record { width = omega arith; box = float-small at p.0.page h }

    all-small : (items : List Item) → AllByRecursion (ItemIn tree w inside) items → AllByRecursion (IsClampedIn tree w (inner_boxes tree k)) items → AllByRecursion (IsItemInLines tree k) items
        → AllByRecursion (IsItemSmall c own turned greatest_length) items
    all-small [] a b d = tt
    all-small (i ∷ items) a b d = (item-small i a.0 b.0 d.0, all-small items a.1 b.1 d.1)

    pub content-small : IsContentSmall c own turned greatest_length
    content-small =
        let x = terms k sound.page in
        let a = x.above in
        let b = x.below in
        record {
          items = all-small (content tree k) (content-items tree w k wide sound) (clamped-in tree w (inner_boxes tree k) (content tree k) (λ x a. a)) (content-in-lines tree k);
          above = omega (arith, a, fine);
          below = omega (arith, b, fine);
        }

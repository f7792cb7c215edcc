-- What the properties of a box of a page give up and down is small.
use Rattle.std.proofs.Common.{◌≡◌, ℕ, ◌+◌, ◌*◌, ◌^◌, ◌≤◌, ◌/◌, ◌<◌, min, max, Bool, true, false, ◌==◌, ◌||◌, ℤ, pos, map, sum, Option, Some, None, unsigned_abs, slice_get, refl, sym, ap, ◌∙◌, subst, arith, if◌then◌else◌}
use Rattle.std.specs.Prelude.{unwrap_or, is_some}
use Rattle.std.specs.Option.{option_map_or, option_and_then}
use Rattle.std.proofs.Math.Nat.{mul-le-mul_left, div-mul-le_self, le-div_iff_mul-le}
use Rattle.viz_base.specs.Reaches.{whole, quotient_up, is_of_element, ratio, growth, box_growth, own_extent, intrinsic_extent, lengths_of, raise_extent, font_extent}
use Rattle.viz_base.specs.declared.lengths.Length.{Length}
use Rattle.viz_base.specs.declared.styles.Style.{Style}
use Rattle.viz_base.specs.declared.trees.BoxNode.{BoxNode}
use Rattle.viz_base.specs.declared.trees.BoxTree.{BoxTree}
use Rattle.viz_base.specs.declared.worlds.World.{World}
use Rattle.layout_semantics.specs.DefiniteHeights.{least_height, height_around, given_height, definite_height}
use Rattle.layout_semantics.specs.FlowBoxes.{room}
use Rattle.layout_semantics.specs.Lengths.{used, maximum, clamped, own, own_style}
use Rattle.layout_semantics.specs.Replaced.{intrinsic, by_ratio, replaced_size, replaced_height}
use Rattle.layout_laws.specs.Terms.{own_width, own_maximum, own_minimum}
use Rattle.layout_laws.proofs.Reaching.{ratio_least}
use Rattle.layout_laws.proofs.TreeFacts.{slice_in}
use Rattle.lay_preferred.proofs.SmallPages.{up-covers, by_ratio-size}
use Rattle.lay_length.proofs.SmallExtents.{IsElementOf, own-is, own_low, by-groups, style-of}
use Rattle.page_limits.proofs.WidthsCosts.{clamped-size, own-style-at, replaced-kind, lengths-far}
use Rattle.page_limits.proofs.WidthsTerms.{IsTerm, HasTerms, far, term-cost, width_in, min_width_in, height_in, used-of, style-terms}
use Rattle.page_limits.proofs.WidthsLevels.{IsFarPage, HasLevel, near-times, height-near, least_height-near}
use Rattle.page_limits.proofs.WidthsPage.{IsBoxOn, bounded}

-- ---- ratios

ratio-swap : (a b : ℕ) → ratio (Some (b, a)) ≡ ratio (Some (a, b))
ratio-swap a b = by (a == 0) (b == 0)
  where
    same : quotient_up (max b a) (min b a) ≡ quotient_up (max a b) (min a b)
    same = let m : max b a ≡ max a b = omega arith in let n : min b a ≡ min a b = omega arith in ap (λ x. quotient_up x (min b a)) m ∙ ap (quotient_up (max a b)) n

    by : (x y : Bool) → (if y || x then 1 else quotient_up (max b a) (min b a)) ≡ (if x || y then 1 else quotient_up (max a b) (min a b))
    by true true = refl
    by true false = refl
    by false true = refl
    by false false = same

-- a height that follows from a width is at most so many times as large, and the intrinsic one
pub by_width-size : (v : ℤ) (size : ℕ × ℕ) → unsigned_abs (by_ratio v size.0 size.1) ≤ ratio (Some size) * (unsigned_abs v + (64 * size.0 + 64 * size.1)) + 1
by_width-size v size =
    let swap = ratio-swap size.0 size.1 in
    let least = ratio_least (Some (size.1, size.0)) in
    let turned : ratio (Some (size.1, size.0)) * (unsigned_abs v + (64 * size.1 + 64 * size.0)) ≤ ratio (Some size) * (unsigned_abs v + (64 * size.0 + 64 * size.1)) =
    subst (λ (r : ℕ). r * (unsigned_abs v + (64 * size.1 + 64 * size.0)) ≤ ratio (Some size) * (unsigned_abs v + (64 * size.0 + 64 * size.1))) (sym swap)
    (mul-le-mul_left (ratio (Some size)) (omega arith)) in
    by_ratio-size v size.1 size.0 (ratio (Some size) * (unsigned_abs v + (64 * size.0 + 64 * size.1))) turned least

module _ (tree : BoxTree) (page : IsFarPage tree) (w : World) (small : w.s ≤ 256) (narrow : w.w ≤ 16384) (flat : w.h ≤ 16384) where
  abbrev On : ℕ → Type 0
  On k = IsBoxOn tree page w small narrow flat k

  module _ (k : ℕ) (b : On k) where
    abbrev cb : ℤ
    cb = room tree w k

    -- ---- heights by its own lengths

    pub given-bounded : (h : ℤ) → given_height tree w k ≡ Some h → unsigned_abs h ≤ 2 ^ 41
    given-bounded h e = subst (λ (o : Option ℤ). unsigned_abs (unwrap_or o (pos 0)) ≤ 2 ^ 41) e
        (bounded tree page w small narrow flat k b (unsigned_abs (unwrap_or (given_height tree w k) (pos 0))) (height-near tree page w small narrow flat k b.x b.p b.v))

    abbrev least_is : ℤ
    least_is = unwrap_or (height_around tree w (definite_height tree w k) (least_height tree k)) (pos 0)

    pub least-bounded : unsigned_abs least_is ≤ 2 ^ 41
    least-bounded = bounded tree page w small narrow flat k b (unsigned_abs least_is) (least_height-near tree page w small narrow flat k b.x b.p b.v)

    -- ---- the height of a replaced box by its width

    module _ (s : Style) (style : slice_get tree.styles b.x.node ≡ Some s) (element : is_of_element b.x.kind ≡ true) where
      at : IsElementOf tree k b.x s
      at = record { place = b.place; style = style; element = element }

      own_is : own_style tree k ≡ Some s
      own_is = own-style-at tree k b.x s at

      -- so many times each of its lengths is within its extent
      wide-extent : ratio b.x.size * (far tree page.low w small s.width + far tree page.low w small s.min_width + intrinsic_extent b.x.size) ≤ own_extent tree.styles tree.parents tree.fonts b.x
      wide-extent =
          let all = own-is tree page.low w small k b.x s at in
          let groups = by-groups tree page.low w small (far tree page.low w small) s in
          let inner : ℕ = sum (map (far tree page.low w small) (lengths_of s)) + raise_extent tree.styles tree.parents tree.fonts b.x.node s.valign + font_extent tree.styles tree.parents tree.fonts b.x.node + intrinsic_extent b.x.size in
          let grown : ratio b.x.size * (far tree page.low w small s.width + far tree page.low w small s.min_width + intrinsic_extent b.x.size) ≤ ratio b.x.size * inner = mul-le-mul_left (ratio b.x.size) (omega (arith, groups)) in
          omega (arith, all, grown)

      level : HasLevel tree page w small narrow flat k b.x b.p.around_it
      level =
          let growth_is : box_growth tree.styles b.x ≡ growth s =
          ap (λ (is : Bool). if is then option_map_or growth (slice_get tree.styles b.x.node) whole else whole) element
          ∙ ap (λ (o : Option Style). option_map_or growth o whole) style in
          let up = up-covers (b.p.around_it * ratio b.x.size * box_growth tree.styles b.x) whole (omega arith) in
          let same : b.p.around_it * ratio b.x.size * box_growth tree.styles b.x ≡ b.p.around_it * ratio b.x.size * growth s = ap (λ g. b.p.around_it * ratio b.x.size * g) growth_is in
          let all = lengths-far tree page.low w small k b.x s at in
          record {
            g = growth s;
            o = own_extent tree.styles tree.parents tree.fonts b.x;
            terms = subst (HasTerms tree page.low w small (growth s) (own_extent tree.styles tree.parents tree.fonts b.x)) (sym own_is) (style-terms tree page.low w small k b.x s at (page.borders k b.x s b.place style));
            goes = omega (arith, up, same);
            tall = subst (λ (o : Option Style). ratio b.x.size * (far tree page.low w small (height_in o) + intrinsic_extent b.x.size) ≤ own_extent tree.styles tree.parents tree.fonts b.x) (sym own_is) (omega (arith, all));
          }

      times : (r g z f o c : ℕ) → 1 ≤ r → c * 100000000 ≤ g * z + 100000000 * f + 100000000 → r * f ≤ o → (r * c) * 100000000 ≤ g * (z * r) + 100000000 * o + 800000000 * r
      times r g z f o c once cost l =
          let all : r * (c * 100000000) ≤ r * (g * z + 100000000 * f + 100000000) = mul-le-mul_left r cost in
          omega (arith, once, all, l)

      part-of : (f rest : ℕ) → f ≤ rest → ratio b.x.size * f ≤ ratio b.x.size * rest
      part-of f rest l = mul-le-mul_left (ratio b.x.size) l

      -- so many times a length of it
      length-bounded : (l : Length) → IsTerm tree page.low w small (growth s) (far tree page.low w small l) l → ratio b.x.size * far tree page.low w small l ≤ own_extent tree.styles tree.parents tree.fonts b.x
          → ratio b.x.size * unsigned_abs (used tree w l cb) ≤ 2 ^ 41
      unfolding level
      length-bounded l i e =
          let cost = term-cost tree page.low w small (growth s) (far tree page.low w small l) l cb i in
          bounded tree page w small narrow flat k b (ratio b.x.size * unsigned_abs (used tree w l cb))
          (near-times tree page w small narrow flat k b.x b.p level (unsigned_abs cb) (ratio b.x.size * unsigned_abs (used tree w l cb)) b.p.room
          (times (ratio b.x.size) (growth s) (unsigned_abs cb) (far tree page.low w small l) (own_extent tree.styles tree.parents tree.fonts b.x) (unsigned_abs (used tree w l cb)) (ratio_least b.x.size) cost e))

      minimum-times : ratio b.x.size * unsigned_abs (own_minimum tree w k cb) ≤ 2 ^ 41
      minimum-times =
          let wide = wide-extent in
          let part = part-of (far tree page.low w small s.min_width) (far tree page.low w small s.width + far tree page.low w small s.min_width + intrinsic_extent b.x.size) (omega arith) in
          subst (λ (o : Option Style). ratio b.x.size * unsigned_abs (used tree w (min_width_in o) cb) ≤ 2 ^ 41) (sym own_is)
          (length-bounded s.min_width (record { part = omega arith; extent = omega arith }) (omega (arith, wide, part)))

      width-times : (v : ℤ) → own_width tree w k cb ≡ Some v → ratio b.x.size * unsigned_abs v ≤ 2 ^ 41
      width-times v e =
          let wide = wide-extent in
          let part = part-of (far tree page.low w small s.width) (far tree page.low w small s.width + far tree page.low w small s.min_width + intrinsic_extent b.x.size) (omega arith) in
          subst (λ z. ratio b.x.size * unsigned_abs z ≤ 2 ^ 41) (used-of tree page.low w small (width_in (own_style tree k)) cb v e)
          (subst (λ (o : Option Style). ratio b.x.size * unsigned_abs (used tree w (width_in o) cb) ≤ 2 ^ 41) (sym own_is)
          (length-bounded s.width (record { part = omega arith; extent = omega arith }) (omega (arith, wide, part))))

      intrinsic-times : ratio b.x.size * intrinsic_extent b.x.size ≤ 2 ^ 40
      intrinsic-times =
          let wide = wide-extent in
          let part = part-of (intrinsic_extent b.x.size) (far tree page.low w small s.width + far tree page.low w small s.min_width + intrinsic_extent b.x.size) (omega arith) in
          let most = own_low tree page.low w small b.x (slice_in tree.boxes k b.x b.place) in
          omega (arith, wide, part, most)

      -- what is clamped is one of both, so that so many times it is too
      clamped-times : (most : Option ℤ) (least h : ℤ) (t n : ℕ) → 0 < t → t * unsigned_abs least ≤ n → t * unsigned_abs h ≤ n → t * unsigned_abs (clamped most least h) ≤ n
      clamped-times most least h t n some l m =
          let size = clamped-size most least h (n / t) ((le-div_iff_mul-le some).1 (omega (arith, l))) ((le-div_iff_mul-le some).1 (omega (arith, m))) in
          let times_it : t * unsigned_abs (clamped most least h) ≤ t * (n / t) = mul-le-mul_left t size in
          let whole_is = div-mul-le_self n t in
          omega (arith, times_it, whole_is)

      by_width-bounded : (size : ℕ × ℕ) → b.x.size ≡ Some size → unsigned_abs (by_ratio (clamped (own_maximum tree w k cb) (own_minimum tree w k cb) (unwrap_or (own_width tree w k cb) (pos (64 * size.0)))) size.0 size.1) ≤ 2 ^ 42
      by_width-bounded size e =
          let v : ℤ = clamped (own_maximum tree w k cb) (own_minimum tree w k cb) (unwrap_or (own_width tree w k cb) (pos (64 * size.0))) in
          let follows = by_width-size v size in
          let extent : ratio (Some size) * (64 * size.0 + 64 * size.1) ≤ 2 ^ 40 = subst (λ (o : Option (ℕ × ℕ)). ratio o * intrinsic_extent o ≤ 2 ^ 40) e intrinsic-times in
          let least : ratio (Some size) * unsigned_abs (own_minimum tree w k cb) ≤ 2 ^ 41 = subst (λ (o : Option (ℕ × ℕ)). ratio o * unsigned_abs (own_minimum tree w k cb) ≤ 2 ^ 41) e minimum-times in
          let all = clamped-times (own_maximum tree w k cb) (own_minimum tree w k cb) (unwrap_or (own_width tree w k cb) (pos (64 * size.0))) (ratio (Some size)) (2 ^ 41) (ratio_least (Some size)) least (either (own_width tree w k cb) refl extent) in
          omega (arith, follows, extent, all)
        where
          either : (o : Option ℤ) → own_width tree w k cb ≡ o → ratio (Some size) * (64 * size.0 + 64 * size.1) ≤ 2 ^ 40 → ratio (Some size) * unsigned_abs (unwrap_or o (pos (64 * size.0))) ≤ 2 ^ 41
          either None f l = let part : ratio (Some size) * (64 * size.0) ≤ ratio (Some size) * (64 * size.0 + 64 * size.1) = mul-le-mul_left (ratio (Some size)) (omega arith) in omega (arith, part, l)
          either (Some v) f l = subst (λ (o : Option (ℕ × ℕ)). ratio o * unsigned_abs v ≤ 2 ^ 41) e (width-times v f)

    abbrev follows : ℕ × ℕ → Option ℤ → ℤ
    follows size given = by_ratio (clamped (own_maximum tree w k cb) (own_minimum tree w k cb) (unwrap_or (own_width tree w k cb) (option_map_or (λ h. by_ratio h size.1 size.0) given (pos (64 * size.0))))) size.0 size.1

    -- where no height is given
    follows-bounded : given_height tree w k ≡ None → unsigned_abs (by_ratio (replaced_size tree w k cb).width (intrinsic tree k).0 (intrinsic tree k).1) ≤ 2 ^ 42
    follows-bounded none = by b.x.size refl
      where
        is : intrinsic tree k ≡ unwrap_or b.x.size (0, 0)
        is = ap (λ (o : Option BoxNode). unwrap_or (option_and_then (λ (y : BoxNode). y.size) o) (0, 0)) b.place

        by : (o : Option (ℕ × ℕ)) → b.x.size ≡ o → unsigned_abs (follows (intrinsic tree k) (given_height tree w k)) ≤ 2 ^ 42
        by None e = subst (λ (size : ℕ × ℕ). unsigned_abs (follows size (given_height tree w k)) ≤ 2 ^ 42) (sym (is ∙ ap (λ (o : Option (ℕ × ℕ)). unwrap_or o (0, 0)) e)) (omega arith)
        by (Some size) e =
            let kind = replaced-kind b.x.kind (sym (tree.ok.each k b.x b.place).size ∙ ap (λ (o : Option (ℕ × ℕ)). is_some o) e) in
            let s = style-of tree page.low w small k b.x b.place in
            let all = by_width-bounded s.0 s.1 (ap is_of_element kind) size e in
            subst (λ (o : Option ℤ). unsigned_abs (follows (intrinsic tree k) o) ≤ 2 ^ 42) (sym none)
            (subst (λ (z : ℕ × ℕ). unsigned_abs (follows z None) ≤ 2 ^ 42) (sym (is ∙ ap (λ (o : Option (ℕ × ℕ)). unwrap_or o (0, 0)) e)) all)

    pub tall-bounded : unsigned_abs (replaced_size tree w k cb).height ≤ 2 ^ 42
    tall-bounded =
        let least = least-bounded in
        clamped-size (maximum (height_around tree w (definite_height tree w k)) (own tree k (λ (s : Style). s.max_height) None)) least_is
        (replaced_height (intrinsic tree k) (replaced_size tree w k cb).width (given_height tree w k)) (2 ^ 42) (omega (arith, least)) (by (given_height tree w k) refl)
      where
        by : (o : Option ℤ) → given_height tree w k ≡ o → unsigned_abs (unwrap_or o (by_ratio (replaced_size tree w k cb).width (intrinsic tree k).0 (intrinsic tree k).1)) ≤ 2 ^ 42
        by (Some h) e = let low = given-bounded h e in omega (arith, low)
        by None e = follows-bounded e

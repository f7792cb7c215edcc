-- Each box of a page has a containing block and a height around it that are near what reaches so far.
use Rattle.std.proofs.Common.{◌≡◌, ℕ, zero, suc, ◌+◌, ◌*◌, ◌^◌, ◌≤◌, ◌<◌, max, Bool, true, false, ℤ, pos, List, [], length, Option, Some, None, Contains, unsigned_abs, slice_get, refl, sym, ap, ◌∙◌, subst, arith, ◌==◌, IsTrue}
use Rattle.std.specs.Prelude.{if◌then◌else◌, unwrap_or, chars, sum_by, cond, is_some, not, ◌||◌}
use Rattle.std.specs.List.{AllByRecursion}
use Rattle.std.specs.Option.{option_map_or, option_and_then}
use Rattle.std.proofs.Math.Nat.{mul-le-mul_left}
use Rattle.std.proofs.lemmas.Bool.Decides.{nat_tests}
use Rattle.std.proofs.lemmas.Option.{slice_get_within}
use Rattle.viz_base.specs.Reaches.{whole, is_of_element, ratio, growth, box_growth, own_extent, total_extent, intrinsic_extent, reach_in, reach_to, percentage}
use Rattle.viz_base.specs.Styles.{sides_of}
use Rattle.viz_base.specs.Trees.{is_fragmented, is_inline, is_leaf, is_line, is_replaced}
use Rattle.viz_base.specs.declared.styles.Style.{Style}
use Rattle.viz_base.specs.declared.trees.BoxNode.{BoxNode}
use Rattle.viz_base.specs.declared.trees.BoxTree.{BoxTree}
use Rattle.viz_base.specs.declared.trees.Kind.{Kind}
use Rattle.viz_base.specs.declared.trees.Kind.TheVariants as of_kind
use Rattle.viz_base.specs.declared.worlds.World.{World}
use Rattle.viz_base.proofs.ListLemmas.{slice_some}
use Rattle.layout_semantics.specs.Blocks.{kind_of, parent_of}
use Rattle.layout_semantics.specs.DefiniteHeights.{own_height, least_height, height_around, own_height_around, is_passed_over, percentage_container, definite_height}
use Rattle.layout_semantics.specs.FlowBoxes.{room, room_inside, room_to}
use Rattle.layout_semantics.specs.Horizontal.{block_flow, shrunk, placing_of, widths}
use Rattle.layout_semantics.specs.Lengths.{used, own_style}
use Rattle.layout_semantics.specs.Order.{kids_of, roots, IsOnPage}
use Rattle.layout_semantics.specs.Preferred.{preferred}
use Rattle.layout_semantics.proofs.Forest.{IsKid}
use Rattle.layout_semantics.proofs.Pages.{forest, root-alone, root_place, Each-contains}
use Rattle.layout_laws.specs.Terms.{own_minimum}
use Rattle.layout_laws.proofs.Reaching.{ratio_least, reach_around}
use Rattle.layout_laws.proofs.Rooms.{room-by-parent}
use Rattle.layout_laws.proofs.Upward.{container-by-parent, definite-by-container}
use Rattle.lay_preferred.proofs.SmallPages.{up-covers}
use Rattle.lay_length.proofs.SmallExtents.{IsLowTree, IsElementOf, style-of}
use Rattle.page_limits.proofs.WidthsOrder.{order-cost}
use Rattle.page_limits.proofs.WidthsInside.{preferred-within}
use Rattle.page_limits.proofs.WidthsCosts.{own-style-at, no-style-at, kind-at, lengths-far, cost_at, are-costed, all-cost}
use Rattle.page_limits.proofs.WidthsTerms.{level-up, level-once, height_in, width_in, min_width_in, HasTerms, far, style-terms, no-terms, term-cost, sides_at, edges-cost, block-size, shrunk-size, height-cost, known-size}

module _ (tree : BoxTree) where
  abbrev pub all_extents : ℕ
  all_extents = total_extent tree.styles tree.parents tree.fonts tree.boxes

  abbrev pub reach_of : BoxNode → ℕ → ℕ
  reach_of = reach_in tree.styles tree.parents tree.fonts

  abbrev up_to : ℕ → ℕ → ℕ
  up_to levels at = reach_to tree.styles tree.parents tree.fonts levels tree.boxes all_extents at

  -- a page of few boxes and characters, none of which reaches far, and of which no border is a percentage
  pub record IsFarPage : Type 0 where
    pub few_boxes : length tree.boxes ≤ 16384
    pub few_characters : sum_by (λ (b : BoxNode). length (chars b.chars)) tree.boxes ≤ 524288
    pub low : IsLowTree tree
    pub reach : (k : ℕ) (x : BoxNode) → slice_get tree.boxes k ≡ Some x → up_to (length tree.boxes) k ≤ 2 ^ 40
    pub borders : (k : ℕ) (x : BoxNode) (s : Style) → slice_get tree.boxes k ≡ Some x → slice_get tree.styles x.node ≡ Some s → AllByRecursion (λ l. percentage l ≡ 0) (sides_of s.border)

  -- what reaches so far around a box, from whatever level on
  pub record IsAround (k around_it : ℕ) : Type 0 where
    pub same : (levels : ℕ) → k ≤ levels → option_map_or (up_to levels) (parent_of tree.boxes k) all_extents ≡ around_it
    pub all : all_extents ≤ around_it

  around-root : IsAround 0 all_extents
  around-root = record { same = λ levels l. ap (λ (o : Option ℕ). option_map_or (up_to levels) o all_extents) (root-alone tree); all = omega arith }

  reach-step : (n k around_it : ℕ) (x : BoxNode) → slice_get tree.boxes k ≡ Some x → k ≤ n → IsAround k around_it → up_to (suc n) k ≡ reach_of x around_it
  reach-step n k around_it x e l a =
      ap (λ (o : Option BoxNode). option_map_or (λ (b : BoxNode). reach_of b (option_map_or (up_to n) b.parent all_extents)) o all_extents) e
      ∙ ap (reach_of x) (sym (ap (λ (o : Option BoxNode). option_map_or (up_to n) (option_and_then (λ (b : BoxNode). b.parent) o) all_extents) e) ∙ a.same n l)

  around-kid : (b k around_it : ℕ) (x : BoxNode) → slice_get tree.boxes b ≡ Some x → IsKid tree.boxes b k → IsAround b around_it → IsAround k (reach_of x around_it)
  around-kid b k around_it x e i a = record {
    same = λ levels l. ap (λ (o : Option ℕ). option_map_or (up_to levels) o all_extents) i.parent ∙ by levels l;
    all = let up = reach_around tree.styles tree.parents tree.fonts x around_it in let all = a.all in omega (arith, up, all);
  }
    where
      by : (levels : ℕ) → k ≤ levels → up_to levels b ≡ reach_of x around_it
      by zero l = absurd (let after = i.after in omega (arith, after, l))
      by (suc n) l = let after = i.after in reach-step n b around_it x e (omega (arith, after, l)) a

  some-levels : (n k : ℕ) → k < n → (p : ℕ) × (n ≡ suc p) × (k ≤ p)
  some-levels zero k l = absurd (omega (arith, l))
  some-levels (suc p) k l = (p, refl, omega (arith, l))

  pub reach-low : (page : IsFarPage) (k around_it : ℕ) (x : BoxNode) → slice_get tree.boxes k ≡ Some x → IsAround k around_it → reach_of x around_it ≤ 2 ^ 40
  reach-low page k around_it x e a =
      let within = slice_get_within tree.boxes k x e in
      let levels = some-levels (length tree.boxes) k within in
      let most = page.reach k x e in
      let same = ap (λ n. up_to n k) levels.1 ∙ reach-step levels.0 k around_it x e levels.2 a in
      omega (arith, most, same)

module _ (tree : BoxTree) (page : IsFarPage tree) (w : World) (small : w.s ≤ 256) (narrow : w.w ≤ 16384) (flat : w.h ≤ 16384) where
  -- ---- the level of a box

  -- the reach of a box from what is around it, by its terms
  pub record HasLevel (k : ℕ) (x : BoxNode) (around_it : ℕ) : Type 0 where
    pub g : ℕ
    pub o : ℕ
    pub terms : HasTerms tree page.low w small g o (own_style tree k)
    pub goes : around_it * ratio x.size * g + 100000000 * o ≤ 100000000 * reach_of tree x around_it
    pub tall : ratio x.size * (far tree page.low w small (height_in (own_style tree k)) + intrinsic_extent x.size) ≤ o

  element-level : (k : ℕ) (x : BoxNode) (s : Style) (around_it : ℕ) → IsElementOf tree k x s → HasLevel k x around_it
  element-level k x s around_it b =
      let own = own-style-at tree k x s b in
      let growth_is : box_growth tree.styles x ≡ growth s =
      ap (λ (is : Bool). if is then option_map_or growth (slice_get tree.styles x.node) whole else whole) b.element
      ∙ ap (λ (o : Option Style). option_map_or growth o whole) b.style in
      let up = up-covers (around_it * ratio x.size * box_growth tree.styles x) whole (omega arith) in
      let same : around_it * ratio x.size * box_growth tree.styles x ≡ around_it * ratio x.size * growth s = ap (λ g. around_it * ratio x.size * g) growth_is in
      let all = lengths-far tree page.low w small k x s b in
      record {
        g = growth s;
        o = own_extent tree.styles tree.parents tree.fonts x;
        terms = subst (HasTerms tree page.low w small (growth s) (own_extent tree.styles tree.parents tree.fonts x)) (sym own) (style-terms tree page.low w small k x s b (page.borders k x s b.place b.style));
        goes = omega (arith, up, same);
        tall = subst (λ (o : Option Style). ratio x.size * (far tree page.low w small (height_in o) + intrinsic_extent x.size) ≤ own_extent tree.styles tree.parents tree.fonts x) (sym own) (omega (arith, all));
      }

  anonymous-level : (k : ℕ) (x : BoxNode) (around_it : ℕ) → slice_get tree.boxes k ≡ Some x → x.kind ≡ of_kind.Anon → HasLevel k x around_it
  anonymous-level k x around_it place e =
      let own = no-style-at tree k (kind-at tree k x place ∙ e) in
      let growth_is : box_growth tree.styles x ≡ whole = ap (λ (kind : Kind). if is_of_element kind then option_map_or growth (slice_get tree.styles x.node) whole else whole) e in
      let up = up-covers (around_it * ratio x.size * box_growth tree.styles x) whole (omega arith) in
      let same : around_it * ratio x.size * box_growth tree.styles x ≡ around_it * ratio x.size * whole = ap (λ g. around_it * ratio x.size * g) growth_is in
      let none : is_some x.size ≡ false = (tree.ok.each k x place).size ∙ ap is_replaced e in
      record {
        g = whole;
        o = 0;
        terms = subst (HasTerms tree page.low w small whole 0) (sym own) (no-terms tree page.low w small);
        goes = omega (arith, up, same);
        tall = subst (λ (o : Option Style). ratio x.size * (far tree page.low w small (height_in o) + intrinsic_extent x.size) ≤ 0) (sym own) (no-size x.size none);
      }
    where
      no-size : (o : Option (ℕ × ℕ)) → is_some o ≡ false → ratio o * (0 + intrinsic_extent o) ≤ 0
      no-size None e = omega arith
      no-size (Some size) e = absurd (cc)

  -- boxes that have lengths of their own
  abbrev pub has_terms : Kind → Bool
  has_terms of_kind.Chars = false
  has_terms of_kind.Line = false
  has_terms _ = true

  pub level-of : (k : ℕ) (x : BoxNode) (around_it : ℕ) → slice_get tree.boxes k ≡ Some x → has_terms x.kind ≡ true → HasLevel k x around_it
  level-of k x around_it place t = by x.kind refl t
    where
      element : is_of_element x.kind ≡ true → HasLevel k x around_it
      element is = let s = style-of tree page.low w small k x place in element-level k x s.0 around_it (record { place = place; style = s.1; element = is })

      by : (kind : Kind) → x.kind ≡ kind → has_terms kind ≡ true → HasLevel k x around_it
      by of_kind.Chars e t = absurd (cc)
      by of_kind.Line e t = absurd (cc)
      by of_kind.Anon e t = anonymous-level k x around_it place e
      by of_kind.Block e t = element (ap is_of_element e)
      by of_kind.Float e t = element (ap is_of_element e)
      by of_kind.Atomic e t = element (ap is_of_element e)
      by of_kind.Replaced e t = element (ap is_of_element e)
      by of_kind.Inline e t = element (ap is_of_element e)
      by of_kind.Break e t = element (ap is_of_element e)

  -- ---- preferred widths

  pub preferred-far : (k : ℕ) → k < length tree.boxes → is_fragmented (kind_of tree k) ≡ false
      → (unsigned_abs (preferred tree w k).least ≤ all_extents tree) × (unsigned_abs (preferred tree w k).most ≤ all_extents tree)
  preferred-far k l e =
      let in_it = preferred-within tree w (cost_at tree page.low w small) (are-costed tree page.low w small) k l e in
      let order = order-cost tree (cost_at tree page.low w small) k l in
      let all = all-cost tree page.low w small page.few_boxes page.few_characters in
      let least = in_it.least in
      let most = in_it.most in
      (omega (arith, least, order, all), omega (arith, most, order, all))

  -- ---- boxes at their places

  -- the containing block of a box and the height around it are near what reaches so far
  pub record IsPlaced (k : ℕ) : Type 0 where
    pub m : ℕ
    pub around_it : ℕ
    pub reaches : IsAround tree k around_it
    pub least : 2097152 ≤ m
    pub most : m ≤ 2097152 + 16 * k
    pub room : unsigned_abs (room tree w k) * 2097152 ≤ m * around_it
    pub definite : unsigned_abs (unwrap_or (definite_height tree w k) (pos 0)) * 2097152 ≤ m * around_it

  module _ (k : ℕ) (x : BoxNode) (p : IsPlaced k) (v : HasLevel k x p.around_it) where
    abbrev pub next : ℕ
    next = (p.m + 16) * reach_of tree x p.around_it

    abbrev cb : ℤ
    cb = room tree w k

    wide : 2097152 ≤ p.around_it
    wide = let all = p.reaches.all in omega (arith, all)

    -- what a cost makes
    pub near-once : (z c : ℕ) → z * 2097152 ≤ p.m * p.around_it → c * 100000000 ≤ v.g * z + 100000000 * v.o + 800000000 → c * 2097152 ≤ next
    near-once z c near cost = level-once p.around_it p.m (ratio x.size) v.g v.o z c (reach_of tree x p.around_it) near p.least wide v.terms.part (ratio_least x.size) v.goes cost

    pub near-times : (z c : ℕ) → z * 2097152 ≤ p.m * p.around_it → c * 100000000 ≤ v.g * (z * ratio x.size) + 100000000 * v.o + 800000000 * ratio x.size → c * 2097152 ≤ next
    near-times z c near cost = level-up p.around_it p.m (ratio x.size) v.g v.o z c (reach_of tree x p.around_it) near p.least wide v.terms.part v.goes cost

    -- what reaches around it is near too
    pub near-up : (c : ℕ) → c * 2097152 ≤ p.m * p.around_it → c * 2097152 ≤ next
    near-up c l =
        let up = reach_around tree.styles tree.parents tree.fonts x p.around_it in
        let more = mul-le-mul_left p.m up in
        omega (arith, l, more)

    pub near-all : (c : ℕ) → c ≤ all_extents tree → c * 2097152 ≤ next
    near-all c l =
        let up = reach_around tree.styles tree.parents tree.fonts x p.around_it in
        let all = p.reaches.all in
        let least = p.least in
        let more : reach_of tree x p.around_it * 2097152 ≤ reach_of tree x p.around_it * p.m = mul-le-mul_left (reach_of tree x p.around_it) least in
        omega (arith, l, up, all, more)

    pub edges-near : (unsigned_abs cb + sides_at tree page.low w small k cb) * 2097152 ≤ next
    edges-near = near-once (unsigned_abs cb) (unsigned_abs cb + sides_at tree page.low w small k cb) p.room (let cost = edges-cost tree page.low w small k v.g v.o v.terms cb in omega (arith, cost))

    pub width-near : unsigned_abs (used tree w (width_in (own_style tree k)) cb) * 2097152 ≤ next
    width-near = near-once (unsigned_abs cb) (unsigned_abs (used tree w (width_in (own_style tree k)) cb)) p.room (let cost = term-cost tree page.low w small v.g v.o (width_in (own_style tree k)) cb v.terms.width in omega (arith, cost))

    pub minimum-near : unsigned_abs (own_minimum tree w k cb) * 2097152 ≤ next
    minimum-near = near-once (unsigned_abs cb) (unsigned_abs (own_minimum tree w k cb)) p.room (let cost = term-cost tree page.low w small v.g v.o (min_width_in (own_style tree k)) cb v.terms.min_width in omega (arith, cost))

    -- the content of a box in flow, and of one that shrinks
    flow-near : placing_of tree k ≡ block_flow → unsigned_abs (widths tree w k cb).content * 2097152 ≤ next
    flow-near e =
        let n : ℕ = max (unsigned_abs (own_minimum tree w k cb)) (max (unsigned_abs (used tree w (width_in (own_style tree k)) cb)) (unsigned_abs cb + sides_at tree page.low w small k cb)) in
        let size = block-size tree page.low w small k v.g v.o v.terms cb n (omega arith) (omega arith) (omega arith) e in
        let a = edges-near in
        let b = width-near in
        let c = minimum-near in
        omega (arith, size, a, b, c)

    shrunk-near : placing_of tree k ≡ shrunk → k < length tree.boxes → is_fragmented (kind_of tree k) ≡ false → unsigned_abs (widths tree w k cb).content * 2097152 ≤ next
    shrunk-near e l whole =
        let pref = preferred-far k l whole in
        let n : ℕ = max (max (unsigned_abs (preferred tree w k).least) (unsigned_abs (preferred tree w k).most))
        (max (unsigned_abs (own_minimum tree w k cb)) (max (unsigned_abs (used tree w (width_in (own_style tree k)) cb)) (unsigned_abs cb + sides_at tree page.low w small k cb))) in
        let size = shrunk-size tree page.low w small k v.g v.o v.terms cb n (omega arith) (omega arith) (omega arith) e (omega arith) (omega arith) in
        let a = edges-near in
        let b = width-near in
        let c = minimum-near in
        let d = near-all (unsigned_abs (preferred tree w k).least) pref.0 in
        let f = near-all (unsigned_abs (preferred tree w k).most) pref.1 in
        omega (arith, size, a, b, c, d, f)

    -- ---- heights

    abbrev around : Option ℤ
    around = definite_height tree w k

    pub height-near : unsigned_abs (unwrap_or (height_around tree w around (own_height tree k)) (pos 0)) * 2097152 ≤ next
    height-near = near-once (unsigned_abs (unwrap_or around (pos 0))) (unsigned_abs (unwrap_or (height_around tree w around (own_height tree k)) (pos 0))) p.definite
        (let cost = height-cost tree page.low w small v.g v.o around (own_height tree k) v.terms.height in omega (arith, cost))

    pub least_height-near : unsigned_abs (unwrap_or (height_around tree w around (least_height tree k)) (pos 0)) * 2097152 ≤ next
    least_height-near = near-once (unsigned_abs (unwrap_or around (pos 0))) (unsigned_abs (unwrap_or (height_around tree w around (least_height tree k)) (pos 0))) p.definite
        (let cost = height-cost tree page.low w small v.g v.o around (least_height tree k) v.terms.min_height in omega (arith, cost))

    known-near : unsigned_abs (unwrap_or (own_height_around tree w around k) (pos 0)) * 2097152 ≤ next
    known-near =
        let n : ℕ = max (unsigned_abs (unwrap_or (height_around tree w around (least_height tree k)) (pos 0))) (unsigned_abs (unwrap_or (height_around tree w around (own_height tree k)) (pos 0))) in
        let size = known-size tree page.low w small k v.g v.o v.terms around n (omega arith) (omega arith) in
        let a = height-near in
        let b = least_height-near in
        omega (arith, size, a, b)

  -- ---- from a box to those in it

  -- the kinds of boxes that hold others
  pub holds : (b kid : ℕ) (x : BoxNode) → slice_get tree.boxes b ≡ Some x → Contains (kids_of tree.boxes b) kid → (is_leaf x.kind ≡ false) × (is_line x.kind ≡ false)
  holds b kid x place c = (by (is_leaf x.kind) refl (tree.ok.each b x place).leaf, (tree.ok.each b x place).no_line)
    where
      some : 0 < length x.kids
      some = let own = subst (λ (ks : List ℕ). Contains ks kid) (ap (λ (o : Option BoxNode). option_map_or (λ (b : BoxNode). b.kids) o []) place) c in let l = own.1 in omega (arith, l)

      by : (leaf : Bool) → is_leaf x.kind ≡ leaf → IsTrue (not leaf || (length x.kids == 0)) → is_leaf x.kind ≡ false
      by false e t = e
      by true e t = absurd (let none : length x.kids ≡ 0 = grind (arith, nat_tests) in let l = some in omega (arith, none, l))

  inside-near : (b : ℕ) (x : BoxNode) (p : IsPlaced b) (v : HasLevel b x p.around_it) → slice_get tree.boxes b ≡ Some x → is_leaf x.kind ≡ false → is_line x.kind ≡ false
      → unsigned_abs (room_inside tree w b (room tree w b)) * 2097152 ≤ next b x p v
  inside-near b x p v place leaf line = by x.kind refl leaf line
    where
      l : b < length tree.boxes
      l = slice_get_within tree.boxes b x place

      outer : is_inline (kind_of tree b) ≡ false → unsigned_abs (widths tree w b (room tree w b)).content * 2097152 ≤ next b x p v
          → unsigned_abs (room_inside tree w b (room tree w b)) * 2097152 ≤ next b x p v
      outer e h = subst (λ (i : Bool). unsigned_abs (cond i (room tree w b) (widths tree w b (room tree w b)).content) * 2097152 ≤ next b x p v) (sym e) h

      flows : (kind : Kind) → kind_of tree b ≡ kind → is_inline kind ≡ false → placing_of tree b ≡ block_flow → unsigned_abs (room_inside tree w b (room tree w b)) * 2097152 ≤ next b x p v
      flows kind e i f = outer (ap is_inline e ∙ i) (flow-near b x p v f)

      shrinks : (kind : Kind) → kind_of tree b ≡ kind → is_inline kind ≡ false → is_fragmented kind ≡ false → placing_of tree b ≡ shrunk → unsigned_abs (room_inside tree w b (room tree w b)) * 2097152 ≤ next b x p v
      shrinks kind e i whole f = outer (ap is_inline e ∙ i) (shrunk-near b x p v f l (ap is_fragmented e ∙ whole))

      by : (kind : Kind) → x.kind ≡ kind → is_leaf kind ≡ false → is_line kind ≡ false → unsigned_abs (room_inside tree w b (room tree w b)) * 2097152 ≤ next b x p v
      by of_kind.Block e f g = let kind = kind-at tree b x place ∙ e in flows of_kind.Block kind refl (rw kind refl)
      by of_kind.Anon e f g = let kind = kind-at tree b x place ∙ e in flows of_kind.Anon kind refl (rw kind refl)
      by of_kind.Float e f g = let kind = kind-at tree b x place ∙ e in shrinks of_kind.Float kind refl refl (rw kind refl)
      by of_kind.Atomic e f g = let kind = kind-at tree b x place ∙ e in shrinks of_kind.Atomic kind refl refl (rw kind refl)
      by of_kind.Inline e f g = let kind : is_inline (kind_of tree b) ≡ true = ap is_inline (kind-at tree b x place ∙ e) in
          subst (λ (i : Bool). unsigned_abs (cond i (room tree w b) (widths tree w b (room tree w b)).content) * 2097152 ≤ next b x p v) (sym kind) (near-up b x p v (unsigned_abs (room tree w b)) p.room)
      by of_kind.Replaced e f g = absurd (cc)
      by of_kind.Chars e f g = absurd (cc)
      by of_kind.Break e f g = absurd (cc)
      by of_kind.Line e f g = absurd (cc)

  -- the height around a child
  abbrev height_by : ℕ → Option ℕ → Option ℤ
  height_by b o = option_map_or (λ container. own_height_around tree w (definite_height tree w container) container) o (Some (pos (64 * w.h)))

  definite-kid : (b kid : ℕ) → IsOnPage tree.boxes b → IsOnPage tree.boxes kid → IsKid tree.boxes b kid
      → definite_height tree w kid ≡ cond (is_passed_over (kind_of tree b)) (definite_height tree w b) (own_height_around tree w (definite_height tree w b) b)
  definite-kid b kid page_b page_kid i =
      definite-by-container tree w kid page_kid
      ∙ ap (height_by b) (container-by-parent tree kid page_kid ∙ ap (option_and_then (λ parent. elim (is_passed_over (kind_of tree parent)) [ true ↦ percentage_container tree parent | false ↦ Some parent ])) i.parent)
      ∙ by (is_passed_over (kind_of tree b))
    where
      by : (over : Bool) → height_by b (elim over [ true ↦ percentage_container tree b | false ↦ Some b ]) ≡ cond over (definite_height tree w b) (own_height_around tree w (definite_height tree w b) b)
      by true = sym (definite-by-container tree w b page_b)
      by false = refl

  kid-placed : (b kid : ℕ) → IsOnPage tree.boxes b → Contains (kids_of tree.boxes b) kid → IsPlaced b → IsPlaced kid
  kid-placed b kid on c p = at (slice_some tree.boxes b (omega (arith, i.after, i.within)))
    where
      i : IsKid tree.boxes b kid
      i = Each-contains (IsKid tree.boxes b) (kids_of tree.boxes b) kid ((forest tree).kids b) c

      at : (x : BoxNode) × (slice_get tree.boxes b ≡ Some x) → IsPlaced kid
      at (x, place) =
          let kinds = holds b kid x place c in
          let v = level-of b x p.around_it place (stands x.kind kinds.0 kinds.1) in
          let after = i.after in
          let least = p.least in
          let most = p.most in
          record {
            m = p.m + 16;
            around_it = reach_of tree x p.around_it;
            reaches = around-kid tree b kid p.around_it x place i p.reaches;
            least = omega (arith, least);
            most = omega (arith, most, after);
            room = subst (λ z. unsigned_abs z * 2097152 ≤ (p.m + 16) * reach_of tree x p.around_it) (sym (room-by-parent tree w b kid on c)) (inside-near b x p v place kinds.0 kinds.1);
            definite = subst (λ (o : Option ℤ). unsigned_abs (unwrap_or o (pos 0)) * 2097152 ≤ (p.m + 16) * reach_of tree x p.around_it) (sym (definite-kid b kid on (IsOnPage.inside b kid on c) i)) (by (is_passed_over (kind_of tree b)) v);
          }
        where
          stands : (kind : Kind) → is_leaf kind ≡ false → is_line kind ≡ false → has_terms kind ≡ true
          stands of_kind.Chars e f = absurd (cc)
          stands of_kind.Line e f = absurd (cc)
          stands of_kind.Anon e f = refl
          stands of_kind.Block e f = refl
          stands of_kind.Float e f = refl
          stands of_kind.Atomic e f = refl
          stands of_kind.Replaced e f = refl
          stands of_kind.Inline e f = refl
          stands of_kind.Break e f = refl

          by : (over : Bool) → HasLevel b x p.around_it
              → unsigned_abs (unwrap_or (cond over (definite_height tree w b) (own_height_around tree w (definite_height tree w b) b)) (pos 0)) * 2097152 ≤ (p.m + 16) * reach_of tree x p.around_it
          by true v = near-up b x p v (unsigned_abs (unwrap_or (definite_height tree w b) (pos 0))) p.definite
          by false v = known-near b x p v

  root-placed : (k : ℕ) → Contains (roots tree.boxes) k → IsPlaced k
  unfolding room_to
  root-placed k c =
      subst IsPlaced (root_place tree.boxes k c).0
      (record {
        m = 2097152;
        around_it = all_extents tree;
        reaches = around-root tree;
        least = omega arith;
        most = omega arith;
        room = subst (λ z. unsigned_abs z * 2097152 ≤ 2097152 * all_extents tree) (sym root-room) (omega (arith, narrow));
        definite = subst (λ (o : Option ℤ). unsigned_abs (unwrap_or o (pos 0)) * 2097152 ≤ 2097152 * all_extents tree) (sym root-height) (omega (arith, flat));
      })
    where
      on : IsOnPage tree.boxes 0
      on = IsOnPage.root 0 (subst (Contains (roots tree.boxes)) (sym (root_place tree.boxes k c).0) c)

      root-room : room tree w 0 ≡ pos (64 * w.w)
      root-room = ap (λ (o : Option ℕ). option_map_or (λ parent. room_inside tree w parent (room_to 0 tree w parent)) o (pos (64 * w.w))) (root-alone tree)

      root-height : definite_height tree w 0 ≡ Some (pos (64 * w.h))
      root-height =
          definite-by-container tree w 0 on
          ∙ ap (height_by 0) (container-by-parent tree 0 on ∙ ap (option_and_then (λ parent. elim (is_passed_over (kind_of tree parent)) [ true ↦ percentage_container tree parent | false ↦ Some parent ])) (root-alone tree))

  pub placed : (k : ℕ) → IsOnPage tree.boxes k → IsPlaced k
  placed k (IsOnPage.root _ c) = root-placed k c
  placed k (IsOnPage.inside b _ on c) = kid-placed b k on c (placed b on)

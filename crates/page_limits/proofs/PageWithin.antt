-- Each box that stands outside the flow stays within bounds, from the last one on; and so does the page.
use Rattle.std.proofs.Common.{◌≡◌, ◌⊎◌, inl, inr, ℕ, zero, suc, ◌+◌, ◌-◌, ◌*◌, ◌<◌, ◌≤◌, ℤ, pos, unsigned_abs, Bool, true, false, not, ◌&&◌, nat_lt, List, [], ◌∷◌, length, get_or, filter, Contains, IsTrue, Option, Some, None, refl, sym, ◌∙◌, ap, subst, arith}
use Rattle.std.specs.Prelude.{◌==◌, unwrap_or, min}
use Rattle.std.specs.Int.{int_min}
use Rattle.std.specs.List.{AllByRecursion, list_any}
use Rattle.std.proofs.lemmas.Bool.Decides.{nat_tests}
use Rattle.std.proofs.lemmas.Int.{ints}
use Rattle.viz_base.specs.Numbers.{floor_of}
use Rattle.viz_base.specs.Trees.{is_fragmented, is_inline}
use Rattle.viz_base.specs.declared.lengths.Valign.{Valign}
use Rattle.viz_base.specs.declared.lengths.Valign.TheVariants as of_valign
use Rattle.viz_base.specs.declared.styles.Style.{Style}
use Rattle.viz_base.specs.declared.trees.BoxTree.{BoxTree}
use Rattle.viz_base.specs.declared.worlds.World.{World}
use Rattle.viz_base.proofs.Truths.{and_first, and_second}
use Rattle.layout_semantics.specs.Blocks.{kind_of}
use Rattle.layout_semantics.specs.Flow as landed
use Rattle.layout_semantics.specs.Flow.{Independent}
use Rattle.layout_semantics.specs.FlowBoxes.{flow_children, inline_size, content_from, room}
use Rattle.layout_semantics.specs.Horizontal.{widths}
use Rattle.layout_semantics.specs.InlineContent.{has_line, inner_boxes, is_floated_at, content}
use Rattle.layout_semantics.specs.Lengths.{own}
use Rattle.layout_semantics.specs.Order.{page_order, IsOnPage}
use Rattle.layout_semantics.proofs.Pages.{forest, placed_on_page, page_placed, within-page}
use Rattle.layout_laws.proofs.Greatest.{filter-passes}
use Rattle.layout_laws.proofs.Levels.{IsFrom, All-implied, inner_boxes-from}
use Rattle.layout_laws.proofs.Members.{any_in, any_from}
use Rattle.layout_laws.proofs.LeadLevels.{children-from}
use Rattle.lay_steps.specs.Flow.{inner_size}
use Rattle.lay_steps.specs.Tables.{outside_of, laid_at, nothing_independent}
use Rattle.lay_steps.proofs.Sound.{IsSound, inner_boxes-sound, flow-sound}
use Rattle.lay_steps.proofs.InOrder.{box_before, whole_no_inline}
use Rattle.lay_steps.proofs.Tables.{box-same}
use Rattle.page_limits.specs.Bounds.{Bounds, no_bounds}
use Rattle.page_limits.specs.Inline.{IsContentSmall}
use Rattle.page_limits.specs.Boxes.{IsWhole, IsBoxSmall, IsIndependentIn}
use Rattle.page_limits.specs.Loads.{greatest_length, unit, load, size_of}
use Rattle.page_limits.proofs.Levels.{All-filter}
use Rattle.page_limits.proofs.ContentBoxes.{content-items, inner-whole, float-whole}
use Rattle.page_limits.proofs.Loads.{IsFew, load-is, independent-few, load-rank, rank}
use Rattle.page_limits.proofs.ContentWithin.{line_context}
use Rattle.page_limits.proofs.IndependentWithin.{independent_rise, independent-within}

-- ---- a table by a function

tabled : {A : Type 0} → (ℕ → A) → ℕ → ℕ → List A
tabled f low zero = []
tabled f low (suc n) = f low ∷ tabled f (low + 1) n

tabled-at : {A : Type 0} (f : ℕ → A) (low n k : ℕ) (d : A) → k < n → get_or (tabled f low n) k d ≡ f (low + k)
unfolding tabled
tabled-at f low zero k d l = absurd (omega (arith, l))
tabled-at f low (suc n) zero d l = ap f (none low)
  where
    none : (n : ℕ) → n ≡ n + 0
    none n = omega arith
tabled-at f low (suc n) (suc k) d l = tabled-at f (low + 1) n k d (omega (arith, l)) ∙ ap f (next low k)
  where
    next : (a b : ℕ) → a + 1 + b ≡ a + suc b
    next a b = omega arith

tabled-past : {A : Type 0} (f : ℕ → A) (low n k : ℕ) (d : A) → n ≤ k → get_or (tabled f low n) k d ≡ d
unfolding tabled
tabled-past f low zero zero d l = refl
tabled-past f low zero (suc k) d l = refl
tabled-past f low (suc n) zero d l = absurd (omega (arith, l))
tabled-past f low (suc n) (suc k) d l = tabled-past f (low + 1) n k d (omega (arith, l))

-- ---- a box as it stands in a line

-- the middle of a box, or its baseline, from its top
abbrev pub base_of : BoxTree → World → (ℕ → Independent) → ℕ → ℤ
base_of tree w apart k = by_align (own tree k (λ (s : Style). s.valign) of_valign.Baseline)
  where
    by_align : Valign → ℤ
    by_align of_valign.Middle = floor_of (apart k).size.height 2
    by_align _ = (inner_size tree w apart k).above

-- how far that is above the top, where it is
abbrev pub turn_of : BoxTree → World → (ℕ → Independent) → (ℕ → Bounds) → ℕ → ℕ
turn_of tree w apart own k = min (unsigned_abs (int_min (base_of tree w apart k) (pos 0))) (own k).up

abbrev pub turned_of : BoxTree → World → (ℕ → Independent) → (ℕ → Bounds) → ℕ → Bounds
turned_of tree w apart own k = record {
  up = (own k).up - turn_of tree w apart own k;
  down = (own k).down + turn_of tree w apart own k;
  aside = (own k).aside;
}

-- ---- the page

module _ (tree : BoxTree) (w : World) (t : ℕ) (fine : 8 * t ≤ greatest_length)
    (boxes : (k : ℕ) → IsOnPage tree.boxes k → IsWhole tree k → IsBoxSmall tree w t k)
    (lines_small : (own : ℕ → Bounds) (apart : ℕ → Independent) (independent_in : (k : ℕ) → IsIndependentIn (own k) greatest_length (apart k)) (k : ℕ) (left wide : ℤ) → IsSound tree w k wide → has_line tree k ≡ true
    → IsContentSmall (line_context tree w own (turned_of tree w apart own) greatest_length t fine boxes apart independent_in k left wide) own (turned_of tree w apart own) greatest_length) where
  abbrev pub right : ℕ → Independent
  right k = landed.independent tree w (landed.flow tree w) k (room tree w k)

  abbrev pub Good : ℕ → Type 0
  Good k = IsSound tree w k (room tree w k) × IsWhole tree k

  is_good : ℕ → Bool
  is_good k = list_any (λ j. j == k) (page_order tree.boxes) && not (is_fragmented (kind_of tree k))

  good-is : (k : ℕ) → is_good k ≡ true → Good k
  unfolding is_good
  good-is k e = by (list_any (λ j. j == k) (page_order tree.boxes)) (is_fragmented (kind_of tree k)) refl refl e
    where
      by : (b i : Bool) → list_any (λ j. j == k) (page_order tree.boxes) ≡ b → is_fragmented (kind_of tree k) ≡ i → (b && not i) ≡ true → Good k
      by false i f g h = absurd (cc)
      by true true f g h = absurd (cc)
      by true false f g h =
          let found = any_in (λ j. j == k) (page_order tree.boxes) f in
          let same : found.0 ≡ k = let e = found.2 in grind (arith, nat_tests, e) in
          (record { page = placed_on_page tree.boxes k (subst (Contains (page_order tree.boxes)) same found.1); room = refl; block = whole_no_inline (kind_of tree k) g }, g)

  good-from : (k : ℕ) → Good k → is_good k ≡ true
  unfolding is_good
  good-from k g =
      let any = any_from (λ j. j == k) (page_order tree.boxes) k (page_placed tree.boxes k (forest tree) g.0.page) (same k) in
      ap (λ b. b && not (is_fragmented (kind_of tree k))) any ∙ ap (λ b. not b) g.1
    where
      same : (k : ℕ) → (k == k) ≡ true
      same k = grind (arith, nat_tests)

  -- the boxes after a number, as they are laid out
  entry : ℕ → ℕ → Option Independent
  entry low k = elim (nat_lt low k && is_good k) [ true ↦ Some (right k) | false ↦ None ]

  pub table : ℕ → List (Option Independent)
  table low = tabled (entry low) 0 (length tree.boxes)

  pub apart-from : (low k : ℕ) → ((laid_at (table low) k ≡ right k) × (low < k) × Good k) ⊎ (laid_at (table low) k ≡ nothing_independent)
  unfolding table entry
  apart-from low k = by_place (nat_lt k (length tree.boxes)) refl
    where
      none : 0 + k ≡ k
      none = omega arith

      at : k < length tree.boxes → laid_at (tabled (entry low) 0 (length tree.boxes)) k ≡ unwrap_or (entry low k) nothing_independent
      at l = ap (λ (o : Option Independent). unwrap_or o nothing_independent) (tabled-at (entry low) 0 (length tree.boxes) k None l ∙ ap (entry low) none)

      by_entry : (b : Bool) → (nat_lt low k && is_good k) ≡ b → k < length tree.boxes → ((laid_at (tabled (entry low) 0 (length tree.boxes)) k ≡ right k) × (low < k) × Good k) ⊎ (laid_at (tabled (entry low) 0 (length tree.boxes)) k ≡ nothing_independent)
      by_entry false e l = inr (at l ∙ ap (λ (b : Bool). unwrap_or (elim b as (λ _. Option Independent) [ true ↦ Some (right k) | false ↦ None ]) nothing_independent) e)
      by_entry true e l = inl (at l ∙ ap (λ (b : Bool). unwrap_or (elim b as (λ _. Option Independent) [ true ↦ Some (right k) | false ↦ None ]) nothing_independent) e, (let f = and_first (nat_lt low k) (is_good k) e in grind (arith, nat_tests, f)), good-is k (and_second (nat_lt low k) (is_good k) e))

      by_place : (b : Bool) → nat_lt k (length tree.boxes) ≡ b → ((laid_at (tabled (entry low) 0 (length tree.boxes)) k ≡ right k) × (low < k) × Good k) ⊎ (laid_at (tabled (entry low) 0 (length tree.boxes)) k ≡ nothing_independent)
      by_place true e = by_entry (nat_lt low k && is_good k) refl (grind (arith, nat_tests, e))
      by_place false e = inr (ap (λ (o : Option Independent). unwrap_or o nothing_independent) (tabled-past (entry low) 0 (length tree.boxes) k None (grind (arith, nat_tests, e))))

  served-at : (low k : ℕ) → low < k → Good k → right k ≡ laid_at (table low) k
  unfolding table entry
  served-at low k l g =
      let within = within-page tree k g.0.page in
      let e : (nat_lt low k && is_good k) ≡ true = ap (λ b. b && is_good k) (before low k l) ∙ good-from k g in
      sym (ap (λ (o : Option Independent). unwrap_or o nothing_independent) (tabled-at (entry low) 0 (length tree.boxes) k None within ∙ ap (entry low) (none k))
      ∙ ap (λ (b : Bool). unwrap_or (elim b as (λ _. Option Independent) [ true ↦ Some (right k) | false ↦ None ]) nothing_independent) e)
    where
      none : (k : ℕ) → 0 + k ≡ k
      none k = omega arith

      before : (a b : ℕ) → a < b → nat_lt a b ≡ true
      before a b l = grind (arith, nat_tests)

  -- ---- what stands outside a flow

  abbrev pub IsApart : ℕ → ℕ → Type 0
  IsApart c k = (c < k) × Good k

  pub outside-good : (c : ℕ) → IsSound tree w c (room tree w c) → AllByRecursion (IsApart c) (outside_of tree c)
  outside-good c g = by (has_line tree c)
    where
      own_sound : (k : ℕ) (wide : ℤ) → IsSound tree w k wide → IsSound tree w k (room tree w k)
      own_sound k wide i = record { page = i.page; room = refl; block = i.block }

      both : (ks : List ℕ) → AllByRecursion (IsFrom tree.boxes (suc c)) ks → AllByRecursion (λ k. IsSound tree w k (room tree w k)) ks → AllByRecursion (IsWhole tree) ks → AllByRecursion (IsApart c) ks
      both [] f a q = tt
      both (k ∷ ks) f a q = let from = (f.0).from in ((omega (arith, from), (a.0, q.0)), both ks f.1 a.1 q.1)

      inner : AllByRecursion (IsApart c) (inner_boxes tree c)
      inner = both (inner_boxes tree c) (inner_boxes-from tree c (forest tree))
          (All-implied (λ k. IsSound tree w k (inline_size (content_from (pos 0) (widths tree w c (room tree w c))))) (λ k. IsSound tree w k (room tree w k)) (inner_boxes tree c) (λ k i. own_sound k _ i) (inner_boxes-sound tree w c (pos 0) (room tree w c) g))
          (inner-whole tree w (widths tree w c (room tree w c)).content (content tree c) (content-items tree w c (room tree w c) g))

      flow : AllByRecursion (IsApart c) (filter (is_floated_at tree) (flow_children tree c))
      flow = both (filter (is_floated_at tree) (flow_children tree c)) (All-filter (IsFrom tree.boxes (suc c)) (is_floated_at tree) (flow_children tree c) (children-from tree c))
          (All-filter (λ k. IsSound tree w k (room tree w k)) (is_floated_at tree) (flow_children tree c) (All-implied _ (λ k. IsSound tree w k (room tree w k)) (flow_children tree c) (λ k i. own_sound k _ i.sound) (flow-sound tree w c (pos 0) (room tree w c) g)))
          (All-implied (λ k. IsTrue (is_floated_at tree k)) (IsWhole tree) (filter (is_floated_at tree) (flow_children tree c)) (λ k f. float-whole tree w k f) (filter-passes (is_floated_at tree) (flow_children tree c)))

      by : (l : Bool) → AllByRecursion (IsApart c) (elim l as (λ _. List ℕ) [ true ↦ inner_boxes tree c | false ↦ filter (is_floated_at tree) (flow_children tree c) ])
      by true = inner
      by false = flow

  pub served : (low c : ℕ) → low ≤ c → IsOnPage tree.boxes c → is_inline (kind_of tree c) ≡ false → AllByRecursion (λ k. right k ≡ laid_at (table low) k) (outside_of tree c)
  served low c l p b =
      All-implied (IsApart c) (λ k. right k ≡ laid_at (table low) k) (outside_of tree c) (λ k i. (let after = i.0 in served-at low k (omega (arith, after, l)) i.1)) (outside-good c (record { page = p; room = refl; block = b }))

  -- ---- from the last box on

  pub record AreKnown (low : ℕ) : Type 0 where
    pub own : ℕ → Bounds
    pub known : (k : ℕ) → low ≤ k → Good k → IsIndependentIn (own k) greatest_length (right k)
    pub few : IsFew tree own

  pub nothing-in : (b : Bounds) → IsIndependentIn b greatest_length nothing_independent
  nothing-in b = record { width = omega arith; height = record { top = omega (arith, ints); bottom = omega (arith, ints) }; baseline = tt; boxes = tt }

  pub turned-few : (apart : ℕ → Independent) (own : ℕ → Bounds) → IsFew tree own → IsFew tree (turned_of tree w apart own)
  turned-few apart own f k l = let a = f k l in let n = turn (unsigned_abs (int_min (base_of tree w apart k) (pos 0))) (own k).up in omega (arith, a, n)
    where
      turn : (m n : ℕ) → min m n ≤ n
      turn m n = omega arith

  module _ (low : ℕ) (l : low < length tree.boxes) (a : AreKnown (suc low)) where
    abbrev pub apart : ℕ → Independent
    apart k = laid_at (table low) k

    abbrev pub turned : ℕ → Bounds
    turned = turned_of tree w apart a.own

    pub independent_in : (k : ℕ) → IsIndependentIn (a.own k) greatest_length (apart k)
    independent_in k = by (apart-from low k)
      where
        by : ((laid_at (table low) k ≡ right k) × (low < k) × Good k) ⊎ (laid_at (table low) k ≡ nothing_independent) → IsIndependentIn (a.own k) greatest_length (laid_at (table low) k)
        by (inl e) = let after = e.1 in subst (IsIndependentIn (a.own k) greatest_length) (sym e.0) (a.known k (omega (arith, after)) e.2)
        by (inr e) = subst (IsIndependentIn (a.own k) greatest_length) (sym e) (nothing-in (a.own k))

    abbrev own_here : Bounds
    own_here = independent_rise tree w a.own turned greatest_length t fine boxes apart independent_in (lines_small a.own apart independent_in) low

    abbrev pub own_now : ℕ → Bounds
    own_now k = elim (k == low) as (λ _. Bounds) [ true ↦ own_here | false ↦ a.own k ]

    here-known : Good low → IsIndependentIn own_here greatest_length (right low)
    here-known g =
        subst (IsIndependentIn own_here greatest_length) (sym (box-same tree w (table low) low (λ c m p b. served low c m p b) low (room tree w low) (omega arith) g.0))
        (independent-within tree w a.own turned greatest_length t fine boxes apart independent_in (lines_small a.own apart independent_in) low (room tree w low) g.0 g.1 l)

    one-more : AreKnown low
    one-more = record { own = own_now; known = known; few = few }
      where
        known : (k : ℕ) → low ≤ k → Good k → IsIndependentIn (own_now k) greatest_length (right k)
        known k m g = by (k == low) refl
          where
            by : (b : Bool) → (k == low) ≡ b → IsIndependentIn (elim b as (λ _. Bounds) [ true ↦ own_here | false ↦ a.own k ]) greatest_length (right k)
            by true e = let same : low ≡ k = grind (arith, nat_tests) in subst (λ (x : ℕ). IsIndependentIn own_here greatest_length (right x)) same (here-known (subst Good (sym same) g))
            by false e = a.known k (grind (arith, nat_tests)) g

        few : IsFew tree own_now
        few k m = by (k == low) refl
          where
            by : (b : Bool) → (k == low) ≡ b → size_of (elim b as (λ _. Bounds) [ true ↦ own_here | false ↦ a.own k ]) + 2 * unit ≤ unit * load tree k
            by true e = let same : low ≡ k = grind (arith, nat_tests) in subst (λ (x : ℕ). size_of own_here + 2 * unit ≤ unit * load tree x) same (independent-few tree a.own turned a.few (turned-few apart a.own a.few) low l)
            by false e = a.few k m

  none-known : AreKnown (length tree.boxes)
  none-known = record {
    own = λ k. no_bounds;
    known = λ k l g. absurd (let within = within-page tree k g.0.page in omega arith);
    few = λ k l. (let is = load-is tree k l in omega (arith, is));
  }

  pub all-known : (count low : ℕ) → count + low ≡ length tree.boxes → AreKnown low
  all-known zero low e = let same : length tree.boxes ≡ low = omega (arith, e) in subst AreKnown same none-known
  all-known (suc count) low e = one-more low (omega (arith, e)) (all-known count (suc low) (omega (arith, e)))

  -- a box as it is laid out goes on by what it and all in it have, with all before it
  pub record IsKnownIn (k : ℕ) : Type 0 where
    pub own : Bounds
    pub inside : IsIndependentIn own greatest_length (right k)
    pub few : size_of own + unit * rank tree k ≤ unit * rank tree (length tree.boxes)

  pub known-in : (k : ℕ) → Good k → IsKnownIn k
  known-in k g =
      let all = all-known (length tree.boxes) 0 (omega arith) in
      let l = within-page tree k g.0.page in
      let few = all.few k l in
      let order = load-rank tree k (length tree.boxes) (box_before tree k l) in
      record { own = all.own k; inside = all.known k (omega arith) g; few = omega (arith, few, order) }

-- The top that is found, from the highest one downwards, is the highest free one.
use Rattle.std.proofs.Common.{◌≡◌, ℕ, zero, suc, ◌<◌, ◌≤◌, ℤ, ◌≤ℤ◌, ◌<ℤ◌, Bool, true, false, not, int_le, int_lt, IsTrue, List, [], ◌∷◌, length, map, filter, Option, Some, None, refl, sym, ap, ◌∙◌, subst, inl, inr, ◌⊎◌, arith, Contains, ⊎_elim}
use Rattle.std.specs.Prelude.{unwrap_or}
use Rattle.std.specs.Int.{int_min}
use Rattle.std.proofs.lemmas.Int.{ints}
use Rattle.viz_base.specs.declared.layouts.Band.{Band}
use Rattle.viz_base.specs.declared.styles.Side.{Side}
use Rattle.viz_base.proofs.ListLemmas.{later_member}
use Rattle.layout_semantics.specs.Extremes.{least_from}
use Rattle.layout_semantics.specs.Floats.{FloatBox, is_allowed, farthest_at, highest_top, candidate_tops, below_all, highest_free}
use Rattle.layout_laws.proofs.Members.{no_member, first_member, first_or_later, by_member, from_filter, to_filter, to_map, from_map}
use Rattle.layout_laws.proofs.Extremes.{below_greatest, start_below_greatest, above_least, start_above_least, least_at_least, least_is_one}
use Rattle.layout_laws.proofs.Truths.{le, is_le, lt, is_lt}
use Rattle.lay_float.specs.steps.Shelves.{shelf_on, is_free, sooner, soonest, next_top, free_top}
use Rattle.lay_float.proofs.Orders.{least-first}
use Rattle.lay_float.proofs.Shelved.{ends_below, free_is}
use Rattle.lay_float.proofs.Allowed.{free_is_allowed}

-- ---- the highest bottom below a top

abbrev pub bottoms : List FloatBox → List ℤ
bottoms fs = map (λ (f : FloatBox). f.box.bottom) fs

abbrev least_of : List ℤ → Option ℤ
least_of [] = None
least_of (b ∷ bs) = Some (least_from b bs)

soonest_from : (y : ℤ) (fs : List FloatBox) (a : ℤ) → soonest y fs (Some a) ≡ Some (least_from a (bottoms (filter (ends_below y) fs)))
unfolding soonest sooner
soonest_from y [] a = refl
soonest_from y (f ∷ fs) a = by (int_le f.box.bottom y) refl (soonest_from y fs a) (soonest_from y fs (int_min f.box.bottom a))
  where
    by : (b : Bool) → int_le f.box.bottom y ≡ b → soonest y fs (Some a) ≡ Some (least_from a (bottoms (filter (ends_below y) fs)))
        → soonest y fs (Some (int_min f.box.bottom a)) ≡ Some (least_from (int_min f.box.bottom a) (bottoms (filter (ends_below y) fs)))
        → soonest y (f ∷ fs) (Some a) ≡ Some (least_from a (bottoms (filter (ends_below y) (f ∷ fs))))
    by true e rest lower = rw e rest
    by false e rest lower = rw e (lower ∙ ap Some (least-first f.box.bottom a (bottoms (filter (ends_below y) fs))))

pub soonest_is : (y : ℤ) (fs : List FloatBox) → soonest y fs None ≡ least_of (bottoms (filter (ends_below y) fs))
unfolding soonest sooner
soonest_is y [] = refl
soonest_is y (f ∷ fs) = by (int_le f.box.bottom y) refl (soonest_is y fs)
  where
    by : (b : Bool) → int_le f.box.bottom y ≡ b → soonest y fs None ≡ least_of (bottoms (filter (ends_below y) fs)) → soonest y (f ∷ fs) None ≡ least_of (bottoms (filter (ends_below y) (f ∷ fs)))
    by true e rest = rw e rest
    by false e rest = rw e (soonest_from y fs f.box.bottom)

-- ---- fewer floats end below a lower top

below : (y : ℤ) (f : FloatBox) → IsTrue (ends_below y f) → y <ℤ f.box.bottom
below y f h = grind (arith, ints)

is_below : (y : ℤ) (f : FloatBox) → y <ℤ f.box.bottom → IsTrue (ends_below y f)
is_below y f h = grind (arith, ints)

no_more : (y m : ℤ) (fs : List FloatBox) → y ≤ℤ m → length (filter (ends_below m) fs) ≤ length (filter (ends_below y) fs)
no_more y m [] l = omega arith
no_more y m (f ∷ fs) l = by (int_le f.box.bottom y) (int_le f.box.bottom m) refl refl (no_more y m fs l)
  where
    by : (a b : Bool) → int_le f.box.bottom y ≡ a → int_le f.box.bottom m ≡ b → length (filter (ends_below m) fs) ≤ length (filter (ends_below y) fs) → length (filter (ends_below m) (f ∷ fs)) ≤ length (filter (ends_below y) (f ∷ fs))
    by true true p q rest = rw (p, q) rest
    by true false p q rest = let above = le f.box.bottom y p in let t = is_le f.box.bottom m (omega (arith, ints)) in absurd (cc)
    by false true p q rest = rw (p, q) (omega arith)
    by false false p q rest = rw (p, q) (omega arith)

fewer : (y m : ℤ) (fs : List FloatBox) (g : FloatBox) → y ≤ℤ m → Contains fs g → IsTrue (ends_below y g) → int_le g.box.bottom m ≡ true → length (filter (ends_below m) fs) < length (filter (ends_below y) fs)
fewer y m [] g l i p q = no_member i
fewer y m (f ∷ fs) g l i p q = at (first_or_later f fs g i) (λ j. fewer y m fs g l j p q)
  where
    fails : (b : Bool) → IsTrue (not b) → b ≡ false
    fails true h = absurd (cc)
    fails false h = refl

    by : (a b : Bool) → int_le f.box.bottom y ≡ a → int_le f.box.bottom m ≡ b → length (filter (ends_below m) fs) < length (filter (ends_below y) fs) → length (filter (ends_below m) (f ∷ fs)) < length (filter (ends_below y) (f ∷ fs))
    by true true s t rest = rw (s, t) rest
    by true false s t rest = let above = le f.box.bottom y s in let u = is_le f.box.bottom m (omega (arith, ints)) in absurd (cc)
    by false true s t rest = rw (s, t) (omega arith)
    by false false s t rest = rw (s, t) (omega arith)

    at : (f ≡ g) ⊎ Contains fs g → (Contains fs g → length (filter (ends_below m) fs) < length (filter (ends_below y) fs)) → length (filter (ends_below m) (f ∷ fs)) < length (filter (ends_below y) (f ∷ fs))
    at (inl e) again =
        let before : int_le f.box.bottom y ≡ false = fails (int_le f.box.bottom y) (subst (λ (h : FloatBox). IsTrue (ends_below y h)) (sym e) p) in
        let after : int_le f.box.bottom m ≡ true = subst (λ (h : FloatBox). int_le h.box.bottom m ≡ true) (sym e) q in
        rw (before, after) (let rest = no_more y m fs l in omega arith)
    at (inr j) again = by (int_le f.box.bottom y) (int_le f.box.bottom m) refl refl (again j)

pub at_most : (y : ℤ) (fs : List FloatBox) → length (filter (ends_below y) fs) ≤ length fs
at_most y [] = omega arith
at_most y (f ∷ fs) = by (int_le f.box.bottom y) refl (at_most y fs)
  where
    by : (b : Bool) → int_le f.box.bottom y ≡ b → length (filter (ends_below y) fs) ≤ length fs → length (filter (ends_below y) (f ∷ fs)) ≤ length (f ∷ fs)
    by true e rest = rw e (omega arith)
    by false e rest = rw e (omega arith)

-- ---- from top to top

module _ (floats : List FloatBox) (side : Side) (width : ℤ) (cb : Band ℤ) (top : ℤ) where
  abbrev high : ℤ
  high = highest_top floats top

  abbrev free : ℤ → Bool
  free y = is_allowed floats side width cb top (farthest_at floats side width cb y)

  abbrev stands : ℤ → Bool
  stands y = is_free side width cb (shelf_on floats side cb y)

  -- a top that may be the one looked for
  abbrev Candidate : ℤ → Type 0
  Candidate y = (y ≡ high) ⊎ ((high <ℤ y) × Contains (bottoms floats) y)

  candidate : (y : ℤ) → Contains (candidate_tops floats high) y → Candidate y
  candidate y i = ⊎_elim (λ e. inl (sym e)) (λ j. let f = from_filter (int_lt high) (bottoms floats) y j in inr (lt high y f.1, f.0)) (first_or_later high (filter (int_lt high) (bottoms floats)) y i)

  is_candidate : (y : ℤ) → Candidate y → Contains (candidate_tops floats high) y
  is_candidate y (inl e) = first_member _ (sym e)
  is_candidate y (inr c) = later_member _ (to_filter (int_lt high) (bottoms floats) y c.1 (is_lt high y c.0))

  record Found (y : ℤ) : Type 0 where
    allows : IsTrue (free y)
    among : Candidate y
    above : (c : ℤ) → Candidate c → IsTrue (free c) → y ≤ℤ c

  same : (y : ℤ) → high ≤ℤ y → stands y ≡ free y
  same y h = free_is_allowed floats width cb top y
      (let t = start_below_greatest top (map (λ (f : FloatBox). f.box.top) floats) in omega (arith, ints))
      (λ f i. let t = below_greatest top (map (λ (f : FloatBox). f.box.top) floats) f.box.top (to_map (λ (f : FloatBox). f.box.top) floats f i) in omega (arith, ints))
      side

  stands_alone : (y : ℤ) → filter (ends_below y) floats ≡ [] → stands y ≡ true
  stands_alone y none = free_is side width cb y floats ∙ rw none refl

  -- where there is no place at a top, the next one is the highest bottom below it
  pub record Next (y m : ℤ) : Type 0 where
    pub lower : y <ℤ m
    pub bottom : Contains (bottoms floats) m
    pub highest : (f : FloatBox) → Contains floats f → IsTrue (ends_below y f) → m ≤ℤ f.box.bottom
    pub fewer : length (filter (ends_below m) floats) < length (filter (ends_below y) floats)

  next_of : (y : ℤ) (g : FloatBox) (gs : List FloatBox) → filter (ends_below y) floats ≡ g ∷ gs → Next y (next_top floats y)
  next_of y g gs e = subst (λ (m : ℤ). Next y m) (sym (ap (λ o. unwrap_or o y) (soonest_is y floats ∙ ap (λ fs. least_of (bottoms fs)) e))) found
    where
      m : ℤ
      m = least_from g.box.bottom (bottoms gs)

      one : (f : FloatBox) × Contains (g ∷ gs) f × (f.box.bottom ≡ m)
      one = at (least_is_one g.box.bottom (bottoms gs))
        where
          at : ((m ≡ g.box.bottom) ⊎ Contains (bottoms gs) m) → (f : FloatBox) × Contains (g ∷ gs) f × (f.box.bottom ≡ m)
          at (inl s) = (g, first_member gs refl, sym s)
          at (inr i) = let s = from_map (λ (f : FloatBox). f.box.bottom) gs m i in (s.0, later_member gs s.1, s.2)

      inside : Contains floats one.0 × IsTrue (ends_below y one.0)
      inside = from_filter (ends_below y) floats one.0 (subst (λ (fs : List FloatBox). Contains fs one.0) (sym e) one.1)

      lower : y <ℤ m
      lower = subst (λ (z : ℤ). y <ℤ z) one.2 (below y one.0 inside.1)

      not_below : (f : FloatBox) → Contains (g ∷ gs) f → m ≤ℤ f.box.bottom
      not_below f i = by_member (λ (h : FloatBox). m ≤ℤ h.box.bottom) g gs f i (start_above_least g.box.bottom (bottoms gs))
          (λ j. above_least g.box.bottom (bottoms gs) f.box.bottom (to_map (λ (f : FloatBox). f.box.bottom) gs f j))

      found : Next y m
      found = record {
        lower = lower;
        bottom = subst (λ (z : ℤ). Contains (bottoms floats) z) one.2 (to_map (λ (f : FloatBox). f.box.bottom) floats one.0 inside.0);
        highest = λ f i b. not_below f (subst (λ (fs : List FloatBox). Contains fs f) e (to_filter (ends_below y) floats f i b));
        fewer = fewer y m floats one.0 (omega (arith, ints, lower)) inside.0 inside.1 (is_le one.0.box.bottom m (omega (arith, ints, one.2)));
      }

  pub next : (y : ℤ) → stands y ≡ false → Next y (next_top floats y)
  next y not_free = by (filter (ends_below y) floats) refl
    where
      by : (near : List FloatBox) → filter (ends_below y) floats ≡ near → Next y (next_top floats y)
      by [] e = let t = stands_alone y e in absurd (cc)
      by (g ∷ gs) e = next_of y g gs e

  pub next_low : (y : ℤ) → y ≤ℤ next_top floats y
  next_low y = by (filter (ends_below y) floats) refl
    where
      by : (near : List FloatBox) → filter (ends_below y) floats ≡ near → y ≤ℤ next_top floats y
      by [] e = subst (λ (m : ℤ). y ≤ℤ m) (sym (ap (λ o. unwrap_or o y) (soonest_is y floats ∙ ap (λ fs. least_of (bottoms fs)) e))) (omega (arith, ints))
      by (g ∷ gs) e = let t = (next_of y g gs e).lower in omega (arith, ints)

  -- each free top that is not above this one is not above the next either
  down : (y : ℤ) → high ≤ℤ y → stands y ≡ false → ((c : ℤ) → Candidate c → IsTrue (free c) → y ≤ℤ c) → (c : ℤ) → Candidate c → IsTrue (free c) → next_top floats y ≤ℤ c
  down y from e above c i h = at i (passed (int_le c y) refl)
    where
      passed : (b : Bool) → int_le c y ≡ b → y <ℤ c
      passed true t =
          let u = le c y t in
          let l = above c i h in
          let s : c ≡ y = omega (arith, ints) in
          let f : stands y ≡ true = same y from ∙ subst (λ (z : ℤ). IsTrue (free z)) s h in
          absurd (cc)
      passed false t = grind (arith, ints)

      at : Candidate c → y <ℤ c → next_top floats y ≤ℤ c
      at (inl s) lower = absurd (omega (arith, ints))
      at (inr j) lower =
          let f = from_map (λ (f : FloatBox). f.box.bottom) floats c j.1 in
          subst (λ (z : ℤ). next_top floats y ≤ℤ z) f.2 ((next y e).highest f.0 f.1 (is_below y f.0 (subst (λ (z : ℤ). y <ℤ z) (sym f.2) lower)))

  search : (n : ℕ) (y : ℤ) → length (filter (ends_below y) floats) ≤ n → high ≤ℤ y → Candidate y → ((c : ℤ) → Candidate c → IsTrue (free c) → y ≤ℤ c) → Found (free_top n floats side width cb y)
  unfolding free_top
  search zero y few from is above = record { allows = sym (same y from) ∙ stands_alone y (empty (filter (ends_below y) floats) few); among = is; above = above }
    where
      empty : (fs : List FloatBox) → length fs ≤ 0 → fs ≡ []
      empty [] l = refl
      empty (f ∷ fs) l = absurd (omega arith)
  search (suc n) y few from is above = by (stands y) refl (λ m. search n m)
    where
      by : (b : Bool) → stands y ≡ b
          → ((m : ℤ) → length (filter (ends_below m) floats) ≤ n → high ≤ℤ m → Candidate m → ((c : ℤ) → Candidate c → IsTrue (free c) → m ≤ℤ c) → Found (free_top n floats side width cb m))
          → Found (free_top (suc n) floats side width cb y)
      by true e go = rw e (record { allows = sym (same y from) ∙ e; among = is; above = above })
      by false e go =
          let m = next y e in
          rw e (go (next_top floats y) (let t = m.fewer in omega arith) (let t = m.lower in omega (arith, ints)) (inr (let t = m.lower in omega (arith, ints), m.bottom)) (down y from e above))

  from_high : (c : ℤ) → Candidate c → IsTrue (free c) → high ≤ℤ c
  from_high c (inl s) h = omega (arith, ints)
  from_high c (inr i) h = let t = i.0 in omega (arith, ints)

  module _ (n : ℕ) (few : length (filter (ends_below high) floats) ≤ n) where
    found : Found (free_top n floats side width cb high)
    found = search n high few (omega (arith, ints)) (inl refl) from_high

    -- no float's top is below it
    pub free_top_low : high ≤ℤ free_top n floats side width cb high
    free_top_low = from_high (free_top n floats side width cb high) found.among found.allows

    up : highest_free floats side width cb top high ≤ℤ free_top n floats side width cb high
    up = above_least (below_all floats high) (filter free (candidate_tops floats high)) (free_top n floats side width cb high)
        (to_filter free (candidate_tops floats high) (free_top n floats side width cb high) (is_candidate (free_top n floats side width cb high) found.among) found.allows)

    not_lower : (y : ℤ) → Candidate y → y ≤ℤ below_all floats high
    not_lower y (inl s) = subst (λ (z : ℤ). z ≤ℤ below_all floats high) (sym s) (start_below_greatest high (bottoms floats))
    not_lower y (inr i) = below_greatest high (bottoms floats) y i.1

    lowest : free_top n floats side width cb high ≤ℤ highest_free floats side width cb top high
    lowest = least_at_least (below_all floats high) (filter free (candidate_tops floats high)) (free_top n floats side width cb high)
        (not_lower (free_top n floats side width cb high) found.among)
        (λ c i. let s = from_filter free (candidate_tops floats high) c i in found.above c (candidate c s.0) s.1)

    pub free_top_is : free_top n floats side width cb high ≡ highest_free floats side width cb top high
    free_top_is = omega (arith, ints, up, lowest)

-- Where the two tops of a bracket have met, the lower one is the highest place.
use Rattle.std.proofs.Common.{◌≡◌, ℕ, zero, suc, ◌≤◌, ℤ, ◌≤ℤ◌, ◌<ℤ◌, Bool, true, false, not, int_le, IsTrue, List, [], ◌∷◌, length, filter, Option, Some, None, refl, sym, ap, ◌∙◌, subst, inl, inr, ◌⊎◌, arith, Contains}
use Rattle.std.proofs.lemmas.Int.{ints}
use Rattle.viz_base.specs.declared.layouts.Band.{Band}
use Rattle.viz_base.specs.declared.styles.Side.{Side}
use Rattle.viz_base.specs.declared.styles.Side.TheVariants as of_side
use Rattle.viz_base.proofs.ListLemmas.{later_member}
use Rattle.layout_semantics.specs.Floats.{FloatBox, is_left, beside}
use Rattle.layout_laws.proofs.Beside.{room_after, room_before, room_from, room_to, left_edge, right_edge}
use Rattle.layout_laws.proofs.Members.{no_member, first_member, first_or_later, from_filter, to_filter, to_map, from_map, all_in, all_from}
use Rattle.layout_laws.proofs.Truths.{le, is_le}
use Rattle.lay_float.specs.steps.Shelves.{Place, is_same_side, facing, opposite, side_edge, far_edge, reaches_to, shelf_on, is_free, stand, next_top, free_top, place_on}
use Rattle.lay_float.specs.steps.Brackets.{Bracket, is_passed, is_settled, tried, visited, visited_all, IsPlaceBelow, IsBracket}
use Rattle.lay_float.proofs.Shelved.{ends_below, clears, free_is}
use Rattle.lay_float.proofs.Search.{bottoms, Next, next, at_most}

-- ---- where there is place at a top, there is at each lower one

fewer_below : (a b : ℤ) (f : FloatBox) → a ≤ℤ b → ends_below b f ≡ true → ends_below a f ≡ true
fewer_below a b f l h = by (int_le f.box.bottom a) refl
  where
    by : (c : Bool) → int_le f.box.bottom a ≡ c → ends_below a f ≡ true
    by true e = let t = le f.box.bottom a e in let u : int_le f.box.bottom b ≡ true = is_le f.box.bottom b (omega (arith, ints)) in let v : not true ≡ true = (rw u at h) in absurd (cc)
    by false e = rw e refl

-- an edge that leaves as much of the content
abbrev Recedes : Side → ℤ → ℤ → Type 0
Recedes of_side.Left z x = z ≤ℤ x
Recedes of_side.Right z x = x ≤ℤ z

reaches_too : (side : Side) (z x limit : ℤ) → Recedes side z x → reaches_to side x limit ≡ true → reaches_to side z limit ≡ true
reaches_too of_side.Left z x limit r h = let t = le x limit h in is_le z limit (omega (arith, ints))
reaches_too of_side.Right z x limit r h = let t = le limit x h in is_le limit z (omega (arith, ints))

clears_too : (side : Side) (cb : Band ℤ) (z x : ℤ) (f : FloatBox) → Recedes side z x → clears side cb x f ≡ true → clears side cb z f ≡ true
clears_too side cb z x f r h = by (is_same_side f.side side) refl
  where
    by : (b : Bool) → is_same_side f.side side ≡ b → clears side cb z f ≡ true
    by true e = rw e (reaches_too side z x (side_edge (opposite side) cb) r (rw e at h))
    by false e = rw e (reaches_too side z x (facing f.side f.box) r (rw e at h))

module _ (fs : List FloatBox) (side : Side) (width : ℤ) (cb : Band ℤ) where
  abbrev stands : ℤ → Bool
  stands y = is_free side width cb (shelf_on fs side cb y)

  abbrev far : Side → ℤ → ℤ
  far s y = far_edge s (side_edge s (beside (filter (ends_below y) fs) cb)) width

  left_recedes : (a b : ℤ) → a ≤ℤ b → (beside (filter (ends_below b) fs) cb).left ≤ℤ (beside (filter (ends_below a) fs) cb).left
  left_recedes a b l = by (left_edge fs cb (ends_below b))
    where
      by : (((beside (filter (ends_below b) fs) cb).left ≡ cb.left) ⊎ ((f : FloatBox) × Contains fs f × IsTrue (ends_below b f) × IsTrue (is_left f) × (f.box.right ≡ (beside (filter (ends_below b) fs) cb).left)))
          → (beside (filter (ends_below b) fs) cb).left ≤ℤ (beside (filter (ends_below a) fs) cb).left
      by (inl e) = subst (λ (z : ℤ). z ≤ℤ (beside (filter (ends_below a) fs) cb).left) (sym e) (room_from fs cb (ends_below a))
      by (inr f) = subst (λ (z : ℤ). z ≤ℤ (beside (filter (ends_below a) fs) cb).left) f.4 (room_after fs cb (ends_below a) f.0 f.1 (fewer_below a b f.0 l f.2) f.3)

  right_recedes : (a b : ℤ) → a ≤ℤ b → (beside (filter (ends_below a) fs) cb).right ≤ℤ (beside (filter (ends_below b) fs) cb).right
  right_recedes a b l = by (right_edge fs cb (ends_below b))
    where
      by : (((beside (filter (ends_below b) fs) cb).right ≡ cb.right) ⊎ ((f : FloatBox) × Contains fs f × IsTrue (ends_below b f) × (is_left f ≡ false) × (f.box.left ≡ (beside (filter (ends_below b) fs) cb).right)))
          → (beside (filter (ends_below a) fs) cb).right ≤ℤ (beside (filter (ends_below b) fs) cb).right
      by (inl e) = subst (λ (z : ℤ). (beside (filter (ends_below a) fs) cb).right ≤ℤ z) (sym e) (room_to fs cb (ends_below a))
      by (inr f) = subst (λ (z : ℤ). (beside (filter (ends_below a) fs) cb).right ≤ℤ z) f.4 (room_before fs cb (ends_below a) f.0 f.1 (fewer_below a b f.0 l f.2) f.3)

  far_recedes : (s : Side) (a b : ℤ) → a ≤ℤ b → Recedes s (far s b) (far s a)
  far_recedes of_side.Left a b l = let t = left_recedes a b l in omega (arith, ints)
  far_recedes of_side.Right a b l = let t = right_recedes a b l in omega (arith, ints)

  lower_too : (a b : ℤ) → a ≤ℤ b → stands a ≡ true → stands b ≡ true
  lower_too a b l h =
      free_is side width cb b fs
      ∙ all_from (clears side cb (far side b)) (filter (ends_below b) fs) (λ f i.
      let member = from_filter (ends_below b) fs f i in
      clears_too side cb (far side b) (far side a) f (far_recedes side a b l)
      (all_in (clears side cb (far side a)) (filter (ends_below a) fs) f (sym (free_is side width cb a fs) ∙ h)
      (to_filter (ends_below a) fs f member.0 (fewer_below a b f l member.1))))

  -- ---- the highest place

  stops : (n : ℕ) (y : ℤ) → stands y ≡ true → free_top n fs side width cb y ≡ y
  unfolding free_top
  stops zero y e = refl
  stops (suc n) y e = rw e refl

  passes : (n : ℕ) (y : ℤ) → stands y ≡ false → free_top (suc n) fs side width cb y ≡ free_top n fs side width cb (next_top fs y)
  unfolding free_top
  passes n y e = rw e refl

  no_farther : (y m r : ℤ) → Next fs side width cb y y m → y <ℤ r → Contains (bottoms fs) r → m ≤ℤ r
  no_farther y m r nx lower i =
      let f = from_map (λ (f : FloatBox). f.box.bottom) fs r i in
      subst (λ (z : ℤ). m ≤ℤ z) f.2 (nx.highest f.0 f.1 (by f.0 f.2 (int_le f.0.box.bottom y) refl))
    where
      by : (f : FloatBox) → f.box.bottom ≡ r → (b : Bool) → int_le f.box.bottom y ≡ b → ends_below y f ≡ true
      by f is true e = let t = le f.box.bottom y e in absurd (omega (arith, ints))
      by f is false e = rw e refl

  least_free : (n : ℕ) (y r : ℤ) → length (filter (ends_below y) fs) ≤ n → stands y ≡ false → y <ℤ r → Contains (bottoms fs) r → stands r ≡ true
      → ((c : ℤ) → Contains (bottoms fs) c → y <ℤ c → stands c ≡ true → r ≤ℤ c) → free_top n fs side width cb y ≡ r
  least_free zero y r few full lower i free least = let t = (next fs side width cb y y full).fewer in absurd (omega arith)
  least_free (suc n) y r few full lower i free least = passes n y full ∙ by (stands m) refl (least_free n m r)
    where
      m : ℤ
      m = next_top fs y

      nx : Next fs side width cb y y (next_top fs y)
      nx = next fs side width cb y y full

      not_farther : m ≤ℤ r
      not_farther = no_farther y m r nx lower i

      by : (b : Bool) → stands m ≡ b
          → (length (filter (ends_below m) fs) ≤ n → stands m ≡ false → m <ℤ r → Contains (bottoms fs) r → stands r ≡ true → ((c : ℤ) → Contains (bottoms fs) c → m <ℤ c → stands c ≡ true → r ≤ℤ c) → free_top n fs side width cb m ≡ r)
          → free_top n fs side width cb m ≡ r
      by true e go = stops n m e ∙ (let t = least m nx.bottom nx.lower e in let u = not_farther in omega (arith, ints))
      by false e go = go (let t = nx.fewer in omega arith) e (before (int_le r m) refl) i free (λ c j l s. let t = nx.lower in least c j (omega (arith, ints)) s)
        where
          before : (b : Bool) → int_le r m ≡ b → m <ℤ r
          before true t =
              let u = le r m t in
              let v = not_farther in
              let w : m ≡ r = omega (arith, ints) in
              let x : stands m ≡ true = subst (λ (z : ℤ). stands z ≡ true) (sym w) free in
              absurd (cc)
          before false t = grind (arith, ints)

  -- ---- from bracket to bracket

  between : (b : Bracket) (bottom : ℤ) → is_settled b bottom ≡ false → (b.taken <ℤ bottom) × ((p : Place) → b.found ≡ Some p → bottom <ℤ p.top)
  between b bottom e = by (int_le bottom b.taken) refl
    where
      by : (c : Bool) → int_le bottom b.taken ≡ c → (b.taken <ℤ bottom) × ((p : Place) → b.found ≡ Some p → bottom <ℤ p.top)
      by true s = let t : true ≡ false = (rw s at e) in absurd (cc)
      by false s = (grind (arith, ints), λ p is. let t : int_le p.top bottom ≡ false = (rw (s, is) at e) in grind (arith, ints))

  pub kept : (high : ℤ) (b : Bracket) (f : FloatBox) → Contains fs f → IsBracket fs side width cb high b → IsBracket fs side width cb high (visited fs side width cb b f)
  unfolding visited
  kept high b f i is = by (is_settled b f.box.bottom) refl
    where
      found : stands f.box.bottom ≡ true → is_settled b f.box.bottom ≡ false → IsPlaceBelow fs side width cb b.taken (place_on fs side cb f.box.bottom)
      found c e = record {
        below = (between b f.box.bottom e).0;
        bottom = to_map (λ (f : FloatBox). f.box.bottom) fs f i;
        stands = refl;
        free = c;
      }

      closer : (c : Bool) → stands f.box.bottom ≡ c → is_settled b f.box.bottom ≡ false → IsBracket fs side width cb high (tried fs side width cb b f.box.bottom)
      closer true c e = rw c (record {
        low = is.low;
        full = is.full;
        place = λ p s. let same : place_on fs side cb f.box.bottom ≡ p = cc in subst (λ (q : Place). IsPlaceBelow fs side width cb b.taken q) same (found c e);
      })
      closer false c e = rw c (record {
        low = let t = is.low in let u = (between b f.box.bottom e).0 in omega (arith, ints);
        full = c;
        place = λ p s. let old = is.place p s in record { below = (between b f.box.bottom e).1 p s; bottom = old.bottom; stands = old.stands; free = old.free };
      })

      by : (c : Bool) → is_settled b f.box.bottom ≡ c → IsBracket fs side width cb high (visited fs side width cb b f)
      by true e = rw e is
      by false e = rw e (closer (stands f.box.bottom) refl e)

  pub all_kept : (high : ℤ) (gs : List FloatBox) (b : Bracket) → ((f : FloatBox) → Contains gs f → Contains fs f) → IsBracket fs side width cb high b → IsBracket fs side width cb high (visited_all fs side width cb gs b)
  unfolding visited_all
  all_kept high [] b within is = is
  all_kept high (f ∷ gs) b within is = all_kept high gs (visited fs side width cb b f) (λ g i. within g (later_member gs i)) (kept high b f (within f (first_member gs refl)) is)

  stays : (b : Bracket) (f : FloatBox) (x : ℤ) → is_settled b x ≡ true → is_settled (visited fs side width cb b f) x ≡ true
  unfolding visited
  stays b f x h = by (is_settled b f.box.bottom) refl
    where
      past : (found : Option Place) → ((p : Place) → found ≡ Some p → f.box.bottom <ℤ p.top) → is_passed found x ≡ true → f.box.bottom ≤ℤ x
      past None above s = absurd (cc)
      past (Some p) above s = let t = le p.top x s in let u = above p refl in omega (arith, ints)

      closer : (c d : Bool) → stands f.box.bottom ≡ c → int_le x b.taken ≡ d → is_settled b f.box.bottom ≡ false → is_settled (tried fs side width cb b f.box.bottom) x ≡ true
      closer true true c d e = rw (c, d) refl
      closer true false c d e = rw (c, d) (is_le f.box.bottom x (past b.found (between b f.box.bottom e).1 (rw d at h)))
      closer false true c d e = let t = le x b.taken d in let u = (between b f.box.bottom e).0 in let v = is_le x f.box.bottom (omega (arith, ints)) in rw (c, v) refl
      closer false false c d e = at (int_le x f.box.bottom) refl
        where
          at : (a : Bool) → int_le x f.box.bottom ≡ a → is_settled (tried fs side width cb b f.box.bottom) x ≡ true
          at true a = rw (c, a) refl
          at false a = rw (c, a) (rw d at h)

      by : (c : Bool) → is_settled b f.box.bottom ≡ c → is_settled (visited fs side width cb b f) x ≡ true
      by true e = rw e h
      by false e = rw e (closer (stands f.box.bottom) (int_le x b.taken) refl refl e)

  here : (b : Bracket) (f : FloatBox) → is_settled (visited fs side width cb b f) f.box.bottom ≡ true
  unfolding visited
  here b f = by (is_settled b f.box.bottom) refl
    where
      same : int_le f.box.bottom f.box.bottom ≡ true
      same = is_le f.box.bottom f.box.bottom (omega (arith, ints))

      closer : (c d : Bool) → stands f.box.bottom ≡ c → int_le f.box.bottom b.taken ≡ d → is_settled (tried fs side width cb b f.box.bottom) f.box.bottom ≡ true
      closer true true c d = rw (c, d) refl
      closer true false c d = rw (c, d) same
      closer false d c e = rw (c, same) refl

      by : (c : Bool) → is_settled b f.box.bottom ≡ c → is_settled (visited fs side width cb b f) f.box.bottom ≡ true
      by true e = rw e e
      by false e = rw e (closer (stands f.box.bottom) (int_le f.box.bottom b.taken) refl refl)

  all_stay : (gs : List FloatBox) (b : Bracket) (x : ℤ) → is_settled b x ≡ true → is_settled (visited_all fs side width cb gs b) x ≡ true
  unfolding visited_all
  all_stay [] b x h = h
  all_stay (f ∷ gs) b x h = all_stay gs (visited fs side width cb b f) x (stays b f x h)

  pub all_settled : (gs : List FloatBox) (b : Bracket) (f : FloatBox) → Contains gs f → is_settled (visited_all fs side width cb gs b) f.box.bottom ≡ true
  unfolding visited_all
  all_settled [] b f i = no_member i
  all_settled (g ∷ gs) b f i = by (first_or_later g gs f i) (λ j. all_settled gs (visited fs side width cb b g) f j)
    where
      by : (g ≡ f) ⊎ Contains gs f → (Contains gs f → is_settled (visited_all fs side width cb gs (visited fs side width cb b g)) f.box.bottom ≡ true)
          → is_settled (visited_all fs side width cb gs (visited fs side width cb b g)) f.box.bottom ≡ true
      by (inl e) again = all_stay gs (visited fs side width cb b g) f.box.bottom (subst (λ (h : FloatBox). is_settled (visited fs side width cb b g) h.box.bottom ≡ true) e (here b g))
      by (inr j) again = again j

  -- ---- where they have met

  module _ (high : ℤ) (b : Bracket) (is : IsBracket fs side width cb high b) (met : (f : FloatBox) → Contains fs f → is_settled b f.box.bottom ≡ true) where
    not_higher : (p : Place) → b.found ≡ Some p → (c : ℤ) → Contains (bottoms fs) c → stands c ≡ true → p.top ≤ℤ c
    not_higher p found c i free = by (int_le c b.taken) refl
      where
        by : (a : Bool) → int_le c b.taken ≡ a → p.top ≤ℤ c
        by true e = let t : stands b.taken ≡ true = lower_too c b.taken (le c b.taken e) free in let u = is.full in absurd (cc)
        by false e =
            let f = from_map (λ (f : FloatBox). f.box.bottom) fs c i in
            let s : is_settled b c ≡ true = subst (λ (z : ℤ). is_settled b z ≡ true) f.2 (met f.0 f.1) in
            le p.top c (rw (e, found) at s)

    pub found_is : (n : ℕ) → length fs ≤ n → stands high ≡ false → (p : Place) → b.found ≡ Some p → p ≡ place_on fs side cb (free_top n fs side width cb high)
    found_is n many full p found =
        let at = is.place p found in
        at.stands ∙ ap (λ (y : ℤ). place_on fs side cb y) (sym (least_free n high p.top (let t = at_most high fs in omega arith) full (let t = is.low in let u = at.below in omega (arith, ints)) at.bottom at.free
        (λ c i l free. not_higher p found c i free)))

    pub none_is : {P : Type 0} → b.found ≡ None → P
    none_is none =
        let t : stands b.taken ≡ true = free_is side width cb b.taken fs ∙ all_from (clears side cb (far side b.taken)) (filter (ends_below b.taken) fs) (λ f i.
        let member = from_filter (ends_below b.taken) fs f i in
        at f member.1 (met f member.0) (int_le f.box.bottom b.taken) refl) in
        let u = is.full in
        absurd (cc)
      where
        at : (f : FloatBox) → ends_below b.taken f ≡ true → is_settled b f.box.bottom ≡ true → (a : Bool) → int_le f.box.bottom b.taken ≡ a → clears side cb (far side b.taken) f ≡ true
        at f below s true e = let t : not true ≡ true = (rw e at below) in absurd (cc)
        at f below s false e = let t : is_passed None f.box.bottom ≡ true = (rw (e, none) at s) in absurd (cc)

  -- ---- float by float

  pub visited-step : (f : FloatBox) (gs : List FloatBox) (b next : Bracket) → next ≡ visited fs side width cb b f → visited_all fs side width cb (f ∷ gs) b ≡ visited_all fs side width cb gs next
  unfolding visited_all
  visited-step f gs b next e = ap (visited_all fs side width cb gs) (sym e)

  pub visited-end : (b : Bracket) → b ≡ visited_all fs side width cb [] b
  unfolding visited_all
  visited-end b = refl

  -- ---- from the highest top on

  pub at-once : (n : ℕ) (y z : ℤ) → Some z ≡ stand fs side width cb y → record { top = y; edge = z } ≡ place_on fs side cb (free_top n fs side width cb y)
  at-once n y z at = by (stands y) refl
    where
      by : (b : Bool) → stands y ≡ b → record { top = y; edge = z } ≡ place_on fs side cb (free_top n fs side width cb y)
      by true e =
          let edge : Some z ≡ Some (shelf_on fs side cb y).edge = (rw e at at) in
          let same : z ≡ (shelf_on fs side cb y).edge = cc in
          ap (λ x. record { top = y; edge = x }) same ∙ ap (λ (t : ℤ). place_on fs side cb t) (sym (stops n y e))
      by false e = let none : Some z ≡ None = (rw e at at) in absurd (cc)

  not_at_once : (y : ℤ) → None ≡ stand fs side width cb y → stands y ≡ false
  not_at_once y at = by (stands y) refl
    where
      by : (b : Bool) → stands y ≡ b → stands y ≡ false
      by true e = let some : None ≡ Some (shelf_on fs side cb y).edge = (rw e at at) in absurd (cc)
      by false e = e

  module _ (high : ℤ) (none : None ≡ stand fs side width cb high) where
    -- before anything is found
    pub first_is : IsBracket fs side width cb high (record { taken = high; found = None })
    first_is = record { low = omega (arith, ints); full = not_at_once high none; place = λ p e. absurd (cc) }

    module _ (old b : Bracket) (is : IsBracket fs side width cb high old) (closest : b ≡ visited_all fs side width cb fs old) where
      last_is : IsBracket fs side width cb high b
      last_is = subst (λ (c : Bracket). IsBracket fs side width cb high c) (sym closest) (all_kept high fs old (λ f i. i) is)

      met : (f : FloatBox) → Contains fs f → is_settled b f.box.bottom ≡ true
      met f i = subst (λ (c : Bracket). is_settled c f.box.bottom ≡ true) (sym closest) (all_settled fs old f i)

      pub met_at : (n : ℕ) → length fs ≤ n → (p : Place) → b.found ≡ Some p → p ≡ place_on fs side cb (free_top n fs side width cb high)
      met_at n many p found = found_is high b last_is met n many (not_at_once high none) p found

      pub met_somewhere : {P : Type 0} → b.found ≡ None → P
      met_somewhere nowhere = none_is high b last_is met nowhere

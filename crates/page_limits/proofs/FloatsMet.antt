-- The floats that lines meet stay within bounds: each is placed once.
use Rattle.std.proofs.Common.{◌≡◌, ℕ, zero, suc, ℤ, Bool, true, false, cond, List, [], ◌∷◌, ◌++◌, length, take, drop, fold, slice_index_or, Some, refl, sym, ◌∙◌, ap, subst, append-nil, arith}
use Rattle.std.specs.Prelude.{◌&&◌}
use Rattle.std.specs.List.{AllByRecursion, position_or_len}
use Rattle.std.proofs.lemmas.Int.{ints}
use Rattle.viz_base.specs.declared.layouts.Spot.{Spot}
use Rattle.viz_base.proofs.ListLemmas.{all_append}
use Rattle.layout_semantics.specs.Floats.{FloatBox}
use Rattle.layout_semantics.specs.InlineContent.{Item, float_boxes, makes_line}
use Rattle.layout_semantics.specs.LineFilling.{Met, Line, float_size, line_float, line_spot, with_spot, with_waiting, place_each, none_waits, leaves_room, meet, met_after, joined, first_items, width_held, before_line, from_line_on}
use Rattle.layout_semantics.specs.LineHeights.{InlineContext}
use Rattle.layout_laws.proofs.Levels.{All-implied}
use Rattle.page_limits.specs.Bounds.{Bounds, AreInside, grown, no_bounds, all_around, together, IsLevelIn, IsBandIn, IsExtentIn, IsFloatIn, IsPutIn}
use Rattle.page_limits.specs.Inline.{IsFloatSmall}
use Rattle.page_limits.proofs.Levels.{level-wider, aside-wider, quad-wider, inside-grown, put-wider, none-grown, grown-assoc, together-append}
use Rattle.page_limits.proofs.FloatSpots.{IsSpotIn, spot-in, at-spot}

pub floats-wider : (b around : Bounds) (floats : List FloatBox) → AreInside b around → AllByRecursion (IsFloatIn b) floats → AllByRecursion (IsFloatIn around) floats
floats-wider b around floats i a = All-implied (IsFloatIn b) (IsFloatIn around) floats (λ f q. quad-wider b around f.box i q) a

pub band-wider : (b around : Bounds) {cb : _} → AreInside b around → IsBandIn b cb → IsBandIn around cb
band-wider b around {cb} i h = record { left = aside-wider b around cb.left i h.left; right = aside-wider b around cb.right i h.right }

module _ (c : InlineContext) (own rise : ℕ → Bounds) (s : ℕ) where
  -- how much farther a float can go
  abbrev pub float_charge : ℕ → Bounds
  float_charge at = grown (own at) (all_around s)

  abbrev pub charges : List ℕ → Bounds
  charges boxes = together float_charge boxes

  abbrev AreSmall : List ℕ → Type 0
  AreSmall boxes = AllByRecursion (IsFloatSmall c own rise s) boxes

  abbrev pub ArePut : Bounds → List (ℕ × Spot ℤ) → Type 0
  ArePut b spots = AllByRecursion (λ (e : ℕ × Spot ℤ). IsPutIn b (own e.0) e.1) spots

  puts-wider : (b around : Bounds) (spots : List (ℕ × Spot ℤ)) → AreInside b around → ArePut b spots → ArePut around spots
  puts-wider b around spots i a = All-implied (λ (e : ℕ × Spot ℤ). IsPutIn b (own e.0) e.1) (λ (e : ℕ × Spot ℤ). IsPutIn around (own e.0) e.1) spots (λ e h. put-wider b around (own e.0) e.1 i h) a

  -- ---- a float placed

  pub record IsMetIn (b : Bounds) (met : Met) : Type 0 where
    pub floats : AllByRecursion (IsFloatIn b) met.floats
    pub spots : ArePut b met.spots

  -- where floats come
  pub record ArePlacesIn (b : Bounds) (least y : ℤ) : Type 0 where
    pub band : IsBandIn b c.cb
    pub from : IsLevelIn b least
    pub at : IsLevelIn b y

  pub places-wider : (b around : Bounds) (least y : ℤ) → AreInside b around → ArePlacesIn b least y → ArePlacesIn around least y
  places-wider b around least y i p = record { band = band-wider b around i p.band; from = level-wider b around least i p.from; at = level-wider b around y i p.at }

  spot-put : (b : Bounds) (at : ℕ) (spot : Spot ℤ) → IsFloatSmall c own rise s at → IsSpotIn b (float_size c at).width spot → IsPutIn (grown b (float_charge at)) (own at) spot
  spot-put b at spot f i =
      let top = i.y.top in let bottom = i.y.bottom in let left = i.left in let width = f.width in
      record { top = omega (arith, ints); bottom = omega (arith, ints); aside = omega (arith, left, width) }

  spot-met : (b : Bounds) (met : Met) (least y : ℤ) (at : ℕ) → ArePlacesIn b least y → IsFloatSmall c own rise s at → IsMetIn b met → IsMetIn (grown b (float_charge at)) (with_spot c met at (line_spot c met.floats least y at))
  spot-met b met least y at p f m =
      let spot = line_spot c met.floats least y at in
      let size : Bounds = record { up = (own at).up; down = (own at).down; aside = s } in
      let place = spot-in b (line_float c at) met.floats (Some least) y m.floats (p.at, (p.from, tt)) p.band in
      let extent : IsExtentIn size (float_size c at) = record { width = f.width; height = record { top = f.height.top; bottom = f.height.bottom } } in
      record {
        floats = floats-wider (grown b size) (grown b (float_charge at)) (with_spot c met at spot).floats (record { up = omega arith; down = omega arith; aside = omega arith })
            (at-spot b size (line_float c at) met.floats spot m.floats place extent);
        spots = all_append (λ (e : ℕ × Spot ℤ). IsPutIn (grown b (float_charge at)) (own e.0) e.1) met.spots ((at, spot) ∷ [])
            (puts-wider b (grown b (float_charge at)) met.spots (inside-grown b (float_charge at)) m.spots) (spot-put b at spot f place, tt);
      }

  pub met-wider : (b around : Bounds) (met : Met) → AreInside b around → IsMetIn b met → IsMetIn around met
  met-wider b around met i m = record { floats = floats-wider b around met.floats i m.floats; spots = puts-wider b around met.spots i m.spots }

  grown-twice : (b x y : Bounds) → AreInside (grown (grown b x) y) (grown b (grown x y))
  grown-twice b x y = record { up = omega arith; down = omega arith; aside = omega arith }

  pub each-met : (b : Bounds) (least y : ℤ) (met : Met) (boxes : List ℕ) → ArePlacesIn b least y → AreSmall boxes → IsMetIn b met → IsMetIn (grown b (charges boxes)) (place_each c least y met boxes)
  each-met b least y met [] p a m = met-wider b (grown b no_bounds) met (inside-grown b no_bounds) m
  each-met b least y met (at ∷ boxes) p a m =
      let next = with_spot c met at (line_spot c met.floats least y at) in
      let one = grown b (float_charge at) in
      met-wider (grown one (charges boxes)) (grown b (charges (at ∷ boxes))) (place_each c least y next boxes) (grown-twice b (float_charge at) (charges boxes))
      (each-met one least y next boxes (places-wider b one least y (inside-grown b (float_charge at)) p) a.1 (spot-met b met least y at p a.0 m))

  -- ---- floats met, some of which wait

  -- with room for those that wait
  pub record IsMetFor (base most : Bounds) (met : Met) : Type 0 where
    pub bounds : Bounds
    pub around : AreInside base bounds
    pub there : IsMetIn bounds met
    pub waits : AreSmall met.waiting
    pub room : AreInside (grown bounds (charges met.waiting)) most

  meet-one : (base most : Bounds) (line : Line) (held : ℤ) (met : Met) (at : ℕ) → ArePlacesIn base line.least line.top → IsFloatSmall c own rise s at → IsMetFor base most met
      → IsMetFor base (grown most (float_charge at)) (meet c line held met at)
  meet-one base most line held met at p f m = by (none_waits met && leaves_room c line held met at spot)
    where
      spot : Spot ℤ
      spot = line_spot c met.floats line.least line.top at

      by : (t : Bool) → IsMetFor base (grown most (float_charge at)) (cond t (with_spot c met at spot) (with_waiting met at))
      by true =
          let r = m.room in
          let up = r.up in let down = r.down in let aside = r.aside in
          let a = m.around.up in let d = m.around.down in let e = m.around.aside in
          record {
            bounds = grown m.bounds (float_charge at);
            around = record { up = omega (arith, a); down = omega (arith, d); aside = omega (arith, e) };
            there = spot-met m.bounds met line.least line.top at (places-wider base m.bounds line.least line.top m.around p) f m.there;
            waits = m.waits;
            room = record { up = omega (arith, up); down = omega (arith, down); aside = omega (arith, aside) };
          }
      by false =
          let r = m.room in
          let up = r.up in let down = r.down in let aside = r.aside in
          let all = together-append float_charge met.waiting (at ∷ []) in
          let all_up = ap (λ (x : Bounds). x.up) all in
          let all_down = ap (λ (x : Bounds). x.down) all in
          let all_aside = ap (λ (x : Bounds). x.aside) all in
          record {
            bounds = m.bounds;
            around = m.around;
            there = record { floats = m.there.floats; spots = m.there.spots };
            waits = all_append (IsFloatSmall c own rise s) met.waiting (at ∷ []) m.waits (f, tt);
            room = record { up = omega (arith, up, all_up); down = omega (arith, down, all_down); aside = omega (arith, aside, all_aside) };
          }

  for-wider : (base most more : Bounds) (met : Met) → AreInside most more → IsMetFor base most met → IsMetFor base more met
  for-wider base most more met i m =
      let r = m.room in
      let up = r.up in let down = r.down in let aside = r.aside in
      let a = i.up in let d = i.down in let e = i.aside in
      record { bounds = m.bounds; around = m.around; there = m.there; waits = m.waits; room = record { up = omega (arith, up, a); down = omega (arith, down, d); aside = omega (arith, aside, e) } }

  meet-all : (base most : Bounds) (line : Line) (held : ℤ) (met : Met) (boxes : List ℕ) → ArePlacesIn base line.least line.top → AreSmall boxes → IsMetFor base most met
      → IsMetFor base (grown most (charges boxes)) (fold (meet c line held) met boxes)
  meet-all base most line held met [] p a m = for-wider base most (grown most no_bounds) met (inside-grown most no_bounds) m
  meet-all base most line held met (at ∷ boxes) p a m =
      for-wider base (grown (grown most (float_charge at)) (charges boxes)) (grown most (charges (at ∷ boxes))) (fold (meet c line held) (meet c line held met at) boxes)
      (grown-twice most (float_charge at) (charges boxes))
      (meet-all base (grown most (float_charge at)) line held (meet c line held met at) boxes p a.1 (meet-one base most line held met at p a.0 m))

  -- ---- in segments

  abbrev pub floats_in : List Item → Bounds
  floats_in items = charges (float_boxes items)

  float_boxes-append : (xs ys : List Item) → float_boxes (xs ++ ys) ≡ float_boxes xs ++ float_boxes ys
  float_boxes-append [] ys = refl
  float_boxes-append (Item.float at ∷ xs) ys = ap (λ ks. at ∷ ks) (float_boxes-append xs ys)
  float_boxes-append (Item.start at ∷ xs) ys = float_boxes-append xs ys
  float_boxes-append (Item.finish at ∷ xs) ys = float_boxes-append xs ys
  float_boxes-append (Item.word at text ∷ xs) ys = float_boxes-append xs ys
  float_boxes-append (Item.space at ∷ xs) ys = float_boxes-append xs ys
  float_boxes-append (Item.atomic at ∷ xs) ys = float_boxes-append xs ys
  float_boxes-append (Item.forced at ∷ xs) ys = float_boxes-append xs ys

  pub floats_in-append : (xs ys : List Item) → floats_in (xs ++ ys) ≡ grown (floats_in xs) (floats_in ys)
  floats_in-append xs ys = ap charges (float_boxes-append xs ys) ∙ together-append float_charge (float_boxes xs) (float_boxes ys)

  -- those of a list's beginning, and of the next element
  taken-next : (parts : List (List Item)) (n : ℕ) → floats_in (joined (take (suc n) parts)) ≡ grown (floats_in (joined (take n parts))) (floats_in (slice_index_or parts n []))
  taken-next [] zero = refl
  taken-next [] (suc n) = refl
  taken-next (p ∷ ps) zero = ap floats_in (append-nil p) ∙ none-grown (floats_in p)
  taken-next (p ∷ ps) (suc n) =
      floats_in-append p (joined (take (suc n) ps))
      ∙ ap (grown (floats_in p)) (taken-next ps n)
      ∙ grown-assoc (floats_in p) (floats_in (joined (take n ps))) (floats_in (slice_index_or ps n []))
      ∙ ap (λ b. grown b (floats_in (slice_index_or ps n []))) (sym (floats_in-append p (joined (take n ps))))

  take-rest : (n : ℕ) (items : List Item) → take n items ++ drop (length (take n items)) items ≡ items
  take-rest zero items = refl
  take-rest (suc n) [] = refl
  take-rest (suc n) (i ∷ items) = ap (λ l. i ∷ l) (take-rest n items)

  split-line : (items : List Item) → floats_in items ≡ grown (floats_in (before_line c.tree items)) (floats_in (from_line_on c.tree items))
  split-line items =
      sym (ap floats_in (take-rest (position_or_len (makes_line c.tree) items) items))
      ∙ floats_in-append (before_line c.tree items) (from_line_on c.tree items)

  abbrev AllSmallFloats : List (List Item) → Type 0
  AllSmallFloats parts = AllByRecursion (λ (part : List Item). AreSmall (float_boxes part)) parts

  All-at : (parts : List (List Item)) (n : ℕ) → AllSmallFloats parts → AreSmall (float_boxes (slice_index_or parts n []))
  All-at [] zero a = tt
  All-at [] (suc n) a = tt
  All-at (p ∷ ps) zero a = a.0
  All-at (p ∷ ps) (suc n) a = All-at ps n a.1

  All-later : (n : ℕ) (xs : List Item) → AreSmall (float_boxes xs) → AreSmall (float_boxes (drop n xs))
  All-later zero xs a = a
  All-later (suc n) [] a = a
  All-later (suc n) (Item.float at ∷ xs) a = All-later n xs a.1
  All-later (suc n) (Item.start at ∷ xs) a = All-later n xs a
  All-later (suc n) (Item.finish at ∷ xs) a = All-later n xs a
  All-later (suc n) (Item.word at text ∷ xs) a = All-later n xs a
  All-later (suc n) (Item.space at ∷ xs) a = All-later n xs a
  All-later (suc n) (Item.atomic at ∷ xs) a = All-later n xs a
  All-later (suc n) (Item.forced at ∷ xs) a = All-later n xs a

  pub All-before : (n : ℕ) (xs : List Item) → AreSmall (float_boxes xs) → AreSmall (float_boxes (take n xs))
  All-before zero xs a = tt
  All-before (suc n) [] a = a
  All-before (suc n) (Item.float at ∷ xs) a = (a.0, All-before n xs a.1)
  All-before (suc n) (Item.start at ∷ xs) a = All-before n xs a
  All-before (suc n) (Item.finish at ∷ xs) a = All-before n xs a
  All-before (suc n) (Item.word at text ∷ xs) a = All-before n xs a
  All-before (suc n) (Item.space at ∷ xs) a = All-before n xs a
  All-before (suc n) (Item.atomic at ∷ xs) a = All-before n xs a
  All-before (suc n) (Item.forced at ∷ xs) a = All-before n xs a

  -- from `base`, which has room for the floats before the line
  module _ (start : Bounds) (line : Line) (first : List Item) (parts : List (List Item)) (same : line.parts ≡ first ∷ parts) (small : AllSmallFloats (first ∷ parts)) where
    abbrev base : Bounds
    base = grown start (floats_in (before_line c.tree first))

    abbrev most : ℕ → Bounds
    most zero = base
    most (suc n) = grown start (floats_in (joined (take (suc n) (first ∷ parts))))

    pub met-after : (n : ℕ) → ArePlacesIn base line.least line.top → IsMetFor base base line.before → IsMetFor base (most n) (met_after c line n)
    met-after zero p m = m
    met-after (suc zero) p m =
        let held = width_held c (first_items line 1) in
        let boxes = float_boxes (from_line_on c.tree first) in
        let e : slice_index_or line.parts 0 [] ≡ first = ap (λ l. slice_index_or l 0 []) same in
        let all = ap floats_in (append-nil first) ∙ split-line first in
        let up = ap (λ (x : Bounds). x.up) all in
        let down = ap (λ (x : Bounds). x.down) all in
        let aside = ap (λ (x : Bounds). x.aside) all in
        subst (λ (l : List Item). IsMetFor base (most 1) (fold (meet c line held) line.before (float_boxes (from_line_on c.tree l)))) (sym e)
        (for-wider base (grown base (charges boxes)) (most 1) (fold (meet c line held) line.before boxes) (record { up = omega (arith, up); down = omega (arith, down); aside = omega (arith, aside) })
        (meet-all base base line held line.before boxes p (All-later (length (before_line c.tree first)) first small.0) m))
    met-after (suc (suc n)) p m =
        let held = width_held c (first_items line (suc (suc n))) in
        let part = slice_index_or (first ∷ parts) (suc n) [] in
        let e : slice_index_or line.parts (suc n) [] ≡ part = ap (λ l. slice_index_or l (suc n) []) same in
        let all = taken-next (first ∷ parts) (suc n) in
        let up = ap (λ (x : Bounds). x.up) all in
        let down = ap (λ (x : Bounds). x.down) all in
        let aside = ap (λ (x : Bounds). x.aside) all in
        subst (λ (l : List Item). IsMetFor base (most (suc (suc n))) (fold (meet c line held) (met_after c line (suc n)) (float_boxes l))) (sym e)
        (for-wider base (grown (most (suc n)) (charges (float_boxes part))) (most (suc (suc n))) (fold (meet c line held) (met_after c line (suc n)) (float_boxes part)) (record { up = omega (arith, up); down = omega (arith, down); aside = omega (arith, aside) })
        (meet-all base (most (suc n)) line held (met_after c line (suc n)) (float_boxes part) p (All-at (first ∷ parts) (suc n) small) (met-after (suc n) p m)))

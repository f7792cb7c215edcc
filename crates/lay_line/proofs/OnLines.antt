-- What is made of the numbers of a line and of its boxes fits.
use Rattle.std.proofs.Common.{◌≡◌, ℕ, ◌+◌, ◌*◌, ◌≤◌, ◌^◌, ℤ, pos, negsuc, ◌+ℤ◌, ◌-ℤ◌, Bool, true, false, cond, unsigned_abs, List, [], ◌∷◌, ◌++◌, find, Some, None, refl, sym, subst, ap, ◌∙◌, arith}
use Rattle.std.proofs.lemmas.Int.{ints, clamps}
use Rattle.std.specs.Int.{int_max}
use Rattle.viz_base.specs.Numbers.{floor_of}
use Rattle.viz_base.specs.declared.layouts.Spot.{Spot}
use Rattle.viz_base.specs.declared.renderings.Quad.{Quad}
use Rattle.viz_base.specs.declared.styles.Align.{Align}
use Rattle.viz_base.specs.declared.styles.Align.TheVariants as of_align
use Rattle.viz_calc.specs.State.{IsSmall, AllSmall}
use Rattle.layout_semantics.specs.Blocks.{node_of}
use Rattle.layout_semantics.specs.Fragments.{ItemPlace, is_text_of, text_right, grown, spots_after}
use Rattle.layout_semantics.specs.InlineContent.{Item, start, finish, word, space, atomic, forced, float}
use Rattle.layout_semantics.specs.Lengths.{margins, borders, paddings}
use Rattle.layout_semantics.specs.LineHeights.{InlineContext}
use Rattle.layout_semantics.specs.Lines.{aligned}
use Rattle.lay_line.specs.Fits.{QuadFits, AroundFits, OwnFits, ShiftFits, ReachFits}
use Rattle.lay_line.specs.LineFits.{BoxFits, text_raised, QuadWithin, OnLine, PlaceOnLine, PlacesOnLine, SpotsOnLine, SetFits, ContentFits}
use Rattle.lay_line.specs.Limits.{AllWithin, weight, StandFits}
use Rattle.lay_line.specs.steps.Entries.{area_in, edges_in, around_in}
use Rattle.lay_line.specs.steps.Lining.{places_of}
use Rattle.lay_line.specs.steps.Loading.{bare}
use Rattle.lay_line.specs.steps.Measured.{Measured, Row, row_with, rows, first_row}
use Rattle.lay_line.specs.steps.Staying.{no_items, spanned, stays, is_some_left, fewer}
use Rattle.lay_line.specs.steps.Words.{own_reach, raised, inline_raised}
use Rattle.lay_line.proofs.Placing.{Within, more_within}

pub all_small : (m : ℕ) (zs : List ℤ) → m ≤ 2 ^ 100 → AllWithin m zs → AllSmall zs
all_small m [] le w = tt
all_small m (z ∷ zs) le w = (at_most (unsigned_abs z) m (2 ^ 100) w.0 le, all_small m zs le w.1)
  where
    at_most : (a b c : ℕ) → a ≤ b → b ≤ c → a ≤ c
    at_most a b c p q = omega arith

less_within : (m n k : ℕ) (a b : ℤ) → Within m a → Within n b → m + n ≤ k → Within k (a -ℤ b)
less_within m n k a b p q le = omega (arith, ints)

plus_within : (m n k : ℕ) (a b : ℤ) → Within m a → Within n b → m + n ≤ k → Within k (a +ℤ b)
plus_within m n k a b p q le = omega (arith, ints)

pub base_small : {a : ℕ} → a ≤ 2 ^ 99 → a ≤ 2 ^ 100
base_small w = omega arith

pub zero_small : IsSmall (pos 0)
zero_small = omega (arith, ints)

-- ---- a box on a line

pub own_of : (c : InlineContext) (at : ℕ) → ReachFits c at → OwnFits c at
unfolding ReachFits
own_of c at r = r.0

pub shift_of : (c : InlineContext) (at : ℕ) → ReachFits c at → ShiftFits c at (own_reach c at)
unfolding ReachFits
shift_of c at r = r.1.0

grown_within : (m n k : ℕ) (q edges : Quad ℤ) → m + n ≤ k → QuadWithin m q → QuadWithin n edges → QuadWithin k (grown q edges)
grown_within m n k q edges le p w = (
  less_within m n k q.left edges.left p.0 w.0 le,
  (
    less_within m n k q.top edges.top p.1.0 w.1.0 le,
    (plus_within m n k q.right edges.right p.1.1.0 w.1.1.0 le, (plus_within m n k q.bottom edges.bottom p.1.1.1.0 w.1.1.1.0 le, tt)),
  ),
)

quad_fits : (m : ℕ) (q : Quad ℤ) → m ≤ 2 ^ 100 → QuadWithin m q → QuadFits q
quad_fits m q le w = all_small m (q.left ∷ q.top ∷ q.right ∷ q.bottom ∷ []) le w

module _ (c : InlineContext) (at : ℕ) (f : BoxFits c at) where
  pub text_base : (b : ℤ) → Within (2 ^ 98) b → Within (2 ^ 99) (b -ℤ text_raised c at)
  text_base b w = less_within (2 ^ 98) (2 ^ 90) (2 ^ 99) b (text_raised c at) w f.heights.0 (omega arith)

  pub inline_base : (b : ℤ) → Within (2 ^ 98) b → Within (2 ^ 99) (b -ℤ inline_raised c at)
  inline_base b w = less_within (2 ^ 98) (2 ^ 90) (2 ^ 99) b (inline_raised c at) w f.heights.1.0 (omega arith)

  pub area_within : (b l r : ℤ) → Within (2 ^ 99) b → OnLine (l ∷ r ∷ []) → QuadWithin (2 ^ 99 + 2 ^ 90) (area_in c (node_of c.tree at) b l r)
  unfolding area_in
  area_within b l r w on =
      let edges = more_within (2 ^ 98) (2 ^ 99 + 2 ^ 90) (l ∷ r ∷ []) (omega arith) on in (
        edges.0,
        (
          less_within (2 ^ 99) (2 ^ 90) (2 ^ 99 + 2 ^ 90) b _ w f.heights.1.1.1.1.0 (omega arith),
          (edges.1.0, (plus_within (2 ^ 99) (2 ^ 90) (2 ^ 99 + 2 ^ 90) b _ w f.heights.1.1.1.1.1.0 (omega arith), tt)),
        ),
      )

  pub area_fits : (b l r : ℤ) → Within (2 ^ 99) b → OnLine (l ∷ r ∷ []) → QuadFits (area_in c (node_of c.tree at) b l r)
  area_fits b l r w on = quad_fits (2 ^ 99 + 2 ^ 90) (area_in c (node_of c.tree at) b l r) (omega arith) (area_within b l r w on)

  pub around_fits : (starts ends : Bool) (q : Quad ℤ) → QuadWithin (2 ^ 99 + 2 ^ 90) q → AroundFits c at (around_in c at starts ends q)
  unfolding around_in
  around_fits starts ends q w =
      let first = edges_in c starts ends (paddings c.tree at) in
      let second = edges_in c starts ends (borders c.tree at) in
      let third = edges_in c starts ends (margins c.tree at) in
      let padding = grown_within (2 ^ 99 + 2 ^ 90) (2 ^ 90) (2 ^ 99 + 2 ^ 91) q first (omega arith) w (f.edges.0 starts ends) in
      let border = grown_within (2 ^ 99 + 2 ^ 91) (2 ^ 90) (2 ^ 99 + 2 ^ 92) (grown q first) second (omega arith) padding (f.edges.1.0 starts ends) in
      let margin = grown_within (2 ^ 99 + 2 ^ 92) (2 ^ 90) (2 ^ 99 + 2 ^ 93) (grown (grown q first) second) third (omega arith) border (f.edges.1.1 starts ends) in (
        (f.padding, quad_fits (2 ^ 99 + 2 ^ 91) (grown q first) (omega arith) padding),
        (
          (f.border, quad_fits (2 ^ 99 + 2 ^ 92) (grown (grown q first) second) (omega arith) border),
          (f.margin, quad_fits (2 ^ 99 + 2 ^ 93) (grown (grown (grown q first) second) third) (omega arith) margin),
        ),
      )

  -- an atomic box on a line
  pub atomic_fits : (b l : ℤ) → OnLine (b ∷ l ∷ []) → AllSmall ((b -ℤ raised c at (own_reach c at)) ∷ l ∷ ((b -ℤ raised c at (own_reach c at)) -ℤ (own_reach c at).above) ∷ [])
  atomic_fits b l on =
      let base = less_within (2 ^ 98) (2 ^ 90) (2 ^ 99) b (raised c at (own_reach c at)) on.0 f.heights.1.1.0 (omega arith) in (
        base_small base,
        (
          wider on.1.0,
          (less_within (2 ^ 99) (2 ^ 90) (2 ^ 100) (b -ℤ raised c at (own_reach c at)) (own_reach c at).above base f.heights.1.1.1.0 (omega arith), tt),
        ),
      )
    where
      wider : {a : ℕ} → a ≤ 2 ^ 98 → a ≤ 2 ^ 100
      wider w = omega arith

-- ---- places on a line

pub found_on_line : (test : ItemPlace → Bool) (ps : List ItemPlace) (p : ItemPlace) → find test ps ≡ Some p → PlacesOnLine ps → OnLine (p.left ∷ p.right ∷ [])
found_on_line test [] p e on = let none : None ≡ Some p = e in absurd (cc)
found_on_line test (q ∷ ps) p e on = by (test q) refl (λ later. found_on_line test ps p later on.1)
  where
    by : (b : Bool) → test q ≡ b → (find test ps ≡ Some p → OnLine (p.left ∷ p.right ∷ [])) → OnLine (p.left ∷ p.right ∷ [])
    by true t rest = let same : Some q ≡ Some p = sym (ap (λ b. cond b (Some q) (find test ps)) t) ∙ e in let is : q ≡ p = cc in subst (λ (r : ItemPlace). OnLine (r.left ∷ r.right ∷ [])) is on.0
    by false t rest = rest (sym (ap (λ b. cond b (Some q) (find test ps)) t) ∙ e)

pub right_on_line : (at : ℕ) (r : ℤ) (ps : List ItemPlace) → Within (2 ^ 98) r → PlacesOnLine ps → Within (2 ^ 98) (text_right at r ps)
right_on_line at r [] w on = w
right_on_line at r (p ∷ ps) w on = by (is_text_of at p) (right_on_line at p.right ps on.0.1.0 on.1)
  where
    by : (b : Bool) → Within (2 ^ 98) (text_right at p.right ps) → Within (2 ^ 98) (cond b (text_right at p.right ps) r)
    by true rest = rest
    by false rest = w

-- ---- floats on a line

pub spots_behind_on_line : (i : Item) (spots : List (ℕ × Spot ℤ)) → SpotsOnLine spots → SpotsOnLine (spots_after i spots)
spots_behind_on_line (start at) spots on = on
spots_behind_on_line (finish at) spots on = on
spots_behind_on_line (word at text) spots on = on
spots_behind_on_line (space at) spots on = on
spots_behind_on_line (atomic at) spots on = on
spots_behind_on_line (forced at) spots on = on
spots_behind_on_line (float at) [] on = on
spots_behind_on_line (float at) (s ∷ spots) on = on.1

-- ---- where content begins

half_within : (m : ℕ) (x : ℤ) → Within m x → Within m (floor_of x 2)
half_within m (pos a) w = omega (arith, ints)
half_within m (negsuc a) w = omega (arith, ints)

spare_within : (m : ℕ) (x : ℤ) → Within m x → Within m (int_max (pos 0) x)
spare_within m x w = omega (arith, ints, clamps)

aligned_within : (m : ℕ) (a : Align) (x : ℤ) → Within m x → Within m (aligned a x)
aligned_within m of_align.Left x w = omega (arith, ints)
aligned_within m of_align.Right x w = spare_within m x w
aligned_within m of_align.Center x w = half_within m (int_max (pos 0) x) (spare_within m x w)

module _ (l r h : ℤ) where
  -- what is left beside content
  free_within : (m : ℕ) → Within m l → Within m r → Within m h → Within (3 * m) ((r -ℤ l) -ℤ h)
  free_within m p q w = omega (arith, ints)

  pub inline_size_small : OnLine (l ∷ r ∷ h ∷ []) → IsSmall (r -ℤ l)
  inline_size_small on = let p = on.0 in let q = on.1.0 in omega (arith, ints)

  pub free_small : OnLine (l ∷ r ∷ h ∷ []) → IsSmall ((r -ℤ l) -ℤ h)
  free_small on = let p = on.0 in let q = on.1.0 in let w = on.1.1.0 in omega (arith, ints)

  pub moved_small : (a : Align) → OnLine (l ∷ r ∷ h ∷ []) → IsSmall (aligned a ((r -ℤ l) -ℤ h))
  moved_small a on = aligned_within (2 ^ 100) a ((r -ℤ l) -ℤ h) (free_small on)

  pub begin_small : (a : Align) → OnLine (l ∷ r ∷ h ∷ []) → IsSmall (l +ℤ aligned a ((r -ℤ l) -ℤ h))
  begin_small a on =
      plus_within (2 ^ 98) (3 * 2 ^ 98) (2 ^ 100) l (aligned a ((r -ℤ l) -ℤ h)) on.0 (aligned_within (3 * 2 ^ 98) a ((r -ℤ l) -ℤ h) (free_within (2 ^ 98) on.0 on.1.0 on.1.1.0)) (omega arith)

  pub begin_within : (a : Align) (m : ℕ) → Within m l → Within m r → Within m h → Within (4 * m) (l +ℤ aligned a ((r -ℤ l) -ℤ h))
  begin_within a m p q w = plus_within m (3 * m) (4 * m) l (aligned a ((r -ℤ l) -ℤ h)) p (aligned_within (3 * m) a ((r -ℤ l) -ℤ h) (free_within m p q w)) (omega arith)

-- ---- where items stand

place_next_on_line : (ps : List ItemPlace) (p : ItemPlace) → PlacesOnLine ps → PlaceOnLine p → PlacesOnLine (ps ++ p ∷ [])
place_next_on_line [] p on one = (one, tt)
place_next_on_line (q ∷ ps) p on one = (on.0, place_next_on_line ps p on.1 one)

rows_on_line : (r : Row) (ms : List Measured) → unsigned_abs r.x + weight ms ≤ 2 ^ 98 → PlacesOnLine r.places → PlacesOnLine (rows r ms).places
rows_on_line r [] fits on = on
rows_on_line r (m ∷ ms) fits on = by (stays r.begun (is_some_left (fewer r.left)) m.item) (rows_on_line with ms on_way (place_next_on_line r.places place on here)) (rows_on_line without ms past on)
  where
    without : Row
    without = record r { left = fewer r.left }

    with : Row
    with = row_with without m

    place : ItemPlace
    place = record { item = m.item; left = r.x; right = r.x +ℤ m.width }

    on_way : unsigned_abs (r.x +ℤ m.width) + weight ms ≤ 2 ^ 98
    on_way = omega (arith, ints)

    here : PlaceOnLine place
    here = (omega (arith, ints), (omega (arith, ints), tt))

    past : unsigned_abs r.x + weight ms ≤ 2 ^ 98
    past = omega (arith, ints)

    by : (b : Bool) → PlacesOnLine (rows with ms).places → PlacesOnLine (rows without ms).places → PlacesOnLine (rows (cond b with without) ms).places
    by true stays_on goes = stays_on
    by false stays_on goes = goes

pub places_on_line : (x : ℤ) (ms : List Measured) → unsigned_abs x + weight ms ≤ 2 ^ 98 → PlacesOnLine (places_of x ms)
unfolding places_of
places_on_line x ms fits = rows_on_line (first_row x (spanned no_items (bare ms)).solid) ms fits tt

pub stand_small : (x : ℤ) (ms : List Measured) → StandFits x ms → IsSmall x
stand_small x ms fits = omega arith

-- ---- the content of a line

module _ (base left width : ℤ) (spots : List (ℕ × Spot ℤ)) (pieces : List Measured) (f : ContentFits base left width spots pieces) where
  pub right_small : IsSmall (left +ℤ width)
  right_small = let l = f.numbers.1.0 in let w = f.numbers.1.1.0 in omega (arith, ints)

  pub content_stands : StandFits left pieces
  content_stands = let l = f.numbers.1.0 in let w = f.widths in omega arith

  pub content_set : (right : ℤ) (places : List ItemPlace) (there : List (ℕ × Spot ℤ)) → right ≡ left +ℤ width → places ≡ places_of left pieces → there ≡ spots
      → SetFits (record { baseline = base; left = left; right = right; places = places; spots = there })
  content_set right places there e p s = record {
    numbers = let b = f.numbers.0 in let l = f.numbers.1.0 in let w = f.numbers.1.1.0 in (omega arith, (omega arith, (subst (Within (2 ^ 98)) (sym e) (plus_within (2 ^ 97) (2 ^ 97) (2 ^ 98) left width l w (omega arith)), tt)));
    places = subst PlacesOnLine (sym p) (places_on_line left pieces (let l = f.numbers.1.0 in let w = f.widths in omega arith));
    spots = subst SpotsOnLine (sym s) f.on_line;
  }

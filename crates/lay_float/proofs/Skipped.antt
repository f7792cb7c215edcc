-- Floats that end above a top do nothing at the tops from there on.
use Rattle.std.proofs.Common.{◌≡◌, ℕ, zero, suc, ◌≤◌, ℤ, ◌≤ℤ◌, Bool, true, false, cond, int_le, List, [], ◌∷◌, length, filter, Option, refl, sym, ap, ◌∙◌, subst, arith, Contains}
use Rattle.std.specs.Prelude.{None, unwrap_or}
use Rattle.std.proofs.lemmas.Int.{ints}
use Rattle.viz_base.specs.declared.layouts.Band.{Band}
use Rattle.viz_base.specs.declared.styles.Side.{Side}
use Rattle.viz_base.proofs.ListLemmas.{later_member}
use Rattle.layout_semantics.specs.Floats.{FloatBox}
use Rattle.layout_laws.proofs.Truths.{le, is_le}
use Rattle.lay_float.specs.Limits.{AreHalf}
use Rattle.lay_float.specs.steps.Shelves.{Shelf, with_float, shelf_from, shelf_on, is_free, sooner, soonest, next_top, free_top, place_on, open_from}
use Rattle.lay_float.proofs.Shelved.{ends_below}
use Rattle.lay_float.proofs.Search.{next_low, at_most}

above_too : (b h y : ℤ) → h ≤ℤ y → int_le b h ≡ true → int_le b y ≡ true
above_too b h y l e = let t = le b h e in is_le b y (omega (arith, ints))

shelf_skips : (side : Side) (h y : ℤ) (fs : List FloatBox) (s : Shelf) → h ≤ℤ y → shelf_from side y (open_from h fs) s ≡ shelf_from side y fs s
unfolding open_from shelf_from with_float
shelf_skips side h y [] s l = refl
shelf_skips side h y (f ∷ fs) s l = by (int_le f.box.bottom h) refl (shelf_skips side h y fs s l)
  where
    by : (b : Bool) → int_le f.box.bottom h ≡ b → shelf_from side y (open_from h fs) s ≡ shelf_from side y fs s → shelf_from side y (open_from h (f ∷ fs)) s ≡ shelf_from side y (f ∷ fs) s
    by true e rest = rw (e, above_too f.box.bottom h y l e) rest
    by false e rest = rw e refl

soonest_skips : (h y : ℤ) (fs : List FloatBox) (s : Option ℤ) → h ≤ℤ y → soonest y (open_from h fs) s ≡ soonest y fs s
unfolding open_from soonest sooner
soonest_skips h y [] s l = refl
soonest_skips h y (f ∷ fs) s l = by (int_le f.box.bottom h) refl (soonest_skips h y fs s l)
  where
    by : (b : Bool) → int_le f.box.bottom h ≡ b → soonest y (open_from h fs) s ≡ soonest y fs s → soonest y (open_from h (f ∷ fs)) s ≡ soonest y (f ∷ fs) s
    by true e rest = rw (e, above_too f.box.bottom h y l e) rest
    by false e rest = rw e refl

filter_skips : (h : ℤ) (fs : List FloatBox) → filter (ends_below h) (open_from h fs) ≡ filter (ends_below h) fs
unfolding open_from
filter_skips h [] = refl
filter_skips h (f ∷ fs) = by (int_le f.box.bottom h) refl (filter_skips h fs)
  where
    by : (b : Bool) → int_le f.box.bottom h ≡ b → filter (ends_below h) (open_from h fs) ≡ filter (ends_below h) fs → filter (ends_below h) (open_from h (f ∷ fs)) ≡ filter (ends_below h) (f ∷ fs)
    by true e rest = rw e rest
    by false e rest = rw (e, e) refl

member_skips : (h : ℤ) (fs : List FloatBox) (g : FloatBox) → Contains (open_from h fs) g → Contains fs g
unfolding open_from
member_skips h [] g i = i
member_skips h (f ∷ fs) g i = by (int_le f.box.bottom h) (member_skips h fs g) i
  where
    by : (b : Bool) → (Contains (open_from h fs) g → Contains fs g) → Contains (cond b (open_from h fs) (f ∷ fs)) g → Contains (f ∷ fs) g
    by true rest j = later_member fs (rest j)
    by false rest j = j

pub half_skips : (h : ℤ) (fs : List FloatBox) (zs : List ℤ) → AreHalf fs zs → AreHalf (open_from h fs) zs
half_skips h fs zs half = record {
  edges = λ f i. half.edges f (member_skips h fs f i);
  numbers = half.numbers;
}

pub few_skip : (h : ℤ) (fs : List FloatBox) → length (filter (ends_below h) fs) ≤ length (open_from h fs)
few_skip h fs = subst (λ (near : List FloatBox). length near ≤ length (open_from h fs)) (filter_skips h fs) (at_most h (open_from h fs))

module _ (side : Side) (width : ℤ) (cb : Band ℤ) (h : ℤ) (fs : List FloatBox) where
  same_shelf : (y : ℤ) → h ≤ℤ y → shelf_on (open_from h fs) side cb y ≡ shelf_on fs side cb y
  same_shelf y l = shelf_skips side h y fs _ l

  same_next : (y : ℤ) → h ≤ℤ y → next_top (open_from h fs) y ≡ next_top fs y
  same_next y l = ap (λ o. unwrap_or o y) (soonest_skips h y fs None l)

  pub top_skips : (n : ℕ) (y : ℤ) → h ≤ℤ y → free_top n (open_from h fs) side width cb y ≡ free_top n fs side width cb y
  unfolding free_top
  top_skips zero y l = refl
  top_skips (suc n) y l =
      ap (λ s. cond (is_free side width cb s) y (free_top n (open_from h fs) side width cb (next_top (open_from h fs) y))) (same_shelf y l)
      ∙ ap (λ z. cond (is_free side width cb (shelf_on fs side cb y)) y (free_top n (open_from h fs) side width cb z)) (same_next y l)
      ∙ ap (λ z. cond (is_free side width cb (shelf_on fs side cb y)) y z) (top_skips n (next_top fs y) (let t = next_low fs side width cb h y in omega (arith, ints)))

  pub place_skips : (y : ℤ) → h ≤ℤ y → place_on (open_from h fs) side cb y ≡ place_on fs side cb y
  place_skips y l = ap (λ (s : Shelf). record { top = y; edge = s.edge }) (same_shelf y l)

-- ---- float by float

pub open-stops : (y : ℤ) (f : FloatBox) (fs : List FloatBox) → false ≡ int_le f.box.bottom y → f ∷ fs ≡ open_from y (f ∷ fs)
unfolding open_from
open-stops y f fs e = let ends : int_le f.box.bottom y ≡ false = sym e in rw ends refl

pub open-goes : (y : ℤ) (f : FloatBox) (fs : List FloatBox) → true ≡ int_le f.box.bottom y → open_from y fs ≡ open_from y (f ∷ fs)
unfolding open_from
open-goes y f fs e = let ends : int_le f.box.bottom y ≡ true = sym e in rw ends refl

pub open-end : (y : ℤ) → [] ≡ open_from y []
unfolding open_from
open-end y = refl

-- What is known of the floats before one that is placed: the last one's top is the lowest, and the first ones have ended there.
use Rattle.std.proofs.Common.{◌≡◌, ℕ, zero, suc, ◌+◌, ◌-◌, ◌≤◌, ℤ, ◌≤ℤ◌, Bool, true, false, int_le, List, [], ◌∷◌, ◌++◌, length, take, drop, map, slice_get, Contains, Some, option_map, refl, sym, ap, ◌∙◌, subst, ◌⊎◌, ⊎_elim, arith}
use Rattle.std.specs.Int.{int_max}
use Rattle.std.proofs.lemmas.Int.{ints, clamps}
use Rattle.std.proofs.lemmas.List.{take-append-le, length-map}
use Rattle.std.proofs.lemmas.List.Elements.{Contains-append_cases}
use Rattle.std.proofs.lemmas.Option.{slice_get_within, get_or_from_slice_get, slice_get-map}
use Rattle.viz_base.specs.declared.layouts.Band.{Band}
use Rattle.viz_base.specs.declared.layouts.Extent.{Extent}
use Rattle.viz_base.specs.declared.layouts.Spot.{Spot}
use Rattle.viz_base.specs.declared.styles.Side.{Side}
use Rattle.viz_base.proofs.ListLemmas.{later_member}
use Rattle.layout_semantics.specs.Floats.{FloatBox, highest_top, float_at}
use Rattle.layout_laws.proofs.Extremes.{below_greatest, start_below_greatest, greatest_at_most}
use Rattle.layout_laws.proofs.Members.{first_member, first_or_later, no_member, only_member, to_map, from_map}
use Rattle.layout_laws.proofs.Truths.{le, is_le}
use Rattle.lay_float.specs.Agreement.{IsLevel}
use Rattle.lay_float.specs.steps.Shelves.{ahead_of, open_from}
use Rattle.lay_float.proofs.Spots.{spot_low}

-- ---- where the last one's top is the lowest

pub last_member : {A : Type 0} (xs : List A) (x : A) → slice_get xs (length xs - 1) ≡ Some x → Contains xs x
last_member xs x e = (length xs - 1, slice_get_within xs (length xs - 1) x e, get_or_from_slice_get xs (length xs - 1) x x e)

pub last_box : {A B : Type 0} (box : A → B) (xs : List A) (x : A) → slice_get xs (length xs - 1) ≡ Some x → slice_get (map box xs) (length (map box xs) - 1) ≡ Some (box x)
last_box box xs x e = ap (λ n. slice_get (map box xs) (n - 1)) (length-map xs box) ∙ slice_get-map box xs (length xs - 1) ∙ ap (option_map box) e

-- the highest top that a float may have is asked of the last one alone
pub level_top : (fs : List FloatBox) (ended : ℕ) (level top : ℤ) (f : FloatBox) → IsLevel fs ended level → Contains fs f → f.box.top ≡ level → int_max level top ≡ highest_top fs top
level_top fs ended level top f k i e =
    let low = below_greatest top (map (λ (f : FloatBox). f.box.top) fs) f.box.top (to_map (λ (f : FloatBox). f.box.top) fs f i) in
    let start = start_below_greatest top (map (λ (f : FloatBox). f.box.top) fs) in
    let high = greatest_at_most top (map (λ (f : FloatBox). f.box.top) fs) (int_max level top) (omega (arith, ints, clamps))
    (λ x j. let g = from_map (λ (f : FloatBox). f.box.top) fs x j in let t = k.tops g.0 g.1 in let s : g.0.box.top ≡ x = g.2 in omega (arith, ints, clamps)) in
    omega (arith, ints, clamps, e)

-- ---- those that have ended

pub skips_ended : (h : ℤ) (n : ℕ) (fs : List FloatBox) → ((f : FloatBox) → Contains (take n fs) f → f.box.bottom ≤ℤ h) → open_from h (drop n fs) ≡ open_from h fs
unfolding open_from
skips_ended h zero fs each = refl
skips_ended h (suc n) [] each = refl
skips_ended h (suc n) (f ∷ fs) each = by (int_le f.box.bottom h) refl (skips_ended h n fs (λ g i. each g (later_member (take n fs) i)))
  where
    by : (b : Bool) → int_le f.box.bottom h ≡ b → open_from h (drop n fs) ≡ open_from h fs → open_from h (drop n fs) ≡ open_from h (f ∷ fs)
    by true e rest = rw e rest
    by false e rest = let u : int_le f.box.bottom h ≡ true = is_le f.box.bottom h (each f (first_member (take n fs) refl)) in absurd (cc)

fewer : (h : ℤ) (fs : List FloatBox) → length (open_from h fs) ≤ length fs
unfolding open_from
fewer h [] = omega arith
fewer h (f ∷ fs) = by (int_le f.box.bottom h) refl (fewer h fs)
  where
    by : (b : Bool) → int_le f.box.bottom h ≡ b → length (open_from h fs) ≤ length fs → length (open_from h (f ∷ fs)) ≤ length (f ∷ fs)
    by true e rest = rw e (omega (arith, rest))
    by false e rest = rw e (omega arith)

-- as many of the first ones as are not looked at
dropped : (h : ℤ) (fs : List FloatBox) (g : FloatBox) → Contains (take (length fs - length (open_from h fs)) fs) g → g.box.bottom ≤ℤ h
unfolding open_from
dropped h [] g i = no_member i
dropped h (f ∷ fs) g i = by (int_le f.box.bottom h) refl (fewer h fs) (dropped h fs g) i
  where
    by : (b : Bool) → int_le f.box.bottom h ≡ b → length (open_from h fs) ≤ length fs → (Contains (take (length fs - length (open_from h fs)) fs) g → g.box.bottom ≤ℤ h)
        → Contains (take (length (f ∷ fs) - length (open_from h (f ∷ fs))) (f ∷ fs)) g → g.box.bottom ≤ℤ h
    by true e l rest j =
        let count : length (f ∷ fs) - length (open_from h fs) ≡ suc (length fs - length (open_from h fs)) = omega (arith, l) in
        let k : Contains (take (length (f ∷ fs) - length (open_from h fs)) (f ∷ fs)) g = (rw e at j) in
        ⊎_elim (λ same. let t = le f.box.bottom h e in subst (λ (x : FloatBox). x.box.bottom ≤ℤ h) same t) rest
        (first_or_later f (take (length fs - length (open_from h fs)) fs) g (subst (λ n. Contains (take n (f ∷ fs)) g) count k))
    by false e l rest j =
        let count : length (f ∷ fs) - length (f ∷ fs) ≡ 0 = omega arith in
        let k : Contains (take (length (f ∷ fs) - length (f ∷ fs)) (f ∷ fs)) g = (rw e at j) in
        no_member (subst (λ n. Contains (take n (f ∷ fs)) g) count k)

-- ---- what a float finds

pub ahead_unknown : (fs all rest : List FloatBox) (top h : ℤ) → all ≡ fs → h ≡ highest_top all top → rest ≡ open_from h all → record { high = h; rest = rest } ≡ ahead_of fs top
ahead_unknown fs all rest top h same high is =
    ap (λ (z : ℤ). record { high = z; rest = rest }) high
    ∙ ap (λ (r : List FloatBox). record { high = highest_top all top; rest = r }) (is ∙ ap (λ (z : ℤ). open_from z all) high)
    ∙ ap (λ (l : List FloatBox). ahead_of l top) same

-- where the last one's top is the lowest, and the first ones have ended there
pub ahead_known : (fs rest others : List FloatBox) (ended : ℕ) (level top h : ℤ) (f : FloatBox) → IsLevel fs ended level → Contains fs f → f.box.top ≡ level → others ≡ drop ended fs
    → h ≡ int_max level top → rest ≡ open_from h others → record { high = h; rest = rest } ≡ ahead_of fs top
ahead_known fs rest others ended level top h f k i e behind high is =
    ahead_unknown fs fs rest top h refl (high ∙ level_top fs ended level top f k i e)
    (is ∙ ap (open_from h) behind ∙ skips_ended h ended fs (λ g j. let t = k.bottoms g j in omega (arith, ints, clamps, high)))

-- ---- behind a float that is placed

-- where it stands its top is the lowest, and those have ended at which the search began
pub level_below : (fs : List FloatBox) (side : Side) (size : Extent ℤ) (cb : Band ℤ) (top : ℤ)
    → IsLevel fs (length fs - length (open_from (highest_top fs top) fs)) (float_at fs side size cb top).y
level_below fs side size cb top =
    let low = spot_low fs side size cb top in
    record {
      tops = λ f i. let t = below_greatest top (map (λ (f : FloatBox). f.box.top) fs) f.box.top (to_map (λ (f : FloatBox). f.box.top) fs f i) in omega (arith, ints);
      bottoms = λ f i. let t = dropped (highest_top fs top) fs f i in omega (arith, ints);
    }

pub level_found : (fs rest : List FloatBox) (side : Side) (size : Extent ℤ) (cb : Band ℤ) (top : ℤ) (n : ℕ) (spot : Spot ℤ) → n ≡ length fs - length rest → rest ≡ open_from (highest_top fs top) fs
    → spot ≡ float_at fs side size cb top → IsLevel fs n spot.y
level_found fs rest side size cb top n spot count is at =
    subst (λ (s : Spot ℤ). IsLevel fs n s.y) (sym at)
    (subst (λ m. IsLevel fs m (float_at fs side size cb top).y) (sym (count ∙ ap (λ (r : List FloatBox). length fs - length r) is)) (level_below fs side size cb top))

-- and with that float too
pub level_more : (fs : List FloatBox) (n : ℕ) (f : FloatBox) → n ≤ length fs → IsLevel fs n f.box.top → IsLevel (fs ++ f ∷ []) n f.box.top
level_more fs n f l k = record {
  tops = λ g i. ⊎_elim (λ j. k.tops g j) (λ j. let e = only_member f g j in subst (λ (x : FloatBox). x.box.top ≤ℤ f.box.top) e (omega (arith, ints))) (Contains-append_cases fs (f ∷ []) g i);
  bottoms = λ g i. k.bottoms g (subst (λ (xs : List FloatBox). Contains xs g) (take-append-le n fs (f ∷ []) l) i);
}

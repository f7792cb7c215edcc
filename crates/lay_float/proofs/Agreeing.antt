-- What is kept stays true: of a list of which nothing is kept, later on, and with one float more.
use Rattle.std.proofs.Common.{◌≡◌, ℕ, zero, suc, ◌-◌, ◌≤◌, ℤ, ◌≤ℤ◌, Bool, List, [], ◌∷◌, ◌++◌, length, take, Contains, slice_get, Option, Some, None, Result, Ok, Err, IfOk, OnErr, IsTrue, refl, sym, ap, ◌∙◌, subst, arith}
use Rattle.std.proofs.lemmas.Int.{ints}
use Rattle.std.proofs.lemmas.List.{length-append}
use Rattle.viz_base.specs.declared.layouts.Band.{Band}
use Rattle.viz_base.specs.declared.layouts.Extent.{Extent}
use Rattle.viz_base.specs.declared.styles.Side.{Side}
use Rattle.viz_base.proofs.ListLemmas.{slice_some, get_last}
use Rattle.viz_calc.specs.World.{Reading}
use Rattle.viz_calc.specs.State.{State, Grows}
use Rattle.viz_calc.specs.Run.{Run, Goes, unless}
use Rattle.viz_calc.specs.declared.calc.Halt.{Halt}
use Rattle.layout_semantics.specs.Floats.{FloatBox, placed_float, float_at}
use Rattle.layout_laws.specs.PlacedFloats.{ArePlacedAfter, none, next}
use Rattle.layout_laws.proofs.Members.{no_member}
use Rattle.lay_float.specs.Agreement.{IsLevel, IsKept, Agree}
use Rattle.lay_float.specs.Readings.{floats_at}
use Rattle.lay_float.specs.declared.floats.Floats.{Floats}
use Rattle.lay_float.proofs.Ended.{last_member, level_below, level_more}

pub nothing-kept : (floats : List FloatBox) (kept : Option ℕ) → kept ≡ None → IsKept floats kept
nothing-kept floats kept bare = record {
  within = λ ended is. let both : None ≡ Some ended = sym bare ∙ is in absurd (cc);
  level = λ ended last is l. let both : None ≡ Some ended = sym bare ∙ is in absurd (cc);
}

pub unknown : {N : Type 0} (at : N → Reading → ℤ) (is_open : Reading → Bool) (floats : Floats N) → floats.ended ≡ None → Agree at is_open floats
unknown at is_open floats bare = λ e o. nothing-kept (floats_at at floats e) floats.ended bare

pub later : {N : Type 0} (at : N → Reading → ℤ) (old new : Run) (floats : Floats N) → Goes old new → Agree at old.is_open floats → Agree at new.is_open floats
later at old new floats goes agree = λ e o. agree e (goes.closes e o)

-- within a latch that is not halted
pub lent-agree : {N : Type 0} (at : N → Reading → ℤ) (old start : State) (halt : Option Halt) (floats : Floats N) → start ≡ old → halt ≡ None → Agree at old.is_open floats
    → Agree at (λ e. unless halt (start.is_open e)) floats
lent-agree at old start halt floats same running agree =
    λ e o. agree e (subst (λ (s : State). IsTrue (s.is_open e)) same (subst (λ h. IsTrue (unless h (start.is_open e))) running o))

-- behind a call, halted or not
pub agreed : {A N : Type 0} (at : N → Reading → ℤ) (r : Result A Halt) (old new : State) (before after : Floats N) → IfOk r (λ x. Agree at new.is_open after) → OnErr r (after ≡ before) → Grows old new
    → Agree at old.is_open before → Agree at new.is_open after
agreed at (Ok x) old new before after kept as_before grows agree = kept
agreed at (Err h) old new before after kept as_before grows agree = subst (Agree at new.is_open) (sym as_before) (λ e o. agree e (grows.closes e o))

last-is : {A : Type 0} (xs : List A) (x y : A) → slice_get (xs ++ x ∷ []) (length (xs ++ x ∷ []) - 1) ≡ Some y → x ≡ y
last-is xs x y e =
    let all = length-append xs (x ∷ []) in
    let count : length (xs ++ x ∷ []) - 1 ≡ length xs = omega (arith, all) in
    let both : Some x ≡ Some y = sym (get_last xs x) ∙ ap (slice_get (xs ++ x ∷ [])) (sym count) ∙ e in
    cc

-- with one float more, at whose top so many have ended
pub one-more : (floats : List FloatBox) (f : FloatBox) (n : ℕ) (kept : Option ℕ) → kept ≡ Some n → n ≤ length floats → IsLevel floats n f.box.top → IsKept (floats ++ f ∷ []) kept
one-more floats f n kept count l k = record {
  within = λ ended known.
      let both : Some n ≡ Some ended = sym count ∙ known in
      let same : n ≡ ended = cc in
      let all = length-append floats (f ∷ []) in
      omega (arith, l, same, all);
  level = λ ended last known at_end.
      let both : Some n ≡ Some ended = sym count ∙ known in
      let same : n ≡ ended = cc in
      subst (λ (g : FloatBox). IsLevel (floats ++ f ∷ []) ended g.box.top) (last-is floats f last at_end)
      (subst (λ m. IsLevel (floats ++ f ∷ []) m f.box.top) same (level_more floats n f l k));
}

pub more-kept : (old new : List FloatBox) (f : FloatBox) (n : ℕ) (kept : Option ℕ) → new ≡ old ++ f ∷ [] → kept ≡ Some n → n ≤ length old → IsLevel old n f.box.top → IsKept new kept
more-kept old new f n kept is count l k = subst (λ (fs : List FloatBox). IsKept fs kept) (sym is) (one-more old f n kept count l k)

-- ---- floats that are placed by the rules

none-taken : {A : Type 0} (n : ℕ) (xs : List A) → xs ≡ [] → take n xs ≡ []
none-taken zero [] e = refl
none-taken (suc n) [] e = refl
none-taken n (x ∷ xs) e = absurd (cc)

-- those that have ended above the last top have above each lower one
lower-level : (floats : List FloatBox) (kept : Option ℕ) (n : ℕ) (y : ℤ) → IsKept floats kept → kept ≡ Some n → ((f : FloatBox) → Contains floats f → f.box.top ≤ℤ y) → IsLevel floats n y
lower-level floats kept n y k is low = record { tops = low; bottoms = λ f i. by floats refl f i }
  where
    by : (fs : List FloatBox) → floats ≡ fs → (f : FloatBox) → Contains (take n floats) f → f.box.bottom ≤ℤ y
    by [] e f i = no_member (subst (λ (xs : List FloatBox). Contains xs f) (none-taken n floats e) i)
    by (g ∷ gs) e f i =
        let some = slice_some floats (length floats - 1) (let l = ap (λ (xs : List FloatBox). length xs) e in omega (arith, l)) in
        let t = (k.level n some.0 is some.1).bottoms f i in
        let s = low some.0 (last_member floats some.0 some.1) in
        omega (arith, ints)

placed-one : (floats : List FloatBox) (side : Side) (size : Extent ℤ) (cb : Band ℤ) (top : ℤ) (kept : Option ℕ) → IsKept floats kept → IsKept (floats ++ placed_float side size (float_at floats side size cb top) ∷ []) kept
placed-one floats side size cb top None k = nothing-kept _ None refl
placed-one floats side size cb top (Some n) k =
    one-more floats (placed_float side size (float_at floats side size cb top)) n (Some n) refl (k.within n refl)
    (lower-level floats (Some n) n (float_at floats side size cb top).y k refl (λ f i. (level_below floats side size cb top).tops f i))

-- as many have ended behind floats that are placed later
pub placed-later : (old new : List FloatBox) (kept : Option ℕ) → ArePlacedAfter old new → IsKept old kept → IsKept new kept
placed-later old new kept none k = k
placed-later old new kept (next floats side size cb top before) k = placed-one floats side size cb top kept (placed-later old floats kept before k)

use Rattle.std.proofs.Common.{◌≡◌, ℤ, Bool, true, false, cond, int_lt, List, [], ◌∷◌, map, filter, fold, Option, Some, None, refl, ◌∙◌, ap, arith}
use Rattle.std.specs.Int.{int_min}
use Rattle.std.proofs.lemmas.Int.{ints, clamps}
use Rattle.layout_semantics.specs.Extremes.{least_from}
use Rattle.layout_semantics.specs.Floats.{FloatBox, candidate_tops}
use Rattle.layout_semantics.specs.LineHeights.{InlineContext}
use Rattle.layout_semantics.specs.LineFilling.{least_or, line_top}
use Rattle.layout_laws.specs.Standing.{may_stand}
use Rattle.lay_line.specs.steps.Tops.{with_top, with_float, top_or, top_found}

least-more : (a b : ℤ) (xs : List ℤ) → least_from (int_min b a) xs ≡ int_min b (least_from a xs)
least-more a b [] = refl
least-more a b (x ∷ xs) = let rest = least-more a b xs in ap (int_min x) rest ∙ omega (arith, ints, clamps)

module _ (p : ℤ → Bool) (y : ℤ) where
  some-found : (b : ℤ) (xs : List ℤ) → top_or y (fold (with_top p) (Some b) xs) ≡ least_from b (filter p xs)
  some-found b [] = refl
  some-found b (x ∷ xs) = by (p x) (λ o. some-found o xs)
    where
      by : (t : Bool) → ((o : ℤ) → top_or y (fold (with_top p) (Some o) xs) ≡ least_from o (filter p xs)) → top_or y (fold (with_top p) (cond t (Some (int_min x b)) (Some b)) xs) ≡ least_from b (cond t (x ∷ filter p xs) (filter p xs))
      by true rest = rest (int_min x b) ∙ least-more b x (filter p xs)
      by false rest = rest b

  found : (xs : List ℤ) → top_or y (fold (with_top p) None xs) ≡ least_or y (filter p xs)
  found [] = refl
  found (x ∷ xs) = by (p x) (found xs)
    where
      by : (t : Bool) → top_or y (fold (with_top p) None xs) ≡ least_or y (filter p xs) → top_or y (fold (with_top p) (cond t (Some x) None) xs) ≡ least_or y (cond t (x ∷ filter p xs) (filter p xs))
      by true rest = some-found x xs
      by false rest = rest

  floats-found : (best : Option ℤ) (floats : List FloatBox) → fold (with_float p y) best floats ≡ fold (with_top p) best (filter (int_lt y) (map (λ (f : FloatBox). f.box.bottom) floats))
  floats-found best [] = refl
  floats-found best (f ∷ fs) = by (int_lt y f.box.bottom) (λ o. floats-found o fs)
    where
      more : List ℤ
      more = filter (int_lt y) (map (λ (f : FloatBox). f.box.bottom) fs)

      by : (t : Bool) → ((o : Option ℤ) → fold (with_float p y) o fs ≡ fold (with_top p) o more) → fold (with_float p y) (cond t (with_top p best f.box.bottom) best) fs ≡ fold (with_top p) best (cond t (f.box.bottom ∷ more) more)
      by true rest = rest (with_top p best f.box.bottom)
      by false rest = rest best

pub top-same : (c : InlineContext) (floats : List FloatBox) (y tall width : ℤ) → top_found c floats y tall width ≡ line_top c floats y tall width
top-same c floats y tall width = ap (top_or y) (floats-found (may_stand c floats tall width) y (with_top (may_stand c floats tall width) None y) floats) ∙ found (may_stand c floats tall width) y (candidate_tops floats y)

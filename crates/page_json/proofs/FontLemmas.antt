-- The advances of a font are within their limits.
use Rattle.std.proofs.Common.{◌≡◌, ℕ, Bool, true, false, List, [], ◌∷◌, Option, Some, None, option_map, option_and_then, refl, cond, subst, leb}
use Rattle.std.specs.Prelude.{◌&&◌, codes}
use Rattle.std.specs.List.{list_all}
use Rattle.std.proofs.Math.Utf8.{scalar}
use Rattle.std.proofs.lemmas.Bool.{and_from}
use Rattle.serde_json.specs.Data.{Data}
use Rattle.viz_base.specs.Fonts.{is_advance}
use Rattle.page_json.specs.Values.{all_of, list_at, pair_of}
use Rattle.page_json.specs.Fonts.{advance_in, advance_of, advances_of, codes_ascend, in_order}

abbrev Fit : Option (ℕ × ℕ) → Type 0
Fit o = (p : ℕ × ℕ) → o ≡ Some p → is_advance p ≡ true

in_fit : (p : ℕ × ℕ) (a b : Bool) → leb p.1 65535 ≡ b → Fit (cond (a && b) (Some p) None)
in_fit p true true e q is = let same : p ≡ q = cc in subst (λ (r : ℕ × ℕ). is_advance r ≡ true) same e
in_fit p true false e q is = cc
in_fit p false b e q is = cc

of_fit : (d : Data) → Fit (advance_of d)
of_fit d = by_pair (pair_of d)
  where
    by_pair : (o : Option (ℕ × ℕ)) → Fit (option_and_then advance_in o)
    by_pair None = λ q is. cc
    by_pair (Some p) = in_fit p (scalar p.0) (leb p.1 65535) refl

abbrev AllFit : Option (List (ℕ × ℕ)) → Type 0
AllFit o = (ps : List (ℕ × ℕ)) → o ≡ Some ps → list_all is_advance ps ≡ true

all_fit : (ds : List Data) → AllFit (all_of advance_of ds)
all_fit [] = λ ps is. let none : [] ≡ ps = cc in subst (λ (qs : List (ℕ × ℕ)). list_all is_advance qs ≡ true) none refl
all_fit (d ∷ ds) = by_first (advance_of d) (all_of advance_of ds) (of_fit d) (all_fit ds)
  where
    by_first : (o : Option (ℕ × ℕ)) (r : Option (List (ℕ × ℕ))) → Fit o → AllFit r → AllFit (option_and_then (λ y. option_map (λ ys. y ∷ ys) r) o)
    by_first None r f g = λ ps is. cc
    by_first (Some p) None f g = λ ps is. cc
    by_first (Some p) (Some rest) f g = λ ps is.
        (let same : p ∷ rest ≡ ps = cc in
        subst (λ (qs : List (ℕ × ℕ)). list_all is_advance qs ≡ true) same (and_from (is_advance p) (list_all is_advance rest) (f p refl) (g rest refl)))

pub advances_of-fit : (d : Data) → AllFit (advances_of d)
advances_of-fit d = by_list (list_at (codes "advances") d)
  where
    ordered : (o : Option (List (ℕ × ℕ))) → AllFit o → AllFit (option_and_then in_order o)
    ordered None f = λ ps is. cc
    ordered (Some rest) f = by_test (codes_ascend 0 rest)
      where
        by_test : (b : Bool) → AllFit (cond b (Some rest) None)
        by_test true = f
        by_test false = λ ps is. cc

    by_list : (o : Option (List Data)) → AllFit (option_and_then in_order (option_and_then (all_of advance_of) o))
    by_list None = λ ps is. cc
    by_list (Some ds) = ordered (all_of advance_of ds) (all_fit ds)

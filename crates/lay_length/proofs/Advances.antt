use Rattle.std.proofs.Common.{◌≡◌, ◌==◌, ℕ, ◌≤◌, ◌*◌, List, [], ◌∷◌, Some, true, false, Bool, find, IsTrue, length, sum_by, refl, arith}
use Rattle.std.specs.Prelude.{nat_le, ◌&&◌, cond}
use Rattle.std.specs.List.{list_all}
use Rattle.std.specs.Option.{option_map_or}
use Rattle.std.proofs.lemmas.Bool.Decides.{nat_tests}
use Rattle.std.proofs.lemmas.List.Sums.{sum_by-append}
use Rattle.viz_base.specs.Fonts.{is_advance}
use Rattle.viz_base.specs.declared.fonts.Font.{Font}
use Rattle.viz_base.specs.FontSizes.{advance}

most-found : (entries : List (ℕ × ℕ)) (test : ℕ × ℕ → Bool) (other : ℕ) → IsTrue (list_all is_advance entries) → other ≤ 65535 → option_map_or (λ (entry : ℕ × ℕ). entry.1) (find test entries) other ≤ 65535
most-found [] test other a l = l
most-found (entry ∷ entries) test other a l = by (nat_le entry.1 65535) refl (test entry) a (λ b. most-found entries test other b l)
  where
    by : (small : Bool) → nat_le entry.1 65535 ≡ small → (here : Bool) → IsTrue (small && list_all is_advance entries)
        → (IsTrue (list_all is_advance entries) → option_map_or (λ (entry : ℕ × ℕ). entry.1) (find test entries) other ≤ 65535)
        → option_map_or (λ (entry : ℕ × ℕ). entry.1) (cond here (Some entry) (find test entries)) other ≤ 65535
    by false s here a again = absurd (cc)
    by true s true a again = grind (arith, nat_tests)
    by true s false a again = again a

pub advance-most : (font : Font) (c : ℕ) → advance font c ≤ 65535
advance-most font c = most-found font.advances (λ (entry : ℕ × ℕ). entry.0 == c) font.other font.ok.advances_most font.ok.other_most

-- the advances of a text add up to no more than the greatest for each of its characters
pub sum-most : (font : Font) (cs : List ℕ) → sum_by (advance font) cs ≤ 65535 * length cs
sum-most font [] = omega arith
sum-most font (c ∷ cs) = let here = advance-most font c in let rest = sum-most font cs in omega (arith, sum_by-append (advance font) (c ∷ []) cs)

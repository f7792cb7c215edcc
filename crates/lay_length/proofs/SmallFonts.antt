-- Font sizes and lengths in em grow with the default font size.
use Rattle.std.proofs.Common.{◌≡◌, ℕ, zero, suc, ◌*◌, ◌<◌, ◌≤◌, nat_le, ℤ, pos, negsuc, ◌*ℤ◌, unsigned_abs, List, Option, Some, None, IsTrue, refl, ap, ◌∙◌, arith, slice_get}
use Rattle.std.specs.Option.{option_map_or}
use Rattle.std.proofs.lemmas.Bool.Decides.{nat_tests}
use Rattle.viz_base.specs.Styles.{is_nonnegative, is_good_size}
use Rattle.viz_base.specs.declared.lengths.Size.{Size}
use Rattle.viz_base.specs.declared.lengths.Size.TheVariants as of_size
use Rattle.viz_base.specs.declared.styles.Style.{Style}
use Rattle.viz_base.specs.FontSizes.{fraction, default_size, computed_size, parent_in, font_size_to, font_size_in, em_in}
use Rattle.layout_semantics.proofs.Forest.{both}
use Rattle.lay_length.proofs.SmallNumbers.{div-rises, fraction-grows}
use lib.IntN.{pos-*ℤ-pos}

-- from 0 to a number
pub record IsUpTo (z most : ℤ) : Type 0 where
  pub low : ℕ
  pub high : ℕ
  pub is : z ≡ pos low
  pub most_is : most ≡ pos high
  pub below : low ≤ high

up_to : (n m : ℕ) → n ≤ m → IsUpTo (pos n) (pos m)
up_to n m l = record { low = n; high = m; is = refl; most_is = refl; below = l }

pub fraction-up : (num : ℤ) (den : ℕ) (a b : ℤ) → IsTrue (is_nonnegative num) → 0 < den → IsUpTo a b → IsUpTo (fraction num den a) (fraction num den b)
fraction-up (negsuc n) den a b t l u = absurd (cc)
fraction-up (pos n) den a b t l u =
    let low = ap (λ (z : ℤ). pos n *ℤ z) u.is ∙ pos-*ℤ-pos n u.low in
    let high = ap (λ (z : ℤ). pos n *ℤ z) u.most_is ∙ pos-*ℤ-pos n u.high in
    rw (low, high) (up_to _ _ (div-rises (n * u.low) (n * u.high) den l (let m = Rattle.std.proofs.Math.Nat.mul-le-mul_left n u.below in m)))

computed-up : (s t : ℕ) (a b : ℤ) (size : Size) → s ≤ t → IsTrue (is_good_size size) → IsUpTo a b → IsUpTo (computed_size s a size) (computed_size t b size)
computed-up s t a b of_size.Same l g u = u
computed-up s t a b (of_size.Default num den) l g u =
    let parts = both (is_nonnegative num) (nat_le 1 den) g in
    fraction-up num den (default_size s) (default_size t) parts.0 (grind (arith, nat_tests, parts.1)) (up_to (64 * s) (64 * t) (omega arith))
computed-up s t a b (of_size.Px (pos c)) l g u = up_to c c (omega arith)
computed-up s t a b (of_size.Px (negsuc c)) l g u = absurd (cc)
computed-up s t a b (of_size.Parent num den) l g u =
    let parts = both (is_nonnegative num) (nat_le 1 den) g in
    fraction-up num den a b parts.0 (grind (arith, nat_tests, parts.1)) u

module _ (styles : List Style) (parents : List (Option ℕ)) (s t : ℕ) (l : s ≤ t) where
  pub size-up : (levels node : ℕ) → IsUpTo (font_size_to levels styles parents s node) (font_size_to levels styles parents t node)
  unfolding font_size_to
  size-up zero node = up_to (64 * s) (64 * t) (omega arith)
  size-up (suc levels) node = by_style (slice_get styles node) (by_parent (parent_in parents node) (λ p. size-up levels p))
    where
      by_parent : (o : Option ℕ) → ((p : ℕ) → IsUpTo (font_size_to levels styles parents s p) (font_size_to levels styles parents t p)) → IsUpTo (option_map_or (font_size_to levels styles parents s) o (default_size s)) (option_map_or (font_size_to levels styles parents t) o (default_size t))
      by_parent None again = up_to (64 * s) (64 * t) (omega arith)
      by_parent (Some p) again = again p

      by_style : (o : Option Style) → {a b : ℤ} → IsUpTo a b → IsUpTo (option_map_or (λ (style : Style). computed_size s a style.size) o a) (option_map_or (λ (style : Style). computed_size t b style.size) o b)
      by_style None u = u
      by_style (Some style) u = computed-up s t _ _ style.size l style.ok.size_good u

  pub font-up : (node : ℕ) → unsigned_abs (font_size_in styles parents s node) ≤ unsigned_abs (font_size_in styles parents t node)
  font-up node = let u = size-up (suc node) node in let a = u.is in let b = u.most_is in let c = u.below in rw (a, b) c

  pub em-up : (k : ℤ) (node : ℕ) → unsigned_abs (em_in styles parents s k node) ≤ unsigned_abs (em_in styles parents t k node)
  em-up k node = let u = size-up (suc node) node in let a = u.is in let b = u.most_is in rw (a, b) (fraction-grows k u.low u.high 1000000 (omega arith) u.below)

use Rattle.std.proofs.Common.{◌≡◌, ℕ, zero, suc, ◌<◌, ℤ, List, Option, Some, None, slice_get, refl, ◌∙◌, ap, arith}
use Rattle.std.specs.Option.{option_map_or, option_and_then}
use Rattle.viz_base.specs.declared.styles.Style.{Style}
use Rattle.viz_base.specs.FontSizes.{default_size, parent_in, computed_size, font_size_to, font_size_in}

-- each parent comes before its children
abbrev pub ParentsBefore : List (Option ℕ) → Type 0
ParentsBefore parents = (node p : ℕ) → slice_get parents node ≡ Some (Some p) → p < node

pub parent-before : (parents : List (Option ℕ)) (node p : ℕ) → ParentsBefore parents → parent_in parents node ≡ Some p → p < node
parent-before parents node p before e = before node p (by (slice_get parents node) e)
  where
    by : (o : Option (Option ℕ)) → option_and_then (λ parent. parent) o ≡ Some p → o ≡ Some (Some p)
    by None e = absurd (cc)
    by (Some o) e = ap Some e

abbrev size_where : ℕ → List Style → ℕ → ℤ → ℤ
size_where s styles node above = option_map_or (λ (style : Style). computed_size s above style.size) (slice_get styles node) above

font-enough : (n m : ℕ) (styles : List Style) (parents : List (Option ℕ)) (s node : ℕ) → ParentsBefore parents → node < n → node < m → font_size_to n styles parents s node ≡ font_size_to m styles parents s node
unfolding font_size_to
font-enough zero m styles parents s node before ln lm = absurd (omega arith)
font-enough (suc n) zero styles parents s node before ln lm = absurd (omega arith)
font-enough (suc n) (suc m) styles parents s node before ln lm =
    ap (size_where s styles node) (by (parent_in parents node) refl (λ p l. font-enough n m styles parents s p before (omega arith) (omega arith)))
  where
    by : (o : Option ℕ) → parent_in parents node ≡ o → ((p : ℕ) → p < node → font_size_to n styles parents s p ≡ font_size_to m styles parents s p)
        → option_map_or (font_size_to n styles parents s) o (default_size s) ≡ option_map_or (font_size_to m styles parents s) o (default_size s)
    by None e again = refl
    by (Some p) e again = again p (parent-before parents node p before e)

-- a node's font size by its parent's
pub font-by-parent : (styles : List Style) (parents : List (Option ℕ)) (s node : ℕ) → ParentsBefore parents
    → font_size_in styles parents s node ≡ size_where s styles node (option_map_or (font_size_in styles parents s) (parent_in parents node) (default_size s))
unfolding font_size_to
font-by-parent styles parents s node before = ap (size_where s styles node) (by (parent_in parents node) refl)
  where
    by : (o : Option ℕ) → parent_in parents node ≡ o → option_map_or (font_size_to node styles parents s) o (default_size s) ≡ option_map_or (font_size_in styles parents s) o (default_size s)
    by None e = refl
    by (Some p) e = let l = parent-before parents node p before e in font-enough node (suc p) styles parents s p before l (omega arith)

pub font-of-style : (styles : List Style) (parents : List (Option ℕ)) (s node : ℕ) (style : Style) → ParentsBefore parents → slice_get styles node ≡ Some style
    → font_size_in styles parents s node ≡ computed_size s (option_map_or (font_size_in styles parents s) (parent_in parents node) (default_size s)) style.size
font-of-style styles parents s node style before e =
    font-by-parent styles parents s node before
    ∙ ap (λ o. option_map_or (λ (t : Style). computed_size s (option_map_or (font_size_in styles parents s) (parent_in parents node) (default_size s)) t.size) o (option_map_or (font_size_in styles parents s) (parent_in parents node) (default_size s))) e

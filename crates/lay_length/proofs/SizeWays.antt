use Rattle.std.proofs.Common.{◌≡◌, ℕ, zero, suc, ◌<◌, ℤ, List, [], ◌∷◌, Option, Some, None, slice_get, refl, sym, ap, ◌∙◌, arith}
use Rattle.std.specs.Option.{option_map_or}
use Rattle.viz_base.specs.declared.lengths.Size.{Size}
use Rattle.viz_base.specs.declared.lengths.Size.TheVariants as of_size
use Rattle.viz_base.specs.declared.styles.Style.{Style}
use Rattle.viz_base.specs.declared.trees.BoxTree.{BoxTree}
use Rattle.viz_base.specs.declared.worlds.World.{World}
use Rattle.viz_base.specs.FontSizes.{default_size, parent_in, computed_size, font_size_in}
use Rattle.layout_semantics.specs.Fonts.{font_size}
use Rattle.layout_laws.proofs.FontSizes.{ParentsBefore, font-by-parent, parent-before}
use Rattle.lay_length.specs.Ways.{size_way_to, size_way_in, size_way}

abbrev with_own : List Style → List (Option ℕ) → ℕ → ℕ → List ℤ → List ℤ
with_own styles parents s node above = default_size s ∷ font_size_in styles parents s node ∷ above

way-enough : (n m : ℕ) (styles : List Style) (parents : List (Option ℕ)) (s node : ℕ) → ParentsBefore parents → node < n → node < m → size_way_to n styles parents s node ≡ size_way_to m styles parents s node
unfolding size_way_to
way-enough zero m styles parents s node before ln lm = absurd (omega arith)
way-enough (suc n) zero styles parents s node before ln lm = absurd (omega arith)
way-enough (suc n) (suc m) styles parents s node before ln lm =
    ap (with_own styles parents s node) (by (parent_in parents node) refl (λ p l. way-enough n m styles parents s p before (omega arith) (omega arith)))
  where
    by : (o : Option ℕ) → parent_in parents node ≡ o → ((p : ℕ) → p < node → size_way_to n styles parents s p ≡ size_way_to m styles parents s p)
        → option_map_or (size_way_to n styles parents s) o [] ≡ option_map_or (size_way_to m styles parents s) o []
    by None e again = refl
    by (Some p) e again = again p (parent-before parents node p before e)

-- the values on the way to a node's font size, by those on the way to its parent's
pub way-by-parent : (styles : List Style) (parents : List (Option ℕ)) (s node : ℕ) → ParentsBefore parents
    → size_way_in styles parents s node ≡ with_own styles parents s node (option_map_or (size_way_in styles parents s) (parent_in parents node) [])
unfolding size_way_to
way-by-parent styles parents s node before = ap (with_own styles parents s node) (by (parent_in parents node) refl)
  where
    by : (o : Option ℕ) → parent_in parents node ≡ o → option_map_or (size_way_to node styles parents s) o [] ≡ option_map_or (size_way_in styles parents s) o []
    by None e = refl
    by (Some p) e = let l = parent-before parents node p before e in way-enough node (suc p) styles parents s p before l (omega arith)

-- ---- a font size by how it comes about

before-of : (tree : BoxTree) → ParentsBefore tree.parents
before-of tree = tree.ok.parents_before

pub size-known : (tree : BoxTree) (w : World) (node : ℕ) (size : Size) (parent : Option ℕ)
    → size ≡ option_map_or (λ (t : Style). t.size) (slice_get tree.styles node) of_size.Same → parent ≡ parent_in tree.parents node
    → font_size tree w node ≡ computed_size w.s (option_map_or (font_size tree w) parent (default_size w.s)) size
size-known tree w node size parent e f =
    font-by-parent tree.styles tree.parents w.s node (before-of tree)
    ∙ by (slice_get tree.styles node) (option_map_or (font_size tree w) (parent_in tree.parents node) (default_size w.s))
    ∙ ap (λ t. computed_size w.s (option_map_or (font_size tree w) (parent_in tree.parents node) (default_size w.s)) t) (sym e)
    ∙ ap (λ p. computed_size w.s (option_map_or (font_size tree w) p (default_size w.s)) size) (sym f)
  where
    by : (o : Option Style) (above : ℤ) → option_map_or (λ (t : Style). computed_size w.s above t.size) o above ≡ computed_size w.s above (option_map_or (λ (t : Style). t.size) o of_size.Same)
    by None above = refl
    by (Some t) above = refl

pub way-known : (tree : BoxTree) (w : World) (node : ℕ) (parent : Option ℕ) → parent ≡ parent_in tree.parents node
    → size_way tree w node ≡ default_size w.s ∷ font_size tree w node ∷ option_map_or (size_way tree w) parent []
way-known tree w node parent f =
    way-by-parent tree.styles tree.parents w.s node (before-of tree)
    ∙ ap (λ p. default_size w.s ∷ font_size tree w node ∷ option_map_or (size_way tree w) p []) (sym f)

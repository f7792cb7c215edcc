-- The widths of a page within its limits are small.
use Rattle.std.proofs.Common.{◌≡◌, ℕ, zero, suc, ◌+◌, ◌^◌, ◌≤◌, true, List, [], ◌∷◌, length, Some, slice_get, IsTrue, unsigned_abs, refl, ap, ◌∙◌, arith}
use Rattle.std.specs.Prelude.{option_map, chars, sum_by}
use Rattle.std.specs.List.{list_all, enumerate_from, AllByRecursion}
use Rattle.std.proofs.lemmas.Option.{slice_get-map}
use Rattle.viz_base.specs.Reaches.{percentage, reach_to}
use Rattle.viz_base.specs.Styles.{is_no_percentage, sides_of}
use Rattle.viz_base.specs.Trees.{is_inline}
use Rattle.viz_base.specs.declared.lengths.Length.{Length}
use Rattle.viz_base.specs.declared.lengths.Length.TheVariants as of_length
use Rattle.viz_base.specs.declared.trees.BoxNode.{BoxNode}
use Rattle.viz_base.specs.declared.trees.BoxTree.{BoxTree}
use Rattle.viz_base.specs.declared.worlds.World.{World}
use Rattle.viz_base.proofs.ListLemmas.{all_append}
use Rattle.layout_semantics.specs.Blocks.{kind_of}
use Rattle.layout_semantics.specs.FlowBoxes.{room}
use Rattle.layout_semantics.specs.Lengths.{used, margins, borders}
use Rattle.layout_semantics.specs.Order.{IsOnPage}
use Rattle.layout_semantics.specs.Verticals.{verticals}
use Rattle.layout_semantics.proofs.Forest.{both}
use Rattle.layout_laws.proofs.Reaching.{reach_bounded}
use Rattle.lay_length.specs.Limits.{IsSmallPage}
use Rattle.lay_length.proofs.SmallExtents.{low-tree}
use Rattle.page_limits.specs.Boxes.{IsWhole}
use Rattle.page_limits.specs.InlineSizes.{AreWidthsBounded, AreEdgesSmall}
use Rattle.page_limits.proofs.WidthsLevels.{all_extents, IsFarPage}
use Rattle.page_limits.proofs.WidthsPage.{whole-on, inline-on, edges-bounded, width-bounded, minimum-bounded, replaced-bounded, preferred-bounded, sides-bounded}

no-percentage : (l : Length) → IsTrue (is_no_percentage l) → percentage l ≡ 0
no-percentage of_length.Auto t = refl
no-percentage (of_length.Px c) t = refl
no-percentage (of_length.Em k node) t = refl
no-percentage (of_length.Pct p) t = absurd (cc)

no-percentages : (ls : List Length) → IsTrue (list_all is_no_percentage ls) → AllByRecursion (λ l. percentage l ≡ 0) ls
no-percentages [] t = tt
no-percentages (l ∷ ls) t = let parts = both (is_no_percentage l) (list_all is_no_percentage ls) t in (no-percentage l parts.0, no-percentages ls parts.1)

enumerate-at : {A : Type 0} (n : ℕ) (xs : List A) (k : ℕ) (x : A) → slice_get xs k ≡ Some x → slice_get (enumerate_from n xs) k ≡ Some (n + k, x)
enumerate-at n [] k x e = absurd (cc)
enumerate-at {A} n (y ∷ xs) zero x e = let same : y ≡ x = cc in let none : n ≡ n + 0 = omega arith in ap (λ (z : A). Some (n, z)) same ∙ ap (λ (i : ℕ). Some (i, x)) none
enumerate-at n (y ∷ xs) (suc k) x e = let next : n + 1 + k ≡ n + suc k = omega arith in enumerate-at (n + 1) xs k x e ∙ ap (λ (i : ℕ). Some (i, x)) next

pub far-page : (tree : BoxTree) → IsSmallPage tree → sum_by (λ (b : BoxNode). length (chars b.chars)) tree.boxes ≤ 524288 → IsFarPage tree
far-page tree small short = record {
  few_boxes = small.few_boxes;
  few_characters = short;
  low = low-tree tree small;
  reach = λ k x e.
      reach_bounded tree.styles tree.parents tree.fonts tree.boxes k _ small.reach
      (slice_get-map (λ (p : ℕ × BoxNode). reach_to tree.styles tree.parents tree.fonts (length tree.boxes) tree.boxes (all_extents tree) p.0) (enumerate_from 0 tree.boxes) k
      ∙ ap (option_map (λ (p : ℕ × BoxNode). reach_to tree.styles tree.parents tree.fonts (length tree.boxes) tree.boxes (all_extents tree) p.0)) (enumerate-at 0 tree.boxes k x e ∙ ap (λ (i : ℕ). Some (i, x)) (zero-more k)));
  borders = λ k x s e f. no-percentages (sides_of s.border) s.ok.plain_borders;
}
  where
    zero-more : (k : ℕ) → 0 + k ≡ k
    zero-more k = omega arith

module _ (tree : BoxTree) (page : IsFarPage tree) (w : World) (small : w.s ≤ 256) (narrow : w.w ≤ 16384) (flat : w.h ≤ 16384) where
  pub whole-bounded : (k : ℕ) → IsOnPage tree.boxes k → IsWhole tree k → AreWidthsBounded tree w (2 ^ 42) k
  unfolding verticals
  whole-bounded k on e =
      let b = whole-on tree page w small narrow flat k on e in
      let edges = edges-bounded tree page w small narrow flat k b in
      let least = minimum-bounded tree page w small narrow flat k b in
      let pref = preferred-bounded tree page w small narrow flat k b e in
      let pref_least = pref.0 in
      let pref_most = pref.1 in
      let replaced = replaced-bounded tree page w small narrow flat k b in
      let sides = sides-bounded tree page w small narrow flat k b in
      record {
        edges = omega (arith, edges);
        width = λ v is. (let wide = width-bounded tree page w small narrow flat k b v is in omega (arith, edges, wide));
        least = omega (arith, edges, least);
        preferred_least = omega (arith, edges, pref_least);
        preferred_most = omega (arith, edges, pref_most);
        replaced_width = omega (arith, edges, replaced);
        sides = record {
          margin_top = sides.margin.0;
          border_top = sides.border.0;
          padding_top = sides.padding.0;
          padding_bottom = sides.padding.1.1.0;
          border_bottom = sides.border.1.1.0;
          margin_bottom = sides.margin.1.1.0;
        };
      }

  pub inline-bounded : (k : ℕ) → IsOnPage tree.boxes k → is_inline (kind_of tree k) ≡ true → AreEdgesSmall tree w (2 ^ 42) k
  inline-bounded k on e =
      let sides = sides-bounded tree page w small narrow flat k (inline-on tree page w small narrow flat k on e) in
      (sides.padding.0, (sides.padding.1.0, (sides.padding.1.1.0, (sides.padding.1.1.1.0, all_append (λ (l : Length). unsigned_abs (used tree w l (room tree w k)) ≤ 2 ^ 42) (sides_of (borders tree k)) (sides_of (margins tree k)) sides.border sides.margin))))

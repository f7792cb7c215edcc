-- The heights, fonts and raises of a page within its limits are small.
use Rattle.std.proofs.Common.{◌≡◌, ℕ, ◌+◌, ◌^◌, ◌≤◌, ℤ, ◌-ℤ◌, unsigned_abs, List, Option, Some, refl, subst, arith}
use Rattle.viz_base.specs.declared.layouts.Band.{Band}
use Rattle.viz_base.specs.declared.layouts.Inner.{Inner}
use Rattle.viz_base.specs.declared.lengths.Valign.{Valign}
use Rattle.viz_base.specs.declared.lengths.Valign.TheVariants as of_valign
use Rattle.viz_base.specs.declared.trees.BoxTree.{BoxTree}
use Rattle.viz_base.specs.declared.worlds.World.{World}
use Rattle.viz_base.proofs.ListLemmas.{slice_some}
use Rattle.layout_semantics.specs.Blocks.{parent_of}
use Rattle.layout_semantics.specs.LineHeights.{InlineContext, LineExtent}
use Rattle.layout_semantics.specs.Order.{IsOnPage}
use Rattle.layout_semantics.proofs.Pages.{within-page}
use Rattle.lay_length.proofs.SmallExtents.{IsLowTree}
use Rattle.page_limits.specs.Boxes.{IsWhole, middle_of}
use Rattle.page_limits.specs.Raises.{AreRaisedBy, AreRaisesSmall, own_raise, raise_around}
use Rattle.page_limits.specs.Tall.{AreHeightsBounded, AreFontsBounded}
use Rattle.page_limits.proofs.WidthsLevels.{IsFarPage}
use Rattle.page_limits.proofs.WidthsPage.{whole-on}
use Rattle.page_limits.proofs.HeightsFonts.{valign_of}
use Rattle.page_limits.proofs.HeightsBoxes.{given-bounded, least-bounded, tall-bounded}
use Rattle.page_limits.proofs.InlinesFonts.{box-font-small, part-small}
use Rattle.page_limits.proofs.RaisesBoxes.{middle_by}
use Rattle.page_limits.proofs.RaisesAround.{raises, inline-raised, other-raised, raises-low}

-- ---- heights

module _ (tree : BoxTree) (page : IsFarPage tree) (w : World) (small : w.s ≤ 256) (narrow : w.w ≤ 16384) (flat : w.h ≤ 16384) where
  pub heights-bounded : (k : ℕ) → IsOnPage tree.boxes k → IsWhole tree k → AreHeightsBounded tree w (2 ^ 42) k
  heights-bounded k on e =
      let b = whole-on tree page w small narrow flat k on e in
      let least = least-bounded tree page w small narrow flat k b in
      record {
        replaced_height = tall-bounded tree page w small narrow flat k b;
        given_height = λ h is. (let given = given-bounded tree page w small narrow flat k b h is in omega (arith, given));
        least_height = omega (arith, least);
      }

-- ---- fonts and raises

module _ (tree : BoxTree) (low : IsLowTree tree) (w : World) (small : w.s ≤ 256) where
  pub fonts-bounded : (k : ℕ) → IsOnPage tree.boxes k → AreFontsBounded tree w (2 ^ 42) k
  fonts-bounded k on =
      let x = slice_some tree.boxes k (within-page tree k on) in
      let font = box-font-small tree low w small k x.0 x.1 in
      record {
        ascent = font.ascent;
        descent = font.descent;
        above = font.above;
        below = font.below;
        text = λ part p. part-small tree low w small k x.0 x.1 p.before part p.after p.same;
      }

  middle-same : (container : ℕ) (inner : List (Option (Inner ℤ))) (cb : Band ℤ) (k : ℕ) (e : LineExtent) (v : Valign) → valign_of tree low w small k ≡ v
      → let c : InlineContext = record { tree = tree; world = w; container = container; inner = inner; cb = cb } in middle_by tree low w small e v ≡ middle_of c k e
  middle-same container inner cb k e of_valign.Baseline f = rw f refl
  middle-same container inner cb k e of_valign.Sub f = rw f refl
  middle-same container inner cb k e of_valign.Super f = rw f refl
  middle-same container inner cb k e of_valign.Middle f = rw f refl
  middle-same container inner cb k e (of_valign.Raise l) f = rw f refl

  raised : AreRaisedBy tree w (raises tree low w small)
  raised = record {
    inline = λ container inner cb k parent on e. inline-raised tree low w small container inner cb k parent on e;
    other = λ container inner cb k parent e on f. other container inner cb k parent e on f;
  }
    where
      other : (container : ℕ) (inner : List (Option (Inner ℤ))) (cb : Band ℤ) (k parent : ℕ) (e : LineExtent) → IsOnPage tree.boxes k → parent_of tree.boxes k ≡ Some parent
          → let c : InlineContext = record { tree = tree; world = w; container = container; inner = inner; cb = cb } in
          unsigned_abs (own_raise c k parent e -ℤ middle_of c k e) + raise_around tree (raises tree low w small) parent ≤ raises tree low w small k
      other container inner cb k parent e on f =
          let c : InlineContext = record { tree = tree; world = w; container = container; inner = inner; cb = cb } in
          subst (λ (m : ℤ). unsigned_abs (own_raise c k parent e -ℤ m) + raise_around tree (raises tree low w small) parent ≤ raises tree low w small k)
          (middle-same container inner cb k e (valign_of tree low w small k) refl)
          (other-raised tree low w small container inner cb k parent e on f)

  pub raises-small : AreRaisesSmall tree w (2 ^ 42)
  raises-small = record { raises = raises tree low w small; each = raised; all = raises-low tree low w small }

-- The numbers on the way to the heights of a box of a page fit.
use Rattle.std.proofs.Common.{◌≡◌, ℕ, zero, suc, ◌*◌, ◌^◌, ◌<◌, ◌≤◌, Bool, true, false, ℤ, pos, unsigned_abs, Contains, [], ◌∷◌, Option, Some, None, refl, sym, ap, ◌∙◌, subst, arith}
use Rattle.std.specs.Prelude.{unwrap_or, option_and_then}
use Rattle.std.specs.Option.{option_map_or}
use Rattle.viz_base.specs.Trees.{is_fragmented, is_leaf}
use Rattle.viz_base.specs.declared.lengths.Length.{Length}
use Rattle.viz_base.specs.declared.lengths.Length.TheVariants as of_length
use Rattle.viz_base.specs.declared.trees.BoxTree.{BoxTree}
use Rattle.viz_base.specs.declared.trees.Kind.{Kind}
use Rattle.viz_base.specs.declared.trees.Kind.TheVariants as of_kind
use Rattle.viz_base.specs.declared.worlds.World.{World}
use Rattle.viz_base.proofs.ListLemmas.{slice_some}
use Rattle.viz_calc.specs.State.{AllSmall}
use Rattle.layout_semantics.specs.Blocks.{kind_of, parent_of}
use Rattle.layout_semantics.specs.DefiniteHeights.{own_height, least_height, is_passed_over, percentage_container, own_height_around, definite_height, definite_height_to}
use Rattle.layout_semantics.specs.Lengths.{own_style}
use Rattle.layout_semantics.specs.Order.{kids_of, roots, IsOnPage}
use Rattle.layout_semantics.proofs.Forest.{IsKid}
use Rattle.layout_semantics.proofs.Pages.{forest, root-alone, root_place, Each-contains, within-page}
use Rattle.layout_laws.proofs.Upward.{container-by-parent, definite-by-container}
use Rattle.lay_width.specs.Fitting.{HeightFits, MostHeightFits, ClampedFits, OwnHeightFits, DefiniteFits_to, GivenFits}
use Rattle.lay_length.proofs.SmallExtents.{IsLowTree}
use Rattle.page_limits.specs.Boxes.{IsWhole}
use Rattle.page_limits.proofs.WidthsCosts.{kind-at}
use Rattle.page_limits.proofs.WidthsLevels.{IsFarPage, holds, near-up}
use Rattle.page_limits.proofs.WidthsPage.{IsBoxOn, whole-on, bounded}
use Rattle.page_limits.proofs.FitsLengths.{IsLow, AreLengthsLow, used-fits, whole-lengths, max_height_in}

-- ---- heights where the containing block's is `around`

module _ (tree : BoxTree) (low : IsLowTree tree) (w : World) (small : w.s ≤ 256) where
  height-fits : (around : Option ℤ) (l : Length) → unsigned_abs (unwrap_or around (pos 0)) ≤ 2 ^ 50 → IsLow tree low w small l → HeightFits tree w around l
  height-fits None of_length.Auto n i = tt
  height-fits (Some z) of_length.Auto n i = tt
  height-fits None (of_length.Px c) n i = used-fits tree low w small (of_length.Px c) (pos 0) i (omega arith)
  height-fits (Some z) (of_length.Px c) n i = used-fits tree low w small (of_length.Px c) (pos 0) i (omega arith)
  height-fits None (of_length.Em e node) n i = used-fits tree low w small (of_length.Em e node) (pos 0) i (omega arith)
  height-fits (Some z) (of_length.Em e node) n i = used-fits tree low w small (of_length.Em e node) (pos 0) i (omega arith)
  height-fits None (of_length.Pct p) n i = tt
  height-fits (Some z) (of_length.Pct p) n i = used-fits tree low w small (of_length.Pct p) z i n

  most-height-fits : (around : Option ℤ) (o : Option Length) → unsigned_abs (unwrap_or around (pos 0)) ≤ 2 ^ 50 → ((l : Length) → o ≡ Some l → IsLow tree low w small l) → MostHeightFits tree w around o
  most-height-fits around None n f = tt
  most-height-fits around (Some l) n f = height-fits around l n (f l refl)

  module _ (k : ℕ) (lengths : AreLengthsLow tree low w small (own_style tree k)) (around : Option ℤ) (near : unsigned_abs (unwrap_or around (pos 0)) ≤ 2 ^ 50) where
    property-fits : HeightFits tree w around (own_height tree k)
    property-fits = height-fits around (own_height tree k) near lengths.height

    limits-fit : ClampedFits tree w k around
    limits-fit = (most-height-fits around (max_height_in (own_style tree k)) near lengths.max_height, (height-fits around (least_height tree k) near lengths.min_height, (omega arith, tt)))

    own-fits : OwnHeightFits tree w around k
    own-fits = (property-fits, limits-fit)

-- ---- the boxes that percentages of heights are of

module _ (tree : BoxTree) (page : IsFarPage tree) (w : World) (small : w.s ≤ 256) (narrow : w.w ≤ 16384) (flat : w.h ≤ 16384) where
  record IsContainer (at c : ℕ) : Type 0 where
    before : c < at
    on : IsOnPage tree.boxes c
    whole : IsWhole tree c

  same-some : (a b : ℕ) → Some a ≡ Some b → a ≡ b
  same-some a b e = cc

  -- a box that holds another, and is not passed over, is laid out whole
  holder-whole : (b kid : ℕ) → b < kid → IsOnPage tree.boxes b → Contains (kids_of tree.boxes b) kid → is_passed_over (kind_of tree b) ≡ false → IsWhole tree b
  holder-whole b kid l on c over =
      let x = slice_some tree.boxes b (within-page tree b on) in
      let kind = kind-at tree b x.0 x.1 in
      let leaf = (holds tree page w small narrow flat b kid x.0 x.1 c).0 in
      ap is_fragmented kind ∙ by (x.0).kind leaf (sym (ap is_passed_over kind) ∙ over)
    where
      by : (kind : Kind) → is_leaf kind ≡ false → is_passed_over kind ≡ false → is_fragmented kind ≡ false
      by of_kind.Block e f = refl
      by of_kind.Anon e f = absurd (cc)
      by of_kind.Float e f = refl
      by of_kind.Atomic e f = refl
      by of_kind.Replaced e f = refl
      by of_kind.Line e f = refl
      by of_kind.Inline e f = absurd (cc)
      by of_kind.Chars e f = absurd (cc)
      by of_kind.Break e f = absurd (cc)

  abbrev above_of : ℕ → Option ℕ
  above_of parent = elim (is_passed_over (kind_of tree parent)) [ true ↦ percentage_container tree parent | false ↦ Some parent ]

  no-container : (at c : ℕ) → Contains (roots tree.boxes) at → option_and_then above_of (parent_of tree.boxes at) ≡ Some c → ⊥
  no-container at c first e = no (sym (ap (option_and_then above_of) (ap (parent_of tree.boxes) (sym (root_place tree.boxes at first).0) ∙ root-alone tree)) ∙ e)
    where
      no : None ≡ Some c → ⊥
      no e = cc

  by-parent : (b at c : ℕ) → IsOnPage tree.boxes b → Contains (kids_of tree.boxes b) at → (percentage_container tree b ≡ Some c → IsContainer b c) → option_and_then above_of (parent_of tree.boxes at) ≡ Some c → IsContainer at c
  by-parent b at c on among again e = by (is_passed_over (kind_of tree b)) refl (sym (ap (option_and_then above_of) kid.parent) ∙ e)
    where
      kid : IsKid tree.boxes b at
      kid = Each-contains (IsKid tree.boxes b) (kids_of tree.boxes b) at ((forest tree).kids b) among

      by : (over : Bool) → is_passed_over (kind_of tree b) ≡ over → elim over as (λ (x : Bool). Option ℕ) [ true ↦ percentage_container tree b | false ↦ Some b ] ≡ Some c → IsContainer at c
      by true t f =
          let up = again f in
          let after = kid.after in
          let before = up.before in
          record { before = omega (arith, after, before); on = up.on; whole = up.whole }
      by false t f =
          let same = same-some b c f in
          record { before = subst (λ n. n < at) same kid.after; on = subst (IsOnPage tree.boxes) same on; whole = subst (IsWhole tree) same (holder-whole b at kid.after on among t) }

  container-of : (at c : ℕ) → IsOnPage tree.boxes at → percentage_container tree at ≡ Some c → IsContainer at c
  container-of at c (IsOnPage.root _ first) e = absurd (no-container at c first (sym (container-by-parent tree at (IsOnPage.root at first)) ∙ e))
  container-of at c (IsOnPage.inside b _ on among) e = by-parent b at c on among (λ f. container-of b c on f) (sym (container-by-parent tree at (IsOnPage.inside b at on among)) ∙ e)

  -- ---- definite heights

  abbrev height_by : (ℕ → Option ℤ) → Option ℕ → Option ℤ
  height_by around o = option_map_or (λ container. own_height_around tree w (around container) container) o (Some (pos (64 * w.h)))

  -- so many levels are enough
  definite-same : (levels at : ℕ) → IsOnPage tree.boxes at → at < levels → definite_height_to levels tree w at ≡ definite_height tree w at
  unfolding definite_height_to
  definite-same zero at on l = absurd (omega (arith, l))
  definite-same (suc levels) at on l =
      same (percentage_container tree at) (λ c e. (let i = container-of at c on e in let before = i.before in definite-same levels c i.on (omega (arith, l, before))))
      ∙ sym (definite-by-container tree w at on)
    where
      same : (o : Option ℕ) → ((c : ℕ) → o ≡ Some c → definite_height_to levels tree w c ≡ definite_height tree w c)
          → height_by (definite_height_to levels tree w) o ≡ height_by (definite_height tree w) o
      same None f = refl
      same (Some c) f = ap (λ around. own_height_around tree w around c) (f c refl)

  definite-low : (k : ℕ) → IsBoxOn tree page w small narrow flat k → unsigned_abs (unwrap_or (definite_height tree w k) (pos 0)) ≤ 2 ^ 50
  definite-low k b =
      let most = bounded tree page w small narrow flat k b (unsigned_abs (unwrap_or (definite_height tree w k) (pos 0)))
      (near-up tree page w small narrow flat k b.x b.p b.v (unsigned_abs (unwrap_or (definite_height tree w k) (pos 0))) b.p.definite) in
      omega (arith, most)

  pub lengths-of : (k : ℕ) → IsBoxOn tree page w small narrow flat k → IsWhole tree k → AreLengthsLow tree page.low w small (own_style tree k)
  lengths-of k b whole = whole-lengths tree page.low w small k b.x b.place whole

  definite-fits : (levels at : ℕ) → IsOnPage tree.boxes at → at < levels → DefiniteFits_to levels tree w at
  unfolding DefiniteFits_to
  definite-fits zero at on l = tt
  definite-fits (suc levels) at on l = by (percentage_container tree at) refl (λ c above m. definite-fits levels c above m)
    where
      FitsBy : Option ℕ → Type 0
      FitsBy o = elim o as (λ (_ : Option ℕ). Type 0) [
        | None ↦ AllSmall (pos (64 * w.h) ∷ [])
        | Some container ↦ DefiniteFits_to levels tree w container × OwnHeightFits tree w (definite_height_to levels tree w container) container
      ]

      by : (o : Option ℕ) → percentage_container tree at ≡ o → ((c : ℕ) → IsOnPage tree.boxes c → c < levels → DefiniteFits_to levels tree w c) → FitsBy o
      by None e again = (omega (arith, flat), tt)
      by (Some c) e again =
          let i = container-of at c on e in
          let before = i.before in
          let enough : c < levels = omega (arith, before, l) in
          let b = whole-on tree page w small narrow flat c i.on i.whole in (
            again c i.on enough,
            own-fits tree page.low w small c (lengths-of c b i.whole) (definite_height_to levels tree w c)
                (subst (λ (o : Option ℤ). unsigned_abs (unwrap_or o (pos 0)) ≤ 2 ^ 50) (sym (definite-same levels c i.on enough)) (definite-low c b)),
          )

  -- ---- a box that is laid out whole

  pub given-fits : (k : ℕ) → IsOnPage tree.boxes k → IsWhole tree k → GivenFits tree w k
  given-fits k on whole =
      let b = whole-on tree page w small narrow flat k on whole in
      (definite-fits (suc k) k on (omega arith), property-fits tree page.low w small k (lengths-of k b whole) (definite_height tree w k) (definite-low k b))

  pub clamped-fits : (k : ℕ) → IsOnPage tree.boxes k → IsWhole tree k → ClampedFits tree w k (definite_height tree w k)
  clamped-fits k on whole =
      let b = whole-on tree page w small narrow flat k on whole in
      limits-fit tree page.low w small k (lengths-of k b whole) (definite_height tree w k) (definite-low k b)

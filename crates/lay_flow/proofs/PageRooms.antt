-- The width of the containing block of a box of a page is found by terms that fit, from the root down.
use Rattle.std.proofs.Common.{◌≡◌, ◌⊎◌, inl, inr, ℕ, zero, suc, ◌<◌, ◌*◌, ℤ, pos, false, not, ◌||◌, List, [], ◌∷◌, length, slice_get, Contains, IsTrue, Option, Some, None, refl, sym, ap, ◌∙◌, subst, eqb-true, arith}
use Rattle.std.specs.Prelude.{◌==◌}
use Rattle.std.specs.Option.{option_map_or}
use Rattle.viz_base.specs.Trees.{is_fragmented, is_inline, is_leaf}
use Rattle.viz_base.specs.declared.trees.BoxNode.{BoxNode}
use Rattle.viz_base.specs.declared.trees.BoxTree.{BoxTree}
use Rattle.viz_base.specs.declared.trees.Kind.{Kind}
use Rattle.viz_base.specs.declared.trees.Kind.TheVariants as of_kind
use Rattle.viz_base.specs.declared.worlds.World.{World}
use Rattle.viz_calc.specs.State.{AllSmall}
use Rattle.layout_semantics.specs.Blocks.{kind_of, parent_of}
use Rattle.layout_semantics.specs.FlowBoxes.{room_inside, room_to}
use Rattle.layout_semantics.specs.Order.{kids_of, IsOnPage}
use Rattle.layout_semantics.proofs.Forest.{IsKid}
use Rattle.layout_semantics.proofs.Pages.{forest, root-alone, root_place, Each-contains}
use Rattle.layout_laws.proofs.Upward.{HasParent, parent-of}
use Rattle.page_limits.specs.Boxes.{IsWhole}
use Rattle.lay_flow.specs.IndependentFits.{RoomFits}
use Rattle.lay_flow.specs.Fits.{IsShapeFit}

-- what holds a box, and is no inline box, is laid out whole
holder-whole : (tree : BoxTree) (up kid : ℕ) → Contains (kids_of tree.boxes up) kid → is_inline (kind_of tree up) ≡ false → IsWhole tree up
holder-whole tree up kid c e = by (slice_get tree.boxes up) refl c e
  where
    by_kind : (kind : Kind) (ks : List ℕ) → 0 < length ks → IsTrue (not (is_leaf kind) || (length ks == 0)) → is_inline kind ≡ false → is_fragmented kind ≡ false
    by_kind of_kind.Inline ks l t e = absurd (cc)
    by_kind of_kind.Chars ks l t e = absurd (let none = eqb-true (length ks) 0 t in omega (arith, none, l))
    by_kind of_kind.Break ks l t e = absurd (let none = eqb-true (length ks) 0 t in omega (arith, none, l))
    by_kind _ ks l t e = refl

    by : (o : Option BoxNode) → slice_get tree.boxes up ≡ o → Contains (option_map_or (λ (b : BoxNode). b.kids) o []) kid → is_inline (option_map_or (λ (b : BoxNode). b.kind) o of_kind.Block) ≡ false
        → is_fragmented (option_map_or (λ (b : BoxNode). b.kind) o of_kind.Block) ≡ false
    by None f c e = refl
    by (Some x) f c e = let l = c.1 in by_kind x.kind x.kids (omega (arith, l)) (tree.ok.each up x f).leaf e

module _ (tree : BoxTree) (w : World) where
  abbrev within : (ℕ → ℤ) → Option ℕ → ℤ
  within rooms o = option_map_or (λ parent. room_inside tree w parent (rooms parent)) o (pos (64 * w.w))

  -- more levels than boxes before it change nothing
  room-enough : (n m at : ℕ) → IsOnPage tree.boxes at → at < n → at < m → room_to n tree w at ≡ room_to m tree w at
  unfolding room_to
  room-enough zero m at page l k = absurd (omega (arith, l))
  room-enough (suc n) zero at page l k = absurd (omega (arith, k))
  room-enough (suc n) (suc m) at page l k = by (parent-of tree at page) (λ p before on. room-enough n m p on (omega (arith, before, l)) (omega (arith, before, k)))
    where
      by : ((parent_of tree.boxes at ≡ None) ⊎ HasParent tree.boxes at) → ((p : ℕ) → p < at → IsOnPage tree.boxes p → room_to n tree w p ≡ room_to m tree w p)
          → within (room_to n tree w) (parent_of tree.boxes at) ≡ within (room_to m tree w) (parent_of tree.boxes at)
      by (inl e) again = ap (within (room_to n tree w)) e ∙ sym (ap (within (room_to m tree w)) e)
      by (inr h) again =
          ap (within (room_to n tree w)) h.is
          ∙ ap (room_inside tree w h.parent) (again h.parent h.before h.page)
          ∙ sym (ap (within (room_to m tree w)) h.is)

  module _ (width : AllSmall (pos (64 * w.w) ∷ [])) (shape : (k : ℕ) → IsOnPage tree.boxes k → IsWhole tree k → IsShapeFit tree w k (room_to (suc k) tree w k)) where
    pub rooms-fit : (levels b : ℕ) → IsOnPage tree.boxes b → b < levels → RoomFits tree w levels b
    unfolding RoomFits
    rooms-fit zero b on l = absurd (omega (arith, l))
    rooms-fit (suc levels) b (IsOnPage.root _ c) l =
        let e = subst (λ (z : ℕ). parent_of tree.boxes z ≡ None) (root_place tree.boxes b c).0 (root-alone tree) in
        rw e width
    rooms-fit (suc levels) b (IsOnPage.inside up _ on c) l =
        let kid = Each-contains (IsKid tree.boxes up) (kids_of tree.boxes up) b ((forest tree).kids up) c in
        let after = kid.after in
        let before : up < levels = omega (arith, after, l) in
        let e = kid.parent in
        rw e (rooms-fit levels up on before, λ block. subst (IsShapeFit tree w up) (room-enough (suc up) levels up on (omega arith) before) (shape up on (holder-whole tree up b c block)))

-- The width of a box's containing block, from the root down, is that of the band that its container gives.
use Rattle.std.proofs.Common.{◌≡◌, ℕ, zero, suc, ◌*◌, ◌<◌, ℤ, pos, Bool, false, Option, None, Contains, cond, sym, ap, ◌∙◌, subst, arith}
use Rattle.std.specs.Option.{option_map_or}
use Rattle.std.proofs.lemmas.Int.{ints}
use Rattle.viz_base.specs.Trees.{is_inline}
use Rattle.viz_base.specs.declared.layouts.Band.{Band}
use Rattle.viz_base.specs.declared.trees.BoxTree.{BoxTree}
use Rattle.viz_base.specs.declared.worlds.World.{World}
use Rattle.layout_semantics.specs.Order.{kids_of, roots, IsOnPage}
use Rattle.layout_semantics.specs.Blocks.{kind_of, parent_of}
use Rattle.layout_semantics.specs.Horizontal.{widths}
use Rattle.layout_semantics.specs.FlowBoxes.{inline_size, content_band, room_inside, room_to, room}
use Rattle.layout_semantics.proofs.Forest.{IsKid}
use Rattle.layout_semantics.proofs.Pages.{forest, root-alone, root_place, Each-contains}

module _ (tree : BoxTree) (w : World) where
  abbrev within : (ℕ → ℤ) → Option ℕ → ℤ
  within rooms o = option_map_or (λ parent. room_inside tree w parent (rooms parent)) o (pos (64 * w.w))

  is_kid : (up kid : ℕ) → Contains (kids_of tree.boxes up) kid → IsKid tree.boxes up kid
  is_kid up kid c = Each-contains (IsKid tree.boxes up) (kids_of tree.boxes up) kid ((forest tree).kids up) c

  root-room : (n at : ℕ) → Contains (roots tree.boxes) at → room_to (suc n) tree w at ≡ pos (64 * w.w)
  unfolding room_to
  root-room n at c = ap (within (room_to n tree w)) (subst (λ z. parent_of tree.boxes z ≡ None) (root_place tree.boxes at c).0 (root-alone tree))

  kid-room : (n up kid : ℕ) → IsKid tree.boxes up kid → room_to (suc n) tree w kid ≡ room_inside tree w up (room_to n tree w up)
  unfolding room_to
  kid-room n up kid k = ap (within (room_to n tree w)) k.parent

  room-enough : (n m at : ℕ) → IsOnPage tree.boxes at → at < n → at < m → room_to n tree w at ≡ room_to m tree w at
  room-enough zero m at page l k = absurd (omega arith)
  room-enough (suc n) zero at page l k = absurd (omega arith)
  room-enough (suc n) (suc m) at (IsOnPage.root _ c) l k = root-room n at c ∙ sym (root-room m at c)
  room-enough (suc n) (suc m) at (IsOnPage.inside up _ page c) l k =
      let kid = is_kid up at c in
      let after = kid.after in
      kid-room n up at kid ∙ (ap (room_inside tree w up) (room-enough n m up page (omega arith) (omega arith)) ∙ sym (kid-room m up at kid))

  pub room-by-parent : (up kid : ℕ) → IsOnPage tree.boxes up → Contains (kids_of tree.boxes up) kid → room tree w kid ≡ room_inside tree w up (room tree w up)
  room-by-parent up kid page c =
      let k = is_kid up kid c in
      let after = k.after in
      kid-room kid up kid k ∙ ap (room_inside tree w up) (room-enough kid (suc up) up page (omega arith) (omega arith))

  band-inline_size : (cb : Band ℤ) (b : ℕ) → inline_size (content_band tree w cb b) ≡ (widths tree w b (inline_size cb)).content
  band-inline_size cb b = let x = widths tree w b (inline_size cb) in omega (arith, ints)

  pub band-room : (cb : Band ℤ) (up kid : ℕ) → IsOnPage tree.boxes up → Contains (kids_of tree.boxes up) kid → is_inline (kind_of tree up) ≡ false → inline_size cb ≡ room tree w up
      → inline_size (content_band tree w cb up) ≡ room tree w kid
  band-room cb up kid page c inline e =
      band-inline_size cb up
      ∙ (ap (λ (around : ℤ). (widths tree w up around).content) e
      ∙ sym (room-by-parent up kid page c ∙ ap (λ (b : Bool). cond b (room tree w up) (widths tree w up (room tree w up)).content) inline))

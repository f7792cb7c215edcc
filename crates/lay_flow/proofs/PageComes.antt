-- On a page whose boxes fit, so does all that is computed of it: of what stands outside its flow, from the last box on, and of its root.
use Rattle.std.proofs.Common.{◌≡◌, ℕ, zero, suc, ◌-◌, ◌^◌, ◌<◌, ◌≤◌, ℤ, Bool, true, false, List, [], ◌∷◌, length, Option, refl, subst, arith}
use Rattle.std.specs.List.{AllByRecursion}
use Rattle.viz_base.specs.Trees.{is_inline}
use Rattle.viz_base.specs.declared.trees.BoxTree.{BoxTree}
use Rattle.viz_base.specs.declared.worlds.World.{World}
use Rattle.layout_semantics.specs.Blocks.{kind_of}
use Rattle.layout_semantics.specs.Flow.{Independent}
use Rattle.layout_semantics.proofs.Pages.{all-on-page, within-page}
use Rattle.lay_steps.specs.Tables.{laid_at, outside_of}
use Rattle.lay_steps.proofs.InOrder.{root_no_inline}
use Rattle.page_limits.proofs.PageWithin.{IsApart, outside-good}
use Rattle.page_limits.proofs.WholePage.{root-room}
use Rattle.lay_flow.specs.IndependentFits.{IndependentFits, BoxAddedFits, BoxesAddedFit, ContainerFits, PageComesFit}
use Rattle.lay_flow.proofs.PageFits.{IsPageFit}
use Rattle.lay_steps.specs.Tables.{with_box, with_boxes, with_container, table_to}
use Rattle.lay_flow.proofs.AlonesFit.{independent-fits}
use Rattle.lay_flow.proofs.PageRooms.{rooms-fit}
use Rattle.lay_flow.proofs.TablesWithin.{IsBounded, boxes-small, fine, lines-small, one-bounded, none-bounded}

module _ (tree : BoxTree) (w : World) (page : IsPageFit tree w) where
  abbrev Bounded : List (Option Independent) → Type 0
  Bounded table = IsBounded tree w page table

  -- what stands outside the flow of a box is behind it, in a containing block as wide as the tree says, and laid out whole
  abbrev IsOutside : ℕ → ℕ → Type 0
  IsOutside c k = IsApart tree w (2 ^ 42) (fine tree w page) (boxes-small tree w page) (lines-small tree w page) c k

  box-added : (table : List (Option Independent)) (c k : ℕ) → Bounded table → IsOutside c k → BoxAddedFits tree w table k
  box-added table c k t o = record {
    around = rooms-fit tree w page.width (λ j p q. (page.each j p q).shape) (suc k) k o.1.0.page (omega arith);
    own = independent-fits tree w page (laid_at table) t.boxes k (within-page tree k o.1.0.page) o.1.0 o.1.1;
  }

  boxes-added : (c : ℕ) (ks : List ℕ) (table : List (Option Independent)) → Bounded table → AllByRecursion (IsOutside c) ks → BoxesAddedFit tree w table ks × Bounded (with_boxes tree w table ks)
  boxes-added c [] table t a = (tt, t)
  boxes-added c (k ∷ ks) table t a =
      let o = a.0 in
      let rest = boxes-added c ks (with_box tree w table k) (one-bounded tree w page table k t (within-page tree k o.1.0.page) o.1.0 o.1.1) a.1 in
      ((box-added table c k t o, rest.0), rest.1)

  container-added : (b : ℕ) (table : List (Option Independent)) → b < length tree.boxes → Bounded table → ContainerFits tree w table b × Bounded (with_container tree w table b)
  unfolding with_container
  container-added b table l t = (λ e. (both e).0, by (is_inline (kind_of tree b)) refl)
    where
      both : is_inline (kind_of tree b) ≡ false → BoxesAddedFit tree w table (outside_of tree b) × Bounded (with_boxes tree w table (outside_of tree b))
      both e = boxes-added b (outside_of tree b) table t (outside-good tree w (2 ^ 42) (fine tree w page) (boxes-small tree w page) (lines-small tree w page) b (record { page = all-on-page tree b l; room = refl; block = e }))

      by : (x : Bool) → is_inline (kind_of tree b) ≡ x → Bounded (elim x as (λ _. List (Option Independent)) [ true ↦ table | false ↦ with_boxes tree w table (outside_of tree b) ])
      by true e = t
      by false e = (both e).1

  tables-bounded : (done : ℕ) → done ≤ length tree.boxes → Bounded (table_to tree w done)
  unfolding table_to
  tables-bounded zero l = none-bounded tree w page
  tables-bounded (suc done) l = (container-added (length tree.boxes - suc done) (table_to tree w done) (omega (arith, l)) (tables-bounded done (omega (arith, l)))).1

pub page-comes-fit : (tree : BoxTree) (w : World) → IsPageFit tree w → PageComesFit tree w
page-comes-fit tree w page = record {
  table = λ done l. (container-added tree w page (length tree.boxes - suc done) (table_to tree w done) (omega (arith, l)) (tables-bounded tree w page done (omega (arith, l)))).0;
  width = page.width;
  root = λ some.
      subst (λ (z : ℤ). IndependentFits tree w (laid_at (table_to tree w (length tree.boxes))) 0 z) (root-room tree w page.root page.boxes page.lines page.raises)
      (independent-fits tree w page (laid_at (table_to tree w (length tree.boxes))) (tables-bounded tree w page (length tree.boxes) (omega arith)).boxes
      0 some (record { page = all-on-page tree 0 some; room = refl; block = root_no_inline tree }) page.root);
}

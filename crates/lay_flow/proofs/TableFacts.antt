-- Tables of boxes outside the flow, at a reading.
use Rattle.std.proofs.Common.{◌≡◌, ℕ, zero, suc, ◌<◌, ◌*◌, ℤ, pos, List, ◌∷◌, length, set, replicate, Option, Some, None, refl, ap, ◌∙◌}
use Rattle.std.proofs.lemmas.List.{map-set}
use Rattle.viz_base.specs.declared.trees.BoxTree.{BoxTree}
use Rattle.viz_base.specs.declared.worlds.World.{World}
use Rattle.viz_calc.specs.World.{Reading}
use Rattle.layout_semantics.specs.Flow.{Independent}
use Rattle.layout_semantics.specs.FlowBoxes.{room_to}
use Rattle.lay_frame.specs.Readings.{boxes_at}
use Rattle.lay_flow.specs.declared.parts.Independent.{Independent as IndependentBox}
use Rattle.lay_flow.specs.Readings.{independent_at, apart_at, table_at}
use Rattle.lay_steps.specs.Flow.{independent_of}
use Rattle.lay_steps.specs.Tables.{laid_at, with_box, table_to, page_boxes}
use Rattle.lay_steps.proofs.Tables.{root-boxes}

-- ---- tables at a reading

module _ {N : Type 0} (at : N → Reading → ℤ) (e : Reading) where
  abbrev kept_at : Option (IndependentBox N) → Option Independent
  kept_at o = elim o as (λ _. Option Independent) [ None ↦ None | Some a ↦ Some (independent_at at a e) ]

  pub table-set : (old new : List (Option (IndependentBox N))) (k : ℕ) (a : IndependentBox N) → new ≡ set old k (Some a) → table_at at new e ≡ set (table_at at old e) k (Some (independent_at at a e))
  table-set old new k a is = ap (λ (t : List (Option (IndependentBox N))). table_at at t e) is ∙ map-set kept_at old k (Some a)

  -- with a box more, laid out by those before in so wide a containing block
  pub box-added : (tree : BoxTree) (w : World) (old new apart : List (Option (IndependentBox N))) (k levels : ℕ) (a : IndependentBox N) (wide : ℤ) → new ≡ set old k (Some a) → apart ≡ old
      → independent_at at a e ≡ independent_of tree w (apart_at at apart e) k wide → levels ≡ suc k → wide ≡ room_to levels tree w k
      → table_at at new e ≡ with_box tree w (table_at at old e) k
  unfolding with_box apart_at
  box-added tree w old new apart k levels a wide is same laid all own =
      table-set old new k a is
      ∙ ap (λ (x : Independent). set (table_at at old e) k (Some x))
      (laid
      ∙ ap (λ (t : List (Option (IndependentBox N))). independent_of tree w (laid_at (table_at at t e)) k wide) same
      ∙ ap (independent_of tree w (laid_at (table_at at old e)) k) (own ∙ ap (λ (n : ℕ). room_to n tree w k) all))

  -- the boxes of a page, by the table of all that stands outside its flow
  pub page-laid : (tree : BoxTree) (w : World) (apart places : List (Option (IndependentBox N))) (a : IndependentBox N) (wide : ℤ) → 0 < length tree.boxes → apart ≡ places
      → independent_at at a e ≡ independent_of tree w (apart_at at apart e) 0 wide → wide ≡ pos (64 * w.w) → table_at at places e ≡ table_to tree w (length tree.boxes)
      → boxes_at at a.boxes.items e ≡ page_boxes tree w
  unfolding apart_at
  page-laid tree w apart places a wide some same laid own all =
      ap (λ (x : Independent). x.boxes)
      (laid
      ∙ ap (λ (t : List (Option (IndependentBox N))). independent_of tree w (laid_at (table_at at t e)) 0 wide) same
      ∙ ap (λ (t : List (Option Independent)). independent_of tree w (laid_at t) 0 wide) all
      ∙ ap (independent_of tree w (laid_at (table_to tree w (length tree.boxes))) 0) own)
      ∙ root-boxes tree w some

  pub table-none : (n : ℕ) (t : List (Option (IndependentBox N))) → t ≡ replicate n None → table_at at t e ≡ replicate n None
  table-none n t is = ap (λ (t : List (Option (IndependentBox N))). table_at at t e) is ∙ by n
    where
      by : (n : ℕ) → table_at at (replicate n None) e ≡ replicate n None
      by zero = refl
      by (suc n) = ap (λ (l : List (Option Independent)). None ∷ l) (by n)

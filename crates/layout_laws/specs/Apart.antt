-- Blocks between anonymous block boxes.
use Rattle.std.specs.Prelude.{◌≡◌, ℕ, ◌<◌, true, false, List, Contains, slice_get, Some}
use Rattle.viz_base.specs.Trees.{is_anon, is_floated}
use Rattle.viz_base.specs.declared.styles.Style.{Style}
use Rattle.viz_base.specs.declared.trees.BoxNode.{BoxNode}

-- a block-level box in normal flow, not anonymous, stands among some boxes between two places
pub record IsBlockBetween (styles : List Style) (boxes : List BoxNode) (kids : List ℕ) (low high : ℕ) : Type 0 where
  pub place : ℕ
  pub box : BoxNode
  pub inside : Contains kids place
  pub is : slice_get boxes place ≡ Some box
  pub above : low < place
  pub below : place < high
  pub block : box.block_level ≡ true
  pub not_anonymous : is_anon box.kind ≡ false
  pub not_floated : is_floated styles box ≡ false

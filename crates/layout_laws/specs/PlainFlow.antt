-- Normal flow of blocks without floats and clearance: the margins that adjoin (CSS 2.1, 8.3.1, 9.4.1).
use Rattle.std.specs.Prelude.{◌≡◌, ℕ, zero, suc, ℤ, Bool, true, false, ◌&&◌, List, [], ◌∷◌, ◌++◌, length, fold, slice_get, Some}
use Rattle.std.specs.List.{list_all}
use Rattle.viz_base.specs.declared.layouts.Band.{Band}
use Rattle.viz_base.specs.declared.styles.Clear.TheVariants as of_clear
use Rattle.viz_base.specs.declared.trees.BoxTree.{BoxTree}
use Rattle.viz_base.specs.declared.worlds.World.{World}
use Rattle.viz_base.specs.declared.renderings.Placed.{Placed}
use Rattle.layout_semantics.specs.Order.{kids_of, page_order}
use Rattle.layout_semantics.specs.Page.{page_rendering}
use Rattle.layout_semantics.specs.FlowBoxes.{clear_of, may_collapse_through, joins_last_child, content_band}
use Rattle.layout_semantics.specs.InlineContent.{is_floated_at, is_inline_level_at}
use Rattle.layout_semantics.specs.Leads.{all_passed, lead, bottom_margin}

-- the content of an entry from its left to its right edge: the containing block of the blocks in it (10.1)
abbrev pub content_of : Placed ℤ → Band ℤ
content_of p = record { left = p.content.left; right = p.content.right }

-- an entry of a page at its box's place in document order
pub record IsEntryOf (tree : BoxTree) (w : World) (b : ℕ) (p : Placed ℤ) : Type 0 where
  pub place : ℕ
  pub box : slice_get (page_order tree.boxes) place ≡ Some b
  pub entry : slice_get (page_rendering tree w).boxes place ≡ Some p

-- no box is inline-level, none floats, and none is cleared or placed as if it were (9.5.2)
pub record HasPlainBlocks (tree : BoxTree) : Type 0 where
  pub no_inline : (b : ℕ) → is_inline_level_at tree b ≡ false
  pub no_float : (b : ℕ) → is_floated_at tree b ≡ false
  pub no_clear : (b : ℕ) → clear_of tree b ≡ of_clear.Nothing

module _ (tree : BoxTree) (w : World) where
  -- the margins that adjoin a block's top: its own, and those of its first children that do (8.3.1)
  abbrev pub leading : Band ℤ → ℕ → List ℤ
  leading cb b = (lead tree w all_passed cb b).margins

  -- all margins of a block whose own top and bottom margins adjoin
  abbrev pub all_margins : Band ℤ → ℕ → List ℤ
  all_margins cb b = leading cb b ++ bottom_margin tree w cb b ∷ []

  -- a block collapses through where nothing of its own parts its top and
  -- bottom margins, and all of its children do, down to so many levels
  unfoldable pub collapses_to : ℕ → ℕ → Bool
  collapses_to zero b = false
  collapses_to (suc levels) b = may_collapse_through tree b && list_all (collapses_to levels) (kids_of tree.boxes b)

  -- a page has no more levels than boxes
  abbrev pub collapses : ℕ → Bool
  collapses b = collapses_to (length tree.boxes) b

  -- the margins after a block's children so far, and then after one more: those of one
  -- that collapses through join them, and any other has its own at its bottom
  abbrev pub after_child : (Band ℤ → ℕ → List ℤ) → Band ℤ → List ℤ → ℕ → List ℤ
  after_child trailing cb run k = by_sort (collapses k)
    where
      by_sort : Bool → List ℤ
      by_sort true = run ++ all_margins cb k
      by_sort false = trailing cb k

  -- the margins that adjoin the bottom of a block that does not collapse through: those
  -- of its last children, where its own bottom margin joins them, and its own
  abbrev pub trailing_step : (Band ℤ → ℕ → List ℤ) → Band ℤ → ℕ → List ℤ
  trailing_step trailing cb b = by_sort (joins_last_child tree b)
    where
      by_sort : Bool → List ℤ
      by_sort true = fold (after_child trailing (content_band tree w cb b)) [] (kids_of tree.boxes b)
          ++ bottom_margin tree w cb b ∷ []
      by_sort false = bottom_margin tree w cb b ∷ []

  unfoldable pub trailing_to : ℕ → Band ℤ → ℕ → List ℤ
  trailing_to zero cb b = []
  trailing_to (suc levels) cb b = trailing_step (trailing_to levels) cb b

  abbrev pub trailing : Band ℤ → ℕ → List ℤ
  trailing cb b = trailing_to (length tree.boxes) cb b

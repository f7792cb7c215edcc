use Rattle.std.specs.Prelude.{◌≡◌, ℕ, ◌≤◌, List, length, Option, None, IsTrue}
use Rattle.viz_base.specs.declared.limits.TheConstants.{MOST_BOXES, MOST_LAID_CHARACTERS, MOST_PIXELS, MOST_SIZE}
use Rattle.viz_base.specs.Trees.{character_count}
use Rattle.viz_base.specs.declared.worlds.Rect.{Rect}
use Rattle.viz_base.specs.declared.fonts.Font.{Font}
use Rattle.viz_base.specs.declared.styles.Style.{Style}
use Rattle.viz_base.specs.declared.trees.BoxNode.{BoxNode}
use Rattle.viz_base.specs.declared.formulas.Formula.{Formula}
use Rattle.viz_base.specs.Worlds.{world_count}
use Rattle.viz_base.specs.Formulas.{is_bound_in, has_small_terms}
use Rattle.viz_base.specs.Reaches.{beyond_reach}

-- widths and heights are 1 to 16,384 pixels and default font sizes 1 to 256, and there are not too many worlds
pub record IsRange (range : Rect) : Type 0 where
  pub width_least : 1 ≤ range.wl
  pub widths : range.wl ≤ range.wh
  pub width_most : range.wh ≤ MOST_PIXELS
  pub size_least : 1 ≤ range.sl
  pub sizes : range.sl ≤ range.sh
  pub size_most : range.sh ≤ MOST_SIZE
  pub height_least : 1 ≤ range.hl
  pub heights : range.hl ≤ range.hh
  pub height_most : range.hh ≤ MOST_PIXELS
  pub worlds : world_count range ≤ 4194304

-- a job is of form 1, with one height of the viewport, or of form 2, with a range of heights
pub record IsFormed (form : ℕ) (range : Rect) : Type 0 where
  pub least : 1 ≤ form
  pub most : form ≤ 2
  pub one_height : form ≡ 1 → range.hl ≡ range.hh

-- the facts that a job keeps
pub record IsJob (form : ℕ) (range : Rect) (boxes : List BoxNode) (styles : List Style) (fonts : List Font)
    (parents : List (Option ℕ))
    (formula : Formula) : Type 0 where
  pub formed : IsFormed form range
  pub in_range : IsRange range
  pub few_boxes : length boxes ≤ MOST_BOXES
  pub few_characters : character_count boxes ≤ MOST_LAID_CHARACTERS
  -- no box reaches further than 2^40 units
  pub reach : beyond_reach styles parents fonts boxes ≡ None
  pub bound : IsTrue (is_bound_in formula 0)
  pub small_terms : IsTrue (has_small_terms formula)

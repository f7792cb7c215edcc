-- The margins that adjoin the top of a box, going forward (CSS 2.1, 8.3.1). Where floats, clearance and margins that
-- collapse through meet, the standard leaves much open, and this is our own reading of 8.3.1 and 9.5.2.
use Rattle.std.specs.Prelude.{ℕ, zero, suc, ℤ, Bool, true, false, not, ◌&&◌, nat_le, List, [], ◌∷◌, ◌++◌, length}
use Rattle.viz_base.specs.declared.layouts.Band.{Band}
use Rattle.viz_base.specs.declared.layouts.LeadEnd.{LeadEnd}
use Rattle.viz_base.specs.declared.layouts.LeadEnd.TheVariants as of_end
use Rattle.viz_base.specs.declared.layouts.Waiting.{Waiting}
use Rattle.viz_base.specs.declared.styles.Clear.{Clear}
use Rattle.viz_base.specs.declared.styles.Clear.TheVariants as of_clear
use Rattle.viz_base.specs.declared.trees.BoxTree.{BoxTree}
use Rattle.viz_base.specs.declared.worlds.World.{World}
use Rattle.layout_semantics.specs.Verticals.{verticals}
use Rattle.layout_semantics.specs.FlowBoxes.{clear_of, is_open_above, may_collapse_through, flow_children, inline_size, block_band}
use Rattle.layout_semantics.specs.InlineContent.{is_floated_at, has_line}

-- the margins, the floats between them with their containing blocks, where
-- they end, and the containing block of the box at which they end
pub record Leading : Type 0 where
  pub margins : List ℤ
  pub waiting : List (Waiting ℤ)
  pub end : LeadEnd
  pub cb : Band ℤ

-- ---- boxes that count as not cleared

-- a box that stands at or before another in document order, in which the boxes of a tree are numbered
abbrev pub is_up_to : ℕ → ℕ → Bool
is_up_to past b = nat_le b past

abbrev pub none_passed : ℕ → Bool
none_passed b = false

abbrev pub all_passed : ℕ → Bool
all_passed b = true

-- ---- leads

abbrev pub clears_something : Clear → Bool
clears_something of_clear.Nothing = false
clears_something _ = true

module _ (tree : BoxTree) (w : World) where
  abbrev pub top_margin : Band ℤ → ℕ → ℤ
  top_margin cb b = (verticals tree w b (inline_size cb)).margin_top

  abbrev pub bottom_margin : Band ℤ → ℕ → ℤ
  bottom_margin cb b = (verticals tree w b (inline_size cb)).margin_bottom

  -- this before the rest, which goes on only where this goes through
  abbrev pub followed_by : Leading → Leading → Leading
  followed_by first rest = by_end first.end
    where
      by_end : LeadEnd → Leading
      by_end of_end.Through =
          record {
            margins = first.margins ++ rest.margins;
            waiting = first.waiting ++ rest.waiting;
            end = rest.end;
            cb = rest.cb;
          }
      by_end _ = first

  -- margins that go on
  abbrev pub through : Band ℤ → List ℤ → Leading
  through cb margins = record { margins = margins; waiting = []; end = of_end.Through; cb = cb }

  -- a float waits; any other child adds its own lead, and its bottom margin where that goes through
  abbrev pub child_lead : (ℕ → Leading) → Band ℤ → ℕ → Leading
  child_lead lead cb k = by_sort (is_floated_at tree k)
    where
      by_sort : Bool → Leading
      by_sort true = record { margins = []; waiting = record { at = k; cb = cb } ∷ []; end = of_end.Through; cb = cb }
      by_sort false = followed_by (lead k) (through cb (bottom_margin cb k ∷ []))

  abbrev pub children_lead : (ℕ → Leading) → Band ℤ → List ℕ → Leading
  children_lead lead cb [] = through cb []
  children_lead lead cb (k ∷ ks) = followed_by (child_lead lead cb k) (children_lead lead cb ks)

  -- a box stops the lead where it is cleared; else its top margin belongs to it, and its children's leads follow where
  -- nothing parts them; after them it is the box itself that stops, unless its own top and bottom margins adjoin
  abbrev pub lead_step : (Band ℤ → ℕ → Leading) → (ℕ → Bool) → Band ℤ → ℕ → Leading
  lead_step lead passed cb b = by_clear (clears_something (clear_of tree b) && not (passed b))
    where
      stop : LeadEnd → List ℤ → Leading
      stop end margins = record { margins = margins; waiting = []; end = end; cb = cb }

      last : Bool → Leading
      last true = through cb []
      last false = stop (of_end.Solid b) []

      children : Band ℤ → Leading
      children band = children_lead (lead band) band (flow_children tree b)

      by_top : Bool → Leading
      by_top false = stop (of_end.Solid b) (top_margin cb b ∷ [])
      by_top true = followed_by (through cb (top_margin cb b ∷ []))
          (followed_by (children (block_band tree w cb b)) (last (may_collapse_through tree b)))

      by_clear : Bool → Leading
      by_clear true = stop (of_end.Cleared b) []
      by_clear false = by_top (is_open_above tree b && not (has_line tree b))

  -- down to so many levels
  unfoldable pub lead_to : ℕ → (ℕ → Bool) → Band ℤ → ℕ → Leading
  lead_to zero passed cb b = through cb []
  lead_to (suc levels) passed cb b = lead_step (lead_to levels passed) passed cb b

  -- the lead of a box, where the boxes that pass the test count as not cleared; its own bottom margin is not in it
  abbrev pub lead : (ℕ → Bool) → Band ℤ → ℕ → Leading
  lead passed cb b = lead_to (length tree.boxes) passed cb b

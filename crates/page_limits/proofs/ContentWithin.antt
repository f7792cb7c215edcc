-- What is in a box stays within bounds, its lines or its children, all the way down.
use Rattle.std.proofs.Common.{◌≡◌, ℕ, zero, suc, ◌*◌, ◌<◌, ◌≤◌, ℤ, Bool, true, false, List, [], ◌∷◌, ◌++◌, fold, flat_map, cond, length, Option, Some, None, refl, sym, subst}
use Rattle.std.specs.Prelude.{unwrap_or}
use Rattle.std.specs.List.{AllByRecursion}
use Rattle.std.specs.Option.{option_to_list}
use Rattle.viz_base.specs.Trees.{is_line}
use Rattle.viz_base.specs.declared.layouts.Band.{Band}
use Rattle.viz_base.specs.declared.layouts.Entry.{Entry}
use Rattle.viz_base.specs.declared.layouts.Entry.TheVariants as of_entry
use Rattle.viz_base.specs.declared.trees.BoxTree.{BoxTree}
use Rattle.viz_base.specs.declared.worlds.World.{World}
use Rattle.viz_base.proofs.ListLemmas.{all_append}
use Rattle.layout_semantics.specs.Flow.{Independent, raised}
use Rattle.layout_semantics.specs.FlowBoxes.{flow_children, content_from}
use Rattle.layout_semantics.specs.Horizontal.{widths}
use Rattle.layout_semantics.specs.InlineContent.{has_line}
use Rattle.layout_semantics.specs.LineHeights.{InlineContext}
use Rattle.layout_semantics.specs.Lines.{lines_in}
use Rattle.layout_semantics.specs.Order.{IsOnPage}
use Rattle.layout_laws.proofs.Levels.{IsFrom, All-implied}
use Rattle.layout_laws.proofs.LeadLevels.{children-from}
use Rattle.lay_steps.specs.Flow.{Context, Step, Standing, at_top, below, inner_table, entry_of, line_tops, lines_of, in_lines, content_step, content_to, children, child}
use Rattle.lay_steps.proofs.Sound.{IsSound, flow-sound}
use Rattle.lay_steps.proofs.StepCases.{step-lines, step-children}
use Rattle.page_limits.specs.Bounds.{Bounds, grown, IsLevelIn, IsBandIn, IsPlacedIn}
use Rattle.page_limits.specs.Inline.{IsContentSmall, IsEntryIn, AreLinesIn}
use Rattle.page_limits.specs.Boxes.{IsWhole, IsBoxSmall, IsIndependentIn}
use Rattle.page_limits.specs.Rises.{content_rise}
use Rattle.page_limits.proofs.Levels.{inside-grown}
use Rattle.page_limits.proofs.LinesWithin.{levels-wider, lines-within}
use Rattle.page_limits.proofs.Rising.{rise-of-lines, rise-of-kids}
use Rattle.page_limits.proofs.Ahead.{behind}
use Rattle.page_limits.proofs.BoxesWithin.{boxes-put, raised-in, none-low}
use Rattle.page_limits.proofs.FlowWithin.{IsStandingIn, IsContextIn, IsStepIn, context-wider, children-in}

module _ (tree : BoxTree) (w : World) (own turned : ℕ → Bounds) (s t : ℕ) (fine : 8 * t ≤ s)
    (boxes : (k : ℕ) → IsOnPage tree.boxes k → IsWhole tree k → IsBoxSmall tree w t k) (apart : ℕ → Independent) (independent_in : (k : ℕ) → IsIndependentIn (own k) s (apart k)) where
  abbrev IsStep : Bounds → List ℕ → Step → Type 0
  IsStep b ks q = IsStepIn tree w own turned s t fine boxes apart independent_in b ks q

  abbrev IsContext : Bounds → List ℕ → Context → Type 0
  IsContext b ks c = IsContextIn tree w own turned s t fine boxes apart independent_in b ks c

  -- the inline content of a box in so wide a containing block
  abbrev pub line_context : ℕ → ℤ → ℤ → InlineContext
  line_context k left wide = record {
    tree = tree;
    world = w;
    container = k;
    inner = inner_table tree w apart k;
    cb = content_from left (widths tree w k wide);
  }

  entries-placed : (b : Bounds) (es : List (Entry ℤ)) → AllByRecursion (IsEntryIn own b) es → AllByRecursion (IsPlacedIn b) (flat_map (entry_of tree w apart) es)
  unfolding entry_of
  entries-placed b [] a = tt
  entries-placed b (of_entry.Here p ∷ es) a = (a.0, entries-placed b es a.1)
  entries-placed b (of_entry.Goes k at ∷ es) a =
      all_append (IsPlacedIn b) (entry_of tree w apart (of_entry.Goes k at)) (flat_map (entry_of tree w apart) es) (boxes-put b (own k) at (apart k).boxes a.0 (independent_in k).boxes) (entries-placed b es a.1)

  tops-in : (b : Bounds) (es : List (Entry ℤ)) → AllByRecursion (IsEntryIn own b) es → AllByRecursion (IsLevelIn b) (flat_map line_tops es)
  tops-in b [] a = tt
  tops-in b (of_entry.Goes k at ∷ es) a = tops-in b es a.1
  tops-in b (of_entry.Here p ∷ es) a = by (is_line p.kind) (tops-in b es a.1)
    where
      by : (l : Bool) → AllByRecursion (IsLevelIn b) (flat_map line_tops es) → AllByRecursion (IsLevelIn b) (cond l (p.margin.top ∷ []) [] ++ flat_map line_tops es)
      by true rest = ((a.0).margin.top, rest)
      by false rest = rest

  raises-in : (b : Bounds) (least : Option ℤ) (ys : List ℤ) → AllByRecursion (IsLevelIn b) (option_to_list least) → AllByRecursion (IsLevelIn b) ys → AllByRecursion (IsLevelIn b) (option_to_list (fold raised least ys))
  raises-in b least [] l a = l
  raises-in b least (y ∷ ys) l a = raises-in b (raised least y) ys (raised-in b least y l a.0) a.1

  -- where the lines of each box are small
  module _ (lines_small : (k : ℕ) (left wide : ℤ) → IsSound tree w k wide → has_line tree k ≡ true → IsContentSmall (line_context k left wide) own turned s) where
    abbrev pub IsInside : ℕ → ℕ → Type 0
    IsInside n k = (b : Bounds) (left wide top : ℤ) (c : Context) → IsSound tree w k wide → k < length tree.boxes → IsBandIn b (content_from left (widths tree w k wide)) → IsLevelIn b top → IsContext b (flow_children tree k) c
        → IsStep (grown b (content_rise tree own turned s k)) [] (content_to tree w apart n k (content_from left (widths tree w k wide)) top c)

    pub first-least : (b : Bounds) (least : Option ℤ) (top : ℤ) → AllByRecursion (IsLevelIn b) (option_to_list least) → IsLevelIn b top → IsLevelIn b (unwrap_or least top)
    first-least b None top a l = l
    first-least b (Some y) top a l = a.0

    pub lines-in-bounds : (k : ℕ) (b : Bounds) (left wide top : ℤ) (c : Context) → IsSound tree w k wide → k < length tree.boxes → has_line tree k ≡ true → IsBandIn b (content_from left (widths tree w k wide)) → IsLevelIn b top
        → IsContext b (flow_children tree k) c → AreLinesIn own (grown b (content_rise tree own turned s k)) (lines_of tree w apart k (content_from left (widths tree w k wide)) top c)
    unfolding lines_of
    lines-in-bounds k b left wide top c i l e band at h =
        let x = line_context k left wide in
        subst (λ (r : Bounds). AreLinesIn own (grown b r) (lines_in x top (unwrap_or c.least top) c.floats)) (sym (rise-of-lines tree own turned s k l e))
        (lines-within x own turned s (lines_small k left wide i e) b top (unwrap_or c.least top) c.floats band (at, (first-least b c.least top h.least at, tt)) h.floats)

    lines-step : (k : ℕ) (b : Bounds) (left wide top : ℤ) (c : Context) → IsSound tree w k wide → k < length tree.boxes → has_line tree k ≡ true → IsBandIn b (content_from left (widths tree w k wide)) → IsLevelIn b top
        → IsContext b (flow_children tree k) c → IsStep (grown b (content_rise tree own turned s k)) [] (in_lines tree w apart k (content_from left (widths tree w k wide)) top c)
    unfolding in_lines
    lines-step k b left wide top c i l e band at h =
        let most = grown b (content_rise tree own turned s k) in
        let all = lines-in-bounds k b left wide top c i l e band at h in
        let lines = lines_of tree w apart k (content_from left (widths tree w k wide)) top c in
        record {
          context = record {
            standing = (all.bottom, none-low s);
            floats = all.floats;
            least = raises-in most c.least (flat_map line_tops lines.entries) (levels-wider b most (option_to_list c.least) (inside-grown b (content_rise tree own turned s k)) h.least) (tops-in most lines.entries all.entries);
            baseline = all.baseline;
          };
          placed = entries-placed most lines.entries all.entries;
        }

    pub content-in : (n k : ℕ) → IsInside n k
    unfolding content_to
    content-in zero k b left wide top c i l band at h = record { context = context-wider tree w own turned s t fine boxes apart independent_in b (grown b (content_rise tree own turned s k)) [] c (inside-grown b (content_rise tree own turned s k)) (none-next b c h); placed = tt }
      where
        none-next : (b : Bounds) (c : Context) → IsContext b (flow_children tree k) c → IsContext b [] c
        none-next b c h = record { standing = by c.standing h.standing; floats = h.floats; least = h.least; baseline = h.baseline }
          where
            by : (st : Standing) → IsStandingIn tree w own turned s t fine boxes apart independent_in b (flow_children tree k) st → IsStandingIn tree w own turned s t fine boxes apart independent_in b [] st
            by (at_top y None) q = (q.0, tt)
            by (at_top y (Some d)) q = (q.0, behind tt)
            by (below edge run stuck) q = q
    content-in (suc n) k b left wide top c i l band at h = by (has_line tree k) refl (λ j. content-in n j)
      where
        cb : Band ℤ
        cb = content_from left (widths tree w k wide)

        by : (t : Bool) → has_line tree k ≡ t → ((j : ℕ) → IsInside n j) → IsStep (grown b (content_rise tree own turned s k)) [] (content_step tree w (content_to tree w apart n) apart k cb top c)
        by true e again = subst (IsStep (grown b (content_rise tree own turned s k)) []) (sym (step-lines tree w (content_to tree w apart n) apart cb top c k e)) (lines-step k b left wide top c i l e band at h)
        by false e again =
            subst (IsStep (grown b (content_rise tree own turned s k)) []) (sym (step-children tree w (content_to tree w apart n) apart cb top c k e))
            (subst (λ (r : Bounds). IsStep (grown b r) [] (children (child tree w (content_to tree w apart n) apart cb top) c (flow_children tree k))) (sym (rise-of-kids tree own turned s k l e))
            (children-in tree w own turned s t fine boxes apart independent_in (content_to tree w apart n) b cb top c (flow_children tree k)
            (All-implied (IsFrom tree.boxes (suc k)) (λ j. IsInside n j) (flow_children tree k) (λ j f. again j) (children-from tree k))
            (All-implied (IsFrom tree.boxes (suc k)) (λ j. j < length tree.boxes) (flow_children tree k) (λ j f. f.within) (children-from tree k))
            (flow-sound tree w k left wide i) band at h))

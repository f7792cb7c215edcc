-- A line that begins, from what it is made of.
use Rattle.std.proofs.Common.{◌≡◌, ℕ, ℤ, false, List, [], take, drop, sym, ap, ◌∙◌}
use Rattle.std.proofs.lemmas.List.{take-map, drop-map}
use Rattle.viz_base.specs.declared.layouts.Spot.{Spot}
use Rattle.viz_calc.specs.World.{Reading}
use Rattle.layout_semantics.specs.Floats.{FloatBox}
use Rattle.layout_semantics.specs.InlineContent.{float_boxes}
use Rattle.layout_semantics.specs.LineFilling.{Met}
use Rattle.layout_semantics.specs.LineHeights.{InlineContext, LineExtent}
use Rattle.layout_semantics.specs.Lines.{SoFar}
use Rattle.lay_line.specs.Items.{item_of, bare_of}
use Rattle.lay_line.specs.Readings.{pieces_at, spots_at}
use Rattle.lay_line.specs.declared.held.Piece.{Piece}
use Rattle.lay_line.specs.steps.Held.{Held, nothing_held}
use Rattle.lay_line.specs.steps.Lining.{no_floats, met_before, first_load}
use Rattle.lay_line.specs.steps.Loading.{Load, bare, ahead, ahead_by, reaching_boxes, loaded}
use Rattle.lay_line.specs.steps.Meeting.{Slot, placed_all}
use Rattle.lay_line.specs.steps.Words.{makes, strut_in}
use Rattle.lay_line.proofs.LoadSteps.{bare-same}

module _ {N : Type 0} (at : N → Reading → ℤ) (e : Reading) where
  abbrev pub met_of : List (ℕ × Spot ℤ) → List FloatBox → List ℕ → Met
  met_of spots floats waiting = record { spots = spots; floats = floats; waiting = waiting }

  -- no float is met
  pub none-met : (spots : List (ℕ × Spot N)) (waiting : List ℕ) (floats : List FloatBox) → spots ≡ [] → waiting ≡ [] → met_of (spots_at at spots e) floats waiting ≡ no_floats floats
  none-met spots waiting floats s w = ap (λ l. met_of (spots_at at l e) floats waiting) s ∙ ap (met_of [] floats) w

  module _ (c : InlineContext) (first : List (Piece N)) where
    front-bare : (n : ℕ) (front : List (Piece N)) → n ≡ ahead_by (makes c.tree) (bare_of first) → front ≡ take n first
        → bare_of front ≡ take (ahead c (bare (pieces_at at first e))) (bare (pieces_at at first e))
    unfolding ahead
    front-bare n front k f =
        let same = bare-same at e first in
        ap bare_of f
        ∙ (sym (take-map (λ (p : Piece N). item_of p.item) n first)
        ∙ (ap (λ m. take m (bare_of first)) k
        ∙ ap (λ l. take (ahead_by (makes c.tree) l) l) (sym same)))

    behind-bare : (n : ℕ) (behind : List (Piece N)) → n ≡ ahead_by (makes c.tree) (bare_of first) → behind ≡ drop n first
        → bare_of behind ≡ drop (ahead c (bare (pieces_at at first e))) (bare (pieces_at at first e))
    unfolding ahead
    behind-bare n behind k f =
        let same = bare-same at e first in
        ap bare_of f
        ∙ (sym (drop-map (λ (p : Piece N). item_of p.item) n first)
        ∙ (ap (λ m. drop m (bare_of first)) k
        ∙ ap (λ l. drop (ahead_by (makes c.tree) l) l) (sym same)))

    pub before-is : (now : SoFar) (n : ℕ) (front : List (Piece N)) (boxes : List ℕ) (none met : Met) → n ≡ ahead_by (makes c.tree) (bare_of first) → front ≡ take n first
        → boxes ≡ float_boxes (bare_of front) → none ≡ no_floats now.floats → met ≡ placed_all c now.least now.y none boxes → met ≡ met_before c now (pieces_at at first e)
    unfolding met_before
    before-is now n front boxes none met k f b s m =
        m ∙ (ap (λ x. placed_all c now.least now.y x boxes) s
        ∙ ap (placed_all c now.least now.y (no_floats now.floats)) (b ∙ ap float_boxes (front-bare n front k f)))

    abbrev pub first_of : Held → Met → LineExtent → List ℕ → Load
    first_of held met extent opened = record { held = held; is_ended = false; is_line = false; met = met; extent = extent; opened = opened }

    pub first-load-is : (slot : Slot) (before : Met) (opened : List ℕ) (held : Held) (n : ℕ) (behind : List (Piece N)) (floats : List ℕ) (empty : Held) (extent : LineExtent) (still : List ℕ) (load : Load)
        → n ≡ ahead_by (makes c.tree) (bare_of first) → behind ≡ drop n first → floats ≡ float_boxes (bare_of behind) → empty ≡ nothing_held → extent ≡ reaching_boxes c (strut_in c) opened
        → still ≡ opened → load ≡ loaded c slot (first_of empty before extent still) (bare_of first) floats held → load ≡ first_load c slot before opened (pieces_at at first e) held
    unfolding first_load
    first-load-is slot before opened held n behind floats empty extent still load k d b h x p l =
        let start = first_of nothing_held before (reaching_boxes c (strut_in c) opened) opened in
        l ∙ (ap (λ y. loaded c slot (first_of y before extent still) (bare_of first) floats held) h
        ∙ (ap (λ y. loaded c slot (first_of nothing_held before y still) (bare_of first) floats held) x
        ∙ (ap (λ y. loaded c slot (first_of nothing_held before (reaching_boxes c (strut_in c) opened) y) (bare_of first) floats held) p
        ∙ (ap (λ y. loaded c slot start (bare_of first) y held) (b ∙ ap float_boxes (behind-bare n behind k d))
        ∙ ap (λ y. loaded c slot start y (float_boxes (drop (ahead c (bare (pieces_at at first e))) (bare (pieces_at at first e)))) held) (sym (bare-same at e first))))))

-- Deciding clearance on the way gives what the definition finds by trying leads that pass more and more boxes.
use Rattle.std.proofs.Common.{◌≡◌, ℕ, zero, suc, ◌+◌, ◌<◌, ◌≤◌, ℤ, Bool, true, false, if◌then◌else◌, int_lt, IsTrue, List, [], ◌++◌, length, Option, None, Some, refl, sym, ap, ◌∙◌, subst, arith}
use Rattle.std.specs.Prelude.{unwrap_or}
use Rattle.std.specs.Option.{option_map_or}
use Rattle.std.proofs.lemmas.Bool.Decides.{nat_tests}
use Rattle.viz_base.specs.declared.layouts.Band.{Band}
use Rattle.viz_base.specs.declared.layouts.Extent.{Extent}
use Rattle.viz_base.specs.declared.layouts.LeadEnd.{LeadEnd}
use Rattle.viz_base.specs.declared.layouts.LeadEnd.TheVariants as of_end
use Rattle.viz_base.specs.declared.layouts.Waiting.{Waiting}
use Rattle.viz_base.specs.declared.trees.BoxTree.{BoxTree}
use Rattle.viz_base.specs.declared.worlds.World.{World}
use Rattle.layout_semantics.specs.Floats.{FloatBox, lowest_bottom}
use Rattle.layout_semantics.specs.FlowBoxes.{clear_of}
use Rattle.layout_semantics.specs.Leads.{Leading, is_up_to, none_passed}
use Rattle.layout_semantics.specs.Leads.{lead as landed_lead}
use Rattle.layout_semantics.specs.Clearance.{Base, Ground, on_ground, run_end, Resolved, with_waiting, resolve_to, resolve}
use Rattle.layout_semantics.specs.Clearance as landed
use Rattle.layout_laws.proofs.LeadLevels.{EndsWell, lead-leads}
use Rattle.lay_margin.specs.declared.runs.Run.{Run}
use Rattle.lay_margin.specs.Runs.{joined_all}
use Rattle.lay_margin.specs.steps.Leads.{Going, led_by}
use Rattle.lay_margin.proofs.Joined.{joined-append, lead-joined}
use Rattle.lay_steps.specs.Order.{is_before}
use Rattle.lay_steps.specs.Runs.{edge_at}
use Rattle.lay_steps.specs.Forward.{goes_on, solid, cleared, cleared_of, Found, found, decided_found, hypothetical_edge, bottom_to_clear, is_to_clear, clear_edge, forward}
use Rattle.lay_steps.proofs.Decided.{IsPrefix, way, way-through, way-solid, way-cleared, forward-way}

pub none-prefix : IsPrefix none_passed
none-prefix d x o t = absurd (cc)

pub up-prefix : (past : ℕ) → IsPrefix (is_up_to past)
up-prefix past d x o t = grind (arith, nat_tests, o, t)

chosen-same : (o : Option ℤ) (y : ℤ) → option_map_or (λ bottom. bottom) o y ≡ unwrap_or o y
chosen-same None y = refl
chosen-same (Some b) y = refl

-- the box that is cleared, and the margins before it
pub record IsFoundBy (start : Run ℤ) (r : Resolved) (f : Found) : Type 0 where
  pub run : joined_all start r.margins ≡ f.run
  pub cleared : r.cleared ≡ cleared_of f.end

module _ (tree : BoxTree) (w : World) (size : Waiting ℤ → Extent ℤ) (base : Base) (floats : List FloatBox) (least : Option ℤ)
    (before : List ℤ) (run : Run ℤ) (same : (more : List ℤ) → run_end base (before ++ more) ≡ edge_at base (joined_all run more)) where
  abbrev ground : Ground
  ground = on_ground tree w size base floats least

  -- the edge that a box would have
  edge-same : (d : ℕ) (l : Leading)
      → landed.hypothetical_edge ground before l d ≡ hypothetical_edge ground l.cb d (joined_all run l.margins)
  unfolding hypothetical_edge
  edge-same d l =
      let own = landed_lead tree w (is_up_to d) l.cb d in
      same (l.margins ++ own.margins)
      ∙ ap (edge_at base) (joined-append run l.margins own.margins ∙ sym (ap (λ (g : Going). g.run) (lead-joined tree w (is_up_to d) l.cb d (joined_all run l.margins) [])))

  test-same : (d : ℕ) (l : Leading)
      → landed.is_cleared ground before l d ≡ is_to_clear ground l.cb d (joined_all run l.margins) l.waiting
  unfolding bottom_to_clear
  test-same d l = ap (λ (y : ℤ). option_map_or (int_lt y) (lowest_bottom (clear_of tree d) (with_waiting tree size l.waiting floats least y)) false) (edge-same d l)

  place-same : (d : ℕ) (l : Leading)
      → landed.cleared_edge ground before l d ≡ clear_edge ground d (joined_all run l.margins) l.waiting
  unfolding bottom_to_clear
  place-same d l =
      ap (λ (y : ℤ). option_map_or (λ bottom. bottom) (lowest_bottom (clear_of tree d) (with_waiting tree size l.waiting floats least y)) y) (same l.margins)
      ∙ (let y = edge_at base (joined_all run l.margins) in chosen-same (lowest_bottom (clear_of tree d) (with_waiting tree size l.waiting floats least y)) y)

  abbrev tried : ℕ → (ℕ → Bool) → Band ℤ → ℕ → Resolved
  tried left p cb b = resolve_to ground before cb b left p

  abbrev going : (ℕ → Bool) → Band ℤ → ℕ → Found
  going p cb b = forward ground p cb b run

  module _ (cb : Band ℤ) (b : ℕ) (end : ℕ) (within : b < length tree.boxes) (order : IsTrue (is_before tree.boxes b end)) where
    -- the way forward by the landed lead
    abbrev from_lead : (ℕ → Bool) → Found
    from_lead p = way tree w size base floats least (λ d. going (is_up_to d) cb b) (led_by run [] (landed_lead tree w p cb b))

    by-lead : (p : ℕ → Bool) → IsPrefix p → going p cb b ≡ from_lead p
    by-lead p prefix =
        forward-way tree w size base floats least p prefix (length tree.boxes) cb b end run [] order
        ∙ ap (way tree w size base floats least (λ d. going (is_up_to d) cb b)) (lead-joined tree w p cb b run [])

    -- so many boxes may still be passed
    abbrev Left : ℕ → (ℕ → Bool) → Type 0
    Left left p = (d : ℕ) → p d ≡ false → d < length tree.boxes → length tree.boxes ≤ left + d

    abbrev chosen : Leading → Resolved → ℕ → Bool → Resolved
    chosen l again d c = if c then record { margins = l.margins; cleared = Some (d, landed.cleared_edge ground before l d) } else again

    abbrev tried_by : Leading → (ℕ → Resolved) → LeadEnd → Resolved
    tried_by l again end = elim end as (λ _. Resolved) [
      | of_end.Through ↦ record { margins = l.margins; cleared = None }
      | of_end.Solid d ↦ record { margins = l.margins; cleared = None }
      | of_end.Cleared d ↦ chosen l (again d) d (landed.is_cleared ground before l d)
    ]

    abbrev decided_by : ℕ → Run ℤ → List (Waiting ℤ) → Bool → Option ℤ
    decided_by d r ws c = elim c as (λ _. Option ℤ) [ true ↦ Some (clear_edge ground d r ws) | false ↦ None ]

    abbrev IsMade : Resolved → Found → Type 0
    IsMade r f = IsFoundBy run r f

    tried-step : (left : ℕ) (p : ℕ → Bool) → IsPrefix p
        → ((d : ℕ) → p d ≡ false → d < length tree.boxes → IsMade (tried left (is_up_to d) cb b) (going (is_up_to d) cb b))
        → IsMade (tried (suc left) p cb b) (going p cb b)
    unfolding resolve_to
    tried-step left p prefix again = subst (IsMade (tried (suc left) p cb b)) (sym (by-lead p prefix)) (by l.end refl)
      where
        l : Leading
        l = landed_lead tree w p cb b

        g : Going
        g = led_by run [] l

        on : ℕ → Found
        on d = going (is_up_to d) cb b

        off : ℕ → Resolved
        off d = tried left (is_up_to d) cb b

        own : Run ℤ
        own = joined_all run l.margins

        moved : (r : Resolved) (f : Found) → tried_by l off l.end ≡ r → from_lead p ≡ f → IsMade r f → IsMade (tried_by l off l.end) (from_lead p)
        moved r f x y m = subst (λ (z : Resolved). IsMade z (from_lead p)) (sym x) (subst (IsMade r) (sym y) m)

        by_test : (d : ℕ) (c : Bool) → l.end ≡ of_end.Cleared d → p d ≡ false → d < length tree.boxes → is_to_clear ground l.cb d own l.waiting ≡ c → IsMade (tried_by l off l.end) (from_lead p)
        by_test d true e o m c =
            moved (record { margins = l.margins; cleared = Some (d, landed.cleared_edge ground before l d) }) (found own l.waiting (cleared d (clear_edge ground d own l.waiting)))
            (ap (tried_by l off) e ∙ ap (chosen l (off d) d) (test-same d l ∙ c))
            (way-cleared tree w size base floats least on g d e ∙ ap (λ (x : Bool). decided_found d own l.waiting (decided_by d own l.waiting x) (on d)) c)
            (record { run = refl; cleared = ap (λ (y : ℤ). Some (d, y)) (place-same d l) })
        by_test d false e o m c =
            moved (off d) (on d)
            (ap (tried_by l off) e ∙ ap (chosen l (off d) d) (test-same d l ∙ c))
            (way-cleared tree w size base floats least on g d e ∙ ap (λ (x : Bool). decided_found d own l.waiting (decided_by d own l.waiting x) (on d)) c)
            (again d o m)

        by : (e : LeadEnd) → l.end ≡ e → IsMade (tried_by l off l.end) (from_lead p)
        by of_end.Through e = moved (record { margins = l.margins; cleared = None }) (found own l.waiting goes_on) (ap (tried_by l off) e) (way-through tree w size base floats least on g e) (record { run = refl; cleared = refl })
        by (of_end.Solid d) e = moved (record { margins = l.margins; cleared = None }) (found own l.waiting solid) (ap (tried_by l off) e) (way-solid tree w size base floats least on g d e) (record { run = refl; cleared = refl })
        by (of_end.Cleared d) e =
            let ends = subst (EndsWell tree w p) e (lead-leads tree w p cb b within).ends in
            by_test d (is_to_clear ground l.cb d own l.waiting) e ends.1 ends.0 refl

    tried-found : (left : ℕ) (p : ℕ → Bool) → IsPrefix p → Left left p → IsMade (tried (suc left) p cb b) (going p cb b)
    tried-found zero p prefix room = tried-step zero p prefix (λ d o l. absurd (let m = room d o l in omega arith))
    tried-found (suc left) p prefix room =
        tried-step (suc left) p prefix (λ d o l. tried-found left (is_up_to d) (up-prefix d) (λ x k m. let r = room d o l in let after : d < x = grind (arith, nat_tests, k) in omega arith))

    -- from boxes that pass up to one, or none
    pub resolve-found : (p : ℕ → Bool) → IsPrefix p → IsMade (resolve ground before cb b p) (going p cb b)
    resolve-found p prefix = tried-found (length tree.boxes) p prefix (λ d o k. omega arith)

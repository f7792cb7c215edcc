-- A lead joined to a run, with its floats behind those that wait.
use Rattle.std.proofs.Common.{◌≡◌, ℕ, zero, suc, ℤ, pos, Bool, true, false, not, List, [], ◌∷◌, ◌++◌, refl, sym, ap, ◌∙◌, arith, append_assoc, length}
use Rattle.std.specs.Prelude.{◌&&◌}
use Rattle.std.specs.Int.{int_max, int_min}
use Rattle.std.proofs.lemmas.Int.{ints, clamps}
use Rattle.viz_base.specs.declared.layouts.Band.{Band}
use Rattle.viz_base.specs.declared.layouts.LeadEnd.{LeadEnd}
use Rattle.viz_base.specs.declared.layouts.LeadEnd.TheVariants as of_end
use Rattle.viz_base.specs.declared.layouts.Waiting.{Waiting}
use Rattle.viz_base.specs.declared.trees.BoxTree.{BoxTree}
use Rattle.viz_base.specs.declared.worlds.World.{World}
use Rattle.layout_semantics.specs.Extremes.{greatest_from, least_from}
use Rattle.layout_semantics.specs.FlowBoxes.{clear_of, is_open_above, may_collapse_through, flow_children, block_band}
use Rattle.layout_semantics.specs.InlineContent.{is_floated_at, has_line}
use Rattle.layout_semantics.specs.Leads.{Leading, clears_something, top_margin, bottom_margin, followed_by, child_lead, children_lead}
use Rattle.layout_semantics.specs.Leads.{through as landed_through, lead_to as landed_to, lead as landed}
use Rattle.layout_laws.proofs.PlainLeads.{last_of, child_from}
use Rattle.layout_laws.proofs.LeadLevels.{lead_from, inner_lead, lead-from}
use Rattle.lay_margin.specs.declared.runs.Run.{Run}
use Rattle.lay_margin.specs.Runs.{IsRunOf, with_margin, joined_all}
use Rattle.lay_margin.specs.steps.Leads.{Going, ending, led_by, through, going_on, passed_kid, kid_going, kid_of, kids_going, ended_by, enters, stops, inner_band, margin_above, margin_below, lead_to, lead_of}

-- ---- runs

pub joined-append : (r : Run ℤ) (xs ys : List ℤ) → joined_all r (xs ++ ys) ≡ joined_all (joined_all r xs) ys
joined-append r [] ys = refl
joined-append r (x ∷ xs) ys = joined-append (with_margin r x) xs ys

greatest-more : (a : ℤ) (xs : List ℤ) (x : ℤ) → greatest_from a (xs ++ x ∷ []) ≡ int_max (greatest_from a xs) x
greatest-more a [] x = omega (arith, ints, clamps)
greatest-more a (y ∷ xs) x = ap (int_max y) (greatest-more a xs x) ∙ (let g = greatest_from a xs in omega (arith, ints, clamps))

least-more : (a : ℤ) (xs : List ℤ) (x : ℤ) → least_from a (xs ++ x ∷ []) ≡ int_min (least_from a xs) x
least-more a [] x = omega (arith, ints, clamps)
least-more a (y ∷ xs) x = ap (int_min y) (least-more a xs x) ∙ (let g = least_from a xs in omega (arith, ints, clamps))

pub joined-run : (r : Run ℤ) (ms more : List ℤ) → IsRunOf r ms → IsRunOf (joined_all r more) (ms ++ more)
joined-run r ms [] i = record { greatest = i.greatest ∙ ap (greatest_from (pos 0)) (sym (append-none ms)); least = i.least ∙ ap (least_from (pos 0)) (sym (append-none ms)) }
  where
    append-none : (xs : List ℤ) → xs ++ [] ≡ xs
    append-none [] = refl
    append-none (x ∷ xs) = ap (λ ys. x ∷ ys) (append-none xs)
joined-run r ms (m ∷ more) i = rw (← append_assoc ms (m ∷ []) more) (joined-run (with_margin r m) (ms ++ m ∷ []) more (record {
  greatest = ap (λ g. int_max g m) i.greatest ∙ sym (greatest-more (pos 0) ms m);
  least = ap (λ g. int_min g m) i.least ∙ sym (least-more (pos 0) ms m);
}))

-- ---- leads

no-more : (ws : List (Waiting ℤ)) → ws ++ [] ≡ ws
no-more [] = refl
no-more (x ∷ xs) = ap (λ ys. x ∷ ys) (no-more xs)

module _ (tree : BoxTree) (w : World) (passed : ℕ → Bool) where
  ends-here : (r : Run ℤ) (ws : List (Waiting ℤ)) (end : LeadEnd) (cb : Band ℤ) (ms : List ℤ)
      → ending (joined_all r ms) ws end cb ≡ led_by r ws (record { margins = ms; waiting = []; end = end; cb = cb })
  ends-here r ws end cb ms = ap (λ v. ending (joined_all r ms) v end cb) (sym (no-more ws))

  followed : (r : Run ℤ) (ws : List (Waiting ℤ)) (first rest : Leading)
      → led_by r ws (followed_by tree w first rest) ≡ going_on (led_by r ws first) (led_by (joined_all r first.margins) (ws ++ first.waiting) rest)
  followed r ws first rest = by first.end refl
    where
      by : (end : LeadEnd) → first.end ≡ end → led_by r ws (followed_by tree w first rest) ≡ going_on (led_by r ws first) (led_by (joined_all r first.margins) (ws ++ first.waiting) rest)
      by of_end.Through e = rw e (
          ap (λ run. ending run (ws ++ (first.waiting ++ rest.waiting)) rest.end rest.cb) (joined-append r first.margins rest.margins)
          ∙ ap (λ v. ending (joined_all (joined_all r first.margins) rest.margins) v rest.end rest.cb) (sym (append_assoc ws first.waiting rest.waiting)))
      by (of_end.Solid d) e = rw e refl
      by (of_end.Cleared d) e = rw e refl

  kid-led : (go : ℕ → Run ℤ → List (Waiting ℤ) → Going) (one : ℕ → Leading) (cb : Band ℤ) (k : ℕ) (run : Run ℤ) (ws : List (Waiting ℤ))
      → go k run ws ≡ led_by run ws (one k) → kid_going tree w passed go cb k run ws ≡ led_by run ws (child_lead tree w one cb k)
  unfolding margin_below
  kid-led go one cb k run ws e = by (is_floated_at tree k)
    where
      by : (f : Bool) → elim f as (λ _. Going) [ true ↦ through cb run (ws ++ record { at = k; cb = cb } ∷ []) | false ↦ passed_kid tree w passed cb k (go k run ws) ]
          ≡ led_by run ws (child_from tree w cb k (one k) f)
      by true = refl
      by false =
          ap (passed_kid tree w passed cb k) e
          ∙ ap (going_on (led_by run ws (one k))) (ends-here (joined_all run (one k).margins) (ws ++ (one k).waiting) of_end.Through cb (bottom_margin tree w cb k ∷ []))
          ∙ sym (followed run ws (one k) (landed_through tree w cb (bottom_margin tree w cb k ∷ [])))

  kids-led : (go : ℕ → Run ℤ → List (Waiting ℤ) → Going) (one : ℕ → Leading) (cb : Band ℤ) (ks : List ℕ) (run : Run ℤ) (ws : List (Waiting ℤ))
      → ((k : ℕ) (r : Run ℤ) (v : List (Waiting ℤ)) → go k r v ≡ led_by r v (one k))
      → kids_going tree w passed (kid_of tree w passed go cb) cb ks run ws ≡ led_by run ws (children_lead tree w one cb ks)
  unfolding kid_of
  kids-led go one cb [] run ws same = ends-here run ws of_end.Through cb []
  kids-led go one cb (k ∷ ks) run ws same =
      let first = kid-led go one cb k run ws (same k run ws) in
      let here = child_lead tree w one cb k in
      ap (λ (t : Going). going_on t (kids_going tree w passed (kid_of tree w passed go cb) cb ks t.run t.waiting)) first
      ∙ ap (going_on (led_by run ws here)) (kids-led go one cb ks (joined_all run here.margins) (ws ++ here.waiting) same)
      ∙ sym (followed run ws here (children_lead tree w one cb ks))

  last-led : (cb : Band ℤ) (b : ℕ) (r : Run ℤ) (ws : List (Waiting ℤ)) (m : Bool)
      → ending r ws (elim m as (λ _. LeadEnd) [ true ↦ of_end.Through | false ↦ of_end.Solid b ]) cb ≡ led_by r ws (last_of tree w cb b m)
  last-led cb b r ws true = ends-here r ws of_end.Through cb []
  last-led cb b r ws false = ends-here r ws (of_end.Solid b) cb []

  ended-led : (cb : Band ℤ) (b : ℕ) (run : Run ℤ) (ws : List (Waiting ℤ)) (inner : Leading)
      → ended_by tree w passed cb b (led_by run ws inner) ≡ led_by run ws (followed_by tree w inner (last_of tree w cb b (may_collapse_through tree b)))
  ended-led cb b run ws inner = by inner.end refl
    where
      by : (end : LeadEnd) → inner.end ≡ end
          → ended_by tree w passed cb b (led_by run ws inner) ≡ led_by run ws (followed_by tree w inner (last_of tree w cb b (may_collapse_through tree b)))
      by of_end.Through e = rw e (
          last-led cb b (joined_all run inner.margins) (ws ++ inner.waiting) (may_collapse_through tree b)
          ∙ sym (followed run ws (record inner { end = of_end.Through }) (last_of tree w cb b (may_collapse_through tree b))))
      by (of_end.Solid d) e = rw e refl
      by (of_end.Cleared d) e = rw e refl

  -- a box from what is in it, by whether the lead goes into it, and whether it stops the lead
  abbrev entered_by : Band ℤ → ℕ → Run ℤ → List (Waiting ℤ) → Bool → Going → Going
  entered_by cb b own ws opens inner = elim opens [ false ↦ ending own ws (of_end.Solid b) cb | true ↦ ended_by tree w passed cb b inner ]

  abbrev stopped_by : Band ℤ → ℕ → Run ℤ → List (Waiting ℤ) → Bool → Going → Going
  stopped_by cb b run ws clears inner = elim clears [ true ↦ ending run ws (of_end.Cleared b) cb | false ↦ inner ]

  box-led : (cb : Band ℤ) (b : ℕ) (run : Run ℤ) (ws : List (Waiting ℤ)) (inner : Leading) (clears opens : Bool)
      → stopped_by cb b run ws clears (entered_by cb b (with_margin run (top_margin tree w cb b)) ws opens (led_by (with_margin run (top_margin tree w cb b)) ws inner))
      ≡ led_by run ws (lead_from tree w cb b inner opens clears)
  box-led cb b run ws inner true opens = ends-here run ws (of_end.Cleared b) cb []
  box-led cb b run ws inner false false = ends-here run ws (of_end.Solid b) cb (top_margin tree w cb b ∷ [])
  box-led cb b run ws inner false true = ended-led cb b (with_margin run (top_margin tree w cb b)) ws inner

  lead-led : (n : ℕ) (cb : Band ℤ) (b : ℕ) (run : Run ℤ) (ws : List (Waiting ℤ)) → lead_to tree w passed n cb b run ws ≡ led_by run ws (landed_to tree w n passed cb b)
  unfolding lead_to landed_to stops enters margin_above inner_band
  lead-led zero cb b run ws = ends-here run ws of_end.Through cb []
  lead-led (suc n) cb b run ws =
      let band = block_band tree w cb b in
      let own = with_margin run (top_margin tree w cb b) in
      let clears = clears_something (clear_of tree b) && not (passed b) in
      let opens = is_open_above tree b && not (has_line tree b) in
      let inner = inner_lead tree w (landed_to tree w n passed) cb b in
      ap (λ g. stopped_by cb b run ws clears (entered_by cb b own ws opens g))
      (kids-led (lead_to tree w passed n band) (landed_to tree w n passed band) band (flow_children tree b) own ws (λ k r v. lead-led n band k r v))
      ∙ box-led cb b run ws inner clears opens
      ∙ ap (led_by run ws) (sym (lead-from tree w (landed_to tree w n passed) passed cb b))

  pub lead-joined : (cb : Band ℤ) (b : ℕ) (run : Run ℤ) (ws : List (Waiting ℤ)) → lead_of tree w passed cb b run ws ≡ led_by run ws (landed tree w passed cb b)
  lead-joined cb b run ws = lead-led (length tree.boxes) cb b run ws

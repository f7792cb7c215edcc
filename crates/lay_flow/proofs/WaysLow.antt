-- What fits on a way fits on what is left of it.
use Rattle.std.proofs.Common.{◌≡◌, ℕ, suc, ℤ, true, List, ◌∷◌, ap, arith}
use Rattle.viz_base.specs.declared.layouts.Band.{Band}
use Rattle.viz_base.specs.declared.layouts.Waiting.{Waiting}
use Rattle.viz_base.specs.declared.trees.BoxTree.{BoxTree}
use Rattle.viz_base.specs.declared.worlds.World.{World}
use Rattle.layout_semantics.specs.FlowBoxes.{flow_children}
use Rattle.layout_semantics.specs.Lengths.{margins}
use Rattle.layout_semantics.specs.Clearance.{Ground}
use Rattle.lay_margin.specs.declared.runs.Run.{Run}
use Rattle.lay_margin.specs.Fitting.{MarginFits, InsideFits, itself}
use Rattle.lay_margin.specs.Runs.{with_margin}
use Rattle.lay_margin.specs.steps.Leads.{enters, inner_band, margin_above}
use Rattle.lay_steps.specs.Forward.{End, goes_on, solid, cleared, Found, kid_of, kids_found}
use Rattle.lay_flow.specs.WayFits.{here, inside, first, later, IsDecisionLow, WayFits, KidsFit, KidFits}
use Rattle.lay_flow.proofs.LeadsLow.{lead-inner}

-- a box that goes on, before others
pub kids-on : (tree : BoxTree) (w : World) (kid : Run ℤ → List (Waiting ℤ) → ℕ → Found) (k : ℕ) (ks : List ℕ) (run : Run ℤ) (ws : List (Waiting ℤ)) → (kid run ws k).end ≡ goes_on
    → kids_found tree w kid (k ∷ ks) run ws ≡ kids_found tree w kid ks (kid run ws k).run (kid run ws k).waiting
kids-on tree w kid k ks run ws e =
    ap (λ (x : End). elim x as (λ _. Found) [ goes_on ↦ kids_found tree w kid ks (kid run ws k).run (kid run ws k).waiting | solid ↦ kid run ws k | cleared b edge ↦ kid run ws k ]) e

module _ (g : Ground) (go : Band ℤ → ℕ → Run ℤ → List (Waiting ℤ) → Found) (cb : Band ℤ) where
  abbrev tree : BoxTree
  tree = g.tree

  abbrev w : World
  w = g.world

  abbrev Way : ℕ → Run ℤ → List (Waiting ℤ) → Type 0
  Way b run ws = WayFits g go cb b run ws

  abbrev Kids : Band ℤ → List ℕ → Run ℤ → List (Waiting ℤ) → Type 0
  Kids band ks run ws = KidsFit g go band ks run ws

  module _ (b : ℕ) (run : Run ℤ) (ws : List (Waiting ℤ)) (f : Way b run ws) where
    pub way-decides : IsDecisionLow g cb b run ws
    way-decides = record { ground = f.ground; lead = f.lead; going = f.ways run ws here }

    pub way-above : MarginFits tree w (margins tree b).top cb
    way-above = (f.lead cb b (itself cb b)).fits.top

    pub way-below : MarginFits tree w (margins tree b).bottom cb
    way-below = (f.lead cb b (itself cb b)).fits.bottom

    pub way-band : enters tree b ≡ true → InsideFits tree w cb b
    way-band goes = (f.lead cb b (itself cb b)).fits.inside goes

    pub way-inside : enters tree b ≡ true → Kids (inner_band tree w cb b) (flow_children tree b) (with_margin run (margin_above tree w cb b)) ws
    way-inside goes = record { ground = f.ground; kids = lead-inner tree w cb b goes f.lead; ways = λ end all c. f.ways end all (inside goes c) }

  module _ (k : ℕ) (ks : List ℕ) (run : Run ℤ) (ws : List (Waiting ℤ)) (f : Kids cb (k ∷ ks) run ws) where
    -- the first of some boxes, and those after it
    pub kids-first : KidFits g go cb k run ws
    kids-first = record { band = f.kids.0; way = λ n. record { ground = f.ground; lead = f.kids.1 0 (omega arith) n; ways = λ end all c. f.ways end all (first n c) } }

    pub kids-later : (kid_of tree w (go cb) cb run ws k).end ≡ goes_on → Kids cb ks (kid_of tree w (go cb) cb run ws k).run (kid_of tree w (go cb) cb run ws k).waiting
    kids-later e = record { ground = f.ground; kids = (f.kids.0, λ i l. f.kids.1 (suc i) (omega (arith, l))); ways = λ end all c. f.ways end all (later e c) }

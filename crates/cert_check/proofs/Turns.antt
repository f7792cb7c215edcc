-- Going up from a node and on to the next second child.
use Rattle.std.proofs.Common.{◌≡◌, ℕ, suc, ◌+◌, ◌-◌, true, IsTrue, List, [], ◌∷◌, ◌++◌, length, reverse, inl, inr, Some, Result, Err, refl, sym, ◌∙◌, ap, subst, arith}
use Rattle.std.specs.Prelude.{◌⊎◌, IfSome, slice_get}
use Rattle.std.specs.Option.{option_and_then}
use Rattle.std.proofs.lemmas.List.{reverse-append}
use Rattle.std.proofs.lemmas.Option.{same_Some}
use Rattle.viz_base.specs.declared.jobs.Job.{Job}
use Rattle.viz_base.specs.declared.worlds.Rect.{Rect}
use Rattle.lin_proof.specs.Form.{Form, form_fits, denied}
use Rattle.cert_semantics.specs.Axes.{axis_count}
use Rattle.cert_semantics.specs.Paths.{def, first, second, lemma, Path, root, ◌▸◌, form_of, is_declared, variables}
use Rattle.cert_semantics.specs.Nodes.{Node}
use Rattle.cert_semantics.specs.Rectangles.{rectangle}
use Rattle.viz_base.specs.declared.rectangles.Child.TheVariants as of_child
use Rattle.cert_check.specs.declared.visits.Last.{Last}
use Rattle.cert_check.specs.declared.visits.Last.TheVariants.{First, Other}
use Rattle.cert_check.specs.declared.visits.Pending.{Pending}
use Rattle.cert_check.specs.declared.visits.Visits.{Visits}
use Rattle.viz_base.specs.Rectangles.{IsWithin}
use Rattle.cert_semantics.specs.Units.{cut_of, cut_at}
use Rattle.cert_check.specs.steps.Grids.{IsPart}
use Rattle.cert_check.specs.declared.descent.Above.{Above}
use Rattle.cert_check.specs.declared.descent.Above.TheVariants as of_above
use Rattle.cert_check.specs.declared.walk.Stop.{Stop}
use Rattle.cert_check.specs.declared.walk.Stop.TheVariants as of_stop
use Rattle.cert_check.specs.steps.Tells.{Judges, Tells}
use Rattle.cert_check.specs.steps.Descent.{step_of, path_from, path_of, outer_of, is_below_row}
use Rattle.cert_check.specs.steps.Ways.{path_at}
use Rattle.cert_check.specs.steps.Stream.{seconds, last_of, IsHeld, AreHeld, CanTurn, IsReady, IsDue}
use Rattle.cert_check.proofs.PartSides.{part_under, within_under}
use Rattle.cert_check.proofs.Tellings.{tells_head, tells_mem}

-- ---- the last step of a path

last_step : (path : Path) (above : List Above) (step : Above) → slice_get above (length above - 1) ≡ Some step → (outer : Path) × (path_from path above ≡ step_of step ▸ outer)
last_step path [] step e = absurd (cc)
last_step path (a ∷ []) step e =
    let none : length (a ∷ []) - 1 ≡ 0 = omega arith in
    (path, ap (λ s. step_of s ▸ path) (same_Some a step (subst (λ k. slice_get (a ∷ []) k ≡ Some step) none e)))
last_step path (a ∷ b ∷ above) step e =
    let more : length (a ∷ b ∷ above) - 1 ≡ suc (length (b ∷ above) - 1) = omega arith in
    last_step (step_of a ▸ path) (b ∷ above) step (subst (λ k. slice_get (a ∷ b ∷ above) k ≡ Some step) more e)

pub is_last : (form : ℕ) (above : List Above) (step : Above) (last : Last) → slice_get above (length above - 1) ≡ Some step → ((outer : Path) → last_of (step_of step ▸ outer) ≡ Some last)
    → Some last ≡ last_of (path_of form above)
is_last form above step last e h = let at = last_step (root form) above step e in sym (ap last_of at.1 ∙ h at.0)

pub either_other : (step : Above) → ((row : Form) × (step ≡ of_above.Second row)) ⊎ ((row : Form) × (step ≡ of_above.Lemma row)) → (outer : Path) → last_of (step_of step ▸ outer) ≡ Some Other
either_other step (inl h) outer = ap (λ s. last_of (step_of s ▸ outer)) h.1
either_other step (inr h) outer = ap (λ s. last_of (step_of s ▸ outer)) h.1

-- ---- what is told of one node

pub told_err : (job : Job) (node : Node) (n : ℕ) (result : Result ℕ Stop) (stop : Stop) → result ≡ Err stop → Judges {A = Unit {0}} job node n (Err stop) → Tells job (node ∷ []) n result
told_err job node n result stop is h = subst (λ r. Tells job (node ∷ []) n r) (sym is) (tells_head job node [] n stop h)

pub told_mem : (job : Job) (nodes : List Node) (n : ℕ) (result : Result ℕ Stop) → result ≡ Err of_stop.Mem → Tells job nodes n result
told_mem job nodes n result is = subst (λ r. Tells job nodes n r) (sym is) (tells_mem job nodes n)

-- ---- going up

-- below the first child of a split, which is held
pub record IsFirst (range : Rect) (path : Path) (pending : List Pending) : Type 0 where
  pub row : Form
  pub outer : Path
  pub path_is : path ≡ first row ▸ outer
  pub below : is_below_row path ≡ true
  pub held : Pending
  pub others : List Pending
  pub are : pending ≡ held ∷ others
  pub is_held : IsHeld range outer row held
  pub are_held : AreHeld range outer others

pub up_first : (range : Rect) (path : Path) (pending : List Pending) → last_of path ≡ Some First → AreHeld range path pending → IsFirst range path pending
up_first range (root form) pending e h = absurd (cc)
up_first range (def row d ▸ outer) pending e h = absurd (cc)
up_first range (first row ▸ outer) [] e h = absurd h
up_first range (first row ▸ outer) (held ∷ others) e h =
    record { row = row; outer = outer; path_is = refl; below = refl; held = held; others = others; are = refl; is_held = h.0; are_held = h.1 }
up_first range (second row ▸ outer) pending e h = absurd (cc)
up_first range (lemma row ▸ outer) pending e h = absurd (cc)

-- ---- visits

-- they go up, and what is due behind stays due
pub record IsTurning (start now : Visits) (number : ℕ) : Type 0 where
  pub same : now.descent.job.now ≡ start.descent.job.now
  pub due : seconds (path_at now.descent) ≡ seconds (path_at start.descent)
  pub turns : CanTurn now number

-- in the first part of a split, which is held
pub below_first : (old new : Visits) (number : ℕ) (row : Form) (held : Pending) → new.descent.job.now ≡ old.descent.job.now → path_at new.descent ≡ first row ▸ path_at old.descent
    → new.pending.items ≡ old.pending.items ++ held ∷ [] → held.row ≡ row → held.part ≡ old.part → IsTrue (is_declared (path_at old.descent) row) → IsTrue (form_fits (denied row))
    → new.part ≡ option_and_then (cut_at (cut_of (form_of (path_at old.descent)) row) of_child.First) old.part → IsReady old number
    → IsDue new (number + 1) ((first row ▸ path_at old.descent) ∷ (second row ▸ path_at old.descent) ∷ seconds (path_at old.descent))
below_first old new number row held job is pending row_is part_is declared fits cut h = (
  is,
  refl,
  record {
    part = part_under row of_child.First old.descent.job.now new.descent.job.now (path_at old.descent) (path_at new.descent) old.part new.part job is cut h.part;
    within = within_under row of_child.First old.descent.job.now new.descent.job.now (path_at old.descent) (path_at new.descent) old.part new.part job is cut h.within;
    turns = record {
      held =
          subst (λ (j : Job). AreHeld j.range (path_at new.descent) (reverse new.pending.items)) (sym job)
          (subst (λ p. AreHeld old.descent.job.now.range p (reverse new.pending.items)) (sym is)
          (subst (AreHeld old.descent.job.now.range (first row ▸ path_at old.descent)) (sym (ap reverse pending ∙ reverse-append old.pending.items (held ∷ []))) (
            record {
              row_is = row_is;
              declared = declared;
              fits = fits;
              part = subst (λ o. IsPart o (rectangle old.descent.job.now.range (path_at old.descent))) (sym part_is) h.part;
              within = subst (λ o. IfSome o (IsWithin old.descent.job.now.range)) (sym part_is) h.within;
            },
            h.turns.held,
          )));
      variables = let some = h.turns.variables in omega (arith, some, ap variables is, ap (λ (j : Job). axis_count j.form) job);
    };
  },
)

-- ---- from the first part of a split to the second

-- what is held is popped
module _ (range : Rect) (path : Path) (items : List Pending) (f : IsFirst range path (reverse items)) where
  pub popped_held : (front : List Pending) (h : Pending) → items ≡ front ++ h ∷ [] → (f.held ≡ h) × (f.others ≡ reverse front)
  popped_held front h is =
      let same : f.held ∷ f.others ≡ h ∷ reverse front = sym f.are ∙ ap reverse is ∙ reverse-append front (h ∷ []) in
      let one : f.held ≡ h = cc in
      let rest : f.others ≡ reverse front = cc in
      (one, rest)

module _ (old new : Visits) (number : ℕ) (f : IsFirst old.descent.job.now.range (path_at old.descent) (reverse old.pending.items)) (h : Pending) (popped : old.pending.items ≡ new.pending.items ++ h ∷ []) where
  held_is : (f.held ≡ h) × (f.others ≡ reverse new.pending.items)
  held_is = popped_held old.descent.job.now.range (path_at old.descent) old.pending.items f new.pending.items h popped

  pub row_is : h.row ≡ f.row
  row_is = ap (λ (p : Pending). p.row) (sym held_is.0) ∙ f.is_held.row_is

  outer_is : outer_of (path_at old.descent) ≡ f.outer
  outer_is = ap outer_of f.path_is

  pub to_second : new.descent.job.now ≡ old.descent.job.now → path_at new.descent ≡ second h.row ▸ outer_of (path_at old.descent)
      → new.part ≡ option_and_then (cut_at (cut_of (form_of (outer_of (path_at old.descent))) h.row) of_child.Second) h.part → CanTurn old (number + 1) → IsDue new (number + 1) (seconds (path_at old.descent))
  to_second job is cut turns =
      let path : path_at new.descent ≡ second f.row ▸ f.outer = is ∙ (λ i. second (row_is i) ▸ outer_is i) in
      let part_is = ap (λ (p : Pending). p.part) held_is.0 in
      let under = cut ∙ (λ i. option_and_then (cut_at (cut_of (form_of (outer_is i)) (row_is i)) of_child.Second) (sym part_is i)) in
      subst (IsDue new (number + 1)) (sym (ap seconds f.path_is)) (
        path,
        refl,
        record {
          part = part_under f.row of_child.Second old.descent.job.now new.descent.job.now f.outer (path_at new.descent) f.held.part new.part job path under f.is_held.part;
          within = within_under f.row of_child.Second old.descent.job.now new.descent.job.now f.outer (path_at new.descent) f.held.part new.part job path under f.is_held.within;
          turns = record {
            held =
                subst (λ (j : Job). AreHeld j.range (path_at new.descent) (reverse new.pending.items)) (sym job)
                (subst (λ p. AreHeld old.descent.job.now.range p (reverse new.pending.items)) (sym path)
                (subst (AreHeld old.descent.job.now.range f.outer) held_is.1 f.are_held));
            variables =
                let some = turns.variables in
                omega (arith, some, ap variables path, ap variables f.path_is, ap (λ (j : Job). axis_count j.form) job);
          };
        },
      )

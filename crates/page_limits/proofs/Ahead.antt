-- The box that is to be cleared stays within bounds until the flow comes to it.
use Rattle.std.proofs.Common.{◌≡◌, ◌⊎◌, inl, inr, ℕ, suc, ◌+◌, ◌*◌, ◌<◌, ◌≤◌, ℤ, Bool, true, false, IsTrue, nat_lt, List, [], ◌∷◌, map, length, Option, Some, None, slice_get, refl, ◌∙◌, ap, arith}
use Rattle.std.specs.Prelude.{option_map}
use Rattle.std.specs.List.{AllByRecursion}
use Rattle.std.specs.Option.{option_and_then}
use Rattle.std.proofs.lemmas.Bool.{cases_order}
use Rattle.std.proofs.lemmas.Bool.Decides.{nat_tests}
use Rattle.std.proofs.lemmas.Option.{slice_get-map}
use Rattle.viz_base.specs.declared.trees.BoxNode.{BoxNode}
use Rattle.viz_base.specs.declared.trees.BoxTree.{BoxTree}
use Rattle.viz_base.specs.Trees.{ascends}
use Rattle.layout_semantics.specs.Order.{kids_of}
use Rattle.layout_semantics.specs.FlowBoxes.{flow_children}
use Rattle.layout_semantics.specs.InlineContent.{is_floated_at, has_line, holds_inline, content, float_boxes}
use Rattle.layout_semantics.proofs.Forest.{IsKid, both, ascends-each}
use Rattle.layout_semantics.proofs.Pages.{forest}
use Rattle.layout_laws.proofs.Levels.{All-implied}
use Rattle.lay_steps.proofs.LeadEnds.{content-floats}
use Rattle.page_limits.specs.Bounds.{Bounds, grown, all_around, together, IsLevelIn}
use Rattle.page_limits.specs.Rises.{rise_in_flow}
use Rattle.page_limits.proofs.Levels.{level-wider, inside-grown}
use Rattle.page_limits.proofs.Rising.{rise-of-kids, rise-box}

module _ (tree : BoxTree) where
  -- ---- what is in a box stands before a later box

  -- what is in the boxes from a place on and before an end stands before that end too
  abbrev Closes : ℕ → ℕ → Type 0
  Closes low end = (at kid : ℕ) → low ≤ at → at < end → IsKid tree.boxes at kid → kid < end

  -- a box, and all that is in it, stands before another
  pub record IsPast (k d : ℕ) : Type 0 where
    pub end : ℕ
    pub to : end ≤ d
    pub here : k < end
    pub closes : Closes k end

  parent-there : (at kid : ℕ) → IsKid tree.boxes at kid → slice_get (map (λ (b : BoxNode). b.parent) tree.boxes) kid ≡ Some (Some at)
  parent-there at kid i = slice_get-map (λ (b : BoxNode). b.parent) tree.boxes kid ∙ by (slice_get tree.boxes kid) i.parent
    where
      by : (o : Option BoxNode) → option_and_then (λ (b : BoxNode). b.parent) o ≡ Some at → option_map (λ (b : BoxNode). b.parent) o ≡ Some (Some at)
      by None e = absurd (cc)
      by (Some b) e = ap Some e

  -- of two boxes in the same box, all that is in the first stands before the second
  pub siblings-close : (parent k next : ℕ) → IsKid tree.boxes parent k → IsKid tree.boxes parent next → k < next → Closes k next
  siblings-close parent k next first second rising at kid from below i = by (cases_order kid next)
    where
      after : parent < k
      after = first.after

      by : (kid ≡ next) ⊎ ((kid < next) ⊎ (next < kid)) → kid < next
      by (inl same) =
          let one = i.parent in
          let other = second.parent in
          let parents : at ≡ parent = cc in
          absurd (omega arith)
      by (inr (inl before)) = before
      by (inr (inr past)) =
          let between : IsTrue (nat_lt at (suc parent)) = tree.ok.in_order at next kid (Some parent) (parent-there at kid i) (parent-there parent next second) below past in
          let inside : at < suc parent = grind (arith, nat_tests, between) in
          absurd (omega arith)

  past-kid : (b k d : ℕ) → IsKid tree.boxes b k → IsPast b d → IsPast k d
  past-kid b k d i p =
      let after = i.after in
      let here = p.here in
      record { end = p.end; to = p.to; here = p.closes b k (omega arith) here i; closes = λ at kid from below j. p.closes at kid (omega arith) below j }

  -- ---- the children in the flow of a box

  abbrev pub IsFlowKidOf : ℕ → ℕ → Type 0
  IsFlowKidOf b k = (is_floated_at tree k ≡ true) ⊎ IsKid tree.boxes b k

  pub flow-kids : (b : ℕ) → AllByRecursion (IsFlowKidOf b) (flow_children tree b)
  flow-kids b = by (holds_inline tree b) refl
    where
      by : (h : Bool) → holds_inline tree b ≡ h → AllByRecursion (IsFlowKidOf b) (flow_children tree b)
      by true e = rw e (All-implied (λ k. is_floated_at tree k ≡ true) (IsFlowKidOf b) (float_boxes (content tree b)) (λ k f. inl f) (content-floats tree b))
      by false e = rw e (All-implied (IsKid tree.boxes b) (IsFlowKidOf b) (kids_of tree.boxes b) (λ k i. inr i) ((forest tree).kids b))

  -- one that doesn't float stands, with all that is in it, before later ones that don't
  abbrev pub IsBeforeIn : ℕ → ℕ → Type 0
  IsBeforeIn k j = is_floated_at tree k ≡ false → is_floated_at tree j ≡ false → (k < j) × Closes k j

  abbrev pub AreRising : List ℕ → Type 0
  AreRising [] = Unit {0}
  AreRising (k ∷ ks) = AllByRecursion (IsBeforeIn k) ks × AreRising ks

  floats-rise : (ks : List ℕ) → AllByRecursion (λ k. is_floated_at tree k ≡ true) ks → AreRising ks
  floats-rise [] a = tt
  floats-rise (k ∷ ks) a = (All-implied (λ j. is_floated_at tree j ≡ true) (IsBeforeIn k) ks (λ j f e g. absurd (let h = a.0 in cc)) a.1, floats-rise ks a.1)

  kids-rise : (b low : ℕ) (ks : List ℕ) → AllByRecursion (IsKid tree.boxes b) ks → IsTrue (ascends low ks) → AreRising ks
  kids-rise b low [] a r = tt
  kids-rise b low (k ∷ ks) a r =
      let rest = (both (nat_lt low k) (ascends k ks) r).1 in
      (pairs ks (ascends-each k ks rest) a.1, kids-rise b k ks a.1 rest)
    where
      pairs : (js : List ℕ) → AllByRecursion (λ j. k < j) js → AllByRecursion (IsKid tree.boxes b) js → AllByRecursion (IsBeforeIn k) js
      pairs [] l i = tt
      pairs (j ∷ js) l i = ((λ e f. (l.0, siblings-close b k j a.0 i.0 l.0)), pairs js l.1 i.1)

  pub flow-rises : (b : ℕ) → AreRising (flow_children tree b)
  flow-rises b = by (holds_inline tree b) refl
    where
      by : (h : Bool) → holds_inline tree b ≡ h → AreRising (flow_children tree b)
      by true e = rw e (floats-rise (float_boxes (content tree b)) (content-floats tree b))
      by false e = rw e (kids-rise b b (kids_of tree.boxes b) ((forest tree).kids b) ((forest tree).rising b))

  module _ (own turned : ℕ → Bounds) (s : ℕ) where
    abbrev pub rise : ℕ → Bounds
    rise k = rise_in_flow tree own turned s k

    -- a box ahead that is to be cleared, with its border edge
    pub data Ahead : Bounds → List ℕ → ℕ → ℤ → Type 0 where
      here : {b : Bounds} {k : ℕ} {ks : List ℕ} {e : ℤ} → IsLevelIn (grown b (all_around (4 * s))) e → Ahead b (k ∷ ks) k e
      inside : {b : Bounds} {k : ℕ} {ks : List ℕ} {d : ℕ} {e : ℤ} → k < length tree.boxes → k < d → is_floated_at tree k ≡ false → has_line tree k ≡ false
          → Ahead (grown b (all_around (16 * s))) (flow_children tree k) d e → Ahead b (k ∷ ks) d e
      later : {b : Bounds} {k : ℕ} {ks : List ℕ} {d : ℕ} {e : ℤ} → (is_floated_at tree k ≡ false → IsPast k d) → Ahead (grown b (rise k)) ks d e → Ahead b (k ∷ ks) d e

    -- all that is ahead goes no farther than the boxes up to there
    pub ahead-level : (b : Bounds) (ks : List ℕ) (d : ℕ) (e : ℤ) → Ahead b ks d e → IsLevelIn (grown b (together rise ks)) e
    ahead-level b [] d e a = elim a [ ]
    ahead-level b (k ∷ ks) _ e (here l) = level-wider (grown b (all_around (4 * s))) (grown b (together rise (k ∷ ks))) e (record { up = omega arith; down = omega arith; aside = omega arith }) l
    ahead-level b (k ∷ ks) d e (inside w n f t a) =
        let all = rise-box tree own turned s k f ∙ ap (grown (all_around (32 * (s + 1)))) (rise-of-kids tree own turned s k w t) in
        let up = ap (λ (x : Bounds). x.up) all in
        let down = ap (λ (x : Bounds). x.down) all in
        let aside = ap (λ (x : Bounds). x.aside) all in
        level-wider (grown (grown b (all_around (16 * s))) (together rise (flow_children tree k))) (grown b (together rise (k ∷ ks))) e (record { up = omega (arith, up); down = omega (arith, down); aside = omega (arith, aside) }) (ahead-level (grown b (all_around (16 * s))) (flow_children tree k) d e a)
    ahead-level b (k ∷ ks) d e (later p a) = level-wider (grown (grown b (rise k)) (together rise ks)) (grown b (together rise (k ∷ ks))) e (record { up = omega arith; down = omega arith; aside = omega arith }) (ahead-level (grown b (rise k)) ks d e a)

    -- one that is pending while boxes come: it is ahead, or it was come to, or it stands behind them all
    pub data Pending (b : Bounds) (ks : List ℕ) (d : ℕ) (e : ℤ) : Type 0 where
      ahead : Ahead b ks d e → Pending b ks d e
      gone : IsLevelIn b e → Pending b ks d e
      behind : AllByRecursion (λ k. is_floated_at tree k ≡ false → IsPast k d) ks → Pending b ks d e

    abbrev pub IsPending : Bounds → List ℕ → Option (ℕ × ℤ) → Type 0
    IsPending b ks None = Unit {0}
    IsPending b ks (Some c) = Pending b ks c.0 c.1

    -- after the next box
    step-ahead : (b : Bounds) (k : ℕ) (ks : List ℕ) (d : ℕ) (e : ℤ) → Ahead b (k ∷ ks) d e → Pending (grown b (rise k)) ks d e
    step-ahead b k ks _ e (here l) = gone (level-wider (grown b (all_around (4 * s))) (grown b (rise k)) e (record { up = omega arith; down = omega arith; aside = omega arith }) l)
    step-ahead b k ks d e (inside w n f t a) =
        let all = rise-box tree own turned s k f ∙ ap (grown (all_around (32 * (s + 1)))) (rise-of-kids tree own turned s k w t) in
        let up = ap (λ (x : Bounds). x.up) all in
        let down = ap (λ (x : Bounds). x.down) all in
        let aside = ap (λ (x : Bounds). x.aside) all in
        gone (level-wider (grown (grown b (all_around (16 * s))) (together rise (flow_children tree k))) (grown b (rise k)) e (record { up = omega (arith, up); down = omega (arith, down); aside = omega (arith, aside) }) (ahead-level (grown b (all_around (16 * s))) (flow_children tree k) d e a))
    step-ahead b k ks d e (later p a) = ahead a

    pub step-pending : (b : Bounds) (k : ℕ) (ks : List ℕ) (d : ℕ) (e : ℤ) → Pending b (k ∷ ks) d e → Pending (grown b (rise k)) ks d e
    step-pending b k ks d e (ahead a) = step-ahead b k ks d e a
    step-pending b k ks d e (gone l) = gone (level-wider b (grown b (rise k)) e (inside-grown b (rise k)) l)
    step-pending b k ks d e (behind a) = behind a.1

    past-apart : (k d : ℕ) → k ≡ d → IsPast k d → ⊥
    past-apart k d e p = let here = p.here in let to = p.to in omega arith

    -- where it is come to
    match-ahead : (b : Bounds) (k : ℕ) (ks : List ℕ) (d : ℕ) (e : ℤ) → k ≡ d → is_floated_at tree k ≡ false → Ahead b (k ∷ ks) d e → IsLevelIn (grown b (all_around (4 * s))) e
    match-ahead b k ks _ e same f (here l) = l
    match-ahead b k ks d e same f (inside w n g t a) = absurd (omega arith)
    match-ahead b k ks d e same f (later p a) = absurd (past-apart k d same (p f))

    pub match-pending : (b : Bounds) (k : ℕ) (ks : List ℕ) (d : ℕ) (e : ℤ) → k ≡ d → is_floated_at tree k ≡ false → Pending b (k ∷ ks) d e → IsLevelIn (grown b (all_around (4 * s))) e
    match-pending b k ks d e same f (ahead a) = match-ahead b k ks d e same f a
    match-pending b k ks d e same f (gone l) = level-wider b (grown b (all_around (4 * s))) e (inside-grown b (all_around (4 * s))) l
    match-pending b k ks d e same f (behind a) = absurd (past-apart k d same (a.0 f))

    -- within the next box
    kids-past : (b d : ℕ) → IsPast b d → AllByRecursion (λ k. is_floated_at tree k ≡ false → IsPast k d) (flow_children tree b)
    kids-past b d p = All-implied (IsFlowKidOf b) (λ k. is_floated_at tree k ≡ false → IsPast k d) (flow_children tree b) (λ k i f. one k i f) (flow-kids b)
      where
        one : (k : ℕ) → IsFlowKidOf b k → is_floated_at tree k ≡ false → IsPast k d
        one k (inl t) f = absurd (cc)
        one k (inr i) f = past-kid b k d i p

    enter-ahead : (b : Bounds) (k : ℕ) (ks : List ℕ) (d : ℕ) (e : ℤ) → is_floated_at tree k ≡ false → Ahead b (k ∷ ks) d e → Pending (grown b (all_around (16 * s))) (flow_children tree k) d e
    enter-ahead b k ks _ e f (here l) = gone (level-wider (grown b (all_around (4 * s))) (grown b (all_around (16 * s))) e (record { up = omega arith; down = omega arith; aside = omega arith }) l)
    enter-ahead b k ks d e f (inside w n g t a) = ahead a
    enter-ahead b k ks d e f (later p a) = behind (kids-past k d (p f))

    pub enter-pending : (b : Bounds) (k : ℕ) (ks : List ℕ) (d : ℕ) (e : ℤ) → is_floated_at tree k ≡ false → Pending b (k ∷ ks) d e → Pending (grown b (all_around (16 * s))) (flow_children tree k) d e
    enter-pending b k ks d e f (ahead a) = enter-ahead b k ks d e f a
    enter-pending b k ks d e f (gone l) = gone (level-wider b (grown b (all_around (16 * s))) e (inside-grown b (all_around (16 * s))) l)
    enter-pending b k ks d e f (behind a) = behind (kids-past k d (a.0 f))

-- More levels change neither the way forward nor the steps through what is in a box.
use Rattle.std.proofs.Common.{◌≡◌, ℕ, zero, suc, ◌+◌, ◌<◌, ◌≤◌, ℤ, Bool, true, false, List, [], ◌∷◌, ◌++◌, length, Option, refl, sym, ap, ◌∙◌, arith}
use Rattle.std.specs.List.{AllByRecursion}
use Rattle.viz_base.specs.declared.layouts.Band.{Band}
use Rattle.viz_base.specs.declared.layouts.Extent.{Extent}
use Rattle.viz_base.specs.declared.layouts.Waiting.{Waiting}
use Rattle.viz_base.specs.declared.trees.BoxTree.{BoxTree}
use Rattle.viz_base.specs.declared.worlds.World.{World}
use Rattle.layout_semantics.specs.Floats.{FloatBox}
use Rattle.layout_semantics.specs.Rectangles.{Frame, content_top}
use Rattle.layout_semantics.specs.FlowBoxes.{is_replaced_at, is_context_root, flow_children, inline_size, content_from}
use Rattle.layout_semantics.specs.InlineContent.{is_floated_at, has_line}
use Rattle.layout_semantics.specs.Flow.{Independent, Reached}
use Rattle.layout_semantics.specs.Clearance.{Base, on_ground}
use Rattle.layout_laws.proofs.Levels.{IsFrom}
use Rattle.layout_laws.proofs.LeadLevels.{children-from}
use Rattle.lay_margin.specs.declared.runs.Run.{Run}
use Rattle.lay_margin.specs.Runs.{with_margin}
use Rattle.lay_margin.specs.steps.Leads.{inner_band, margin_above}
use Rattle.lay_steps.specs.Forward.{Found, found, goes_on, then_on, inside_found, passed_box, kid_of, kids_found, box_found, forward_step, forward_to}
use Rattle.lay_steps.specs.Flow.{Context, fresh, Step, step, followed, children, frame_of, standing_in, opened, Laid, laid, laid_context, laid_block, reached_of, float_of, standing_after, flow_child, child, in_lines, content_step, content_to, content_of, children_of}
use Rattle.lay_steps.proofs.StepCases.{step-lines, step-children}

-- ---- the way forward

module _ (tree : BoxTree) (w : World) (size : Waiting ℤ → Extent ℤ) (base : Base) (floats : List FloatBox) (least : Option ℤ) (p : ℕ → Bool) where
  kids-same : (f g : Run ℤ → List (Waiting ℤ) → ℕ → Found) (P : ℕ → Type 0) (ks : List ℕ) (run : Run ℤ) (ws : List (Waiting ℤ)) → AllByRecursion P ks
      → ((k : ℕ) (r : Run ℤ) (v : List (Waiting ℤ)) → P k → f r v k ≡ g r v k) → kids_found tree w f ks run ws ≡ kids_found tree w g ks run ws
  kids-same f g P [] run ws a same = refl
  kids-same f g P (k ∷ ks) run ws a same =
      ap (λ (t : Found). then_on t (kids_found tree w f ks t.run t.waiting)) (same k run ws a.0)
      ∙ ap (then_on (g run ws k)) (kids-same f g P ks (g run ws k).run (g run ws k).waiting a.1 same)

  way-enough : (n m b : ℕ) (cb : Band ℤ) (run : Run ℤ) (ws : List (Waiting ℤ)) → b < length tree.boxes → length tree.boxes ≤ n + b → length tree.boxes ≤ m + b
      → forward_to (on_ground tree w size base floats least) p n cb b run ws ≡ forward_to (on_ground tree w size base floats least) p m cb b run ws
  unfolding forward_to kid_of
  way-enough zero m b cb run ws l i j = absurd (omega arith)
  way-enough (suc n) zero b cb run ws l i j = absurd (omega arith)
  way-enough (suc n) (suc m) b cb run ws l i j =
      let band = inner_band tree w cb b in
      let own = with_margin run (margin_above tree w cb b) in
      ap (λ (t : Found). box_found (on_ground tree w size base floats least) p cb b run ws (inside_found tree b own ws t))
      (kids-same (kid_of tree w (forward_to (on_ground tree w size base floats least) p n band) band) (kid_of tree w (forward_to (on_ground tree w size base floats least) p m band) band) (IsFrom tree.boxes (suc b)) (flow_children tree b) own ws (children-from tree b)
      (λ k r v f. let after = f.from in
      ap (λ (t : Found). elim (is_floated_at tree k) as (λ _. Found) [ true ↦ found r (v ++ record { at = k; cb = band } ∷ []) goes_on | false ↦ passed_box tree w band k t ])
      (way-enough n m k band r v f.within (omega arith) (omega arith))))

  pub way-is : (b : ℕ) (cb : Band ℤ) (run : Run ℤ) (ws : List (Waiting ℤ)) → b < length tree.boxes
      → forward_to (on_ground tree w size base floats least) p (length tree.boxes) cb b run ws
      ≡ forward_step (on_ground tree w size base floats least) p (forward_to (on_ground tree w size base floats least) p (length tree.boxes)) cb b run ws
  unfolding forward_to
  way-is b cb run ws l = way-enough (length tree.boxes) (suc (length tree.boxes)) b cb run ws l (omega arith) (omega arith)

-- ---- the steps through what is in a box

module _ (tree : BoxTree) (w : World) (apart : ℕ → Independent) (f g : ℕ → Band ℤ → ℤ → Context → Step) (b : ℕ)
    (same : (k : ℕ) → IsFrom tree.boxes (suc b) k → (cb : Band ℤ) (top : ℤ) (s : Context) → f k cb top s ≡ g k cb top s) where
  laid-same : (cb : Band ℤ) (s : Context) (k : ℕ) (r : Reached) → IsFrom tree.boxes (suc b) k → laid tree w f cb s k r ≡ laid tree w g cb s k r
  unfolding laid laid_context laid_block
  laid-same cb s k r h = by (is_replaced_at tree k) (is_context_root tree k) refl refl
    where
      frame : Frame
      frame = frame_of tree w k (inline_size cb) cb.left r.top

      by : (replaced context : Bool) → is_replaced_at tree k ≡ replaced → is_context_root tree k ≡ context → laid tree w f cb s k r ≡ laid tree w g cb s k r
      by true context d e = rw d refl
      by false true d e = rw (d, e, same k h (content_from cb.left frame.x) (content_top frame) (fresh (content_top frame))) refl
      by false false d e = rw (d, e, same k h (content_from cb.left frame.x) (content_top frame) (opened s frame (standing_in tree k r.cleared frame))) refl

  child-same : (cb : Band ℤ) (top : ℤ) (s : Context) (k : ℕ) → IsFrom tree.boxes (suc b) k → child tree w f apart cb top s k ≡ child tree w g apart cb top s k
  unfolding child flow_child
  child-same cb top s k h =
      let m = reached_of tree w apart cb s k in
      ap (λ (l : Laid). elim (is_floated_at tree k) as (λ _. Step) [
        | true ↦ float_of tree w apart cb top s k
        | false ↦ step (record l.after.context { standing = standing_after tree w cb s.standing k m l.ending }) l.after.boxes
      ]) (laid-same cb s k m.reached h)

  children-same : (cb : Band ℤ) (top : ℤ) (s : Context) (ks : List ℕ) → AllByRecursion (IsFrom tree.boxes (suc b)) ks
      → children (child tree w f apart cb top) s ks ≡ children (child tree w g apart cb top) s ks
  children-same cb top s [] a = refl
  children-same cb top s (k ∷ ks) a =
      let next = child tree w g apart cb top s k in
      ap (λ (t : Step). followed t (children (child tree w f apart cb top) t.context ks)) (child-same cb top s k a.0)
      ∙ ap (followed next) (children-same cb top next.context ks a.1)

  step-same : (cb : Band ℤ) (top : ℤ) (s : Context) → content_step tree w f apart b cb top s ≡ content_step tree w g apart b cb top s
  unfolding content_step
  step-same cb top s =
      ap (λ (q : Step). elim (has_line tree b) as (λ _. Step) [ true ↦ in_lines tree w apart b cb top s | false ↦ q ])
      (children-same cb top s (flow_children tree b) (children-from tree b))

module _ (tree : BoxTree) (w : World) (apart : ℕ → Independent) where
  content-enough : (n m b : ℕ) (cb : Band ℤ) (top : ℤ) (s : Context) → b < length tree.boxes → length tree.boxes ≤ n + b → length tree.boxes ≤ m + b
      → content_to tree w apart n b cb top s ≡ content_to tree w apart m b cb top s
  unfolding content_to
  content-enough zero m b cb top s l i j = absurd (omega arith)
  content-enough (suc n) zero b cb top s l i j = absurd (omega arith)
  content-enough (suc n) (suc m) b cb top s l i j =
      step-same tree w apart (content_to tree w apart n) (content_to tree w apart m) b
      (λ k h cb top s. let after = h.from in content-enough n m k cb top s h.within (omega arith) (omega arith)) cb top s

  pub content-is : (b : ℕ) (cb : Band ℤ) (top : ℤ) (s : Context) → b < length tree.boxes
      → content_of tree w apart b cb top s ≡ content_step tree w (content_of tree w apart) apart b cb top s
  unfolding content_to
  content-is b cb top s l = content-enough (length tree.boxes) (suc (length tree.boxes)) b cb top s l (omega arith) (omega arith)

  -- its lines, or its children one after another
  pub by-lines : (b : ℕ) (cb : Band ℤ) (top : ℤ) (s : Context) → b < length tree.boxes → has_line tree b ≡ true → in_lines tree w apart b cb top s ≡ content_of tree w apart b cb top s
  by-lines b cb top s l e = sym (content-is b cb top s l ∙ step-lines tree w (content_of tree w apart) apart cb top s b e)

  pub by-children : (b : ℕ) (cb : Band ℤ) (top : ℤ) (s : Context) → b < length tree.boxes → (ks : List ℕ) → has_line tree b ≡ false → ks ≡ flow_children tree b
      → children_of tree w apart cb top s ks ≡ content_of tree w apart b cb top s
  by-children b cb top s l ks e is = ap (children_of tree w apart cb top s) is ∙ sym (content-is b cb top s l ∙ step-children tree w (content_of tree w apart) apart cb top s b e)

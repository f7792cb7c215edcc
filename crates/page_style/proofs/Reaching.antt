-- One node after another has its style.
use Rattle.std.proofs.Common.{◌≡◌, ℕ, zero, suc, ◌+◌, ◌<◌, ◌≤◌, Bool, true, false, List, [], ◌∷◌, ◌++◌, length, Option, Some, None, option_and_then, slice_get, refl, sym, ap, subst, ◌∙◌, arith, length-append}
use Rattle.std.proofs.lemmas.Option.{same_Some}
use Rattle.viz_base.specs.Pages.{IsPage, is_element}
use Rattle.viz_base.specs.declared.fonts.Font.{Font}
use Rattle.viz_base.specs.declared.lengths.Sides.{Sides}
use Rattle.viz_base.specs.declared.nodes.Node.{Node}
use Rattle.viz_base.specs.declared.settings.Setting.{Setting}
use Rattle.viz_base.specs.declared.styles.Style.{Style}
use Rattle.css_semantics.specs.ComputedValues.{AreComputed, AreDrawn, IsComputed, IsOfText, of_parent}
use Rattle.layout_laws.proofs.Above.{parent_is}

-- ---- places of lists

pub get_split : {X : Type 0} (C : Type 0) (xs : List X) (y : X) (at : ℕ) (x : X) → (at < length xs → slice_get xs at ≡ Some x → C) → (at ≡ length xs → y ≡ x → C) → slice_get (xs ++ y ∷ []) at ≡ Some x → C
get_split C [] y zero x before here e = here refl (cc)
get_split C [] y (suc at) x before here e = absurd (cc)
get_split C (z ∷ xs) y zero x before here e = before (omega arith) e
get_split C (z ∷ xs) y (suc at) x before here e = get_split C xs y at x (λ l h. before (omega (arith, l)) h) (λ l h. here (omega (arith, l)) h) e

get_kept : {X : Type 0} (xs : List X) (y : X) (at : ℕ) → at < length xs → slice_get (xs ++ y ∷ []) at ≡ slice_get xs at
get_kept [] y at l = absurd (omega (arith, l))
get_kept (x ∷ xs) y zero l = refl
get_kept (x ∷ xs) y (suc at) l = get_kept xs y at (omega (arith, l))

module _ (nodes : List Node) (winners : List (List Setting)) (fonts : List Font) (page : IsPage nodes) where
  -- the first of the nodes have these
  pub record Reached (k : ℕ) (styles : List Style) (drawn : List (Sides Bool)) : Type 0 where
    pub style_each : length styles ≡ k
    pub drawn_each : length drawn ≡ k
    pub borders : (at : ℕ) (n : Node) (ws : List Setting) (d : Sides Bool) → slice_get nodes at ≡ Some n → slice_get winners at ≡ Some ws → slice_get drawn at ≡ Some d → AreDrawn ws (of_parent drawn n) d
    pub elements : (at : ℕ) (n : Node) (ws : List Setting) (d : Sides Bool) (s : Style) → slice_get nodes at ≡ Some n → is_element n.body ≡ true → slice_get winners at ≡ Some ws → slice_get drawn at ≡ Some d → slice_get styles at ≡ Some s → IsComputed fonts at ws d (of_parent styles n) s
    pub texts : (at : ℕ) (n : Node) (t s : Style) → slice_get nodes at ≡ Some n → is_element n.body ≡ false → of_parent styles n ≡ Some t → slice_get styles at ≡ Some s → IsOfText t s

  pub start : Reached 0 [] []
  start = record {
    style_each = refl;
    drawn_each = refl;
    borders = λ at n ws d e f g. absurd (cc);
    elements = λ at n ws d s e b f g h. absurd (cc);
    texts = λ at n t s e b f h. absurd (cc);
  }

  parent_below : (at : ℕ) (n : Node) (q : ℕ) → slice_get nodes at ≡ Some n → n.parent ≡ Some q → q < at
  parent_below at n q e p = (parent_is nodes page at q (subst (λ (o : Option Node). option_and_then (λ (m : Node). m.parent) o ≡ Some q) (sym e) p)).0

  -- what the parent has stays, since it is before the node
  parent_kept : {X : Type 0} (xs : List X) (y : X) (at : ℕ) (n : Node) → at ≤ length xs → slice_get nodes at ≡ Some n → of_parent xs n ≡ of_parent (xs ++ y ∷ []) n
  parent_kept {X} xs y at n l e = by_parent n.parent refl
    where
      by_parent : (o : Option ℕ) → n.parent ≡ o → option_and_then (slice_get xs) o ≡ option_and_then (slice_get (xs ++ y ∷ [])) o
      by_parent None p = refl
      by_parent (Some q) p = let below = parent_below at n q e p in sym (get_kept xs y q (omega (arith, below, l)))

  pub more : (k : ℕ) (styles : List Style) (drawn : List (Sides Bool)) (n : Node) (ws : List Setting) (s : Style) (d : Sides Bool) → Reached k styles drawn
      → slice_get nodes k ≡ Some n → slice_get winners k ≡ Some ws → AreDrawn ws (of_parent drawn n) d
      → (is_element n.body ≡ true → IsComputed fonts k ws d (of_parent styles n) s)
      → (is_element n.body ≡ false → (t : Style) → of_parent styles n ≡ Some t → IsOfText t s)
      → Reached (k + 1) (styles ++ s ∷ []) (drawn ++ d ∷ [])
  more k styles drawn n ws s d r is_n is_ws are_drawn element text =
      let ls = r.style_each in
      let ld = r.drawn_each in
      record {
        style_each = omega (arith, length-append styles (s ∷ []), ls);
        drawn_each = omega (arith, length-append drawn (d ∷ []), ld);
        borders = λ at m vs c e f g. get_split (AreDrawn vs (of_parent (drawn ++ d ∷ []) m) c) drawn d at c
            (λ l h. subst (λ p. AreDrawn vs p c) (parent_kept drawn d at m (omega (arith, l)) e) (r.borders at m vs c e f h))
            (λ l h. let same : at ≡ k = omega (arith, l, ld) in
            let is_m = same_Some n m (sym is_n ∙ ap (slice_get nodes) (sym same) ∙ e) in
            let is_vs = same_Some ws vs (sym is_ws ∙ ap (slice_get winners) (sym same) ∙ f) in
            subst (AreDrawn vs (of_parent (drawn ++ d ∷ []) m)) h (subst (λ x. AreDrawn x (of_parent (drawn ++ d ∷ []) m) d) is_vs (subst (λ p. AreDrawn ws p d) (parent_kept drawn d at m (omega (arith, l)) e) (subst (λ x. AreDrawn ws (of_parent drawn x) d) is_m are_drawn)))) g;
        elements = λ at m vs c t e b f g h. get_split (IsComputed fonts at vs c (of_parent (styles ++ s ∷ []) m) t) styles s at t
            (λ l i. get_split (IsComputed fonts at vs c (of_parent (styles ++ s ∷ []) m) t) drawn d at c
            (λ l2 j. subst (λ p. IsComputed fonts at vs c p t) (parent_kept styles s at m (omega (arith, l)) e) (r.elements at m vs c t e b f j i))
            (λ l2 j. absurd (omega (arith, l, l2, ls, ld))) g)
            (λ l i. get_split (IsComputed fonts at vs c (of_parent (styles ++ s ∷ []) m) t) drawn d at c
            (λ l2 j. absurd (omega (arith, l, l2, ls, ld)))
            (λ l2 j. let same : at ≡ k = omega (arith, l, ls) in
            let is_m = same_Some n m (sym is_n ∙ ap (slice_get nodes) (sym same) ∙ e) in
            let is_vs = same_Some ws vs (sym is_ws ∙ ap (slice_get winners) (sym same) ∙ f) in
            let first : IsComputed fonts k ws d (of_parent styles m) s = subst (λ x. IsComputed fonts k ws d (of_parent styles x) s) is_m (element (subst (λ (x : Node). is_element x.body ≡ true) (sym is_m) b)) in
            let second : IsComputed fonts k ws d (of_parent (styles ++ s ∷ []) m) s = subst (λ p. IsComputed fonts k ws d p s) (parent_kept styles s at m (omega (arith, l)) e) first in
            let third : IsComputed fonts at ws d (of_parent (styles ++ s ∷ []) m) s = subst (λ x. IsComputed fonts x ws d (of_parent (styles ++ s ∷ []) m) s) (sym same) second in
            let fourth : IsComputed fonts at vs d (of_parent (styles ++ s ∷ []) m) s = subst (λ x. IsComputed fonts at x d (of_parent (styles ++ s ∷ []) m) s) is_vs third in
            let fifth : IsComputed fonts at vs c (of_parent (styles ++ s ∷ []) m) s = subst (λ x. IsComputed fonts at vs x (of_parent (styles ++ s ∷ []) m) s) j fourth in
            subst (IsComputed fonts at vs c (of_parent (styles ++ s ∷ []) m)) i fifth) g) h;
        texts = λ at m t u e b f h. get_split (IsOfText t u) styles s at u
            (λ l i. r.texts at m t u e b (parent_kept styles s at m (omega (arith, l)) e ∙ f) i)
            (λ l i. let same : at ≡ k = omega (arith, l, ls) in
            let is_m = same_Some n m (sym is_n ∙ ap (slice_get nodes) (sym same) ∙ e) in
            let up : of_parent styles n ≡ Some t = ap (of_parent styles) is_m ∙ (parent_kept styles s at m (omega (arith, l)) e ∙ f) in
            subst (IsOfText t) i (text (subst (λ (x : Node). is_element x.body ≡ false) (sym is_m) b) t up)) h;
      }

  pub finish : (k : ℕ) (styles : List Style) (drawn : List (Sides Bool)) → k ≡ length nodes → Reached k styles drawn → AreComputed nodes winners fonts styles
  finish k styles drawn e r = record {
    drawn = drawn;
    one_style_each = r.style_each ∙ e;
    one_drawn_each = r.drawn_each ∙ e;
    borders = r.borders;
    elements = r.elements;
    texts = r.texts;
  }

-- The nodes of a page have one list of styles.
use Rattle.std.proofs.Common.{◌≡◌, ℕ, zero, suc, ◌<◌, ◌≤◌, ◌⊎◌, Bool, true, false, List, [], ◌∷◌, length, Option, Some, None, inl, inr, refl, sym, ◌∙◌, ap, subst, arith}
use Rattle.std.specs.Prelude.{slice_get, nat_lt, option_and_then, get_or, ◌==◌}
use Rattle.std.specs.Option.{option_map_or}
use Rattle.std.proofs.lemmas.Bool.{and_parts, false≢true}
use Rattle.std.proofs.lemmas.Bool.Decides.{nat_tests}
use Rattle.std.proofs.lemmas.Option.{none-some, same_Some, slice_get_cases, slice_get_past, slice_get_within}
use Rattle.viz_base.specs.declared.fonts.Font.{Font}
use Rattle.viz_base.specs.declared.lengths.Length.{Length}
use Rattle.viz_base.specs.declared.lengths.Sides.{Sides}
use Rattle.viz_base.specs.declared.nodes.Node.{Node}
use Rattle.viz_base.specs.declared.settings.Setting.{Setting}
use Rattle.viz_base.specs.declared.styles.Style.{Style}
use Rattle.viz_base.specs.Pages.{is_element, is_element_at, parent_fits}
use Rattle.viz_base.proofs.ListLemmas.{slice_some}
use Rattle.css_semantics.specs.ComputedValues.{AreComputed, AreDrawn, IsComputed, IsOfText, of_parent}
use Rattle.page_json.specs.Pages.{IsDocument}
use Rattle.page_build.proofs.SameFields.{same_style}

-- ---- one node

one_drawn : {ws : List Setting} {parent : Option (Sides Bool)} {d e : Sides Bool} → AreDrawn ws parent d → AreDrawn ws parent e → d ≡ e
one_drawn h k = λ i. record { top = (h.top ∙ sym k.top) i; right = (h.right ∙ sym k.right) i; bottom = (h.bottom ∙ sym k.bottom) i; left = (h.left ∙ sym k.left) i }

same_sides : {a b : Sides Length} → a.top ≡ b.top → a.right ≡ b.right → a.bottom ≡ b.bottom → a.left ≡ b.left → a ≡ b
same_sides top right bottom left = λ i. record { top = top i; right = right i; bottom = bottom i; left = left i }

one_element : {fonts : List Font} {at : ℕ} {ws : List Setting} {d : Sides Bool} {parent : Option Style} {s t : Style} → IsComputed fonts at ws d parent s → IsComputed fonts at ws d parent t → s ≡ t
one_element {s = s} {t = t} h k =
    let a = h.lengths in
    let b = k.lengths in
    same_style s t (record {
      display = h.display ∙ sym k.display;
      float = h.float ∙ sym k.float;
      clear = h.clear ∙ sym k.clear;
      clips = h.clips ∙ sym k.clips;
      width = a.width_is ∙ sym b.width_is;
      min_width = a.min_width_is ∙ sym b.min_width_is;
      max_width = a.max_width_is ∙ sym b.max_width_is;
      height = a.height_is ∙ sym b.height_is;
      min_height = a.min_height_is ∙ sym b.min_height_is;
      max_height = a.max_height_is ∙ sym b.max_height_is;
      margin = same_sides (a.margin_top ∙ sym b.margin_top) (a.margin_right ∙ sym b.margin_right) (a.margin_bottom ∙ sym b.margin_bottom) (a.margin_left ∙ sym b.margin_left);
      padding = same_sides (a.padding_top ∙ sym b.padding_top) (a.padding_right ∙ sym b.padding_right) (a.padding_bottom ∙ sym b.padding_bottom) (a.padding_left ∙ sym b.padding_left);
      border = same_sides (a.border_top ∙ sym b.border_top) (a.border_right ∙ sym b.border_right) (a.border_bottom ∙ sym b.border_bottom) (a.border_left ∙ sym b.border_left);
      font = h.font ∙ sym k.font;
      line = h.line ∙ sym k.line;
      valign = h.valign ∙ sym k.valign;
      align = h.align ∙ sym k.align;
      wraps = h.wraps ∙ sym k.wraps;
    }) (h.size ∙ sym k.size)

one_text : {parent s t : Style} → IsOfText parent s → IsOfText parent t → s ≡ t
one_text {s = s} {t = t} h k =
    let a = h.alike in
    let b = k.alike in
    same_style s t (record {
      display = a.display ∙ sym b.display;
      float = a.float ∙ sym b.float;
      clear = a.clear ∙ sym b.clear;
      clips = a.clips ∙ sym b.clips;
      width = a.width ∙ sym b.width;
      min_width = a.min_width ∙ sym b.min_width;
      max_width = a.max_width ∙ sym b.max_width;
      height = a.height ∙ sym b.height;
      min_height = a.min_height ∙ sym b.min_height;
      max_height = a.max_height ∙ sym b.max_height;
      margin = a.margin ∙ sym b.margin;
      padding = a.padding ∙ sym b.padding;
      border = a.border ∙ sym b.border;
      font = a.font ∙ sym b.font;
      line = a.line ∙ sym b.line;
      valign = a.valign ∙ sym b.valign;
      align = a.align ∙ sym b.align;
      wraps = a.wraps ∙ sym b.wraps;
    }) (h.size ∙ sym k.size)

-- ---- one node after another

same_items : {A : Type 0} (xs ys : List A) → ((at : ℕ) → slice_get xs at ≡ slice_get ys at) → xs ≡ ys
same_items [] [] e = refl
same_items [] (y ∷ ys) e = absurd (none-some y (e 0))
same_items (x ∷ xs) [] e = absurd (none-some x (sym (e 0)))
same_items (x ∷ xs) (y ∷ ys) e = ap (λ z. z ∷ xs) (same_Some x y (e 0)) ∙ ap (λ zs. y ∷ zs) (same_items xs ys (λ at. e (suc at)))

-- the parent of a node stands before it
parent_before : (nodes : List Node) (at p : ℕ) → parent_fits nodes at (Some p) ≡ true → p < at
parent_before nodes at p h = let l : nat_lt p at ≡ true = (and_parts (nat_lt p at) (is_element_at nodes p) h).0 in grind (arith, nat_tests)

-- lists of what each node has are the same where each item of them follows from the one of the node's parent
abbrev Follows : {A : Type 0} → List Node → List A → List A → Type 0
Follows {A} nodes xs ys = (at : ℕ) (n : Node) (x y : A) → slice_get nodes at ≡ Some n → slice_get xs at ≡ Some x → slice_get ys at ≡ Some y → of_parent xs n ≡ of_parent ys n → x ≡ y

one_each : {A : Type 0} (nodes : List Node) (xs ys : List A) → IsDocument nodes → length xs ≡ length nodes → length ys ≡ length nodes → Follows nodes xs ys → xs ≡ ys
one_each {A} nodes xs ys page lx ly follows = same_items xs ys (λ at. below (suc at) at (omega arith))
  where
    of_parents : (at : ℕ) (parent : Option ℕ) → ((p : ℕ) → p < at → slice_get xs p ≡ slice_get ys p) → parent_fits nodes at parent ≡ true
        → option_and_then (slice_get xs) parent ≡ option_and_then (slice_get ys) parent
    of_parents at None before fits = refl
    of_parents at (Some p) before fits = before p (parent_before nodes at p fits)

    step : (at : ℕ) → ((p : ℕ) → p < at → slice_get xs p ≡ slice_get ys p)
        → ((n : Node) × (at < length nodes) × (slice_get nodes at ≡ Some n) × (get_or nodes at n ≡ n)) ⊎ ((length nodes ≤ at) × (slice_get nodes at ≡ None))
        → slice_get xs at ≡ slice_get ys at
    step at before (inr h) = slice_get_past xs at (omega (arith, h.0, lx)) ∙ sym (slice_get_past ys at (omega (arith, h.0, ly)))
    step at before (inl h) =
        let x = slice_some xs at (omega (arith, h.1, lx)) in
        let y = slice_some ys at (omega (arith, h.1, ly)) in
        x.1 ∙ (ap Some (follows at h.0 x.0 y.0 h.2 x.1 y.1 (of_parents at h.0.parent before (page.parents at h.0 h.2))) ∙ sym y.1)

    below : (k at : ℕ) → at < k → slice_get xs at ≡ slice_get ys at
    below zero at l = absurd (omega (arith, l))
    below (suc k) at l = step at (λ p m. below k p (omega (arith, l, m))) (slice_get_cases nodes at).1

-- ---- computed values

-- a text has a parent, which stands before it
text_parent : {nodes : List Node} {at : ℕ} {n : Node} → IsDocument nodes → slice_get nodes at ≡ Some n → is_element n.body ≡ false → (p : ℕ) × (n.parent ≡ Some p) × (p < at)
text_parent {nodes = nodes} {at = at} {n = n} page e text = by_parent n.parent refl (page.parents at n e)
  where
    root : (at == 0) ≡ true → ⊥
    root h =
        let first : at ≡ 0 = grind (arith, nat_tests) in
        let f : slice_get nodes 0 ≡ Some n = subst (λ k. slice_get nodes k ≡ Some n) first e in
        false≢true (sym text ∙ (ap (λ o. option_map_or (λ (m : Node). is_element m.body) o false) (sym f) ∙ page.root))

    by_parent : (o : Option ℕ) → n.parent ≡ o → parent_fits nodes at o ≡ true → (p : ℕ) × (n.parent ≡ Some p) × (p < at)
    by_parent None f h = absurd (root h)
    by_parent (Some p) f h = (p, f, parent_before nodes at p h)

pub one_styles : {nodes : List Node} {winners : List (List Setting)} {fonts : List Font} {s t : List Style} → IsDocument nodes → length winners ≡ length nodes
    → AreComputed nodes winners fonts s → AreComputed nodes winners fonts t → s ≡ t
one_styles {nodes = nodes} {winners = winners} {fonts = fonts} {s = s} {t = t} page lw h k =
    one_each nodes s t page h.one_style_each k.one_style_each (λ at n x y en ex ey before. by_body (is_element n.body) at n x y refl en ex ey before)
  where
    drawn : h.drawn ≡ k.drawn
    drawn = one_each nodes h.drawn k.drawn page h.one_drawn_each k.one_drawn_each (λ at n x y en ex ey before.
        (let ws = slice_some winners at (omega (arith, slice_get_within nodes at n en, lw)) in
        one_drawn (h.borders at n ws.0 x en ws.1 ex) (subst (λ o. AreDrawn ws.0 o y) (sym before) (k.borders at n ws.0 y en ws.1 ey))))

    by_body : (b : Bool) (at : ℕ) (n : Node) (x y : Style) → is_element n.body ≡ b → slice_get nodes at ≡ Some n → slice_get s at ≡ Some x → slice_get t at ≡ Some y → of_parent s n ≡ of_parent t n → x ≡ y
    by_body true at n x y is en ex ey before =
        let l : at < length nodes = slice_get_within nodes at n en in
        let ws = slice_some winners at (omega (arith, l, lw)) in
        let d = slice_some h.drawn at (omega (arith, l, h.one_drawn_each)) in
        let other = k.elements at n ws.0 d.0 y en is ws.1 (subst (λ ds. slice_get ds at ≡ Some d.0) drawn d.1) ey in
        one_element (h.elements at n ws.0 d.0 x en is ws.1 d.1 ex) (subst (λ o. IsComputed fonts at ws.0 d.0 o y) (sym before) other)
    by_body false at n x y is en ex ey before =
        let p = text_parent page en is in
        let parent = slice_some s p.0 (omega (arith, p.2, slice_get_within nodes at n en, h.one_style_each)) in
        let of : of_parent s n ≡ Some parent.0 = ap (option_and_then (slice_get s)) p.1 ∙ parent.1 in
        one_text (h.texts at n parent.0 x en is of ex) (k.texts at n parent.0 y en is (sym before ∙ of) ey)

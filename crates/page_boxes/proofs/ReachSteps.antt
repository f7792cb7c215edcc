-- The walks over boxes find the first that reaches too far, as the definition does.
use Rattle.std.proofs.Common.{◌≡◌, ◌≢◌, ℕ, zero, suc, ◌+◌, ◌*◌, ◌^◌, ◌<◌, ◌≤◌, nat_lt, Bool, true, false, cond, List, [], ◌∷◌, ◌++◌, map, sum, length, get_or, Option, Some, None, Result, Ok, Err, option_map, option_and_then, slice_get, position, refl, sym, ◌∙◌, ap, subst, arith, if◌then◌else◌, inl, inr, ◌⊎◌, ltb-true, lt-ltb, length-append, lit≤, Contains}
use Rattle.std.specs.List.{enumerate_from, position_from}
use Rattle.std.specs.Option.{option_map_or, option_or}
use Rattle.std.specs.Str.{chars}
use Rattle.std.proofs.lemmas.Bool.{cases_eq}
use Rattle.std.proofs.lemmas.Iterator.Adapters.{position_from-zero}
use Rattle.std.proofs.lemmas.List.{get_or_at, get_or_append_left}
use Rattle.std.proofs.lemmas.List.Sums.{sum_by-cons}
use Rattle.std.proofs.lemmas.Option.{slice_get_within, slice_get-map}
use Rattle.viz_base.specs.Trees.{named_nodes}
use Rattle.viz_base.specs.declared.fonts.Font.{Font}
use Rattle.viz_base.specs.declared.lengths.Size.TheVariants as of_size
use Rattle.viz_base.specs.declared.styles.Style.{Style}
use Rattle.viz_base.specs.declared.trees.BoxNode.{BoxNode}
use Rattle.viz_base.specs.FontSizes.{font_size_in, parent_in}
use Rattle.viz_base.specs.Reaches.{beyond_reach, box_extents, box_growth, is_of_element, node_of_place, own_extent, passes_most, quotient_up, ratio, reach_in, reach_to, reaches, sums, text_extent, total_extent, whole}
use Rattle.layout_laws.proofs.FontSizes.{ParentsBefore}
use Rattle.page_boxes.specs.steps.Extents.{capped, far_by, far_of, first_far, most, own_in, size_at, sum_walk, text_in}
use Rattle.page_boxes.specs.steps.Tables.{held}
use Rattle.page_boxes.proofs.Capped.{Alike, alike_add, capped_past, capped_within, past_or_within}
use Rattle.page_boxes.proofs.FontSteps.{IsExact, IsSize, same_size, size_of_node, sizes_of}
use Rattle.page_boxes.proofs.ExtentSteps.{own_alike, own_least, text_alike}

-- a box of an element that stands before a place
pub record HasBox (boxes : List BoxNode) (at m : ℕ) : Type 0 where
  pub place : ℕ
  pub before : place < at
  pub box : BoxNode
  pub there : slice_get boxes place ≡ Some box
  pub node : box.node ≡ m
  pub own : is_of_element box.kind ≡ true

-- what is known of the boxes of a page
pub record AreKnown (styles : List Style) (parents : List (Option ℕ)) (fonts : List Font) (boxes : List BoxNode) : Type 0 where
  pub before : ParentsBefore parents
  pub styled : (at : ℕ) (b : BoxNode) → slice_get boxes at ≡ Some b → (s : Style) × (slice_get styles b.node ≡ Some s)
  pub fonts_there : (node : ℕ) (s : Style) → slice_get styles node ≡ Some s → (font : Font) × (slice_get fonts s.font ≡ Some font)
  pub above : (at q : ℕ) (b : BoxNode) → slice_get boxes at ≡ Some b → parent_in parents b.node ≡ Some q → HasBox boxes at q
  pub named : (at m : ℕ) (b : BoxNode) (s : Style) → slice_get boxes at ≡ Some b → slice_get styles b.node ≡ Some s → is_of_element b.kind ≡ true → Contains (named_nodes s) m → (m ≡ b.node) ⊎ HasBox boxes at m
  pub texts : (at : ℕ) (b : BoxNode) (s : Style) → slice_get boxes at ≡ Some b → slice_get styles b.node ≡ Some s → (chars b.chars ≡ []) ⊎ ((q : ℕ) × (parent_in parents b.node ≡ Some q) × (s.size ≡ of_size.Same))
  pub around : (at p : ℕ) (b : BoxNode) → slice_get boxes at ≡ Some b → b.parent ≡ Some p → p < at

passes_past : (n : ℕ) → most < n → nat_lt most n ≡ true
passes_past n l = lt-ltb most n l

passes_not : (n : ℕ) → n ≤ most → nat_lt most n ≡ false
passes_not n l = by_test (nat_lt most n) refl
  where
    by_test : (t : Bool) → nat_lt most n ≡ t → nat_lt most n ≡ false
    by_test false e = e
    by_test true e = absurd (let up = ltb-true most n e in omega (arith, up, l))

module _ (styles : List Style) (parents : List (Option ℕ)) (fonts : List Font) (boxes : List BoxNode) (known : AreKnown styles parents fonts boxes) where
  Exacts : ℕ → Type 0
  Exacts at = (j : ℕ) (c : BoxNode) → j < at → slice_get boxes j ≡ Some c → is_of_element c.kind ≡ true → IsExact styles parents c.node

  exact_by : (at m : ℕ) → Exacts at → HasBox boxes at m → IsExact styles parents m
  unfolding Exacts
  exact_by at m f h = subst (IsExact styles parents) h.node (f h.place h.box h.before h.there h.own)

  size_here : (at : ℕ) (b : BoxNode) (s : Style) → Exacts at → slice_get boxes at ≡ Some b → slice_get styles b.node ≡ Some s → IsSize (font_size_in styles parents 256 b.node) (size_at (sizes_of styles parents) (Some b.node))
  size_here at b s f e g = size_of_node styles parents known.before b.node s g (λ q p. exact_by at q f (known.above at q b e p))

  -- the extents of a box whose ancestors have exact sizes
  both_alike : (at : ℕ) (b : BoxNode) (t : ℕ) → Exacts at → slice_get boxes at ≡ Some b
      → Alike (t + own_in (sizes_of styles parents) styles fonts b + text_in (sizes_of styles parents) styles fonts b) (t + (own_extent styles parents fonts b + text_extent styles parents fonts b))
  both_alike at b t f e =
      let s = known.styled at b e in
      let font = known.fonts_there b.node s.0 s.1 in
      let size = size_here at b s.0 f e s.1 in
      let own = own_alike styles parents fonts b s.0 font.0 s.1 font.1 size (λ o m i. by_name m (known.named at m b s.0 e s.1 o i)) in
      let text = text_alike styles parents fonts b s.0 font.0 s.1 font.1 (text_sort s.0 s.1 (known.texts at b s.0 e s.1)) in
      subst (λ k. Alike (t + own_in (sizes_of styles parents) styles fonts b + text_in (sizes_of styles parents) styles fonts b) k) (omega arith)
      (alike_add _ _ _ _ (alike_add t t _ _ (Alike.same refl) own) text)
    where
      by_name : (m : ℕ) → (m ≡ b.node) ⊎ HasBox boxes at m → (m ≡ b.node) ⊎ IsExact styles parents m
      by_name m (inl same) = inl same
      by_name m (inr h) = inr (exact_by at m f h)

      text_sort : (s : Style) → slice_get styles b.node ≡ Some s → (chars b.chars ≡ []) ⊎ ((q : ℕ) × (parent_in parents b.node ≡ Some q) × (s.size ≡ of_size.Same)) → (chars b.chars ≡ []) ⊎ IsExact styles parents b.node
      text_sort s g (inl none) = inl none
      text_sort s g (inr (q, p, z)) = inr (same_size styles parents known.before b.node q s g p z (exact_by at q f (known.above at q b e p)))

  -- one box more whose extents do not pass has an exact size
  exact_more : (at : ℕ) (b : BoxNode) → Exacts at → slice_get boxes at ≡ Some b → own_extent styles parents fonts b ≤ most → Exacts (suc at)
  unfolding Exacts
  exact_more at b f e l = λ j c m g o. by_place j c m g o (cases_eq j at)
    where
      by_size : (c : BoxNode) → own_extent styles parents fonts c ≤ most → is_of_element c.kind ≡ true → (s : Style) → slice_get styles c.node ≡ Some s
          → IsSize (font_size_in styles parents 256 c.node) (size_at (sizes_of styles parents) (Some c.node)) → IsExact styles parents c.node
      by_size c low o s g (IsSize.exact is within) = record { is = is; within = within }
      by_size c low o s g (IsSize.past past n) = absurd (let least = own_least styles parents fonts c s g o in omega (arith, least, low, past))

      by_place : (j : ℕ) (c : BoxNode) → j < suc at → slice_get boxes j ≡ Some c → is_of_element c.kind ≡ true → (j ≡ at) ⊎ (j ≢ at) → IsExact styles parents c.node
      by_place j c m g o (inr ne) = f j c (omega (arith, m, ne)) g o
      by_place j c m g o (inl p) =
          let there : Some b ≡ Some c = sym e ∙ (ap (slice_get boxes) (sym p) ∙ g) in
          let same : b ≡ c = cc in
          let s = known.styled at b e in
          subst (λ (x : BoxNode). IsExact styles parents x.node) same
          (by_size b l (ap (λ (x : BoxNode). is_of_element x.kind) same ∙ o) s.0 s.1 (size_here at b s.0 f e s.1))

  -- ---- all extents together

  -- the sums from a box on
  sums_from : ℕ → ℕ → List BoxNode → Option ℕ
  sums_from at t bs = position_from (passes_most styles parents fonts) at (sums styles parents fonts t (box_extents styles parents fonts bs))

  data SumsTo (at t : ℕ) (bs : List BoxNode) : Result ℕ ℕ → Type 0 where
    over : (n k : ℕ) → sums_from at t bs ≡ Some k → node_of_place styles parents fonts boxes k ≡ Some n → SumsTo at t bs (Err n)
    within : (total : ℕ) → sums_from at t bs ≡ None → total ≡ t + sum (box_extents styles parents fonts bs) → total ≤ most → Exacts (at + length bs) → SumsTo at t bs (Ok total)

  past_alike : (x y : ℕ) → Alike x y → most < x → most < y
  past_alike x y (Alike.same e) l = omega (arith, e, l)
  past_alike x y (Alike.past l m) k = m

  within_alike : (x y : ℕ) → Alike x y → x ≤ most → x ≡ y
  within_alike x y (Alike.same e) l = e
  within_alike x y (Alike.past m k) l = absurd (omega (arith, m, l))

  all_of : BoxNode → ℕ
  all_of b = own_extent styles parents fonts b + text_extent styles parents fonts b

  sums_walk : (at t : ℕ) (bs : List BoxNode) → ((j : ℕ) → slice_get bs j ≡ slice_get boxes (at + j)) → t ≤ most → Exacts at → SumsTo at t bs (sum_walk (sizes_of styles parents) styles fonts t bs)
  unfolding sums_from
  sums_walk at t [] same l f = SumsTo.within t refl (omega arith) l (subst Exacts (omega arith) f)
  sums_walk at t (b ∷ bs) same l f =
      by_place (t + own_in (sizes_of styles parents) styles fonts b + text_in (sizes_of styles parents) styles fonts b)
      (past_or_within (t + own_in (sizes_of styles parents) styles fonts b + text_in (sizes_of styles parents) styles fonts b)) (both_alike at b t f here)
      (λ next low g. sums_walk (at + 1) next bs (λ j. same (suc j) ∙ ap (slice_get boxes) (later j)) low g)
    where
      at_start : at ≡ at + 0
      at_start = omega arith

      here : slice_get boxes at ≡ Some b
      here = ap (slice_get boxes) at_start ∙ sym (same 0)

      later : (j : ℕ) → at + suc j ≡ (at + 1) + j
      later j = omega arith

      add_first : sum (box_extents styles parents fonts (b ∷ bs)) ≡ (own_extent styles parents fonts b + text_extent styles parents fonts b) + sum (box_extents styles parents fonts bs)
      add_first = sum_by-cons (λ (n : ℕ). n) (own_extent styles parents fonts b + text_extent styles parents fonts b) (box_extents styles parents fonts bs)

      shift : (x : ℕ) → x ≡ t + (own_extent styles parents fonts b + text_extent styles parents fonts b) → x ≤ most → (r : Result ℕ ℕ) → SumsTo (at + 1) x bs r → SumsTo at t (b ∷ bs) r
      shift x e low _ (SumsTo.over n k p q) =
          SumsTo.over n k
          (ap (λ c. cond c (Some at) (position_from (passes_most styles parents fonts) (at + 1) (sums styles parents fonts (t + (own_extent styles parents fonts b + text_extent styles parents fonts b)) (box_extents styles parents fonts bs))))
          (passes_not (t + (own_extent styles parents fonts b + text_extent styles parents fonts b)) (omega (arith, e, low)))
          ∙ (ap (λ y. position_from (passes_most styles parents fonts) (at + 1) (sums styles parents fonts y (box_extents styles parents fonts bs))) (sym e) ∙ p)) q
      shift x e low _ (SumsTo.within total p s m g) =
          SumsTo.within total
          (ap (λ c. cond c (Some at) (position_from (passes_most styles parents fonts) (at + 1) (sums styles parents fonts (t + (own_extent styles parents fonts b + text_extent styles parents fonts b)) (box_extents styles parents fonts bs))))
          (passes_not (t + (own_extent styles parents fonts b + text_extent styles parents fonts b)) (omega (arith, e, low)))
          ∙ (ap (λ y. position_from (passes_most styles parents fonts) (at + 1) (sums styles parents fonts y (box_extents styles parents fonts bs))) (sym e) ∙ p))
          (let first = add_first in omega (arith, s, e, first)) m (let size : (at + 1) + length bs ≡ at + suc (length bs) = omega arith in subst Exacts size g)

      by_place : (x : ℕ) → (x ≤ most) ⊎ (most < x) → Alike x (t + (own_extent styles parents fonts b + text_extent styles parents fonts b))
          → ((next : ℕ) → next ≤ most → Exacts (at + 1) → SumsTo (at + 1) next bs (sum_walk (sizes_of styles parents) styles fonts next bs))
          → SumsTo at t (b ∷ bs) (if nat_lt most (capped x) then Err b.node else sum_walk (sizes_of styles parents) styles fonts (capped x) bs)
      by_place x (inr past) alike again =
          let stops : (if nat_lt most (capped x) then Err b.node else sum_walk (sizes_of styles parents) styles fonts (capped x) bs) ≡ Err b.node =
          ap (λ n. if nat_lt most n then Err b.node else sum_walk (sizes_of styles parents) styles fonts n bs) (capped_past x past)
          ∙ ap (λ c. if c then Err b.node else sum_walk (sizes_of styles parents) styles fonts (most + 1) bs) (passes_past (most + 1) (omega arith)) in
          subst (SumsTo at t (b ∷ bs)) (sym stops)
          (SumsTo.over b.node at
          (ap (λ c. cond c (Some at) (position_from (passes_most styles parents fonts) (at + 1) (sums styles parents fonts (t + (own_extent styles parents fonts b + text_extent styles parents fonts b)) (box_extents styles parents fonts bs))))
          (passes_past (t + (own_extent styles parents fonts b + text_extent styles parents fonts b)) (past_alike x _ alike past)))
          (ap (option_map (λ (c : BoxNode). c.node)) here))
      by_place x (inl low) alike again =
          let is = within_alike x _ alike low in
          let goes : (if nat_lt most (capped x) then Err b.node else sum_walk (sizes_of styles parents) styles fonts (capped x) bs) ≡ sum_walk (sizes_of styles parents) styles fonts x bs =
          ap (λ n. if nat_lt most n then Err b.node else sum_walk (sizes_of styles parents) styles fonts n bs) (capped_within x low)
          ∙ ap (λ c. if c then Err b.node else sum_walk (sizes_of styles parents) styles fonts x bs) (passes_not x low) in
          let next : suc at ≡ at + 1 = omega arith in
          subst (SumsTo at t (b ∷ bs)) (sym goes) (shift x is low _ (again x low (subst Exacts next (exact_more at b f here (omega (arith, is, low))))))

  -- ---- reaches

  module _ (viewport : ℕ) where
    reach_enough : (n m at : ℕ) → at < n → at < m → reach_to styles parents fonts n boxes viewport at ≡ reach_to styles parents fonts m boxes viewport at
    reach_enough zero m at l k = absurd (omega (arith, l))
    reach_enough (suc n) zero at l k = absurd (omega (arith, k))
    reach_enough (suc n) (suc m) at l k = by_box (slice_get boxes at) refl (λ p before. reach_enough n m p (omega (arith, before, l)) (omega (arith, before, k)))
      where
        by_parent : (o : Option ℕ) → ((p : ℕ) → o ≡ Some p → p < at) → ((p : ℕ) → p < at → reach_to styles parents fonts n boxes viewport p ≡ reach_to styles parents fonts m boxes viewport p)
            → option_map_or (reach_to styles parents fonts n boxes viewport) o viewport ≡ option_map_or (reach_to styles parents fonts m boxes viewport) o viewport
        by_parent None f again = refl
        by_parent (Some p) f again = again p (f p refl)

        by_box : (o : Option BoxNode) → slice_get boxes at ≡ o → ((p : ℕ) → p < at → reach_to styles parents fonts n boxes viewport p ≡ reach_to styles parents fonts m boxes viewport p)
            → option_map_or (λ (b : BoxNode). reach_in styles parents fonts b (option_map_or (reach_to styles parents fonts n boxes viewport) b.parent viewport)) o viewport
            ≡ option_map_or (λ (b : BoxNode). reach_in styles parents fonts b (option_map_or (reach_to styles parents fonts m boxes viewport) b.parent viewport)) o viewport
        by_box None e again = refl
        by_box (Some b) e again = ap (reach_in styles parents fonts b) (by_parent b.parent (λ p q. known.around at p b e q) again)

    abbrev reach_at : ℕ → ℕ
    reach_at at = reach_to styles parents fonts (length boxes) boxes viewport at

    reach_step : (at : ℕ) (b : BoxNode) → slice_get boxes at ≡ Some b → reach_at at ≡ reach_in styles parents fonts b (option_map_or reach_at b.parent viewport)
    reach_step at b e =
        let within = slice_get_within boxes at b e in
        reach_enough (length boxes) (suc (length boxes)) at within (omega (arith, within))
        ∙ ap (λ (o : Option BoxNode). option_map_or (λ (b : BoxNode). reach_in styles parents fonts b (option_map_or reach_at b.parent viewport)) o viewport) e

    abbrev reaches_from : ℕ → List BoxNode → List ℕ
    reaches_from at bs = map (λ (e : ℕ × BoxNode). reach_at e.0) (enumerate_from at bs)

    far_walk : ((at : ℕ) (b : BoxNode) → slice_get boxes at ≡ Some b → own_in (sizes_of styles parents) styles fonts b ≡ own_extent styles parents fonts b)
        → (at : ℕ) (done : List ℕ) (bs : List BoxNode) → ((j : ℕ) → slice_get bs j ≡ slice_get boxes (at + j)) → length done ≡ at → ((p : ℕ) → p < at → get_or done p viewport ≡ reach_at p)
        → first_far (sizes_of styles parents) styles fonts viewport done bs ≡ option_and_then (node_of_place styles parents fonts boxes) (position_from (passes_most styles parents fonts) at (reaches_from at bs))
    far_walk owns at done [] same size f = refl
    far_walk owns at done (b ∷ bs) same size f =
        ap (λ r. if nat_lt most r then Some b.node else first_far (sizes_of styles parents) styles fonts viewport (done ++ r ∷ []) bs) (ap capped reach_is)
        ∙ by_place (reach_at at) refl (past_or_within (reach_at at)) (λ next is. far_walk owns (at + 1) (done ++ next ∷ []) bs (λ j. same (suc j) ∙ ap (slice_get boxes) (later j))
        (let more = length-append done (next ∷ []) in omega (arith, more, size)) (λ p l. by_front p l next is (cases_eq p at)))
      where
        at_start : at ≡ at + 0
        at_start = omega arith

        here : slice_get boxes at ≡ Some b
        here = ap (slice_get boxes) at_start ∙ sym (same 0)

        later : (j : ℕ) → at + suc j ≡ (at + 1) + j
        later j = omega arith

        around_is : (o : Option ℕ) → b.parent ≡ o → held done o viewport ≡ option_map_or reach_at o viewport
        around_is None e = refl
        around_is (Some p) e = f p (known.around at p b here e)

        reach_is : quotient_up (held done b.parent viewport * ratio b.size * box_growth styles b) whole + own_in (sizes_of styles parents) styles fonts b ≡ reach_at at
        reach_is =
            ap (λ k. quotient_up (held done b.parent viewport * ratio b.size * box_growth styles b) whole + k) (owns at b here)
            ∙ (ap (λ k. reach_in styles parents fonts b k) (around_is b.parent refl) ∙ sym (reach_step at b here))

        by_front : (p : ℕ) → p < at + 1 → (next : ℕ) → next ≡ reach_at at → (p ≡ at) ⊎ (p ≢ at) → get_or (done ++ next ∷ []) p viewport ≡ reach_at p
        by_front p l next is (inl e) = get_or_at done next [] viewport p (size ∙ sym e) ∙ (is ∙ ap reach_at (sym e))
        by_front p l next is (inr ne) = get_or_append_left done (next ∷ []) viewport p (omega (arith, l, ne, size)) ∙ f p (omega (arith, l, ne))

        by_place : (r : ℕ) → r ≡ reach_at at → (r ≤ most) ⊎ (most < r)
            → ((next : ℕ) → next ≡ reach_at at → first_far (sizes_of styles parents) styles fonts viewport (done ++ next ∷ []) bs ≡ option_and_then (node_of_place styles parents fonts boxes) (position_from (passes_most styles parents fonts) (at + 1) (reaches_from (at + 1) bs)))
            → (if nat_lt most (capped r) then Some b.node else first_far (sizes_of styles parents) styles fonts viewport (done ++ capped r ∷ []) bs)
            ≡ option_and_then (node_of_place styles parents fonts boxes) (cond (nat_lt (2 ^ 40) r) (Some at) (position_from (passes_most styles parents fonts) (at + 1) (reaches_from (at + 1) bs)))
        by_place r is (inr past) again =
            ap (λ n. if nat_lt most n then Some b.node else first_far (sizes_of styles parents) styles fonts viewport (done ++ n ∷ []) bs) (capped_past r past)
            ∙ (ap (λ c. if c then Some b.node else first_far (sizes_of styles parents) styles fonts viewport (done ++ (most + 1) ∷ []) bs) (passes_past (most + 1) (omega arith))
            ∙ (sym (ap (option_map (λ (c : BoxNode). c.node)) here)
            ∙ ap (λ c. option_and_then (node_of_place styles parents fonts boxes) (cond c (Some at) (position_from (passes_most styles parents fonts) (at + 1) (reaches_from (at + 1) bs)))) (sym (passes_past r past))))
        by_place r is (inl low) again =
            ap (λ n. if nat_lt most n then Some b.node else first_far (sizes_of styles parents) styles fonts viewport (done ++ n ∷ []) bs) (capped_within r low)
            ∙ (ap (λ c. if c then Some b.node else first_far (sizes_of styles parents) styles fonts viewport (done ++ r ∷ []) bs) (passes_not r low)
            ∙ (again r is
            ∙ ap (λ c. option_and_then (node_of_place styles parents fonts boxes) (cond c (Some at) (position_from (passes_most styles parents fonts) (at + 1) (reaches_from (at + 1) bs)))) (sym (passes_not r low))))

  -- ---- the first of both

  each_in_sum : (xs : List ℕ) (k x : ℕ) → slice_get xs k ≡ Some x → x ≤ sum xs
  each_in_sum [] k x e = absurd (cc)
  each_in_sum (y ∷ xs) zero x e = let same : y ≡ x = cc in let all = sum_by-cons (λ (n : ℕ). n) y xs in omega (arith, same, all)
  each_in_sum (y ∷ xs) (suc k) x e = let rest = each_in_sum xs k x e in let all = sum_by-cons (λ (n : ℕ). n) y xs in omega (arith, rest, all)

  own_same : Exacts (0 + length boxes) → total_extent styles parents fonts boxes ≤ most → (at : ℕ) (b : BoxNode) → slice_get boxes at ≡ Some b → own_in (sizes_of styles parents) styles fonts b ≡ own_extent styles parents fonts b
  unfolding Exacts
  own_same f l at b e =
      let exacts : Exacts at = λ j c m g o. f j c (let w = slice_get_within boxes j c g in omega (arith, w)) g o in
      let s = known.styled at b e in
      let font = known.fonts_there b.node s.0 s.1 in
      let own = own_alike styles parents fonts b s.0 font.0 s.1 font.1 (size_here at b s.0 exacts e s.1) (λ o m i. by_name exacts m (known.named at m b s.0 e s.1 o i)) in
      let in_all = each_in_sum (box_extents styles parents fonts boxes) at (own_extent styles parents fonts b + text_extent styles parents fonts b)
      (slice_get-map (λ (c : BoxNode). own_extent styles parents fonts c + text_extent styles parents fonts c) boxes at ∙ ap (option_map (λ (c : BoxNode). own_extent styles parents fonts c + text_extent styles parents fonts c)) e) in
      by_alike own (omega (arith, in_all, l))
    where
      by_name : Exacts at → (m : ℕ) → (m ≡ b.node) ⊎ HasBox boxes at m → (m ≡ b.node) ⊎ IsExact styles parents m
      by_name g m (inl same) = inl same
      by_name g m (inr h) = inr (exact_by at m g h)

      by_alike : Alike (own_in (sizes_of styles parents) styles fonts b) (own_extent styles parents fonts b) → own_extent styles parents fonts b ≤ most → own_in (sizes_of styles parents) styles fonts b ≡ own_extent styles parents fonts b
      by_alike (Alike.same g) k = g
      by_alike (Alike.past g h) k = absurd (omega (arith, h, k))

  pub far_is : far_of (sizes_of styles parents) styles fonts boxes ≡ beyond_reach styles parents fonts boxes
  unfolding sums_from Exacts
  far_is = by_sums (sum_walk (sizes_of styles parents) styles fonts (2 ^ 21) boxes) (sums_walk 0 (2 ^ 21) boxes (λ j. ap (slice_get boxes) (omega arith)) (lit≤ tt) (λ j c m g o. absurd (omega (arith, m))))
    where
      first_sums : position (passes_most styles parents fonts) (sums styles parents fonts (2 ^ 21) (box_extents styles parents fonts boxes)) ≡ position_from (passes_most styles parents fonts) 0 (sums styles parents fonts (2 ^ 21) (box_extents styles parents fonts boxes))
      first_sums = position_from-zero (passes_most styles parents fonts) (sums styles parents fonts (2 ^ 21) (box_extents styles parents fonts boxes))

      first_reaches : position (passes_most styles parents fonts) (reaches styles parents fonts boxes) ≡ position_from (passes_most styles parents fonts) 0 (reaches styles parents fonts boxes)
      first_reaches = position_from-zero (passes_most styles parents fonts) (reaches styles parents fonts boxes)

      by_sums : (r : Result ℕ ℕ) → SumsTo 0 (2 ^ 21) boxes r → far_by (sizes_of styles parents) styles fonts boxes r ≡ beyond_reach styles parents fonts boxes
      by_sums _ (SumsTo.over n k p q) =
          sym (ap (λ o. option_and_then (node_of_place styles parents fonts boxes) (option_or o (position (passes_most styles parents fonts) (reaches styles parents fonts boxes)))) (first_sums ∙ p) ∙ q)
      by_sums _ (SumsTo.within total p s l f) =
          ap (λ v. first_far (sizes_of styles parents) styles fonts v [] boxes) s
          ∙ (far_walk (total_extent styles parents fonts boxes) (own_same f (omega (arith, s, l))) 0 [] boxes (λ j. ap (slice_get boxes) (omega arith)) refl (λ q m. absurd (omega (arith, m)))
          ∙ sym (ap (λ o. option_and_then (node_of_place styles parents fonts boxes) (option_or o (position (passes_most styles parents fonts) (reaches styles parents fonts boxes)))) (first_sums ∙ p)
          ∙ ap (option_and_then (node_of_place styles parents fonts boxes)) first_reaches))

-- The walk over the nodes gives the boxes that the definition does.
use Rattle.std.proofs.Common.{◌≡◌, ℕ, zero, suc, ◌+◌, ◌==◌, ◌<◌, Bool, true, false, not, ◌&&◌, ◌||◌, List, [], ◌∷◌, ◌++◌, length, find, filter_map, get_or, Option, Some, None, option_map, option_and_then, slice_get, refl, sym, ◌∙◌, ap, arith, if◌then◌else◌, length-append, inl, inr, ◌≢◌, ◌⊎◌}
use Rattle.std.proofs.lemmas.Bool.{cases_eq}
use Rattle.std.proofs.lemmas.List.{get_or_at, get_or_append_left}
use Rattle.std.specs.Option.{option_map_or}
use Rattle.std.specs.List.{list_all, enumerate_from, cons_option}
use Rattle.std.proofs.lemmas.Option.{slice_get_within}
use Rattle.viz_base.specs.Pages.{IsPage}
use Rattle.viz_base.specs.Trees.{is_inline}
use Rattle.viz_base.specs.declared.nodes.Node.{Node}
use Rattle.viz_base.specs.declared.styles.Style.{Style}
use Rattle.viz_base.proofs.ListLemmas.{slice_some}
use Rattle.layout_semantics.specs.Elements.{is_closed, is_hidden, is_none_display, is_shown, node_passes, parent_of, ancestors, upwards}
use Rattle.layout_semantics.specs.Lists.{one_if}
use Rattle.layout_semantics.specs.Parts.{Part, container_of, is_inline_at, kind_of_node, part_of, shown_part, shown_parts}
use Rattle.layout_laws.proofs.Above.{parent_is, ancestors_are}
use Rattle.page_boxes.specs.declared.nodes.Spot.{Spot}
use Rattle.page_boxes.specs.steps.Nodes.{outside, spot_around, is_shown_in, spot_in, part_in, nodes_walk}
use Rattle.page_boxes.specs.steps.Tables.{held}

upwards_none : (more : ℕ) (nodes : List Node) → upwards more nodes None ≡ []
upwards_none zero nodes = refl
upwards_none (suc more) nodes = refl

shows_bools : (h o c : Bool) → ((not h && o) && not c) ≡ (not (h || c) && o)
shows_bools true o c = refl
shows_bools false true true = refl
shows_bools false true false = refl
shows_bools false false true = refl
shows_bools false false false = refl

shown_bools : (h o : Bool) → (o && not h) ≡ (not h && o)
shown_bools true true = refl
shown_bools true false = refl
shown_bools false true = refl
shown_bools false false = refl

either : {A : Type 0} (b : Bool) (x y : A) → (if b then x else y) ≡ (if not b then y else x)
either true x y = refl
either false x y = refl

module _ (nodes : List Node) (styles : List Style) (page : IsPage nodes) (lengths : length styles ≡ length nodes) where
  -- the node is not hidden by what it is in
  passes : ℕ → Bool
  passes above = not (is_hidden styles above || node_passes is_closed nodes above)

  around_of : List ℕ → Spot
  around_of above = record {
    shows = list_all (λ a. not (is_hidden styles a || node_passes is_closed nodes a)) above;
    container = find (λ a. not (is_inline_at nodes styles a)) above;
  }

  spot_of : ℕ → Node → Style → Spot
  spot_of k n s = record {
    shows = is_shown nodes styles k && not (is_closed n.body);
    container = if is_inline (kind_of_node (k == 0) n.body s) then container_of nodes styles k else Some k;
  }

  record SpotsAre (spots : List Spot) : Type 0 where
    each : (k : ℕ) (n : Node) (s : Style) → k < length spots → slice_get nodes k ≡ Some n → slice_get styles k ≡ Some s → get_or spots k outside ≡ spot_of k n s

  inside_of : (q : ℕ) (m : Node) (t : Style) (above : List ℕ) → slice_get nodes q ≡ Some m → slice_get styles q ≡ Some t → above ≡ ancestors nodes q → spot_of q m t ≡ around_of (q ∷ above)
  unfolding spot_of around_of
  inside_of q m t above e f a =
      let closed : node_passes is_closed nodes q ≡ is_closed m.body = ap (λ (o : Option Node). option_map_or (λ (x : Node). is_closed x.body) o false) e in
      let inline : is_inline_at nodes styles q ≡ is_inline (kind_of_node (q == 0) m.body t) = rw (e, f) refl in
      let all : List ℕ → Bool = λ l. list_all (λ a. not (is_hidden styles a || node_passes is_closed nodes a)) l in
      let first : List ℕ → Option ℕ = λ l. find (λ a. not (is_inline_at nodes styles a)) l in
      let with_parts : Bool → Option ℕ → Spot = λ b o. record { shows = b; container = o } in
      ap (λ b. with_parts b (if is_inline (kind_of_node (q == 0) m.body t) then first (ancestors nodes q) else Some q))
      (shows_bools (is_hidden styles q) (all (ancestors nodes q)) (is_closed m.body) ∙ ap (λ c. not (is_hidden styles q || c) && all (ancestors nodes q)) (sym closed))
      ∙ (ap (λ o. with_parts (not (is_hidden styles q || node_passes is_closed nodes q) && all (ancestors nodes q)) o)
      (either (is_inline (kind_of_node (q == 0) m.body t)) (first (ancestors nodes q)) (Some q) ∙ ap (λ b. if not b then Some q else first (ancestors nodes q)) (sym inline))
      ∙ ap (λ l. around_of (q ∷ l)) (sym a))

  around_is : (spots : List Spot) (at : ℕ) (n : Node) → SpotsAre spots → length spots ≡ at → slice_get nodes at ≡ Some n → spot_around spots n.parent ≡ around_of (ancestors nodes at)
  unfolding around_of
  around_is spots at n known e is = by_parent n.parent refl
    where
      up : parent_of nodes at ≡ n.parent
      up = ap (option_and_then (λ (m : Node). m.parent)) is

      by_parent : (o : Option ℕ) → n.parent ≡ o → held spots o outside ≡ around_of (ancestors nodes at)
      by_parent None p = ap around_of (sym (ap (upwards (length nodes) nodes) (up ∙ p) ∙ upwards_none (length nodes) nodes))
      by_parent (Some q) p =
          let within = slice_get_within nodes at n is in
          let before = (parent_is nodes page at q (up ∙ p)).0 in
          let m = slice_some nodes q (omega (arith, within, before)) in
          let t = slice_some styles q (omega (arith, within, before, lengths)) in
          known.each q m.0 t.0 (omega (arith, before, e)) m.1 t.1
          ∙ (inside_of q m.0 t.0 (ancestors nodes q) m.1 t.1 refl
          ∙ ap around_of (sym (ancestors_are nodes page at q within (up ∙ p))))

  shown_is : (at : ℕ) (s : Style) → slice_get styles at ≡ Some s → is_shown_in (around_of (ancestors nodes at)) s ≡ is_shown nodes styles at
  unfolding around_of
  shown_is at s f =
      let hidden : is_hidden styles at ≡ is_none_display s.display = ap (λ (o : Option Style). option_map_or (λ (t : Style). is_none_display t.display) o false) f in
      let all : Bool = list_all (λ a. not (is_hidden styles a || node_passes is_closed nodes a)) (ancestors nodes at) in
      shown_bools (is_none_display s.display) all ∙ ap (λ h. not h && all) (sym hidden)

  spot_is : (at : ℕ) (n : Node) (s : Style) → slice_get styles at ≡ Some s → spot_in (around_of (ancestors nodes at)) at n s ≡ spot_of at n s
  unfolding around_of spot_of
  spot_is at n s f =
      let with_shown : Bool → Spot = λ b. record { shows = b && not (is_closed n.body); container = if is_inline (kind_of_node (at == 0) n.body s) then container_of nodes styles at else Some at } in
      ap with_shown (shown_is at s f)

  part_is : (at : ℕ) (n : Node) (s : Style) → part_in (around_of (ancestors nodes at)) at n s ≡ part_of nodes styles at n s
  unfolding around_of
  part_is at n s = refl

  known_more : (spots : List Spot) (at : ℕ) (n : Node) (s : Style) (spot : Spot) → SpotsAre spots → length spots ≡ at → slice_get nodes at ≡ Some n → slice_get styles at ≡ Some s
      → spot ≡ spot_of at n s → SpotsAre (spots ++ spot ∷ [])
  known_more spots at n s spot known e is f same = record { each = λ k m t l g h. by_place k m t l g h (cases_eq k at) }
    where
      by_place : (k : ℕ) (m : Node) (t : Style) → k < length (spots ++ spot ∷ []) → slice_get nodes k ≡ Some m → slice_get styles k ≡ Some t → (k ≡ at) ⊎ (k ≢ at) → get_or (spots ++ spot ∷ []) k outside ≡ spot_of k m t
      by_place k m t l g h (inl p) =
          let there : Some n ≡ Some m = sym is ∙ ap (slice_get nodes) (sym p) ∙ g in
          let node : n ≡ m = cc in
          let styled : Some s ≡ Some t = sym f ∙ ap (slice_get styles) (sym p) ∙ h in
          let style : s ≡ t = cc in
          get_or_at spots spot [] outside k (e ∙ sym p) ∙ (same ∙ (ap (λ j. spot_of j n s) (sym p) ∙ (ap (λ x. spot_of k x s) node ∙ ap (λ y. spot_of k m y) style)))
      by_place k m t l g h (inr p) =
          let size = length-append spots (spot ∷ []) in
          let less : k < length spots = omega (arith, l, size, p, e) in
          get_or_append_left spots (spot ∷ []) outside k less ∙ known.each k m t less g h

  one_part : (b : Bool) (p : Part) (xs : List Part) → cons_option (if b then Some p else None) xs ≡ one_if b p ++ xs
  one_part true p xs = refl
  one_part false p xs = refl

  walk_is : (spots : List Spot) (at : ℕ) (ns : List Node) (ss : List Style) → SpotsAre spots → length spots ≡ at
      → ((j : ℕ) → slice_get ns j ≡ slice_get nodes (at + j)) → ((j : ℕ) → slice_get ss j ≡ slice_get styles (at + j))
      → nodes_walk spots at ns ss ≡ filter_map (shown_part nodes styles) (enumerate_from at ns)
  unfolding around_of
  walk_is spots at [] ss known e fn fs = refl
  walk_is spots at (n ∷ ns) [] known e fn fs =
      let within = slice_get_within nodes (at + 0) n (sym (fn 0)) in
      let s = slice_some styles (at + 0) (omega (arith, within, lengths)) in
      let none : None ≡ Some s.0 = fs 0 ∙ s.1 in
      absurd (cc)
  walk_is spots at (n ∷ ns) (s ∷ ss) known e fn fs =
      let zero_more : at + 0 ≡ at = omega arith in
      let is : slice_get nodes at ≡ Some n = ap (slice_get nodes) (sym zero_more) ∙ sym (fn 0) in
      let f : slice_get styles at ≡ Some s = ap (slice_get styles) (sym zero_more) ∙ sym (fs 0) in
      let around = around_is spots at n known e is in
      let next : (j : ℕ) → (at + 1) + j ≡ at + suc j = λ j. omega arith in
      let size = length-append spots (spot_in (spot_around spots n.parent) at n s ∷ []) in
      let rest = walk_is (spots ++ spot_in (spot_around spots n.parent) at n s ∷ []) (at + 1) ns ss
      (known_more spots at n s _ known e is f (ap (λ a. spot_in a at n s) around ∙ spot_is at n s f)) (omega (arith, size, e))
      (λ j. fn (suc j) ∙ ap (slice_get nodes) (sym (next j))) (λ j. fs (suc j) ∙ ap (slice_get styles) (sym (next j))) in
      ap (λ xs. one_if (is_shown_in (spot_around spots n.parent) s) (part_in (spot_around spots n.parent) at n s) ++ xs) rest
      ∙ (ap (λ a. one_if (is_shown_in a s) (part_in a at n s) ++ filter_map (shown_part nodes styles) (enumerate_from (at + 1) ns)) around
      ∙ (ap (λ b. one_if b (part_of nodes styles at n s) ++ filter_map (shown_part nodes styles) (enumerate_from (at + 1) ns)) (shown_is at s f)
      ∙ (sym (one_part (is_shown nodes styles at) (part_of nodes styles at n s) (filter_map (shown_part nodes styles) (enumerate_from (at + 1) ns)))
      ∙ ap (λ (o : Option Style). cons_option (if is_shown nodes styles at then option_map (part_of nodes styles at n) o else None) (filter_map (shown_part nodes styles) (enumerate_from (at + 1) ns))) (sym f))))

  pub nodes_walk_is : nodes_walk [] 0 nodes styles ≡ shown_parts nodes styles
  nodes_walk_is = walk_is [] 0 nodes styles (record { each = λ k m t l g h. absurd (omega (arith, l)) }) refl (λ j. ap (slice_get nodes) (omega arith)) (λ j. ap (slice_get styles) (omega arith))

-- Extents as the code has them, against those of the definition.
use Rattle.std.proofs.Common.{◌≡◌, ℕ, ◌+◌, ◌*◌, ◌≤◌, pos, unsigned_abs, Bool, true, false, nat_le, List, [], ◌∷◌, ◌++◌, map, sum, sum_by, Option, Some, None, option_and_then, slice_get, refl, sym, ◌∙◌, ap, subst, arith, if◌then◌else◌, inl, inr, ◌⊎◌, Contains}
use Rattle.std.proofs.lemmas.List.Elements.{Contains-append_left, Contains-append_right, Contains-append_cases}
use Rattle.std.proofs.Math.Nat.{mul-le-mul_right}
use Rattle.std.proofs.lemmas.Bool.{and_parts}
use Rattle.std.specs.Option.{option_map_or, option_to_list}
use Rattle.std.specs.Str.{chars}
use Rattle.std.proofs.lemmas.List.Sums.{sum_by-cons}
use Rattle.viz_base.specs.Styles.{is_good_line, is_nonnegative, sides_of}
use Rattle.viz_base.specs.declared.fonts.Font.{Font}
use Rattle.viz_base.specs.declared.lengths.Length.{Length}
use Rattle.viz_base.specs.declared.lengths.Length.TheVariants as of_length
use Rattle.viz_base.specs.declared.lengths.LineHeight.{LineHeight}
use Rattle.viz_base.specs.declared.lengths.LineHeight.TheVariants as of_line
use Rattle.viz_base.specs.declared.lengths.Sides.{Sides}
use Rattle.viz_base.specs.declared.lengths.Valign.{Valign}
use Rattle.viz_base.specs.declared.lengths.Valign.TheVariants as of_valign
use Rattle.viz_base.specs.declared.styles.Style.{Style}
use Rattle.viz_base.specs.declared.trees.BoxNode.{BoxNode}
use Rattle.viz_base.specs.FontSizes.{advance, computed_line, font_size_in, fraction, line_height_in, measured, node_measure_in, text_width_in}
use Rattle.viz_base.specs.Reaches.{extent, font_extent, intrinsic_extent, is_of_element, largest_size, lengths_of, own_extent, raise_extent, ratio, style_extent, text_extent, whole}
use Rattle.layout_laws.proofs.Members.{no_member, first_member}
use Rattle.layout_laws.proofs.Reaching.{ratio_least}
use Rattle.viz_base.specs.Trees.{length_nodes, line_nodes, maximum_nodes, named_nodes, sides_nodes, valign_nodes}
use Rattle.viz_base.specs.Words.{font_in}
use Rattle.page_boxes.specs.steps.Extents.{capped, extent_in, font_extent_in, lengths_extent, line_in, measured_in, most_extent, own_in, part_of, raise_in, sides_extent, size_at, style_extent_in, text_in, widths_in}
use Rattle.page_boxes.proofs.Capped.{Alike, alike_add, alike_capped, alike_times, alike_trans}
use Rattle.page_boxes.proofs.FontSteps.{IsExact, IsSize, fraction_is, is_size, nonnegative, sizes_of}

-- ---- sums over lengths

total : (Length → ℕ) → List Length → ℕ
total f [] = 0
total f (l ∷ ls) = f l + total f ls

sum_is : (f : Length → ℕ) (ls : List Length) → sum (map f ls) ≡ total f ls
unfolding total
sum_is f [] = refl
sum_is f (l ∷ ls) = sum_by-cons (λ (n : ℕ). n) (f l) (map f ls) ∙ ap (λ k. f l + k) (sum_is f ls)

total_append : (f : Length → ℕ) (xs ys : List Length) → total f (xs ++ ys) ≡ total f xs + total f ys
unfolding total
total_append f [] ys = omega arith
total_append f (x ∷ xs) ys = let rest = total_append f xs ys in omega (arith, rest)

-- the same by the properties
abbrev parts_total : (Length → ℕ) → Style → ℕ
parts_total f s =
    total f (s.width ∷ s.min_width ∷ s.height ∷ s.min_height ∷ []) + (total f (option_to_list s.max_width) + (total f (option_to_list s.max_height) + (total f (sides_of s.margin) + (total f (sides_of s.padding) + total f (sides_of s.border)))))

lengths_total : (f : Length → ℕ) (s : Style) → sum (map f (lengths_of s)) ≡ parts_total f s
lengths_total f s =
    let own = s.width ∷ s.min_width ∷ s.height ∷ s.min_height ∷ [] in
    let a = total_append f own (option_to_list s.max_width ++ (option_to_list s.max_height ++ (sides_of s.margin ++ (sides_of s.padding ++ sides_of s.border)))) in
    let b = total_append f (option_to_list s.max_width) (option_to_list s.max_height ++ (sides_of s.margin ++ (sides_of s.padding ++ sides_of s.border))) in
    let c = total_append f (option_to_list s.max_height) (sides_of s.margin ++ (sides_of s.padding ++ sides_of s.border)) in
    let d = total_append f (sides_of s.margin) (sides_of s.padding ++ sides_of s.border) in
    let e = total_append f (sides_of s.padding) (sides_of s.border) in
    sum_is f (lengths_of s) ∙ omega (arith, a, b, c, d, e)

code_sides : (sizes : List ℕ) (s : Sides Length) → sides_extent sizes s ≡ total (extent_in sizes) (sides_of s)
unfolding total
code_sides sizes s = omega arith

code_most : (sizes : List ℕ) (o : Option Length) → most_extent sizes o ≡ total (extent_in sizes) (option_to_list o)
unfolding total
code_most sizes None = refl
code_most sizes (Some l) = omega arith

code_total : (sizes : List ℕ) (s : Style) → lengths_extent sizes s ≡ parts_total (extent_in sizes) s
unfolding total
code_total sizes s =
    let a = code_most sizes s.max_width in
    let b = code_most sizes s.max_height in
    let c = code_sides sizes s.margin in
    let d = code_sides sizes s.padding in
    let e = code_sides sizes s.border in
    omega (arith, a, b, c, d, e)

module _ (styles : List Style) (parents : List (Option ℕ)) (fonts : List Font) where
  -- ---- lengths

  extent_alike : (l : Length) → ((m : ℕ) → Contains (length_nodes l) m → IsExact styles parents m) → extent_in (sizes_of styles parents) l ≡ capped (extent styles parents fonts l)
  extent_alike of_length.Auto f = refl
  extent_alike (of_length.Px c) f = refl
  extent_alike (of_length.Em k m) f = ap (λ z. capped (unsigned_abs (fraction k 1000000 z))) (sym (f m (first_member [] refl)).is)
  extent_alike (of_length.Pct p) f = refl

  total_alike : (ls : List Length) → ((m : ℕ) → Contains (sides_nodes ls) m → IsExact styles parents m) → Alike (total (extent_in (sizes_of styles parents)) ls) (total (extent styles parents fonts) ls)
  unfolding total
  total_alike [] f = Alike.same refl
  total_alike (l ∷ ls) f =
      alike_add (extent_in (sizes_of styles parents) l) (extent styles parents fonts l) (total (extent_in (sizes_of styles parents)) ls) (total (extent styles parents fonts) ls)
      (subst (λ n. Alike n (extent styles parents fonts l)) (sym (extent_alike l (λ m i. f m (Contains-append_left (length_nodes l) (sides_nodes ls) m i)))) (alike_capped (extent styles parents fonts l)))
      (total_alike ls (λ m i. f m (Contains-append_right (length_nodes l) (sides_nodes ls) m i)))

  most_alike : (o : Option Length) → ((m : ℕ) → Contains (maximum_nodes o) m → IsExact styles parents m) → Alike (total (extent_in (sizes_of styles parents)) (option_to_list o)) (total (extent styles parents fonts) (option_to_list o))
  most_alike None f = total_alike [] (λ m i. no_member i)
  most_alike (Some l) f = total_alike (l ∷ []) (λ m i. by_end m (Contains-append_cases (length_nodes l) [] m i))
    where
      by_end : (m : ℕ) → Contains (length_nodes l) m ⊎ Contains [] m → IsExact styles parents m
      by_end m (inl j) = f m j
      by_end m (inr j) = no_member j

  lengths_alike : (s : Style) → ((m : ℕ) → Contains (named_nodes s) m → IsExact styles parents m) → Alike (lengths_extent (sizes_of styles parents) s) (sum (map (extent styles parents fonts) (lengths_of s)))
  lengths_alike s f =
      let e = extent_in (sizes_of styles parents) in
      let x = extent styles parents fonts in
      let own = s.width ∷ s.min_width ∷ s.height ∷ s.min_height ∷ [] in
      let n7 = line_nodes s.line ++ valign_nodes s.valign in
      let n6 = sides_nodes (sides_of s.border) ++ n7 in
      let n5 = sides_nodes (sides_of s.padding) ++ n6 in
      let n4 = sides_nodes (sides_of s.margin) ++ n5 in
      let n3 = maximum_nodes s.max_height ++ n4 in
      let n2 = maximum_nodes s.max_width ++ n3 in
      let g2 : (m : ℕ) → Contains n2 m → IsExact styles parents m = λ m i. f m (Contains-append_right (sides_nodes own) n2 m i) in
      let g3 : (m : ℕ) → Contains n3 m → IsExact styles parents m = λ m i. g2 m (Contains-append_right (maximum_nodes s.max_width) n3 m i) in
      let g4 : (m : ℕ) → Contains n4 m → IsExact styles parents m = λ m i. g3 m (Contains-append_right (maximum_nodes s.max_height) n4 m i) in
      let g5 : (m : ℕ) → Contains n5 m → IsExact styles parents m = λ m i. g4 m (Contains-append_right (sides_nodes (sides_of s.margin)) n5 m i) in
      let g6 : (m : ℕ) → Contains n6 m → IsExact styles parents m = λ m i. g5 m (Contains-append_right (sides_nodes (sides_of s.padding)) n6 m i) in
      let a1 = total_alike own (λ m i. f m (Contains-append_left (sides_nodes own) n2 m i)) in
      let a2 = most_alike s.max_width (λ m i. g2 m (Contains-append_left (maximum_nodes s.max_width) n3 m i)) in
      let a3 = most_alike s.max_height (λ m i. g3 m (Contains-append_left (maximum_nodes s.max_height) n4 m i)) in
      let a4 = total_alike (sides_of s.margin) (λ m i. g4 m (Contains-append_left (sides_nodes (sides_of s.margin)) n5 m i)) in
      let a5 = total_alike (sides_of s.padding) (λ m i. g5 m (Contains-append_left (sides_nodes (sides_of s.padding)) n6 m i)) in
      let a6 = total_alike (sides_of s.border) (λ m i. g6 m (Contains-append_left (sides_nodes (sides_of s.border)) n7 m i)) in
      subst (λ k. Alike k (sum (map x (lengths_of s)))) (sym (code_total (sizes_of styles parents) s))
      (subst (λ k. Alike (parts_total e s) k) (sym (lengths_total x s))
      (alike_add _ _ _ _ a1 (alike_add _ _ _ _ a2 (alike_add _ _ _ _ a3 (alike_add _ _ _ _ a4 (alike_add _ _ _ _ a5 a6))))))

  -- ---- lines, raises and fonts

  line_by : (node : ℕ) (l : LineHeight) → is_good_line l ≡ true → IsExact styles parents node → ((m : ℕ) → Contains (line_nodes l) m → IsExact styles parents m)
      → IsSize (computed_line styles parents 256 node l) (line_in (sizes_of styles parents) node l)
  line_by node (of_line.Own num den) g own f =
      subst (λ z. IsSize (fraction num den z) (line_in (sizes_of styles parents) node (of_line.Own num den))) (sym own.is)
      (is_size (fraction num den (pos (size_at (sizes_of styles parents) (Some node)))) (fraction_is num den (size_at (sizes_of styles parents) (Some node)) (and_parts (is_nonnegative num) (nat_le 1 den) g).0))
  line_by node (of_line.Px c) g own f = is_size c (nonnegative c g)
  line_by node (of_line.OfNode from num den) g own f =
      subst (λ z. IsSize (fraction num den z) (line_in (sizes_of styles parents) node (of_line.OfNode from num den))) (sym (f from (first_member [] refl)).is)
      (is_size (fraction num den (pos (size_at (sizes_of styles parents) (Some from)))) (fraction_is num den (size_at (sizes_of styles parents) (Some from)) (and_parts (is_nonnegative num) (nat_le 1 den) g).0))

  raise_by : (node line : ℕ) → line_height_in styles parents 256 node ≡ pos line → (v : Valign) → ((m : ℕ) → Contains (valign_nodes v) m → IsExact styles parents m)
      → Alike (raise_in (sizes_of styles parents) line v) (raise_extent styles parents fonts node v)
  raise_by node line e of_valign.Baseline f = Alike.same refl
  raise_by node line e of_valign.Sub f = Alike.same refl
  raise_by node line e of_valign.Super f = Alike.same refl
  raise_by node line e of_valign.Middle f = Alike.same refl
  raise_by node line e (of_valign.Raise of_length.Auto) f = Alike.same refl
  raise_by node line e (of_valign.Raise (of_length.Px c)) f = alike_capped (unsigned_abs c)
  raise_by node line e (of_valign.Raise (of_length.Em k m)) f =
      subst (λ n. Alike n (extent styles parents fonts (of_length.Em k m))) (sym (extent_alike (of_length.Em k m) f)) (alike_capped (extent styles parents fonts (of_length.Em k m)))
  raise_by node line e (of_valign.Raise (of_length.Pct p)) f =
      subst (λ z. Alike (part_of p whole line) (unsigned_abs (fraction p whole z))) (sym e) (alike_capped (unsigned_abs (fraction p whole (pos line))))

  measure_by : (node : ℕ) (font : Font) (units : Font → ℕ) → font_in styles fonts node ≡ Some font → IsExact styles parents node
      → Alike (measured_in font (size_at (sizes_of styles parents) (Some node)) (units font)) (unsigned_abs (node_measure_in styles parents fonts 256 node units))
  measure_by node font units e own =
      subst (λ (o : Option Font). Alike (measured_in font (size_at (sizes_of styles parents) (Some node)) (units font)) (unsigned_abs (option_map_or (λ (g : Font). measured g (font_size_in styles parents 256 node) (units g)) o (pos 0)))) (sym e)
      (subst (λ z. Alike (measured_in font (size_at (sizes_of styles parents) (Some node)) (units font)) (unsigned_abs (measured font z (units font)))) (sym own.is)
      (alike_capped (unsigned_abs (measured font (pos (size_at (sizes_of styles parents) (Some node))) (units font)))))

  -- ---- the extent of a box

  abbrev inner_of : BoxNode → Style → ℕ
  inner_of b s = sum (map (extent styles parents fonts) (lengths_of s)) + raise_extent styles parents fonts b.node s.valign + font_extent styles parents fonts b.node + intrinsic_extent b.size

  abbrev code_inner : BoxNode → Style → Font → ℕ
  code_inner b s font =
      let line = line_in (sizes_of styles parents) b.node s.line in
      lengths_extent (sizes_of styles parents) s + raise_in (sizes_of styles parents) line s.valign + font_extent_in (size_at (sizes_of styles parents) (Some b.node)) line font + intrinsic_extent b.size

  inner_alike : (b : BoxNode) (s : Style) (font : Font) → slice_get styles b.node ≡ Some s → font_in styles fonts b.node ≡ Some font → IsSize (font_size_in styles parents 256 b.node) (size_at (sizes_of styles parents) (Some b.node))
      → ((m : ℕ) → Contains (named_nodes s) m → (m ≡ b.node) ⊎ IsExact styles parents m) → Alike (code_inner b s font) (inner_of b s)
  inner_alike b s font e g (IsSize.past l n) names = Alike.past (omega (arith, n)) (omega (arith, l))
  inner_alike b s font e g (IsSize.exact is within) names = by_line (line_by b.node s.line s.ok.line_good own (λ m i. exact m (line_named m i)))
    where
      own : IsExact styles parents b.node
      own = record { is = is; within = within }

      exact : (m : ℕ) → Contains (named_nodes s) m → IsExact styles parents m
      exact m i = by_sort (names m i)
        where
          by_sort : (m ≡ b.node) ⊎ IsExact styles parents m → IsExact styles parents m
          by_sort (inl same) = subst (λ k. IsExact styles parents k) (sym same) own
          by_sort (inr known) = known

      ends_named : (m : ℕ) → Contains (line_nodes s.line ++ valign_nodes s.valign) m → Contains (named_nodes s) m
      ends_named m i =
          Contains-append_right (sides_nodes (s.width ∷ s.min_width ∷ s.height ∷ s.min_height ∷ [])) _ m (Contains-append_right (maximum_nodes s.max_width) _ m (Contains-append_right (maximum_nodes s.max_height) _ m
          (Contains-append_right (sides_nodes (sides_of s.margin)) _ m (Contains-append_right (sides_nodes (sides_of s.padding)) _ m (Contains-append_right (sides_nodes (sides_of s.border)) (line_nodes s.line ++ valign_nodes s.valign) m i)))))

      line_named : (m : ℕ) → Contains (line_nodes s.line) m → Contains (named_nodes s) m
      line_named m i = ends_named m (Contains-append_left (line_nodes s.line) (valign_nodes s.valign) m i)

      valign_named : (m : ℕ) → Contains (valign_nodes s.valign) m → Contains (named_nodes s) m
      valign_named m i = ends_named m (Contains-append_right (line_nodes s.line) (valign_nodes s.valign) m i)

      line_is : line_height_in styles parents 256 b.node ≡ computed_line styles parents 256 b.node s.line
      line_is = ap (λ (o : Option Style). option_map_or (λ (t : Style). computed_line styles parents 256 b.node t.line) o (pos 0)) e

      size_is : Alike (size_at (sizes_of styles parents) (Some b.node)) (unsigned_abs (font_size_in styles parents 256 b.node))
      size_is = Alike.same (sym (ap unsigned_abs is))

      by_line : IsSize (computed_line styles parents 256 b.node s.line) (line_in (sizes_of styles parents) b.node s.line) → Alike (code_inner b s font) (inner_of b s)
      by_line (IsSize.past l n) = let same = ap unsigned_abs line_is in Alike.past (omega (arith, n)) (omega (arith, l, same))
      by_line (IsSize.exact z l) =
          let lengths = lengths_alike s (λ m i. exact m i) in
          let raise = raise_by b.node (line_in (sizes_of styles parents) b.node s.line) (line_is ∙ z) s.valign (λ m i. exact m (valign_named m i)) in
          let line : Alike (line_in (sizes_of styles parents) b.node s.line) (unsigned_abs (line_height_in styles parents 256 b.node)) = Alike.same (sym (ap unsigned_abs (line_is ∙ z))) in
          let ascent = measure_by b.node font (λ f. f.ascent) g own in
          let descent = measure_by b.node font (λ f. f.descent) g own in
          let size : Alike (intrinsic_extent b.size) (intrinsic_extent b.size) = Alike.same refl in
          let all_fonts = alike_add _ _ _ _ (alike_add _ _ _ _ size_is line) (alike_add _ _ _ _ ascent descent) in
          subst (λ k. Alike k (inner_of b s)) (omega arith) (alike_add _ _ _ _ (alike_add _ _ _ _ (alike_add _ _ _ _ lengths raise) all_fonts) size)

  -- a box's own extent is no less than its font size
  pub own_least : (b : BoxNode) (s : Style) → slice_get styles b.node ≡ Some s → is_of_element b.kind ≡ true → unsigned_abs (font_size_in styles parents 256 b.node) ≤ own_extent styles parents fonts b
  own_least b s e o =
      let whole_extent : own_extent styles parents fonts b ≡ ratio b.size * inner_of b s =
      ap (λ t. if t then option_map_or (style_extent styles parents fonts b) (slice_get styles b.node) 0 else 0) o ∙ ap (λ (t : Option Style). option_map_or (style_extent styles parents fonts b) t 0) e in
      let more : 1 * inner_of b s ≤ ratio b.size * inner_of b s = mul-le-mul_right (inner_of b s) (ratio_least b.size) in
      omega (arith, whole_extent, more)

  pub own_alike : (b : BoxNode) (s : Style) (font : Font) → slice_get styles b.node ≡ Some s → slice_get fonts s.font ≡ Some font → IsSize (font_size_in styles parents 256 b.node) (size_at (sizes_of styles parents) (Some b.node))
      → (is_of_element b.kind ≡ true → (m : ℕ) → Contains (named_nodes s) m → (m ≡ b.node) ⊎ IsExact styles parents m) → Alike (own_in (sizes_of styles parents) styles fonts b) (own_extent styles parents fonts b)
  own_alike b s font e g size names = by_kind (is_of_element b.kind) refl
    where
      font_is : font_in styles fonts b.node ≡ Some font
      font_is = ap (option_and_then (λ (t : Style). slice_get fonts t.font)) e ∙ g

      inner : is_of_element b.kind ≡ true → Alike (style_extent_in (sizes_of styles parents) s font b) (style_extent styles parents fonts b s)
      inner o = alike_trans _ (ratio b.size * code_inner b s font) _ (alike_capped (ratio b.size * code_inner b s font)) (alike_times (ratio b.size) (code_inner b s font) (inner_of b s) (ratio_least b.size) (inner_alike b s font e font_is size (names o)))

      by_kind : (t : Bool) → is_of_element b.kind ≡ t → Alike (if t then option_map_or (λ (s : Style). option_map_or (λ (font : Font). style_extent_in (sizes_of styles parents) s font b) (slice_get fonts s.font) 0) (slice_get styles b.node) 0 else 0)
          (if t then option_map_or (style_extent styles parents fonts b) (slice_get styles b.node) 0 else 0)
      by_kind false o = Alike.same refl
      by_kind true o =
          subst (λ (o : Option Style). Alike (option_map_or (λ (s : Style). option_map_or (λ (font : Font). style_extent_in (sizes_of styles parents) s font b) (slice_get fonts s.font) 0) o 0) (option_map_or (style_extent styles parents fonts b) o 0)) (sym e)
          (subst (λ (o : Option Font). Alike (option_map_or (λ (font : Font). style_extent_in (sizes_of styles parents) s font b) o 0) (style_extent styles parents fonts b s)) (sym g) (inner o))

  -- ---- the extent of a text

  widths_alike : (node : ℕ) (font : Font) → font_in styles fonts node ≡ Some font → IsExact styles parents node → (cs : List ℕ) (t d : ℕ) → Alike t d
      → Alike (widths_in font (size_at (sizes_of styles parents) (Some node)) t cs) (d + sum (map (λ c. unsigned_abs (text_width_in styles parents fonts largest_size node (c ∷ []))) cs))
  widths_alike node font e own [] t d a = subst (λ k. Alike t k) (omega arith) a
  widths_alike node font e own (c ∷ cs) t d a =
      let width = unsigned_abs (text_width_in styles parents fonts largest_size node (c ∷ [])) in
      let rest = sum (map (λ c. unsigned_abs (text_width_in styles parents fonts largest_size node (c ∷ []))) cs) in
      let one : sum_by (advance font) (c ∷ []) ≡ advance font c = sum_by-cons (advance font) c [] ∙ omega arith in
      let measured_alike : Alike (measured_in font (size_at (sizes_of styles parents) (Some node)) (advance font c)) width =
      subst (λ k. Alike (measured_in font (size_at (sizes_of styles parents) (Some node)) k) width) one (measure_by node font (λ f. sum_by (advance f) (c ∷ [])) e own) in
      let all = sum_by-cons (λ (n : ℕ). n) width (map (λ c. unsigned_abs (text_width_in styles parents fonts largest_size node (c ∷ []))) cs) in
      subst (λ k. Alike (widths_in font (size_at (sizes_of styles parents) (Some node)) (capped (t + measured_in font (size_at (sizes_of styles parents) (Some node)) (advance font c))) cs) k) (omega (arith, all))
      (widths_alike node font e own cs (capped (t + measured_in font (size_at (sizes_of styles parents) (Some node)) (advance font c))) (d + width)
      (alike_trans _ (t + measured_in font (size_at (sizes_of styles parents) (Some node)) (advance font c)) _ (alike_capped (t + measured_in font (size_at (sizes_of styles parents) (Some node)) (advance font c))) (alike_add _ _ _ _ a measured_alike)))

  pub text_alike : (b : BoxNode) (s : Style) (font : Font) → slice_get styles b.node ≡ Some s → slice_get fonts s.font ≡ Some font → (chars b.chars ≡ []) ⊎ IsExact styles parents b.node
      → Alike (text_in (sizes_of styles parents) styles fonts b) (text_extent styles parents fonts b)
  text_alike b s font e g sort =
      subst (λ (o : Option Font). Alike (option_map_or (λ (f : Font). widths_in f (size_at (sizes_of styles parents) (Some b.node)) 0 (chars b.chars)) o 0) (text_extent styles parents fonts b)) (sym font_is) (by_sort sort)
    where
      font_is : font_in styles fonts b.node ≡ Some font
      font_is = ap (option_and_then (λ (t : Style). slice_get fonts t.font)) e ∙ g

      by_sort : (chars b.chars ≡ []) ⊎ IsExact styles parents b.node → Alike (widths_in font (size_at (sizes_of styles parents) (Some b.node)) 0 (chars b.chars)) (text_extent styles parents fonts b)
      by_sort (inl none) =
          subst (λ cs. Alike (widths_in font (size_at (sizes_of styles parents) (Some b.node)) 0 cs) (sum (map (λ c. unsigned_abs (text_width_in styles parents fonts largest_size b.node (c ∷ []))) cs))) (sym none) (Alike.same refl)
      by_sort (inr own) =
          let same : 0 + text_extent styles parents fonts b ≡ text_extent styles parents fonts b = omega arith in
          subst (λ k. Alike (widths_in font (size_at (sizes_of styles parents) (Some b.node)) 0 (chars b.chars)) k) same (widths_alike b.node font font_is own (chars b.chars) 0 0 (Alike.same refl))

-- ---- what a box has by itself, by whether it is an element's and has a style and a font

module _ (sizes : List ℕ) (styles : List Style) (fonts : List Font) (b : BoxNode) where
  abbrev with_font : Style → Option Font → ℕ
  with_font s o = option_map_or (λ (font : Font). style_extent_in sizes s font b) o 0

  abbrev with_style : Option Style → ℕ
  with_style o = option_map_or (λ (s : Style). with_font s (slice_get fonts s.font)) o 0

  abbrev if_element : Bool → ℕ
  if_element t = if t then with_style (slice_get styles b.node) else 0

  pub own_is : (s : Style) (font : Font) → is_of_element b.kind ≡ true → slice_get styles b.node ≡ Some s → slice_get fonts s.font ≡ Some font → style_extent_in sizes s font b ≡ own_in sizes styles fonts b
  own_is s font k e f = sym (ap if_element k ∙ (ap with_style e ∙ ap (with_font s) f))

  pub none_without_font : (s : Style) → is_of_element b.kind ≡ true → slice_get styles b.node ≡ Some s → slice_get fonts s.font ≡ None → 0 ≡ own_in sizes styles fonts b
  none_without_font s k e f = sym (ap if_element k ∙ (ap with_style e ∙ ap (with_font s) f))

  pub none_without_style : is_of_element b.kind ≡ true → slice_get styles b.node ≡ None → 0 ≡ own_in sizes styles fonts b
  none_without_style k e = sym (ap if_element k ∙ ap with_style e)

  pub none_of_others : is_of_element b.kind ≡ false → 0 ≡ own_in sizes styles fonts b
  none_of_others k = sym (ap if_element k)

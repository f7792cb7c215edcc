-- What is computed of the fonts of a page's nodes fits, where they have boxes.
use Rattle.std.proofs.Common.{◌≡◌, ℕ, suc, ◌+◌, ◌^◌, ◌≤◌, ◌==◌, true, ℤ, pos, ◌+ℤ◌, ◌-ℤ◌, unsigned_abs, List, [], ◌∷◌, ◌++◌, Option, Some, None, IsTrue, slice_get, refl, sym, ap, subst, arith}
use Rattle.std.specs.List.{list_all}
use Rattle.std.specs.Option.{option_map_or}
use Rattle.std.proofs.lemmas.Bool.Decides.{nat_tests}
use Rattle.std.proofs.lemmas.List.Folds.{list_all-append}
use Rattle.viz_base.specs.Numbers.{floor_of}
use Rattle.viz_base.specs.Styles.{sides_of}
use Rattle.viz_base.specs.Trees.{has_box, length_nodes, sides_nodes, maximum_nodes, line_nodes, valign_nodes}
use Rattle.viz_base.specs.declared.lengths.Length.{Length}
use Rattle.viz_base.specs.declared.lengths.Length.TheVariants as of_length
use Rattle.viz_base.specs.declared.lengths.LineHeight.{LineHeight}
use Rattle.viz_base.specs.declared.lengths.LineHeight.TheVariants as of_line
use Rattle.viz_base.specs.declared.styles.Style.{Style}
use Rattle.viz_base.specs.declared.trees.BoxNode.{BoxNode}
use Rattle.viz_base.specs.declared.trees.BoxTree.{BoxTree}
use Rattle.viz_base.specs.declared.worlds.World.{World}
use Rattle.viz_calc.specs.State.{AllSmall}
use Rattle.layout_semantics.specs.Fonts.{font_size, line_height, ascent, descent}
use Rattle.layout_semantics.specs.Lengths.{used}
use Rattle.layout_semantics.specs.LineHeights.{half_leading, inline_extent}
use Rattle.layout_semantics.proofs.Forest.{both}
use Rattle.layout_laws.proofs.Members.{any_in, member_place}
use Rattle.lay_length.specs.Ways.{part_way, line_way, used_way}
use Rattle.lay_line.specs.Fits.{InlineFits, FontFits}
use Rattle.lay_length.proofs.SmallExtents.{IsLowTree, sizes-small}
use Rattle.lay_length.proofs.SmallNumbers.{size-+, size--, size-floor}
use Rattle.page_limits.proofs.HeightsFonts.{font_cost, box-cost}
use Rattle.page_limits.proofs.InlinesFonts.{fonts-within}

-- a node that has a box, and several that do
abbrev pub IsBoxed : BoxTree → ℕ → Type 0
IsBoxed tree node = IsTrue (has_box tree.boxes node)

abbrev pub AreBoxed : BoxTree → List ℕ → Type 0
AreBoxed tree nodes = IsTrue (list_all (has_box tree.boxes) nodes)

module _ (tree : BoxTree) (low : IsLowTree tree) (w : World) (small : w.s ≤ 256) where
  -- the nodes that a style names for its line height and its alignment
  split : (xs ys : List ℕ) → AreBoxed tree (xs ++ ys) → AreBoxed tree xs × AreBoxed tree ys
  split xs ys t = both (list_all (has_box tree.boxes) xs) (list_all (has_box tree.boxes) ys) (subst (λ b. IsTrue b) (list_all-append (has_box tree.boxes) xs ys) t)

  pub names-boxed : (node : ℕ) (s : Style) → IsBoxed tree node → slice_get tree.styles node ≡ Some s → AreBoxed tree (line_nodes s.line) × AreBoxed tree (valign_nodes s.valign)
  names-boxed node s t e =
      let names = tree.ok.names_boxed node s t e in
      let n1 = split (sides_nodes (s.width ∷ s.min_width ∷ s.height ∷ s.min_height ∷ [])) _ names in
      let n2 = split (maximum_nodes s.max_width) _ n1.1 in
      let n3 = split (maximum_nodes s.max_height) _ n2.1 in
      let n4 = split (sides_nodes (sides_of s.margin)) _ n3.1 in
      let n5 = split (sides_nodes (sides_of s.padding)) _ n4.1 in
      let n6 = split (sides_nodes (sides_of s.border)) _ n5.1 in
      split (line_nodes s.line) (valign_nodes s.valign) n6.1

  -- ---- ways

  pub part-fits : (node : ℕ) (v : ℤ) → IsBoxed tree node → unsigned_abs v ≤ 2 ^ 100 → AllSmall (part_way tree w node v)
  part-fits node v t l = (l, sizes-small tree low w small (suc node) node t)

  pub used-way-fits : (l : Length) (cb : ℤ) → AreBoxed tree (length_nodes l) → unsigned_abs (used tree w l cb) ≤ 2 ^ 100 → AllSmall (used_way tree w l cb)
  used-way-fits of_length.Auto cb t u = (u, tt)
  used-way-fits (of_length.Px c) cb t u = (u, tt)
  used-way-fits (of_length.Em k node) cb t u = part-fits node (used tree w (of_length.Em k node) cb) (both (has_box tree.boxes node) true t).0 u
  used-way-fits (of_length.Pct p) cb t u = (u, tt)

  abbrev line_ways : ℕ → ℤ → LineHeight → List ℤ
  line_ways node h (of_line.Own num den) = part_way tree w node h
  line_ways node h (of_line.Px c) = h ∷ []
  line_ways node h (of_line.OfNode from num den) = part_way tree w from h

  line-fits : (node : ℕ) → IsBoxed tree node → unsigned_abs (line_height tree w node) ≤ 2 ^ 100 → AllSmall (line_way tree w node)
  line-fits node t l = by (slice_get tree.styles node) refl
    where
      of-line : (h : LineHeight) → AreBoxed tree (line_nodes h) → AllSmall (line_ways node (line_height tree w node) h)
      of-line (of_line.Own num den) n = part-fits node (line_height tree w node) t l
      of-line (of_line.Px c) n = (l, tt)
      of-line (of_line.OfNode from num den) n = part-fits from (line_height tree w node) (both (has_box tree.boxes from) true n).0 l

      there : (o : Option Style) → slice_get tree.styles node ≡ o → line_way tree w node ≡ option_map_or (λ (s : Style). line_ways node (line_height tree w node) s.line) o (pos 0 ∷ [])
      there o e = ap (λ (o : Option Style). option_map_or (λ (s : Style). line_ways node (line_height tree w node) s.line) o (pos 0 ∷ [])) e

      by : (o : Option Style) → slice_get tree.styles node ≡ o → AllSmall (line_way tree w node)
      by None e = subst AllSmall (sym (there None e)) (omega arith, tt)
      by (Some s) e = subst AllSmall (sym (there (Some s) e)) (of-line s.line (names-boxed node s t e).0)

  -- ---- the font of a node

  -- a node that has a box, with what is computed of its font
  pub record IsNodeLow (node : ℕ) : Type 0 where
    pub boxed : IsBoxed tree node
    pub cost : font_cost tree low w small node ≤ 2 ^ 40
    pub fonts : unsigned_abs (font_size tree w node) + unsigned_abs (line_height tree w node) + (unsigned_abs (ascent tree w node) + unsigned_abs (descent tree w node)) ≤ 2 ^ 40
    pub half : unsigned_abs (half_leading tree w node) ≤ 2 ^ 42
    pub above : unsigned_abs (inline_extent tree w node).above ≤ 2 ^ 42
    pub below : unsigned_abs (inline_extent tree w node).below ≤ 2 ^ 42
    pub line : AllSmall (line_way tree w node)

  node-cost : (node : ℕ) → IsBoxed tree node → font_cost tree low w small node ≤ 2 ^ 40
  node-cost node t =
      let found = any_in (λ (b : BoxNode). b.node == node) tree.boxes t in
      let place = member_place tree.boxes found.0 found.1 in
      let same : (found.0).node ≡ node = grind (arith, nat_tests, found.2) in
      let cost = box-cost tree low w small (found.1).0 found.0 place in
      subst (λ (n : ℕ). font_cost tree low w small n ≤ 2 ^ 40) same (omega (arith, cost))

  pub node-low : (node : ℕ) → IsBoxed tree node → IsNodeLow node
  node-low node t =
      let most = node-cost node t in
      let all = (fonts-within tree low w small node).all in
      let two = size-+ (ascent tree w node) (descent tree w node) in
      let rest = size-- (line_height tree w node) (ascent tree w node +ℤ descent tree w node) in
      let half = size-floor (line_height tree w node -ℤ (ascent tree w node +ℤ descent tree w node)) 2 (omega arith) in
      let above = size-+ (ascent tree w node) (floor_of (line_height tree w node -ℤ (ascent tree w node +ℤ descent tree w node)) 2) in
      let below = size-- (line_height tree w node) (ascent tree w node +ℤ floor_of (line_height tree w node -ℤ (ascent tree w node +ℤ descent tree w node)) 2) in
      record {
        boxed = t;
        cost = most;
        fonts = omega (arith, all, most);
        half = omega (arith, all, most, two, rest, half);
        above = omega (arith, all, most, two, rest, half, above);
        below = omega (arith, all, most, two, rest, half, above, below);
        line = line-fits node t (omega (arith, all, most));
      }

  pub inline-fits : (node : ℕ) → IsNodeLow node → InlineFits tree w node
  unfolding InlineFits
  inline-fits node h =
      let fonts = h.fonts in
      let two = size-+ (ascent tree w node) (descent tree w node) in
      let rest = size-- (line_height tree w node) (ascent tree w node +ℤ descent tree w node) in
      let half = h.half in
      let above = h.above in
      let below = h.below in (
        (h.line, (part-fits node (ascent tree w node) h.boxed (omega (arith, fonts)), (part-fits node (descent tree w node) h.boxed (omega (arith, fonts)), (omega (arith, fonts, two), (omega (arith, fonts, two, rest), tt))))),
        (omega (arith, half), (omega (arith, above), (omega (arith, below), tt))),
      )

  pub font-fits : (node : ℕ) → IsNodeLow node → FontFits tree w node
  font-fits node h =
      let fonts = h.fonts in
      (part-fits node (ascent tree w node) h.boxed (omega (arith, fonts)), part-fits node (descent tree w node) h.boxed (omega (arith, fonts)))

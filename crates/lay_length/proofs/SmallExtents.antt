-- The lengths and the font sizes of a small page are bounded.
use Rattle.std.proofs.Common.{◌≡◌, ℕ, zero, suc, ◌+◌, ◌*◌, ◌^◌, ◌≤◌, true, ◌==◌, ℤ, unsigned_abs, List, [], ◌∷◌, ◌++◌, map, sum, Option, Some, None, IsTrue, slice_get, refl, sym, ap, ◌∙◌, subst, arith, mul-le-mul_left, Contains}
use Rattle.std.specs.Prelude.{if◌then◌else◌, ◌&&◌}
use Rattle.std.specs.List.{list_all, AllByRecursion}
use Rattle.std.specs.Option.{option_map_or, option_and_then, option_to_list}
use Rattle.std.proofs.lemmas.Bool.Decides.{nat_tests}
use Rattle.std.proofs.lemmas.List.Sums.{sum_by-cons, get_or-le-sum_by, sum-map}
use Rattle.std.proofs.lemmas.List.Folds.{list_all-append}
use Rattle.viz_base.specs.Trees.{has_box, has_element, is_element_box, is_chars, is_line, is_same_size, length_nodes, sides_nodes, maximum_nodes}
use Rattle.viz_base.specs.Styles.{is_bounded, sides_of}
use Rattle.viz_base.specs.Reaches.{is_of_element, ratio, percentage, extent, lengths_of, raise_extent, font_extent, intrinsic_extent, style_extent, own_extent, text_extent, total_extent}
use Rattle.viz_base.specs.FontSizes.{default_size, computed_size, font_size_in}
use Rattle.viz_base.specs.declared.lengths.Length.{Length}
use Rattle.viz_base.specs.declared.lengths.Length.TheVariants as of_length
use Rattle.viz_base.specs.declared.lengths.Size.{Size}
use Rattle.viz_base.specs.declared.lengths.Size.TheVariants as of_size
use Rattle.viz_base.specs.declared.styles.Style.{Style}
use Rattle.viz_base.specs.declared.trees.BoxNode.{BoxNode}
use Rattle.viz_base.specs.declared.trees.BoxTree.{BoxTree}
use Rattle.viz_base.specs.declared.trees.Kind.{Kind}
use Rattle.viz_base.specs.declared.trees.Kind.TheVariants as of_kind
use Rattle.viz_base.specs.declared.worlds.World.{World}
use Rattle.viz_base.proofs.ListLemmas.{slice_some}
use Rattle.viz_calc.specs.State.{AllSmall}
use Rattle.layout_semantics.specs.Lengths.{used}
use Rattle.layout_semantics.proofs.Forest.{both}
use Rattle.layout_laws.proofs.Members.{any_in, any_from, member_place}
use Rattle.layout_laws.proofs.TreeFacts.{slice_in}
use Rattle.layout_laws.proofs.Reaching.{ratio_least, total_bounded}
use Rattle.layout_laws.proofs.FontSizes.{font-of-style}
use Rattle.lay_length.specs.Ways.{size_way_to, used_way}
use Rattle.lay_length.specs.Limits.{IsSmallPage}
use Rattle.lay_length.proofs.SmallNumbers.{size-fraction}
use Rattle.lay_length.proofs.SmallFonts.{font-up, em-up}

-- a page all extents of which together are at most 2^40 units
pub record IsLowTree (tree : BoxTree) : Type 0 where
  pub total : total_extent tree.styles tree.parents tree.fonts tree.boxes ≤ 2 ^ 40

pub low-tree : (tree : BoxTree) → IsSmallPage tree → IsLowTree tree
low-tree tree small = record { total = total_bounded tree.styles tree.parents tree.fonts tree.boxes small.reach }

-- the element that a text is in
pub element-around : (boxes : List BoxNode) (parent : Option (Option ℕ)) → IsTrue (is_element_box boxes parent) → (p : ℕ) × (parent ≡ Some (Some p)) × IsTrue (has_element boxes p)
element-around boxes (Some (Some p)) t = (p, refl, t)
element-around boxes (Some None) t = absurd (cc)
element-around boxes None t = absurd (cc)

-- an element's box at its place, with its style
pub record IsElementOf (tree : BoxTree) (k : ℕ) (x : BoxNode) (s : Style) : Type 0 where
  pub place : slice_get tree.boxes k ≡ Some x
  pub style : slice_get tree.styles x.node ≡ Some s
  pub element : is_of_element x.kind ≡ true

in_sum : {A : Type 0} (f : A → ℕ) (xs : List A) (x : A) → Contains xs x → f x ≤ sum (map f xs)
in_sum f xs x i =
    let most = get_or-le-sum_by f xs i.0 x i.1 in
    let all = sum-map f xs in
    omega (arith, most, all, ap f i.2)

at_least_once : (r x : ℕ) → 1 ≤ r → x ≤ r * x
at_least_once r x l = let more : x * 1 ≤ x * r = mul-le-mul_left x l in omega (arith, more)

module _ (tree : BoxTree) (low : IsLowTree tree) (w : World) (small : w.s ≤ 256) where
  abbrev pub ext : Length → ℕ
  ext = extent tree.styles tree.parents tree.fonts

  abbrev fonts_at : ℕ → ℕ
  fonts_at = font_extent tree.styles tree.parents tree.fonts

  pub own-is : (k : ℕ) (x : BoxNode) (s : Style) → IsElementOf tree k x s → own_extent tree.styles tree.parents tree.fonts x ≡ style_extent tree.styles tree.parents tree.fonts x s
  own-is k x s b =
      ap (λ is. if is then option_map_or (style_extent tree.styles tree.parents tree.fonts x) (slice_get tree.styles x.node) 0 else 0) b.element
      ∙ ap (λ o. option_map_or (style_extent tree.styles tree.parents tree.fonts x) o 0) b.style

  pub own_low : (x : BoxNode) → Contains tree.boxes x → own_extent tree.styles tree.parents tree.fonts x ≤ 2 ^ 40
  own_low x i =
      let total = low.total in
      let one = in_sum (λ (b : BoxNode). own_extent tree.styles tree.parents tree.fonts b + text_extent tree.styles tree.parents tree.fonts b) tree.boxes x i in
      omega (arith, total, one)

  pub text_low : (x : BoxNode) → Contains tree.boxes x → text_extent tree.styles tree.parents tree.fonts x ≤ 2 ^ 40
  text_low x i =
      let total = low.total in
      let one = in_sum (λ (b : BoxNode). own_extent tree.styles tree.parents tree.fonts b + text_extent tree.styles tree.parents tree.fonts b) tree.boxes x i in
      omega (arith, total, one)

  -- lengths and fonts of a box are within its extent
  pub lengths-low : (k : ℕ) (x : BoxNode) (s : Style) → IsElementOf tree k x s → sum (map ext (lengths_of s)) + fonts_at x.node ≤ own_extent tree.styles tree.parents tree.fonts x
  lengths-low k x s b =
      let own = own-is k x s b in
      let inner : ℕ = sum (map ext (lengths_of s)) + raise_extent tree.styles tree.parents tree.fonts x.node s.valign + fonts_at x.node + intrinsic_extent x.size in
      let once : inner ≤ ratio x.size * inner = at_least_once (ratio x.size) inner (ratio_least x.size) in
      omega (arith, own, once)

  -- ---- fonts

  fonts_in : (x : BoxNode) → Contains tree.boxes x → (k : ℕ) (s : Style) → IsElementOf tree k x s → unsigned_abs (font_size_in tree.styles tree.parents w.s x.node) ≤ 2 ^ 40
  fonts_in x i k s b =
      let own = own_low x i in
      let all = lengths-low k x s b in
      let up = font-up tree.styles tree.parents w.s 256 small x.node in
      omega (arith, own, all, up)

  -- each box has a style
  pub style-of : (k : ℕ) (x : BoxNode) → slice_get tree.boxes k ≡ Some x → (s : Style) × (slice_get tree.styles x.node ≡ Some s)
  style-of k x e = slice_some tree.styles x.node (tree.ok.each k x e).node

  -- the element's box of a node that has one
  pub element-box : (node : ℕ) → IsTrue (has_element tree.boxes node) → (k : ℕ) × (x : BoxNode) × (s : Style) × IsElementOf tree k x s × (x.node ≡ node)
  element-box node t =
      let found = any_in (λ (b : BoxNode). is_of_element b.kind && (b.node == node)) tree.boxes t in
      let parts = both (is_of_element (found.0).kind) ((found.0).node == node) found.2 in
      let place = member_place tree.boxes found.0 found.1 in
      let style = style-of (found.1).0 found.0 place in
      let same : (found.0).node ≡ node = grind (arith, nat_tests, parts.1) in
      ((found.1).0, found.0, style.0, record { place = place; style = style.1; element = parts.0 }, same)

  element-font : (node : ℕ) → IsTrue (has_element tree.boxes node) → unsigned_abs (font_size_in tree.styles tree.parents w.s node) ≤ 2 ^ 40
  element-font node t =
      let b = element-box node t in
      subst (λ n. unsigned_abs (font_size_in tree.styles tree.parents w.s n) ≤ 2 ^ 40) b.4 (fonts_in b.1 (slice_in tree.boxes b.0 b.1 (b.3).place) b.0 b.2 b.3)

  -- a text has the font size of the element that it is in
  text-font : (k : ℕ) (x : BoxNode) (p : ℕ) → slice_get tree.boxes k ≡ Some x → x.kind ≡ of_kind.Chars → slice_get tree.parents x.node ≡ Some (Some p)
      → font_size_in tree.styles tree.parents w.s x.node ≡ font_size_in tree.styles tree.parents w.s p
  text-font k x p e kind parent =
      let s = style-of k x e in
      let above = ap (λ (o : Option (Option ℕ)). option_map_or (font_size_in tree.styles tree.parents w.s) (option_and_then (λ (parent : Option ℕ). parent) o) (default_size w.s)) parent in
      font-of-style tree.styles tree.parents w.s x.node s.0 tree.ok.parents_before s.1
      ∙ same (s.0).size (tree.ok.texts_same_size k x s.0 e (ap is_chars kind) s.1) _
      ∙ above
    where
      same : (z : Size) → IsTrue (is_same_size z) → (above : ℤ) → computed_size w.s above z ≡ above
      same of_size.Same t above = refl
      same (of_size.Default num den) t above = absurd (cc)
      same (of_size.Px c) t above = absurd (cc)
      same (of_size.Parent num den) t above = absurd (cc)

  box-font : (k : ℕ) (x : BoxNode) (kind : Kind) → slice_get tree.boxes k ≡ Some x → x.kind ≡ kind → unsigned_abs (font_size_in tree.styles tree.parents w.s x.node) ≤ 2 ^ 40
  box-font k x kind e is = by kind is
    where
      own : is_of_element x.kind ≡ true → unsigned_abs (font_size_in tree.styles tree.parents w.s x.node) ≤ 2 ^ 40
      own t = let s = style-of k x e in fonts_in x (slice_in tree.boxes k x e) k s.0 (record { place = e; style = s.1; element = t })

      by : (kind : Kind) → x.kind ≡ kind → unsigned_abs (font_size_in tree.styles tree.parents w.s x.node) ≤ 2 ^ 40
      by of_kind.Chars is =
          let text = element-around tree.boxes (slice_get tree.parents x.node) (tree.ok.texts_in_elements k x e is) in
          subst (λ z. unsigned_abs z ≤ 2 ^ 40) (sym (text-font k x text.0 e is text.1)) (element-font text.0 text.2)
      by of_kind.Anon is = element-font x.node (tree.ok.anonymous_in_elements k x e is)
      by of_kind.Line is = absurd (let none = (tree.ok.each k x e).no_line in let line = ap is_line is in cc)
      by of_kind.Block is = own (ap is_of_element is)
      by of_kind.Float is = own (ap is_of_element is)
      by of_kind.Atomic is = own (ap is_of_element is)
      by of_kind.Replaced is = own (ap is_of_element is)
      by of_kind.Inline is = own (ap is_of_element is)
      by of_kind.Break is = own (ap is_of_element is)

  pub boxed : (k : ℕ) (x : BoxNode) → slice_get tree.boxes k ≡ Some x → IsTrue (has_box tree.boxes x.node)
  boxed k x e = any_from (λ (y : BoxNode). y.node == x.node) tree.boxes x (slice_in tree.boxes k x e) (grind (arith, nat_tests))

  pub font-low : (node : ℕ) → IsTrue (has_box tree.boxes node) → unsigned_abs (font_size_in tree.styles tree.parents w.s node) ≤ 2 ^ 40
  font-low node t =
      let found = any_in (λ (b : BoxNode). b.node == node) tree.boxes t in
      let place = member_place tree.boxes found.0 found.1 in
      let same : (found.0).node ≡ node = grind (arith, nat_tests, found.2) in
      subst (λ n. unsigned_abs (font_size_in tree.styles tree.parents w.s n) ≤ 2 ^ 40) same (box-font (found.1).0 found.0 (found.0).kind place refl)

  pub sizes-small : (levels node : ℕ) → IsTrue (has_box tree.boxes node) → AllSmall (size_way_to levels tree.styles tree.parents w.s node)
  unfolding size_way_to
  sizes-small zero node t = tt
  sizes-small (suc levels) node t =
      let own = font-low node t in
      (omega (arith, small), (omega (arith, own), by (slice_get tree.parents node) refl (λ p u. sizes-small levels p u)))
    where
      by : (o : Option (Option ℕ)) → slice_get tree.parents node ≡ o → ((p : ℕ) → IsTrue (has_box tree.boxes p) → AllSmall (size_way_to levels tree.styles tree.parents w.s p))
          → AllSmall (option_map_or (size_way_to levels tree.styles tree.parents w.s) (option_and_then (λ (parent : Option ℕ). parent) o) [])
      by None e again = tt
      by (Some None) e again = tt
      by (Some (Some p)) e again = again p (tree.ok.parents_boxed node p t e)

  -- ---- used lengths

  -- a length of a box on the page
  pub record IsLowLength (l : Length) : Type 0 where
    pub extent : ext l ≤ 2 ^ 40
    pub names : IsTrue (list_all (has_box tree.boxes) (length_nodes l))
    pub percentage : percentage l ≤ 2 ^ 40

  -- what it is at most in a containing block, in parts of a percentage
  pub used-size : (l : Length) (cb : ℤ) → unsigned_abs (used tree w l cb) * 100000000 ≤ percentage l * unsigned_abs cb + 100000000 * ext l + 100000000
  used-size of_length.Auto cb = omega arith
  used-size (of_length.Px c) cb = omega arith
  used-size (of_length.Em k node) cb = let up = em-up tree.styles tree.parents w.s 256 small k node in omega (arith, up)
  used-size (of_length.Pct p) cb = let f = size-fraction p cb 100000000 (omega arith) in omega (arith, f)

  pub way-small : (l : Length) (cb : ℤ) → IsLowLength l → unsigned_abs (used tree w l cb) ≤ 2 ^ 100 → AllSmall (used_way tree w l cb)
  way-small of_length.Auto cb i u = (u, tt)
  way-small (of_length.Px c) cb i u = (u, tt)
  way-small (of_length.Em k node) cb i u = (u, sizes-small (suc node) node (both (has_box tree.boxes node) true i.names).0)
  way-small (of_length.Pct p) cb i u = (u, tt)

  -- ---- the lengths of a style

  each-in_sum : (f : Length → ℕ) (ls : List Length) (most : ℕ) → sum (map f ls) ≤ most → AllByRecursion (λ l. f l ≤ most) ls
  each-in_sum f [] most l = tt
  each-in_sum f (x ∷ xs) most l = let all = sum_by-cons (λ (n : ℕ). n) (f x) (map f xs) in (omega (arith, all, l), each-in_sum f xs most (omega (arith, all, l)))

  sum-append : (f : Length → ℕ) (xs ys : List Length) → sum (map f (xs ++ ys)) ≡ sum (map f xs) + sum (map f ys)
  sum-append f [] ys = omega arith
  sum-append f (x ∷ xs) ys =
      let all = sum_by-cons (λ (n : ℕ). n) (f x) (map f (xs ++ ys)) in
      let first = sum_by-cons (λ (n : ℕ). n) (f x) (map f xs) in
      let rest = sum-append f xs ys in
      omega (arith, all, first, rest)

  split : (xs ys : List ℕ) → IsTrue (list_all (has_box tree.boxes) (xs ++ ys)) → IsTrue (list_all (has_box tree.boxes) xs) × IsTrue (list_all (has_box tree.boxes) ys)
  split xs ys t = both (list_all (has_box tree.boxes) xs) (list_all (has_box tree.boxes) ys) (subst (λ b. IsTrue b) (list_all-append (has_box tree.boxes) xs ys) t)

  all-nodes : (ls : List Length) → IsTrue (list_all (has_box tree.boxes) (sides_nodes ls)) → AllByRecursion (λ l. IsTrue (list_all (has_box tree.boxes) (length_nodes l))) ls
  all-nodes [] t = tt
  all-nodes (l ∷ ls) t =
      let parts = split (length_nodes l) (sides_nodes ls) t in
      (parts.0, all-nodes ls parts.1)

  bounded-percentage : (l : Length) → IsTrue (is_bounded l) → percentage l ≤ 2 ^ 40
  bounded-percentage of_length.Auto t = omega arith
  bounded-percentage (of_length.Px c) t = omega arith
  bounded-percentage (of_length.Em k node) t = omega arith
  bounded-percentage (of_length.Pct p) t = grind (arith, nat_tests)

  low-lengths : (ls : List Length) → sum (map ext ls) ≤ 2 ^ 40 → IsTrue (list_all (has_box tree.boxes) (sides_nodes ls)) → IsTrue (list_all is_bounded ls) → AllByRecursion IsLowLength ls
  low-lengths ls e n b = join ls (each-in_sum ext ls (2 ^ 40) e) (all-nodes ls n) b
    where
      join : (ls : List Length) → AllByRecursion (λ l. ext l ≤ 2 ^ 40) ls → AllByRecursion (λ l. IsTrue (list_all (has_box tree.boxes) (length_nodes l))) ls → IsTrue (list_all is_bounded ls) → AllByRecursion IsLowLength ls
      join [] e n b = tt
      join (l ∷ ls) e n b =
          let parts = both (is_bounded l) (list_all is_bounded ls) b in
          (record { extent = e.0; names = n.0; percentage = bounded-percentage l parts.0 }, join ls e.1 n.1 parts.1)

  low-most : (o : Option Length) → sum (map ext (option_to_list o)) ≤ 2 ^ 40 → IsTrue (list_all (has_box tree.boxes) (maximum_nodes o)) → IsTrue (list_all is_bounded (option_to_list o)) → (l : Length) → o ≡ Some l → IsLowLength l
  low-most None e n b l is = absurd (cc)
  low-most (Some m) e n b l is =
      let all = each-in_sum ext (m ∷ []) (2 ^ 40) e in
      let own = both (is_bounded m) true b in
      subst IsLowLength (same is) (record { extent = all.0; names = n; percentage = bounded-percentage m own.0 })
    where
      same : Some m ≡ Some l → m ≡ l
      same e = cc

  -- the lengths of a box on the page
  pub record HasLowLengths (s : Style) : Type 0 where
    pub sizes : AllByRecursion IsLowLength (s.width ∷ s.min_width ∷ s.height ∷ s.min_height ∷ [])
    pub max_width : (l : Length) → s.max_width ≡ Some l → IsLowLength l
    pub max_height : (l : Length) → s.max_height ≡ Some l → IsLowLength l
    pub margin : AllByRecursion IsLowLength (sides_of s.margin)
    pub padding : AllByRecursion IsLowLength (sides_of s.padding)
    pub border : AllByRecursion IsLowLength (sides_of s.border)

  -- the sum of a style's lengths by their groups
  pub by-groups : (f : Length → ℕ) (s : Style) → sum (map f (lengths_of s))
      ≡ sum (map f (s.width ∷ s.min_width ∷ s.height ∷ s.min_height ∷ [])) + (sum (map f (option_to_list s.max_width)) + (sum (map f (option_to_list s.max_height))
      + (sum (map f (sides_of s.margin)) + (sum (map f (sides_of s.padding)) + sum (map f (sides_of s.border))))))
  by-groups f s =
      let a = sum-append f (s.width ∷ s.min_width ∷ s.height ∷ s.min_height ∷ []) (option_to_list s.max_width ++ (option_to_list s.max_height ++ (sides_of s.margin ++ (sides_of s.padding ++ sides_of s.border)))) in
      let b = sum-append f (option_to_list s.max_width) (option_to_list s.max_height ++ (sides_of s.margin ++ (sides_of s.padding ++ sides_of s.border))) in
      let c = sum-append f (option_to_list s.max_height) (sides_of s.margin ++ (sides_of s.padding ++ sides_of s.border)) in
      let d = sum-append f (sides_of s.margin) (sides_of s.padding ++ sides_of s.border) in
      let e = sum-append f (sides_of s.padding) (sides_of s.border) in
      omega (arith, a, b, c, d, e)

  pub style-low : (k : ℕ) (x : BoxNode) (s : Style) → IsElementOf tree k x s → HasLowLengths s
  style-low k x s b =
      let i = slice_in tree.boxes k x b.place in
      let own = own_low x i in
      let all = lengths-low k x s b in
      let groups = by-groups ext s in
      let names = tree.ok.names_boxed x.node s (boxed k x b.place) b.style in
      let n1 = split (sides_nodes (s.width ∷ s.min_width ∷ s.height ∷ s.min_height ∷ [])) _ names in
      let n2 = split (maximum_nodes s.max_width) _ n1.1 in
      let n3 = split (maximum_nodes s.max_height) _ n2.1 in
      let n4 = split (sides_nodes (sides_of s.margin)) _ n3.1 in
      let n5 = split (sides_nodes (sides_of s.padding)) _ n4.1 in
      let n6 = split (sides_nodes (sides_of s.border)) _ n5.1 in
      let p1 = both (list_all is_bounded (s.width ∷ s.min_width ∷ s.height ∷ s.min_height ∷ [])) _ s.ok.percentages in
      let p2 = both (list_all is_bounded (option_to_list s.max_width ++ option_to_list s.max_height)) _ p1.1 in
      let p3 = halves (option_to_list s.max_width) (option_to_list s.max_height) p2.0 in
      let p4 = halves (sides_of s.margin) (sides_of s.padding ++ sides_of s.border) p2.1 in
      let p5 = halves (sides_of s.padding) (sides_of s.border) p4.1 in
      record {
        sizes = low-lengths (s.width ∷ s.min_width ∷ s.height ∷ s.min_height ∷ []) (omega (arith, own, all, groups)) n1.0 p1.0;
        max_width = low-most s.max_width (omega (arith, own, all, groups)) n2.0 p3.0;
        max_height = low-most s.max_height (omega (arith, own, all, groups)) n3.0 p3.1;
        margin = low-lengths (sides_of s.margin) (omega (arith, own, all, groups)) n4.0 p4.0;
        padding = low-lengths (sides_of s.padding) (omega (arith, own, all, groups)) n5.0 p5.0;
        border = low-lengths (sides_of s.border) (omega (arith, own, all, groups)) n6.0 p5.1;
      }
    where
      halves : (xs ys : List Length) → IsTrue (list_all is_bounded (xs ++ ys)) → IsTrue (list_all is_bounded xs) × IsTrue (list_all is_bounded ys)
      halves xs ys t = both (list_all is_bounded xs) (list_all is_bounded ys) (subst (λ b. IsTrue b) (list_all-append is_bounded xs ys) t)

-- The fonts of a small page and the widths of its texts are small.
use Rattle.std.proofs.Common.{◌≡◌, ℕ, suc, ◌+◌, ◌*◌, ◌/◌, ◌^◌, ◌≤◌, ℤ, pos, ◌+ℤ◌, ◌-ℤ◌, unsigned_abs, List, [], ◌∷◌, ◌++◌, map, sum, length, Option, Some, None, slice_get, refl, sym, ap, ◌∙◌, subst, arith}
use Rattle.std.specs.Option.{option_map_or, option_and_then}
use Rattle.std.specs.Str.{chars}
use Rattle.std.proofs.Math.Nat.{div-le_of_le-mul}
use Rattle.std.proofs.lemmas.List.Sums.{sum_by-cons}
use Rattle.viz_base.specs.Numbers.{floor_of}
use Rattle.viz_base.specs.FontSizes.{text_width_in}
use Rattle.viz_base.specs.declared.fonts.Font.{Font}
use Rattle.viz_base.specs.declared.styles.Style.{Style}
use Rattle.viz_base.specs.declared.trees.BoxNode.{BoxNode}
use Rattle.viz_base.specs.declared.trees.BoxTree.{BoxTree}
use Rattle.viz_base.specs.declared.worlds.World.{World}
use Rattle.layout_semantics.specs.Blocks.{node_of}
use Rattle.layout_semantics.specs.Fonts.{font_size, line_height, ascent, descent, text_width}
use Rattle.layout_semantics.specs.InlineContent.{text_of}
use Rattle.layout_semantics.specs.LineHeights.{inline_extent}
use Rattle.layout_laws.proofs.TreeFacts.{slice_in}
use Rattle.lay_length.proofs.SmallExtents.{IsLowTree, text_low}
use Rattle.lay_length.proofs.SmallFonts.{IsUpTo, size-up, font-up}
use Rattle.lay_length.proofs.SmallNumbers.{size-+, size--, size-floor}
use Rattle.lay_length.proofs.SmallTexts.{wide-up, measured-is, wide, wide-more}
use Rattle.page_limits.proofs.HeightsFonts.{line-up, measure-up, font_cost, box-cost}

-- a measure that grows is at most that at the greatest size
pub size-to : (z most : ℤ) → IsUpTo z most → unsigned_abs z ≤ unsigned_abs most
size-to z most u = let a = u.is in let b = u.most_is in let c = u.below in rw (a, b) c

-- ---- fonts

module _ (tree : BoxTree) (low : IsLowTree tree) (w : World) (small : w.s ≤ 256) where
  pub record AreFontsLow (node : ℕ) (most : ℕ) : Type 0 where
    pub all : unsigned_abs (font_size tree w node) + unsigned_abs (line_height tree w node) + (unsigned_abs (ascent tree w node) + unsigned_abs (descent tree w node)) ≤ most

  pub fonts-within : (node : ℕ) → AreFontsLow node (font_cost tree low w small node)
  fonts-within node =
      let size = font-up tree.styles tree.parents w.s 256 small node in
      let line = size-to _ _ (line-up tree.styles tree.parents w.s 256 small node) in
      let up = size-to _ _ (measure-up tree.styles tree.parents w.s 256 small tree.fonts node (λ (f : Font). f.ascent)) in
      let down = size-to _ _ (measure-up tree.styles tree.parents w.s 256 small tree.fonts node (λ (f : Font). f.descent)) in
      record { all = omega (arith, size, line, up, down) }

  pub record IsFontSmall (node : ℕ) : Type 0 where
    pub ascent : unsigned_abs (ascent tree w node) ≤ 2 ^ 42
    pub descent : unsigned_abs (descent tree w node) ≤ 2 ^ 42
    pub above : unsigned_abs (inline_extent tree w node).above ≤ 2 ^ 42
    pub below : unsigned_abs (inline_extent tree w node).below ≤ 2 ^ 42

  font-small : (node : ℕ) → font_cost tree low w small node ≤ 2 ^ 40 → IsFontSmall node
  font-small node most =
      let all = (fonts-within node).all in
      let both = size-+ (ascent tree w node) (descent tree w node) in
      let rest = size-- (line_height tree w node) (ascent tree w node +ℤ descent tree w node) in
      let half = size-floor (line_height tree w node -ℤ (ascent tree w node +ℤ descent tree w node)) 2 (omega arith) in
      let above = size-+ (ascent tree w node) (floor_of (line_height tree w node -ℤ (ascent tree w node +ℤ descent tree w node)) 2) in
      let below = size-- (line_height tree w node) (ascent tree w node +ℤ floor_of (line_height tree w node -ℤ (ascent tree w node +ℤ descent tree w node)) 2) in
      record {
        ascent = omega (arith, all, most);
        descent = omega (arith, all, most);
        above = omega (arith, all, most, both, rest, half, above);
        below = omega (arith, all, most, both, rest, half, above, below);
      }

  pub box-font-small : (k : ℕ) (x : BoxNode) → slice_get tree.boxes k ≡ Some x → IsFontSmall (node_of tree k)
  box-font-small k x place =
      let node : node_of tree k ≡ x.node = ap (λ (o : Option BoxNode). option_map_or (λ (b : BoxNode). b.node) o 0) place in
      let cost = box-cost tree low w small k x place in
      subst IsFontSmall (sym node) (font-small x.node (omega (arith, cost)))

-- ---- texts in one font

wide-none : (o : Option Font) (a : ℕ) → wide o (pos a) [] ≡ 0
wide-none None a = refl
wide-none (Some font) a =
    let is = measured-is font a 0 in
    let none : 0 * a / font.upem ≤ 0 = div-le_of_le-mul font.upem (omega arith) in
    omega (arith, is, none)

-- at most each character by itself
abbrev apart : (List ℕ → ℕ) → List ℕ → ℕ
apart width cs = sum (map (λ c. width (c ∷ [])) cs) + length cs

wide-apart : (o : Option Font) (a : ℕ) (cs : List ℕ) → wide o (pos a) cs ≤ apart (wide o (pos a)) cs
wide-apart o a [] = let none = wide-none o a in omega (arith, none)
wide-apart o a (c ∷ cs) =
    let more = wide-more o a c cs in
    let rest = wide-apart o a cs in
    let all = sum_by-cons (λ (n : ℕ). n) (wide o (pos a) (c ∷ [])) (map (λ d. wide o (pos a) (d ∷ [])) cs) in
    omega (arith, more, rest, all)

apart-first : (width : List ℕ → ℕ) (xs ys : List ℕ) → apart width xs ≤ apart width (xs ++ ys)
apart-first width [] ys = omega arith
apart-first width (x ∷ xs) ys =
    let rest = apart-first width xs ys in
    let one = sum_by-cons (λ (n : ℕ). n) (width (x ∷ [])) (map (λ d. width (d ∷ [])) xs) in
    let all = sum_by-cons (λ (n : ℕ). n) (width (x ∷ [])) (map (λ d. width (d ∷ [])) (xs ++ ys)) in
    omega (arith, rest, one, all)

apart-last : (width : List ℕ → ℕ) (xs ys : List ℕ) → apart width ys ≤ apart width (xs ++ ys)
apart-last width [] ys = omega arith
apart-last width (x ∷ xs) ys =
    let rest = apart-last width xs ys in
    let all = sum_by-cons (λ (n : ℕ). n) (width (x ∷ [])) (map (λ d. width (d ∷ [])) (xs ++ ys)) in
    omega (arith, rest, all)

-- ---- the texts of a page

module _ (tree : BoxTree) (low : IsLowTree tree) (w : World) (small : w.s ≤ 256) where
  abbrev font_of : ℕ → Option Font
  font_of node = option_and_then (λ (style : Style). slice_get tree.fonts style.font) (slice_get tree.styles node)

  abbrev most_width : ℕ → List ℕ → ℕ
  most_width node text = unsigned_abs (text_width_in tree.styles tree.parents tree.fonts 256 node text)

  part-within : (node : ℕ) (part : List ℕ) → unsigned_abs (text_width tree w node part) ≤ apart (most_width node) part
  part-within node part =
      let u = size-up tree.styles tree.parents w.s 256 small (suc node) node in
      let is = u.is in
      let most_is = u.most_is in
      let up : unsigned_abs (text_width tree w node part) ≤ most_width node part = rw (is, most_is) (wide-up (font_of node) u.low u.high part u.below) in
      let each : most_width node part ≤ apart (most_width node) part = rw most_is (wide-apart (font_of node) u.high part) in
      omega (arith, up, each)

  -- a part of a text
  pub part-small : (k : ℕ) (x : BoxNode) → slice_get tree.boxes k ≡ Some x → (before part after : List ℕ) → before ++ (part ++ after) ≡ text_of tree k → unsigned_abs (text_width tree w (node_of tree k) part) ≤ 2 ^ 42
  part-small k x place before part after same =
      let node : node_of tree k ≡ x.node = ap (λ (o : Option BoxNode). option_map_or (λ (b : BoxNode). b.node) o 0) place in
      let text : text_of tree k ≡ chars x.chars = ap (λ (o : Option BoxNode). option_map_or (λ (b : BoxNode). chars b.chars) o []) place in
      subst (λ (n : ℕ). unsigned_abs (text_width tree w n part) ≤ 2 ^ 42) (sym node)
      (let within = part-within x.node part in
      let first = apart-first (most_width x.node) part after in
      let last = apart-last (most_width x.node) before (part ++ after) in
      let whole : apart (most_width x.node) (before ++ (part ++ after)) ≡ apart (most_width x.node) (chars x.chars) = ap (apart (most_width x.node)) (same ∙ text) in
      let extent = text_low tree low w small x (slice_in tree.boxes k x place) in
      let few = (tree.ok.each k x place).characters in
      omega (arith, within, first, last, whole, extent, few))

-- The facts that a style keeps hold of computed values.
use Rattle.std.proofs.Common.{◌≡◌, ℕ, zero, suc, ℤ, pos, negsuc, ◌^◌, Bool, true, false, ◌&&◌, unsigned_abs, List, [], ◌∷◌, ◌++◌, Option, Some, None, slice_get, refl, sym, subst, arith}
use Rattle.std.specs.Prelude.{◌≤ℤ◌}
use Rattle.std.specs.List.{AllByRecursion, list_all}
use Rattle.std.specs.Option.{option_to_list}
use Rattle.std.proofs.lemmas.Bool.{and_from, le-leb}
use Rattle.std.proofs.lemmas.Int.{ints}
use Rattle.viz_base.specs.Styles.{IsStyle, is_bounded, is_fixed, is_good_line, is_good_size, is_good_valign, is_no_percentage, is_nonnegative, sides_of}
use Rattle.viz_base.specs.declared.lengths.Length.{Length}
use Rattle.viz_base.specs.declared.lengths.Length.TheVariants as of_length
use Rattle.viz_base.specs.declared.lengths.LineHeight.{LineHeight}
use Rattle.viz_base.specs.declared.lengths.Sides.{Sides}
use Rattle.viz_base.specs.declared.lengths.Size.{Size}
use Rattle.viz_base.specs.declared.lengths.Size.TheVariants as of_size
use Rattle.viz_base.specs.declared.lengths.Valign.{Valign}
use Rattle.viz_base.specs.declared.settings.Prop.{Prop}
use Rattle.viz_base.specs.declared.settings.Prop.TheVariants.{BorderTopWidth, BorderRightWidth, BorderBottomWidth, BorderLeftWidth, FontSize, LineHeight as LineHeightProp, VerticalAlign}
use Rattle.viz_base.specs.declared.settings.Setting.{Setting}
use Rattle.viz_base.specs.declared.settings.Value.{Value}
use Rattle.viz_base.specs.declared.settings.Value.TheVariants as of_value
use Rattle.viz_base.specs.declared.styles.Style.{Style}
use Rattle.css_semantics.specs.ComputedValues.{AreLengths, computed, if_drawn, width_of, line_of, size_of, valign_of, OwnLengths}
use Rattle.css_semantics.specs.Properties.{Row, row}
use Rattle.css_semantics.specs.Winners.{IsAllowed, MayWin}
use Rattle.std.proofs.lemmas.Bool.{and_parts}
use Rattle.page_style.proofs.Allowed.{computed_is}
use Rattle.page_style.proofs.BoxLengths.{EachSide, OfStyle, lengths_are}

abbrev Bounded : Length → Type 0
Bounded l = is_bounded l ≡ true

abbrev Good : Length → Type 0
Good l = (is_bounded l ≡ true) × (is_fixed l ≡ true)

-- ---- from a style

all_at : (test : Length → Bool) (ls : List Length) (k : ℕ) (l : Length) → slice_get ls k ≡ Some l → list_all test ls ≡ true → test l ≡ true
all_at test [] k l e h = absurd (cc)
all_at test (x ∷ ls) zero l e h = let same : x ≡ l = cc in subst (λ y. test y ≡ true) same (and_parts (test x) (list_all test ls) h).0
all_at test (x ∷ ls) (suc k) l e h = all_at test ls k l e (and_parts (test x) (list_all test ls) h).1

alone : (test : Length → Bool) (o : Option Length) → list_all test (option_to_list o) ≡ true → (l : Length) → o ≡ Some l → test l ≡ true
alone test None h l e = absurd (cc)
alone test (Some x) h l e = let same : x ≡ l = cc in subst (λ y. test y ≡ true) same (and_parts (test x) true h).0

in_first : (test : Length → Bool) (o q : Option Length) → list_all test (option_to_list o ++ option_to_list q) ≡ true → (l : Length) → o ≡ Some l → test l ≡ true
in_first test None q h l e = absurd (cc)
in_first test (Some x) q h l e = let same : x ≡ l = cc in subst (λ y. test y ≡ true) same (and_parts (test x) (list_all test (option_to_list q)) h).0

in_second : (test : Length → Bool) (o q : Option Length) → list_all test (option_to_list o ++ option_to_list q) ≡ true → (l : Length) → q ≡ Some l → test l ≡ true
in_second test None q h l e = alone test q h l e
in_second test (Some x) q h l e = alone test q (and_parts (test x) (list_all test (option_to_list q)) h).1 l e

of_style : (t : Style) → OfStyle Bounded Good t
of_style t =
    let b = and_parts (list_all is_bounded (t.width ∷ t.min_width ∷ t.height ∷ t.min_height ∷ [])) (list_all is_bounded (option_to_list t.max_width ++ option_to_list t.max_height) && list_all is_bounded (sides_of t.margin ++ (sides_of t.padding ++ sides_of t.border))) t.ok.percentages in
    let c = and_parts (list_all is_bounded (option_to_list t.max_width ++ option_to_list t.max_height)) (list_all is_bounded (sides_of t.margin ++ (sides_of t.padding ++ sides_of t.border))) b.1 in
    let f = and_parts (list_all is_fixed (t.min_width ∷ t.min_height ∷ [])) (list_all is_fixed (option_to_list t.max_width ++ option_to_list t.max_height) && list_all is_fixed (sides_of t.padding ++ sides_of t.border)) t.ok.fixed in
    let g = and_parts (list_all is_fixed (option_to_list t.max_width ++ option_to_list t.max_height)) (list_all is_fixed (sides_of t.padding ++ sides_of t.border)) f.1 in
    let edge = λ (k : ℕ) (l : Length) (e : slice_get (sides_of t.margin ++ (sides_of t.padding ++ sides_of t.border)) k ≡ Some l). all_at is_bounded (sides_of t.margin ++ (sides_of t.padding ++ sides_of t.border)) k l e c.1 in
    let rigid = λ (k : ℕ) (l : Length) (e : slice_get (sides_of t.padding ++ sides_of t.border) k ≡ Some l). all_at is_fixed (sides_of t.padding ++ sides_of t.border) k l e g.1 in
    record {
      width_is = all_at is_bounded (t.width ∷ t.min_width ∷ t.height ∷ t.min_height ∷ []) 0 t.width refl b.0;
      min_width_is = (all_at is_bounded (t.width ∷ t.min_width ∷ t.height ∷ t.min_height ∷ []) 1 t.min_width refl b.0, all_at is_fixed (t.min_width ∷ t.min_height ∷ []) 0 t.min_width refl f.0);
      max_width_is = λ l e. (in_first is_bounded t.max_width t.max_height c.0 l e, in_first is_fixed t.max_width t.max_height g.0 l e);
      height_is = all_at is_bounded (t.width ∷ t.min_width ∷ t.height ∷ t.min_height ∷ []) 2 t.height refl b.0;
      min_height_is = (all_at is_bounded (t.width ∷ t.min_width ∷ t.height ∷ t.min_height ∷ []) 3 t.min_height refl b.0, all_at is_fixed (t.min_width ∷ t.min_height ∷ []) 1 t.min_height refl f.0);
      max_height_is = λ l e. (in_second is_bounded t.max_width t.max_height c.0 l e, in_second is_fixed t.max_width t.max_height g.0 l e);
      margins = record { top = edge 0 t.margin.top refl; right = edge 1 t.margin.right refl; bottom = edge 2 t.margin.bottom refl; left = edge 3 t.margin.left refl };
      paddings = record { top = (edge 4 t.padding.top refl, rigid 0 t.padding.top refl); right = (edge 5 t.padding.right refl, rigid 1 t.padding.right refl); bottom = (edge 6 t.padding.bottom refl, rigid 2 t.padding.bottom refl); left = (edge 7 t.padding.left refl, rigid 3 t.padding.left refl) };
      borders = record { top = (edge 8 t.border.top refl, rigid 4 t.border.top refl); right = (edge 9 t.border.right refl, rigid 5 t.border.right refl); bottom = (edge 10 t.border.bottom refl, rigid 6 t.border.bottom refl); left = (edge 11 t.border.left refl, rigid 7 t.border.left refl) };
    }

-- ---- to a style

maxima : (test : Length → Bool) (o q : Option Length) → ((l : Length) → o ≡ Some l → test l ≡ true) → ((l : Length) → q ≡ Some l → test l ≡ true) → list_all test (option_to_list o ++ option_to_list q) ≡ true
maxima test None None f g = refl
maxima test None (Some y) f g = and_from _ _ (g y refl) refl
maxima test (Some x) None f g = and_from _ _ (f x refl) refl
maxima test (Some x) (Some y) f g = and_from _ _ (f x refl) (and_from _ _ (g y refl) refl)

pct_bounded : (r : Row) (n : ℤ) → MayWin r (of_value.Pct n) → Bounded (of_length.Pct n)
pct_bounded r n m = le-leb (unsigned_abs n) (2 ^ 40) m.1

nonnegative : (n : ℤ) → pos 0 ≤ℤ n → is_nonnegative n ≡ true
nonnegative (pos n) h = refl
nonnegative (negsuc n) h = absurd (omega (arith, ints))

abbrev GoodSize : Size → Type 0
GoodSize s = is_good_size s ≡ true

size_says : (v : Value) → MayWin (row FontSize) v → GoodSize (size_of v)
size_says of_value.Inherit m = refl
size_says (of_value.Word zero) m = refl
size_says (of_value.Word (suc zero)) m = refl
size_says (of_value.Word (suc (suc zero))) m = refl
size_says (of_value.Word (suc (suc (suc zero)))) m = refl
size_says (of_value.Word (suc (suc (suc (suc zero))))) m = refl
size_says (of_value.Word (suc (suc (suc (suc (suc zero)))))) m = refl
size_says (of_value.Word (suc (suc (suc (suc (suc (suc zero))))))) m = refl
size_says (of_value.Word (suc (suc (suc (suc (suc (suc (suc zero)))))))) m = refl
size_says (of_value.Word (suc (suc (suc (suc (suc (suc (suc (suc zero))))))))) m = refl
size_says (of_value.Word (suc (suc (suc (suc (suc (suc (suc (suc (suc n)))))))))) m = refl
size_says (of_value.Px n) m = nonnegative n m
size_says (of_value.Em n) m = and_from _ _ (nonnegative n m) refl
size_says (of_value.Pct n) m = and_from _ _ (nonnegative n m.0) refl
size_says (of_value.Number n) m = refl
size_says (of_value.Names n) m = refl
size_says (of_value.Chars n) m = refl

abbrev GoodLine : LineHeight → Type 0
GoodLine l = is_good_line l ≡ true

line_says : (node : ℕ) (v : Value) → MayWin (row LineHeightProp) v → GoodLine (line_of node v)
line_says node of_value.Inherit m = refl
line_says node (of_value.Word n) m = refl
line_says node (of_value.Px n) m = nonnegative n m
line_says node (of_value.Em n) m = and_from _ _ (nonnegative n m) refl
line_says node (of_value.Pct n) m = and_from _ _ (nonnegative n m.0) refl
line_says node (of_value.Number n) m = and_from _ _ (nonnegative n m) refl
line_says node (of_value.Names n) m = refl
line_says node (of_value.Chars n) m = refl

abbrev GoodValign : Valign → Type 0
GoodValign v = is_good_valign v ≡ true

valign_says : (node : ℕ) (v : Value) → MayWin (row VerticalAlign) v → GoodValign (valign_of node v)
valign_says node of_value.Inherit m = refl
valign_says node (of_value.Word zero) m = refl
valign_says node (of_value.Word (suc zero)) m = refl
valign_says node (of_value.Word (suc (suc zero))) m = refl
valign_says node (of_value.Word (suc (suc (suc zero)))) m = refl
valign_says node (of_value.Word (suc (suc (suc (suc n))))) m = refl
valign_says node (of_value.Px n) m = refl
valign_says node (of_value.Em n) m = refl
valign_says node (of_value.Pct n) m = pct_bounded (row VerticalAlign) n m
valign_says node (of_value.Number n) m = refl
valign_says node (of_value.Names n) m = refl
valign_says node (of_value.Chars n) m = refl

-- ---- borders

abbrev Plain : Length → Type 0
Plain l = is_no_percentage l ≡ true

width_says : (r : Row) (node : ℕ) (v : Value) → ((n : ℤ) → MayWin r (of_value.Pct n) → ⊥) → MayWin r v → Plain (width_of node v)
width_says r node of_value.Inherit none m = refl
width_says r node (of_value.Word zero) none m = refl
width_says r node (of_value.Word (suc zero)) none m = refl
width_says r node (of_value.Word (suc (suc zero))) none m = refl
width_says r node (of_value.Word (suc (suc (suc n)))) none m = refl
width_says r node (of_value.Px n) none m = refl
width_says r node (of_value.Em n) none m = refl
width_says r node (of_value.Pct n) none m = absurd (none n m)
width_says r node (of_value.Number n) none m = refl
width_says r node (of_value.Names n) none m = refl
width_says r node (of_value.Chars n) none m = refl

drawn_plain : (drawn : Bool) (l : Length) → Plain l → Plain (if_drawn drawn l)
drawn_plain true l p = p
drawn_plain false l p = refl

plain_sides : (t : Style) → EachSide Plain t.border
plain_sides t =
    let side = λ (k : ℕ) (l : Length) (e : slice_get (sides_of t.border) k ≡ Some l). all_at is_no_percentage (sides_of t.border) k l e t.ok.plain_borders in
    record { top = side 0 t.border.top refl; right = side 1 t.border.right refl; bottom = side 2 t.border.bottom refl; left = side 3 t.border.left refl }

module _ (node : ℕ) (ws : List Setting) (allowed : AllByRecursion IsAllowed ws) (drawn : Sides Bool) (parent : Option Style) where
  plain_width : (p : Prop) (part : Style → Length) (d : Bool) (l : Length) → l ≡ if_drawn d (computed p (width_of node) part parent ws) → MayWin (row p) (row p).initial
      → ((n : ℤ) → MayWin (row p) (of_value.Pct n) → ⊥) → ((t : Style) → EachSide Plain t.border → Plain (part t)) → Plain l
  plain_width p part d l e m none f =
      subst Plain (sym e) (drawn_plain d _ (computed_is p ws allowed m Plain (width_of node) part parent (λ v h. width_says (row p) node v none h) (λ t h. f t (plain_sides t))))

  -- what the table gives keeps the facts
  pub is_style : (own : OwnLengths) (size : Size) (line : LineHeight) (valign : Valign)
      → AreLengths node ws drawn parent own
      → size ≡ computed FontSize size_of (λ (t : Style). of_size.Same) parent ws
      → line ≡ computed LineHeightProp (line_of node) (λ (t : Style). t.line) parent ws
      → valign ≡ computed VerticalAlign (valign_of node) (λ (t : Style). t.valign) parent ws
      → IsStyle own.width own.min_width own.max_width own.height own.min_height own.max_height own.margin own.padding own.border size line valign
  is_style own size line valign a s i v =
      let l = lengths_are Bounded Good node (λ n. refl) refl (λ k. refl) pct_bounded (λ x f b. (b, f)) ws allowed drawn parent (λ t e. of_style t) own a in
      record {
        percentages = and_from _ _ (and_from _ _ l.width_is (and_from _ _ l.min_width_is.0 (and_from _ _ l.height_is (and_from _ _ l.min_height_is.0 refl))))
            (and_from _ _ (maxima is_bounded own.max_width own.max_height (λ x e. (l.max_width_is x e).0) (λ x e. (l.max_height_is x e).0))
            (and_from _ _ l.margins.top (and_from _ _ l.margins.right (and_from _ _ l.margins.bottom (and_from _ _ l.margins.left
            (and_from _ _ l.paddings.top.0 (and_from _ _ l.paddings.right.0 (and_from _ _ l.paddings.bottom.0 (and_from _ _ l.paddings.left.0
            (and_from _ _ l.borders.top.0 (and_from _ _ l.borders.right.0 (and_from _ _ l.borders.bottom.0 (and_from _ _ l.borders.left.0 refl)))))))))))));
        fixed = and_from _ _ (and_from _ _ l.min_width_is.1 (and_from _ _ l.min_height_is.1 refl))
            (and_from _ _ (maxima is_fixed own.max_width own.max_height (λ x e. (l.max_width_is x e).1) (λ x e. (l.max_height_is x e).1))
            (and_from _ _ l.paddings.top.1 (and_from _ _ l.paddings.right.1 (and_from _ _ l.paddings.bottom.1 (and_from _ _ l.paddings.left.1
            (and_from _ _ l.borders.top.1 (and_from _ _ l.borders.right.1 (and_from _ _ l.borders.bottom.1 (and_from _ _ l.borders.left.1 refl)))))))));
        plain_borders = and_from _ _ (plain_width BorderTopWidth (λ t. t.border.top) drawn.top own.border.top a.border_top (omega arith) (λ n m. m.0) (λ t h. h.top))
            (and_from _ _ (plain_width BorderRightWidth (λ t. t.border.right) drawn.right own.border.right a.border_right (omega arith) (λ n m. m.0) (λ t h. h.right))
            (and_from _ _ (plain_width BorderBottomWidth (λ t. t.border.bottom) drawn.bottom own.border.bottom a.border_bottom (omega arith) (λ n m. m.0) (λ t h. h.bottom))
            (and_from _ _ (plain_width BorderLeftWidth (λ t. t.border.left) drawn.left own.border.left a.border_left (omega arith) (λ n m. m.0) (λ t h. h.left)) refl)));
        size_good = subst GoodSize (sym s) (computed_is FontSize ws allowed (omega arith) GoodSize size_of (λ (t : Style). of_size.Same) parent size_says (λ t e. refl));
        line_good = subst GoodLine (sym i) (computed_is LineHeightProp ws allowed (omega arith) GoodLine (line_of node) (λ (t : Style). t.line) parent (line_says node) (λ t e. t.ok.line_good));
        valign_good = subst GoodValign (sym v) (computed_is VerticalAlign ws allowed (omega arith) GoodValign (valign_of node) (λ (t : Style). t.valign) parent (valign_says node) (λ t e. t.ok.valign_good));
      }

-- Computed styles fit the page and its fonts.
use Rattle.std.proofs.Common.{◌≡◌, ℕ, zero, suc, ◌<◌, Bool, true, false, ◌==◌, ◌&&◌, ◌||◌, List, [], ◌∷◌, ◌++◌, length, Option, Some, None, option_and_then, slice_get, unwrap_or, IsTrue, refl, sym, ap, subst, ◌∙◌, arith}
use Rattle.std.specs.List.{AllByRecursion, list_all, list_any}
use Rattle.std.proofs.lemmas.Bool.{and_from, eq-eqb, eqb-true}
use Rattle.std.proofs.lemmas.List.Folds.{list_all-append}
use Rattle.std.proofs.lemmas.List.Quantifiers.{position-Some}
use Rattle.std.specs.Option.{option_map_or}
use Rattle.std.proofs.lemmas.Option.{same_Some, slice_get_within}
use Rattle.viz_base.specs.Pages.{IsPage, is_element, parent_fits}
use Rattle.viz_base.specs.Styles.{sides_of}
use Rattle.viz_base.specs.Trees.{is_same_size, length_nodes, line_nodes, maximum_nodes, named_nodes, sides_nodes, valign_nodes}
use Rattle.viz_base.specs.declared.fonts.Font.{Font}
use Rattle.viz_base.specs.declared.lengths.Length.{Length}
use Rattle.viz_base.specs.declared.lengths.LineHeight.{LineHeight}
use Rattle.viz_base.specs.declared.lengths.Sides.{Sides}
use Rattle.viz_base.specs.declared.lengths.Size.{Size}
use Rattle.viz_base.specs.declared.lengths.Valign.{Valign}
use Rattle.viz_base.specs.declared.nodes.Node.{Node}
use Rattle.viz_base.specs.declared.settings.Prop.TheVariants.{FontFamily, LineHeight as LineHeightProp, VerticalAlign}
use Rattle.viz_base.specs.declared.settings.Setting.{Setting}
use Rattle.viz_base.specs.declared.settings.Value.{Value}
use Rattle.viz_base.specs.declared.settings.Value.TheVariants as of_value
use Rattle.viz_base.specs.declared.styles.Style.{Style}
use Rattle.viz_base.proofs.ListLemmas.{slice_some}
use Rattle.css_semantics.specs.ComputedValues.{AreComputed, IsComputed, IsOfText, first_named, font_named, font_of, line_of, of_parent, valign_of, own_lengths}
use Rattle.css_semantics.specs.Names.{same_name}
use Rattle.css_semantics.specs.Properties.{row}
use Rattle.css_semantics.specs.Winners.{AreWinners, IsAllowed, MayWin}
use Rattle.layout_semantics.specs.Elements.{ancestors, parent_of}
use Rattle.layout_laws.specs.Styled.{AreStylesOf, is_at_or_above}
use Rattle.layout_laws.proofs.Above.{ancestors_are, parent_is}
use Rattle.page_style.proofs.Allowed.{computed_is}
use Rattle.page_style.proofs.BoxLengths.{EachSide, OfMaximum, OfStyle, lengths_are}

-- ---- the nodes that a style names pass a test

module _ (T : ℕ → Bool) where
  abbrev Named : Length → Type 0
  Named l = list_all T (length_nodes l) ≡ true

  abbrev LineNamed : LineHeight → Type 0
  LineNamed l = list_all T (line_nodes l) ≡ true

  abbrev ValignNamed : Valign → Type 0
  ValignNamed v = list_all T (valign_nodes v) ≡ true

  record Names (s : Style) : Type 0 where
    pub lengths : OfStyle Named Named s
    pub line : LineNamed s.line
    pub valign : ValignNamed s.valign

  joined : (xs ys : List ℕ) → list_all T xs ≡ true → list_all T ys ≡ true → list_all T (xs ++ ys) ≡ true
  joined xs ys e f = list_all-append T xs ys ∙ and_from (list_all T xs) (list_all T ys) e f

  four : (a b c d : Length) → Named a → Named b → Named c → Named d → list_all T (sides_nodes (a ∷ b ∷ c ∷ d ∷ [])) ≡ true
  four a b c d e f g h =
      joined (length_nodes a) (length_nodes b ++ (length_nodes c ++ (length_nodes d ++ []))) e
      (joined (length_nodes b) (length_nodes c ++ (length_nodes d ++ [])) f
      (joined (length_nodes c) (length_nodes d ++ []) g
      (joined (length_nodes d) [] h refl)))

  side : (m : Sides Length) → EachSide Named m → list_all T (sides_nodes (sides_of m)) ≡ true
  side m e = four m.top m.right m.bottom m.left e.top e.right e.bottom e.left

  most : (o : Option Length) → OfMaximum Named o → list_all T (maximum_nodes o) ≡ true
  most None f = refl
  most (Some l) f = f l refl

  listed : (s : Style) → Names s → list_all T (named_nodes s) ≡ true
  listed s n =
      let l = n.lengths in
      joined (sides_nodes (s.width ∷ s.min_width ∷ s.height ∷ s.min_height ∷ [])) _ (four s.width s.min_width s.height s.min_height l.width_is l.min_width_is l.height_is l.min_height_is)
      (joined (maximum_nodes s.max_width) _ (most s.max_width l.max_width_is)
      (joined (maximum_nodes s.max_height) _ (most s.max_height l.max_height_is)
      (joined (sides_nodes (sides_of s.margin)) _ (side s.margin l.margins)
      (joined (sides_nodes (sides_of s.padding)) _ (side s.padding l.paddings)
      (joined (sides_nodes (sides_of s.border)) _ (side s.border l.borders)
      (joined (line_nodes s.line) (valign_nodes s.valign) n.line n.valign))))))

  of_text : (t s : Style) → IsOfText t s → Names t → Names s
  of_text t s i n =
      let a = i.alike in
      let l = n.lengths in
      record {
        lengths = record {
          width_is = subst Named (sym a.width) l.width_is;
          min_width_is = subst Named (sym a.min_width) l.min_width_is;
          max_width_is = subst (OfMaximum Named) (sym a.max_width) l.max_width_is;
          height_is = subst Named (sym a.height) l.height_is;
          min_height_is = subst Named (sym a.min_height) l.min_height_is;
          max_height_is = subst (OfMaximum Named) (sym a.max_height) l.max_height_is;
          margins = subst (EachSide Named) (sym a.margin) l.margins;
          paddings = subst (EachSide Named) (sym a.padding) l.paddings;
          borders = subst (EachSide Named) (sym a.border) l.borders;
        };
        line = subst LineNamed (sym a.line) n.line;
        valign = subst ValignNamed (sym a.valign) n.valign;
      }

  module _ (node : ℕ) (here : T node ≡ true) where
    one : list_all T (node ∷ []) ≡ true
    one = and_from (T node) true here refl

    line_says : (v : Value) → MayWin (row LineHeightProp) v → LineNamed (line_of node v)
    line_says of_value.Inherit m = refl
    line_says (of_value.Word n) m = refl
    line_says (of_value.Px n) m = refl
    line_says (of_value.Em n) m = one
    line_says (of_value.Pct n) m = one
    line_says (of_value.Number n) m = refl
    line_says (of_value.Names n) m = refl
    line_says (of_value.Chars n) m = refl

    valign_says : (v : Value) → MayWin (row VerticalAlign) v → ValignNamed (valign_of node v)
    valign_says of_value.Inherit m = refl
    valign_says (of_value.Word zero) m = refl
    valign_says (of_value.Word (suc zero)) m = refl
    valign_says (of_value.Word (suc (suc zero))) m = refl
    valign_says (of_value.Word (suc (suc (suc zero)))) m = refl
    valign_says (of_value.Word (suc (suc (suc (suc n))))) m = refl
    valign_says (of_value.Px n) m = refl
    valign_says (of_value.Em n) m = one
    valign_says (of_value.Pct n) m = refl
    valign_says (of_value.Number n) m = refl
    valign_says (of_value.Names n) m = refl
    valign_says (of_value.Chars n) m = refl

    of_element : (fonts : List Font) (ws : List Setting) (allowed : AllByRecursion IsAllowed ws) (drawn : Sides Bool) (parent : Option Style) (s : Style) → IsComputed fonts node ws drawn parent s → ((t : Style) → parent ≡ Some t → Names t) → Names s
    of_element fonts ws allowed drawn parent s c up = record {
      lengths = lengths_are Named Named node (λ n. refl) refl (λ k. one) (λ r n m. refl) (λ l f h. h) ws allowed drawn parent (λ t e. (up t e).lengths) (own_lengths s) c.lengths;
      line = subst LineNamed (sym c.line) (computed_is LineHeightProp ws allowed (omega arith) LineNamed (line_of node) (λ (t : Style). t.line) parent line_says (λ t e. (up t e).line));
      valign = subst ValignNamed (sym c.valign) (computed_is VerticalAlign ws allowed (omega arith) ValignNamed (valign_of node) (λ (t : Style). t.valign) parent valign_says (λ t e. (up t e).valign));
    }

-- ---- fonts

module _ (fonts : List Font) (some : 0 < length fonts) where
  named_below : (name : List ℕ) (k : ℕ) → font_named fonts name ≡ Some k → k < length fonts
  named_below name k e = (position-Some (λ (f : Font). same_name name f.name) fonts k (slice_some fonts 0 some).0 e).0

  first_by : (name : List ℕ) (rest : ℕ) (o : Option ℕ) → font_named fonts name ≡ o → rest < length fonts → unwrap_or o rest < length fonts
  first_by name rest None e l = l
  first_by name rest (Some k) e l = named_below name k e

  first_below : (names : List (List ℕ)) → first_named fonts names < length fonts
  first_below [] = some
  first_below (name ∷ names) = first_by name (first_named fonts names) (font_named fonts name) refl (first_below names)

  font_says : (v : Value) → MayWin (row FontFamily) v → font_of fonts v < length fonts
  font_says of_value.Inherit m = some
  font_says (of_value.Word n) m = some
  font_says (of_value.Px n) m = some
  font_says (of_value.Em n) m = some
  font_says (of_value.Pct n) m = some
  font_says (of_value.Number n) m = some
  font_says (of_value.Names names) m = first_below names
  font_says (of_value.Chars names) m = some

-- ---- node by node

all_get : {X : Type 0} (P : X → Type 0) (xs : List X) (at : ℕ) (x : X) → AllByRecursion P xs → slice_get xs at ≡ Some x → P x
all_get P [] at x a e = absurd (cc)
all_get P (y ∷ xs) zero x a e = subst P (same_Some y x e) a.0
all_get P (y ∷ xs) (suc at) x a e = all_get P xs at x a.1 e

module _ (nodes : List Node) (winners : List (List Setting)) (fonts : List Font) (styles : List Style) (page : IsPage nodes) (wins : AreWinners nodes winners) (some : 0 < length fonts) (c : AreComputed nodes winners fonts styles) where
  record Holds (T : ℕ → Bool) (at : ℕ) : Type 0 where
    pub here : T at ≡ true
    pub above : list_all T (ancestors nodes at) ≡ true

  record Fits (at : ℕ) (s : Style) : Type 0 where
    pub names : (T : ℕ → Bool) → Holds T at → Names T s
    pub font : s.font < length fonts

  holds_above : (T : ℕ → Bool) (at q : ℕ) → at < length nodes → parent_of nodes at ≡ Some q → Holds T at → Holds T q
  holds_above T at q l e h =
      let all : list_all T (q ∷ ancestors nodes q) ≡ true = subst (λ (xs : List ℕ). list_all T xs ≡ true) (ancestors_are nodes page at q l e) h.above in
      record { here = first (T q) (list_all T (ancestors nodes q)) all; above = second (T q) (list_all T (ancestors nodes q)) all }
    where
      first : (a b : Bool) → (a && b) ≡ true → a ≡ true
      first true b e = refl
      first false b e = absurd (cc)

      second : (a b : Bool) → (a && b) ≡ true → b ≡ true
      second true b e = e
      second false b e = absurd (cc)

  module _ (at : ℕ) (l : at < length nodes) (n : Node) (is_n : slice_get nodes at ≡ Some n) (before : (q : ℕ) (t : Style) → q < at → slice_get styles q ≡ Some t → Fits q t) where
    of_parent_fits : (q : ℕ) (t : Style) → n.parent ≡ Some q → slice_get styles q ≡ Some t → (parent_of nodes at ≡ Some q) × Fits q t
    of_parent_fits q t p e =
        let is : parent_of nodes at ≡ Some q = subst (λ (o : Option Node). option_and_then (λ (m : Node). m.parent) o ≡ Some q) (sym is_n) p in
        (is, before q t (parent_is nodes page at q is).0 e)

    up_names : (T : ℕ → Bool) → Holds T at → (o : Option ℕ) → n.parent ≡ o → (t : Style) → option_and_then (slice_get styles) o ≡ Some t → Names T t
    up_names T h None p t e = absurd (cc)
    up_names T h (Some q) p t e = let k = of_parent_fits q t p e in k.1.names T (holds_above T at q l k.0 h)

    up_font : (o : Option ℕ) → n.parent ≡ o → (t : Style) → option_and_then (slice_get styles) o ≡ Some t → t.font < length fonts
    up_font None p t e = absurd (cc)
    up_font (Some q) p t e = (of_parent_fits q t p e).1.font

    element_fits : (ws : List Setting) (d : Sides Bool) (s : Style) → slice_get winners at ≡ Some ws → IsComputed fonts at ws d (of_parent styles n) s → Fits at s
    element_fits ws d s is_ws i =
        let allowed = all_get (AllByRecursion IsAllowed) winners at ws wins.allowed is_ws in
        record {
          names = λ T h. of_element T at h.here fonts ws allowed d (of_parent styles n) s i (up_names T h n.parent refl);
          font = subst (λ f. f < length fonts) (sym i.font) (computed_is FontFamily ws allowed refl (λ f. f < length fonts) (font_of fonts) (λ (t : Style). t.font) (of_parent styles n) (font_says fonts some) (up_font n.parent refl));
        }

    text_fits : (t s : Style) → of_parent styles n ≡ Some t → IsOfText t s → Fits at s
    text_fits t s e i = record {
      names = λ T h. of_text T t s i (up_names T h n.parent refl t e);
      font = subst (λ f. f < length fonts) (sym i.alike.font) (up_font n.parent refl t e);
    }

    -- a text is no root
    has_parent : is_element n.body ≡ false → (o : Option ℕ) → n.parent ≡ o → (t : Style) × (option_and_then (slice_get styles) o ≡ Some t)
    has_parent b None p =
        let first : at ≡ 0 = eqb-true at 0 (subst (λ (o : Option ℕ). IsTrue (parent_fits nodes at o)) p (page.parents at n is_n)) in
        let root : slice_get nodes 0 ≡ Some n = subst (λ k. slice_get nodes k ≡ Some n) first is_n in
        let element : is_element n.body ≡ true = subst (λ (o : Option Node). option_map_or (λ (m : Node). is_element m.body) o false ≡ true) root page.root in
        absurd (cc)
    has_parent b (Some q) p =
        let is : parent_of nodes at ≡ Some q = subst (λ (o : Option Node). option_and_then (λ (m : Node). m.parent) o ≡ Some q) (sym is_n) p in
        let below = (parent_is nodes page at q is).0 in
        let each = c.one_style_each in
        slice_some styles q (omega (arith, below, l, each))

    fits_by : (s : Style) → slice_get styles at ≡ Some s → (b : Bool) → is_element n.body ≡ b → Fits at s
    fits_by s e true b =
        let each = c.one_drawn_each in
        let wins_each = wins.each in
        let d = slice_some c.drawn at (omega (arith, l, each)) in
        let ws = slice_some winners at (omega (arith, l, wins_each)) in
        element_fits ws.0 d.0 s ws.1 (c.elements at n ws.0 d.0 s is_n b ws.1 d.1 e)
    fits_by s e false b = let t = has_parent b n.parent refl in text_fits t.0 s t.1 (c.texts at n t.0 s is_n b t.1 e)

  all_fit : (k at : ℕ) → at < k → (s : Style) → slice_get styles at ≡ Some s → Fits at s
  all_fit zero at l s e = absurd (omega (arith, l))
  all_fit (suc k) at l s e =
      let within = slice_get_within styles at s e in
      let each = c.one_style_each in
      let below : at < length nodes = omega (arith, within, each) in
      let n = slice_some nodes at below in
      fits_by at below n.0 n.1 (λ q t m f. all_fit k q (omega (arith, m, l)) t f) s e (is_element n.0.body) refl

  fit : (at : ℕ) (s : Style) → slice_get styles at ≡ Some s → Fits at s
  fit at s e = all_fit (suc at) at (omega arith) s e

  or_first : (a b : Bool) → a ≡ true → (a || b) ≡ true
  or_first true b h = refl
  or_first false b h = absurd (cc)

  or_second : (a b : Bool) → b ≡ true → (a || b) ≡ true
  or_second true b h = refl
  or_second false b h = h

  all_members : (test : ℕ → Bool) (xs : List ℕ) → ((x : ℕ) → list_any (λ a. a == x) xs ≡ true → test x ≡ true) → list_all test xs ≡ true
  all_members test [] f = refl
  all_members test (y ∷ ys) f =
      and_from (test y) (list_all test ys) (f y (or_first (y == y) (list_any (λ a. a == y) ys) (eq-eqb y y refl)))
      (all_members test ys (λ x h. f x (or_second (y == x) (list_any (λ a. a == x) ys) h)))

  holds_at : (at : ℕ) → Holds (is_at_or_above nodes at) at
  holds_at at = record {
    here = or_first (at == at) (list_any (λ a. a == at) (ancestors nodes at)) (eq-eqb at at refl);
    above = all_members (is_at_or_above nodes at) (ancestors nodes at) (λ x h. or_second (x == at) (list_any (λ a. a == x) (ancestors nodes at)) h);
  }

  text_size : (at : ℕ) (n : Node) (s : Style) → slice_get nodes at ≡ Some n → is_element n.body ≡ false → slice_get styles at ≡ Some s → IsTrue (is_same_size s.size)
  text_size at n s e b f =
      let l = slice_get_within nodes at n e in
      let t = has_parent at l n e (λ q u m g. fit q u g) b n.parent refl in
      subst (λ (z : Size). IsTrue (is_same_size z)) (sym (c.texts at n t.0 s e b t.1 f).size) refl

  pub styles_fit : AreStylesOf nodes styles fonts
  styles_fit = record {
    one_each = c.one_style_each;
    fonts_there = λ at s e. (fit at s e).font;
    names_above = λ at s e. listed (is_at_or_above nodes at) s ((fit at s e).names (is_at_or_above nodes at) (holds_at at));
    texts_alike = λ at q n s t e b p f g. (c.texts at n t s e b (ap (option_and_then (slice_get styles)) p ∙ g) f).alike;
    texts_same_size = text_size;
  }

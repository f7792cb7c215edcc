-- What the steps of a shorthand come to is what its grammar says, and nothing else is.
use Rattle.std.proofs.Common.{◌≡◌, ℕ, ◌≤◌, ◌+◌, ℤ, Bool, true, false, cond, ◌&&◌, ◌||◌, List, [], ◌∷◌, ◌++◌, filter, take, drop, length, Option, Some, None, Result, Ok, Err, refl, sym, ap, ◌∙◌, subst, arith, nat_le}
use Rattle.std.specs.List.{AllByRecursion, list_any, list_all, count_by, find, position}
use Rattle.std.proofs.Math.Seq.{drop-append_seam, take-append_seam}
use Rattle.std.proofs.lemmas.List.{take-append-drop}
use Rattle.std.proofs.lemmas.List.Sums.{length-filter}
use Rattle.std.proofs.lemmas.Bool.Decides.{nat_tests}
use Rattle.std.proofs.lemmas.Bool.{and_parts}
use Rattle.std.proofs.Math.Numerals.{one-add}
use Rattle.viz_base.specs.declared.lengths.Sides.{Sides}
use Rattle.viz_base.specs.declared.settings.Prop.{Prop}
use Rattle.viz_base.specs.declared.settings.Prop.TheVariants.{BorderTopWidth, BorderRightWidth, BorderBottomWidth, BorderLeftWidth, BorderTopStyle, BorderRightStyle, BorderBottomStyle, BorderLeftStyle, FontSize, FontFamily, LineHeight}
use Rattle.viz_base.specs.declared.settings.Value.{Value}
use Rattle.viz_base.specs.declared.settings.Value.TheVariants as value
use Rattle.viz_base.specs.declared.settings.Setting.{Setting}
use Rattle.viz_base.proofs.Truths.{by_bool}
use Rattle.viz_base.proofs.Sameness.{same_Ok}
use Rattle.css_semantics.specs.declared.parts.Part.{Part}
use Rattle.css_semantics.specs.declared.parts.Part.TheVariants as part
use Rattle.css_semantics.specs.declared.parts.Refusal.{Refusal}
use Rattle.css_semantics.specs.declared.parts.Refusal.TheVariants.{Ignored, Unsupported}
use Rattle.css_semantics.specs.declared.parts.Shorthand.{Shorthand}
use Rattle.css_semantics.specs.declared.parts.Shorthand.TheVariants as short_of
use Rattle.css_semantics.specs.declared.parts.Takes.{Takes}
use Rattle.css_semantics.specs.declared.parts.Takes.TheVariants.{Nothing, All, NotNegative, ZeroAlone}
use Rattle.css_semantics.specs.Names.{same_name}
use Rattle.css_semantics.specs.Properties.{row}
use Rattle.css_semantics.specs.Values.{then_on, setting, placed, judged, number_value, part_value, is_zero, is_negative, half, is_inherit}
use Rattle.css_semantics.specs.Shorthands.{shorthand, sides, spread, four, margins, paddings, border_widths, border_styles, inherited, is_line, is_line_width, is_line_style, is_colour, is_at_most_one, value_or, each_line, joined, written_lines, lines, is_before_size, is_front, is_system, system_font, font, font_names, named_font, sized_font, height_behind, font_behind, font_from_size, front_len, written_font, font_settings}
use Rattle.css_value.specs.Grammars.{AreSides, IsSides, Gets, Sets, IsBorder, IsHeight, IsFont, ByGrammar, IsShorthand}

-- ---- answers

abbrev Settings : Type 0
Settings = Result (List Setting) Refusal

abbrev answered : List Setting → Settings
answered settings = Ok settings

same_settings : (x y : List Setting) → answered x ≡ answered y → x ≡ y
same_settings x y e = cc

abbrev valued : Value → Result Value Refusal
valued v = Ok v

then_ok : {A B : Type 0} (r : Result A Refusal) (f : A → Result B Refusal) (y : B) → then_on r f ≡ Ok y → (x : A) × (r ≡ Ok x) × (f x ≡ Ok y)
then_ok (Ok x) f y e = (x, refl, e)
then_ok (Err refusal) f y e = cc

by_if : {P : Type 0} (b : Bool) (r s t : Settings) → cond b r s ≡ t → (b ≡ true → r ≡ t → P) → (b ≡ false → s ≡ t → P) → P
by_if true r s t e h k = h refl e
by_if false r s t e h k = k refl e

-- no refusal but that the declaration is dropped
abbrev Mild : {A : Type 0} → Result A Refusal → Type 0
Mild (Ok x) = Unit {0}
Mild (Err refusal) = refusal ≡ Ignored

mild_then : {A B : Type 0} (r : Result A Refusal) (f : A → Result B Refusal) → Mild r → ((x : A) → Mild (f x)) → Mild (then_on r f)
mild_then (Ok x) f h k = k x
mild_then (Err refusal) f h k = h

mild_if : {A : Type 0} (b : Bool) (r s : Result A Refusal) → Mild r → Mild s → Mild (cond b r s)
mild_if true r s h k = h
mild_if false r s h k = k

-- ---- parts that are refused by no name

abbrev NotZeroAlone : Takes → Type 0
NotZeroAlone Nothing = Unit {0}
NotZeroAlone All = Unit {0}
NotZeroAlone NotNegative = Unit {0}
NotZeroAlone ZeroAlone = ⊥

record IsPlain (p : Prop) : Type 0 where
  words : (row p).refused ≡ []
  lengths : NotZeroAlone (row p).lengths
  percentages : NotZeroAlone (row p).percentages
  numbers : NotZeroAlone (row p).numbers

judged_mild : (p : Prop) (t : Takes) (written n : ℤ) (v : Value) → NotZeroAlone t → Mild (judged p t written n v)
judged_mild p Nothing written n v h = refl
judged_mild p All written n v h = tt
judged_mild p NotNegative written n v h = mild_if (is_negative written) (Err Ignored) (Ok v) refl tt
judged_mild p ZeroAlone written n v h = absurd h

abbrev refused_value : Refusal → Result Value Refusal
refused_value refusal = Err refusal

placed_mild : (p : Prop) (word : List ℕ) (o : Option ℕ) → (row p).refused ≡ [] → Mild (placed p word o)
placed_mild p word (Some place) e = tt
placed_mild p word None e = subst (λ words. Mild (cond (list_any (same_name word) words) (refused_value (Unsupported p)) (refused_value Ignored))) (sym e) refl

number_mild : (p : Prop) (t : Takes) (n : ℤ) → IsPlain p → NotZeroAlone t → Mild (number_value p t n)
number_mild p Nothing n h k = mild_if (is_zero n) (judged p (row p).lengths n n (value.Px n)) (Err Ignored) (judged_mild p (row p).lengths n n (value.Px n) h.lengths) refl
number_mild p All n h k = tt
number_mild p NotNegative n h k = judged_mild p NotNegative n n (value.Number n) tt
number_mild p ZeroAlone n h k = absurd k

part_mild : (p : Prop) → IsPlain p → (a : Part) → Mild (part_value p a)
part_mild p h (part.Word word) = placed_mild p word (position (same_name word) (row p).words) h.words
part_mild p h (part.Number n) = number_mild p (row p).numbers n h h.numbers
part_mild p h (part.Percentage n) = judged_mild p (row p).percentages n n (value.Pct n) h.percentages
part_mild p h (part.Px n) = judged_mild p (row p).lengths n n (value.Px n) h.lengths
part_mild p h (part.Em n) = judged_mild p (row p).lengths n n (value.Em n) h.lengths
part_mild p h (part.Ex n) = judged_mild p (row p).lengths n (half n) (value.Em (half n)) h.lengths
part_mild p h (part.Quoted text) = refl
part_mild p h part.Comma = refl
part_mild p h part.Solidus = refl
part_mild p h part.Colour = refl
part_mild p h (part.Function matched) = refl
part_mild p h part.Uri = refl
part_mild p h part.Other = refl

-- ---- four sides

abbrev all_sides : Sides Prop → List Setting
all_sides on = inherited (on.top ∷ on.right ∷ on.bottom ∷ on.left ∷ [])

abbrev quad : Sides Prop → Value → Value → Value → Value → List Setting
quad on t r b l = setting on.top t ∷ setting on.right r ∷ setting on.bottom b ∷ setting on.left l ∷ []

-- what the four sides come to
record AreFour (on : Sides Prop) (parts : Sides Part) (settings : List Setting) : Type 0 where
  top : Value
  right : Value
  bottom : Value
  left : Value
  top_is : part_value on.top parts.top ≡ Ok top
  right_is : part_value on.right parts.right ≡ Ok right
  bottom_is : part_value on.bottom parts.bottom ≡ Ok bottom
  left_is : part_value on.left parts.left ≡ Ok left
  are : quad on top right bottom left ≡ settings

four_said : (on : Sides Prop) (parts : Sides Part) (settings : List Setting) → four on parts ≡ Ok settings → AreFour on parts settings
four_said on parts settings e =
    let t = then_ok (part_value on.top parts.top) _ settings e in
    let r = then_ok (part_value on.right parts.right) _ settings t.2 in
    let b = then_ok (part_value on.bottom parts.bottom) _ settings r.2 in
    let l = then_ok (part_value on.left parts.left) _ settings b.2 in
    record { top = t.0; right = r.0; bottom = b.0; left = l.0; top_is = t.1; right_is = r.1; bottom_is = b.1; left_is = l.1; are = same_settings (quad on t.0 r.0 b.0 l.0) settings l.2 }

said_four : (on : Sides Prop) (parts : Sides Part) (t r b l : Value) → part_value on.top parts.top ≡ Ok t → part_value on.right parts.right ≡ Ok r → part_value on.bottom parts.bottom ≡ Ok b → part_value on.left parts.left ≡ Ok l → four on parts ≡ answered (quad on t r b l)
said_four on parts t r b l i j k m =
    ap (λ x. then_on x (λ top. then_on (part_value on.right parts.right) (λ right. then_on (part_value on.bottom parts.bottom) (λ bottom. then_on (part_value on.left parts.left) (λ left. answered (quad on top right bottom left)))))) i
    ∙ ap (λ x. then_on x (λ right. then_on (part_value on.bottom parts.bottom) (λ bottom. then_on (part_value on.left parts.left) (λ left. answered (quad on t right bottom left))))) j
    ∙ ap (λ x. then_on x (λ bottom. then_on (part_value on.left parts.left) (λ left. answered (quad on t r bottom left)))) k
    ∙ ap (λ x. then_on x (λ left. answered (quad on t r b left))) m

spread_is : (f : Sides Part → Settings) {ps : List Part} {parts : Sides Part} → AreSides ps parts → spread f ps ≡ f parts
spread_is f (AreSides.one a) = refl
spread_is f (AreSides.two a b) = refl
spread_is f (AreSides.three a b c) = refl
spread_is f (AreSides.four a b c d) = refl

written_by : (on : Sides Prop) (ps : List Part) (parts : Sides Part) (settings : List Setting) → is_inherit ps ≡ false → AreSides ps parts → four on parts ≡ Ok settings → IsSides on ps settings
written_by on ps parts settings i are e =
    let h = four_said on parts settings e in subst (IsSides on ps) h.are (IsSides.written i are h.top_is h.right_is h.bottom_is h.left_is)

written_said : (on : Sides Prop) (ps : List Part) (settings : List Setting) → is_inherit ps ≡ false → spread (four on) ps ≡ Ok settings → IsSides on ps settings
written_said on [] settings i e = cc
written_said on (a ∷ []) settings i e = written_by on _ _ settings i (AreSides.one a) e
written_said on (a ∷ b ∷ []) settings i e = written_by on _ _ settings i (AreSides.two a b) e
written_said on (a ∷ b ∷ c ∷ []) settings i e = written_by on _ _ settings i (AreSides.three a b c) e
written_said on (a ∷ b ∷ c ∷ d ∷ []) settings i e = written_by on _ _ settings i (AreSides.four a b c d) e
written_said on (a ∷ b ∷ c ∷ d ∷ x ∷ ps) settings i e = cc

sides_said : (on : Sides Prop) (ps : List Part) (settings : List Setting) → sides on ps ≡ Ok settings → IsSides on ps settings
sides_said on ps settings e =
    by_if (is_inherit ps) (answered (all_sides on)) (spread (four on) ps) (Ok settings) e
    (λ t same. subst (IsSides on ps) (same_settings (all_sides on) settings same) (IsSides.inherits t))
    (λ f same. written_said on ps settings f same)

said_sides : (on : Sides Prop) (ps : List Part) (settings : List Setting) → IsSides on ps settings → sides on ps ≡ Ok settings
said_sides on ps _ (IsSides.inherits i) = ap (λ b. cond b (answered (all_sides on)) (spread (four on) ps)) i
said_sides on ps _ (IsSides.written {parts = parts} {top = t} {right = r} {bottom = b} {left = l} i are h j k m) =
    ap (λ x. cond x (answered (all_sides on)) (spread (four on) ps)) i ∙ spread_is (four on) are ∙ said_four on parts t r b l h j k m

record ArePlain (on : Sides Prop) : Type 0 where
  top : IsPlain on.top
  right : IsPlain on.right
  bottom : IsPlain on.bottom
  left : IsPlain on.left

four_mild : (on : Sides Prop) → ArePlain on → (parts : Sides Part) → Mild (four on parts)
four_mild on h parts =
    mild_then (part_value on.top parts.top) _ (part_mild on.top h.top parts.top) (λ top.
    mild_then (part_value on.right parts.right) _ (part_mild on.right h.right parts.right) (λ right.
    mild_then (part_value on.bottom parts.bottom) _ (part_mild on.bottom h.bottom parts.bottom) (λ bottom.
    mild_then (part_value on.left parts.left) _ (part_mild on.left h.left parts.left) (λ left. tt))))

spread_mild : (f : Sides Part → Settings) → ((parts : Sides Part) → Mild (f parts)) → (ps : List Part) → Mild (spread f ps)
spread_mild f h [] = refl
spread_mild f h (a ∷ []) = h _
spread_mild f h (a ∷ b ∷ []) = h _
spread_mild f h (a ∷ b ∷ c ∷ []) = h _
spread_mild f h (a ∷ b ∷ c ∷ d ∷ []) = h _
spread_mild f h (a ∷ b ∷ c ∷ d ∷ x ∷ ps) = refl

sides_mild : (on : Sides Prop) → ArePlain on → (ps : List Part) → Mild (sides on ps)
sides_mild on h ps = mild_if (is_inherit ps) (answered (all_sides on)) (spread (four on) ps) tt (spread_mild (four on) (four_mild on h) ps)

-- ---- the part of a kind

find_none : (kind : Part → Bool) (ps : List Part) → find kind ps ≡ None → list_any kind ps ≡ false
find_none kind [] e = refl
find_none kind (a ∷ ps) e =
    by_bool (kind a)
    (λ t. absurd (some_none a (sym (ap (λ b. cond b (Some a) (find kind ps)) t) ∙ e)))
    (λ f. ap (λ b. b || list_any kind ps) f ∙ find_none kind ps (sym (ap (λ b. cond b (Some a) (find kind ps)) f) ∙ e)) where
      some_none : (a : Part) → Some a ≡ None → ⊥
      some_none a e = cc

none_found : (kind : Part → Bool) (ps : List Part) → list_any kind ps ≡ false → find kind ps ≡ None
none_found kind [] e = refl
none_found kind (a ∷ ps) e =
    by_bool (kind a)
    (λ t. absurd (true_false (sym (ap (λ b. b || list_any kind ps) t) ∙ e)))
    (λ f. ap (λ b. cond b (Some a) (find kind ps)) f ∙ none_found kind ps (sym (ap (λ b. b || list_any kind ps) f) ∙ e)) where
      true_false : ◌≡◌ {A = Bool} true false → ⊥
      true_false e = cc

abbrev Stands : (Part → Bool) → List Part → Part → Type 0
Stands kind ps a = (before : List Part) × (after : List Part) × (ps ≡ before ++ a ∷ after) × (kind a ≡ true)

same_part : (a b : Part) → Some a ≡ Some b → a ≡ b
same_part a b e = cc

find_some : (kind : Part → Bool) (ps : List Part) (a : Part) → find kind ps ≡ Some a → Stands kind ps a
find_some kind [] a e = cc
find_some kind (b ∷ ps) a e =
    by_bool (kind b)
    (λ t. subst (Stands kind (b ∷ ps)) (same_part b a (sym (ap (λ x. cond x (Some b) (find kind ps)) t) ∙ e)) ([], ps, refl, t))
    (λ f. let h = find_some kind ps a (sym (ap (λ x. cond x (Some b) (find kind ps)) f) ∙ e) in (b ∷ h.0, h.1, ap (λ qs. b ∷ qs) h.2, h.3))

one_at_least : (kind : Part → Bool) (before : List Part) (a : Part) (after : List Part) → kind a ≡ true → 1 ≤ length (filter kind (before ++ a ∷ after))
one_at_least kind [] a after e = subst (λ b. 1 ≤ length (cond b (a ∷ filter kind after) (filter kind after))) (sym e) (omega arith)
one_at_least kind (b ∷ before) a after e =
    let h = one_at_least kind before a after e in
    by_bool (kind b)
    (λ t. subst (λ x. 1 ≤ length (cond x (b ∷ filter kind (before ++ a ∷ after)) (filter kind (before ++ a ∷ after)))) (sym t) (omega arith))
    (λ f. subst (λ x. 1 ≤ length (cond x (b ∷ filter kind (before ++ a ∷ after)) (filter kind (before ++ a ∷ after)))) (sym f) h)

only_one : (kind : Part → Bool) (before : List Part) (a : Part) (after : List Part) → kind a ≡ true → length (filter kind (before ++ a ∷ after)) ≤ 1 → find kind (before ++ a ∷ after) ≡ Some a
only_one kind [] a after e h = ap (λ b. cond b (Some a) (find kind after)) e
only_one kind (b ∷ before) a after e h =
    by_bool (kind b)
    (λ t. absurd (too_many (filter kind (before ++ a ∷ after)) (one_at_least kind before a after e) (subst (λ x. length (cond x (b ∷ filter kind (before ++ a ∷ after)) (filter kind (before ++ a ∷ after))) ≤ 1) t h)))
    (λ f. ap (λ x. cond x (Some b) (find kind (before ++ a ∷ after))) f ∙ only_one kind before a after e (subst (λ x. length (cond x (b ∷ filter kind (before ++ a ∷ after)) (filter kind (before ++ a ∷ after))) ≤ 1) f h)) where
      too_many : (xs : List Part) → 1 ≤ length xs → length (b ∷ xs) ≤ 1 → ⊥
      too_many xs h k = omega arith

-- ---- borders

-- the properties have this initial value, and no value of them is refused by name
abbrev Begins : Value → Prop → Type 0
Begins v p = ((row p).initial ≡ v) × IsPlain p

value_gets : (kind : Part → Bool) (ps : List Part) (p : Prop) (v u : Value) (o : Option Part) → Begins v p → find kind ps ≡ o → value_or v p o ≡ Ok u → Gets kind ps p u
value_gets kind ps p v u None b f e = subst (Gets kind ps p) (b.0 ∙ same_Ok e) (Gets.initial (find_none kind ps f))
value_gets kind ps p v u (Some a) b f e = let h = find_some kind ps a f in Gets.from h.0 h.1 a h.2 h.3 e

gets_value : (kind : Part → Bool) (ps : List Part) (p : Prop) (v u : Value) → length (filter kind ps) ≤ 1 → Begins v p → Gets kind ps p u → value_or v p (find kind ps) ≡ Ok u
gets_value kind ps p v u few b (Gets.from before after a {v = w} whole k e) =
    ap (value_or v p) (ap (find kind) whole ∙ only_one kind before a after k (subst (λ qs. length (filter kind qs) ≤ 1) whole few)) ∙ e
gets_value kind ps p v u few b (Gets.initial k) = ap (value_or v p) (none_found kind ps k) ∙ ap valued (sym b.0)

each_sets : (kind : Part → Bool) (v : Value) (ps : List Part) (props : List Prop) (settings : List Setting) → AllByRecursion (Begins v) props → each_line kind v ps props ≡ Ok settings → Sets kind ps props settings
each_sets kind v ps [] settings b e = subst (Sets kind ps []) (same_settings [] settings e) Sets.none
each_sets kind v ps (p ∷ props) settings b e =
    let first = then_ok (value_or v p (find kind ps)) _ settings e in
    let rest = then_ok (each_line kind v ps props) _ settings first.2 in
    subst (Sets kind ps (p ∷ props)) (same_settings (setting p first.0 ∷ rest.0) settings rest.2)
    (Sets.more (value_gets kind ps p v first.0 (find kind ps) b.0 refl first.1) (each_sets kind v ps props rest.0 b.1 rest.1))

sets_each : (kind : Part → Bool) (v : Value) (ps : List Part) (props : List Prop) (settings : List Setting) → length (filter kind ps) ≤ 1 → AllByRecursion (Begins v) props → Sets kind ps props settings → each_line kind v ps props ≡ Ok settings
sets_each kind v ps _ _ few b Sets.none = refl
sets_each kind v ps _ _ few b (Sets.more {p = p} {v = u} {props = props} {settings = settings} g rest) =
    ap (λ r. then_on r (λ w. then_on (each_line kind v ps props) (λ ss. Ok (setting p w ∷ ss)))) (gets_value kind ps p v u few b.0 g)
    ∙ ap (λ r. then_on r (λ ss. answered (setting p u ∷ ss))) (sets_each kind v ps props settings few b.1 rest)

each_mild : (kind : Part → Bool) (v : Value) (ps : List Part) (props : List Prop) → AllByRecursion (Begins v) props → Mild (each_line kind v ps props)
each_mild kind v ps [] b = tt
each_mild kind v ps (p ∷ props) b =
    mild_then (value_or v p (find kind ps)) _ (value_mild (find kind ps))
    (λ u. mild_then (each_line kind v ps props) _ (each_mild kind v ps props b.1) (λ ss. tt)) where
      value_mild : (o : Option Part) → Mild (value_or v p o)
      value_mild None = tt
      value_mild (Some a) = part_mild p b.0.1 a

few_of : (kind : Part → Bool) (ps : List Part) → is_at_most_one kind ps ≡ true → length (filter kind ps) ≤ 1
few_of kind ps e = subst (λ n. n ≤ 1) (sym (length-filter kind ps)) (at_most (count_by kind ps) e) where
  at_most : (n : ℕ) → nat_le n 1 ≡ true → n ≤ 1
  at_most n h = grind (arith, nat_tests)

-- a line has one width and one style at most
line_few : (ps : List Part) → is_line ps ≡ true → (length (filter is_line_width ps) ≤ 1) × (length (filter is_line_style ps) ≤ 1)
line_few ps e =
    let colour = and_parts _ (is_at_most_one is_colour ps) e in
    let style = and_parts _ (is_at_most_one is_line_style ps) colour.0 in
    let width = and_parts _ (is_at_most_one is_line_width ps) style.0 in
    (few_of is_line_width ps width.1, few_of is_line_style ps style.1)

abbrev BorderProps : List Prop → List Prop → Type 0
BorderProps widths styles = AllByRecursion (Begins (row BorderTopWidth).initial) widths × AllByRecursion (Begins (row BorderTopStyle).initial) styles

lines_said : (widths styles : List Prop) (ps : List Part) (settings : List Setting) → BorderProps widths styles → lines widths styles ps ≡ Ok settings → IsBorder widths styles ps settings
lines_said widths styles ps settings b e =
    by_if (is_inherit ps) _ _ _ e
    (λ i f. subst (IsBorder widths styles ps) (same_settings _ settings f) (IsBorder.inherits i))
    (λ i f. by_if (is_line ps) _ _ _ f (λ l g. written_said i l g) (λ l g. absurd (no_settings g))) where
      no_settings : ◌≡◌ {A = Settings} (Err Ignored) (Ok settings) → ⊥
      no_settings e = cc

      written_said : is_inherit ps ≡ false → is_line ps ≡ true → written_lines widths styles ps ≡ Ok settings → IsBorder widths styles ps settings
      written_said i l g =
          let first = then_ok (each_line is_line_width (row BorderTopWidth).initial ps widths) _ settings g in
          let rest = then_ok (each_line is_line_style (row BorderTopStyle).initial ps styles) _ settings first.2 in
          subst (IsBorder widths styles ps) (same_settings (first.0 ++ rest.0) settings rest.2)
          (IsBorder.written i l (each_sets is_line_width _ ps widths first.0 b.0 first.1) (each_sets is_line_style _ ps styles rest.0 b.1 rest.1))

said_lines : (widths styles : List Prop) (ps : List Part) (settings : List Setting) → BorderProps widths styles → IsBorder widths styles ps settings → lines widths styles ps ≡ Ok settings
said_lines widths styles ps settings b (IsBorder.inherits i) = ap (λ x. cond x (answered (inherited widths ++ inherited styles)) (cond (is_line ps) (written_lines widths styles ps) (Err Ignored))) i
said_lines widths styles ps settings b (IsBorder.written {ws = ws} {ss = ss} i l w s) =
    let few = line_few ps l in
    ap (λ x. cond x (answered (inherited widths ++ inherited styles)) (cond (is_line ps) (written_lines widths styles ps) (Err Ignored))) i
    ∙ ap (λ x. cond x (written_lines widths styles ps) (Err Ignored)) l
    ∙ ap (λ r. then_on r (λ ms. joined ms (each_line is_line_style (row BorderTopStyle).initial ps styles))) (sets_each is_line_width _ ps widths ws few.0 b.0 w)
    ∙ ap (joined ws) (sets_each is_line_style _ ps styles ss few.1 b.1 s)

lines_mild : (widths styles : List Prop) (ps : List Part) → BorderProps widths styles → Mild (lines widths styles ps)
lines_mild widths styles ps b =
    mild_if (is_inherit ps) _ _ tt
    (mild_if (is_line ps) _ _
    (mild_then (each_line is_line_width _ ps widths) _ (each_mild is_line_width _ ps widths b.0)
    (λ ws. mild_then (each_line is_line_style _ ps styles) _ (each_mild is_line_style _ ps styles b.1) (λ ss. tt)))
    refl)

-- ---- font

size_plain : IsPlain FontSize
size_plain = record { words = refl; lengths = tt; percentages = tt; numbers = tt }

height_plain : IsPlain LineHeight
height_plain = record { words = refl; lengths = tt; percentages = tt; numbers = tt }

named_mild : (s h : Value) (o : Option (List (List ℕ))) → Mild (named_font s h o)
named_mild s h None = refl
named_mild s h (Some names) = tt

behind_mild : (size : Part) (ps : List Part) (o : Option (Part × List Part)) → Mild (font_behind size ps o)
behind_mild size ps None = mild_then (part_value FontSize size) _ (part_mild FontSize size_plain size) (λ s. named_mild s _ (font_names ps))
behind_mild size ps (Some p) =
    mild_then (part_value FontSize size) _ (part_mild FontSize size_plain size)
    (λ s. mild_then (part_value LineHeight p.0) _ (part_mild LineHeight height_plain p.0) (λ h. named_mild s h (font_names p.1)))

size_mild : (ps : List Part) → Mild (font_from_size ps)
size_mild [] = refl
size_mild (size ∷ ps) = behind_mild size ps (height_behind ps)

font_mild : (ps : List Part) → Mild (font ps)
font_mild ps =
    mild_if (is_inherit ps) _ _ tt
    (mild_if (is_system ps) _ _ tt (mild_if (is_front (take (front_len ps) ps)) (font_from_size (drop (front_len ps) ps)) (Err Ignored) (size_mild (drop (front_len ps) ps)) refl))

-- what the steps say stands in the grammar

front_passes : (ps : List Part) → list_all is_before_size (take (front_len ps) ps) ≡ true
front_passes [] = refl
front_passes (a ∷ ps) =
    by_bool (is_before_size a)
    (λ t. subst (λ b. list_all is_before_size (take (cond b (1 + front_len ps) 0) (a ∷ ps)) ≡ true) (sym t) (subst (λ n. list_all is_before_size (take n (a ∷ ps)) ≡ true) (sym (one-add (front_len ps))) (ap (λ b. b && list_all is_before_size (take (front_len ps) ps)) t ∙ front_passes ps)))
    (λ f. subst (λ b. list_all is_before_size (take (cond b (1 + front_len ps) 0) (a ∷ ps)) ≡ true) (sym f) refl)

abbrev is_behind : List Part → Option (Part × List Part) → Type 0
is_behind ps None = Unit {0}
is_behind ps (Some p) = ps ≡ part.Solidus ∷ p.0 ∷ p.1

behind_is : (ps : List Part) → is_behind ps (height_behind ps)
behind_is [] = tt
behind_is (part.Solidus ∷ []) = tt
behind_is (part.Solidus ∷ a ∷ ps) = refl
behind_is (part.Word word ∷ ps) = tt
behind_is (part.Quoted text ∷ ps) = tt
behind_is (part.Number n ∷ ps) = tt
behind_is (part.Percentage n ∷ ps) = tt
behind_is (part.Px n ∷ ps) = tt
behind_is (part.Em n ∷ ps) = tt
behind_is (part.Ex n ∷ ps) = tt
behind_is (part.Comma ∷ ps) = tt
behind_is (part.Colour ∷ ps) = tt
behind_is (part.Function matched ∷ ps) = tt
behind_is (part.Uri ∷ ps) = tt
behind_is (part.Other ∷ ps) = tt

named_said : (s h : Value) (o : Option (List (List ℕ))) (settings : List Setting) → named_font s h o ≡ Ok settings → (names : List (List ℕ)) × (o ≡ Some names) × (font_settings s names h ≡ settings)
named_said s h None settings e = cc
named_said s h (Some names) settings e = (names, refl, same_settings (font_settings s names h) settings e)

sized_said : (whole front : List Part) (size : Part) (ps : List Part) (o : Option (Part × List Part)) (settings : List Setting) → whole ≡ front ++ size ∷ ps → list_all is_before_size front ≡ true → is_front front ≡ true → is_before_size size ≡ false → is_behind ps o → font_behind size ps o ≡ Ok settings → IsFont whole settings
sized_said whole front size ps None settings w a f z b e =
    let s = then_ok (part_value FontSize size) _ settings e in
    let n = named_said s.0 (row LineHeight).initial (font_names ps) settings s.2 in
    subst (IsFont whole) n.2 (IsFont.written front [] ps size w a f z s.1 IsHeight.no_height n.1)
sized_said whole front size ps (Some p) settings w a f z b e =
    let s = then_ok (part_value FontSize size) _ settings e in
    let h = then_ok (part_value LineHeight p.0) _ settings s.2 in
    let n = named_said s.0 h.0 (font_names p.1) settings h.2 in
    subst (IsFont whole) n.2 (IsFont.written front (part.Solidus ∷ p.0 ∷ []) p.1 size (w ∙ ap (λ qs. front ++ size ∷ qs) b) a f z s.1 (IsHeight.height h.1) n.1)

abbrev IsStop : List Part → Type 0
IsStop [] = Unit {0}
IsStop (size ∷ ps) = is_before_size size ≡ false

front_stops : (ps : List Part) → IsStop (drop (front_len ps) ps)
front_stops [] = tt
front_stops (a ∷ ps) =
    by_bool (is_before_size a)
    (λ t. subst (λ b. IsStop (drop (cond b (1 + front_len ps) 0) (a ∷ ps))) (sym t) (subst (λ n. IsStop (drop n (a ∷ ps))) (sym (one-add (front_len ps))) (front_stops ps)))
    (λ f. subst (λ b. IsStop (drop (cond b (1 + front_len ps) 0) (a ∷ ps))) (sym f) f)

size_said : (whole front ps : List Part) (settings : List Setting) → whole ≡ front ++ ps → list_all is_before_size front ≡ true → is_front front ≡ true → IsStop ps → font_from_size ps ≡ Ok settings → IsFont whole settings
size_said whole front [] settings w a f z e = cc
size_said whole front (size ∷ ps) settings w a f z e = sized_said whole front size ps (height_behind ps) settings w a f z (behind_is ps) e

no_settings : (settings : List Setting) → ◌≡◌ {A = Settings} (Err Ignored) (Ok settings) → ⊥
no_settings settings e = cc

font_said : (ps : List Part) (settings : List Setting) → font ps ≡ Ok settings → IsFont ps settings
font_said ps settings e =
    by_if (is_inherit ps) _ _ _ e
    (λ i f. subst (IsFont ps) (same_settings _ settings f) (IsFont.inherits i))
    (λ i f. by_if (is_system ps) _ _ _ f
    (λ s g. subst (IsFont ps) (same_settings _ settings g) (IsFont.system i s))
    (λ s g. by_if (is_front (take (front_len ps) ps)) _ _ _ g
    (λ t k. size_said ps (take (front_len ps) ps) (drop (front_len ps) ps) settings (sym (take-append-drop (front_len ps) ps)) (front_passes ps) t (front_stops ps) k)
    (λ t k. absurd (no_settings settings k))))

-- and what stands in the grammar the steps say

abbrev IsLong : List Part → Type 0
IsLong [] = ⊥
IsLong (a ∷ []) = ⊥
IsLong (a ∷ b ∷ ps) = Unit {0}

no_inherit : (ps : List Part) → IsLong ps → is_inherit ps ≡ false
no_inherit [] h = absurd h
no_inherit (a ∷ []) h = absurd h
no_inherit (a ∷ b ∷ ps) h = refl

no_system : (ps : List Part) → IsLong ps → is_system ps ≡ false
no_system [] h = absurd h
no_system (a ∷ []) h = absurd h
no_system (a ∷ b ∷ ps) h = refl

long_behind : (front ps : List Part) → IsLong ps → IsLong (front ++ ps)
long_behind [] ps h = h
long_behind (a ∷ []) [] h = absurd h
long_behind (a ∷ []) (b ∷ ps) h = tt
long_behind (a ∷ b ∷ front) ps h = tt

long_font : (size : Part) (behind family : List Part) (h : Value) (names : List (List ℕ)) → IsHeight behind h → font_names family ≡ Some names → IsLong (size ∷ (behind ++ family))
long_font size _ family h names (IsHeight.height e) n = tt
long_font size _ [] h names IsHeight.no_height n = cc
long_font size _ (a ∷ family) h names IsHeight.no_height n = tt

stops : (front : List Part) (size : Part) (ps : List Part) → list_all is_before_size front ≡ true → is_before_size size ≡ false → front_len (front ++ size ∷ ps) ≡ length front
stops [] size ps a e = ap (λ b. cond b (1 + front_len ps) 0) e
stops (b ∷ front) size ps a e =
    let h = and_parts (is_before_size b) (list_all is_before_size front) a in
    ap (λ x. cond x (1 + front_len (front ++ size ∷ ps)) 0) h.0 ∙ ap (λ n. 1 + n) (stops front size ps h.1 e) ∙ one-add (length front)

no_height_in : (family : List Part) (names : List (List ℕ)) → font_names family ≡ Some names → height_behind family ≡ None
no_height_in [] names e = refl
no_height_in (part.Solidus ∷ []) names e = refl
no_height_in (part.Solidus ∷ a ∷ ps) names e = cc
no_height_in (part.Word word ∷ ps) names e = refl
no_height_in (part.Quoted text ∷ ps) names e = refl
no_height_in (part.Number n ∷ ps) names e = refl
no_height_in (part.Percentage n ∷ ps) names e = refl
no_height_in (part.Px n ∷ ps) names e = refl
no_height_in (part.Em n ∷ ps) names e = refl
no_height_in (part.Ex n ∷ ps) names e = refl
no_height_in (part.Comma ∷ ps) names e = refl
no_height_in (part.Colour ∷ ps) names e = refl
no_height_in (part.Function matched ∷ ps) names e = refl
no_height_in (part.Uri ∷ ps) names e = refl
no_height_in (part.Other ∷ ps) names e = refl

from_size : (size : Part) (behind family : List Part) (s h : Value) (names : List (List ℕ)) → part_value FontSize size ≡ Ok s → IsHeight behind h → font_names family ≡ Some names → font_from_size (size ∷ (behind ++ family)) ≡ Ok (font_settings s names h)
from_size size _ family s h names e (IsHeight.height {a = a} k) n =
    ap (λ r. sized_font r (part_value LineHeight a) family) e ∙ ap (λ r. sized_font (valued s) r family) k ∙ ap (named_font s h) n
from_size size _ family s _ names e IsHeight.no_height n =
    ap (font_behind size family) (no_height_in family names n)
    ∙ ap (λ r. sized_font r (valued (row LineHeight).initial) family) e ∙ ap (named_font s (row LineHeight).initial) n

abbrev font_unless : Bool → List Part → Settings
font_unless system ps = cond system (Ok system_font) (written_font ps)

abbrev all_inherited : Settings
all_inherited = Ok (inherited (FontSize ∷ FontFamily ∷ LineHeight ∷ []))

said_font : (ps : List Part) (settings : List Setting) → IsFont ps settings → font ps ≡ Ok settings
said_font ps _ (IsFont.inherits i) = ap (λ b. cond b all_inherited (font_unless (is_system ps) ps)) i
said_font ps _ (IsFont.system i s) = ap (λ b. cond b all_inherited (font_unless (is_system ps) ps)) i ∙ ap (λ b. font_unless b ps) s
said_font ps _ (IsFont.written front behind family size {s = s} {h = h} {names = names} whole a f z e k n) =
    let rest = size ∷ (behind ++ family) in
    let long : IsLong ps = subst IsLong (sym whole) (long_behind front rest (long_font size behind family h names k n)) in
    let len : front_len ps ≡ length front = ap front_len whole ∙ stops front size (behind ++ family) a z in
    let taken : take (front_len ps) ps ≡ front = ap (λ m. take m ps) len ∙ ap (take (length front)) whole ∙ take-append_seam front rest in
    let left : drop (front_len ps) ps ≡ rest = ap (λ m. drop m ps) len ∙ ap (drop (length front)) whole ∙ drop-append_seam front rest in
    ap (λ b. cond b all_inherited (font_unless (is_system ps) ps)) (no_inherit ps long)
    ∙ ap (λ b. font_unless b ps) (no_system ps long)
    ∙ ap (λ b. cond b (font_from_size (drop (front_len ps) ps)) (Err Ignored)) (ap is_front taken ∙ f)
    ∙ ap font_from_size left ∙ from_size size behind family s h names e k n

-- ---- each shorthand

to_grammar : (IsSaid : List Setting → Type 0) (r : Settings) → ((settings : List Setting) → r ≡ Ok settings → IsSaid settings) → ((settings : List Setting) → IsSaid settings → r ≡ Ok settings) → Mild r → ByGrammar IsSaid r
to_grammar IsSaid (Ok settings) h k m = ByGrammar.said (h settings refl)
to_grammar IsSaid (Err refusal) h k m =
    subst (λ x. ByGrammar IsSaid (Err x)) (sym m) (ByGrammar.dropped (λ settings g. other refusal settings (k settings g))) where
      other : (refusal : Refusal) (settings : List Setting) → ◌≡◌ {A = Settings} (Err refusal) (Ok settings) → ⊥
      other refusal settings e = cc

by_grammar : (IsSaid : List Setting → Type 0) (r answer : Settings) → ((settings : List Setting) → r ≡ Ok settings → IsSaid settings) → ((settings : List Setting) → IsSaid settings → r ≡ Ok settings) → Mild r → ByGrammar IsSaid answer → answer ≡ r
by_grammar IsSaid r _ h k m (ByGrammar.said {settings = settings} g) = sym (k settings g)
by_grammar IsSaid (Ok settings) _ h k m (ByGrammar.dropped nothing) = absurd (nothing settings (h settings refl))
by_grammar IsSaid (Err refusal) _ h k m (ByGrammar.dropped nothing) = ap (λ x. Err x) (sym m)

abbrev Same : Settings → (Settings → Type 0) → Type 0
Same r Answer = Answer r × ((answer : Settings) → Answer answer → answer ≡ r)

grammar_same : (IsSaid : List Setting → Type 0) (r : Settings) → ((settings : List Setting) → r ≡ Ok settings → IsSaid settings) → ((settings : List Setting) → IsSaid settings → r ≡ Ok settings) → Mild r → Same r (ByGrammar IsSaid)
grammar_same IsSaid r h k m = (to_grammar IsSaid r h k m, λ answer g. by_grammar IsSaid r answer h k m g)

border_same : (widths styles : List Prop) (ps : List Part) → BorderProps widths styles → Same (lines widths styles ps) (ByGrammar (IsBorder widths styles ps))
border_same widths styles ps b =
    grammar_same (IsBorder widths styles ps) (lines widths styles ps) (λ settings e. lines_said widths styles ps settings b e) (λ settings e. said_lines widths styles ps settings b e) (lines_mild widths styles ps b)

abbrev plain : {p : Prop} → (row p).refused ≡ [] → NotZeroAlone (row p).lengths → NotZeroAlone (row p).percentages → NotZeroAlone (row p).numbers → IsPlain p
plain w l q n = record { words = w; lengths = l; percentages = q; numbers = n }

abbrev begin : {v : Value} {p : Prop} → (row p).initial ≡ v → (row p).refused ≡ [] → NotZeroAlone (row p).lengths → NotZeroAlone (row p).percentages → NotZeroAlone (row p).numbers → Begins v p
begin i w l q n = (i, plain w l q n)

sides_same : (on : Sides Prop) (ps : List Part) → ArePlain on → Same (sides on ps) (ByGrammar (IsSides on ps))
sides_same on ps h = grammar_same (IsSides on ps) (sides on ps) (sides_said on ps) (said_sides on ps) (sides_mild on h ps)

abbrev itself : (r : Settings) → Same r (λ answer. answer ≡ r)
itself r = (refl, λ answer e. e)

pub shorthand_same : (s : Shorthand) (ps : List Part) → Same (shorthand s ps) (IsShorthand s ps)
shorthand_same short_of.Margin ps = sides_same margins ps (record { top = plain refl tt tt tt; right = plain refl tt tt tt; bottom = plain refl tt tt tt; left = plain refl tt tt tt })
shorthand_same short_of.Padding ps = sides_same paddings ps (record { top = plain refl tt tt tt; right = plain refl tt tt tt; bottom = plain refl tt tt tt; left = plain refl tt tt tt })
shorthand_same short_of.BorderWidth ps = sides_same border_widths ps (record { top = plain refl tt tt tt; right = plain refl tt tt tt; bottom = plain refl tt tt tt; left = plain refl tt tt tt })
shorthand_same short_of.BorderStyle ps = sides_same border_styles ps (record { top = plain refl tt tt tt; right = plain refl tt tt tt; bottom = plain refl tt tt tt; left = plain refl tt tt tt })
shorthand_same short_of.Border ps =
    border_same (BorderTopWidth ∷ BorderRightWidth ∷ BorderBottomWidth ∷ BorderLeftWidth ∷ []) (BorderTopStyle ∷ BorderRightStyle ∷ BorderBottomStyle ∷ BorderLeftStyle ∷ []) ps
    ((begin refl refl tt tt tt, (begin refl refl tt tt tt, (begin refl refl tt tt tt, (begin refl refl tt tt tt, tt)))), (begin refl refl tt tt tt, (begin refl refl tt tt tt, (begin refl refl tt tt tt, (begin refl refl tt tt tt, tt)))))
shorthand_same short_of.BorderTop ps = border_same (BorderTopWidth ∷ []) (BorderTopStyle ∷ []) ps ((begin refl refl tt tt tt, tt), (begin refl refl tt tt tt, tt))
shorthand_same short_of.BorderRight ps = border_same (BorderRightWidth ∷ []) (BorderRightStyle ∷ []) ps ((begin refl refl tt tt tt, tt), (begin refl refl tt tt tt, tt))
shorthand_same short_of.BorderBottom ps = border_same (BorderBottomWidth ∷ []) (BorderBottomStyle ∷ []) ps ((begin refl refl tt tt tt, tt), (begin refl refl tt tt tt, tt))
shorthand_same short_of.BorderLeft ps = border_same (BorderLeftWidth ∷ []) (BorderLeftStyle ∷ []) ps ((begin refl refl tt tt tt, tt), (begin refl refl tt tt tt, tt))
shorthand_same short_of.Font ps = grammar_same (IsFont ps) (font ps) (font_said ps) (said_font ps) (font_mild ps)
shorthand_same short_of.ListStyle ps = itself _

-- The settings of a declaration are allowed by the table.
use Rattle.std.proofs.Common.{◌≡◌, ℕ, ℤ, pos, neg_ℤ, unsigned_abs, zero, suc, ◌-◌, ◌^◌, ◌*ℤ◌, codes, ◌≤◌, ◌&&◌, Bool, true, false, cond, List, [], ◌∷◌, ◌++◌, take, drop, length, IsTrue, Option, Some, None, Result, Ok, Err, refl, sym, subst, arith}
use Rattle.std.specs.Prelude.{nat_le, flat_map}
use Rattle.std.specs.List.{AllByRecursion, find, list_any, position}
use Rattle.std.specs.Str.{chars}
use Rattle.std.proofs.lemmas.Bool.Decides.{nat_tests}
use Rattle.viz_base.specs.Decimals.{decimal_of, is_number, millionths_of}
use Rattle.viz_base.specs.Numbers.{floor_of}
use Rattle.viz_base.specs.declared.lengths.Sides.{Sides}
use Rattle.viz_base.specs.declared.settings.Prop.{Prop}
use Rattle.viz_base.specs.declared.settings.Prop.TheVariants.{BorderTopWidth, BorderRightWidth, BorderBottomWidth, BorderLeftWidth, BorderTopStyle, BorderRightStyle, BorderBottomStyle, BorderLeftStyle, FontSize, FontFamily, LineHeight}
use Rattle.viz_base.specs.declared.settings.Setting.{Setting}
use Rattle.viz_base.specs.declared.settings.Value.{Value}
use Rattle.viz_base.specs.declared.settings.Value.TheVariants as value
use Rattle.css_semantics.specs.Pieces.{Token}
use Rattle.viz_base.specs.declared.tokens.TokenKind.{TokenKind}
use Rattle.viz_base.specs.declared.tokens.TokenKind.TheVariants.{Ident, Str, Hash, Number, Percentage, Dimension, Function, Delim}
use Rattle.viz_base.proofs.ListLemmas.{all_append}
use Rattle.css_semantics.specs.declared.parts.Part.{Part}
use Rattle.css_semantics.specs.declared.parts.Part.TheVariants as part
use Rattle.css_semantics.specs.declared.parts.Refusal.{Refusal}
use Rattle.css_semantics.specs.declared.parts.Refusal.TheVariants.{Ignored, Unsupported}
use Rattle.css_semantics.specs.declared.parts.Shorthand.{Shorthand}
use Rattle.css_semantics.specs.declared.parts.Shorthand.TheVariants.{Margin, Padding, BorderWidth, BorderStyle, Border, BorderTop, BorderRight, BorderBottom, BorderLeft, Font, ListStyle}
use Rattle.css_semantics.specs.declared.parts.Takes.{Takes}
use Rattle.css_semantics.specs.declared.parts.Takes.TheVariants.{Nothing, All, NotNegative, ZeroAlone}
use Rattle.css_semantics.specs.Properties.{row}
use Rattle.css_semantics.specs.SheetsMarks.{is_comma, is_character, is_gap}
use Rattle.css_semantics.specs.SheetsReading.{closed_by_end, gathered}
use Rattle.css_semantics.specs.Shorthands.{declared, each_line, four, font, font_behind, font_from_size, font_names, front_len, height_behind, inherited, is_front, is_line, is_line_style, is_line_width, is_system, joined, lines, longhand_or, named_font, shorthand, shorthand_named, sides, sized_font, spread, system_font, value_or, written_font}
use Rattle.css_semantics.specs.Properties.{property_named}
use Rattle.css_semantics.specs.Values.{families, families_of, half, is_inherit, is_negative, is_zero, judged, longhand, number_value, one_part, part_value, placed, setting, then_on, whole_value, text_or_one, are_strings, is_other_content, quoted}
use Rattle.css_semantics.specs.ValuesLaws.{HasValue}
use Rattle.css_semantics.specs.ValuesParts.{after_part, amount_in, amount_of, counted, delim_part, is_amount, is_minus, is_sign, length_of, numeral_of, part_item, part_of, parts, signed, signed_part, unit_of}
use Rattle.css_semantics.specs.Names.{same_name}
use Rattle.css_semantics.specs.Winners.{AreAllowed, IsAllowed, MayWin}
use Rattle.css_semantics.proofs.TableLemmas.{part_has}

-- ---- percentages of parts

abbrev IsCounted : Part → Type 0
IsCounted (part.Percentage n) = unsigned_abs n ≤ 2 ^ 40
IsCounted _ = Unit {0}

either_counted : (b : Bool) (x y : Part) → IsCounted x → IsCounted y → IsCounted (cond b x y)
either_counted true x y h k = h
either_counted false x y h k = k

length_counted : (n : ℤ) (unit : List ℕ) → IsCounted (length_of n unit)
length_counted n unit =
    let ex = cond (same_name unit (codes "ex")) (part.Ex n) part.Other in
    let em = cond (same_name unit (codes "em")) (part.Em n) ex in
    let pc = cond (same_name unit (codes "pc")) (part.Px (floor_of (n *ℤ pos 73728) 72000000)) em in
    let pt = cond (same_name unit (codes "pt")) (part.Px (floor_of (n *ℤ pos 6144) 72000000)) pc in
    let mm = cond (same_name unit (codes "mm")) (part.Px (floor_of (n *ℤ pos 61440) 254000000)) pt in
    let cm = cond (same_name unit (codes "cm")) (part.Px (floor_of (n *ℤ pos 614400) 254000000)) mm in
    let inch = cond (same_name unit (codes "in")) (part.Px (floor_of (n *ℤ pos 6144) 1000000)) cm in
    either_counted (same_name unit (codes "px")) (part.Px (floor_of (n *ℤ pos 64) 1000000)) inch tt (either_counted (same_name unit (codes "in")) (part.Px (floor_of (n *ℤ pos 6144) 1000000)) cm tt (either_counted (same_name unit (codes "cm")) (part.Px (floor_of (n *ℤ pos 614400) 254000000)) mm tt (either_counted (same_name unit (codes "mm")) (part.Px (floor_of (n *ℤ pos 61440) 254000000)) pt tt (either_counted (same_name unit (codes "pt")) (part.Px (floor_of (n *ℤ pos 6144) 72000000)) pc tt (either_counted (same_name unit (codes "pc")) (part.Px (floor_of (n *ℤ pos 73728) 72000000)) em tt (either_counted (same_name unit (codes "em")) (part.Em n) ex tt (either_counted (same_name unit (codes "ex")) (part.Ex n) part.Other tt tt)))))))

amount_counted : (kind : TokenKind) (n : ℤ) (unit : List ℕ) → unsigned_abs n ≤ 2 ^ 40 → IsCounted (amount_in kind n unit)
amount_counted Number n unit h = tt
amount_counted Percentage n unit h = h
amount_counted _ n unit h = length_counted n unit

negated : (n : ℕ) → unsigned_abs (neg_ℤ (pos n)) ≡ n
negated zero = refl
negated (suc n) = refl

signed_within : (negative : Bool) (n : ℕ) → n ≤ 2 ^ 40 → unsigned_abs (signed negative n) ≤ 2 ^ 40
signed_within true n h = rw negated h
signed_within false n h = h

some_within : (b : Bool) (m n : ℕ) → cond (b && nat_le m (2 ^ 40)) (Some m) None ≡ Some n → n ≤ 2 ^ 40
some_within b m n e = grind (arith, nat_tests)

counted_within : (negative : Bool) (t : Token) (o : Option ℕ) → ((n : ℕ) → o ≡ Some n → n ≤ 2 ^ 40) → IsCounted (counted negative t o)
counted_within negative t None h = tt
counted_within negative t (Some n) h = amount_counted t.kind (signed negative n) (unit_of (chars t.text)) (signed_within negative n (h n refl))

of_counted : (negative : Bool) (t : Token) → IsCounted (amount_of negative t)
of_counted negative t = let text = numeral_of t.text in counted_within negative t (decimal_of text) (λ n e. some_within (is_number text) (millionths_of text) n e)

signed_counted : (t : Token) (ts : List Token) → IsCounted (signed_part t ts)
signed_counted t [] = tt
signed_counted t (u ∷ us) = either_counted (is_amount u.kind) (amount_of (is_minus t) u) part.Other (of_counted (is_minus t) u) tt

delim_counted : (t : Token) (ts : List Token) → IsCounted (delim_part t ts)
delim_counted t ts =
    let sign = cond (is_sign t) (signed_part t ts) part.Other in
    either_counted (is_comma t) part.Comma (cond (is_character 47 t) part.Solidus sign) tt
    (either_counted (is_character 47 t) part.Solidus sign tt (either_counted (is_sign t) (signed_part t ts) part.Other (signed_counted t ts) tt))

kind_counted : (kind : TokenKind) (t : Token) (ts : List Token) → IsCounted (part_of kind t ts)
kind_counted Ident t ts = tt
kind_counted Str t ts = tt
kind_counted Number t ts = of_counted false t
kind_counted Percentage t ts = of_counted false t
kind_counted Dimension t ts = of_counted false t
kind_counted Hash t ts = tt
kind_counted Function t ts = tt
kind_counted Delim t ts = delim_counted t ts
kind_counted _ t ts = tt

abbrev AreCounted : List Part → Type 0
AreCounted ps = AllByRecursion IsCounted ps

item_counted : (t : Token) (ts : List Token) (b : Bool) → AreCounted (cond b [] (part_of t.kind t ts ∷ []))
item_counted t ts true = tt
item_counted t ts false = (kind_counted t.kind t ts, tt)

gathered_counted : (n : ℕ) (ts : List Token) → AreCounted (gathered part_item after_part n ts)
gathered_counted n [] = tt
gathered_counted (suc n) (t ∷ ts) = gathered_counted n ts
gathered_counted zero (t ∷ ts) = all_append IsCounted (part_item t ts) _ (item_counted t ts (is_gap t.kind)) (gathered_counted (length ts - length (after_part t ts)) ts)

parts_counted : (ts : List Token) → AreCounted (parts ts)
parts_counted ts = gathered_counted 0 (closed_by_end ts)

-- ---- the value of one part

abbrev IsWithin : Value → Type 0
IsWithin (value.Pct n) = unsigned_abs n ≤ 2 ^ 40
IsWithin _ = Unit {0}

abbrev Within : Result Value Refusal → Type 0
Within (Ok v) = IsWithin v
Within (Err refusal) = Unit {0}

within_if : (b : Bool) (r s : Result Value Refusal) → Within r → Within s → Within (cond b r s)
within_if true r s h k = h
within_if false r s h k = k

judged_within : (p : Prop) (t : Takes) (written n : ℤ) (v : Value) → IsWithin v → Within (judged p t written n v)
judged_within p Nothing written n v h = tt
judged_within p All written n v h = h
judged_within p NotNegative written n v h = within_if (is_negative written) (Err Ignored) (Ok v) tt h
judged_within p ZeroAlone written n v h = within_if (is_zero n) (Ok v) (Err (Unsupported p)) h tt

number_within : (p : Prop) (t : Takes) (n : ℤ) → Within (number_value p t n)
number_within p Nothing n = within_if (is_zero n) (judged p (row p).lengths n n (value.Px n)) (Err Ignored) (judged_within p (row p).lengths n n (value.Px n) tt) tt
number_within p All n = judged_within p All n n (value.Number n) tt
number_within p NotNegative n = judged_within p NotNegative n n (value.Number n) tt
number_within p ZeroAlone n = judged_within p ZeroAlone n n (value.Number n) tt

word_within : (p : Prop) (word : List ℕ) (o : Option ℕ) → Within (placed p word o)
word_within p word (Some place) = tt
word_within p word None = within_if (list_any (same_name word) (row p).refused) (Err (Unsupported p)) (Err Ignored) tt tt

part_within : (p : Prop) (a : Part) → IsCounted a → Within (part_value p a)
part_within p (part.Word word) h = word_within p word (position (same_name word) (row p).words)
part_within p (part.Number n) h = number_within p (row p).numbers n
part_within p (part.Percentage n) h = judged_within p (row p).percentages n n (value.Pct n) h
part_within p (part.Px n) h = judged_within p (row p).lengths n n (value.Px n) tt
part_within p (part.Em n) h = judged_within p (row p).lengths n n (value.Em n) tt
part_within p (part.Ex n) h = judged_within p (row p).lengths n (half n) (value.Em (half n)) tt
part_within p _ h = tt

may_win : (p : Prop) (v : Value) → HasValue (row p) v → IsWithin v → MayWin (row p) v
may_win p value.Inherit h k = tt
may_win p (value.Word place) h k = h
may_win p (value.Px n) h k = h
may_win p (value.Em n) h k = h
may_win p (value.Pct n) h k = (h, k)
may_win p (value.Number n) h k = h
may_win p (value.Names names) h k = absurd h
may_win p (value.Chars text) h k = absurd h

-- a value that may win for a property, where there is one
abbrev Wins : Prop → Result Value Refusal → Type 0
Wins p (Ok v) = MayWin (row p) v
Wins p (Err refusal) = Unit {0}

wins_as : (p : Prop) (r : Result Value Refusal) → ((v : Value) → r ≡ Ok v → HasValue (row p) v) → Within r → Wins p r
wins_as p (Ok v) h k = may_win p v (h v refl) k
wins_as p (Err refusal) h k = tt

part_wins : (p : Prop) (a : Part) → IsCounted a → Wins p (part_value p a)
part_wins p a h = wins_as p (part_value p a) (λ v e. part_has p a v e) (part_within p a h)

-- ---- whole values

wins_if : (p : Prop) (b : Bool) (r s : Result Value Refusal) → Wins p r → (b ≡ false → Wins p s) → Wins p (cond b r s)
wins_if p true r s h k = h
wins_if p false r s h k = k refl

wins_either : (p : Prop) (b : Bool) (r s : Result Value Refusal) → (b ≡ true → Wins p r) → Wins p s → Wins p (cond b r s)
wins_either p true r s h k = h refl
wins_either p false r s h k = k

names_win : (p : Prop) (o : Option (List (List ℕ))) → IsTrue (row p).families → Wins p (families_of o)
names_win p None h = tt
names_win p (Some names) h = h

one_wins : (p : Prop) (ps : List Part) → AreCounted ps → Wins p (one_part p ps)
one_wins p [] h = tt
one_wins p (a ∷ []) h = part_wins p a h.0
one_wins p (a ∷ b ∷ ps) h = tt

text_wins : (p : Prop) (ps : List Part) → AreCounted ps → IsTrue (row p).strings → Wins p (text_or_one p ps)
text_wins p ps h t =
    let one = cond (list_any (is_other_content p) ps) (Err (Unsupported p)) (one_part p ps) in
    wins_either p (are_strings ps) (Ok (value.Chars (flat_map quoted ps))) one (λ _. t)
    (wins_either p (list_any (is_other_content p) ps) (Err (Unsupported p)) (one_part p ps) (λ _. tt) (one_wins p ps h))

whole_wins : (p : Prop) (ps : List Part) → AreCounted ps → Wins p (whole_value p ps)
whole_wins p ps h =
    let one = cond (row p).strings (text_or_one p ps) (one_part p ps) in
    wins_if p (is_inherit ps) (Ok value.Inherit) (cond (row p).families (families_of (families ps)) one) tt
    (λ _. wins_either p (row p).families (families_of (families ps)) one (λ e. names_win p (families ps) e)
    (wins_either p (row p).strings (text_or_one p ps) (one_part p ps) (λ e. text_wins p ps h e) (one_wins p ps h)))

-- ---- settings

-- settings that are allowed, where there are any
abbrev Allowed : Result (List Setting) Refusal → Type 0
Allowed (Ok settings) = AreAllowed settings
Allowed (Err refusal) = Unit {0}

allowed_then : (p : Prop) (r : Result Value Refusal) (f : Value → Result (List Setting) Refusal) → Wins p r → ((v : Value) → MayWin (row p) v → Allowed (f v)) → Allowed (then_on r f)
allowed_then p (Ok v) f h k = k v h
allowed_then p (Err refusal) f h k = tt

allowed_if : (b : Bool) (r s : Result (List Setting) Refusal) → Allowed r → Allowed s → Allowed (cond b r s)
allowed_if true r s h k = h
allowed_if false r s h k = k

longhand_allowed : (p : Prop) (ps : List Part) → AreCounted ps → Allowed (longhand p ps)
longhand_allowed p ps h = allowed_then p (whole_value p ps) _ (whole_wins p ps h) (λ v k. (k, tt))

inherited_allowed : (ps : List Prop) → AreAllowed (inherited ps)
inherited_allowed [] = tt
inherited_allowed (p ∷ ps) = (tt, inherited_allowed ps)

four_allowed : (on : Sides Prop) (a : Sides Part) → IsCounted a.top → IsCounted a.right → IsCounted a.bottom → IsCounted a.left → Allowed (four on a)
four_allowed on a ht hr hb hl =
    allowed_then on.top (part_value on.top a.top) _ (part_wins on.top a.top ht) (λ t t_wins. allowed_then on.right (part_value on.right a.right) _ (part_wins on.right a.right hr) (λ r r_wins. allowed_then on.bottom (part_value on.bottom a.bottom) _ (part_wins on.bottom a.bottom hb) (λ b b_wins. allowed_then on.left (part_value on.left a.left) _ (part_wins on.left a.left hl) (λ l l_wins. (t_wins, (r_wins, (b_wins, (l_wins, tt))))))))

spread_allowed : (on : Sides Prop) (ps : List Part) → AreCounted ps → Allowed (spread (four on) ps)
spread_allowed on [] h = tt
spread_allowed on (a ∷ []) h = four_allowed on _ h.0 h.0 h.0 h.0
spread_allowed on (a ∷ b ∷ []) h = four_allowed on _ h.0 h.1.0 h.0 h.1.0
spread_allowed on (a ∷ b ∷ c ∷ []) h = four_allowed on _ h.0 h.1.0 h.1.1.0 h.1.0
spread_allowed on (a ∷ b ∷ c ∷ d ∷ []) h = four_allowed on _ h.0 h.1.0 h.1.1.0 h.1.1.1.0
spread_allowed on (a ∷ b ∷ c ∷ d ∷ e ∷ ps) h = tt

sides_allowed : (on : Sides Prop) (ps : List Part) → AreCounted ps → Allowed (sides on ps)
sides_allowed on ps h =
    let all = on.top ∷ on.right ∷ on.bottom ∷ on.left ∷ [] in
    allowed_if (is_inherit ps) (Ok (inherited all)) (spread (four on) ps) (inherited_allowed all) (spread_allowed on ps h)

-- ---- borders

abbrev IsCountedIn : Option Part → Type 0
IsCountedIn None = Unit {0}
IsCountedIn (Some a) = IsCounted a

counted_if : (b : Bool) (a : Part) (o : Option Part) → IsCounted a → IsCountedIn o → IsCountedIn (cond b (Some a) o)
counted_if true a o h k = h
counted_if false a o h k = k

found_counted : (test : Part → Bool) (ps : List Part) → AreCounted ps → IsCountedIn (find test ps)
found_counted test [] h = tt
found_counted test (a ∷ ps) h = counted_if (test a) a (find test ps) h.0 (found_counted test ps h.1)

or_wins : (v : Value) (p : Prop) (o : Option Part) → MayWin (row p) v → IsCountedIn o → Wins p (value_or v p o)
or_wins v p None h k = h
or_wins v p (Some a) h k = part_wins p a k

more_allowed : (p : Prop) (u : Value) (r : Result (List Setting) Refusal) → MayWin (row p) u → Allowed r → Allowed (then_on r (λ settings. Ok (setting p u ∷ settings)))
more_allowed p u (Ok settings) h k = (h, k)
more_allowed p u (Err refusal) h k = tt

each_allowed : (test : Part → Bool) (v : Value) (ps : List Part) (qs : List Prop) → AreCounted ps → AllByRecursion (λ q. MayWin (row q) v) qs → Allowed (each_line test v ps qs)
each_allowed test v ps [] h k = tt
each_allowed test v ps (q ∷ qs) h k =
    allowed_then q (value_or v q (find test ps)) _ (or_wins v q (find test ps) k.0 (found_counted test ps h)) (λ u hu. more_allowed q u (each_line test v ps qs) hu (each_allowed test v ps qs h k.1))

joined_allowed : (ws : List Setting) (r : Result (List Setting) Refusal) → AreAllowed ws → Allowed r → Allowed (joined ws r)
joined_allowed ws (Ok ss) h k = all_append IsAllowed ws ss h k
joined_allowed ws (Err refusal) h k = tt

both_allowed : (r s : Result (List Setting) Refusal) → Allowed r → Allowed s → Allowed (then_on r (λ ws. joined ws s))
both_allowed (Ok ws) s h k = joined_allowed ws s h k
both_allowed (Err refusal) s h k = tt

lines_allowed : (ws ss : List Prop) (ps : List Part) → AreCounted ps → AllByRecursion (λ q. MayWin (row q) (row BorderTopWidth).initial) ws → AllByRecursion (λ q. MayWin (row q) (row BorderTopStyle).initial) ss → Allowed (lines ws ss ps)
lines_allowed ws ss ps h hw hs =
    let written = then_on (each_line is_line_width (row BorderTopWidth).initial ps ws) (λ s. joined s (each_line is_line_style (row BorderTopStyle).initial ps ss)) in
    allowed_if (is_inherit ps) (Ok (inherited ws ++ inherited ss)) (cond (is_line ps) written (Err Ignored)) (all_append IsAllowed (inherited ws) (inherited ss) (inherited_allowed ws) (inherited_allowed ss))
    (allowed_if (is_line ps) written (Err Ignored) (both_allowed (each_line is_line_width (row BorderTopWidth).initial ps ws) (each_line is_line_style (row BorderTopStyle).initial ps ss) (each_allowed is_line_width _ ps ws h hw) (each_allowed is_line_style _ ps ss h hs)) tt)

-- ---- fonts

named_allowed : (s h : Value) (names : Option (List (List ℕ))) → MayWin (row FontSize) s → MayWin (row LineHeight) h → Allowed (named_font s h names)
named_allowed s h None hs hh = tt
named_allowed s h (Some names) hs hh = (hs, (refl, (hh, tt)))

sized_allowed : (s h : Result Value Refusal) (ps : List Part) → Wins FontSize s → Wins LineHeight h → Allowed (sized_font s h ps)
sized_allowed s h ps hs hh = allowed_then FontSize s _ hs (λ u hu. allowed_then LineHeight h _ hh (λ v hv. named_allowed u v (font_names ps) hu hv))

initial_height : MayWin (row LineHeight) (row LineHeight).initial
initial_height = omega arith

behind_allowed : (size : Part) (ps : List Part) (o : Option (Part × List Part)) → IsCounted size → ((q : Part × List Part) → o ≡ Some q → IsCounted q.0) → Allowed (font_behind size ps o)
behind_allowed size ps None h k = sized_allowed (part_value FontSize size) (Ok (row LineHeight).initial) ps (part_wins FontSize size h) initial_height
behind_allowed size ps (Some q) h k = sized_allowed (part_value FontSize size) (part_value LineHeight q.0) q.1 (part_wins FontSize size h) (part_wins LineHeight q.0 (k q refl))

height_counted : (ps : List Part) → AreCounted ps → (q : Part × List Part) → height_behind ps ≡ Some q → IsCounted q.0
height_counted (part.Solidus ∷ height ∷ ps) h q e = let same : height ≡ q.0 = cc in subst IsCounted same h.1.0
height_counted ps h q e = cc

size_allowed : (ps : List Part) → AreCounted ps → Allowed (font_from_size ps)
size_allowed [] h = tt
size_allowed (size ∷ ps) h = behind_allowed size ps (height_behind ps) h.0 (height_counted ps h.1)

drop_counted : (n : ℕ) (ps : List Part) → AreCounted ps → AreCounted (drop n ps)
drop_counted zero ps h = h
drop_counted (suc n) [] h = tt
drop_counted (suc n) (p ∷ ps) h = drop_counted n ps h.1

system_allowed : AreAllowed system_font
system_allowed = (omega arith, (refl, (initial_height, tt)))

font_allowed : (ps : List Part) → AreCounted ps → Allowed (font ps)
font_allowed ps h =
    allowed_if (is_inherit ps) (Ok (inherited (FontSize ∷ FontFamily ∷ LineHeight ∷ []))) (cond (is_system ps) (Ok system_font) (written_font ps)) (inherited_allowed (FontSize ∷ FontFamily ∷ LineHeight ∷ []))
    (allowed_if (is_system ps) (Ok system_font) (written_font ps) system_allowed
    (allowed_if (is_front (take (front_len ps) ps)) (font_from_size (drop (front_len ps) ps)) (Err Ignored) (size_allowed (drop (front_len ps) ps) (drop_counted (front_len ps) ps h)) tt))

-- ---- declarations

shorthand_allowed : (s : Shorthand) (ps : List Part) → AreCounted ps → Allowed (shorthand s ps)
shorthand_allowed Margin ps h = sides_allowed _ ps h
shorthand_allowed Padding ps h = sides_allowed _ ps h
shorthand_allowed BorderWidth ps h = sides_allowed _ ps h
shorthand_allowed BorderStyle ps h = sides_allowed _ ps h
shorthand_allowed Border ps h = lines_allowed (BorderTopWidth ∷ BorderRightWidth ∷ BorderBottomWidth ∷ BorderLeftWidth ∷ []) (BorderTopStyle ∷ BorderRightStyle ∷ BorderBottomStyle ∷ BorderLeftStyle ∷ []) ps h (omega arith, (omega arith, (omega arith, (omega arith, tt)))) (omega arith, (omega arith, (omega arith, (omega arith, tt))))
shorthand_allowed BorderTop ps h = lines_allowed (BorderTopWidth ∷ []) (BorderTopStyle ∷ []) ps h (omega arith, tt) (omega arith, tt)
shorthand_allowed BorderRight ps h = lines_allowed (BorderRightWidth ∷ []) (BorderRightStyle ∷ []) ps h (omega arith, tt) (omega arith, tt)
shorthand_allowed BorderBottom ps h = lines_allowed (BorderBottomWidth ∷ []) (BorderBottomStyle ∷ []) ps h (omega arith, tt) (omega arith, tt)
shorthand_allowed BorderLeft ps h = lines_allowed (BorderLeftWidth ∷ []) (BorderLeftStyle ∷ []) ps h (omega arith, tt) (omega arith, tt)
shorthand_allowed Font ps h = font_allowed ps h
shorthand_allowed ListStyle ps h = tt

known_allowed : (o : Option Prop) (s : Option Shorthand) (ps : List Part) → AreCounted ps → Allowed (longhand_or o s ps)
known_allowed (Some p) s ps h = longhand_allowed p ps h
known_allowed None None ps h = tt
known_allowed None (Some s) ps h = shorthand_allowed s ps h

pub declared_allowed : (name : List ℕ) (ts : List Token) (settings : List Setting) → Ok settings ≡ declared name (parts ts) → AreAllowed settings
declared_allowed name ts settings e = subst Allowed (sym e) (known_allowed (property_named name) (shorthand_named name) (parts ts) (parts_counted ts))

-- What holds of the lengths of a box, where it holds of what allowed values say and of the parent's.
use Rattle.std.proofs.Common.{◌≡◌, ℕ, zero, suc, ℤ, pos, Bool, true, false, List, Option, Some, refl, sym, subst, arith, rules, length}
use Rattle.std.specs.List.{AllByRecursion}
use Rattle.viz_base.specs.Styles.{is_fixed}
use Rattle.viz_base.specs.declared.lengths.Length.{Length}
use Rattle.viz_base.specs.declared.lengths.Length.TheVariants as of_length
use Rattle.viz_base.specs.declared.lengths.Sides.{Sides}
use Rattle.viz_base.specs.declared.settings.Prop.{Prop}
use Rattle.viz_base.specs.declared.settings.Prop.TheVariants.{Width, Height, MinWidth, MinHeight, MaxWidth, MaxHeight, MarginTop, MarginRight, MarginBottom, MarginLeft, PaddingTop, PaddingRight, PaddingBottom, PaddingLeft, BorderTopWidth, BorderRightWidth, BorderBottomWidth, BorderLeftWidth}
use Rattle.viz_base.specs.declared.settings.Setting.{Setting}
use Rattle.viz_base.specs.declared.settings.Value.{Value}
use Rattle.viz_base.specs.declared.settings.Value.TheVariants as of_value
use Rattle.viz_base.specs.declared.styles.Style.{Style}
use Rattle.css_semantics.specs.ComputedValues.{AreLengths, computed, if_drawn, length_of, maximum_of, width_of, OwnLengths, own_lengths}
use Rattle.css_semantics.specs.Properties.{Row, row}
use Rattle.css_semantics.specs.Winners.{IsAllowed, MayWin}
use Rattle.page_style.proofs.Allowed.{computed_is}

pub record EachSide (P : Length → Type 0) (s : Sides Length) : Type 0 where
  pub top : P s.top
  pub right : P s.right
  pub bottom : P s.bottom
  pub left : P s.left

abbrev pub OfMaximum : (Length → Type 0) → Option Length → Type 0
OfMaximum Q o = (l : Length) → o ≡ Some l → Q l

-- of those that may be `auto`, and of those that may not
pub record AllLengths (P Q : Length → Type 0) (own : OwnLengths) : Type 0 where
  pub width_is : P own.width
  pub min_width_is : Q own.min_width
  pub max_width_is : OfMaximum Q own.max_width
  pub height_is : P own.height
  pub min_height_is : Q own.min_height
  pub max_height_is : OfMaximum Q own.max_height
  pub margins : EachSide P own.margin
  pub paddings : EachSide Q own.padding
  pub borders : EachSide Q own.border

abbrev pub OfStyle : (P Q : Length → Type 0) → Style → Type 0
OfStyle P Q t = AllLengths P Q (own_lengths t)

some_length : (a b : Length) → Some a ≡ Some b → a ≡ b
some_length a b e = cc

module _ (P Q : Length → Type 0) (node : ℕ)
    (px : (n : ℤ) → P (of_length.Px n)) (auto : P of_length.Auto) (em : (k : ℤ) → P (of_length.Em k node))
    (pct : (r : Row) (n : ℤ) → MayWin r (of_value.Pct n) → P (of_length.Pct n))
    (fixed : (l : Length) → is_fixed l ≡ true → P l → Q l) where
  says : (r : Row) (v : Value) → MayWin r v → P (length_of node v)
  says r of_value.Inherit m = px (pos 0)
  says r (of_value.Word n) m = auto
  says r (of_value.Px n) m = px n
  says r (of_value.Em k) m = em k
  says r (of_value.Pct n) m = pct r n m
  says r (of_value.Number n) m = px (pos 0)
  says r (of_value.Names n) m = px (pos 0)
  says r (of_value.Chars n) m = px (pos 0)

  -- a row without keywords has no `auto`
  says_fixed : (r : Row) → length r.words ≡ 0 → (v : Value) → MayWin r v → Q (length_of node v)
  says_fixed r e of_value.Inherit m = fixed (of_length.Px (pos 0)) refl (px (pos 0))
  says_fixed r e (of_value.Word n) m = absurd (omega (arith, e, m))
  says_fixed r e (of_value.Px n) m = fixed (of_length.Px n) refl (px n)
  says_fixed r e (of_value.Em k) m = fixed (of_length.Em k node) refl (em k)
  says_fixed r e (of_value.Pct n) m = fixed (of_length.Pct n) refl (pct r n m)
  says_fixed r e (of_value.Number n) m = fixed (of_length.Px (pos 0)) refl (px (pos 0))
  says_fixed r e (of_value.Names n) m = fixed (of_length.Px (pos 0)) refl (px (pos 0))
  says_fixed r e (of_value.Chars n) m = fixed (of_length.Px (pos 0)) refl (px (pos 0))

  says_maximum : (r : Row) (v : Value) → MayWin r v → OfMaximum Q (maximum_of node v)
  says_maximum r of_value.Inherit m l e = subst Q (some_length _ l e) (fixed (of_length.Px (pos 0)) refl (px (pos 0)))
  says_maximum r (of_value.Word n) m l e = absurd (cc)
  says_maximum r (of_value.Px n) m l e = subst Q (some_length _ l e) (fixed (of_length.Px n) refl (px n))
  says_maximum r (of_value.Em k) m l e = subst Q (some_length _ l e) (fixed (of_length.Em k node) refl (em k))
  says_maximum r (of_value.Pct n) m l e = subst Q (some_length _ l e) (fixed (of_length.Pct n) refl (pct r n m))
  says_maximum r (of_value.Number n) m l e = subst Q (some_length _ l e) (fixed (of_length.Px (pos 0)) refl (px (pos 0)))
  says_maximum r (of_value.Names n) m l e = subst Q (some_length _ l e) (fixed (of_length.Px (pos 0)) refl (px (pos 0)))
  says_maximum r (of_value.Chars n) m l e = subst Q (some_length _ l e) (fixed (of_length.Px (pos 0)) refl (px (pos 0)))

  says_width : (r : Row) (v : Value) → MayWin r v → Q (width_of node v)
  says_width r of_value.Inherit m = fixed (of_length.Px (pos 0)) refl (px (pos 0))
  says_width r (of_value.Word zero) m = fixed (of_length.Px (pos 64)) refl (px (pos 64))
  says_width r (of_value.Word (suc zero)) m = fixed (of_length.Px (pos 192)) refl (px (pos 192))
  says_width r (of_value.Word (suc (suc zero))) m = fixed (of_length.Px (pos 320)) refl (px (pos 320))
  says_width r (of_value.Word (suc (suc (suc n)))) m = fixed (of_length.Px (pos 0)) refl (px (pos 0))
  says_width r (of_value.Px n) m = fixed (of_length.Px n) refl (px n)
  says_width r (of_value.Em k) m = fixed (of_length.Em k node) refl (em k)
  says_width r (of_value.Pct n) m = fixed (of_length.Pct n) refl (pct r n m)
  says_width r (of_value.Number n) m = fixed (of_length.Px (pos 0)) refl (px (pos 0))
  says_width r (of_value.Names n) m = fixed (of_length.Px (pos 0)) refl (px (pos 0))
  says_width r (of_value.Chars n) m = fixed (of_length.Px (pos 0)) refl (px (pos 0))

  by_drawn : (drawn : Bool) (l : Length) → Q l → Q (if_drawn drawn l)
  by_drawn true l q = q
  by_drawn false l q = fixed (of_length.Px (pos 0)) refl (px (pos 0))

  module _ (ws : List Setting) (allowed : AllByRecursion IsAllowed ws) (drawn : Sides Bool) (parent : Option Style) (up : (t : Style) → parent ≡ Some t → OfStyle P Q t) where
    a_length : (p : Prop) (part : Style → Length) (l : Length) → l ≡ computed p (length_of node) part parent ws → MayWin (row p) (row p).initial → ((t : Style) → OfStyle P Q t → P (part t)) → P l
    a_length p part l e m f = subst P (sym e) (computed_is p ws allowed m P (length_of node) part parent (says (row p)) (λ t h. f t (up t h)))

    a_fixed : (p : Prop) (part : Style → Length) (l : Length) → l ≡ computed p (length_of node) part parent ws → length (row p).words ≡ 0 → MayWin (row p) (row p).initial → ((t : Style) → OfStyle P Q t → Q (part t)) → Q l
    a_fixed p part l e w m f = subst Q (sym e) (computed_is p ws allowed m Q (length_of node) part parent (says_fixed (row p) w) (λ t h. f t (up t h)))

    a_maximum : (p : Prop) (part : Style → Option Length) (o : Option Length) → o ≡ computed p (maximum_of node) part parent ws → MayWin (row p) (row p).initial → ((t : Style) → OfStyle P Q t → OfMaximum Q (part t)) → OfMaximum Q o
    a_maximum p part o e m f = subst (OfMaximum Q) (sym e) (computed_is p ws allowed m (OfMaximum Q) (maximum_of node) part parent (says_maximum (row p)) (λ t h. f t (up t h)))

    a_border : (p : Prop) (part : Style → Length) (d : Bool) (l : Length) → l ≡ if_drawn d (computed p (width_of node) part parent ws) → MayWin (row p) (row p).initial → ((t : Style) → OfStyle P Q t → Q (part t)) → Q l
    a_border p part d l e m f = subst Q (sym e) (by_drawn d _ (computed_is p ws allowed m Q (width_of node) part parent (says_width (row p)) (λ t h. f t (up t h))))

    pub lengths_are : (own : OwnLengths) → AreLengths node ws drawn parent own → AllLengths P Q own
    lengths_are own a = record {
      width_is = a_length Width (λ t. t.width) own.width a.width_is (search rules) (λ t h. h.width_is);
      min_width_is = a_fixed MinWidth (λ t. t.min_width) own.min_width a.min_width_is refl (search rules) (λ t h. h.min_width_is);
      max_width_is = a_maximum MaxWidth (λ t. t.max_width) own.max_width a.max_width_is (search rules) (λ t h. h.max_width_is);
      height_is = a_length Height (λ t. t.height) own.height a.height_is (search rules) (λ t h. h.height_is);
      min_height_is = a_fixed MinHeight (λ t. t.min_height) own.min_height a.min_height_is refl (search rules) (λ t h. h.min_height_is);
      max_height_is = a_maximum MaxHeight (λ t. t.max_height) own.max_height a.max_height_is (search rules) (λ t h. h.max_height_is);
      margins = record {
        top = a_length MarginTop (λ t. t.margin.top) own.margin.top a.margin_top tt (λ t h. h.margins.top);
        right = a_length MarginRight (λ t. t.margin.right) own.margin.right a.margin_right tt (λ t h. h.margins.right);
        bottom = a_length MarginBottom (λ t. t.margin.bottom) own.margin.bottom a.margin_bottom tt (λ t h. h.margins.bottom);
        left = a_length MarginLeft (λ t. t.margin.left) own.margin.left a.margin_left tt (λ t h. h.margins.left);
      };
      paddings = record {
        top = a_fixed PaddingTop (λ t. t.padding.top) own.padding.top a.padding_top refl (search rules) (λ t h. h.paddings.top);
        right = a_fixed PaddingRight (λ t. t.padding.right) own.padding.right a.padding_right refl (search rules) (λ t h. h.paddings.right);
        bottom = a_fixed PaddingBottom (λ t. t.padding.bottom) own.padding.bottom a.padding_bottom refl (search rules) (λ t h. h.paddings.bottom);
        left = a_fixed PaddingLeft (λ t. t.padding.left) own.padding.left a.padding_left refl (search rules) (λ t h. h.paddings.left);
      };
      borders = record {
        top = a_border BorderTopWidth (λ t. t.border.top) drawn.top own.border.top a.border_top (search rules) (λ t h. h.borders.top);
        right = a_border BorderRightWidth (λ t. t.border.right) drawn.right own.border.right a.border_right (search rules) (λ t h. h.borders.right);
        bottom = a_border BorderBottomWidth (λ t. t.border.bottom) drawn.bottom own.border.bottom a.border_bottom (search rules) (λ t h. h.borders.bottom);
        left = a_border BorderLeftWidth (λ t. t.border.left) drawn.left own.border.left a.border_left (search rules) (λ t h. h.borders.left);
      };
    }

-- A computed value is what an allowed value says, or what the parent has.
use Rattle.std.proofs.Common.{◌≡◌, Bool, true, false, cond, List, [], ◌∷◌, Option, Some, None, option_map, refl, subst}
use Rattle.std.specs.List.{AllByRecursion, find}
use Rattle.std.specs.Option.{option_map_or}
use Rattle.viz_base.specs.declared.settings.Prop.{Prop}
use Rattle.viz_base.specs.declared.settings.Prop.TheVariants as of_prop
use Rattle.viz_base.specs.declared.settings.Setting.{Setting}
use Rattle.viz_base.specs.declared.settings.Value.{Value}
use Rattle.viz_base.specs.declared.settings.Value.TheVariants as of_value
use Rattle.css_semantics.specs.CascadeOrder.{is_prop}
use Rattle.css_semantics.specs.ComputedValues.{computed, resolved, specified, unless_inherit, unset, winner}
use Rattle.css_semantics.specs.Properties.{row}
use Rattle.css_semantics.specs.Winners.{IsAllowed, MayWin}
use Rattle.css_semantics.proofs.PropLemmas.{same_prop}

abbrev some_value : Value → Option Value
some_value v = Some v

same_value : (v w : Value) → some_value v ≡ some_value w → v ≡ w
same_value v w e = cc

own : (v w : Value) → unless_inherit v ≡ Some w → v ≡ w
own of_value.Inherit w e = absurd (cc)
own (of_value.Word n) w e = same_value (of_value.Word n) w e
own (of_value.Px n) w e = same_value (of_value.Px n) w e
own (of_value.Em n) w e = same_value (of_value.Em n) w e
own (of_value.Pct n) w e = same_value (of_value.Pct n) w e
own (of_value.Number n) w e = same_value (of_value.Number n) w e
own (of_value.Names n) w e = same_value (of_value.Names n) w e
own (of_value.Chars n) w e = same_value (of_value.Chars n) w e

module _ (p : Prop) where
  first_may : (s : Setting) (ws : List Setting) (b : Bool) → is_prop s.prop p ≡ b → IsAllowed s → ((v : Value) → winner p ws ≡ Some v → MayWin (row p) v) → (v : Value) → option_map (λ (s : Setting). s.value) (cond b (Some s) (find (λ (s : Setting). is_prop s.prop p) ws)) ≡ Some v → MayWin (row p) v
  first_may s ws true e a rest v h = subst (λ q. MayWin (row q) v) (same_prop s.prop p e) (subst (MayWin (row s.prop)) (same_value s.value v h) a)
  first_may s ws false e a rest v h = rest v h

  winner_may : (ws : List Setting) → AllByRecursion IsAllowed ws → (v : Value) → winner p ws ≡ Some v → MayWin (row p) v
  winner_may [] a v h = absurd (cc)
  winner_may (s ∷ ws) a v h = first_may s ws (is_prop s.prop p) refl a.0 (winner_may ws a.1) v h

  unset_may : (b : Bool) (initial v : Value) → cond b None (Some initial) ≡ Some v → MayWin (row p) initial → MayWin (row p) v
  unset_may true initial v e m = absurd (cc)
  unset_may false initial v e m = subst (MayWin (row p)) (same_value initial v e) m

  module _ (ws : List Setting) (allowed : AllByRecursion IsAllowed ws) (initial : MayWin (row p) (row p).initial) where
    may_by : (o : Option Value) → winner p ws ≡ o → (v : Value) → option_map_or unless_inherit o (unset p) ≡ Some v → MayWin (row p) v
    may_by None e v h = unset_may (row p).inherits (row p).initial v h initial
    may_by (Some w) e v h = subst (MayWin (row p)) (own w v h) (winner_may ws allowed w e)

    -- what holds of what each allowed value says, and of what the parent has, holds of the computed value
    pub computed_is : {T A : Type 0} (P : A → Type 0) (says : Value → A) (part : T → A) (parent : Option T) → ((v : Value) → MayWin (row p) v → P (says v)) → ((t : T) → parent ≡ Some t → P (part t)) → P (computed p says part parent ws)
    computed_is {T} {A} P says part parent each up = by_both (specified p ws) refl parent refl
      where
        by_both : (o : Option Value) → specified p ws ≡ o → (q : Option T) → parent ≡ q → P (resolved says (option_map part q) (row p).initial o)
        by_both (Some v) e q f = each v (may_by (winner p ws) refl v e)
        by_both None e (Some t) f = up t f
        by_both None e None f = each (row p).initial initial

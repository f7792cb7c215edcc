-- A list of tokens is a declaration exactly where it is read as one.
use Rattle.std.proofs.Common.{◌≡◌, ◌+◌, Bool, true, false, cond, not, ◌&&◌, List, [], ◌∷◌, ◌++◌, take, drop, Option, Some, None, refl, sym, ◌∙◌, ap, subst}
use Rattle.std.specs.List.{list_all, prefix_len}
use Rattle.std.specs.Option.{option_to_list}
use Rattle.std.proofs.lemmas.List.{take-append-drop}
use Rattle.std.proofs.lemmas.Bool.{and_from, not-true}
use Rattle.std.proofs.Math.Numerals.{one-add}
use Rattle.css_semantics.specs.Pieces.{Token}
use Rattle.viz_base.specs.declared.tokens.TokenKind.{TokenKind}
use Rattle.viz_base.specs.declared.tokens.TokenKind.TheVariants.{Colon}
use Rattle.viz_base.specs.declared.sheets.Decl.{Decl}
use Rattle.viz_base.proofs.Truths.{by_bool, and_first, and_second}
use Rattle.css_semantics.specs.SheetsMarks.{is_ident, is_at_keyword, is_colon, is_gap, ends_declaration}
use Rattle.css_semantics.specs.SheetsReading.{goes_on, before_important, declared_at, trim_start, is_blank}
use Rattle.css_semantics.specs.steps.Sheets.{is_value, declared, declaration, declaration_item, after_declaration, declarations, after_at_rule}
use Rattle.css_semantics.specs.steps.Stretches.{front, behind}
use Rattle.css_semantics.specs.SheetsGrammar.{IsDeclaration, DeclarationItem, blank, at_rule, well_formed, malformed, AreDeclarations}
use Rattle.css_semantics.proofs.Stretches.{is_stretch, stretch_front, stretch_behind}
use Rattle.css_semantics.proofs.Values.{standing_goes, goes_standing}
use Rattle.css_semantics.proofs.Items.{Takes, TakesOnly, listed, listed_only, is_at_rule, at_rule_after}
use Rattle.css_semantics.proofs.Tails.{declaration_tails}

abbrev gap_token : Token → Bool
gap_token t = is_gap t.kind

colon_no_gap : (kind : TokenKind) → is_colon kind ≡ true → is_gap kind ≡ false
colon_no_gap Colon h = refl
colon_no_gap _ h = cc

-- white space and comments before a token that is neither
gap_len : (gap : List Token) (c : Token) (v : List Token) → list_all gap_token gap ≡ true → is_gap c.kind ≡ false → drop (prefix_len gap_token (gap ++ c ∷ v)) (gap ++ c ∷ v) ≡ c ∷ v
gap_len [] c v h e = ap (λ b. drop (cond b (1 + prefix_len gap_token v) 0) (c ∷ v)) e
gap_len (g ∷ gap) c v h e =
    ap (λ b. drop (cond b (1 + prefix_len gap_token (gap ++ c ∷ v)) 0) (g ∷ (gap ++ c ∷ v))) (and_first (gap_token g) _ h)
    ∙ ap (λ n. drop n (g ∷ (gap ++ c ∷ v))) (one-add (prefix_len gap_token (gap ++ c ∷ v)))
    ∙ gap_len gap c v (and_second (gap_token g) _ h) e

gap_front : (ts : List Token) → list_all gap_token (take (prefix_len gap_token ts) ts) ≡ true
gap_front [] = refl
gap_front (t ∷ ts) =
    by_bool (gap_token t)
    (λ e. ap (λ b. list_all gap_token (take (cond b (1 + prefix_len gap_token ts) 0) (t ∷ ts))) e ∙ ap (λ n. list_all gap_token (take n (t ∷ ts))) (one-add (prefix_len gap_token ts)) ∙ and_from (gap_token t) _ e (gap_front ts))
    (λ e. ap (λ b. list_all gap_token (take (cond b (1 + prefix_len gap_token ts) 0) (t ∷ ts))) e)

-- ---- a declaration is read

pub declaration_read : (piece : List Token) (d : Decl) → IsDeclaration piece d → declaration piece ≡ Some d
declaration_read piece d h =
    let value : is_value h.value ≡ true = and_from (goes_on [] h.value) _ (standing_goes h.value h.standing) (ap not h.some) in
    ap declaration h.whole
    ∙ ap (λ b. cond b (declared h.name (trim_start is_gap (h.gap ++ h.colon ∷ h.value))) None) h.named
    ∙ ap (declared h.name) (gap_len h.gap h.colon h.value h.blank (colon_no_gap h.colon.kind h.parted))
    ∙ ap (λ b. cond b (Some (declared_at h.name h.value (before_important h.value))) None) (and_from (is_colon h.colon.kind) _ h.parted value)
    ∙ ap Some (sym h.gives)

-- ---- and what is read is one

record IsDeclared (name : Token) (ts : List Token) (d : Decl) : Type 0 where
  colon : Token
  value : List Token
  whole : ts ≡ colon ∷ value
  parted : is_colon colon.kind ≡ true
  is : is_value value ≡ true
  gives : d ≡ declared_at name value (before_important value)

same_some : (x y : Decl) → Some x ≡ Some y → x ≡ y
same_some x y h = cc

no_some : (d : Decl) → ◌≡◌ {A = Option Decl} None (Some d) → ⊥
no_some d h = cc

declared_is : (name : Token) (ts : List Token) (d : Decl) → declared name ts ≡ Some d → IsDeclared name ts d
declared_is name [] d h = absurd (no_some d h)
declared_is name (c ∷ v) d h =
    by_bool (is_colon c.kind && is_value v)
    (λ e. record {
      colon = c;
      value = v;
      whole = refl;
      parted = and_first (is_colon c.kind) _ e;
      is = and_second (is_colon c.kind) _ e;
      gives = sym (same_some _ d (sym (ap (λ b. cond b (Some (declared_at name v (before_important v))) None) e) ∙ h));
    })
    (λ e. absurd (no_some d (sym (ap (λ b. cond b (Some (declared_at name v (before_important v))) None) e) ∙ h)))

pub read_declaration : (piece : List Token) (d : Decl) → declaration piece ≡ Some d → IsDeclaration piece d
read_declaration [] d h = absurd (no_some d h)
read_declaration (t ∷ ts) d h =
    by_bool (is_ident t.kind)
    (λ e.
    let k = declared_is t (trim_start is_gap ts) d (sym (ap (λ b. cond b (declared t (trim_start is_gap ts)) None) e) ∙ h) in
    record {
      name = t;
      gap = take (prefix_len gap_token ts) ts;
      colon = k.colon;
      value = k.value;
      whole = ap (λ x. t ∷ x) (sym (take-append-drop (prefix_len gap_token ts) ts) ∙ ap (λ x. take (prefix_len gap_token ts) ts ++ x) k.whole);
      named = e;
      blank = gap_front ts;
      parted = k.parted;
      standing = goes_standing k.value (and_first (goes_on [] k.value) _ k.is);
      some = not-true _ (and_second (goes_on [] k.value) _ k.is);
      gives = k.gives;
    })
    (λ e. absurd (no_some d (sym (ap (λ b. cond b (declared t (trim_start is_gap ts)) None) e) ∙ h)))

-- ---- items

item_blank : (t : Token) (ts : List Token) → is_blank t.kind ≡ true → DeclarationItem (t ∷ ts) (declaration_item t ts) (after_declaration t ts)
item_blank t ts e =
    subst (λ b. DeclarationItem (t ∷ ts) (cond b [] (cond (is_at_keyword t.kind) [] (option_to_list (declaration (front ends_declaration (t ∷ ts)))))) (cond b ts (cond (is_at_keyword t.kind) (after_at_rule ts) (behind ends_declaration (t ∷ ts))))) (sym e) (blank e)

item_at : (t : Token) (ts : List Token) → is_blank t.kind ≡ false → is_at_keyword t.kind ≡ true → DeclarationItem (t ∷ ts) (declaration_item t ts) (after_declaration t ts)
item_at t ts e f =
    subst (λ b. DeclarationItem (t ∷ ts) (cond b [] (cond (is_at_keyword t.kind) [] (option_to_list (declaration (front ends_declaration (t ∷ ts)))))) (cond b ts (cond (is_at_keyword t.kind) (after_at_rule ts) (behind ends_declaration (t ∷ ts))))) (sym e)
    (subst (λ b. DeclarationItem (t ∷ ts) (cond b [] (option_to_list (declaration (front ends_declaration (t ∷ ts))))) (cond b (after_at_rule ts) (behind ends_declaration (t ∷ ts)))) (sym f) (at_rule e f (is_at_rule ts)))

piece_item : (t : Token) (ts : List Token) (o : Option Decl) → is_blank t.kind ≡ false → is_at_keyword t.kind ≡ false → declaration (front ends_declaration (t ∷ ts)) ≡ o → DeclarationItem (t ∷ ts) (option_to_list o) (behind ends_declaration (t ∷ ts))
piece_item t ts None e f h =
    malformed e f (is_stretch ends_declaration (t ∷ ts)) (λ d k. no_some d (sym h ∙ declaration_read _ d k))
piece_item t ts (Some d) e f h =
    well_formed e f (is_stretch ends_declaration (t ∷ ts)) (read_declaration _ d h)

item_piece : (t : Token) (ts : List Token) → is_blank t.kind ≡ false → is_at_keyword t.kind ≡ false → DeclarationItem (t ∷ ts) (declaration_item t ts) (after_declaration t ts)
item_piece t ts e f =
    subst (λ b. DeclarationItem (t ∷ ts) (cond b [] (cond (is_at_keyword t.kind) [] (option_to_list (declaration (front ends_declaration (t ∷ ts)))))) (cond b ts (cond (is_at_keyword t.kind) (after_at_rule ts) (behind ends_declaration (t ∷ ts))))) (sym e)
    (subst (λ b. DeclarationItem (t ∷ ts) (cond b [] (option_to_list (declaration (front ends_declaration (t ∷ ts))))) (cond b (after_at_rule ts) (behind ends_declaration (t ∷ ts)))) (sym f) (piece_item t ts _ e f refl))

takes : Takes DeclarationItem declaration_item after_declaration
takes t ts = by_bool (is_blank t.kind) (item_blank t ts) (λ e. by_bool (is_at_keyword t.kind) (item_at t ts e) (item_piece t ts e))

-- what an item gives and leaves, by its first token
item_is : (t : Token) (ts : List Token) (b a : Bool) → is_blank t.kind ≡ b → is_at_keyword t.kind ≡ a → declaration_item t ts ≡ cond b [] (cond a [] (option_to_list (declaration (front ends_declaration (t ∷ ts)))))
item_is t ts b a e f = ap (λ x. cond x [] (cond (is_at_keyword t.kind) [] (option_to_list (declaration (front ends_declaration (t ∷ ts)))))) e ∙ ap (λ x. cond b [] (cond x [] (option_to_list (declaration (front ends_declaration (t ∷ ts)))))) f

after_is : (t : Token) (ts : List Token) (b a : Bool) → is_blank t.kind ≡ b → is_at_keyword t.kind ≡ a → after_declaration t ts ≡ cond b ts (cond a (after_at_rule ts) (behind ends_declaration (t ∷ ts)))
after_is t ts b a e f = ap (λ x. cond x ts (cond (is_at_keyword t.kind) (after_at_rule ts) (behind ends_declaration (t ∷ ts)))) e ∙ ap (λ x. cond b ts (cond x (after_at_rule ts) (behind ends_declaration (t ∷ ts)))) f

none_of : (o : Option Decl) → ((d : Decl) → o ≡ Some d → ⊥) → ◌≡◌ {A = List Decl} [] (option_to_list o)
none_of None h = refl
none_of (Some d) h = absurd (h d refl)

takes_only : TakesOnly DeclarationItem declaration_item after_declaration
takes_only t ts xs rest (blank e) = (sym (item_is t ts true _ e refl), sym (after_is t ts true _ e refl))
takes_only t ts xs rest (at_rule {prelude = prelude} {block = block} e f h) = (sym (item_is t ts false true e f), at_rule_after ts prelude block rest h ∙ sym (after_is t ts false true e f))
takes_only t ts xs rest (well_formed {piece = piece} {d = d} e f h k) = (
  sym (item_is t ts false false e f ∙ ap (λ x. option_to_list (declaration x)) (sym (stretch_front ends_declaration (t ∷ ts) piece rest h)) ∙ ap option_to_list (declaration_read piece d k)),
  stretch_behind ends_declaration (t ∷ ts) piece rest h ∙ sym (after_is t ts false false e f),
)
takes_only t ts xs rest (malformed {piece = piece} e f h k) = (
  none_of (declaration piece) (λ d r. k d (read_declaration piece d r)) ∙ ap (λ x. option_to_list (declaration x)) (stretch_front ends_declaration (t ∷ ts) piece rest h) ∙ sym (item_is t ts false false e f),
  stretch_behind ends_declaration (t ∷ ts) piece rest h ∙ sym (after_is t ts false false e f),
)

pub are_declarations : (ts : List Token) → AreDeclarations ts (declarations ts)
are_declarations ts = listed DeclarationItem declaration_item after_declaration declaration_tails takes ts

pub declarations_are : {ts : List Token} {ds : List Decl} → AreDeclarations ts ds → ds ≡ declarations ts
declarations_are h = listed_only DeclarationItem declaration_item after_declaration declaration_tails takes_only h

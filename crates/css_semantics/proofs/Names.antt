-- Which names are identifiers.
use Rattle.std.proofs.Common.{◌≡◌, ℕ, inl, inr, ◌↔◌, ◌==◌, Bool, true, false, cond, ◌||◌, List, [], ◌∷◌, ◌++◌, drop, refl, sym, ◌∙◌, ap, subst, arith}
use Rattle.std.proofs.lemmas.Bool.Decides.{nat_tests}
use Rattle.std.specs.List.{AllByRecursion, concat}
use Rattle.std.proofs.lemmas.Bool.{or_left}
use Rattle.viz_base.specs.declared.tokens.TokenKind.TheVariants.{Hash}
use Rattle.css_semantics.specs.TokensLetters.{is_start, is_name}
use Rattle.css_semantics.specs.TokensMacros.{Mark, Then, Maybe, Many, IsEscape, IsStart, IsNameChar, IsIdent}
use Rattle.css_semantics.specs.TokensTable.{Matches}
use Rattle.css_semantics.specs.SelectorTerminals.{begins_identifier, begins_plain}

-- ---- tests of one character

start_is_no_dash : (c : ℕ) → is_start c ≡ true → (c == 45) ≡ false
start_is_no_dash c e = grind (arith, nat_tests)

name_is_no_backslash : (c : ℕ) → is_name c ≡ true → (c == 92) ≡ false
name_is_no_backslash c e = grind (arith, nat_tests)

first_of_two : (a b : Bool) → b ≡ false → (a || b) ≡ true → a ≡ true
first_of_two true b e f = refl
first_of_two false b e f = absurd (cc)

-- ---- an identifier begins as one

escape_first : (p : List ℕ) → IsEscape p → (rest : List ℕ) × (p ≡ 92 ∷ rest)
escape_first p (inl u) = (u.back, u.whole ∙ ap (λ x. x ++ u.back) u.first)
escape_first p (inr u) = (u.back, u.whole ∙ ap (λ x. x ++ u.back) u.first)

start_plain : (p : List ℕ) → IsStart p → (rest : List ℕ) → begins_plain (p ++ rest) ≡ true
start_plain p (inl o) rest = ap (λ x. begins_plain (x ++ rest)) o.1 ∙ or_left (is_start o.0) (o.0 == 92) o.2
start_plain p (inr e) rest = let h = escape_first p e in ap (λ x. begins_plain (x ++ rest)) h.1

cond_false : (b x y : Bool) → b ≡ false → cond b x y ≡ y
cond_false true x y e = absurd (cc)
cond_false false x y e = refl

start_begins : (p : List ℕ) → IsStart p → (rest : List ℕ) → begins_identifier (p ++ rest) ≡ true
start_begins p (inl o) rest =
    ap (λ x. begins_identifier (x ++ rest)) o.1 ∙ cond_false (o.0 == 45) (begins_plain rest) (is_start o.0 || o.0 == 92) (start_is_no_dash o.0 o.2) ∙ or_left (is_start o.0) (o.0 == 92) o.2
start_begins p (inr e) rest = let h = escape_first p e in ap (λ x. begins_identifier (x ++ rest)) h.1

ident_by : (dash start rest : List ℕ) → Maybe (Mark 45) dash → IsStart start → begins_identifier (dash ++ (start ++ rest)) ≡ true
ident_by dash start rest (inl e) s = ap (λ x. begins_identifier (x ++ (start ++ rest))) e ∙ start_begins start s rest
ident_by dash start rest (inr e) s = ap (λ x. begins_identifier (x ++ (start ++ rest))) e ∙ start_plain start s rest

ident_begins : (p : List ℕ) → IsIdent p → begins_identifier p ≡ true
ident_begins p h = ap begins_identifier (h.whole ∙ ap (λ x. h.front ++ x) h.second.whole) ∙ ident_by h.front h.second.front h.second.back h.first h.second.first

-- ---- a name that begins as an identifier is one

start_by : (p : List ℕ) (c : ℕ) (rest : List ℕ) → p ≡ c ∷ [] → is_name c ≡ true → begins_plain (p ++ rest) ≡ true → IsStart p
start_by p c rest is n e =
    let plain : (is_start c || c == 92) ≡ true = ap (λ x. begins_plain (x ++ rest)) (sym is) ∙ e in
    inl (c, is, first_of_two (is_start c) (c == 92) (name_is_no_backslash c n) plain)

start_of_char : (p rest : List ℕ) → IsNameChar p → begins_plain (p ++ rest) ≡ true → IsStart p
start_of_char p rest (inl o) e = start_by p o.0 rest o.1 o.2 e
start_of_char p rest (inr u) e = inr u

after_dash : (pieces : List (List ℕ)) → AllByRecursion IsNameChar pieces → begins_plain (concat pieces) ≡ true → Then IsStart (Many IsNameChar) (concat pieces)
after_dash [] each e = absurd (cc)
after_dash (p ∷ pieces) each e = record { front = p; back = concat pieces; whole = refl; first = start_of_char p (concat pieces) each.0 e; second = record { pieces = pieces; whole = refl; each = each.1 } }

behind_dash : (rest : List ℕ) → Many IsNameChar rest → begins_plain rest ≡ true → Then IsStart (Many IsNameChar) rest
behind_dash rest m e = subst (Then IsStart (Many IsNameChar)) (sym m.whole) (after_dash m.pieces m.each (ap begins_plain (sym m.whole) ∙ e))

dash_or : (b : Bool) (c : ℕ) (rest : List ℕ) → (c == 45) ≡ b → (b ≡ true → c ≡ 45) → is_name c ≡ true → Many IsNameChar rest → cond b (begins_plain rest) (is_start c || c == 92) ≡ true → IsIdent (c ∷ rest)
dash_or true c rest is same n m e = record { front = c ∷ []; back = rest; whole = refl; first = inr (ap (λ x. x ∷ []) (same refl)); second = behind_dash rest m e }
dash_or false c rest is same n m e =
    record { front = []; back = c ∷ rest; whole = refl; first = inl refl; second = record { front = c ∷ []; back = rest; whole = refl; first = inl (c, refl, first_of_two (is_start c) (c == 92) (name_is_no_backslash c n) e); second = m } }

name_begins : (first rest : List ℕ) → IsNameChar first → Many IsNameChar rest → begins_identifier (first ++ rest) ≡ true → IsIdent (first ++ rest)
name_begins first rest (inl o) m e =
    subst (λ x. IsIdent (x ++ rest)) (sym o.1) (dash_or (o.0 == 45) o.0 rest refl (λ h. grind arith) o.2 m (ap (λ x. begins_identifier (x ++ rest)) (sym o.1) ∙ e))
name_begins first rest (inr u) m e = record { front = []; back = first ++ rest; whole = refl; first = inl refl; second = record { front = first; back = rest; whole = refl; first = inr u; second = m } }

pub hash_name : (text : List ℕ) → Matches Hash text → begins_identifier (drop 1 text) ≡ true ↔ IsIdent (drop 1 text)
hash_name text h =
    let name = h.second in
    let behind : drop 1 text ≡ name.front ++ name.back = ap (drop 1) (h.whole ∙ ap (λ x. x ++ h.back) h.first) ∙ name.whole in (
      (λ e. subst IsIdent (sym behind) (name_begins name.front name.back name.first name.second (ap begins_identifier (sym behind) ∙ e))),
      (λ i. ident_begins (drop 1 text) i),
    )

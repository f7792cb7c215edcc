-- Words of texts, and what the front of a text is.
use Rattle.std.proofs.Common.{◌≡◌, ℕ, ◌⊎◌, inl, inr, Bool, true, false, not, ◌&&◌, ◌||◌, ◌==◌, cond, List, [], ◌∷◌, ◌++◌, Option, Some, None, refl, sym, ◌∙◌, ap, subst, arith}
use Rattle.std.proofs.lemmas.Bool.{and_parts, or_left, or_right, or_cases, not-true}
use Rattle.std.proofs.lemmas.List.{append-nil}
use Rattle.std.specs.Prelude.{MatchOption}
use Rattle.std.specs.List.{AllByRecursion, list_any}
use Rattle.viz_base.proofs.Truths.{same_number, by_bool}
use denote.Bor.{Bor}
use Rattle.css_semantics.specs.TokensLetters.{is_space}
use Rattle.css_semantics.specs.Matching.{EndsWhite, BeginsWhite, IsWordOf, IsDashed}
use Rattle.css_select.specs.steps.Attributes.{behind, ends_white, begins_word, found, is_nothing, is_solid, has_word, ends_dash, is_dashed}

-- ---- the front of a text

behind_more : (b : Bool) (o rest : Option (List ℕ)) → b ≡ true → o ≡ rest → cond b o None ≡ rest
behind_more true o rest e h = h
behind_more false o rest e h = absurd (cc)

pub behind_append : (word rest : List ℕ) → behind word (word ++ rest) ≡ Some rest
behind_append [] rest = refl
behind_append (w ∷ ws) rest = behind_more (w == w) (behind ws (ws ++ rest)) (Some rest) (same_number w) (behind_append ws rest)

behind_step : (b : Bool) (w c : ℕ) (ws cs rest : List ℕ) → (b ≡ true → w ≡ c) → (behind ws cs ≡ Some rest → cs ≡ ws ++ rest) → cond b (behind ws cs) None ≡ Some rest → c ∷ cs ≡ w ∷ (ws ++ rest)
behind_step true w c ws cs rest same h e = let front = same refl in let tail = h e in cc
behind_step false w c ws cs rest same h e = absurd (cc)

pub behind_is : (word text rest : List ℕ) → behind word text ≡ Some rest → text ≡ word ++ rest
behind_is [] text rest e = cc
behind_is (w ∷ ws) [] rest e = absurd (cc)
behind_is (w ∷ ws) (c ∷ cs) rest e = behind_step (w == c) w c ws cs rest (λ h. grind arith) (λ f. behind_is ws cs rest f) e

none_by : (o : Option (List ℕ)) → ((rest : List ℕ) → o ≡ Some rest → ⊥) → o ≡ None
none_by None h = refl
none_by (Some rest) h = absurd (h rest refl)

pub behind_by : (word text : List ℕ) (r : Option (Bor (List ℕ))) → MatchOption r ((rest : List ℕ) → text ≡ word ++ rest → ⊥) (λ x. text ≡ word ++ x.now) → MatchOption r (behind word text ≡ None) (λ x. behind word text ≡ Some x.now)
behind_by word text None h = none_by (behind word text) (λ rest e. h rest (behind_is word text rest e))
behind_by word text (Some x) h = ap (behind word) h ∙ behind_append word x.now

-- ---- words

begins_by : (o : Option (List ℕ)) → ends_white o ≡ true → (rest : List ℕ) × (o ≡ Some rest) × BeginsWhite rest
begins_by None e = absurd (cc)
begins_by (Some []) e = ([], refl, inl refl)
begins_by (Some (c ∷ cs)) e = (c ∷ cs, refl, inr (c, cs, refl, e))

ends_by : (rest : List ℕ) → BeginsWhite rest → ends_white (Some rest) ≡ true
ends_by rest (inl e) = rw e refl
ends_by rest (inr h) = rw h.2 h.3

-- whether a word may start behind these characters
abbrev StartsBehind : Bool → List ℕ → Type 0
StartsBehind start [] = start ≡ true
StartsBehind start (c ∷ cs) = StartsBehind (is_space c) cs

record IsFound (start : Bool) (word text : List ℕ) : Type 0 where
  before : List ℕ
  after : List ℕ
  whole : text ≡ before ++ (word ++ after)
  starts : StartsBehind start before
  ends : BeginsWhite after

found_here : (start : Bool) (word text : List ℕ) → (start && begins_word word text) ≡ true → IsFound start word text
found_here start word text e =
    let h = and_parts start (begins_word word text) e in
    let k = begins_by (behind word text) h.1 in
    record { before = []; after = k.0; whole = behind_is word text k.0 k.1; starts = h.0; ends = k.2 }

found_later : (start : Bool) (word : List ℕ) (c : ℕ) (cs : List ℕ) → IsFound (is_space c) word cs → IsFound start word (c ∷ cs)
found_later start word c cs h = record { before = c ∷ h.before; after = h.after; whole = ap (λ x. c ∷ x) h.whole; starts = h.starts; ends = h.ends }

found_cases : (start : Bool) (word : List ℕ) (c : ℕ) (cs : List ℕ) → ((start && begins_word word (c ∷ cs)) ≡ true) ⊎ (found (is_space c) word cs ≡ true) → (found (is_space c) word cs ≡ true → IsFound (is_space c) word cs) → IsFound start word (c ∷ cs)
found_cases start word c cs (inl e) h = found_here start word (c ∷ cs) e
found_cases start word c cs (inr e) h = found_later start word c cs (h e)

is_found : (start : Bool) (word text : List ℕ) → found start word text ≡ true → IsFound start word text
is_found start word [] e = absurd (cc)
is_found start word (c ∷ cs) e = found_cases start word c cs (or_cases (start && begins_word word (c ∷ cs)) (found (is_space c) word cs) e) (λ f. is_found (is_space c) word cs f)

word_at : (word after text : List ℕ) → text ≡ word ++ after → BeginsWhite after → begins_word word text ≡ true
word_at word after text e h = ap (begins_word word) e ∙ ap ends_white (behind_append word after) ∙ ends_by after h

found_at : (start : Bool) (word before after text : List ℕ) → (word ≡ [] → ⊥) → text ≡ before ++ (word ++ after) → StartsBehind start before → BeginsWhite after → found start word text ≡ true
found_at start [] [] after [] some e s w = absurd (some refl)
found_at start (v ∷ vs) [] after [] some e s w = absurd (cc)
found_at start word (b ∷ bs) after [] some e s w = absurd (cc)
found_at start word [] after (c ∷ cs) some e s w =
    let here : (start && begins_word word (c ∷ cs)) ≡ true = ap (λ x. x && begins_word word (c ∷ cs)) s ∙ word_at word after (c ∷ cs) e w in
    or_left (start && begins_word word (c ∷ cs)) (found (is_space c) word cs) here
found_at start word (b ∷ bs) after (c ∷ cs) some e s w =
    let same : c ≡ b = cc in
    let tail : cs ≡ bs ++ (word ++ after) = cc in
    or_right (start && begins_word word (c ∷ cs)) (found (is_space c) word cs) (found_at (is_space c) word bs after cs some tail (subst (λ x. StartsBehind (is_space x) bs) (sym same) s) w)

-- white space or nothing is before it
ends_before : (c : ℕ) (cs : List ℕ) → StartsBehind (is_space c) cs → (front : List ℕ) × (d : ℕ) × (c ∷ cs ≡ front ++ d ∷ []) × (is_space d ≡ true)
ends_before c [] e = ([], c, refl, e)
ends_before c (d ∷ ds) e = let h = ends_before d ds e in (c ∷ h.0, h.1, ap (λ x. c ∷ x) h.2, h.3)

ends_white_before : (before : List ℕ) → StartsBehind true before → EndsWhite before
ends_white_before [] e = inl refl
ends_white_before (c ∷ cs) e = inr (ends_before c cs e)

starts_front : (start : Bool) (front : List ℕ) (d : ℕ) → is_space d ≡ true → StartsBehind start (front ++ d ∷ [])
starts_front start [] d e = e
starts_front start (c ∷ cs) d e = starts_front (is_space c) cs d e

starts_before : (before : List ℕ) → EndsWhite before → StartsBehind true before
starts_before before (inl e) = subst (StartsBehind true) (sym e) refl
starts_before before (inr h) = subst (StartsBehind true) (sym h.2) (starts_front true h.0 h.1 h.3)

solid_all : (word : List ℕ) → list_any is_space word ≡ false → AllByRecursion (λ c. is_space c ≡ false) word
solid_all [] e = tt
solid_all (c ∷ cs) e = by_bool (is_space c) (λ h. absurd (cc)) (λ h. (h, solid_all cs (sym (ap (λ b. b || list_any is_space cs) h) ∙ e)))

all_solid : (word : List ℕ) → AllByRecursion (λ c. is_space c ≡ false) word → list_any is_space word ≡ false
all_solid [] h = refl
all_solid (c ∷ cs) h = ap (λ b. b || list_any is_space cs) h.0 ∙ all_solid cs h.1

some_of : (word : List ℕ) → not (is_nothing word) ≡ true → word ≡ [] → ⊥
some_of [] e f = absurd (cc)
some_of (c ∷ cs) e f = absurd (cc)

of_some : (word : List ℕ) → (word ≡ [] → ⊥) → not (is_nothing word) ≡ true
of_some [] h = absurd (h refl)
of_some (c ∷ cs) h = refl

is_solid_is : (word : List ℕ) → is_solid word ≡ true → (word ≡ [] → ⊥) × AllByRecursion (λ c. is_space c ≡ false) word
is_solid_is word e = let h = and_parts (not (is_nothing word)) (not (list_any is_space word)) e in (some_of word h.0, solid_all word (not-true (list_any is_space word) h.1))

solid_is : (word : List ℕ) → (word ≡ [] → ⊥) → AllByRecursion (λ c. is_space c ≡ false) word → is_solid word ≡ true
solid_is word some h = ap (λ b. b && not (list_any is_space word)) (of_some word some) ∙ ap not (all_solid word h)

pub word_of : (text word : List ℕ) → has_word text word ≡ true → IsWordOf text word
word_of text word e =
    let h = and_parts (is_solid word) (found true word text) e in
    let s = is_solid_is word h.0 in
    let f = is_found true word text h.1 in
    record { before = f.before; after = f.after; whole = f.whole; some = s.0; solid = s.1; start = ends_white_before f.before f.starts; end = f.ends }

pub of_word : (text word : List ℕ) → IsWordOf text word → has_word text word ≡ true
of_word text word h =
    ap (λ b. b && found true word text) (solid_is word h.some h.solid) ∙ found_at true word h.before h.after text h.some h.whole (starts_before h.before h.start) h.end

-- ---- values with a hyphen

dashed_by : (text value : List ℕ) (o : Option (List ℕ)) → behind value text ≡ o → ends_dash o ≡ true → IsDashed text value
dashed_by text value None is e = absurd (cc)
dashed_by text value (Some []) is e = let h = behind_is value text [] is in inl (h ∙ simp append-nil)
dashed_by text value (Some (c ∷ cs)) is e =
    let same : c ≡ 45 = grind arith in
    inr (cs, behind_is value text (c ∷ cs) is ∙ ap (λ x. value ++ x ∷ cs) same)

pub dashed_of : (text value : List ℕ) → is_dashed text value ≡ true → IsDashed text value
dashed_of text value e = dashed_by text value (behind value text) refl e

pub of_dashed : (text value : List ℕ) → IsDashed text value → is_dashed text value ≡ true
of_dashed text value (inl e) = ap (λ x. ends_dash (behind value x)) (e ∙ sym (append-nil value)) ∙ ap ends_dash (behind_append value [])
of_dashed text value (inr h) = ap (λ x. ends_dash (behind value x)) h.1 ∙ ap ends_dash (behind_append value (45 ∷ h.0))

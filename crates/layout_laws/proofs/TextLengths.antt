-- The text of a box has no more characters than the text of its node.
use Rattle.std.proofs.Common.{◌≡◌, ℕ, zero, suc, ◌+◌, ◌-◌, ◌*◌, ◌/◌, ◌%◌, ◌<◌, ◌≤◌, Bool, true, false, not, cond, nat_lt, ◌==◌, List, [], ◌∷◌, ◌++◌, map, flat_map, zip, length, Option, Some, None, encode_utf8_all, refl, sym, ◌∙◌, ap, subst, arith, ltb-true, length-append, eq-eqb, ne_eqb, filter, Contains, ⊎_elim}
use Rattle.std.specs.Str.{chars, chars_after, continuation_len, lead_bits}
use Rattle.std.specs.Prelude.{if◌then◌else◌}
use Rattle.std.proofs.lemmas.Grind.{flat_map-append}
use Rattle.std.specs.Option.{option_map_or}
use Rattle.viz_base.specs.Pages.{IsPage, text_of}
use Rattle.viz_base.specs.declared.nodes.Node.{Node}
use Rattle.viz_base.specs.declared.styles.Style.{Style}
use Rattle.viz_base.specs.declared.trees.Kind.{Kind}
use Rattle.viz_base.specs.declared.trees.Kind.TheVariants as of_kind
use Rattle.viz_base.proofs.ListLemmas.{rises_from}
use Rattle.viz_base.specs.Orders.{Rises}
use Rattle.layout_semantics.specs.Lists.{one_if}
use Rattle.layout_semantics.specs.Parts.{Part, Level, shown_parts}
use Rattle.layout_semantics.specs.WhiteSpace.{Thing, stays, is_white, keeps_white, collapsed_things, letter_of, letters_of, things_of, things_in, level_things, inline_things, is_in, is_bare, collapsed, collapsed_part}
use Rattle.layout_laws.proofs.Members.{to_map, from_map, from_filter, no_member, first_or_later}
use Rattle.layout_laws.proofs.Shown.{from_shown, shown_rise}
use lib.Utf8.{encode}

-- ---- characters and their bytes

length_whole : (c : ℕ) (bs : List ℕ) → length (chars_after zero c bs) ≡ suc (length (chars bs))
unfolding chars
length_whole c [] = refl
length_whole c (b ∷ bs) = refl

length_after_1 : (v b : ℕ) (rest : List ℕ) → length (chars_after 1 v (b ∷ rest)) ≡ suc (length (chars rest))
length_after_1 v b rest = length_whole (v * 64 + (b - 128)) rest

length_after_2 : (v b d : ℕ) (rest : List ℕ) → length (chars_after 2 v (b ∷ d ∷ rest)) ≡ suc (length (chars rest))
length_after_2 v b d rest = length_after_1 (v * 64 + (b - 128)) d rest

length_after_3 : (v b d e : ℕ) (rest : List ℕ) → length (chars_after 3 v (b ∷ d ∷ e ∷ rest)) ≡ suc (length (chars rest))
length_after_3 v b d e rest = length_after_2 (v * 64 + (b - 128)) d e rest

length_led : (a n : ℕ) (bs : List ℕ) → n ≡ continuation_len a → length (chars (a ∷ bs)) ≡ length (chars_after n (lead_bits a) bs)
unfolding chars
length_led a n bs e = ap (λ m. length (chars_after m (lead_bits a) bs)) (sym e)

length_char : (c : ℕ) (rest : List ℕ) → length (chars (encode c ++ rest)) ≡ suc (length (chars rest))
unfolding encode
length_char c rest = by_one (nat_lt c 128) refl (nat_lt c 2048) refl (nat_lt c 65536) refl
  where
    by_one : (x : Bool) → nat_lt c 128 ≡ x → (y : Bool) → nat_lt c 2048 ≡ y → (z : Bool) → nat_lt c 65536 ≡ z
        → length (chars ((cond x (c ∷ []) (cond y ((192 + c / 64) ∷ (128 + c % 64) ∷ []) (cond z ((224 + c / 4096) ∷ (128 + (c / 64) % 64) ∷ (128 + c % 64) ∷ []) ((240 + c / 262144) ∷ (128 + (c / 4096) % 64) ∷ (128 + (c / 64) % 64) ∷ (128 + c % 64) ∷ [])))) ++ rest)) ≡ suc (length (chars rest))
    by_one true e y f z g = let l = ltb-true c 128 e in length_led c 0 rest (grind arith) ∙ length_whole (lead_bits c) rest
    by_one false e true f z g = let l = ltb-true c 2048 f in length_led (192 + c / 64) 1 ((128 + c % 64) ∷ rest) (grind arith) ∙ length_after_1 (lead_bits (192 + c / 64)) (128 + c % 64) rest
    by_one false e false f true g = let l = ltb-true c 65536 g in length_led (224 + c / 4096) 2 ((128 + (c / 64) % 64) ∷ (128 + c % 64) ∷ rest) (grind arith) ∙ length_after_2 (lead_bits (224 + c / 4096)) (128 + (c / 64) % 64) (128 + c % 64) rest
    by_one false e false f false g = length_led (240 + c / 262144) 3 ((128 + (c / 4096) % 64) ∷ (128 + (c / 64) % 64) ∷ (128 + c % 64) ∷ rest) (grind arith) ∙ length_after_3 (lead_bits (240 + c / 262144)) (128 + (c / 4096) % 64) (128 + (c / 64) % 64) (128 + c % 64) rest

pub length_encoded : (cs : List ℕ) → length (chars (encode_utf8_all cs)) ≡ length cs
unfolding chars
length_encoded [] = refl
length_encoded (c ∷ cs) = length_char c (encode_utf8_all cs) ∙ ap suc (length_encoded cs)

-- ---- white space only takes characters away

length_one_if : (b : Bool) (c d : ℕ) → length (one_if b c) ≡ length (one_if b d)
length_one_if true c d = refl
length_one_if false c d = refl

module _ (node : ℕ) where
  length_join : (xs ys : List Thing) → length (letters_of node (xs ++ ys)) ≡ length (letters_of node xs) + length (letters_of node ys)
  length_join xs ys = ap length (flat_map-append (letter_of node) xs ys) ∙ length-append (letters_of node xs) (letters_of node ys)

  fewer_after : (before : Thing) (things : List Thing) → length (letters_of node (flat_map (λ (pair : Thing × Thing). stays pair.0 pair.1) (zip (before ∷ things) things))) ≤ length (letters_of node things)
  fewer_after before [] = omega arith
  fewer_after before (Thing.atom ∷ things) = fewer_after Thing.atom things
  fewer_after before (Thing.edge ∷ things) = fewer_after Thing.edge things
  fewer_after before (Thing.letter m c ∷ things) = by_white (is_white c) (keeps_white before) (fewer_after (Thing.letter m c) things)
    where
      by_white : (w k : Bool) → length (letters_of node (flat_map (λ (pair : Thing × Thing). stays pair.0 pair.1) (zip (Thing.letter m c ∷ things) things))) ≤ length (letters_of node things)
          → length (letters_of node ((if not w then Thing.letter m c ∷ [] else (if k then Thing.letter m 32 ∷ [] else [])) ++ flat_map (λ (pair : Thing × Thing). stays pair.0 pair.1) (zip (Thing.letter m c ∷ things) things))) ≤ length (one_if (m == node) c ++ letters_of node things)
      by_white false k l =
          let here = length-append (one_if (m == node) c) (letters_of node (flat_map (λ (pair : Thing × Thing). stays pair.0 pair.1) (zip (Thing.letter m c ∷ things) things))) in
          let all = length-append (one_if (m == node) c) (letters_of node things) in
          omega (arith, here, all, l)
      by_white true true l =
          let here = length-append (one_if (m == node) 32) (letters_of node (flat_map (λ (pair : Thing × Thing). stays pair.0 pair.1) (zip (Thing.letter m c ∷ things) things))) in
          let all = length-append (one_if (m == node) c) (letters_of node things) in
          let same = length_one_if (m == node) 32 c in
          omega (arith, here, all, same, l)
      by_white true false l = let all = length-append (one_if (m == node) c) (letters_of node things) in omega (arith, all, l)

  -- ---- a text's characters are those of its own node

  letters_own : (text : List ℕ) → letters_of node (map (Thing.letter node) text) ≡ text
  letters_own [] = refl
  letters_own (c ∷ text) = ap (λ b. one_if b c ++ letters_of node (map (Thing.letter node) text)) (eq-eqb node node refl) ∙ ap (λ (l : List ℕ). c ∷ l) (letters_own text)

  letters_other : (m : ℕ) (text : List ℕ) → (m ≡ node → ⊥) → letters_of node (map (Thing.letter m) text) ≡ []
  letters_other m [] h = refl
  letters_other m (c ∷ text) h = ap (λ b. one_if b c ++ letters_of node (map (Thing.letter m) text)) (ne_eqb m node h) ∙ letters_other m text h

  own_inline : (k : Kind) (text : List ℕ) → length (letters_of node (inline_things k node text)) ≤ length text
  own_inline of_kind.Chars text = let same = ap length (letters_own text) in omega (arith, same)
  own_inline of_kind.Block text = omega arith
  own_inline of_kind.Anon text = omega arith
  own_inline of_kind.Float text = omega arith
  own_inline of_kind.Atomic text = omega arith
  own_inline of_kind.Replaced text = omega arith
  own_inline of_kind.Inline text = omega arith
  own_inline of_kind.Line text = omega arith
  own_inline of_kind.Break text = omega arith

  own_things : (p : Part) (l : Level) → p.node ≡ node → length (letters_of node (level_things l p)) ≤ length p.text
  own_things p Level.block e = omega arith
  own_things p Level.floated e = omega arith
  own_things p Level.inline e = subst (λ m. length (letters_of node (inline_things p.kind m p.text)) ≤ length p.text) (sym e) (own_inline p.kind p.text)

  other_inline : (k : Kind) (m : ℕ) (text : List ℕ) → (m ≡ node → ⊥) → letters_of node (inline_things k m text) ≡ []
  other_inline of_kind.Chars m text h = letters_other m text h
  other_inline of_kind.Block m text h = refl
  other_inline of_kind.Anon m text h = refl
  other_inline of_kind.Float m text h = refl
  other_inline of_kind.Atomic m text h = refl
  other_inline of_kind.Replaced m text h = refl
  other_inline of_kind.Inline m text h = refl
  other_inline of_kind.Line m text h = refl
  other_inline of_kind.Break m text h = refl

  other_things : (p : Part) (l : Level) → (p.node ≡ node → ⊥) → letters_of node (level_things l p) ≡ []
  other_things p Level.block h = refl
  other_things p Level.floated h = refl
  other_things p Level.inline h = other_inline p.kind p.node p.text h

  -- those of all parts that pass a test
  module _ (test : Part → Bool) where
    length_all : (p : Part) (ps : List Part) → length (letters_of node (flat_map things_of (filter test (p ∷ ps)))) ≤ length (letters_of node (things_of p)) + length (letters_of node (flat_map things_of (filter test ps)))
    length_all p ps = by_test (test p)
      where
        by_test : (b : Bool) → length (letters_of node (flat_map things_of (if b then p ∷ filter test ps else filter test ps))) ≤ length (letters_of node (things_of p)) + length (letters_of node (flat_map things_of (filter test ps)))
        by_test true = let e = length_join (things_of p) (flat_map things_of (filter test ps)) in omega (arith, e)
        by_test false = omega arith

    none_of : (low : ℕ) (ps : List Part) → node < low → Rises low (map (λ (p : Part). p.node) ps) → length (letters_of node (flat_map things_of (filter test ps))) ≤ 0
    none_of low [] l r = omega arith
    none_of low (p ∷ ps) l r =
        let all = length_all p ps in
        let here = ap length (other_things p p.level (λ e. omega (arith, e, l, r.0))) in
        let rest = none_of (suc p.node) ps (omega (arith, l, r.0)) r.1 in
        omega (arith, all, here, rest)

    own_of : (low : ℕ) (ps : List Part) (p : Part) → Rises low (map (λ (p : Part). p.node) ps) → Contains ps p → p.node ≡ node → length (letters_of node (flat_map things_of (filter test ps))) ≤ length p.text
    own_of low [] p r i e = no_member i
    own_of low (q ∷ ps) p r i e =
        let all = length_all q ps in
        ⊎_elim
        (λ s.
        let same = ap (λ (z : Part). z.node) s ∙ e in
        let text = ap (λ (z : Part). length z.text) s in
        let here = own_things q q.level same in
        let rest = none_of (suc q.node) ps (omega (arith, same)) r.1 in
        omega (arith, all, here, rest, text))
        (λ j.
        let after = rises_from (suc q.node) (map (λ (p : Part). p.node) ps) p.node r.1 (to_map (λ (p : Part). p.node) ps p j) in
        let here = ap length (other_things q q.level (λ f. omega (arith, f, e, after))) in
        let rest = own_of (suc q.node) ps p r.1 j e in
        omega (arith, all, here, rest))
        (first_or_later q ps p i)

-- ---- the texts of a page

module _ (nodes : List Node) (styles : List Style) (page : IsPage nodes) where
  pub collapsed_within : (p : Part) (o : Option ℕ) → Contains (shown_parts nodes styles) p
      → length (option_map_or (λ c. letters_of p.node (collapsed_things (things_in (shown_parts nodes styles) c))) o []) ≤ length p.text
  collapsed_within p None i = omega arith
  collapsed_within p (Some c) i =
      let fewer = fewer_after p.node Thing.edge (things_in (shown_parts nodes styles) c) in
      let own = own_of p.node (λ (q : Part). is_in c q.container) 0 (shown_parts nodes styles) p (shown_rise nodes styles) i refl in
      omega (arith, fewer, own)

  pub text_within : (p : Part) → Contains (collapsed (shown_parts nodes styles)) p → length p.text ≤ 262144
  text_within p i =
      let all = shown_parts nodes styles in
      let kept = from_filter (λ p. not (is_bare p)) (map (collapsed_part all) all) p i in
      let from = from_map (collapsed_part all) all p kept.0 in
      let known = from_shown nodes styles from.0 from.1 in
      let text : length from.0.text ≡ length (chars (text_of known.entry.body)) = ap (λ (q : Part). length q.text) known.is in
      let most = page.texts from.0.node known.entry known.node_is in
      let fewer = collapsed_within from.0 from.0.container from.1 in
      let same : length (collapsed_part all from.0).text ≡ length p.text = ap (λ (q : Part). length q.text) from.2 in
      omega (arith, text, most, fewer, same)

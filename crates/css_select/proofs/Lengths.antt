-- The tokens of a text are no longer than the text, and each has a byte.
use Rattle.std.proofs.Common.{◌≡◌, ℕ, ◌+◌, ◌<◌, ◌≤◌, ◌^◌, inl, inr, Bool, true, false, cond, List, [], ◌∷◌, length, map, refl, sym, ◌∙◌, ap, subst, arith, length-append}
use Rattle.std.specs.Prelude.{encode_utf8_all, flat_map}
use Rattle.std.specs.Char.{encode_utf8}
use Rattle.std.specs.Str.{IsUtf8, bytes_eq, chars}
use Rattle.std.specs.List.{All, AllByRecursion}
use Rattle.std.proofs.lemmas.Str.{encodes-chars, length-encode, len_utf8_bounds}
use Rattle.std.proofs.lemmas.List.Elements.{All-from_recursion}
use Rattle.css_semantics.specs.TokensMacros.{IsNameChar}
use Rattle.viz_base.specs.declared.groups.Selector.{Selector}
use Rattle.css_semantics.specs.Pieces.{Token}
use Rattle.viz_base.specs.declared.tokens.TokenKind.{TokenKind}
use Rattle.viz_base.specs.declared.tokens.TokenKind.TheVariants as of_kind
use Rattle.css_semantics.specs.declared.terminals.Terminal.{Terminal}
use Rattle.css_semantics.specs.declared.terminals.Terminal.TheVariants as a
use Rattle.css_semantics.specs.Tokens.{ArePieces, AreTokens}
use Rattle.css_semantics.specs.TokensTable.{Matches}
use Rattle.css_semantics.specs.SelectorGrammar.{IsGroupOf}
use Rattle.css_semantics.specs.SelectorTerminals.{terminal_of, terminal_of_character, is_comment, without_comments}
use Rattle.css_semantics.specs.Specificity.{IsCountable}
use Rattle.css_semantics.proofs.PieceLemmas.{some_matches, pieces_join}
use Rattle.css_semantics.specs.Spelled.{spelled}
use Rattle.css_select.proofs.Sizes.{bytes, IsFull, AreFull, AreWithin, group_size}

-- ---- a token has a byte, and an id two

encoded : (cs : List ℕ) → length cs ≤ length (encode_utf8_all cs)
encoded [] = omega arith
encoded (c ∷ cs) = omega (arith, length-append (encode_utf8 c) (encode_utf8_all cs), length-encode c, len_utf8_bounds c, encoded cs)

not_cond : (b : Bool) (x y : Terminal) → (x ≡ a.Id → ⊥) → (y ≡ a.Id → ⊥) → cond b x y ≡ a.Id → ⊥
not_cond true x y h k e = h e
not_cond false x y h k e = k e

no_character : (text : List ℕ) → terminal_of_character text ≡ a.Id → ⊥
no_character text =
    not_cond (bytes_eq text (42 ∷ [])) a.Star _ (λ e. cc)
    (not_cond (bytes_eq text (46 ∷ [])) a.Dot _ (λ e. cc)
    (not_cond (bytes_eq text (44 ∷ [])) a.Comma _ (λ e. cc)
    (not_cond (bytes_eq text (62 ∷ [])) a.Greater _ (λ e. cc)
    (not_cond (bytes_eq text (43 ∷ [])) a.Plus _ (λ e. cc)
    (not_cond (bytes_eq text (61 ∷ [])) a.Equal _ (λ e. cc) (λ e. cc))))))

-- an id is a `#` with a name
id_hash : (kind : TokenKind) (text : List ℕ) → terminal_of kind text ≡ a.Id → kind ≡ of_kind.Hash
id_hash of_kind.Hash text e = refl
id_hash of_kind.Delim text e = absurd (no_character text e)
id_hash kind text e = absurd (cc)

char_some : (p : List ℕ) → IsNameChar p → 0 < length p
char_some p (inl o) = omega (arith, ap length o.1)
char_some p (inr (inl u)) = omega (arith, ap length u.whole, length-append u.front u.back, ap length u.first)
char_some p (inr (inr u)) = omega (arith, ap length u.whole, length-append u.front u.back, ap length u.first)

hash_size : (p : List ℕ) → Matches of_kind.Hash p → 1 < length p
hash_size p h =
    let name = h.second in
    omega (arith, ap length h.whole, length-append h.front h.back, ap length h.first, ap length name.whole, length-append name.front name.back, char_some name.front name.first)

full_piece : (t : Token) (letters : List ℕ) → t.text ≡ encode_utf8_all letters → Matches t.kind letters → IsFull t
full_piece t letters e m = record {
  some = let n = some_matches t.kind letters m in omega (arith, encoded letters, ap length e);
  of_id = λ k. let two = hash_size letters (subst (λ x. Matches x letters) (id_hash t.kind t.text k) m) in omega (arith, encoded letters, ap length e);
}

full_tokens : (ts : List Token) (place : ℕ) (text : List ℕ) → ArePieces place text ts → AreFull ts
full_tokens [] place text h = tt
full_tokens (t ∷ ts) place text h = (full_piece t h.0 h.3 h.4.matches, full_tokens ts (place + length t.text) h.1 h.5)

-- ---- their bytes

spoken_bytes : (b : Bool) (t : Token) (ts us : List Token) → bytes us ≤ bytes ts → bytes (cond b us (t ∷ us)) ≤ bytes (t ∷ ts)
spoken_bytes true t ts us h = omega arith
spoken_bytes false t ts us h = omega arith

without_bytes : (ts : List Token) → bytes (without_comments ts) ≤ bytes ts
without_bytes [] = omega arith
without_bytes (t ∷ ts) = spoken_bytes (is_comment t.kind) t ts (without_comments ts) (without_bytes ts)

spoken_full : (b : Bool) (t : Token) (us : List Token) → IsFull t → AreFull us → AreFull (cond b us (t ∷ us))
spoken_full true t us h k = k
spoken_full false t us h k = (h, k)

without_full : (ts : List Token) → AreFull ts → AreFull (without_comments ts)
without_full [] h = tt
without_full (t ∷ ts) h = spoken_full (is_comment t.kind) t (without_comments ts) h.0 (without_full ts h.1)

joined_bytes : (ts : List Token) → length (flat_map (λ (t : Token). t.text) ts) ≡ bytes ts
joined_bytes [] = refl
joined_bytes (t ∷ ts) = length-append t.text (flat_map (λ (t : Token). t.text) ts) ∙ ap (λ n. length t.text + n) (joined_bytes ts)

text_bytes : (text : List ℕ) (ts : List Token) → IsUtf8 text → AreTokens text ts → bytes ts ≡ length text
text_bytes text ts u h = sym (joined_bytes ts) ∙ ap length (pieces_join ts 0 (chars text) h ∙ encodes-chars text u)

-- ---- selectors of a text

countable_by : (n : ℕ) (group : List Selector) → n < 2 ^ 32 → AreWithin n (map spelled group) → AllByRecursion (λ (s : Selector). IsCountable (spelled s)) group
countable_by n [] small h = tt
countable_by n (s ∷ group) small h = (omega (arith, h.0, small), countable_by n group small h.1)

pub are_countable : (text : List ℕ) (group : List Selector) → IsUtf8 text → length text < 2 ^ 32 → IsGroupOf text (map spelled group) → All (λ (s : Selector). IsCountable (spelled s)) group
are_countable text group u small h =
    let ts = h.0 in
    let full = full_tokens ts 0 (chars text) h.1 in
    let within = group_size h.2 (without_full ts full) in
    All-from_recursion (λ (s : Selector). IsCountable (spelled s)) group (countable_by (bytes (without_comments ts)) group (omega (arith, without_bytes ts, text_bytes text ts u h.1, small)) within)

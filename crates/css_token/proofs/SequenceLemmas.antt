-- Tokens one after another.
use Rattle.std.proofs.Common.{◌≡◌, ℕ, zero, suc, ◌+◌, ◌<◌, ◌≤◌, List, [], ◌∷◌, ◌++◌, length, length-append, drop, refl, sym, ◌∙◌, ap, subst, arith}
use Rattle.std.specs.Prelude.{encode_utf8_all}
use Rattle.std.specs.Str.{chars}
use Rattle.std.proofs.lemmas.List.{append_assoc, append-nil, drop-drop}
use Rattle.std.proofs.Math.Seq.{drop-append_seam}
use Rattle.std.proofs.lemmas.Str.{encodes-chars, chars-nil}
use Rattle.css_semantics.specs.Pieces.{Token}
use Rattle.css_semantics.specs.Tokens.{IsToken, ArePieces, AreTokens}
use Rattle.css_semantics.proofs.PieceLemmas.{some_matches}
use Rattle.css_token.specs.steps.Scan.{cut_of}
use Rattle.css_token.proofs.Munch.{munched}

-- the tokens behind a place complete those before it
abbrev pub Goes : List ℕ → List Token → ℕ → Type 0
Goes text found at = (ts : List Token) → ArePieces at (chars (drop at text)) ts → AreTokens text (found ++ ts)

pub token_some : (text : List ℕ) (at : ℕ) (t : Token) → IsToken text at t → 0 < length t.text
token_some text at t is = some_bytes t.text (some_matches t.kind (chars t.text) is.longest.matches)
  where
    some_bytes : (bs : List ℕ) → 0 < length (chars bs) → 0 < length bs
    some_bytes [] h = absurd (omega (arith, ap length chars-nil))
    some_bytes (b ∷ bs) h = omega arith

drop_more : (text front rest : List ℕ) (at : ℕ) → drop at text ≡ front ++ rest → drop (at + length front) text ≡ rest
drop_more text front rest at e = sym (drop-drop (length front) at text) ∙ (ap (drop (length front)) e ∙ drop-append_seam front rest)

one_more : (text : List ℕ) (at : ℕ) (t : Token) (ts : List Token) → IsToken text at t → ArePieces (at + length t.text) (chars (drop (at + length t.text) text)) ts → ArePieces at (chars (drop at text)) (t ∷ ts)
one_more text at t ts is a = (
  chars t.text,
  chars is.rest,
  is.place,
  sym (encodes-chars t.text is.utf8),
  is.longest,
  subst (λ r. ArePieces (at + length t.text) (chars r) ts) (drop_more text t.text is.rest at is.whole) a,
)

pub goes_on : (text : List ℕ) (found : List Token) (at : ℕ) (t : Token) → IsToken text at t → Goes text found at → Goes text (found ++ t ∷ []) (at + length t.text)
goes_on text found at t is goes ts a = subst (AreTokens text) (sym (append_assoc found (t ∷ []) ts)) (goes (t ∷ ts) (one_more text at t ts is a))

pub goes_to_end : (text : List ℕ) (found : List Token) (at : ℕ) → drop at text ≡ [] → Goes text found at → AreTokens text found
goes_to_end text found at end goes = subst (AreTokens text) (append-nil found) (goes [] (ap chars end ∙ chars-nil))

pub goes_first : (text : List ℕ) → Goes text [] 0
goes_first text ts a = a

-- tokens of what is left, where so many characters may still be there
pieces_of : (n : ℕ) (text : List ℕ) (at : ℕ) → length text ≤ n → (tokens : List Token) × ArePieces at text tokens
pieces_of n [] at le = ([], refl)
pieces_of zero (c ∷ cs) at le = absurd (omega arith)
pieces_of (suc n) (c ∷ cs) at le =
    let m = munched c cs in
    let cut = cut_of (c ∷ cs) in
    let some = some_matches cut.0 m.piece m.is.matches in
    let less : length cut.1 ≤ n = omega (arith, ap length m.is.whole, length-append m.piece cut.1) in
    let said = encode_utf8_all m.piece in
    let x = pieces_of n cut.1 (at + length said) less in
    (record { kind = cut.0; at = at; text = said } ∷ x.0, (m.piece, cut.1, refl, refl, m.is, x.1))

pub pieces_exist : (text : List ℕ) → (tokens : List Token) × ArePieces 0 text tokens
pieces_exist text = pieces_of (length text) text 0 (omega arith)

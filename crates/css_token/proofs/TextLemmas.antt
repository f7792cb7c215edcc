-- Pieces of a text by its characters and by its bytes.
use Rattle.std.proofs.Common.{◌≡◌, ℕ, ◌+◌, ◌-◌, ◌<◌, ◌≤◌, List, [], ◌∷◌, ◌++◌, length, length-append, take, drop, sym, ◌∙◌, ap, subst, arith}
use Rattle.std.specs.Str.{IsUtf8, IsCharBoundary, chars}
use Rattle.std.proofs.lemmas.Grind.{common_steps}
use Rattle.std.proofs.lemmas.Str.{encodes-chars, chars_from_encodes, encodes-append, IsCharBoundary-at_seam, IsCharBoundary-from_rest}
use lib.Utf8.{encodes}
use Rattle.viz_base.specs.declared.tokens.TokenKind.{TokenKind}
use Rattle.css_semantics.specs.Pieces.{Token}
use Rattle.css_semantics.specs.Tokens.{IsLongest, IsToken}
use Rattle.css_token.specs.steps.Scan.{cut_of}
use Rattle.css_token.proofs.Munch.{Munched, munched}

-- a text of which the characters end in those of another ends in the other
pub front_and_rest : (text rest piece : List ℕ) → IsUtf8 text → IsUtf8 rest → chars text ≡ piece ++ chars rest → text ≡ encodes piece ++ rest
front_and_rest text rest piece u v e =
    sym (encodes-chars text u) ∙ ap encodes e ∙ encodes-append piece (chars rest) ∙ ap (λ t. encodes piece ++ t) (encodes-chars rest v)

pub no_chars : (text : List ℕ) → IsUtf8 text → chars text ≡ [] → text ≡ []
no_chars text u e = sym (encodes-chars text u) ∙ ap encodes e

taken_front : (text front rest : List ℕ) → text ≡ front ++ rest → take (length text - length rest) text ≡ front
taken_front text front rest e = rw e (let l = length-append front rest in let n : length (front ++ rest) - length rest ≡ length front = omega arith in rw n (grind (arith, common_steps)))

end_is_boundary : (text front rest : List ℕ) (at : ℕ) → at ≤ length text → drop at text ≡ front ++ rest → IsUtf8 rest → IsCharBoundary text (at + length front)
end_is_boundary text front rest at le e u = IsCharBoundary-from_rest text at (length front) le (IsCharBoundary-at_seam (drop at text) front rest e u)

-- what the scanner leaves, seen as the rest behind the longest piece
pub scanned : (text : List ℕ) (kind : TokenKind) (rest : List ℕ) → cut_of text ≡ (kind, rest) → 0 < length text → Munched text (kind, rest)
scanned [] kind rest e some = absurd (omega arith)
scanned (c ∷ cs) kind rest e some = subst (Munched (c ∷ cs)) e (munched c cs)

-- a token from what the scanner leaves of the text behind a place
pub token_by : (text front rest : List ℕ) (at : ℕ) (t : Token) (m : Munched (chars front) (t.kind, chars rest)) → front ≡ drop at text → at ≤ length text → IsUtf8 front → IsUtf8 rest → IsUtf8 t.text → t.at ≡ at → t.text ≡ take (length front - length rest) front → IsToken text at t
token_by text front rest at t m e le u v w place taken =
    let whole = front_and_rest front rest m.piece u v m.is.whole in
    let is_front : t.text ≡ encodes m.piece = taken ∙ taken_front front (encodes m.piece) rest whole in
    let parts : drop at text ≡ t.text ++ rest = sym e ∙ whole ∙ ap (λ p. p ++ rest) (sym is_front) in
    let letters : m.piece ≡ chars t.text = chars_from_encodes m.piece t.text w (sym is_front) in
    record {
      place = place;
      rest = rest;
      whole = parts;
      utf8 = w;
      longest = subst (λ f. IsLongest (chars f) t.kind (chars t.text) (chars rest)) e (subst (λ p. IsLongest (chars front) t.kind p (chars rest)) letters m.is);
      boundary = end_is_boundary text t.text rest at le parts v;
    }

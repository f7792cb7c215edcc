-- Tokens one after another, and where a text may be cut between them.
use Rattle.std.proofs.Common.{◌≡◌, ℕ, ◌+◌, ◌-◌, ◌<◌, ◌≤◌, Bool, true, false, List, [], ◌∷◌, ◌++◌, length, take, drop, get_or, refl, sym, ◌∙◌, ap, subst, arith, codes, append_assoc, length-append}
use Rattle.std.specs.Char.{is_ascii_digit, is_ascii_lowercase}
use Rattle.std.specs.List.{list_all, slice_range}
use Rattle.std.specs.Str.{IsCharBoundary, IsUtf8}
use Rattle.std.proofs.lemmas.Bool.{and_parts}
use Rattle.std.proofs.lemmas.Bool.Decides.{nat_tests}
use Rattle.std.proofs.lemmas.List.{append-nil, drop-drop, drop_all, drop_more, get_or-drop, get_or-take, get_or_at, length-drop, length-take-le, take_at, take_rest}
use Rattle.std.proofs.lemmas.Str.{IsCharBoundary-after_ascii, IsCharBoundary-before_ascii}
use Rattle.viz_base.specs.declared.nodes.Node.{Node}
use Rattle.viz_base.specs.declared.formulas.Sign.{Sign as Comparison}
use Rattle.viz_base.specs.declared.formulas.Sign.TheVariants.{Lt, Le, Eq, Ne, Ge, Gt}
use Rattle.vis_read.specs.declared.lexemes.Lexeme.{Lexeme}
use Rattle.vis_read.specs.declared.lexemes.Token.{Token}
use Rattle.vis_read.specs.declared.pieces.Piece.{Piece}
use Rattle.vis_read.specs.declared.pieces.Piece.TheVariants.{Quoted}
use Rattle.vis_read.specs.Pieces.{IsNumber, IsPiece, is_mark, is_word_byte, sign_text}
use Rattle.vis_read.specs.Tokens.{AreTokens, Means, is_white}
use Rattle.vis_read.specs.steps.Next.{IsCut, IsNext}

-- ---- tokens that are found before a place

pub record Goes (nodes : List Node) (text : List ℕ) (found : List Token) (at : ℕ) : Type 0 where
  pub within : at ≤ length text
  pub further : (ts : List Token) → AreTokens nodes at (drop at text) ts → AreTokens nodes 0 text (found ++ ts)

pub goes_first : (nodes : List Node) (text : List ℕ) → Goes nodes text [] 0
goes_first nodes text = record { within = omega arith; further = λ ts are. are }

-- what stands at a place, and behind it
at_place : (text : List ℕ) (at : ℕ) → at < length text → drop at text ≡ get_or text at 0 ∷ drop (at + 1) text
at_place text at l = drop_more text at 0 l

pub goes_white : {nodes : List Node} {text : List ℕ} {found : List Token} {at : ℕ} → Goes nodes text found at → at < length text → is_white (get_or text at 0) ≡ true → Goes nodes text found (at + 1)
goes_white {nodes = nodes} {text = text} {at = at} g l w = record {
  within = omega arith;
  further = λ ts are. g.further ts (subst (λ xs. AreTokens nodes at xs ts) (sym (at_place text at l)) (AreTokens.white at (get_or text at 0) (drop (at + 1) text) ts w are));
}

next_tokens : {nodes : List Node} {at : ℕ} {rest : List ℕ} {lexeme : Lexeme} {len : ℕ} → IsNext nodes rest lexeme len → (len ≡ 0 → ⊥) → (ts : List Token) → AreTokens nodes (at + len) (drop len rest) ts
    → AreTokens nodes at rest (record { lexeme = lexeme; at = at } ∷ ts)
next_tokens {nodes = nodes} {at = at} {rest = rest} (IsNext.piece kind lexeme len some within longest means) other ts are =
    let same : at + len ≡ at + length (take len rest) = ap (λ n. at + n) (sym (length-take-le len rest within)) in
    AreTokens.next at rest (take len rest) (drop len rest) kind lexeme ts longest means (subst (λ n. AreTokens nodes n (drop len rest) ts) same are)
next_tokens (IsNext.nothing none) other ts are = absurd (other refl)

next_within : {nodes : List Node} {rest : List ℕ} {lexeme : Lexeme} {len : ℕ} → IsNext nodes rest lexeme len → len ≤ length rest
next_within (IsNext.piece kind lexeme len some within longest means) = within
next_within (IsNext.nothing none) = omega arith

pub goes_next : {nodes : List Node} {text : List ℕ} {found : List Token} {at : ℕ} (lexeme : Lexeme) (len : ℕ) → Goes nodes text found at → IsNext nodes (drop at text) lexeme len → (len ≡ 0 → ⊥)
    → Goes nodes text (found ++ record { lexeme = lexeme; at = at } ∷ []) (at + len)
goes_next {nodes = nodes} {text = text} {found = found} {at = at} lexeme len g next other =
    let within = g.within in
    let fits = next_within next in
    let t : Token = record { lexeme = lexeme; at = at } in
    record {
      within = omega (arith, fits, length-drop at text);
      further = λ ts are. subst (AreTokens nodes 0 text) (sym (append_assoc found (t ∷ []) ts))
          (g.further (t ∷ ts) (next_tokens next other ts (subst (λ xs. AreTokens nodes (at + len) xs ts) (sym (drop-drop len at text)) are)));
    }

unknown_last : {nodes : List Node} {at c : ℕ} {rest : List ℕ} {lexeme : Lexeme} {len : ℕ} → IsNext nodes (c ∷ rest) lexeme len → len ≡ 0 → is_white c ≡ false → AreTokens nodes at (c ∷ rest) (record { lexeme = lexeme; at = at } ∷ [])
unknown_last (IsNext.piece kind lexeme len some within longest means) none w = absurd (omega arith)
unknown_last {at = at} {c = c} {rest = rest} (IsNext.nothing begins) none w = AreTokens.unknown at c rest w begins

pub goes_unknown : {nodes : List Node} {text : List ℕ} {found : List Token} {at : ℕ} (lexeme : Lexeme) (len : ℕ) → Goes nodes text found at → at < length text → IsNext nodes (drop at text) lexeme len → len ≡ 0
    → is_white (get_or text at 0) ≡ false → AreTokens nodes 0 text (found ++ record { lexeme = lexeme; at = at } ∷ [])
goes_unknown {nodes = nodes} {text = text} {at = at} lexeme len g l next none w =
    let place = at_place text at l in
    g.further (record { lexeme = lexeme; at = at } ∷ []) (subst (λ xs. AreTokens nodes at xs (record { lexeme = lexeme; at = at } ∷ [])) (sym place)
    (unknown_last (subst (λ xs. IsNext nodes xs lexeme len) place next) none w))

pub goes_end : {nodes : List Node} {text : List ℕ} {found : List Token} {at : ℕ} → Goes nodes text found at → length text ≤ at → AreTokens nodes 0 text found
goes_end {nodes = nodes} {text = text} {found = found} {at = at} g past =
    let none : drop at text ≡ [] = drop_all at text past in
    subst (AreTokens nodes 0 text) (append-nil found) (g.further [] (subst (λ xs. AreTokens nodes at xs []) (sym none) (AreTokens.no_more at)))

-- ---- where a text may be cut

record Ends (piece : List ℕ) : Type 0 where
  some : 1 ≤ length piece
  first : get_or piece 0 0 < 128
  last : get_or piece (length piece - 1) 0 < 128

small_letter : (c : ℕ) → is_word_byte c ≡ true → c < 128
small_letter c h = grind (arith, nat_tests)

small_lower : (c : ℕ) → is_ascii_lowercase c ≡ true → c < 128
small_lower c h = grind (arith, nat_tests)

small_digit : (c : ℕ) → is_ascii_digit c ≡ true → c < 128
small_digit c h = grind (arith, nat_tests)

small_mark : (c : ℕ) → is_mark c ≡ true → c < 128
small_mark c h = grind (arith, nat_tests)

last_small : (p : ℕ → Bool) → ((c : ℕ) → p c ≡ true → c < 128) → (c : ℕ) (cs : List ℕ) → c < 128 → list_all p cs ≡ true → get_or (c ∷ cs) (length cs) 0 < 128
last_small p h c [] small are = small
last_small p h c (d ∷ cs) small are = let parts = and_parts (p d) (list_all p cs) are in last_small p h d cs (h d parts.0) parts.1

-- a first byte, and others
ends_cons : (c : ℕ) (cs : List ℕ) → c < 128 → get_or (c ∷ cs) (length cs) 0 < 128 → Ends (c ∷ cs)
ends_cons c cs first last =
    let place : length cs ≡ length (c ∷ cs) - 1 = omega arith in
    record { some = omega arith; first = first; last = subst (λ n. get_or (c ∷ cs) n 0 < 128) place last }

-- and one behind them
ends_push : (c : ℕ) (cs : List ℕ) (d : ℕ) → c < 128 → d < 128 → Ends (c ∷ (cs ++ d ∷ []))
ends_push c cs d first last =
    let place : get_or (c ∷ (cs ++ d ∷ [])) (length (cs ++ d ∷ [])) 0 ≡ d = get_or_at (c ∷ cs) d [] 0 (length (cs ++ d ∷ [])) (sym (length-append cs (d ∷ []) ∙ omega arith)) in
    ends_cons c (cs ++ d ∷ []) first (subst (λ x. x < 128) (sym place) last)

number_ends : {n : ℕ} {digits : List ℕ} → IsNumber n digits → Ends digits
number_ends IsNumber.zero = ends_cons 48 [] (omega arith) (omega arith)
number_ends (IsNumber.digits c cs d above are most) = ends_cons c cs (small_digit c d) (last_small is_ascii_digit small_digit c cs (small_digit c d) are)

pixels_end : {n : ℕ} {digits : List ℕ} → IsNumber n digits → Ends (digits ++ codes "px")
pixels_end IsNumber.zero = ends_cons 48 (codes "px") (omega arith) (omega arith)
pixels_end (IsNumber.digits c cs d above are most) = subst (λ xs. Ends (c ∷ xs)) (append_assoc cs (112 ∷ []) (120 ∷ [])) (ends_push c (cs ++ 112 ∷ []) 120 (small_digit c d) (omega arith))

sign_ends : (s : Comparison) → Ends (sign_text s)
sign_ends Lt = ends_cons 60 [] (omega arith) (omega arith)
sign_ends Le = ends_cons 60 (61 ∷ []) (omega arith) (omega arith)
sign_ends Eq = ends_cons 61 [] (omega arith) (omega arith)
sign_ends Ne = ends_cons 33 (61 ∷ []) (omega arith) (omega arith)
sign_ends Ge = ends_cons 62 (61 ∷ []) (omega arith) (omega arith)
sign_ends Gt = ends_cons 62 [] (omega arith) (omega arith)

ends : {kind : Piece} {piece : List ℕ} → IsPiece kind piece → Ends piece
ends (IsPiece.word c cs l h) = ends_cons c cs (small_lower c l) (last_small is_word_byte small_letter c cs (small_lower c l) h)
ends (IsPiece.number n ds is) = number_ends is
ends (IsPiece.pixels n ds is) = pixels_end is
ends (IsPiece.quoted inside h) = ends_push 34 inside 34 (omega arith) (omega arith)
ends (IsPiece.sign s) = sign_ends s
ends (IsPiece.mark c h) = ends_cons c [] (small_mark c h) (small_mark c h)

-- a text may be cut before and behind a piece
pub cuts : {kind : Piece} (text : List ℕ) (at len : ℕ) → IsUtf8 text → len ≤ length (drop at text) → IsPiece kind (take len (drop at text)) → IsCharBoundary text at × IsCharBoundary text (at + len)
cuts text at len utf8 within is =
    let piece = take len (drop at text) in
    let e = ends is in
    let some = e.some in
    let count : length piece ≡ len = length-take-le len (drop at text) within in
    let left = length-drop at text in
    let read : (k : ℕ) → k < len → get_or piece k 0 ≡ get_or text (at + k) 0 = λ k l. get_or-take len (drop at text) k 0 l ∙ get_or-drop at text k 0 in
    let first : get_or text at 0 < 128 = subst (λ x. x < 128) (read 0 (omega arith) ∙ ap (λ n. get_or text n 0) (omega arith)) e.first in
    let back : at + (length piece - 1) + 1 ≡ at + len = omega (arith, count) in
    let last : get_or text (at + (length piece - 1)) 0 < 128 = subst (λ x. x < 128) (read (length piece - 1) (omega (arith, count))) e.last in (
      IsCharBoundary-before_ascii text at (omega (arith, left)) first,
      subst (IsCharBoundary text) back (IsCharBoundary-after_ascii text (at + (length piece - 1)) utf8 (omega (arith, count, left)) last),
    )

-- what stands between the quotes of a string
pub record Inside (piece : List ℕ) : Type 0 where
  pub inside : List ℕ
  pub whole : piece ≡ 34 ∷ (inside ++ 34 ∷ [])

pub inside_of : {kind : Piece} {piece : List ℕ} → IsPiece kind piece → kind ≡ Quoted → Inside piece
inside_of (IsPiece.word c cs l h) e = cc
inside_of (IsPiece.number n ds is) e = cc
inside_of (IsPiece.pixels n ds is) e = cc
inside_of (IsPiece.quoted inside h) e = record { inside = inside; whole = refl }
inside_of (IsPiece.sign s) e = cc
inside_of (IsPiece.mark c h) e = cc

-- where a string may be cut, and what is between
pub record Quotes (piece : List ℕ) : Type 0 where
  pub long : 2 ≤ length piece
  pub first : IsCharBoundary piece 1
  pub last : IsCharBoundary piece (length piece - 1)
  pub inside : List ℕ
  pub whole : piece ≡ 34 ∷ (inside ++ 34 ∷ [])
  pub between : slice_range piece 1 (length piece - 1) ≡ inside

quotes_at : (inside : List ℕ) → IsUtf8 (34 ∷ (inside ++ 34 ∷ [])) → Quotes (34 ∷ (inside ++ 34 ∷ []))
quotes_at inside utf8 =
    let piece = 34 ∷ (inside ++ 34 ∷ []) in
    let len : length piece ≡ length inside + 2 = omega (arith, length-append inside (34 ∷ [])) in
    let back : length piece - 1 ≡ length (34 ∷ inside) = omega (arith, len) in
    let quote : get_or piece (length piece - 1) 0 ≡ 34 = get_or_at (34 ∷ inside) 34 [] 0 (length piece - 1) (sym back) in
    let count : length piece - 1 - 1 ≡ length inside = omega (arith, len) in
    record {
      long = omega (arith, len);
      first = IsCharBoundary-after_ascii piece 0 utf8 (omega arith) (omega arith);
      last = IsCharBoundary-before_ascii piece (length piece - 1) (omega arith) (subst (λ x. x < 128) (sym quote) (omega arith));
      inside = inside;
      whole = refl;
      between = ap (λ n. take n (inside ++ 34 ∷ [])) count ∙ take_at inside (34 ∷ []) (length inside) refl;
    }

pub quotes : {kind : Piece} {piece : List ℕ} → IsPiece kind piece → kind ≡ Quoted → IsUtf8 piece → Quotes piece
quotes is e utf8 = let i = inside_of is e in subst Quotes (sym i.whole) (quotes_at i.inside (subst IsUtf8 i.whole utf8))

-- what is read of a text at a place, and behind it
pub read_at : (bytes text : List ℕ) (at : ℕ) → bytes ≡ text → at < length text → get_or bytes at 0 ∷ slice_range bytes (at + 1) (length bytes) ≡ drop at text
read_at bytes text at same l = ap (λ bs. get_or bs at 0 ∷ slice_range bs (at + 1) (length bs)) same ∙ (ap (λ xs. get_or text at 0 ∷ xs) (take_rest text (at + 1)) ∙ sym (at_place text at l))

pub cut_next : (nodes : List Node) (text : List ℕ) (kind : Piece) (lexeme : Lexeme) (len : ℕ) → IsCut text (kind, len) → Means nodes kind (take len text) lexeme → IsNext nodes text lexeme len
cut_next nodes text kind lexeme len cut means =
    let some = (ends cut.1.is).some in
    IsNext.piece kind lexeme len (omega (arith, some, length-take-le len text cut.0)) cut.0 cut.1 means

pub slice_at : (text : List ℕ) (at len : ℕ) → slice_range text at (at + len) ≡ take len (drop at text)
slice_at text at len = let count : at + len - at ≡ len = omega arith in ap (λ n. take n (drop at text)) count

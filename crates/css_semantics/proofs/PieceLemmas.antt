-- No text has two lists of pieces, and the pieces of a text join to it.
use Rattle.std.proofs.Common.{◌≡◌, ℕ, ◌+◌, ◌==◌, ◌<◌, List, [], ◌∷◌, ◌++◌, length, length-append, refl, sym, ◌∙◌, ap, subst, inl, inr, arith, if◌then◌else◌}
use Rattle.std.specs.Prelude.{encode_utf8_all, flat_map}
use Rattle.std.proofs.lemmas.Str.{encodes-append}
use Rattle.viz_base.specs.declared.tokens.TokenKind.{TokenKind}
use Rattle.viz_base.specs.declared.tokens.TokenKind.TheVariants.{Ident, AtKeyword, Str, BadString, BadUri, BadComment, Hash, Number, Percentage, Dimension, Uri, UnicodeRange, Cdo, Cdc, Colon, Semicolon, LeftBrace, RightBrace, LeftParen, RightParen, LeftBracket, RightBracket, Space, Comment, Function, Includes, DashMatch, Delim}
use Rattle.css_semantics.specs.TokensMacros.{Then, IsEscape, IsStart, IsIdent, IsNum, IsString, IsBadString}
use Rattle.css_semantics.specs.TokensTable.{Matches, row_of, IsUrlOpening}
use Rattle.css_semantics.specs.Pieces.{Token}
use Rattle.css_semantics.specs.Tokens.{IsLongest, ArePieces}

-- ---- no kind has the empty piece

long_first : (A B : List ℕ → Type 0) (p : List ℕ) (t : Then A B p) → 0 < length t.front → 0 < length p
long_first A B p t h = omega (arith, ap length t.whole, length-append t.front t.back)

long_second : (A B : List ℕ → Type 0) (p : List ℕ) (t : Then A B p) → 0 < length t.back → 0 < length p
long_second A B p t h = omega (arith, ap length t.whole, length-append t.front t.back)

mark_long : (c : ℕ) (p : List ℕ) → p ≡ c ∷ [] → 0 < length p
mark_long c p e = rw e (omega arith)

escape_long : (p : List ℕ) → IsEscape p → 0 < length p
escape_long p (inl e) = long_first _ _ p e (mark_long 92 e.front e.first)
escape_long p (inr e) = long_first _ _ p e (mark_long 92 e.front e.first)

start_long : (p : List ℕ) → IsStart p → 0 < length p
start_long p (inl o) = mark_long o.0 p o.1
start_long p (inr e) = escape_long p e

ident_long : (p : List ℕ) → IsIdent p → 0 < length p
ident_long p i = long_second _ _ p i (long_first _ _ i.back i.second (start_long i.second.front i.second.first))

num_long : (p : List ℕ) → IsNum p → 0 < length p
num_long p (inl s) = s.0
num_long p (inr n) = long_second _ _ p n (long_first _ _ n.back n.second (mark_long 46 n.second.front n.second.first))

string_long : (p : List ℕ) → IsString p → 0 < length p
string_long p (inl s) = long_first _ _ p s (mark_long 34 s.front s.first)
string_long p (inr s) = long_first _ _ p s (mark_long 39 s.front s.first)

bad_string_long : (p : List ℕ) → IsBadString p → 0 < length p
bad_string_long p (inl s) = long_first _ _ p s (mark_long 34 s.front s.first)
bad_string_long p (inr s) = long_first _ _ p s (mark_long 39 s.front s.first)

opening_long : (p : List ℕ) → IsUrlOpening p → 0 < length p
opening_long p o = long_first _ _ p o (mark_long o.first.0 o.front o.first.1)

pub some_matches : (k : TokenKind) (p : List ℕ) → Matches k p → 0 < length p
some_matches Ident p m = ident_long p m
some_matches AtKeyword p m = long_first _ _ p m (mark_long 64 m.front m.first)
some_matches Str p m = string_long p m
some_matches BadString p m = bad_string_long p m
some_matches BadUri p m = long_first _ _ p m (opening_long m.front m.first)
some_matches BadComment p m = long_first _ _ p m (rw m.first (omega arith))
some_matches Hash p m = long_first _ _ p m (mark_long 35 m.front m.first)
some_matches Number p m = num_long p m
some_matches Percentage p m = long_first _ _ p m (num_long m.front m.first)
some_matches Dimension p m = long_first _ _ p m (num_long m.front m.first)
some_matches Uri p m = long_first _ _ p m (opening_long m.front m.first)
some_matches UnicodeRange p m = long_first _ _ p m (mark_long m.first.0 m.front m.first.1)
some_matches Cdo p m = rw m (omega arith)
some_matches Cdc p m = rw m (omega arith)
some_matches Colon p m = mark_long 58 p m
some_matches Semicolon p m = mark_long 59 p m
some_matches LeftBrace p m = mark_long 123 p m
some_matches RightBrace p m = mark_long 125 p m
some_matches LeftParen p m = mark_long 40 p m
some_matches RightParen p m = mark_long 41 p m
some_matches LeftBracket p m = mark_long 91 p m
some_matches RightBracket p m = mark_long 93 p m
some_matches Space p m = m.0
some_matches Comment p m = long_first _ _ p m (rw m.first (omega arith))
some_matches Function p m = long_first _ _ p m (ident_long m.front m.first)
some_matches Includes p m = rw m (omega arith)
some_matches DashMatch p m = rw m (omega arith)
some_matches Delim p m = omega (arith, m)

-- ---- a row of the table has one kind

kind_at : ℕ → TokenKind
kind_at n = if n == 0 then Ident else (if n == 1 then AtKeyword else (if n == 2 then Str else (if n == 3 then BadString else (if n == 4 then BadUri else (if n == 5 then BadComment else (if n == 6 then Hash else (if n == 7 then Number else (if n == 8 then Percentage else (if n == 9 then Dimension else (if n == 10 then Uri else (if n == 11 then UnicodeRange else (if n == 12 then Cdo else (if n == 13 then Cdc else (if n == 14 then Colon else (if n == 15 then Semicolon else (if n == 16 then LeftBrace else (if n == 17 then RightBrace else (if n == 18 then LeftParen else (if n == 19 then RightParen else (if n == 20 then LeftBracket else (if n == 21 then RightBracket else (if n == 22 then Space else (if n == 23 then Comment else (if n == 24 then Function else (if n == 25 then Includes else (if n == 26 then DashMatch else (Delim)))))))))))))))))))))))))))

kind_back : (k : TokenKind) → kind_at (row_of k) ≡ k
unfolding kind_at
kind_back Ident = refl
kind_back AtKeyword = refl
kind_back Str = refl
kind_back BadString = refl
kind_back BadUri = refl
kind_back BadComment = refl
kind_back Hash = refl
kind_back Number = refl
kind_back Percentage = refl
kind_back Dimension = refl
kind_back Uri = refl
kind_back UnicodeRange = refl
kind_back Cdo = refl
kind_back Cdc = refl
kind_back Colon = refl
kind_back Semicolon = refl
kind_back LeftBrace = refl
kind_back RightBrace = refl
kind_back LeftParen = refl
kind_back RightParen = refl
kind_back LeftBracket = refl
kind_back RightBracket = refl
kind_back Space = refl
kind_back Comment = refl
kind_back Function = refl
kind_back Includes = refl
kind_back DashMatch = refl
kind_back Delim = refl

same_row : (j k : TokenKind) → row_of j ≡ row_of k → j ≡ k
same_row j k e = sym (kind_back j) ∙ (ap kind_at e ∙ kind_back k)

-- ---- fronts of one length

pub same_fronts : (p q r s : List ℕ) → p ++ r ≡ q ++ s → length p ≡ length q → (p ≡ q) × (r ≡ s)
same_fronts [] [] r s e n = (refl, e)
same_fronts [] (d ∷ q) r s e n = absurd (omega arith)
same_fronts (c ∷ p) [] r s e n = absurd (omega arith)
same_fronts (c ∷ p) (d ∷ q) r s e n =
    let head : c ≡ d = heads c d (p ++ r) (q ++ s) e in
    let x = same_fronts p q r s (tails c d (p ++ r) (q ++ s) e) (omega arith) in
    (ap (λ y. y ∷ p) head ∙ ap (λ t. d ∷ t) x.0, x.1)
  where
    heads : (c d : ℕ) (p q : List ℕ) → c ∷ p ≡ d ∷ q → c ≡ d
    heads c d p q e = cc

    tails : (c d : ℕ) (p q : List ℕ) → c ∷ p ≡ d ∷ q → p ≡ q
    tails c d p q e = cc

-- the longest piece is one
longest_same : (text : List ℕ) (j k : TokenKind) (p r q s : List ℕ) → IsLongest text j p r → IsLongest text k q s → (j ≡ k) × ((p ≡ q) × (r ≡ s))
longest_same text j k p r q s a b =
    let le = a.longest k q s b.whole b.matches in
    let ge = b.longest j p r a.whole a.matches in
    let fronts = same_fronts p q r s (sym a.whole ∙ b.whole) (omega arith) in
    let below = a.earliest k (subst (Matches k) (sym fronts.0) b.matches) in
    let above = b.earliest j (subst (Matches j) fronts.0 a.matches) in
    (same_row j k (omega arith), fronts)

-- ---- lists of pieces

piece_same : (p q : Token) → p.kind ≡ q.kind → p.at ≡ q.at → p.text ≡ q.text → p ≡ q
piece_same p q kind at bytes =
    let made : TokenKind → ℕ → List ℕ → Token = λ k a b. record { kind = k; at = a; text = b } in
    ap (λ k. made k p.at p.text) kind ∙ (ap (λ a. made q.kind a p.text) at ∙ ap (λ b. made q.kind q.at b) bytes)

nothing_left : (at : ℕ) (p : Token) (ps : List Token) → ArePieces at [] (p ∷ ps) → ⊥
nothing_left at p ps a =
    let long = some_matches p.kind a.0 a.4.matches in
    omega (arith, ap length a.4.whole, length-append a.0 a.1)

pub pieces_same : (first second : List Token) (at : ℕ) (text : List ℕ) → ArePieces at text first → ArePieces at text second → first ≡ second
pieces_same [] [] at text a b = refl
pieces_same [] (q ∷ qs) at text a b = absurd (nothing_left at q qs (subst (λ t. ArePieces at t (q ∷ qs)) a b))
pieces_same (p ∷ ps) [] at text a b = absurd (nothing_left at p ps (subst (λ t. ArePieces at t (p ∷ ps)) b a))
pieces_same (p ∷ ps) (q ∷ qs) at text a b =
    let x = longest_same text p.kind q.kind a.0 a.1 b.0 b.1 a.4 b.4 in
    let bytes : p.text ≡ q.text = a.3 ∙ (ap encode_utf8_all x.1.0 ∙ sym b.3) in
    let same : p ≡ q = piece_same p q x.0 (a.2 ∙ sym b.2) bytes in
    let rest : ps ≡ qs = pieces_same ps qs (at + length p.text) a.1 a.5 (subst (λ r. ArePieces (at + length p.text) r qs) (sym x.1.1) (subst (λ n. ArePieces (at + n) b.1 qs) (sym (ap length bytes)) b.5)) in
    ap (λ y. y ∷ ps) same ∙ ap (λ ys. q ∷ ys) rest

pub pieces_join : (pieces : List Token) (at : ℕ) (text : List ℕ) → ArePieces at text pieces → flat_map (λ (p : Token). p.text) pieces ≡ encode_utf8_all text
pieces_join [] at text a = sym (ap encode_utf8_all a)
pieces_join (p ∷ ps) at text a =
    ap (λ b. b ++ flat_map (λ (p : Token). p.text) ps) a.3
    ∙ (ap (λ t. encode_utf8_all a.0 ++ t) (pieces_join ps (at + length p.text) a.1 a.5) ∙ (sym (encodes-append a.0 a.1) ∙ ap encode_utf8_all (sym a.4.whole)))

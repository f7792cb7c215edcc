-- The piece that the scanner takes is the longest that some kind has, and of the first such kind.
use Rattle.std.proofs.Common.{◌≡◌, ℕ, ◌<◌, ◌≤◌, List, [], ◌∷◌, length, Some, refl, sym, ◌∙◌, subst, inl, inr, arith}
use Rattle.std.proofs.lemmas.Option.{same_Some}
use Rattle.viz_base.specs.declared.tokens.TokenKind.{TokenKind}
use Rattle.viz_base.specs.declared.tokens.TokenKind.TheVariants.{Ident, AtKeyword, Str, BadString, BadUri, BadComment, Hash, Number, Percentage, Dimension, Uri, UnicodeRange, Cdo, Cdc, Colon, Semicolon, LeftBrace, RightBrace, LeftParen, RightParen, LeftBracket, RightBracket, Space, Comment, Function, Includes, DashMatch, Delim}
use Rattle.css_semantics.specs.TokensTable.{row_of}
use Rattle.css_semantics.specs.Tokens.{IsLongest}
use Rattle.css_token.specs.declared.states.State.TheVariants.{Begin}
use Rattle.css_token.specs.steps.Scan.{Cut, cut_of}
use Rattle.css_token.proofs.Reading.{reads, Taken, Kept, outcome, no_kind}
use Rattle.css_token.proofs.Forward.{reached}
use Rattle.css_token.proofs.Table.{found}

row_last : (k : TokenKind) → row_of k ≤ 27
row_last Ident = omega arith
row_last AtKeyword = omega arith
row_last Str = omega arith
row_last BadString = omega arith
row_last BadUri = omega arith
row_last BadComment = omega arith
row_last Hash = omega arith
row_last Number = omega arith
row_last Percentage = omega arith
row_last Dimension = omega arith
row_last Uri = omega arith
row_last UnicodeRange = omega arith
row_last Cdo = omega arith
row_last Cdc = omega arith
row_last Colon = omega arith
row_last Semicolon = omega arith
row_last LeftBrace = omega arith
row_last RightBrace = omega arith
row_last LeftParen = omega arith
row_last RightParen = omega arith
row_last LeftBracket = omega arith
row_last RightBracket = omega arith
row_last Space = omega arith
row_last Comment = omega arith
row_last Function = omega arith
row_last Includes = omega arith
row_last DashMatch = omega arith
row_last Delim = omega arith

-- what is read is not empty
some_piece : (p : List ℕ) (k : TokenKind) → reads Begin p ≡ Some k → 0 < length p
some_piece [] k h = absurd (no_kind k h)
some_piece (c ∷ p) k h = omega arith

-- the piece that is taken
pub record Munched (text : List ℕ) (cut : Cut) : Type 0 where
  pub piece : List ℕ
  pub is : IsLongest text cut.0 piece cut.1

taken_munch : (text : List ℕ) (cut : Cut) → Taken Begin text cut → Munched text cut
taken_munch text cut t = record {
  piece = t.piece;
  is = record {
    whole = t.whole;
    matches = found t.piece cut.0 t.is;
    longest = λ other p r e m.
        elim (reached other p m) [
          | inl one ↦ let some = some_piece t.piece cut.0 t.is in omega (arith, one.0)
          | inr x ↦ t.furthest p r x.0 e x.1
        ];
    earliest = λ other m.
        elim (reached other t.piece m) [
          | inl one ↦ omega (arith, one.1, row_last cut.0)
          | inr x ↦ let same : x.0 ≡ cut.0 = same_Some x.0 cut.0 (sym x.1 ∙ t.is) in subst (λ k. row_of k ≤ row_of other) same x.2
        ];
  };
}

-- any other single character
single_munch : (c : ℕ) (cs : List ℕ) (cut : Cut) → Kept Begin (c ∷ cs) (Delim, cs) cut → Munched (c ∷ cs) cut
single_munch c cs cut t = subst (Munched (c ∷ cs)) (sym t.same) (record {
  piece = c ∷ [];
  is = record {
    whole = refl;
    matches = refl;
    longest = λ other p r e m.
        elim (reached other p m) [
          | inl one ↦ omega (arith, one.0)
          | inr x ↦ let zero = t.none p r x.0 e x.1 in omega arith
        ];
    earliest = λ other m.
        elim (reached other (c ∷ []) m) [
          | inl one ↦ omega (arith, one.1)
          | inr x ↦ let zero : length (c ∷ []) ≡ 0 = t.none (c ∷ []) cs x.0 refl x.1 in absurd (omega arith)
        ];
  };
})

pub munched : (c : ℕ) (cs : List ℕ) → Munched (c ∷ cs) (cut_of (c ∷ cs))
munched c cs =
    elim (outcome (c ∷ cs) Begin (Delim, cs)) [
      | inl t ↦ taken_munch (c ∷ cs) (cut_of (c ∷ cs)) t
      | inr t ↦ single_munch c cs (cut_of (c ∷ cs)) t
    ]

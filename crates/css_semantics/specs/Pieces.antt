-- What a token is apart from where it lies in memory: its kind, the place of its first byte, its bytes.
use Rattle.std.specs.Prelude.{ℕ, List}
use Rattle.viz_base.specs.declared.tokens.TokenKind.{TokenKind}

pub record Token : Type 0 where
  pub kind : TokenKind
  pub at : ℕ
  pub text : List ℕ

-- Stretches of tokens (CSS 2.1, 4.1.1, 4.1.6 and 4.2): each is the shortest that ends where its rule says with all pairs
-- of brackets matched. Of them blocks, at-rules and lists of items are made.
use Rattle.std.specs.Prelude.{◌≡◌, ◌≤◌, Bool, true, false, ◌⊎◌, List, [], ◌∷◌, ◌++◌, length, drop, Option, Some, None}
use Rattle.css_semantics.specs.Pieces.{Token}
use Rattle.viz_base.specs.declared.tokens.TokenKind.{TokenKind}
use Rattle.css_semantics.specs.SheetsMarks.{closing_mark, is_mark, is_left_brace, ends_prelude, ends_block}

-- ---- stretches

abbrev pub is_awaited : Option TokenKind → TokenKind → Bool
is_awaited None kind = false
is_awaited (Some mark) kind = is_mark mark kind

-- Tokens in which all pairs are matched: what opens a pair stands with its own closing
-- mark and with what is between them. Within a pair its closing mark ends it, and any
-- other closing mark stands for itself, as each does outside all pairs.
pub data Paired : Option TokenKind → List Token → Type 0 where
  nothing : {within : Option TokenKind} → Paired within []
  single : {within : Option TokenKind} {t : Token} {ts : List Token}
      → closing_mark t.kind ≡ None
      → is_awaited within t.kind ≡ false
      → Paired within ts
      → Paired within (t ∷ ts)
  pair : {within : Option TokenKind} {opener : Token} {ts : List Token}
      → (mark : TokenKind) (inner : List Token) (close : Token) (rest : List Token)
      → ts ≡ inner ++ close ∷ rest
      → closing_mark opener.kind ≡ Some mark
      → Paired (Some mark) inner
      → is_mark mark close.kind ≡ true
      → Paired within rest
      → Paired within (opener ∷ ts)

-- the rest begins with a token that ends the stretch, and all pairs before it are matched
pub record EndsAt (stop : Token → Bool) (front rest : List Token) : Type 0 where
  pub at : Token
  pub after : List Token
  pub is : rest ≡ at ∷ after
  pub matched : Paired None front
  pub stops : stop at ≡ true

-- The shortest front of the tokens with all pairs matched behind which a token stands that ends it; where
-- there is none, the end of the text closes what is open, and all the tokens are the stretch.
pub record IsStretch (stop : Token → Bool) (ts front rest : List Token) : Type 0 where
  pub whole : ts ≡ front ++ rest
  pub ends : (rest ≡ []) ⊎ EndsAt stop front rest
  pub shortest : (p : List Token) (t : Token) (r : List Token)
      → ts ≡ p ++ t ∷ r
      → Paired None p
      → stop t ≡ true
      → length front ≤ length p

-- what stands in the block whose `{` is before the tokens, and what follows its `}`
pub record IsBlock (ts block rest : List Token) : Type 0 where
  pub closing : List Token
  pub stretch : IsStretch ends_block ts block closing
  pub past : rest ≡ drop 1 closing

-- An at-rule behind its prelude: the text ends, or a `;` comes, or a block.
pub data IsBody : List Token → List Token → List Token → Type 0 where
  at_end : IsBody [] [] []
  at_semicolon : {t : Token} {ts : List Token} → is_left_brace t.kind ≡ false → IsBody (t ∷ ts) [] ts
  at_block : {t : Token} {ts block rest : List Token}
      → is_left_brace t.kind ≡ true
      → IsBlock ts block rest
      → IsBody (t ∷ ts) block rest

-- An at-rule behind its keyword: its prelude, what stands in its block if it has one, and what follows it.
pub record IsAtRule (ts prelude block rest : List Token) : Type 0 where
  pub body : List Token
  pub stretch : IsStretch ends_prelude ts prelude body
  pub rule : IsBody body block rest

-- ---- one item after another

-- The tokens are items, one after another, and these are what they give, joined. One item is what `One` takes from the
-- front of the tokens, with what it gives and the rest.
pub data Listed {A : Type 0} (One : List Token → List A → List Token → Type 0) : List Token → List A → Type 0 where
  done : Listed One [] []
  more : {t : Token} {ts rest : List Token} {xs ys : List A}
      → One (t ∷ ts) xs rest
      → Listed One rest ys
      → Listed One (t ∷ ts) (xs ++ ys)

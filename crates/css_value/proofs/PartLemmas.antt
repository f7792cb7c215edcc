-- Parts of a value.
use Rattle.std.proofs.Common.{◌≡◌, ℕ, ℤ, Bool, true, List, [], ◌∷◌, Option, Some, None, refl}
use Rattle.std.specs.Option.{option_map}
use Rattle.std.specs.Str.{chars}
use Rattle.css_semantics.specs.Pieces.{Token}
use Rattle.viz_base.specs.declared.tokens.TokenKind.{TokenKind}
use Rattle.css_semantics.specs.SheetsMarks.{closing_mark}
use Rattle.css_semantics.specs.SheetsReading.{is_none, stretch_len}
use Rattle.css_semantics.specs.ValuesParts.{amount_in, after_opener, after_part, after_sign, bracket_len, counted, is_sign, signed, unit_of}
use Rattle.css_semantics.proofs.Gathering.{IsTail, HasTails, tail_all}
use Rattle.css_semantics.proofs.Tails.{tail_if, tail_sign}

opener_tail : (o : Option TokenKind) (t : Token) (ts : List Token) → IsTail (after_opener o t ts) ts
opener_tail (Some mark) t ts = (bracket_len mark ts, refl)
opener_tail None t ts = tail_if (is_sign t) (after_sign ts) ts ts (λ _. tail_sign ts) (λ _. tail_all ts)

-- what follows a part is an end of the tokens behind its first
pub part_tails : HasTails after_part
part_tails t ts = opener_tail (closing_mark t.kind) t ts

pub stretch_none : (marks : List TokenKind) (ts : List Token) → is_none marks ≡ true → stretch_len (λ t. true) marks ts ≡ 0
stretch_none [] [] e = refl
stretch_none [] (t ∷ ts) e = refl
stretch_none (m ∷ ms) ts e = cc

pub counted_some : (negative : Bool) (t : Token) (o : Option ℕ) (n : ℤ) → option_map (signed negative) o ≡ Some n → counted negative t o ≡ amount_in t.kind n (unit_of (chars t.text))
counted_some negative t None n e = cc
counted_some negative t (Some m) n e = cc

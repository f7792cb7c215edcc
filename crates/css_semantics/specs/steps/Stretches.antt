-- What stands in a stretch of tokens and behind it, computed.
use Rattle.std.specs.Prelude.{Bool, List, [], take, drop}
use Rattle.css_semantics.specs.Pieces.{Token}
use Rattle.css_semantics.specs.SheetsReading.{stretch_len}

abbrev pub front : (Token → Bool) → List Token → List Token
front stop ts = take (stretch_len stop [] ts) ts

abbrev pub behind : (Token → Bool) → List Token → List Token
behind stop ts = drop (stretch_len stop [] ts) ts

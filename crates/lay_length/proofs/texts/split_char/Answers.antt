use Rattle.std.proofs.Common.{sym, ◌∙◌, ◌≡◌, ◌++◌, arith, ap, length, length-append}
use Rattle.std.proofs.lemmas.Str.{chars_past_char, length-encode, len_utf8_bounds}
use Rattle.std.specs.Char.{encode_utf8}
use Rattle.lay_length.proofs.texts.split_char.Goals as goal

pub returns : goal.returns
returns c =
    let first = c.in_ok-first.first in
    let parts : c.args.text.now ≡ encode_utf8 first ++ c.as_str.result.now = rw c.as_str.ensures (sym c.chars-chars.ensures.rest ∙ c.in_ok-first.ensures.steps.0) in
    record {
      letters = chars_past_char c.args.text.now c.as_str.result.now first c.utf8.text parts;
      shorter = omega (arith, ap length parts, length-append (encode_utf8 first) c.as_str.result.now, length-encode first, len_utf8_bounds first);
      is_text = c.as_str.utf8;
    }

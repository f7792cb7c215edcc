use Rattle.std.proofs.Common.{◌≡◌, ◌+◌, length, sum_by}
use Rattle.std.specs.Str.{IsUtf8, chars}
use Rattle.viz_base.specs.FontSizes.{advance}
use Rattle.lay_length.proofs.texts.advances_of.Given as goal

-- the advances so far and those of what is left are all
abbrev pub invariant-loop-letter : goal.invariant-loop-letter
invariant-loop-letter l = record {
  all : l.units + sum_by (advance l.font) (chars l.rest) ≡ sum_by (advance l.fn.font) (chars l.fn.text);
  is_text : IsUtf8 l.rest;
}

abbrev pub decreases-loop-letter : goal.decreases-loop-letter
decreases-loop-letter l = length l.rest

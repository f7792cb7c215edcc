use Rattle.std.proofs.Common.{◌≡◌, ◌≤◌, ◌+◌, ◌*◌, drop, sum_by}
use Rattle.viz_base.specs.FontSizes.{advance}
use Rattle.page_boxes.proofs.words.units_of.Given as goal

-- the advances so far and those of what is left are all
abbrev pub invariant-loop-letter : goal.invariant-loop-letter
invariant-loop-letter l = record {
  all : l.units + sum_by (advance l.font) (drop l.letter-index l.letters) ≡ sum_by (advance l.font) l.letters;
  most : l.units ≤ 4294967295 * l.letter-index;
}

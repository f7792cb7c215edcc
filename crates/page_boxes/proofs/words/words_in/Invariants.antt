use Rattle.std.proofs.Common.{◌≡◌, ◌++◌, drop, map}
use Rattle.std.specs.Option.{option_copied}
use Rattle.viz_base.specs.Words.{word_in}
use Rattle.page_boxes.proofs.words.words_in.Given as goal

abbrev pub invariant-loop-part : goal.invariant-loop-part
invariant-loop-part l =
    l.words ++ map (word_in (option_copied l.font)) (map (λ part. part.now) (drop l.part-index l.part-items))
    ≡ map (word_in (option_copied l.font)) (map (λ part. part.now) l.part-items)

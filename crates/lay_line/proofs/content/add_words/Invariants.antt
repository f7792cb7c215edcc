use Rattle.std.proofs.Common.{◌≡◌, ◌++◌, drop, flat_map}
use Rattle.lay_line.specs.Items.{summed_of}
use Rattle.lay_line.specs.steps.Content.{behind_space}
use Rattle.lay_line.proofs.content.add_words.Given as goal

abbrev pub invariant-loop-word : goal.invariant-loop-word
invariant-loop-word l =
    summed_of l.items.items ++ flat_map (behind_space l.at) (drop l.word-index l.words)
    ≡ summed_of l.initial.items.items ++ flat_map (behind_space l.at) l.words

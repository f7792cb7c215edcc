use Rattle.std.proofs.Common.{◌≡◌, ◌++◌, drop, map}
use Rattle.std.specs.Str.{chars}
use Rattle.viz_base.specs.Words.{font_in, words_in}
use Rattle.viz_base.specs.declared.trees.BoxNode.{BoxNode}
use Rattle.page_boxes.proofs.words.words_of.Given as goal

abbrev pub invariant-loop-inner : goal.invariant-loop-inner
invariant-loop-inner l =
    l.words ++ map (λ (b : BoxNode). words_in (font_in l.styles l.fonts b.node) (chars b.chars)) (drop l.inner-index l.boxes)
    ≡ map (λ (b : BoxNode). words_in (font_in l.styles l.fonts b.node) (chars b.chars)) l.boxes

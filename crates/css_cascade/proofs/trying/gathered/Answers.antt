use Rattle.css_cascade.proofs.Standing.{bucket_in, gathered_all, numbers_end}
use Rattle.css_cascade.proofs.trying.gathered.Goals as goal

pub returns : goal.returns
returns c =
    gathered_all c.args.buckets.now c.args.element.now c.in_ok-words.words.items c.loop-word.numbers.items
    (numbers_end (bucket_in c.args.buckets.now.named.items) _ _ _ _ c.loop-word.word-index c.loop-word-test.false c.loop-word.invariant c.deref-word-items.ensures.value)
    c.in_ok-words.ensures

use Rattle.std.proofs.Common.{◌≡◌, ◌≤◌, ℕ, List, [], get_or, length, map, ap, ◌∙◌, arith}
use Rattle.std.specs.List.{slice_split}
use Rattle.viz_base.specs.Words.{is_space}
use denote.Ref.{Bor}
use Rattle.page_boxes.proofs.WordSteps.{part-short}
use Rattle.page_boxes.proofs.words.words_in.Goals as goal

pub word_of-requires : goal.word_of-requires
word_of-requires c =
    let letters = c.deref.result.now in
    let parts = c.deref-part-items.result.now in
    let all : map (λ (part : Bor (List ℕ)). part.now) parts ≡ slice_split is_space letters = ap (map (λ (part : Bor (List ℕ)). part.now)) c.deref-part-items.ensures.value ∙ c.in_ok-parts.ensures in
    let none : Bor (List ℕ) = record { ref_ptr = (0, 0); now = [] } in
    let short : length (get_or parts c.loop-part.part-index none).now ≤ length letters = part-short is_space letters parts c.loop-part.part-index none all c.loop-part-test.true in
    let whole = ap length (c.deref.ensures.value ∙ c.in_ok-letters.ensures) in
    omega (arith, short, whole)

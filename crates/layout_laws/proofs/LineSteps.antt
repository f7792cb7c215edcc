-- Lines have enough steps: each takes one segment at least.
use Rattle.std.proofs.Common.{◌≡◌, ℕ, zero, suc, ◌≤◌, List, [], ◌∷◌, length, drop, length-drop, refl, ap, arith}
use Rattle.layout_semantics.specs.InlineContent.{Item}
use Rattle.layout_semantics.specs.LineHeights.{InlineContext, tallest}
use Rattle.layout_semantics.specs.LineFilling.{segments_held}
use Rattle.layout_semantics.specs.Lines.{SoFar, next_line, laid_segments, laid_next, followed, go_on, lines_to}
use Rattle.layout_laws.specs.Nested.{lines_of}

steps-enough : (n m : ℕ) (c : InlineContext) (now : SoFar) (parts : List (List Item)) → length parts ≤ n → length parts ≤ m → lines_to n c (tallest c) now parts ≡ lines_to m c (tallest c) now parts
unfolding lines_to
steps-enough zero zero c now parts ln lm = refl
steps-enough zero (suc m) c now [] ln lm = refl
steps-enough zero (suc m) c now (first ∷ parts) ln lm = absurd (omega arith)
steps-enough (suc n) zero c now [] ln lm = refl
steps-enough (suc n) zero c now (first ∷ parts) ln lm = absurd (omega arith)
steps-enough (suc n) (suc m) c now [] ln lm = refl
steps-enough (suc n) (suc m) c now (first ∷ parts) ln lm =
    let held = segments_held c (next_line c (tallest c) now first (first ∷ parts)) in
    let left = length-drop held (first ∷ parts) in
    let line = laid_segments c now (next_line c (tallest c) now first (first ∷ parts)) held in
    ap (followed line) (steps-enough n m c line.after (drop held (first ∷ parts)) (omega arith) (omega arith))

-- the lines after the next one
pub lines-step : (c : InlineContext) (now : SoFar) (first : List Item) (parts : List (List Item))
    → lines_of c now (first ∷ parts) ≡ go_on (lines_of c) (laid_next c (tallest c) now first (first ∷ parts))
unfolding lines_to
lines-step c now first parts =
    let held = segments_held c (next_line c (tallest c) now first (first ∷ parts)) in
    let left = length-drop held (first ∷ parts) in
    let line = laid_segments c now (next_line c (tallest c) now first (first ∷ parts)) held in
    ap (followed line) (steps-enough (length parts) (length (drop held (first ∷ parts))) c line.after (drop held (first ∷ parts)) (omega arith) (omega arith))

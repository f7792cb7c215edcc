use Rattle.std.proofs.Common.{◌≡◌, ◌+◌, arith, ap, drop, sum_by, ◌∙◌}
use Rattle.std.proofs.lemmas.List.Sums.{sum_by-cons}
use Rattle.viz_base.specs.FontSizes.{advance}
use Rattle.viz_base.proofs.ListLemmas.{drop_at}
use Rattle.page_boxes.proofs.words.units_of.Goals as goal

pub loop-letter-preserved : goal.loop-letter-preserved
loop-letter-preserved c =
    let k = c.loop-letter.letter-index in
    let xs = c.args.letters.now in
    let x = c.letter-item.result in
    let f = advance c.args.font.now in
    let step : sum_by f (drop k xs) ≡ f x + sum_by f (drop (k + 1) xs) = ap (sum_by f) (drop_at xs k x c.loop-letter-test.true c.letter-item.is) ∙ sum_by-cons f x (drop (k + 1) xs) in
    record { all = omega (arith, step); most = omega arith }

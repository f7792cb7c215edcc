use Rattle.std.proofs.Common.{◌≡◌, true, false, sym, ◌∙◌, arith}
use Rattle.lay_line.specs.Readings.{place_at}
use Rattle.lay_line.proofs.Found.{right-here, right-later}
use Rattle.lay_line.proofs.fragments.text_right.Goals as goal

pub returns-then-not-is_text_of : goal.returns-then-not-is_text_of
returns-then-not-is_text_of g c = λ read e.
    let no : c.is_text_of.result ≡ false = grind arith in
    right-here c.args.at (λ p. place_at read p e) c.args.after.now c.loop-place.place-index (read c.loop-place.right.now e) c.place-item.result c.loop-place-test.true c.place-item.is
    (sym (c.is_text_of.ensures read e) ∙ no)
    ∙ c.loop-place.invariant read e

pub loop-place-preserved : goal.loop-place-preserved
loop-place-preserved g c = λ read e.
    let yes : c.is_text_of.result ≡ true = grind arith in
    right-later c.args.at (λ p. place_at read p e) c.args.after.now c.loop-place.place-index (read c.loop-place.right.now e) c.place-item.result c.loop-place-test.true c.place-item.is
    (sym (c.is_text_of.ensures read e) ∙ yes)
    ∙ c.loop-place.invariant read e

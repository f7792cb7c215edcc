use Rattle.std.proofs.Common.{sym, ◌∙◌}
use Rattle.layout_semantics.specs.Fragments.{is_end_of}
use Rattle.lay_line.specs.Readings.{place_at}
use Rattle.lay_line.proofs.Found.{found-here, found-later}
use Rattle.lay_line.proofs.fragments.find_end.Goals as goal

pub returns-then-is_end_of : goal.returns-then-is_end_of
returns-then-is_end_of g c = λ read e.
    found-here (is_end_of c.args.at) (λ p. place_at read p e) c.args.places.now c.loop-place.place-index c.place-item.result c.loop-place-test.true c.place-item.is
    (sym (c.is_end_of.ensures read e) ∙ c.if-is_end_of.true)
    ∙ c.loop-place.invariant read e

pub loop-place-preserved : goal.loop-place-preserved
loop-place-preserved g c = λ read e.
    found-later (is_end_of c.args.at) (λ p. place_at read p e) c.args.places.now c.loop-place.place-index c.place-item.result c.loop-place-test.true c.place-item.is
    (sym (c.is_end_of.ensures read e) ∙ c.if-is_end_of.false)
    ∙ c.loop-place.invariant read e

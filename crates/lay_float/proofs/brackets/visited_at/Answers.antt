use Rattle.std.proofs.Common.{length, refl, sym, subst, Contains}
use Rattle.std.proofs.lemmas.Option.{slice_get_read, slice_get_within, get_or_from_slice_get}
use Rattle.viz_calc.specs.Renderings.{band_at}
use Rattle.layout_laws.proofs.Members.{to_map}
use Rattle.lay_float.specs.Readings.{box_at, boxes_at}
use Rattle.lay_float.specs.steps.Lent.{bracket_at}
use Rattle.lay_float.specs.steps.Brackets.{Bracket, IsBracket}
use Rattle.lay_float.proofs.BetweenTops.{kept}
use Rattle.lay_float.proofs.brackets.visited_at.Goals as goal

pub returns-in-Some-clause-value : goal.returns-in-Some-clause-value
returns-in-Some-clause-value g c = λ e o high is.
    let at = g.S.Steady.at in
    let w = c.args.wanted.now in
    let read = slice_get_read w.floats.now (length w.floats.now) c.args.index c.in-Some.f.now refl c.in-Some.ensures.lookup.3.0 c.in-Some.ensures.lookup.1 in
    let member : Contains w.floats.now c.in-Some.f.now = (c.args.index, slice_get_within w.floats.now c.args.index c.in-Some.f.now read, get_or_from_slice_get w.floats.now c.args.index c.in-Some.f.now c.in-Some.f.now read) in
    subst (λ (b : Bracket). IsBracket (boxes_at at w.floats.now e) w.side (at w.width.now e) (band_at at w.cb.now e) high b) (sym (c.visited.ensures.value e o))
    (kept (boxes_at at w.floats.now e) w.side (at w.width.now e) (band_at at w.cb.now e) high (bracket_at at c.args.bracket e) (box_at at c.in-Some.f.now e)
    (to_map (λ f. box_at at f e) w.floats.now c.in-Some.f.now member) is)

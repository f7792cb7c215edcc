-- What a line leaves is as wide as it was.
use Rattle.std.proofs.Common.{List, subst}
use Rattle.std.specs.Prelude.{ℤ}
use Rattle.layout_semantics.specs.LineHeights.{InlineContext}
use Rattle.layout_semantics.specs.Lines.{SoFar}
use Rattle.lay_line.specs.steps.Held.{nothing_held}
use Rattle.lay_line.specs.steps.Leaping.{AreWide}
use Rattle.lay_line.specs.steps.Lining.{joined_parts, met_before, slot_for, first_load, next_in}
use Rattle.lay_line.specs.steps.Measured.{Measured, held_with}
use Rattle.lay_line.proofs.AtOnce.{wide_back}
use Rattle.lay_line.proofs.Growing.{left_behind}

pub next_wide : (c : InlineContext) (tall : ℤ) (now : SoFar) (first : List Measured) (rest : List (List Measured)) → AreWide (joined_parts rest) → AreWide (joined_parts (next_in c tall now first rest).1)
unfolding next_in
next_wide c tall now first rest w =
    let held = held_with nothing_held first in
    let before = met_before c now first in
    let slot = slot_for c tall now before held.width in
    let behind = left_behind c slot (first_load c slot before now.opened first held) rest in
    wide_back behind.0 (joined_parts (next_in c tall now first rest).1) (subst AreWide behind.1 w)

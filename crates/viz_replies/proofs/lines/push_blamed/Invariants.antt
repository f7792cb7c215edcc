use Rattle.std.proofs.Common.{◌≡◌, ◌++◌, ◌∷◌, [], codes, take}
use Rattle.std.specs.List.{flat_map}
use Rattle.viz_replies.specs.Lines.{numbered}
use Rattle.viz_replies.proofs.lines.push_blamed.Given as goal

abbrev pub invariant-loop-place : goal.invariant-loop-place
invariant-loop-place l = l.out.items ≡ l.initial.out.items ++ flat_map (λ place. numbered (codes "blame") (place ∷ [])) (take l.place-index l.places)

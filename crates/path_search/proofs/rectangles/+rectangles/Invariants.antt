use Rattle.std.proofs.Common.{◌+◌, ◌*◌}
use Rattle.path_search.proofs.rectangles.+rectangles.Given as goal

abbrev pub decreases-half : goal.decreases-half
decreases-half l = 4 * l.place.now.turns + 3

abbrev pub decreases-in_halves : goal.decreases-in_halves
decreases-in_halves l = 4 * l.place.now.turns + 1

abbrev pub decreases-in_parts : goal.decreases-in_parts
decreases-in_parts l = 4 * l.place.now.turns

abbrev pub decreases-rectangle : goal.decreases-rectangle
decreases-rectangle l = 4 * l.place.now.turns + 2

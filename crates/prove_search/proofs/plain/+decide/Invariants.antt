use Rattle.viz_base.specs.Worlds.{world_count}
use Rattle.prove_search.proofs.plain.+decide.Given as goal

abbrev pub decreases-decide : goal.decreases-decide
decreases-decide l = world_count l.rect

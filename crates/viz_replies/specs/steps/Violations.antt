-- The lines of a violation, by a rendering that the code has.
use Rattle.std.specs.Prelude.{ℕ, ℤ, List, [], ◌∷◌, ◌++◌, codes}
use Rattle.std.specs.List.{flat_map}
use Rattle.viz_base.specs.declared.jobs.Job.{Job}
use Rattle.viz_base.specs.declared.worlds.World.{World}
use Rattle.viz_base.specs.declared.renderings.Rendering.{Rendering}
use Rattle.viz_replies.specs.Print.{printed}
use Rattle.logic_semantics.specs.Scenes.{scene_of}
use Rattle.logic_semantics.specs.Blame.{blame}
use Rattle.viz_replies.specs.Lines.{numbered}
use Rattle.viz_replies.specs.Screens.{spaced_world}

-- the lines of the boxes that the formula blames
abbrev pub blame_lines_of : Job → World → Rendering ℤ → List ℕ
blame_lines_of job world r =
    flat_map (λ place. numbered (codes "blame") (place ∷ [])) (blame (scene_of r world) job.formula)

-- a world, whom the formula blames there, and the rendering
abbrev pub violation_lines_of : Job → World → Rendering ℤ → List ℕ
violation_lines_of job world r = codes "violated"
    ++ (spaced_world job.form world ++ (codes "\n" ++ (blame_lines_of job world r ++ printed r)))

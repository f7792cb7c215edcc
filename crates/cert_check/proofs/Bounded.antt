-- The limits of a job's worlds, and renderings whose numbers are small.
use Rattle.std.proofs.Common.{◌≡◌, ℕ, zero, suc, ◌^◌, ℤ, List, [], ◌∷◌, Some, subst, arith}
use Rattle.std.specs.Prelude.{slice_get}
use Rattle.std.specs.List.{AllByRecursion}
use Rattle.std.proofs.lemmas.Int.{ints}
use Rattle.std.proofs.lemmas.Option.{same_Some}
use Rattle.viz_base.specs.declared.worlds.World.{World}
use Rattle.viz_base.specs.declared.jobs.Job.{Job}
use Rattle.viz_base.specs.declared.renderings.Placed.{Placed}
use Rattle.viz_base.specs.declared.renderings.Quad.{Quad}
use Rattle.viz_base.specs.declared.renderings.Rendering.{Rendering}
use Rattle.page_limits.specs.Bounds.{IsPlacedIn, IsQuadIn, all_around}
use Rattle.viz_base.specs.Worlds.{IsInRange}
use Rattle.vis_truth.specs.Scenes.{IsNarrow, IsBoundedQuad, IsBoundedBox, IsBoundedRendering}

-- the numbers of a job's worlds
pub narrow_world : (job : Job) (world : World) → IsInRange job.range world → IsNarrow world
narrow_world job world i =
    let a = i.width_most in
    let b = job.ok.in_range.width_most in
    let c = i.size_most in
    let d = job.ok.in_range.size_most in
    let e = i.height_most in
    let f = job.ok.in_range.height_most in
    record { width = omega arith; size = omega arith; height = omega arith }

-- ---- renderings

quad_bounded : (q : Quad ℤ) → IsQuadIn (all_around (2 ^ 70)) q → IsBoundedQuad q
quad_bounded q i =
    let l = i.left in let r = i.right in let a = i.top.top in let b = i.top.bottom in let c = i.bottom.top in let d = i.bottom.bottom in
    record { left = l; top = omega (arith, ints, a, b); right = r; bottom = omega (arith, ints, c, d) }

box_bounded : (b : Placed ℤ) → IsPlacedIn (all_around (2 ^ 70)) b → IsBoundedBox b
box_bounded b i = record { margin = quad_bounded b.margin i.margin; border = quad_bounded b.border i.border; padding = quad_bounded b.padding i.padding; content = quad_bounded b.content i.content }

bounded_at : (boxes : List (Placed ℤ)) (place : ℕ) (b : Placed ℤ) → AllByRecursion (IsPlacedIn (all_around (2 ^ 70))) boxes → slice_get boxes place ≡ Some b → IsBoundedBox b
bounded_at [] place b all is = absurd (cc)
bounded_at (x ∷ xs) zero b all is = subst (λ y. IsBoundedBox y) (same_Some x b is) (box_bounded x all.0)
bounded_at (x ∷ xs) (suc place) b all is = bounded_at xs place b all.1 is

pub rendering_bounded : (r : Rendering ℤ) → AllByRecursion (IsPlacedIn (all_around (2 ^ 70))) r.boxes → IsBoundedRendering r
rendering_bounded r low = record { each = λ place b is. bounded_at r.boxes place b low is }

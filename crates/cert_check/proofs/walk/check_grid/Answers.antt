use Rattle.std.proofs.Common.{◌≡◌, ◌<◌, ◌≤◌, ◌∙◌, true, false, Option, None, Some, refl, sym, ap, subst, arith}
use Rattle.std.specs.Prelude.{is_some}
use Rattle.cert_semantics.specs.Nodes.{by_worlds, node_on}
use Rattle.cert_semantics.specs.Rectangles.{rectangle}
use Rattle.cert_check.specs.steps.Ways.{path_at}
use Rattle.viz_base.specs.declared.worlds.World.{World}
use Rattle.viz_base.specs.Worlds.{world_count as count_of}
use Rattle.cert_check.specs.steps.Grids.{IsPart, are_above_zero, is_outside, is_untrue_on}
use Rattle.cert_check.specs.steps.Worlds.{first_world}
use Rattle.cert_check.proofs.Descents.{numbers_above_zero}
use Rattle.cert_check.proofs.Judging.{judged, grid_empty, grid_large, grid_outside, grid_untrue, grid_good}
use Rattle.cert_check.proofs.walk.check_grid.Goals as goal

pub returns-in_default : goal.returns-in_default
returns-in_default c =
    let s = c.args.descent.now in
    let path = path_at s in
    judged s.job.now (node_on path by_worlds) c.args.number tt
    (grid_empty s.job.now path (subst (λ o. IsPart o (rectangle s.job.now.range path)) c.in_default.is c.requires.part))

pub returns-then-world_count-gt64 : goal.returns-then-world_count-gt64
returns-then-world_count-gt64 c =
    let s = c.args.descent.now in
    let path = path_at s in
    let part = subst (λ o. IsPart o (rectangle s.job.now.range path)) c.in-Some.is c.requires.part in
    let large : 64 < count_of c.in-Some.rect = omega arith in
    c.rejected.ensures s.job.now (node_on path by_worlds) (grid_large s.job.now s.above c.in-Some.rect part c.args.number large)

pub first_outside-requires-clause-above : goal.first_outside-requires-clause-above
first_outside-requires-clause-above c =
    let s = c.args.descent.now in
    ap are_above_zero c.above.ensures ∙ numbers_above_zero s.job.now.form s.above s.sound

pub first_untrue-requires-clause-above : goal.first_untrue-requires-clause-above
first_untrue-requires-clause-above c =
    let s = c.args.descent.now in
    ap are_above_zero c.above-2.ensures ∙ numbers_above_zero s.job.now.form s.above s.sound

-- a world that is found
some_of : (o : Option World) → is_some o ≡ true → (world : World) × (o ≡ Some world)
some_of None e = absurd (cc)
some_of (Some world) e = (world, refl)

none_of : (o : Option World) → is_some o ≡ false → o ≡ None
none_of None e = refl
none_of (Some world) e = absurd (cc)

pub returns-then-is_some : goal.returns-then-is_some
returns-then-is_some c =
    let s = c.args.descent.now in
    let path = path_at s in
    let part = subst (λ o. IsPart o (rectangle s.job.now.range path)) c.in-Some.is c.requires.part in
    let small : count_of c.in-Some.rect ≤ 64 = omega arith in
    let found = some_of c.in_ok-first_outside.field-0 (sym c.is_some.ensures ∙ c.if-is_some.true) in
    let is = sym (c.in_ok-first_outside.ensures ∙ (λ i. first_world (is_outside (c.job.ensures i).form (c.above.ensures i)) c.in-Some.rect)) ∙ found.1 in
    c.rejected-then-is_some.ensures s.job.now (node_on path by_worlds) (grid_outside s.job.now s.above c.in-Some.rect part c.args.number found.0 small is)

pub returns-in-Some-2 : goal.returns-in-Some-2
returns-in-Some-2 c =
    let s = c.args.descent.now in
    let path = path_at s in
    let part = subst (λ o. IsPart o (rectangle s.job.now.range path)) c.in-Some.is c.requires.part in
    let small : count_of c.in-Some.rect ≤ 64 = omega arith in
    let nowhere = sym (c.in_ok-first_outside.ensures ∙ (λ i. first_world (is_outside (c.job.ensures i).form (c.above.ensures i)) c.in-Some.rect))
    ∙ none_of c.in_ok-first_outside.field-0 (sym c.is_some.ensures ∙ c.if-is_some.false) in
    let is = sym (c.in_ok-world.ensures ∙ (λ i. first_world (is_untrue_on (c.job-2.ensures i) (c.above-2.ensures i)) c.in-Some.rect)) ∙ c.in-Some-2.is in
    c.rejected-in-Some-2.ensures s.job.now (node_on path by_worlds)
    (grid_untrue s.job.now s.above c.in-Some.rect part c.args.number c.in-Some-2.world small nowhere is)

pub returns-in-None : goal.returns-in-None
returns-in-None c =
    let s = c.args.descent.now in
    let path = path_at s in
    let part = subst (λ o. IsPart o (rectangle s.job.now.range path)) c.in-Some.is c.requires.part in
    let small : count_of c.in-Some.rect ≤ 64 = omega arith in
    let nowhere = sym (c.in_ok-first_outside.ensures ∙ (λ i. first_world (is_outside (c.job.ensures i).form (c.above.ensures i)) c.in-Some.rect))
    ∙ none_of c.in_ok-first_outside.field-0 (sym c.is_some.ensures ∙ c.if-is_some.false) in
    let is = sym (c.in_ok-world.ensures ∙ (λ i. first_world (is_untrue_on (c.job-2.ensures i) (c.above-2.ensures i)) c.in-Some.rect)) ∙ c.in-None.is in
    judged s.job.now (node_on path by_worlds) c.args.number tt (grid_good s.job.now s.above c.in-Some.rect part small nowhere is)

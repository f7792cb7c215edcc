use Rattle.std.proofs.Common.{◌+◌, ℤ, pos, unsigned_abs, IsTrue, subst, sym, ap, ◌∙◌, arith}
use Rattle.std.proofs.lemmas.Grind.{common_steps}
use Rattle.viz_calc.specs.World.{Reading}
use Rattle.viz_calc.specs.Run.{Blames}
use Rattle.viz_calc.proofs.Runs.{Goes-then, Blames-then}
use Rattle.lay_line.specs.steps.Held.{Held, nothing_held}
use Rattle.lay_line.specs.Limits.{held_size}
use Rattle.lay_preferred.specs.Fitting.{mosts, IsHalf}
use Rattle.lay_preferred.specs.Readings.{sizes_at}
use Rattle.lay_preferred.specs.steps.Parts.{held_most, floats_from}
use Rattle.lay_length.proofs.SmallNumbers.{size-+}
use Rattle.lay_preferred.proofs.Sizes.{most-reach}
use Rattle.lay_preferred.specs.steps.Parts.{most_width}
use Rattle.lay_preferred.proofs.parts.most_width.Goals as goal

pub returns : goal.returns
unfolding most_width
returns g c = record {
  goes = Goes-then _ _ _ (Goes-then _ _ _ (Goes-then _ _ _ (Goes-then _ _ _ c.nothing-start.ensures.goes c.most_held-held.ensures.goes) c.zero-none.ensures.goes) c.floats_width-floats.ensures.goes) c.add.ensures.goes;
  value = grind (arith, common_steps);
  cause =
      let at = g.S.Steady.at in
      let run = g.S.Steady.run in
      let start = c.nothing-start.ensures in
      let held = c.most_held-held.ensures in
      let none = c.zero-none.ensures in
      let floats = c.floats_width-floats.ensures in
      let r0 = run c.args.calc.now in
      let r1 = run c.nothing-start.new.calc in
      let r2 = run c.most_held-held.new.calc in
      let r3 = run c.zero-none.new.calc in
      let r4 = run c.floats_width-floats.new.calc in
      let fits = (e : Reading) → IsTrue (r0.is_open e) → IsHalf (mosts (sizes_at at c.args.part.now e)) in
      let first : Blames r0 r1 fits = record { mem = start.cause.mem; coeff = λ f. start.cause.coeff (λ e o. (omega arith, tt)); opens = start.cause.opens } in
      let second = Blames-then r0 r1 r2 _ fits start.goes held.goes first
      (λ f e o.
      let half = f e (start.goes.closes e o) in
      subst (λ (h : Held). IsHalf (held_size h + mosts (sizes_at at c.args.part.now e))) (sym (start.value e o)) (omega (arith, half))) held.cause in
      let to_held = Goes-then r0 r1 r2 start.goes held.goes in
      let third = Blames-then r0 r2 r3 _ fits to_held none.goes second (λ f e o. (omega arith, tt)) none.cause in
      let to_none = Goes-then r0 r2 r3 to_held none.goes in
      let fourth = Blames-then r0 r3 r4 _ fits to_none floats.goes third
      (λ f e o.
      let half = f e (to_none.closes e o) in
      subst (λ (x : ℤ). IsHalf (unsigned_abs x + mosts (sizes_at at c.args.part.now e))) (sym (none.value e o)) (omega (arith, half))) floats.cause in
      let to_floats = Goes-then r0 r3 r4 to_none floats.goes in
      Blames-then r0 r4 (run c.add.new.self) _ fits to_floats c.add.ensures.goes fourth
      (λ f e o.
      let sizes = sizes_at at c.args.part.now e in
      let o3 = floats.goes.closes e o in
      let o2 = none.goes.closes e o3 in
      let half = f e (to_floats.closes e o) in
      let all = most-reach nothing_held (pos 0) sizes in
      let sum = size-+ (at c.most_held-held.result.width e) (at c.floats_width-floats.result e) in
      let one = ap (λ (h : Held). unsigned_abs h.width) (held.value e o2 ∙ ap (λ h. held_most h sizes) (start.value e (held.goes.closes e o2))) in
      let other = ap unsigned_abs (floats.value e o ∙ ap (λ x. floats_from x sizes) (none.value e o3)) in
      (omega (arith, half, all, sum, one, other), tt))
      c.add.ensures.cause;
}

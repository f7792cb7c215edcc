use Rattle.std.proofs.Common.{◌≡◌, ◌<◌, ◌+◌, ◌^◌, ℕ, ℤ, List, [], ◌∷◌, length, drop, map, slice_index_or, true, false, arith, sym, subst, ap, ◌∙◌}
use Rattle.std.specs.Prelude.{sum}
use Rattle.std.specs.List.{AllByRecursion}
use Rattle.std.proofs.lemmas.Grind.{common_steps}
use Rattle.viz_base.specs.declared.layouts.Preferred.{Preferred}
use Rattle.viz_calc.specs.State.{AllSmall}
use Rattle.viz_calc.proofs.Runs.{Goes-then, BlamesButMem-then}
use Rattle.viz_calc.proofs.Blamed.{ButMem-given, Blames-but-mem}
use Rattle.lay_width.specs.Readings.{preferred_at}
use Rattle.lay_preferred.specs.declared.columns.Column.{Column}
use Rattle.lay_preferred.specs.Fitting.{AroundFits, ItemFits, leasts, mosts, IsHalf, AreWithin}
use Rattle.lay_preferred.proofs.Causes.{all-at, item-copied, fits-later, outer-within, given-small, replaced-small, around-small, inside-small, content-half, items-fit, kids-low, caps-next, beside-fits}
use Rattle.lay_preferred.proofs.Sizes.{run_reach, child-reach}
use Rattle.layout_semantics.specs.InlineContent.{content}
use Rattle.layout_semantics.specs.Preferred.{a_replaced, inline_content, blocks, inside_of}
use Rattle.lay_line.specs.Items.{item_of, items_of, summed, summed_of}
use Rattle.lay_line.specs.declared.items.Item.{Item}
use Rattle.lay_preferred.specs.Readings.{sizes_at, column_at}
use Rattle.lay_line.specs.steps.Content.{IsSum}
use Rattle.lay_preferred.specs.steps.Outer.{is_given, around}
use Rattle.lay_preferred.specs.steps.Parts.{IsInside, inline_in, blocks_in, sized, widths_of}
use Rattle.lay_preferred.proofs.Founds.{found-later, found-at, found-kept}
use Rattle.lay_preferred.proofs.Levels.{of-replaced, of-inline, of-blocks, content-inside, all-later}
use Rattle.lay_preferred.proofs.OuterWidths.{outer-given, outer-inside}
use Rattle.lay_preferred.proofs.engine.+preferred.Goals as goal

pub outer-returns-then-is_given-clause-found : goal.outer-returns-then-is_given-clause-found
outer-returns-then-is_given-clause-found g t c = found-later g.S.Steady.at c.args.tree.now (g.S.Steady.run c.args.calc.now) (g.S.Steady.run c.given.new.calc) _ c.given.ensures.goes c.requires.found

pub outer-returns-then-is_given-clause-value : goal.outer-returns-then-is_given-clause-value
outer-returns-then-is_given-clause-value g t c = λ e o.
    let is : is_given c.args.tree.now c.args.at ≡ true = grind arith in
    c.given.ensures.value e o ∙ outer-given c.args.tree.now e.world c.args.at is

pub outer-returns-then-is_given-clause-cause : goal.outer-returns-then-is_given-clause-cause
outer-returns-then-is_given-clause-cause g t c =
    let run = g.S.Steady.run in
    Blames-but-mem (run c.args.calc.now) (run c.given.new.calc) _ _ (λ f e o. given-small c.args.tree.now (run c.args.calc.now).is_open f e o c.args.at c.requires.within) c.given.ensures.cause

pub outer-returns-clause-cause : goal.outer-returns-clause-cause
outer-returns-clause-cause g t c =
    let run = g.S.Steady.run in
    let at = g.S.Steady.at in
    let tree = c.args.tree.now in
    let inside = c.preferred-inside.ensures in
    BlamesButMem-then (run c.args.calc.now) (run c.preferred-inside.new.calc) (run c.around.new.calc) _ _ inside.goes c.around.ensures.goes inside.cause
    (λ f e o. subst (λ (p : Preferred ℤ). AroundFits tree e.world c.args.at p.least × AroundFits tree e.world c.args.at p.most) (sym (inside.value e o))
    (around-small tree (run c.args.calc.now).is_open f e (inside.goes.closes e o) c.args.at c.requires.within))
    (Blames-but-mem (run c.preferred-inside.new.calc) (run c.around.new.calc) _ _ (λ f. f) c.around.ensures.cause)

pub outer-returns-clause-found : goal.outer-returns-clause-found
outer-returns-clause-found g t c = found-later g.S.Steady.at c.args.tree.now (g.S.Steady.run c.preferred-inside.new.calc) (g.S.Steady.run c.around.new.calc) _ c.around.ensures.goes c.preferred-inside.ensures.found

pub outer-returns-clause-value : goal.outer-returns-clause-value
outer-returns-clause-value g t c = λ e o.
    let is : is_given c.args.tree.now c.args.at ≡ false = grind arith in
    c.around.ensures.value e o
    ∙ ap (around c.args.tree.now e.world c.args.at) (c.preferred-inside.ensures.value e (c.around.ensures.goes.closes e o))
    ∙ outer-inside c.args.tree.now e.world c.args.at is

pub computed-returns-in-Replaced-clause-found : goal.computed-returns-in-Replaced-clause-found
computed-returns-in-Replaced-clause-found g t c = found-later g.S.Steady.at c.args.tree.now (g.S.Steady.run c.args.calc.now) (g.S.Steady.run c.replaced.new.calc) _ c.replaced.ensures.goes c.requires.found

pub computed-returns-in-Replaced-clause-cause : goal.computed-returns-in-Replaced-clause-cause
computed-returns-in-Replaced-clause-cause g t c =
    let run = g.S.Steady.run in
    Blames-but-mem (run c.args.calc.now) (run c.replaced.new.calc) _ _ (λ f e o. replaced-small c.args.tree.now (run c.args.calc.now).is_open f e o c.args.b c.requires.within) c.replaced.ensures.cause

pub computed-returns-in-Inline-clause-cause : goal.computed-returns-in-Inline-clause-cause
computed-returns-in-Inline-clause-cause g t c =
    let run = g.S.Steady.run in
    let is : inside_of c.args.tree.now c.args.b ≡ inline_content = grind arith in
    ButMem-given (run c.args.calc.now) (run c.of_inline.new.calc) _ _ (λ f. (f, is)) c.of_inline.ensures.cause

pub computed-returns-in-Blocks-clause-cause : goal.computed-returns-in-Blocks-clause-cause
computed-returns-in-Blocks-clause-cause g t c =
    let run = g.S.Steady.run in
    let is : inside_of c.args.tree.now c.args.b ≡ blocks = grind arith in
    ButMem-given (run c.args.calc.now) (run c.of_blocks.new.calc) _ _ (λ f. (f, is)) c.of_blocks.ensures.cause

pub computed-returns-in-Replaced-clause-value : goal.computed-returns-in-Replaced-clause-value
computed-returns-in-Replaced-clause-value g t c = λ e o.
    let is : inside_of c.args.tree.now c.args.b ≡ a_replaced = grind arith in
    c.replaced.ensures.value e o ∙ of-replaced c.args.tree.now e.world c.args.b c.requires.within is

pub computed-returns-in-Inline-clause-value : goal.computed-returns-in-Inline-clause-value
computed-returns-in-Inline-clause-value g t c = λ e o.
    let is : inside_of c.args.tree.now c.args.b ≡ inline_content = grind arith in
    c.of_inline.ensures.value e o ∙ of-inline c.args.tree.now e.world c.args.b c.requires.within is

pub computed-returns-in-Blocks-clause-value : goal.computed-returns-in-Blocks-clause-value
computed-returns-in-Blocks-clause-value g t c = λ e o.
    let is : inside_of c.args.tree.now c.args.b ≡ blocks = grind arith in
    c.of_blocks.ensures.value e o ∙ of-blocks c.args.tree.now e.world c.args.b c.requires.within is

pub item_widths-returns-in_default : goal.item_widths-returns-in_default
item_widths-returns-in_default g t c =
    let run = g.S.Steady.run in
    let at = g.S.Steady.at in
    let own = c.item_width-width.ensures in
    record {
      goes = Goes-then (run c.args.calc.now) (run c.item_width-width.new.calc) (run c.both.new.calc) own.goes c.both.ensures.goes;
      found = found-later at c.args.tree.now (run c.item_width-width.new.calc) (run c.both.new.calc) _ c.both.ensures.goes
          (found-later at c.args.tree.now (run c.args.calc.now) (run c.item_width-width.new.calc) _ own.goes c.requires.found);
      value = λ e o. let width = own.value e (c.both.ensures.goes.closes e o) in let same = c.both.ensures.value e o in grind arith;
      cause = BlamesButMem-then (run c.args.calc.now) (run c.item_width-width.new.calc) (run c.both.new.calc) _ _ own.goes c.both.ensures.goes
          (Blames-but-mem (run c.args.calc.now) (run c.item_width-width.new.calc) _ _ (λ f. f.1) own.cause)
          (λ f e o. subst (λ x. AllSmall (x ∷ [])) (sym (own.value e o)) (item-copied c.args.tree.now e.world (item_of c.args.item.now) (f.1 e (own.goes.closes e o))))
          (Blames-but-mem (run c.item_width-width.new.calc) (run c.both.new.calc) _ _ (λ f. f) c.both.ensures.cause);
    }

pub measure-loop-item-preserved : goal.measure-loop-item-preserved
measure-loop-item-preserved g t c =
    let run = g.S.Steady.run in
    let at = g.S.Steady.at in
    let one = c.item_widths-width.ensures in
    let add = c.add_piece.ensures in
    record {
      goes = Goes-then (run c.args.calc.now) (run c.item_widths-width.new.calc) (run c.add_piece.new.calc)
          (Goes-then (run c.args.calc.now) (run c.loop-item.calc) (run c.item_widths-width.new.calc) c.loop-item.invariant.goes one.goes) add.goes;
      found = found-later at c.args.tree.now (run c.item_widths-width.new.calc) (run c.add_piece.new.calc) _ add.goes one.found;
      kept = all-later summed (IsSum c.args.tree.now) c.args.items.now c.loop-item.item-index c.loop-item.invariant.kept;
      inside = all-later item_of (IsInside c.args.tree.now c.args.b) c.args.items.now c.loop-item.item-index c.loop-item.invariant.inside;
      value = λ e o.
          let o1 = add.goes.closes e o in
          let o2 = one.goes.closes e o1 in
          let so_far = c.loop-item.invariant.value e o2 in
          let width = one.value e o1 in
          let added = add.value e o in
          grind (arith, common_steps);
      cause =
          let before = c.loop-item.invariant in
          let first = BlamesButMem-then (run c.args.calc.now) (run c.loop-item.calc) (run c.item_widths-width.new.calc) _ _ before.goes one.goes before.cause
          (λ f. (
            fits-later c.args.tree.now (run c.args.calc.now) (run c.loop-item.calc) before.goes f.0,
            λ e o. subst (λ (i : Item). ItemFits c.args.tree.now e.world (item_of i)) (sym c.item-item.is)
                (all-at item_of (ItemFits c.args.tree.now e.world) c.args.items.now c.loop-item.item-index c.item-item.result (f.1 e (before.goes.closes e o)) (grind arith)),
          ))
          one.cause in
          BlamesButMem-then (run c.args.calc.now) (run c.item_widths-width.new.calc) (run c.add_piece.new.calc) _ _
          (Goes-then (run c.args.calc.now) (run c.loop-item.calc) (run c.item_widths-width.new.calc) before.goes one.goes) add.goes first (λ f e o. tt) add.cause;
    }

pub of_blocks-loop-kid-preserved : goal.of_blocks-loop-kid-preserved
of_blocks-loop-kid-preserved g t c =
    let run = g.S.Steady.run in
    let at = g.S.Steady.at in
    let tree = c.args.tree.now in
    let before = c.loop-kid.invariant in
    let one = c.outer-child.ensures in
    let add = c.with_child-column.ensures in
    let r0 = run c.args.calc.now in
    let r1 = run c.loop-kid.calc in
    let r2 = run c.outer-child.new.calc in
    let r3 = run c.with_child-column.new.calc in
    let to_child = Goes-then r0 r1 r2 before.goes one.goes in
    let kids = c.children-kid-items.result.now in
    let i = c.loop-kid.kid-index in
    let within : i < length kids = grind arith in
    let kid = slice_index_or kids i 0 in
    let there = (c.children-kid-items.ensures.each i within).1 in
    let next = λ (cap : ℕ → ℕ). subst (λ (ks : List ℕ). sum (map cap (drop i ks)) ≡ cap kid + sum (map cap (drop (i + 1) ks))) c.children-kid-items.ensures.value (caps-next cap kids i within) in
    record {
      goes = Goes-then r0 r2 r3 to_child add.goes;
      found = found-later at tree r2 r3 _ add.goes one.found;
      value = λ e o.
          let o1 = add.goes.closes e o in
          let o2 = one.goes.closes e o1 in
          let so_far = before.value e o2 in
          let width = one.value e o1 in
          let added = add.value e o in
          grind (arith, common_steps);
      room = λ f e o.
          let o1 = add.goes.closes e o in
          let o2 = one.goes.closes e o1 in
          let o3 = before.goes.closes e o2 in
          let so_far = before.room f e o2 in
          let left = next f.cap in
          let child = subst (AreWithin (f.cap kid)) (sym (one.value e o1)) (outer-within tree r0.is_open f e o3 kid there) in
          let grown = child-reach (column_at at c.loop-kid.column e) c.is_floated.result (preferred_at at c.outer-child.result e) (f.cap kid) child in
          let same = ap (λ (x : Column ℤ). run_reach x.floats) (add.value e o) in
          omega (arith, so_far, left, grown, same);
      cause =
          let first = BlamesButMem-then r0 r1 r2 _ _ before.goes one.goes before.cause (λ f. fits-later tree r0 r1 before.goes f.0) one.cause in
          BlamesButMem-then r0 r2 r3 _ _ to_child add.goes first
          (λ f e o.
          let o2 = one.goes.closes e o in
          let o3 = before.goes.closes e o2 in
          let so_far = before.room f.0 e o2 in
          let left = next (f.0).cap in
          let child = (subst (AreWithin ((f.0).cap kid)) (sym (one.value e o)) (outer-within tree r0.is_open f.0 e o3 kid there)).1 in
          let low = kids-low tree r0.is_open f.0 e o3 c.args.b c.requires.within f.1 in
          beside-fits (column_at at c.loop-kid.column e).floats (at c.outer-child.result.most e) (2 ^ 90) (omega (arith, so_far, left, child, low)) (omega arith))
          (Blames-but-mem r2 r3 _ _ (λ f. f) add.cause);
    }

pub of_blocks-returns-clause-found : goal.of_blocks-returns-clause-found
of_blocks-returns-clause-found g t c = found-later g.S.Steady.at c.args.tree.now (g.S.Steady.run c.loop-kid.calc) (g.S.Steady.run c.whole.new.calc) _ c.whole.ensures.goes c.loop-kid.invariant.found

pub of_blocks-returns-clause-value : goal.of_blocks-returns-clause-value
unfolding blocks_in
of_blocks-returns-clause-value g t c = λ e o.
    let so_far = c.loop-kid.invariant.value e (c.whole.ensures.goes.closes e o) in
    let is = c.whole.ensures.value e o in
    let none = c.no_children-column.ensures g.S.Steady.at e in
    grind (arith, common_steps)

pub of_inline-measure-pieces-requires : goal.of_inline-measure-pieces-requires
of_inline-measure-pieces-requires g t c =
    let items : items_of c.as_slice.result.now ≡ content c.args.tree.now c.args.b = grind arith in
    let kept : AllByRecursion (IsSum c.args.tree.now) (summed_of c.as_slice.result.now) = grind arith in
    let inside : AllByRecursion (IsInside c.args.tree.now c.args.b) (items_of c.as_slice.result.now) = subst (AllByRecursion (IsInside c.args.tree.now c.args.b)) (sym items) (content-inside c.args.tree.now c.args.b) in
    search (arith, kept, inside)

pub of_inline-returns-in-Ok-clause-found : goal.of_inline-returns-in-Ok-clause-found
of_inline-returns-in-Ok-clause-found g t c = found-later g.S.Steady.at c.args.tree.now (g.S.Steady.run c.measure-pieces.new.calc) (g.S.Steady.run c.inline_widths.new.calc) _ c.inline_widths.ensures.goes c.measure-pieces.ensures.found

pub of_inline-returns-in-Ok-clause-value : goal.of_inline-returns-in-Ok-clause-value
unfolding inline_in
of_inline-returns-in-Ok-clause-value g t c = λ e o.
    let sizes = c.measure-pieces.ensures.value e (c.inline_widths.ensures.goes.closes e o) in
    let is = c.inline_widths.ensures.value e o in
    let items = c.in-Ok.ensures.value in
    grind (arith, common_steps)

pub of_inline-returns-in-Ok-clause-cause : goal.of_inline-returns-in-Ok-clause-cause
of_inline-returns-in-Ok-clause-cause g t c =
    let run = g.S.Steady.run in
    let tree = c.args.tree.now in
    let items : items_of c.as_slice.result.now ≡ content tree c.args.b = grind arith in
    let all = c.measure-pieces.ensures in
    let first = ButMem-given (run c.args.calc.now) (run c.measure-pieces.new.calc) _ _
    (λ f. (f.0, λ e o. subst (AllByRecursion (ItemFits tree e.world)) (sym items) (items-fit tree (run c.args.calc.now).is_open f.0 e o c.args.b c.requires.within))) all.cause in
    BlamesButMem-then (run c.args.calc.now) (run c.measure-pieces.new.calc) (run c.inline_widths.new.calc) _ _ all.goes c.inline_widths.ensures.goes first
    (λ f e o.
    let same : sizes_at g.S.Steady.at c.as_slice-in-Ok-2.result.now e ≡ sized (widths_of tree e.world) (content tree c.args.b) =
    ap (λ ps. sizes_at g.S.Steady.at ps e) c.as_slice-in-Ok-2.ensures.value ∙ all.value e o ∙ ap (sized (widths_of tree e.world)) items in
    subst (λ ss. IsHalf (leasts ss) × IsHalf (mosts ss)) (sym same) (content-half tree (run c.args.calc.now).is_open f.0 e (all.goes.closes e o) c.args.b c.requires.within f.1))
    c.inline_widths.ensures.cause

pub of_inline-returns-in-Err-clause-found : goal.of_inline-returns-in-Err-clause-found
of_inline-returns-in-Err-clause-found g t c =
    let run = g.S.Steady.run in
    let at = g.S.Steady.at in
    found-later at c.args.tree.now (run c.zero-none.new.calc) (run c.both.new.calc) _ c.both.ensures.goes
    (found-later at c.args.tree.now (run c.stop.new.self) (run c.zero-none.new.calc) _ c.zero-none.ensures.goes
    (found-later at c.args.tree.now (run c.args.calc.now) (run c.stop.new.self) _ c.stop.ensures.goes c.requires.found))

pub preferred-returns-in-Some-clause-found : goal.preferred-returns-in-Some-clause-found
preferred-returns-in-Some-clause-found g t c = found-later g.S.Steady.at c.args.tree.now (g.S.Steady.run c.args.calc.now) (g.S.Steady.run c.copy_of.new.calc) _ c.copy_of.ensures.goes c.requires.found

pub preferred-returns-in-Some-clause-cause : goal.preferred-returns-in-Some-clause-cause
preferred-returns-in-Some-clause-cause g t c =
    let run = g.S.Steady.run in
    let at = g.S.Steady.at in
    let tree = c.args.tree.now in
    Blames-but-mem (run c.args.calc.now) (run c.copy_of.new.calc) _ _
    (λ f e o. subst (λ (p : Preferred ℤ). AllSmall (p.least ∷ p.most ∷ []))
    (sym (found-at at tree (run c.args.calc.now) c.args.found.now.widths.items c.args.b c.in-Some.widths.now c.requires.found c.in-Some.ensures e o))
    (inside-small tree (run c.args.calc.now).is_open f e o c.args.b c.requires.within))
    c.copy_of.ensures.cause

pub preferred-returns-in-None-clause-cause : goal.preferred-returns-in-None-clause-cause
preferred-returns-in-None-clause-cause g t c =
    let run = g.S.Steady.run in
    let tree = c.args.tree.now in
    let all = c.computed-widths.ensures in
    BlamesButMem-then (run c.args.calc.now) (run c.computed-widths.new.calc) (run c.copy_of-same.new.calc) _ _ all.goes c.copy_of-same.ensures.goes all.cause
    (λ f e o. subst (λ (p : Preferred ℤ). AllSmall (p.least ∷ p.most ∷ [])) (sym (all.value e o)) (inside-small tree (run c.args.calc.now).is_open f e (all.goes.closes e o) c.args.b c.requires.within))
    (Blames-but-mem (run c.computed-widths.new.calc) (run c.copy_of-same.new.calc) _ _ (λ f. f) c.copy_of-same.ensures.cause)

pub preferred-returns-in-Some-clause-value : goal.preferred-returns-in-Some-clause-value
preferred-returns-in-Some-clause-value g t c = λ e o.
    c.copy_of.ensures.value e o
    ∙ found-at g.S.Steady.at c.args.tree.now (g.S.Steady.run c.args.calc.now) c.args.found.now.widths.items c.args.b c.in-Some.widths.now c.requires.found c.in-Some.ensures e (c.copy_of.ensures.goes.closes e o)

pub preferred-returns-in-None-clause-found : goal.preferred-returns-in-None-clause-found
preferred-returns-in-None-clause-found g t c =
    let run = g.S.Steady.run in
    let at = g.S.Steady.at in
    let all = c.computed-widths.ensures in
    let copied = c.copy_of-same.ensures in
    found-kept at c.args.tree.now (run c.copy_of-same.new.calc) c.computed-widths.new.found.widths.items _ c.args.b c.copy_of-same.result c.keep.ensures
    (found-later at c.args.tree.now (run c.computed-widths.new.calc) (run c.copy_of-same.new.calc) _ copied.goes all.found)
    (λ e o. copied.value e o ∙ all.value e (copied.goes.closes e o))

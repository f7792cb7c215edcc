-- Causes of calls that follow one another, where the boxes of the tree are asked for too.
use Rattle.viz_base.specs.declared.trees.BoxTree.{BoxTree}
use Rattle.viz_calc.specs.World.{Reading}
use Rattle.viz_calc.specs.Run.{Run, Goes, Blames, BlamesButMem}
use Rattle.viz_calc.proofs.Runs.{Goes-then, BlamesButMem-then}
use Rattle.lay_line.proofs.Chains.{Asked}
use Rattle.lay_preferred.specs.Fitting.{BoxesFit}
use Rattle.lay_flow.specs.WalkFits.{AllFit}

-- what holds of a tree at more readings
pub boxes-later : (tree : BoxTree) (a b : Run) → Goes a b → BoxesFit tree a.is_open → BoxesFit tree b.is_open
boxes-later tree a b goes f = record { lengths = f.lengths; cap = f.cap; most = f.most; boxes = λ e o. f.boxes e (goes.closes e o) }

pub given-later : (tree : BoxTree) (a b : Run) (asks : Reading → Type 0) → Goes a b → AllFit tree a.is_open asks → AllFit tree b.is_open asks
given-later tree a b asks goes f = (boxes-later tree a b goes f.0, λ e o. f.1 e (goes.closes e o))

pub record Given (tree : BoxTree) (a b : Run) (asks : Reading → Type 0) : Type 0 where
  pub goes : Goes a b
  pub cause : BlamesButMem a b (AllFit tree a.is_open asks)

pub first : {tree : BoxTree} {a b : Run} {asks : Reading → Type 0} {fits : Type 0} → Goes a b → BlamesButMem a b fits → (AllFit tree a.is_open asks → fits) → Given tree a b asks
first goes cause gives = record { goes = goes; cause = record { coeff = λ f. cause.coeff (gives f); opens = cause.opens } }

pub more : {tree : BoxTree} {a b c : Run} {asks : Reading → Type 0} {fits : Type 0} → Given tree a b asks → Goes b c → BlamesButMem b c fits → (AllFit tree b.is_open asks → fits) → Given tree a c asks
more {tree} {a} {b} {c} {asks} so_far goes cause gives = record {
  goes = Goes-then _ _ _ so_far.goes goes;
  cause = BlamesButMem-then _ _ _ _ _ so_far.goes goes so_far.cause (λ f. gives (given-later tree a b asks so_far.goes f)) cause;
}

-- of a call that asks for nothing but numbers at each reading
pub more_at : {tree : BoxTree} {a b c : Run} {asks : Reading → Type 0} {fits : Type 0} → Given tree a b asks → Goes b c → Blames b c fits → (Asked b asks → fits) → Given tree a c asks
more_at so_far goes cause gives = more so_far goes (record { coeff = cause.coeff; opens = cause.opens }) (λ f. gives f.1)

pub first_at : {tree : BoxTree} {a b : Run} {asks : Reading → Type 0} {fits : Type 0} → Goes a b → Blames a b fits → (Asked a asks → fits) → Given tree a b asks
first_at goes cause gives = first goes (record { coeff = cause.coeff; opens = cause.opens }) (λ f. gives f.1)

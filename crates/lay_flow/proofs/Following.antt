-- Causes of calls that follow one another, by what is asked of a tree and not of a reading alone.
use Rattle.std.proofs.Common.{refl, inl, arith}
use Rattle.viz_calc.specs.Run.{Run, Goes, BlamesButMem}
use Rattle.viz_calc.specs.World.{Reading}
use Rattle.lay_line.proofs.Chains.{Chain}
use Rattle.viz_calc.proofs.Runs.{Goes-then, BlamesButMem-then}

pub record Following (a b : Run) (more : Type 0) : Type 0 where
  pub goes : Goes a b
  pub cause : BlamesButMem a b more

pub first : {a b : Run} {more fits : Type 0} → Goes a b → BlamesButMem a b fits → (more → fits) → Following a b more
first goes cause gives = record { goes = goes; cause = record { coeff = λ m. cause.coeff (gives m); opens = cause.opens } }

pub then : {a b c : Run} {more fits : Type 0} → Following a b more → Goes b c → BlamesButMem b c fits → (Goes a b → more → fits) → Following a c more
then so_far goes cause gives = record {
  goes = Goes-then _ _ _ so_far.goes goes;
  cause = BlamesButMem-then _ _ _ _ _ so_far.goes goes so_far.cause (λ m. gives so_far.goes m) cause;
}

-- where nothing is called
pub idle : {a : Run} {asks : Reading → Type 0} → Chain a a asks
idle = record {
  goes = record { closes = λ e o. o; reached = λ e o. o; lean = refl; coeffs = omega arith; opens = omega arith; kept = refl; lender = refl };
  cause = record { mem = λ h. inl h; coeff = λ f h. inl h; opens = λ h. inl h };
}

use Rattle.std.proofs.Common.{arith, ◌∙◌}
use Rattle.viz_calc.specs.Run.{Run, Goes, Blames, BlamesButMem}

-- a run that goes on from a later one
pub Goes-then : (a b c : Run) → Goes a b → Goes b c → Goes a c
Goes-then a b c g h = record {
  closes = λ e o. g.closes e (h.closes e o);
  reached = λ e o. g.reached e (h.reached e o);
  lean = h.lean ∙ g.lean;
  coeffs = let first = g.coeffs in let later = h.coeffs in omega arith;
  opens = let first = g.opens in let later = h.opens in omega arith;
  kept = h.kept ∙ g.kept;
  lender = h.lender ∙ g.lender;
}

-- the causes of a run and of a later one, given more that fits
pub BlamesButMem-then : (a b c : Run) (fits more : Type 0) → Goes a b → Goes b c → BlamesButMem a b more → (more → fits) → BlamesButMem b c fits → BlamesButMem a c more
BlamesButMem-then a b c fits more g h p w q = record {
  coeff = λ m. let first = p.coeff m in let later = q.coeff (w m) in grind arith;
  opens = grind arith;
}

-- the same, where memory is given a cause too
pub Blames-then : (a b c : Run) (fits more : Type 0) → Goes a b → Goes b c → Blames a b more → (more → fits) → Blames b c fits → Blames a c more
Blames-then a b c fits more g h p w q = record {
  mem = λ m. let later = q.mem m in let lean = g.lean in let first = p.mem in grind arith;
  coeff = λ m. let first = p.coeff m in let later = q.coeff (w m) in grind arith;
  opens = grind arith;
}

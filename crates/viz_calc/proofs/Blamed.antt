-- Causes, given less or more that fits.
use Rattle.viz_calc.specs.Run.{Run, Blames, BlamesButMem}

pub Blames-given : (a b : Run) (fits more : Type 0) → (more → fits) → Blames a b fits → Blames a b more
Blames-given a b fits more w p = record { mem = p.mem; coeff = λ m. p.coeff (w m); opens = p.opens }

pub ButMem-given : (a b : Run) (fits more : Type 0) → (more → fits) → BlamesButMem a b fits → BlamesButMem a b more
ButMem-given a b fits more w p = record { coeff = λ m. p.coeff (w m); opens = p.opens }

pub Blames-but-mem : (a b : Run) (fits more : Type 0) → (more → fits) → Blames a b fits → BlamesButMem a b more
Blames-but-mem a b fits more w p = record { coeff = λ m. p.coeff (w m); opens = p.opens }

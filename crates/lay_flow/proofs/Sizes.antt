-- Numbers that are low fit, and so do sums of a few of them.
use Rattle.std.proofs.Common.{ℕ, ◌+◌, ◌≤◌, ◌^◌, ℤ, pos, ◌+ℤ◌, ◌-ℤ◌, ◌≤ℤ◌, [], ◌∷◌, arith}
use Rattle.std.proofs.lemmas.Int.{ints, clamps}
use Rattle.std.specs.Int.{int_max}
use Rattle.viz_base.specs.declared.renderings.Quad.{Quad}
use Rattle.viz_calc.specs.State.{AllSmall}
use Rattle.page_limits.specs.Bounds.{all_around, IsLevelIn, IsQuadIn}
use Rattle.page_limits.specs.Boxes.{IsHeightClamped}
use Rattle.page_limits.specs.Inline.{IsSmall}
use Rattle.lay_margin.specs.declared.runs.Run.{Run}
use Rattle.lay_margin.specs.Fitting.{ends}
use Rattle.lay_margin.specs.Runs.{collapse, value_way}
use Rattle.lay_frame.specs.Fitting.{quad_way}
use Rattle.lay_flow.specs.Low.{IsLevelLow, IsAsideLow, IsRunLow}
use Rattle.lay_flow.specs.Fits.{IsNear}

-- ---- sizes

pub wider : (m k : ℕ) (a : ℤ) → IsSmall m a → m ≤ k → IsSmall k a
wider m k a s l = omega arith

pub fit : (m : ℕ) (a : ℤ) → IsSmall m a → m ≤ 2 ^ 100 → AllSmall (a ∷ [])
fit m a s l = (wider m (2 ^ 100) a s l, tt)

pub plus : (m n k : ℕ) (a b : ℤ) → IsSmall m a → IsSmall n b → m + n ≤ k → IsSmall k (a +ℤ b)
plus m n k a b s t l = omega (arith, ints)

pub less : (m n k : ℕ) (a b : ℤ) → IsSmall m a → IsSmall n b → m + n ≤ k → IsSmall k (a -ℤ b)
less m n k a b s t l = omega (arith, ints)

pub greater : (m : ℕ) (a b : ℤ) → IsSmall m a → IsSmall m b → IsSmall m (int_max a b)
greater m a b s t = omega (arith, ints, clamps)

pub zero-small : (m : ℕ) → IsSmall m (pos 0)
zero-small m = omega (arith, ints)

pub zero-fits : AllSmall (pos 0 ∷ [])
zero-fits = (zero-small (2 ^ 100), tt)

-- ---- heights

pub level-size : (n : ℕ) (y : ℤ) → IsLevelIn (all_around n) y → IsSmall n y
level-size n y l =
    let up : (pos 0 -ℤ pos n) ≤ℤ y = l.top in
    let down : y ≤ℤ pos n = l.bottom in
    omega (arith, ints)

pub size-level : (n : ℕ) (y : ℤ) → IsSmall n y → IsLevelIn (all_around n) y
size-level n y s =
    let up : (pos 0 -ℤ pos n) ≤ℤ y = omega (arith, ints) in
    let down : y ≤ℤ pos n = omega (arith, ints) in
    record { top = up; bottom = down }

pub level : (y : ℤ) → IsLevelLow y → IsSmall (2 ^ 90) y
level y l = level-size (2 ^ 90) y l

pub level-near : (y : ℤ) → IsLevelLow y → IsNear y
level-near y l = wider (2 ^ 90) (2 ^ 95) y (level y l) (omega arith)

pub level-fits : (y : ℤ) → IsLevelLow y → AllSmall (y ∷ [])
level-fits y l = fit (2 ^ 90) y (level y l) (omega arith)

pub aside-fits : (x : ℤ) → IsAsideLow x → AllSmall (x ∷ [])
aside-fits x s = fit (2 ^ 90) x s (omega arith)

pub near-fits : (x : ℤ) → IsNear x → AllSmall (x ∷ [])
near-fits x s = fit (2 ^ 95) x s (omega arith)

pub near-sum : (a b : ℤ) → IsNear a → IsNear b → AllSmall ((a +ℤ b) ∷ [])
near-sum a b s t = fit (2 ^ 96) (a +ℤ b) (plus (2 ^ 95) (2 ^ 95) (2 ^ 96) a b s t (omega arith)) (omega arith)

pub near-difference : (a b : ℤ) → IsNear a → IsNear b → AllSmall ((a -ℤ b) ∷ [])
near-difference a b s t = fit (2 ^ 96) (a -ℤ b) (less (2 ^ 95) (2 ^ 95) (2 ^ 96) a b s t (omega arith)) (omega arith)

pub aside-near : (x : ℤ) → IsAsideLow x → IsNear x
aside-near x s = wider (2 ^ 90) (2 ^ 95) x s (omega arith)

-- a height that is clamped is as small as the content's
pub clamped-small : (m : ℕ) (auto height : ℤ) → IsHeightClamped (2 ^ 90) auto height → IsSmall m auto → 2 ^ 90 ≤ m → IsSmall m height
clamped-small m auto height h s l = by (2 ^ 90) h.from h.to l
  where
    by : (t : ℕ) → (pos 0 -ℤ pos t) ≤ℤ height → height ≤ℤ int_max auto (pos t) → t ≤ m → IsSmall m height
    by t from to le = omega (arith, ints, clamps)

-- ---- rectangles

pub record IsQuadSmall (m : ℕ) (q : Quad ℤ) : Type 0 where
  pub left : IsSmall m q.left
  pub top : IsSmall m q.top
  pub right : IsSmall m q.right
  pub bottom : IsSmall m q.bottom

pub quad-size : (n : ℕ) (q : Quad ℤ) → IsQuadIn (all_around n) q → IsQuadSmall n q
quad-size n q i = record { left = i.left; top = level-size n q.top i.top; right = i.right; bottom = level-size n q.bottom i.bottom }

pub size-quad : (n : ℕ) (q : Quad ℤ) → IsQuadSmall n q → IsQuadIn (all_around n) q
size-quad n q s = record { left = s.left; top = size-level n q.top s.top; right = s.right; bottom = size-level n q.bottom s.bottom }

pub quad-fits : (m : ℕ) (q : Quad ℤ) → IsQuadSmall m q → m ≤ 2 ^ 100 → AllSmall (quad_way q)
quad-fits m q s l = (wider m (2 ^ 100) q.left s.left l, (wider m (2 ^ 100) q.top s.top l, (wider m (2 ^ 100) q.right s.right l, fit m q.bottom s.bottom l)))

-- ---- runs of margins

pub ends-fit : (r : Run ℤ) → IsRunLow r → AllSmall (ends r)
ends-fit r low = (wider (2 ^ 90) (2 ^ 100) r.pos low.most (omega arith), fit (2 ^ 90) r.neg low.least (omega arith))

pub run-small : (r : Run ℤ) → IsRunLow r → IsSmall (2 ^ 91) (collapse r)
run-small r low = plus (2 ^ 90) (2 ^ 90) (2 ^ 91) r.pos r.neg low.most low.least (omega arith)

pub value-fits : (r : Run ℤ) → IsRunLow r → AllSmall (value_way r)
value-fits r low = fit (2 ^ 91) (collapse r) (run-small r low) (omega arith)

pub run-near : (r : Run ℤ) → IsRunLow r → IsNear (collapse r)
run-near r low = wider (2 ^ 91) (2 ^ 95) (collapse r) (run-small r low) (omega arith)

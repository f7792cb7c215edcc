use Rattle.std.proofs.Common.{◌≡◌, ℕ, zero, suc, ◌+◌, ◌<◌, ◌≤◌, Bool, true, false, cond, IsTrue, refl, arith}
use Rattle.std.specs.List.{range_with_len, prefix_len}

-- how many numbers from one on pass a test, up to n of them
pub prefix-within : (p : ℕ → Bool) (a n : ℕ) → prefix_len p (range_with_len a n) ≤ n
prefix-within p a zero = omega arith
prefix-within p a (suc n) = by (p a) (prefix-within p (a + 1) n)
  where
    by : (b : Bool) → prefix_len p (range_with_len (a + 1) n) ≤ n → cond b (1 + prefix_len p (range_with_len (a + 1) n)) 0 ≤ suc n
    by true l = omega arith
    by false l = omega arith

-- each of these passes it
pub prefix-passes : (p : ℕ → Bool) (a n k : ℕ) → a ≤ k → k < a + prefix_len p (range_with_len a n) → IsTrue (p k)
prefix-passes p a zero k l h = absurd (omega arith)
prefix-passes p a (suc n) k l h = by (p a) refl h (prefix-passes p (a + 1) n k)
  where
    by : (b : Bool) → p a ≡ b → k < a + cond b (1 + prefix_len p (range_with_len (a + 1) n)) 0 → (a + 1 ≤ k → k < a + 1 + prefix_len p (range_with_len (a + 1) n) → IsTrue (p k)) → IsTrue (p k)
    by true e h rest = grind arith
    by false e h rest = absurd (omega arith)

-- and they are as many as pass it without a gap
pub prefix-longest : (p : ℕ → Bool) (a n m : ℕ) → m ≤ n → ((k : ℕ) → a ≤ k → k < a + m → IsTrue (p k)) → m ≤ prefix_len p (range_with_len a n)
prefix-longest p a zero m l h = omega arith
prefix-longest p a (suc n) zero l h = omega arith
prefix-longest p a (suc n) (suc m) l h = by (p a) (h a (omega arith) (omega arith)) (prefix-longest p (a + 1) n m (omega arith) (λ k l' h'. h k (omega arith) (omega arith)))
  where
    by : (b : Bool) → IsTrue b → m ≤ prefix_len p (range_with_len (a + 1) n) → suc m ≤ cond b (1 + prefix_len p (range_with_len (a + 1) n)) 0
    by true t rest = omega arith
    by false t rest = absurd (cc)

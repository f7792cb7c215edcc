-- Counts that rise.
use Rattle.std.proofs.Common.{◌≤◌, ℕ, arith}
use Rattle.viz_base.specs.Numbers.{Rose}

-- what rose in one call rose over all of them
pub rose_within : (a b c d : ℕ) → a ≤ b → b ≤ c → Rose b c → c ≤ d → Rose a d
rose_within a b c d first here rose last = grind arith

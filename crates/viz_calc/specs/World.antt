use Rattle.std.specs.Prelude.{ℕ, ℤ}
use Rattle.viz_base.specs.declared.worlds.World.{World}

-- a world, with a value for each floor term that a symbolic number may name
pub record Reading : Type 0 where
  pub world : World
  pub terms : ℕ → ℤ

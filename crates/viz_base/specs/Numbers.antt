use Rattle.std.specs.Prelude.{◌≡◌, ◌<◌, ◌-◌, ◌^◌, ◌⊎◌, ℕ, ℤ, pos}
use Rattle.std.specs.Int.{int_div_euclid}

-- a number divided by a positive one, rounded towards minus infinity
abbrev pub floor_of : ℤ → ℕ → ℤ
floor_of a d = int_div_euclid a (pos d)

-- a count rose from old to new, or stands at the end of 64 bits, where a count that is kept in them stops
abbrev pub Rose : ℕ → ℕ → Type 0
Rose old new = (old < new) ⊎ (new ≡ 2 ^ 64 - 1)

-- The worlds of a rectangle, by width, then by size, and then by height.
use Rattle.std.specs.Prelude.{ℕ, zero, suc, ◌+◌, ◌-◌, Bool, true, false, not, Option, Some, None}
use Rattle.viz_base.specs.declared.worlds.World.{World}
use Rattle.viz_base.specs.declared.worlds.Rect.{Rect}
use Rattle.viz_base.specs.declared.jobs.Job.{Job}
use Rattle.cert_check.specs.Truths.{is_true_at}

-- ---- the first number at which something is found

abbrev pub or_next : {A : Type 0} → Option A → Option A → Option A
or_next (Some x) next = Some x
or_next None next = next

-- the first that f finds at n numbers from a on
unfoldable pub seek : {A : Type 0} → (ℕ → Option A) → ℕ → ℕ → Option A
seek f a zero = None
seek f a (suc n) = or_next (f a) (seek f (a + 1) n)

-- ---- the first world that passes a test

abbrev pub if_so : Bool → World → Option World
if_so true world = Some world
if_so false world = None

abbrev pub at_world : (World → Bool) → ℕ → ℕ → ℕ → Option World
at_world test w s h = if_so (test (record { w = w; s = s; h = h })) (record { w = w; s = s; h = h })

-- of a width and a size
abbrev pub first_of_size : (World → Bool) → Rect → ℕ → ℕ → Option World
first_of_size test r w s = seek (at_world test w s) r.hl (r.hh + 1 - r.hl)

-- of a width
abbrev pub first_of_width : (World → Bool) → Rect → ℕ → Option World
first_of_width test r w = seek (first_of_size test r w) r.sl (r.sh + 1 - r.sl)

-- of a rectangle
abbrev pub first_world : (World → Bool) → Rect → Option World
first_world test r = seek (first_of_width test r) r.wl (r.wh + 1 - r.wl)

-- ---- what is looked for

-- the formula is false at a world
abbrev pub is_untrue : Job → World → Bool
is_untrue job world = not (is_true_at job world)

-- Where a job's formula is true of its page.
use Rattle.std.specs.Prelude.{◌≡◌, ◌⊎◌, ◌<◌, Bool, true, false, ℤ, IsTrue}
use Rattle.viz_base.specs.declared.worlds.World.{World}
use Rattle.viz_base.specs.declared.worlds.Rect.{Rect}
use Rattle.viz_base.specs.declared.jobs.Job.{Job}
use Rattle.viz_base.specs.declared.renderings.Rendering.{Rendering}
use Rattle.layout_semantics.specs.Page.{page_rendering}
use Rattle.viz_base.specs.Worlds.{IsInRange}
use Rattle.logic_semantics.specs.Ranges.{holds_at}
use Rattle.logic_semantics.specs.Ranges.{Holds as HoldsOver}
use Rattle.cert_semantics.specs.Paths.{Path, IsOn}

-- the rendering of a job's page at a world
abbrev pub rendering_of : Job → World → Rendering ℤ
rendering_of job world = page_rendering job.tree world

-- the truth of a job's formula at a world
abbrev pub is_true_at : Job → World → Bool
is_true_at job world = holds_at (rendering_of job) job.formula world

-- the job holds: at each world of its range its formula is true of the page's rendering
abbrev pub Holds : Job → Type 0
Holds job = HoldsOver (rendering_of job) job.range job.formula

-- ---- over a rectangle

-- worlds go by width, those of one width by size, and those of one size too by height
abbrev pub IsBefore : World → World → Type 0
IsBefore a b = (a.w < b.w) ⊎ ((a.w ≡ b.w) × ((a.s < b.s) ⊎ ((a.s ≡ b.s) × (a.h < b.h))))

-- the formula is true at each world of a rectangle
abbrev pub IsTrueIn : Job → Rect → Type 0
IsTrueIn job r = (world : World) → IsInRange r world → IsTrue (is_true_at job world)

-- the first world of a rectangle at which it is false
pub record IsFirstUntrueIn (job : Job) (r : Rect) (world : World) : Type 0 where
  pub in_rectangle : IsInRange r world
  pub untrue : is_true_at job world ≡ false
  pub first : (other : World) → IsBefore other world → IsInRange r other → IsTrue (is_true_at job other)

-- ---- on a path

-- its truth is this one at each world of the range on a path
abbrev pub IsThroughout : Job → Path → Bool → Type 0
IsThroughout job path wanted = (world : World) → IsInRange job.range world → IsOn path world
    → is_true_at job world ≡ wanted

-- it is true at each of them
abbrev pub IsTrueOn : Job → Path → Type 0
IsTrueOn job path = IsThroughout job path true

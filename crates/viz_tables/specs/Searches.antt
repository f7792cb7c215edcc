-- What the steps of a survey find.
use Rattle.std.specs.Prelude.{◌≡◌, ℕ, ◌+◌, ◌*◌, ◌<◌, ◌≤◌, ◌==◌, true, false, List, [], ◌∷◌, if◌then◌else◌}
use Rattle.std.specs.List.{AllByRecursion}
use Rattle.viz_base.specs.Jobs.{IsRange}
use Rattle.viz_base.specs.declared.jobs.Job.{Job}
use Rattle.viz_base.specs.declared.worlds.Rect.{Rect}
use Rattle.viz_base.specs.declared.worlds.World.{World}
use Rattle.viz_base.specs.Worlds.{world_count, IsInRange}
use Rattle.viz_base.specs.Halves.{middle}
use Rattle.cert_check.specs.Truths.{is_true_at}
use Rattle.viz_replies.specs.Parts.{are_true_at}
use Rattle.prove_search.specs.declared.outcome.Outcome.{Outcome}
use Rattle.prove_search.specs.declared.outcome.Outcome.TheVariants as outcomes
use Rattle.viz_tables.specs.declared.searching.Found.{Found}
use Rattle.viz_tables.specs.declared.searching.Found.TheVariants as found
use Rattle.viz_tables.specs.declared.searching.Stretch.{Stretch}
use Rattle.viz_tables.specs.declared.searching.Tried.{Tried}
use Rattle.viz_tables.specs.declared.searching.Tried.TheVariants as tried
use Rattle.viz_tables.specs.declared.words.Word.TheVariants.{Undecided}
use Rattle.viz_tables.specs.declared.words.Line.{Line}
use Rattle.viz_tables.specs.Words.{AreLinesOf, IsRight, undecided_line}

-- the part of a range with these widths
abbrev pub part_of : Rect → (wl wh : ℕ) → Rect
part_of range wl wh = record { wl = wl; wh = wh; sl = range.sl; sh = range.sh; hl = range.hl; hh = range.hh }

-- what a search over a part of a job's range finds
abbrev pub IsFound : Job → Rect → ℕ → Outcome → Type 0
IsFound job part turns (outcomes.Proved cert) = (world : World) → IsInRange part world → is_true_at job world ≡ true
IsFound job part turns (outcomes.Violated world) = IsInRange part world × (is_true_at job world ≡ false)
IsFound job part turns (outcomes.Undecided left) = turns + 1 < 2 * world_count part

abbrev pub found_of : Outcome → Found
found_of (outcomes.Proved cert) = found.True
found_of (outcomes.Violated world) = found.FalseAt world
found_of (outcomes.Undecided left) = found.Open

-- the same without its certificate
abbrev pub IsSought : Job → Rect → ℕ → Found → Type 0
IsSought job part turns found.True = (world : World) → IsInRange part world → is_true_at job world ≡ true
IsSought job part turns (found.FalseAt world) = IsInRange part world × (is_true_at job world ≡ false)
IsSought job part turns found.Open = turns + 1 < 2 * world_count part

-- a world with another width
abbrev pub at_width : ℕ → World → World
at_width w world = record { w = w; s = world.s; h = world.h }

-- what is right from a width on up to the width of a world
pub record IsStretch (job : Job) (turns w : ℕ) (stretch : Stretch) : Type 0 where
  pub end : IsInRange job.range stretch.end
  pub least : w ≤ stretch.end.w
  pub right : (x : ℕ) → w ≤ x → x ≤ stretch.end.w → IsRight job.range (is_true_at job) turns stretch.word x

-- what a try from a width on up to the width of a world comes to
abbrev pub IsTried : Job → (turns w : ℕ) → World → Tried → Type 0
IsTried job turns w end (tried.Found stretch) = IsStretch job turns w stretch
IsTried job turns w end (tried.Shorter other) = IsInRange job.range other × (w ≤ other.w) × (other.w < end.w)

-- what comes of a search that left open the widths from one on up to that of a world
abbrev pub left_open : ℕ → World → Tried
left_open w end =
    if w == end.w then tried.Found (record { end = end; word = Undecided })
    else tried.Shorter (at_width (middle w end.w) end)

-- jobs are all over the same range
abbrev pub HaveRange : List Job → Type 0
HaveRange jobs = (range : Rect) × IsRange range × AllByRecursion (λ (job : Job). job.range ≡ range) jobs

-- the lines of jobs that all are over the same range
abbrev pub AreSurveyed : List Job → ℕ → List Line → Type 0
AreSurveyed jobs turns lines = (range : Rect) × AllByRecursion (λ (job : Job). job.range ≡ range) jobs
    × AreLinesOf range (are_true_at jobs) turns lines × (turns ≡ 0 → lines ≡ undecided_line range ∷ [])

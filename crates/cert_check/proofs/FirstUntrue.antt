-- The first world of a rectangle at which the formula is false.
use Rattle.std.proofs.Common.{◌≡◌, Option, Some, None, Ok, Err, sym}
use Rattle.std.proofs.lemmas.Bool.{not-false, not-true}
use Rattle.viz_base.specs.declared.memory.Mem.{Mem}
use Rattle.std.specs.Prelude.{IfOk, Result}
use Rattle.std.specs.Option.{MatchOption}
use Rattle.viz_base.specs.declared.worlds.World.{World}
use Rattle.viz_base.specs.declared.worlds.Rect.{Rect}
use Rattle.viz_base.specs.declared.jobs.Job.{Job}
use Rattle.cert_check.specs.Truths.{is_true_at, IsTrueIn, IsFirstUntrueIn}
use Rattle.cert_check.specs.steps.Worlds.{is_untrue, first_world}
use Rattle.cert_check.proofs.FirstWorlds.{none_passes, first_found}

found_means : (job : Job) (r : Rect) (found : Option World) → found ≡ first_world (is_untrue job) r → MatchOption found (IsTrueIn job r) (IsFirstUntrueIn job r)
found_means job r None is = λ world i. not-false (is_true_at job world) (none_passes (is_untrue job) r (sym is) world i)
found_means job r (Some world) is =
    let found = first_found (is_untrue job) r world (sym is) in
    record {
      in_rectangle = found.in_rectangle;
      untrue = not-true (is_true_at job world) found.passes;
      first = λ other before i. not-false (is_true_at job other) (found.first other before i);
    }

pub answer_means : (job : Job) (r : Rect) (answer : Result (Option World) Mem) → IfOk answer (λ found. found ≡ first_world (is_untrue job) r)
    → IfOk answer (λ found. MatchOption found (IsTrueIn job r) (IsFirstUntrueIn job r))
answer_means job r (Ok found) is = found_means job r found is
answer_means job r (Err fault) is = tt

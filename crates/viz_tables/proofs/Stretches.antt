-- What searches and single layouts tell of widths.
use Rattle.std.proofs.Common.{◌≡◌, ◌∙◌, ℕ, ◌+◌, ◌-◌, ◌<◌, ◌≤◌, Bool, true, false, List, ◌++◌, length, refl, sym, ap, subst, arith, leb-true, leb-false}
use Rattle.std.proofs.lemmas.List.{length-append, length-replicate}
use Rattle.std.specs.Prelude.{nat_le, replicate}
use Rattle.viz_base.specs.declared.jobs.Job.{Job}
use Rattle.viz_base.specs.declared.worlds.Rect.{Rect}
use Rattle.viz_base.specs.declared.worlds.World.{World}
use Rattle.viz_base.specs.Worlds.{IsInRange}
use Rattle.cert_check.specs.Truths.{is_true_at}
use Rattle.viz_tables.specs.declared.searching.Stretch.{Stretch}
use Rattle.viz_tables.specs.declared.words.Word.{Word}
use Rattle.viz_tables.specs.declared.words.Word.TheVariants.{Holds, Fails, Undecided}
use Rattle.prove_search.specs.declared.outcome.Outcome.{Outcome}
use Rattle.prove_search.specs.declared.outcome.Outcome.TheVariants as outcomes
use Rattle.viz_tables.specs.Searches.{IsFound, IsSought, IsStretch, at_width, found_of, part_of}
use Rattle.viz_tables.specs.Words.{AreRight}
use Rattle.viz_tables.proofs.Widths.{right_append, right_replicate}

-- what an outcome tells without its certificate
pub sought_of : (job : Job) (part : Rect) (turns : ℕ) (outcome : Outcome) → IsFound job part turns outcome → IsSought job part turns (found_of outcome)
sought_of job part turns (outcomes.Proved cert) h = h
sought_of job part turns (outcomes.Violated world) h = h
sought_of job part turns (outcomes.Undecided left) h = h

-- a world of a part of a range
pub inside_part : (range : Rect) (w : ℕ) (end world : World) → IsInRange range end → range.wl ≤ w → IsInRange (part_of range w end.w) world → IsInRange range world
inside_part range w end world inside least h =
    let most = inside.width_most in
    let from = h.width_least in
    let to = h.width_most in
    record {
      width_least = omega (arith, least, from);
      width_most = omega (arith, most, to);
      size_least = h.size_least;
      size_most = h.size_most;
      height_least = h.height_least;
      height_most = h.height_most;
    }

-- a world of the range with another width of it
pub inside_at : (range : Rect) (x : ℕ) (world : World) → IsInRange range world → range.wl ≤ x → x ≤ range.wh → IsInRange range (at_width x world)
inside_at range x world inside least most = record {
  width_least = least;
  width_most = most;
  size_least = inside.size_least;
  size_most = inside.size_most;
  height_least = inside.height_least;
  height_most = inside.height_most;
}

-- the formula is false from a world's width on
pub fails_stretch : (job : Job) (turns last : ℕ) (world : World) → IsInRange job.range world → world.w ≤ last → last ≤ job.range.wh
    → ((x : ℕ) → world.w ≤ x → x ≤ last → is_true_at job (at_width x world) ≡ false) → IsStretch job turns world.w (record { end = at_width last world; word = Fails })
fails_stretch job turns last world inside least most untrue =
    let from = inside.width_least in
    record {
      end = inside_at job.range last world inside (omega (arith, from, least)) most;
      least = least;
      right = λ x low high. (
        at_width x world,
        record { inside = inside_at job.range x world inside (omega (arith, from, low)) (omega (arith, most, high)); width = refl },
        untrue x low high,
      );
    }

-- the formula is true in a part
pub holds_stretch : (job : Job) (turns w : ℕ) (end : World) → IsInRange job.range end → job.range.wl ≤ w → w ≤ end.w
    → ((world : World) → IsInRange (part_of job.range w end.w) world → is_true_at job world ≡ true) → IsStretch job turns w (record { end = end; word = Holds })
holds_stretch job turns w end inside least most all = record {
  end = inside;
  least = most;
  right = λ x low high world is. all world (
      let here = is.width in
      record {
        width_least = omega (arith, here, low);
        width_most = omega (arith, here, high);
        size_least = is.inside.size_least;
        size_most = is.inside.size_most;
        height_least = is.inside.height_least;
        height_most = is.inside.height_most;
      }
      );
}

below : (a b : ℕ) → a ≤ b → (a ≡ b → ⊥) → a < b
below a b least other = by_test (nat_le b a) refl
  where
    by_test : (t : Bool) → nat_le b a ≡ t → a < b
    by_test true is = absurd (other (let most = leb-true b a is in omega (arith, least, most)))
    by_test false is = leb-false b a is

-- ---- sweeps

-- the words of a stretch behind those before it
module _ (job : Job) (turns : ℕ) (words after : List Word) (start : World) (stretch : Stretch) (count : job.range.wl + length words ≡ start.w)
    (is : IsStretch job turns start.w stretch) (pushed : after ≡ words ++ replicate (stretch.end.w - start.w + 1) stretch.word)
  where
    abbrev pieces : ℕ
    pieces = stretch.end.w - start.w + 1

    pub swept_right : AreRight job.range (is_true_at job) turns job.range.wl words → AreRight job.range (is_true_at job) turns job.range.wl after
    swept_right h =
        let least = is.least in
        subst (AreRight job.range (is_true_at job) turns job.range.wl) (sym pushed)
        (right_append job.range (is_true_at job) turns job.range.wl words (replicate pieces stretch.word) h
        (subst (λ w. AreRight job.range (is_true_at job) turns w (replicate pieces stretch.word)) (sym count)
        (right_replicate job.range (is_true_at job) turns pieces start.w stretch.word (λ x low high. is.right x low (omega (arith, least, high))))))

    pub swept_count : job.range.wl + length after ≡ stretch.end.w + 1
    swept_count =
        let least = is.least in
        let sizes : length after ≡ length words + pieces = ap length pushed ∙ (length-append words (replicate pieces stretch.word) ∙ ap (λ n. length words + n) (length-replicate pieces stretch.word)) in
        omega (arith, least, sizes, count)

    pub swept_inside : (most : ℕ) → most ≡ job.range.wh → (stretch.end.w ≡ most → ⊥) → IsInRange job.range (at_width (stretch.end.w + 1) stretch.end)
    swept_inside most same other =
        let end = is.end in
        let from = end.width_least in
        let less = below stretch.end.w job.range.wh end.width_most (λ e. other (e ∙ sym same)) in
        inside_at job.range (stretch.end.w + 1) stretch.end end (omega (arith, from)) (omega (arith, less))

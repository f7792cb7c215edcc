use Rattle.std.proofs.Common.{◌≡◌, ◌+◌, ◌∙◌, length, get_or, map, option_map, refl, sym, ap, subst}
use Rattle.std.proofs.lemmas.Option.{slice_get-map, slice_get_past, slice_get_read}
use Rattle.std.proofs.lemmas.List.{drop_more}
use Rattle.css_cascade.specs.steps.Buckets.{numbered}
use Rattle.css_cascade.specs.steps.Seen.{seen}
use Rattle.css_cascade.proofs.Tries.{ReachedTry, try_end, try_more, try_past}
use Rattle.css_cascade.proofs.trying.try_all.Goals.{in-Some, in_default}
use Rattle.css_cascade.proofs.trying.try_all.Goals as goal

pub loop-number-preserved : goal.loop-number-preserved
loop-number-preserved c =
    let candidates = c.args.candidates.now in
    let numbers = c.args.numbers.now in
    let k = c.loop-number.number-index in
    let x = get_or numbers k 0 in
    let at = drop_more numbers k 0 c.loop-number-test.true in
    let reached = c.loop-number.invariant.1 in
    elim c.match-get.branch [
      | in-Some w ↦
          subst (λ b. (length b.items ≡ 40) × ReachedTry c.args.page.now.nodes c.args.node c.args.rulesets.now (map numbered candidates) numbers (k + 1) (map (option_map seen) c.args.best.now.items) (map (option_map seen) b.items) c.match-get.going) (sym w.best-is) (
            w.try_one-going.ensures.len,
            subst (ReachedTry _ _ _ _ _ _ _ _) (sym w.going-is)
                (try_more _ _ _ _ _ _ _ _ _ _ _ x (numbered w.in-Some.candidate.now) at (slice_get-map numbered candidates x ∙ ap (option_map numbered) (slice_get_read candidates (length candidates) x w.in-Some.candidate.now refl w.in-Some.ensures.lookup.3.0 w.in-Some.ensures.lookup.1)) reached w.try_one-going.ensures.tried),
          )
      | in_default w ↦
          subst (λ b. (length b.items ≡ 40) × ReachedTry c.args.page.now.nodes c.args.node c.args.rulesets.now (map numbered candidates) numbers (k + 1) (map (option_map seen) c.args.best.now.items) (map (option_map seen) b.items) c.match-get.going) (sym w.best-is) (
            c.loop-number.invariant.0,
            subst (ReachedTry _ _ _ _ _ _ _ _) (sym w.going-is)
                (try_past _ _ _ _ _ _ _ _ _ x at (slice_get-map numbered candidates x ∙ ap (option_map numbered) (slice_get_past candidates x w.in_default.ensures.lookup.3)) reached),
          )
    ]

pub returns-clause-tried : goal.returns-clause-tried
returns-clause-tried c = try_end _ _ _ _ _ _ _ _ _ _ c.loop-number-test.false c.loop-number.invariant.1 c.keep_last.ensures.kept

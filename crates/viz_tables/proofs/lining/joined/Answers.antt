use Rattle.std.proofs.Common.{◌+◌, sym, subst}
use Rattle.std.proofs.lemmas.Option.{slice_get-get_or}
use Rattle.viz_tables.specs.Joins.{EndsOther, IsSaid}
use Rattle.viz_tables.specs.Words.{AreLines}
use Rattle.viz_tables.proofs.LineLemmas.{run_ends, run_more}
use Rattle.viz_tables.proofs.lining.joined.Goals as goal

pub loop-from-preserved : goal.loop-from-preserved
loop-from-preserved c =
    let words = c.args.words.now in
    let wl = c.args.wl in
    let from = c.loop-from.from in
    let lines = c.loop-from.lines in
    let before = c.loop-from.invariant in
    let behind = c.other_from-behind.result in
    let found = c.other_from-behind.ensures in
    let here = slice_get-get_or words from _ c.loop-from-test.true in
    record {
      most = found.most;
      lines = subst (AreLines (IsSaid words wl) wl (wl + behind)) (sym c.in_ok-push.ensures.ok)
          (run_more words wl from behind _ found.least here found.same lines before.lines (before.other _ c.loop-from-test.true here));
      other = λ next inside is. subst (λ all. EndsOther all next) (sym c.in_ok-push.ensures.ok)
          (run_ends words wl from behind _ found.least here found.same lines found.other inside next is);
    }

use Rattle.std.proofs.Common.{◌<◌, subst, arith}
use Rattle.prove_search.proofs.Closing.{within_within, halving_of, halved_has, middle_bound, first_fewer, second_fewer, passed_on, stops_first, stops_second, closes_split}
use Rattle.prove_search.proofs.plain.+decide.Goals as goal

pub decide-requires : goal.decide-requires
decide-requires t c =
    let r = c.args.rect in
    let h = c.halves_of-halves.result in
    let many = subst (λ n. 64 < n) c.world_count.ensures c.if-world_count-le-MOST_WORLDS.false in
    let half = halving_of r h c.requires.proper many c.halves_of-halves.ensures in
    let fewer = first_fewer r h half in
    (omega arith, (within_within c.args.job.now.range r h.first c.requires.within half.first_within, half.first_proper))

pub decide-requires-2 : goal.decide-requires-2
decide-requires-2 t c =
    let r = c.args.rect in
    let h = c.halves_of-halves.result in
    let many = subst (λ n. 64 < n) c.world_count.ensures c.if-world_count-le-MOST_WORLDS.false in
    let half = halving_of r h c.requires.proper many c.halves_of-halves.ensures in
    let fewer = second_fewer r h half in
    (omega arith, (within_within c.args.job.now.range r h.second c.requires.within half.second_within, half.second_proper))

pub returns-in_err-first : goal.returns-in_err-first
returns-in_err-first t c =
    let r = c.args.rect in
    let h = c.halves_of-halves.result in
    let many = subst (λ n. 64 < n) c.world_count.ensures c.if-world_count-le-MOST_WORLDS.false in
    let half = halving_of r h c.requires.proper many c.halves_of-halves.ensures in
    passed_on c.args.job.now r c.args.turns c.from_residual.result c.in_err-first.field-0.0 c.from_residual.ensures
    (stops_first c.args.job.now r h c.args.turns half many (omega arith) c.in_err-first.field-0.0 c.in_err-first.ensures)

pub returns-in_err-second : goal.returns-in_err-second
returns-in_err-second t c =
    let r = c.args.rect in
    let h = c.halves_of-halves.result in
    let many = subst (λ n. 64 < n) c.world_count.ensures c.if-world_count-le-MOST_WORLDS.false in
    let half = halving_of r h c.requires.proper many c.halves_of-halves.ensures in
    passed_on c.args.job.now r c.args.turns c.from_residual-in_err-second.result c.in_err-second.field-0.0 c.from_residual-in_err-second.ensures
    (stops_second c.args.job.now r h c.args.turns c.in_ok-first.first half many (omega arith) c.in_ok-first.ensures c.in_err-second.field-0.0 c.in_err-second.ensures)

pub returns : goal.returns
returns t c =
    let job = c.args.job.now in
    let r = c.args.rect in
    let h = c.halves_of-halves.result in
    let many = subst (λ n. 64 < n) c.world_count.ensures c.if-world_count-le-MOST_WORLDS.false in
    let half = halving_of r h c.requires.proper many c.halves_of-halves.ensures in
    closes_split job r h c.args.turns c.in_ok-first.first c.in_ok-second.second c.in_ok-node.node half many (omega arith)
    (middle_bound job.range r h job.ok.in_range c.requires.within half) (halved_has job r h job.ok.formed c.requires.within half) c.in_ok-first.ensures c.in_ok-second.ensures c.in_ok-node.ensures

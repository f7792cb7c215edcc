use Rattle.std.proofs.Common.{◌-◌, length, arith}
use Rattle.layout_semantics.specs.LineFilling.{may_hold}
use Rattle.layout_laws.proofs.Prefixes.{prefix-within, prefix-passes, prefix-longest}
use Rattle.layout_laws.proofs.lines.a_line_holds_the_longest_beginning_that_fits.Goals as goal

pub returns-clause-each_fits : goal.returns-clause-each_fits
returns-clause-each_fits c formatting line k low high = prefix-passes (may_hold formatting line) 2 (length line.parts - 1) k low (omega arith)

pub returns-clause-within : goal.returns-clause-within
returns-clause-within c formatting line some = let most = prefix-within (may_hold formatting line) 2 (length line.parts - 1) in omega arith

pub returns-clause-longest : goal.returns-clause-longest
returns-clause-longest c formatting line n most each =
    let long = prefix-longest (may_hold formatting line) 2 (length line.parts - 1) (n - 1) (omega arith) (λ k low high. each k low (omega arith)) in
    omega arith

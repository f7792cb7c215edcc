use Rattle.std.proofs.Common.{length, ap, arith}
use Rattle.sym_calc.proofs.Along.{variables_of}
use Rattle.cert_check.specs.steps.Ways.{path_at}
use Rattle.cert_semantics.specs.Axes.{axis_count}
use Rattle.cert_check.proofs.Descents.{form_is}
use Rattle.cert_check.proofs.descent.Descent.variables.Goals as goal

pub overflow_cast-result : goal.overflow_cast-result
overflow_cast-result c =
    let s = c.args.self.now in
    let count = variables_of (path_at s) in
    let floors = ap length s.floors in
    let same = ap axis_count (form_is s.job.now.form s.above) in
    omega (arith, count, floors, same)

pub overflow_add-result : goal.overflow_add-result
overflow_add-result c =
    let s = c.args.self.now in
    let count = variables_of (path_at s) in
    let floors = ap length s.floors in
    let same = ap axis_count (form_is s.job.now.form s.above) in
    omega (arith, count, floors, same)

pub returns : goal.returns
returns c =
    let s = c.args.self.now in
    let count = variables_of (path_at s) in
    let floors = ap length s.floors in
    let same = ap axis_count (form_is s.job.now.form s.above) in
    omega (arith, count, floors, same)

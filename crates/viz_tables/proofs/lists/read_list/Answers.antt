use Rattle.std.proofs.Common.{◌≡◌, ◌≢◌, ◌∙◌, ◌+◌, ℕ, Err, length, refl, rules, sym}
use Rattle.viz_tables.specs.declared.faults.ListFault.TheVariants.{Form, Mem}
use Rattle.viz_tables.specs.Lists.{IsListOf}
use Rattle.viz_tables.proofs.Readings.{left_behind, one_broken, one_more, read_by}
use Rattle.viz_tables.proofs.lists.read_list.Goals as goal

pub returns-in-None : goal.returns-in-None
returns-in-None c =
    read_by c.args.bytes.now c.loop-rules.rest.now c.loop-rules.rules c.ended.result c.loop-rules.invariant (sym c.feed_at.ensures.value ∙ c.in-None.is) c.ended.ensures

pub returns-in_err-add_line-in-Some : goal.returns-in_err-add_line-in-Some
returns-in_err-add_line-in-Some c =
    let bytes = c.args.bytes.now in
    let fault = c.in_err-add_line-in-Some.field-0.0 in
    let k : (fault ≢ Mem → (line : ℕ) × IsListOf bytes (Err line) × (fault ≡ Form line)) = λ other.
    (let told = c.in_err-add_line-in-Some.ensures other in
    (length c.loop-rules.rules, one_broken bytes c.loop-rules.rest.now _ c.loop-rules.rules c.in-Some.at c.loop-rules.invariant (sym c.feed_at.ensures.value ∙ c.in-Some.is) refl told.0, told.1)) in
    search rules

pub loop-rules-preserved : goal.loop-rules-preserved
loop-rules-preserved c =
    let told = c.in_ok-add_line-in-Some.ensures in
    one_more c.args.bytes.now c.loop-rules.rest.now _ c.loop-rules.rules c.in-Some.at c.loop-rules.invariant (sym c.feed_at.ensures.value ∙ c.in-Some.is) refl
    told.0 c.add_line.new.rules _ told.1 told.2 (left_behind (c.in-Some.at + 1) c.loop-rules.rest.now)

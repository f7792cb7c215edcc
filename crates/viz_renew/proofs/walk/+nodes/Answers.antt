use Rattle.std.proofs.Common.{◌≡◌, ◌+◌, ◌∙◌, true, refl, sym, ap, subst, arith, rules, FitsSigned, to_z, of_z, to_z-of_z}
use Rattle.std.specs.Int.{w128}
use Rattle.std.proofs.lemmas.Bool.{and_parts}
use Rattle.std.proofs.lemmas.Result.{IfOk-weaker}
use Rattle.viz_base.specs.declared.jobs.Job.{Job}
use Rattle.lin_proof.specs.Form.{denied, form_fits}
use Rattle.cert_text.specs.declared.certificate.CertNode.TheVariants.{Def, Split, Lemma, Leaf}
use Rattle.cert_text.specs.Nodes.{node_count}
use Rattle.cert_semantics.specs.Nodes.{splits}
use Rattle.cert_semantics.specs.Paths.{def, first, second, lemma, is_declared}
use Rattle.cert_semantics.specs.Shapes.{has_variable, is_shaped}
use Rattle.viz_base.specs.declared.rectangles.Child.TheVariants.{First, Second}
use Rattle.cert_check.specs.steps.Ways.{path_at}
use Rattle.cert_check.proofs.Tellings.{count-Def, count-Split, count-Lemma}
use Rattle.viz_renew.specs.Pieces.{is_firm}
use Rattle.viz_renew.specs.steps.Walks.{KeepsBelow, KeepsHere}
use Rattle.viz_renew.proofs.Heres.{here_less, below_def, below_lemma, below_part, here_behind}
use Rattle.viz_renew.proofs.Marks.{grid_mark, leaf_mark}
use Rattle.viz_renew.proofs.Walking.{goes_down, passes_by, stays_above, keeps_parts, passes_parts, def_keeps, lemma_keeps, split_keeps, void_keeps, grid_keeps, leaf_keeps}
use Rattle.viz_renew.proofs.walk.+nodes.Goals as goal

-- ---- a node

pub keep_node-keep_def-requires : goal.keep_node-keep_def-requires
keep_node-keep_def-requires t c =
    let whole : node_count c.args.node.now ≡ 1 + node_count c.in-Def.below = ap node_count c.in-Def.is ∙ count-Def c.in-Def.row c.in-Def.by c.in-Def.below in
    let below : node_count c.get.result.now ≡ node_count c.in-Def.below = ap node_count c.get.ensures in
    let few = c.requires.few in
    (omega arith, record { few = omega arith; part = c.requires.part; within = c.requires.within })

pub keep_node-returns-in-Def-clause-keeps : goal.keep_node-returns-in-Def-clause-keeps
keep_node-returns-in-Def-clause-keeps t c =
    let fits : FitsSigned w128 c.get-by.result.now = search rules in
    let same : to_z w128 (of_z w128 c.get-by.result.now) ≡ c.in-Def.by = to_z-of_z fits ∙ c.get-by.ensures in
    let is : c.args.node.now ≡ Def c.get-row.result.now (to_z w128 (of_z w128 c.get-by.result.now)) c.get.result.now =
    c.in-Def.is ∙ (λ i. Def (sym c.get-row.ensures i) (sym same i) (sym c.get.ensures i)) in
    IfOk-weaker c.keep_def.result _ _
    (λ next h path like stand. def_keeps c.args.descent.now.job.now c.args.node.now path c.args.here.kept next c.get-row.result.now (to_z w128 (of_z w128 c.get-by.result.now)) c.get.result.now is (h path like stand))
    c.keep_def.ensures.keeps

pub keep_node-keep_split-requires : goal.keep_node-keep_split-requires
keep_node-keep_split-requires t c =
    let whole : node_count c.args.node.now ≡ 1 + (node_count c.in-Split.one + node_count c.in-Split.other) = ap node_count c.in-Split.is ∙ count-Split c.in-Split.row c.in-Split.one c.in-Split.other in
    let one : node_count c.get-in-Split.result.now ≡ node_count c.in-Split.one = ap node_count c.get-in-Split.ensures in
    let other : node_count c.get-in-Split-2.result.now ≡ node_count c.in-Split.other = ap node_count c.get-in-Split-2.ensures in
    let few = c.requires.few in
    (omega arith, record { few = omega arith; part = c.requires.part; within = c.requires.within })

pub keep_node-returns-in-Split-clause-keeps : goal.keep_node-returns-in-Split-clause-keeps
keep_node-returns-in-Split-clause-keeps t c =
    let is : c.args.node.now ≡ Split c.get-row-in-Split.result.now c.get-in-Split.result.now c.get-in-Split-2.result.now =
    c.in-Split.is ∙ (λ i. Split (sym c.get-row-in-Split.ensures i) (sym c.get-in-Split.ensures i) (sym c.get-in-Split-2.ensures i)) in
    IfOk-weaker c.keep_split.result _ _
    (λ next h path like stand. split_keeps c.args.descent.now.job.now c.args.node.now path c.args.here.kept next c.get-row-in-Split.result.now c.get-in-Split.result.now c.get-in-Split-2.result.now is (h path like stand))
    c.keep_split.ensures.keeps

pub keep_node-keep_lemma-requires : goal.keep_node-keep_lemma-requires
keep_node-keep_lemma-requires t c =
    let whole : node_count c.args.node.now ≡ 1 + node_count c.in-Lemma.below = ap node_count c.in-Lemma.is ∙ count-Lemma c.in-Lemma.row c.in-Lemma.why c.in-Lemma.below in
    let below : node_count c.get-in-Lemma.result.now ≡ node_count c.in-Lemma.below = ap node_count c.get-in-Lemma.ensures in
    let few = c.requires.few in
    (omega arith, record { few = omega arith; part = c.requires.part; within = c.requires.within })

pub keep_node-returns-in-Lemma-clause-keeps : goal.keep_node-returns-in-Lemma-clause-keeps
keep_node-returns-in-Lemma-clause-keeps t c =
    let is : c.args.node.now ≡ Lemma c.get-row-in-Lemma.result.now c.get-why.result.now c.get-in-Lemma.result.now =
    c.in-Lemma.is ∙ (λ i. Lemma (sym c.get-row-in-Lemma.ensures i) (sym c.get-why.ensures i) (sym c.get-in-Lemma.ensures i)) in
    IfOk-weaker c.keep_lemma.result _ _
    (λ next h path like stand. lemma_keeps c.args.descent.now.job.now c.args.node.now path c.args.here.kept next c.get-row-in-Lemma.result.now c.get-why.result.now c.get-in-Lemma.result.now is (h path like stand))
    c.keep_lemma.ensures.keeps

pub keep_node-returns-in-Void-clause-keeps : goal.keep_node-returns-in-Void-clause-keeps
keep_node-returns-in-Void-clause-keeps t c = λ path like stand. void_keeps c.args.descent.now.job.now c.args.node.now path c.args.here.kept c.args.here.kept c.in-Void.field-0 c.in-Void.is refl

pub keep_node-keep_grid-requires : goal.keep_node-keep_grid-requires
keep_node-keep_grid-requires t c = (node_count c.args.node.now, c.requires)

pub keep_node-returns-in-Grid-clause-keeps : goal.keep_node-returns-in-Grid-clause-keeps
keep_node-returns-in-Grid-clause-keeps t c =
    let s = c.args.descent.now in
    IfOk-weaker c.keep_grid.result _ _
    (λ next h path like stand. grid_keeps s.job.now c.args.node.now path c.args.here.kept next c.in-Grid.is h.0 (grid_mark s.job.now path (path_at s) like stand h.0 h.2) (sym h.1)) c.keep_grid.ensures

pub keep_node-keep_leaf-requires : goal.keep_node-keep_leaf-requires
keep_node-keep_leaf-requires t c = (node_count c.args.node.now, c.requires)

pub keep_node-returns-in-Leaf-clause-keeps : goal.keep_node-returns-in-Leaf-clause-keeps
keep_node-returns-in-Leaf-clause-keeps t c =
    let s = c.args.descent.now in
    let answers = c.as_slice.result.now in
    IfOk-weaker c.keep_leaf.result _ _
    (λ next h path like stand. leaf_keeps s.job.now c.args.node.now path c.args.here.kept next answers (c.in-Leaf.is ∙ ap Leaf (sym c.as_slice.ensures)) h.0 (leaf_mark s.job.now path (path_at s) like stand answers h.0 h.2) (sym h.1)) c.keep_leaf.ensures

-- ---- a def and what is below it

pub keep_def-keep_node-requires : goal.keep_def-keep_node-requires
keep_def-keep_node-requires t c =
    (omega arith, below_def c.args.descent.now c.enter_def.new.self c.args.here (node_count c.args.node.now) c.in_ok-enter_def.ensures.job c.requires c.args.row.now _ c.in_ok-enter_def.ensures.above)

pub keep_def-returns-then-not-shaped-clause-keeps : goal.keep_def-returns-then-not-shaped-clause-keeps
keep_def-returns-then-not-shaped-clause-keeps t c =
    let s = c.args.descent.now in
    let fits : FitsSigned w128 c.args.by = c.ranges.by in
    let shaped = simp to_z-of_z at c.in_ok-shaped.ensures in
    IfOk-weaker c.pass_node.result _ _
    (λ next h. passes_by s.job.now (path_at s) (def c.args.row.now c.args.by) c.args.node.now c.args.here.kept next (sym shaped ∙ c.if-not-shaped.true) h) c.pass_node.ensures

pub keep_def-returns-clause-keeps : goal.keep_def-returns-clause-keeps
keep_def-returns-clause-keeps t c =
    let s = c.args.descent.now in
    let now = c.enter_def.new.self in
    let fits : FitsSigned w128 c.args.by = c.ranges.by in
    let shaped = simp to_z-of_z at c.in_ok-shaped.ensures in
    let down = simp to_z-of_z at c.in_ok-enter_def.ensures.above in
    goes_down s.job.now (path_at s) (def c.args.row.now c.args.by) c.args.node.now c.args.here.kept c.in_ok-kept.kept now.job.now (path_at now) c.in_ok-enter_def.ensures.job down
    (sym shaped ∙ c.if-not-shaped.false) c.in_ok-kept.ensures.keeps

-- ---- a lemma and what is below it

pub keep_lemma-keep_under-requires : goal.keep_lemma-keep_under-requires
keep_lemma-keep_under-requires t c = (omega arith, (c.requires, (sym c.in_ok-firm.ensures ∙ c.if-not-firm.false, c.in_ok-derived.ensures c.if-derived.true)))

pub keep_lemma-keep_node-requires : goal.keep_lemma-keep_node-requires
keep_lemma-keep_node-requires t c =
    (omega arith, here_less c.args.descent.now c.args.here (node_count c.args.node.now + 1) (node_count c.args.node.now) (omega arith) c.requires)

pub keep_lemma-returns-then-not-firm-clause-keeps : goal.keep_lemma-returns-then-not-firm-clause-keeps
keep_lemma-returns-then-not-firm-clause-keeps t c =
    let s = c.args.descent.now in
    IfOk-weaker c.pass_node.result _ _
    (λ next h. passes_by s.job.now (path_at s) (lemma c.args.row.now) c.args.node.now c.args.here.kept next (sym c.in_ok-firm.ensures ∙ c.if-not-firm.true) h) c.pass_node.ensures

pub keep_lemma-returns-else-derived-clause-keeps : goal.keep_lemma-returns-else-derived-clause-keeps
keep_lemma-returns-else-derived-clause-keeps t c =
    let s = c.args.descent.now in
    IfOk-weaker c.keep_node.result _ _
    (λ next h. stays_above s.job.now (path_at s) c.args.row.now c.args.node.now c.args.here.kept next (sym c.in_ok-firm.ensures ∙ c.if-not-firm.false) h) c.keep_node.ensures.keeps

pub keep_under-enter_lemma-requires-clause-declared : goal.keep_under-enter_lemma-requires-clause-declared
keep_under-enter_lemma-requires-clause-declared t c =
    let path = path_at c.args.descent.now in
    let row = c.args.row.now in
    let shaped = (and_parts (is_shaped c.args.descent.now.job.now.range path (splits row)) (form_fits (denied row)) c.requires.firm).0 in
    (and_parts (is_declared path row) (has_variable row) shaped).0

pub keep_under-keep_node-requires : goal.keep_under-keep_node-requires
keep_under-keep_node-requires t c =
    (omega arith, below_lemma c.args.descent.now c.enter_lemma.new.self c.args.here (node_count c.args.node.now) c.in_ok-enter_lemma.ensures.job c.requires.here c.args.row.now c.in_ok-enter_lemma.ensures.above)

pub keep_under-returns-clause-keeps : goal.keep_under-returns-clause-keeps
keep_under-returns-clause-keeps t c =
    let s = c.args.descent.now in
    let now = c.enter_lemma.new.self in
    goes_down s.job.now (path_at s) (lemma c.args.row.now) c.args.node.now c.args.here.kept c.in_ok-kept.kept now.job.now (path_at now) c.in_ok-enter_lemma.ensures.job c.in_ok-enter_lemma.ensures.above c.requires.firm
    c.in_ok-kept.ensures.keeps

-- ---- a split and its two parts

pub keep_split-keep_first-requires : goal.keep_split-keep_first-requires
keep_split-keep_first-requires t c = (
  omega arith,
  (
    here_less c.args.descent.now c.args.here (node_count c.args.one.now + node_count c.args.other.now + 1) (node_count c.args.one.now + 1) (omega arith) c.requires,
    sym c.in_ok-firm.ensures ∙ c.if-not-firm.false,
  ),
)

pub keep_split-keep_second-requires : goal.keep_split-keep_second-requires
keep_split-keep_second-requires t c =
    let s = c.args.descent.now in
    let now = c.keep_first.new.descent in
    let job = c.in_ok-kept.ensures.job in
    let back = c.in_ok-kept.ensures.above in
    let firm : is_firm s.job.now.range (path_at s) (second c.args.row.now) ≡ true = sym c.in_ok-firm.ensures ∙ c.if-not-firm.false in (
      omega arith,
      (
        here_behind s now c.args.here c.with.result (node_count c.args.one.now + node_count c.args.other.now + 1) (node_count c.args.other.now + 1) job back c.with.ensures.part (omega arith) c.requires,
        (λ i. is_firm (job i).range (back i) (second c.args.row.now)) ∙ firm,
      ),
    )

pub keep_split-returns-then-not-firm-clause-keeps : goal.keep_split-returns-then-not-firm-clause-keeps
keep_split-returns-then-not-firm-clause-keeps t c =
    let s = c.args.descent.now in
    IfOk-weaker c.pass_both.result _ _
    (λ next h. passes_parts s.job.now (path_at s) c.args.row.now c.args.one.now c.args.other.now c.args.here.kept next (sym c.in_ok-firm.ensures ∙ c.if-not-firm.true) h) c.pass_both.ensures

pub keep_split-returns-clause-keeps : goal.keep_split-returns-clause-keeps
keep_split-returns-clause-keeps t c =
    let s = c.args.descent.now in
    let now = c.keep_first.new.descent in
    IfOk-weaker c.keep_second.result _ _
    (λ next h. keeps_parts s.job.now (path_at s) c.args.row.now c.args.one.now c.args.other.now c.args.here.kept next c.in_ok-kept.kept now.job.now (path_at now) c.in_ok-kept.ensures.job c.in_ok-kept.ensures.above
    c.in_ok-kept.ensures.keeps (subst (λ k. KeepsBelow now.job.now (path_at now) (second c.args.row.now) c.args.other.now k next) c.with.ensures.kept h)) c.keep_second.ensures.keeps

pub keep_first-keep_node-requires : goal.keep_first-keep_node-requires
keep_first-keep_node-requires t c = (
  omega arith,
  below_part c.args.descent.now c.enter_first.new.self c.args.here (node_count c.args.node.now) c.in_ok-enter_first.ensures.job c.requires.here c.args.row.now First c.job.result.now.form c.child_part-part.result c.in_part.result
      c.in_ok-enter_first.ensures.above (ap (λ (j : Job). j.form) c.job.ensures) c.child_part-part.ensures c.in_part.ensures.part,
)

pub keep_first-returns-clause-keeps : goal.keep_first-returns-clause-keeps
keep_first-returns-clause-keeps t c =
    let s = c.args.descent.now in
    let now = c.enter_first.new.self in
    goes_down s.job.now (path_at s) (first c.args.row.now) c.args.node.now c.args.here.kept c.in_ok-kept.kept now.job.now (path_at now) c.in_ok-enter_first.ensures.job c.in_ok-enter_first.ensures.above c.requires.firm
    (subst (λ k. KeepsHere now.job.now (path_at now) c.args.node.now k c.in_ok-kept.kept) c.in_part.ensures.kept c.in_ok-kept.ensures.keeps)

pub keep_second-keep_node-requires : goal.keep_second-keep_node-requires
keep_second-keep_node-requires t c = (
  omega arith,
  below_part c.args.descent.now c.enter_second.new.self c.args.here (node_count c.args.node.now) c.in_ok-enter_second.ensures.job c.requires.here c.args.row.now Second c.job.result.now.form c.child_part-part.result c.in_part.result
      c.in_ok-enter_second.ensures.above (ap (λ (j : Job). j.form) c.job.ensures) c.child_part-part.ensures c.in_part.ensures.part,
)

pub keep_second-returns-clause-keeps : goal.keep_second-returns-clause-keeps
keep_second-returns-clause-keeps t c =
    let s = c.args.descent.now in
    let now = c.enter_second.new.self in
    goes_down s.job.now (path_at s) (second c.args.row.now) c.args.node.now c.args.here.kept c.in_ok-kept.kept now.job.now (path_at now) c.in_ok-enter_second.ensures.job c.in_ok-enter_second.ensures.above c.requires.firm
    (subst (λ k. KeepsHere now.job.now (path_at now) c.args.node.now k c.in_ok-kept.kept) c.in_part.ensures.kept c.in_ok-kept.ensures.keeps)

pub keep_first-enter_first-requires : goal.keep_first-enter_first-requires
keep_first-enter_first-requires t c =
    let path = path_at c.args.descent.now in
    let row = c.args.row.now in
    let parts = and_parts (is_shaped c.args.descent.now.job.now.range path (splits row)) (form_fits (denied row)) c.requires.firm in
    (and_parts (is_declared path row) (has_variable row) parts.0).0

pub keep_second-enter_second-requires : goal.keep_second-enter_second-requires
keep_second-enter_second-requires t c =
    let path = path_at c.args.descent.now in
    let row = c.args.row.now in
    let parts = and_parts (is_shaped c.args.descent.now.job.now.range path (splits row)) (form_fits (denied row)) c.requires.firm in
    record { declared = (and_parts (is_declared path row) (has_variable row) parts.0).0; fits = parts.1 }

use Rattle.std.proofs.Common.{◌≡◌, ◌+◌, List, ◌++◌, ◌∙◌, sym, ap, subst, arith, rules, FitsSigned, to_z, of_z, to_z-of_z}
use Rattle.std.proofs.lemmas.Bool.{and_parts}
use Rattle.std.specs.Prelude.{IfSome}
use Rattle.std.specs.Int.{w128}
use Rattle.std.specs.Option.{option_and_then}
use Rattle.viz_base.specs.declared.jobs.Job.{Job}
use Rattle.lin_proof.proofs.Sound.{entailment_law}
use Rattle.cert_text.specs.declared.certificate.CertNode.TheVariants.{Def, Split, Lemma}
use Rattle.cert_text.specs.Nodes.{node_count}
use Rattle.cert_semantics.specs.Axes.{axis_count}
use Rattle.cert_semantics.specs.Paths.{def, first, second, lemma, ◌▸◌, form_of, variables, is_declared}
use Rattle.cert_semantics.specs.Facts.{facts}
use Rattle.cert_semantics.specs.Rectangles.{rectangle}
use Rattle.cert_semantics.specs.Nodes.{names, splits, states, node_on, nodes_from}
use Rattle.cert_semantics.specs.Shapes.{has_variable}
use Rattle.viz_base.specs.declared.rectangles.Child.TheVariants.{First, Second}
use Rattle.cert_check.specs.declared.descent.Above.{Above}
use Rattle.viz_base.specs.Rectangles.{IsWithin}
use Rattle.cert_semantics.specs.Units.{cut_of, cut_at}
use Rattle.cert_check.specs.steps.Grids.{IsPart}
use Rattle.cert_check.specs.steps.Descent.{path_of}
use Rattle.cert_check.specs.steps.Ways.{path_at}
use Rattle.cert_check.proofs.Descents.{form_is}
use Rattle.cert_check.proofs.Judging.{is_judged}
use Rattle.cert_check.proofs.PartSides.{variables_under, part_under, within_under}
use Rattle.cert_check.proofs.Tellings.{tells_mem, tells_first, both_told, head_told, rest_told, def_nodes, split_nodes, lemma_nodes, count-Def, count-Split, count-Lemma}
use Rattle.cert_check.proofs.walk.+nodes.Goals as goal

-- the form of the job that the descent has now is that of its path
form_here : (old now here : Job) (above : List Above) → now ≡ old → here ≡ now → here.form ≡ form_of (path_of old.form above)
form_here old now here above job is = ap (λ (j : Job). j.form) (is ∙ job) ∙ sym (form_is old.form above)

-- ---- a def and what is below it

pub check_node-check_below-requires : goal.check_node-check_below-requires
check_node-check_below-requires t c =
    let path = path_at c.args.descent.now in
    let good = is_judged c.args.descent.now.job.now (node_on path (names c.get-row.result.now (to_z w128 (of_z w128 c.get-by.result.now)))) c.args.number tt c.in-Ok.ensures in
    let whole : node_count c.args.node.now ≡ 1 + node_count c.in-Def.below = ap node_count c.in-Def.is ∙ count-Def c.in-Def.row c.in-Def.by c.in-Def.below in
    let below : node_count c.get.result.now ≡ node_count c.in-Def.below = ap node_count c.get.ensures in
    (omega arith, (omega arith, (omega arith, (good.shaped, (c.requires.part, c.requires.within)))))

pub check_node-returns-in-Ok-clause-tells : goal.check_node-returns-in-Ok-clause-tells
check_node-returns-in-Ok-clause-tells t c =
    let s = c.args.descent.now in
    let path = path_at s in
    let row = c.get-row.result.now in
    let by = to_z w128 (of_z w128 c.get-by.result.now) in
    let fits : FitsSigned w128 c.get-by.result.now = search rules in
    let same : by ≡ c.in-Def.by = to_z-of_z fits ∙ c.get-by.ensures in
    let below = c.get.result.now in
    let is : c.args.node.now ≡ Def row by below = c.in-Def.is ∙ (λ i. Def (sym c.get-row.ensures i) (sym same i) (sym c.get.ensures i)) in
    rest_told s.job.now c.args.node.now path (names row by) (nodes_from below (def row by ▸ path)) (def_nodes c.args.node.now path row by below is) c.args.number
    c.check_below.result c.in-Ok.ensures c.check_below.ensures.tells

pub check_node-returns-in-Err-clause-tells : goal.check_node-returns-in-Err-clause-tells
check_node-returns-in-Err-clause-tells t c =
    let s = c.args.descent.now in
    let path = path_at s in
    let row = c.get-row.result.now in
    let by = to_z w128 (of_z w128 c.get-by.result.now) in
    let fits : FitsSigned w128 c.get-by.result.now = search rules in
    let same : by ≡ c.in-Def.by = to_z-of_z fits ∙ c.get-by.ensures in
    let is : c.args.node.now ≡ Def row by c.in-Def.below = c.in-Def.is ∙ (λ i. Def (sym c.get-row.ensures i) (sym same i) c.in-Def.below) in
    head_told s.job.now c.args.node.now path (names row by) (nodes_from c.in-Def.below (def row by ▸ path)) (def_nodes c.args.node.now path row by c.in-Def.below is) c.args.number
    c.in-Err.stop c.in-Err.ensures

pub check_below-returns-in-Err-clause-tells : goal.check_below-returns-in-Err-clause-tells
check_below-returns-in-Err-clause-tells t c = tells_mem _ _ _

-- ---- a lemma and what is below it

pub check_node-check_under-requires : goal.check_node-check_under-requires
check_node-check_under-requires t c =
    let s = c.args.descent.now in
    let path = path_at s in
    let row = c.get-row-in-Lemma.result.now in
    let why = c.get-in-Lemma.result.now in
    let good = is_judged s.job.now (node_on path (states row why)) c.args.number tt c.in-Ok-check_lemma.ensures in
    let whole : node_count c.args.node.now ≡ 1 + node_count c.in-Lemma.below = ap node_count c.in-Lemma.is ∙ count-Lemma c.in-Lemma.row c.in-Lemma.why c.in-Lemma.below in
    let below : node_count c.get-in-Ok-check_lemma.result.now ≡ node_count c.in-Lemma.below = ap node_count c.get-in-Ok-check_lemma.ensures in
    let declared = (and_parts (is_declared path row) (has_variable row) good.shaped).0 in
    let entailed = entailment_law (facts s.job.now.range path) (variables path) row why good.decides in
    (omega arith, (omega arith, (omega arith, (declared, (entailed, (c.requires.part, c.requires.within))))))

pub check_node-returns-in-Ok-check_lemma-clause-tells : goal.check_node-returns-in-Ok-check_lemma-clause-tells
check_node-returns-in-Ok-check_lemma-clause-tells t c =
    let s = c.args.descent.now in
    let path = path_at s in
    let row = c.get-row-in-Lemma.result.now in
    let why = c.get-in-Lemma.result.now in
    let below = c.get-in-Ok-check_lemma.result.now in
    let is : c.args.node.now ≡ Lemma row why below = c.in-Lemma.is ∙ (λ i. Lemma (sym c.get-row-in-Lemma.ensures i) (sym c.get-in-Lemma.ensures i) (sym c.get-in-Ok-check_lemma.ensures i)) in
    rest_told s.job.now c.args.node.now path (states row why) (nodes_from below (lemma row ▸ path)) (lemma_nodes c.args.node.now path row why below is) c.args.number
    c.check_under.result c.in-Ok-check_lemma.ensures c.check_under.ensures.tells

pub check_node-returns-in-Err-check_lemma-clause-tells : goal.check_node-returns-in-Err-check_lemma-clause-tells
check_node-returns-in-Err-check_lemma-clause-tells t c =
    let s = c.args.descent.now in
    let path = path_at s in
    let row = c.get-row-in-Lemma.result.now in
    let why = c.get-in-Lemma.result.now in
    let is : c.args.node.now ≡ Lemma row why c.in-Lemma.below = c.in-Lemma.is ∙ (λ i. Lemma (sym c.get-row-in-Lemma.ensures i) (sym c.get-in-Lemma.ensures i) c.in-Lemma.below) in
    head_told s.job.now c.args.node.now path (states row why) (nodes_from c.in-Lemma.below (lemma row ▸ path)) (lemma_nodes c.args.node.now path row why c.in-Lemma.below is) c.args.number
    c.in-Err-check_lemma.stop c.in-Err-check_lemma.ensures

pub check_under-check_node-requires : goal.check_under-check_node-requires
check_under-check_node-requires t c =
    let old = c.args.descent.now in
    let now = c.enter_lemma.new.self in
    let job = c.in-Ok.ensures.job in
    let down = c.in-Ok.ensures.above in
    let axes = ap (λ (j : Job). axis_count j.form) job in
    let same = ap variables down in
    let few = c.requires.few in
    let named = c.requires.variables in (
      omega arith,
      (
        omega arith,
        (
          omega arith,
          (
            subst (λ (j : Job). IsPart c.args.part (rectangle j.range (path_at now))) (sym job) (subst (λ p. IsPart c.args.part (rectangle old.job.now.range p)) (sym down) c.requires.part),
            subst (λ (j : Job). IfSome c.args.part (IsWithin j.range)) (sym job) c.requires.within,
          ),
        ),
      ),
    )

pub check_under-returns-in-Err-clause-tells : goal.check_under-returns-in-Err-clause-tells
check_under-returns-in-Err-clause-tells t c = tells_mem _ _ _

-- ---- a split and its two parts

pub check_node-check_parts-requires : goal.check_node-check_parts-requires
check_node-check_parts-requires t c =
    let path = path_at c.args.descent.now in
    let row = c.get-row-in-Split.result.now in
    let good = is_judged c.args.descent.now.job.now (node_on path (splits row)) c.args.number tt c.in-Ok-check_split.ensures in
    let whole : node_count c.args.node.now ≡ 1 + (node_count c.in-Split.first + node_count c.in-Split.second) = ap node_count c.in-Split.is ∙ count-Split c.in-Split.row c.in-Split.first c.in-Split.second in
    let one : node_count c.get-in-Ok-check_split.result.now ≡ node_count c.in-Split.first = ap node_count c.get-in-Ok-check_split.ensures in
    let other : node_count c.get-in-Ok-check_split-2.result.now ≡ node_count c.in-Split.second = ap node_count c.get-in-Ok-check_split-2.ensures in
    (omega arith, (omega arith, (omega arith, ((and_parts (is_declared path row) (has_variable row) good.shaped).0, (good.decides, (c.requires.part, c.requires.within))))))

pub check_node-returns-in-Ok-check_split-clause-tells : goal.check_node-returns-in-Ok-check_split-clause-tells
check_node-returns-in-Ok-check_split-clause-tells t c =
    let s = c.args.descent.now in
    let path = path_at s in
    let row = c.get-row-in-Split.result.now in
    let one = c.get-in-Ok-check_split.result.now in
    let other = c.get-in-Ok-check_split-2.result.now in
    let is : c.args.node.now ≡ Split row one other = c.in-Split.is ∙ (λ i. Split (sym c.get-row-in-Split.ensures i) (sym c.get-in-Ok-check_split.ensures i) (sym c.get-in-Ok-check_split-2.ensures i)) in
    rest_told s.job.now c.args.node.now path (splits row) (nodes_from one (first row ▸ path) ++ nodes_from other (second row ▸ path)) (split_nodes c.args.node.now path row one other is) c.args.number
    c.check_parts.result c.in-Ok-check_split.ensures c.check_parts.ensures.tells

pub check_node-returns-in-Err-check_split-clause-tells : goal.check_node-returns-in-Err-check_split-clause-tells
check_node-returns-in-Err-check_split-clause-tells t c =
    let s = c.args.descent.now in
    let path = path_at s in
    let row = c.get-row-in-Split.result.now in
    let is : c.args.node.now ≡ Split row c.in-Split.first c.in-Split.second = c.in-Split.is ∙ (λ i. Split (sym c.get-row-in-Split.ensures i) c.in-Split.first c.in-Split.second) in
    head_told s.job.now c.args.node.now path (splits row) (nodes_from c.in-Split.first (first row ▸ path) ++ nodes_from c.in-Split.second (second row ▸ path))
    (split_nodes c.args.node.now path row c.in-Split.first c.in-Split.second is) c.args.number c.in-Err-check_split.stop c.in-Err-check_split.ensures

pub check_parts-returns-in-Ok-clause-tells : goal.check_parts-returns-in-Ok-clause-tells
check_parts-returns-in-Ok-clause-tells t c =
    let old = c.args.descent.now in
    let now = c.check_first.new.descent in
    both_told old.job.now now.job.now (path_at old) (path_at now) c.args.row.now c.args.one.now c.args.other.now c.args.number c.in-Ok.next
    c.in-Ok.ensures.job c.in-Ok.ensures.above c.in-Ok.ensures.next c.in-Ok.ensures.tells c.check_second.result c.check_second.ensures.tells

pub check_parts-returns-in-Err-clause-tells : goal.check_parts-returns-in-Err-clause-tells
check_parts-returns-in-Err-clause-tells t c =
    let old = c.args.descent.now in
    let path = path_at old in
    tells_first old.job.now (nodes_from c.args.one.now (first c.args.row.now ▸ path)) (nodes_from c.args.other.now (second c.args.row.now ▸ path)) c.args.number c.in-Err.stop c.in-Err.ensures.tells

pub check_first-check_node-requires : goal.check_first-check_node-requires
check_first-check_node-requires t c =
    let old = c.args.descent.now in
    let now = c.enter_first.new.self in
    let path = path_at old in
    let under = c.child_part-part.result in
    let job = c.in-Ok.ensures.job in
    let down = c.in-Ok.ensures.above in
    let form = form_here old.job.now now.job.now c.job.result.now old.above job c.job.ensures in
    let is = c.child_part-part.ensures ∙ (λ i. option_and_then (cut_at (cut_of (form i) c.args.row.now) First) c.args.part) in
    let count = ap (λ (j : Job). axis_count j.form) job in (
      omega arith,
      (
        (let few = c.requires.few in omega arith),
        (
          variables_under c.args.row.now First old.job.now now.job.now path (path_at now) c.args.part under job down is (c.args.number + axis_count now.job.now.form) (let few = c.requires.variables in omega arith),
          (
            part_under c.args.row.now First old.job.now now.job.now path (path_at now) c.args.part under job down is c.requires.part,
            within_under c.args.row.now First old.job.now now.job.now path (path_at now) c.args.part under job down is c.requires.within,
          ),
        ),
      ),
    )

pub check_first-returns-in-Err-clause-tells : goal.check_first-returns-in-Err-clause-tells
check_first-returns-in-Err-clause-tells t c = tells_mem _ _ _

pub check_second-check_node-requires : goal.check_second-check_node-requires
check_second-check_node-requires t c =
    let old = c.args.descent.now in
    let now = c.enter_second.new.self in
    let path = path_at old in
    let under = c.child_part-part.result in
    let job = c.in-Ok.ensures.job in
    let down = c.in-Ok.ensures.above in
    let form = form_here old.job.now now.job.now c.job.result.now old.above job c.job.ensures in
    let is = c.child_part-part.ensures ∙ (λ i. option_and_then (cut_at (cut_of (form i) c.args.row.now) Second) c.args.part) in
    let count = ap (λ (j : Job). axis_count j.form) job in (
      omega arith,
      (
        (let few = c.requires.few in omega arith),
        (
          variables_under c.args.row.now Second old.job.now now.job.now path (path_at now) c.args.part under job down is (c.args.number + axis_count now.job.now.form) (let few = c.requires.variables in omega arith),
          (
            part_under c.args.row.now Second old.job.now now.job.now path (path_at now) c.args.part under job down is c.requires.part,
            within_under c.args.row.now Second old.job.now now.job.now path (path_at now) c.args.part under job down is c.requires.within,
          ),
        ),
      ),
    )

pub check_second-returns-in-Err-clause-tells : goal.check_second-returns-in-Err-clause-tells
check_second-returns-in-Err-clause-tells t c = tells_mem _ _ _

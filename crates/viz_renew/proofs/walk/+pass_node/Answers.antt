use Rattle.std.proofs.Common.{◌∙◌, false, refl, sym}
use Rattle.std.proofs.lemmas.Result.{IfOk-weaker}
use Rattle.cert_text.specs.declared.certificate.CertNode.TheVariants.{Def, Split, Lemma}
use Rattle.cert_semantics.specs.Paths.{def, first, second, lemma, ◌▸◌}
use Rattle.viz_renew.proofs.Walking.{below_fallen, keeps_both, def_keeps, lemma_keeps, split_keeps, void_keeps, grid_keeps, leaf_keeps, none_grid, none_leaf}
use Rattle.viz_renew.proofs.walk.+pass_node.Goals as goal

pub returns-in-Def : goal.returns-in-Def
returns-in-Def t c = IfOk-weaker c.pass_node.result _ _
    (λ next h job path e. def_keeps job c.args.node.now path c.args.kept next c.in-Def.field-0 c.in-Def.field-1 c.get.result.now
    (c.in-Def.is ∙ (λ i. Def c.in-Def.field-0 c.in-Def.field-1 (sym c.get.ensures i)))
    (h job (def c.in-Def.field-0 c.in-Def.field-1 ▸ path) (below_fallen job.range (def c.in-Def.field-0 c.in-Def.field-1) path e))) c.pass_node.ensures

pub returns-in-Lemma : goal.returns-in-Lemma
returns-in-Lemma t c = IfOk-weaker c.pass_node-in-Lemma.result _ _
    (λ next h job path e. lemma_keeps job c.args.node.now path c.args.kept next c.in-Lemma.field-0 c.in-Lemma.field-1 c.get-in-Lemma.result.now
    (c.in-Lemma.is ∙ (λ i. Lemma c.in-Lemma.field-0 c.in-Lemma.field-1 (sym c.get-in-Lemma.ensures i)))
    (h job (lemma c.in-Lemma.field-0 ▸ path) (below_fallen job.range (lemma c.in-Lemma.field-0) path e))) c.pass_node-in-Lemma.ensures

pub returns-in_ok-kept-in-Split : goal.returns-in_ok-kept-in-Split
returns-in_ok-kept-in-Split t c = IfOk-weaker c.pass_node-in-Split-2.result _ _
    (λ next h job path e. split_keeps job c.args.node.now path c.args.kept next c.in-Split.field-0 c.get-in-Split.result.now c.get-in-Split-2.result.now
    (c.in-Split.is ∙ (λ i. Split c.in-Split.field-0 (sym c.get-in-Split.ensures i) (sym c.get-in-Split-2.ensures i)))
    (keeps_both (c.in_ok-kept-in-Split.ensures job (first c.in-Split.field-0 ▸ path) (below_fallen job.range (first c.in-Split.field-0) path e))
    (h job (second c.in-Split.field-0 ▸ path) (below_fallen job.range (second c.in-Split.field-0) path e)))) c.pass_node-in-Split-2.ensures

pub returns-in-Void : goal.returns-in-Void
returns-in-Void t c = λ job path e. void_keeps job c.args.node.now path c.args.kept c.args.kept c.in-Void.field-0 c.in-Void.is refl

pub returns-in-Grid : goal.returns-in-Grid
returns-in-Grid t c = IfOk-weaker c.with_grid.result _ _
    (λ next h job path e. grid_keeps job c.args.node.now path c.args.kept next c.in-Grid.is false (none_grid job path e) (sym h)) c.with_grid.ensures

pub returns-in-Leaf : goal.returns-in-Leaf
returns-in-Leaf t c = IfOk-weaker c.with_leaf.result _ _
    (λ next h job path e. leaf_keeps job c.args.node.now path c.args.kept next c.in-Leaf.field-0 c.in-Leaf.is false (none_leaf job path) (sym h)) c.with_leaf.ensures

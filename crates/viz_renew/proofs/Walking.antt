-- What a node brings is what those below it bring, and nothing of itself unless it is a grid or a leaf.
use Rattle.std.proofs.Common.{◌≡◌, ◌∙◌, ℤ, Bool, true, false, IsTrue, List, ◌++◌, sym, ap, subst}
use Rattle.std.specs.Prelude.{◌↔◌}
use Rattle.std.proofs.lemmas.Bool.{and_from, and_left, and_right}
use Rattle.viz_base.specs.declared.jobs.Job.{Job}
use Rattle.viz_base.specs.declared.worlds.Rect.{Rect}
use Rattle.lin_proof.specs.Form.{Form}
use Rattle.lin_proof.specs.declared.derivation.Derivation.{Derivation}
use Rattle.lin_proof.specs.declared.derivation.Answer.{Answer}
use Rattle.cert_text.specs.declared.certificate.CertNode.{CertNode}
use Rattle.cert_text.specs.declared.certificate.CertNode.TheVariants.{Def, Split, Lemma, Void, Grid, Leaf}
use Rattle.cert_semantics.specs.Paths.{Step, def, first, second, lemma, Path, ◌▸◌}
use Rattle.cert_semantics.specs.Nodes.{Node, nodes_from}
use Rattle.cert_semantics.proofs.Trees.{preorder}
use Rattle.cert_check.proofs.Tellings.{def_nodes, split_nodes, lemma_nodes}
use Rattle.viz_renew.specs.declared.counts.Kept.{Kept}
use Rattle.viz_renew.specs.Pieces.{is_firm, stands, with_grid, with_leaf, IsKeptGrid, IsKeptLeaf, Keeps}
use Rattle.viz_renew.specs.steps.Bare.{bare}
use Rattle.viz_renew.specs.steps.Walks.{KeepsHere, KeepsBelow, KeepsBoth}
use Rattle.viz_renew.proofs.Barely.{same_firm, same_below}

-- ---- nodes one after another

pub keeps_both : {job : Job} {xs ys : List Node} {a b c : Kept} → Keeps job xs a b → Keeps job ys b c → Keeps job (xs ++ ys) a c
keeps_both Keeps.none more = more
keeps_both (Keeps.node so mark rest) more = Keeps.node so mark (keeps_both rest more)

pub below_fallen : (range : Rect) (step : Step) (path : Path) → stands range path ≡ false → stands range (step ▸ path) ≡ false
below_fallen range step path e = and_right (is_firm range path step) (stands range path) e

-- ---- one step down

module _ (job : Job) (at : Path) (step : Step) (node : CertNode) (old new : Kept) where
  -- the walk has gone down this firm step
  pub goes_down : (now : Job) (path : Path) → now ≡ job → path ≡ step ▸ at → is_firm job.range at step ≡ true → KeepsHere now path node old new → KeepsBelow job at step node old new
  goes_down now down same is firm keeps = λ path like stand.
      subst (λ j. Keeps j (nodes_from node (step ▸ path)) old new) same
      (keeps (step ▸ path) (same_below path at like step ∙ ap bare (sym is))
      (subst (λ (j : Job). stands j.range (step ▸ path) ≡ true) (sym same) (and_from (is_firm job.range path step) (stands job.range path) (same_firm job.range path at like step ∙ firm) stand)))

  -- nothing below a step that isn't firm stands
  pub passes_by : is_firm job.range at step ≡ false → ((j : Job) (path : Path) → stands j.range path ≡ false → Keeps j (nodes_from node path) old new) → KeepsBelow job at step node old new
  passes_by loose all = λ path like stand. all job (step ▸ path) (and_left (is_firm job.range path step) (stands job.range path) (same_firm job.range path at like step ∙ loose))

-- the walk stays above a lemma that isn't derived
pub stays_above : (job : Job) (at : Path) (row : Form) (node : CertNode) (old new : Kept) → is_firm job.range at (lemma row) ≡ true → KeepsHere job at node old new → KeepsBelow job at (lemma row) node old new
stays_above job at row node old new firm keeps = λ path like stand.
    keeps (lemma row ▸ path) like (and_from (is_firm job.range path (lemma row)) (stands job.range path) (same_firm job.range path at like (lemma row) ∙ firm) stand)

-- ---- both parts of a split

module _ (job : Job) (at : Path) (row : Form) (one other : CertNode) (old new : Kept) where
  pub keeps_parts : (middle : Kept) (now : Job) (back : Path) → now ≡ job → back ≡ at → KeepsBelow job at (first row) one old middle → KeepsBelow now back (second row) other middle new
      → KeepsBoth job at row one other old new
  keeps_parts middle now back same stays front rest = λ path like stand.
      keeps_both (front path like stand)
      (subst (λ j. Keeps j (nodes_from other (second row ▸ path)) middle new) same
      (rest path (like ∙ ap bare (sym stays)) (subst (λ (j : Job). stands j.range path ≡ true) (sym same) stand)))

  pub passes_parts : is_firm job.range at (first row) ≡ false
      → ((j : Job) (here there : Path) → stands j.range here ≡ false → stands j.range there ≡ false → Keeps j (nodes_from one here ++ nodes_from other there) old new) → KeepsBoth job at row one other old new
  passes_parts loose all = λ path like stand.
      let firm = same_firm job.range path at like (first row) ∙ loose in
      all job (first row ▸ path) (second row ▸ path) (and_left (is_firm job.range path (first row)) (stands job.range path) firm) (and_left (is_firm job.range path (second row)) (stands job.range path) firm)

-- ---- a node and what is below it

module _ (job : Job) (node : CertNode) (path : Path) (old new : Kept) where
  pub def_keeps : (row : Form) (d : ℤ) (below : CertNode) → node ≡ Def row d below → Keeps job (nodes_from below (def row d ▸ path)) old new → Keeps job (nodes_from node path) old new
  def_keeps row d below is keeps = subst (λ ns. Keeps job ns old new) (sym (def_nodes node path row d below is)) (Keeps.node false tt keeps)

  pub lemma_keeps : (row : Form) (why : Derivation) (below : CertNode) → node ≡ Lemma row why below → Keeps job (nodes_from below (lemma row ▸ path)) old new → Keeps job (nodes_from node path) old new
  lemma_keeps row why below is keeps = subst (λ ns. Keeps job ns old new) (sym (lemma_nodes node path row why below is)) (Keeps.node false tt keeps)

  pub split_keeps : (row : Form) (one other : CertNode) → node ≡ Split row one other → Keeps job (nodes_from one (first row ▸ path) ++ nodes_from other (second row ▸ path)) old new
      → Keeps job (nodes_from node path) old new
  split_keeps row one other is keeps = subst (λ ns. Keeps job ns old new) (sym (split_nodes node path row one other is)) (Keeps.node false tt keeps)

  pub void_keeps : (why : Derivation) → node ≡ Void why → old ≡ new → Keeps job (nodes_from node path) old new
  void_keeps why is same = subst (λ ns. Keeps job ns old new) (sym (ap (λ x. nodes_from x path) is ∙ preorder.void why path)) (subst (Keeps job _ old) same (Keeps.node false tt Keeps.none))

  pub grid_keeps : node ≡ Grid → (so : Bool) → (IsTrue so ↔ IsKeptGrid job path) → with_grid so old ≡ new → Keeps job (nodes_from node path) old new
  grid_keeps is so mark same = subst (λ ns. Keeps job ns old new) (sym (ap (λ x. nodes_from x path) is ∙ preorder.grid path)) (subst (Keeps job _ old) same (Keeps.node so mark Keeps.none))

  pub leaf_keeps : (answers : List Answer) → node ≡ Leaf answers → (so : Bool) → (IsTrue so → IsKeptLeaf job path) → with_leaf so old ≡ new → Keeps job (nodes_from node path) old new
  leaf_keeps answers is so mark same =
      subst (λ ns. Keeps job ns old new) (sym (ap (λ x. nodes_from x path) is ∙ preorder.leaf answers path)) (subst (Keeps job _ old) same (Keeps.node so mark Keeps.none))

-- ---- what doesn't stand

pub none_grid : (job : Job) (path : Path) → stands job.range path ≡ false → IsTrue false ↔ IsKeptGrid job path
none_grid job path e = (λ h. absurd (cc), λ kept. let above = kept.above in absurd (cc))

pub none_leaf : (job : Job) (path : Path) → IsTrue false → IsKeptLeaf job path
none_leaf job path h = absurd (cc)

-- Certificates of unit splits and grids keep their numbers in `i128`.
use Rattle.std.proofs.Common.{◌≡◌, ℕ, ◌<◌, ◌^◌, ◌-◌, ℤ, pos, negsuc, neg_ℤ, ◌-ℤ◌, true, ◌&&◌, ◌||◌, nat_lt, List, ◌∷◌, ◌++◌, refl, sym, ◌∙◌, subst, arith, inl, inr, FitsSigned}
use Rattle.std.specs.Prelude.{◌⊎◌, is_some}
use Rattle.std.specs.Int.{w128}
use Rattle.std.specs.List.{AllByRecursion}
use Rattle.std.proofs.lemmas.Int.{ints}
use Rattle.std.proofs.lemmas.Bool.{and_parts}
use Rattle.std.proofs.lemmas.Bool.Decides.{nat_tests}
use Rattle.std.proofs.lemmas.List.Elements.{recursion_from_All}
use Rattle.viz_base.specs.declared.worlds.World.{World}
use Rattle.viz_base.specs.declared.jobs.Job.{Job}
use Rattle.viz_base.proofs.ListLemmas.{all_append, all_parts}
use Rattle.lin_proof.specs.Number.{in_i128}
use Rattle.lin_proof.specs.Form.{Form, terms_fit, opposites, form_fits, denied}
use Rattle.lin_proof.proofs.Opposites.{in_i128-fit}
use Rattle.cert_text.specs.declared.certificate.CertNode.{CertNode}
use Rattle.cert_text.specs.declared.certificate.CertNode.TheOpen.{CertNode-F}
use Rattle.cert_text.specs.declared.certificate.CertNode.TheFolds.{fold-roll-CertNode}
use Rattle.cert_text.specs.Texts.{Nested, head_has_text, row_has_text, terms_have_text, node_nested, node_has_text}
use Rattle.cert_semantics.specs.Paths.{def, first, second, lemma, Path, root, ◌▸◌, form_of, values_along}
use Rattle.cert_semantics.specs.Nodes.{splits, Node, nodes_from, nodes_of}
use Rattle.cert_semantics.specs.Laws.{IsUnit}
use Rattle.cert_semantics.proofs.Trees.{by_nodes, nodes-def, nodes-split, nodes-lemma, nodes-void, nodes-grid, nodes-leaf}
use Rattle.cert_check.specs.Numbers.{computed, are_computed}
use Rattle.cert_semantics.specs.Units.{is_unit, AreUnits}
use Rattle.cert_check.specs.Right.{IsWithin128, IsUnitOrGrid}
use Rattle.cert_check.specs.Laws.{UnitsArePlain}
use Rattle.cert_check.proofs.Parts.{unit_is_unit_row}
use Rattle.cert_check.proofs.Tellings.{at_number}

-- ---- the denial of a unit row

denied_number : (k : ℤ) → in_i128 k ≡ true → in_i128 (neg_ℤ k -ℤ pos 1) ≡ true
denied_number (pos n) e =
    let less : n < 2 ^ 127 = grind (arith, nat_tests) in
    let within : FitsSigned w128 (neg_ℤ (pos n) -ℤ pos 1) = omega (arith, ints) in
    in_i128-fit (neg_ℤ (pos n) -ℤ pos 1) within
denied_number (negsuc n) e =
    let less : n < 2 ^ 127 = grind (arith, nat_tests) in
    let within : FitsSigned w128 (neg_ℤ (negsuc n) -ℤ pos 1) = omega (arith, ints) in
    in_i128-fit (neg_ℤ (negsuc n) -ℤ pos 1) within

unit_opposite : (c : ℤ) → (c ≡ pos 1) ⊎ (c ≡ negsuc 0) → in_i128 (neg_ℤ c) ≡ true
unit_opposite c (inl e) = λ i. in_i128 (neg_ℤ (e i))
unit_opposite c (inr e) = λ i. in_i128 (neg_ℤ (e i))

denied_fits : (form : ℕ) (row : Form) → in_i128 row.k ≡ true → IsUnit form row → form_fits (denied row) ≡ true
denied_fits form row e u =
    let number = denied_number row.k e in
    let one = unit_opposite u.coefficient u.unit in
    let terms : terms_fit (opposites row.terms) ≡ true = (λ i. terms_fit (opposites (u.terms i))) ∙ (λ i. one i && true) in
    λ i. number i && terms i

-- ---- paths of unit splits

-- they have no numbers to compute
pub units_computed : (path : Path) → AreUnits path → (world : World) → are_computed path world ≡ true
units_computed (root form) h world = refl
units_computed (def row d ▸ outer) h world = absurd h
units_computed (first row ▸ outer) h world =
    let unit = h.0 in
    let rest = units_computed outer h.1 world in
    λ i. rest i && (unit i || is_some (computed row (values_along world outer)))
units_computed (second row ▸ outer) h world =
    let unit = h.0 in
    let rest = units_computed outer h.1 world in
    λ i. rest i && (unit i || is_some (computed row (values_along world outer)))
units_computed (lemma row ▸ outer) h world = absurd h

-- ---- nodes

abbrev Units : ℕ → List Node → Type 0
Units form = AllByRecursion (λ (node : Node). IsUnitOrGrid form node.decision)

module _ (job : Job) where
  abbrev Within : Node → Type 0
  Within node = IsWithin128 job node.path node.decision

  abbrev IsPlain : CertNode → Type 0
  IsPlain node = (spelled levels : ℕ) → node_has_text spelled node levels ≡ true → (path : Path) → form_of path ≡ job.form → AreUnits path → Units job.form (nodes_from node path) → AllByRecursion Within (nodes_from node path)

  split_plain : (row : Form) (one other : CertNode) → IsPlain one → IsPlain other → (spelled levels : ℕ) → (nat_lt 0 levels && row_has_text row && node_has_text spelled one (levels - 1) && node_has_text spelled other (levels - 1)) ≡ true
      → (path : Path) → form_of path ≡ job.form → AreUnits path → IsUnit job.form row → Units job.form (nodes_from one (first row ▸ path) ++ nodes_from other (second row ▸ path))
      → AllByRecursion Within (record { path = path; decision = splits row } ∷ (nodes_from one (first row ▸ path) ++ nodes_from other (second row ▸ path)))
  split_plain row one other h k spelled levels text path formed units unit are =
      let a = and_parts (nat_lt 0 levels && row_has_text row && node_has_text spelled one (levels - 1)) (node_has_text spelled other (levels - 1)) text in
      let b = and_parts (nat_lt 0 levels && row_has_text row) (node_has_text spelled one (levels - 1)) a.0 in
      let c = and_parts (nat_lt 0 levels) (row_has_text row) b.0 in
      let number = (and_parts (in_i128 row.k) (terms_have_text 0 row.terms) c.1).0 in
      let test = subst (λ form. is_unit form row ≡ true) (sym formed) ((unit_is_unit_row job.form row).1 unit) in
      let both = all_parts (λ (node : Node). IsUnitOrGrid job.form node.decision) (nodes_from one (first row ▸ path)) (nodes_from other (second row ▸ path)) are in (
        denied_fits job.form row number unit,
        all_append Within (nodes_from one (first row ▸ path)) (nodes_from other (second row ▸ path))
            (h spelled (levels - 1) b.1 (first row ▸ path) formed (test, units) both.0)
            (k spelled (levels - 1) a.1 (second row ▸ path) formed (test, units) both.1),
      )

  plain : (node : CertNode) → IsPlain node
  plain = by_nodes IsPlain (record {
    def = λ row d below h spelled levels text path formed units are. absurd ((subst (λ f. Units job.form (f path)) (nodes-def row d below) are).0);
    split = λ row one other h k spelled levels text path formed units are.
        let here = subst (λ f. Units job.form (f path)) (nodes-split row one other) are in
        let has = subst (λ f. f levels ≡ true) (fold-roll-CertNode Nested (node_nested spelled) (CertNode-F.Split row one other)) text in
        subst (λ f. AllByRecursion Within (f path)) (sym (nodes-split row one other)) (split_plain row one other h k spelled levels has path formed units here.0 here.1);
    lemma = λ row why below h spelled levels text path formed units are. absurd ((subst (λ f. Units job.form (f path)) (nodes-lemma row why below) are).0);
    void = λ why spelled levels text path formed units are. absurd ((subst (λ f. Units job.form (f path)) (nodes-void why) are).0);
    grid = λ spelled levels text path formed units are. subst (λ f. AllByRecursion Within (f path)) (sym nodes-grid) (λ world inside. units_computed path units world, tt);
    leaf = λ answers spelled levels text path formed units are. absurd ((subst (λ f. Units job.form (f path)) (nodes-leaf answers) are).0);
  })

pub units_are_plain : UnitsArePlain
units_are_plain job cert text spelled are =
    let parts = and_parts (head_has_text cert.form cert.job) (node_has_text cert.form cert.root 512) spelled.0 in
    let within = plain job cert.root cert.form 512 parts.1 (root job.form) refl tt (recursion_from_All (λ (node : Node). IsUnitOrGrid job.form node.decision) (nodes_of job.form cert) are) in
    at_number (λ (node : Node). IsWithin128 job node.path node.decision) (nodes_of job.form cert) within

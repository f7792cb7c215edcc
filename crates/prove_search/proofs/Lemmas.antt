-- A certificate of form 1 has no lemmas, and one of so many bytes has no more.
use Rattle.std.proofs.Common.{◌≡◌, ℕ, ◌-◌, ◌≤◌, ◌==◌, nat_lt, Bool, true, false, ◌&&◌, List, refl, sym, ap, ◌∙◌, subst, arith, IsTrue}
use Rattle.std.specs.Prelude.{◌↔◌}
use Rattle.std.proofs.lemmas.Bool.{false≢true, and_parts}
use Rattle.cert_text.specs.declared.certificate.Cert.{Cert}
use Rattle.cert_text.specs.declared.certificate.CertNode.{CertNode}
use Rattle.cert_text.specs.declared.certificate.CertNode.TheOpen.{CertNode-F}
use Rattle.cert_text.specs.declared.certificate.CertNode.TheViews.{roll-CertNode}
use Rattle.cert_text.specs.declared.certificate.CertNode.TheFolds.{ind-CertNode, map-CertNode, fold-roll-CertNode}
use Rattle.cert_text.specs.declared.certificate.Piece.TheVariants.{Def, Split, Lemma}
use Rattle.cert_text.specs.Texts.{Nested, CertText, row_has_text, derivation_has_text, piece_has_text, head_has_text, node_nested, node_has_text}
use Rattle.viz_base.specs.declared.jobs.Job.{Job}
use Rattle.prove_search.specs.declared.outcome.Outcome.{Outcome}
use Rattle.prove_search.specs.declared.outcome.Outcome.TheVariants.{Proved, Violated, Undecided}
use Rattle.prove_search.specs.Outcomes.{lemma_step, has_lemma, plain_most, IsOutcome}

abbrev HasNone : CertNode → Type 0
HasNone node = (levels : ℕ) → node_has_text 1 node levels ≡ true → has_lemma node ≡ false

rolled : (y : CertNode-F CertNode)
    → ((levels : ℕ) → node_nested 1 (map-CertNode CertNode Nested (node_has_text 1) y) levels ≡ true → lemma_step (map-CertNode CertNode Bool has_lemma y) ≡ false)
    → HasNone (roll-CertNode y)
rolled y h levels is =
    fold-roll-CertNode Bool lemma_step y ∙ h levels (ap (λ (f : Nested). f levels) (sym (fold-roll-CertNode Nested (node_nested 1) y)) ∙ is)

level : {E : Type 0} (e : E → CertNode) (y : CertNode-F E) → ((p : E) → HasNone (e p)) → HasNone (roll-CertNode (map-CertNode E CertNode e y))
level e (CertNode-F.Def row d below) h =
    rolled (CertNode-F.Def row d (e below)) (λ levels is.
    h below (levels - 1) (and_parts (piece_has_text 1 levels (Def row d)) (node_has_text 1 (e below) (levels - 1)) is).1)
level e (CertNode-F.Split row first second) h =
    rolled (CertNode-F.Split row (e first) (e second)) (λ levels is.
    let one = node_has_text 1 (e first) (levels - 1) in
    let other = node_has_text 1 (e second) (levels - 1) in
    let all = and_parts (piece_has_text 1 levels (Split row) && one) other is in
    let front = and_parts (piece_has_text 1 levels (Split row)) one all.0 in
    rw (h first (levels - 1) front.1, h second (levels - 1) all.1) refl)
level e (CertNode-F.Lemma row why below) h =
    rolled (CertNode-F.Lemma row why (e below)) (λ levels is.
    let piece = (and_parts (piece_has_text 1 levels (Lemma row why)) (node_has_text 1 (e below) (levels - 1)) is).0 in
    let a = (and_parts (nat_lt 0 levels && (1 == 2) && row_has_text row) (derivation_has_text why 64) piece).0 in
    let b = (and_parts (nat_lt 0 levels && (1 == 2)) (row_has_text row) a).0 in
    absurd (false≢true (and_parts (nat_lt 0 levels) (1 == 2) b).1))
level e (CertNode-F.Void why) h = rolled (CertNode-F.Void why) (λ levels is. refl)
level e CertNode-F.Grid h = rolled CertNode-F.Grid (λ levels is. refl)
level e (CertNode-F.Leaf answers) h = rolled (CertNode-F.Leaf answers) (λ levels is. refl)

has_none : (node : CertNode) → HasNone node
has_none = ind-CertNode HasNone (λ x y is. subst (λ z. HasNone (roll-CertNode z)) is (level (λ p. p.0) y (λ p. p.1)))

pub of_form_1 : (cert : Cert) (text : List ℕ) → CertText cert text → cert.form ≡ 1 → (cert.form ≡ 2) ↔ IsTrue (has_lemma cert.root)
of_form_1 cert text spelled first =
    let root = (and_parts (head_has_text cert.form cert.job) (node_has_text cert.form cert.root 512) spelled.0).1 in
    let none = has_none cert.root 512 (subst (λ form. node_has_text form cert.root 512 ≡ true) first root) in
    (λ second. absurd (omega arith), λ has. absurd (false≢true (sym none ∙ has)))

-- what holds of the bytes that going through a range takes holds of more
pub with_more : (job : Job) (turns most : ℕ) (outcome : Outcome) → plain_most ≤ most → IsOutcome job turns plain_most outcome → IsOutcome job turns most outcome
with_more job turns most (Proved text) le h = record {
  cert = h.cert;
  proof = record {
    right = h.proof.right;
    holds = h.proof.holds;
    few = h.proof.few;
    text = h.proof.text;
    spelled = h.proof.spelled;
    short = omega (arith, h.proof.short, le);
    one_grid = h.proof.one_grid;
    form = h.proof.form;
  };
  spelled = h.spelled;
}
with_more job turns most (Violated world) le h = h
with_more job turns most (Undecided part) le h = h

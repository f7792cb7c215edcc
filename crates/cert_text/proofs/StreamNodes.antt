-- A certificate's pieces lead from its head to its end, and pieces that do are those of one certificate.
use Rattle.std.proofs.Common.{◌≡◌, ℕ, zero, suc, ◌-◌, ◌≤◌, ◌&&◌, ℤ, true, List, [], ◌∷◌, ◌++◌, length, refl, sym, ◌∙◌, ap, subst, arith, rules, append_assoc, length-append}
use Rattle.std.proofs.lemmas.Bool.{false≢true, and_parts}
use Rattle.std.proofs.lemmas.List.{append-nil}
use Rattle.std.proofs.lemmas.Grind.{flat_map-append}
use Rattle.lin_proof.specs.Form.{Form}
use Rattle.lin_proof.specs.declared.derivation.Derivation.{Derivation}
use Rattle.lin_proof.specs.declared.derivation.Answer.{Answer as Reason}
use Rattle.cert_text.specs.declared.certificate.Cert.{Cert}
use Rattle.cert_text.specs.declared.certificate.CertNode.{CertNode}
use Rattle.cert_text.specs.declared.certificate.CertNode.TheVariants.{Def as DefNode, Split as SplitNode, Lemma as LemmaNode, Void as VoidNode, Grid as GridNode, Leaf as LeafNode, rolls-Def, rolls-Split, rolls-Lemma, rolls-Void, rolls-Grid, rolls-Leaf}
use Rattle.cert_text.specs.declared.certificate.CertNode.TheViews.{the_lemmas, roll-CertNode}
use Rattle.cert_text.specs.declared.certificate.CertNode.TheFolds.{ind-CertNode, map-CertNode, fold-roll-CertNode, fold_out-CertNode}
use Rattle.cert_text.specs.declared.certificate.CertNode.TheOpen.{CertNode-F}
use Rattle.cert_text.specs.declared.certificate.Piece.{Piece}
use Rattle.cert_text.specs.declared.certificate.Piece.TheVariants.{Head, Def, Split, Lemma, Void, Grid, Leaf}
use Rattle.cert_text.specs.declared.due.Due.{Due}
use Rattle.cert_text.specs.declared.due.Due.TheVariants.{Head as HeadDue, Node as NodeDue}
use Rattle.cert_text.specs.Texts.{Nested, head_has_text, piece_text, piece_has_text, node_text, node_has_text, cert_text, cert_has_text}
use Rattle.cert_text.specs.Pieces.{node_pieces, cert_pieces, lines_of, BeginsPieces}
use Rattle.cert_text.specs.steps.Stream.{Leads}
use Rattle.cert_text.proofs.NodeTexts.{text_Def, text_Split, text_Lemma, text_Void, text_Grid, text_Leaf, nested_Def, nested_Split, nested_Lemma, nested_Void, nested_Grid, nested_Leaf}
use Rattle.cert_text.proofs.Streams.{leads_append, leads_split, leads_end, none_due}

-- ---- the pieces of a node

pub pieces_Def : (row : Form) (d : ℤ) (below : CertNode) → node_pieces (DefNode row d below) ≡ Def row d ∷ node_pieces below
pieces_Def row d below = search (rules, the_lemmas, fold-roll-CertNode, fold_out-CertNode)

pub pieces_Split : (row : Form) (first second : CertNode) → node_pieces (SplitNode row first second) ≡ Split row ∷ (node_pieces first ++ node_pieces second)
pieces_Split row first second = search (rules, the_lemmas, fold-roll-CertNode, fold_out-CertNode)

pub pieces_Lemma : (row : Form) (why : Derivation) (below : CertNode) → node_pieces (LemmaNode row why below) ≡ Lemma row why ∷ node_pieces below
pieces_Lemma row why below = search (rules, the_lemmas, fold-roll-CertNode, fold_out-CertNode)

pub pieces_Void : (why : Derivation) → node_pieces (VoidNode why) ≡ Void why ∷ []
pieces_Void why = search (rules, the_lemmas, fold-roll-CertNode, fold_out-CertNode)

pub pieces_Grid : node_pieces GridNode ≡ Grid ∷ []
pieces_Grid = search (rules, the_lemmas, fold-roll-CertNode, fold_out-CertNode)

pub pieces_Leaf : (answers : List Reason) → node_pieces (LeafNode answers) ≡ Leaf answers ∷ []
pieces_Leaf answers = search (rules, the_lemmas, fold-roll-CertNode, fold_out-CertNode)

-- ---- induction over nodes

-- what holds of a node where it holds of those below it holds of each
pub on_nodes : (P : CertNode → Type 0) → ((row : Form) (d : ℤ) (below : CertNode) → P below → P (DefNode row d below)) → ((row : Form) (first second : CertNode) → P first → P second → P (SplitNode row first second))
    → ((row : Form) (why : Derivation) (below : CertNode) → P below → P (LemmaNode row why below)) → ((why : Derivation) → P (VoidNode why)) → P GridNode → ((answers : List Reason) → P (LeafNode answers)) → (v : CertNode) → P v
on_nodes P def split lemma void grid leaf = ind-CertNode P (λ x y is. subst (λ z. P (roll-CertNode z)) is (level (λ p. p.0) y (λ p. p.1)))
  where
    level : {E : Type 0} (e : E → CertNode) (y : CertNode-F E) → ((p : E) → P (e p)) → P (roll-CertNode (map-CertNode E CertNode e y))
    level e (CertNode-F.Def row d below) h = subst P (sym (rolls-Def row d (e below))) (def row d (e below) (h below))
    level e (CertNode-F.Split row first second) h = subst P (sym (rolls-Split row (e first) (e second))) (split row (e first) (e second) (h first) (h second))
    level e (CertNode-F.Lemma row why below) h = subst P (sym (rolls-Lemma row why (e below))) (lemma row why (e below) (h below))
    level e (CertNode-F.Void why) h = subst P (sym (rolls-Void why)) (void why)
    level e CertNode-F.Grid h = subst P (sym rolls-Grid) grid
    level e (CertNode-F.Leaf answers) h = subst P (sym (rolls-Leaf answers)) (leaf answers)

-- ---- a node's text is the lines of its pieces

pub node_lines : (node : CertNode) → node_text node ≡ lines_of (node_pieces node)
node_lines =
    on_nodes (λ node. node_text node ≡ lines_of (node_pieces node))
    (λ row d below h. text_Def row d below ∙ ap (λ t. piece_text (Def row d) ++ t) h ∙ ap lines_of (sym (pieces_Def row d below)))
    (λ row first second h k. text_Split row first second ∙ rw (h, k) (ap (λ t. piece_text (Split row) ++ t) (sym (flat_map-append piece_text (node_pieces first) (node_pieces second)))) ∙ ap lines_of (sym (pieces_Split row first second)))
    (λ row why below h. text_Lemma row why below ∙ ap (λ t. piece_text (Lemma row why) ++ t) h ∙ ap lines_of (sym (pieces_Lemma row why below)))
    (λ why. text_Void why ∙ sym (append-nil (piece_text (Void why))) ∙ ap lines_of (sym (pieces_Void why)))
    (text_Grid ∙ sym (append-nil (piece_text Grid)) ∙ ap lines_of (sym pieces_Grid))
    (λ answers. text_Leaf answers ∙ sym (append-nil (piece_text (Leaf answers))) ∙ ap lines_of (sym (pieces_Leaf answers)))

pub cert_lines : (cert : Cert) → cert_text cert ≡ lines_of (cert_pieces cert)
cert_lines cert = ap (λ t. piece_text (Head cert.form cert.job) ++ t) (node_lines cert.root)

-- ---- the pieces of a node lead behind it

abbrev NodeLeads : CertNode → Type 0
NodeLeads node = (form levels : ℕ) (dues end : List Due) (more : List Piece) → node_has_text form node levels ≡ true → Leads dues more end → Leads (NodeDue form levels ∷ dues) (node_pieces node ++ more) end

pub leads_node : (node : CertNode) → NodeLeads node
leads_node =
    on_nodes NodeLeads
    (λ row d below h form levels dues end more has rest.
    let both = and_parts (piece_has_text form levels (Def row d)) (node_has_text form below (levels - 1)) (ap (λ (f : Nested). f levels) (sym (nested_Def form row d below)) ∙ has) in
    subst (λ ps. Leads (NodeDue form levels ∷ dues) (ps ++ more) end) (sym (pieces_Def row d below)) (both.0, h form (levels - 1) dues end more both.1 rest))
    (λ row first second h k form levels dues end more has rest.
    let all = and_parts (piece_has_text form levels (Split row) && node_has_text form first (levels - 1)) (node_has_text form second (levels - 1)) (ap (λ (f : Nested). f levels) (sym (nested_Split form row first second)) ∙ has) in
    let both = and_parts (piece_has_text form levels (Split row)) (node_has_text form first (levels - 1)) all.0 in
    let behind = k form (levels - 1) dues end more all.1 rest in
    let whole = h form (levels - 1) (NodeDue form (levels - 1) ∷ dues) end (node_pieces second ++ more) both.1 behind in
    subst (λ ps. Leads (NodeDue form levels ∷ dues) (ps ++ more) end) (sym (pieces_Split row first second))
    (both.0, subst (λ ps. Leads (NodeDue form (levels - 1) ∷ NodeDue form (levels - 1) ∷ dues) ps end) (sym (append_assoc (node_pieces first) (node_pieces second) more)) whole))
    (λ row why below h form levels dues end more has rest.
    let both = and_parts (piece_has_text form levels (Lemma row why)) (node_has_text form below (levels - 1)) (ap (λ (f : Nested). f levels) (sym (nested_Lemma form row why below)) ∙ has) in
    subst (λ ps. Leads (NodeDue form levels ∷ dues) (ps ++ more) end) (sym (pieces_Lemma row why below)) (both.0, h form (levels - 1) dues end more both.1 rest))
    (λ why form levels dues end more has rest.
    subst (λ ps. Leads (NodeDue form levels ∷ dues) (ps ++ more) end) (sym (pieces_Void why)) (ap (λ (f : Nested). f levels) (sym (nested_Void form why)) ∙ has, rest))
    (λ form levels dues end more has rest.
    subst (λ ps. Leads (NodeDue form levels ∷ dues) (ps ++ more) end) (sym pieces_Grid) (refl, rest))
    (λ answers form levels dues end more has rest.
    subst (λ ps. Leads (NodeDue form levels ∷ dues) (ps ++ more) end) (sym (pieces_Leaf answers)) (ap (λ (f : Nested). f levels) (sym (nested_Leaf form answers)) ∙ has, rest))

pub leads_cert : (cert : Cert) → cert_has_text cert ≡ true → Leads (HeadDue ∷ []) (cert_pieces cert) []
leads_cert cert has =
    let both = and_parts (head_has_text cert.form cert.job) (node_has_text cert.form cert.root 512) has in
    (both.0, subst (λ ps. Leads (NodeDue cert.form 512 ∷ []) ps []) (append-nil (node_pieces cert.root)) (leads_node cert.root cert.form 512 [] [] [] both.1 refl))

-- ---- pieces that lead to the end are those of nodes

record NodeAt (form levels : ℕ) (dues : List Due) (ps : List Piece) : Type 0 where
  node : CertNode
  more : List Piece
  same : ps ≡ node_pieces node ++ more
  has : node_has_text form node levels ≡ true
  leads : Leads dues more []

node_at : (n form levels : ℕ) (dues : List Due) (ps : List Piece) → length ps ≤ n → Leads (NodeDue form levels ∷ dues) ps [] → NodeAt form levels dues ps
node_at n form levels dues [] le h = absurd (cc)
node_at zero form levels dues (p ∷ ps) le h = absurd (omega arith)
node_at (suc n) form levels dues (Head _ job ∷ ps) le h = absurd (false≢true h.0)
node_at (suc n) form levels dues (Def row d ∷ ps) le h =
    let b = node_at n form (levels - 1) dues ps (omega arith) h.1 in
    record {
      node = DefNode row d b.node;
      more = b.more;
      same = ap (λ qs. Def row d ∷ qs) b.same ∙ ap (λ qs. qs ++ b.more) (sym (pieces_Def row d b.node));
      has = ap (λ (f : Nested). f levels) (nested_Def form row d b.node) ∙ rw (h.0, b.has) refl;
      leads = b.leads;
    }
node_at (suc n) form levels dues (Split row ∷ ps) le h =
    let a = node_at n form (levels - 1) (NodeDue form (levels - 1) ∷ dues) ps (omega arith) h.1 in
    let sizes = ap length a.same ∙ length-append (node_pieces a.node) a.more in
    let b = node_at n form (levels - 1) dues a.more (omega arith) a.leads in
    record {
      node = SplitNode row a.node b.node;
      more = b.more;
      same = ap (λ qs. Split row ∷ qs) (a.same ∙ ap (λ qs. node_pieces a.node ++ qs) b.same ∙ sym (append_assoc (node_pieces a.node) (node_pieces b.node) b.more)) ∙ ap (λ qs. qs ++ b.more) (sym (pieces_Split row a.node b.node));
      has = ap (λ (f : Nested). f levels) (nested_Split form row a.node b.node) ∙ rw (h.0, a.has, b.has) refl;
      leads = b.leads;
    }
node_at (suc n) form levels dues (Lemma row why ∷ ps) le h =
    let b = node_at n form (levels - 1) dues ps (omega arith) h.1 in
    record {
      node = LemmaNode row why b.node;
      more = b.more;
      same = ap (λ qs. Lemma row why ∷ qs) b.same ∙ ap (λ qs. qs ++ b.more) (sym (pieces_Lemma row why b.node));
      has = ap (λ (f : Nested). f levels) (nested_Lemma form row why b.node) ∙ rw (h.0, b.has) refl;
      leads = b.leads;
    }
node_at (suc n) form levels dues (Void why ∷ ps) le h =
    record { node = VoidNode why; more = ps; same = ap (λ qs. qs ++ ps) (sym (pieces_Void why)); has = ap (λ (f : Nested). f levels) (nested_Void form why) ∙ h.0; leads = h.1 }
node_at (suc n) form levels dues (Grid ∷ ps) le h =
    record { node = GridNode; more = ps; same = ap (λ qs. qs ++ ps) (sym pieces_Grid); has = ap (λ (f : Nested). f levels) (nested_Grid form); leads = h.1 }
node_at (suc n) form levels dues (Leaf answers ∷ ps) le h =
    record { node = LeafNode answers; more = ps; same = ap (λ qs. qs ++ ps) (sym (pieces_Leaf answers)); has = ap (λ (f : Nested). f levels) (nested_Leaf form answers) ∙ h.0; leads = h.1 }

pub cert_at : (ps : List Piece) → Leads (HeadDue ∷ []) ps [] → (cert : Cert) × (cert_has_text cert ≡ true) × (cert_pieces cert ≡ ps)
cert_at [] h = absurd (cc)
cert_at (Head form job ∷ ps) h =
    let a = node_at (length ps) form 512 [] ps (omega arith) h.1 in (
      record { form = form; job = job; root = a.node },
      rw (h.0, a.has) refl,
      ap (λ qs. Head form job ∷ qs) (sym (a.same ∙ ap (λ qs. node_pieces a.node ++ qs) (none_due a.more [] a.leads) ∙ append-nil (node_pieces a.node))),
    )
cert_at (Def _ d ∷ ps) h = absurd (false≢true h.0)
cert_at (Split _ ∷ ps) h = absurd (false≢true h.0)
cert_at (Lemma _ why ∷ ps) h = absurd (false≢true h.0)
cert_at (Void _ ∷ ps) h = absurd (false≢true h.0)
cert_at (Grid ∷ ps) h = absurd (false≢true h.0)
cert_at (Leaf _ ∷ ps) h = absurd (false≢true h.0)

-- ---- pieces with which certificates begin are those that lead on from the head

pub begins_leads : (given : List Piece) → BeginsPieces given → (end : List Due) × Leads (HeadDue ∷ []) given end
begins_leads given b =
    let whole = leads_cert b.0 b.2 in
    let split = leads_split (HeadDue ∷ []) [] given b.1 (subst (λ ps. Leads (HeadDue ∷ []) ps []) b.3 whole) in
    (split.0, split.1)

pub leads_begins : (given : List Piece) (end : List Due) → Leads (HeadDue ∷ []) given end → BeginsPieces given
leads_begins given end h =
    let rest = leads_end end in
    let c = cert_at (given ++ rest.0) (leads_append (HeadDue ∷ []) end [] given rest.0 h rest.1) in
    (c.0, rest.0, c.1, c.2)

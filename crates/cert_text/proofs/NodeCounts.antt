-- A certificate has at most as many nodes as its text has bytes.
use Rattle.std.proofs.Common.{ℕ, ◌+◌, ◌<◌, ◌≤◌, List, ◌++◌, length, sym, subst, arith, length-append}
use Rattle.cert_text.specs.declared.certificate.Cert.{Cert}
use Rattle.cert_text.specs.declared.certificate.CertNode.{CertNode}
use Rattle.cert_text.specs.declared.certificate.CertNode.TheOpen.{CertNode-F}
use Rattle.cert_text.specs.declared.certificate.CertNode.TheViews.{roll-CertNode}
use Rattle.cert_text.specs.declared.certificate.CertNode.TheFolds.{ind-CertNode, map-CertNode, fold-roll-CertNode}
use Rattle.cert_text.specs.Nodes.{count_step, node_count}
use Rattle.cert_text.specs.declared.certificate.Piece.TheVariants.{Head, Def, Split, Lemma}
use Rattle.cert_text.specs.Texts.{piece_text, node_step, node_text, CertText}

abbrev IsBound : CertNode → Type 0
IsBound node = node_count node ≤ length (node_text node)

behind : (n : ℕ) (front t : List ℕ) → n ≤ length t → n ≤ length (front ++ t)
behind n front t le = omega (arith, length-append front t)

-- two texts, one behind the other
both : (m n : ℕ) (s t : List ℕ) → m ≤ length s → n ≤ length t → m + n ≤ length (s ++ t)
both m n s t a b = omega (arith, length-append s t)

rolled : (y : CertNode-F CertNode) → count_step (map-CertNode CertNode ℕ node_count y) ≤ length (node_step (map-CertNode CertNode (List ℕ) node_text y)) → IsBound (roll-CertNode y)
rolled y le =
    subst (λ n. n ≤ length (node_text (roll-CertNode y))) (sym (fold-roll-CertNode ℕ count_step y))
    (subst (λ t. count_step (map-CertNode CertNode ℕ node_count y) ≤ length t) (sym (fold-roll-CertNode (List ℕ) node_step y)) le)

-- own lines take a byte at least, and then come those below
above : (front t : List ℕ) (n : ℕ) → 0 < length front → n ≤ length t → 1 + n ≤ length (front ++ t)
above front t n some le = omega (arith, length-append front t)

level : {E : Type 0} (e : E → CertNode) (y : CertNode-F E) → ((p : E) → IsBound (e p)) → IsBound (roll-CertNode (map-CertNode E CertNode e y))
level e (CertNode-F.Def row d below) h =
    rolled (CertNode-F.Def row d (e below)) (above (piece_text (Def row d)) (node_text (e below)) (node_count (e below)) (omega arith) (h below))
level e (CertNode-F.Split row first second) h =
    let m = node_count (e first) in
    let n = node_count (e second) in
    rolled (CertNode-F.Split row (e first) (e second))
    (above (piece_text (Split row)) (node_text (e first) ++ node_text (e second)) (m + n) (omega arith) (both m n (node_text (e first)) (node_text (e second)) (h first) (h second)))
level e (CertNode-F.Lemma row why below) h =
    rolled (CertNode-F.Lemma row why (e below)) (above (piece_text (Lemma row why)) (node_text (e below)) (node_count (e below)) (omega arith) (h below))
level e (CertNode-F.Void why) h = rolled (CertNode-F.Void why) (omega arith)
level e CertNode-F.Grid h = rolled CertNode-F.Grid (omega arith)
level e (CertNode-F.Leaf answers) h = rolled (CertNode-F.Leaf answers) (omega arith)

texts_bound : (node : CertNode) → IsBound node
texts_bound = ind-CertNode IsBound (λ x y is. subst (λ z. IsBound (roll-CertNode z)) is (level (λ p. p.0) y (λ p. p.1)))

pub count_bound : (cert : Cert) (text : List ℕ) → CertText cert text → node_count cert.root ≤ length text
count_bound cert text h =
    subst (λ x. node_count cert.root ≤ length x) (sym h.1) (behind (node_count cert.root) (piece_text (Head cert.form cert.job)) (node_text cert.root) (texts_bound cert.root))

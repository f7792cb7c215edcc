-- Reading nodes: each answer is right for their texts.
use Rattle.std.proofs.Common.{◌≡◌, ℕ, zero, suc, ◌-◌, ◌==◌, ◌&&◌, nat_lt, ℤ, true, List, [], ◌++◌, Ok, Err, refl, sym, ◌∙◌, ap, subst, arith, rules}
use Rattle.std.proofs.lemmas.Bool.{false≢true, and_parts}
use Rattle.std.proofs.lemmas.List.{append-nil}
use Rattle.lin_proof.specs.Form.{Form}
use Rattle.lin_proof.specs.declared.derivation.Derivation.{Derivation}
use Rattle.lin_proof.specs.declared.derivation.Answer.{Answer as Reason}
use Rattle.cert_text.specs.declared.certificate.CertNode.{CertNode}
use Rattle.cert_text.specs.declared.certificate.CertNode.TheVariants.{Def as DefNode, Split as SplitNode, Lemma as LemmaNode, Void as VoidNode, Grid as GridNode, Leaf as LeafNode, rolls-Def, rolls-Split, rolls-Lemma, rolls-Void, rolls-Grid, rolls-Leaf}
use Rattle.cert_text.specs.declared.certificate.CertNode.TheViews.{the_lemmas, roll-CertNode, out-CertNode, roll-out-CertNode}
use Rattle.cert_text.specs.declared.certificate.CertNode.TheFolds.{fold-roll-CertNode, fold_out-CertNode}
use Rattle.cert_text.specs.declared.certificate.CertNode.TheOpen.{CertNode-F}
use Rattle.cert_text.specs.declared.certificate.Piece.{Piece}
use Rattle.cert_text.specs.declared.certificate.Piece.TheVariants.{Head, Def, Split, Lemma, Void, Grid, Leaf}
use Rattle.cert_text.specs.Texts.{Nested, is_above_zero, row_has_text, derivation_has_text, piece_text, piece_has_text, node_text, node_has_text, node_nested}
use Rattle.cert_text.specs.steps.Whole.{read_piece, read_below, read_node}
use Rattle.cert_text.specs.steps.Readers.{Reader, give, seq}
use Rattle.cert_text.proofs.Language.{Lang, Dep, Done}
use Rattle.cert_text.proofs.Grammars.{Grammar, good_done, good_seq, good_same}
use Rattle.cert_text.proofs.PieceTexts.{PieceText, good_piece, piece_has}

-- ---- what a node's text is, and where it has one

pub text_Def : (row : Form) (d : ℤ) (below : CertNode) → node_text (DefNode row d below) ≡ piece_text (Def row d) ++ node_text below
text_Def row d below = search (rules, the_lemmas, fold-roll-CertNode, fold_out-CertNode)

pub text_Split : (row : Form) (first second : CertNode) → node_text (SplitNode row first second) ≡ piece_text (Split row) ++ (node_text first ++ node_text second)
text_Split row first second = search (rules, the_lemmas, fold-roll-CertNode, fold_out-CertNode)

pub text_Lemma : (row : Form) (why : Derivation) (below : CertNode) → node_text (LemmaNode row why below) ≡ piece_text (Lemma row why) ++ node_text below
text_Lemma row why below = search (rules, the_lemmas, fold-roll-CertNode, fold_out-CertNode)

pub text_Void : (why : Derivation) → node_text (VoidNode why) ≡ piece_text (Void why)
text_Void why = search (rules, the_lemmas, fold-roll-CertNode, fold_out-CertNode)

pub text_Grid : node_text GridNode ≡ piece_text Grid
text_Grid = search (rules, the_lemmas, fold-roll-CertNode, fold_out-CertNode)

pub text_Leaf : (answers : List Reason) → node_text (LeafNode answers) ≡ piece_text (Leaf answers)
text_Leaf answers = search (rules, the_lemmas, fold-roll-CertNode, fold_out-CertNode)

pub nested_Def : (form : ℕ) (row : Form) (d : ℤ) (below : CertNode) → ◌≡◌ {A = Nested} (node_has_text form (DefNode row d below)) (node_nested form (CertNode-F.Def row d (node_has_text form below)))
nested_Def form row d below = search (rules, the_lemmas, fold-roll-CertNode, fold_out-CertNode)

pub nested_Split : (form : ℕ) (row : Form) (first second : CertNode) → ◌≡◌ {A = Nested} (node_has_text form (SplitNode row first second)) (node_nested form (CertNode-F.Split row (node_has_text form first) (node_has_text form second)))
nested_Split form row first second = search (rules, the_lemmas, fold-roll-CertNode, fold_out-CertNode)

pub nested_Lemma : (form : ℕ) (row : Form) (why : Derivation) (below : CertNode) → ◌≡◌ {A = Nested} (node_has_text form (LemmaNode row why below)) (node_nested form (CertNode-F.Lemma row why (node_has_text form below)))
nested_Lemma form row why below = search (rules, the_lemmas, fold-roll-CertNode, fold_out-CertNode)

pub nested_Void : (form : ℕ) (why : Derivation) → ◌≡◌ {A = Nested} (node_has_text form (VoidNode why)) (node_nested form (CertNode-F.Void why))
nested_Void form why = search (rules, the_lemmas, fold-roll-CertNode, fold_out-CertNode)

pub nested_Grid : (form : ℕ) → ◌≡◌ {A = Nested} (node_has_text form GridNode) (node_nested form CertNode-F.Grid)
nested_Grid form = search (rules, the_lemmas, fold-roll-CertNode, fold_out-CertNode)

pub nested_Leaf : (form : ℕ) (answers : List Reason) → ◌≡◌ {A = Nested} (node_has_text form (LeafNode answers)) (node_nested form (CertNode-F.Leaf answers))
nested_Leaf form answers = search (rules, the_lemmas, fold-roll-CertNode, fold_out-CertNode)

pub by_node : (P : CertNode → Type 0) → ((row : Form) (d : ℤ) (below : CertNode) → P (DefNode row d below)) → ((row : Form) (first second : CertNode) → P (SplitNode row first second))
    → ((row : Form) (why : Derivation) (below : CertNode) → P (LemmaNode row why below)) → ((why : Derivation) → P (VoidNode why)) → P GridNode → ((answers : List Reason) → P (LeafNode answers)) → (v : CertNode) → P v
by_node P def split lemma void grid leaf v = subst P (roll-out-CertNode v) (by_out (out-CertNode v))
  where
    by_out : (n : CertNode-F CertNode) → P (roll-CertNode n)
    by_out (CertNode-F.Def row d below) = subst P (sym (rolls-Def row d below)) (def row d below)
    by_out (CertNode-F.Split row first second) = subst P (sym (rolls-Split row first second)) (split row first second)
    by_out (CertNode-F.Lemma row why below) = subst P (sym (rolls-Lemma row why below)) (lemma row why below)
    by_out (CertNode-F.Void why) = subst P (sym (rolls-Void why)) (void why)
    by_out CertNode-F.Grid = subst P (sym rolls-Grid) grid
    by_out (CertNode-F.Leaf answers) = subst P (sym (rolls-Leaf answers)) (leaf answers)

-- ---- a node is its piece, and what is below it

-- a node in a certificate of a form, with so many levels, and its text
pub record NodeText (form levels : ℕ) (v : CertNode) (t : List ℕ) : Type 0 where
  pub has : node_has_text form v levels ≡ true
  pub whole : t ≡ node_text v

-- the nodes of a piece whose nodes below are those of N, and what stands behind the piece's lines
Below : Lang CertNode → Piece → Lang CertNode
Below N (Head _ job) v t = ⊥
Below N (Def row d) v t = Dep N (λ below. Done (DefNode row d below)) v t
Below N (Split row) v t = Dep N (λ first. Dep N (λ second. Done (SplitNode row first second))) v t
Below N (Lemma row why) v t = Dep N (λ below. Done (LemmaNode row why below)) v t
Below N (Void why) v t = Done (VoidNode why) v t
Below N Grid v t = Done GridNode v t
Below N (Leaf answers) v t = Done (LeafNode answers) v t

good_below : (form levels : ℕ) (N : Lang CertNode) (R : Reader CertNode) (p : Piece) (t : List ℕ) → (nat_lt 0 levels ≡ true → Grammar N R) → PieceText form levels p t → Grammar (Below N p) (read_below R p)
unfolding Below
good_below form levels N R (Head _ job) t g h = absurd (false≢true h.has)
good_below form levels N R (Def row d) t g h =
    let b = and_parts (nat_lt 0 levels && row_has_text row) (is_above_zero d) h.has in
    let deep = and_parts (nat_lt 0 levels) (row_has_text row) b.0 in
    good_seq N R (λ below. Done (DefNode row d below)) (λ below. give (DefNode row d below)) (g deep.0) (λ below _ _. good_done (DefNode row d below))
good_below form levels N R (Split row) t g h =
    let deep = and_parts (nat_lt 0 levels) (row_has_text row) h.has in
    good_seq N R (λ first. Dep N (λ second. Done (SplitNode row first second))) (λ first. seq R (λ second. give (SplitNode row first second))) (g deep.0) (λ first _ _.
    good_seq N R (λ second. Done (SplitNode row first second)) (λ second. give (SplitNode row first second)) (g deep.0) (λ second _ _. good_done (SplitNode row first second)))
good_below form levels N R (Lemma row why) t g h =
    good_seq N R (λ below. Done (LemmaNode row why below)) (λ below. give (LemmaNode row why below)) (g (lemma_deep form levels row why h.has)) (λ below _ _. good_done (LemmaNode row why below))
  where
    lemma_deep : (form levels : ℕ) (row : Form) (why : Derivation) → piece_has_text form levels (Lemma row why) ≡ true → nat_lt 0 levels ≡ true
    lemma_deep form levels row why has =
        let a = and_parts (nat_lt 0 levels && form == 2 && row_has_text row) (derivation_has_text why 64) has in
        let b = and_parts (nat_lt 0 levels && form == 2) (row_has_text row) a.0 in
        (and_parts (nat_lt 0 levels) (form == 2) b.0).0
good_below form levels N R (Void why) t g h = good_done (VoidNode why)
good_below form levels N R Grid t g h = good_done GridNode
good_below form levels N R (Leaf answers) t g h = good_done (LeafNode answers)

-- the nodes of N have texts with one level less
abbrev AreBelow : ℕ → ℕ → Lang CertNode → Type 0
AreBelow form levels N = (v : CertNode) (t : List ℕ) → N v t → NodeText form (levels - 1) v t

abbrev HasBelow : ℕ → ℕ → Lang CertNode → Type 0
HasBelow form levels N = (v : CertNode) (t : List ℕ) → nat_lt 0 levels ≡ true → NodeText form (levels - 1) v t → N v t

node_to : (form levels : ℕ) (N : Lang CertNode) (p : Piece) (front back : List ℕ) (v : CertNode) (t : List ℕ) → AreBelow form levels N → t ≡ front ++ back → PieceText form levels p front → Below N p v back → NodeText form levels v t
unfolding Below
node_to form levels N (Head _ job) front back v t are whole h k = absurd k
node_to form levels N (Def row d) front back v t are whole h k =
    let b = are k.first k.front k.first_text in
    subst (λ (w : CertNode). NodeText form levels w t) (sym k.back_text.0) (record {
      has = ap (λ (f : Nested). f levels) (nested_Def form row d k.first) ∙ rw (h.has, b.has) refl;
      whole = whole ∙ rw (h.whole, k.whole, b.whole, k.back_text.1, append-nil (node_text k.first)) (sym (text_Def row d k.first));
    })
node_to form levels N (Split row) front back v t are whole h k =
    let a = are k.first k.front k.first_text in
    let s = k.back_text in
    let b = are s.first s.front s.first_text in
    subst (λ (w : CertNode). NodeText form levels w t) (sym s.back_text.0) (record {
      has = ap (λ (f : Nested). f levels) (nested_Split form row k.first s.first) ∙ rw (h.has, a.has, b.has) refl;
      whole = whole ∙ rw (h.whole, k.whole, a.whole, s.whole, b.whole, s.back_text.1, append-nil (node_text s.first)) (sym (text_Split row k.first s.first));
    })
node_to form levels N (Lemma row why) front back v t are whole h k =
    let b = are k.first k.front k.first_text in
    subst (λ (w : CertNode). NodeText form levels w t) (sym k.back_text.0) (record {
      has = ap (λ (f : Nested). f levels) (nested_Lemma form row why k.first) ∙ rw (h.has, b.has) refl;
      whole = whole ∙ rw (h.whole, k.whole, b.whole, k.back_text.1, append-nil (node_text k.first)) (sym (text_Lemma row why k.first));
    })
node_to form levels N (Void why) front back v t are whole h k =
    subst (λ (w : CertNode). NodeText form levels w t) (sym k.0) (record {
      has = ap (λ (f : Nested). f levels) (nested_Void form why) ∙ h.has;
      whole = whole ∙ rw (h.whole, k.1, append-nil (piece_text (Void why))) (sym (text_Void why));
    })
node_to form levels N Grid front back v t are whole h k =
    subst (λ (w : CertNode). NodeText form levels w t) (sym k.0) (record {
      has = ap (λ (f : Nested). f levels) (nested_Grid form);
      whole = whole ∙ rw (h.whole, k.1) (sym text_Grid);
    })
node_to form levels N (Leaf answers) front back v t are whole h k =
    subst (λ (w : CertNode). NodeText form levels w t) (sym k.0) (record {
      has = ap (λ (f : Nested). f levels) (nested_Leaf form answers) ∙ h.has;
      whole = whole ∙ rw (h.whole, k.1, append-nil (piece_text (Leaf answers))) (sym (text_Leaf answers));
    })

-- a node without nodes below it
flat_from : (form levels : ℕ) (N : Lang CertNode) (p : Piece) (v : CertNode) (t : List ℕ) → t ≡ piece_text p → piece_has_text form levels p ≡ true → Below N p v [] → Dep (PieceText form levels) (Below N) v t
flat_from form levels N p v t whole has below =
    record { first = p; front = piece_text p; back = []; whole = whole ∙ sym (append-nil (piece_text p)); first_text = record { has = has; whole = refl }; back_text = below }

def_from : (form levels : ℕ) (N : Lang CertNode) (row : Form) (d : ℤ) (below : CertNode) (t : List ℕ) → HasBelow form levels N → NodeText form levels (DefNode row d below) t → Dep (PieceText form levels) (Below N) (DefNode row d below) t
unfolding Below
def_from form levels N row d below t are h =
    let all = ap (λ (f : Nested). f levels) (sym (nested_Def form row d below)) ∙ h.has in
    let a = and_parts (piece_has_text form levels (Def row d)) (node_has_text form below (levels - 1)) all in
    let b = and_parts (nat_lt 0 levels && row_has_text row) (is_above_zero d) a.0 in
    let deep = and_parts (nat_lt 0 levels) (row_has_text row) b.0 in
    record {
      first = Def row d;
      front = piece_text (Def row d);
      back = node_text below;
      whole = h.whole ∙ text_Def row d below;
      first_text = record { has = a.0; whole = refl };
      back_text = record { first = below; front = node_text below; back = []; whole = sym (append-nil (node_text below)); first_text = are below (node_text below) deep.0 (record { has = a.1; whole = refl }); back_text = (refl, refl) };
    }

split_from : (form levels : ℕ) (N : Lang CertNode) (row : Form) (first second : CertNode) (t : List ℕ) → HasBelow form levels N → NodeText form levels (SplitNode row first second) t → Dep (PieceText form levels) (Below N) (SplitNode row first second) t
unfolding Below
split_from form levels N row first second t are h =
    let all = ap (λ (f : Nested). f levels) (sym (nested_Split form row first second)) ∙ h.has in
    let a = and_parts (piece_has_text form levels (Split row) && node_has_text form first (levels - 1)) (node_has_text form second (levels - 1)) all in
    let b = and_parts (piece_has_text form levels (Split row)) (node_has_text form first (levels - 1)) a.0 in
    let deep = and_parts (nat_lt 0 levels) (row_has_text row) b.0 in
    let ft = node_text first in
    let st = node_text second in
    record {
      first = Split row;
      front = piece_text (Split row);
      back = ft ++ st;
      whole = h.whole ∙ text_Split row first second;
      first_text = record { has = b.0; whole = refl };
      back_text = record {
        first = first;
        front = ft;
        back = st;
        whole = refl;
        first_text = are first ft deep.0 (record { has = b.1; whole = refl });
        back_text = record { first = second; front = st; back = []; whole = sym (append-nil st); first_text = are second st deep.0 (record { has = a.1; whole = refl }); back_text = (refl, refl) };
      };
    }

lemma_from : (form levels : ℕ) (N : Lang CertNode) (row : Form) (why : Derivation) (below : CertNode) (t : List ℕ) → HasBelow form levels N → NodeText form levels (LemmaNode row why below) t → Dep (PieceText form levels) (Below N) (LemmaNode row why below) t
unfolding Below
lemma_from form levels N row why below t are h =
    let all = ap (λ (f : Nested). f levels) (sym (nested_Lemma form row why below)) ∙ h.has in
    let a = and_parts (piece_has_text form levels (Lemma row why)) (node_has_text form below (levels - 1)) all in
    let b = and_parts (nat_lt 0 levels && form == 2 && row_has_text row) (derivation_has_text why 64) a.0 in
    let c = and_parts (nat_lt 0 levels && form == 2) (row_has_text row) b.0 in
    let deep = and_parts (nat_lt 0 levels) (form == 2) c.0 in
    record {
      first = Lemma row why;
      front = piece_text (Lemma row why);
      back = node_text below;
      whole = h.whole ∙ text_Lemma row why below;
      first_text = record { has = a.0; whole = refl };
      back_text = record { first = below; front = node_text below; back = []; whole = sym (append-nil (node_text below)); first_text = are below (node_text below) deep.0 (record { has = a.1; whole = refl }); back_text = (refl, refl) };
    }

node_from : (form levels : ℕ) (N : Lang CertNode) (v : CertNode) (t : List ℕ) → HasBelow form levels N → NodeText form levels v t → Dep (PieceText form levels) (Below N) v t
unfolding Below
node_from form levels N v t are =
    by_node (λ n. NodeText form levels n t → Dep (PieceText form levels) (Below N) n t)
    (λ row d below h. def_from form levels N row d below t are h)
    (λ row first second h. split_from form levels N row first second t are h)
    (λ row why below h. lemma_from form levels N row why below t are h)
    (λ why h. flat_from form levels N (Void why) (VoidNode why) t (h.whole ∙ text_Void why) (ap (λ (f : Nested). f levels) (sym (nested_Void form why)) ∙ h.has) (refl, refl))
    (λ h. flat_from form levels N Grid GridNode t (h.whole ∙ text_Grid) refl (refl, refl))
    (λ answers h. flat_from form levels N (Leaf answers) (LeafNode answers) t (h.whole ∙ text_Leaf answers) (ap (λ (f : Nested). f levels) (sym (nested_Leaf form answers)) ∙ h.has) (refl, refl)) v

-- one level of nodes, over those of N
good_level : (form levels : ℕ) (N : Lang CertNode) (R : Reader CertNode) → (nat_lt 0 levels ≡ true → Grammar N R) → AreBelow form levels N → HasBelow form levels N → Grammar (NodeText form levels) (seq (read_piece form levels) (read_below R))
good_level form levels N R g are has =
    good_same (Dep (PieceText form levels) (Below N)) (NodeText form levels) (seq (read_piece form levels) (read_below R))
    (λ v t h. node_to form levels N h.first h.front h.back v t are h.whole h.first_text h.back_text)
    (λ v t h. node_from form levels N v t has h)
    (good_seq (PieceText form levels) (read_piece form levels) (Below N) (read_below R) (good_piece form levels) (λ p t h. good_below form levels N R p t g h))

abbrev NoNode : Lang CertNode
NoNode v t = ⊥

pub good_node : (form levels : ℕ) → Grammar (NodeText form levels) (read_node form levels)
unfolding read_node
good_node form zero = good_level form 0 NoNode (λ text. Err text) (λ yes. absurd (false≢true yes)) (λ v t h. absurd h) (λ v t yes h. absurd (false≢true yes))
good_node form (suc levels) =
    let depth : suc levels - 1 ≡ levels = omega arith in
    good_level form (suc levels) (NodeText form levels) (read_node form levels) (λ _. good_node form levels)
    (λ v t h. subst (λ k. NodeText form k v t) (sym depth) h) (λ v t _ h. subst (λ k. NodeText form k v t) depth h)

-- ---- a node after its piece

-- what is read below a piece without nodes below it does not depend on the levels
flat_step : (form : ℕ) (N M : Reader CertNode) (p : Piece) (left : List ℕ) → piece_has_text form 0 p ≡ true → read_below N p left ≡ read_below M p left
flat_step form N M (Head _ job) left has = absurd (false≢true has)
flat_step form N M (Def row d) left has = absurd (false≢true has)
flat_step form N M (Split row) left has = absurd (false≢true has)
flat_step form N M (Lemma row why) left has = absurd (false≢true has)
flat_step form N M (Void why) left has = refl
flat_step form N M Grid left has = refl
flat_step form N M (Leaf answers) left has = refl

pub node_more : (form levels : ℕ) (text left : List ℕ) (p : Piece) → read_piece form levels text ≡ Ok (p, left) → read_node form levels text ≡ read_below (read_node form (levels - 1)) p left
unfolding read_node
node_more form zero text left p is = rw is (flat_step form (λ text. Err text) (read_node form (0 - 1)) p left (piece_has form 0 text p left is))
node_more form (suc levels) text left p is = let depth : suc levels - 1 ≡ levels = omega arith in rw (is, depth) refl

pub node_refused : (form levels : ℕ) (text e : List ℕ) → read_piece form levels text ≡ Err e → read_node form levels text ≡ Err e
unfolding read_node
node_refused form zero text e is = rw is refl
node_refused form (suc levels) text e is = rw is refl

-- Reading pieces, nodes and whole certificates, one reader for each part of the grammar.
use Rattle.std.specs.Prelude.{ℕ, zero, suc, ◌==◌, nat_lt, pos, Bool, true, false, cond, ◌&&◌, List, [], ◌∷◌, length, codes, Result, Ok, Err}
use Rattle.lin_proof.specs.declared.derivation.Answer.{Answer as Reason}
use Rattle.cert_text.specs.declared.certificate.Cert.{Cert}
use Rattle.cert_text.specs.declared.certificate.CertNode.{CertNode}
use Rattle.cert_text.specs.declared.certificate.CertNode.TheVariants.{Def as DefNode, Split as SplitNode, Lemma as LemmaNode, Void as VoidNode, Grid as GridNode, Leaf as LeafNode}
use Rattle.cert_text.specs.declared.certificate.Piece.{Piece}
use Rattle.cert_text.specs.declared.certificate.Piece.TheVariants.{Head, Def, Split, Lemma, Void, Grid, Leaf}
use Rattle.cert_text.specs.declared.node_lines.NodeLines.{NodeLines}
use Rattle.cert_text.specs.declared.node_lines.NodeLines.TheVariants.{Def as DefLines, Split as SplitLines, Lemma as LemmaLines, Void as VoidLines, Grid as GridLines, Leaf as LeafLines}
use Rattle.cert_text.specs.declared.cursor.Stop.{Stop}
use Rattle.viz_base.specs.Answers.{Gives}
use Rattle.cert_text.specs.declared.turn.Turn.{Turn}
use Rattle.cert_text.specs.declared.turn.Turn.TheVariants.{More, Last}
use Rattle.cert_text.specs.steps.Read.{Answer, refused_at, after_word, begins, read_bytes}
use Rattle.cert_text.specs.steps.Numbers.{natural}
use Rattle.cert_text.specs.steps.Parts.{most_times, alike, read_row, read_derivation}
use Rattle.cert_text.specs.steps.Readers.{Reader, give, seq, either, loop}

abbrev pub read_reason : Bool → Reader (Turn Reason (Unit {0}))
read_reason is_yes =
    seq (read_row false) (λ row. seq (read_derivation 64)
    (λ why. give (More (record { yes = is_yes; row = row; why = why }))))

abbrev pub read_yes : Reader (Turn Reason (Unit {0}))
read_yes = seq (after_word (codes "yes ")) (λ _. read_reason true)

abbrev pub read_no : Reader (Turn Reason (Unit {0}))
read_no = seq (after_word (codes "no ")) (λ _. read_reason false)

abbrev pub read_end : Reader (Turn Reason (Unit {0}))
read_end = seq (after_word (codes "end\n")) (λ _. give (Last tt))

-- an answer, or the word behind the last one
abbrev pub read_answer : Reader (Turn Reason (Unit {0}))
read_answer = either 121 read_yes (either 110 read_no read_end)

abbrev pub read_answers : Reader (List Reason)
read_answers text = seq (loop alike (λ _. read_answer) (length text) 0) (λ r. give r.0) text

-- ---- pieces

abbrev pub read_def : Reader Piece
read_def = seq (after_word (codes "def "))
    (λ _. seq (read_row true) (λ row. seq (natural (10, 10) 1 most_times) (λ d. give (Def row (pos d.0)))))

abbrev pub read_split : Reader Piece
read_split = seq (after_word (codes "split ")) (λ _. seq (read_row false) (λ row. give (Split row)))

abbrev pub read_void : Reader Piece
read_void = seq (after_word (codes "void\n")) (λ _. seq (read_derivation 64) (λ why. give (Void why)))

abbrev pub read_grid : Reader Piece
read_grid = seq (after_word (codes "grid\n")) (λ _. give Grid)

-- what stands behind "le"
abbrev pub read_lemma : Reader Piece
read_lemma = seq (after_word (codes "mma "))
    (λ _. seq (read_row false) (λ row. seq (read_derivation 64) (λ why. give (Lemma row why))))

abbrev pub read_leaf : Reader Piece
read_leaf = seq (after_word (codes "af\n")) (λ _. seq read_answers (λ answers. give (Leaf answers)))

abbrev pub read_behind_le : Bool → Reader Piece
read_behind_le has_lemmas text = cond (has_lemmas && begins 109 text) (read_lemma text) (read_leaf text)

abbrev pub read_le : Bool → Reader Piece
read_le has_lemmas = seq (after_word (codes "le")) (λ _. read_behind_le has_lemmas)

-- where no def and no split may come; a lemma may come or not
abbrev pub read_flat : Bool → Reader Piece
read_flat has_lemmas = either 118 read_void (either 103 read_grid (read_le has_lemmas))

abbrev pub read_deep : Bool → Reader Piece
read_deep has_lemmas = either 100 read_def (either 115 read_split (read_flat has_lemmas))

-- the own lines of a node in a certificate of a form, where so many defs, splits and lemmas may stand one in another
abbrev pub read_piece : ℕ → ℕ → Reader Piece
read_piece form levels text = cond (nat_lt 0 levels) (read_deep (form == 2) text) (read_flat false text)

-- the piece whose parts lie in boxes
abbrev pub piece_of : NodeLines → Piece
piece_of (DefLines row d) = Def row d
piece_of (SplitLines row) = Split row
piece_of (LemmaLines row why) = Lemma row why
piece_of (VoidLines why) = Void why
piece_of GridLines = Grid
piece_of (LeafLines answers) = Leaf answers

-- a call gave the answer with its parts in boxes, and left what follows
abbrev pub ReadsLines : Result NodeLines Stop → Answer Piece → List ℕ → Type 0
ReadsLines result answer left = Gives (λ lines. (piece_of lines, left)) (refused_at left) result answer

-- ---- nodes

-- the node of a piece, where N reads a node below it; a head is no node's
abbrev pub read_below : Reader CertNode → Piece → Reader CertNode
read_below N (Head _ job) text = Err text
read_below N (Def row d) text = seq N (λ below. give (DefNode row d below)) text
read_below N (Split row) text = seq N (λ first. seq N (λ second. give (SplitNode row first second))) text
read_below N (Lemma row why) text = seq N (λ below. give (LemmaNode row why below)) text
read_below N (Void why) text = give (VoidNode why) text
read_below N Grid text = give GridNode text
read_below N (Leaf answers) text = give (LeafNode answers) text

-- a node in a certificate of a form, where at most `levels` defs, splits and lemmas may stand one in another
unfoldable pub read_node : ℕ → ℕ → Reader CertNode
read_node form zero = seq (read_piece form 0) (read_below (λ text. Err text))
read_node form (suc levels) = seq (read_piece form (suc levels)) (read_below (read_node form levels))

-- ---- certificates

abbrev pub read_form : Reader ℕ
read_form = either 49 (seq (after_word (codes "1")) (λ _. give 1)) (seq (after_word (codes "2")) (λ _. give 2))

abbrev pub read_head : Reader (ℕ × List ℕ)
read_head = seq (after_word (codes "vizlog-cert "))
    (λ _. seq read_form
    (λ form. seq (after_word (codes "\njob "))
    (λ _. seq (read_bytes 32) (λ job. seq (after_word (codes "\n")) (λ _. give (form, job))))))

-- a certificate, whatever follows it
abbrev pub read_front : Reader Cert
read_front =
    seq read_head (λ h. seq (read_node h.0 512) (λ root. give (record { form = h.0; job = h.1; root = root })))

-- the value, if nothing follows
abbrev pub at_end : {A : Type 0} → A → List ℕ → Answer A
at_end value [] = Ok (value, [])
at_end value (c ∷ cs) = Err (c ∷ cs)

abbrev pub read_whole : Reader Cert
read_whole = seq read_front at_end

-- A certificate piece by piece: what is due decides which pieces may come, and the pieces that came decide what is due.
use Rattle.std.proofs.Common.{◌≡◌, ℕ, ◌<◌, true, List, [], ◌∷◌, ◌++◌, length, refl, sym, ◌∙◌, ap, subst, arith, append_assoc, length-append}
use Rattle.std.proofs.lemmas.Bool.{false≢true}
use Rattle.std.proofs.lemmas.List.{append-nil}
use Rattle.cert_text.specs.declared.certificate.Piece.{Piece}
use Rattle.cert_text.specs.declared.certificate.Piece.TheVariants.{Head, Def, Split, Lemma, Void, Grid, Leaf}
use Rattle.cert_text.specs.declared.due.Due.{Due}
use Rattle.cert_text.specs.declared.due.Due.TheVariants.{Head as HeadDue, Node as NodeDue}
use Rattle.cert_text.specs.Texts.{piece_text}
use Rattle.cert_text.specs.Pieces.{lines_of}
use Rattle.cert_text.specs.steps.Whole.{read_head, read_piece}
use Rattle.cert_text.specs.steps.Readers.{give, seq}
use Rattle.cert_text.specs.steps.Stream.{due_has_text, dues_below, Leads, read_due}
use Rattle.cert_text.proofs.Language.{Agree, Leaves, Dep, Done, leaves_front, leaves_back}
use Rattle.cert_text.proofs.Grammars.{Grammar, good_done, good_seq, good_same}
use Rattle.cert_text.proofs.PieceTexts.{PieceText, good_piece}
use Rattle.cert_text.proofs.Certificates.{HeadText, good_head}

-- ---- the piece that is due

-- a piece that may be what is due, and its lines
pub record DueText (due : Due) (p : Piece) (t : List ℕ) : Type 0 where
  pub has : due_has_text due p ≡ true
  pub whole : t ≡ piece_text p

head_to : (p : Piece) (t : List ℕ) → Dep HeadText (λ h. Done (Head h.0 h.1)) p t → DueText HeadDue p t
head_to p t h =
    let head = h.first_text in
    subst (λ q. DueText HeadDue q t) (sym h.back_text.0) (record { has = head.has; whole = h.whole ∙ rw (head.whole, h.back_text.1) (append-nil (piece_text (Head h.first.0 h.first.1))) })

head_from : (p : Piece) (t : List ℕ) → DueText HeadDue p t → Dep HeadText (λ h. Done (Head h.0 h.1)) p t
head_from (Head form job) t h = record { first = (form, job); front = t; back = []; whole = sym (append-nil t); first_text = record { has = h.has; whole = h.whole }; back_text = (refl, refl) }
head_from (Def _ d) t h = absurd (false≢true h.has)
head_from (Split _) t h = absurd (false≢true h.has)
head_from (Lemma _ why) t h = absurd (false≢true h.has)
head_from (Void _) t h = absurd (false≢true h.has)
head_from Grid t h = absurd (false≢true h.has)
head_from (Leaf _) t h = absurd (false≢true h.has)

pub good_due : (due : Due) → Grammar (DueText due) (read_due due)
good_due HeadDue =
    good_same (Dep HeadText (λ h. Done (Head h.0 h.1))) (DueText HeadDue) (seq read_head (λ h. give (Head h.0 h.1))) head_to head_from
    (good_seq HeadText read_head (λ h. Done (Head h.0 h.1)) (λ h. give (Head h.0 h.1)) good_head (λ h _ _. good_done (Head h.0 h.1)))
good_due (NodeDue form levels) =
    good_same (PieceText form levels) (DueText (NodeDue form levels)) (read_piece form levels)
    (λ p t h. record { has = h.has; whole = h.whole }) (λ p t h. record { has = h.has; whole = h.whole }) (good_piece form levels)

pub due_text : (due : Due) (p : Piece) → due_has_text due p ≡ true → DueText due p (piece_text p)
due_text due p has = record { has = has; whole = refl }

-- each piece takes a byte at least
pub piece_some : (p : Piece) → 0 < length (piece_text p)
piece_some (Head form job) = omega arith
piece_some (Def row d) = omega arith
piece_some (Split row) = omega arith
piece_some (Lemma row why) = omega arith
piece_some (Void why) = omega arith
piece_some Grid = omega arith
piece_some (Leaf answers) = omega arith

-- ---- what leads to what

pub leads_append : (dues mid end : List Due) (xs ys : List Piece) → Leads dues xs mid → Leads mid ys end → Leads dues (xs ++ ys) end
leads_append dues mid end [] ys a b = subst (λ d. Leads d ys end) (sym a) b
leads_append [] mid end (x ∷ xs) ys a b = absurd a
leads_append (due ∷ dues) mid end (x ∷ xs) ys a b = (a.0, leads_append (dues_below due x ++ dues) mid end xs ys a.1 b)

pub leads_split : (dues end : List Due) (xs ys : List Piece) → Leads dues (xs ++ ys) end → (mid : List Due) × Leads dues xs mid × Leads mid ys end
leads_split dues end [] ys h = (dues, refl, h)
leads_split [] end (x ∷ xs) ys h = absurd h
leads_split (due ∷ dues) end (x ∷ xs) ys h =
    let rest = leads_split (dues_below due x ++ dues) end xs ys h.1 in
    (rest.0, (h.0, rest.1), rest.2)

-- what is due behind pieces is one list
pub leads_same : (dues a b : List Due) (xs : List Piece) → Leads dues xs a → Leads dues xs b → a ≡ b
leads_same dues a b [] h k = sym h ∙ k
leads_same [] a b (x ∷ xs) h k = absurd h
leads_same (due ∷ dues) a b (x ∷ xs) h k = leads_same (dues_below due x ++ dues) a b xs h.1 k.1

pub leads_one : (due : Due) (dues : List Due) (p : Piece) → due_has_text due p ≡ true → Leads (due ∷ dues) (p ∷ []) (dues_below due p ++ dues)
leads_one due dues p has = (has, refl)

-- the first of what is due, where a piece leads on
pub first_has : (due : Due) (dues end : List Due) (p : Piece) → Leads (due ∷ dues) (p ∷ []) end → due_has_text due p ≡ true
first_has due dues end p h = h.0

-- nothing is due, so nothing comes
pub none_due : (ps : List Piece) (end : List Due) → Leads [] ps end → ps ≡ []
none_due [] end h = refl
none_due (p ∷ ps) end h = absurd h

-- whatever is due, something leads to the end
pub leads_end : (dues : List Due) → (ps : List Piece) × Leads dues ps []
leads_end [] = ([], refl)
leads_end (HeadDue ∷ dues) =
    let h = good_head.some in
    let rest = leads_end dues in
    (Head h.value.0 h.value.1 ∷ Grid ∷ rest.0, (h.is_text.has, (refl, rest.1)))
leads_end (NodeDue form levels ∷ dues) =
    let rest = leads_end dues in
    (Grid ∷ rest.0, (refl, rest.1))

-- ---- texts of pieces

agree_split : (P : Type 0) (s t a b : List ℕ) → Agree P s t → s ++ a ≡ t ++ b → P × (a ≡ b)
agree_split P [] [] a b h same = (h, same)
agree_split P [] (d ∷ t) a b h same = absurd h
agree_split P (c ∷ s) [] a b h same = absurd h
agree_split P (c ∷ s) (d ∷ t) a b h same =
    let first : c ≡ d = cc in
    let rest : s ++ a ≡ t ++ b = cc in
    agree_split P s t a b (h first) rest

some_lines : (p : Piece) (more : List ℕ) → [] ≡ piece_text p ++ more → ⊥
some_lines p more same = let some = piece_some p in let sizes = ap length same ∙ length-append (piece_text p) more in absurd (omega arith)

-- where the same is due, lines are those of one list of pieces, whatever stands behind them
pub lines_one : (dues a b : List Due) (xs ys : List Piece) → Leads dues xs a → Leads dues ys b → lines_of xs ≡ lines_of ys → xs ≡ ys
lines_one dues a b [] [] h k same = refl
lines_one dues a b [] (y ∷ ys) h k same = absurd (some_lines y (lines_of ys) same)
lines_one dues a b (x ∷ xs) [] h k same = absurd (some_lines x (lines_of xs) (sym same))
lines_one [] a b (x ∷ xs) (y ∷ ys) h k same = absurd h
lines_one (due ∷ dues) a b (x ∷ xs) (y ∷ ys) h k same =
    let agree = (good_due due).plain x y (piece_text x) (piece_text y) (due_text due x h.0) (due_text due y k.0) in
    let split = agree_split (x ≡ y) (piece_text x) (piece_text y) (lines_of xs) (lines_of ys) agree same in
    let rest = lines_one (dues_below due x ++ dues) a b xs ys h.1 (subst (λ z. Leads (dues_below due z ++ dues) ys b) (sym split.0) k.1) split.1 in
    ap (λ z. z ∷ xs) split.0 ∙ ap (λ zs. y ∷ zs) rest

-- a piece, where it is due, is told by its lines, whatever stands behind them
pub piece_one : (due : Due) (x y : Piece) (a b : List ℕ) → due_has_text due x ≡ true → due_has_text due y ≡ true → piece_text x ++ a ≡ piece_text y ++ b → (x ≡ y) × (a ≡ b)
piece_one due x y a b h k same = agree_split (x ≡ y) (piece_text x) (piece_text y) a b ((good_due due).plain x y (piece_text x) (piece_text y) (due_text due x h) (due_text due y k)) same

-- A text of all that is due leaves the lines of pieces and what was read behind them, where each text of the piece due
-- there leaves what was read.
pub leaves_behind : (dues : List Due) (xs ys : List Piece) (due : Due) (others : List Due) (read rest : List ℕ) → Leads dues xs (due ∷ others) → Leads dues ys []
    → ((p : Piece) (t : List ℕ) → DueText due p t → Leaves t read rest) → Leaves (lines_of ys) (lines_of xs ++ read) rest
leaves_behind dues [] [] due others read rest a b h = let none : due ∷ others ≡ [] = sym a ∙ b in absurd (cc)
leaves_behind [] [] (y ∷ ys) due others read rest a b h = absurd b
leaves_behind (d ∷ dues) [] (y ∷ ys) due others read rest a b h =
    let same : d ≡ due = cc in
    leaves_front (piece_text y) (lines_of ys) read rest (h y (piece_text y) (due_text due y (subst (λ e. due_has_text e y ≡ true) same b.0)))
leaves_behind [] (x ∷ xs) ys due others read rest a b h = absurd a
leaves_behind (d ∷ dues) (x ∷ xs) [] due others read rest a b h = absurd (cc)
leaves_behind (d ∷ dues) (x ∷ xs) (y ∷ ys) due others read rest a b h =
    let agree = (good_due d).plain y x (piece_text y) (piece_text x) (due_text d y b.0) (due_text d x a.0) in
    subst (λ r. Leaves (piece_text y ++ lines_of ys) r rest) (sym (append_assoc (piece_text x) (lines_of xs) read))
    (leaves_back (y ≡ x) (piece_text y) (piece_text x) (lines_of ys) (lines_of xs ++ read) rest agree (λ same.
    leaves_behind (dues_below d x ++ dues) xs ys due others read rest a.1 (subst (λ z. Leads (dues_below d z ++ dues) ys []) same b.1) h))

-- what leaves a text does not stand in front of it
pub leaves_prefix : (t more read rest : List ℕ) → Leaves t read rest → read ++ rest ≡ t ++ more → ⊥
leaves_prefix [] more read rest h same = absurd h
leaves_prefix (c ∷ t) more [] [] h same = absurd (cc)
leaves_prefix (c ∷ t) more [] (d ∷ rest) h same = let first : c ≡ d = cc in h first
leaves_prefix (c ∷ t) more (d ∷ read) rest h same =
    let first : c ≡ d = cc in
    let others : read ++ rest ≡ t ++ more = cc in
    leaves_prefix t more read rest (h first) others

-- Reading pieces: each answer of the readers is right for their texts.
use Rattle.std.proofs.Common.{◌≡◌, ℕ, ◌==◌, ◌&&◌, nat_lt, ℤ, pos, Bool, true, false, cond, inl, inr, List, [], ◌∷◌, ◌++◌, Result, Ok, Err, IfOk, IsTrue, refl, sym, ◌∙◌, ap, subst, arith, append_assoc, codes}
use Rattle.std.specs.Fmt.{decimal}
use Rattle.std.specs.List.{flat_map, concat}
use Rattle.std.proofs.lemmas.Bool.{false≢true, and_parts}
use Rattle.std.proofs.lemmas.List.{append-nil}
use Rattle.viz_base.proofs.Sameness.{same_Ok}
use Rattle.lin_proof.specs.Form.{Form}
use Rattle.lin_proof.specs.declared.derivation.Derivation.{Derivation}
use Rattle.lin_proof.specs.declared.derivation.Answer.{Answer as Reason}
use Rattle.cert_text.specs.declared.certificate.Piece.{Piece}
use Rattle.cert_text.specs.declared.certificate.Piece.TheVariants.{Head, Def, Split, Lemma, Void, Grid, Leaf}
use Rattle.cert_text.specs.declared.node_lines.NodeLines.{NodeLines}
use Rattle.cert_text.specs.declared.cursor.Stop.{Stop}
use Rattle.cert_text.specs.Texts.{is_above_zero, row_has_text, derivation_text, derivation_has_text, answer_text, piece_text, piece_has_text}
use Rattle.cert_text.specs.steps.Read.{Answer, after_word}
use Rattle.cert_text.specs.steps.Write.{int_bytes, row_bytes}
use Rattle.cert_text.specs.steps.Numbers.{natural}
use Rattle.cert_text.specs.steps.Parts.{most_times, read_row, read_derivation}
use Rattle.cert_text.specs.steps.Whole.{read_answers, read_def, read_split, read_lemma, read_leaf, read_behind_le, read_le, read_void, read_grid, read_flat, read_deep, read_piece, piece_of, ReadsLines}
use Rattle.cert_text.specs.steps.Readers.{give, seq, either}
use Rattle.cert_text.proofs.Language.{Lang, IsRead, Dep, Done, Word}
use Rattle.cert_text.proofs.Grammars.{Grammar, Either, Avoids, good_word, good_done, good_seq, good_same, good_either, begins_word, avoids_word, avoids_either}
use Rattle.cert_text.proofs.Naturals.{NaturalEnd, good_natural}
use Rattle.cert_text.proofs.Rows.{lines, fit_times, line_is, RowText, good_row}
use Rattle.cert_text.proofs.Derivations.{DerivationText, good_derivation, times_is, times_below}
use Rattle.cert_text.proofs.Reasons.{AnswersText, good_answers}

-- ---- the parts of each piece, and what reads them

DefParts : Lang Piece
DefParts = Dep (Word (codes "def ")) (λ _. Dep (RowText true) (λ row. Dep (NaturalEnd (10, 10) 1 most_times) (λ d. Done (Def row (pos d.0)))))

SplitParts : Lang Piece
SplitParts = Dep (Word (codes "split ")) (λ _. Dep (RowText false) (λ row. Done (Split row)))

VoidParts : Lang Piece
VoidParts = Dep (Word (codes "void\n")) (λ _. Dep (DerivationText 64) (λ why. Done (Void why)))

GridParts : Lang Piece
GridParts = Dep (Word (codes "grid\n")) (λ _. Done Grid)

LemmaParts : Lang Piece
LemmaParts = Dep (Word (codes "mma ")) (λ _. Dep (RowText false) (λ row. Dep (DerivationText 64) (λ why. Done (Lemma row why))))

LeafParts : Lang Piece
LeafParts = Dep (Word (codes "af\n")) (λ _. Dep AnswersText (λ answers. Done (Leaf answers)))

BehindLe : Bool → Lang Piece
BehindLe true = Either LemmaParts LeafParts
BehindLe false = LeafParts

LeParts : Bool → Lang Piece
LeParts b = Dep (Word (codes "le")) (λ _. BehindLe b)

abbrev FlatParts : Bool → Lang Piece
FlatParts b = Either VoidParts (Either GridParts (LeParts b))

abbrev DeepParts : Bool → Lang Piece
DeepParts b = Either DefParts (Either SplitParts (FlatParts b))

good_def : Grammar DefParts read_def
unfolding DefParts
good_def =
    good_seq (Word (codes "def ")) (after_word (codes "def ")) (λ _. Dep (RowText true) (λ row. Dep (NaturalEnd (10, 10) 1 most_times) (λ d. Done (Def row (pos d.0))))) (λ _. seq (read_row true) (λ row. seq (natural (10, 10) 1 most_times) (λ d. give (Def row (pos d.0))))) (good_word (codes "def ")) (λ _ _ _.
    good_seq (RowText true) (read_row true) (λ row. Dep (NaturalEnd (10, 10) 1 most_times) (λ d. Done (Def row (pos d.0)))) (λ row. seq (natural (10, 10) 1 most_times) (λ d. give (Def row (pos d.0)))) (good_row true) (λ row _ _.
    good_seq (NaturalEnd (10, 10) 1 most_times) (natural (10, 10) 1 most_times) (λ d. Done (Def row (pos d.0))) (λ d. give (Def row (pos d.0))) (good_natural (10, 10) 1 most_times (fit_times (10, 10) 1 lines refl (omega arith))) (λ d _ _. good_done (Def row (pos d.0)))))

good_split : Grammar SplitParts read_split
unfolding SplitParts
good_split =
    good_seq (Word (codes "split ")) (after_word (codes "split ")) (λ _. Dep (RowText false) (λ row. Done (Split row))) (λ _. seq (read_row false) (λ row. give (Split row))) (good_word (codes "split ")) (λ _ _ _.
    good_seq (RowText false) (read_row false) (λ row. Done (Split row)) (λ row. give (Split row)) (good_row false) (λ row _ _. good_done (Split row)))

good_void : Grammar VoidParts read_void
unfolding VoidParts
good_void =
    good_seq (Word (codes "void\n")) (after_word (codes "void\n")) (λ _. Dep (DerivationText 64) (λ why. Done (Void why))) (λ _. seq (read_derivation 64) (λ why. give (Void why))) (good_word (codes "void\n")) (λ _ _ _.
    good_seq (DerivationText 64) (read_derivation 64) (λ why. Done (Void why)) (λ why. give (Void why)) (good_derivation 64) (λ why _ _. good_done (Void why)))

good_grid : Grammar GridParts read_grid
unfolding GridParts
good_grid = good_seq (Word (codes "grid\n")) (after_word (codes "grid\n")) (λ _. Done Grid) (λ _. give Grid) (good_word (codes "grid\n")) (λ _ _ _. good_done Grid)

good_lemma : Grammar LemmaParts read_lemma
unfolding LemmaParts
good_lemma =
    good_seq (Word (codes "mma ")) (after_word (codes "mma ")) (λ _. Dep (RowText false) (λ row. Dep (DerivationText 64) (λ why. Done (Lemma row why)))) (λ _. seq (read_row false) (λ row. seq (read_derivation 64) (λ why. give (Lemma row why)))) (good_word (codes "mma ")) (λ _ _ _.
    good_seq (RowText false) (read_row false) (λ row. Dep (DerivationText 64) (λ why. Done (Lemma row why))) (λ row. seq (read_derivation 64) (λ why. give (Lemma row why))) (good_row false) (λ row _ _.
    good_seq (DerivationText 64) (read_derivation 64) (λ why. Done (Lemma row why)) (λ why. give (Lemma row why)) (good_derivation 64) (λ why _ _. good_done (Lemma row why))))

good_leaf : Grammar LeafParts read_leaf
unfolding LeafParts
good_leaf =
    good_seq (Word (codes "af\n")) (after_word (codes "af\n")) (λ _. Dep AnswersText (λ answers. Done (Leaf answers))) (λ _. seq read_answers (λ answers. give (Leaf answers))) (good_word (codes "af\n")) (λ _ _ _.
    good_seq AnswersText read_answers (λ answers. Done (Leaf answers)) (λ answers. give (Leaf answers)) good_answers (λ answers _ _. good_done (Leaf answers)))

good_behind_le : (b : Bool) → Grammar (BehindLe b) (read_behind_le b)
unfolding BehindLe LemmaParts LeafParts
good_behind_le true = good_either 109 LemmaParts LeafParts read_lemma read_leaf (begins_word 109 (codes "ma ") _) (avoids_word 109 97 (codes "f\n") _ (λ e. omega arith)) good_lemma good_leaf
good_behind_le false = good_leaf

good_le : (b : Bool) → Grammar (LeParts b) (read_le b)
unfolding LeParts
good_le b = good_seq (Word (codes "le")) (after_word (codes "le")) (λ _. BehindLe b) (λ _. read_behind_le b) (good_word (codes "le")) (λ _ _ _. good_behind_le b)

flat_avoids : (b : Bool) (c : ℕ) → (118 ≡ c → ⊥) → (103 ≡ c → ⊥) → (108 ≡ c → ⊥) → Avoids c (FlatParts b)
unfolding VoidParts GridParts LeParts
flat_avoids b c v g l = avoids_either c VoidParts (Either GridParts (LeParts b)) (avoids_word c 118 (codes "oid\n") _ v) (avoids_either c GridParts (LeParts b) (avoids_word c 103 (codes "rid\n") _ g) (avoids_word c 108 (codes "e") _ l))

good_flat : (b : Bool) → Grammar (FlatParts b) (read_flat b)
unfolding VoidParts GridParts LeParts
good_flat b =
    good_either 118 VoidParts (Either GridParts (LeParts b)) read_void (either 103 read_grid (read_le b)) (begins_word 118 (codes "oid\n") _)
    (avoids_either 118 GridParts (LeParts b) (avoids_word 118 103 (codes "rid\n") _ (λ e. omega arith)) (avoids_word 118 108 (codes "e") _ (λ e. omega arith))) good_void
    (good_either 103 GridParts (LeParts b) read_grid (read_le b) (begins_word 103 (codes "rid\n") _) (avoids_word 103 108 (codes "e") _ (λ e. omega arith)) good_grid (good_le b))

good_deep : (b : Bool) → Grammar (DeepParts b) (read_deep b)
unfolding DefParts SplitParts
good_deep b =
    good_either 100 DefParts (Either SplitParts (FlatParts b)) read_def (either 115 read_split (read_flat b)) (begins_word 100 (codes "ef ") _)
    (avoids_either 100 SplitParts (FlatParts b) (avoids_word 100 115 (codes "plit ") _ (λ e. omega arith)) (flat_avoids b 100 (λ e. omega arith) (λ e. omega arith) (λ e. omega arith))) good_def
    (good_either 115 SplitParts (FlatParts b) read_split (read_flat b) (begins_word 115 (codes "plit ") _) (flat_avoids b 115 (λ e. omega arith) (λ e. omega arith) (λ e. omega arith)) good_split (good_flat b))

-- ---- the parts are those of the text

-- a piece in a certificate of a form, with so many levels, and its lines
pub record PieceText (form levels : ℕ) (p : Piece) (t : List ℕ) : Type 0 where
  pub has : piece_has_text form levels p ≡ true
  pub whole : t ≡ piece_text p

def_whole : (row number : List ℕ) → codes "def " ++ ((row ++ codes " by ") ++ ((number ++ 10 ∷ []) ++ [])) ≡ concat (codes "def " ∷ row ∷ codes " by " ∷ number ∷ codes "\n" ∷ [])
def_whole row number =
    ap (λ x. codes "def " ++ x) (append_assoc row (codes " by ") ((number ++ 10 ∷ []) ++ []) ∙ ap (λ x. row ++ (codes " by " ++ x)) (append_assoc number (10 ∷ []) []))

def_to : (form levels : ℕ) (v : Piece) (t : List ℕ) → nat_lt 0 levels ≡ true → DefParts v t → PieceText form levels v t
unfolding DefParts
def_to form levels v t deep h =
    let r = h.back_text in
    let row = r.first_text in
    let n = r.back_text in
    let d = n.first_text in
    subst (λ (w : Piece). PieceText form levels w t) (sym n.back_text.0) (record {
      has = rw (deep, row.has, times_is n.first.0 d.above d.below) refl;
      whole = h.whole ∙ rw (h.first_text, r.whole, row.whole, n.whole, d.whole, n.back_text.1, line_is n.first.1 d.ends_in) (def_whole (row_bytes r.first) (decimal n.first.0));
    })

split_to : (form levels : ℕ) (v : Piece) (t : List ℕ) → nat_lt 0 levels ≡ true → SplitParts v t → PieceText form levels v t
unfolding SplitParts
split_to form levels v t deep h =
    let r = h.back_text in
    let row = r.first_text in
    subst (λ (w : Piece). PieceText form levels w t) (sym r.back_text.0) (record {
      has = rw (deep, row.has) refl;
      whole = h.whole ∙ rw (h.first_text, r.whole, row.whole, r.back_text.1) (ap (λ x. codes "split " ++ x) (append_assoc (row_bytes r.first) (codes "\n") []));
    })

lemma_to : (form levels : ℕ) (v : Piece) (t : List ℕ) → nat_lt 0 levels ≡ true → (form == 2) ≡ true → LemmaParts v t → PieceText form levels v (codes "le" ++ t)
unfolding LemmaParts
lemma_to form levels v t deep two h =
    let r = h.back_text in
    let row = r.first_text in
    let d = r.back_text in
    let why = d.first_text in
    subst (λ (w : Piece). PieceText form levels w (codes "le" ++ t)) (sym d.back_text.0) (record {
      has = rw (deep, two, row.has, why.has) refl;
      whole = rw (h.whole, h.first_text, r.whole, row.whole, d.whole, d.back_text.1, why.whole) (ap (λ x. codes "lemma " ++ x) (append_assoc (row_bytes r.first) (codes "\n") (derivation_text d.first ++ [])));
    })

leaf_to : (form levels : ℕ) (v : Piece) (t : List ℕ) → LeafParts v t → PieceText form levels v (codes "le" ++ t)
unfolding LeafParts
leaf_to form levels v t h =
    let a = h.back_text in
    subst (λ (w : Piece). PieceText form levels w (codes "le" ++ t)) (sym a.back_text.0) (record {
      has = a.first_text.has;
      whole = rw (h.whole, h.first_text, a.whole, a.back_text.1, a.first_text.whole) (ap (λ x. codes "leaf\n" ++ x) (append-nil (flat_map answer_text a.first ++ codes "end\n")));
    })

behind_le_to : (b : Bool) (form levels : ℕ) (v : Piece) (t : List ℕ) → (b ≡ true → (nat_lt 0 levels ≡ true) × ((form == 2) ≡ true)) → BehindLe b v t → PieceText form levels v (codes "le" ++ t)
unfolding BehindLe
behind_le_to true form levels v t deep (inl h) = let both = deep refl in lemma_to form levels v t both.0 both.1 h
behind_le_to true form levels v t deep (inr h) = leaf_to form levels v t h
behind_le_to false form levels v t deep h = leaf_to form levels v t h

flat_to : (b : Bool) (form levels : ℕ) (v : Piece) (t : List ℕ) → (b ≡ true → (nat_lt 0 levels ≡ true) × ((form == 2) ≡ true)) → FlatParts b v t → PieceText form levels v t
unfolding VoidParts GridParts LeParts
flat_to b form levels v t deep (inl h) =
    let d = h.back_text in
    subst (λ (w : Piece). PieceText form levels w t) (sym d.back_text.0) (record { has = d.first_text.has; whole = h.whole ∙ rw (h.first_text, d.whole, d.back_text.1, d.first_text.whole) refl })
flat_to b form levels v t deep (inr (inl h)) =
    subst (λ (w : Piece). PieceText form levels w t) (sym h.back_text.0) (record { has = refl; whole = h.whole ∙ rw (h.first_text, h.back_text.1) refl })
flat_to b form levels v t deep (inr (inr h)) =
    subst (λ x. PieceText form levels v x) (sym (h.whole ∙ ap (λ x. x ++ h.back) h.first_text)) (behind_le_to b form levels v h.back deep h.back_text)

deep_to : (b : Bool) (form levels : ℕ) (v : Piece) (t : List ℕ) → nat_lt 0 levels ≡ true → (form == 2) ≡ b → DeepParts b v t → PieceText form levels v t
deep_to b form levels v t deep two (inl h) = def_to form levels v t deep h
deep_to b form levels v t deep two (inr (inl h)) = split_to form levels v t deep h
deep_to b form levels v t deep two (inr (inr h)) = flat_to b form levels v t (λ yes. (deep, two ∙ yes)) h

-- ---- the text is that of the parts

def_in : (form levels : ℕ) (row : Form) (d : ℤ) (t : List ℕ) → PieceText form levels (Def row d) t → DefParts (Def row d) t
unfolding DefParts
def_in form levels row d t h =
    let b = and_parts (nat_lt 0 levels && row_has_text row) (is_above_zero d) h.has in
    let r = and_parts (nat_lt 0 levels) (row_has_text row) b.0 in
    let m = times_below d b.1 in
    let rt = row_bytes row ++ codes " by " in
    subst (λ (k : ℤ). DefParts (Def row k) t) (sym m.1) (record {
      first = tt;
      front = codes "def ";
      back = rt ++ ((decimal m.0 ++ 10 ∷ []) ++ []);
      whole = h.whole ∙ ap (λ (k : ℤ). concat (codes "def " ∷ row_bytes row ∷ codes " by " ∷ int_bytes k ∷ codes "\n" ∷ [])) m.1 ∙ sym (def_whole (row_bytes row) (decimal m.0));
      first_text = refl;
      back_text = record {
        first = row;
        front = rt;
        back = (decimal m.0 ++ 10 ∷ []) ++ [];
        whole = refl;
        first_text = record { has = r.1; whole = refl };
        back_text = record {
          first = (m.0, 10);
          front = decimal m.0 ++ 10 ∷ [];
          back = [];
          whole = refl;
          first_text = record { whole = refl; above = m.2; below = m.3; ends_in = refl };
          back_text = (refl, refl);
        };
      };
    })

split_in : (form levels : ℕ) (row : Form) (t : List ℕ) → PieceText form levels (Split row) t → SplitParts (Split row) t
unfolding SplitParts
split_in form levels row t h =
    let r = and_parts (nat_lt 0 levels) (row_has_text row) h.has in
    let rt = row_bytes row ++ codes "\n" in
    record {
      first = tt;
      front = codes "split ";
      back = rt ++ [];
      whole = h.whole ∙ ap (λ x. codes "split " ++ x) (sym (append_assoc (row_bytes row) (codes "\n") []));
      first_text = refl;
      back_text = record { first = row; front = rt; back = []; whole = refl; first_text = record { has = r.1; whole = refl }; back_text = (refl, refl) };
    }

lemma_in : (form levels : ℕ) (row : Form) (why : Derivation) (t : List ℕ) → PieceText form levels (Lemma row why) t → ((form == 2) ≡ true) × LeParts true (Lemma row why) t
unfolding LeParts BehindLe LemmaParts
lemma_in form levels row why t h =
    let a = and_parts (nat_lt 0 levels && form == 2 && row_has_text row) (derivation_has_text why 64) h.has in
    let b = and_parts (nat_lt 0 levels && form == 2) (row_has_text row) a.0 in
    let rt = row_bytes row ++ codes "\n" in
    let dt = derivation_text why in (
      (and_parts (nat_lt 0 levels) (form == 2) b.0).1,
      record {
        first = tt;
        front = codes "le";
        back = codes "mma " ++ (rt ++ (dt ++ []));
        whole = h.whole ∙ ap (λ x. codes "lemma " ++ x) (sym (append_assoc (row_bytes row) (codes "\n") (dt ++ [])));
        first_text = refl;
        back_text = inl (record {
          first = tt;
          front = codes "mma ";
          back = rt ++ (dt ++ []);
          whole = refl;
          first_text = refl;
          back_text = record {
            first = row;
            front = rt;
            back = dt ++ [];
            whole = refl;
            first_text = record { has = b.1; whole = refl };
            back_text = record { first = why; front = dt; back = []; whole = refl; first_text = record { has = a.1; whole = refl }; back_text = (refl, refl) };
          };
        });
      },
    )

leaf_behind : (b : Bool) (v : Piece) (t : List ℕ) → LeafParts v t → BehindLe b v t
unfolding BehindLe
leaf_behind true v t h = inr h
leaf_behind false v t h = h

leaf_in : (b : Bool) (form levels : ℕ) (answers : List Reason) (t : List ℕ) → PieceText form levels (Leaf answers) t → LeParts b (Leaf answers) t
unfolding LeParts LeafParts
leaf_in b form levels answers t h =
    let text = flat_map answer_text answers ++ codes "end\n" in
    record {
      first = tt;
      front = codes "le";
      back = codes "af\n" ++ text;
      whole = h.whole;
      first_text = refl;
      back_text = leaf_behind b (Leaf answers) (codes "af\n" ++ text) (record {
        first = tt;
        front = codes "af\n";
        back = text;
        whole = refl;
        first_text = refl;
        back_text = record { first = answers; front = text; back = []; whole = sym (append-nil text); first_text = record { has = h.has; whole = refl }; back_text = (refl, refl) };
      });
    }

void_in : (b : Bool) (form levels : ℕ) (why : Derivation) (t : List ℕ) → PieceText form levels (Void why) t → FlatParts b (Void why) t
unfolding VoidParts
void_in b form levels why t h =
    inl (record { first = tt; front = codes "void\n"; back = derivation_text why ++ []; whole = h.whole; first_text = refl; back_text = record { first = why; front = derivation_text why; back = []; whole = refl; first_text = record { has = h.has; whole = refl }; back_text = (refl, refl) } })

grid_in : (b : Bool) (form levels : ℕ) (t : List ℕ) → PieceText form levels Grid t → FlatParts b Grid t
unfolding GridParts
grid_in b form levels t h = inr (inl (record { first = tt; front = codes "grid\n"; back = []; whole = h.whole; first_text = refl; back_text = (refl, refl) }))

deep_in : (b : Bool) (form levels : ℕ) (v : Piece) (t : List ℕ) → (form == 2) ≡ b → PieceText form levels v t → DeepParts b v t
deep_in b form levels (Head _ job) t two h = absurd (false≢true h.has)
deep_in b form levels (Def row d) t two h = inl (def_in form levels row d t h)
deep_in b form levels (Split row) t two h = inr (inl (split_in form levels row t h))
deep_in b form levels (Lemma row why) t two h =
    let l = lemma_in form levels row why t h in
    inr (inr (inr (inr (subst (λ c. LeParts c (Lemma row why) t) (sym l.0 ∙ two) l.1))))
deep_in b form levels (Void why) t two h = inr (inr (void_in b form levels why t h))
deep_in b form levels Grid t two h = inr (inr (grid_in b form levels t h))
deep_in b form levels (Leaf answers) t two h = inr (inr (inr (inr (leaf_in b form levels answers t h))))

-- what stands at no level has no level
no_level : (a : Bool) (b c : Bool) → a ≡ false → (a && b && c) ≡ true → ⊥
no_level false b c is h = false≢true h
no_level true b c is h = false≢true (sym is)

flat_in : (form levels : ℕ) (v : Piece) (t : List ℕ) → nat_lt 0 levels ≡ false → PieceText form levels v t → FlatParts false v t
flat_in form levels (Head _ job) t none h = absurd (false≢true h.has)
flat_in form levels (Def row d) t none h = absurd (no_level (nat_lt 0 levels) (row_has_text row) (is_above_zero d) none h.has)
flat_in form levels (Split row) t none h = absurd (no_level (nat_lt 0 levels) (row_has_text row) true none (rw h.has refl))
flat_in form levels (Lemma row why) t none h =
    let a = and_parts (nat_lt 0 levels && form == 2 && row_has_text row) (derivation_has_text why 64) h.has in
    absurd (no_level (nat_lt 0 levels) (form == 2) (row_has_text row) none a.0)
flat_in form levels (Void why) t none h = void_in false form levels why t h
flat_in form levels Grid t none h = grid_in false form levels t h
flat_in form levels (Leaf answers) t none h = inr (inr (leaf_in false form levels answers t h))

good_piece_by : (b : Bool) (form levels : ℕ) → nat_lt 0 levels ≡ b → Grammar (PieceText form levels) (λ text. cond b (read_deep (form == 2) text) (read_flat false text))
good_piece_by true form levels is = good_same (DeepParts (form == 2)) (PieceText form levels) (read_deep (form == 2)) (λ v t h. deep_to (form == 2) form levels v t is refl h) (λ v t h. deep_in (form == 2) form levels v t refl h) (good_deep (form == 2))
good_piece_by false form levels is = good_same (FlatParts false) (PieceText form levels) (read_flat false) (λ v t h. flat_to false form levels v t (λ yes. absurd (false≢true yes)) h) (λ v t h. flat_in form levels v t is h) (good_flat false)

pub good_piece : (form levels : ℕ) → Grammar (PieceText form levels) (read_piece form levels)
good_piece form levels = good_piece_by (nat_lt 0 levels) form levels refl

has_by : (form levels : ℕ) (text : List ℕ) (r : Answer Piece) (p : Piece) (left : List ℕ) → IsRead (PieceText form levels) text r → r ≡ Ok (p, left) → piece_has_text form levels p ≡ true
has_by form levels text (Ok r) p left h is =
    let same : r.0 ≡ p = ap (λ (x : Piece × List ℕ). x.0) (same_Ok {E = List ℕ} is) in
    subst (λ x. piece_has_text form levels x ≡ true) same h.is_text.has
has_by form levels text (Err rest) p left h is = absurd (cc)

-- what is read has a text
pub piece_has : (form levels : ℕ) (text : List ℕ) (p : Piece) (left : List ℕ) → read_piece form levels text ≡ Ok (p, left) → piece_has_text form levels p ≡ true
piece_has form levels text p left is = has_by form levels text (read_piece form levels text) p left ((good_piece form levels).read text) is

pub lines_have : (form levels : ℕ) (text left : List ℕ) (result : Result NodeLines Stop) → ReadsLines result (read_piece form levels text) left → IfOk result (λ lines. IsTrue (piece_has_text form levels (piece_of lines)))
lines_have form levels text left (Ok read) h = piece_has form levels text (piece_of read) left h
lines_have form levels text left (Err stop) h = tt

-- Reading a leaf's answers: each answer of the readers is right for their texts.
use Rattle.std.proofs.Common.{◌≡◌, ℕ, ◌<◌, Bool, true, false, inl, inr, List, [], ◌∷◌, ◌++◌, length, refl, sym, ◌∙◌, ap, subst, arith, append_assoc, codes, lit<, length-append}
use Rattle.std.specs.List.{flat_map, list_all}
use Rattle.std.proofs.lemmas.Bool.{and_parts}
use Rattle.std.proofs.lemmas.List.{append-nil}
use Rattle.lin_proof.specs.Form.{Form}
use Rattle.lin_proof.specs.declared.derivation.Derivation.{Derivation}
use Rattle.lin_proof.specs.declared.derivation.Answer.{Answer as Reason}
use Rattle.cert_text.specs.declared.turn.Turn.{Turn}
use Rattle.cert_text.specs.declared.turn.Turn.TheVariants.{More, Last}
use Rattle.cert_text.specs.Texts.{row_has_text, derivation_text, derivation_has_text, answer_word, answer_text, answer_has_text}
use Rattle.cert_text.specs.steps.Read.{after_word}
use Rattle.cert_text.specs.steps.Write.{row_bytes}
use Rattle.cert_text.specs.steps.Parts.{alike, read_row, read_derivation}
use Rattle.cert_text.specs.steps.Whole.{read_reason, read_yes, read_no, read_end, read_answer, read_answers}
use Rattle.cert_text.specs.steps.Readers.{give, seq, either, loop}
use Rattle.cert_text.proofs.Language.{Lang, Dep, Done, Word}
use Rattle.cert_text.proofs.Grammars.{Grammar, Either, Loop, Items, Turns, good_word, good_done, good_seq, good_same, good_either, good_loop, begins_word, avoids_word, avoids_either}
use Rattle.cert_text.proofs.Rows.{RowText, good_row}
use Rattle.cert_text.proofs.Derivations.{Any, DerivationText, good_derivation}

ReasonParts : Bool → Lang (Turn Reason (Unit {0}))
ReasonParts b = Dep (RowText false) (λ row. Dep (DerivationText 64) (λ why. Done (More (record { yes = b; row = row; why = why }))))

AnswerParts : Bool → Lang (Turn Reason (Unit {0}))
AnswerParts b = Dep (Word (answer_word b)) (λ _. ReasonParts b)

EndParts : Lang (Turn Reason (Unit {0}))
EndParts = Dep (Word (codes "end\n")) (λ _. Done (Last tt))

good_reason : (b : Bool) → Grammar (ReasonParts b) (read_reason b)
unfolding ReasonParts
good_reason b =
    good_seq (RowText false) (read_row false) (λ row. Dep (DerivationText 64) (λ why. Done (More (record { yes = b; row = row; why = why })))) (λ row. seq (read_derivation 64) (λ why. give (More (record { yes = b; row = row; why = why })))) (good_row false) (λ row _ _.
    good_seq (DerivationText 64) (read_derivation 64) (λ why. Done (More (record { yes = b; row = row; why = why }))) (λ why. give (More (record { yes = b; row = row; why = why }))) (good_derivation 64) (λ why _ _. good_done (More (record { yes = b; row = row; why = why }))))

good_answer_parts : Grammar (Either (AnswerParts true) (Either (AnswerParts false) EndParts)) read_answer
unfolding AnswerParts EndParts
good_answer_parts =
    good_either 121 (AnswerParts true) (Either (AnswerParts false) EndParts) read_yes (either 110 read_no read_end) (begins_word 121 (codes "es ") _)
    (avoids_either 121 (AnswerParts false) EndParts (avoids_word 121 110 (codes "o ") _ (λ e. omega arith)) (avoids_word 121 101 (codes "nd\n") _ (λ e. omega arith)))
    (good_seq (Word (codes "yes ")) (after_word (codes "yes ")) (λ _. ReasonParts true) (λ _. read_reason true) (good_word (codes "yes ")) (λ _ _ _. good_reason true))
    (good_either 110 (AnswerParts false) EndParts read_no read_end (begins_word 110 (codes "o ") _) (avoids_word 110 101 (codes "nd\n") _ (λ e. omega arith))
    (good_seq (Word (codes "no ")) (after_word (codes "no ")) (λ _. ReasonParts false) (λ _. read_reason false) (good_word (codes "no ")) (λ _ _ _. good_reason false))
    (good_seq (Word (codes "end\n")) (after_word (codes "end\n")) (λ _. Done (Last tt)) (λ _. give (Last tt)) (good_word (codes "end\n")) (λ _ _ _. good_done (Last tt))))

-- an answer's text, and that of what stands behind the last one
AnswerText : Lang (Turn Reason (Unit {0}))
AnswerText (More a) t = (answer_has_text a ≡ true) × (t ≡ answer_text a)
AnswerText (Last b) t = t ≡ codes "end\n"

to_one : (b : Bool) (v : Turn Reason (Unit {0})) (t : List ℕ) → AnswerParts b v t → AnswerText v t
unfolding AnswerParts ReasonParts AnswerText
to_one b v t h =
    let r = h.back_text in
    let row = r.first_text in
    let d = r.back_text in
    let why = d.first_text in
    subst (λ (w : Turn Reason (Unit {0})). AnswerText w t) (sym d.back_text.0) (
      rw (row.has, why.has) refl,
      h.whole ∙ rw (h.first_text, r.whole, d.whole, d.back_text.1, row.whole, why.whole) (ap (λ x. answer_word b ++ x) (append_assoc (row_bytes r.first) (codes "\n") (derivation_text d.first ++ []))),
    )

to_answer : (v : Turn Reason (Unit {0})) (t : List ℕ) → Either (AnswerParts true) (Either (AnswerParts false) EndParts) v t → AnswerText v t
unfolding AnswerText EndParts
to_answer v t (inl h) = to_one true v t h
to_answer v t (inr (inl h)) = to_one false v t h
to_answer v t (inr (inr h)) = subst (λ (w : Turn Reason (Unit {0})). AnswerText w t) (sym h.back_text.0) (h.whole ∙ rw (h.first_text, h.back_text.1) refl)

from_one : (b : Bool) (row : Form) (why : Derivation) (t : List ℕ) → answer_has_text (record { yes = b; row = row; why = why }) ≡ true → t ≡ answer_text (record { yes = b; row = row; why = why }) → AnswerParts b (More (record { yes = b; row = row; why = why })) t
unfolding AnswerParts ReasonParts
from_one b row why t has whole =
    let parts = and_parts (row_has_text row) (derivation_has_text why 64) has in
    record {
      first = tt;
      front = answer_word b;
      back = (row_bytes row ++ codes "\n") ++ (derivation_text why ++ []);
      whole = whole ∙ ap (λ x. answer_word b ++ x) (sym (append_assoc (row_bytes row) (codes "\n") (derivation_text why ++ [])));
      first_text = refl;
      back_text = record {
        first = row;
        front = row_bytes row ++ codes "\n";
        back = derivation_text why ++ [];
        whole = refl;
        first_text = record { has = parts.0; whole = refl };
        back_text = record { first = why; front = derivation_text why; back = []; whole = refl; first_text = record { has = parts.1; whole = refl }; back_text = (refl, refl) };
      };
    }

from_answer : (v : Turn Reason (Unit {0})) (t : List ℕ) → AnswerText v t → Either (AnswerParts true) (Either (AnswerParts false) EndParts) v t
unfolding AnswerText EndParts
from_answer (More a) t h = by_word a.yes h.0 h.1
  where
    by_word : (b : Bool) → answer_has_text (record { yes = b; row = a.row; why = a.why }) ≡ true → t ≡ answer_text (record { yes = b; row = a.row; why = a.why }) → Either (AnswerParts true) (Either (AnswerParts false) EndParts) (More (record { yes = b; row = a.row; why = a.why })) t
    by_word true has whole = inl (from_one true a.row a.why t has whole)
    by_word false has whole = inr (inl (from_one false a.row a.why t has whole))
from_answer (Last b) t h = inr (inr (record { first = tt; front = codes "end\n"; back = []; whole = h; first_text = refl; back_text = (refl, refl) }))

good_answer : Grammar AnswerText read_answer
good_answer = good_same (Either (AnswerParts true) (Either (AnswerParts false) EndParts)) AnswerText read_answer to_answer from_answer good_answer_parts

word_some : (b : Bool) → 0 < length (answer_word b)
word_some true = lit< tt
word_some false = lit< tt

answer_takes : (v : Turn Reason (Unit {0})) (t : List ℕ) → AnswerText v t → 0 < length t
unfolding AnswerText
answer_takes (More a) t h = subst (λ x. 0 < length x) (sym h.1) (omega (arith, word_some a.yes, length-append (answer_word a.yes) (row_bytes a.row ++ (codes "\n" ++ (derivation_text a.why ++ [])))))
answer_takes (Last b) t h = subst (λ x. 0 < length x) (sym h) (lit< tt)

end_text : AnswerText (Last tt) (codes "end\n")
unfolding AnswerText
end_text = refl

answer_turns : Turns alike (λ _. AnswerText) (λ _. read_answer) Any
answer_turns = record { plain = λ s. good_answer.plain; good = λ s _. good_answer; more = λ s a t _ _. tt; takes = λ s v t h. answer_takes v t h; ending = λ s _. (tt, codes "end\n", end_text) }

AnswersParts : Lang (List Reason)
AnswersParts = Dep (Loop alike (λ _. AnswerText) 0) (λ r. Done r.0)

pub record AnswersText (answers : List Reason) (t : List ℕ) : Type 0 where
  pub has : list_all answer_has_text answers ≡ true
  pub whole : t ≡ flat_map answer_text answers ++ codes "end\n"

answers_to : (s : ℕ) (answers : List Reason) (b : Unit {0}) (t : List ℕ) → Items alike (λ _. AnswerText) s answers b t → AnswersText answers t
unfolding AnswerText
answers_to s [] b t h = record { has = refl; whole = h }
answers_to s (x ∷ xs) b t h =
    let rest = answers_to 0 xs b h.1 h.4 in
    record { has = rw (h.3.0, rest.has) refl; whole = h.2 ∙ rw (h.3.1, rest.whole) (sym (append_assoc (answer_text x) (flat_map answer_text xs) (codes "end\n"))) }

answers_from : (s : ℕ) (answers : List Reason) → list_all answer_has_text answers ≡ true → Items alike (λ _. AnswerText) s answers tt (flat_map answer_text answers ++ codes "end\n")
unfolding AnswerText
answers_from s [] has = refl
answers_from s (x ∷ xs) has =
    let p = and_parts (answer_has_text x) (list_all answer_has_text xs) has in
    (answer_text x, flat_map answer_text xs ++ codes "end\n", append_assoc (answer_text x) (flat_map answer_text xs) (codes "end\n"), (p.0, refl), answers_from 0 xs p.1)

pub good_answers : Grammar AnswersText read_answers
unfolding AnswersParts
good_answers =
    good_same AnswersParts AnswersText read_answers
    (λ v t h. subst (λ (w : List Reason). AnswersText w t) (sym h.back_text.0) (subst (λ x. AnswersText h.first.0 x) (sym (h.whole ∙ rw (h.back_text.1) (append-nil h.front))) (answers_to 0 h.first.0 h.first.1 h.front h.first_text)))
    (λ v t h. record { first = (v, tt); front = flat_map answer_text v ++ codes "end\n"; back = []; whole = h.whole ∙ sym (append-nil (flat_map answer_text v ++ codes "end\n")); first_text = answers_from 0 v h.has; back_text = (refl, refl) })
    (good_seq (Loop alike (λ _. AnswerText) 0) (λ text. loop alike (λ _. read_answer) (length text) 0 text) (λ r. Done r.0) (λ r. give r.0) (good_loop alike (λ _. AnswerText) (λ _. read_answer) Any 0 answer_turns tt) (λ r _ _. good_done r.0))

-- Reading heads and whole certificates: each answer is right for their texts.
use Rattle.std.proofs.Common.{◌≡◌, ℕ, ◌+◌, ◌<◌, ◌==◌, ◌||◌, nat_lt, pos, Bool, true, false, inl, inr, List, [], ◌∷◌, ◌++◌, length, refl, sym, ◌∙◌, ap, subst, arith, codes}
use Rattle.std.specs.List.{list_all, AllByRecursion}
use Rattle.std.proofs.lemmas.Bool.{and_parts, eqb-true}
use Rattle.std.proofs.lemmas.Bool.Decides.{nat_tests}
use Rattle.std.proofs.lemmas.List.{append-nil}
use Rattle.std.proofs.lemmas.Fmt.{decimal_digit}
use Rattle.hex.specs.Hex.{encode_lower}
use Rattle.cert_text.specs.declared.certificate.Cert.{Cert}
use Rattle.cert_text.specs.declared.certificate.Piece.TheVariants.{Head}
use Rattle.cert_text.specs.Texts.{is_form, job_has_text, head_has_text, piece_text, node_text, node_has_text, CertText}
use Rattle.cert_text.specs.steps.Read.{after_word, read_bytes}
use Rattle.cert_text.specs.steps.Write.{int_bytes}
use Rattle.cert_text.specs.steps.Whole.{read_form, read_head, read_node, read_front}
use Rattle.cert_text.specs.steps.Readers.{give, seq}
use Rattle.cert_text.proofs.Language.{Lang, Dep, Done, Word}
use Rattle.cert_text.proofs.Digests.{BytesText, good_bytes}
use Rattle.cert_text.proofs.Grammars.{Grammar, Either, good_word, good_done, good_seq, good_same, good_either, begins_word, avoids_word}
use Rattle.cert_text.proofs.NodeTexts.{NodeText, good_node}

-- ---- heads

FormParts : Lang ℕ
FormParts = Either (Dep (Word (codes "1")) (λ _. Done 1)) (Dep (Word (codes "2")) (λ _. Done 2))

good_form_parts : Grammar FormParts read_form
unfolding FormParts
good_form_parts =
    good_either 49 (Dep (Word (codes "1")) (λ _. Done 1)) (Dep (Word (codes "2")) (λ _. Done 2)) (seq (after_word (codes "1")) (λ _. give 1)) (seq (after_word (codes "2")) (λ _. give 2)) (begins_word 49 [] _) (avoids_word 49 50 [] _ (λ e. omega arith))
    (good_seq (Word (codes "1")) (after_word (codes "1")) (λ _. Done 1) (λ _. give 1) (good_word (codes "1")) (λ _ _ _. good_done 1))
    (good_seq (Word (codes "2")) (after_word (codes "2")) (λ _. Done 2) (λ _. give 2) (good_word (codes "2")) (λ _ _ _. good_done 2))

-- a form, and its digit
record FormText (form : ℕ) (t : List ℕ) : Type 0 where
  is : is_form form ≡ true
  whole : t ≡ int_bytes (pos form)

one_digit : (n : ℕ) → n < 10 → int_bytes (pos n) ≡ (48 + n) ∷ []
one_digit n small = decimal_digit n small

form_to : (form : ℕ) (t : List ℕ) → FormParts form t → FormText form t
unfolding FormParts
form_to form t (inl h) = subst (λ f. FormText f t) (sym h.back_text.0) (record { is = refl; whole = h.whole ∙ rw (h.first_text, h.back_text.1) (sym (one_digit 1 (omega arith))) })
form_to form t (inr h) = subst (λ f. FormText f t) (sym h.back_text.0) (record { is = refl; whole = h.whole ∙ rw (h.first_text, h.back_text.1) (sym (one_digit 2 (omega arith))) })

form_by : (form : ℕ) (t : List ℕ) (b : Bool) → (form == 1) ≡ b → (b || form == 2) ≡ true → t ≡ int_bytes (pos form) → FormParts form t
unfolding FormParts
form_by form t true one is whole =
    let same = eqb-true form 1 one in
    inl (record { first = tt; front = codes "1"; back = []; whole = whole ∙ ap (λ f. int_bytes (pos f)) same ∙ one_digit 1 (omega arith); first_text = refl; back_text = (same, refl) })
form_by form t false one is whole =
    let same = eqb-true form 2 is in
    inr (record { first = tt; front = codes "2"; back = []; whole = whole ∙ ap (λ f. int_bytes (pos f)) same ∙ one_digit 2 (omega arith); first_text = refl; back_text = (same, refl) })

good_form : Grammar FormText read_form
good_form = good_same FormParts FormText read_form form_to (λ form t h. form_by form t (form == 1) refl h.is h.whole) good_form_parts

-- a form and a digest, and the lines of a head of these
pub record HeadText (h : ℕ × List ℕ) (t : List ℕ) : Type 0 where
  pub has : head_has_text h.0 h.1 ≡ true
  pub whole : t ≡ piece_text (Head h.0 h.1)

abbrev AfterForm : ℕ → Lang (ℕ × List ℕ)
AfterForm form = Dep (Word (codes "\njob ")) (λ _. Dep (BytesText 32) (λ job. Dep (Word (codes "\n")) (λ _. Done (form, job))))

HeadParts : Lang (ℕ × List ℕ)
HeadParts = Dep (Word (codes "vizlog-cert ")) (λ _. Dep FormText AfterForm)

good_head_parts : Grammar HeadParts read_head
unfolding HeadParts
good_head_parts =
    good_seq (Word (codes "vizlog-cert ")) (after_word (codes "vizlog-cert ")) (λ _. Dep FormText AfterForm) (λ _. seq read_form (λ form. seq (after_word (codes "\njob ")) (λ _. seq (read_bytes 32) (λ job. seq (after_word (codes "\n")) (λ _. give (form, job)))))) (good_word (codes "vizlog-cert ")) (λ _ _ _.
    good_seq FormText read_form AfterForm (λ form. seq (after_word (codes "\njob ")) (λ _. seq (read_bytes 32) (λ job. seq (after_word (codes "\n")) (λ _. give (form, job))))) good_form (λ form _ _.
    good_seq (Word (codes "\njob ")) (after_word (codes "\njob ")) (λ _. Dep (BytesText 32) (λ job. Dep (Word (codes "\n")) (λ _. Done (form, job)))) (λ _. seq (read_bytes 32) (λ job. seq (after_word (codes "\n")) (λ _. give (form, job)))) (good_word (codes "\njob ")) (λ _ _ _.
    good_seq (BytesText 32) (read_bytes 32) (λ job. Dep (Word (codes "\n")) (λ _. Done (form, job))) (λ job. seq (after_word (codes "\n")) (λ _. give (form, job))) (good_bytes 32) (λ job _ _.
    good_seq (Word (codes "\n")) (after_word (codes "\n")) (λ _. Done (form, job)) (λ _. give (form, job)) (good_word (codes "\n")) (λ _ _ _. good_done (form, job))))))

bytes_is : (job : List ℕ) → AllByRecursion (λ b. b < 256) job → list_all (λ b. nat_lt b 256) job ≡ true
bytes_is [] h = refl
bytes_is (b ∷ bs) h = let first = h.0 in let one : nat_lt b 256 ≡ true = grind (arith, nat_tests) in rw (one, bytes_is bs h.1) refl

is_bytes : (job : List ℕ) → list_all (λ b. nat_lt b 256) job ≡ true → AllByRecursion (λ b. b < 256) job
is_bytes [] h = tt
is_bytes (b ∷ bs) h = let p = and_parts (nat_lt b 256) (list_all (λ c. nat_lt c 256) bs) h in let one = p.0 in (grind (arith, nat_tests), is_bytes bs p.1)

head_to : (v : ℕ × List ℕ) (t : List ℕ) → HeadParts v t → HeadText v t
unfolding HeadParts
head_to v t h =
    let f = h.back_text in
    let form = f.first_text in
    let l = f.back_text in
    let j = l.back_text in
    let job = j.first_text in
    let n = j.back_text in
    let sized : (length j.first == 32) ≡ true = let same = job.0 in grind (arith, nat_tests) in
    subst (λ (w : ℕ × List ℕ). HeadText w t) (sym n.back_text.0) (record {
      has = rw (form.is, sized, bytes_is j.first job.1) refl;
      whole = h.whole ∙ rw (h.first_text, f.whole, form.whole, l.whole, l.first_text, j.whole, job.2, n.whole, n.first_text, n.back_text.1) refl;
    })

head_from : (v : ℕ × List ℕ) (t : List ℕ) → HeadText v t → HeadParts v t
unfolding HeadParts
head_from v t h =
    let a = and_parts (is_form v.0) (job_has_text v.1) h.has in
    let b = and_parts (length v.1 == 32) (list_all (λ b. nat_lt b 256) v.1) a.1 in
    let size = b.0 in
    let sized : length v.1 ≡ 32 = grind (arith, nat_tests) in
    let rest = codes "\njob " ++ (encode_lower v.1 ++ (codes "\n" ++ [])) in
    record {
      first = tt;
      front = codes "vizlog-cert ";
      back = int_bytes (pos v.0) ++ rest;
      whole = h.whole;
      first_text = refl;
      back_text = record {
        first = v.0;
        front = int_bytes (pos v.0);
        back = rest;
        whole = refl;
        first_text = record { is = a.0; whole = refl };
        back_text = record {
          first = tt;
          front = codes "\njob ";
          back = encode_lower v.1 ++ (codes "\n" ++ []);
          whole = refl;
          first_text = refl;
          back_text = record {
            first = v.1;
            front = encode_lower v.1;
            back = codes "\n" ++ [];
            whole = refl;
            first_text = (sized, is_bytes v.1 b.1, refl);
            back_text = record { first = tt; front = codes "\n"; back = []; whole = refl; first_text = refl; back_text = (refl, refl) };
          };
        };
      };
    }

pub good_head : Grammar HeadText read_head
good_head = good_same HeadParts HeadText read_head head_to head_from good_head_parts

-- ---- certificates

CertParts : Lang Cert
CertParts = Dep HeadText (λ h. Dep (NodeText h.0 512) (λ root. Done (record { form = h.0; job = h.1; root = root })))

good_parts : Grammar CertParts read_front
unfolding CertParts
good_parts =
    good_seq HeadText read_head (λ h. Dep (NodeText h.0 512) (λ root. Done (record { form = h.0; job = h.1; root = root }))) (λ h. seq (read_node h.0 512) (λ root. give (record { form = h.0; job = h.1; root = root }))) good_head (λ h _ _.
    good_seq (NodeText h.0 512) (read_node h.0 512) (λ root. Done (record { form = h.0; job = h.1; root = root })) (λ root. give (record { form = h.0; job = h.1; root = root })) (good_node h.0 512) (λ root _ _. good_done (record { form = h.0; job = h.1; root = root })))

to_cert : (v : Cert) (t : List ℕ) → CertParts v t → CertText v t
unfolding CertParts
to_cert v t h =
    let head = h.first_text in
    let n = h.back_text in
    let node = n.first_text in
    subst (λ (c : Cert). CertText c t) (sym n.back_text.0) (rw (head.has, node.has) refl, h.whole ∙ rw (head.whole, n.whole, n.back_text.1, node.whole, append-nil (node_text n.first)) refl)

from_cert : (v : Cert) (t : List ℕ) → CertText v t → CertParts v t
unfolding CertParts
from_cert v t h =
    let a = and_parts (head_has_text v.form v.job) (node_has_text v.form v.root 512) h.0 in
    record {
      first = (v.form, v.job);
      front = piece_text (Head v.form v.job);
      back = node_text v.root;
      whole = h.1;
      first_text = record { has = a.0; whole = refl };
      back_text = record { first = v.root; front = node_text v.root; back = []; whole = sym (append-nil (node_text v.root)); first_text = record { has = a.1; whole = refl }; back_text = (refl, refl) };
    }

pub good_cert : Grammar CertText read_front
good_cert = good_same CertParts CertText read_front to_cert from_cert good_parts

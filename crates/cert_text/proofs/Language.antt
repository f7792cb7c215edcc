-- Languages: relations between values and texts. How far a text can be begun, and what makes the answer of a reader right.
use Rattle.std.proofs.Common.{◌≡◌, ℕ, ◌==◌, Bool, true, false, cond, List, [], ◌∷◌, ◌++◌, Ok, Err, refl, sym, ◌∙◌, ap, subst, arith, rules}
use Rattle.cert_text.specs.steps.Read.{Answer, after_word, begins}

-- the values' texts
abbrev pub Lang : Type 0 → Type 1
Lang A = A → List ℕ → Type 0

-- Two texts are the same and then P holds, or they differ at a place that both have: neither only begins the other.
abbrev pub Agree : Type 0 → List ℕ → List ℕ → Type 0
Agree P [] [] = P
Agree P [] (d ∷ t) = ⊥
Agree P (c ∷ s) [] = ⊥
Agree P (c ∷ s) (d ∷ t) = c ≡ d → Agree P s t

-- A text leaves `read ++ rest` within `read`, or at its end: it has another byte there, or goes on where the rest ends.
abbrev pub Leaves : List ℕ → List ℕ → List ℕ → Type 0
Leaves [] read rest = ⊥
Leaves (c ∷ t) [] [] = Unit {0}
Leaves (c ∷ t) [] (d ∷ rest) = c ≡ d → ⊥
Leaves (c ∷ t) (d ∷ read) rest = c ≡ d → Leaves t read rest

-- texts of a language begin no other ones, and have one value each
abbrev pub IsPlain : {A : Type 0} → Lang A → Type 0
IsPlain {A} L = (v w : A) (s t : List ℕ) → L v s → L w t → Agree (v ≡ w) s t

-- what can be read is what begins some text, and no text goes on as the rest does
pub record IsRefused {A : Type 0} (L : Lang A) (text rest : List ℕ) : Type 0 where
  pub read : List ℕ
  pub whole : text ≡ read ++ rest
  pub value : A
  pub more : List ℕ
  pub begins : L value (read ++ more)
  pub leaves : (v : A) (t : List ℕ) → L v t → Leaves t read rest

pub record IsTaken {A : Type 0} (L : Lang A) (text : List ℕ) (v : A) (rest : List ℕ) : Type 0 where
  pub read : List ℕ
  pub whole : text ≡ read ++ rest
  pub is_text : L v read

-- an answer is right for a text
abbrev pub IsRead : {A : Type 0} → Lang A → List ℕ → Answer A → Type 0
IsRead L text (Ok r) = IsTaken L text r.0 r.1
IsRead L text (Err rest) = IsRefused L text rest

-- a part, and then what may follow its value
pub record Dep {A B : Type 0} (L : Lang A) (K : A → Lang B) (v : B) (t : List ℕ) : Type 0 where
  pub first : A
  pub front : List ℕ
  pub back : List ℕ
  pub whole : t ≡ front ++ back
  pub first_text : L first front
  pub back_text : K first v back

pub record Some_text {A : Type 0} (L : Lang A) : Type 0 where
  pub value : A
  pub text : List ℕ
  pub is_text : L value text

-- nothing more: the value is known
abbrev pub Done : {A : Type 0} → A → Lang A
Done a v t = (v ≡ a) × (t ≡ [])

-- ---- lists

pub agree_map : (P Q : Type 0) (s t : List ℕ) → (P → Q) → Agree P s t → Agree Q s t
agree_map P Q [] [] f h = f h
agree_map P Q [] (d ∷ t) f h = h
agree_map P Q (c ∷ s) [] f h = h
agree_map P Q (c ∷ s) (d ∷ t) f h = λ e. agree_map P Q s t f (h e)

pub agree_append : (P Q : Type 0) (s t u w : List ℕ) → Agree P s t → (P → Agree Q u w) → Agree Q (s ++ u) (t ++ w)
agree_append P Q [] [] u w h k = k h
agree_append P Q [] (d ∷ t) u w h k = absurd h
agree_append P Q (c ∷ s) [] u w h k = absurd h
agree_append P Q (c ∷ s) (d ∷ t) u w h k = λ e. agree_append P Q s t u w (h e) k

pub agree_same : {P : Type 0} (s : List ℕ) → P → Agree P s s
agree_same [] p = p
agree_same (c ∷ s) p = λ e. agree_same s p

-- a text that another one begins with is that text
pub agree_begins : (P : Type 0) (s more : List ℕ) → Agree P s (s ++ more) → (more ≡ []) × P
agree_begins P [] [] h = (refl, h)
agree_begins P [] (c ∷ more) h = absurd h
agree_begins P (c ∷ s) more h = agree_begins P s more (h refl)

pub leaves_front : (s u read rest : List ℕ) → Leaves s read rest → Leaves (s ++ u) read rest
leaves_front [] u read rest h = absurd h
leaves_front (c ∷ s) u [] [] h = tt
leaves_front (c ∷ s) u [] (d ∷ rest) h = h
leaves_front (c ∷ s) u (d ∷ read) rest h = λ e. leaves_front s u read rest (h e)

pub leaves_back : (P : Type 0) (s t u read rest : List ℕ) → Agree P s t → (P → Leaves u read rest) → Leaves (s ++ u) (t ++ read) rest
leaves_back P [] [] u read rest h k = k h
leaves_back P [] (d ∷ t) u read rest h k = absurd h
leaves_back P (c ∷ s) [] u read rest h k = absurd h
leaves_back P (c ∷ s) (d ∷ t) u read rest h k = λ e. leaves_back P s t u read rest (h e) k

-- a text that begins with c leaves one that does not
pub leaves_first : (c : ℕ) (t read rest : List ℕ) → (begins c (read ++ rest) ≡ true → ⊥) → Leaves (c ∷ t) read rest
leaves_first c t [] [] h = tt
leaves_first c t [] (d ∷ rest) h = λ e. h (search (arith, rules))
leaves_first c t (d ∷ read) rest h = λ e. absurd (h (search (arith, rules)))

-- ---- nothing more

pub read_done : {A : Type 0} (a : A) (text : List ℕ) → IsRead (Done a) text (Ok (a, text))
read_done a text = record { read = []; whole = refl; is_text = (refl, refl) }

pub plain_done : {A : Type 0} (a : A) → IsPlain (Done a)
plain_done a v w s t h k = subst (λ x. Agree (v ≡ w) x t) (sym h.1) (subst (λ y. Agree (v ≡ w) [] y) (sym k.1) (h.0 ∙ sym k.0))

pub some_done : {A : Type 0} (a : A) → Some_text (Done a)
some_done a = record { value = a; text = []; is_text = (refl, refl) }

-- the same texts of the same values
pub read_same : {A : Type 0} (L M : Lang A) (text : List ℕ) (r : Answer A) → ((v : A) (t : List ℕ) → L v t → M v t) → ((v : A) (t : List ℕ) → M v t → L v t) → IsRead L text r → IsRead M text r
read_same L M text (Ok r) to from h = record { read = h.read; whole = h.whole; is_text = to r.0 h.read h.is_text }
read_same L M text (Err rest) to from h = record {
  read = h.read;
  whole = h.whole;
  value = h.value;
  more = h.more;
  begins = to h.value (h.read ++ h.more) h.begins;
  leaves = λ v t m. h.leaves v t (from v t m);
}

-- ---- words

abbrev pub Word : List ℕ → Lang (Unit {0})
Word w v t = t ≡ w

pub plain_word : (w : List ℕ) → IsPlain (Word w)
plain_word w v u s t h k = subst (λ x. Agree (v ≡ u) x t) (sym h) (subst (λ y. Agree (v ≡ u) w y) (sym k) (agree_same w refl))

pub some_word : (w : List ℕ) → Some_text (Word w)
some_word w = record { value = tt; text = w; is_text = refl }

word_more : (c : ℕ) (ws cs : List ℕ) (r : Answer (Unit {0})) → IsRead (Word ws) cs r → IsRead (Word (c ∷ ws)) (c ∷ cs) r
word_more c ws cs (Ok r) h = record { read = c ∷ h.read; whole = ap (λ t. c ∷ t) h.whole; is_text = ap (λ t. c ∷ t) h.is_text }
word_more c ws cs (Err rest) h = record {
  read = c ∷ h.read;
  whole = ap (λ t. c ∷ t) h.whole;
  value = tt;
  more = h.more;
  begins = ap (λ t. c ∷ t) h.begins;
  leaves = λ v t e. subst (λ x. Leaves x (c ∷ h.read) rest) (sym e) (λ _. h.leaves v ws refl);
}

word_refused : (c w : ℕ) (ws cs : List ℕ) → (c ≡ w → ⊥) → IsRefused (Word (w ∷ ws)) (c ∷ cs) (c ∷ cs)
word_refused c w ws cs ne = record {
  read = [];
  whole = refl;
  value = tt;
  more = w ∷ ws;
  begins = refl;
  leaves = λ v t e. subst (λ x. Leaves x [] (c ∷ cs)) (sym e) (λ same. ne (sym same));
}

word_by : (b : Bool) (c w : ℕ) (ws cs : List ℕ) → (b ≡ true → c ≡ w) → (b ≡ false → c ≡ w → ⊥) → IsRead (Word ws) cs (after_word ws cs) → IsRead (Word (w ∷ ws)) (c ∷ cs) (cond b (after_word ws cs) (Err (c ∷ cs)))
word_by true c w ws cs same other h = subst (λ x. IsRead (Word (x ∷ ws)) (c ∷ cs) (after_word ws cs)) (same refl) (word_more c ws cs (after_word ws cs) h)
word_by false c w ws cs same other h = word_refused c w ws cs (other refl)

pub read_word : (w text : List ℕ) → IsRead (Word w) text (after_word w text)
read_word [] text = record { read = []; whole = refl; is_text = refl }
read_word (w ∷ ws) [] = record { read = []; whole = refl; value = tt; more = w ∷ ws; begins = refl; leaves = λ v t e. subst (λ x. Leaves x [] []) (sym e) tt }
read_word (w ∷ ws) (c ∷ cs) = word_by (c == w) c w ws cs (λ h. grind arith) (λ h e. grind arith) (read_word ws cs)

-- Languages with their readers: each answer of the reader is right, and texts have one value each and begin no others.
use Rattle.std.proofs.Common.{◌≡◌, ℕ, zero, suc, ◌+◌, ◌<◌, ◌≤◌, Bool, true, false, cond, ◌⊎◌, inl, inr, List, [], ◌∷◌, ◌++◌, length, Ok, Err, refl, sym, ◌∙◌, ap, subst, arith, rules, append_assoc, length-append}
use Rattle.std.proofs.lemmas.Bool.{false≢true}
use Rattle.std.proofs.lemmas.List.{append-nil}
use Rattle.cert_text.specs.declared.turn.Turn.{Turn}
use Rattle.cert_text.specs.declared.turn.Turn.TheVariants.{More, Last}
use Rattle.cert_text.specs.steps.Read.{Answer, ◌>>=◌, after_word, begins}
use Rattle.cert_text.specs.steps.Readers.{Reader, give, seq, either, turned, loop}
use Rattle.cert_text.proofs.Language.{Lang, Agree, Leaves, IsPlain, IsRefused, IsTaken, IsRead, Dep, Done, Some_text, agree_map, agree_append, leaves_front, leaves_back, leaves_first, read_done, plain_done, some_done, read_same, Word, plain_word, some_word, read_word}

pub record Grammar {A : Type 0} (L : Lang A) (R : Reader A) : Type 0 where
  pub plain : IsPlain L
  pub some : Some_text L
  pub read : (text : List ℕ) → IsRead L text (R text)

pub good_word : (w : List ℕ) → Grammar (Word w) (after_word w)
good_word w = record { plain = plain_word w; some = some_word w; read = read_word w }

pub good_done : {A : Type 0} (a : A) → Grammar (Done a) (give a)
good_done a = record { plain = plain_done a; some = some_done a; read = read_done a }

-- ---- one part after another

plain_seq : {A B : Type 0} (L : Lang A) (K : A → Lang B) → IsPlain L → ((a : A) (t : List ℕ) → L a t → IsPlain (K a)) → IsPlain (Dep L K)
plain_seq {A} {B} L K plain plains v w s t h k =
    subst (λ x. Agree (v ≡ w) x t) (sym h.whole) (subst (λ y. Agree (v ≡ w) (h.front ++ h.back) y) (sym k.whole)
    (agree_append (h.first ≡ k.first) (v ≡ w) h.front k.front h.back k.back (plain h.first k.first h.front k.front h.first_text k.first_text)
    (λ e. plains k.first k.front k.first_text v w h.back k.back (subst (λ a. K a v h.back) e h.back_text) k.back_text)))

taken_seq : {A B : Type 0} (L : Lang A) (K : A → Lang B) (text : List ℕ) (a : A) (mid : List ℕ) (r : Answer B)
    → IsPlain L → IsTaken L text a mid → IsRead (K a) mid r → IsRead (Dep L K) text r
taken_seq L K text a mid (Ok r) plain t k = record {
  read = t.read ++ k.read;
  whole = t.whole ∙ ap (λ m. t.read ++ m) k.whole ∙ sym (append_assoc t.read k.read r.1);
  is_text = record { first = a; front = t.read; back = k.read; whole = refl; first_text = t.is_text; back_text = k.is_text };
}
taken_seq L K text a mid (Err rest) plain t k = record {
  read = t.read ++ k.read;
  whole = t.whole ∙ ap (λ m. t.read ++ m) k.whole ∙ sym (append_assoc t.read k.read rest);
  value = k.value;
  more = k.more;
  begins = record { first = a; front = t.read; back = k.read ++ k.more; whole = append_assoc t.read k.read k.more; first_text = t.is_text; back_text = k.begins };
  leaves = λ v s d. subst (λ x. Leaves x (t.read ++ k.read) rest) (sym d.whole)
      (leaves_back (d.first ≡ a) d.front t.read d.back k.read rest (plain d.first a d.front t.read d.first_text t.is_text)
      (λ e. k.leaves v d.back (subst (λ x. K x v d.back) e d.back_text)));
}

read_seq : {A B : Type 0} (L : Lang A) (K : A → Lang B) (text : List ℕ) (r : Answer A) (k : A → Reader B)
    → IsPlain L → IsRead L text r → ((a : A) (t : List ℕ) → L a t → Grammar (K a) (k a)) → IsRead (Dep L K) text (r >>= λ p. k p.0 p.1)
read_seq L K text (Ok r) k plain h g = taken_seq L K text r.0 r.1 (k r.0 r.1) plain h ((g r.0 h.read h.is_text).read r.1)
read_seq L K text (Err rest) k plain h g =
    let next = (g h.value (h.read ++ h.more) h.begins).some in record {
      read = h.read;
      whole = h.whole;
      value = next.value;
      more = h.more ++ next.text;
      begins = record { first = h.value; front = h.read ++ h.more; back = next.text; whole = sym (append_assoc h.read h.more next.text); first_text = h.begins; back_text = next.is_text };
      leaves = λ v t d. subst (λ x. Leaves x h.read rest) (sym d.whole) (leaves_front d.front d.back h.read rest (h.leaves d.first d.front d.first_text));
    }

pub good_seq : {A B : Type 0} (L : Lang A) (R : Reader A) (K : A → Lang B) (k : A → Reader B) → Grammar L R → ((a : A) (t : List ℕ) → L a t → Grammar (K a) (k a)) → Grammar (Dep L K) (seq R k)
good_seq L R K k h g =
    let s = h.some in
    let next = (g s.value s.text s.is_text).some in
    record {
      plain = plain_seq L K h.plain (λ a t is. (g a t is).plain);
      some = record { value = next.value; text = s.text ++ next.text; is_text = record { first = s.value; front = s.text; back = next.text; whole = refl; first_text = s.is_text; back_text = next.is_text } };
      read = λ text. read_seq L K text (R text) k h.plain (h.read text) g;
    }

-- the same texts of the same values
pub good_same : {A : Type 0} (L M : Lang A) (R : Reader A) → ((v : A) (t : List ℕ) → L v t → M v t) → ((v : A) (t : List ℕ) → M v t → L v t) → Grammar L R → Grammar M R
good_same L M R to from g = record {
  plain = λ v w s t h k. g.plain v w s t (from v s h) (from w t k);
  some = record { value = g.some.value; text = g.some.text; is_text = to g.some.value g.some.text g.some.is_text };
  read = λ text. read_same L M text (R text) to from (g.read text);
}

-- ---- one of two, by the first byte

abbrev pub Either : {A : Type 0} → Lang A → Lang A → Lang A
Either L M v t = L v t ⊎ M v t

-- each text begins with c, and none does
abbrev pub Begins : {A : Type 0} → ℕ → Lang A → Type 0
Begins {A} c L = (v : A) (t : List ℕ) → L v t → (more : List ℕ) × (t ≡ c ∷ more)

abbrev pub Avoids : {A : Type 0} → ℕ → Lang A → Type 0
Avoids {A} c L = (v : A) (t : List ℕ) → L v t → (d : ℕ) × (more : List ℕ) × (t ≡ d ∷ more) × (d ≡ c → ⊥)

pub begins_word : {A : Type 0} (c : ℕ) (w : List ℕ) (K : Unit {0} → Lang A) → Begins c (Dep (Word (c ∷ w)) K)
begins_word c w K v t h = (w ++ h.back, h.whole ∙ ap (λ x. x ++ h.back) h.first_text)

pub avoids_word : {A : Type 0} (c d : ℕ) (w : List ℕ) (K : Unit {0} → Lang A) → (d ≡ c → ⊥) → Avoids c (Dep (Word (d ∷ w)) K)
avoids_word c d w K other v t h = (d, w ++ h.back, h.whole ∙ ap (λ x. x ++ h.back) h.first_text, other)

pub avoids_either : {A : Type 0} (c : ℕ) (L M : Lang A) → Avoids c L → Avoids c M → Avoids c (Either L M)
avoids_either c L M l m v t (inl h) = l v t h
avoids_either c L M l m v t (inr h) = m v t h

-- a text that begins with another byte than one leaves it
other_leaves : (c d : ℕ) (more read rest : List ℕ) → (d ≡ c → ⊥) → begins c (read ++ rest) ≡ true → Leaves (d ∷ more) read rest
other_leaves c d more [] [] other is = tt
other_leaves c d more [] (e ∷ rest) other is = λ same. other (same ∙ search (arith, rules))
other_leaves c d more (e ∷ read) rest other is = λ same. absurd (other (same ∙ search (arith, rules)))

pub plain_either_of : {A : Type 0} (c : ℕ) (L M : Lang A) → IsPlain L → IsPlain M → Begins c L → Avoids c M → IsPlain (Either L M)
plain_either_of c L M l m first other v w s t (inl h) (inl k) = l v w s t h k
plain_either_of c L M l m first other v w s t (inr h) (inr k) = m v w s t h k
plain_either_of c L M l m first other v w s t (inl h) (inr k) =
    let f = first v s h in
    let o = other w t k in
    subst (λ x. Agree (v ≡ w) x t) (sym f.1) (subst (λ y. Agree (v ≡ w) (c ∷ f.0) y) (sym o.2) (λ same. absurd (o.3 (sym same))))
plain_either_of c L M l m first other v w s t (inr h) (inl k) =
    let f = first w t k in
    let o = other v s h in
    subst (λ x. Agree (v ≡ w) x t) (sym o.2) (subst (λ y. Agree (v ≡ w) (o.0 ∷ o.1) y) (sym f.1) (λ same. absurd (o.3 same)))

read_first : {A : Type 0} (c : ℕ) (L M : Lang A) (text : List ℕ) (r : Answer A) → begins c text ≡ true → Avoids c M → IsRead L text r → IsRead (Either L M) text r
read_first c L M text (Ok r) is other h = record { read = h.read; whole = h.whole; is_text = inl h.is_text }
read_first {A} c L M text (Err rest) is other h = record { read = h.read; whole = h.whole; value = h.value; more = h.more; begins = inl h.begins; leaves = by_kind }
  where
    by_kind : (v : A) (t : List ℕ) → Either L M v t → Leaves t h.read rest
    by_kind v t (inl k) = h.leaves v t k
    by_kind v t (inr k) =
        let o = other v t k in
        subst (λ x. Leaves x h.read rest) (sym o.2) (other_leaves c o.0 o.1 h.read rest o.3 (subst (λ x. begins c x ≡ true) h.whole is))

read_second : {A : Type 0} (c : ℕ) (L M : Lang A) (text : List ℕ) (r : Answer A) → begins c text ≡ false → Begins c L → IsRead M text r → IsRead (Either L M) text r
read_second c L M text (Ok r) is first h = record { read = h.read; whole = h.whole; is_text = inr h.is_text }
read_second {A} c L M text (Err rest) is first h = record { read = h.read; whole = h.whole; value = h.value; more = h.more; begins = inr h.begins; leaves = by_kind }
  where
    by_kind : (v : A) (t : List ℕ) → Either L M v t → Leaves t h.read rest
    by_kind v t (inl k) =
        let f = first v t k in
        subst (λ x. Leaves x h.read rest) (sym f.1) (leaves_first c f.0 h.read rest (λ e. false≢true (sym is ∙ ap (begins c) h.whole ∙ e)))
    by_kind v t (inr k) = h.leaves v t k

read_either : {A : Type 0} (b : Bool) (c : ℕ) (L M : Lang A) (R S : Reader A) (text : List ℕ) → begins c text ≡ b → Begins c L → Avoids c M → Grammar L R → Grammar M S → IsRead (Either L M) text (cond b (R text) (S text))
read_either true c L M R S text is first other l m = read_first c L M text (R text) is other (l.read text)
read_either false c L M R S text is first other l m = read_second c L M text (S text) is first (m.read text)

pub good_either : {A : Type 0} (c : ℕ) (L M : Lang A) (R S : Reader A) → Begins c L → Avoids c M → Grammar L R → Grammar M S → Grammar (Either L M) (either c R S)
good_either c L M R S first other l m = record {
  plain = plain_either_of c L M l.plain m.plain first other;
  some = record { value = l.some.value; text = l.some.text; is_text = inl l.some.is_text };
  read = λ text. read_either (begins c text) c L M R S text refl first other l m;
}

-- ---- items, and what stands behind them

-- items one after another, and then what is not one; `s` is the number that the first item depends on
abbrev pub Items : {A B : Type 0} → (A → ℕ) → (ℕ → Lang (Turn A B)) → ℕ → List A → B → List ℕ → Type 0
Items next item s [] b t = item s (Last b) t
Items next item s (a ∷ others) b t = (front : List ℕ) × (back : List ℕ) × (t ≡ front ++ back) × item s (More a) front × Items next item (next a) others b back

abbrev pub Loop : {A B : Type 0} → (A → ℕ) → (ℕ → Lang (Turn A B)) → ℕ → Lang (List A × B)
Loop next item s v t = Items next item s v.0 v.1 t

ended_agree : {A B : Type 0} (next : A → ℕ) (item : ℕ → Lang (Turn A B)) (s : ℕ) (b : B) (as' : List A) (b' : B) (t u : List ℕ) → ((s : ℕ) → IsPlain (item s)) → item s (Last b) t → Items next item s as' b' u
    → Agree (◌≡◌ {A = List A × B} ([], b) (as', b')) t u
ended_agree {A} {B} next item s b [] b' t u plain h k = agree_map _ _ t u (λ e. let same : b ≡ b' = cc in ap (λ x. ([], x)) same) (plain s (Last b) (Last b') t u h k)
ended_agree {A} {B} next item s b (a ∷ others) b' t u plain h k =
    subst (λ x. Agree (◌≡◌ {A = List A × B} ([], b) (a ∷ others, b')) x u) (append-nil t)
    (subst (λ y. Agree (◌≡◌ {A = List A × B} ([], b) (a ∷ others, b')) (t ++ []) y) (sym k.2)
    (agree_append (◌≡◌ {A = Turn A B} (Last b) (More a)) _ t k.0 [] k.1 (plain s (Last b) (More a) t k.0 h k.3) (λ e. absurd (cc))))

ended_disagree : {A B : Type 0} (next : A → ℕ) (item : ℕ → Lang (Turn A B)) (s : ℕ) (a : A) (others : List A) (b b' : B) (t u : List ℕ) → ((s : ℕ) → IsPlain (item s)) → Items next item s (a ∷ others) b t → item s (Last b') u
    → Agree (◌≡◌ {A = List A × B} (a ∷ others, b) ([], b')) t u
ended_disagree {A} {B} next item s a others b b' t u plain h k =
    subst (λ x. Agree (◌≡◌ {A = List A × B} (a ∷ others, b) ([], b')) t x) (append-nil u)
    (subst (λ y. Agree (◌≡◌ {A = List A × B} (a ∷ others, b) ([], b')) y (u ++ [])) (sym h.2)
    (agree_append (◌≡◌ {A = Turn A B} (More a) (Last b')) _ h.0 u h.1 [] (plain s (More a) (Last b') h.0 u h.3 k) (λ e. absurd (cc))))

plain_items : {A B : Type 0} (next : A → ℕ) (item : ℕ → Lang (Turn A B)) (s : ℕ) (xs : List A) (b : B) (ys : List A) (d : B) (t u : List ℕ) → ((s : ℕ) → IsPlain (item s)) → Items next item s xs b t → Items next item s ys d u
    → Agree (◌≡◌ {A = List A × B} (xs, b) (ys, d)) t u
plain_items next item s [] b ys d t u plain h k = ended_agree next item s b ys d t u plain h k
plain_items next item s (x ∷ xs) b [] d t u plain h k = ended_disagree next item s x xs b d t u plain h k
plain_items {A} {B} next item s (x ∷ xs) b (y ∷ ys) d t u plain h k =
    subst (λ p. Agree (◌≡◌ {A = List A × B} (x ∷ xs, b) (y ∷ ys, d)) p u) (sym h.2)
    (subst (λ q. Agree (◌≡◌ {A = List A × B} (x ∷ xs, b) (y ∷ ys, d)) (h.0 ++ h.1) q) (sym k.2)
    (agree_append (◌≡◌ {A = Turn A B} (More x) (More y)) _ h.0 k.0 h.1 k.1 (plain s (More x) (More y) h.0 k.0 h.3 k.3) (λ e.
    let same : x ≡ y = cc in
    agree_map (◌≡◌ {A = List A × B} (xs, b) (ys, d)) _ h.1 k.1 (λ o. let first : xs ≡ ys = ap (λ (p : List A × B). p.0) o in let last : b ≡ d = ap (λ (p : List A × B). p.1) o in rw (same, first, last) refl)
    (plain_items next item (next x) xs b ys d h.1 k.1 plain h.4 (subst (λ z. Items next item (next z) ys d k.1) (sym same) k.4)))))

-- what is known of the items: which numbers come before them, that each takes a byte at least, and what may stand behind
pub record Turns {A B : Type 0} (next : A → ℕ) (item : ℕ → Lang (Turn A B)) (f : ℕ → Reader (Turn A B)) (Comes : ℕ → Type 0) : Type 0 where
  pub plain : (s : ℕ) → IsPlain (item s)
  pub good : (s : ℕ) → Comes s → Grammar (item s) (f s)
  pub more : (s : ℕ) (a : A) (t : List ℕ) → Comes s → item s (More a) t → Comes (next a)
  pub takes : (s : ℕ) (v : Turn A B) (t : List ℕ) → item s v t → 0 < length t
  pub ending : (s : ℕ) → Comes s → (b : B) × (t : List ℕ) × item s (Last b) t

some_items : {A B : Type 0} (next : A → ℕ) (item : ℕ → Lang (Turn A B)) (f : ℕ → Reader (Turn A B)) (Comes : ℕ → Type 0) (s : ℕ) → Turns next item f Comes → Comes s → Some_text (Loop next item s)
some_items next item f Comes s turns comes = let e = turns.ending s comes in record { value = ([], e.0); text = e.1; is_text = e.2 }

-- a whole text of items takes a byte at least
items_take : {A B : Type 0} (next : A → ℕ) (item : ℕ → Lang (Turn A B)) (s : ℕ) (xs : List A) (b : B) (t : List ℕ) → ((s : ℕ) (v : Turn A B) (t : List ℕ) → item s v t → 0 < length t) → Items next item s xs b t → 0 < length t
items_take next item s [] b t takes h = takes s (Last b) t h
items_take next item s (x ∷ xs) b t takes h = let front = takes s (More x) h.0 h.3 in let sizes = ap length h.2 ∙ length-append h.0 h.1 in omega arith

ends_within : (t : List ℕ) → 0 < length t → Leaves t [] []
ends_within [] lt = absurd (omega arith)
ends_within (c ∷ t) lt = tt

items_none : {A B : Type 0} (next : A → ℕ) (item : ℕ → Lang (Turn A B)) (f : ℕ → Reader (Turn A B)) (Comes : ℕ → Type 0) (s : ℕ) → Turns next item f Comes → Comes s → IsRefused (Loop next item s) [] []
items_none next item f Comes s turns comes =
    let e = some_items next item f Comes s turns comes in
    record { read = []; whole = refl; value = e.value; more = e.text; begins = e.is_text; leaves = λ v t h. ends_within t (items_take next item s v.0 v.1 t turns.takes h) }

-- what follows an item
abbrev Behind : {A B : Type 0} → (A → ℕ) → (ℕ → Lang (Turn A B)) → A → Lang (List A × B)
Behind {A} {B} next item a = Dep (Loop next item (next a)) (λ o. Done (a ∷ o.0, o.1))

abbrev After : {A B : Type 0} → (A → ℕ) → (ℕ → Lang (Turn A B)) → Turn A B → Lang (List A × B)
After next item (More a) = Behind next item a
After next item (Last b) = Done ([], b)

to_items : {A B : Type 0} (next : A → ℕ) (item : ℕ → Lang (Turn A B)) (s : ℕ) (turn : Turn A B) (front back t : List ℕ) (v : List A × B) → t ≡ front ++ back → item s turn front → After next item turn v back → Loop next item s v t
to_items next item s (More a) front back t v whole h k =
    subst (λ o. Loop next item s o t) (sym k.back_text.0) (front, k.front, whole ∙ ap (λ x. front ++ x) (k.whole ∙ ap (λ x. k.front ++ x) k.back_text.1 ∙ append-nil k.front), h, k.first_text)
to_items next item s (Last b) front back t v whole h k =
    subst (λ o. Loop next item s o t) (sym k.0) (subst (λ x. item s (Last b) x) (sym (whole ∙ ap (λ x. front ++ x) k.1 ∙ append-nil front)) h)

from_items : {A B : Type 0} (next : A → ℕ) (item : ℕ → Lang (Turn A B)) (s : ℕ) (xs : List A) (b : B) (t : List ℕ) → Items next item s xs b t → Dep (item s) (After next item) (xs, b) t
from_items next item s [] b t h = record { first = Last b; front = t; back = []; whole = sym (append-nil t); first_text = h; back_text = (refl, refl) }
from_items next item s (x ∷ xs) b t h = record { first = More x; front = h.0; back = h.1; whole = h.2; first_text = h.3; back_text = record { first = (xs, b); front = h.1; back = []; whole = sym (append-nil h.1); first_text = h.4; back_text = (refl, refl) } }

turn_read : {A B : Type 0} (next : A → ℕ) (item : ℕ → Lang (Turn A B)) (f : ℕ → Reader (Turn A B)) (Comes : ℕ → Type 0) (n s : ℕ) (text : List ℕ) (r : Answer (Turn A B)) → Turns next item f Comes → Comes s
    → length text ≤ n + 1 → ((s : ℕ) (text : List ℕ) → Comes s → length text ≤ n → IsRead (Loop next item s) text (loop next f n s text))
    → IsRead (item s) text r → IsRead (Dep (item s) (After next item)) text (r >>= λ p. turned p.0 (λ a. loop next f n (next a)) p.1)
turn_read next item f Comes n s text (Err rest) turns comes le below h = refused_turns next item f Comes s text rest turns comes h
  where
    some_after : {A B : Type 0} (next : A → ℕ) (item : ℕ → Lang (Turn A B)) (f : ℕ → Reader (Turn A B)) (Comes : ℕ → Type 0) (s : ℕ) (turn : Turn A B) (t : List ℕ) → Turns next item f Comes → Comes s → item s turn t → Some_text (After next item turn)
    some_after next item f Comes s (Last b) t turns comes is = some_done ([], b)
    some_after next item f Comes s (More a) t turns comes is =
        let e = turns.ending (next a) (turns.more s a t comes is) in
        record { value = (a ∷ [], e.0); text = e.1; is_text = record { first = ([], e.0); front = e.1; back = []; whole = sym (append-nil e.1); first_text = e.2; back_text = (refl, refl) } }

    refused_turns : {A B : Type 0} (next : A → ℕ) (item : ℕ → Lang (Turn A B)) (f : ℕ → Reader (Turn A B)) (Comes : ℕ → Type 0) (s : ℕ) (text rest : List ℕ) → Turns next item f Comes → Comes s → IsRefused (item s) text rest → IsRefused (Dep (item s) (After next item)) text rest
    refused_turns next item f Comes s text rest turns comes h =
        let next_text = some_after next item f Comes s h.value (h.read ++ h.more) turns comes h.begins in record {
          read = h.read;
          whole = h.whole;
          value = next_text.value;
          more = h.more ++ next_text.text;
          begins = record { first = h.value; front = h.read ++ h.more; back = next_text.text; whole = sym (append_assoc h.read h.more next_text.text); first_text = h.begins; back_text = next_text.is_text };
          leaves = λ v t d. subst (λ x. Leaves x h.read rest) (sym d.whole) (leaves_front d.front d.back h.read rest (h.leaves d.first d.front d.first_text));
        }
turn_read next item f Comes n s text (Ok r) turns comes le below h = by_turn r.0 h
  where
    by_turn : (turn : Turn _ _) → IsTaken (item s) text turn r.1 → IsRead (Dep (item s) (After next item)) text (turned turn (λ a. loop next f n (next a)) r.1)
    by_turn (Last b) k = taken_seq (item s) (After next item) text (Last b) r.1 (Ok (([], b), r.1)) (turns.plain s) k (read_done ([], b) r.1)
    by_turn (More a) k =
        let size = turns.takes s (More a) k.read k.is_text in
        let sizes = ap length k.whole ∙ length-append k.read r.1 in
        let small : length r.1 ≤ n = omega arith in
        let rest = below (next a) r.1 (turns.more s a k.read comes k.is_text) small in
        taken_seq (item s) (After next item) text (More a) r.1 _ (turns.plain s) k
        (read_seq (Loop next item (next a)) (λ o. Done (a ∷ o.0, o.1)) r.1 (loop next f n (next a) r.1) (λ o. give (a ∷ o.0, o.1)) (λ v w t u p q. plain_items next item (next a) v.0 v.1 w.0 w.1 t u turns.plain p q) rest (λ o t _. good_done (a ∷ o.0, o.1)))

read_items : {A B : Type 0} (next : A → ℕ) (item : ℕ → Lang (Turn A B)) (f : ℕ → Reader (Turn A B)) (Comes : ℕ → Type 0) (n s : ℕ) (text : List ℕ) → Turns next item f Comes → Comes s → length text ≤ n → IsRead (Loop next item s) text (loop next f n s text)
unfolding loop
read_items next item f Comes zero s [] turns comes le = items_none next item f Comes s turns comes
read_items next item f Comes zero s (c ∷ text) turns comes le = absurd (omega arith)
read_items next item f Comes (suc n) s text turns comes le =
    read_same (Dep (item s) (After next item)) (Loop next item s) text _ (λ v t d. to_items next item s d.first d.front d.back t v d.whole d.first_text d.back_text) (λ v t h. from_items next item s v.0 v.1 t h)
    (turn_read next item f Comes n s text (f s text) turns comes (omega arith) (λ s text comes le. read_items next item f Comes n s text turns comes le) ((turns.good s comes).read text))

pub good_loop : {A B : Type 0} (next : A → ℕ) (item : ℕ → Lang (Turn A B)) (f : ℕ → Reader (Turn A B)) (Comes : ℕ → Type 0) (s : ℕ) → Turns next item f Comes → Comes s → Grammar (Loop next item s) (λ text. loop next f (length text) s text)
good_loop next item f Comes s turns comes = record {
  plain = λ v w t u p q. plain_items next item s v.0 v.1 w.0 w.1 t u turns.plain p q;
  some = some_items next item f Comes s turns comes;
  read = λ text. read_items next item f Comes (length text) s text turns comes (omega arith);
}

-- What a turn of a loop of items leaves to be read.
use Rattle.std.proofs.Common.{◌≡◌, ℕ, zero, suc, ◌+◌, ◌-◌, ◌<◌, ◌≤◌, List, [], ◌∷◌, ◌++◌, Ok, Err, refl, sym, ap, arith, append_assoc, add-one}
use Rattle.cert_text.specs.declared.turn.Turn.{Turn}
use Rattle.cert_text.specs.declared.turn.Turn.TheVariants.{More, Last}
use Rattle.cert_text.specs.steps.Read.{Answer, ◌>>=◌}
use Rattle.cert_text.specs.steps.Readers.{Reader, loop}

-- items in front of an answer's
abbrev pub put_items : {A B : Type 0} → List A → Answer (List A × B) → Answer (List A × B)
put_items done (Ok r) = Ok ((done ++ r.0.0, r.0.1), r.1)
put_items done (Err e) = Err e

put_items-push : {A B : Type 0} (done : List A) (a : A) (r : Answer (List A × B)) → put_items done (r >>= λ o. Ok ((a ∷ o.0.0, o.0.1), o.1)) ≡ put_items (done ++ a ∷ []) r
put_items-push done a (Ok r) = ap (λ items. Ok ((items, r.0.1), r.1)) (sym (append_assoc done (a ∷ []) r.0.0))
put_items-push done a (Err e) = refl

more_turn : {A B : Type 0} (next : A → ℕ) (f : ℕ → Reader (Turn A B)) (done : List A) (k s : ℕ) (text : List ℕ) (a : A) (mid : List ℕ)
    → f s text ≡ Ok (More a, mid) → put_items done (loop next f (suc k) s text) ≡ put_items (done ++ a ∷ []) (loop next f k (next a) mid)
unfolding loop
more_turn next f done k s text a mid is = rw is (put_items-push done a (loop next f k (next a) mid))

-- one item more, of at most n, i of which have been read
pub loop_more : {A B : Type 0} (next : A → ℕ) (f : ℕ → Reader (Turn A B)) (done : List A) (n i s : ℕ) (text : List ℕ) (a : A) (mid : List ℕ)
    → i < n → f s text ≡ Ok (More a, mid) → put_items done (loop next f (n - i) s text) ≡ put_items (done ++ a ∷ []) (loop next f (n - (i + 1)) (next a) mid)
loop_more next f done n i s text a mid lt is =
    let left : n - i ≡ (n - (i + 1)) + 1 = omega arith in
    rw (left, add-one) (more_turn next f done (n - (i + 1)) s text a mid is)

last_turn : {A B : Type 0} (next : A → ℕ) (f : ℕ → Reader (Turn A B)) (done : List A) (k s : ℕ) (text : List ℕ) (b : B) (mid : List ℕ)
    → f s text ≡ Ok (Last b, mid) → put_items done (loop next f (suc k) s text) ≡ Ok ((done ++ [], b), mid)
unfolding loop
last_turn next f done k s text b mid is = rw is refl

pub loop_last : {A B : Type 0} (next : A → ℕ) (f : ℕ → Reader (Turn A B)) (done : List A) (n i s : ℕ) (text : List ℕ) (b : B) (mid : List ℕ)
    → i < n → f s text ≡ Ok (Last b, mid) → put_items done (loop next f (n - i) s text) ≡ Ok ((done ++ [], b), mid)
loop_last next f done n i s text b mid lt is =
    let left : n - i ≡ (n - (i + 1)) + 1 = omega arith in
    rw (left, add-one) (last_turn next f done (n - (i + 1)) s text b mid is)

refused_turn : {A B : Type 0} (next : A → ℕ) (f : ℕ → Reader (Turn A B)) (done : List A) (k s : ℕ) (text e : List ℕ)
    → f s text ≡ Err e → put_items done (loop next f (suc k) s text) ≡ Err e
unfolding loop
refused_turn next f done k s text e is = rw is refl

pub loop_refused : {A B : Type 0} (next : A → ℕ) (f : ℕ → Reader (Turn A B)) (done : List A) (n i s : ℕ) (text e : List ℕ)
    → i < n → f s text ≡ Err e → put_items done (loop next f (n - i) s text) ≡ Err e
loop_refused next f done n i s text e lt is =
    let left : n - i ≡ (n - (i + 1)) + 1 = omega arith in
    rw (left, add-one) (refused_turn next f done (n - (i + 1)) s text e is)

no_turn : {A B : Type 0} (next : A → ℕ) (f : ℕ → Reader (Turn A B)) (done : List A) (s : ℕ) (text : List ℕ) → put_items done (loop next f zero s text) ≡ Err text
unfolding loop
no_turn next f done s text = refl

pub loop_ended : {A B : Type 0} (next : A → ℕ) (f : ℕ → Reader (Turn A B)) (done : List A) (n i s : ℕ) (text : List ℕ) → n ≤ i → put_items done (loop next f (n - i) s text) ≡ Err text
loop_ended next f done n i s text le = let none : n - i ≡ zero = omega arith in rw none (no_turn next f done s text)

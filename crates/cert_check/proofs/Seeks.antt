-- The first that is found at numbers in a row.
use Rattle.std.proofs.Common.{◌≡◌, ℕ, zero, suc, ◌+◌, ◌-◌, ◌<◌, ◌≤◌, Bool, true, false, nat_lt, Option, Some, None, refl, ◌∙◌, arith}
use Rattle.std.proofs.lemmas.Bool.Decides.{nat_tests}
use Rattle.cert_check.specs.steps.Worlds.{or_next, seek}

seek-suc : {A : Type 0} (f : ℕ → Option A) (a n m : ℕ) → n ≡ suc m → seek f a n ≡ or_next (f a) (seek f (a + 1) m)
unfolding seek
seek-suc f a n m e = rw e refl

-- nothing is left
pub seek-end : {A : Type 0} (f : ℕ → Option A) (a end : ℕ) → end ≤ a → seek f a (end - a) ≡ None
unfolding seek
seek-end f a end le = let none : end - a ≡ 0 = omega arith in rw none refl

-- nothing is found here
pub seek-next : {A : Type 0} (f : ℕ → Option A) (a end : ℕ) → a < end → f a ≡ None → seek f a (end - a) ≡ seek f (a + 1) (end - (a + 1))
seek-next f a end lt none = let one : end - a ≡ suc (end - (a + 1)) = omega arith in seek-suc f a (end - a) (end - (a + 1)) one ∙ rw none refl

-- something is found here
pub seek-here : {A : Type 0} (f : ℕ → Option A) (a end : ℕ) (x : A) → a < end → f a ≡ Some x → seek f a (end - a) ≡ Some x
seek-here f a end x lt some = let one : end - a ≡ suc (end - (a + 1)) = omega arith in seek-suc f a (end - a) (end - (a + 1)) one ∙ rw some refl

none_at : {A : Type 0} (f : ℕ → Option A) (a n : ℕ) → (seek f (a + 1) n ≡ None → (k : ℕ) → a + 1 ≤ k → k < a + 1 + n → f k ≡ None)
    → or_next (f a) (seek f (a + 1) n) ≡ None → (k : ℕ) → a ≤ k → k < a + suc n → f k ≡ None
none_at {A = A} f a n rest is k le lt = by_here (f a) refl is
  where
    by_here : (o : Option A) → f a ≡ o → or_next o (seek f (a + 1) n) ≡ None → f k ≡ None
    by_here (Some x) here is = absurd (cc)
    by_here None here is = by_place (nat_lt a k) refl
      where
        by_place : (b : Bool) → nat_lt a k ≡ b → f k ≡ None
        by_place true e = rest is k (grind (arith, nat_tests)) (omega arith)
        by_place false e = let here_too : k ≡ a = grind (arith, nat_tests) in rw here_too here

-- where nothing is found, nothing is at any of the numbers
pub seek-none : {A : Type 0} (f : ℕ → Option A) (a n : ℕ) → seek f a n ≡ None → (k : ℕ) → a ≤ k → k < a + n → f k ≡ None
unfolding seek
seek-none f a zero is k le lt = absurd (omega arith)
seek-none f a (suc n) is k le lt = none_at f a n (λ h. seek-none f (a + 1) n h) is k le lt

-- what is found is the first
pub record IsFound {A : Type 0} (f : ℕ → Option A) (a n : ℕ) (x : A) : Type 0 where
  pub place : ℕ
  pub least : a ≤ place
  pub most : place < a + n
  pub is : f place ≡ Some x
  pub none_before : (k : ℕ) → a ≤ k → k < place → f k ≡ None

found_at : {A : Type 0} (f : ℕ → Option A) (a n : ℕ) (x : A) → (seek f (a + 1) n ≡ Some x → IsFound f (a + 1) n x) → or_next (f a) (seek f (a + 1) n) ≡ Some x → IsFound f a (suc n) x
found_at {A = A} f a n x rest is = by_here (f a) refl is
  where
    by_here : (o : Option A) → f a ≡ o → or_next o (seek f (a + 1) n) ≡ Some x → IsFound f a (suc n) x
    by_here (Some y) here is = record { place = a; least = omega arith; most = omega arith; is = here ∙ is; none_before = λ k l m. absurd (omega arith) }
    by_here None here is = further (rest is)
      where
        further : IsFound f (a + 1) n x → IsFound f a (suc n) x
        further found = record { place = found.place; least = omega arith; most = omega arith; is = found.is; none_before = λ k l m. by_place k l m (nat_lt a k) refl }
          where
            by_place : (k : ℕ) → a ≤ k → k < found.place → (b : Bool) → nat_lt a k ≡ b → f k ≡ None
            by_place k l m true e = found.none_before k (grind (arith, nat_tests)) m
            by_place k l m false e = let here_too : k ≡ a = grind (arith, nat_tests) in rw here_too here

pub seek-found : {A : Type 0} (f : ℕ → Option A) (a n : ℕ) (x : A) → seek f a n ≡ Some x → IsFound f a n x
unfolding seek
seek-found f a zero x is = absurd (cc)
seek-found f a (suc n) x is = found_at f a n x (seek-found f (a + 1) n x) is

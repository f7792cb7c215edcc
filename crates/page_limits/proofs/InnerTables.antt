-- What the table of a container's floats and atomic boxes holds.
use Rattle.std.proofs.Common.{◌≡◌, ◌<◌, ℕ, zero, suc, List, [], ◌∷◌, map, fold, length, Contains, Option, Some, None, slice_index_or, refl, sym, ap, subst, ⊎_elim, arith}
use Rattle.std.specs.Prelude.{replicate, slice_set}
use Rattle.std.proofs.lemmas.List.{length-replicate}
use Rattle.viz_base.proofs.ListLemmas.{later_member}
use Rattle.layout_semantics.specs.Lists.{table_of, room_for}
use Rattle.layout_laws.proofs.Members.{no_member, first_member, first_or_later}

module _ {A : Type 0} (f : ℕ → A) (at : ℕ) where
  set-long : (t : List (Option A)) (k : ℕ) (o : Option A) → length (slice_set t k o) ≡ length t
  set-long [] k o = refl
  set-long (p ∷ t) zero o = refl
  set-long (p ∷ t) (suc k) o = ap suc (set-long t k o)

  set-here : (t : List (Option A)) (k : ℕ) (x : A) → k < length t → slice_index_or (slice_set t k (Some x)) k None ≡ Some x
  set-here [] k x l = absurd (omega arith)
  set-here (p ∷ t) zero x l = refl
  set-here (p ∷ t) (suc k) x l = set-here t k x (omega arith)

  set-keeps : (t : List (Option A)) (k j : ℕ) (x : A) (o : Option A) → (k ≡ j → Some x ≡ o) → slice_index_or t j None ≡ o → slice_index_or (slice_set t k (Some x)) j None ≡ o
  set-keeps [] k j x o h e = e
  set-keeps (p ∷ t) zero zero x o h e = h refl
  set-keeps (p ∷ t) zero (suc j) x o h e = e
  set-keeps (p ∷ t) (suc k) zero x o h e = e
  set-keeps (p ∷ t) (suc k) (suc j) x o h e = set-keeps t k j x o (λ s. h (ap suc s)) e

  abbrev set_all : List (Option A) → List ℕ → List (Option A)
  set_all t ks = fold (λ (table : List (Option A)) (entry : ℕ × A). slice_set table entry.0 (Some entry.1)) t (map (λ k. (k, f k)) ks)

  stays-set : (t : List (Option A)) (ks : List ℕ) → slice_index_or t at None ≡ Some (f at) → slice_index_or (set_all t ks) at None ≡ Some (f at)
  stays-set t [] e = e
  stays-set t (k ∷ ks) e = stays-set (slice_set t k (Some (f k))) ks (set-keeps t k at (f k) (Some (f at)) (λ s. ap (λ j. Some (f j)) s) e)

  is-set : (t : List (Option A)) (ks : List ℕ) → at < length t → Contains ks at → slice_index_or (set_all t ks) at None ≡ Some (f at)
  is-set t [] l i = no_member i
  is-set t (k ∷ ks) l i =
      ⊎_elim
      (λ e. stays-set (slice_set t k (Some (f k))) ks (subst (λ j. slice_index_or (slice_set t k (Some (f k))) j None ≡ Some (f j)) e (set-here t k (f k) (subst (λ j. j < length t) (sym e) l))))
      (λ j. let long = set-long t k (Some (f k)) in is-set (slice_set t k (Some (f k))) ks (omega (arith, long)) j)
      (first_or_later k ks at i)

  is-unset : (t : List (Option A)) (ks : List ℕ) → (Contains ks at → ⊥) → slice_index_or t at None ≡ None → slice_index_or (set_all t ks) at None ≡ None
  is-unset t [] n e = e
  is-unset t (k ∷ ks) n e = is-unset (slice_set t k (Some (f k))) ks (λ i. n (later_member ks i)) (set-keeps t k at (f k) None (λ s. absurd (n (first_member ks s))) e)

  abbrev empty : Option A
  empty = None

  none-there : (n j : ℕ) → slice_index_or (replicate n empty) j empty ≡ empty
  none-there zero zero = refl
  none-there zero (suc j) = refl
  none-there (suc n) zero = refl
  none-there (suc n) (suc j) = none-there n j

  -- it has each of them
  pub clamped : (n : ℕ) (ks : List ℕ) → at < n → Contains ks at → slice_index_or (table_of n (map (λ k. (k, f k)) ks)) at None ≡ Some (f at)
  clamped n [] l i = no_member i
  clamped n (k ∷ ks) l i = is-set (replicate n empty) (k ∷ ks) (subst (λ m. at < m) (sym (length-replicate n empty)) l) i

  -- and no other
  pub not-clamped : (n : ℕ) (ks : List ℕ) → (Contains ks at → ⊥) → slice_index_or (table_of n (map (λ k. (k, f k)) ks)) at None ≡ None
  not-clamped n ks i = is-unset (replicate (room_for n (map (λ k. (k, f k)) ks)) empty) ks i (none-there (room_for n (map (λ k. (k, f k)) ks)) at)

-- What a table holds of the boxes that it was made of.
use Rattle.std.proofs.Common.{◌≡◌, inl, inr, ◌<◌, ℕ, zero, suc, ℤ, pos, List, [], ◌∷◌, map, fold, length, Option, Some, None, slice_index_or, refl, sym, ap, subst, arith, Contains, ◌⊎◌}
use Rattle.std.specs.Prelude.{replicate, slice_set, unwrap_or}
use Rattle.std.proofs.lemmas.List.{length-replicate}
use Rattle.viz_base.specs.declared.layouts.Preferred.{Preferred}
use Rattle.layout_semantics.specs.Lists.{table_of}
use Rattle.layout_semantics.specs.Preferred.{measured_width}
use Rattle.layout_laws.proofs.Members.{no_member, first_or_later}

abbrev Table : Type 0
Table = List (Option ℤ)

set-long : (t : Table) (k : ℕ) (o : Option ℤ) → length (slice_set t k o) ≡ length t
set-long [] k o = refl
set-long (p ∷ t) zero o = refl
set-long (p ∷ t) (suc k) o = ap suc (set-long t k o)

set-here : (t : Table) (k : ℕ) (x : ℤ) → k < length t → slice_index_or (slice_set t k (Some x)) k None ≡ Some x
set-here [] k x l = absurd (omega arith)
set-here (p ∷ t) zero x l = refl
set-here (p ∷ t) (suc k) x l = set-here t k x (omega arith)

set-keeps : (t : Table) (k at : ℕ) (x y : ℤ) → (k ≡ at → x ≡ y) → slice_index_or t at None ≡ Some y → slice_index_or (slice_set t k (Some x)) at None ≡ Some y
set-keeps [] k at x y h e = e
set-keeps (p ∷ t) zero zero x y h e = ap Some (h refl)
set-keeps (p ∷ t) zero (suc at) x y h e = e
set-keeps (p ∷ t) (suc k) zero x y h e = e
set-keeps (p ∷ t) (suc k) (suc at) x y h e = set-keeps t k at x y (λ s. h (ap suc s)) e

abbrev empty : Option ℤ
empty = None

module _ (outer : ℕ → Preferred ℤ) (part : Preferred ℤ → ℤ) (at : ℕ) where
  abbrev entries : List ℕ → List (ℕ × ℤ)
  entries ks = map (λ (entry : ℕ × Preferred ℤ). (entry.0, part entry.1)) (map (λ k. (k, outer k)) ks)

  abbrev set_all : Table → List ℕ → Table
  set_all t ks = fold (λ (table : Table) (entry : ℕ × ℤ). slice_set table entry.0 (Some entry.1)) t (entries ks)

  stays-set : (t : Table) (ks : List ℕ) → slice_index_or t at None ≡ Some (part (outer at)) → slice_index_or (set_all t ks) at None ≡ Some (part (outer at))
  stays-set t [] e = e
  stays-set t (k ∷ ks) e = stays-set (slice_set t k (Some (part (outer k)))) ks (set-keeps t k at (part (outer k)) (part (outer at)) (λ s. ap (λ j. part (outer j)) s) e)

  is-set : (t : Table) (ks : List ℕ) → at < length t → Contains ks at → slice_index_or (set_all t ks) at None ≡ Some (part (outer at))
  is-set t [] l i = no_member i
  is-set t (k ∷ ks) l i = by (first_or_later k ks at i) (λ j. let long = set-long t k (Some (part (outer k))) in is-set (slice_set t k (Some (part (outer k)))) ks (omega (arith, long)) j)
    where
      set : Table
      set = slice_set t k (Some (part (outer k)))

      by : (k ≡ at) ⊎ Contains ks at → (Contains ks at → slice_index_or (set_all set ks) at None ≡ Some (part (outer at))) → slice_index_or (set_all set ks) at None ≡ Some (part (outer at))
      by (inl e) again = stays-set set ks (subst (λ j. slice_index_or set j None ≡ Some (part (outer j))) e (set-here t k (part (outer k)) (subst (λ j. j < length t) (sym e) l)))
      by (inr j) again = again j

  pub measured-is : (n : ℕ) (ks : List ℕ) → at < n → Contains ks at → measured_width (table_of n (entries ks)) at ≡ part (outer at)
  measured-is n [] l i = no_member i
  measured-is n (k ∷ ks) l i =
      ap (λ o. unwrap_or o (pos 0)) (is-set (replicate n empty) (k ∷ ks) (subst (λ m. at < m) (sym (length-replicate n empty)) l) i)

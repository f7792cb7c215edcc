-- How large the sums over parts and over children are.
use Rattle.std.proofs.Common.{◌≡◌, ℕ, ◌+◌, ◌≤◌, ℤ, pos, ◌+ℤ◌, unsigned_abs, Bool, true, false, List, [], ◌∷◌, map, Option, Some, None, refl, sym, ap, arith}
use Rattle.std.specs.Prelude.{cond, sum}
use Rattle.std.specs.Int.{int_max}
use Rattle.std.specs.List.{AllByRecursion, onto_first}
use Rattle.std.proofs.lemmas.List.Sums.{sum_by-cons}
use Rattle.viz_base.specs.declared.layouts.Preferred.{Preferred}
use Rattle.viz_calc.specs.State.{AllSmall}
use Rattle.layout_semantics.specs.InlineContent.{Item, start, finish, word, space, atomic, forced, float}
use Rattle.lay_line.specs.Ways.{item_way}
use Rattle.lay_line.specs.steps.Held.{Held, nothing_held}
use Rattle.lay_line.specs.steps.Loading.{parted_by, parts_of}
use Rattle.lay_length.proofs.SmallNumbers.{size-+, size-max}
use Rattle.lay_line.specs.Limits.{held_size}
use Rattle.lay_preferred.specs.Fitting.{after_way, leasts, mosts, IsHalf, AreWithin}
use Rattle.lay_preferred.specs.declared.columns.Column.{Column}
use Rattle.lay_preferred.specs.steps.Columns.{beside, with_in_flow, with_float, with_child, with_children, whole}
use Rattle.lay_preferred.specs.steps.Extremes.{larger, or_zero}
use Rattle.lay_preferred.specs.steps.Parts.{Sized, held_after, held_least, held_most, least_width, most_width, sum_after, floats_from, widest, past_float, widest_float}

-- ---- a part

pub after-fits : (x : ℤ) (h : Held) (i : Item) → IsHalf (held_size h + unsigned_abs x) → AllSmall (after_way x h i)
after-fits x h i l = by i
  where
    solid : AllSmall (item_way x h (atomic 0))
    solid = let s = size-+ h.width h.spaces in let t = size-+ (h.width +ℤ h.spaces) x in (omega (arith, l, s), (omega (arith, l, s, t), (omega arith, tt)))

    other : AllSmall (item_way x h (forced 0))
    other = let s = size-+ h.width x in (omega (arith, l, s), tt)

    spaced : (b : Bool) → AllSmall (cond b ((h.spaces +ℤ x) ∷ []) (pos 0 ∷ []))
    spaced true = let s = size-+ h.spaces x in (omega (arith, l, s), tt)
    spaced false = (omega arith, tt)

    by : (j : Item) → AllSmall (after_way x h j)
    by (word at text) = solid
    by (atomic at) = solid
    by (space at) = spaced h.begun
    by (start at) = other
    by (finish at) = other
    by (forced at) = other
    by (float at) = tt

-- with an item more, and the floats so far with it
pub after-reach : (x : ℤ) (h : Held) (i : Item) → held_size (held_after x h i) ≤ held_size h + unsigned_abs x
after-reach x h i = by i
  where
    solid : unsigned_abs (h.width +ℤ h.spaces +ℤ x) + 0 ≤ held_size h + unsigned_abs x
    solid = let s = size-+ h.width h.spaces in let t = size-+ (h.width +ℤ h.spaces) x in omega (arith, s, t)

    other : unsigned_abs (h.width +ℤ x) + unsigned_abs h.spaces ≤ held_size h + unsigned_abs x
    other = let s = size-+ h.width x in omega (arith, s)

    spaced : (b : Bool) → unsigned_abs h.width + unsigned_abs (cond b (h.spaces +ℤ x) (pos 0)) ≤ held_size h + unsigned_abs x
    spaced true = let s = size-+ h.spaces x in omega (arith, s)
    spaced false = omega arith

    by : (j : Item) → held_size (held_after x h j) ≤ held_size h + unsigned_abs x
    by (word at text) = solid
    by (atomic at) = solid
    by (space at) = spaced h.begun
    by (start at) = other
    by (finish at) = other
    by (forced at) = other
    by (float at) = omega arith

pub sum-reach : (sum : ℤ) (s : Sized) (i : Item) → unsigned_abs (sum_after sum s i) ≤ unsigned_abs sum + unsigned_abs s.widths.most
sum-reach sum s (float at) = size-+ sum s.widths.most
sum-reach sum s (word at text) = omega arith
sum-reach sum s (atomic at) = omega arith
sum-reach sum s (space at) = omega arith
sum-reach sum s (start at) = omega arith
sum-reach sum s (finish at) = omega arith
sum-reach sum s (forced at) = omega arith

pub least-reach : (h : Held) (ss : List Sized) → held_size (held_least h ss) ≤ held_size h + leasts ss
least-reach h [] = omega arith
least-reach h (s ∷ ss) = let first = after-reach s.widths.least h s.item in let rest = least-reach (held_after s.widths.least h s.item) ss in omega (arith, first, rest)

-- an item is either a float or not
both-reach : (x : ℤ) (h : Held) (sum : ℤ) (s : Sized) (i : Item) → s.widths.most ≡ x → held_size (held_after x h i) + unsigned_abs (sum_after sum s i) ≤ held_size h + unsigned_abs sum + unsigned_abs x
both-reach x h sum s (float at) e = let t = size-+ sum s.widths.most in let same = ap unsigned_abs e in omega (arith, t, same)
both-reach x h sum s (word at text) e = let t = after-reach x h (word at text) in omega (arith, t)
both-reach x h sum s (atomic at) e = let t = after-reach x h (atomic at) in omega (arith, t)
both-reach x h sum s (space at) e = let t = after-reach x h (space at) in omega (arith, t)
both-reach x h sum s (start at) e = let t = after-reach x h (start at) in omega (arith, t)
both-reach x h sum s (finish at) e = let t = after-reach x h (finish at) in omega (arith, t)
both-reach x h sum s (forced at) e = let t = after-reach x h (forced at) in omega (arith, t)

pub most-reach : (h : Held) (sum : ℤ) (ss : List Sized) → held_size (held_most h ss) + unsigned_abs (floats_from sum ss) ≤ held_size h + unsigned_abs sum + mosts ss
most-reach h sum [] = omega arith
most-reach h sum (s ∷ ss) =
    let first = both-reach s.widths.most h sum s s.item refl in
    let rest = most-reach (held_after s.widths.most h s.item) (sum_after sum s s.item) ss in
    omega (arith, first, rest)

pub least-size : (part : List Sized) → unsigned_abs (least_width part) ≤ leasts part
unfolding least_width
least-size part = let r = least-reach nothing_held part in omega (arith, r)

pub most-size : (part : List Sized) → unsigned_abs (most_width part) ≤ mosts part
unfolding most_width
most-size part =
    let r = most-reach nothing_held (pos 0) part in
    let s = size-+ (held_most nothing_held part).width (floats_from (pos 0) part) in
    omega (arith, r, s)

-- ---- parts

abbrev pub IsWithin : ℕ → Option ℤ → Type 0
IsWithin n None = Unit {0}
IsWithin n (Some x) = unsigned_abs x ≤ n

pub larger-within : (n : ℕ) (best : Option ℤ) (x : ℤ) → IsWithin n best → unsigned_abs x ≤ n → unsigned_abs (larger best x) ≤ n
larger-within n None x b l = l
larger-within n (Some best) x b l = size-max best x n b l

pub zero-within : (n : ℕ) (best : Option ℤ) → IsWithin n best → unsigned_abs (or_zero best) ≤ n
zero-within n None b = omega arith
zero-within n (Some best) b = b

-- parts hold no more than the whole
module _ (size : List Sized → ℕ) (one : Sized → ℕ) (none : size [] ≡ 0) (more : (s : Sized) (ss : List Sized) → size (s ∷ ss) ≡ one s + size ss) where
  abbrev together : List (List Sized) → ℕ
  together [] = 0
  together (part ∷ parts) = size part + together parts

  onto-size : (s : Sized) (parts : List (List Sized)) → together (onto_first s parts) ≡ one s + together parts
  onto-size s [] = let m = more s [] in omega (arith, m, none)
  onto-size s (part ∷ parts) = let m = more s part in omega (arith, m)

  parted-size : (s : Sized) (b : Bool) (parts : List (List Sized)) → together (parted_by s b parts) ≡ one s + together parts
  parted-size s true parts = let m = more s [] in omega (arith, m, none)
  parted-size s false parts = onto-size s parts

  pub parts-size : (ss : List Sized) (ms : List Bool) → together (parts_of ss ms) ≡ size ss
  parts-size [] ms = sym none
  parts-size (s ∷ ss) [] = let rest = parts-size ss [] in let p = parted-size s false (parts_of ss []) in let m = more s ss in omega (arith, rest, p, m)
  parts-size (s ∷ ss) (b ∷ ms) = let rest = parts-size ss ms in let p = parted-size s b (parts_of ss ms) in let m = more s ss in omega (arith, rest, p, m)

  pub widest-within : (width : List Sized → ℤ) (n : ℕ) → ((part : List Sized) → unsigned_abs (width part) ≤ size part)
      → (best : Option ℤ) (parts : List (List Sized)) → IsWithin n best → together parts ≤ n → IsWithin n (widest width best parts)
  widest-within width n each best [] b l = b
  widest-within width n each best (part ∷ parts) b l =
      let own = each part in
      widest-within width n each (Some (larger best (width part))) parts (larger-within n best (width part) b (omega (arith, l, own))) (omega (arith, l))

pub widest_least-within : (n : ℕ) (ss : List Sized) (ms : List Bool) → leasts ss ≤ n → IsWithin n (widest least_width None (parts_of ss ms))
widest_least-within n ss ms l =
    let all = parts-size leasts (λ s. unsigned_abs s.widths.least) refl (λ s ss. refl) ss ms in
    widest-within leasts (λ s. unsigned_abs s.widths.least) refl (λ s ss. refl) least_width n least-size None (parts_of ss ms) tt (omega (arith, l, all))

pub widest_most-within : (n : ℕ) (ss : List Sized) (ms : List Bool) → mosts ss ≤ n → IsWithin n (widest most_width None (parts_of ss ms))
widest_most-within n ss ms l =
    let all = parts-size mosts (λ s. unsigned_abs s.widths.most) refl (λ s ss. refl) ss ms in
    widest-within mosts (λ s. unsigned_abs s.widths.most) refl (λ s ss. refl) most_width n most-size None (parts_of ss ms) tt (omega (arith, l, all))

past-within : (n : ℕ) (best : Option ℤ) (x : ℤ) (i : Item) → IsWithin n best → unsigned_abs x ≤ n → IsWithin n (past_float best x i)
past-within n best x (float at) b l = larger-within n best x b l
past-within n best x (word at text) b l = b
past-within n best x (atomic at) b l = b
past-within n best x (space at) b l = b
past-within n best x (start at) b l = b
past-within n best x (finish at) b l = b
past-within n best x (forced at) b l = b

pub widest_float-within : (n : ℕ) (best : Option ℤ) (ss : List Sized) → IsWithin n best → leasts ss ≤ n → IsWithin n (widest_float best ss)
widest_float-within n best [] b l = b
widest_float-within n best (s ∷ ss) b l =
    widest_float-within n (past_float best s.widths.least s.item) ss (past-within n best s.widths.least s.item b (omega (arith, l))) (omega (arith, l))

-- ---- children

abbrev pub run_reach : Option ℤ → ℕ
run_reach None = 0
run_reach (Some x) = unsigned_abs x

pub beside-size : (floats : Option ℤ) (x : ℤ) → unsigned_abs (beside floats x) ≤ run_reach floats + unsigned_abs x
beside-size None x = omega arith
beside-size (Some f) x = let m = size-max (pos 0) f (unsigned_abs f) (omega arith) (omega arith) in let s = size-+ (int_max (pos 0) f) x in omega (arith, m, s)

pub child-reach : (c : Column ℤ) (b : Bool) (p : Preferred ℤ) (n : ℕ) → AreWithin n p → run_reach (with_child c b p).floats ≤ run_reach c.floats + n
unfolding with_float with_in_flow
child-reach c true p n l = let s = beside-size c.floats p.most in let m = l.1 in omega (arith, s, m)
child-reach c false p n l = omega arith

-- what a child more leaves within a bound, where so much is still to come
child-within : (c : Column ℤ) (b : Bool) (p : Preferred ℤ) (n own rest : ℕ) → AreWithin own p → IsWithin n c.least → IsWithin n c.most → run_reach c.floats + (own + rest) ≤ n
    → IsWithin n (with_child c b p).least × (IsWithin n (with_child c b p).most × (run_reach (with_child c b p).floats + rest ≤ n))
unfolding with_float with_in_flow
child-within c true p n own rest a x y l =
    let least = a.0 in
    let most = a.1 in
    let s = beside-size c.floats p.most in
    (larger-within n c.least p.least x (omega (arith, l, least)), (larger-within n c.most (beside c.floats p.most) y (omega (arith, l, most, s)), omega (arith, l, most, s)))
child-within c false p n own rest a x y l =
    let least = a.0 in
    let most = a.1 in
    (larger-within n c.least p.least x (omega (arith, l, least)), (larger-within n c.most p.most y (omega (arith, l, most)), omega (arith, l)))

module _ (floats : ℕ → Bool) (outer : ℕ → Preferred ℤ) (cap : ℕ → ℕ) where
  pub children-within : (n : ℕ) (c : Column ℤ) (ks : List ℕ) → AllByRecursion (λ k. AreWithin (cap k) (outer k)) ks
      → IsWithin n c.least → IsWithin n c.most → run_reach c.floats + sum (map cap ks) ≤ n
      → AreWithin n (whole (with_children floats outer c ks))
  children-within n c [] a x y l = (zero-within n c.least x, zero-within n c.most y)
  children-within n c (k ∷ ks) a x y l =
      let total = sum_by-cons (λ (m : ℕ). m) (cap k) (map cap ks) in
      let next = child-within c (floats k) (outer k) n (cap k) (sum (map cap ks)) a.0 x y (omega (arith, l, total)) in
      children-within n (with_child c (floats k) (outer k)) ks a.1 next.0 (next.1).0 (next.1).1

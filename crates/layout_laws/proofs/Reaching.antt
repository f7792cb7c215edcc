-- How far boxes reach, against the box around them and the bound.
use Rattle.std.proofs.Common.{◌≡◌, ℕ, zero, suc, ◌+◌, ◌-◌, ◌*◌, ◌^◌, ◌<◌, ◌≤◌, min, max, Bool, true, false, not, nat_lt, ◌==◌, ◌||◌, List, [], ◌∷◌, sum, position, length, Option, Some, None, option_map, option_and_then, slice_get, refl, ap, subst, arith, if◌then◌else◌, ltb-true, ltb-false, le-div_iff_mul-le, mul-le-mul_left, Contains}
use Rattle.std.specs.List.{enumerate_from, prefix_len, position_or_len}
use Rattle.std.specs.Option.{option_map_or, option_or}
use Rattle.std.proofs.lemmas.Bool.{eqb-false, not-true}
use Rattle.std.proofs.lemmas.List.Sums.{sum_by-cons}
use Rattle.std.proofs.lemmas.List.FromFn.{length-enumerate_from}
use Rattle.std.proofs.lemmas.List.{length-map}
use Rattle.viz_base.specs.declared.fonts.Font.{Font}
use Rattle.viz_base.specs.declared.styles.Style.{Style}
use Rattle.viz_base.specs.declared.trees.BoxNode.{BoxNode}
use Rattle.viz_base.specs.Reaches.{whole, quotient_up, is_of_element, ratio, growth, box_growth, own_extent, text_extent, box_extents, total_extent, reach_in, reach_to, reaches, sums, passes_most, node_of_place, beyond_reach}
use Rattle.viz_base.proofs.ListLemmas.{slice_some, later_member}
use Rattle.layout_laws.proofs.Members.{no_member, first_member, by_member}
use Rattle.layout_laws.proofs.TreeFacts.{slice_in}

-- ---- from the box around

quotient_from : (n a d : ℕ) → 0 < d → n * d ≤ a → n ≤ quotient_up a d
quotient_from n a d l h = let more : n * d ≤ a + (d - 1) = omega (arith, h) in (le-div_iff_mul-le l).1 more

least_above : (a b : ℕ) → (a ≡ 0 → ⊥) → (b ≡ 0 → ⊥) → 0 < min a b
least_above zero b f g = absurd (f refl)
least_above (suc a) zero f g = absurd (g refl)
least_above (suc a) (suc b) f g = omega arith

pub ratio_least : (size : Option (ℕ × ℕ)) → 1 ≤ ratio size
ratio_least None = omega arith
ratio_least (Some size) = by_zero (size.0 == 0) refl (size.1 == 0) refl
  where
    by_zero : (a : Bool) → (size.0 == 0) ≡ a → (b : Bool) → (size.1 == 0) ≡ b → 1 ≤ (if a || b then 1 else quotient_up (max size.0 size.1) (min size.0 size.1))
    by_zero true e b f = omega arith
    by_zero false e true f = omega arith
    by_zero false e false f =
        let width = eqb-false size.0 0 e in
        let height = eqb-false size.1 0 f in
        let some = least_above size.0 size.1 width height in
        quotient_from 1 (max size.0 size.1) (min size.0 size.1) some (omega arith)

growth_least : (styles : List Style) (b : BoxNode) → whole ≤ box_growth styles b
growth_least styles b = by_kind (is_of_element b.kind) (slice_get styles b.node)
  where
    by_kind : (t : Bool) (o : Option Style) → whole ≤ (if t then option_map_or growth o whole else whole)
    by_kind false o = omega arith
    by_kind true None = omega arith
    by_kind true (Some s) = omega arith

module _ (styles : List Style) (parents : List (Option ℕ)) (fonts : List Font) where
  pub reach_around : (b : BoxNode) (around : ℕ) → around ≤ reach_in styles parents fonts b around
  reach_around b around =
      let once : around * 1 ≤ around * ratio b.size = mul-le-mul_left around (ratio_least b.size) in
      let all : (around * ratio b.size) * whole ≤ around * ratio b.size * box_growth styles b = mul-le-mul_left (around * ratio b.size) (growth_least styles b) in
      let up = quotient_from (around * ratio b.size) (around * ratio b.size * box_growth styles b) whole (omega arith) all in
      omega (arith, once, up)

  pub reach_own : (b : BoxNode) (around : ℕ) → own_extent styles parents fonts b ≤ reach_in styles parents fonts b around
  reach_own b around = omega arith

-- ---- against the bound

cond_none : (b : Bool) (n : ℕ) → (if b then Some n else None) ≡ None → b ≡ false
cond_none true n e = absurd (cc)
cond_none false n e = refl

all_in_prefix : {A : Type 0} (test : A → Bool) (xs : List A) (x : A) → length xs ≤ prefix_len test xs → Contains xs x → test x ≡ true
all_in_prefix test [] x l i = no_member i
all_in_prefix test (y ∷ ys) x l i = by_test (test y) refl l (λ m j. all_in_prefix test ys x m j)
  where
    by_test : (b : Bool) → test y ≡ b → suc (length ys) ≤ (if b then 1 + prefix_len test ys else 0) → (length ys ≤ prefix_len test ys → Contains ys x → test x ≡ true) → test x ≡ true
    by_test false e m again = absurd (omega (arith, m))
    by_test true e m again = by_member (λ z. test z ≡ true) y ys x i e (again (omega (arith, m)))

-- where no place passes, no element does
none_passes : {A : Type 0} (test : A → Bool) (xs : List A) (x : A) → position test xs ≡ None → Contains xs x → test x ≡ false
none_passes test xs x e i =
    let past = ltb-false (position_or_len test xs) (length xs) (cond_none (nat_lt (position_or_len test xs) (length xs)) (position_or_len test xs) e) in
    not-true (test x) (all_in_prefix (λ y. not (test y)) xs x past i)

position_within : {A : Type 0} (test : A → Bool) (xs : List A) (k : ℕ) → position test xs ≡ Some k → k < length xs
position_within test xs k e = by_test (nat_lt (position_or_len test xs) (length xs)) refl e
  where
    some_same : {x y : ℕ} → Some x ≡ Some y → x ≡ y
    some_same e = cc

    by_test : (b : Bool) → nat_lt (position_or_len test xs) (length xs) ≡ b → (if b then Some (position_or_len test xs) else None) ≡ Some k → k < length xs
    by_test true t f = let l = ltb-true (position_or_len test xs) (length xs) t in let same : position_or_len test xs ≡ k = some_same f in omega (arith, l, same)
    by_test false t f = absurd (cc)

module _ (styles : List Style) (parents : List (Option ℕ)) (fonts : List Font) where
  length_sums : (s : ℕ) (xs : List ℕ) → length (sums styles parents fonts s xs) ≡ length xs
  length_sums s [] = refl
  length_sums s (x ∷ xs) = ap suc (length_sums (s + x) xs)

  -- the last sum is that of all
  total_in_sums : (s x : ℕ) (xs : List ℕ) → Contains (sums styles parents fonts s (x ∷ xs)) (s + sum (x ∷ xs))
  total_in_sums s x [] = let e : s + x ≡ s + sum (x ∷ []) = let f = sum_by-cons (λ (n : ℕ). n) x [] in omega (arith, f) in first_member [] e
  total_in_sums s x (y ∷ ys) =
      let e : (s + x) + sum (y ∷ ys) ≡ s + sum (x ∷ y ∷ ys) = let f = sum_by-cons (λ (n : ℕ). n) x (y ∷ ys) in omega (arith, f) in
      later_member (sums styles parents fonts (s + x) (y ∷ ys)) (subst (λ n. Contains (sums styles parents fonts (s + x) (y ∷ ys)) n) e (total_in_sums (s + x) y ys))

  total_by : (xs : List ℕ) → position (passes_most styles parents fonts) (sums styles parents fonts (2 ^ 21) xs) ≡ None → 2 ^ 21 + sum xs ≤ 2 ^ 40
  total_by [] e = omega arith
  total_by (x ∷ xs) e = ltb-false (2 ^ 40) (2 ^ 21 + sum (x ∷ xs)) (none_passes (passes_most styles parents fonts) (sums styles parents fonts (2 ^ 21) (x ∷ xs)) (2 ^ 21 + sum (x ∷ xs)) e (total_in_sums (2 ^ 21) x xs))

  -- beyond reach is what one of the two lists tells
  neither : (boxes : List BoxNode) → beyond_reach styles parents fonts boxes ≡ None
      → (position (passes_most styles parents fonts) (sums styles parents fonts (2 ^ 21) (box_extents styles parents fonts boxes)) ≡ None) × (position (passes_most styles parents fonts) (reaches styles parents fonts boxes) ≡ None)
  neither boxes e = by_lists (position (passes_most styles parents fonts) (sums styles parents fonts (2 ^ 21) (box_extents styles parents fonts boxes))) refl (position (passes_most styles parents fonts) (reaches styles parents fonts boxes)) refl e
    where
      named : (k : ℕ) → k < length boxes → node_of_place styles parents fonts boxes k ≡ None → ⊥
      named k l f = let b = slice_some boxes k l in let g = ap (option_map (λ (b : BoxNode). b.node)) b.1 in cc

      by_lists : (o : Option ℕ) → position (passes_most styles parents fonts) (sums styles parents fonts (2 ^ 21) (box_extents styles parents fonts boxes)) ≡ o → (p : Option ℕ) → position (passes_most styles parents fonts) (reaches styles parents fonts boxes) ≡ p
          → option_and_then (node_of_place styles parents fonts boxes) (option_or o p) ≡ None → (o ≡ None) × (p ≡ None)
      by_lists None a None b f = (refl, refl)
      by_lists None a (Some k) b f =
          let within = position_within (passes_most styles parents fonts) (reaches styles parents fonts boxes) k b in
          let size = length-map (enumerate_from 0 boxes) (λ (e : ℕ × BoxNode). reach_to styles parents fonts (length boxes) boxes (total_extent styles parents fonts boxes) e.0) in
          let all = length-enumerate_from 0 boxes in
          absurd (named k (omega (arith, within, size, all)) f)
      by_lists (Some k) a p b f =
          let within = position_within (passes_most styles parents fonts) (sums styles parents fonts (2 ^ 21) (box_extents styles parents fonts boxes)) k a in
          let size = length_sums (2 ^ 21) (box_extents styles parents fonts boxes) in
          let all = length-map boxes (λ (b : BoxNode). own_extent styles parents fonts b + text_extent styles parents fonts b) in
          absurd (named k (omega (arith, within, size, all)) f)

  pub total_bounded : (boxes : List BoxNode) → beyond_reach styles parents fonts boxes ≡ None → total_extent styles parents fonts boxes ≤ 2 ^ 40
  total_bounded boxes e = total_by (box_extents styles parents fonts boxes) (neither boxes e).0

  pub reach_bounded : (boxes : List BoxNode) (at r : ℕ) → beyond_reach styles parents fonts boxes ≡ None → slice_get (reaches styles parents fonts boxes) at ≡ Some r → r ≤ 2 ^ 40
  reach_bounded boxes at r e f = ltb-false (2 ^ 40) r (none_passes (passes_most styles parents fonts) (reaches styles parents fonts boxes) r (neither boxes e).1 (slice_in (reaches styles parents fonts boxes) at r f))

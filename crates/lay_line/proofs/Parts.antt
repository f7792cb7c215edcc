-- Lists in the parts that marks make.
use Rattle.std.proofs.Common.{◌≡◌, ℕ, zero, suc, ◌+◌, ◌-◌, ◌≤◌, ◌<◌, ℤ, Bool, true, false, List, [], ◌∷◌, ◌++◌, map, flat_map, length, take, drop, Option, Some, None, option_map, refl, sym, ap, ◌∙◌, append_assoc, append-nil, subst, arith}
use Rattle.std.proofs.Math.Seq.{take-append_seam}
use Rattle.std.specs.List.{onto_first}
use Rattle.std.proofs.lemmas.List.{length-append, length-drop}
use Rattle.layout_semantics.specs.InlineContent.{Item}
use Rattle.lay_line.specs.steps.Cutting.{parted}
use Rattle.lay_line.specs.steps.Marks.{marked_parts}
use Rattle.lay_line.specs.steps.Measured.{Measured, measured}
use Rattle.lay_line.specs.steps.Loading.{parted_by, parts_of, mark_from, IsFirst, bare}
use Rattle.lay_line.specs.steps.Lining.{joined_parts, taken}

-- ---- measured items in parts

module _ (w : Item → ℤ) where
  abbrev one : Item → Measured
  one i = record { item = i; width = w i }

  measured-parted : (i : Item) (b : Bool) (parts : List (List Item)) → parted_by (one i) b (map (measured w) parts) ≡ map (measured w) (parted i b parts)
  measured-parted i true parts = refl
  measured-parted i false [] = refl
  measured-parted i false (part ∷ parts) = refl

  pub measured-parts : (items : List Item) (marks : List Bool) → parts_of (measured w items) marks ≡ map (measured w) (marked_parts items marks)
  measured-parts [] marks = refl
  measured-parts (i ∷ items) [] = ap (parted_by (one i) false) (measured-parts items []) ∙ measured-parted i false (marked_parts items [])
  measured-parts (i ∷ items) (m ∷ marks) = ap (parted_by (one i) m) (measured-parts items marks) ∙ measured-parted i m (marked_parts items marks)

  pub bare-measured : (items : List Item) → bare (measured w items) ≡ items
  bare-measured [] = refl
  bare-measured (i ∷ items) = ap (λ l. i ∷ l) (bare-measured items)

  pub measured-append : (xs ys : List Item) → measured w (xs ++ ys) ≡ measured w xs ++ measured w ys
  measured-append [] ys = refl
  measured-append (x ∷ xs) ys = ap (λ l. one x ∷ l) (measured-append xs ys)

  pub measured-joined : (parts : List (List Item)) → joined_parts (map (measured w) parts) ≡ measured w (flat_map (λ part. part) parts)
  measured-joined [] = refl
  measured-joined (part ∷ parts) = ap (λ l. measured w part ++ l) (measured-joined parts) ∙ sym (measured-append part (flat_map (λ p. p) parts))

-- ---- there are no more parts than items

parted-few : {A : Type 0} (x : A) (b : Bool) (parts : List (List A)) → length (parted_by x b parts) ≤ suc (length parts)
parted-few x true parts = omega arith
parted-few x false [] = omega arith
parted-few x false (part ∷ parts) = omega arith

pub parts-few : {A : Type 0} (xs : List A) (marks : List Bool) → length (parts_of xs marks) ≤ length xs
parts-few [] marks = omega arith
parts-few (x ∷ xs) [] = let one = parted-few x false (parts_of xs []) in let rest = parts-few xs [] in omega (arith, one, rest)
parts-few (x ∷ xs) (m ∷ marks) = let one = parted-few x m (parts_of xs marks) in let rest = parts-few xs marks in omega (arith, one, rest)

-- ---- a beginning by what is left

pub taken-front : (a b : List Measured) → taken (a ++ b) b ≡ a
taken-front a b = let all = length-append a b in let n : length (a ++ b) - length b ≡ length a = omega (arith, all) in ap (λ k. take k (a ++ b)) n ∙ take-append_seam a b

pub joined-split : {A : Type 0} (n : ℕ) (parts : List (List A)) → flat_map (λ part. part) parts ≡ flat_map (λ part. part) (take n parts) ++ flat_map (λ part. part) (drop n parts)
joined-split zero parts = refl
joined-split (suc n) [] = refl
joined-split (suc n) (part ∷ parts) = ap (λ l. part ++ l) (joined-split n parts) ∙ sym (append_assoc part (flat_map (λ p. p) (take n parts)) (flat_map (λ p. p) (drop n parts)))

-- ---- the first part

mark-moved : (n k : ℕ) (marks : List Bool) → mark_from (n + k) marks ≡ option_map (λ m. n + m) (mark_from k marks)
mark-moved n k [] = refl
mark-moved n k (true ∷ marks) = ap Some (let one : suc (n + k) ≡ n + suc k = omega arith in one)
mark-moved n k (false ∷ marks) = let one : suc (n + k) ≡ n + suc k = omega arith in ap (λ m. mark_from m marks) one ∙ mark-moved n (suc k) marks

mark-next : (marks : List Bool) → mark_from 1 marks ≡ option_map suc (mark_from 0 marks)
mark-next marks = mark-moved 1 0 marks ∙ by (mark_from 0 marks)
  where
    by : (o : Option ℕ) → option_map (λ m. 1 + m) o ≡ option_map suc o
    by None = refl
    by (Some m) = ap Some (let one : 1 + m ≡ suc m = omega arith in one)

mark-positive : (marks : List Bool) (n : ℕ) → mark_from 0 marks ≡ Some n → 0 < n
mark-positive (true ∷ marks) n e = let is : 1 ≡ n = cc in omega (arith, is)
mark-positive (false ∷ marks) n e = by (mark_from 0 marks) (sym (mark-next marks) ∙ e)
  where
    by : (o : Option ℕ) → option_map suc o ≡ Some n → 0 < n
    by None e = absurd (cc)
    by (Some m) e = let is : suc m ≡ n = cc in omega (arith, is)
mark-positive [] n e = absurd (cc)

-- no mark within the list
abbrev pub IsPast : Option ℕ → ℕ → Type 0
IsPast None k = Unit {0}
IsPast (Some n) k = k ≤ n

onto-whole : {A : Type 0} (x : A) (xs : List A) (marks : List Bool) → (0 < length xs → parts_of xs marks ≡ xs ∷ []) → onto_first x (parts_of xs marks) ≡ (x ∷ xs) ∷ []
onto-whole x [] marks again = refl
onto-whole x (y ∷ xs) marks again = ap (onto_first x) (again (omega arith))

pub part-whole : {A : Type 0} (xs : List A) (marks : List Bool) → 0 < length xs → IsPast (mark_from 0 marks) (length xs) → parts_of xs marks ≡ xs ∷ []
part-whole [] marks l p = absurd (omega arith)
part-whole (x ∷ xs) [] l p = onto-whole x xs [] (λ m. part-whole xs [] m tt)
part-whole (x ∷ []) (true ∷ marks) l p = refl
part-whole (x ∷ y ∷ xs) (true ∷ marks) l p = absurd (omega arith)
part-whole (x ∷ xs) (false ∷ marks) l p = onto-whole x xs marks (λ m. part-whole xs marks m (past (mark_from 0 marks) (subst (λ o. IsPast o (suc (length xs))) (mark-next marks) p)))
  where
    past : (o : Option ℕ) → IsPast (option_map suc o) (suc (length xs)) → IsPast o (length xs)
    past None p = tt
    past (Some n) p = omega arith

pub part-cut : {A : Type 0} (xs : List A) (marks : List Bool) (n : ℕ) → mark_from 0 marks ≡ Some n → n < length xs → parts_of xs marks ≡ take n xs ∷ parts_of (drop n xs) (drop n marks)
part-cut [] marks n e l = absurd (omega arith)
part-cut (x ∷ xs) [] n e l = absurd (cc)
part-cut (x ∷ xs) (true ∷ marks) n e l = let is : 1 ≡ n = cc in subst (λ k. (x ∷ []) ∷ parts_of xs marks ≡ take k (x ∷ xs) ∷ parts_of (drop k (x ∷ xs)) (drop k (true ∷ marks))) is refl
part-cut (x ∷ xs) (false ∷ marks) n e l = by (mark_from 0 marks) refl (sym (mark-next marks) ∙ e) (λ m f k. part-cut xs marks m f k)
  where
    by : (o : Option ℕ) → mark_from 0 marks ≡ o → option_map suc o ≡ Some n → ((m : ℕ) → mark_from 0 marks ≡ Some m → m < length xs → parts_of xs marks ≡ take m xs ∷ parts_of (drop m xs) (drop m marks))
        → onto_first x (parts_of xs marks) ≡ take n (x ∷ xs) ∷ parts_of (drop n (x ∷ xs)) (drop n (false ∷ marks))
    by None f g again = absurd (cc)
    by (Some m) f g again =
        let is : suc m ≡ n = cc in
        subst (λ k. onto_first x (parts_of xs marks) ≡ take k (x ∷ xs) ∷ parts_of (drop k (x ∷ xs)) (drop k (false ∷ marks))) is
        (ap (onto_first x) (again m f (omega (arith, is))))

pub first-cut : {A : Type 0} (xs : List A) (marks : List Bool) (n : ℕ) → mark_from 0 marks ≡ Some n → n < length xs → IsFirst xs marks (take n xs) (drop n xs) (drop n marks)
first-cut xs marks n e l = record {
  parts = part-cut xs marks n e l;
  joined = sym (front n xs);
  shorter = let left = length-drop n xs in let some = mark-positive marks n e in omega (arith, left, some);
}
  where
    front : {A : Type 0} (n : ℕ) (xs : List A) → take n xs ++ drop n xs ≡ xs
    front zero xs = refl
    front (suc n) [] = refl
    front (suc n) (x ∷ xs) = ap (λ l. x ∷ l) (front n xs)

pub first-whole : {A : Type 0} (xs : List A) (marks : List Bool) (n k : ℕ) → 0 < length xs → IsPast (mark_from 0 marks) (length xs) → n ≡ length xs → k ≡ length marks → IsFirst xs marks (take n xs) (drop n xs) (drop k marks)
first-whole xs marks n k l p e f =
    let all : take n xs ≡ xs = ap (λ m. take m xs) e ∙ take-length xs in
    let none : drop n xs ≡ [] = ap (λ m. drop m xs) e ∙ drop-length xs in
    subst (λ a. IsFirst xs marks a (drop n xs) (drop k marks)) (sym all)
    (subst (λ b. IsFirst xs marks xs b (drop k marks)) (sym none) (record { parts = part-whole xs marks l p; joined = sym (append-nil xs); shorter = l }))
  where
    take-length : {A : Type 0} (xs : List A) → take (length xs) xs ≡ xs
    take-length [] = refl
    take-length (x ∷ xs) = ap (λ l. x ∷ l) (take-length xs)

    drop-length : {A : Type 0} (xs : List A) → drop (length xs) xs ≡ []
    drop-length [] = refl
    drop-length (x ∷ xs) = drop-length xs

pub first-moved : {A : Type 0} (xs : List A) (marks : List Bool) {a a' b b' : List A} {l l' : List Bool} → IsFirst xs marks a b l → a' ≡ a → b' ≡ b → l' ≡ l → IsFirst xs marks a' b' l'
first-moved xs marks {a} {a'} {b} {b'} {l} {l'} f p q r =
    subst (λ z. IsFirst xs marks z b' l') (sym p) (subst (λ z. IsFirst xs marks a z l') (sym q) (subst (λ z. IsFirst xs marks a b z) (sym r) f))

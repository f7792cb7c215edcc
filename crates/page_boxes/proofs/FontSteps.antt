-- Font sizes as the code has them, against those of the definition.
use Rattle.std.proofs.Common.{◌≡◌, ℕ, zero, suc, ◌+◌, ◌*◌, ◌/◌, ◌<◌, ◌≤◌, ℤ, pos, negsuc, unsigned_abs, true, nat_le, List, [], ◌∷◌, ◌++◌, length, get_or, Option, Some, None, slice_get, refl, sym, ◌∙◌, ap, subst, arith, length-append, inl, inr, ◌⊎◌, lit≤}
use Rattle.std.proofs.Math.IntN.{pos-*ℤ-pos}
use Rattle.std.proofs.lemmas.List.{get_or_at, get_or_append_left}
use Rattle.std.specs.Option.{option_map_or}
use Rattle.viz_base.specs.Numbers.{floor_of}
use Rattle.viz_base.specs.Styles.{is_good_size, is_nonnegative}
use Rattle.viz_base.specs.declared.lengths.Size.{Size}
use Rattle.viz_base.specs.declared.lengths.Size.TheVariants as of_size
use Rattle.viz_base.specs.declared.styles.Style.{Style}
use Rattle.viz_base.specs.FontSizes.{fraction, computed_size, default_size, font_size_in, parent_in}
use Rattle.std.proofs.lemmas.Bool.{and_parts}
use Rattle.layout_laws.proofs.FontSizes.{ParentsBefore, font-of-style, parent-before}
use Rattle.page_boxes.specs.steps.Extents.{capped, default, most, size_at, size_in, sizes_walk}
use Rattle.page_boxes.specs.steps.Tables.{held}
use Rattle.page_boxes.proofs.Capped.{capped_past, capped_within, past_or_within}

-- ---- numbers that are not negative

pub nonnegative : (z : ℤ) → is_nonnegative z ≡ true → z ≡ pos (unsigned_abs z)
nonnegative (pos n) e = refl
nonnegative (negsuc n) e = absurd (cc)

pub fraction_is : (num : ℤ) (den l : ℕ) → is_nonnegative num ≡ true → fraction num den (pos l) ≡ pos (unsigned_abs (fraction num den (pos l)))
fraction_is (pos m) den l e =
    let value : fraction (pos m) den (pos l) ≡ pos ((m * l) / den) = ap (λ z. floor_of z den) (pos-*ℤ-pos m l) in
    value ∙ ap (λ z. pos (unsigned_abs z)) (sym value)
fraction_is (negsuc m) den l e = absurd (cc)

-- ---- a size by the parent's

-- the code's number for a size: the size, or one past the most
pub data IsSize (z : ℤ) (n : ℕ) : Type 0 where
  exact : z ≡ pos n → n ≤ most → IsSize z n
  past : most < unsigned_abs z → n ≡ most + 1 → IsSize z n

pub is_size : (z : ℤ) → z ≡ pos (unsigned_abs z) → IsSize z (capped (unsigned_abs z))
is_size z e = by_place (past_or_within (unsigned_abs z))
  where
    by_place : (unsigned_abs z ≤ most) ⊎ (most < unsigned_abs z) → IsSize z (capped (unsigned_abs z))
    by_place (inl l) = IsSize.exact (e ∙ ap pos (sym (capped_within (unsigned_abs z) l))) (let same = capped_within (unsigned_abs z) l in omega (arith, same, l))
    by_place (inr l) = IsSize.past l (capped_past (unsigned_abs z) l)

size_by : (above : ℕ) (size : Size) → is_good_size size ≡ true → above ≤ most → IsSize (computed_size 256 (pos above) size) (size_in above size)
size_by above of_size.Same g l = IsSize.exact refl l
size_by above (of_size.Default num den) g l = is_size (fraction num den (pos 16384)) (fraction_is num den 16384 (and_parts (is_nonnegative num) (nat_le 1 den) g).0)
size_by above (of_size.Px c) g l = is_size c (nonnegative c g)
size_by above (of_size.Parent num den) g l = is_size (fraction num den (pos above)) (fraction_is num den above (and_parts (is_nonnegative num) (nat_le 1 den) g).0)

-- ---- the list of sizes

kept : (parents : List (Option ℕ)) (ss : List Style) (sizes : List ℕ) (at k d : ℕ) → k < length sizes → get_or (sizes_walk sizes parents at ss) k d ≡ get_or sizes k d
kept parents [] sizes at k d l = refl
kept parents (s ∷ ss) sizes at k d l =
    let v = size_in (size_at sizes (get_or parents at None)) s.size in
    let size = length-append sizes (v ∷ []) in
    kept parents ss (sizes ++ v ∷ []) (at + 1) k d (omega (arith, l, size)) ∙ get_or_append_left sizes (v ∷ []) d k l

-- each size comes from that of the parent, which stands before it
step_is : (parents : List (Option ℕ)) (ss : List Style) (sizes : List ℕ) (at : ℕ) → length sizes ≡ at → ((k q : ℕ) → get_or parents k None ≡ Some q → q < k)
    → (j : ℕ) (s : Style) → slice_get ss j ≡ Some s
    → get_or (sizes_walk sizes parents at ss) (at + j) default ≡ size_in (size_at (sizes_walk sizes parents at ss) (get_or parents (at + j) None)) s.size
step_is parents [] sizes at e before j s f = absurd (cc)
step_is parents (t ∷ ss) sizes at e before zero s f =
    let v = size_in (size_at sizes (get_or parents at None)) t.size in
    let size = length-append sizes (v ∷ []) in
    let same : t ≡ s = cc in
    let none : at + 0 ≡ at = omega arith in
    ap (λ k. get_or (sizes_walk (sizes ++ v ∷ []) parents (at + 1) ss) k default) none
    ∙ (kept parents ss (sizes ++ v ∷ []) (at + 1) at default (omega (arith, size, e))
    ∙ (get_or_at sizes v [] default at e
    ∙ (ap (λ (r : Style). size_in (size_at sizes (get_or parents at None)) r.size) same
    ∙ (ap (λ n. size_in n s.size) (by_parent (get_or parents at None) refl)
    ∙ ap (λ k. size_in (size_at (sizes_walk sizes parents at (t ∷ ss)) (get_or parents k None)) s.size) (sym none)))))
  where
    by_parent : (o : Option ℕ) → get_or parents at None ≡ o → held sizes o default ≡ held (sizes_walk sizes parents at (t ∷ ss)) o default
    by_parent None p = refl
    by_parent (Some q) p = let lower = before at q p in sym (kept parents (t ∷ ss) sizes at q default (omega (arith, lower, e)))
step_is parents (t ∷ ss) sizes at e before (suc j) s f =
    let v = size_in (size_at sizes (get_or parents at None)) t.size in
    let size = length-append sizes (v ∷ []) in
    let next : at + suc j ≡ (at + 1) + j = omega arith in
    ap (λ k. get_or (sizes_walk (sizes ++ v ∷ []) parents (at + 1) ss) k default) next
    ∙ (step_is parents ss (sizes ++ v ∷ []) (at + 1) (omega (arith, size, e)) before j s f
    ∙ ap (λ k. size_in (size_at (sizes_walk (sizes ++ v ∷ []) parents (at + 1) ss) (get_or parents k None)) s.size) (sym next))

-- ---- the sizes of nodes

abbrev pub sizes_of : List Style → List (Option ℕ) → List ℕ
sizes_of styles parents = sizes_walk [] parents 0 styles

-- the code has the node's font size itself
pub record IsExact (styles : List Style) (parents : List (Option ℕ)) (k : ℕ) : Type 0 where
  pub is : font_size_in styles parents 256 k ≡ pos (size_at (sizes_of styles parents) (Some k))
  pub within : size_at (sizes_of styles parents) (Some k) ≤ most

read_is : (ps : List (Option ℕ)) (k : ℕ) → get_or ps k None ≡ parent_in ps k
read_is [] k = refl
read_is (p ∷ ps) zero = refl
read_is (p ∷ ps) (suc k) = read_is ps k

size_step : (styles : List Style) (parents : List (Option ℕ)) → ParentsBefore parents → (k : ℕ) (s : Style) → slice_get styles k ≡ Some s
    → size_at (sizes_of styles parents) (Some k) ≡ size_in (size_at (sizes_of styles parents) (parent_in parents k)) s.size
size_step styles parents before k s e =
    let earlier : (j q : ℕ) → get_or parents j None ≡ Some q → q < j = λ j q p. parent-before parents j q before (sym (read_is parents j) ∙ p) in
    let none : 0 + k ≡ k = omega arith in
    ap (λ j. get_or (sizes_of styles parents) j default) (sym none)
    ∙ (step_is parents styles [] 0 refl earlier k s e
    ∙ (ap (λ j. size_in (size_at (sizes_of styles parents) (get_or parents j None)) s.size) none ∙ ap (λ o. size_in (size_at (sizes_of styles parents) o) s.size) (read_is parents k)))

-- where the parent's size is exact, a node's is or is past the most
pub size_of_node : (styles : List Style) (parents : List (Option ℕ)) → ParentsBefore parents → (k : ℕ) (s : Style) → slice_get styles k ≡ Some s → ((q : ℕ) → parent_in parents k ≡ Some q → IsExact styles parents q)
    → IsSize (font_size_in styles parents 256 k) (size_at (sizes_of styles parents) (Some k))
size_of_node styles parents before k s e above =
    subst (λ n. IsSize (font_size_in styles parents 256 k) n) (sym (size_step styles parents before k s e))
    (subst (λ z. IsSize z (size_in (size_at (sizes_of styles parents) (parent_in parents k)) s.size)) (sym (font-of-style styles parents 256 k s before e)) (by_parent (parent_in parents k) refl))
  where
    by_parent : (o : Option ℕ) → parent_in parents k ≡ o → IsSize (computed_size 256 (option_map_or (font_size_in styles parents 256) o (default_size 256)) s.size) (size_in (size_at (sizes_of styles parents) o) s.size)
    by_parent None p = size_by 16384 s.size s.ok.size_good (lit≤ tt)
    by_parent (Some q) p =
        let up = above q p in
        subst (λ z. IsSize (computed_size 256 z s.size) (size_in (size_at (sizes_of styles parents) (Some q)) s.size)) (sym up.is) (size_by (size_at (sizes_of styles parents) (Some q)) s.size s.ok.size_good up.within)

-- a node with its parent's size has that
pub same_size : (styles : List Style) (parents : List (Option ℕ)) → ParentsBefore parents → (k q : ℕ) (s : Style) → slice_get styles k ≡ Some s → parent_in parents k ≡ Some q → s.size ≡ of_size.Same
    → IsExact styles parents q → IsExact styles parents k
same_size styles parents before k q s e p z up =
    let own : size_at (sizes_of styles parents) (Some k) ≡ size_at (sizes_of styles parents) (Some q) =
    size_step styles parents before k s e
    ∙ (ap (λ o. size_in (size_at (sizes_of styles parents) o) s.size) p ∙ ap (λ n. size_in (size_at (sizes_of styles parents) (Some q)) n) z) in
    let font : font_size_in styles parents 256 k ≡ font_size_in styles parents 256 q =
    font-of-style styles parents 256 k s before e
    ∙ (ap (λ o. computed_size 256 (option_map_or (font_size_in styles parents 256) o (default_size 256)) s.size) p ∙ ap (λ n. computed_size 256 (font_size_in styles parents 256 q) n) z) in
    record { is = font ∙ (up.is ∙ ap pos (sym own)); within = let l = up.within in omega (arith, own, l) }

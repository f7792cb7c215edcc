-- Lists that change at one place.
use Rattle.std.proofs.Common.{◌≡◌, ℕ, Bool, true, false, if◌then◌else◌, zero, suc, ◌<◌, ◌≤◌, List, [], ◌∷◌, ◌++◌, ◌+◌, Option, Some, None, length, get_or, slice_set, refl, sym, ◌∙◌, ap, arith, length-append}
use Rattle.viz_base.specs.declared.trees.BoxNode.{BoxNode}
use Rattle.layout_semantics.specs.Parts.{Part}
use Rattle.page_boxes.specs.steps.Places.{bare_anonymous, bare_begun, bare_boxes, bare_own, begins, own_place_at, count_walk, outer_in, place_around, places_walk, with_kid, with_kid_at, with_kid_in, with_box, with_all}

pub set_with_kid : (place kid : ℕ) (boxes : List BoxNode) (b : BoxNode) → place < length boxes → b ≡ get_or boxes place b
    → slice_set boxes place (with_kid kid b) ≡ with_kid_at place kid boxes
set_with_kid place kid [] b l e = absurd (omega (arith, l))
set_with_kid zero kid (x ∷ xs) b l e = ap (λ y. with_kid kid y ∷ xs) e
set_with_kid (suc place) kid (x ∷ xs) b l e = ap (λ ys. x ∷ ys) (set_with_kid place kid xs b (omega (arith, l)) e)

pub past_with_kid : (place kid : ℕ) (boxes : List BoxNode) → length boxes ≤ place → boxes ≡ with_kid_at place kid boxes
past_with_kid place kid [] l = refl
past_with_kid zero kid (x ∷ xs) l = absurd (omega (arith, l))
past_with_kid (suc place) kid (x ∷ xs) l = ap (λ ys. x ∷ ys) (past_with_kid place kid xs (omega (arith, l)))

length_kid_at : (place kid : ℕ) (boxes : List BoxNode) → length (with_kid_at place kid boxes) ≡ length boxes
length_kid_at place kid [] = refl
length_kid_at zero kid (b ∷ bs) = refl
length_kid_at (suc place) kid (b ∷ bs) = ap suc (length_kid_at place kid bs)

length_kid_in : (outer : Option ℕ) (kid : ℕ) (boxes : List BoxNode) → length (with_kid_in outer kid boxes) ≡ length boxes
length_kid_in None kid boxes = refl
length_kid_in (Some place) kid boxes = length_kid_at place kid boxes

pub length_with_box : (boxes : List BoxNode) (b : BoxNode) → length (with_box boxes b) ≡ length boxes + 1
length_with_box boxes b = length-append (with_kid_in b.parent (length boxes) boxes) (b ∷ []) ∙ ap (λ n. n + 1) (length_kid_in b.parent (length boxes) boxes)

pub length_with_all : (boxes bs : List BoxNode) → length (with_all boxes bs) ≡ length boxes + length bs
length_with_all boxes [] = omega arith
length_with_all boxes (b ∷ bs) = let rest = length_with_all (with_box boxes b) bs in let one = length_with_box boxes b in omega (arith, rest, one)

pub with_all_append : (boxes xs ys : List BoxNode) → with_all boxes (xs ++ ys) ≡ with_all (with_all boxes xs) ys
with_all_append boxes [] ys = refl
with_all_append boxes (x ∷ xs) ys = with_all_append (with_box boxes x) xs ys

-- ---- the boxes of a part

pub own_place_most : (count : ℕ) (p : Part) (lead : Option ℕ) → own_place_at count p lead ≤ count + 1
own_place_most count p lead = by_test (begins p lead)
  where
    by_test : (t : Bool) → count + (if t then 1 else 0) ≤ count + 1
    by_test true = omega arith
    by_test false = omega arith

pub added_part : (old mid new : List BoxNode) (places changed : List ℕ) (p : Part) (lead around outer : Option ℕ) (own : BoxNode)
    → mid ≡ with_all old (bare_begun p lead around) → around ≡ place_around places p.parent → changed ≡ slice_set places p.node (own_place_at (length old) p lead)
    → outer ≡ outer_in changed around lead → own ≡ bare_own p outer → new ≡ with_box mid own → new ≡ with_all old (bare_boxes places (length old) p lead)
added_part old mid new places changed p lead around outer own m a c o w n =
    let own_is : own ≡ bare_own p (outer_in (slice_set places p.node (own_place_at (length old) p lead)) (place_around places p.parent) lead) =
    w ∙ ap (bare_own p) (o ∙ (ap (λ l. outer_in l around lead) c ∙ ap (λ k. outer_in (slice_set places p.node (own_place_at (length old) p lead)) k lead) a)) in
    n ∙ (ap (λ l. with_box l own) (m ∙ ap (λ k. with_all old (bare_begun p lead k)) a)
    ∙ (ap (with_box (with_all old (bare_begun p lead (place_around places p.parent)))) own_is
    ∙ sym (with_all_append old (bare_begun p lead (place_around places p.parent)) (bare_own p (outer_in (slice_set places p.node (own_place_at (length old) p lead)) (place_around places p.parent) lead) ∷ []))))

length_begun : (p : Part) (lead around : Option ℕ) → length (bare_begun p lead around) ≡ (if begins p lead then 1 else 0)
length_begun p lead around = by_test (begins p lead)
  where
    by_test : (t : Bool) → length (if t then bare_anonymous p around ∷ [] else []) ≡ (if t then 1 else 0)
    by_test true = refl
    by_test false = refl

next_place : (old : List BoxNode) (places : List ℕ) (p : Part) (lead : Option ℕ) → length (with_all old (bare_boxes places (length old) p lead)) ≡ own_place_at (length old) p lead + 1
next_place old places p lead =
    let around = place_around places p.parent in
    let own = bare_own p (outer_in (slice_set places p.node (own_place_at (length old) p lead)) around lead) in
    let all = length_with_all old (bare_boxes places (length old) p lead) in
    let both = length-append (bare_begun p lead around) (own ∷ []) in
    let first = length_begun p lead around in
    omega (arith, all, both, first)

pub boxes_step : (boxes mid : List BoxNode) (places changed : List ℕ) (leads : List (Option ℕ)) (at : ℕ) (p : Part) (ps rest : List Part) (lead : Option ℕ)
    → ps ≡ p ∷ rest → lead ≡ get_or leads at None → mid ≡ with_all boxes (bare_boxes places (length boxes) p lead) → changed ≡ slice_set places p.node (own_place_at (length boxes) p lead)
    → with_all mid (places_walk changed (length mid) leads (at + 1) rest) ≡ with_all boxes (places_walk places (length boxes) leads at ps)
boxes_step boxes mid places changed leads at p ps rest lead e l m c =
    let walked = places_walk (slice_set places p.node (own_place_at (length boxes) p lead)) (own_place_at (length boxes) p lead + 1) leads (at + 1) rest in
    ap (λ ws. with_all mid (places_walk ws (length mid) leads (at + 1) rest)) c
    ∙ (ap (λ n. with_all mid (places_walk (slice_set places p.node (own_place_at (length boxes) p lead)) n leads (at + 1) rest)) (ap length m ∙ next_place boxes places p lead)
    ∙ (ap (λ bs. with_all bs walked) m
    ∙ (sym (with_all_append boxes (bare_boxes places (length boxes) p lead) walked)
    ∙ (ap (λ o. with_all boxes (bare_boxes places (length boxes) p o ++ places_walk (slice_set places p.node (own_place_at (length boxes) p o)) (own_place_at (length boxes) p o + 1) leads (at + 1) rest)) l
    ∙ ap (λ qs. with_all boxes (places_walk places (length boxes) leads at qs)) (sym e)))))

pub count_step : (boxes mid : List BoxNode) (places : List ℕ) (leads : List (Option ℕ)) (at : ℕ) (p : Part) (ps rest : List Part) (lead : Option ℕ)
    → ps ≡ p ∷ rest → lead ≡ get_or leads at None → mid ≡ with_all boxes (bare_boxes places (length boxes) p lead)
    → length mid + count_walk leads (at + 1) rest ≡ length boxes + count_walk leads at ps
count_step boxes mid places leads at p ps rest lead e l m =
    let size = ap length m ∙ next_place boxes places p lead in
    let one = by_test (begins p lead) in
    let start = ap (λ o. (if begins p o then 2 else 1) + count_walk leads (at + 1) rest) l in
    let all = ap (count_walk leads at) e in
    omega (arith, size, one, start, all)
  where
    by_test : (t : Bool) → (if t then 1 else 0) + 1 ≡ (if t then 2 else 1)
    by_test true = omega arith
    by_test false = omega arith

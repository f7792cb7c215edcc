-- The nodes of a page in document order, by the lists of their children.
use Rattle.std.proofs.Common.{◌≡◌, ℕ, zero, suc, ◌+◌, ◌<◌, ◌≤◌, List, [], ◌∷◌, ◌++◌, length, Option, Some, None, option_and_then, refl, sym, ap, ◌∙◌, arith, get_or, subst, append_assoc, append-nil, drop, length-append, Ordering, Less, Equal, Greater}
use Rattle.std.specs.Prelude.{map, codes, unwrap_or, max}
use Rattle.std.specs.Ordering.{nat_cmp, match_ordering}
use Rattle.std.specs.Cmp.Lexicographic.{slice_cmp}
use Rattle.std.proofs.lemmas.Grind.{common_steps}
use Rattle.std.proofs.lemmas.List.{length-map}
use Rattle.std.proofs.Math.ListN.{get_or-map}
use Rattle.std.proofs.Math.Nat.{le-max_left, le-max_right}
use Rattle.serde_json.specs.declared.value.Value.{Value}
use Rattle.serde_json.specs.Data.{Data, null, boolean, number, string, array, object, Items, no_items, item, Members, no_members, member, depth, items_depth, members_depth}
use Rattle.serde_json.specs.Find.{get_member}
use Rattle.serde_json.specs.View.{view}
use Rattle.page_json.specs.Values.{list_of, elements_in}
use Rattle.page_json.specs.Documents.{Place, place, listed, children_listed, list_listed, all_listed, children_of}

-- ---- the list of children in place of the member

abbrev pub each_listed : List Data → Option ℕ → ℕ → ℕ → List Place
each_listed [] parent depth at = []
each_listed (d ∷ ds) parent depth at = listed d parent depth at ++ each_listed ds parent depth (at + length (listed d parent depth at))

abbrev children_at : Option Data → List Data
children_at o = unwrap_or (option_and_then list_of o) []

all_listed-each : (ds : Items) (p : Option ℕ) (k at : ℕ) → all_listed ds p k at ≡ each_listed (elements_in ds) p k at
all_listed-each no_items p k at = refl
all_listed-each (item d ds) p k at = ap (λ rest. listed d p k at ++ rest) (all_listed-each ds p k (at + length (listed d p k at)))

list_listed-each : (d : Data) (p : Option ℕ) (k at : ℕ) → list_listed d p k at ≡ each_listed (children_at (Some d)) p k at
list_listed-each null p k at = refl
list_listed-each (boolean b) p k at = refl
list_listed-each (number n) p k at = refl
list_listed-each (string s) p k at = refl
list_listed-each (array ds) p k at = all_listed-each ds p k at
list_listed-each (object ms) p k at = refl

by_order : (o : Ordering) (d : Data) (xs : List Place) (found : Option Data) (p : Option ℕ) (k at : ℕ) → xs ≡ each_listed (children_at found) p k at
    → match_ordering o xs (list_listed d p k at) xs ≡ each_listed (children_at (match_ordering o found (Some d) found)) p k at
by_order Less d xs found p k at e = e
by_order Equal d xs found p k at e = list_listed-each d p k at
by_order Greater d xs found p k at e = e

children_listed-each : (ms : Members) (p : Option ℕ) (k at : ℕ) → children_listed ms p k at ≡ each_listed (children_at (get_member (codes "children") ms)) p k at
children_listed-each no_members p k at = refl
children_listed-each (member key d ms) p k at =
    by_order (slice_cmp nat_cmp (codes "children") key) d (children_listed ms p k at) (get_member (codes "children") ms) p k at (children_listed-each ms p k at)

pub listed-open : (d : Data) (p : Option ℕ) (k at : ℕ) → listed d p k at ≡ place d p k ∷ each_listed (children_of d) (Some at) (k + 1) (at + 1)
listed-open null p k at = refl
listed-open (boolean b) p k at = refl
listed-open (number n) p k at = refl
listed-open (string s) p k at = refl
listed-open (array ds) p k at = refl
listed-open (object ms) p k at = ap (λ rest. place (object ms) p k ∷ rest) (children_listed-each ms (Some at) (k + 1) (at + 1))

-- ---- children are smaller

abbrev Below : ℕ → List Data → Type 0
Below n ds = (i : ℕ) (d : Data) → i < length ds → depth (get_or ds i d) < n

-- what is below a number is below a greater one
below_more : (n m : ℕ) (ds : List Data) → n ≤ m → Below n ds → Below m ds
below_more n m ds le h i d lt = let x = h i d lt in omega arith

items_below : (ds : Items) (i : ℕ) (d : Data) → i < length (elements_in ds) → depth (get_or (elements_in ds) i d) ≤ items_depth ds
items_below no_items i d lt = absurd (omega arith)
items_below (item e ds) zero d lt = omega (arith, le-max_left (depth e) (items_depth ds))
items_below (item e ds) (suc i) d lt = omega (arith, items_below ds i d (omega arith), le-max_right (depth e) (items_depth ds))

children_below : (n : ℕ) (o : Option Data) → ((e : Data) → o ≡ Some e → depth e ≤ n) → Below n (children_at o)
children_below n None le = λ i d lt. absurd (omega arith)
children_below n (Some e) le = of_list e (le e refl)
  where
    of_list : (e : Data) → depth e ≤ n → Below n (children_at (Some e))
    of_list null h i d lt = absurd (omega arith)
    of_list (boolean b) h i d lt = absurd (omega arith)
    of_list (number m) h i d lt = absurd (omega arith)
    of_list (string s) h i d lt = absurd (omega arith)
    of_list (object ms) h i d lt = absurd (omega arith)
    of_list (array ds) h i d lt = omega (arith, items_below ds i d lt)

member_below : (key : List ℕ) (ms : Members) (e : Data) → get_member key ms ≡ Some e → depth e ≤ members_depth ms
member_below key no_members e is = cc
member_below key (member l d ms) e is =
    by_order' (slice_cmp nat_cmp key l) is (λ h. member_below key ms e h)
  where
    by_order' : (o : Ordering) → match_ordering o (get_member key ms) (Some d) (get_member key ms) ≡ Some e
        → (get_member key ms ≡ Some e → depth e ≤ members_depth ms) → depth e ≤ max (depth d) (members_depth ms)
    by_order' Less h rest = omega (arith, rest h, le-max_right (depth d) (members_depth ms))
    by_order' Equal h rest = let same : d ≡ e = cc in omega (arith, ap depth same, le-max_left (depth d) (members_depth ms))
    by_order' Greater h rest = omega (arith, rest h, le-max_right (depth d) (members_depth ms))

child_below : (d : Data) → Below (depth d) (children_of d)
child_below null = λ i e lt. absurd (omega arith)
child_below (boolean b) = λ i e lt. absurd (omega arith)
child_below (number n) = λ i e lt. absurd (omega arith)
child_below (string s) = λ i e lt. absurd (omega arith)
child_below (array ds) = λ i e lt. absurd (omega arith)
child_below (object ms) =
    below_more (members_depth ms) (suc (members_depth ms)) _ (omega arith)
    (children_below (members_depth ms) (get_member (codes "children") ms) (λ e is. member_below (codes "children") ms e is))

-- a child's value is less deep than the element's
pub child_less : (d : Data) (vs : List Value) (i : ℕ) (v : Value) → map view vs ≡ children_of d → i < length vs → v ≡ get_or vs i v → depth (view v) < depth d
child_less d vs i v e lt is =
    let long : i < length (map view vs) = omega (arith, length-map vs view) in
    let there : i < length (children_of d) = subst (λ (ds : List Data). i < length ds) e long in
    let at : get_or (children_of d) i (view v) ≡ view v = ap (λ (ds : List Data). get_or ds i (view v)) (sym e) ∙ (get_or-map view vs i v ∙ ap view (sym is)) in
    omega (arith, child_below d i (view v) there, ap depth at)

-- ---- the walk over the children

pub each_turn : (p : Option ℕ) (k n m : ℕ) (old new whole : List Place) (vs : List Value) (i : ℕ) (v : Value) → length old ≡ n → length new ≡ m
    → i < length vs → v ≡ get_or vs i v → new ≡ old ++ listed (view v) p k n
    → old ++ each_listed (map view (drop i vs)) p k n ≡ whole
    → new ++ each_listed (map view (drop (i + 1) vs)) p k m ≡ whole
each_turn p k n m old new whole vs i v en em lt is e h =
    let size : m ≡ n + length (listed (view v) p k n) = omega (arith, ap length e, length-append old (listed (view v) p k n)) in
    let rest = each_listed (map view (drop (i + 1) vs)) p k (n + length (listed (view v) p k n)) in
    let from : drop i vs ≡ v ∷ drop (i + 1) vs = drop_more vs i v lt is in
    ap (λ j. new ++ each_listed (map view (drop (i + 1) vs)) p k j) size ∙ (ap (λ ps. ps ++ rest) e
    ∙ (append_assoc old (listed (view v) p k n) rest
    ∙ (ap (λ us. old ++ each_listed (map view us) p k n) (sym from) ∙ h)))
  where
    drop_more : (ys : List Value) (j : ℕ) (y : Value) → j < length ys → y ≡ get_or ys j y → drop j ys ≡ y ∷ drop (j + 1) ys
    drop_more ys j y a b = grind (arith, common_steps)

-- the walk over the children is at its end
pub each_end : (d : Data) (p : Option ℕ) (k below at m n : ℕ) (old start places : List Place) (vs : List Value) (i : ℕ)
    → start ≡ old ++ place d p k ∷ [] → length start ≡ n → at ≡ length old → below ≡ k + 1 → map view vs ≡ children_of d → length vs ≤ i
    → places ++ each_listed (map view (drop i vs)) (Some at) below m ≡ start ++ each_listed (map view vs) (Some at) below n
    → places ≡ old ++ listed d p k (length old)
each_end d p k below at m n old start places vs i es en ea eb ec le h =
    let none : drop i vs ≡ [] = grind (arith, common_steps) in
    let size : n ≡ at + 1 = omega (arith, ap length es, length-append old (place d p k ∷ [])) in
    let kids = each_listed (children_of d) (Some at) (k + 1) (at + 1) in
    sym (append-nil places) ∙ (ap (λ us. places ++ each_listed (map view us) (Some at) below m) (sym none) ∙ (h
    ∙ (ap (λ ds. start ++ each_listed ds (Some at) below n) ec
    ∙ (ap (λ j. start ++ each_listed (children_of d) (Some at) j n) eb
    ∙ (ap (λ j. start ++ each_listed (children_of d) (Some at) (k + 1) j) size
    ∙ (ap (λ ps. ps ++ kids) es
    ∙ (append_assoc old (place d p k ∷ []) kids
    ∙ (ap (λ ps. old ++ ps) (sym (listed-open d p k at)) ∙ ap (λ j. old ++ listed d p k j) ea))))))))

-- The runs of boxes that anonymous block boxes hold: the items of a page are arranged where its parts are.
use Rattle.std.proofs.Common.{◌≡◌, ℕ, suc, ◌<◌, ◌≤◌, Bool, true, false, ◌==◌, List, [], ◌∷◌, ◌++◌, map, flat_map, find, Option, Some, None, option_and_then, refl, sym, ◌∙◌, ap, subst, arith, ◌⊎◌, inl, inr, if◌then◌else◌, eq-eqb, ne_eqb, eqb-true, filter, Contains, ⊎_elim, get_or}
use Rattle.std.proofs.lemmas.List.Elements.{Contains-append_right, Contains-get_or}
use Rattle.std.proofs.lemmas.List.Folds.{list_any_none}
use Rattle.std.specs.List.{list_any}
use Rattle.viz_base.proofs.ListLemmas.{in_flat_map, rises_from, rises_lower, later_member}
use Rattle.viz_base.specs.Orders.{Rises}
use Rattle.layout_semantics.specs.Parts.{Part, Level}
use Rattle.layout_semantics.specs.WhiteSpace.{is_in}
use Rattle.layout_semantics.specs.BoxTrees.{Item, items_of, run_around, first_of, has_node, nodes_of, parts_in, wrapped_in, runs_of, with_part, needs_box, is_block_part}
use Rattle.layout_laws.proofs.Members.{rises_filter, to_map, from_map, from_filter, no_member, first_member, first_or_later, by_member, any_from}
use Rattle.layout_laws.proofs.Places.{node_of}
use Rattle.layout_laws.proofs.Kids.{IsArranged, IsRun}

-- ---- ascending lists of lists

pub rises_left : (low : ℕ) (xs ys : List ℕ) → Rises low (xs ++ ys) → Rises low xs
rises_left low [] ys r = tt
rises_left low (x ∷ xs) ys r = (r.0, rises_left (suc x) xs ys r.1)

pub rises_right : (low : ℕ) (xs ys : List ℕ) → Rises low (xs ++ ys) → Rises low ys
rises_right low [] ys r = r
rises_right low (x ∷ xs) ys r = let l : low ≤ suc x = omega (arith, r.0) in rises_lower low (suc x) ys l (rises_right (suc x) xs ys r.1)

pub rises_cross : (low : ℕ) (xs ys : List ℕ) (a b : ℕ) → Rises low (xs ++ ys) → Contains xs a → Contains ys b → a < b
rises_cross low [] ys a b r i j = no_member i
rises_cross low (x ∷ xs) ys a b r i j =
    ⊎_elim
    (λ e. let above = rises_from (suc x) (xs ++ ys) b r.1 (Contains-append_right xs ys b j) in omega (arith, above, e))
    (λ k. rises_cross (suc x) xs ys a b r.1 k j)
    (first_or_later x xs a i)

-- the second part changed into one that rises wherever it does
rises_swap : (low : ℕ) (xs ys zs : List ℕ) → Rises low (xs ++ ys) → ((h : ℕ) → Rises h ys → Rises h zs) → Rises low (xs ++ zs)
rises_swap low [] ys zs r f = f low r
rises_swap low (x ∷ xs) ys zs r f = (r.0, rises_swap (suc x) xs ys zs r.1 f)

rises_member : (low : ℕ) (runs : List (List ℕ)) (run : List ℕ) → Rises low (flat_map (λ run. run) runs) → Contains runs run → Rises low run
rises_member low [] run r i = no_member i
rises_member low (other ∷ runs) run r i =
    by_member (λ ks. Rises low ks) other runs run i
    (rises_left low other (flat_map (λ run. run) runs) r)
    (λ j. rises_member low runs run (rises_right low other (flat_map (λ run. run) runs) r) j)

has_its_node : (run : List ℕ) (k : ℕ) → Contains run k → has_node k run ≡ true
has_its_node run k i = any_from (λ j. j == k) run k i (eq-eqb k k refl)

has_no_later_node : (run : List ℕ) (k : ℕ) → ((a : ℕ) → Contains run a → a < k) → has_node k run ≡ false
has_no_later_node run k f = list_any_none (λ j. j == k) run (λ n d l. let below = f (get_or run n d) (Contains-get_or run n d l) in ne_eqb (get_or run n d) k (λ e. omega (arith, e, below)))

-- the run that has a node is found
pub find_run : (low : ℕ) (runs : List (List ℕ)) (run : List ℕ) (k : ℕ) → Rises low (flat_map (λ run. run) runs) → Contains runs run → Contains run k → find (has_node k) runs ≡ Some run
find_run low [] run k r i j = no_member i
find_run low (other ∷ runs) run k r i j =
    ⊎_elim
    (λ e. ap (λ b. if b then Some other else find (has_node k) runs) (has_its_node other k (subst (λ ks. Contains ks k) (sym e) j)) ∙ ap Some e)
    (λ m.
    let none = has_no_later_node other k (λ a h. rises_cross low other (flat_map (λ run. run) runs) a k r h (in_flat_map (λ ks. ks) runs run k m j)) in
    ap (λ b. if b then Some other else find (has_node k) runs) none ∙ find_run low runs run k (rises_right low other (flat_map (λ run. run) runs) r) m j)
    (first_or_later other runs run i)

pub found_in : {A : Type 0} (test : A → Bool) (xs : List A) (x : A) → find test xs ≡ Some x → Contains xs x × (test x ≡ true)
found_in test [] x e = absurd (cc)
found_in {A} test (y ∷ ys) x e = by_test (test y) refl e (λ f. found_in test ys x f)
  where
    same : Some y ≡ Some x → y ≡ x
    same e = cc

    by_test : (b : Bool) → test y ≡ b → (if b then Some y else find test ys) ≡ Some x → (find test ys ≡ Some x → Contains ys x × (test x ≡ true)) → Contains (y ∷ ys) x × (test x ≡ true)
    by_test true t f again = (first_member _ (same f), subst (λ (z : A). test z ≡ true) (same f) t)
    by_test false t f again = let r = again f in (later_member _ r.0, r.1)

-- ---- the runs between block-level boxes

rises_with : (low : ℕ) (l : Level) (p : Part) (runs : List (List Part)) → low ≤ p.node → Rises (suc p.node) (flat_map (λ run. run) (map nodes_of runs)) → Rises low (flat_map (λ run. run) (map nodes_of (with_part l p runs)))
rises_with low Level.block p runs l r = rises_lower low (suc p.node) (flat_map (λ run. run) (map nodes_of runs)) (omega (arith, l)) r
rises_with low Level.floated p [] l r = (l, tt)
rises_with low Level.floated p (run ∷ runs) l r = (l, r)
rises_with low Level.inline p [] l r = (l, tt)
rises_with low Level.inline p (run ∷ runs) l r = (l, r)

rises_runs : (low : ℕ) (kids : List Part) → Rises low (map (λ (p : Part). p.node) kids) → Rises low (flat_map (λ run. run) (map nodes_of (runs_of kids)))
rises_runs low [] r = tt
rises_runs low (p ∷ ps) r = rises_with low p.level p (runs_of ps) r.0 (rises_runs (suc p.node) ps r.1)

rises_fewer : (test : List Part → Bool) (low : ℕ) (runs : List (List Part)) → Rises low (flat_map (λ run. run) (map nodes_of runs)) → Rises low (flat_map (λ run. run) (map nodes_of (filter test runs)))
rises_fewer test low [] r = tt
rises_fewer test low (run ∷ runs) r = by_test (test run) (λ h s. rises_fewer test h runs s)
  where
    by_test : (b : Bool) → ((h : ℕ) → Rises h (flat_map (λ run. run) (map nodes_of runs)) → Rises h (flat_map (λ run. run) (map nodes_of (filter test runs))))
        → Rises low (flat_map (λ run. run) (map nodes_of (if b then run ∷ filter test runs else filter test runs)))
    by_test true again = rises_swap low (nodes_of run) (flat_map (λ run. run) (map nodes_of runs)) (flat_map (λ run. run) (map nodes_of (filter test runs))) r again
    by_test false again = again low (rises_right low (nodes_of run) (flat_map (λ run. run) (map nodes_of runs)) r)

pub rises_wrapped : (low : ℕ) (kids : List Part) → Rises low (map (λ (p : Part). p.node) kids) → Rises low (flat_map (λ run. run) (map nodes_of (wrapped_in kids)))
rises_wrapped low kids r = by_test (list_any is_block_part kids)
  where
    by_test : (b : Bool) → Rises low (flat_map (λ run. run) (map nodes_of (if b then filter needs_box (runs_of kids) else [])))
    by_test true = rises_fewer needs_box low (runs_of kids) (rises_runs low kids r)
    by_test false = tt

-- a run with an element is not the empty one
pub past_empty : {A : Type 0} (runs : List (List A)) (run : List A) (y : A) → Contains ([] ∷ runs) run → Contains run y → Contains runs run
past_empty runs run y i j = ⊎_elim (λ e. no_member (subst (λ r. Contains r y) (sym e) j)) (λ k. k) (first_or_later [] runs run i)

-- an element of the runs, the first of which begins with p
with_first : (p : Part) (q : List Part) (runs : List (List Part)) (run : List Part) (y : Part) → Contains ((p ∷ q) ∷ runs) run → Contains run y → (y ≡ p) ⊎ (Contains q y ⊎ Contains runs run)
with_first p q runs run y i j =
    ⊎_elim
    (λ e. ⊎_elim (λ s. inl (sym s)) (λ k. inr (inl k)) (first_or_later p q y (subst (λ r. Contains r y) (sym e) j)))
    (λ k. inr (inr k))
    (first_or_later (p ∷ q) runs run i)

pub from_with : (l : Level) (p : Part) (runs : List (List Part)) (run : List Part) (y : Part) → Contains (with_part l p runs) run → Contains run y → (y ≡ p) ⊎ ((r : List Part) × Contains runs r × Contains r y)
from_with Level.block p runs run y i j = inr (run, past_empty runs run y i j, j)
from_with Level.floated p [] run y i j = ⊎_elim (λ s. inl s) (λ k. ⊎_elim (λ h. no_member h) (λ h. no_member h) k) (with_first p [] [] run y i j)
from_with Level.floated p (r ∷ runs) run y i j = ⊎_elim (λ s. inl s) (λ k. ⊎_elim (λ h. inr (r, first_member _ refl, h)) (λ h. inr (run, later_member _ h, j)) k) (with_first p r runs run y i j)
from_with Level.inline p [] run y i j = ⊎_elim (λ s. inl s) (λ k. ⊎_elim (λ h. no_member h) (λ h. no_member h) k) (with_first p [] [] run y i j)
from_with Level.inline p (r ∷ runs) run y i j = ⊎_elim (λ s. inl s) (λ k. ⊎_elim (λ h. inr (r, first_member _ refl, h)) (λ h. inr (run, later_member _ h, j)) k) (with_first p r runs run y i j)

pub from_runs : (kids : List Part) (run : List Part) (y : Part) → Contains (runs_of kids) run → Contains run y → Contains kids y
from_runs [] run y i j = no_member (past_empty [] run y i j)
from_runs (p ∷ ps) run y i j = by_part (from_with p.level p (runs_of ps) run y i j) (λ r k h. from_runs ps r y k h)
  where
    by_part : (y ≡ p) ⊎ ((r : List Part) × Contains (runs_of ps) r × Contains r y) → ((r : List Part) → Contains (runs_of ps) r → Contains r y → Contains ps y) → Contains (p ∷ ps) y
    by_part (inl e) again = first_member _ (sym e)
    by_part (inr f) again = later_member _ (again f.0 f.1 f.2)

from_wrapped : (kids : List Part) (run : List Part) (y : Part) → Contains (wrapped_in kids) run → Contains run y → Contains kids y
from_wrapped kids run y i j = from_runs kids run y (by_test (list_any is_block_part kids) i) j
  where
    by_test : (b : Bool) → Contains (if b then filter needs_box (runs_of kids) else []) run → Contains (runs_of kids) run
    by_test true i = (from_filter needs_box (runs_of kids) run i).0
    by_test false i = no_member i

-- ---- parts

pub record PartHasParent (parts : List Part) (p : Part) (q : ℕ) : Type 0 where
  pub before : q < p.node
  pub parent : Part
  pub inside : Contains parts parent
  pub node : parent.node ≡ q

pub record AreParts (parts : List Part) : Type 0 where
  pub rises : Rises 0 (map (λ (p : Part). p.node) parts)
  pub parents : (p : Part) (q : ℕ) → Contains parts p → p.parent ≡ Some q → PartHasParent parts p q

rises_items : (parts : List Part) (low : ℕ) (ps : List Part) → Rises low (map (λ (p : Part). p.node) ps) → Rises low (map node_of (map (λ p. record { part = p; run = run_around parts p }) ps))
rises_items parts low [] r = tt
rises_items parts low (p ∷ ps) r = (r.0, rises_items parts (suc p.node) ps r.1)

pub is_in_some : (n : ℕ) (o : Option ℕ) → is_in n o ≡ true → o ≡ Some n
is_in_some n None t = absurd (cc)
is_in_some n (Some m) t = ap Some (eqb-true m n t)

module _ (parts : List Part) (known : AreParts parts) where
  -- the run around a part, from its siblings
  run_of_parent : (p : Part) (q : ℕ) → p.parent ≡ Some q → run_around parts p ≡ find (has_node p.node) (map nodes_of (wrapped_in (parts_in parts q)))
  run_of_parent p q e = ap (option_and_then (λ parent. find (has_node p.node) (map nodes_of (wrapped_in (parts_in parts parent))))) e

  is_run : (p : Part) (q : ℕ) (run : List ℕ) → p.parent ≡ Some q → run_around parts p ≡ Some run → IsRun (items_of parts) run
  is_run p q run up e =
      let runs = map nodes_of (wrapped_in (parts_in parts q)) in
      let f = found_in (has_node p.node) runs run (sym (run_of_parent p q up) ∙ e) in
      let rising = rises_wrapped 0 (parts_in parts q) (rises_filter (λ (p : Part). p.node) (λ (p : Part). is_in q p.parent) 0 parts known.rises) in
      record {
        first_in = first_is run p.node f.1;
        rises = rises_member 0 runs run rising f.0;
        members = λ k i.
            let r = from_map nodes_of (wrapped_in (parts_in parts q)) run f.0 in
            let y = from_map (λ (p : Part). p.node) r.0 k (subst (λ l. Contains l k) (sym r.2) i) in
            let kid = from_filter (λ (p : Part). is_in q p.parent) parts y.0 (from_wrapped (parts_in parts q) r.0 y.0 r.1 y.1) in
            let here : find (has_node y.0.node) runs ≡ Some run = find_run 0 runs run y.0.node rising f.0 (subst (λ j. Contains run j) (sym y.2) i) in
            record {
              item = record { part = y.0; run = run_around parts y.0 };
              inside = to_map (λ p. record { part = p; run = run_around parts p }) parts y.0 kid.0;
              node = y.2;
              run_is = run_of_parent y.0 q (is_in_some q y.0.parent kid.1) ∙ here;
            };
      }
    where
      first_is : (run : List ℕ) (k : ℕ) → has_node k run ≡ true → Contains run (first_of run)
      first_is [] k e = absurd (cc)
      first_is (f ∷ run) k e = first_member _ refl

  run_has_parent : (p : Part) (o : Option ℕ) (run : List ℕ) → option_and_then (λ parent. find (has_node p.node) (map nodes_of (wrapped_in (parts_in parts parent)))) o ≡ Some run → (q : ℕ) × (o ≡ Some q)
  run_has_parent p None run e = absurd (cc)
  run_has_parent p (Some q) run e = (q, refl)

  pub items_arranged : IsArranged (items_of parts)
  items_arranged = record {
    rises = rises_items parts 0 parts known.rises;
    parents = λ x q i e.
        let from = from_map (λ p. record { part = p; run = run_around parts p }) parts x i in
        let up = known.parents from.0 q from.1 (ap (λ (y : Item). y.part.parent) from.2 ∙ e) in
        record {
          before = subst (λ n. q < n) (ap node_of from.2) up.before;
          parent = record { part = up.parent; run = run_around parts up.parent };
          inside = to_map (λ p. record { part = p; run = run_around parts p }) parts up.parent up.inside;
          node = up.node;
        };
    runs = λ x run i e.
        let from = from_map (λ p. record { part = p; run = run_around parts p }) parts x i in
        let around = ap (λ (y : Item). y.run) from.2 ∙ e in
        let up = run_has_parent from.0 from.0.parent run around in
        is_run from.0 up.0 run up.1 around;
  }

-- the element that a part in a run is in
pub run_parent : (parts : List Part) (x : Item) (run : List ℕ) → Contains (items_of parts) x → x.run ≡ Some run → (q : ℕ) × (x.part.parent ≡ Some q)
run_parent parts x run i e =
    let from = from_map (λ p. record { part = p; run = run_around parts p }) parts x i in
    let up = by_parent from.0 from.0.parent (ap (λ (y : Item). y.run) from.2 ∙ e) in
    (up.0, ap (λ (y : Item). y.part.parent) (sym from.2) ∙ up.1)
  where
    by_parent : (p : Part) (o : Option ℕ) → option_and_then (λ parent. find (has_node p.node) (map nodes_of (wrapped_in (parts_in parts parent)))) o ≡ Some run → (q : ℕ) × (o ≡ Some q)
    by_parent p None e = absurd (cc)
    by_parent p (Some q) e = (q, refl)

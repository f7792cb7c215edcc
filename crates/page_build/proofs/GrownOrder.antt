-- The nodes that are written stand on the grown page in their order, each once.
use Rattle.std.proofs.Common.{◌≡◌, ℕ, zero, suc, ◌+◌, ◌<◌, ◌≤◌, ◌-◌, ◌⊎◌, Bool, true, false, List, [], ◌∷◌, ◌++◌, length, map, drop, Option, Some, None, inl, inr, option_map, refl, sym, ◌∙◌, ap, subst, arith, eq-or-lt_of_le}
use Rattle.std.specs.Prelude.{sum_by, slice_get, get_or, nat_lt, if◌then◌else◌, IsTrue}
use Rattle.std.specs.Option.{option_map_or, option_to_list}
use Rattle.std.proofs.lemmas.Bool.{and_parts, false≢true}
use Rattle.std.proofs.lemmas.Bool.Decides.{nat_tests}
use Rattle.std.proofs.lemmas.Option.{same_Some, slice_get_cases, slice_get-map, slice_get_within}
use Rattle.viz_base.specs.declared.nodes.Node.{Node}
use Rattle.std.proofs.lemmas.List.Sums.{sum_by-append, sum_by-cons}
use Rattle.std.proofs.lemmas.Str.{chars-nil}
use Rattle.layout_laws.proofs.TextTotals.{sum-map}
use Rattle.std.proofs.Math.Seq.{take-length}
use Rattle.viz_base.proofs.ListLemmas.{slice_some}
use Rattle.viz_base.proofs.Sameness.{no_cons, same_head, same_tail}
use Rattle.viz_base.specs.Orders.{is_from}
use Rattle.std.specs.Str.{chars}
use Rattle.viz_base.specs.Pages.{IsPage, is_element_at, parent_fits, text_of}
use Rattle.viz_base.specs.declared.settings.Setting.{Setting}
use Rattle.viz_base.specs.declared.selectors.Pseudo.{Pseudo}
use Rattle.viz_base.specs.declared.selectors.Pseudo.TheVariants.{Before, After}
use Rattle.page_pseudo.specs.declared.nodes.GrownNode.{GrownNode}
use Rattle.page_pseudo.specs.Generated.{generated}
use Rattle.page_pseudo.specs.Limits.{IsWithin, count, made_at, made_before, made_from}
use Rattle.page_pseudo.specs.Grown.{Grow, IsGrown, Written, children, children_from, content, is_same_parent, node_of, own_node, pseudo_element, pseudo_nodes, text_nodes, winners_at}

-- ---- numbers

-- the numbers of the nodes that are written among some
abbrev pub froms : List GrownNode → List ℕ
froms [] = []
froms (g ∷ gs) = option_to_list g.from ++ froms gs

froms-append : (xs ys : List GrownNode) → froms (xs ++ ys) ≡ froms xs ++ froms ys
froms-append [] ys = refl
froms-append (x ∷ xs) ys = by_own x.from (froms-append xs ys)
  where
    by_own : (o : Option ℕ) → froms (xs ++ ys) ≡ froms xs ++ froms ys → option_to_list o ++ froms (xs ++ ys) ≡ (option_to_list o ++ froms xs) ++ froms ys
    by_own None e = e
    by_own (Some n) e = ap (λ ns. n ∷ ns) e

-- the numbers from one to another, the last one not counted
abbrev pub Counts : ℕ → List ℕ → ℕ → Type 0
Counts k [] end = k ≡ end
Counts k (n ∷ ns) end = (n ≡ k) × Counts (suc k) ns end

counts-append : (k : ℕ) (ns ms : List ℕ) (middle end : ℕ) → Counts k ns middle → Counts middle ms end → Counts k (ns ++ ms) end
counts-append k [] ms middle end h g = subst (λ j. Counts j ms end) (sym h) g
counts-append k (n ∷ ns) ms middle end h g = (h.0, counts-append (suc k) ns ms middle end h.1 g)

-- generated nodes are not written
text_from : (at : ℕ) (text : List ℕ) → froms (text_nodes at text) ≡ []
text_from at [] = refl
text_from at (c ∷ text) = refl

pseudo_from : (which : Pseudo) (at parent : ℕ) (winners : List Setting) (o : Option (List ℕ)) → froms (pseudo_nodes which at parent winners o) ≡ []
pseudo_from which at parent winners None = refl
pseudo_from which at parent winners (Some text) = text_from at text

-- the numbers of a node, of what is in it and of what comes behind it
froms_of : (w : Written) (n from at : ℕ) (parent : Option ℕ) (node : Node) (before after : List Setting) (first inside last others : List GrownNode) (to : ℕ)
    → first ≡ content Before from at node.body before → last ≡ content After to at node.body after
    → froms (own_node w n parent node ∷ (first ++ (inside ++ (last ++ others)))) ≡ n ∷ (froms inside ++ froms others)
froms_of w n from at parent node before after first inside last others to is_first is_last =
    let none : froms first ≡ [] = ap froms is_first ∙ pseudo_from Before from at before (generated node.body before) in
    let none_last : froms last ≡ [] = ap froms is_last ∙ pseudo_from After to at after (generated node.body after) in
    ap (λ ns. n ∷ ns)
    (froms-append first (inside ++ (last ++ others))
    ∙ (ap (λ ns. ns ++ froms (inside ++ (last ++ others))) none
    ∙ (froms-append inside (last ++ others) ∙ ap (λ ns. froms inside ++ ns) (froms-append last others ∙ ap (λ ns. ns ++ froms others) none_last))))

-- ---- lists

drop_step : (nodes : List Node) (k : ℕ) (node : Node) → slice_get nodes k ≡ Some node → drop k nodes ≡ node ∷ drop (suc k) nodes
drop_step [] k node e = cc
drop_step (x ∷ xs) zero node e = ap (λ y. y ∷ xs) (same_Some x node e)
drop_step (x ∷ xs) (suc k) node e = drop_step xs k node e

drop_past : (nodes : List Node) (k : ℕ) → length nodes ≤ k → drop k nodes ≡ []
drop_past [] zero l = refl
drop_past [] (suc k) l = refl
drop_past (x ∷ xs) zero l = absurd (omega (arith, l))
drop_past (x ∷ xs) (suc k) l = drop_past xs k (omega (arith, l))

-- ---- children

is_parent : (o : Option ℕ) (q : ℕ) → is_same_parent o (Some q) ≡ true → o ≡ Some q
is_parent None q e = absurd (false≢true e)
is_parent (Some p) q e = let same : p ≡ q = grind (arith, nat_tests) in ap Some same

own_parent : (q : ℕ) → is_same_parent (Some q) (Some q) ≡ true
own_parent q = grind (arith, nat_tests)

-- a node that is no child is passed over
skip_one : (k q : ℕ) (node : Node) (nodes : List Node) → (node.parent ≡ Some q → ⊥) → children_from k (Some q) (node ∷ nodes) ≡ children_from (suc k) (Some q) nodes
skip_one k q node nodes never = by_same (is_same_parent node.parent (Some q)) refl
  where
    by_same : (b : Bool) → is_same_parent node.parent (Some q) ≡ b → (if b then k ∷ children_from (suc k) (Some q) nodes else children_from (suc k) (Some q) nodes) ≡ children_from (suc k) (Some q) nodes
    by_same true e = absurd (never (is_parent node.parent q e))
    by_same false e = refl

take_one : (k q : ℕ) (node : Node) (nodes : List Node) → node.parent ≡ Some q → children_from k (Some q) (node ∷ nodes) ≡ k ∷ children_from (suc k) (Some q) nodes
take_one k q node nodes is =
    ap (λ b. if b then k ∷ children_from (suc k) (Some q) nodes else children_from (suc k) (Some q) nodes) (ap (λ o. is_same_parent o (Some q)) is ∙ own_parent q)

-- the children from a number on
abbrev Later : List Node → ℕ → ℕ → List ℕ
Later nodes k q = children_from k (Some q) (drop k nodes)

-- numbers without a child are passed over
skip : (nodes : List Node) (k q count end : ℕ) → end ≡ k + count
    → ((m : ℕ) (node : Node) → slice_get nodes m ≡ Some node → k ≤ m → m < end → node.parent ≡ Some q → ⊥) → Later nodes k q ≡ Later nodes end q
skip nodes k q zero end is never = let same : k ≡ end = omega (arith, is) in ap (λ j. Later nodes j q) same
skip nodes k q (suc count) end is never =
    step (slice_get_cases nodes k).1 (skip nodes (suc k) q count end (omega (arith, is)) (λ m node e l h. never m node e (omega (arith, l)) h))
  where
    step : ((n : Node) × (k < length nodes) × (slice_get nodes k ≡ Some n) × (get_or nodes k n ≡ n)) ⊎ ((length nodes ≤ k) × (slice_get nodes k ≡ None))
        → Later nodes (suc k) q ≡ Later nodes end q → Later nodes k q ≡ Later nodes end q
    step (inl h) rest =
        ap (children_from k (Some q)) (drop_step nodes k h.0 h.2) ∙ (skip_one k q h.0 (drop (suc k) nodes) (never k h.0 h.2 (omega arith) (omega (arith, is))) ∙ rest)
    step (inr h) rest =
        ap (children_from k (Some q)) (drop_past nodes k h.0) ∙ sym (ap (children_from end (Some q)) (drop_past nodes end (omega (arith, h.0, is))))

le_or_lt : (a b : ℕ) → (a ≤ b) ⊎ (b < a)
le_or_lt a b = by_test (nat_lt b a) refl
  where
    by_test : (t : Bool) → nat_lt b a ≡ t → (a ≤ b) ⊎ (b < a)
    by_test true e = inr (grind (arith, nat_tests))
    by_test false e = inl (grind (arith, nat_tests))

-- ---- what is inside an element

module _ (w : Written) (page : IsPage w.nodes) where
  parent_before : (m p : ℕ) (node : Node) → slice_get w.nodes m ≡ Some node → node.parent ≡ Some p → p < m
  parent_before m p node e is =
      let fits : parent_fits w.nodes m (Some p) ≡ true = subst (λ o. parent_fits w.nodes m o ≡ true) is (page.parents m node e) in
      let l : nat_lt p m ≡ true = (and_parts (nat_lt p m) (is_element_at w.nodes p) fits).0 in
      grind (arith, nat_tests)

  parent_is : (m : ℕ) (node : Node) → slice_get w.nodes m ≡ Some node → slice_get (map (λ (n : Node). n.parent) w.nodes) m ≡ Some node.parent
  parent_is m node e = slice_get-map (λ (n : Node). n.parent) w.nodes m ∙ ap (option_map (λ (n : Node). n.parent)) e

  -- between an element and its child all is inside it
  between : (q m child : ℕ) (node other : Node) → slice_get w.nodes m ≡ Some node → slice_get w.nodes child ≡ Some other → other.parent ≡ Some q → q < m → m < child → is_from q node.parent ≡ true
  between q m child node other e f is l h =
      page.in_order q m child node.parent (parent_is child other f ∙ ap Some is) (parent_is m node e) l h

  -- the children of an element from one that isn't inside it on are none
  none_later : (q k : ℕ) → q < k → ((node : Node) → slice_get w.nodes k ≡ Some node → is_from q node.parent ≡ false) → Later w.nodes k q ≡ []
  none_later q k l outside =
      skip w.nodes k q (length w.nodes) (k + length w.nodes) refl
      (λ m node e h g is. by_place m node e is (eq-or-lt_of_le h))
      ∙ ap (children_from (k + length w.nodes) (Some q)) (drop_past w.nodes (k + length w.nodes) (omega arith))
    where
      by_place : (m : ℕ) (node : Node) → slice_get w.nodes m ≡ Some node → node.parent ≡ Some q → (k ≡ m) ⊎ (k < m) → ⊥
      by_place m node e is (inl same) =
          false≢true (sym (outside node (subst (λ j. slice_get w.nodes j ≡ Some node) (sym same) e)) ∙ (ap (is_from q) is ∙ grind (arith, nat_tests)))
      by_place m node e is (inr h) =
          let own = slice_some w.nodes k (omega (arith, h, slice_get_within w.nodes m node e)) in
          false≢true (sym (outside own.0 own.1) ∙ between q k m own.0 node own.1 e is l h)

  -- the numbers of what is inside an element, from a number on
  record Covers (q k : ℕ) (numbers : List ℕ) : Type 0 where
    end : ℕ
    past : k ≤ end
    most : end ≤ length w.nodes
    are : Counts k numbers end
    inside : (m : ℕ) (node : Node) → slice_get w.nodes m ≡ Some node → k ≤ m → m < end → is_from q node.parent ≡ true
    outside : (node : Node) → slice_get w.nodes end ≡ Some node → is_from q node.parent ≡ false

  -- a node there that is inside an element is a child of it
  abbrev IsBoundary : ℕ → ℕ → Type 0
  IsBoundary q k = (node : Node) → slice_get w.nodes k ≡ Some node → is_from q node.parent ≡ true → node.parent ≡ Some q

  -- where no child is left, nothing is
  covers_none : (q k : ℕ) → k ≤ length w.nodes → IsBoundary q k → [] ≡ Later w.nodes k q → Covers q k []
  covers_none q k l boundary none = record {
    end = k;
    past = omega arith;
    most = l;
    are = refl;
    inside = λ m node e h g. absurd (omega (arith, h, g));
    outside = λ node e. by_inside node e (is_from q node.parent) refl;
  }
    where
      by_inside : (node : Node) → slice_get w.nodes k ≡ Some node → (b : Bool) → is_from q node.parent ≡ b → b ≡ false
      by_inside node e false is = refl
      by_inside node e true is =
          absurd (no_cons (none ∙ (ap (children_from k (Some q)) (drop_step w.nodes k node e) ∙ take_one k q node (drop (suc k) w.nodes) (boundary node e is))))

  -- the first child that is left stands there
  record IsNext (q k n : ℕ) (rest : List ℕ) : Type 0 where
    same : n ≡ k
    within : k < length w.nodes
    parent : (node : Node) → slice_get w.nodes k ≡ Some node → node.parent ≡ Some q
    others : rest ≡ Later w.nodes (suc k) q

  next : (q k n : ℕ) (rest : List ℕ) → q < k → IsBoundary q k → n ∷ rest ≡ Later w.nodes k q → IsNext q k n rest
  next q k n rest l boundary e = by_place (slice_get_cases w.nodes k).1
    where
      by_inside : (node : Node) → k < length w.nodes → slice_get w.nodes k ≡ Some node → (b : Bool) → is_from q node.parent ≡ b → IsNext q k n rest
      by_inside node h is false outside =
          absurd (no_cons (sym (e ∙ none_later q k l (λ other f. ap (λ (x : Node). is_from q x.parent) (same_Some other node (sym f ∙ is)) ∙ outside))))
      by_inside node h is true inside =
          let all : n ∷ rest ≡ k ∷ Later w.nodes (suc k) q = e ∙ (ap (children_from k (Some q)) (drop_step w.nodes k node is) ∙ take_one k q node (drop (suc k) w.nodes) (boundary node is inside)) in
          record {
            same = same_head all;
            within = h;
            parent = λ other f. ap (λ (x : Node). x.parent) (same_Some other node (sym f ∙ is)) ∙ boundary node is inside;
            others = same_tail all;
          }

      by_place : ((m : Node) × (k < length w.nodes) × (slice_get w.nodes k ≡ Some m) × (get_or w.nodes k m ≡ m)) ⊎ ((length w.nodes ≤ k) × (slice_get w.nodes k ≡ None)) → IsNext q k n rest
      by_place (inl h) = by_inside h.0 h.1 h.2 (is_from q h.0.parent) refl
      by_place (inr h) = absurd (no_cons (sym (e ∙ ap (children_from k (Some q)) (drop_past w.nodes k h.0))))

  -- the node behind an element is a child of it, where it is inside it
  inner_boundary : (n : ℕ) → IsBoundary n (suc n)
  inner_boundary n other f inside = by_parent other.parent refl inside
    where
      by_parent : (o : Option ℕ) → other.parent ≡ o → is_from n o ≡ true → o ≡ Some n
      by_parent None g i = absurd (false≢true i)
      by_parent (Some p) g i =
          let before = parent_before (suc n) p other f g in
          let same : p ≡ n = grind (arith, nat_tests) in
          ap Some same

  -- all children of an element stand behind it
  all_later : (n : ℕ) → children w.nodes (Some n) ≡ Later w.nodes (suc n) n
  all_later n = skip w.nodes 0 n (suc n) (suc n) (omega arith) (λ m node e l h is. (let before = parent_before m n node e is in omega (arith, h, before)))

  -- a node behind all that is inside a child is a child, where it is inside the element
  outer_boundary : (q n end : ℕ) (node : Node) → slice_get w.nodes n ≡ Some node → node.parent ≡ Some q → n < end
      → ((other : Node) → slice_get w.nodes end ≡ Some other → is_from n other.parent ≡ false) → IsBoundary q end
  outer_boundary q n end node own mine l outside other f inside = by_parent other.parent refl inside (outside other f)
    where
      by_order : (r : ℕ) → other.parent ≡ Some r → (q ≡ r) ⊎ (q < r) → r < n → Some r ≡ Some q
      by_order r g (inl same) before = ap Some (sym same)
      by_order r g (inr later) before =
          let inner : is_from r (Some q) ≡ true = subst (λ o. is_from r o ≡ true) mine (between r n end node other own f g before l) in
          let past : r ≤ q = grind (arith, nat_tests) in
          absurd (omega (arith, past, later))

      by_parent : (o : Option ℕ) → other.parent ≡ o → is_from q o ≡ true → is_from n o ≡ false → o ≡ Some q
      by_parent None g i h = absurd (false≢true i)
      by_parent (Some r) g i h =
          let from : q ≤ r = grind (arith, nat_tests) in
          let before : r < n = grind (arith, nat_tests) in
          by_order r g (eq-or-lt_of_le from) before

  -- what is inside a child is no child
  skip_inside : (q n end : ℕ) → q < n → suc n ≤ end
      → ((m : ℕ) (node : Node) → slice_get w.nodes m ≡ Some node → suc n ≤ m → m < end → is_from n node.parent ≡ true) → Later w.nodes (suc n) q ≡ Later w.nodes end q
  skip_inside q n end l h inside =
      skip w.nodes (suc n) q (end - suc n) end (omega (arith, h))
      (λ m node e g i is.
      (let from : is_from n (Some q) ≡ true = subst (λ o. is_from n o ≡ true) is (inside m node e g i) in
      let past : n ≤ q = grind (arith, nat_tests) in
      omega (arith, past, l)))

  weaker : (q n : ℕ) (o : Option ℕ) → q < n → is_from n o ≡ true → is_from q o ≡ true
  weaker q n None l e = absurd (false≢true e)
  weaker q n (Some r) l e = grind (arith, nat_tests)

  -- what is inside an element: its first child, what is inside that, and all behind it
  all_inside : (q n middle end m : ℕ) (node other : Node) → q < n → slice_get w.nodes n ≡ Some node → node.parent ≡ Some q
      → ((j : ℕ) (x : Node) → slice_get w.nodes j ≡ Some x → suc n ≤ j → j < middle → is_from n x.parent ≡ true)
      → ((j : ℕ) (x : Node) → slice_get w.nodes j ≡ Some x → middle ≤ j → j < end → is_from q x.parent ≡ true)
      → slice_get w.nodes m ≡ Some other → n ≤ m → m < end → is_from q other.parent ≡ true
  all_inside q n middle end m node other l own mine inner outer f g h = by_first (eq-or-lt_of_le g)
    where
      by_middle : n < m → (middle ≤ m) ⊎ (m < middle) → is_from q other.parent ≡ true
      by_middle i (inl past) = outer m other f past h
      by_middle i (inr before) = weaker q n other.parent l (inner m other f i before)

      by_first : (n ≡ m) ⊎ (n < m) → is_from q other.parent ≡ true
      by_first (inl same) =
          let it : other ≡ node = same_Some other node (sym f ∙ subst (λ j. slice_get w.nodes j ≡ Some node) same own) in
          ap (λ (x : Node). is_from q x.parent) it ∙ (ap (is_from q) mine ∙ grind (arith, nat_tests))
      by_first (inr i) = by_middle i (le_or_lt middle m)

  -- what the children of an element from a number on become has all in it from there on, in order
  covered : {ns : List ℕ} {at : ℕ} {parent : Option ℕ} {all : List GrownNode} (q k : ℕ) → Grow w ns at parent all → q < k → k ≤ length w.nodes → IsBoundary q k
      → ns ≡ Later w.nodes k q → Covers q k (froms all)
  covered q k Grow.nothing l h boundary e = covers_none q k h boundary e
  covered q k (Grow.grown {n = n} {at = at} {parent = parent} {rest = rest} {node = node} {first = first} {inside = inside} {last = last} {others = others} is is_first inner is_last later) l h boundary e =
      let there = next q k n rest l boundary e in
      let own : slice_get w.nodes k ≡ Some node = subst (λ j. slice_get w.nodes j ≡ Some node) there.same is in
      let mine : node.parent ≡ Some q = there.parent node own in
      let past : q < n = omega (arith, l, there.same) in
      let below = covered n (suc n) inner (omega arith) (omega (arith, there.same, there.within)) (inner_boundary n) (all_later n) in
      let behind = covered q below.end later (omega (arith, below.past, past)) below.most
      (outer_boundary q n below.end node is mine below.past below.outside)
      (there.others ∙ (ap (λ j. Later w.nodes (suc j) q) (sym there.same) ∙ skip_inside q n below.end past below.past below.inside)) in
      subst (Covers q k) (sym (froms_of w n (suc at) at parent node (winners_at w.before n) (winners_at w.after n) first inside last others (suc at + length first + length inside) is_first is_last)) (record {
        end = behind.end;
        past = omega (arith, behind.past, below.past, there.same);
        most = behind.most;
        are = (there.same, counts-append (suc k) (froms inside) (froms others) below.end behind.end (subst (λ j. Counts (suc j) (froms inside) below.end) there.same below.are) behind.are);
        inside = λ m other f g i. all_inside q n below.end behind.end m node other past is mine below.inside behind.inside f (omega (arith, g, there.same)) i;
        outside = behind.outside;
      })

  -- the root is the one node without a parent
  roots : (k : ℕ) (nodes : List Node) → ((m : ℕ) (node : Node) → slice_get nodes m ≡ Some node → node.parent ≡ None → ⊥) → children_from k None nodes ≡ []
  roots k [] never = refl
  roots k (x ∷ xs) never = by_parent x.parent refl (roots (suc k) xs (λ m node e is. never (suc m) node e is))
    where
      by_parent : (o : Option ℕ) → x.parent ≡ o → children_from (suc k) None xs ≡ [] → (if is_same_parent o None then k ∷ children_from (suc k) None xs else children_from (suc k) None xs) ≡ []
      by_parent None e rest = absurd (never 0 x refl e)
      by_parent (Some p) e rest = rest

  root_only : children w.nodes None ≡ 0 ∷ []
  root_only = by_nodes w.nodes page.root page.parents
    where
      by_first : (x : Node) (xs : List Node) (o : Option ℕ) → parent_fits (x ∷ xs) 0 o ≡ true → children_from 1 None xs ≡ []
          → (if is_same_parent o None then 0 ∷ children_from 1 None xs else children_from 1 None xs) ≡ 0 ∷ []
      by_first x xs None fits rest = ap (λ ns. 0 ∷ ns) rest
      by_first x xs (Some p) fits rest =
          let l : nat_lt p 0 ≡ true = (and_parts (nat_lt p 0) (is_element_at (x ∷ xs) p) fits).0 in
          let below : p < 0 = grind (arith, nat_tests) in
          absurd (omega (arith, below))

      by_nodes : (nodes : List Node) → IsTrue (is_element_at nodes 0) → ((m : ℕ) (n : Node) → slice_get nodes m ≡ Some n → IsTrue (parent_fits nodes m n.parent)) → children_from 0 None nodes ≡ 0 ∷ []
      by_nodes [] root parents = absurd (false≢true root)
      by_nodes (x ∷ xs) root parents =
          by_first x xs x.parent (parents 0 x refl)
          (roots 1 xs (λ m node e is. (let fits : parent_fits (x ∷ xs) (suc m) None ≡ true = subst (λ o. parent_fits (x ∷ xs) (suc m) o ≡ true) is (parents (suc m) node e) in
          (let first : suc m ≡ 0 = grind (arith, nat_tests) in omega (arith, first)))))

  none_grown : {ns : List ℕ} {at : ℕ} {parent : Option ℕ} {all : List GrownNode} → Grow w ns at parent all → ns ≡ [] → all ≡ []
  none_grown Grow.nothing e = refl
  none_grown (Grow.grown is is_first inner is_last later) e = absurd (no_cons (sym e))

  -- the nodes that are written stand on the grown page in their order, each once
  pub in_order : {ns : List ℕ} {at : ℕ} {parent : Option ℕ} {all : List GrownNode} → Grow w ns at parent all → ns ≡ 0 ∷ [] → Counts 0 (froms all) (length w.nodes)
  in_order Grow.nothing e = absurd (no_cons e)
  in_order (Grow.grown {n = n} {at = at} {parent = parent} {rest = rest} {node = node} {first = first} {inside = inside} {last = last} {others = others} is is_first inner is_last later) e =
      let root : n ≡ 0 = same_head e in
      let below = covered n (suc n) inner (omega arith) (slice_get_within w.nodes n node is) (inner_boundary n) (all_later n) in
      let end : below.end ≡ length w.nodes = whole below.end root below.past below.most below.outside (slice_get_cases w.nodes below.end).1 in
      subst (λ ns. Counts 0 ns (length w.nodes)) (sym (froms_of w n (suc at) at parent node (winners_at w.before n) (winners_at w.after n) first inside last others (suc at + length first + length inside) is_first is_last)) (
        root,
        subst (λ xs. Counts 1 (froms inside ++ froms xs) (length w.nodes)) (sym (none_grown later (same_tail e)))
            (counts-append 1 (froms inside) [] below.end (length w.nodes) (subst (λ j. Counts (suc j) (froms inside) below.end) root below.are) end),
      )
    where
      whole : (end : ℕ) → n ≡ 0 → suc n ≤ end → end ≤ length w.nodes → ((other : Node) → slice_get w.nodes end ≡ Some other → is_from n other.parent ≡ false)
          → ((m : Node) × (end < length w.nodes) × (slice_get w.nodes end ≡ Some m) × (get_or w.nodes end m ≡ m)) ⊎ ((length w.nodes ≤ end) × (slice_get w.nodes end ≡ None)) → end ≡ length w.nodes
      whole end root past most outside (inr h) = omega (arith, most, h.0)
      whole end root past most outside (inl h) = absurd (by_parent h.0.parent refl (outside h.0 h.2))
        where
          by_parent : (o : Option ℕ) → h.0.parent ≡ o → is_from n o ≡ false → ⊥
          by_parent None g i =
              let fits : parent_fits w.nodes end None ≡ true = subst (λ o. parent_fits w.nodes end o ≡ true) g (page.parents end h.0 h.2) in
              let first : end ≡ 0 = grind (arith, nat_tests) in
              omega (arith, first, past)
          by_parent (Some p) g i = grind (arith, nat_tests)

-- ---- characters

abbrev own_letters : Node → ℕ
own_letters node = length (chars (text_of node.body))

abbrev letters_of : List GrownNode → ℕ
letters_of all = sum_by (λ (g : GrownNode). length (chars (text_of g.body))) all

no_letters : length (chars []) ≡ 0
no_letters = ap length chars-nil

text_letters : (at : ℕ) (text : List ℕ) → letters_of (text_nodes at text) ≡ length (chars text)
text_letters at [] = sym no_letters
text_letters at (c ∷ text) = omega arith

content_letters : (which : Pseudo) (at parent : ℕ) (winners : List Setting) (o : Option (List ℕ)) → letters_of (pseudo_nodes which at parent winners o) ≡ count o
content_letters which at parent winners None = refl
content_letters which at parent winners (Some text) =
    let element = pseudo_element which parent winners in
    let sums = sum_by-cons (λ (g : GrownNode). length (chars (text_of g.body))) element (text_nodes at text) in
    let rest = text_letters at text in
    omega (arith, sums, no_letters, rest)

module _ (w : Written) where
  -- the characters of a node and of the content that is generated at it
  abbrev weight : ℕ → ℕ
  weight n = option_map_or (λ (node : Node). length (chars (text_of node.body)) + made_at w n node.body) (slice_get w.nodes n) 0

  abbrev weights : List ℕ → ℕ
  weights = sum_by weight

  grown_letters : {ns : List ℕ} {at : ℕ} {parent : Option ℕ} {all : List GrownNode} → Grow w ns at parent all → letters_of all ≡ weights (froms all)
  grown_letters Grow.nothing = refl
  grown_letters (Grow.grown {n = n} {at = at} {parent = parent} {rest = rest} {node = node} {first = first} {inside = inside} {last = last} {others = others} is is_first inner is_last later) =
      let from = ap weights (froms_of w n (suc at) at parent node (winners_at w.before n) (winners_at w.after n) first inside last others (suc at + length first + length inside) is_first is_last) in
      let own : weight n ≡ length (chars (text_of node.body)) + made_at w n node.body =
      ap (λ o. option_map_or (λ (x : Node). length (chars (text_of x.body)) + made_at w n x.body) o 0) is in
      let before = ap letters_of is_first ∙ content_letters Before (suc at) at (winners_at w.before n) (generated node.body (winners_at w.before n)) in
      let after = ap letters_of is_last ∙ content_letters After (suc at + length first + length inside) at (winners_at w.after n) (generated node.body (winners_at w.after n)) in
      let a = sum_by-append (λ (g : GrownNode). length (chars (text_of g.body))) first (inside ++ (last ++ others)) in
      let b = sum_by-append (λ (g : GrownNode). length (chars (text_of g.body))) inside (last ++ others) in
      let c = sum_by-append (λ (g : GrownNode). length (chars (text_of g.body))) last others in
      let d = sum_by-append weight (froms inside) (froms others) in
      let whole = sum_by-cons (λ (g : GrownNode). length (chars (text_of g.body))) (own_node w n parent node) (first ++ (inside ++ (last ++ others))) in
      let numbers = sum_by-cons weight n (froms inside ++ froms others) in
      let e = grown_letters inner in
      let f = grown_letters later in
      omega (arith, from, own, before, after, a, b, c, d, e, f, whole, numbers)

  counts_up : (k : ℕ) (ns : List ℕ) (end : ℕ) → Counts k ns end → k ≤ end
  counts_up k [] end h = omega (arith, h)
  counts_up k (n ∷ ns) end h = let up = counts_up (suc k) ns end h.1 in omega (arith, up)

  -- each node once
  all_weights : (k : ℕ) (ns : List ℕ) → Counts k ns (length w.nodes)
      → weights ns ≡ sum_by own_letters (drop k w.nodes) + made_from w k (drop k w.nodes)
  all_weights k [] h =
      let none = drop_past w.nodes k (omega (arith, h)) in
      let sums = ap (λ (xs : List Node). sum_by own_letters xs + made_from w k xs) none in
      omega (arith, sums)
  all_weights k (n ∷ ns) h =
      let up = counts_up (suc k) ns (length w.nodes) h.1 in
      let own = slice_some w.nodes k (omega (arith, up)) in
      let first : weight n ≡ length (chars (text_of own.0.body)) + made_at w k own.0.body =
      ap weight h.0 ∙ ap (λ o. option_map_or (λ (x : Node). length (chars (text_of x.body)) + made_at w k x.body) o 0) own.1 in
      let front = sum_by-cons weight n ns in
      let later = drop (suc k) w.nodes in
      let letters : sum_by own_letters (drop k w.nodes) ≡ own_letters own.0 + sum_by own_letters later = ap (sum_by own_letters) (drop_step w.nodes k own.0 own.1) ∙ sum_by-cons own_letters own.0 later in
      let made : made_from w k (drop k w.nodes) ≡ made_at w k own.0.body + made_from w (suc k) later = ap (made_from w k) (drop_step w.nodes k own.0 own.1) in
      let rest = all_weights (suc k) ns h.1 in
      omega (arith, first, front, letters, made, rest)

-- a page with its generated content has at most 262,144 more characters
pub grown-characters : (w : Written) (nodes : List Node) (winners : List (List Setting)) (from : List (Option ℕ)) → IsPage w.nodes → IsGrown w nodes winners from → IsWithin w
    → sum_by (λ (n : Node). length (chars (text_of n.body))) nodes ≤ sum_by (λ (n : Node). length (chars (text_of n.body))) w.nodes + 262144
grown-characters w nodes winners from page g within =
    let order = in_order w page g.grow (root_only w page) in
    let own = all_weights w 0 (froms g.all) order in
    let sums = grown_letters w g.grow in
    let those = ap (sum_by (λ (n : Node). length (chars (text_of n.body)))) g.nodes_are ∙ sum-map (λ (n : Node). length (chars (text_of n.body))) node_of g.all in
    let whole : made_before w (length w.nodes) ≡ made_from w 0 w.nodes = ap (made_from w 0) (take-length w.nodes) in
    omega (arith, own, sums, those, whole, within)

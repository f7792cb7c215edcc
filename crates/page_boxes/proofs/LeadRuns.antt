-- The runs of the boxes in one element, from one box on.
use Rattle.std.proofs.Common.{◌≡◌, ◌≢◌, ℕ, ◌==◌, Bool, true, false, not, ◌&&◌, ◌||◌, List, [], ◌∷◌, ◌++◌, map, find, Option, Some, None, option_map, refl, sym, subst, ◌∙◌, ap, if◌then◌else◌, append_assoc, eq-eqb, filter, Contains, ⊎_elim}
use Rattle.std.proofs.lemmas.List.Elements.{Contains-append_cases}
use Rattle.std.proofs.lemmas.List.{append-nil}
use Rattle.std.proofs.Math.Bool.{or-true}
use Rattle.viz_base.proofs.Truths.{other_number}
use Rattle.viz_base.proofs.ListLemmas.{later_member}
use Rattle.layout_semantics.specs.Parts.{Part, Level}
use Rattle.layout_semantics.specs.BoxTrees.{first_of, has_node, is_floated_level, needs_box, nodes_of, runs_of, with_part}
use Rattle.layout_laws.proofs.Members.{no_member, first_member, only_member}
use Rattle.page_boxes.specs.steps.Leads.{is_ahead}

-- ---- runs behind what is already in one

abbrev pub at_level : {A : Type 0} → Level → A → A → A
at_level Level.block a b = a
at_level Level.floated a b = b
at_level Level.inline a b = b

abbrev pub runs_on : List Part → List Part → List (List Part)
runs_on done [] = done ∷ []
runs_on done (p ∷ ps) = at_level p.level (done ∷ runs_on [] ps) (runs_on (done ++ p ∷ []) ps)

abbrev joined_to : List Part → List (List Part) → List (List Part)
joined_to done [] = done ∷ []
joined_to done (run ∷ runs) = (done ++ run) ∷ runs

joined_none : (level : Level) (p : Part) (runs : List (List Part)) → joined_to [] (with_part level p runs) ≡ with_part level p runs
joined_none Level.block p runs = refl
joined_none Level.floated p [] = refl
joined_none Level.floated p (run ∷ runs) = refl
joined_none Level.inline p [] = refl
joined_none Level.inline p (run ∷ runs) = refl

whole_runs : (ps : List Part) → joined_to [] (runs_of ps) ≡ runs_of ps
whole_runs [] = refl
whole_runs (p ∷ ps) = joined_none p.level p (runs_of ps)

joined_on : (done : List Part) (ps : List Part) → joined_to done (runs_of ps) ≡ runs_on done ps
joined_on done [] = ap (λ r. r ∷ []) (append-nil done)
joined_on done (p ∷ ps) = by_level p.level (sym (whole_runs ps) ∙ joined_on [] ps) (joined_on (done ++ p ∷ []) ps)
  where
    one_more : (runs : List (List Part)) → joined_to done (with_part Level.inline p runs) ≡ joined_to (done ++ p ∷ []) runs
    one_more [] = refl
    one_more (run ∷ runs) = ap (λ r. r ∷ runs) (sym (append_assoc done (p ∷ []) run))

    one_float : (runs : List (List Part)) → joined_to done (with_part Level.floated p runs) ≡ joined_to (done ++ p ∷ []) runs
    one_float [] = refl
    one_float (run ∷ runs) = ap (λ r. r ∷ runs) (sym (append_assoc done (p ∷ []) run))

    by_level : (l : Level) → runs_of ps ≡ runs_on [] ps → joined_to (done ++ p ∷ []) (runs_of ps) ≡ runs_on (done ++ p ∷ []) ps
        → joined_to done (with_part l p (runs_of ps)) ≡ at_level l (done ∷ runs_on [] ps) (runs_on (done ++ p ∷ []) ps)
    by_level Level.block e f = ap (λ r. r ∷ runs_of ps) (append-nil done) ∙ ap (λ rs. done ∷ rs) e
    by_level Level.floated e f = one_float (runs_of ps) ∙ f
    by_level Level.inline e f = one_more (runs_of ps) ∙ f

pub runs_are : (ps : List Part) → runs_of ps ≡ runs_on [] ps
runs_are ps = sym (whole_runs ps) ∙ joined_on [] ps

-- ---- the first of them, and the others

abbrev pub front : List Part → List Part
front [] = []
front (p ∷ ps) = at_level p.level [] (p ∷ front ps)

abbrev pub behind : List Part → List (List Part)
behind [] = []
behind (p ∷ ps) = at_level p.level (runs_on [] ps) (behind ps)

pub first_run : (done ps : List Part) → runs_on done ps ≡ (done ++ front ps) ∷ behind ps
first_run done [] = ap (λ r. r ∷ []) (sym (append-nil done))
first_run done (p ∷ ps) = by_level p.level (first_run (done ++ p ∷ []) ps)
  where
    by_level : (l : Level) → runs_on (done ++ p ∷ []) ps ≡ ((done ++ p ∷ []) ++ front ps) ∷ behind ps
        → at_level l (done ∷ runs_on [] ps) (runs_on (done ++ p ∷ []) ps) ≡ (done ++ at_level l [] (p ∷ front ps)) ∷ at_level l (runs_on [] ps) (behind ps)
    by_level Level.block e = ap (λ r. r ∷ runs_on [] ps) (sym (append-nil done))
    by_level Level.floated e = e ∙ ap (λ r. r ∷ behind ps) (append_assoc done (p ∷ []) (front ps))
    by_level Level.inline e = e ∙ ap (λ r. r ∷ behind ps) (append_assoc done (p ∷ []) (front ps))

-- ---- whether a run gets a box

abbrev pub is_ahead_in : List Part → Bool
is_ahead_in [] = false
is_ahead_in (p ∷ ps) = is_ahead (is_ahead_in ps) p.level

pub ahead_is : (ps : List Part) → is_ahead_in ps ≡ needs_box (front ps)
ahead_is [] = refl
ahead_is (p ∷ ps) = ap (λ b. is_ahead b p.level) (ahead_is ps) ∙ by_level p.level refl
  where
    by_level : (l : Level) → p.level ≡ l → is_ahead (needs_box (front ps)) l ≡ needs_box (at_level l [] (p ∷ front ps))
    by_level Level.block e = refl
    by_level Level.floated e = ap (λ k. not (is_floated_level k) || needs_box (front ps)) (sym e)
    by_level Level.inline e = ap (λ k. not (is_floated_level k) || needs_box (front ps)) (sym e)

pub any_append : (xs ys : List Part) → needs_box (xs ++ ys) ≡ (needs_box xs || needs_box ys)
any_append [] ys = refl
any_append (x ∷ xs) ys = ap (λ b. not (is_floated_level x.level) || b) (any_append xs ys) ∙ or_assoc (not (is_floated_level x.level)) (needs_box xs) (needs_box ys)
  where
    or_assoc : (a b c : Bool) → (a || (b || c)) ≡ ((a || b) || c)
    or_assoc true b c = refl
    or_assoc false b c = refl

pub first_needs : (done ps : List Part) → needs_box (done ++ front ps) ≡ (needs_box done || is_ahead_in ps)
first_needs done ps = any_append done (front ps) ∙ ap (λ b. needs_box done || b) (sym (ahead_is ps))

-- ---- runs by a node

abbrev pub IsApart : ℕ → List Part → Type 0
IsApart n ps = (p : Part) → Contains ps p → p.node ≢ n

has_none : (n : ℕ) (ps : List Part) → IsApart n ps → has_node n (nodes_of ps) ≡ false
has_none n [] h = refl
has_none n (p ∷ ps) h = ap (λ t. t || has_node n (nodes_of ps)) (other_number p.node n (h p (first_member _ refl))) ∙ has_none n ps (λ q i. h q (later_member _ i))

abbrev pub found_in : ℕ → List (List Part) → Option (List ℕ)
found_in n runs = find (has_node n) (map nodes_of (filter needs_box runs))

pub found_skip : (n : ℕ) (run : List Part) (runs : List (List Part)) → IsApart n run → found_in n (run ∷ runs) ≡ found_in n runs
found_skip n run runs h = by_need (needs_box run)
  where
    by_need : (t : Bool) → find (has_node n) (map nodes_of (if t then run ∷ filter needs_box runs else filter needs_box runs)) ≡ found_in n runs
    by_need false = refl
    by_need true = ap (λ b. if b then Some (nodes_of run) else found_in n runs) (has_none n run h)

apart_append : (n : ℕ) (xs ys : List Part) → IsApart n xs → IsApart n ys → IsApart n (xs ++ ys)
apart_append n xs ys f g = λ p i. ⊎_elim (λ j. f p j) (λ j. g p j) (Contains-append_cases xs ys p i)

pub none_found : (n : ℕ) (done ps : List Part) → IsApart n done → IsApart n ps → found_in n (runs_on done ps) ≡ None
none_found n done [] f g = found_skip n done [] f
none_found n done (p ∷ ps) f g =
    by_level p.level (none_found n [] ps (λ q i. no_member i) (λ q i. g q (later_member _ i)))
    (none_found n (done ++ p ∷ []) ps (apart_append n done (p ∷ []) f (λ q i. one_apart q i)) (λ q i. g q (later_member _ i)))
  where
    one_apart : (q : Part) → Contains (p ∷ []) q → q.node ≢ n
    one_apart q i = subst (λ (r : Part). r.node ≢ n) (only_member p q i) (g p (first_member _ refl))

    by_level : (l : Level) → found_in n (runs_on [] ps) ≡ None → found_in n (runs_on (done ++ p ∷ []) ps) ≡ None → found_in n (at_level l (done ∷ runs_on [] ps) (runs_on (done ++ p ∷ []) ps)) ≡ None
    by_level Level.block a b = found_skip n done (runs_on [] ps) f ∙ a
    by_level Level.floated a b = b
    by_level Level.inline a b = b

-- what is behind the first run, too
pub none_behind : (n : ℕ) (ps : List Part) → IsApart n ps → found_in n (behind ps) ≡ None
none_behind n [] g = refl
none_behind n (p ∷ ps) g = by_level p.level (none_behind n ps (λ q i. g q (later_member _ i))) (none_found n [] ps (λ q i. no_member i) (λ q i. g q (later_member _ i)))
  where
    by_level : (l : Level) → found_in n (behind ps) ≡ None → found_in n (runs_on [] ps) ≡ None → found_in n (at_level l (runs_on [] ps) (behind ps)) ≡ None
    by_level Level.block a b = b
    by_level Level.floated a b = a
    by_level Level.inline a b = a

has_in : (done : List Part) (p : Part) (rest : List Part) → has_node p.node (nodes_of ((done ++ p ∷ []) ++ rest)) ≡ true
has_in [] p rest = ap (λ t. t || has_node p.node (nodes_of rest)) (eq-eqb p.node p.node refl)
has_in (d ∷ done) p rest = ap (λ b. (d.node == p.node) || b) (has_in done p rest) ∙ or-true (d.node == p.node)

-- the run of a box that is not a block: the one at whose end it stands
pub found_here : (done : List Part) (p : Part) (ps : List Part) → IsApart p.node ps
    → found_in p.node (runs_on (done ++ p ∷ []) ps) ≡ (if needs_box ((done ++ p ∷ []) ++ front ps) then Some (nodes_of ((done ++ p ∷ []) ++ front ps)) else None)
found_here done p ps g =
    ap (found_in p.node) (first_run (done ++ p ∷ []) ps) ∙ by_need (needs_box ((done ++ p ∷ []) ++ front ps))
  where
    by_need : (t : Bool) → find (has_node p.node) (map nodes_of (if t then ((done ++ p ∷ []) ++ front ps) ∷ filter needs_box (behind ps) else filter needs_box (behind ps))) ≡ (if t then Some (nodes_of ((done ++ p ∷ []) ++ front ps)) else None)
    by_need false = none_behind p.node ps g
    by_need true = ap (λ b. if b then Some (nodes_of ((done ++ p ∷ []) ++ front ps)) else found_in p.node (behind ps)) (has_in done p (front ps))

-- ---- the lead of a box

-- the first node of the anonymous block box in which the next box would stand
abbrev pub led_with : Bool → List Part → Bool → Option ℕ
led_with has_blocks [] ahead = None
led_with has_blocks (d ∷ ds) ahead = if has_blocks && (needs_box (d ∷ ds) || ahead) then Some d.node else None

abbrev pub lead_in : Bool → List Part → List Part → ℕ → Option ℕ
lead_in has_blocks done ps node = option_map first_of (if has_blocks then found_in node (runs_on done ps) else None)

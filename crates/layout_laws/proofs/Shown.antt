-- The parts of a page: which nodes have one, and that what they are in has one too.
use Rattle.std.proofs.Common.{◌≡◌, ℕ, zero, suc, ◌+◌, Bool, true, false, List, [], ◌∷◌, map, filter_map, Option, Some, None, option_map, slice_get, refl, sym, ◌∙◌, ap, subst, arith, if◌then◌else◌, add-one, Contains, ⊎_elim}
use Rattle.std.specs.List.{enumerate_from, cons_option}
use Rattle.viz_base.specs.declared.nodes.Node.{Node}
use Rattle.viz_base.specs.declared.styles.Style.{Style}
use Rattle.viz_base.proofs.ListLemmas.{rises_lower, later_member}
use Rattle.viz_base.specs.Orders.{Rises}
use Rattle.layout_semantics.specs.Elements.{is_shown}
use Rattle.layout_semantics.specs.Parts.{Part, part_of, shown_part, shown_parts}
use Rattle.layout_laws.proofs.Members.{no_member, first_member, first_or_later, by_member}

-- ---- lists

from_filter_map : {A B : Type 0} (h : A → Option B) (xs : List A) (y : B) → Contains (filter_map h xs) y → (x : A) × Contains xs x × (h x ≡ Some y)
from_filter_map h [] y i = no_member i
from_filter_map {A} h (x ∷ xs) y i = by_case (h x) refl i (λ j. from_filter_map h xs y j)
  where
    by_case : (o : Option _) → h x ≡ o → Contains (cons_option o (filter_map h xs)) y → (Contains (filter_map h xs) y → (z : A) × Contains xs z × (h z ≡ Some y)) → (z : A) × Contains (x ∷ xs) z × (h z ≡ Some y)
    by_case None e j again = let r = again j in (r.0, later_member _ r.1, r.2)
    by_case (Some b) e j again =
        ⊎_elim (λ s. (x, first_member _ refl, e ∙ ap Some s)) (λ k. let r = again k in (r.0, later_member _ r.1, r.2)) (first_or_later b (filter_map h xs) y j)

to_filter_map : {A B : Type 0} (h : A → Option B) (xs : List A) (x : A) (y : B) → Contains xs x → h x ≡ Some y → Contains (filter_map h xs) y
to_filter_map h [] x y i e = no_member i
to_filter_map h (z ∷ xs) x y i e =
    ⊎_elim
    (λ s. subst (λ o. Contains (cons_option o (filter_map h xs)) y) (sym (ap h s ∙ e)) (first_member _ refl))
    (λ j. by_case (h z) (to_filter_map h xs x y j e))
    (first_or_later z xs x i)
  where
    by_case : (o : Option _) → Contains (filter_map h xs) y → Contains (cons_option o (filter_map h xs)) y
    by_case None j = j
    by_case (Some b) j = later_member _ j

from_enumerate : {A : Type 0} (k : ℕ) (xs : List A) (e : ℕ × A) → Contains (enumerate_from k xs) e → (j : ℕ) × (e.0 ≡ k + j) × (slice_get xs j ≡ Some e.1)
from_enumerate k [] e i = no_member i
from_enumerate {A} k (x ∷ xs) e i =
    by_member (λ (d : ℕ × A). (j : ℕ) × (d.0 ≡ k + j) × (slice_get (x ∷ xs) j ≡ Some d.1)) (k, x) (enumerate_from (k + 1) xs) e i
    (0, omega arith, refl)
    (λ h. let r = from_enumerate (k + 1) xs e h in let p = r.1 in (suc r.0, omega (arith, p), r.2))

to_enumerate : {A : Type 0} (k j : ℕ) (xs : List A) (x : A) → slice_get xs j ≡ Some x → Contains (enumerate_from k xs) (k + j, x)
to_enumerate k j [] x e = absurd (cc)
to_enumerate k zero (y ∷ xs) x e =
    let same : y ≡ x = cc in
    let none : k ≡ k + 0 = omega arith in
    subst (λ n. Contains ((k, y) ∷ enumerate_from (k + 1) xs) (n, x)) none (subst (λ z. Contains ((k, y) ∷ enumerate_from (k + 1) xs) (k, z)) same (first_member _ refl))
to_enumerate k (suc j) (y ∷ xs) x e =
    let next : (k + 1) + j ≡ k + suc j = omega arith in
    later_member _ (subst (λ n. Contains (enumerate_from (k + 1) xs) (n, x)) next (to_enumerate (k + 1) j xs x e))

-- ---- parts of nodes

-- a part is that of a node that is shown
pub record IsShownPart (nodes : List Node) (styles : List Style) (p : Part) : Type 0 where
  pub entry : Node
  pub style : Style
  pub node_is : slice_get nodes p.node ≡ Some entry
  pub style_is : slice_get styles p.node ≡ Some style
  pub shown : is_shown nodes styles p.node ≡ true
  pub is : p ≡ part_of nodes styles p.node entry style

pub from_shown : (nodes : List Node) (styles : List Style) (p : Part) → Contains (shown_parts nodes styles) p → IsShownPart nodes styles p
from_shown nodes styles p i =
    let from = from_filter_map (shown_part nodes styles) (enumerate_from 0 nodes) p i in
    let there = from_enumerate 0 nodes from.0 from.1 in
    let same : from.0.0 ≡ there.0 = let e = there.1 in omega (arith, e) in
    by_shown from.0.0 from.0.1 (ap (slice_get nodes) same ∙ there.2) (is_shown nodes styles from.0.0) refl (slice_get styles from.0.0) refl from.2
  where
    by_shown : (at : ℕ) (n : Node) → slice_get nodes at ≡ Some n → (b : Bool) → is_shown nodes styles at ≡ b → (o : Option Style) → slice_get styles at ≡ o
        → (if b then option_map (part_of nodes styles at n) o else None) ≡ Some p → IsShownPart nodes styles p
    by_shown at n e false s o t h = absurd (cc)
    by_shown at n e true s None t h = absurd (cc)
    by_shown at n e true s (Some style) t h =
        let is : part_of nodes styles at n style ≡ p = cc in
        let node : at ≡ p.node = ap (λ (q : Part). q.node) is in
        record {
          entry = n;
          style = style;
          node_is = subst (λ k. slice_get nodes k ≡ Some n) node e;
          style_is = subst (λ k. slice_get styles k ≡ Some style) node t;
          shown = subst (λ k. is_shown nodes styles k ≡ true) node s;
          is = subst (λ k. p ≡ part_of nodes styles k n style) node (sym is);
        }

pub to_shown : (nodes : List Node) (styles : List Style) (at : ℕ) (n : Node) (s : Style) → slice_get nodes at ≡ Some n → slice_get styles at ≡ Some s → is_shown nodes styles at ≡ true → Contains (shown_parts nodes styles) (part_of nodes styles at n s)
to_shown nodes styles at n s e t h =
    let none : 0 + at ≡ at = omega arith in
    to_filter_map (shown_part nodes styles) (enumerate_from 0 nodes) (at, n) (part_of nodes styles at n s)
    (subst (λ k. Contains (enumerate_from 0 nodes) (k, n)) none (to_enumerate 0 at nodes n e))
    (ap (λ b. if b then option_map (part_of nodes styles at n) (slice_get styles at) else None) h ∙ ap (option_map (part_of nodes styles at n)) t)

-- their nodes ascend
shown_node : (nodes : List Node) (styles : List Style) (at : ℕ) (n : Node) (p : Part) → shown_part nodes styles (at, n) ≡ Some p → p.node ≡ at
shown_node nodes styles at n p e = by_shown (is_shown nodes styles at) (slice_get styles at) e
  where
    by_shown : (b : Bool) (o : Option Style) → (if b then option_map (part_of nodes styles at n) o else None) ≡ Some p → p.node ≡ at
    by_shown false o h = absurd (cc)
    by_shown true None h = absurd (cc)
    by_shown true (Some s) h = let is : part_of nodes styles at n s ≡ p = cc in ap (λ (q : Part). q.node) (sym is)

rises_shown : (nodes : List Node) (styles : List Style) (k : ℕ) (ns : List Node) → Rises k (map (λ (p : Part). p.node) (filter_map (shown_part nodes styles) (enumerate_from k ns)))
rises_shown nodes styles k [] = tt
rises_shown nodes styles k (n ∷ ns) = by_case (shown_part nodes styles (k, n)) refl (subst (λ m. Rises m (map (λ (p : Part). p.node) (filter_map (shown_part nodes styles) (enumerate_from (k + 1) ns)))) (add-one k) (rises_shown nodes styles (k + 1) ns))
  where
    by_case : (o : Option Part) → shown_part nodes styles (k, n) ≡ o → Rises (suc k) (map (λ (p : Part). p.node) (filter_map (shown_part nodes styles) (enumerate_from (k + 1) ns)))
        → Rises k (map (λ (p : Part). p.node) (cons_option o (filter_map (shown_part nodes styles) (enumerate_from (k + 1) ns))))
    by_case None e r = rises_lower k (suc k) (map (λ (p : Part). p.node) (filter_map (shown_part nodes styles) (enumerate_from (k + 1) ns))) (omega arith) r
    by_case (Some p) e r = let node = shown_node nodes styles k n p e in (omega (arith, node), subst (λ m. Rises (suc m) (map (λ (p : Part). p.node) (filter_map (shown_part nodes styles) (enumerate_from (k + 1) ns)))) (sym node) r)

pub shown_rise : (nodes : List Node) (styles : List Style) → Rises 0 (map (λ (p : Part). p.node) (shown_parts nodes styles))
shown_rise nodes styles = rises_shown nodes styles 0 nodes

-- The walk over boxes keeps the characters that the definition does.
use Rattle.std.proofs.Common.{◌≡◌, ◌≢◌, ℕ, suc, ◌==◌, ◌<◌, ◌≤◌, Bool, true, false, not, List, [], ◌∷◌, ◌++◌, map, flat_map, zip, length, get_or, set, Option, Some, None, refl, sym, ◌∙◌, ap, arith, if◌then◌else◌, append_assoc, eq-eqb, length-set, get_or-set_same, get_or-set_other, inl, inr, ◌⊎◌, filter, Contains}
use Rattle.std.proofs.lemmas.Bool.{cases_eq}
use Rattle.std.proofs.lemmas.Grind.{flat_map-append}
use Rattle.std.specs.Option.{option_map_or}
use Rattle.std.proofs.lemmas.List.{append-nil}
use Rattle.viz_base.specs.declared.trees.Kind.{Kind}
use Rattle.viz_base.specs.declared.trees.Kind.TheVariants as of_kind
use Rattle.viz_base.proofs.Truths.{other_number, same_number}
use Rattle.viz_base.proofs.ListLemmas.{rises_from, later_member}
use Rattle.viz_base.specs.Orders.{Rises}
use Rattle.layout_semantics.specs.Lists.{one_if}
use Rattle.layout_semantics.specs.Parts.{Part, Level}
use Rattle.layout_semantics.specs.WhiteSpace.{Thing, is_bare, is_in, is_white, keeps_white, stays, things_of, level_things, inline_things, things_in, letter_of, letters_of, collapsed}
use Rattle.layout_laws.proofs.Members.{first_member, map_same, to_map}
use Rattle.page_boxes.specs.steps.Spaces.{squeezed, squeezed_part, keeps_behind, keeps_behind_inline, keeps_behind_level, keeps_behind_part, spaces_walk}
use Rattle.page_boxes.specs.steps.Tables.{held, put}

-- ---- things one after another

-- what stays of things behind a thing
abbrev left_behind : Thing → List Thing → List Thing
left_behind b things = flat_map (λ (pair : Thing × Thing). stays pair.0 pair.1) (zip (b ∷ things) things)

abbrev last_of : Thing → List Thing → Thing
last_of b [] = b
last_of b (t ∷ ts) = last_of t ts

left_append : (b : Thing) (xs ys : List Thing) → left_behind b (xs ++ ys) ≡ left_behind b xs ++ left_behind (last_of b xs) ys
left_append b [] ys = refl
left_append b (x ∷ xs) ys = ap (λ l. stays b x ++ l) (left_append x xs ys) ∙ sym (append_assoc (stays b x) (left_behind x xs) (left_behind (last_of x xs) ys))

letters_append : (node : ℕ) (xs ys : List Thing) → letters_of node (xs ++ ys) ≡ letters_of node xs ++ letters_of node ys
letters_append node xs ys = flat_map-append (letter_of node) xs ys

letters_left : (node : ℕ) (b : Thing) (xs ys : List Thing) → letters_of node (left_behind b (xs ++ ys)) ≡ letters_of node (left_behind b xs) ++ letters_of node (left_behind (last_of b xs) ys)
letters_left node b xs ys = ap (letters_of node) (left_append b xs ys) ∙ letters_append node (left_behind b xs) (left_behind (last_of b xs) ys)

-- ---- the letters of a text

kept_letter : (node c : ℕ) (b : Thing) (rest : List ℕ) → letters_of node (stays b (Thing.letter node c)) ++ rest ≡ (if not (is_white c) then c ∷ [] else one_if (keeps_white b) 32) ++ rest
kept_letter node c b rest = by_white (is_white c) (keeps_white b)
  where
    by_white : (w k : Bool) → letters_of node (if not w then Thing.letter node c ∷ [] else (if k then Thing.letter node 32 ∷ [] else [])) ++ rest ≡ (if not w then c ∷ [] else one_if k 32) ++ rest
    by_white false k = ap (λ t. (one_if t c ++ []) ++ rest) (same_number node)
    by_white true true = ap (λ t. (one_if t 32 ++ []) ++ rest) (same_number node)
    by_white true false = refl

text_letters : (node : ℕ) (b : Thing) (cs : List ℕ) → letters_of node (left_behind b (map (Thing.letter node) cs)) ≡ squeezed (keeps_white b) cs
text_letters node b [] = refl
text_letters node b (c ∷ cs) =
    letters_append node (stays b (Thing.letter node c)) (left_behind (Thing.letter node c) (map (Thing.letter node) cs))
    ∙ (ap (λ l. letters_of node (stays b (Thing.letter node c)) ++ l) (text_letters node (Thing.letter node c) cs)
    ∙ kept_letter node c b (squeezed (not (is_white c)) cs))

text_last : (node : ℕ) (b : Thing) (cs : List ℕ) → keeps_white (last_of b (map (Thing.letter node) cs)) ≡ keeps_behind (keeps_white b) cs
text_last node b [] = refl
text_last node b (c ∷ cs) = text_last node (Thing.letter node c) cs

-- those of another node
other_letter : (node from c : ℕ) (b : Thing) → (from == node) ≡ false → letters_of node (stays b (Thing.letter from c)) ≡ []
other_letter node from c b e = by_white (is_white c) (keeps_white b)
  where
    by_white : (w k : Bool) → letters_of node (if not w then Thing.letter from c ∷ [] else (if k then Thing.letter from 32 ∷ [] else [])) ≡ []
    by_white false k = ap (λ t. one_if t c ++ []) e
    by_white true true = ap (λ t. one_if t 32 ++ []) e
    by_white true false = refl

other_text : (node from : ℕ) (b : Thing) (cs : List ℕ) → (from == node) ≡ false → letters_of node (left_behind b (map (Thing.letter from) cs)) ≡ []
other_text node from b [] e = refl
other_text node from b (c ∷ cs) e =
    letters_append node (stays b (Thing.letter from c)) (left_behind (Thing.letter from c) (map (Thing.letter from) cs))
    ∙ (ap (λ l. l ++ letters_of node (left_behind (Thing.letter from c) (map (Thing.letter from) cs))) (other_letter node from c b e)
    ∙ other_text node from (Thing.letter from c) cs e)

-- ---- the things of a box

other_inline : (node from : ℕ) (b : Thing) (kind : Kind) (cs : List ℕ) → (from == node) ≡ false → letters_of node (left_behind b (inline_things kind from cs)) ≡ []
other_inline node from b of_kind.Chars cs e = other_text node from b cs e
other_inline node from b of_kind.Break cs e = refl
other_inline node from b of_kind.Inline cs e = refl
other_inline node from b of_kind.Block cs e = refl
other_inline node from b of_kind.Anon cs e = refl
other_inline node from b of_kind.Float cs e = refl
other_inline node from b of_kind.Atomic cs e = refl
other_inline node from b of_kind.Replaced cs e = refl
other_inline node from b of_kind.Line cs e = refl

other_part : (node : ℕ) (b : Thing) (p : Part) → (p.node == node) ≡ false → letters_of node (left_behind b (things_of p)) ≡ []
other_part node b p e = by_level p.level
  where
    by_level : (l : Level) → letters_of node (left_behind b (level_things l p)) ≡ []
    by_level Level.block = refl
    by_level Level.floated = refl
    by_level Level.inline = other_inline node p.node b p.kind p.text e

inline_last : (node : ℕ) (b : Thing) (kind : Kind) (cs : List ℕ) → keeps_white (last_of b (inline_things kind node cs)) ≡ keeps_behind_inline (keeps_white b) kind cs
inline_last node b of_kind.Chars cs = text_last node b cs
inline_last node b of_kind.Break cs = refl
inline_last node b of_kind.Inline cs = refl
inline_last node b of_kind.Block cs = refl
inline_last node b of_kind.Anon cs = refl
inline_last node b of_kind.Float cs = refl
inline_last node b of_kind.Atomic cs = refl
inline_last node b of_kind.Replaced cs = refl
inline_last node b of_kind.Line cs = refl

part_last : (b : Thing) (p : Part) → keeps_white (last_of b (things_of p)) ≡ keeps_behind_part (keeps_white b) p
part_last b p = by_level p.level
  where
    by_level : (l : Level) → keeps_white (last_of b (level_things l p)) ≡ keeps_behind_level (keeps_white b) l p.kind p.text
    by_level Level.block = refl
    by_level Level.floated = refl
    by_level Level.inline = inline_last p.node b p.kind p.text

-- texts are inline-level, and other boxes have no text
abbrev pub HasText : Part → Type 0
HasText p = ((p.level ≡ Level.inline) × (p.kind ≡ of_kind.Chars)) ⊎ (p.text ≡ [])

no_text_inline : (node : ℕ) (b : Thing) (kind : Kind) → letters_of node (left_behind b (inline_things kind node [])) ≡ []
no_text_inline node b of_kind.Chars = refl
no_text_inline node b of_kind.Break = refl
no_text_inline node b of_kind.Inline = refl
no_text_inline node b of_kind.Block = refl
no_text_inline node b of_kind.Anon = refl
no_text_inline node b of_kind.Float = refl
no_text_inline node b of_kind.Atomic = refl
no_text_inline node b of_kind.Replaced = refl
no_text_inline node b of_kind.Line = refl

own_letters : (b : Thing) (p : Part) → HasText p → letters_of p.node (left_behind b (things_of p)) ≡ squeezed (keeps_white b) p.text
own_letters b p (inl h) =
    ap (λ l. letters_of p.node (left_behind b (level_things l p))) h.0
    ∙ (ap (λ k. letters_of p.node (left_behind b (inline_things k p.node p.text))) h.1 ∙ text_letters p.node b p.text)
own_letters b p (inr h) = by_level p.level ∙ ap (squeezed (keeps_white b)) (sym h)
  where
    by_level : (l : Level) → letters_of p.node (left_behind b (level_things l p)) ≡ []
    by_level Level.block = refl
    by_level Level.floated = refl
    by_level Level.inline = ap (λ cs. letters_of p.node (left_behind b (inline_things p.kind p.node cs))) h ∙ no_text_inline p.node b p.kind

-- ---- lists

abbrev node_of : Part → ℕ
node_of p = p.node

-- no letters of a node where it is none of the boxes
none_of : (node : ℕ) (b : Thing) (c : ℕ) (qs : List Part) → ((p : Part) → Contains qs p → (p.node == node) ≡ false) → letters_of node (left_behind b (things_in qs c)) ≡ []
none_of node b c [] h = refl
none_of node b c (q ∷ qs) h = by_test (is_in c q.container) (λ before. none_of node before c qs (λ p i. h p (later_member _ i)))
  where
    by_test : (t : Bool) → ((before : Thing) → letters_of node (left_behind before (things_in qs c)) ≡ []) → letters_of node (left_behind b (flat_map things_of (if t then q ∷ filter (λ (p : Part). is_in c p.container) qs else filter (λ (p : Part). is_in c p.container) qs))) ≡ []
    by_test false rest = rest b
    by_test true rest =
        letters_left node b (things_of q) (things_in qs c)
        ∙ (ap (λ l. l ++ letters_of node (left_behind (last_of b (things_of q)) (things_in qs c))) (other_part node b q (h q (first_member _ refl)))
        ∙ rest (last_of b (things_of q)))

-- ---- the walk

-- a box with what stays of its text, where this stands before it in each container
abbrev left_part : (ℕ → Thing) → List Part → Part → Part
left_part before qs p = record p {
  text = option_map_or (λ c. letters_of p.node (left_behind (before c) (things_in qs c))) p.container [];
}

abbrev moved : (ℕ → Thing) → Part → ℕ → Thing
moved before q c = if is_in c q.container then last_of (before c) (things_of q) else before c

pub record Fits (n : ℕ) (p : Part) : Type 0 where
  pub text : HasText p
  pub outside : p.container ≡ None → p.text ≡ []
  pub within : (c : ℕ) → p.container ≡ Some c → c < n

record TableIs (n : ℕ) (table : List Bool) (before : ℕ → Thing) : Type 0 where
  size : length table ≡ n
  each : (c : ℕ) → c < n → get_or table c false ≡ keeps_white (before c)

first_left : (n : ℕ) (table : List Bool) (before : ℕ → Thing) (q : Part) (qs : List Part) → TableIs n table before → Fits n q → ((p : Part) → Contains qs p → (p.node == q.node) ≡ false)
    → left_part before (q ∷ qs) q ≡ squeezed_part (held table q.container false) q
first_left n table before q qs is fits apart = ap (λ t. record q { text = t }) (by_container q.container refl)
  where
    by_container : (o : Option ℕ) → q.container ≡ o → option_map_or (λ c. letters_of q.node (left_behind (before c) (things_in (q ∷ qs) c))) o [] ≡ squeezed (held table o false) q.text
    by_container None e = ap (squeezed false) (sym (fits.outside e))
    by_container (Some c) e =
        let inside : is_in c q.container ≡ true = ap (is_in c) e ∙ same_number c in
        ap (λ t. letters_of q.node (left_behind (before c) (flat_map things_of (if t then q ∷ filter (λ (p : Part). is_in c p.container) qs else filter (λ (p : Part). is_in c p.container) qs)))) inside
        ∙ (letters_left q.node (before c) (things_of q) (things_in qs c)
        ∙ (ap (λ l. letters_of q.node (left_behind (before c) (things_of q)) ++ l) (none_of q.node (last_of (before c) (things_of q)) c qs apart)
        ∙ (append-nil (letters_of q.node (left_behind (before c) (things_of q)))
        ∙ (own_letters (before c) q fits.text
        ∙ ap (λ k. squeezed k q.text) (sym (is.each c (fits.within c e)))))))

later_left : (before : ℕ → Thing) (q : Part) (qs : List Part) (p : Part) → (q.node == p.node) ≡ false → left_part before (q ∷ qs) p ≡ left_part (moved before q) qs p
later_left before q qs p apart = ap (λ t. record p { text = t }) (by_container p.container)
  where
    by_test : (c : ℕ) (t : Bool) → letters_of p.node (left_behind (before c) (flat_map things_of (if t then q ∷ filter (λ (r : Part). is_in c r.container) qs else filter (λ (r : Part). is_in c r.container) qs)))
        ≡ letters_of p.node (left_behind (if t then last_of (before c) (things_of q) else before c) (things_in qs c))
    by_test c false = refl
    by_test c true =
        letters_left p.node (before c) (things_of q) (things_in qs c)
        ∙ ap (λ l. l ++ letters_of p.node (left_behind (last_of (before c) (things_of q)) (things_in qs c))) (other_part p.node (before c) q apart)

    by_container : (o : Option ℕ) → option_map_or (λ c. letters_of p.node (left_behind (before c) (things_in (q ∷ qs) c))) o [] ≡ option_map_or (λ c. letters_of p.node (left_behind (moved before q c) (things_in qs c))) o []
    by_container None = refl
    by_container (Some c) = by_test c (is_in c q.container)

table_moved : (n : ℕ) (table : List Bool) (before : ℕ → Thing) (q : Part) → TableIs n table before → Fits n q → TableIs n (put table q.container (keeps_behind_part (held table q.container false) q)) (moved before q)
table_moved n table before q is fits = by_container q.container refl
  where
    by_container : (o : Option ℕ) → q.container ≡ o → TableIs n (put table o (keeps_behind_part (held table o false) q)) (λ c. if is_in c o then last_of (before c) (things_of q) else before c)
    by_container None e = is
    by_container (Some a) e = record {
      size = length-set table a (keeps_behind_part (held table (Some a) false) q) ∙ is.size;
      each = λ c l. by_place c l (cases_eq c a);
    }
      where
        new : Bool
        new = keeps_behind_part (held table (Some a) false) q

        by_place : (c : ℕ) → c < n → (c ≡ a) ⊎ (c ≢ a) → get_or (set table a new) c false ≡ keeps_white (if is_in c (Some a) then last_of (before c) (things_of q) else before c)
        by_place c l (inl p) =
            let size = is.size in
            let here : a < length table = omega (arith, l, p, size) in
            ap (λ k. get_or (set table a new) k false) p
            ∙ (get_or-set_same table a new false here
            ∙ (ap (λ k. keeps_behind_part k q) (is.each a (omega (arith, l, p)))
            ∙ (sym (part_last (before a) q)
            ∙ (ap (λ k. keeps_white (last_of (before k) (things_of q))) (sym p)
            ∙ ap (λ t. keeps_white (if t then last_of (before c) (things_of q) else before c)) (sym (eq-eqb a c (sym p)))))))
        by_place c l (inr p) =
            get_or-set_other table a c new false p
            ∙ (is.each c l ∙ ap (λ t. keeps_white (if t then last_of (before c) (things_of q) else before c)) (sym (other_number a c (λ e. p (sym e)))))

kept : (b : Bool) (p : Part) (rest : List Part) → one_if b p ++ rest ≡ (if b then p ∷ rest else rest)
kept true p rest = refl
kept false p rest = refl

walk_is : (n low : ℕ) (table : List Bool) (before : ℕ → Thing) (qs : List Part) → TableIs n table before → Rises low (map node_of qs) → ((p : Part) → Contains qs p → Fits n p)
    → spaces_walk table qs ≡ filter (λ p. not (is_bare p)) (map (left_part before qs) qs)
walk_is n low table before [] is rises fits = refl
walk_is n low table before (q ∷ qs) is rises fits =
    let above : (p : Part) → Contains qs p → suc q.node ≤ p.node = λ p i. rises_from (suc q.node) (map node_of qs) p.node rises.1 (to_map node_of qs p i) in
    let first = first_left n table before q qs is (fits q (first_member _ refl)) (λ p i. other_number p.node q.node (λ e. let l = above p i in absurd (omega (arith, l, e)))) in
    let later = map_same (left_part before (q ∷ qs)) (left_part (moved before q) qs) qs (λ p i. later_left before q qs p (other_number q.node p.node (λ e. let l = above p i in absurd (omega (arith, l, e))))) in
    let rest = walk_is n (suc q.node) _ (moved before q) qs (table_moved n table before q is (fits q (first_member _ refl))) rises.1 (λ p i. fits p (later_member _ i)) in
    ap (λ (r : Part). one_if (not (is_bare r)) r ++ spaces_walk (put table q.container (keeps_behind_part (held table q.container false) q)) qs) (sym first)
    ∙ (kept (not (is_bare (left_part before (q ∷ qs) q))) (left_part before (q ∷ qs) q) _
    ∙ ap (λ l. if not (is_bare (left_part before (q ∷ qs) q)) then left_part before (q ∷ qs) q ∷ l else l) (rest ∙ ap (filter (λ p. not (is_bare p))) (sym later)))

pub spaces_walk_is : (n low : ℕ) (table : List Bool) (qs : List Part) → length table ≡ n → ((c : ℕ) → c < n → get_or table c false ≡ false) → Rises low (map (λ (p : Part). p.node) qs) → ((p : Part) → Contains qs p → Fits n p)
    → spaces_walk table qs ≡ collapsed qs
spaces_walk_is n low table qs size none rises fits = walk_is n low table (λ c. Thing.edge) qs (record { size = size; each = none }) rises fits

-- The walks over boxes find the anonymous block boxes that the definition does.
use Rattle.std.proofs.lemmas.List.{length-replicate, get_or-replicate}
use Rattle.std.proofs.Common.{replicate, ◌≡◌, ◌≢◌, ℕ, ◌+◌, ◌==◌, ◌<◌, ◌≤◌, suc, Bool, true, false, not, ◌&&◌, ◌||◌, List, [], ◌∷◌, ◌++◌, map, find, length, get_or, set, Option, Some, None, option_map, option_and_then, refl, sym, ◌∙◌, ap, arith, if◌then◌else◌, eq-eqb, eqb-true, length-set, get_or-set_same, get_or-set_other, inl, inr, ◌⊎◌, filter, Contains}
use Rattle.std.proofs.lemmas.List.Elements.{Contains-push_cases}
use Rattle.std.proofs.lemmas.Bool.{cases_eq}
use Rattle.std.specs.List.{list_any}
use Rattle.std.proofs.Math.Bool.{or-false}
use Rattle.viz_base.proofs.Truths.{other_number, same_number}
use Rattle.viz_base.proofs.ListLemmas.{rises_from, later_member}
use Rattle.viz_base.specs.Orders.{Rises}
use Rattle.layout_semantics.specs.Parts.{Part, Level}
use Rattle.layout_semantics.specs.WhiteSpace.{is_in}
use Rattle.layout_semantics.specs.BoxTrees.{first_of, has_node, is_block_part, is_floated_level, needs_box, nodes_of, parts_in, run_around, runs_of, wrapped_in}
use Rattle.layout_laws.proofs.Members.{from_filter, no_member, first_member, map_same, to_map}
use Rattle.page_boxes.specs.steps.Leads.{ahead_of, ahead_table, is_ahead, lead_of, leads_walk, with_blocks}
use Rattle.page_boxes.specs.steps.Tables.{held, put}
use Rattle.page_boxes.proofs.LeadRuns.{IsApart, any_append, at_level, first_needs, found_here, found_in, found_skip, front, is_ahead_in, lead_in, led_with, none_found, runs_are, runs_on}

-- ---- whether a run gets a box, with one more box in it

with_float : (b a : Bool) → ((b || (false || false)) || a) ≡ (b || a)
with_float true a = refl
with_float false a = refl

with_inline : (b a : Bool) → ((b || (true || false)) || a) ≡ (b || true)
with_inline true a = refl
with_inline false a = refl

needs_more : (done : List Part) (p : Part) (a : Bool) (l : Level) → p.level ≡ l → (l ≡ Level.block → ⊥) → (needs_box (done ++ p ∷ []) || a) ≡ (needs_box done || is_ahead a l)
needs_more done p a Level.block e f = absurd (f refl)
needs_more done p a Level.floated e f = ap (λ b. b || a) (any_append done (p ∷ [])) ∙ (ap (λ l. (needs_box done || (not (is_floated_level l) || false)) || a) e ∙ with_float (needs_box done) a)
needs_more done p a Level.inline e f = ap (λ b. b || a) (any_append done (p ∷ [])) ∙ (ap (λ l. (needs_box done || (not (is_floated_level l) || false)) || a) e ∙ with_inline (needs_box done) a)

-- ---- one box of an element, and the others behind it

-- an inline-level box or a float
abbrev open_lead : Option ℕ → Bool → Bool → ℕ → Option ℕ
open_lead (Some first) hb ahead node = Some first
open_lead None hb ahead node = if hb && ahead then Some node else None

open_here : (hb : Bool) (done : List Part) (p : Part) (rest : List Part) (t : Bool)
    → option_map first_of (if hb then (if needs_box done || t then Some (nodes_of ((done ++ p ∷ []) ++ rest)) else None) else None) ≡ open_lead (led_with hb done t) hb t p.node
open_here false [] p rest t = refl
open_here false (d ∷ ds) p rest t = refl
open_here true [] p rest true = refl
open_here true [] p rest false = refl
open_here true (d ∷ ds) p rest t = by_need (needs_box (d ∷ ds)) t
  where
    by_need : (b t : Bool) → option_map first_of (if b || t then Some (nodes_of (((d ∷ ds) ++ p ∷ []) ++ rest)) else None) ≡ open_lead (if b || t then Some d.node else None) true t p.node
    by_need true t = refl
    by_need false true = refl
    by_need false false = refl

open_next : (hb : Bool) (done : List Part) (p : Part) (a t : Bool) → (needs_box (done ++ p ∷ []) || a) ≡ (needs_box done || t) → led_with hb (done ++ p ∷ []) a ≡ open_lead (led_with hb done t) hb t p.node
open_next hb [] p a t e = ap (λ b. if hb && b then Some p.node else None) e
open_next hb (d ∷ ds) p a t e = ap (λ b. if hb && b then Some d.node else None) e ∙ by_need hb (needs_box (d ∷ ds)) t
  where
    by_need : (hb b t : Bool) → (if hb && (b || t) then Some d.node else None) ≡ open_lead (if hb && (b || t) then Some d.node else None) hb t p.node
    by_need false b t = refl
    by_need true true t = refl
    by_need true false true = refl
    by_need true false false = refl

not_block : Level.floated ≡ Level.block → ⊥
not_block e = cc

inline_block : Level.inline ≡ Level.block → ⊥
inline_block e = cc

-- its lead, by what comes before it in its run
lead_here : (hb : Bool) (done : List Part) (p : Part) (ps : List Part) → IsApart p.node ps → IsApart p.node done
    → lead_in hb done (p ∷ ps) p.node ≡ lead_of (led_with hb done (is_ahead_in (p ∷ ps))) hb (is_ahead_in (p ∷ ps)) p.level p.node
lead_here hb done p ps f g = by_level p.level refl
  where
    found_open : (l : Level) → p.level ≡ l → (l ≡ Level.block → ⊥) → option_map first_of (if hb then found_in p.node (runs_on (done ++ p ∷ []) ps) else None) ≡ open_lead (led_with hb done (is_ahead (is_ahead_in ps) l)) hb (is_ahead (is_ahead_in ps) l) p.node
    found_open l e h =
        ap (λ o. option_map first_of (if hb then o else None)) (found_here done p ps f)
        ∙ (ap (λ b. option_map first_of (if hb then (if b then Some (nodes_of ((done ++ p ∷ []) ++ front ps)) else None) else None))
        (first_needs (done ++ p ∷ []) ps ∙ needs_more done p (is_ahead_in ps) l e h)
        ∙ open_here hb done p (front ps) (is_ahead (is_ahead_in ps) l))

    block_none : (b : Bool) → option_map first_of (if b then found_in p.node (done ∷ runs_on [] ps) else None) ≡ None
    block_none false = refl
    block_none true = ap (option_map first_of) (found_skip p.node done (runs_on [] ps) g ∙ none_found p.node [] ps (λ q i. no_member i) f)

    by_level : (l : Level) → p.level ≡ l → option_map first_of (if hb then found_in p.node (at_level l (done ∷ runs_on [] ps) (runs_on (done ++ p ∷ []) ps)) else None)
        ≡ lead_of (led_with hb done (is_ahead (is_ahead_in ps) l)) hb (is_ahead (is_ahead_in ps) l) l p.node
    by_level Level.block e = block_none hb
    by_level Level.floated e = found_open Level.floated e not_block ∙ same_float (led_with hb done (is_ahead_in ps)) (is_ahead_in ps)
      where
        same_float : (o : Option ℕ) (a : Bool) → open_lead o hb a p.node ≡ lead_of o hb a Level.floated p.node
        same_float None a = refl
        same_float (Some k) a = refl
    by_level Level.inline e = found_open Level.inline e inline_block ∙ same_inline (led_with hb done true)
      where
        same_inline : (o : Option ℕ) → open_lead o hb true p.node ≡ lead_of o hb true Level.inline p.node
        same_inline None = refl
        same_inline (Some k) = refl

-- what the next box finds
led_next : (hb : Bool) (done : List Part) (p : Part) (ps : List Part)
    → led_with hb (at_level p.level [] (done ++ p ∷ [])) (is_ahead_in ps) ≡ lead_of (led_with hb done (is_ahead_in (p ∷ ps))) hb (is_ahead_in (p ∷ ps)) p.level p.node
led_next hb done p ps = by_level p.level refl
  where
    by_level : (l : Level) → p.level ≡ l → led_with hb (at_level l [] (done ++ p ∷ [])) (is_ahead_in ps) ≡ lead_of (led_with hb done (is_ahead (is_ahead_in ps) l)) hb (is_ahead (is_ahead_in ps) l) l p.node
    by_level Level.block e = refl
    by_level Level.floated e = open_next hb done p (is_ahead_in ps) (is_ahead_in ps) (needs_more done p (is_ahead_in ps) Level.floated e not_block) ∙ same_float (led_with hb done (is_ahead_in ps)) (is_ahead_in ps)
      where
        same_float : (o : Option ℕ) (a : Bool) → open_lead o hb a p.node ≡ lead_of o hb a Level.floated p.node
        same_float None a = refl
        same_float (Some k) a = refl
    by_level Level.inline e = open_next hb done p (is_ahead_in ps) true (needs_more done p (is_ahead_in ps) Level.inline e inline_block) ∙ same_inline (led_with hb done true)
      where
        same_inline : (o : Option ℕ) → open_lead o hb true p.node ≡ lead_of o hb true Level.inline p.node
        same_inline None = refl
        same_inline (Some k) = refl

-- a later box finds the same in what is left
lead_later : (hb : Bool) (done : List Part) (p : Part) (ps : List Part) (node : ℕ) → IsApart node done → lead_in hb done (p ∷ ps) node ≡ lead_in hb (at_level p.level [] (done ++ p ∷ [])) ps node
lead_later hb done p ps node f = by_level p.level hb
  where
    by_level : (l : Level) (b : Bool) → option_map first_of (if b then found_in node (at_level l (done ∷ runs_on [] ps) (runs_on (done ++ p ∷ []) ps)) else None)
        ≡ option_map first_of (if b then found_in node (runs_on (at_level l [] (done ++ p ∷ [])) ps) else None)
    by_level l false = refl
    by_level Level.block true = ap (option_map first_of) (found_skip node done (runs_on [] ps) f)
    by_level Level.floated true = refl
    by_level Level.inline true = refl

-- ---- tables

in_own : (q : ℕ) (o : Option ℕ) → o ≡ Some q → is_in q o ≡ true
in_own q o e = ap (is_in q) e ∙ same_number q

abbrev kids : Bool → Part → List Part → List Part
kids t p rest = if t then p ∷ rest else rest

held_put : {S : Type 0} (table : List S) (o : Option ℕ) (v d : S) (q : ℕ) → q < length table → get_or (put table o v) q d ≡ (if is_in q o then v else get_or table q d)
held_put table None v d q l = refl
held_put table (Some a) v d q l = by_place (cases_eq q a)
  where
    by_place : (q ≡ a) ⊎ (q ≢ a) → get_or (set table a v) q d ≡ (if a == q then v else get_or table q d)
    by_place (inl e) =
        ap (λ k. get_or (set table a v) k d) e
        ∙ (get_or-set_same table a v d (omega (arith, l, e))
        ∙ ap (λ t. if t then v else get_or table q d) (sym (eq-eqb a q (sym e))))
    by_place (inr ne) = get_or-set_other table a q v d ne ∙ ap (λ t. if t then v else get_or table q d) (sym (other_number a q (λ e. ne (sym e))))

pub length_put : {S : Type 0} (table : List S) (o : Option ℕ) (v : S) → length (put table o v) ≡ length table
length_put table None v = refl
length_put table (Some a) v = length-set table a v

-- ---- whether there is a box other than a float ahead

length_ahead : (table : List Bool) (ps : List Part) → length (ahead_table table ps) ≡ length table
length_ahead table [] = refl
length_ahead table (p ∷ ps) = length_put (ahead_table table ps) p.parent _ ∙ length_ahead table ps

pub table_ahead : (table : List Bool) (ps : List Part) (q : ℕ) → q < length table → get_or table q false ≡ false → get_or (ahead_table table ps) q false ≡ is_ahead_in (parts_in ps q)
table_ahead table [] q l none = none
table_ahead table (p ∷ ps) q l none =
    let size = length_ahead table ps in
    held_put (ahead_table table ps) p.parent (is_ahead (held (ahead_table table ps) p.parent false) p.level) false q (omega (arith, l, size))
    ∙ by_parent p.parent (table_ahead table ps q l none)
  where
    by_test : (a : ℕ) (t : Bool) → (a == q) ≡ t → get_or (ahead_table table ps) q false ≡ is_ahead_in (parts_in ps q)
        → (if t then is_ahead (get_or (ahead_table table ps) a false) p.level else get_or (ahead_table table ps) q false) ≡ is_ahead_in (kids t p (parts_in ps q))
    by_test a false e again = again
    by_test a true e again = ap (λ k. is_ahead (get_or (ahead_table table ps) k false) p.level) (eqb-true a q e) ∙ ap (λ b. is_ahead b p.level) again

    by_parent : (o : Option ℕ) → get_or (ahead_table table ps) q false ≡ is_ahead_in (parts_in ps q)
        → (if is_in q o then is_ahead (held (ahead_table table ps) o false) p.level else get_or (ahead_table table ps) q false) ≡ is_ahead_in (kids (is_in q o) p (parts_in ps q))
    by_parent None again = again
    by_parent (Some a) again = by_test a (a == q) refl again

-- ---- which elements have blocks

pub blocks_are : (table : List Bool) (ps : List Part) (q : ℕ) → q < length table → get_or (with_blocks table ps) q false ≡ (get_or table q false || list_any is_block_part (parts_in ps q))
blocks_are table [] q l = sym (or-false (get_or table q false))
blocks_are table (p ∷ ps) q l = by_block (is_block_part p) refl (blocks_are (put table p.parent true) ps q (let size = length_put table p.parent true in omega (arith, l, size))) (blocks_are table ps q l)
  where
    or_true : (b c : Bool) → (true || c) ≡ (b || (true || c))
    or_true true c = refl
    or_true false c = refl

    by_block : (b : Bool) → is_block_part p ≡ b → get_or (with_blocks (put table p.parent true) ps) q false ≡ (get_or (put table p.parent true) q false || list_any is_block_part (parts_in ps q))
        → get_or (with_blocks table ps) q false ≡ (get_or table q false || list_any is_block_part (parts_in ps q))
        → get_or (with_blocks (if b then put table p.parent true else table) ps) q false ≡ (get_or table q false || list_any is_block_part (kids (is_in q p.parent) p (parts_in ps q)))
    by_block true e put_is same =
        put_is ∙ (ap (λ b. b || list_any is_block_part (parts_in ps q)) (held_put table p.parent true false q l) ∙ in_blocks (is_in q p.parent))
      where
        in_blocks : (t : Bool) → ((if t then true else get_or table q false) || list_any is_block_part (parts_in ps q)) ≡ (get_or table q false || list_any is_block_part (kids t p (parts_in ps q)))
        in_blocks false = refl
        in_blocks true = or_true (get_or table q false) (list_any is_block_part (parts_in ps q)) ∙ ap (λ b. get_or table q false || (b || list_any is_block_part (parts_in ps q))) (sym e)
    by_block false e put_is same = same ∙ no_blocks (is_in q p.parent)
      where
        no_blocks : (t : Bool) → (get_or table q false || list_any is_block_part (parts_in ps q)) ≡ (get_or table q false || list_any is_block_part (kids t p (parts_in ps q)))
        no_blocks false = refl
        no_blocks true = ap (λ b. get_or table q false || (b || list_any is_block_part (parts_in ps q))) (sym e)

-- ---- the walk

module _ (hb : ℕ → Bool) (n : ℕ) where
  -- the lead of a box, by what comes before each element's next box in its run
  lead_from : (ℕ → List Part) → List Part → Part → Option ℕ
  lead_from done qs p = option_and_then (λ q. lead_in (hb q) (done q) (parts_in qs q) p.node) p.parent

  moved : (ℕ → List Part) → Part → ℕ → List Part
  moved done p q = if is_in q p.parent then at_level p.level [] (done q ++ p ∷ []) else done q

  record IsState (low : ℕ) (led : List (Option ℕ)) (done : ℕ → List Part) (qs : List Part) : Type 0 where
    size : length led ≡ n
    each : (q : ℕ) → q < n → get_or led q None ≡ led_with (hb q) (done q) (is_ahead_in (parts_in qs q))
    below : (q : ℕ) (x : Part) → Contains (done q) x → x.node < low

  record Fits (p : Part) : Type 0 where
    pub within : (q : ℕ) → p.parent ≡ Some q → q < n
    pub root : p.parent ≡ None → p.level ≡ Level.block

  -- the boxes directly in an element, with one more box in front
  kids_in : (p : Part) (qs : List Part) (q : ℕ) → p.parent ≡ Some q → parts_in (p ∷ qs) q ≡ p ∷ parts_in qs q
  kids_in p qs q e = ap (λ t. if t then p ∷ parts_in qs q else parts_in qs q) (in_own q p.parent e)

  head_is : (low : ℕ) (led : List (Option ℕ)) (blocks : List Bool) (done : ℕ → List Part) (p : Part) (qs : List Part) (a : Bool) → IsState low led done (p ∷ qs) → Fits p
      → ((q : ℕ) → q < n → get_or blocks q false ≡ hb q) → ((q : ℕ) → p.parent ≡ Some q → a ≡ is_ahead_in (p ∷ parts_in qs q))
      → low ≤ p.node → ((x : Part) → Contains qs x → p.node < x.node)
      → lead_of (held led p.parent None) (held blocks p.parent false) a p.level p.node ≡ lead_from done (p ∷ qs) p
  unfolding lead_from
  head_is low led blocks done p qs a state fits blocked aheads l above = by_parent p.parent refl
    where
      none_block : (lv : Level) → lv ≡ Level.block → (o : Option ℕ) (b c : Bool) → lead_of o b c lv p.node ≡ None
      none_block Level.block e o b c = refl
      none_block Level.floated e o b c = absurd (not_block e)
      none_block Level.inline e o b c = absurd (inline_block e)

      apart_done : (q : ℕ) → IsApart p.node (done q)
      apart_done q x i e = let lower = state.below q x i in absurd (omega (arith, lower, l, e))

      apart_kids : (q : ℕ) → IsApart p.node (parts_in qs q)
      apart_kids q x i e = let higher = above x (from_filter (λ (r : Part). is_in q r.parent) qs x i).0 in absurd (omega (arith, higher, e))

      by_parent : (o : Option ℕ) → p.parent ≡ o → lead_of (held led o None) (held blocks o false) a p.level p.node ≡ option_and_then (λ q. lead_in (hb q) (done q) (parts_in (p ∷ qs) q) p.node) o
      by_parent None e = none_block p.level (fits.root e) None false a
      by_parent (Some q) e =
          let within = fits.within q e in
          let same = kids_in p qs q e in
          ap (λ o. lead_of o (get_or blocks q false) a p.level p.node) (state.each q within ∙ ap (λ ks. led_with (hb q) (done q) (is_ahead_in ks)) same)
          ∙ (ap (λ b. lead_of (led_with (hb q) (done q) (is_ahead_in (p ∷ parts_in qs q))) b a p.level p.node) (blocked q within)
          ∙ (ap (λ b. lead_of (led_with (hb q) (done q) (is_ahead_in (p ∷ parts_in qs q))) (hb q) b p.level p.node) (aheads q e)
          ∙ (sym (lead_here (hb q) (done q) p (parts_in qs q) (apart_kids q) (apart_done q))
          ∙ ap (λ ks. lead_in (hb q) (done q) ks p.node) (sym same))))

  tail_is : (low : ℕ) (done : ℕ → List Part) (p : Part) (qs : List Part) (x : Part) → ((q : ℕ) (y : Part) → Contains (done q) y → y.node < low) → low ≤ x.node
      → lead_from done (p ∷ qs) x ≡ lead_from (moved done p) qs x
  unfolding lead_from moved
  tail_is low done p qs x below l = by_parent x.parent
    where
      apart_done : (q : ℕ) → IsApart x.node (done q)
      apart_done q y i e = let lower = below q y i in absurd (omega (arith, lower, l, e))

      by_test : (q : ℕ) (t : Bool) → lead_in (hb q) (done q) (if t then p ∷ parts_in qs q else parts_in qs q) x.node ≡ lead_in (hb q) (if t then at_level p.level [] (done q ++ p ∷ []) else done q) (parts_in qs q) x.node
      by_test q false = refl
      by_test q true = lead_later (hb q) (done q) p (parts_in qs q) x.node (apart_done q)

      by_parent : (o : Option ℕ) → option_and_then (λ q. lead_in (hb q) (done q) (parts_in (p ∷ qs) q) x.node) o ≡ option_and_then (λ q. lead_in (hb q) (if is_in q p.parent then at_level p.level [] (done q ++ p ∷ []) else done q) (parts_in qs q) x.node) o
      by_parent None = refl
      by_parent (Some q) = by_test q (is_in q p.parent)

  state_moved : (low : ℕ) (led : List (Option ℕ)) (done : ℕ → List Part) (p : Part) (qs : List Part) (lead : Option ℕ) → IsState low led done (p ∷ qs) → low ≤ p.node
      → ((q : ℕ) → p.parent ≡ Some q → lead ≡ lead_of (led_with (hb q) (done q) (is_ahead_in (p ∷ parts_in qs q))) (hb q) (is_ahead_in (p ∷ parts_in qs q)) p.level p.node)
      → IsState (suc p.node) (put led p.parent lead) (moved done p) qs
  unfolding moved
  state_moved low led done p qs lead state l is = record {
    size = length_put led p.parent lead ∙ state.size;
    each = λ q w. held_put led p.parent lead None q (let size = state.size in omega (arith, w, size)) ∙ by_parent q w p.parent refl;
    below = λ q x i. below_test q x (is_in q p.parent) i;
  }
    where
      by_test : (q a : ℕ) → q < n → p.parent ≡ Some a → (t : Bool) → (a == q) ≡ t → get_or led q None ≡ led_with (hb q) (done q) (is_ahead_in (if t then p ∷ parts_in qs q else parts_in qs q))
          → (if t then lead else get_or led q None) ≡ led_with (hb q) (if t then at_level p.level [] (done q ++ p ∷ []) else done q) (is_ahead_in (parts_in qs q))
      by_test q a w e false s known = known
      by_test q a w e true s known = is q (e ∙ ap Some (eqb-true a q s)) ∙ sym (led_next (hb q) (done q) p (parts_in qs q))

      by_parent : (q : ℕ) → q < n → (o : Option ℕ) → p.parent ≡ o → (if is_in q o then lead else get_or led q None) ≡ led_with (hb q) (if is_in q o then at_level p.level [] (done q ++ p ∷ []) else done q) (is_ahead_in (parts_in qs q))
      by_parent q w None e = state.each q w ∙ ap (λ o. led_with (hb q) (done q) (is_ahead_in (if is_in q o then p ∷ parts_in qs q else parts_in qs q))) e
      by_parent q w (Some a) e = by_test q a w e (a == q) refl (state.each q w ∙ ap (λ o. led_with (hb q) (done q) (is_ahead_in (if is_in q o then p ∷ parts_in qs q else parts_in qs q))) e)

      below_run : (q : ℕ) (x : Part) → Contains (done q) x ⊎ (p ≡ x) → x.node < suc p.node
      below_run q x (inl i) = let lower = state.below q x i in omega (arith, lower, l)
      below_run q x (inr e) = let same = ap (λ (r : Part). r.node) e in omega (arith, same)

      below_level : (q : ℕ) (x : Part) (lv : Level) → Contains (at_level lv [] (done q ++ p ∷ [])) x → x.node < suc p.node
      below_level q x Level.block i = no_member i
      below_level q x Level.floated i = below_run q x (Contains-push_cases (done q) p x i)
      below_level q x Level.inline i = below_run q x (Contains-push_cases (done q) p x i)

      below_test : (q : ℕ) (x : Part) (t : Bool) → Contains (if t then at_level p.level [] (done q ++ p ∷ []) else done q) x → x.node < suc p.node
      below_test q x true i = below_level q x p.level i
      below_test q x false i = below_run q x (inl i)

  abbrev node_of : Part → ℕ
  node_of p = p.node

  walk_is : (table : List Bool) (low : ℕ) (led : List (Option ℕ)) (blocks ahead : List Bool) (at : ℕ) (done : ℕ → List Part) (qs : List Part)
      → length table ≡ n → ((q : ℕ) → q < n → get_or table q false ≡ false)
      → IsState low led done qs → ((p : Part) → Contains qs p → Fits p) → ((q : ℕ) → q < n → get_or blocks q false ≡ hb q) → ((j : ℕ) → get_or ahead (at + j) false ≡ get_or (ahead_of table qs) j false)
      → Rises low (map node_of qs) → leads_walk led blocks ahead at qs ≡ map (lead_from done qs) qs
  walk_is table low led blocks ahead at done [] size none state fits blocked aheads rises = refl
  walk_is table low led blocks ahead at done (p ∷ qs) size none state fits blocked aheads rises =
      let zero_more : at + 0 ≡ at = omega arith in
      let now : get_or ahead at false ≡ is_ahead (held (ahead_table table qs) p.parent false) p.level = ap (λ k. get_or ahead k false) (sym zero_more) ∙ aheads 0 in
      let own : (q : ℕ) → p.parent ≡ Some q → get_or ahead at false ≡ is_ahead_in (p ∷ parts_in qs q) =
      λ q e. now ∙ (ap (λ o. is_ahead (held (ahead_table table qs) o false) p.level) e ∙ ap (λ b. is_ahead b p.level)
      (table_ahead table qs q (let w = (fits p (first_member _ refl)).within q e in omega (arith, w, size)) (none q ((fits p (first_member _ refl)).within q e)))) in
      let above : (x : Part) → Contains qs x → p.node < x.node = λ x i. let up = rises_from (suc p.node) (map node_of qs) x.node rises.1 (to_map node_of qs x i) in omega (arith, up) in
      let head = head_is low led blocks done p qs (get_or ahead at false) state (fits p (first_member _ refl)) blocked own rises.0 above in
      let lead_is : (q : ℕ) → p.parent ≡ Some q → lead_of (held led p.parent None) (held blocks p.parent false) (get_or ahead at false) p.level p.node
      ≡ lead_of (led_with (hb q) (done q) (is_ahead_in (p ∷ parts_in qs q))) (hb q) (is_ahead_in (p ∷ parts_in qs q)) p.level p.node =
      λ q e. let w = (fits p (first_member _ refl)).within q e in
      ap (λ o. lead_of (held led o None) (held blocks o false) (get_or ahead at false) p.level p.node) e
      ∙ (ap (λ o. lead_of o (get_or blocks q false) (get_or ahead at false) p.level p.node) (state.each q w ∙ ap (λ ks. led_with (hb q) (done q) (is_ahead_in ks)) (kids_in p qs q e))
      ∙ (ap (λ b. lead_of (led_with (hb q) (done q) (is_ahead_in (p ∷ parts_in qs q))) b (get_or ahead at false) p.level p.node) (blocked q w)
      ∙ ap (λ b. lead_of (led_with (hb q) (done q) (is_ahead_in (p ∷ parts_in qs q))) (hb q) b p.level p.node) (own q e))) in
      let next : (j : ℕ) → (at + 1) + j ≡ at + suc j = λ j. omega arith in
      let rest = walk_is table (suc p.node) _ blocks ahead (at + 1) (moved done p) qs size none (state_moved low led done p qs _ state rises.0 lead_is) (λ x i. fits x (later_member _ i)) blocked
      (λ j. ap (λ k. get_or ahead k false) (next j) ∙ aheads (suc j)) rises.1 in
      let later = map_same (lead_from done (p ∷ qs)) (lead_from (moved done p) qs) qs (λ x i. tail_is low done p qs x state.below (let up = above x i in let l = rises.0 in omega (arith, up, l))) in
      ap (λ l. lead_of (held led p.parent None) (held blocks p.parent false) (get_or ahead at false) p.level p.node ∷ l) (rest ∙ sym later)
      ∙ ap (λ l. l ∷ map (lead_from done (p ∷ qs)) qs) head

abbrev has_blocks : List Part → ℕ → Bool
has_blocks parts q = list_any is_block_part (parts_in parts q)

-- the leads of all boxes: the first nodes of their runs, where anonymous block boxes hold these
pub leads_are : (n low : ℕ) (parts : List Part) → Rises low (map (λ (p : Part). p.node) parts) → ((p : Part) (q : ℕ) → Contains parts p → p.parent ≡ Some q → q < n) → ((p : Part) → Contains parts p → p.parent ≡ None → p.level ≡ Level.block)
    → leads_walk (replicate n None) (with_blocks (replicate n false) parts) (ahead_of (replicate n false) parts) 0 parts ≡ map (λ p. option_map first_of (run_around parts p)) parts
unfolding lead_from
leads_are n low parts rises within root =
    walk_is (has_blocks parts) n (replicate n false) low (replicate n None) (with_blocks (replicate n false) parts) (ahead_of (replicate n false) parts) 0 (λ q. []) parts (length-replicate n false) (λ q l. get_or-replicate n q false false l)
    (record { size = length-replicate n None; each = λ q l. get_or-replicate n q None None l; below = λ q x i. no_member i })
    (λ p i. record { within = λ q e. within p q i e; root = λ e. root p i e })
    (λ q l. let size = length-replicate n false in blocks_are (replicate n false) parts q (omega (arith, l, size)) ∙ ap (λ b. b || list_any is_block_part (parts_in parts q)) (get_or-replicate n q false false l))
    (λ j. ap (λ k. get_or (ahead_of (replicate n false) parts) k false) (omega arith)) rises
    ∙ map_same (lead_from (has_blocks parts) n (λ q. []) parts) (λ p. option_map first_of (run_around parts p)) parts (λ p i. lead_is p)
  where
    lead_is : (p : Part) → lead_from (has_blocks parts) n (λ q. []) parts p ≡ option_map first_of (run_around parts p)
    lead_is p = by_parent p.parent
      where
        by_test : (q : ℕ) (b : Bool) → option_map first_of (if b then found_in p.node (runs_on [] (parts_in parts q)) else None) ≡ option_map first_of (find (has_node p.node) (map nodes_of (if b then filter needs_box (runs_of (parts_in parts q)) else [])))
        by_test q false = refl
        by_test q true = ap (λ rs. option_map first_of (found_in p.node rs)) (sym (runs_are (parts_in parts q)))

        by_parent : (o : Option ℕ) → option_and_then (λ q. lead_in (list_any is_block_part (parts_in parts q)) [] (parts_in parts q) p.node) o
            ≡ option_map first_of (option_and_then (λ q. find (has_node p.node) (map nodes_of (wrapped_in (parts_in parts q)))) o)
        by_parent None = refl
        by_parent (Some q) = by_test q (list_any is_block_part (parts_in parts q))

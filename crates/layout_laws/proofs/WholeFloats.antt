-- The floats in lines: each of them is placed, at once or below the line, in their order.
use Rattle.std.proofs.Common.{◌≡◌, ℕ, zero, suc, ◌<◌, ◌≤◌, ℤ, Bool, true, false, cond, ◌&&◌, List, [], ◌∷◌, ◌++◌, length, take, drop, map, fold, flat_map, slice_index_or, refl, sym, ap, ◌∙◌, arith, append-nil, append_assoc}
use Rattle.std.specs.List.{position_or_len}
use Rattle.std.proofs.lemmas.Grind.{flat_map-append}
use Rattle.std.proofs.lemmas.List.{map-append}
use Rattle.viz_base.specs.declared.layouts.Spot.{Spot}
use Rattle.viz_base.specs.declared.trees.BoxTree.{BoxTree}
use Rattle.layout_semantics.specs.Floats.{FloatBox}
use Rattle.layout_semantics.specs.InlineContent.{Item, makes_line}
use Rattle.layout_semantics.specs.LineHeights.{InlineContext}
use Rattle.layout_semantics.specs.LineFilling.{Met, Line, line_spot, with_spot, with_waiting, place_each, none_waits, leaves_room, meet, met_after, floats_met, first_items, joined, before_line, from_line_on, width_held}
use Rattle.layout_laws.proofs.WholeItems.{float_of}

-- the boxes of floats that are placed
abbrev pub numbers : List (ℕ × Spot ℤ) → List ℕ
numbers spots = map (λ (e : ℕ × Spot ℤ). e.0) spots

-- ---- floats placed one after another

pub place-all : (c : InlineContext) (least y : ℤ) (met : Met) (ks : List ℕ) → numbers (place_each c least y met ks).spots ≡ numbers met.spots ++ ks
place-all c least y met [] = sym (append-nil (numbers met.spots))
place-all c least y met (k ∷ ks) =
    let spot = line_spot c met.floats least y k in
    place-all c least y (with_spot c met k spot) ks
    ∙ (ap (λ l. l ++ ks) (map-append (λ (e : ℕ × Spot ℤ). e.0) met.spots ((k, spot) ∷ [])) ∙ append_assoc (numbers met.spots) (k ∷ []) ks)

-- ---- floats met on a line

-- those that are placed, and those that wait
abbrev pub all_met : Met → List ℕ
all_met met = numbers met.spots ++ met.waiting

none-waiting : (c : InlineContext) (least y : ℤ) (met : Met) (ks : List ℕ) → (place_each c least y met ks).waiting ≡ met.waiting
none-waiting c least y met [] = refl
none-waiting c least y met (k ∷ ks) = none-waiting c least y (with_spot c met k (line_spot c met.floats least y k)) ks

-- where none did before, none waits of those that are placed
pub first-met : (c : InlineContext) (least y : ℤ) (floats : List FloatBox) (ks : List ℕ) → all_met (place_each c least y (record { spots = []; floats = floats; waiting = [] }) ks) ≡ ks
first-met c least y floats ks =
    let start : Met = record { spots = []; floats = floats; waiting = [] } in
    ap (λ l. numbers (place_each c least y start ks).spots ++ l) (none-waiting c least y start ks)
    ∙ (append-nil (numbers (place_each c least y start ks).spots) ∙ place-all c least y start ks)

one-more : (c : InlineContext) (spots : List (ℕ × Spot ℤ)) (floats : List FloatBox) (waiting : List ℕ) (at : ℕ) (spot : Spot ℤ) (room : Bool)
    → all_met (cond (none_waits (record { spots = spots; floats = floats; waiting = waiting }) && room) (with_spot c (record { spots = spots; floats = floats; waiting = waiting }) at spot) (with_waiting (record { spots = spots; floats = floats; waiting = waiting }) at))
    ≡ (numbers spots ++ waiting) ++ at ∷ []
one-more c spots floats [] at spot true = append-nil (numbers (spots ++ (at, spot) ∷ [])) ∙ (map-append (λ (e : ℕ × Spot ℤ). e.0) spots ((at, spot) ∷ []) ∙ ap (λ l. l ++ at ∷ []) (sym (append-nil (numbers spots))))
one-more c spots floats [] at spot false = ap (λ l. l ++ at ∷ []) (sym (append-nil (numbers spots)))
one-more c spots floats (w ∷ waiting) at spot room = sym (append_assoc (numbers spots) (w ∷ waiting) (at ∷ []))

meets-all : (c : InlineContext) (line : Line) (held : ℤ) (met : Met) (ks : List ℕ) → all_met (fold (meet c line held) met ks) ≡ all_met met ++ ks
meets-all c line held met [] = sym (append-nil (all_met met))
meets-all c line held met (k ∷ ks) =
    let spot = line_spot c met.floats line.least line.top k in
    meets-all c line held (meet c line held met k) ks
    ∙ (ap (λ l. l ++ ks) (one-more c met.spots met.floats met.waiting k spot (leaves_room c line held met k spot)) ∙ append_assoc (all_met met) (k ∷ []) ks)

-- ---- the floats of the first segments of a line

joined-more : (n : ℕ) (parts : List (List Item)) → n < length parts → joined (take (suc n) parts) ≡ joined (take n parts) ++ slice_index_or parts n []
joined-more n [] l = absurd (omega arith)
joined-more zero (first ∷ parts) l = append-nil first
joined-more (suc n) (first ∷ parts) l = ap (λ (is : List Item). first ++ is) (joined-more n parts (omega arith)) ∙ sym (append_assoc first (joined (take n parts)) (slice_index_or parts n []))

front-and-rest : {A : Type 0} (n : ℕ) (xs : List A) → take n xs ++ drop (length (take n xs)) xs ≡ xs
front-and-rest zero xs = refl
front-and-rest (suc n) [] = refl
front-and-rest {A} (suc n) (x ∷ xs) = ap (λ (l : List A). x ∷ l) (front-and-rest n xs)

pub split-line : (tree : BoxTree) (items : List Item) → before_line tree items ++ from_line_on tree items ≡ items
split-line tree items = front-and-rest (position_or_len (makes_line tree) items) items

-- the floats of the first segments are placed or wait, where those before anything on the line are placed
pub met-all : (c : InlineContext) (line : Line) (first : List Item) (parts : List (List Item)) → line.parts ≡ first ∷ parts → all_met line.before ≡ flat_map float_of (before_line c.tree first)
    → (n : ℕ) → suc n ≤ length line.parts → all_met (met_after c line (suc n)) ≡ flat_map float_of (first_items line (suc n))
met-all c line first parts e placed zero l =
    let here = ap (λ (ps : List (List Item)). slice_index_or ps 0 []) e in
    meets-all c line (width_held c (first_items line 1)) line.before (floats_met c.tree 0 (slice_index_or line.parts 0 []))
    ∙ (ap (λ l. l ++ floats_met c.tree 0 (slice_index_or line.parts 0 [])) placed
    ∙ (ap (λ (part : List Item). flat_map float_of (before_line c.tree first) ++ flat_map float_of (from_line_on c.tree part)) here
    ∙ (sym (flat_map-append float_of (before_line c.tree first) (from_line_on c.tree first))
    ∙ ap (flat_map float_of) (split-line c.tree first ∙ sym (ap (λ (ps : List (List Item)). joined (take 1 ps)) e ∙ append-nil first)))))
met-all c line first parts e placed (suc n) l =
    let part = slice_index_or line.parts (suc n) [] in
    meets-all c line (width_held c (first_items line (suc (suc n)))) (met_after c line (suc n)) (floats_met c.tree (suc n) part)
    ∙ (ap (λ l. l ++ flat_map float_of part) (met-all c line first parts e placed n (omega arith))
    ∙ (sym (flat_map-append float_of (first_items line (suc n)) part) ∙ ap (flat_map float_of) (sym (joined-more (suc n) line.parts (omega arith)))))

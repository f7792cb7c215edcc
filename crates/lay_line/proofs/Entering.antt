-- The entries of a line, item by item.
use Rattle.std.proofs.Common.{◌≡◌, ℕ, ◌+◌, ◌<◌, false, List, [], ◌∷◌, ◌++◌, map, drop, get_or, length, Option, None, Some, refl, sym, ap, ◌∙◌, append_assoc}
use Rattle.std.proofs.lemmas.List.{at_drop_more}
use Rattle.viz_base.specs.declared.layouts.Entry.{Entry}
use Rattle.viz_base.specs.declared.layouts.Spot.{Spot}
use Rattle.std.specs.Prelude.{ℤ}
use Rattle.layout_semantics.specs.LineHeights.{InlineContext}
use Rattle.layout_semantics.specs.Fragments.{ItemPlace, SetLine, item_entries, entries_after, opened_entries, spots_after}
use Rattle.layout_semantics.specs.InlineContent.{Item, start, finish, word, space, atomic, forced, float}
use Rattle.lay_line.specs.steps.Words.{own_reach, raised, inline_raised}
use Rattle.lay_line.specs.steps.Entries.{area_in, text_in, piece_in, edges_in, around_in, from_in, atomic_in, item_in, items_in, opened_in}
use Rattle.lay_line.specs.steps.Lining.{entries_in}

item-same : (c : InlineContext) (line : SetLine) (before : Option ItemPlace) (p : ItemPlace) (after : List ItemPlace) (spots : List (ℕ × Spot ℤ)) (i : Item) → p.item ≡ i → item_in c line before p after spots ≡ item_entries c line before p after spots
unfolding item_in piece_in text_in area_in from_in around_in edges_in atomic_in own_reach raised inline_raised
item-same c line before p after spots (start at) e = rw e refl
item-same c line before p after spots (finish at) e = rw e refl
item-same c line before p after spots (word at text) e = rw e refl
item-same c line before p after spots (space at) e = rw e refl
item-same c line before p after spots (atomic at) e = rw e refl
item-same c line before p after spots (forced at) e = rw e refl
item-same c line before p after spots (float at) e = rw e refl

items-same : (c : InlineContext) (line : SetLine) (before : Option ItemPlace) (ps : List ItemPlace) (spots : List (ℕ × Spot ℤ)) → items_in c line before ps spots ≡ entries_after c line before ps spots
items-same c line before [] spots = refl
items-same c line before (p ∷ ps) spots =
    ap (λ l. l ++ items_in c line (Some p) ps (spots_after p.item spots)) (item-same c line before p ps spots p.item refl)
    ∙ ap (λ l. item_entries c line before p ps spots ++ l) (items-same c line (Some p) ps (spots_after p.item spots))

opened-same : (c : InlineContext) (line : SetLine) (opened : List ℕ) → opened_in c line opened ≡ opened_entries c line opened
unfolding from_in area_in around_in edges_in raised inline_raised
opened-same c line [] = refl
opened-same c line (at ∷ opened) = ap (λ l. from_in c line at false line.left line.places ∷ l) (opened-same c line opened)

pub entries-same : (c : InlineContext) (line : SetLine) (opened : List ℕ) → opened_in c line opened ++ items_in c line None line.places line.spots ≡ entries_in c line opened
unfolding entries_in
entries-same c line opened =
    ap (λ l. l ++ items_in c line None line.places line.spots) (opened-same c line opened)
    ∙ ap (λ l. opened_entries c line opened ++ l) (items-same c line None line.places line.spots)

-- one item further on
pub items-go : {A : Type 0} (c : InlineContext) (line : SetLine) (f : A → ItemPlace) (xs : List A) (k : ℕ) (x : A) (old new : List (Entry ℤ)) (before : Option ItemPlace) (after : List A) (spots left : List (ℕ × Spot ℤ))
    → k < length xs → x ≡ get_or xs k x → after ≡ drop (k + 1) xs → new ≡ old ++ item_in c line before (f x) (map f after) spots → left ≡ spots_after (f x).item spots
    → new ++ items_in c line (Some (f x)) (map f (drop (k + 1) xs)) left ≡ old ++ items_in c line before (map f (drop k xs)) spots
items-go c line f xs k x old new before after spots left l is behind added go =
    let rest = items_in c line (Some (f x)) (map f (drop (k + 1) xs)) (spots_after (f x).item spots) in
    ap (λ s. new ++ items_in c line (Some (f x)) (map f (drop (k + 1) xs)) s) go
    ∙ (ap (λ n. n ++ rest) (added ∙ ap (λ a. old ++ item_in c line before (f x) (map f a) spots) behind)
    ∙ (append_assoc old (item_in c line before (f x) (map f (drop (k + 1) xs)) spots) rest
    ∙ (ap (λ y. old ++ items_in c line before (f y ∷ map f (drop (k + 1) xs)) spots) is
    ∙ sym (at_drop_more (λ ys. old ++ items_in c line before (map f ys) spots) xs k x l))))

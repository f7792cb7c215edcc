-- What fits at each reading of a run.
use Rattle.std.proofs.Common.{◌≡◌, ◌<◌, ◌≤◌, ◌^◌, ◌+◌, zero, suc, ℕ, ℤ, unsigned_abs, Bool, IsTrue, List, [], ◌∷◌, drop, get_or, length, map, Option, ap, ◌∙◌, arith}
use Rattle.std.specs.Prelude.{sum}
use Rattle.std.specs.List.{AllByRecursion}
use Rattle.std.proofs.lemmas.List.Sums.{sum_by-cons}
use Rattle.std.proofs.lemmas.List.{at_drop_more}
use Rattle.viz_base.specs.declared.trees.BoxTree.{BoxTree}
use Rattle.viz_base.specs.declared.worlds.World.{World}
use Rattle.viz_calc.specs.State.{AllSmall}
use Rattle.viz_calc.specs.World.{Reading}
use Rattle.viz_calc.specs.Run.{Run, Goes}
use Rattle.layout_semantics.specs.InlineContent.{Item, start, finish, word, space, atomic, forced, float, content}
use Rattle.layout_semantics.specs.Order.{kids_of}
use Rattle.layout_semantics.specs.Preferred.{inline_content, blocks, inside_of, preferred}
use Rattle.lay_preferred.specs.Fitting.{AroundFits, GivenFits, ReplacedFits, WordFits, ItemFits, leasts, mosts, IsHalf, room_by, BoxesFit, AreWithin}
use Rattle.lay_preferred.specs.steps.Columns.{beside}
use Rattle.lay_preferred.specs.steps.Outer.{edge, start_of, end_of, outer}
use Rattle.lay_preferred.specs.steps.Parts.{sized, width_of, widths_of, IsInside}
use Rattle.lay_preferred.proofs.Caps.{is-capped, inside-capped, given-fits, around-fits, replaced-fits, start-fits, end-fits, content-sizes}
use Rattle.lay_preferred.proofs.Levels.{content-inside}
use Rattle.lay_preferred.proofs.Sizes.{run_reach, beside-size}

-- ---- one item of a list

pub all-at : {A B : Type 0} (f : A → B) (P : B → Type 0) (xs : List A) (k : ℕ) (d : A) → AllByRecursion P (map f xs) → k < length xs → P (f (get_or xs k d))
all-at f P [] k d a lt = absurd (omega arith)
all-at f P (x ∷ xs) zero d a lt = a.0
all-at f P (x ∷ xs) (suc k) d a lt = all-at f P xs k d a.1 (omega arith)

-- ---- items

pub item-copied : (tree : BoxTree) (w : World) (i : Item) → ItemFits tree w i → AllSmall (width_of tree w i ∷ [])
unfolding ItemFits width_of start_of end_of edge
item-copied tree w (word at text) f = (f.0, tt)
item-copied tree w (space at) f = (f.0, tt)
item-copied tree w (start at) f = ((((f.1).1).1).1.1.0, tt)
item-copied tree w (finish at) f = ((((f.1).1).1).1.1.0, tt)
item-copied tree w (atomic at) f = (omega arith, tt)
item-copied tree w (forced at) f = (omega arith, tt)
item-copied tree w (float at) f = (omega arith, tt)

-- ---- boxes

module _ (tree : BoxTree) where
  pub fits-closed : (a b : Reading → Bool) → ((e : Reading) → IsTrue (b e) → IsTrue (a e)) → BoxesFit tree a → BoxesFit tree b
  fits-closed a b c f = record { lengths = f.lengths; cap = f.cap; most = f.most; boxes = λ e o. f.boxes e (c e o) }

  pub fits-later : (a b : Run) → Goes a b → BoxesFit tree a.is_open → BoxesFit tree b.is_open
  fits-later a b g f = fits-closed a.is_open b.is_open g.closes f

  module _ (is_open : Reading → Bool) (f : BoxesFit tree is_open) (e : Reading) (o : IsTrue (is_open e)) where
    pub outer-within : (at : ℕ) → at < length tree.boxes → AreWithin (f.cap at) (outer tree e.world at)
    outer-within at l = is-capped tree e.world f.lengths f.cap (f.boxes e o) at l

    lengths-low : (at : ℕ) → at < length tree.boxes → f.lengths at ≤ 2 ^ 90
    lengths-low at l = let room = (f.boxes e o at l).room in let most = f.most at l in omega (arith, room, most)

    pub given-small : (at : ℕ) → at < length tree.boxes → GivenFits tree e.world at
    given-small at l = given-fits tree e.world (f.lengths at) at (f.boxes e o at l).own (lengths-low at l)

    pub replaced-small : (at : ℕ) → at < length tree.boxes → ReplacedFits tree e.world at
    replaced-small at l = replaced-fits tree e.world (f.lengths at) at (f.boxes e o at l).own (lengths-low at l)

    pub around-small : (at : ℕ) → at < length tree.boxes → AroundFits tree e.world at (preferred tree e.world at).least × AroundFits tree e.world at (preferred tree e.world at).most
    around-small at l =
        let box = f.boxes e o at l in
        let room = box.room in
        let most = f.most at l in
        let inside = inside-capped tree e.world f.lengths f.cap (f.boxes e o) at l in
        let by = around-fits tree e.world (f.lengths at) at box.own (f.cap at) in
        let least_in = inside.0 in
        let most_in = inside.1 in (
          by (preferred tree e.world at).least (omega (arith, room)) most (omega (arith, room, least_in)),
          by (preferred tree e.world at).most (omega (arith, room)) most (omega (arith, room, most_in)),
        )

    pub inside-small : (at : ℕ) → at < length tree.boxes → AllSmall ((preferred tree e.world at).least ∷ (preferred tree e.world at).most ∷ [])
    inside-small at l =
        let room = (f.boxes e o at l).room in
        let most = f.most at l in
        let inside = inside-capped tree e.world f.lengths f.cap (f.boxes e o) at l in
        let least_in = inside.0 in
        let most_in = inside.1 in
        (omega (arith, room, most, least_in), (omega (arith, room, most, most_in), tt))

    pub content-half : (at : ℕ) → at < length tree.boxes → inside_of tree at ≡ inline_content
        → IsHalf (leasts (sized (widths_of tree e.world) (content tree at))) × IsHalf (mosts (sized (widths_of tree e.world) (content tree at)))
    content-half at l is =
        let sizes = content-sizes tree e.world f.lengths f.cap (f.boxes e o) at l in
        let least_in = sizes.0 in
        let most_in = sizes.1 in
        let room = (f.boxes e o at l).room in
        let most = f.most at l in
        let same = ap (room_by tree e.world f.cap at) is in
        (omega (arith, least_in, room, most, same), omega (arith, most_in, room, most, same))

    pub items-fit : (at : ℕ) → at < length tree.boxes → AllByRecursion (ItemFits tree e.world) (content tree at)
    unfolding ItemFits
    items-fit at l = join (content tree at) (f.boxes e o at l).words (content-inside tree at)
      where
        one : (i : Item) → WordFits tree e.world i → IsInside tree at i → ItemFits tree e.world i
        one (word k text) fit is = fit
        one (space k) fit is = fit
        one (start k) fit is = start-fits tree e.world (f.lengths k) k (f.boxes e o k is.1).own (lengths-low k is.1)
        one (finish k) fit is = end-fits tree e.world (f.lengths k) k (f.boxes e o k is.1).own (lengths-low k is.1)
        one (atomic k) fit is = tt
        one (forced k) fit is = tt
        one (float k) fit is = tt

        join : (items : List Item) → AllByRecursion (WordFits tree e.world) items → AllByRecursion (IsInside tree at) items → AllByRecursion (ItemFits tree e.world) items
        join [] fit is = tt
        join (i ∷ items) fit is = (one i fit.0 is.0, join items fit.1 is.1)

    -- children of a block container
    pub kids-low : (at : ℕ) → at < length tree.boxes → inside_of tree at ≡ blocks → sum (map f.cap (kids_of tree.boxes at)) ≤ 2 ^ 90
    kids-low at l is =
        let room = (f.boxes e o at l).room in
        let most = f.most at l in
        let same = ap (room_by tree e.world f.cap at) is in
        omega (arith, room, most, same)

pub caps-next : (cap : ℕ → ℕ) (ks : List ℕ) (i : ℕ) → i < length ks → sum (map cap (drop i ks)) ≡ cap (get_or ks i 0) + sum (map cap (drop (i + 1) ks))
caps-next cap ks i lt =
    at_drop_more (λ l. sum (map cap l)) ks i 0 lt
    ∙ sum_by-cons (λ (m : ℕ). m) (cap (get_or ks i 0)) (map cap (drop (i + 1) ks))

pub beside-fits : (floats : Option ℤ) (x : ℤ) (n : ℕ) → run_reach floats + unsigned_abs x ≤ n → n ≤ 2 ^ 100 → AllSmall (beside floats x ∷ [])
beside-fits floats x n l m = let s = beside-size floats x in (omega (arith, s, l, m), tt)

-- Loops over what is in the lines of a container.
use Rattle.std.proofs.Common.{◌≡◌, ℕ, zero, suc, ◌+◌, ◌<◌, ℤ, false, List, [], ◌∷◌, ◌++◌, length, drop, get_or, map, fold, flat_map, Option, Some, None, refl, ap, sym, ◌∙◌, append_assoc, append-nil}
use Rattle.std.proofs.lemmas.List.{at_drop_more}
use Rattle.std.proofs.lemmas.List.Sums.{fold-append}
use Rattle.std.specs.Prelude.{slice_set, replicate, unwrap_or}
use Rattle.viz_base.specs.declared.layouts.Band.{Band}
use Rattle.viz_base.specs.declared.layouts.Entry.{Entry}
use Rattle.viz_base.specs.declared.layouts.Inner.{Inner}
use Rattle.viz_base.specs.declared.trees.BoxTree.{BoxTree}
use Rattle.viz_base.specs.declared.worlds.World.{World}
use Rattle.viz_calc.specs.World.{Reading}
use Rattle.layout_semantics.specs.Flow.{Independent, raised}
use Rattle.layout_semantics.specs.InlineContent.{inner_boxes}
use Rattle.layout_semantics.specs.LineHeights.{InlineContext}
use Rattle.layout_semantics.specs.Lists.{room_for}
use Rattle.layout_semantics.specs.Lines.{LineList, lines_in}
use Rattle.layout_laws.specs.PlacedFloats.{ArePlacedAfter}
use Rattle.layout_laws.proofs.PlacedFloats.{of_lines}
use Rattle.lay_float.proofs.Loops.{goes-on}
use Rattle.lay_line.specs.Contexts.{inner_at, table_at}
use Rattle.lay_line.specs.Readings.{entry_at, entries_at}
use Rattle.lay_margin.specs.Runs.{no_run}
use Rattle.lay_steps.specs.Flow.{Standing, below, Context, line_tops, after_lines}
use Rattle.lay_steps.specs.Flow.{inner_size, entry_of, inner_table, filled_table, lines_of, in_lines}

-- with one place set
map-slice_set : {A B : Type 0} (f : A → B) (xs : List A) (i : ℕ) (x : A) → map f (slice_set xs i x) ≡ slice_set (map f xs) i (f x)
map-slice_set f [] i x = refl
map-slice_set f (y ∷ ys) zero x = refl
map-slice_set f (y ∷ ys) (suc i) x = ap (λ zs. f y ∷ zs) (map-slice_set f ys i x)

pub one-set : {N : Type 0} (at : N → Reading → ℤ) (e : Reading) (old new : List (Option (Inner N))) (k : ℕ) (x : Inner N) → new ≡ slice_set old k (Some x)
    → table_at at new e ≡ slice_set (table_at at old e) k (Some (inner_at at x e))
one-set at e old new k x is = ap (λ t. table_at at t e) is ∙ map-slice_set _ old k (Some x)

-- with the top of one entry more
pub one-raised : {N : Type 0} (at : N → Reading → ℤ) (e : Reading) (xs : List (Entry N)) (k : ℕ) (x : Entry N) (old new : Option ℤ) → k < length xs → x ≡ get_or xs k x
    → new ≡ fold raised old (line_tops (entry_at at x e))
    → fold raised new (flat_map line_tops (entries_at at (drop (k + 1) xs) e)) ≡ fold raised old (flat_map line_tops (entries_at at (drop k xs) e))
one-raised at e xs k x old new lt is e1 =
    let rest = flat_map line_tops (entries_at at (drop (k + 1) xs) e) in
    goes-on (λ ys s. fold raised s (flat_map line_tops (entries_at at ys e))) xs k x old new lt is
    (fold-append raised old (line_tops (entry_at at x e)) rest ∙ ap (λ s. fold raised s rest) (sym e1))

-- with the boxes of one entry more
pub one-added : {N B : Type 0} (at : N → Reading → ℤ) (e : Reading) (f : Entry ℤ → List B) (xs rest : List (Entry N)) (x : Entry N) (old new : List B) → xs ≡ x ∷ rest
    → new ≡ old ++ f (entry_at at x e) → new ++ flat_map f (entries_at at rest e) ≡ old ++ flat_map f (entries_at at xs e)
one-added at e f xs rest x old new is added =
    let left = flat_map f (entries_at at rest e) in
    ap (λ l. l ++ left) added ∙ append_assoc old (f (entry_at at x e)) left ∙ ap (λ ys. old ++ flat_map f (entries_at at ys e)) (sym is)

pub none-added : {N B : Type 0} (at : N → Reading → ℤ) (e : Reading) (f : Entry ℤ → List B) (xs : List (Entry N)) (old : List B) → xs ≡ []
    → old ≡ old ++ flat_map f (entries_at at xs e)
none-added at e f xs old is = sym (ap (λ ys. old ++ flat_map f (entries_at at ys e)) is ∙ append-nil old)

-- with one number more the state is the next one
pub one-number : {S R : Type 0} (go : List ℕ → S → R) (xs : List ℕ) (k d : ℕ) (s next : S) → k < length xs → go (get_or xs k d ∷ drop (k + 1) xs) s ≡ go (drop (k + 1) xs) next
    → go (drop (k + 1) xs) next ≡ go (drop k xs) s
one-number go xs k d s next lt step = sym step ∙ sym (at_drop_more (λ l. go l s) xs k d lt)

-- ---- the table of what stands on lines

module _ (tree : BoxTree) (w : World) (apart : ℕ → Independent) where
  fold-entries : (ks : List ℕ) (table : List (Option (Inner ℤ)))
      → filled_table tree w apart table ks ≡ fold (λ table (entry : ℕ × Inner ℤ). slice_set table entry.0 (Some entry.1)) table (map (λ k. (k, inner_size tree w apart k)) ks)
  fold-entries [] table = refl
  fold-entries (k ∷ ks) table = fold-entries ks (slice_set table k (Some (inner_size tree w apart k)))

  no-entries : {N : Type 0} (at : N → Reading → ℤ) (e : Reading) (n : ℕ) → table_at at (replicate n None) e ≡ replicate n None
  no-entries at e zero = refl
  no-entries at e (suc n) = ap (λ t. None ∷ t) (no-entries at e n)

  pub room-of : (n : ℕ) (ks : List ℕ) → room_for n ks ≡ room_for {A = ℕ × Inner ℤ} n (map (λ k. (k, inner_size tree w apart k)) ks)
  room-of n [] = refl
  room-of n (k ∷ ks) = refl

  pub table-is : {N : Type 0} (at : N → Reading → ℤ) (e : Reading) (b : ℕ) (places : List (Option (Inner N))) (boxes : List ℕ)
      → places ≡ replicate (room_for (length tree.boxes) (inner_boxes tree b)) None
      → boxes ≡ inner_boxes tree b → filled_table tree w apart (table_at at places e) boxes ≡ inner_table tree w apart b
  unfolding inner_table
  table-is at e b places boxes p q =
      let ks = inner_boxes tree b in
      let room = room_for (length tree.boxes) ks in
      ap (λ (t : List (Option (Inner _))). filled_table tree w apart (table_at at t e) boxes) p
      ∙ (ap (λ t. filled_table tree w apart t boxes) (no-entries at e room)
      ∙ (ap (filled_table tree w apart (replicate room None)) q
      ∙ (fold-entries ks (replicate room None)
      ∙ ap (λ n. fold (λ table (entry : ℕ × Inner ℤ). slice_set table entry.0 (Some entry.1)) (replicate n None) (map (λ k. (k, inner_size tree w apart k)) ks))
      (room-of (length tree.boxes) ks))))

  -- ---- the lines and what they leave

  pub lines-named : (b : ℕ) (cb : Band ℤ) (top least : ℤ) (s : Context) (inner : List (Option (Inner ℤ))) → inner ≡ inner_table tree w apart b → least ≡ unwrap_or s.least top
      → lines_in (record { tree = tree; world = w; container = b; inner = inner; cb = cb }) top least s.floats ≡ lines_of tree w apart b cb top s
  unfolding lines_of
  lines-named b cb top least s inner p q =
      ap (λ t. lines_in (record { tree = tree; world = w; container = b; inner = t; cb = cb }) top least s.floats) p
      ∙ ap (λ y. lines_in (record { tree = tree; world = w; container = b; inner = inner_table tree w apart b; cb = cb }) top y s.floats) q

  pub context-after : (b : ℕ) (cb : Band ℤ) (top : ℤ) (s : Context) (l : LineList) (standing : Standing) (least : Option ℤ) → standing ≡ below l.bottom no_run false
      → least ≡ fold raised s.least (flat_map line_tops l.entries) → l ≡ lines_of tree w apart b cb top s
      → record { standing = standing; floats = l.floats; least = least; baseline = l.baseline } ≡ (in_lines tree w apart b cb top s).context
  unfolding in_lines
  context-after b cb top s l standing least p q is =
      ap (λ (x : Standing). record { standing = x; floats = l.floats; least = least; baseline = l.baseline }) p
      ∙ (ap (λ (x : Option ℤ). record { standing = below l.bottom no_run false; floats = l.floats; least = x; baseline = l.baseline }) q
      ∙ ap (after_lines s) is)

  pub boxes-after : (b : ℕ) (cb : Band ℤ) (top : ℤ) (s : Context) (l : LineList) → l ≡ lines_of tree w apart b cb top s
      → flat_map (entry_of tree w apart) l.entries ≡ (in_lines tree w apart b cb top s).boxes
  unfolding in_lines
  boxes-after b cb top s l is = ap (λ (x : LineList). flat_map (entry_of tree w apart) x.entries) is

-- the floats of lines are placed by the rules
pub lines-placed : (tree : BoxTree) (w : World) (apart : ℕ → Independent) (b : ℕ) (cb : Band ℤ) (top : ℤ) (s : Context) → ArePlacedAfter s.floats (lines_of tree w apart b cb top s).floats
unfolding lines_of
lines-placed tree w apart b cb top s =
    let c : InlineContext = record { tree = tree; world = w; container = b; inner = inner_table tree w apart b; cb = cb } in
    of_lines c top (unwrap_or s.least top) s.floats

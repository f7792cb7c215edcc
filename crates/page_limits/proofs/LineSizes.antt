-- How high and how low a line goes, by what stands on it.
use Rattle.std.proofs.Common.{◌≡◌, ◌⊎◌, inl, inr, ℕ, ◌+◌, ◌*◌, ◌≤◌, ℤ, pos, ◌+ℤ◌, ◌-ℤ◌, List, [], ◌∷◌, ◌++◌, map, refl, sym, ◌∙◌, ap, subst, arith}
use Rattle.std.specs.Prelude.{◌≤ℤ◌}
use Rattle.std.specs.Int.{int_max}
use Rattle.std.specs.List.{AllByRecursion}
use Rattle.std.proofs.lemmas.Int.{ints, clamps}
use Rattle.layout_semantics.specs.Extremes.{greatest_from}
use Rattle.layout_semantics.specs.InlineContent.{Item, start, finish, word, space, atomic, forced, float}
use Rattle.layout_semantics.specs.LineHeights.{InlineContext, extent_in_line, strut, line_extent, extended_boxes}
use Rattle.layout_laws.proofs.Extremes.{start_below_greatest}
use Rattle.layout_laws.proofs.Greatest.{greatest_from-least}
use Rattle.layout_laws.proofs.Levels.{All-implied}
use Rattle.page_limits.specs.Bounds.{Bounds, together}
use Rattle.page_limits.specs.Inline.{IsSmall, IsAtomIn, IsInlineSmall, IsItemBoxSmall, IsItemSmall, rise_of}

-- ---- the greatest of a list

greatest-append : (x : ℤ) (ys zs : List ℤ) → greatest_from x (ys ++ zs) ≡ greatest_from (greatest_from x zs) ys
greatest-append x [] zs = refl
greatest-append x (y ∷ ys) zs = ap (int_max y) (greatest-append x ys zs)

map-append : (f : ℕ → ℤ) (xs ys : List ℕ) → map f (xs ++ ys) ≡ map f xs ++ map f ys
map-append f [] ys = refl
map-append f (x ∷ xs) ys = ap (λ zs. f x ∷ zs) (map-append f xs ys)

greatest-small : (s : ℕ) (f : ℕ → ℤ) (x : ℤ) (ks : List ℕ) → AllByRecursion (λ k. IsSmall s (f k)) ks → greatest_from x (map f ks) ≤ℤ int_max x (pos s)
greatest-small s f x [] a = omega (arith, ints, clamps)
greatest-small s f x (k ∷ ks) a = let rest = greatest-small s f x ks a.1 in let here = a.0 in omega (arith, ints, clamps)

module _ (c : InlineContext) (own rise : ℕ → Bounds) (s : ℕ) where
  abbrev rises : List Item → Bounds
  rises items = together (rise_of rise) items

  abbrev aboves : List Item → List ℤ
  aboves items = map (λ at. (extent_in_line c at).above) (extended_boxes items)

  abbrev belows : List Item → List ℤ
  belows items = map (λ at. (extent_in_line c at).below) (extended_boxes items)

  -- an atomic box below a height so far above the line's baseline
  pub record IsAtomBelow (above : ℤ) (d : Bounds) (at : ℕ) : Type 0 where
    pub under : (extent_in_line c at).above ≤ℤ above
    pub top : (pos 0 -ℤ pos (d.up + 3 * s)) ≤ℤ (above -ℤ (extent_in_line c at).above -ℤ pos (own at).up)
    pub low : (above -ℤ (extent_in_line c at).above +ℤ pos (own at).down) ≤ℤ pos (d.down + 3 * s)
    pub independent : (pos (own at).down -ℤ (extent_in_line c at).above) ≤ℤ pos (d.down + s)
    pub tall : ((extent_in_line c at).above +ℤ (extent_in_line c at).below) ≤ℤ pos ((own at).down + 2 * s)
    pub aside : (own at).aside ≤ d.aside

  unfoldable pub IsItemBelow : ℤ → Bounds → Item → Type 0
  IsItemBelow above d (start at) = IsInlineSmall c own rise s at
  IsItemBelow above d (finish at) = Unit {0}
  IsItemBelow above d (word at text) = Unit {0}
  IsItemBelow above d (space at) = Unit {0}
  IsItemBelow above d (atomic at) = IsAtomBelow above d at
  IsItemBelow above d (forced at) = Unit {0}
  IsItemBelow above d (float at) = Unit {0}

  -- more bounds, and a height that another box of the line may set
  atom-more : (above other : ℤ) (d more : Bounds) (at : ℕ) → other ≤ℤ pos (more.down + s) → IsAtomBelow above d at
      → IsAtomBelow (int_max other above) (record { up = more.up + d.up; down = more.down + d.down; aside = more.aside + d.aside }) at
  atom-more above other d more at l h =
      let a = h.under in let b = h.top in let e = h.low in let f = h.independent in let g = h.tall in let i = h.aside in
      record { under = omega (arith, ints, clamps); top = omega (arith, ints, clamps); low = omega (arith, ints, clamps); independent = omega (arith, ints); tall = g; aside = omega (arith, i) }

  atom-wider : (above : ℤ) (d more : Bounds) (at : ℕ) → IsAtomBelow above d at → IsAtomBelow above (record { up = more.up + d.up; down = more.down + d.down; aside = more.aside + d.aside }) at
  atom-wider above d more at h =
      let a = h.under in let b = h.top in let e = h.low in let f = h.independent in let g = h.tall in let i = h.aside in
      record { under = a; top = omega (arith, ints); low = omega (arith, ints); independent = omega (arith, ints); tall = g; aside = omega (arith, i) }

  item-more : (above other : ℤ) (d more : Bounds) (i : Item) → other ≤ℤ pos (more.down + s) → IsItemBelow above d i
      → IsItemBelow (int_max other above) (record { up = more.up + d.up; down = more.down + d.down; aside = more.aside + d.aside }) i
  unfolding IsItemBelow
  item-more above other d more (start at) l h = h
  item-more above other d more (finish at) l h = tt
  item-more above other d more (word at text) l h = tt
  item-more above other d more (space at) l h = tt
  item-more above other d more (atomic at) l h = atom-more above other d more at l h
  item-more above other d more (forced at) l h = tt
  item-more above other d more (float at) l h = tt

  item-wider : (above : ℤ) (d more : Bounds) (i : Item) → IsItemBelow above d i → IsItemBelow above (record { up = more.up + d.up; down = more.down + d.down; aside = more.aside + d.aside }) i
  unfolding IsItemBelow
  item-wider above d more (start at) h = h
  item-wider above d more (finish at) h = tt
  item-wider above d more (word at text) h = tt
  item-wider above d more (space at) h = tt
  item-wider above d more (atomic at) h = atom-wider above d more at h
  item-wider above d more (forced at) h = tt
  item-wider above d more (float at) h = tt

  -- an atomic box that comes to others
  atom-first : (above : ℤ) (d : Bounds) (at : ℕ) → (pos 0 -ℤ pos s) ≤ℤ above → above ≤ℤ pos (d.down + s) → IsAtomIn (own at) (rise at) s (extent_in_line c at)
      → IsAtomBelow (int_max (extent_in_line c at).above above) (record { up = (rise at).up + d.up; down = (rise at).down + d.down; aside = (rise at).aside + d.aside }) at
  atom-first above d at from to i =
      let u = i.up in let e = i.down in let a = i.aside in let f = i.from in let t = i.to in let g = i.tall in
      by i.lifted
    where
      by : (i.turn ≡ 0) ⊎ (((extent_in_line c at).above +ℤ pos i.turn) ≤ℤ pos s)
          → IsAtomBelow (int_max (extent_in_line c at).above above) (record { up = (rise at).up + d.up; down = (rise at).down + d.down; aside = (rise at).aside + d.aside }) at
      by (inl z) =
          let u = i.up in let e = i.down in let a = i.aside in let f = i.from in let t = i.to in let g = i.tall in
          record { under = omega (arith, ints, clamps); top = omega (arith, ints, clamps); low = omega (arith, ints, clamps); independent = omega (arith, ints); tall = g; aside = omega (arith, a) }
      by (inr z) =
          let u = i.up in let e = i.down in let a = i.aside in let f = i.from in let t = i.to in let g = i.tall in
          record { under = omega (arith, ints, clamps); top = omega (arith, ints, clamps); low = omega (arith, ints, clamps); independent = omega (arith, ints); tall = g; aside = omega (arith, a) }

  -- the height above the baseline, with what it bounds
  pub record IsHighest (first : ℤ) (items : List Item) : Type 0 where
    pub from : (pos 0 -ℤ pos s) ≤ℤ greatest_from first (aboves items)
    pub to : greatest_from first (aboves items) ≤ℤ pos ((rises items).down + s)
    pub each : AllByRecursion (IsItemBelow (greatest_from first (aboves items)) (rises items)) items

  highest-same : (first : ℤ) (i : Item) (items : List Item) → extended_boxes (i ∷ items) ≡ extended_boxes items → IsItemBelow (greatest_from first (aboves (i ∷ items))) (rises (i ∷ items)) i
      → IsHighest first items → IsHighest first (i ∷ items)
  highest-same first i items e own_is h =
      let same : greatest_from first (aboves (i ∷ items)) ≡ greatest_from first (aboves items) = ap (λ ks. greatest_from first (map (λ at. (extent_in_line c at).above) ks)) e in
      let from = h.from in
      let to = h.to in
      record {
        from = rw same from;
        to = rw same (omega (arith, ints));
        each = (
          own_is,
          subst (λ z. AllByRecursion (IsItemBelow z (rises (i ∷ items))) items) (sym same)
              (All-implied (IsItemBelow (greatest_from first (aboves items)) (rises items)) (IsItemBelow (greatest_from first (aboves items)) (rises (i ∷ items))) items
              (λ j k. item-wider (greatest_from first (aboves items)) (rises items) (rise_of rise i) j k) h.each),
        );
      }

  pub highest : (first : ℤ) (items : List Item) → IsSmall s first → AllByRecursion (IsItemSmall c own rise s) items → IsHighest first items
  unfolding IsItemBelow IsItemBoxSmall rise_of
  highest first [] l a = record { from = omega (arith, ints, l); to = omega (arith, ints, l); each = tt }
  highest first (start at ∷ items) l a =
      let rest = highest first items l a.1 in
      let own_is = (a.0).box in
      let above = own_is.above in
      let from = rest.from in
      let to = rest.to in
      record {
        from = omega (arith, ints, clamps);
        to = omega (arith, ints, clamps);
        each = (
          own_is,
          All-implied (IsItemBelow (greatest_from first (aboves items)) (rises items)) (IsItemBelow (greatest_from first (aboves (start at ∷ items))) (rises (start at ∷ items))) items
              (λ j k. item-more (greatest_from first (aboves items)) (extent_in_line c at).above (rises items) (rise_of rise (start at)) j (omega (arith, ints)) k) rest.each,
        );
      }
  highest first (atomic at ∷ items) l a =
      let rest = highest first items l a.1 in
      let own_is = (a.0).box in
      let down = own_is.down in
      let top = own_is.to in
      let from = rest.from in
      let to = rest.to in
      record {
        from = omega (arith, ints, clamps);
        to = omega (arith, ints, clamps);
        each = (
          atom-first (greatest_from first (aboves items)) (rises items) at from to own_is,
          All-implied (IsItemBelow (greatest_from first (aboves items)) (rises items)) (IsItemBelow (greatest_from first (aboves (atomic at ∷ items))) (rises (atomic at ∷ items))) items
              (λ j k. item-more (greatest_from first (aboves items)) (extent_in_line c at).above (rises items) (rise_of rise (atomic at)) j (omega (arith, ints)) k) rest.each,
        );
      }
  highest first (finish at ∷ items) l a = highest-same first (finish at) items refl tt (highest first items l a.1)
  highest first (word at text ∷ items) l a = highest-same first (word at text) items refl tt (highest first items l a.1)
  highest first (space at ∷ items) l a = highest-same first (space at) items refl tt (highest first items l a.1)
  highest first (forced at ∷ items) l a = highest-same first (forced at) items refl tt (highest first items l a.1)
  highest first (float at ∷ items) l a = highest-same first (float at) items refl tt (highest first items l a.1)

  -- ---- with the inline boxes that are open

  abbrev above_of : List ℕ → List Item → ℤ
  above_of opened items = (line_extent c (opened ++ extended_boxes items)).above

  abbrev below_of : List ℕ → List Item → ℤ
  below_of opened items = (line_extent c (opened ++ extended_boxes items)).below

  pub record IsLineTall (opened : List ℕ) (items : List Item) : Type 0 where
    pub from : (pos 0 -ℤ pos s) ≤ℤ above_of opened items
    pub to : above_of opened items ≤ℤ pos ((rises items).down + s)
    pub low : (pos 0 -ℤ pos (2 * s)) ≤ℤ (above_of opened items +ℤ below_of opened items)
    pub tall : (above_of opened items +ℤ below_of opened items) ≤ℤ pos ((rises items).down + 5 * s)
    pub each : AllByRecursion (IsItemBelow (above_of opened items) (rises items)) items

  -- a height that an open box sets
  item-open : (above : ℤ) (d : Bounds) (z : ℤ) (i : Item) → above ≤ℤ z → z ≤ℤ int_max above (pos s) → IsItemBelow above d i → IsItemBelow z d i
  unfolding IsItemBelow
  item-open above d z (start at) l m h = h
  item-open above d z (finish at) l m h = tt
  item-open above d z (word at text) l m h = tt
  item-open above d z (space at) l m h = tt
  item-open above d z (atomic at) l m h =
      let a = h.under in let b = h.top in let e = h.low in let f = h.independent in let g = h.tall in
      record { under = omega (arith, ints); top = omega (arith, ints); low = omega (arith, ints, clamps); independent = f; tall = g; aside = h.aside }
  item-open above d z (forced at) l m h = tt
  item-open above d z (float at) l m h = tt

  -- what is below the baseline is not farther from the top than this
  belows-to : (above most : ℤ) (d : Bounds) (items : List Item) → (above +ℤ pos s) ≤ℤ most → pos (d.down + 5 * s) ≤ℤ most → AllByRecursion (IsItemBelow above d) items → AllByRecursion (λ y. y ≤ℤ (most -ℤ above)) (belows items)
  unfolding IsItemBelow
  belows-to above most d [] l m a = tt
  belows-to above most d (start at ∷ items) l m a = let below = (a.0).below in (omega (arith, ints, below), belows-to above most d items l m a.1)
  belows-to above most d (finish at ∷ items) l m a = belows-to above most d items l m a.1
  belows-to above most d (word at text ∷ items) l m a = belows-to above most d items l m a.1
  belows-to above most d (space at ∷ items) l m a = belows-to above most d items l m a.1
  belows-to above most d (atomic at ∷ items) l m a = let low = (a.0).low in let tall = (a.0).tall in (omega (arith, ints), belows-to above most d items l m a.1)
  belows-to above most d (forced at ∷ items) l m a = belows-to above most d items l m a.1
  belows-to above most d (float at ∷ items) l m a = belows-to above most d items l m a.1

  pub line-tall : (opened : List ℕ) (items : List Item) → IsSmall s (strut c).above → IsSmall s (strut c).below → AllByRecursion (IsInlineSmall c own rise s) opened → AllByRecursion (IsItemSmall c own rise s) items
      → IsLineTall opened items
  line-tall opened items sa sb o a =
      let f = λ (at : ℕ). (extent_in_line c at).above in
      let g = λ (at : ℕ). (extent_in_line c at).below in
      let high = highest (strut c).above items sa a in
      let top = greatest_from (strut c).above (aboves items) in
      let same : above_of opened items ≡ greatest_from top (map f opened) = ap (greatest_from (strut c).above) (map-append f opened (extended_boxes items)) ∙ greatest-append (strut c).above (map f opened) (aboves items) in
      let up = start_below_greatest top (map f opened) in
      let within = greatest-small s f top opened (All-implied (IsInlineSmall c own rise s) (λ k. IsSmall s (f k)) opened (λ k i. i.above) o) in
      let from = high.from in
      let to = high.to in
      let above = greatest_from top (map f opened) in
      let each = All-implied (IsItemBelow top (rises items)) (IsItemBelow above (rises items)) items (λ i k. item-open top (rises items) above i up within k) high.each in
      let most = pos ((rises items).down + 5 * s) in
      let split : below_of opened items ≡ greatest_from (greatest_from (strut c).below (belows items)) (map g opened) = ap (greatest_from (strut c).below) (map-append g opened (extended_boxes items)) ∙ greatest-append (strut c).below (map g opened) (belows items) in
      let inner = greatest_from-least (strut c).below (belows items) (most -ℤ above) (omega (arith, ints, clamps, sb)) (belows-to above most (rises items) items (omega (arith, ints, clamps)) (omega (arith, ints)) each) in
      let outer = greatest-small s g (greatest_from (strut c).below (belows items)) opened (All-implied (IsInlineSmall c own rise s) (λ k. IsSmall s (g k)) opened (λ k i. i.below) o) in
      let start = start_below_greatest (strut c).below (belows items) in
      let more = start_below_greatest (greatest_from (strut c).below (belows items)) (map g opened) in
      record {
        from = rw same (omega (arith, ints));
        to = rw same (omega (arith, ints, clamps));
        low = rw (same, split) (omega (arith, ints, sb));
        tall = rw (same, split) (omega (arith, ints, clamps));
        each = subst (λ z. AllByRecursion (IsItemBelow z (rises items)) items) (sym same) each;
      }

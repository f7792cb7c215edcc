use Rattle.std.proofs.Common.{◌≡◌, ℕ, ◌<◌, ◌≤◌, Bool, true, false, nat_lt, List, [], ◌∷◌, ◌++◌, filter, length, Option, Some, None, slice_get, IsTrue, refl, ◌∙◌, ap, arith}
use Rattle.std.specs.Prelude.{◌&&◌, ◌==◌}
use Rattle.std.specs.List.{list_all, AllByRecursion}
use Rattle.std.specs.Option.{option_map_or, option_and_then}
use Rattle.std.proofs.lemmas.Bool.Decides.{nat_tests}
use Rattle.std.proofs.lemmas.Option.{slice_get_within}
use Rattle.viz_base.specs.Trees.{IsBoxTree, ascends, box_passes, is_kid_of}
use Rattle.viz_base.specs.declared.fonts.Font.{Font}
use Rattle.viz_base.specs.declared.styles.Style.{Style}
use Rattle.viz_base.specs.declared.trees.BoxNode.{BoxNode}
use Rattle.layout_semantics.specs.Order.{kids_of}
use Rattle.layout_semantics.specs.Blocks.{parent_of}

-- the box `kid` may be in the box `at`
pub record IsKid (boxes : List BoxNode) (at kid : ℕ) : Type 0 where
  pub after : at < kid
  pub within : kid < length boxes
  pub parent : parent_of boxes kid ≡ Some at

-- what layout needs to know of how boxes lie in one another
pub record IsForest (boxes : List BoxNode) : Type 0 where
  pub kids : (at : ℕ) → AllByRecursion (IsKid boxes at) (kids_of boxes at)
  pub rising : (at : ℕ) → IsTrue (ascends at (kids_of boxes at))

pub both : (a b : Bool) → IsTrue (a && b) → IsTrue a × IsTrue b
both true b t = (refl, t)
both false b t = absurd (cc)

named : (boxes : List BoxNode) (at kid : ℕ) (o : Option BoxNode) → slice_get boxes kid ≡ o → IsTrue (option_map_or (is_kid_of at) o false) → (kid < length boxes) × (parent_of boxes kid ≡ Some at)
named boxes at kid None e t = absurd (cc)
named boxes at kid (Some b) e t =
    (slice_get_within boxes kid b e, ap (option_and_then (λ (b : BoxNode). b.parent)) e ∙ by_parent b.parent t)
  where
    by_parent : (p : Option ℕ) → IsTrue (option_map_or (λ p. p == at) p false) → p ≡ Some at
    by_parent None t = absurd (cc)
    by_parent (Some q) t = let same : q ≡ at = grind (arith, nat_tests) in ap Some same

kids_in : (boxes : List BoxNode) (at low : ℕ) (ks : List ℕ) → ((k : ℕ) → low < k → at < k) → IsTrue (ascends low ks) → IsTrue (list_all (box_passes (is_kid_of at) boxes) ks) → AllByRecursion (IsKid boxes at) ks
kids_in boxes at low [] above r n = tt
kids_in boxes at low (k ∷ ks) above r n =
    let rising = both (nat_lt low k) (ascends k ks) r in
    let names = both (box_passes (is_kid_of at) boxes k) (list_all (box_passes (is_kid_of at) boxes) ks) n in
    let here = named boxes at k (slice_get boxes k) refl names.0 in
    let first : low < k = grind (arith, nat_tests, rising.0) in (
      record { after = above k first; within = here.0; parent = here.1 },
      kids_in boxes at k ks (λ j l. above j (omega arith)) rising.1 names.1,
    )

pub IsForest-from : (boxes : List BoxNode) (styles : List Style) (fonts : List Font) (parents : List (Option ℕ)) → IsBoxTree boxes styles fonts parents → IsForest boxes
IsForest-from boxes styles fonts parents tree = record {
  kids = λ at. by_box at (slice_get boxes at) refl;
  rising = λ at. rising_box at (slice_get boxes at) refl;
}
  where
    by_box : (at : ℕ) (o : Option BoxNode) → slice_get boxes at ≡ o → AllByRecursion (IsKid boxes at) (option_map_or (λ (b : BoxNode). b.kids) o [])
    by_box at None e = tt
    by_box at (Some b) e = let own = tree.each at b e in kids_in boxes at at b.kids (λ k l. l) own.ascending own.named

    rising_box : (at : ℕ) (o : Option BoxNode) → slice_get boxes at ≡ o → IsTrue (ascends at (option_map_or (λ (b : BoxNode). b.kids) o []))
    rising_box at None e = refl
    rising_box at (Some b) e = (tree.each at b e).ascending

-- ---- boxes in the same parent

-- what ascends past a number is past it
pub ascends-mid : (low : ℕ) (done : List ℕ) (k : ℕ) (ks : List ℕ) → IsTrue (ascends low (done ++ k ∷ ks)) → low < k
ascends-mid low [] k ks r = let first = (both (nat_lt low k) (ascends k ks) r).0 in grind (arith, nat_tests)
ascends-mid low (d ∷ done) k ks r =
    let parts = both (nat_lt low d) (ascends d (done ++ k ∷ ks)) r in
    let first : low < d = grind (arith, nat_tests, parts.0) in
    let rest = ascends-mid d done k ks parts.1 in
    omega arith

filter-none : (k low : ℕ) (ks : List ℕ) → k ≤ low → IsTrue (ascends low ks) → filter (λ j. nat_lt j k) ks ≡ []
filter-none k low [] l r = refl
filter-none k low (j ∷ ks) l r =
    let parts = both (nat_lt low j) (ascends j ks) r in
    let first : low < j = grind (arith, nat_tests, parts.0) in
    let past : nat_lt j k ≡ false = grind (arith, nat_tests) in
    let rest = filter-none k j ks (omega arith) parts.1 in
    rw past rest

-- those before one of them
pub filter-before : (low : ℕ) (done : List ℕ) (k : ℕ) (ks : List ℕ) → IsTrue (ascends low (done ++ k ∷ ks)) → filter (λ j. nat_lt j k) (done ++ k ∷ ks) ≡ done
filter-before low [] k ks r =
    let parts = both (nat_lt low k) (ascends k ks) r in
    let itself : nat_lt k k ≡ false = grind (arith, nat_tests) in
    rw itself (filter-none k k ks (omega arith) parts.1)
filter-before low (d ∷ done) k ks r =
    let parts = both (nat_lt low d) (ascends d (done ++ k ∷ ks)) r in
    let first = ascends-mid d done k ks parts.1 in
    let before : nat_lt d k ≡ true = grind (arith, nat_tests) in
    rw before (ap (λ (l : List ℕ). d ∷ l) (filter-before d done k ks parts.1))

pub ascends-each : (low : ℕ) (ks : List ℕ) → IsTrue (ascends low ks) → AllByRecursion (λ k. low < k) ks
ascends-each low ks r = from_below low low ks (λ k l. l) r
  where
    from_below : (base low : ℕ) (ks : List ℕ) → ((k : ℕ) → low < k → base < k) → IsTrue (ascends low ks) → AllByRecursion (λ k. base < k) ks
    from_below base low [] above r = tt
    from_below base low (k ∷ ks) above r =
        let parts = both (nat_lt low k) (ascends k ks) r in
        let first : low < k = grind (arith, nat_tests, parts.0) in
        (above k first, from_below base k ks (λ j l. above j (omega arith)) parts.1)

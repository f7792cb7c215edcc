-- Boxes that are named one after another in the boxes that they are in hold what those of a page do.
use Rattle.std.proofs.Common.{◌≡◌, ◌≢◌, ℕ, zero, suc, ◌<◌, ◌≤◌, nat_lt, Bool, true, false, List, [], ◌∷◌, ◌++◌, map, take, length, Option, Some, None, slice_get, refl, sym, ◌∙◌, ap, subst, arith, take_all, lt-ltb, ltb-true, inl, inr, ◌⊎◌, filter, if◌then◌else◌, Contains}
use Rattle.std.proofs.lemmas.Map.Made.{Contains-tail}
use Rattle.std.proofs.lemmas.List.{length-map, length-take-le, map-append}
use Rattle.std.proofs.lemmas.Bool.{cases_eq, le-ltb, ltb-false}
use Rattle.std.proofs.lemmas.Option.{slice_get_within}
use Rattle.viz_base.specs.declared.trees.BoxNode.{BoxNode}
use Rattle.viz_base.proofs.ListLemmas.{slice_some, rises_from, later_member}
use Rattle.viz_base.specs.Orders.{Rises}
use Rattle.layout_laws.proofs.Members.{no_member, first_member}
use Rattle.page_boxes.proofs.Lists.{with_all_append}
use Rattle.page_boxes.specs.steps.Places.{with_all, with_box, with_kid_at, with_kid_in}

-- a box without the places of those in it, and with those before a place
abbrev pub bare : BoxNode → BoxNode
bare b = record b { kids = [] }

abbrev below : ℕ → List ℕ → List ℕ
below m ks = filter (λ k. nat_lt k m) ks

abbrev partial : ℕ → BoxNode → BoxNode
partial m b = record b { kids = below m b.kids }

none_below : (low m : ℕ) (ks : List ℕ) → Rises low ks → m ≤ low → below m ks ≡ []
none_below low m [] r l = refl
none_below low m (k ∷ ks) r l =
    let lower = r.0 in
    ap (λ t. if t then k ∷ below m ks else below m ks) (le-ltb k m (omega (arith, l, lower))) ∙ none_below (suc k) m ks r.1 (omega (arith, l, lower))

-- a place that is none of the kids changes nothing
below_same : (m : ℕ) (ks : List ℕ) → (Contains ks m → ⊥) → below m ks ≡ below (suc m) ks
below_same m [] f = refl
below_same m (k ∷ ks) f = ap (λ t. if t then k ∷ below m ks else below m ks) (by_place (cases_eq k m)) ∙ ap (λ l. if nat_lt k (suc m) then k ∷ l else l) (below_same m ks (λ i. f (later_member _ i)))
  where
    by_less : (t : Bool) → nat_lt k m ≡ t → k ≢ m → nat_lt k m ≡ nat_lt k (suc m)
    by_less true e ne = let lower = ltb-true k m e in e ∙ sym (lt-ltb k (suc m) (omega (arith, lower)))
    by_less false e ne = let higher = ltb-false k m e in e ∙ sym (le-ltb k (suc m) (omega (arith, higher, ne)))

    by_place : (k ≡ m) ⊎ (k ≢ m) → nat_lt k m ≡ nat_lt k (suc m)
    by_place (inl e) = absurd (f (first_member ks e))
    by_place (inr ne) = by_less (nat_lt k m) refl ne

-- one that is one of them comes last
below_more : (low m : ℕ) (ks : List ℕ) → Rises low ks → Contains ks m → below m ks ++ m ∷ [] ≡ below (suc m) ks
below_more low m [] r i = no_member i
below_more low m (k ∷ ks) r i = by_place (cases_eq k m) (λ j. below_more (suc k) m ks r.1 j) i
  where
    by_place : (k ≡ m) ⊎ (k ≢ m) → (Contains ks m → below m ks ++ m ∷ [] ≡ below (suc m) ks) → Contains (k ∷ ks) m → below m (k ∷ ks) ++ m ∷ [] ≡ below (suc m) (k ∷ ks)
    by_place (inl e) again i =
        ap (λ t. (if t then k ∷ below m ks else below m ks) ++ m ∷ []) (le-ltb k m (omega (arith, e)))
        ∙ (ap (λ l. l ++ m ∷ []) (none_below (suc k) m ks r.1 (omega (arith, e)))
        ∙ (ap (λ j. j ∷ []) (sym e)
        ∙ (ap (λ l. k ∷ l) (sym (none_below (suc k) (suc m) ks r.1 (omega (arith, e))))
        ∙ ap (λ t. if t then k ∷ below (suc m) ks else below (suc m) ks) (sym (lt-ltb k (suc m) (omega (arith, e)))))))
    by_place (inr ne) again i =
        let j = Contains-tail k ks m ne i in
        let lower : k < m = let up = rises_from (suc k) ks m r.1 j in omega (arith, up) in
        ap (λ t. (if t then k ∷ below m ks else below m ks) ++ m ∷ []) (lt-ltb k m lower)
        ∙ (ap (λ l. k ∷ l) (again j)
        ∙ ap (λ t. if t then k ∷ below (suc m) ks else below (suc m) ks) (sym (lt-ltb k (suc m) (omega (arith, lower)))))

all_below : (m : ℕ) (ks : List ℕ) → ((k : ℕ) → Contains ks k → k < m) → below m ks ≡ ks
all_below m [] f = refl
all_below m (k ∷ ks) f = ap (λ t. if t then k ∷ below m ks else below m ks) (lt-ltb k m (f k (first_member _ refl))) ∙ ap (λ l. k ∷ l) (all_below m ks (λ j i. f j (later_member _ i)))

-- ---- lists of boxes

others_same : (m : ℕ) (bs : List BoxNode) → ((j : ℕ) (b : BoxNode) → slice_get bs j ≡ Some b → Contains b.kids m → ⊥) → map (partial m) bs ≡ map (partial (suc m)) bs
others_same m [] f = refl
others_same m (b ∷ bs) f =
    ap (λ ks. record b { kids = ks } ∷ map (partial m) bs) (below_same m b.kids (f 0 b refl))
    ∙ ap (λ l. partial (suc m) b ∷ l) (others_same m bs (λ j c e. f (suc j) c e))

one_more : (m at : ℕ) (bs : List BoxNode) (low : ℕ → ℕ) → ((j : ℕ) (b : BoxNode) → slice_get bs j ≡ Some b → Rises (low j) b.kids) → ((j : ℕ) (b : BoxNode) → slice_get bs j ≡ Some b → Contains b.kids m → j ≡ at)
    → ((b : BoxNode) → slice_get bs at ≡ Some b → Contains b.kids m) → with_kid_at at m (map (partial m) bs) ≡ map (partial (suc m)) bs
one_more m at [] low r f g = refl
one_more m zero (b ∷ bs) low r f g =
    ap (λ ks. record b { kids = ks } ∷ map (partial m) bs) (below_more (low 0) m b.kids (r 0 b refl) (g b refl))
    ∙ ap (λ l. partial (suc m) b ∷ l) (others_same m bs (λ j c e i. absurd (let p = f (suc j) c e i in omega (arith, p))))
one_more m (suc at) (b ∷ bs) low r f g =
    ap (λ ks. record b { kids = ks } ∷ with_kid_at at m (map (partial m) bs)) (below_same m b.kids (λ i. absurd (let p = f 0 b refl i in omega (arith, p))))
    ∙ ap (λ l. partial (suc m) b ∷ l) (one_more m at bs (λ j. low (suc j)) (λ j c e. r (suc j) c e) (λ j c e i. let p = f (suc j) c e i in omega (arith, p)) (λ c e. g c e))

-- ---- the boxes of a page

pub record AreNested (boxes : List BoxNode) : Type 0 where
  pub rise : (at : ℕ) (b : BoxNode) → slice_get boxes at ≡ Some b → Rises (suc at) b.kids
  pub name : (at k : ℕ) (b : BoxNode) → slice_get boxes at ≡ Some b → Contains b.kids k → (c : BoxNode) × (slice_get boxes k ≡ Some c) × (c.parent ≡ Some at)
  pub inside : (k at : ℕ) (c : BoxNode) → slice_get boxes k ≡ Some c → c.parent ≡ Some at → (b : BoxNode) × (slice_get boxes at ≡ Some b) × Contains b.kids k

module _ (boxes : List BoxNode) (nested : AreNested boxes) where
  -- the front of the list
  front_get : (m j : ℕ) (xs : List BoxNode) (b : BoxNode) → slice_get (take m xs) j ≡ Some b → (slice_get xs j ≡ Some b) × (j < m)
  front_get zero j xs b e = absurd (cc)
  front_get (suc m) j [] b e = absurd (cc)
  front_get (suc m) zero (x ∷ xs) b e = (e, omega arith)
  front_get (suc m) (suc j) (x ∷ xs) b e = let r = front_get m j xs b e in (r.0, let l = r.1 in omega (arith, l))

  front_next : (m : ℕ) (xs : List BoxNode) (b : BoxNode) → slice_get xs m ≡ Some b → take (suc m) xs ≡ take m xs ++ b ∷ []
  front_next m [] b e = absurd (cc)
  front_next zero (x ∷ xs) b e = let same : x ≡ b = cc in ap (λ y. y ∷ []) same
  front_next (suc m) (x ∷ xs) b e = ap (λ l. x ∷ l) (front_next m xs b e)

  length_front : (m : ℕ) (xs : List BoxNode) → m ≤ length xs → length (map (partial m) (take m xs)) ≡ m
  length_front m xs l = length-map (take m xs) (partial m) ∙ length-take-le m xs l

  some_same : {x y : BoxNode} → Some x ≡ Some y → x ≡ y
  some_same e = cc

  named_here : (m : ℕ) (c : BoxNode) → slice_get boxes m ≡ Some c → with_kid_in c.parent m (map (partial m) (take m boxes)) ≡ map (partial (suc m)) (take m boxes)
  named_here m c e = by_parent c.parent refl
    where
      by_parent : (o : Option ℕ) → c.parent ≡ o → with_kid_in o m (map (partial m) (take m boxes)) ≡ map (partial (suc m)) (take m boxes)
      by_parent None p = others_same m (take m boxes) (λ j b f i.
          let there = front_get m j boxes b f in
          let up = nested.name j m b there.0 i in
          let same : c ≡ up.0 = some_same (sym e ∙ up.1) in
          let none : None ≡ Some j = sym p ∙ ap (λ (x : BoxNode). x.parent) same ∙ up.2 in
          absurd (cc))
      by_parent (Some at) p =
          one_more m at (take m boxes) (λ j. suc j) (λ j b f. nested.rise j b (front_get m j boxes b f).0)
          (λ j b f i.
          let there = front_get m j boxes b f in
          let up = nested.name j m b there.0 i in
          let same : c ≡ up.0 = some_same (sym e ∙ up.1) in
          let both : Some at ≡ Some j = sym p ∙ ap (λ (x : BoxNode). x.parent) same ∙ up.2 in
          let place : at ≡ j = cc in
          sym place)
          (λ b f.
          let there = front_get m at boxes b f in
          let up = nested.inside m at c e p in
          let same : up.0 ≡ b = some_same (sym up.1 ∙ there.0) in
          subst (λ (x : BoxNode). Contains x.kids m) same up.2)

  built_to : (m : ℕ) → m ≤ length boxes → with_all [] (map bare (take m boxes)) ≡ map (partial m) (take m boxes)
  built_to zero l = refl
  built_to (suc m) l =
      let c = slice_some boxes m l in
      let next = front_next m boxes c.0 c.1 in
      let size = length_front m boxes (omega (arith, l)) in
      ap (λ l. with_all [] (map bare l)) next
      ∙ (ap (with_all []) (map-append bare (take m boxes) (c.0 ∷ []))
      ∙ (with_all_append [] (map bare (take m boxes)) (bare c.0 ∷ [])
      ∙ (ap (λ l. with_box l (bare c.0)) (built_to m (omega (arith, l)))
      ∙ (ap (λ k. with_kid_in c.0.parent k (map (partial m) (take m boxes)) ++ bare c.0 ∷ []) size
      ∙ (ap (λ l. l ++ bare c.0 ∷ []) (named_here m c.0 c.1)
      ∙ (ap (λ ks. map (partial (suc m)) (take m boxes) ++ record c.0 { kids = ks } ∷ []) (sym (none_below (suc m) (suc m) c.0.kids (nested.rise m c.0 c.1) (omega arith)))
      ∙ (sym (map-append (partial (suc m)) (take m boxes) (c.0 ∷ [])) ∙ ap (map (partial (suc m))) (sym next))))))))

  whole_kids : (n : ℕ) (bs : List BoxNode) → ((j : ℕ) (b : BoxNode) → slice_get bs j ≡ Some b → (k : ℕ) → Contains b.kids k → k < n) → map (partial n) bs ≡ bs
  whole_kids n [] f = refl
  whole_kids n (b ∷ bs) f = ap (λ ks. record b { kids = ks } ∷ map (partial n) bs) (all_below n b.kids (f 0 b refl)) ∙ ap (λ l. b ∷ l) (whole_kids n bs (λ j c e. f (suc j) c e))

  pub built : with_all [] (map bare boxes) ≡ boxes
  built =
      let whole = take_all (length boxes) boxes (omega arith) in
      ap (λ l. with_all [] (map bare l)) (sym whole)
      ∙ (built_to (length boxes) (omega arith)
      ∙ (ap (map (partial (length boxes))) whole
      ∙ whole_kids (length boxes) boxes (λ j b e k i. slice_get_within boxes k (nested.name j k b e i).0 (nested.name j k b e i).1)))

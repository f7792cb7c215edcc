use Rattle.std.proofs.Common.{◌≡◌, ℕ, ◌+◌, ◌<◌, ◌≤◌, ℤ, Bool, true, false, not, ◌&&◌, ◌||◌, List, [], ◌∷◌, take, length, slice_get, Option, Some, None, refl, ap, sym, ◌∙◌, rules, arith, zero-add}
use Rattle.std.specs.Option.{option_map, option_map_or}
use Rattle.std.specs.List.{list_all, list_any, range_with_len}
use Rattle.std.specs.Borrow.{Bor}
use Rattle.std.proofs.lemmas.Option.{slice_get-map}
use Rattle.std.proofs.lemmas.List.{length-map, take_all}
use Rattle.std.proofs.lemmas.List.Folds.{list_any_more, list_any_at}
use Rattle.std.proofs.lemmas.List.FromFn.{length-range_with_len, get_or-range_with_len}
use Rattle.viz_base.specs.declared.formulas.Set.{Set}
use Rattle.viz_base.specs.declared.formulas.Formula.{Formula}
use Rattle.viz_base.specs.declared.formulas.Formula.TheVariants.{Forall, Exists}
use Rattle.viz_base.specs.declared.renderings.Placed.{Placed}
use Rattle.viz_base.specs.declared.renderings.Rendering.{Rendering}
use Rattle.viz_calc.specs.World.{Reading}
use Rattle.viz_calc.specs.Renderings.{placed_at}
use Rattle.logic_semantics.specs.Scenes.{is_member, is_member_at}
use Rattle.logic_semantics.specs.Truth.{truth_in}
use Rattle.logic_semantics.proofs.Members.{list_all-filter, list_any-filter}
use Rattle.logic_semantics.proofs.Meanings.{truth-Forall, truth-Exists}
use Rattle.vis_truth.specs.Names.{places_of}
use Rattle.vis_truth.specs.Scenes.{scene_at, is_witness}
use Rattle.vis_truth.specs.declared.names.Names.{Names}
use Rattle.vis_truth.specs.declared.names.Names.TheVariants.{Inner}
use Rattle.vis_truth.specs.declared.names.Names.TheViews.{the_lemmas}
use Rattle.vis_truth.specs.declared.names.Names.TheFolds.{fold-roll-Names, fold_out-Names}

pub places-Inner : (place : ℕ) (outer : Bor Names) → places_of (Inner place outer) ≡ place ∷ places_of outer.now
places-Inner place outer = search (rules, the_lemmas, fold-roll-Names, fold_out-Names)

-- ---- members at a reading

member-option : {N : Type 0} (at : N → Reading → ℤ) (e : Reading) (set : Set) (o : Option (Placed N))
    → option_map_or (λ b. is_member set b.kind b.node) (option_map (λ p. placed_at at p e) o) false ≡ option_map_or (λ b. is_member set b.kind b.node) o false
member-option at e set None = refl
member-option at e set (Some b) = refl

-- a reading changes no member
pub member-at : {N : Type 0} (at : N → Reading → ℤ) (r : Rendering N) (e : Reading) (set : Set) (m : ℕ)
    → is_member_at set (scene_at at r e).boxes m ≡ is_member_at set r.boxes m
member-at at r e set m =
    ap (λ (o : Option (Placed ℤ)). option_map_or (λ b. is_member set b.kind b.node) o false) (slice_get-map (λ p. placed_at at p e) r.boxes m)
    ∙ member-option at e set (slice_get r.boxes m)

-- ---- tests of the numbers of a range, as far as a loop has come

pub any_more : (p : ℕ → Bool) (n i : ℕ) → list_any p (take i (range_with_len 0 n)) ≡ false → i < n → p i ≡ false → list_any p (take (i + 1) (range_with_len 0 n)) ≡ false
any_more p n i before lt here =
    let within : i < length (range_with_len 0 n) = omega (arith, length-range_with_len 0 n) in
    list_any_more p (range_with_len 0 n) i 0 within ∙ rw (before, get_or-range_with_len 0 n i 0 lt, zero-add) here

pub any_none : (p : ℕ → Bool) (n i : ℕ) → list_any p (take i (range_with_len 0 n)) ≡ false → n ≤ i → list_any p (range_with_len 0 n) ≡ false
any_none p n i before le = let whole : length (range_with_len 0 n) ≤ i = omega (arith, length-range_with_len 0 n) in rw take_all at before

pub any_found : (p : ℕ → Bool) (n i : ℕ) → i < n → p i ≡ true → list_any p (range_with_len 0 n) ≡ true
any_found p n i lt here = list_any_at p (range_with_len 0 n) i 0 (omega (arith, length-range_with_len 0 n)) (rw (get_or-range_with_len 0 n i 0 lt, zero-add) here)

-- ---- quantifiers as searches for a witness

no_counterexample : (q p : ℕ → Bool) (xs : List ℕ) → not (list_any (λ x. q x && not (p x)) xs) ≡ list_all (λ x. not (q x) || p x) xs
no_counterexample q p [] = refl
no_counterexample q p (x ∷ xs) = by_cases (q x) (p x) (no_counterexample q p xs)
  where
    by_cases : (a b : Bool) → not (list_any (λ x. q x && not (p x)) xs) ≡ list_all (λ x. not (q x) || p x) xs
        → not ((a && not b) || list_any (λ x. q x && not (p x)) xs) ≡ ((not a || b) && list_all (λ x. not (q x) || p x) xs)
    by_cases true true rest = rest
    by_cases true false rest = refl
    by_cases false b rest = rest

pub forall-witness : {N : Type 0} (at : N → Reading → ℤ) (r : Rendering N) (e : Reading) (set : Set) (body : Formula) (names : List ℕ)
    → not (list_any (is_witness (scene_at at r e) set body false names) (range_with_len 0 (length r.boxes))) ≡ truth_in (scene_at at r e) (Forall set body) names
forall-witness at r e set body names =
    let scene = scene_at at r e in
    no_counterexample (is_member_at set scene.boxes) (λ m. truth_in scene body (m ∷ names)) (range_with_len 0 (length r.boxes))
    ∙ ap (λ n. list_all (λ m. not (is_member_at set scene.boxes m) || truth_in scene body (m ∷ names)) (range_with_len 0 n)) (sym (length-map r.boxes (λ p. placed_at at p e)))
    ∙ sym (list_all-filter (λ m. truth_in scene body (m ∷ names)) (is_member_at set scene.boxes) (range_with_len 0 (length scene.boxes)))
    ∙ sym (truth-Forall scene set body names)

pub exists-witness : {N : Type 0} (at : N → Reading → ℤ) (r : Rendering N) (e : Reading) (set : Set) (body : Formula) (names : List ℕ)
    → list_any (is_witness (scene_at at r e) set body true names) (range_with_len 0 (length r.boxes)) ≡ truth_in (scene_at at r e) (Exists set body) names
exists-witness at r e set body names =
    let scene = scene_at at r e in
    ap (λ n. list_any (λ m. is_member_at set scene.boxes m && truth_in scene body (m ∷ names)) (range_with_len 0 n)) (sym (length-map r.boxes (λ p. placed_at at p e)))
    ∙ sym (list_any-filter (λ m. truth_in scene body (m ∷ names)) (is_member_at set scene.boxes) (range_with_len 0 (length scene.boxes)))
    ∙ sym (truth-Exists scene set body names)

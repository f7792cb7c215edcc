-- Parts of a range.
use Rattle.std.proofs.Common.{◌≡◌, ℕ, ◌+◌, ◌-◌, ◌<◌, ◌≤◌, Bool, true, ◌||◌, List, [], ◌∷◌, cond, refl, ap, sym, ◌∙◌, arith}
use Rattle.std.specs.Prelude.{count_by}
use Rattle.std.specs.List.{flat_map, list_any}
use Rattle.std.proofs.lemmas.List.Folds.{list_any-append}
use Rattle.viz_base.specs.declared.sheets.Feature.{Feature}
use Rattle.viz_base.specs.declared.worlds.Rect.{Rect}
use Rattle.viz_base.specs.declared.worlds.World.{World}
use Rattle.viz_base.specs.Worlds.{IsInRange}
use Rattle.logic_semantics.proofs.Members.{range_of_some}
use Rattle.page_media.specs.Parts.{numbers, parts_of, row_of, same_signs, signs_at}
use Rattle.page_media.proofs.Lists.{any-map, noted_all-any, noted_all-once, some_of_range}
use Rattle.page_media.proofs.Sameness.{signs-equal, signs-itself}

-- whether signs are those of some world of the range
abbrev found_in : List Feature → Rect → List Bool → Bool
found_in features range signs =
    list_any (λ w. list_any (λ s. same_signs signs (signs_at features w s)) (numbers range.sl range.sh)) (numbers range.wl range.wh)

row-found : (features : List Feature) (range : Rect) (signs : List Bool) (ws : List ℕ)
    → list_any (same_signs signs) (flat_map (row_of features range) ws)
    ≡ list_any (λ w. list_any (λ s. same_signs signs (signs_at features w s)) (numbers range.sl range.sh)) ws
row-found features range signs [] = refl
row-found features range signs (w ∷ ws) =
    list_any-append (same_signs signs) (row_of features range w) (flat_map (row_of features range) ws)
    ∙ (ap (λ b. b || list_any (same_signs signs) (flat_map (row_of features range) ws)) (any-map (same_signs signs) (signs_at features w) (numbers range.sl range.sh))
    ∙ ap (λ b. list_any (λ s. same_signs signs (signs_at features w s)) (numbers range.sl range.sh) || b) (row-found features range signs ws))

parts-found : (features : List Feature) (range : Rect) (signs : List Bool) → list_any (same_signs signs) (parts_of features range) ≡ found_in features range signs
parts-found features range signs =
    noted_all-any same_signs signs-equal signs [] (flat_map (row_of features range) (numbers range.wl range.wh))
    ∙ row-found features range signs (numbers range.wl range.wh)

pub one-part : (features : List Feature) (range : Rect) (world : World) → IsInRange range world
    → count_by (same_signs (signs_at features world.w world.s)) (parts_of features range) ≡ 1
one-part features range world within =
    let signs = signs_at features world.w world.s in
    let in_row : list_any (λ s. same_signs signs (signs_at features world.w s)) (numbers range.sl range.sh) ≡ true =
    range_of_some (λ s. same_signs signs (signs_at features world.w s)) range.sl (range.sh + 1 - range.sl) world.s within.size_least
    (let l = within.size_most in let k = within.size_least in omega arith) (signs-itself signs) in
    let found : found_in features range signs ≡ true =
    range_of_some (λ w. list_any (λ s. same_signs signs (signs_at features w s)) (numbers range.sl range.sh)) range.wl (range.wh + 1 - range.wl) world.w within.width_least
    (let l = within.width_most in let k = within.width_least in omega arith) in_row in
    noted_all-once same_signs signs-equal signs [] (flat_map (row_of features range) (numbers range.wl range.wh)) refl
    ∙ ap (λ b. cond b 1 0) (parts-found features range signs ∙ found)

pub some-world : (features : List Feature) (range : Rect) (signs : List Bool) → range.hl ≤ range.hh → list_any (same_signs signs) (parts_of features range) ≡ true
    → (world : World) × IsInRange range world × (signs ≡ signs_at features world.w world.s)
some-world features range signs heights h =
    let found : found_in features range signs ≡ true = sym (parts-found features range signs) ∙ h in
    let at_w = some_of_range (λ w. list_any (λ s. same_signs signs (signs_at features w s)) (numbers range.sl range.sh)) range.wl (range.wh + 1 - range.wl) found in
    let at_s = some_of_range (λ s. same_signs signs (signs_at features at_w.0 s)) range.sl (range.sh + 1 - range.sl) at_w.1.1.1 in
    let w_least : range.wl ≤ at_w.0 = at_w.1.0 in
    let w_most : at_w.0 < range.wl + (range.wh + 1 - range.wl) = at_w.1.1.0 in
    let s_least : range.sl ≤ at_s.0 = at_s.1.0 in
    let s_most : at_s.0 < range.sl + (range.sh + 1 - range.sl) = at_s.1.1.0 in (
      record { w = at_w.0; s = at_s.0; h = range.hl },
      record {
        width_least = w_least;
        width_most = omega arith;
        size_least = s_least;
        size_most = omega arith;
        height_least = omega arith;
        height_most = heights;
      },
      signs-equal signs (signs_at features at_w.0 at_s.0) at_s.1.1.1,
    )

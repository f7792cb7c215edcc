-- Laws of width queries.
use Rattle.std.specs.Prelude.{◌≡◌, ℕ, ◌<◌, ◌≤◌, ◌^◌, Bool, ◌||◌, not, ◌↔◌, List, length, IsTrue, Ok, Err, Result}
use Rattle.std.specs.List.{count_by, list_any}
use Rattle.viz_base.specs.declared.formulas.Formula.{Formula}
use Rattle.viz_base.specs.declared.sheets.Feature.{Feature}
use Rattle.viz_base.specs.declared.sheets.Sheet.{Sheet}
use Rattle.viz_base.specs.declared.renderings.Rendering.{Rendering}
use Rattle.viz_base.specs.declared.worlds.Rect.{Rect}
use Rattle.viz_base.specs.declared.worlds.World.{World}
use Rattle.std.specs.Prelude.{ℤ}
use Rattle.viz_base.specs.Worlds.{IsInRange}
use Rattle.logic_semantics.specs.Scenes.{scene_of}
use Rattle.logic_semantics.specs.Truth.{truth}
use Rattle.page_media.specs.Queries.{is_met, met_sheets}
use Rattle.page_media.specs.Features.{asked, features_of}
use Rattle.page_media.specs.Parts.{signs_at, same_signs, parts_of, sign_of}
use Rattle.page_media.specs.Guards.{guarded}

-- an answer is all that is asked for, where this is at most 16 features, and is none where these are more
abbrev pub AreAll : {P : Type 0} → List Feature → Result (List Feature) P → Type 0
AreAll all (Ok features) = (features ≡ all) × (length features ≤ 16)
AreAll all (Err place) = 16 < length all

abbrev pub FeaturesAreAll : Type 0
FeaturesAreAll = (sheets : List Sheet) → AreAll (asked sheets) (features_of sheets)

-- a world of the range has exactly one of its parts' sign lists
abbrev pub EachWorldHasOnePart : Type 0
EachWorldHasOnePart = (features : List Feature) (range : Rect) (world : World) → IsInRange range world
    → count_by (same_signs (signs_at features world.w world.s)) (parts_of features range) ≡ 1

-- and the sign lists of the parts are all of some world of the range
abbrev pub EachPartHasAWorld : Type 0
EachPartHasAWorld = (features : List Feature) (range : Rect) (signs : List Bool) → range.hl ≤ range.hh
    → IsTrue (list_any (same_signs signs) (parts_of features range))
    → (world : World) × IsInRange range world × (signs ≡ signs_at features world.w world.s)

-- sign lists are the same where they are equal
abbrev pub SameSignsAreEqual : Type 0
SameSignsAreEqual = (a b : List Bool) → IsTrue (same_signs a b) ↔ (a ≡ b)

-- with the signs of a world, the rules that are chosen are those that are met at the world
abbrev pub ChosenAreMet : Type 0
ChosenAreMet = (sheets : List Sheet) (w s : ℕ)
    → met_sheets (sign_of (asked sheets) (signs_at (asked sheets) w s)) sheets ≡ met_sheets (is_met w s) sheets

-- a guarded formula is as true as the formula where the world has the signs, and true elsewhere
abbrev pub GuardedIsIf : Type 0
GuardedIsIf = (features : List Feature) (signs : List Bool) (formula : Formula) (rendering : Rendering ℤ) (world : World)
    → length signs ≡ length features → world.w < 2 ^ 32
    → truth (scene_of rendering world) (guarded features signs formula)
    ≡ (not (same_signs signs (signs_at features world.w world.s)) || truth (scene_of rendering world) formula)

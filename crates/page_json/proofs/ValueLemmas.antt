-- The elements of a list as values and as what they stand for.
use Rattle.std.proofs.Common.{◌≡◌, List, [], ◌∷◌, Some, refl, sym, ap, ◌∙◌, option_map}
use Rattle.std.specs.Prelude.{map}
use Rattle.serde_json.specs.declared.value.Value.{Value}
use Rattle.serde_json.specs.Data.{Data}
use Rattle.serde_json.specs.Find.{as_array}
use Rattle.serde_json.specs.View.{view, items_view}
use Rattle.page_json.specs.Values.{elements_in, list_of}

elements_in-items_view : (vs : List Value) → elements_in (items_view vs) ≡ map view vs
elements_in-items_view [] = refl
elements_in-items_view (v ∷ vs) = ap (λ ds. view v ∷ ds) (elements_in-items_view vs)

pub list_of_values : (d : Data) (vs ws : List Value) → Some (items_view vs) ≡ as_array d → ws ≡ vs → Some (map view ws) ≡ list_of d
list_of_values d vs ws e same =
    ap (λ us. Some (map view us)) same ∙ (ap Some (sym (elements_in-items_view vs)) ∙ ap (option_map elements_in) e)

-- What the code's references stand for, and its loops.
use Rattle.std.specs.Prelude.{List, [], ◌∷◌, map, set, get_or, Option, Some, None, if◌then◌else◌}
use Rattle.std.specs.Option.{option_to_list}
use Rattle.css_semantics.specs.declared.claims.Claim.{Claim}
use Rattle.std.specs.declared.cmp.Ordering.{Ordering}
use Rattle.viz_base.specs.declared.settings.Prop.{Prop}
use Rattle.css_semantics.specs.CascadeOrder.{Applied, applied, greatest, greatest_from, later_of, cascade_cmp, is_prop, place_of}
use Rattle.css_cascade.specs.declared.order.Applied.{Applied as Held}

-- what applies to a node, apart from where it lies in memory
abbrev pub seen : Held → Applied
seen a = applied a.spec a.claim.now

-- the winner so far behind one more setting
abbrev pub later_or : Option Applied → Applied → Applied
later_or None a = a
later_or (Some best) a = later_of cascade_cmp best a

abbrev pub winner_with : Prop → Option Applied → Applied → Option Applied
winner_with p best a = if is_prop a.claim.prop p then Some (later_or best a) else best

abbrev pub winner_on : Prop → Option Applied → List Applied → Option Applied
winner_on p best [] = best
winner_on p best (a ∷ all) = winner_on p (winner_with p best a) all

-- the winners by the places of their properties, behind one more setting
abbrev pub kept : List (Option Applied) → Applied → List (Option Applied)
kept best a = set best (place_of a.claim.prop) (Some (later_or (get_or best (place_of a.claim.prop) None) a))

abbrev pub kept_all : List (Option Applied) → List Applied → List (Option Applied)
kept_all best [] = best
kept_all best (a ∷ all) = kept_all (kept best a) all

abbrev pub claims_in : Option Applied → List Claim
claims_in o = map (λ a. a.claim) (option_to_list o)

-- the greatest so far and of the rest
abbrev pub greatest_on : {A : Type 0} → (A → A → Ordering) → Option A → List A → Option A
greatest_on cmp None xs = greatest cmp xs
greatest_on cmp (Some best) xs = Some (greatest_from cmp best xs)

-- The winners kept behind some settings, and the winners among all.
use Rattle.std.proofs.Common.{◌≡◌, ℕ, ◌<◌, zero, suc, List, [], ◌∷◌, ◌++◌, length, get_or, Option, refl, sym, ap, ◌∙◌, subst, arith}
use Rattle.std.specs.Prelude.{flat_map}
use Rattle.std.specs.List.{AllByRecursion}
use Rattle.css_semantics.specs.declared.claims.Claim.{Claim}
use Rattle.css_semantics.specs.CascadeNodes.{winners_of}
use Rattle.css_semantics.specs.CascadeOrder.{Applied}
use Rattle.css_semantics.specs.Properties.{properties}
use Rattle.css_cascade.specs.steps.Seen.{claims_in, kept, kept_all}
use Rattle.css_cascade.specs.steps.Trimming.{slots}
use Rattle.css_cascade.proofs.Slots.{claims_are, slots_are}

pub slots_behind : (best : List (Option Applied)) (xs ys : List Applied) → kept_all best (xs ++ ys) ≡ kept_all (kept_all best xs) ys
slots_behind best [] ys = refl
slots_behind best (x ∷ xs) ys = slots_behind (kept best x) xs ys

pub all_at : {A : Type 0} (P : A → Type 0) (xs : List A) (i : ℕ) (x : A) → i < length xs → x ≡ get_or xs i x → AllByRecursion P xs → P x
all_at P [] i x l e h = absurd (omega arith)
all_at P (y ∷ ys) zero x l e h = subst P (sym e) h.0
all_at P (y ∷ ys) (suc i) x l e h = all_at P ys i x (omega arith) e h.1

pub winners_are : (best : List (Option Applied)) (all : List Applied) (winners : List Claim) → best ≡ slots all → winners ≡ flat_map claims_in best → winners ≡ winners_of all
winners_are best all winners e w = w ∙ ap (flat_map claims_in) (e ∙ slots_are all) ∙ claims_are all properties

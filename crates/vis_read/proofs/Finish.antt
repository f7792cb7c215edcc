-- Each state can be read on from to the end of a formula.
use Rattle.std.proofs.Common.{◌≡◌, ℕ, Bool, true, false, List, [], ◌∷◌, Option, Some, None, refl, ◌∙◌, ap}
use Rattle.viz_base.specs.declared.formulas.Edge.TheVariants as of_edge
use Rattle.viz_base.specs.declared.formulas.Edge.TheVariants.{One}
use Rattle.viz_base.specs.declared.formulas.Ring.{Ring}
use Rattle.viz_base.specs.declared.formulas.Ring.TheVariants.{Border}
use Rattle.viz_base.specs.declared.formulas.Set.{Set}
use Rattle.vis_read.specs.declared.lexemes.Pair.{Pair}
use Rattle.vis_read.specs.declared.lexemes.Quantifier.{Quantifier}
use Rattle.viz_base.specs.declared.formulas.Formula.{Formula}
use Rattle.viz_base.specs.declared.formulas.Formula.TheVariants as of_formula
use Rattle.viz_base.specs.declared.formulas.Face.TheVariants.{Left}
use Rattle.viz_base.specs.declared.formulas.Set.TheVariants.{Every}
use Rattle.viz_base.specs.declared.formulas.Sign.TheVariants.{Lt}
use Rattle.viz_base.specs.declared.formulas.Summand.{Summand}
use Rattle.vis_read.specs.declared.lexemes.Lexeme.{Lexeme}
use Rattle.vis_read.specs.declared.lexemes.Lexeme.TheVariants as a
use Rattle.vis_read.specs.declared.lexemes.Unit.TheVariants as of_unit
use Rattle.vis_read.specs.declared.reading.Compared.{Compared}
use Rattle.vis_read.specs.declared.reading.Frame.{Frame}
use Rattle.vis_read.specs.declared.reading.Frame.TheVariants.{Quantified, Implied, Parens}
use Rattle.vis_read.specs.declared.reading.Place.{Place}
use Rattle.vis_read.specs.declared.reading.Place.TheVariants as of_place
use Rattle.vis_read.specs.declared.reading.Reading.{Reading}
use Rattle.vis_read.specs.declared.reading.Spot.{Spot}
use Rattle.vis_read.specs.declared.reading.Spot.TheVariants as of_spot
use Rattle.vis_read.specs.declared.reading.Sum.{Sum}
use Rattle.vis_read.specs.Grammar.{Check, fine, Judged, judged, quantified, paired, quantifiers_between, number_or_zero, bound_check}
use Rattle.vis_read.specs.steps.Machine.{at, behind, bind, closed, close_parens, closing, compared_with, completed, ended, fresh, joined, ored, others, outside_of, settled, step, whole, with_part}
use Rattle.vis_read.proofs.Walks.{Walk, stop, take, Like, from_like}
use Rattle.vis_read.proofs.Complete.{sum_at, number_like, added_like}

pub record Finishes (s : Reading) : Type 0 where
  pub tokens : List Judged
  pub value : Formula
  pub last : Reading
  pub walk : Walk s tokens [] last
  pub ends : ended last ≡ Some value

-- by one more token
by : (s next : Reading) (l : Lexeme) (check : Check) → step s l ≡ Some (next, check) → Finishes next → Finishes s
by s next l check e f = record { tokens = judged check l 0 ∷ f.tokens; value = f.value; last = f.last; walk = take e f.walk; ends = f.ends }

alike : {s t : Reading} → Like s t → Finishes t → Finishes s
alike h f = let r = from_like h f.walk in record { tokens = f.tokens; value = f.value; last = r.last; walk = r.walk; ends = r.like.ends ∙ f.ends }

-- behind a conjunction, with a `)` for each open parenthesis
closes_at : (frames : List Frame) (names : List (List ℕ)) (f : Formula) (s : Reading) (g : Formula) → closing s g ≡ closed frames names f → Finishes (at s (of_place.Behind g))
closes_at [] names f s g e = record { tokens = []; value = f; last = at s (of_place.Behind g); walk = stop; ends = ap whole e }
closes_at (Quantified q set ∷ frames) names f s g e = closes_at frames (others names) (quantified q set f) s g e
closes_at (Implied left ∷ frames) names f s g e = closes_at frames names (of_formula.Implies left f) s g e
closes_at (Parens o ∷ frames) names f s g e =
    let t = outside_of o frames names in
    by (at s (of_place.Behind g)) (completed t f) a.Close fine (ap close_parens e) (closes_at frames names (ored t.disjunct (joined t f)) (settled t) (joined t f) refl)

behind_finishes : (s : Reading) (g : Formula) → Finishes (behind s g)
behind_finishes s g = closes_at s.frames s.names (ored s.disjunct g) (settled s) g refl

behind_as : (b : Reading) (g : Formula) → Finishes (at b (of_place.Behind g))
behind_as b g = closes_at b.frames b.names (ored b.disjunct g) b g refl

operand_finishes : (b : Reading) → Finishes (at b of_place.Operand)
operand_finishes b = by (at b of_place.Operand) (completed b (of_formula.Const true)) (a.Truth true) _ refl (behind_finishes b (joined b (of_formula.Const true)))

start_finishes : (b : Reading) → Finishes (at b of_place.Start)
start_finishes b = by (at b of_place.Start) (completed (fresh b) (of_formula.Const true)) (a.Truth true) _ refl (behind_finishes (fresh b) (joined (fresh b) (of_formula.Const true)))

added_right : (b : Reading) (c : Compared) (parts : List Summand) (minus : Bool) → Finishes (at b (of_place.Added (sum_at (Some c) parts minus)))
added_right b c parts minus = alike (added_like b parts minus c) (behind_finishes b (joined b (compared_with parts c)))

added_finishes : (b : Reading) (compared : Option Compared) (parts : List Summand) (minus : Bool) → Finishes (at b (of_place.Added (sum_at compared parts minus)))
added_finishes b None parts minus =
    let c : Compared = record { left = record { parts = parts }; sign = Lt } in
    let sum : Sum = sum_at (Some c) [] false in
    by (at b (of_place.Added (sum_at None parts minus))) (at b (of_place.Side sum)) (a.Sign Lt) fine refl
    (by (at b (of_place.Side sum)) (at b (of_place.Added (with_part sum 64 One))) (a.Number 1 of_unit.Px) fine refl (added_right b c (with_part sum 64 One).parts false))
added_finishes b (Some c) parts minus = added_right b c parts minus

part_added : (b : Reading) (sum : Sum) → Finishes (at b (of_place.Added sum))
part_added b sum = added_finishes b sum.compared sum.parts sum.minus

face_finishes_dot : (b : Reading) (sum : Sum) (n x : ℕ) → Finishes (at b (of_place.Edge sum n (of_spot.NameDot x)))
face_finishes_dot b sum n x = by (at b (of_place.Edge sum n (of_spot.NameDot x))) _ (a.Face Left) fine refl (part_added b (with_part sum n (of_edge.Name x Border Left)))

face_finishes_ring : (b : Reading) (sum : Sum) (n x : ℕ) (r : Ring) → Finishes (at b (of_place.Edge sum n (of_spot.RingDot x r)))
face_finishes_ring b sum n x r = by (at b (of_place.Edge sum n (of_spot.RingDot x r))) _ (a.Face Left) fine refl (part_added b (with_part sum n (of_edge.Name x r Left)))

face_finishes_view : (b : Reading) (sum : Sum) (n : ℕ) → Finishes (at b (of_place.Edge sum n of_spot.ViewDot))
face_finishes_view b sum n = by (at b (of_place.Edge sum n of_spot.ViewDot)) _ a.Width fine refl (part_added b (with_part sum n of_edge.ViewWidth))

face_finishes : (b : Reading) (sum : Sum) (n : ℕ) (spot : Spot) → Finishes (at b (of_place.Edge sum n spot))
face_finishes b sum n (of_spot.Name x) = by (at b (of_place.Edge sum n (of_spot.Name x))) _ a.Dot fine refl (face_finishes_dot b sum n x)
face_finishes b sum n (of_spot.NameDot x) = face_finishes_dot b sum n x
face_finishes b sum n (of_spot.Ring x r) = by (at b (of_place.Edge sum n (of_spot.Ring x r))) _ a.Dot fine refl (face_finishes_ring b sum n x r)
face_finishes b sum n (of_spot.RingDot x r) = face_finishes_ring b sum n x r
face_finishes b sum n of_spot.View = by (at b (of_place.Edge sum n of_spot.View)) _ a.Dot fine refl (face_finishes_view b sum n)
face_finishes b sum n of_spot.ViewDot = face_finishes_view b sum n

last_finishes : (b : Reading) (p : Pair) (x y : ℕ) → Finishes (at b (of_place.Last p x y))
last_finishes b p x y = by (at b (of_place.Last p x y)) (completed b (paired p x y)) a.Close fine refl (behind_finishes b (joined b (paired p x y)))

second_finishes : (b : Reading) (p : Pair) (x : ℕ) → Finishes (at b (of_place.Second p x))
second_finishes b p x =
    let y = quantifiers_between b.names [] in
    by (at b (of_place.Second p x)) (at b (of_place.Last p x (number_or_zero y))) (a.Name []) (bound_check y) refl (last_finishes b p x (number_or_zero y))

comma_finishes : (b : Reading) (p : Pair) (x : ℕ) → Finishes (at b (of_place.Comma p x))
comma_finishes b p x = by (at b (of_place.Comma p x)) (at b (of_place.Second p x)) a.Comma fine refl (second_finishes b p x)

first_finishes : (b : Reading) (p : Pair) → Finishes (at b (of_place.First p))
first_finishes b p =
    let x = quantifiers_between b.names [] in
    by (at b (of_place.First p)) (at b (of_place.Comma p (number_or_zero x))) (a.Name []) (bound_check x) refl (comma_finishes b p (number_or_zero x))

ranged_finishes : (b : Reading) (q : Quantifier) (name : List ℕ) (set : Set) → Finishes (at b (of_place.Ranged q name set))
ranged_finishes b q name set = by (at b (of_place.Ranged q name set)) (bind b q name set) a.Colon fine refl (start_finishes (bind b q name set))

domain_finishes : (b : Reading) (q : Quantifier) (name : List ℕ) → Finishes (at b (of_place.Domain q name))
domain_finishes b q name = by (at b (of_place.Domain q name)) (at b (of_place.Ranged q name Every)) (a.Members Every) fine refl (ranged_finishes b q name Every)

binder_finishes : (b : Reading) (q : Quantifier) (name : List ℕ) → Finishes (at b (of_place.Binder q name))
binder_finishes b q name = by (at b (of_place.Binder q name)) (at b (of_place.Domain q name)) a.In fine refl (domain_finishes b q name)

px_finishes : (b : Reading) (sum : Sum) → Finishes (at b (of_place.Added (with_part sum 64 One)))
px_finishes b sum = part_added b (with_part sum 64 One)

finishes_at : (b : Reading) (place : Place) → Finishes (at b place)
finishes_at b of_place.Start = start_finishes b
finishes_at b of_place.Operand = operand_finishes b
finishes_at b (of_place.Behind g) = behind_as b g
finishes_at b (of_place.Quantifier q) = by (at b (of_place.Quantifier q)) (at b (of_place.Binder q [])) (a.Name []) fine refl (binder_finishes b q [])
finishes_at b (of_place.Binder q name) = binder_finishes b q name
finishes_at b (of_place.Domain q name) = domain_finishes b q name
finishes_at b (of_place.Ranged q name set) = ranged_finishes b q name set
finishes_at b (of_place.Pair p) = by (at b (of_place.Pair p)) (at b (of_place.First p)) a.Open fine refl (first_finishes b p)
finishes_at b (of_place.First p) = first_finishes b p
finishes_at b (of_place.Comma p x) = comma_finishes b p x
finishes_at b (of_place.Second p x) = second_finishes b p x
finishes_at b (of_place.Last p x y) = last_finishes b p x y
finishes_at b (of_place.Side sum) = by (at b (of_place.Side sum)) (at b (of_place.Added (with_part sum 64 One))) (a.Number 1 of_unit.Px) fine refl (px_finishes b sum)
finishes_at b (of_place.Part sum) = by (at b (of_place.Part sum)) (at b (of_place.Added (with_part sum 64 One))) (a.Number 1 of_unit.Px) fine refl (px_finishes b sum)
finishes_at b (of_place.Number sum n) = alike (number_like b sum n) (part_added b (with_part sum n One))
finishes_at b (of_place.Factor sum n) = by (at b (of_place.Factor sum n)) (at b (of_place.Edge sum n of_spot.View)) a.View fine refl (face_finishes b sum n of_spot.View)
finishes_at b (of_place.Edge sum n spot) = face_finishes b sum n spot
finishes_at b (of_place.Added sum) = part_added b sum

pub finishes : (s : Reading) → Finishes s
finishes s = finishes_at s s.place

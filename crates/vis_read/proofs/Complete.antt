-- Tokens of the grammar are read to where the grammar says.
use Rattle.std.proofs.Common.{◌≡◌, ℕ, ◌+◌, suc, zero, add-one, ◌≤◌, nat_le, Bool, true, false, List, [], ◌∷◌, ◌++◌, Option, Some, None, refl, sym, ◌∙◌, ap, subst}
use Rattle.std.proofs.lemmas.Bool.{le-leb}
use Rattle.std.proofs.lemmas.Option.{none-some}
use Rattle.viz_base.specs.declared.formulas.Edge.{Edge}
use Rattle.viz_base.specs.declared.formulas.Edge.TheVariants.{One}
use Rattle.viz_base.specs.declared.formulas.Formula.{Formula}
use Rattle.viz_base.specs.declared.formulas.Formula.TheVariants as of_formula
use Rattle.viz_base.specs.declared.formulas.Sign.{Sign}
use Rattle.viz_base.specs.declared.formulas.Summand.{Summand}
use Rattle.vis_read.specs.declared.lexemes.Lexeme.{Lexeme}
use Rattle.vis_read.specs.declared.lexemes.Lexeme.TheVariants as a
use Rattle.vis_read.specs.declared.lexemes.Unit.TheVariants as of_unit
use Rattle.vis_read.specs.declared.reading.Closed.{Closed}
use Rattle.vis_read.specs.declared.reading.Compared.{Compared}
use Rattle.vis_read.specs.declared.reading.Frame.TheVariants.{Implied}
use Rattle.vis_read.specs.declared.reading.Place.TheVariants as of_place
use Rattle.vis_read.specs.declared.reading.Reading.{Reading}
use Rattle.vis_read.specs.declared.reading.Spot.TheVariants as of_spot
use Rattle.vis_read.specs.declared.reading.Sum.{Sum}
use Rattle.vis_read.specs.Grammar.{Around, binding, inside, Check, Judged, judged, plain, opener_check, quantifier_check, quantifiers_between, name_check, name_number, comparison, paired, IsEdge, face, ring, width, height, IsPart, number, times, once, AreParts, no_more, plus, minus, IsTerm, positive, negative, Rule, formula, consequence, disjunction, disjuncts, conjunction, conjuncts, operand, Reads, quantifies, connects, no_implies, implies, first_disjunct, no_or, or, first_conjunct, no_and, and, negates, parens, truth, compares, pairs, AreFormula}
use Rattle.vis_read.specs.steps.Machine.{anded, around, at, at_named, at_number, behind, bind, closed, close_parens, closing, compared_with, completed, empty_sum, ended, fresh, go, initial, inner, notted, ored, settled, step, step_compared, whole, with_part}
use Rattle.vis_read.proofs.Walks.{Walk, Like, Reach, here, like_reach, reach_by, reach_on, reach_like}

abbrev pub level_of : Reading → Around
level_of s = record { names = s.names; nested = s.level }

abbrev pub with_disjunct : Reading → Option Formula → Reading
with_disjunct s disjunct = record s { disjunct = disjunct }

abbrev pub sum_at : Option Compared → List Summand → Bool → Sum
sum_at compared parts neg = record { compared = compared; parts = parts; minus = neg }

-- ---- states that go on alike

is_small : (n : ℕ) → n ≤ 65536 → nat_le n 65536 ≡ true
is_small n le = le-leb n 65536 le

star_none : (s : Reading) (sum : Sum) (c : Option Compared) → step_compared s sum c a.Star ≡ None
star_none s sum None = refl
star_none s sum (Some c) = refl

number_steps : (b : Reading) (sum : Sum) (n : ℕ) (l : Lexeme) (x : Reading × Check) → step (at b (of_place.Added (with_part sum n One))) l ≡ Some x → step (at b (of_place.Number sum n)) l ≡ Some x
number_steps b sum n a.Star x e = absurd (none-some _ (sym (star_none (at b of_place.Start) (with_part sum n One) sum.compared) ∙ e))
number_steps b sum n l x e = e

-- behind a number reading goes on as behind a part, but for a `*`
pub number_like : (b : Reading) (sum : Sum) (n : ℕ) → Like (at b (of_place.Number sum n)) (at b (of_place.Added (with_part sum n One)))
number_like b sum n = record { steps = number_steps b sum n; ends = refl }

added_steps : (b : Reading) (parts : List Summand) (neg : Bool) (c : Compared) (l : Lexeme) (x : Reading × Check) → step (completed b (compared_with parts c)) l ≡ Some x → step (at b (of_place.Added (sum_at (Some c) parts neg))) l ≡ Some x
added_steps b parts neg c a.Plus x e = absurd (none-some _ e)
added_steps b parts neg c a.Minus x e = absurd (none-some _ e)
added_steps b parts neg c l x e = e

-- behind the right side of a comparison it goes on as behind the operand
pub added_like : (b : Reading) (parts : List Summand) (neg : Bool) (c : Compared) → Like (at b (of_place.Added (sum_at (Some c) parts neg))) (completed b (compared_with parts c))
added_like b parts neg c = record { steps = added_steps b parts neg c; ends = refl }

side_steps : (b : Reading) (sum : Sum) (l : Lexeme) (x : Reading × Check) → step (at b (of_place.Part sum)) l ≡ Some x → step (at b (of_place.Side sum)) l ≡ Some x
side_steps b sum a.Minus x e = absurd (none-some _ e)
side_steps b sum l x e = e

side_like : (b : Reading) (sum : Sum) → Like (at b (of_place.Side sum)) (at b (of_place.Part sum))
side_like b sum = record { steps = side_steps b sum; ends = refl }

operand_steps : (b : Reading) (l : Lexeme) (x : Reading × Check) → step (at b (of_place.Side (empty_sum None))) l ≡ Some x → step (at b of_place.Operand) l ≡ Some x
operand_steps b a.Not x e = absurd (none-some _ e)
operand_steps b a.Open x e = absurd (none-some _ e)
operand_steps b (a.Truth value) x e = absurd (none-some _ e)
operand_steps b (a.Pair p) x e = absurd (none-some _ e)
operand_steps b l x e = e

operand_like : (b : Reading) → Like (at b of_place.Operand) (at b (of_place.Side (empty_sum None)))
operand_like b = record { steps = operand_steps b; ends = refl }

start_steps : (b : Reading) (l : Lexeme) (x : Reading × Check) → step (at (fresh b) of_place.Operand) l ≡ Some x → step (at b of_place.Start) l ≡ Some x
start_steps b (a.Quantifier q) x e = absurd (none-some _ e)
start_steps b l x e = e

start_like : (b : Reading) → Like (at b of_place.Start) (at (fresh b) of_place.Operand)
start_like b = record { steps = start_steps b; ends = refl }

-- ---- terms

-- where an edge may begin
record Enters (s b : Reading) (sum : Sum) (n : ℕ) : Type 0 where
  names : (name : List ℕ) → step s (a.Name name) ≡ at_named (at b of_place.Start) sum n (quantifiers_between b.names name)
  view : step s a.View ≡ go (at b (of_place.Edge sum n of_spot.View))

edge_reach : (b s : Reading) (sum : Sum) (n : ℕ) → Enters s b sum n → {ts us : List Judged} {edge : Edge} → IsEdge (around b) ts us edge → Reach s ts us (at b (of_place.Added (with_part sum n edge)))
edge_reach b s sum n h (face name f i j k rest) = reach_by (h.names name) (reach_by refl (reach_by refl here))
edge_reach b s sum n h (ring name r f i j k l m rest) = reach_by (h.names name) (reach_by refl (reach_by refl (reach_by refl (reach_by refl here))))
edge_reach b s sum n h (width i j k rest) = reach_by h.view (reach_by refl (reach_by refl here))
edge_reach b s sum n h (height i j k rest) = reach_by h.view (reach_by refl (reach_by refl here))

number_reach : (b : Reading) (sum : Sum) (n : ℕ) (small : Bool) (ts : List Judged) → Reach (at_number (at b of_place.Start) sum n small) ts ts (at b (of_place.Added (with_part sum n One)))
number_reach b sum n true ts = reach_like here (number_like b sum n)
number_reach b sum n false ts = here

part_reach : (b : Reading) (compared : Option Compared) (parts : List Summand) (neg : Bool) {ts us : List Judged} {s : Summand} → IsPart (around b) neg ts us s
    → Reach (at b (of_place.Part (sum_at compared parts neg))) ts us (at b (of_place.Added (sum_at compared (parts ++ s ∷ []) false)))
part_reach b compared parts neg (number n of_unit.One i rest) = reach_by refl (number_reach b (sum_at compared parts neg) n (nat_le n 65536) rest)
part_reach b compared parts neg (number n of_unit.Px i rest) = reach_by refl here
part_reach b compared parts neg (times n i j ts rest edge le e) =
    let sum = sum_at compared parts neg in
    let small : nat_le n 65536 ≡ true = is_small n le in
    reach_by (ap (λ v. go (at_number (at b of_place.Start) sum n v)) small) (reach_by refl (edge_reach b (at b (of_place.Factor sum n)) sum n (record { names = λ name. refl; view = refl }) e))
part_reach b compared parts neg (once ts rest edge e) = edge_reach b (at b (of_place.Part (sum_at compared parts neg))) (sum_at compared parts neg) 1 (record { names = λ name. refl; view = refl }) e

parts_reach : (b : Reading) (compared : Option Compared) {parts all : List Summand} {ts us : List Judged} → AreParts (around b) parts ts us all
    → Reach (at b (of_place.Added (sum_at compared parts false))) ts us (at b (of_place.Added (sum_at compared all false)))
parts_reach b compared (no_more parts rest) = here
parts_reach b compared (plus parts all s i ts us rest p more) = reach_by refl (reach_on (part_reach b compared parts false p) (parts_reach b compared more))
parts_reach b compared (minus parts all s i ts us rest p more) = reach_by refl (reach_on (part_reach b compared parts true p) (parts_reach b compared more))

term_reach : (b : Reading) (compared : Option Compared) {parts : List Summand} {ts us : List Judged} → IsTerm (around b) ts us parts
    → Reach (at b (of_place.Side (empty_sum compared))) ts us (at b (of_place.Added (sum_at compared parts false)))
term_reach b compared (positive parts s ts us rest p more) = like_reach (side_like b (empty_sum compared)) (reach_on (part_reach b compared [] false p) (parts_reach b compared more))
term_reach b compared (negative parts s i ts us rest p more) = reach_by refl (reach_on (part_reach b compared [] true p) (parts_reach b compared more))

compare_reach : (b : Reading) (sign : Sign) (i : ℕ) {ts us rest : List Judged} {left right : List Summand} → IsTerm (around b) ts (plain (a.Sign sign) i ∷ us) left → IsTerm (around b) us rest right
    → Reach (at b of_place.Operand) ts rest (completed b (comparison left sign right))
compare_reach b sign i {left = left} {right = right} l r =
    let c : Compared = record { left = record { parts = left }; sign = sign } in
    like_reach (operand_like b) (reach_on (term_reach b None l) (reach_by refl (reach_like (term_reach b (Some c) r) (added_like b right false c))))

-- ---- formulas

record Chain (s b : Reading) (ts us : List Judged) (f : Formula) : Type 0 where
  disjunct : Option Formula
  last : Formula
  reach : Reach s ts us (behind (with_disjunct b disjunct) last)
  value : ored disjunct last ≡ f

record Whole (s : Reading) (c : Closed) (ts us : List Judged) : Type 0 where
  state : Reading
  last : Formula
  reach : Reach s ts us (behind state last)
  value : closing state last ≡ c

abbrev Goal : Rule → Around → List Judged → List Judged → Formula → Type 0
Goal formula A ts us f = (b : Reading) → A ≡ level_of b → Whole (at b of_place.Start) (closed b.frames b.names f) ts us
Goal (consequence h) A ts us f = (b : Reading) (d : Option Formula) (g : Formula) → A ≡ level_of b → ored d g ≡ h → Whole (behind (with_disjunct b d) g) (closed b.frames b.names f) ts us
Goal disjunction A ts us f = (b : Reading) → A ≡ level_of b → Chain (at (fresh b) of_place.Operand) b ts us f
Goal (disjuncts h) A ts us f = (b : Reading) (d : Option Formula) (g : Formula) → A ≡ level_of b → ored d g ≡ h → Chain (behind (with_disjunct b d) g) b ts us f
Goal conjunction A ts us f = (b : Reading) → A ≡ level_of b → Reach (at (settled b) of_place.Operand) ts us (behind b f)
Goal (conjuncts g) A ts us f = (b : Reading) → A ≡ level_of b → Reach (behind b g) ts us (behind b f)
Goal operand A ts us f = (b : Reading) → A ≡ around b → Reach (at b of_place.Operand) ts us (completed b f)

chain_on : {s t b : Reading} {ts us vs : List Judged} {f : Formula} → Reach s ts us t → Chain t b us vs f → Chain s b ts vs f
chain_on r c = record { disjunct = c.disjunct; last = c.last; reach = reach_on r c.reach; value = c.value }

whole_on : {s t : Reading} {c : Closed} {ts us vs : List Judged} → Reach s ts us t → Whole t c us vs → Whole s c ts vs
whole_on r w = record { state = w.state; last = w.last; reach = reach_on r w.reach; value = w.value }

whole_to : {s : Reading} {c d : Closed} {ts us : List Judged} → c ≡ d → Whole s c ts us → Whole s d ts us
whole_to e w = record { state = w.state; last = w.last; reach = w.reach; value = w.value ∙ e }

notted_suc : (n : ℕ) (f : Formula) → notted (suc n) f ≡ notted n (of_formula.Not f)
notted_suc zero f = refl
notted_suc (suc n) f = ap of_formula.Not (notted_suc n f)

pub notted_more : (n : ℕ) (f : Formula) → notted (n + 1) f ≡ notted n (of_formula.Not f)
notted_more n f = ap (λ m. notted m f) (add-one n) ∙ notted_suc n f

abbrev denied : Reading → Reading
denied b = record b { nested = b.nested + 1; nots = b.nots + 1; place = of_place.Operand }

denied_like : (b : Reading) (f : Formula) → completed (denied b) f ≡ completed b (of_formula.Not f)
denied_like b f = ap (λ g. behind b (anded b.conjunct g)) (notted_more b.nots f)

complete : {r : Rule} {A : Around} {ts us : List Judged} {f : Formula} → Reads r A ts us f → Goal r A ts us f
complete (quantifies q name set A i j k l m ts rest body h) = λ b e.
    let inner_state : Reading = bind (record (fresh b) { nested = b.level + 1 }) q name set in
    whole_on (reach_by (ap (λ x. Some (record (fresh b) { nested = b.level + 1; place = of_place.Quantifier q }, quantifier_check x)) (sym e)) (reach_by refl (reach_by refl (reach_by refl (reach_by refl here))))) (complete h inner_state (ap (binding name) e))
complete (connects A ts us rest left f h k) = λ b e.
    let c = complete h b e in
    whole_on (like_reach (start_like b) c.reach) (complete k b c.disjunct c.last e c.value)
complete (no_implies A rest left) = λ b d g e v. record { state = with_disjunct b d; last = g; reach = here; value = ap (closed b.frames b.names) v }
complete (implies A i ts rest left right h) = λ b d g e v.
    let inner_state : Reading = record (fresh b) { frames = Implied (ored d g) ∷ b.frames; place = of_place.Start } in
    whole_to (ap (λ x. closed b.frames b.names (of_formula.Implies x right)) v) (whole_on (reach_by refl here) (complete h inner_state e))
complete (first_disjunct A ts us rest left f h k) = λ b e. chain_on (complete h (with_disjunct b None) e) (complete k b None left e refl)
complete (no_or A rest left) = λ b d g e v. record { disjunct = d; last = g; reach = here; value = v }
complete (or A i ts us rest left right f h k) = λ b d g e v.
    chain_on (reach_by refl (complete h (with_disjunct b (Some (ored d g))) e)) (complete k b (Some (ored d g)) right e (ap (λ x. of_formula.Or x right) v))
complete (first_conjunct A ts us rest left f h k) = λ b e. reach_on (complete h (settled b) e) (complete k b e)
complete (no_and A rest left) = λ b e. here
complete (and A i ts us rest left right f h k) = λ b e. reach_on (reach_by refl (complete h (record (settled b) { conjunct = Some left }) e)) (complete k b e)
complete (negates A i ts rest f h) = λ b e.
    let Ends : Reading → Type 0 = λ t. Reach (denied b) ts rest t in
    reach_by (ap (λ x. Some (denied b, opener_check x)) (sym e)) (subst Ends (denied_like b f) (complete h (denied b) (ap inside e)))
complete (parens A i j ts rest f h) = λ b e.
    let w = complete h (inner b) (ap inside e) in
    reach_by (ap (λ x. Some (inner b, opener_check x)) (sym e)) (reach_on w.reach (reach_by (ap close_parens w.value) here))
complete (truth A value i rest) = λ b e. reach_by refl here
complete (compares A sign i ts us rest left right l r) = λ b e. compare_reach b sign i (subst (λ x. IsTerm x ts (plain (a.Sign sign) i ∷ us) left) e l) (subst (λ x. IsTerm x us rest right) e r)
complete (pairs A p x y i j k l m n rest) = λ b e.
    let P : Around → Type 0 = λ z. Reach (at b of_place.Operand) (plain (a.Pair p) i ∷ plain a.Open j ∷ judged (name_check z x) (a.Name x) k ∷ plain a.Comma l ∷ judged (name_check z y) (a.Name y) m ∷ plain a.Close n ∷ rest) rest (completed b (paired p (name_number z x) (name_number z y))) in
    subst P (sym e) (reach_by refl (reach_by refl (reach_by refl (reach_by refl (reach_by refl (reach_by refl here))))))

-- a formula's tokens are read to it
pub completes : {ts : List Judged} {f : Formula} → AreFormula ts f → (m : Reading) × Walk initial ts [] m × (ended m ≡ Some f)
completes {ts = ts} {f = f} h = let w : Whole initial (closed [] [] f) ts [] = complete h initial refl in (w.reach.last, w.reach.walk, w.reach.like.ends ∙ ap whole w.value)

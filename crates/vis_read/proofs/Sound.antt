-- What is read from a state to a text's end is in the grammar.
use Rattle.std.proofs.Common.{◌≡◌, ℕ, ◌+◌, ◌*◌, ◌≤◌, nat_le, Bool, true, false, List, [], ◌∷◌, ◌++◌, Option, Some, None, refl, sym, ◌∙◌, ap, subst, ◌⊎◌, inl, inr}
use Rattle.std.proofs.lemmas.Bool.{leb-true}
use Rattle.viz_base.specs.declared.formulas.Edge.{Edge}
use Rattle.viz_base.specs.declared.formulas.Edge.TheVariants as of_edge
use Rattle.viz_base.specs.declared.formulas.Face.{Face}
use Rattle.viz_base.specs.declared.formulas.Formula.{Formula}
use Rattle.viz_base.specs.declared.formulas.Formula.TheVariants as of_formula
use Rattle.viz_base.specs.declared.formulas.Ring.{Ring}
use Rattle.viz_base.specs.declared.formulas.Ring.TheVariants.{Border}
use Rattle.viz_base.specs.declared.formulas.Sign.{Sign}
use Rattle.viz_base.specs.declared.formulas.Summand.{Summand}
use Rattle.vis_read.specs.declared.lexemes.Lexeme.{Lexeme}
use Rattle.vis_read.specs.declared.lexemes.Lexeme.TheVariants as a
use Rattle.vis_read.specs.declared.lexemes.Unit.TheVariants as of_unit
use Rattle.vis_read.specs.declared.reading.Compared.{Compared}
use Rattle.vis_read.specs.declared.reading.Frame.{Frame}
use Rattle.vis_read.specs.declared.reading.Frame.TheVariants.{Quantified, Implied, Parens}
use Rattle.vis_read.specs.declared.reading.Place.{Place}
use Rattle.vis_read.specs.declared.reading.Place.TheVariants as of_place
use Rattle.vis_read.specs.declared.reading.Reading.{Reading}
use Rattle.vis_read.specs.declared.reading.Spot.{Spot}
use Rattle.vis_read.specs.declared.reading.Spot.TheVariants as of_spot
use Rattle.vis_read.specs.declared.reading.Sum.{Sum}
use Rattle.vis_read.specs.Grammar.{Around, binding, inside, Check, fine, Judged, judged, plain, quantifier_check, name_check, name_number, multiple, comparison, paired, quantified, IsEdge, face, ring, width, height, IsPart, number, times, once, AreParts, no_more, plus, minus, IsTerm, positive, negative, formula, consequence, disjuncts, conjuncts, operand, Reads, quantifies, connects, no_implies, implies, first_disjunct, no_or, or, first_conjunct, no_and, and, negates, parens, truth, compares, pairs, AreFormula}
use Rattle.vis_read.specs.steps.Machine.{Step, anded, around, at, at_number, closed, close_parens, closing, compared_with, empty_sum, ended, ended_added, ended_at, fresh, initial, joined, notted, ored, others, settled, step, step_at, step_added, step_behind, step_compared, step_edge, step_operand, step_part, step_side, whole, with_part}
use Rattle.vis_read.proofs.Walks.{Walk, stop, take}
use Rattle.vis_read.proofs.Complete.{level_of, notted_more}

-- ---- what is left to read

-- behind a conjunction that so far is this one, in a formula behind which something is left
abbrev Rest : (Formula → List Judged → Type 0) → Around → Option Formula → Formula → List Judged → Type 0
Rest K A disjunct g us =
    (vs : List Judged) × (ws : List Judged) × (xs : List Judged) × (h : Formula) × (k : Formula) × (f : Formula)
    × Reads (conjuncts g) A us vs h × Reads (disjuncts (ored disjunct h)) A vs ws k × Reads (consequence k) A ws xs f × K f xs

-- behind a formula in these frames, all of them being the formula F
abbrev Outer : Formula → List Frame → List (List ℕ) → Formula → List Judged → Type 0
Outer F [] names f us = (us ≡ []) × (f ≡ F)
Outer F (Quantified q set ∷ frames) names f us = Outer F frames (others names) (quantified q set f) us
Outer F (Implied left ∷ frames) names f us = Outer F frames names (of_formula.Implies left f) us
Outer F (Parens o ∷ frames) names f us =
    (i : ℕ) × (vs : List Judged) × (us ≡ plain a.Close i ∷ vs) × Rest (Outer F frames names) (record { names = names; nested = o.level }) o.disjunct (anded o.conjunct (notted o.nots f)) vs

abbrev Behind : Formula → Reading → Formula → List Judged → Type 0
Behind F s g us = Rest (Outer F s.frames s.names) (level_of s) s.disjunct g us

abbrev AfterOperand : Formula → Reading → Formula → List Judged → Type 0
AfterOperand F s f us = Behind F s (joined s f) us

-- behind the parts of a term
abbrev Compares : Formula → Reading → Option Compared → List Summand → List Judged → Type 0
Compares F s None left us =
    (i : ℕ) × (sign : Sign) × (vs : List Judged) × (ws : List Judged) × (right : List Summand)
    × (us ≡ plain (a.Sign sign) i ∷ vs) × IsTerm (around s) vs ws right × AfterOperand F s (comparison left sign right) ws
Compares F s (Some c) right us = AfterOperand F s (compared_with right c) us

abbrev Parts : Formula → Reading → Option Compared → List Summand → List Judged → Type 0
Parts F s compared parts us = (vs : List Judged) × (all : List Summand) × AreParts (around s) parts us vs all × Compares F s compared all vs

-- behind one more part
abbrev More : Formula → Reading → Sum → Summand → List Judged → Type 0
More F s sum part us = Parts F s sum.compared (sum.parts ++ part ∷ []) us

-- behind a name
data Tail (name : ℕ) : List Judged → List Judged → Edge → Type 0 where
  border : (f : Face) (j k : ℕ) (rest : List Judged) → Tail name (plain a.Dot j ∷ plain (a.Face f) k ∷ rest) rest (of_edge.Name name Border f)
  other : (r : Ring) (f : Face) (j k l m : ℕ) (rest : List Judged) → Tail name (plain a.Dot j ∷ plain (a.Ring r) k ∷ plain a.Dot l ∷ plain (a.Face f) m ∷ rest) rest (of_edge.Name name r f)

abbrev FromSpot : Around → Spot → List Judged → List Judged → Edge → Type 0
FromSpot A (of_spot.Name x) js us e = Tail x js us e
FromSpot A (of_spot.NameDot x) js us e = (j : ℕ) → Tail x (plain a.Dot j ∷ js) us e
FromSpot A (of_spot.Ring x r) js us e = (j k : ℕ) → Tail x (plain a.Dot j ∷ plain (a.Ring r) k ∷ js) us e
FromSpot A (of_spot.RingDot x r) js us e = (j k l : ℕ) → Tail x (plain a.Dot j ∷ plain (a.Ring r) k ∷ plain a.Dot l ∷ js) us e
FromSpot A of_spot.View js us e = (j : ℕ) → IsEdge A (plain a.View j ∷ js) us e
FromSpot A of_spot.ViewDot js us e = (j k : ℕ) → IsEdge A (plain a.View j ∷ plain a.Dot k ∷ js) us e

-- a state behind an operand has no `not`s
record Settled (s : Reading) : Type 0 where
  nots : s.nots ≡ 0
  nested : s.nested ≡ s.level
  conjunct : s.conjunct ≡ None

-- what is left to read in a state, all tokens being the formula F
abbrev ResumeAt : Formula → Place → Reading → List Judged → Type 0
ResumeAt F of_place.Start s js = (us : List Judged) × (f : Formula) × Reads formula (level_of s) js us f × Outer F s.frames s.names f us
ResumeAt F of_place.Operand s js = (us : List Judged) × (f : Formula) × Reads operand (around s) js us f × AfterOperand F s f us
ResumeAt F (of_place.Behind g) s js = Settled s → Behind F s g js
ResumeAt F (of_place.Quantifier q) s js = s.nested ≡ s.level + 1 → (us : List Judged) × (f : Formula)
    × ((i : ℕ) → Reads formula (level_of s) (judged (quantifier_check (level_of s)) (a.Quantifier q) i ∷ js) us f) × Outer F s.frames s.names f us
ResumeAt F (of_place.Binder q name) s js = s.nested ≡ s.level + 1 → (us : List Judged) × (f : Formula)
    × ((i j : ℕ) → Reads formula (level_of s) (judged (quantifier_check (level_of s)) (a.Quantifier q) i ∷ plain (a.Name name) j ∷ js) us f) × Outer F s.frames s.names f us
ResumeAt F (of_place.Domain q name) s js = s.nested ≡ s.level + 1 → (us : List Judged) × (f : Formula)
    × ((i j k : ℕ) → Reads formula (level_of s) (judged (quantifier_check (level_of s)) (a.Quantifier q) i ∷ plain (a.Name name) j ∷ plain a.In k ∷ js) us f) × Outer F s.frames s.names f us
ResumeAt F (of_place.Ranged q name set) s js = s.nested ≡ s.level + 1 → (us : List Judged) × (f : Formula)
    × ((i j k l : ℕ) → Reads formula (level_of s) (judged (quantifier_check (level_of s)) (a.Quantifier q) i ∷ plain (a.Name name) j ∷ plain a.In k ∷ plain (a.Members set) l ∷ js) us f) × Outer F s.frames s.names f us
ResumeAt F (of_place.Pair p) s js = (us : List Judged) × (f : Formula) × ((i : ℕ) → Reads operand (around s) (plain (a.Pair p) i ∷ js) us f) × AfterOperand F s f us
ResumeAt F (of_place.First p) s js = (us : List Judged) × (f : Formula) × ((i j : ℕ) → Reads operand (around s) (plain (a.Pair p) i ∷ plain a.Open j ∷ js) us f) × AfterOperand F s f us
ResumeAt F (of_place.Comma p x) s js =
    (l : ℕ) × (y : List ℕ) × (m : ℕ) × (n : ℕ) × (us : List Judged)
    × (js ≡ plain a.Comma l ∷ judged (name_check (around s) y) (a.Name y) m ∷ plain a.Close n ∷ us) × AfterOperand F s (paired p x (name_number (around s) y)) us
ResumeAt F (of_place.Second p x) s js =
    (y : List ℕ) × (m : ℕ) × (n : ℕ) × (us : List Judged)
    × (js ≡ judged (name_check (around s) y) (a.Name y) m ∷ plain a.Close n ∷ us) × AfterOperand F s (paired p x (name_number (around s) y)) us
ResumeAt F (of_place.Last p x y) s js = (n : ℕ) × (us : List Judged) × (js ≡ plain a.Close n ∷ us) × AfterOperand F s (paired p x y) us
ResumeAt F (of_place.Side sum) s js =
    (us : List Judged) × (part : Summand)
    × (IsPart (around s) sum.minus js us part ⊎ ((i : ℕ) × (ts : List Judged) × (js ≡ plain a.Minus i ∷ ts) × IsPart (around s) true ts us part)) × More F s sum part us
ResumeAt F (of_place.Part sum) s js = (us : List Judged) × (part : Summand) × IsPart (around s) sum.minus js us part × More F s sum part us
ResumeAt F (of_place.Number sum n) s js = n ≤ 65536 → (us : List Judged) × (part : Summand) × ((i : ℕ) → IsPart (around s) sum.minus (plain (a.Number n of_unit.One) i ∷ js) us part) × More F s sum part us
ResumeAt F (of_place.Factor sum n) s js = (us : List Judged) × (edge : Edge) × IsEdge (around s) js us edge × More F s sum (multiple sum.minus n edge) us
ResumeAt F (of_place.Edge sum n spot) s js = (us : List Judged) × (edge : Edge) × FromSpot (around s) spot js us edge × More F s sum (multiple sum.minus n edge) us
ResumeAt F (of_place.Added sum) s js = Parts F s sum.compared sum.parts js

abbrev Resume : Formula → Reading → List Judged → Type 0
Resume F s js = ResumeAt F s.place (at s of_place.Start) js

-- what a step says of what was left to read before it, where this is left behind it
abbrev Back : Formula → Step → (Check → Type 0) → List Judged → Type 0
Back F None Before js = Unit {0}
Back F (Some (next, check)) Before js = Resume F next js → Before check

-- ---- behind an operand

close_back : (F : Formula) (frames : List Frame) (names : List (List ℕ)) (f : Formula) (i : ℕ) (js : List Judged)
    → Back F (close_parens (closed frames names f)) (λ check. Outer F frames names f (judged check a.Close i ∷ js)) js
close_back F [] names f i js = tt
close_back F (Quantified q set ∷ frames) names f i js = close_back F frames (others names) (quantified q set f) i js
close_back F (Implied left ∷ frames) names f i js = close_back F frames names (of_formula.Implies left f) i js
close_back F (Parens o ∷ frames) names f i js = λ r. (i, js, refl, r (record { nots = refl; nested = refl; conjunct = refl }))

-- a state behind an operand, with what is read in it
settle_and : (s : Reading) → Settled s → (g f : Formula) → of_formula.And g (notted s.nots f) ≡ of_formula.And g f
settle_and s h g f = ap (λ n. of_formula.And g (notted n f)) h.nots

settle_or : (s : Reading) → Settled s → (f : Formula) → anded s.conjunct (notted s.nots f) ≡ f
settle_or s h f = ap (λ c. anded c (notted s.nots f)) h.conjunct ∙ ap (λ n. notted n f) h.nots

abbrev nested_at : List (List ℕ) → ℕ → Around
nested_at names n = record { names = names; nested = n }

level_now : (s : Reading) → Settled s → around s ≡ level_of s
level_now s h = ap (nested_at s.names) h.nested

closing_back : (F : Formula) (s : Reading) (g : Formula) (i : ℕ) (js : List Judged) (x : Step)
    → Back F x (λ check. Outer F s.frames s.names (ored s.disjunct g) (judged check a.Close i ∷ js)) js → Back F x (λ check. Behind F s g (judged check a.Close i ∷ js)) js
closing_back F s g i js None b = tt
closing_back F s g i js (Some (next, check)) b = λ r.
    let ts = judged check a.Close i ∷ js in
    (ts, ts, ts, g, ored s.disjunct g, ored s.disjunct g, no_and (level_of s) ts g, no_or (level_of s) ts (ored s.disjunct g), no_implies (level_of s) ts (ored s.disjunct g), b r)

behind_back : (F : Formula) (s : Reading) (g : Formula) (l : Lexeme) (i : ℕ) (js : List Judged) → Settled s → Back F (step_behind s g l) (λ check. Behind F s g (judged check l i ∷ js)) js
behind_back F s g a.And i js h = λ r.
    let rest = r.3 in
    let op : Reads operand (level_of s) js r.0 r.1 = subst (λ A. Reads operand A js r.0 r.1) (level_now s h) r.2 in
    let more : Reads (conjuncts (of_formula.And g r.1)) (level_of s) r.0 rest.0 rest.3 = subst (λ x. Reads (conjuncts x) (level_of s) r.0 rest.0 rest.3) (settle_and s h g r.1) rest.6 in
    (rest.0, rest.1, rest.2, rest.3, rest.4, rest.5, and (level_of s) i js r.0 rest.0 g r.1 rest.3 op more, rest.7, rest.8, rest.9)
behind_back F s g a.Or i js h = λ r.
    let rest = r.3 in
    let ts = judged fine a.Or i ∷ js in
    let op : Reads operand (level_of s) js r.0 r.1 = subst (λ A. Reads operand A js r.0 r.1) (level_now s h) r.2 in
    let more : Reads (conjuncts r.1) (level_of s) r.0 rest.0 rest.3 = subst (λ x. Reads (conjuncts x) (level_of s) r.0 rest.0 rest.3) (settle_or s h r.1) rest.6 in (
      ts,
      rest.1,
      rest.2,
      g,
      rest.4,
      rest.5,
      no_and (level_of s) ts g,
      or (level_of s) i js rest.0 rest.1 (ored s.disjunct g) rest.3 rest.4 (first_conjunct (level_of s) js r.0 rest.0 r.1 rest.3 op more) rest.7,
      rest.8,
      rest.9,
    )
behind_back F s g a.Implies i js h = λ r.
    let ts = judged fine a.Implies i ∷ js in
    let left = ored s.disjunct g in
    (ts, ts, r.0, g, left, of_formula.Implies left r.1, no_and (level_of s) ts g, no_or (level_of s) ts left, implies (level_of s) i js r.0 left r.1 r.2, r.3)
behind_back F s g a.Close i js h = closing_back F s g i js (close_parens (closing s g)) (close_back F s.frames s.names (ored s.disjunct g) i js)
behind_back F s g l i js h = tt

-- ---- terms

edge_of : (A : Around) (name : List ℕ) (i : ℕ) {js us : List Judged} {e : Edge} → Tail (name_number A name) js us e → IsEdge A (judged (name_check A name) (a.Name name) i ∷ js) us e
edge_of A name i (border f j k rest) = face name f i j k rest
edge_of A name i (other r f j k l m rest) = ring name r f i j k l m rest

edge_back : (F : Formula) (s : Reading) (sum : Sum) (n : ℕ) (l : Lexeme) (i : ℕ) (js : List Judged)
    → Back F (step_edge s sum n l) (λ check. (us : List Judged) × (edge : Edge) × IsEdge (around s) (judged check l i ∷ js) us edge × More F s sum (multiple sum.minus n edge) us) js
edge_back F s sum n (a.Name name) i js = λ r. (r.0, r.1, edge_of (around s) name i r.2, r.3)
edge_back F s sum n a.View i js = λ r. (r.0, r.1, r.2 i, r.3)
edge_back F s sum n l i js = tt

abbrev PartLeft : Formula → Reading → Sum → List Judged → Type 0
PartLeft F s sum js = (us : List Judged) × (part : Summand) × IsPart (around s) sum.minus js us part × More F s sum part us

once_back : (F : Formula) (s : Reading) (sum : Sum) (l : Lexeme) (i : ℕ) (js : List Judged) (x : Step)
    → Back F x (λ check. (us : List Judged) × (edge : Edge) × IsEdge (around s) (judged check l i ∷ js) us edge × More F s sum (multiple sum.minus 1 edge) us) js
    → Back F x (λ check. PartLeft F s sum (judged check l i ∷ js)) js
once_back F s sum l i js None b = tt
once_back F s sum l i js (Some (next, check)) b = λ r. let q = b r in (q.0, multiple sum.minus 1 q.1, once (judged check l i ∷ js) q.0 q.1 q.2, q.3)

number_back : (F : Formula) (s : Reading) (sum : Sum) (n : ℕ) (i : ℕ) (js : List Judged) (small : Bool) → nat_le n 65536 ≡ small
    → Resume F (at_number s sum n small) js → PartLeft F s sum (judged fine (a.Number n of_unit.One) i ∷ js)
number_back F s sum n i js true e r = let q = r (leb-true n 65536 e) in (q.0, q.1, q.2 i, q.3)
number_back F s sum n i js false e r = (js, multiple sum.minus n of_edge.One, number n of_unit.One i js, r)

part_back : (F : Formula) (s : Reading) (sum : Sum) (l : Lexeme) (i : ℕ) (js : List Judged) → Back F (step_part s sum l) (λ check. PartLeft F s sum (judged check l i ∷ js)) js
part_back F s sum (a.Number n of_unit.One) i js = number_back F s sum n i js (nat_le n 65536) refl
part_back F s sum (a.Number n of_unit.Px) i js = λ r. (js, multiple sum.minus (n * 64) of_edge.One, number n of_unit.Px i js, r)
part_back F s sum l i js = once_back F s sum l i js (step_edge s sum 1 l) (edge_back F s sum 1 l i js)

abbrev SideLeft : Formula → Reading → Sum → List Judged → Type 0
SideLeft F s sum js = ResumeAt F (of_place.Side sum) s js

unsigned_back : (F : Formula) (s : Reading) (sum : Sum) (l : Lexeme) (i : ℕ) (js : List Judged) (x : Step)
    → Back F x (λ check. PartLeft F s sum (judged check l i ∷ js)) js → Back F x (λ check. SideLeft F s sum (judged check l i ∷ js)) js
unsigned_back F s sum l i js None b = tt
unsigned_back F s sum l i js (Some (next, check)) b = λ r. let q = b r in (q.0, q.1, inl q.2, q.3)

side_back : (F : Formula) (s : Reading) (sum : Sum) (l : Lexeme) (i : ℕ) (js : List Judged) → Back F (step_side s sum l) (λ check. SideLeft F s sum (judged check l i ∷ js)) js
side_back F s sum a.Minus i js = λ r. (r.0, r.1, inr (i, js, refl, r.2), r.3)
side_back F s sum l i js = unsigned_back F s sum l i js (step_part s sum l) (part_back F s sum l i js)

spot_back : (F : Formula) (s : Reading) (sum : Sum) (n : ℕ) (spot : Spot) (l : Lexeme) (i : ℕ) (js : List Judged)
    → Back F (step_at (of_place.Edge sum n spot) s l) (λ check. ResumeAt F (of_place.Edge sum n spot) s (judged check l i ∷ js)) js
spot_back F s sum n (of_spot.Name x) a.Dot i js = λ r. (r.0, r.1, r.2 i, r.3)
spot_back F s sum n (of_spot.Name x) l i js = tt
spot_back F s sum n (of_spot.NameDot x) (a.Face f) i js = λ r. (js, of_edge.Name x Border f, λ j. border f j i js, r)
spot_back F s sum n (of_spot.NameDot x) (a.Ring r) i js = λ q. (q.0, q.1, λ j. q.2 j i, q.3)
spot_back F s sum n (of_spot.NameDot x) l i js = tt
spot_back F s sum n (of_spot.Ring x r) a.Dot i js = λ q. (q.0, q.1, λ j k. q.2 j k i, q.3)
spot_back F s sum n (of_spot.Ring x r) l i js = tt
spot_back F s sum n (of_spot.RingDot x r) (a.Face f) i js = λ q. (js, of_edge.Name x r f, λ j k l. other r f j k l i js, q)
spot_back F s sum n (of_spot.RingDot x r) l i js = tt
spot_back F s sum n of_spot.View a.Dot i js = λ r. (r.0, r.1, λ j. r.2 j i, r.3)
spot_back F s sum n of_spot.View l i js = tt
spot_back F s sum n of_spot.ViewDot a.Width i js = λ r. (js, of_edge.ViewWidth, λ j k. width j k i js, r)
spot_back F s sum n of_spot.ViewDot a.Height i js = λ r. (js, of_edge.ViewHeight, λ j k. height j k i js, r)
spot_back F s sum n of_spot.ViewDot l i js = tt

-- behind a term that may end
ended_back : (F : Formula) (s : Reading) (c : Compared) (parts : List Summand) (l : Lexeme) (i : ℕ) (js : List Judged) (x : Step)
    → Back F x (λ check. AfterOperand F s (compared_with parts c) (judged check l i ∷ js)) js → Back F x (λ check. Parts F s (Some c) parts (judged check l i ∷ js)) js
ended_back F s c parts l i js None b = tt
ended_back F s c parts l i js (Some (next, check)) b = λ r. (judged check l i ∷ js, parts, no_more parts (judged check l i ∷ js), b r)

-- a term from its first part on
term_of : (A : Around) (js us vs : List Judged) (part : Summand) (all : List Summand)
    → (IsPart A false js us part ⊎ ((i : ℕ) × (ts : List Judged) × (js ≡ plain a.Minus i ∷ ts) × IsPart A true ts us part)) → AreParts A (part ∷ []) us vs all → IsTerm A js vs all
term_of A js us vs part all (inl p) more = positive all part js us vs p more
term_of A js us vs part all (inr (i, ts, e, p)) more = subst (λ x. IsTerm A x vs all) (sym e) (negative all part i ts us vs p more)

compared_back : (F : Formula) (s : Reading) (sum : Sum) (compared : Option Compared) (l : Lexeme) (i : ℕ) (js : List Judged)
    → Back F (step_compared s sum compared l) (λ check. Parts F s compared sum.parts (judged check l i ∷ js)) js
compared_back F s sum None (a.Sign sign) i js = λ r.
    let ts = judged fine (a.Sign sign) i ∷ js in
    (ts, sum.parts, no_more sum.parts ts, (i, sign, js, r.3.0, r.3.1, refl, term_of (around s) js r.0 r.3.0 r.1 r.3.1 r.2 r.3.2, r.3.3))
compared_back F s sum None l i js = tt
compared_back F s sum (Some c) l i js =
    ended_back F s c sum.parts l i js (step_behind (settled s) (joined s (compared_with sum.parts c)) l)
    (behind_back F (settled s) (joined s (compared_with sum.parts c)) l i js (record { nots = refl; nested = refl; conjunct = refl }))

added_back : (F : Formula) (s : Reading) (sum : Sum) (l : Lexeme) (i : ℕ) (js : List Judged) → Back F (step_added s sum l) (λ check. Parts F s sum.compared sum.parts (judged check l i ∷ js)) js
added_back F s sum a.Plus i js = λ r. (r.3.0, r.3.1, plus sum.parts r.3.1 r.1 i js r.0 r.3.0 r.2 r.3.2, r.3.3)
added_back F s sum a.Minus i js = λ r. (r.3.0, r.3.1, minus sum.parts r.3.1 r.1 i js r.0 r.3.0 r.2 r.3.2, r.3.3)
added_back F s sum l i js = compared_back F s sum sum.compared l i js

finished_back : (F : Formula) (s : Reading) (sum : Sum) (n : ℕ) (l : Lexeme) (i : ℕ) (js : List Judged) (x : Step)
    → Back F x (λ check. More F s sum (multiple sum.minus n of_edge.One) (judged check l i ∷ js)) js → Back F x (λ check. ResumeAt F (of_place.Number sum n) s (judged check l i ∷ js)) js
finished_back F s sum n l i js None b = tt
finished_back F s sum n l i js (Some (next, check)) b = λ r le. (judged check l i ∷ js, multiple sum.minus n of_edge.One, λ k. number n of_unit.One k (judged check l i ∷ js), b r)

number_step_back : (F : Formula) (s : Reading) (sum : Sum) (n : ℕ) (l : Lexeme) (i : ℕ) (js : List Judged)
    → Back F (step_at (of_place.Number sum n) s l) (λ check. ResumeAt F (of_place.Number sum n) s (judged check l i ∷ js)) js
number_step_back F s sum n a.Star i js = λ r le. (r.0, multiple sum.minus n r.1, λ k. times n k i js r.0 r.1 le r.2, r.3)
number_step_back F s sum n l i js = finished_back F s sum n l i js (step_added s (with_part sum n of_edge.One) l) (added_back F s (with_part sum n of_edge.One) l i js)

-- ---- operands and formulas

-- a comparison from its left side on
operand_of : (F : Formula) (s : Reading) (js : List Judged) → SideLeft F s (empty_sum None) js → ResumeAt F of_place.Operand s js
operand_of F s js r =
    let p = r.3 in
    let c = p.3 in
    let left : IsTerm (around s) js (plain (a.Sign c.1) c.0 ∷ c.2) p.1 = subst (λ x. IsTerm (around s) js x p.1) c.5 (term_of (around s) js r.0 p.0 r.1 p.1 r.2 p.2) in
    (c.3, comparison p.1 c.1 c.4, compares (around s) c.1 c.0 js c.2 c.3 p.1 c.4 left c.6, c.7)

compare_back : (F : Formula) (s : Reading) (l : Lexeme) (i : ℕ) (js : List Judged) (x : Step)
    → Back F x (λ check. SideLeft F s (empty_sum None) (judged check l i ∷ js)) js → Back F x (λ check. ResumeAt F of_place.Operand s (judged check l i ∷ js)) js
compare_back F s l i js None b = tt
compare_back F s l i js (Some (next, check)) b = λ r. operand_of F s (judged check l i ∷ js) (b r)

operand_back : (F : Formula) (s : Reading) (l : Lexeme) (i : ℕ) (js : List Judged) → Back F (step_operand s l) (λ check. ResumeAt F of_place.Operand s (judged check l i ∷ js)) js
operand_back F s a.Not i js = λ r.
    let K : Formula → Type 0 = λ x. Behind F s (anded s.conjunct x) r.0 in
    (r.0, of_formula.Not r.1, negates (around s) i js r.0 r.1 r.2, subst K (notted_more s.nots r.1) r.3)
operand_back F s a.Open i js = λ r.
    let o = r.3 in
    (o.1, r.1, parens (around s) i o.0 js o.1 r.1 (subst (λ x. Reads formula (inside (around s)) js x r.1) o.2 r.2), o.3)
operand_back F s (a.Truth value) i js = λ r. (js, of_formula.Const value, truth (around s) value i js, r (record { nots = refl; nested = refl; conjunct = refl }))
operand_back F s (a.Pair p) i js = λ r. (r.0, r.1, r.2 i, r.3)
operand_back F s l i js = compare_back F s l i js (step_side s (empty_sum None) l) (side_back F s (empty_sum None) l i js)

-- a formula from its first operand on
formula_of : (F : Formula) (s : Reading) (js : List Judged) → ResumeAt F of_place.Operand (fresh s) js → ResumeAt F of_place.Start s js
formula_of F s js r =
    let q = r.3 in
    (q.2, q.5, connects (level_of s) js q.1 q.2 q.4 q.5 (first_disjunct (level_of s) js q.0 q.1 q.3 q.4 (first_conjunct (level_of s) js r.0 q.0 r.1 q.3 r.2 q.6) q.7) q.8, q.9)

connect_back : (F : Formula) (s : Reading) (l : Lexeme) (i : ℕ) (js : List Judged) (x : Step)
    → Back F x (λ check. ResumeAt F of_place.Operand (fresh s) (judged check l i ∷ js)) js → Back F x (λ check. ResumeAt F of_place.Start s (judged check l i ∷ js)) js
connect_back F s l i js None b = tt
connect_back F s l i js (Some (next, check)) b = λ r. formula_of F s (judged check l i ∷ js) (b r)

start_back : (F : Formula) (s : Reading) (l : Lexeme) (i : ℕ) (js : List Judged) → Back F (step_at of_place.Start s l) (λ check. ResumeAt F of_place.Start s (judged check l i ∷ js)) js
start_back F s (a.Quantifier q) i js = λ r. let p = r refl in (p.0, p.1, p.2 i, p.3)
start_back F s l i js = connect_back F s l i js (step_operand (fresh s) l) (operand_back F (fresh s) l i js)

-- ---- any place

later : (F : Formula) (x : Step) (H : Type 0) (Before : Check → Type 0) (js : List Judged) → (H → Back F x Before js) → Back F x (λ check. H → Before check) js
later F None H Before js b = tt
later F (Some (next, check)) H Before js b = λ r h. b h r

step_back : (F : Formula) (place : Place) (s : Reading) (l : Lexeme) (i : ℕ) (js : List Judged) → Back F (step_at place s l) (λ check. ResumeAt F place s (judged check l i ∷ js)) js
step_back F of_place.Start s l i js = start_back F s l i js
step_back F of_place.Operand s l i js = operand_back F s l i js
step_back F (of_place.Behind g) s l i js = later F (step_behind s g l) (Settled s) (λ check. Behind F s g (judged check l i ∷ js)) js (behind_back F s g l i js)
step_back F (of_place.Quantifier q) s (a.Name name) i js = λ r e. let p = r e in (p.0, p.1, λ j. p.2 j i, p.3)
step_back F (of_place.Quantifier q) s l i js = tt
step_back F (of_place.Binder q name) s a.In i js = λ r e. let p = r e in (p.0, p.1, λ j k. p.2 j k i, p.3)
step_back F (of_place.Binder q name) s l i js = tt
step_back F (of_place.Domain q name) s (a.Members set) i js = λ r e. let p = r e in (p.0, p.1, λ j k l. p.2 j k l i, p.3)
step_back F (of_place.Domain q name) s l i js = tt
step_back F (of_place.Ranged q name set) s a.Colon i js = λ r e.
    let body : Reads formula (binding name (level_of s)) js r.0 r.1 = subst (λ n. Reads formula (nested_at (name ∷ s.names) n) js r.0 r.1) e r.2 in
    (r.0, quantified q set r.1, λ j k l m. quantifies q name set (level_of s) j k l m i js r.0 r.1 body, r.3)
step_back F (of_place.Ranged q name set) s l i js = tt
step_back F (of_place.Pair p) s a.Open i js = λ r. (r.0, r.1, λ j. r.2 j i, r.3)
step_back F (of_place.Pair p) s l i js = tt
step_back F (of_place.First p) s (a.Name name) i js = λ r.
    let A = around s in (
      r.4,
      paired p (name_number A name) (name_number A r.1),
      λ j k. subst (λ x. Reads operand A (plain (a.Pair p) j ∷ plain a.Open k ∷ judged (name_check A name) (a.Name name) i ∷ x) r.4 (paired p (name_number A name) (name_number A r.1))) (sym r.5)
          (pairs A p name r.1 j k i r.0 r.2 r.3 r.4),
      r.6,
    )
step_back F (of_place.First p) s l i js = tt
step_back F (of_place.Comma p x) s a.Comma i js = λ r. (i, r.0, r.1, r.2, r.3, ap (λ ts. plain a.Comma i ∷ ts) r.4, r.5)
step_back F (of_place.Comma p x) s l i js = tt
step_back F (of_place.Second p x) s (a.Name name) i js = λ r. (name, i, r.0, r.1, ap (λ ts. judged (name_check (around s) name) (a.Name name) i ∷ ts) r.2, r.3)
step_back F (of_place.Second p x) s l i js = tt
step_back F (of_place.Last p x y) s a.Close i js = λ r. (i, js, refl, r (record { nots = refl; nested = refl; conjunct = refl }))
step_back F (of_place.Last p x y) s l i js = tt
step_back F (of_place.Side sum) s l i js = side_back F s sum l i js
step_back F (of_place.Part sum) s l i js = part_back F s sum l i js
step_back F (of_place.Number sum n) s l i js = number_step_back F s sum n l i js
step_back F (of_place.Factor sum n) s l i js = edge_back F s sum n l i js
step_back F (of_place.Edge sum n spot) s l i js = spot_back F s sum n spot l i js
step_back F (of_place.Added sum) s l i js = added_back F s sum l i js

-- ---- to the end

pub no_formula : {f : Formula} → None ≡ Some f → ⊥
no_formula e = cc

abbrev formula_or : Formula → Option Formula → Formula
formula_or f None = f
formula_or f (Some g) = g

some_same : {f g : Formula} → Some f ≡ Some g → f ≡ g
some_same {f = f} e = ap (formula_or f) e

outer_end : (F : Formula) (frames : List Frame) (names : List (List ℕ)) (f : Formula) → whole (closed frames names f) ≡ Some F → Outer F frames names f []
outer_end F [] names f e = (refl, some_same e)
outer_end F (Quantified q set ∷ frames) names f e = outer_end F frames (others names) (quantified q set f) e
outer_end F (Implied left ∷ frames) names f e = outer_end F frames names (of_formula.Implies left f) e
outer_end F (Parens o ∷ frames) names f e = absurd (no_formula e)

behind_end : (F : Formula) (s : Reading) (g : Formula) → whole (closing s g) ≡ Some F → Behind F s g []
behind_end F s g e =
    let f = ored s.disjunct g in
    ([], [], [], g, f, f, no_and (level_of s) [] g, no_or (level_of s) [] f, no_implies (level_of s) [] f, outer_end F s.frames s.names f e)

added_end : (F : Formula) (s : Reading) (parts : List Summand) (sum : Sum) (compared : Option Compared) → sum.parts ≡ parts → ended_added s sum compared ≡ Some F → Parts F s compared parts []
added_end F s parts sum None p e = absurd (no_formula e)
added_end F s parts sum (Some c) p e = subst (λ x. Parts F s (Some c) x []) p ([], sum.parts, no_more sum.parts [], behind_end F (settled s) (joined s (compared_with sum.parts c)) e)

end_at : (F : Formula) (place : Place) (s : Reading) → ended_at place s ≡ Some F → ResumeAt F place s []
end_at F (of_place.Behind g) s e = λ h. behind_end F s g e
end_at F (of_place.Number sum n) s e = λ le.
    ([], multiple sum.minus n of_edge.One, λ i. number n of_unit.One i [], added_end F s (sum.parts ++ multiple sum.minus n of_edge.One ∷ []) (with_part sum n of_edge.One) sum.compared refl e)
end_at F (of_place.Added sum) s e = added_end F s sum.parts sum sum.compared refl e
end_at F place s e = absurd (no_formula e)

back_to : (F : Formula) (x : Step) (Before : Check → Type 0) (js : List Judged) (next : Reading) (check : Check) → x ≡ Some (next, check) → Back F x Before js → Resume F next js → Before check
back_to F x Before js next check e b = let B : Step → Type 0 = λ z. Back F z Before js in subst B e b

sound : {F : Formula} {s m : Reading} {js us : List Judged} → Walk s js us m → us ≡ [] → ended m ≡ Some F → Resume F s js
sound {F = F} {s = s} stop n e = subst (λ x. Resume F s x) (sym n) (end_at F s.place (at s of_place.Start) e)
sound {F = F} {s = s} (take {next = next} {j = j} {js = js} k w) n e =
    back_to F (step s j.lexeme) (λ check. ResumeAt F s.place (at s of_place.Start) (judged check j.lexeme j.at ∷ js)) js next j.check k (step_back F s.place (at s of_place.Start) j.lexeme j.at js) (sound w n e)

-- tokens that are read to a formula are this formula
pub sounds : {ts : List Judged} {m : Reading} {f : Formula} → Walk initial ts [] m → ended m ≡ Some f → AreFormula ts f
sounds {ts = ts} {f = f} w e =
    let r = sound w refl e in
    let h : Reads formula (level_of initial) ts [] r.1 = subst (λ x. Reads formula (level_of initial) ts x r.1) r.3.0 r.2 in
    subst (λ x. Reads formula (level_of initial) ts [] x) r.3.1 h

-- Reading a formula token by token: what the next token does at each place, and whether it may stand there.
use Rattle.std.specs.Prelude.{ℕ, ◌+◌, nat_le, Bool, true, false, List, [], ◌∷◌, ◌++◌, zero, suc, Option, Some, None, Result, Ok, Err}
use Rattle.std.specs.Option.{ok_or}
use Rattle.viz_base.specs.Answers.{Gives}
use Rattle.viz_base.specs.declared.formulas.Edge.{Edge}
use Rattle.viz_base.specs.declared.formulas.Edge.TheVariants as of_edge
use Rattle.viz_base.specs.declared.formulas.Formula.{Formula}
use Rattle.viz_base.specs.declared.formulas.Formula.TheVariants as of_formula
use Rattle.viz_base.specs.declared.formulas.Ring.{Ring}
use Rattle.viz_base.specs.declared.formulas.Ring.TheVariants.{Border}
use Rattle.viz_base.specs.declared.formulas.Set.{Set}
use Rattle.viz_base.specs.declared.formulas.Sign.{Sign}
use Rattle.viz_base.specs.declared.formulas.Summand.{Summand}
use Rattle.vis_read.specs.declared.faults.Stop.{Stop}
use Rattle.vis_read.specs.declared.faults.Stop.TheVariants as of_stop
use Rattle.vis_read.specs.declared.lexemes.Lexeme.{Lexeme}
use Rattle.vis_read.specs.declared.lexemes.Lexeme.TheVariants as a
use Rattle.vis_read.specs.declared.lexemes.Pair.{Pair}
use Rattle.vis_read.specs.declared.lexemes.Quantifier.{Quantifier}
use Rattle.vis_read.specs.declared.lexemes.Unit.TheVariants as of_unit
use Rattle.vis_read.specs.declared.reading.Closed.{Closed}
use Rattle.vis_read.specs.declared.reading.Compared.{Compared}
use Rattle.vis_read.specs.declared.reading.Frame.{Frame}
use Rattle.vis_read.specs.declared.reading.Frame.TheVariants.{Quantified, Implied, Parens}
use Rattle.vis_read.specs.declared.reading.Held.{Held}
use Rattle.vis_read.specs.declared.reading.Outside.{Outside}
use Rattle.vis_read.specs.declared.reading.Place.{Place}
use Rattle.vis_read.specs.declared.reading.Place.TheVariants as of_place
use Rattle.vis_read.specs.declared.reading.Reading.{Reading}
use Rattle.vis_read.specs.declared.reading.Spot.{Spot}
use Rattle.vis_read.specs.declared.reading.Spot.TheVariants as of_spot
use Rattle.vis_read.specs.declared.reading.Sum.{Sum}
use Rattle.vis_read.specs.Grammar.{Check, fine, unbound, too_deep, Around, opener_check, quantifier_check, quantifiers_between, bound_check, number_or_zero, in_units, multiple, quantified, paired, comparison}

-- ---- parts that are read

-- behind so many `not`s
abbrev pub notted : ℕ → Formula → Formula
notted zero f = f
notted (suc n) f = of_formula.Not (notted n f)

abbrev pub anded : Option Formula → Formula → Formula
anded None f = f
anded (Some left) f = of_formula.And left f

abbrev pub ored : Option Formula → Formula → Formula
ored None f = f
ored (Some left) f = of_formula.Or left f

-- ---- what a token does

abbrev pub at : Reading → Place → Reading
at s place = record s { place = place }

-- all but the place
abbrev pub held : Reading → Held
held s = record {
  frames = s.frames;
  names = s.names;
  level = s.level;
  nested = s.nested;
  nots = s.nots;
  disjunct = s.disjunct;
  conjunct = s.conjunct;
}

-- before an operand that follows nothing
abbrev pub fresh : Reading → Reading
fresh s = record s { nested = s.level; nots = 0; disjunct = None; conjunct = None }

-- behind a part of a conjunction
abbrev pub settled : Reading → Reading
settled s = record s { nested = s.level; nots = 0; conjunct = None }

-- the conjunction with one more operand
abbrev pub joined : Reading → Formula → Formula
joined s f = anded s.conjunct (notted s.nots f)

-- behind a conjunction
abbrev pub behind : Reading → Formula → Reading
behind s f = at (settled s) (of_place.Behind f)

-- behind an operand
abbrev pub completed : Reading → Formula → Reading
completed s f = behind s (joined s f)

-- the names around the innermost one
abbrev pub others : List (List ℕ) → List (List ℕ)
others [] = []
others (name ∷ names) = names

-- where a formula ends, so do those that end with it
abbrev pub closed : List Frame → List (List ℕ) → Formula → Closed
closed [] names f = record { parens = None; frames = []; names = names; value = f }
closed (Quantified q set ∷ frames) names f = closed frames (others names) (quantified q set f)
closed (Implied left ∷ frames) names f = closed frames names (of_formula.Implies left f)
closed (Parens outside ∷ frames) names f = record { parens = Some outside; frames = frames; names = names; value = f }

-- what is behind a formula that stood in parentheses
abbrev pub outside_of : Outside → List Frame → List (List ℕ) → Reading
outside_of o frames names = record {
  frames = frames;
  names = names;
  level = o.level;
  nested = o.nested;
  nots = o.nots;
  disjunct = o.disjunct;
  conjunct = o.conjunct;
  place = of_place.Start;
}

-- what a token does: behind it reading stands so, and it may stand there or
-- not; nothing where no formula can have it there
abbrev pub Step : Type 0
Step = Option (Reading × Check)

abbrev pub go : Reading → Step
go s = Some (s, fine)

abbrev pub at_parens : Option Outside → List Frame → List (List ℕ) → Formula → Step
at_parens None frames names f = None
at_parens (Some o) frames names f = go (completed (outside_of o frames names) f)

abbrev pub close_parens : Closed → Step
close_parens c = at_parens c.parens c.frames c.names c.value

abbrev pub closing : Reading → Formula → Closed
closing s f = closed s.frames s.names (ored s.disjunct f)

abbrev pub around : Reading → Around
around s = record { names = s.names; nested = s.nested }

abbrev pub inner : Reading → Reading
inner s = record {
  frames = Parens (record {
    level = s.level;
    nested = s.nested;
    nots = s.nots;
    disjunct = s.disjunct;
    conjunct = s.conjunct;
  }) ∷ s.frames;
  names = s.names;
  level = s.nested + 1;
  nested = 0;
  nots = 0;
  disjunct = None;
  conjunct = None;
  place = of_place.Start;
}

-- ---- terms

abbrev pub empty_sum : Option Compared → Sum
empty_sum compared = record { compared = compared; parts = []; minus = false }

abbrev pub with_sign : Sum → Bool → Sum
with_sign sum minus = record { compared = sum.compared; parts = sum.parts; minus = minus }

-- with one more part
abbrev pub with_part : Sum → ℕ → Edge → Sum
with_part sum n edge =
    record { compared = sum.compared; parts = sum.parts ++ multiple sum.minus n edge ∷ []; minus = false }

abbrev pub at_named : Reading → Sum → ℕ → Option ℕ → Step
at_named s sum n place = Some (at s (of_place.Edge sum n (of_spot.Name (number_or_zero place))), bound_check place)

abbrev pub step_edge : Reading → Sum → ℕ → Lexeme → Step
step_edge s sum n (a.Name name) = at_named s sum n (quantifiers_between s.names name)
step_edge s sum n a.View = go (at s (of_place.Edge sum n of_spot.View))
step_edge s sum n _ = None

abbrev pub at_number : Reading → Sum → ℕ → Bool → Reading
at_number s sum n true = at s (of_place.Number sum n)
at_number s sum n false = at s (of_place.Added (with_part sum n of_edge.One))

abbrev pub step_part : Reading → Sum → Lexeme → Step
step_part s sum (a.Number n of_unit.One) = go (at_number s sum n (nat_le n 65536))
step_part s sum (a.Number n of_unit.Px) = go (at s (of_place.Added (with_part sum (in_units of_unit.Px n) of_edge.One)))
step_part s sum lexeme = step_edge s sum 1 lexeme

abbrev pub step_side : Reading → Sum → Lexeme → Step
step_side s sum a.Minus = go (at s (of_place.Part (with_sign sum true)))
step_side s sum lexeme = step_part s sum lexeme

abbrev pub step_dot : Reading → Sum → ℕ → Spot → Lexeme → Step
step_dot s sum n spot a.Dot = go (at s (of_place.Edge sum n spot))
step_dot s sum n spot _ = None

abbrev pub step_ring : Reading → Sum → ℕ → ℕ → Lexeme → Step
step_ring s sum n name (a.Face face) = go (at s (of_place.Added (with_part sum n (of_edge.Name name Border face))))
step_ring s sum n name (a.Ring ring) = go (at s (of_place.Edge sum n (of_spot.Ring name ring)))
step_ring s sum n name _ = None

abbrev pub step_face : Reading → Sum → ℕ → ℕ → Ring → Lexeme → Step
step_face s sum n name ring (a.Face face) = go (at s (of_place.Added (with_part sum n (of_edge.Name name ring face))))
step_face s sum n name ring _ = None

abbrev pub step_view : Reading → Sum → ℕ → Lexeme → Step
step_view s sum n a.Width = go (at s (of_place.Added (with_part sum n of_edge.ViewWidth)))
step_view s sum n a.Height = go (at s (of_place.Added (with_part sum n of_edge.ViewHeight)))
step_view s sum n _ = None

abbrev pub step_spot : Reading → Sum → ℕ → Spot → Lexeme → Step
step_spot s sum n (of_spot.Name name) lexeme = step_dot s sum n (of_spot.NameDot name) lexeme
step_spot s sum n (of_spot.NameDot name) lexeme = step_ring s sum n name lexeme
step_spot s sum n (of_spot.Ring name ring) lexeme = step_dot s sum n (of_spot.RingDot name ring) lexeme
step_spot s sum n (of_spot.RingDot name ring) lexeme = step_face s sum n name ring lexeme
step_spot s sum n of_spot.View lexeme = step_dot s sum n of_spot.ViewDot lexeme
step_spot s sum n of_spot.ViewDot lexeme = step_view s sum n lexeme

-- ---- formulas

-- behind `and` and `or`
abbrev pub with_and : Reading → Formula → Reading
with_and s f = record s { conjunct = Some f; place = of_place.Operand }

abbrev pub with_or : Reading → Formula → Reading
with_or s f = record s { disjunct = Some (ored s.disjunct f); place = of_place.Operand }

-- behind `implies`
abbrev pub implied : Reading → Formula → Reading
implied s left = record (fresh s) { frames = Implied left ∷ s.frames; place = of_place.Start }

abbrev pub step_behind : Reading → Formula → Lexeme → Step
step_behind s f a.And = go (with_and s f)
step_behind s f a.Or = go (with_or s f)
step_behind s f a.Implies = go (implied s (ored s.disjunct f))
step_behind s f a.Close = close_parens (closing s f)
step_behind s f _ = None

abbrev pub compare : Reading → List Summand → Sign → Reading
compare s parts sign = at s (of_place.Side (empty_sum (Some (record { left = record { parts = parts }; sign = sign }))))

abbrev pub step_sign : Reading → List Summand → Lexeme → Step
step_sign s parts (a.Sign sign) = go (compare s parts sign)
step_sign s parts _ = None

-- the comparison that a right side ends
abbrev pub compared_with : List Summand → Compared → Formula
compared_with right c = comparison c.left.parts c.sign right

abbrev pub step_compared : Reading → Sum → Option Compared → Lexeme → Step
step_compared s sum None lexeme = step_sign s sum.parts lexeme
step_compared s sum (Some c) lexeme = step_behind (settled s) (joined s (compared_with sum.parts c)) lexeme

abbrev pub step_added : Reading → Sum → Lexeme → Step
step_added s sum a.Plus = go (at s (of_place.Part (with_sign sum false)))
step_added s sum a.Minus = go (at s (of_place.Part (with_sign sum true)))
step_added s sum lexeme = step_compared s sum sum.compared lexeme

abbrev pub step_number : Reading → Sum → ℕ → Lexeme → Step
step_number s sum n a.Star = go (at s (of_place.Factor sum n))
step_number s sum n lexeme = step_added s (with_part sum n of_edge.One) lexeme

-- behind so many `not`s
abbrev pub at_operand : Reading → ℕ → Reading
at_operand s nots = record s { nested = s.nested + 1; nots = nots; place = of_place.Operand }

abbrev pub negated : Reading → Step
negated s = Some (at_operand s (s.nots + 1), opener_check (around s))

-- inside a parenthesis
abbrev pub opened : Reading → Step
opened s = Some (inner s, opener_check (around s))

abbrev pub step_operand : Reading → Lexeme → Step
step_operand s a.Not = negated s
step_operand s a.Open = opened s
step_operand s (a.Truth value) = go (completed s (of_formula.Const value))
step_operand s (a.Pair p) = go (at s (of_place.Pair p))
step_operand s lexeme = step_side s (empty_sum None) lexeme

-- behind a quantifier
abbrev pub at_quantifier : Reading → Quantifier → Reading
at_quantifier s q = record s { nested = s.nested + 1; place = of_place.Quantifier q }

abbrev pub quantifier : Reading → Quantifier → Step
quantifier s q = Some (at_quantifier s q, quantifier_check (around s))

abbrev pub step_start : Reading → Lexeme → Step
step_start s (a.Quantifier q) = quantifier (fresh s) q
step_start s lexeme = step_operand (fresh s) lexeme

abbrev pub bind : Reading → Quantifier → List ℕ → Set → Reading
bind s q name set =
    record s { frames = Quantified q set ∷ s.frames; names = name ∷ s.names; level = s.nested; place = of_place.Start }

abbrev pub at_first : Reading → Pair → Option ℕ → Step
at_first s p place = Some (at s (of_place.Comma p (number_or_zero place)), bound_check place)

abbrev pub at_second : Reading → Pair → ℕ → Option ℕ → Step
at_second s p x place = Some (at s (of_place.Last p x (number_or_zero place)), bound_check place)

abbrev pub step_quantifier : Reading → Quantifier → Lexeme → Step
step_quantifier s q (a.Name name) = go (at s (of_place.Binder q name))
step_quantifier s q _ = None

abbrev pub step_binder : Reading → Quantifier → List ℕ → Lexeme → Step
step_binder s q name a.In = go (at s (of_place.Domain q name))
step_binder s q name _ = None

abbrev pub step_domain : Reading → Quantifier → List ℕ → Lexeme → Step
step_domain s q name (a.Members set) = go (at s (of_place.Ranged q name set))
step_domain s q name _ = None

abbrev pub step_ranged : Reading → Quantifier → List ℕ → Set → Lexeme → Step
step_ranged s q name set a.Colon = go (bind s q name set)
step_ranged s q name set _ = None

abbrev pub step_pair : Reading → Pair → Lexeme → Step
step_pair s p a.Open = go (at s (of_place.First p))
step_pair s p _ = None

abbrev pub step_first : Reading → Pair → Lexeme → Step
step_first s p (a.Name name) = at_first s p (quantifiers_between s.names name)
step_first s p _ = None

abbrev pub step_comma : Reading → Pair → ℕ → Lexeme → Step
step_comma s p x a.Comma = go (at s (of_place.Second p x))
step_comma s p x _ = None

abbrev pub step_second : Reading → Pair → ℕ → Lexeme → Step
step_second s p x (a.Name name) = at_second s p x (quantifiers_between s.names name)
step_second s p x _ = None

abbrev pub step_last : Reading → Pair → ℕ → ℕ → Lexeme → Step
step_last s p x y a.Close = go (completed s (paired p x y))
step_last s p x y _ = None

-- where nothing but the place changes
abbrev pub move_at : Place → Reading → Lexeme → Step
move_at (of_place.Quantifier q) s lexeme = step_quantifier s q lexeme
move_at (of_place.Binder q name) s lexeme = step_binder s q name lexeme
move_at (of_place.Domain q name) s lexeme = step_domain s q name lexeme
move_at (of_place.Pair p) s lexeme = step_pair s p lexeme
move_at (of_place.First p) s lexeme = step_first s p lexeme
move_at (of_place.Comma p x) s lexeme = step_comma s p x lexeme
move_at (of_place.Second p x) s lexeme = step_second s p x lexeme
move_at (of_place.Side sum) s lexeme = step_side s sum lexeme
move_at (of_place.Part sum) s lexeme = step_part s sum lexeme
move_at (of_place.Factor sum n) s lexeme = step_edge s sum n lexeme
move_at (of_place.Edge sum n spot) s lexeme = step_spot s sum n spot lexeme
move_at _ s lexeme = None

abbrev pub step_at : Place → Reading → Lexeme → Step
step_at of_place.Start s lexeme = step_start s lexeme
step_at of_place.Operand s lexeme = step_operand s lexeme
step_at (of_place.Behind f) s lexeme = step_behind s f lexeme
step_at (of_place.Ranged q name set) s lexeme = step_ranged s q name set lexeme
step_at (of_place.Last p x y) s lexeme = step_last s p x y lexeme
step_at (of_place.Number sum n) s lexeme = step_number s sum n lexeme
step_at (of_place.Added sum) s lexeme = step_added s sum lexeme
step_at place s lexeme = move_at place s lexeme

-- whether what follows a place keeps a part of the next token
abbrev pub keeps : Place → Bool
keeps (of_place.Quantifier q) = true
keeps (of_place.Domain q name) = true
keeps _ = false

abbrev pub step : Reading → Lexeme → Step
step s lexeme = step_at s.place (at s of_place.Start) lexeme

-- ---- the end of the text

-- the formula, where no parenthesis is open
abbrev pub whole : Closed → Option Formula
whole c = elim c.parens as (λ _. Option Formula) [ None ↦ Some c.value | Some _ ↦ None ]

abbrev pub ended_added : Reading → Sum → Option Compared → Option Formula
ended_added s sum None = None
ended_added s sum (Some c) = whole (closing (settled s) (joined s (compared_with sum.parts c)))

abbrev pub ended_at : Place → Reading → Option Formula
ended_at (of_place.Behind f) s = whole (closing s f)
ended_at (of_place.Number sum n) s = ended_added s (with_part sum n of_edge.One) sum.compared
ended_at (of_place.Added sum) s = ended_added s sum sum.compared
ended_at _ s = None

-- the formula that is read where the text ends
abbrev pub ended : Reading → Option Formula
ended s = ended_at s.place (at s of_place.Start)

abbrev pub initial : Reading
initial = record {
  frames = [];
  names = [];
  level = 0;
  nested = 0;
  nots = 0;
  disjunct = None;
  conjunct = None;
  place = of_place.Start;
}

-- ---- which answer of the code stands for which step. Want of memory is free.

-- the reading behind a token, or why the token may not stand where it stands
abbrev pub taken : Step → Result Reading Stop
taken None = Err of_stop.Bad
taken (Some (s, fine)) = Ok s
taken (Some (s, unbound)) = Err of_stop.Unbound
taken (Some (s, too_deep)) = Err of_stop.TooDeep

-- the refusal that a stop names: itself
abbrev pub refusal_of : Stop → Option Stop
refusal_of of_stop.Mem = None
refusal_of stop = Some stop

abbrev pub Steps : Result Reading Stop → Step → Type 0
Steps result step = Gives (λ s. s) refusal_of result (taken step)

-- the same of an answer that changes the place alone
abbrev pub Moves : Reading → Result Place Stop → Step → Type 0
Moves s result step = Gives (at s) refusal_of result (taken step)

-- the formula, or that the text may not end there
abbrev pub formula_read : Option Formula → Result Formula Stop
formula_read formula = ok_or formula of_stop.Bad

abbrev pub Ends : Result Formula Stop → Option Formula → Type 0
Ends result formula = Gives (λ f. f) refusal_of result (formula_read formula)

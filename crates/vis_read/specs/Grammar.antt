-- The grammar of formulas, over tokens:
--
--     formula     := quantifier name "in" set ":" formula | disjunction [ "implies" formula ]
--     disjunction := conjunction [ "or" conjunction ]*
--     conjunction := operand [ "and" operand ]*
--     operand     := "not" operand | "(" formula ")" | "true" | "false" | term sign term
--                  | "overlap" "(" name "," name ")" | "same" "(" name "," name ")"
--     term        := [ "-" ] part [ [ "+" | "-" ] part ]*
--     part        := number | number "*" edge | edge
--     edge        := name "." [ ring "." ] face | "view" "." [ "width" | "height" ]
--
-- Chains of `or` and of `and` group to the left. Each rule says which tokens it begins with and which it
-- leaves. It is told the names that are bound around it, and of each token it says whether it may stand
-- there: a name may be unbound, and a quantifier, a parenthesis or a `not` too deep.
use Rattle.std.specs.Prelude.{◌≡◌, ℕ, ℤ, pos, neg_ℤ, ◌+◌, ◌*◌, ◌≤◌, nat_lt, Bool, true, false, ◌&&◌, List, [], ◌∷◌, ◌++◌, length, map, bytes_eq, Option, Some, None}
use Rattle.std.specs.List.{position}
use Rattle.viz_base.specs.declared.formulas.Edge.{Edge}
use Rattle.viz_base.specs.declared.formulas.Edge.TheVariants as of_edge
use Rattle.viz_base.specs.declared.formulas.Face.{Face}
use Rattle.viz_base.specs.declared.formulas.Formula.{Formula}
use Rattle.viz_base.specs.declared.formulas.Formula.TheVariants as of_formula
use Rattle.viz_base.specs.declared.formulas.Ring.{Ring}
use Rattle.viz_base.specs.declared.formulas.Ring.TheVariants.{Border}
use Rattle.viz_base.specs.declared.formulas.Set.{Set}
use Rattle.viz_base.specs.declared.formulas.Sign.{Sign}
use Rattle.viz_base.specs.declared.formulas.Summand.{Summand}
use Rattle.vis_read.specs.declared.lexemes.Lexeme.{Lexeme}
use Rattle.vis_read.specs.declared.lexemes.Lexeme.TheVariants as a
use Rattle.vis_read.specs.declared.lexemes.Pair.{Pair}
use Rattle.vis_read.specs.declared.lexemes.Pair.TheVariants as of_pair
use Rattle.vis_read.specs.declared.lexemes.Quantifier.{Quantifier}
use Rattle.vis_read.specs.declared.lexemes.Quantifier.TheVariants as of_quantifier
use Rattle.vis_read.specs.declared.lexemes.Token.{Token}
use Rattle.vis_read.specs.declared.lexemes.Unit.{Unit as Counted}
use Rattle.vis_read.specs.declared.lexemes.Unit.TheVariants as of_unit

-- ---- tokens that are judged

pub data Check : Type 0 where
  fine : Check
  unbound : Check
  too_deep : Check

-- a token, with whether it may stand where it stands
pub record Judged : Type 0 where
  pub check : Check
  pub lexeme : Lexeme
  pub at : ℕ

abbrev pub judged : Check → Lexeme → ℕ → Judged
judged check lexeme at = record { check = check; lexeme = lexeme; at = at }

abbrev pub plain : Lexeme → ℕ → Judged
plain = judged fine

-- ---- what is around a token

-- the names that are bound, the innermost first, and how many quantifiers, parentheses and `not`s are around
pub record Around : Type 0 where
  pub names : List (List ℕ)
  pub nested : ℕ

abbrev pub nowhere : Around
nowhere = record { names = []; nested = 0 }

-- inside one more of these
abbrev pub inside : Around → Around
inside around = record { names = around.names; nested = around.nested + 1 }

-- inside a quantifier that binds the name
abbrev pub binding : List ℕ → Around → Around
binding name around = record { names = name ∷ around.names; nested = around.nested + 1 }

-- 64 may be around a parenthesis or a `not`, and at most two quantifiers of them around a quantifier
abbrev pub deep_where : Bool → Check
deep_where true = fine
deep_where false = too_deep

abbrev pub opener_check : Around → Check
opener_check around = deep_where (nat_lt around.nested 64)

abbrev pub quantifier_check : Around → Check
quantifier_check around = deep_where (nat_lt (length around.names) 2 && nat_lt around.nested 64)

-- the quantifiers between a name and its own, so that an inner one hides an outer one of the same name
abbrev pub quantifiers_between : List (List ℕ) → List ℕ → Option ℕ
quantifiers_between names name = position (λ other. bytes_eq other name) names

abbrev pub bound_check : Option ℕ → Check
bound_check (Some between) = fine
bound_check None = unbound

abbrev pub name_check : Around → List ℕ → Check
name_check around name = bound_check (quantifiers_between around.names name)

-- of an unbound name any number stands for it
abbrev pub number_or_zero : Option ℕ → ℕ
number_or_zero (Some between) = between
number_or_zero None = 0

abbrev pub name_number : Around → List ℕ → ℕ
name_number around name = number_or_zero (quantifiers_between around.names name)

-- ---- terms, in units of 1/64 px

abbrev pub in_units : Counted → ℕ → ℕ
in_units of_unit.One n = n
in_units of_unit.Px n = n * 64

abbrev pub signed : Bool → ℕ → ℤ
signed true n = neg_ℤ (pos n)
signed false n = pos n

-- so often an edge, or less where a minus stands before it
abbrev pub multiple : Bool → ℕ → Edge → Summand
multiple minus n edge = record { times = signed minus n; edge = edge }

-- an edge of a rectangle, that of the border where none is named, or one of the viewport
pub data IsEdge (around : Around) : List Judged → List Judged → Edge → Type 0 where
  face : (name : List ℕ) (f : Face) (i j k : ℕ) (rest : List Judged)
      → IsEdge around (judged (name_check around name) (a.Name name) i ∷ plain a.Dot j ∷ plain (a.Face f) k ∷ rest)
      rest (of_edge.Name (name_number around name) Border f)
  ring : (name : List ℕ) (r : Ring) (f : Face) (i j k l m : ℕ) (rest : List Judged)
      → IsEdge around (judged (name_check around name) (a.Name name) i ∷ plain a.Dot j ∷ plain (a.Ring r) k
      ∷ plain a.Dot l ∷ plain (a.Face f) m ∷ rest) rest (of_edge.Name (name_number around name) r f)
  width : (i j k : ℕ) (rest : List Judged)
      → IsEdge around (plain a.View i ∷ plain a.Dot j ∷ plain a.Width k ∷ rest) rest of_edge.ViewWidth
  height : (i j k : ℕ) (rest : List Judged)
      → IsEdge around (plain a.View i ∷ plain a.Dot j ∷ plain a.Height k ∷ rest) rest of_edge.ViewHeight

-- A part of a term, before which a minus may stand. A factor is a number without `px`, of at most 65,536.
pub data IsPart (around : Around) (minus : Bool) : List Judged → List Judged → Summand → Type 0 where
  number : (n : ℕ) (unit : Counted) (i : ℕ) (rest : List Judged)
      → IsPart around minus (plain (a.Number n unit) i ∷ rest) rest (multiple minus (in_units unit n) of_edge.One)
  times : (n : ℕ) (i j : ℕ) (ts rest : List Judged) (edge : Edge) → n ≤ 65536 → IsEdge around ts rest edge
      → IsPart around minus (plain (a.Number n of_unit.One) i ∷ plain a.Star j ∷ ts) rest (multiple minus n edge)
  once : (ts rest : List Judged) (edge : Edge) → IsEdge around ts rest edge
      → IsPart around minus ts rest (multiple minus 1 edge)

-- the parts of a term, of which some are read
pub data AreParts (around : Around) : List Summand → List Judged → List Judged → List Summand → Type 0 where
  no_more : (parts : List Summand) (rest : List Judged) → AreParts around parts rest rest parts
  plus : (parts whole : List Summand) (s : Summand) (i : ℕ) (ts us rest : List Judged)
      → IsPart around false ts us s → AreParts around (parts ++ s ∷ []) us rest whole
      → AreParts around parts (plain a.Plus i ∷ ts) rest whole
  minus : (parts whole : List Summand) (s : Summand) (i : ℕ) (ts us rest : List Judged)
      → IsPart around true ts us s → AreParts around (parts ++ s ∷ []) us rest whole
      → AreParts around parts (plain a.Minus i ∷ ts) rest whole

pub data IsTerm (around : Around) : List Judged → List Judged → List Summand → Type 0 where
  positive : (parts : List Summand) (s : Summand) (ts us rest : List Judged)
      → IsPart around false ts us s → AreParts around (s ∷ []) us rest parts → IsTerm around ts rest parts
  negative : (parts : List Summand) (s : Summand) (i : ℕ) (ts us rest : List Judged)
      → IsPart around true ts us s → AreParts around (s ∷ []) us rest parts
      → IsTerm around (plain a.Minus i ∷ ts) rest parts

-- ---- formulas

abbrev pub quantified : Quantifier → Set → Formula → Formula
quantified of_quantifier.Forall set body = of_formula.Forall set body
quantified of_quantifier.Exists set body = of_formula.Exists set body

abbrev pub paired : Pair → ℕ → ℕ → Formula
paired of_pair.Overlap x y = of_formula.Overlap x y
paired of_pair.Same x y = of_formula.Same x y

abbrev pub comparison : List Summand → Sign → List Summand → Formula
comparison left sign right = of_formula.Cmp (record { parts = left }) sign (record { parts = right })

-- what a rule of the grammar is for; of chains, and of what may follow a disjunction, with the part that is read
pub data Rule : Type 0 where
  formula : Rule
  consequence : Formula → Rule
  disjunction : Rule
  disjuncts : Formula → Rule
  conjunction : Rule
  conjuncts : Formula → Rule
  operand : Rule

pub data Reads : Rule → Around → List Judged → List Judged → Formula → Type 0 where
  quantifies : (q : Quantifier) (name : List ℕ) (set : Set) (around : Around) (i j k l m : ℕ) (ts rest : List Judged)
      (body : Formula)
      → Reads formula (binding name around) ts rest body
      → Reads formula around
      (judged (quantifier_check around) (a.Quantifier q) i ∷ plain (a.Name name) j ∷ plain a.In k
      ∷ plain (a.Members set) l ∷ plain a.Colon m ∷ ts) rest (quantified q set body)
  connects : (around : Around) (ts us rest : List Judged) (left f : Formula)
      → Reads disjunction around ts us left → Reads (consequence left) around us rest f → Reads formula around ts rest f
  no_implies : (around : Around) (rest : List Judged) (left : Formula) → Reads (consequence left) around rest rest left
  implies : (around : Around) (i : ℕ) (ts rest : List Judged) (left right : Formula)
      → Reads formula around ts rest right
      → Reads (consequence left) around (plain a.Implies i ∷ ts) rest (of_formula.Implies left right)
  first_disjunct : (around : Around) (ts us rest : List Judged) (left f : Formula)
      → Reads conjunction around ts us left → Reads (disjuncts left) around us rest f
      → Reads disjunction around ts rest f
  no_or : (around : Around) (rest : List Judged) (left : Formula) → Reads (disjuncts left) around rest rest left
  or : (around : Around) (i : ℕ) (ts us rest : List Judged) (left right f : Formula)
      → Reads conjunction around ts us right → Reads (disjuncts (of_formula.Or left right)) around us rest f
      → Reads (disjuncts left) around (plain a.Or i ∷ ts) rest f
  first_conjunct : (around : Around) (ts us rest : List Judged) (left f : Formula)
      → Reads operand around ts us left → Reads (conjuncts left) around us rest f → Reads conjunction around ts rest f
  no_and : (around : Around) (rest : List Judged) (left : Formula) → Reads (conjuncts left) around rest rest left
  and : (around : Around) (i : ℕ) (ts us rest : List Judged) (left right f : Formula)
      → Reads operand around ts us right → Reads (conjuncts (of_formula.And left right)) around us rest f
      → Reads (conjuncts left) around (plain a.And i ∷ ts) rest f
  negates : (around : Around) (i : ℕ) (ts rest : List Judged) (f : Formula)
      → Reads operand (inside around) ts rest f
      → Reads operand around (judged (opener_check around) a.Not i ∷ ts) rest (of_formula.Not f)
  parens : (around : Around) (i j : ℕ) (ts rest : List Judged) (f : Formula)
      → Reads formula (inside around) ts (plain a.Close j ∷ rest) f
      → Reads operand around (judged (opener_check around) a.Open i ∷ ts) rest f
  truth : (around : Around) (value : Bool) (i : ℕ) (rest : List Judged)
      → Reads operand around (plain (a.Truth value) i ∷ rest) rest (of_formula.Const value)
  compares : (around : Around) (sign : Sign) (i : ℕ) (ts us rest : List Judged) (left right : List Summand)
      → IsTerm around ts (plain (a.Sign sign) i ∷ us) left → IsTerm around us rest right
      → Reads operand around ts rest (comparison left sign right)
  pairs : (around : Around) (p : Pair) (x y : List ℕ) (i j k l m n : ℕ) (rest : List Judged)
      → Reads operand around
      (plain (a.Pair p) i ∷ plain a.Open j ∷ judged (name_check around x) (a.Name x) k ∷ plain a.Comma l
      ∷ judged (name_check around y) (a.Name y) m ∷ plain a.Close n ∷ rest)
      rest (paired p (name_number around x) (name_number around y))

-- all of these tokens are a formula
abbrev pub AreFormula : List Judged → Formula → Type 0
AreFormula ts f = Reads formula nowhere ts [] f

-- ---- what tokens are

-- the tokens without their checks
abbrev pub token_of : Judged → Token
token_of t = record { lexeme = t.lexeme; at = t.at }

abbrev pub tokens_of : List Judged → List Token
tokens_of = map token_of

-- each may stand where it stands
abbrev pub AreFine : List Judged → Type 0
AreFine [] = Unit {0}
AreFine (t ∷ ts) = (t.check ≡ fine) × AreFine ts

-- some formula begins with these
abbrev pub BeginFormula : List Judged → Type 0
BeginFormula ts = (more : List Judged) × (f : Formula) × AreFormula (ts ++ more) f

-- where tokens begin, those of a text that ends at a place
abbrev pub start_of : ℕ → List Token → ℕ
start_of end [] = end
start_of end (t ∷ ts) = t.at

-- the tokens are this formula
abbrev pub IsFormula : List Token → Formula → Type 0
IsFormula tokens f = (ts : List Judged) × (tokens_of ts ≡ tokens) × AreFine ts × AreFormula ts f

-- The tokens are no formula, whatever stands unbound or too deep. Those of their longest front with which some
-- formula begins may stand there; behind it, at the place, stands another token, or the text ends.
pub record IsBad (tokens : List Token) (end at : ℕ) : Type 0 where
  pub none : (ts : List Judged) (f : Formula) → tokens_of ts ≡ tokens → AreFormula ts f → ⊥
  pub front : List Judged
  pub rest : List Token
  pub whole : tokens ≡ tokens_of front ++ rest
  pub place : at ≡ start_of end rest
  pub begins : BeginFormula front
  pub longest : (ts : List Judged) (others : List Token) → tokens ≡ tokens_of ts ++ others → BeginFormula ts
      → length ts ≤ length front
  pub are_fine : AreFine front

-- Some formula begins with the tokens up to the one at the place, which may
-- not stand there for this reason, while those before it may.
pub record IsFirst (check : Check) (tokens : List Token) (at : ℕ) : Type 0 where
  pub front : List Judged
  pub lexeme : Lexeme
  pub rest : List Token
  pub whole : tokens ≡ tokens_of front ++ record { lexeme = lexeme; at = at } ∷ rest
  pub begins : BeginFormula (front ++ judged check lexeme at ∷ [])
  pub are_fine : AreFine front

-- what the tokens of a text that ends at a place are
pub data Outcome (tokens : List Token) (end : ℕ) : Type 0 where
  formula_is : (f : Formula) → IsFormula tokens f → Outcome tokens end
  bad_at : (at : ℕ) → IsBad tokens end at → Outcome tokens end
  unbound_at : (at : ℕ) → IsFirst unbound tokens at → Outcome tokens end
  too_deep_at : (at : ℕ) → IsFirst too_deep tokens at → Outcome tokens end

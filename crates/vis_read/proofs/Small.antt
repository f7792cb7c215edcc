-- The terms of a formula stay small where its tokens are few.
use Rattle.std.proofs.Common.{◌≡◌, ℕ, zero, suc, ◌+◌, ◌*◌, ◌^◌, ◌≤◌, Bool, true, false, ◌&&◌, List, [], ◌∷◌, ◌++◌, length, unsigned_abs, sum_by, refl, sym, ◌∙◌, subst, rules, arith, length-append}
use Rattle.std.proofs.lemmas.Bool.{and_from, le-leb}
use Rattle.std.proofs.Math.Nat.{mul-le-mul_left, mul-le-mul_right}
use Rattle.std.proofs.lemmas.List.Elements.{All-push}
use Rattle.std.proofs.lemmas.List.Sums.{sum_by-le}
use Rattle.std.specs.List.{All, AllByRecursion}
use Rattle.viz_base.specs.declared.formulas.Edge.{Edge}
use Rattle.viz_base.specs.declared.formulas.Edge.TheVariants as of_edge
use Rattle.viz_base.specs.declared.formulas.Formula.{Formula}
use Rattle.viz_base.specs.declared.formulas.Formula.TheVariants as of_formula
use Rattle.viz_base.specs.declared.formulas.Formula.TheViews.{the_lemmas}
use Rattle.viz_base.specs.declared.formulas.Formula.TheFolds.{fold-roll-Formula, fold_out-Formula}
use Rattle.viz_base.specs.declared.formulas.Set.{Set}
use Rattle.viz_base.specs.declared.formulas.Sign.{Sign}
use Rattle.viz_base.specs.declared.formulas.Summand.{Summand}
use Rattle.viz_base.specs.declared.formulas.Term.{Term}
use Rattle.viz_base.specs.Formulas.{edge_most, has_small_terms, summand_most, term_is_small}
use Rattle.vis_read.specs.declared.lexemes.Lexeme.{Lexeme}
use Rattle.vis_read.specs.declared.lexemes.Lexeme.TheVariants as a
use Rattle.vis_read.specs.declared.lexemes.Pair.{Pair}
use Rattle.vis_read.specs.declared.lexemes.Pair.TheVariants as of_pair
use Rattle.vis_read.specs.declared.lexemes.Quantifier.{Quantifier}
use Rattle.vis_read.specs.declared.lexemes.Quantifier.TheVariants as of_quantifier
use Rattle.vis_read.specs.declared.lexemes.Token.{Token}
use Rattle.vis_read.specs.declared.lexemes.Unit.{Unit as Counted}
use Rattle.vis_read.specs.declared.lexemes.Unit.TheVariants as of_unit
use Rattle.vis_read.specs.Grammar.{Around, Judged, IsEdge, face, ring, width, height, IsPart, number, times, once, AreParts, no_more, plus, minus, IsTerm, positive, negative, Rule, consequence, disjuncts, conjuncts, Reads, quantifies, connects, no_implies, implies, first_disjunct, no_or, or, first_conjunct, no_and, and, negates, parens, truth, compares, pairs, AreFormula, in_units, multiple, name_number, signed, quantified, paired, tokens_of}

-- ---- tokens

abbrev pub IsSmall : Lexeme → Type 0
IsSmall (a.Number n unit) = n ≤ 2147483647
IsSmall lexeme = Unit {0}

abbrev pub AreSmall : List Token → Type 0
AreSmall = AllByRecursion (λ t. IsSmall t.lexeme)

abbrev Small : List Judged → Type 0
Small ts = AreSmall (tokens_of ts)

-- ---- one level of a formula

small-Const : (value : Bool) → has_small_terms (of_formula.Const value) ≡ true
small-Const value = search (rules, the_lemmas, fold-roll-Formula, fold_out-Formula)

small-Forall : (set : Set) (f : Formula) → has_small_terms (of_formula.Forall set f) ≡ has_small_terms f
small-Forall set f = search (rules, the_lemmas, fold-roll-Formula, fold_out-Formula)

small-Exists : (set : Set) (f : Formula) → has_small_terms (of_formula.Exists set f) ≡ has_small_terms f
small-Exists set f = search (rules, the_lemmas, fold-roll-Formula, fold_out-Formula)

small-Implies : (f g : Formula) → has_small_terms (of_formula.Implies f g) ≡ has_small_terms f && has_small_terms g
small-Implies f g = search (rules, the_lemmas, fold-roll-Formula, fold_out-Formula)

small-Or : (f g : Formula) → has_small_terms (of_formula.Or f g) ≡ has_small_terms f && has_small_terms g
small-Or f g = search (rules, the_lemmas, fold-roll-Formula, fold_out-Formula)

small-And : (f g : Formula) → has_small_terms (of_formula.And f g) ≡ has_small_terms f && has_small_terms g
small-And f g = search (rules, the_lemmas, fold-roll-Formula, fold_out-Formula)

small-Not : (f : Formula) → has_small_terms (of_formula.Not f) ≡ has_small_terms f
small-Not f = search (rules, the_lemmas, fold-roll-Formula, fold_out-Formula)

small-Cmp : (s t : Term) (sign : Sign) → has_small_terms (of_formula.Cmp s sign t) ≡ term_is_small s && term_is_small t
small-Cmp s t sign = search (rules, the_lemmas, fold-roll-Formula, fold_out-Formula)

small-Overlap : (x y : ℕ) → has_small_terms (of_formula.Overlap x y) ≡ true
small-Overlap x y = search (rules, the_lemmas, fold-roll-Formula, fold_out-Formula)

small-Same : (x y : ℕ) → has_small_terms (of_formula.Same x y) ≡ true
small-Same x y = search (rules, the_lemmas, fold-roll-Formula, fold_out-Formula)

small-quantified : (q : Quantifier) (set : Set) (f : Formula) → has_small_terms (quantified q set f) ≡ has_small_terms f
small-quantified of_quantifier.Forall set f = small-Forall set f
small-quantified of_quantifier.Exists set f = small-Exists set f

small-paired : (p : Pair) (x y : ℕ) → has_small_terms (paired p x y) ≡ true
small-paired of_pair.Overlap x y = small-Overlap x y
small-paired of_pair.Same x y = small-Same x y

-- ---- parts

size_signed : (neg : Bool) (n : ℕ) → unsigned_abs (signed neg n) ≡ n
size_signed true zero = refl
size_signed true (suc n) = refl
size_signed false n = refl

-- the greatest part: so often an edge of a box
abbrev most_part : ℕ
most_part = 65536 * 2 ^ 70

edge_within : (e : Edge) → edge_most e ≤ 2 ^ 70
edge_within of_edge.One = omega arith
edge_within (of_edge.Name _ _ _) = omega arith
edge_within of_edge.ViewWidth = omega arith
edge_within of_edge.ViewHeight = omega arith
edge_within of_edge.ViewSize = omega arith

part_most : (neg : Bool) (n : ℕ) (e : Edge) → n ≤ 65536 → summand_most (multiple neg n e) ≤ most_part
part_most neg n e le =
    let left : n * edge_most e ≤ n * 2 ^ 70 = mul-le-mul_left n (edge_within e) in
    let right : n * 2 ^ 70 ≤ most_part = mul-le-mul_right (2 ^ 70) le in
    subst (λ k. k * edge_most e ≤ most_part) (sym (size_signed neg n)) (omega (arith, left, right))

number_most : (neg : Bool) (n : ℕ) → n ≤ 137438953408 → summand_most (multiple neg n of_edge.One) ≤ most_part
number_most neg n le = subst (λ k. k * 1 ≤ most_part) (sym (size_signed neg n)) (omega arith)

abbrev PartIsSmall : Summand → Type 0
PartIsSmall s = summand_most s ≤ most_part

-- parts of which each is small, no more than so many
record Few (k : ℕ) (parts : List Summand) : Type 0 where
  all : All PartIsSmall parts
  few : length parts ≤ k

few_more : (k : ℕ) (parts : List Summand) (s : Summand) → Few k parts → PartIsSmall s → Few (k + 1) (parts ++ s ∷ [])
few_more k parts s f h = let few = f.few in record { all = All-push PartIsSmall parts s f.all h; few = omega (arith, few, length-append parts (s ∷ [])) }

few_term : (k : ℕ) (parts : List Summand) → k ≤ 16384 → Few k parts → term_is_small (record { parts = parts }) ≡ true
few_term k parts le f =
    let sum = sum_by-le summand_most most_part parts f.all in
    let few = f.few in
    let short : length parts ≤ 16384 = omega arith in
    let count : length parts * most_part ≤ 16384 * most_part = mul-le-mul_right most_part short in
    le-leb (sum_by summand_most parts) (2 ^ 100) (omega (arith, sum, count))

record Taken (ts us : List Judged) : Type 0 where
  small : Small us
  fewer : length us + 1 ≤ length ts

edge_taken : {A : Around} {ts us : List Judged} {e : Edge} → IsEdge A ts us e → Small ts → Taken ts us
edge_taken (face name f i j k rest) h = record { small = h.1.1.1; fewer = omega arith }
edge_taken (ring name r f i j k l m rest) h = record { small = h.1.1.1.1.1; fewer = omega arith }
edge_taken (width i j k rest) h = record { small = h.1.1.1; fewer = omega arith }
edge_taken (height i j k rest) h = record { small = h.1.1.1; fewer = omega arith }

unit_within : (unit : Counted) (n : ℕ) → n ≤ 2147483647 → in_units unit n ≤ 137438953408
unit_within of_unit.One n le = omega arith
unit_within of_unit.Px n le = omega arith

part_taken : {A : Around} {neg : Bool} {ts us : List Judged} {s : Summand} → IsPart A neg ts us s → Small ts → PartIsSmall s × Taken ts us
part_taken {neg = neg} (number n unit i rest) h = (number_most neg (in_units unit n) (unit_within unit n h.0), record { small = h.1; fewer = omega arith })
part_taken {neg = neg} (times n i j ts rest edge le e) h =
    let t = edge_taken e h.1.1 in
    let fewer = t.fewer in
    (part_most neg n edge le, record { small = t.small; fewer = omega arith })
part_taken {neg = neg} (once ts rest edge e) h = (part_most neg 1 edge (omega arith), edge_taken e h)

record TermTaken (k : ℕ) (ts us : List Judged) (parts : List Summand) : Type 0 where
  few : Few (k + length ts) parts
  small : Small us
  fewer : length us ≤ length ts

few_within : (k m : ℕ) (parts : List Summand) → k ≤ m → Few k parts → Few m parts
few_within k m parts le f = let few = f.few in record { all = f.all; few = omega arith }

-- one part more
part_more : {ts us rest : List Judged} {parts all : List Summand} (s : Summand) (k : ℕ) → Few k parts → PartIsSmall s × Taken ts us
    → (Few (k + 1) (parts ++ s ∷ []) → Small us → TermTaken (k + 1) us rest all) → TermTaken k ts rest all
part_more {ts = ts} {us = us} {parts = parts} {all = all} s k f q further =
    let r = further (few_more k parts s f q.0) q.1.small in
    let less = q.1.fewer in
    let fewer = r.fewer in
    record { few = few_within (k + 1 + length us) (k + length ts) all (omega arith) r.few; small = r.small; fewer = omega arith }

-- a sign before them
sign_more : {ts rest : List Judged} {all : List Summand} (k : ℕ) (j : Judged) → TermTaken k ts rest all → TermTaken k (j ∷ ts) rest all
sign_more {ts = ts} {all = all} k j r = let fewer = r.fewer in record { few = few_within (k + length ts) (k + suc (length ts)) all (omega arith) r.few; small = r.small; fewer = omega arith }

parts_taken : {A : Around} {parts all : List Summand} {ts us : List Judged} → AreParts A parts ts us all → (k : ℕ) → Few k parts → Small ts → TermTaken k ts us all
parts_taken (no_more parts rest) k f h = record { few = few_within k (k + length rest) parts (omega arith) f; small = h; fewer = omega arith }
parts_taken (plus parts all s i ts us rest p more) k f h = sign_more k _ (part_more s k f (part_taken p h.1) (λ q g. parts_taken more (k + 1) q g))
parts_taken (minus parts all s i ts us rest p more) k f h = sign_more k _ (part_more s k f (part_taken p h.1) (λ q g. parts_taken more (k + 1) q g))

few_none : Few 0 []
few_none = record { all = λ k x l. absurd (omega arith); few = omega arith }

term_taken : {A : Around} {parts : List Summand} {ts us : List Judged} → IsTerm A ts us parts → Small ts → TermTaken 0 ts us parts
term_taken (positive parts s ts us rest p more) h = part_more s 0 few_none (part_taken p h) (λ q g. parts_taken more 1 q g)
term_taken (negative parts s i ts us rest p more) h = sign_more 0 _ (part_more s 0 few_none (part_taken p h.1) (λ q g. parts_taken more 1 q g))

term_small : {ts us : List Judged} {parts : List Summand} → length ts ≤ 16384 → TermTaken 0 ts us parts → term_is_small (record { parts = parts }) ≡ true
term_small {ts = ts} {parts = parts} le t = few_term (0 + length ts) parts (omega arith) t.few

-- ---- formulas

abbrev HasSmall : Formula → Type 0
HasSmall f = has_small_terms f ≡ true

abbrev Given : Rule → Type 0
Given (consequence h) = HasSmall h
Given (disjuncts h) = HasSmall h
Given (conjuncts h) = HasSmall h
Given r = Unit {0}

record Read (ts us : List Judged) (f : Formula) : Type 0 where
  is : HasSmall f
  small : Small us
  fewer : length us ≤ length ts

both : (f g : Formula) → HasSmall f → HasSmall g → has_small_terms f && has_small_terms g ≡ true
both f g h k = and_from (has_small_terms f) (has_small_terms g) h k

-- with more tokens before
read_more : {ts us vs : List Judged} {f g : Formula} → length ts ≤ length vs → HasSmall g → Read ts us f → Read vs us g
read_more le h r = let fewer = r.fewer in record { is = h; small = r.small; fewer = omega arith }

rule_small : {r : Rule} {A : Around} {ts us : List Judged} {f : Formula} → Reads r A ts us f → Given r → Small ts → length ts ≤ 16384 → Read ts us f
rule_small (quantifies q name set A i j k l m ts rest body h) g e le =
    let b = rule_small h tt e.1.1.1.1.1 (omega arith) in
    read_more (omega arith) (small-quantified q set body ∙ b.is) b
rule_small (connects A ts us rest left f h k) g e le =
    let b = rule_small h tt e le in
    let fewer = b.fewer in
    let d = rule_small k b.is b.small (omega arith) in
    read_more fewer d.is d
rule_small (no_implies A rest left) g e le = record { is = g; small = e; fewer = omega arith }
rule_small (implies A i ts rest left right h) g e le =
    let b = rule_small h tt e.1 (omega arith) in
    read_more (omega arith) (small-Implies left right ∙ both left right g b.is) b
rule_small (first_disjunct A ts us rest left f h k) g e le =
    let b = rule_small h tt e le in
    let fewer = b.fewer in
    let d = rule_small k b.is b.small (omega arith) in
    read_more fewer d.is d
rule_small (no_or A rest left) g e le = record { is = g; small = e; fewer = omega arith }
rule_small (or A i ts us rest left right f h k) g e le =
    let b = rule_small h tt e.1 (omega arith) in
    let fewer = b.fewer in
    let d = rule_small k (small-Or left right ∙ both left right g b.is) b.small (omega arith) in
    read_more (omega arith) d.is d
rule_small (first_conjunct A ts us rest left f h k) g e le =
    let b = rule_small h tt e le in
    let fewer = b.fewer in
    let d = rule_small k b.is b.small (omega arith) in
    read_more fewer d.is d
rule_small (no_and A rest left) g e le = record { is = g; small = e; fewer = omega arith }
rule_small (and A i ts us rest left right f h k) g e le =
    let b = rule_small h tt e.1 (omega arith) in
    let fewer = b.fewer in
    let d = rule_small k (small-And left right ∙ both left right g b.is) b.small (omega arith) in
    read_more (omega arith) d.is d
rule_small (negates A i ts rest f h) g e le = let b = rule_small h tt e.1 (omega arith) in read_more (omega arith) (small-Not f ∙ b.is) b
rule_small (parens A i j ts rest f h) g e le =
    let b = rule_small h tt e.1 (omega arith) in
    let fewer = b.fewer in
    record { is = b.is; small = b.small.1; fewer = omega arith }
rule_small (truth A value i rest) g e le = record { is = small-Const value; small = e.1; fewer = omega arith }
rule_small (compares A sign i ts us rest left right l r) g e le =
    let b = term_taken l e in
    let less = b.fewer in
    let d = term_taken r b.small.1 in
    let fewer = d.fewer in
    record {
      is = small-Cmp (record { parts = left }) (record { parts = right }) sign
          ∙ and_from (term_is_small (record { parts = left })) (term_is_small (record { parts = right })) (term_small le b) (term_small (omega arith) d);
      small = d.small;
      fewer = omega arith;
    }
rule_small (pairs A p x y i j k l m n rest) g e le = record { is = small-paired p (name_number A x) (name_number A y); small = e.1.1.1.1.1.1; fewer = omega arith }

-- a formula of few tokens has small terms
pub has_small : (ts : List Judged) (f : Formula) → AreFormula ts f → Small ts → length ts ≤ 16384 → has_small_terms f ≡ true
has_small ts f h e le = (rule_small h tt e le).is

-- States of a symbolic calc: what naming a floor does to one.
use Rattle.std.proofs.Common.{◌≡◌, ℕ, zero, suc, ◌+◌, ◌<◌, ◌^◌, ℤ, pos, ◌<ℤ◌, ◌&&◌, List, [], ◌∷◌, ◌++◌, length, get_or, Some, refl, sym, ◌∙◌, ap, subst, arith, append_assoc, position, IsTrue}
use Rattle.std.specs.Prelude.{slice_get, Result, Ok, Err, IfOk}
use Rattle.std.specs.Int.{int_div_euclid}
use Rattle.std.proofs.lemmas.List.Quantifiers.{position-Some}
use Rattle.std.proofs.lemmas.Option.{slice_get-get_or}
use Rattle.viz_calc.specs.World.{Reading}
use Rattle.viz_calc.specs.State.{State, Grows, KeepsWorlds}
use Rattle.viz_calc.specs.declared.calc.Halt.{Halt}
use Rattle.lin_proof.specs.Form.{Form, value}
use Rattle.lin_proof.specs.Exact.{IsExact}
use Rattle.lin_proof.specs.declared.row.RowFault.{RowFault}
use Rattle.lin_proof.specs.Derivations.{are_declared}
use Rattle.cert_semantics.specs.Axes.{axis_count}
use Rattle.cert_semantics.specs.Paths.{def}
use Rattle.cert_semantics.specs.Facts.{step_facts}
use Rattle.sym_calc.specs.declared.floors.Floor.{Floor}
use Rattle.sym_calc.specs.declared.paths.Origin.{Origin}
use Rattle.sym_calc.specs.Same.{decides_same_floor}
use Rattle.sym_calc.specs.Floors.{same_floor}
use Rattle.sym_calc.specs.Knowledge.{has_height, are_met, is_open, sym_state, AreKnown}
use Rattle.sym_calc.proofs.Knowing.{FitsAt, known_floor, kept_floor, open_floor, open_meets, opened_before, with_term}

-- ---- one call after another

pub grows_then : (a b c : State) → Grows a b → Grows b c → Grows a c
grows_then a b c g h = record {
  closes = λ e o. g.closes e (h.closes e o);
  lean = h.lean ∙ g.lean;
  coeffs = let first = g.coeffs in let later = h.coeffs in omega arith;
  opens = let first = g.opens in let later = h.opens in omega arith;
  kept = h.kept ∙ g.kept;
}

-- a row that was counted is the exact one
pub counted_is : (answer : Result Form RowFault) (exact : Form) (made : Result Form Halt) → IsExact answer exact → IfOk made (λ row. answer ≡ Ok row) → IfOk made (λ row. row ≡ exact)
counted_is answer exact (Err halt) h is = tt
counted_is answer exact (Ok row) h is = (subst (λ a. IsExact a exact) is h).0

-- ---- floors that are named already

pub floor_before : (form : ℕ) (facts : List Form) (first more : List Floor) → AreKnown form facts (first ++ more) → (f : Floor) (n : ℕ) → position (same_floor f) first ≡ Some n
    → (v : ℕ → ℤ) → IsTrue (are_met facts v) → v (n + axis_count form) ≡ int_div_euclid (value f.row v) f.by
floor_before form facts first more known f n is v met =
    let found = position-Some (same_floor f) first n f is in
    let here = slice_get-get_or first n f found.0 in
    let same = (decides_same_floor f (get_or first n f)).0 found.1 in
    known.floors v met n f (before first more n f (here ∙ ap Some (sym same)))
  where
    before : (xs ys : List Floor) (k : ℕ) (z : Floor) → slice_get xs k ≡ Some z → slice_get (xs ++ ys) k ≡ Some z
    before [] ys k z e = absurd (cc)
    before (x ∷ xs) ys zero z e = e
    before (x ∷ xs) ys (suc k) z e = before xs ys k z e

pub floor_behind : (form : ℕ) (facts : List Form) (first more : List Floor) → AreKnown form facts (first ++ more) → (f : Floor) (n : ℕ) → position (same_floor f) more ≡ Some n
    → (v : ℕ → ℤ) → IsTrue (are_met facts v) → v (length first + n + axis_count form) ≡ int_div_euclid (value f.row v) f.by
floor_behind form facts first more known f n is v met =
    let found = position-Some (same_floor f) more n f is in
    let here = slice_get-get_or more n f found.0 in
    let same = (decides_same_floor f (get_or more n f)).0 found.1 in
    known.floors v met (length first + n) f (behind first more n ∙ here ∙ ap Some (sym same))
  where
    behind : (xs ys : List Floor) (k : ℕ) → slice_get (xs ++ ys) (length xs + k) ≡ slice_get ys k
    behind [] ys k = let here : 0 + k ≡ k = omega arith in ap (slice_get ys) here
    behind (x ∷ xs) ys k = let next : suc (length xs) + k ≡ suc (length xs + k) = omega arith in ap (slice_get (x ∷ (xs ++ ys))) next ∙ behind xs ys k

-- ---- a floor more

-- the facts and floors behind those of a path, before and after a floor is named
pub record IsNamed (form : ℕ) (path : List Form) (rows after : List Form) (along : List Floor) (own now : List Floor) (f : Floor) (x : ℕ) : Type 0 where
  pub variable : x ≡ length (along ++ own) + axis_count form
  pub rows_are : after ≡ rows ++ step_facts x (def f.row f.by)
  pub floors_are : now ≡ own ++ f ∷ []
  pub known : AreKnown form (path ++ rows) (along ++ own)
  pub declared : IsTrue (are_declared x f.row.terms)
  pub above : pos 0 <ℤ f.by
  pub few : x + 1 < 2 ^ 32

module _ (origin : Origin) (path rows after : List Form) (along own now : List Floor) (f : Floor) (x : ℕ) (h : IsNamed origin.form path rows after along own now f x) where
  facts : List Form
  facts = path ++ rows

  named : List Floor
  named = along ++ own

  fits : FitsAt (length (along ++ own) + axis_count origin.form) f
  fits = (subst (λ n. IsTrue (are_declared n f.row.terms)) h.variable h.declared, h.above)

  facts_are : (path ++ rows) ++ step_facts (length (along ++ own) + axis_count origin.form) (def f.row f.by) ≡ path ++ after
  facts_are =
      let at = h.variable in
      append_assoc path rows (step_facts (length (along ++ own) + axis_count origin.form) (def f.row f.by))
      ∙ ap (λ fs. path ++ fs) (ap (λ n. rows ++ step_facts n (def f.row f.by)) (sym at) ∙ sym h.rows_are)

  named_are : (along ++ own) ++ f ∷ [] ≡ along ++ now
  named_are = append_assoc along own (f ∷ []) ∙ ap (λ fs. along ++ fs) (sym h.floors_are)

  -- a property of the facts and floors after
  after_by : (P : List Form → List Floor → Type 0) → P ((path ++ rows) ++ step_facts (length (along ++ own) + axis_count origin.form) (def f.row f.by)) ((along ++ own) ++ f ∷ []) → P (path ++ after) (along ++ now)
  after_by P p = subst (λ fs. P fs (along ++ now)) facts_are (subst (λ gs. P ((path ++ rows) ++ step_facts (length (along ++ own) + axis_count origin.form) (def f.row f.by)) gs) named_are p)

  pub named_known : AreKnown origin.form (path ++ after) (along ++ now)
  named_known =
      let few : length (along ++ own) + axis_count origin.form + 1 < 2 ^ 32 = let at = h.variable in let last = h.few in omega (arith, at, last) in
      after_by (AreKnown origin.form) (known_floor origin.form (path ++ rows) (along ++ own) f h.known fits few)

  pub named_grows : (t c o : ℕ) → Grows (sym_state origin t (path ++ rows) (along ++ own) c o) (sym_state origin t (path ++ after) (along ++ now) c o)
  named_grows t c o = after_by (λ fs gs. Grows (sym_state origin t (path ++ rows) (along ++ own) c o) (sym_state origin t fs gs c o)) (record {
    closes = λ e o. opened_before origin (path ++ rows) (step_facts (length (along ++ own) + axis_count origin.form) (def f.row f.by)) e o;
    lean = refl;
    coeffs = omega arith;
    opens = omega arith;
    kept = λ i. record { worlds = λ world. has_height origin world && kept_floor origin.form (path ++ rows) (along ++ own) f h.known fits world i; coeffs = t; opens = 0 };
  })

  pub named_worlds : (t c o : ℕ) → KeepsWorlds (sym_state origin t (path ++ rows) (along ++ own) c o) (sym_state origin t (path ++ after) (along ++ now) c o)
  named_worlds t c o = after_by (λ fs gs. KeepsWorlds (sym_state origin t (path ++ rows) (along ++ own) c o) (sym_state origin t fs gs c o)) (record {
    keeps = λ w was. record {
      reading = with_term was.reading (length (along ++ own) + axis_count origin.form) (int_div_euclid (value f.row was.reading.terms) f.by);
      world = was.world;
      is_open = open_floor origin (path ++ rows) (along ++ own) f h.known fits was.reading ∙ was.is_open;
    };
  })

  pub named_value : (e : Reading) → IsTrue (is_open origin (path ++ after) e) → e.terms x ≡ int_div_euclid (value f.row e.terms) f.by
  named_value e o =
      let known = named_known in
      let at : x ≡ length (along ++ own) + axis_count origin.form = h.variable in
      let last : slice_get ((along ++ own) ++ f ∷ []) (length (along ++ own)) ≡ Some f = at_end (along ++ own) f in
      ap e.terms at ∙ known.floors e.terms (open_meets origin (path ++ after) e o) (length (along ++ own)) f (ap (λ gs. slice_get gs (length (along ++ own))) (sym named_are) ∙ last)
    where
      at_end : (xs : List Floor) (y : Floor) → slice_get (xs ++ y ∷ []) (length xs) ≡ Some y
      at_end [] y = refl
      at_end (z ∷ xs) y = at_end xs y

-- Two paths and tapes with one number are the same.
use Rattle.std.proofs.Common.{◌≡◌, ℕ, zero, suc, ◌≤◌, List, refl, ap, arith}
use base.Stored.{Gv, gnil, gnum, gcons}
use Rattle.lin_proof.specs.Form.{Form}
use Rattle.lin_proof.specs.declared.derivation.Answer.{Answer}
use Rattle.sym_calc.specs.declared.floors.Floor.{Floor}
use Rattle.sym_calc.specs.Tags.{pair, number_of, given_code, tag}

pair_some : (a b : ℕ) → 1 ≤ pair a b
unfolding pair
pair_some zero b = omega arith
pair_some (suc a) b = let h = pair_some a b in omega arith

pair_same : (a b c d : ℕ) → pair a b ≡ pair c d → (a ≡ c) × (b ≡ d)
unfolding pair
pair_same zero b zero d e = (refl, omega arith)
pair_same zero b (suc c) d e = absurd (omega arith)
pair_same (suc a) b zero d e = absurd (omega arith)
pair_same (suc a) b (suc c) d e =
    let h : pair a b ≡ pair c d = omega arith in
    let s = pair_same a b c d h in
    (ap suc s.0, s.1)

number_same : (g h : Gv) → number_of g ≡ number_of h → g ≡ h
unfolding number_of
number_same gnil gnil e = refl
number_same gnil (gnum n) e = let some = pair_some 0 n in absurd (omega arith)
number_same gnil (gcons a b) e = let some = pair_some (suc (number_of a)) (number_of b) in absurd (omega arith)
number_same (gnum m) gnil e = let some = pair_some 0 m in absurd (omega arith)
number_same (gnum m) (gnum n) e = ap gnum (pair_same 0 m 0 n e).1
number_same (gnum m) (gcons a b) e = let s = (pair_same 0 m (suc (number_of a)) (number_of b) e).0 in absurd (omega arith)
number_same (gcons a b) gnil e = let some = pair_some (suc (number_of a)) (number_of b) in absurd (omega arith)
number_same (gcons a b) (gnum n) e = let s = (pair_same (suc (number_of a)) (number_of b) 0 n e).0 in absurd (omega arith)
number_same (gcons a b) (gcons c d) e =
    let s = pair_same (suc (number_of a)) (number_of b) (suc (number_of c)) (number_of d) e in
    let first : number_of a ≡ number_of c = let h = s.0 in omega arith in
    let x = number_same a c first in
    let y = number_same b d s.1 in
    λ i. gcons (x i) (y i)

pub record AreSame (form : ℕ) (facts : List Form) (floors : List Floor) (tape : List Answer) (form2 : ℕ) (facts2 : List Form) (floors2 : List Floor) (tape2 : List Answer) : Type 0 where
  pub form_is : form ≡ form2
  pub facts_are : facts ≡ facts2
  pub floors_are : floors ≡ floors2
  pub tape_is : tape ≡ tape2

pub tag_same : (form : ℕ) (facts : List Form) (floors : List Floor) (tape : List Answer) (form2 : ℕ) (facts2 : List Form) (floors2 : List Floor) (tape2 : List Answer)
    → tag form facts floors tape ≡ tag form2 facts2 floors2 tape2 → AreSame form facts floors tape form2 facts2 floors2 tape2
unfolding tag
tag_same form facts floors tape form2 facts2 floors2 tape2 e =
    let both = pair_same form _ form2 _ e in
    let h = given_code.inj (facts, (floors, tape)) (facts2, (floors2, tape2)) (number_same _ _ both.1) in
    record { form_is = both.0; facts_are = λ i. (h i).0; floors_are = λ i. (h i).1.0; tape_is = λ i. (h i).1.1 }

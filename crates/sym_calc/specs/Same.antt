-- Two floors are the same exactly where their rows and their numbers are, and rows are alike where their terms are the
-- same.
use Rattle.std.specs.Prelude.{◌≡◌, ◌++◌, ℕ, pos, true, List}
use Rattle.std.specs.Hash as fed
use Rattle.std.specs.Bool.{Decides}
use Rattle.std.specs.Cmp.{IsEquivalence, decided}
use Rattle.std.specs.Ordering.{int_eq}
use Rattle.std.proofs.Common.{ap}
use Rattle.std.proofs.lemmas.Bool.Decides.{Decides-and, Decides-int_eq}
use Rattle.lin_proof.specs.Form.{Form, Terms}
use Rattle.cert_semantics.specs.Shapes.{same_row}
use Rattle.cert_semantics.proofs.FitDefs.{decides_same_row}
use Rattle.sym_calc.specs.declared.floors.Floor.{Floor}
use Rattle.sym_calc.specs.declared.told.Alike.{Alike}
use Rattle.sym_calc.specs.Floors.{same_floor}
use Rattle.sym_calc.specs.Told.{equal_terms, same_terms}

pub decides_same_floor : (f g : Floor) → Decides (same_floor f g) (f ≡ g)
decides_same_floor f g =
    let rows = decides_same_row f.row g.row in
    let both = Decides-and (same_row f.row g.row) (int_eq f.by g.by) rows (Decides-int_eq f.by g.by) in (
      λ e. let h = both.0 e in λ i. record { row = h.0 i; by = h.1 i },
      λ same. both.1
          (ap (λ (x : Floor). x.row) same, ap (λ (x : Floor). x.by) same),
    )

pub same_floor_equivalence : IsEquivalence same_floor
same_floor_equivalence = decided same_floor decides_same_floor

-- what a row's terms feed a hasher
abbrev pub terms_input : Terms → List (List ℕ)
terms_input = fed.slice (λ t. fed.u32 t.0 ++ fed.i128 t.1)

-- the row of these terms alone
abbrev alone : Terms → Form
alone ts = record { k = pos 0; terms = ts }

pub decides_equal_terms : (ts us : Terms) → Decides (equal_terms ts us) (ts ≡ us)
decides_equal_terms ts us =
    let rows = decides_same_row (alone ts) (alone us) in
    (λ e. ap (λ (f : Form). f.terms) (rows.0 e), λ same. rows.1 (ap alone same))

equal_terms_equivalence : IsEquivalence equal_terms
equal_terms_equivalence = decided equal_terms decides_equal_terms

pub same_terms_equivalence : IsEquivalence same_terms
same_terms_equivalence = record {
  refl = λ a. equal_terms_equivalence.refl a.row.terms;
  symm = λ a b. equal_terms_equivalence.symm a.row.terms b.row.terms;
  congr = λ a b c e. equal_terms_equivalence.congr a.row.terms b.row.terms c.row.terms e;
}

-- alike rows feed a hasher the same
pub same_terms_fed : (a b : Alike) → same_terms a b ≡ true → terms_input a.row.terms ≡ terms_input b.row.terms
same_terms_fed a b e = ap terms_input ((decides_equal_terms a.row.terms b.row.terms).0 e)

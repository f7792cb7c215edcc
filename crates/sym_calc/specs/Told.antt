-- What answers tell of rows that come later: a row and one with the same terms differ by a number.
use Rattle.std.specs.Prelude.{ℕ, ◌==◌, ℤ, pos, Bool, true, false, not, ◌&&◌, IsTrue, List, Option, Some, None, if◌then◌else◌}
use Rattle.std.specs.Option.{option_map_or}
use Rattle.std.specs.List.{list_all, find}
use Rattle.std.specs.Ordering.{int_eq}
use Rattle.std.specs.Int.RustNames.{int_le}
use Rattle.std.specs.Cmp.Lexicographic.{pointwise}
use Rattle.indexmap.specs.IndexSet.{replace_key}
use Rattle.viz_calc.specs.World.{Reading}
use Rattle.lin_proof.specs.Form.{Form, Terms, value}
use Rattle.sym_calc.specs.declared.paths.Origin.{Origin}
use Rattle.sym_calc.specs.declared.told.Alike.{Alike}
use Rattle.sym_calc.specs.declared.told.Told.{Told}
use Rattle.sym_calc.specs.Knowledge.{is_open}

-- whether two rows have the same terms
abbrev pub equal_terms : Terms → Terms → Bool
equal_terms = pointwise (λ t u. t.0 == u.0 && int_eq t.1 u.1)

abbrev pub same_terms : Alike → Alike → Bool
same_terms a b = equal_terms a.row.terms b.row.terms

-- whether a row has the terms of one that is at least 0, and no smaller constant
abbrev pub is_above : List Alike → Alike → Bool
is_above rows a = option_map_or (λ b. int_le b.row.k a.row.k) (find (same_terms a) rows) false

-- whether a row has the terms of one that is below 0, and no greater constant
abbrev pub is_below : List Alike → Alike → Bool
is_below rows a = option_map_or (λ b. int_le a.row.k b.row.k) (find (same_terms a) rows) false

-- whether a row is at least 0, if that is told
abbrev pub tells : Told → Alike → Option Bool
tells told a =
    if is_above told.least a then Some true else (if is_below told.most a then Some false else None)

-- the rows, with this one in the place of the one that has its terms, or behind all
abbrev pub put : List Alike → Alike → List Alike
put = replace_key same_terms

-- what is told once a row was answered
abbrev pub learned : Told → Alike → Bool → Told
learned told a answer = record {
  least = if answer then put told.least a else told.least;
  most = if answer then told.most else put told.most a;
}

-- whether a row is at least 0
abbrev pub is_met : (ℕ → ℤ) → Alike → Bool
is_met v a = int_le (pos 0) (value a.row v)

-- whether what is told is true
abbrev pub are_true : Told → (ℕ → ℤ) → Bool
are_true told v = list_all (is_met v) told.least && list_all (λ a. not (is_met v a)) told.most

-- it is, at each reading that is open
abbrev pub IsTrueWhereOpen : Origin → List Form → Told → Type 0
IsTrueWhereOpen origin facts told = (e : Reading) → IsTrue (is_open origin facts e) → IsTrue (are_true told e.terms)

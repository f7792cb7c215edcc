-- Writing numbers and rows.
use Rattle.std.specs.Prelude.{ℕ, ℤ, pos, List, [], ◌∷◌, ◌++◌, codes}
use Rattle.std.specs.Fmt.{signed_decimal}
use Rattle.std.specs.List.{flat_map, concat}
use Rattle.lin_proof.specs.Form.{Form}

abbrev pub int_bytes : ℤ → List ℕ
int_bytes n = signed_decimal n

abbrev pub term_bytes : ℕ × ℤ → List ℕ
term_bytes t = concat (codes " " ∷ int_bytes (pos t.0) ∷ codes ":" ∷ int_bytes t.1 ∷ [])

abbrev pub row_bytes : Form → List ℕ
row_bytes row = int_bytes row.k ++ flat_map term_bytes row.terms

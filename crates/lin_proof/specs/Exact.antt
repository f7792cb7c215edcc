-- What a call over rows answers where the exact row is known.
use Rattle.std.specs.Prelude.{◌≡◌, true, false, Result, Ok, Err}
use Rattle.lin_proof.specs.Form.{Form, form_fits}
use Rattle.lin_proof.specs.declared.row.RowFault.{RowFault}
use Rattle.lin_proof.specs.declared.row.RowFault.TheVariants.{Mem, Coeff}

-- Ok: the exact form, each of its numbers being in `i128`; Coeff: a number of it is not; want of memory says nothing
abbrev pub IsExact : Result Form RowFault → Form → Type 0
IsExact (Ok row) exact = (row ≡ exact) × (form_fits exact ≡ true)
IsExact (Err Mem) exact = Unit {0}
IsExact (Err Coeff) exact = form_fits exact ≡ false

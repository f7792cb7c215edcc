-- The text of a split's row.
use Rattle.std.proofs.Common.{◌≡◌, ℕ, ◌<◌, ◌≤◌, ◌^◌, pos, negsuc, true, length, refl, arith, lit<, length-append}
use Rattle.std.specs.Fmt.{decimal}
use Rattle.std.proofs.lemmas.Fmt.{length-decimal-le}
use Rattle.std.proofs.lemmas.Bool.Decides.{Decides-ltb}
use Rattle.viz_base.specs.declared.worlds.Axis.{Axis}
use Rattle.viz_base.specs.declared.worlds.Axis.TheVariants.{Width, Size, Height}
use Rattle.lin_proof.specs.Number.{in_i128}
use Rattle.cert_semantics.specs.Axes.{variable_of}
use Rattle.cert_text.specs.Texts.{row_has_text}
use Rattle.cert_text.specs.steps.Write.{row_bytes}
use Rattle.cert_semantics.specs.Units.{row_up_to}

-- a number of `i128`, and the one below its opposite
pub in_width : (m : ℕ) → m ≤ 16384 → (in_i128 (pos m) ≡ true) × (in_i128 (negsuc m) ≡ true)
in_width m high =
    let wide : 16384 < 2 ^ 127 = lit< tt in
    let less : m < 2 ^ 127 = omega arith in
    ((Decides-ltb m (2 ^ 127)).1 less, (Decides-ltb m (2 ^ 127)).1 less)

pub row_spelled : (axis : Axis) (m : ℕ) → m ≤ 16384 → row_has_text (row_up_to axis m) ≡ true
row_spelled Width m high = rw ((in_width m high).0) refl
row_spelled Size m high = rw ((in_width m high).0) refl
row_spelled Height m high = rw ((in_width m high).0) refl

one_digit : (axis : Axis) → length (decimal (variable_of axis)) ≤ 1
one_digit Width = length-decimal-le 1 0 (lit< tt) (lit< tt) (lit< tt)
one_digit Size = length-decimal-le 1 1 (lit< tt) (lit< tt) (lit< tt)
one_digit Height = length-decimal-le 1 2 (lit< tt) (lit< tt) (lit< tt)

-- at most five digits, and five bytes for the term
pub row_short : (axis : Axis) (m : ℕ) → m ≤ 16384 → length (row_bytes (row_up_to axis m)) ≤ 10
row_short axis m high =
    let wide : 16384 < 10 ^ 5 = lit< tt in
    let wider : 16384 < 2 ^ 64 = lit< tt in
    let constant = length-decimal-le 5 m (lit< tt) (omega arith) (omega arith) in
    let variable = one_digit axis in
    let coefficient = length-decimal-le 1 1 (lit< tt) (lit< tt) (lit< tt) in
    simp length-append (omega arith)

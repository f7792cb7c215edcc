-- The sum of two rows' terms, taken from the front.
use Rattle.std.specs.Prelude.{◌≡◌, ◌+◌, ◌<◌, ℤ, length, Option, Some, None, if◌then◌else◌}
use Rattle.lin_proof.specs.declared.merge.Front.{Front}
use Rattle.lin_proof.specs.Number.{in_i128}
use Rattle.lin_proof.specs.Form.{Terms, IsCanonical, put, plus_terms}

-- a whole number, if `i128` holds it
abbrev pub checked : ℤ → Option ℤ
checked n = if in_i128 n then Some n else None

-- the lowest variable of a sum with its exact coefficient, told if it is in `i128`, and what is left
pub record IsFront (left : Terms) (m : ℤ) (right : Terms) (f : Front) : Type 0 where
  pub exact : ℤ
  pub coefficient : f.coefficient ≡ checked exact
  pub sum : plus_terms left m right ≡ put f.variable exact (plus_terms f.left.now m f.right.now)
  pub left_canonical : IsCanonical f.left.now
  pub right_canonical : IsCanonical f.right.now
  pub shorter : length f.left.now + length f.right.now < length left + length right

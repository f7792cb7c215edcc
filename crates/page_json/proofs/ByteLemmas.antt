-- The JSON value of bytes.
use Rattle.std.proofs.Common.{◌≡◌, ℕ, Bool, true, false, List, Option, Some, None, Result, Ok, refl, sym, subst, cond}
use Rattle.std.specs.Str.{IsUtf8, is_utf8}
use Rattle.std.proofs.lemmas.Str.{IsUtf8-from_is_utf8, is_utf8-from_IsUtf8}
use Rattle.serde_json.specs.Data.{Data}
use Rattle.serde_json.specs.Read.{read}
use Rattle.std.specs.Option.{ok_or}
use Rattle.viz_base.specs.Answers.{Gives}
use Rattle.viz_base.specs.declared.raw_jobs.RawJob.{RawJob}
use Rattle.page_json.specs.Faults.{refusal_of}
use Rattle.page_json.specs.declared.faults.JobFault.{JobFault}
use Rattle.page_json.specs.declared.faults.JobFault.TheVariants.{NotJson}
use Rattle.page_json.specs.Jobs.{Raw, raw_of, value_of}

pub value_some : (bs : List ℕ) (d : Data) → IsUtf8 bs → read bs ≡ Some d → value_of bs ≡ Some d
unfolding value_of
value_some bs d text e = rw (is_utf8-from_IsUtf8 bs text) e

none_by : (bs : List ℕ) (b : Bool) → is_utf8 bs ≡ b → (IsUtf8 bs → read bs ≡ None) → cond b (read bs) None ≡ None
none_by bs true e h = h (IsUtf8-from_is_utf8 bs e)
none_by bs false e h = refl

pub value_none : (bs : List ℕ) → (IsUtf8 bs → read bs ≡ None) → value_of bs ≡ None
unfolding value_of
value_none bs h = none_by bs (is_utf8 bs) refl h

value_is : (o : Option Data) (d : Data) → ok_or o NotJson ≡ Ok d → o ≡ Some d
value_is None d e = cc
value_is (Some e) d is = cc

-- what a call says of the value that bytes have, it says of the bytes
pub judged_as : (answer : Result RawJob JobFault) (of_bytes : Option Data → Result Raw JobFault) (of_value : Data → Result Raw JobFault) (o : Option Data) (d : Data) → ok_or o NotJson ≡ Ok d
    → ((one : Data) → of_bytes (Some one) ≡ of_value one) → Gives raw_of refusal_of answer (of_value d) → Gives raw_of refusal_of answer (of_bytes o)
judged_as answer of_bytes of_value o d e is given =
    subst (λ (x : Option Data). Gives raw_of refusal_of answer (of_bytes x)) (sym (value_is o d e)) (subst (Gives raw_of refusal_of answer) (sym (is d)) given)

-- Readers, and how they are joined. Each gives the value of what stands in front of a text with what
-- follows it, or else the text from the first byte on that can't stand where it stands.
use Rattle.std.specs.Prelude.{ℕ, zero, suc, cond, List, [], ◌∷◌, Ok, Err}
use Rattle.cert_text.specs.declared.turn.Turn.{Turn}
use Rattle.cert_text.specs.declared.turn.Turn.TheVariants.{More, Last}
use Rattle.cert_text.specs.steps.Read.{Answer, ◌>>=◌, begins}

abbrev pub Reader : Type 0 → Type 0
Reader A = List ℕ → Answer A

-- nothing is read
abbrev pub give : {A : Type 0} → A → Reader A
give v text = Ok (v, text)

-- one part, and then what follows its value
abbrev pub seq : {A B : Type 0} → Reader A → (A → Reader B) → Reader B
seq R k text = R text >>= λ r. k r.0 r.1

-- by the first byte
abbrev pub either : {A : Type 0} → ℕ → Reader A → Reader A → Reader A
either c R S text = cond (begins c text) (R text) (S text)

abbrev pub turned : {A B : Type 0} → Turn A B → (A → Reader (List A × B)) → Reader (List A × B)
turned (More a) rest text = rest a text >>= λ o. Ok ((a ∷ o.0.0, o.0.1), o.1)
turned (Last b) rest text = Ok (([], b), text)

-- at most n items, and what stands behind them; an item may depend on a number that the item before it gives
unfoldable pub loop : {A B : Type 0} → (A → ℕ) → (ℕ → Reader (Turn A B)) → ℕ → ℕ → Reader (List A × B)
loop next f zero s text = Err text
loop next f (suc n) s text = f s text >>= λ r. turned r.0 (λ a. loop next f n (next a)) r.1

-- Bytes that grow by one prefix after another.
use Rattle.std.proofs.Common.{◌≡◌, ◌+◌, ◌++◌, ℕ, List, Option, Some, None, take, drop, refl, ap, sym, ◌∙◌, append_assoc}
use Rattle.std.proofs.Math.Seq.{take-add}
use Rattle.viz_outside.specs.Sink.{grown}

pub grown-grown : (w : Option (List ℕ)) (a b : List ℕ) → grown (grown w a) b ≡ grown w (a ++ b)
grown-grown None a b = refl
grown-grown (Some w) a b = ap Some (append_assoc w a b)

-- the first d bytes, and then n of the rest
pub grown-further : (w v u : Option (List ℕ)) (bytes : List ℕ) (d n : ℕ) → v ≡ grown w (take d bytes) → u ≡ grown v (take n (drop d bytes)) → u ≡ grown w (take (d + n) bytes)
grown-further w v u bytes d n before now = now ∙ ap (λ x. grown x (take n (drop d bytes))) before ∙ grown-grown w (take d bytes) (take n (drop d bytes)) ∙ ap (grown w) (sym (take-add d n bytes))

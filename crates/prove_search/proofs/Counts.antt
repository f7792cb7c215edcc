-- How many nodes a certificate has: no more than its text has bytes.
use Rattle.std.proofs.Common.{ℕ, ◌+◌, ◌<◌, ◌≤◌, ◌^◌, ◌==◌, Bool, true, false, cond, List, [], ◌∷◌, length, arith, lit<}
use Rattle.viz_base.specs.declared.worlds.Axis.TheVariants.{Width, Size, Height}
use Rattle.cert_text.specs.declared.certificate.Cert.{Cert}
use Rattle.cert_text.specs.Texts.{CertText}
use Rattle.cert_semantics.specs.Axes.{axis_count}
use Rattle.cert_semantics.specs.Nodes.{nodes_of}
use Rattle.cert_check.proofs.Texts.{few}

-- a form has two or three axes
pub few_axes : (form : ℕ) → axis_count form ≤ 3
few_axes form = by_test (form == 2)
  where
    by_test : (b : Bool) → length (cond b (Width ∷ Size ∷ Height ∷ []) (Width ∷ Size ∷ [])) ≤ 3
    by_test true = omega arith
    by_test false = omega arith

pub few_nodes : (form : ℕ) (cert : Cert) (text : List ℕ) → CertText cert text → length text ≤ 2 ^ 26 → length (nodes_of form cert) + axis_count form < 2 ^ 32
few_nodes form cert text spelled short =
    let below = few form cert text spelled in
    let axes = few_axes form in
    let wide : 2 ^ 26 + 3 < 2 ^ 32 = lit< tt in
    omega arith

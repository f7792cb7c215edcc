-- What the bytes of a certificate file are.
use Rattle.std.specs.Prelude.{◌≡◌, ◌⊎◌, ℕ, ◌≤◌, ◌<◌, List, [], ◌∷◌, length, codes}
use Rattle.cert_file.specs.Files.{IsNoFile}
use Rattle.viz_replies.specs.Lines.{numbered}

-- a certificate file has at most 64 MiB
abbrev pub cert_most : ℕ
cert_most = 67108864

-- the bytes are outside the grammar of a file of so many certificates
pub record IsUnspelled (count : ℕ) (bytes output : List ℕ) : Type 0 where
  pub short : length bytes ≤ cert_most
  pub place : ℕ
  pub no_file : IsNoFile count bytes place
  pub line : output ≡ numbered (codes "rejected grammar") (place ∷ [])

-- the bytes are too many
pub record IsTooLongCert (bytes output : List ℕ) : Type 0 where
  pub long : cert_most < length bytes
  pub line : output ≡ codes "rejected too-long\n"

-- the bytes spell no such file, for the reason that the line gives
abbrev pub IsNoCert : ℕ → List ℕ → List ℕ → Type 0
IsNoCert count bytes output = IsTooLongCert bytes output ⊎ IsUnspelled count bytes output

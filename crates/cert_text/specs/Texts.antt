-- The text of a certificate:
--
--     cert   := "vizlog-cert " ("1" | "2") LF "job " hex64 LF node
--     node   := "def " row " by " pos LF node | "split " row LF node node | "lemma " row LF deriv node
--             | "void" LF deriv | "grid" LF | "leaf" LF answer* "end" LF
--     answer := ("yes " | "no ") row LF deriv
--     deriv  := step* ("closed" LF | "case " row LF deriv deriv)
--     step   := "fact " num LF | "sum" (" " pos ":" num)+ LF | "cut " pos ":" num LF
--     row    := int (" " num ":" nz)*
--
-- hex64 is 64 lower case hex digits. int is a whole number of `i128` in decimal digits without leading zeros, nz one
-- other than 0, pos one above 0, and num a number from 0 to 2^32 - 1. A row's variables strictly ascend. A lemma stands
-- in certificates of form 2 alone, which is the number in the first line. A def, a split or a lemma stands at depth 0 to
-- 511, the root having depth 0, and at most 64 cases enclose each other.
--
-- Each part has the text that a function below gives, and has it where the test beside that function is met. A piece is
-- a certificate's head, or a node without the nodes below it: a certificate's text is the lines of its pieces.
use Rattle.std.specs.Prelude.{◌≡◌, ℕ, ◌+◌, ◌-◌, ◌^◌, ◌==◌, nat_lt, nat_le, ℤ, pos, Bool, true, false, ◌&&◌, ◌||◌, IsTrue, List, [], ◌∷◌, ◌++◌, length, codes, not}
use Rattle.std.specs.Ordering.{int_eq}
use Rattle.std.specs.Int.Signed.{lt_z}
use Rattle.std.specs.List.{flat_map, concat, list_all}
use Rattle.hex.specs.Hex.{encode_lower}
use Rattle.lin_proof.specs.Number.{in_i128}
use Rattle.lin_proof.specs.Form.{Form, Terms}
use Rattle.lin_proof.specs.declared.derivation.Step.{Step}
use Rattle.lin_proof.specs.declared.derivation.Step.TheVariants.{Fact, Sum, Cut}
use Rattle.lin_proof.specs.declared.derivation.Derivation.{Derivation}
use Rattle.lin_proof.specs.declared.derivation.Branch.{Branch}
use Rattle.lin_proof.specs.declared.derivation.Ending.{Ending}
use Rattle.lin_proof.specs.declared.derivation.Ending.TheFolds.{fold-Ending, fold-Derivation, fold-Branch}
use Rattle.lin_proof.specs.declared.derivation.Ending.TheOpen.{Ending-F, Branch-F, Derivation-F}
use Rattle.lin_proof.specs.declared.derivation.Answer.{Answer}
use Rattle.cert_text.specs.declared.certificate.Cert.{Cert}
use Rattle.cert_text.specs.declared.certificate.CertNode.{CertNode}
use Rattle.cert_text.specs.declared.certificate.CertNode.TheOpen.{CertNode-F}
use Rattle.cert_text.specs.declared.certificate.CertNode.TheFolds.{fold-CertNode}
use Rattle.cert_text.specs.declared.certificate.Piece.{Piece}
use Rattle.cert_text.specs.declared.certificate.Piece.TheVariants.{Head, Def, Split, Lemma, Void, Grid, Leaf}
use Rattle.cert_text.specs.steps.Write.{int_bytes, row_bytes}

-- ---- numbers and rows

abbrev pub is_num : ℕ → Bool
is_num n = nat_lt n (2 ^ 32)

abbrev pub is_above_zero : ℤ → Bool
is_above_zero n = lt_z (pos 0) n && in_i128 n

abbrev pub is_nonzero : ℤ → Bool
is_nonzero n = not (int_eq n (pos 0)) && in_i128 n

-- variables that strictly ascend, from `least` on, and coefficients other than 0
abbrev pub terms_have_text : ℕ → Terms → Bool
terms_have_text least [] = true
terms_have_text least (t ∷ ts) = nat_le least t.0 && is_num t.0 && is_nonzero t.1 && terms_have_text (t.0 + 1) ts

abbrev pub row_has_text : Form → Bool
row_has_text row = in_i128 row.k && terms_have_text 0 row.terms

-- ---- derivations

abbrev pub part_text : ℤ × ℕ → List ℕ
part_text p = concat (codes " " ∷ int_bytes p.0 ∷ codes ":" ∷ int_bytes (pos p.1) ∷ [])

abbrev pub part_has_text : ℤ × ℕ → Bool
part_has_text p = is_above_zero p.0 && is_num p.1

abbrev pub step_text : Step → List ℕ
step_text (Fact n) = concat (codes "fact " ∷ int_bytes (pos n) ∷ codes "\n" ∷ [])
step_text (Sum parts) = concat (codes "sum" ∷ flat_map part_text parts ∷ codes "\n" ∷ [])
step_text (Cut d n) = concat (codes "cut" ∷ part_text (d, n) ∷ codes "\n" ∷ [])

abbrev pub step_has_text : Step → Bool
step_has_text (Fact n) = is_num n
step_has_text (Sum parts) = nat_lt 0 (length parts) && list_all part_has_text parts
step_has_text (Cut d n) = part_has_text (d, n)

abbrev pub ending_step : Ending-F (List ℕ) (List ℕ) (List ℕ) → List ℕ
ending_step Ending-F.Closed = codes "closed\n"
ending_step (Ending-F.Cases branch) = branch

abbrev pub branch_step : Branch-F (List ℕ) (List ℕ) (List ℕ) → List ℕ
branch_step b = concat (codes "case " ∷ row_bytes b.row ∷ codes "\n" ∷ b.first ∷ b.second ∷ [])

abbrev pub derivation_step : Derivation-F (List ℕ) (List ℕ) (List ℕ) → List ℕ
derivation_step d = flat_map step_text d.steps ++ d.last

abbrev pub derivation_text : Derivation → List ℕ
derivation_text = fold-Derivation (List ℕ) (List ℕ) (List ℕ) ending_step branch_step derivation_step

abbrev pub ending_text : Ending → List ℕ
ending_text = fold-Ending (List ℕ) (List ℕ) (List ℕ) ending_step branch_step derivation_step

abbrev pub branch_text : Branch → List ℕ
branch_text = fold-Branch (List ℕ) (List ℕ) (List ℕ) ending_step branch_step derivation_step

-- whether a part has a text, where so many cases may enclose each other in it
abbrev pub Nested : Type 0
Nested = ℕ → Bool

abbrev pub ending_nested : Ending-F Nested Nested Nested → Nested
ending_nested Ending-F.Closed cases = true
ending_nested (Ending-F.Cases branch) cases = branch cases

abbrev pub branch_nested : Branch-F Nested Nested Nested → Nested
branch_nested b cases = nat_lt 0 cases && row_has_text b.row && b.first (cases - 1) && b.second (cases - 1)

abbrev pub derivation_nested : Derivation-F Nested Nested Nested → Nested
derivation_nested d cases = list_all step_has_text d.steps && d.last cases

abbrev pub derivation_has_text : Derivation → Nested
derivation_has_text = fold-Derivation Nested Nested Nested ending_nested branch_nested derivation_nested

abbrev pub ending_has_text : Ending → Nested
ending_has_text = fold-Ending Nested Nested Nested ending_nested branch_nested derivation_nested

abbrev pub branch_has_text : Branch → Nested
branch_has_text = fold-Branch Nested Nested Nested ending_nested branch_nested derivation_nested

-- ---- answers

abbrev pub answer_word : Bool → List ℕ
answer_word true = codes "yes "
answer_word false = codes "no "

abbrev pub answer_text : Answer → List ℕ
answer_text a = concat (answer_word a.yes ∷ row_bytes a.row ∷ codes "\n" ∷ derivation_text a.why ∷ [])

abbrev pub answer_has_text : Answer → Bool
answer_has_text a = row_has_text a.row && derivation_has_text a.why 64

-- ---- pieces and nodes

-- the lines of a piece
abbrev pub piece_text : Piece → List ℕ
piece_text (Head form job) =
    concat (codes "vizlog-cert " ∷ int_bytes (pos form) ∷ codes "\njob " ∷ encode_lower job ∷ codes "\n" ∷ [])
piece_text (Def row d) = concat (codes "def " ∷ row_bytes row ∷ codes " by " ∷ int_bytes d ∷ codes "\n" ∷ [])
piece_text (Split row) = concat (codes "split " ∷ row_bytes row ∷ codes "\n" ∷ [])
piece_text (Lemma row why) = concat (codes "lemma " ∷ row_bytes row ∷ codes "\n" ∷ derivation_text why ∷ [])
piece_text (Void why) = concat (codes "void\n" ∷ derivation_text why ∷ [])
piece_text Grid = codes "grid\n"
piece_text (Leaf answers) = concat (codes "leaf\n" ∷ flat_map answer_text answers ∷ codes "end\n" ∷ [])

-- 32 bytes
abbrev pub job_has_text : List ℕ → Bool
job_has_text job = length job == 32 && list_all (λ b. nat_lt b 256) job

abbrev pub is_form : ℕ → Bool
is_form form = form == 1 || form == 2

abbrev pub head_has_text : ℕ → List ℕ → Bool
head_has_text form job = is_form form && job_has_text job

-- whether a piece has lines as a node's own, in a certificate of a form, where so many defs, splits and lemmas may
-- stand one in another from it on
abbrev pub piece_has_text : ℕ → ℕ → Piece → Bool
piece_has_text form levels (Head _ job) = false
piece_has_text form levels (Def row d) = nat_lt 0 levels && row_has_text row && is_above_zero d
piece_has_text form levels (Split row) = nat_lt 0 levels && row_has_text row
piece_has_text form levels (Lemma row why) =
    nat_lt 0 levels && form == 2 && row_has_text row && derivation_has_text why 64
piece_has_text form levels (Void why) = derivation_has_text why 64
piece_has_text form levels Grid = true
piece_has_text form levels (Leaf answers) = list_all answer_has_text answers

-- the lines of a node: its own, and then those of the nodes below it
abbrev pub node_step : CertNode-F (List ℕ) → List ℕ
node_step (CertNode-F.Def row d below) = piece_text (Def row d) ++ below
node_step (CertNode-F.Split row first second) = piece_text (Split row) ++ (first ++ second)
node_step (CertNode-F.Lemma row why below) = piece_text (Lemma row why) ++ below
node_step (CertNode-F.Void why) = piece_text (Void why)
node_step CertNode-F.Grid = piece_text Grid
node_step (CertNode-F.Leaf answers) = piece_text (Leaf answers)

abbrev pub node_text : CertNode → List ℕ
node_text = fold-CertNode (List ℕ) node_step

-- whether a node has a text in a certificate of a form, where so many defs, splits and lemmas may stand one in another
abbrev pub node_nested : ℕ → CertNode-F Nested → Nested
node_nested form (CertNode-F.Def row d below) levels = piece_has_text form levels (Def row d) && below (levels - 1)
node_nested form (CertNode-F.Split row first second) levels =
    piece_has_text form levels (Split row) && first (levels - 1) && second (levels - 1)
node_nested form (CertNode-F.Lemma row why below) levels =
    piece_has_text form levels (Lemma row why) && below (levels - 1)
node_nested form (CertNode-F.Void why) levels = piece_has_text form levels (Void why)
node_nested form CertNode-F.Grid levels = piece_has_text form levels Grid
node_nested form (CertNode-F.Leaf answers) levels = piece_has_text form levels (Leaf answers)

abbrev pub node_has_text : ℕ → CertNode → Nested
node_has_text form = fold-CertNode Nested (node_nested form)

-- ---- certificates

abbrev pub cert_text : Cert → List ℕ
cert_text cert = piece_text (Head cert.form cert.job) ++ node_text cert.root

abbrev pub cert_has_text : Cert → Bool
cert_has_text cert = head_has_text cert.form cert.job && node_has_text cert.form cert.root 512

abbrev pub CertText : Cert → List ℕ → Type 0
CertText cert text = IsTrue (cert_has_text cert) × (text ≡ cert_text cert)

use Rattle.std.proofs.Common.{◌≡◌, ℕ, ◌<◌, true, nat_lt, ◌==◌, length, arith}
use Rattle.std.specs.List.{list_all}
use Rattle.std.proofs.lemmas.Bool.{and_from}
use Rattle.std.proofs.lemmas.Bool.Decides.{nat_tests}
use Rattle.std.proofs.lemmas.List.Elements.{All-from_get_or}
use Rattle.std.proofs.lemmas.List.Sums.{list_all-from_AllPass}
use Rattle.cert_file.proofs.reading.with_digest.Goals as goal

is_byte : (b : ℕ) → b < 256 → nat_lt b 256 ≡ true
is_byte b less = grind (arith, nat_tests)

pub returns-clause-spelled : goal.returns-clause-spelled
returns-clause-spelled c =
    let digest = c.args.digest.now in
    let sized : length digest ≡ 32 = c.told-digest in
    let count : (length digest == 32) ≡ true = grind (arith, nat_tests) in
    let bytes = All-from_get_or (λ (b : ℕ). nat_lt b 256 ≡ true) digest 0 (λ i within. is_byte _ (c.fits-digest i)) in
    and_from (length digest == 32) (list_all (λ b. nat_lt b 256) digest) count (list_all-from_AllPass (λ b. nat_lt b 256) digest bytes)

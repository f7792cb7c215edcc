-- The whole range.
use Rattle.std.proofs.Common.{◌≡◌, ℕ, suc, ◌<◌, ◌≤◌, true, nat_lt, ◌==◌, List, [], ◌∷◌, length, get_or, refl, arith, lit<, lit≤, length-append}
use Rattle.std.specs.List.{list_all}
use Rattle.std.proofs.lemmas.Fmt.{length-decimal-le}
use Rattle.std.proofs.lemmas.Bool.{and_from, and_parts}
use Rattle.std.proofs.lemmas.Bool.Decides.{nat_tests}
use Rattle.hex.specs.Hex.{lower_digits, encode_lower}
use Rattle.hex.proofs.HexLemmas.{length-encode_with}
use Rattle.viz_base.specs.Jobs.{IsRange}
use Rattle.viz_base.specs.declared.worlds.Rect.{Rect}
use Rattle.viz_base.specs.declared.jobs.Job.{Job}
use Rattle.cert_text.specs.Texts.{job_has_text, cert_text}
use Rattle.cert_semantics.specs.Paths.{root}
use Rattle.cert_check.proofs.Tellings.{is_right}
use Rattle.prove_search.specs.declared.plain.Closed.{Closed}
use Rattle.prove_search.specs.Outcomes.{IsProof, plain_most}
use Rattle.prove_search.proofs.Lemmas.{of_form_1}
use Rattle.prove_search.specs.steps.Finds.{HasLevels, IsClosed}

range_levels : (range : Rect) → IsRange range → HasLevels 36 range
range_levels range known =
    let width_least = known.width_least in
    let size_least = known.size_least in
    let height_least = known.height_least in
    let widths = known.width_most in
    let sizes = known.size_most in
    let heights = known.height_most in
    record {
      of_width = 14;
      of_size = 8;
      of_height = 14;
      whole = refl;
      widths = omega arith;
      sizes = omega arith;
      heights = omega arith;
    }

digest_short : (digest : List ℕ) → job_has_text digest ≡ true → length (encode_lower digest) ≤ 64
digest_short digest is =
    let count = (and_parts (length digest == 32) (list_all (λ b. nat_lt b 256) digest) is).0 in
    let sized : length digest ≡ 32 = grind (arith, nat_tests) in
    omega (arith, length-encode_with lower_digits digest)

pub proves : (job : Job) (turns : ℕ) (closed : Closed) → IsRange job.range → job_has_text job.digest ≡ true → IsClosed job job.range turns closed
    → IsProof job turns plain_most (record { form = 1; job = job.digest; root = closed.node })
proves job turns closed known bytes h =
    let grids = h.few_grids in
    let digest = digest_short job.digest bytes in
    let node_short = h.short in
    let few = known.worlds in
    let form = length-decimal-le 1 1 (lit< tt) (lit< tt) (lit< tt) in
    record {
      right = is_right job (record { form = 1; job = job.digest; root = closed.node }) refl (h.good (root job.form) (record { form = refl; units = tt; left = refl }));
      holds = h.holds;
      few = omega arith;
      text = cert_text (record { form = 1; job = job.digest; root = closed.node });
      spelled = (and_from _ _ bytes (h.spelled 36 512 (range_levels job.range known) (lit≤ tt)), refl);
      short = simp length-append (omega arith);
      one_grid = h.one_grid;
      form = of_form_1 (record { form = 1; job = job.digest; root = closed.node }) _ (and_from _ _ bytes (h.spelled 36 512 (range_levels job.range known) (lit≤ tt)), refl) refl;
    }

-- ---- digests

all_bytes : (bytes : List ℕ) → ((i : ℕ) → get_or bytes i 0 < 256) → list_all (λ b. nat_lt b 256) bytes ≡ true
all_bytes [] h = refl
all_bytes (b ∷ bytes) h =
    let less = h 0 in
    let here : nat_lt b 256 ≡ true = grind (arith, nat_tests) in
    and_from _ _ here (all_bytes bytes (λ i. h (suc i)))

pub digest_spelled : (digest : List ℕ) → length digest ≡ 32 → ((i : ℕ) → get_or digest i 0 < 256) → job_has_text digest ≡ true
digest_spelled digest sized h =
    let count : (length digest == 32) ≡ true = grind (arith, nat_tests) in
    and_from _ _ count (all_bytes digest h)

use Rattle.std.proofs.Common.{◌≡◌, ℕ, ◌+◌, ◌-◌, ◌*◌, ◌<◌, List, Ok, length, take, refl, sym, ◌∙◌, arith, add-one, subst, ◌≤◌, ◌++◌, []}
use Rattle.std.proofs.lemmas.List.{take_more_set, take_all, append-nil, length-set}
use Rattle.std.proofs.lemmas.Result.{err_from_is_err_and}
use Rattle.cert_text.specs.steps.Read.{read_hex, read_bytes}
use Rattle.cert_text.proofs.CursorLemmas.{put_front, put_front-none, gives_err, refused_high, refused_low, read_byte, read_bytes-none}
use Rattle.cert_text.proofs.cursor.Cursor.digest.Goals as goal

pub loop-i-init : goal.loop-i-init
loop-i-init c = record { sized = refl; same = sym (put_front-none (read_bytes 32 c.args.self.now.rest.now)) }

pub loop-i-preserved : goal.loop-i-preserved
loop-i-preserved c =
    let i = c.loop-i.i in
    let digest = c.loop-i.digest in
    let within : i < length digest = omega (arith, c.loop-i.invariant.sized) in
    let left : 32 - i ≡ (32 - (i + 1)) + 1 = omega arith in
    let byte = 16 * c.in_ok-high.high + c.in_ok-low.low in
    record {
      sized = rw length-set c.loop-i.invariant.sized;
      same = c.loop-i.invariant.same ∙ rw (left, add-one, take_more_set digest i byte within) (read_byte (take i digest) (32 - (i + 1)) _ _ _ _ _ c.in_ok-high.ensures.gives c.in_ok-low.ensures.gives);
    }

pub returns-in_err-high : goal.returns-in_err-high
returns-in_err-high c =
    let p = err_from_is_err_and c.from_residual.result c.from_residual.ensures.1 in
    let left : 32 - c.loop-i.i ≡ (31 - c.loop-i.i) + 1 = omega arith in
    rw (p.1, p.2) (gives_err _ (read_hex c.loop-i.self.rest.now) _ _ (λ e h. c.loop-i.invariant.same ∙ rw (left, add-one) (refused_high _ _ _ e h)) c.in_err-high.ensures.gives)

pub returns-in_err-low : goal.returns-in_err-low
returns-in_err-low c =
    let p = err_from_is_err_and c.from_residual-in_err-low.result c.from_residual-in_err-low.ensures.1 in
    let left : 32 - c.loop-i.i ≡ (31 - c.loop-i.i) + 1 = omega arith in
    rw (p.1, p.2) (gives_err _ (read_hex c.hex.new.self.rest.now) _ _ (λ e h. c.loop-i.invariant.same ∙ rw (left, add-one) (refused_low _ _ _ _ e _ c.in_ok-high.ensures.gives h)) c.in_err-low.ensures.gives)

pub returns : goal.returns
returns c =
    let none : 32 - c.loop-i.i ≡ 0 = omega arith in
    let all : length c.loop-i.digest ≤ c.loop-i.i = omega (arith, c.loop-i.invariant.sized) in
    let left = c.loop-i.self.rest.now in
    let digest = c.loop-i.digest in
    let ended : put_front (take c.loop-i.i digest) (read_bytes (32 - c.loop-i.i) left) ≡ Ok (take c.loop-i.i digest ++ [], left) = rw none (read_bytes-none (take c.loop-i.i digest) left) in
    let whole : take c.loop-i.i digest ++ [] ≡ digest = append-nil (take c.loop-i.i digest) ∙ take_all c.loop-i.i digest all in
    subst (λ (d : List ℕ). read_bytes 32 c.args.self.now.rest.now ≡ Ok (d, left)) whole (c.loop-i.invariant.same ∙ ended)

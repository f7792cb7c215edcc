-- Bytes that are read and written piece by piece.
use Rattle.std.proofs.Common.{◌≡◌, ◌≤◌, ◌<◌, ◌+◌, ◌-◌, ◌^◌, ◌++◌, ℕ, Bool, true, false, List, [], Option, Some, None, IfSome, option_map, length, take, drop, min, nat_le, refl, ap, sym, ◌∙◌, append_assoc, arith}
use Rattle.std.specs.Io.KnownBytes.{Appends, Keeps}
use Rattle.std.proofs.Math.Seq.{take-add}
use Rattle.std.proofs.lemmas.List.{append-nil, take_all, length-take-le}
use Rattle.std.proofs.lemmas.Bool.Decides.{nat_tests}
use Rattle.viz_outside.specs.Shelf.{loaded_of}

-- ---- writing

pub appends_none : (w : Option (List ℕ)) (bytes : List ℕ) → Appends w w (take 0 bytes)
appends_none None bytes = record {}
appends_none (Some w) bytes = sym (append-nil w)

-- the first d bytes, and then n of the rest
pub appends_further : (w v u : Option (List ℕ)) (bytes : List ℕ) (d n : ℕ) → Appends w v (take d bytes) → Appends v u (take n (drop d bytes))
    → Appends w u (take (d + n) bytes)
appends_further None v u bytes d n before now = record {}
appends_further (Some w) None u bytes d n before now = absurd before
appends_further (Some w) (Some v) None bytes d n before now = absurd now
appends_further (Some w) (Some v) (Some u) bytes d n before now =
    now ∙ ap (λ x. x ++ take n (drop d bytes)) before ∙ append_assoc w (take d bytes) (take n (drop d bytes)) ∙ ap (λ x. w ++ x) (sym (take-add d n bytes))

-- what was kept has grown by nothing
pub appends_nothing : (w v : Option (List ℕ)) (bytes : List ℕ) → Keeps w v → Appends w v (take 0 bytes)
appends_nothing None v bytes kept = record {}
appends_nothing (Some w) None bytes kept = absurd kept
appends_nothing (Some w) (Some v) bytes kept = kept ∙ sym (append-nil w)

-- and nothing more
pub appends_no_more : (w v u : Option (List ℕ)) (bytes rest : List ℕ) → Appends w v bytes → Appends v u (take 0 rest) → Appends w u bytes
appends_no_more None v u bytes rest before now = record {}
appends_no_more (Some w) None u bytes rest before now = absurd before
appends_no_more (Some w) (Some v) None bytes rest before now = absurd now
appends_no_more (Some w) (Some v) (Some u) bytes rest before now = now ∙ append-nil v ∙ before

-- ---- reading

same_loaded : (limit cap : ℕ) (held : List ℕ) (b : Bool) → limit ≡ min (cap + 1) (2 ^ 64 - 1) → length (take limit held) < 2 ^ 63
    → nat_le (length held) limit ≡ b → loaded_of cap (take limit held) ≡ loaded_of cap held
same_loaded limit cap held true is small fits =
    let within : length held ≤ limit = grind (arith, nat_tests) in
    ap (loaded_of cap) (take_all limit held within)
same_loaded limit cap held false is small past =
    let longer : limit < length held = grind (arith, nat_tests) in
    let long : length (take limit held) ≡ limit = length-take-le limit held (omega arith) in
    let over : nat_le (length (take limit held)) cap ≡ false = grind (arith, nat_tests) in
    let over_all : nat_le (length held) cap ≡ false = grind (arith, nat_tests) in
    rw (over, over_all) refl

-- the first bytes of a reader, one more than the cap, tell what a load gives of all that it has left
pub loads_front : (left : Option (List ℕ)) (limit cap : ℕ) (bytes : List ℕ) → limit ≡ min (cap + 1) (2 ^ 64 - 1) → length bytes < 2 ^ 63
    → IfSome (option_map (take limit) left) (λ xs. bytes ≡ [] ++ xs) → IfSome left (λ held. loaded_of cap bytes ≡ loaded_of cap held)
loads_front None limit cap bytes is small read = read
loads_front (Some held) limit cap bytes is small read =
    let short : length (take limit held) < 2 ^ 63 = rw read at small in
    ap (loaded_of cap) read ∙ same_loaded limit cap held (nat_le (length held) limit) is short refl

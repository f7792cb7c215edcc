-- A sink in memory: what each call answers, and what it leaves.
use Rattle.std.specs.Prelude.{◌-◌, ◌++◌, ◌==◌, ◌&&◌, ◌||◌, Bool, ℕ, List, Result, Ok, Err, length, min, nat_le, nat_lt, take, if◌then◌else◌}
use Rattle.std.specs.List.{list_any}
use Rattle.viz_outside.specs.declared.sink.SinkFailed.{SinkFailed}
use Rattle.viz_outside.specs.Fault.{raised}

-- the bytes taken so far, how many a call takes at most, for how many there is room in all,
-- the numbers of the calls that fail, and how many calls and faults there were
pub record SinkState : Type 0 where
  pub bytes : List ℕ
  pub most : ℕ
  pub room : ℕ
  pub fails : List ℕ
  pub calls : ℕ
  pub faults : ℕ

-- how much of a piece a call takes that doesn't fail
abbrev pub share : SinkState → List ℕ → ℕ
share s piece = min (min s.most (s.room - length s.bytes)) (length piece)

-- whether the next call fails: its number is one of those that do, or there is no room for any of the piece
abbrev pub fails_next : SinkState → List ℕ → Bool
fails_next s piece = (nat_le s.room (length s.bytes) && nat_lt 0 (length piece)) || list_any (λ n. n == s.calls) s.fails

-- what the next call answers
abbrev pub answer_of : SinkState → List ℕ → Result ℕ SinkFailed
answer_of s piece = if fails_next s piece then Err (record {}) else Ok (share s piece)

-- what the next call leaves
abbrev pub after_write : SinkState → List ℕ → SinkState
after_write s piece = record s {
  bytes = if fails_next s piece then s.bytes else s.bytes ++ take (share s piece) piece;
  calls = raised s.calls;
  faults = if fails_next s piece then raised s.faults else s.faults;
}

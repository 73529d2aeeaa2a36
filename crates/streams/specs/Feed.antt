-- What contracts see of a source and a sink in memory (docs/ARCHITECTURE.md, "Statuses").
use Rattle.std.specs.Prelude.{ℕ, ◌+◌, ◌-◌, ◌^◌, ◌<◌, ◌≤◌, min, List, [], length, Contains}

-- a source: the bytes to come, the numbers of the calls that fail, and the calls and faults so far
pub record Feed : Type 0 where
  pub left : List ℕ
  pub fails : List ℕ
  pub calls : ℕ
  pub faults : ℕ

-- a sink: the bytes written, how many fit, and the same
pub record Drain : Type 0 where
  pub written : List ℕ
  pub room : ℕ
  pub fails : List ℕ
  pub calls : ℕ
  pub faults : ℕ

-- the number of the next call, which stands still at its type's last value
abbrev pub next_call : ℕ → ℕ
next_call calls = min (calls + 1) (2 ^ 64 - 1)

-- a source of these bytes, before its first call
abbrev pub new_feed : List ℕ → List ℕ → Feed
new_feed bytes fails = record { left = bytes; fails = fails; calls = 0; faults = 0 }

-- a sink with this room, before its first call
abbrev pub new_drain : ℕ → List ℕ → Drain
new_drain room fails = record { written = []; room = room; fails = fails; calls = 0; faults = 0 }

-- how many bytes still fit
abbrev pub room_left : Drain → ℕ
room_left sink = sink.room - length sink.written

-- after so many calls the next one is to fail
abbrev pub IsCallToFail : List ℕ → ℕ → Type 0
IsCallToFail fails calls = Contains fails (next_call calls)

-- a piece that is not empty meets a full room
abbrev pub IsPieceTooMany : Drain → List ℕ → Type 0
IsPieceTooMany sink piece = (0 < length piece) × (sink.room ≤ length sink.written)

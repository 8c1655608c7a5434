-- What sources and sinks in memory have left and have kept, and which of their calls fail.
use Rattle.std.specs.Prelude.{ℕ, ◌+◌, ◌-◌, ◌^◌, List, min, Bool, Option, Some, None, if◌then◌else◌}

-- the bytes that a sink kept, how many bytes still fit, and whether a piece didn't fit
pub record SinkBytes : Type 0 where
  pub bytes : List ℕ
  pub free : ℕ
  pub lost : Bool

-- what a sink tells of what was written: the bytes that it kept, as long as no piece was lost
abbrev pub written_of : SinkBytes → Option (List ℕ)
written_of kept = if kept.lost then None else Some kept.bytes

-- the last value of a counter
abbrev pub last_count : ℕ
last_count = 2 ^ 64 - 1

-- a counter of n after one more call, which stops at the last value
abbrev pub counted : ℕ → ℕ
counted n = min (n + 1) last_count

-- the bytes that are left, the most bytes for one call, the numbers of the calls that fail, counted from 1, the calls
-- so far, and how many of them failed
pub record SourceState : Type 0 where
  pub rest : List ℕ
  pub most : ℕ
  pub fails : List ℕ
  pub calls : ℕ
  pub faults : ℕ

-- the bytes that a sink took, how many still fit, the most bytes for one call, and its calls as for a source
pub record SinkState : Type 0 where
  pub taken : List ℕ
  pub free : ℕ
  pub most : ℕ
  pub fails : List ℕ
  pub calls : ℕ
  pub faults : ℕ

-- What a run reads and writes.
use Rattle.std.specs.Prelude.{◌≡◌, ℕ, List, Option}

-- one moment: the bytes that the source still has and the bytes that the sink took, if told, and both counts of faults
pub record Streams : Type 0 where
  pub rest : Option (List ℕ)
  pub read_faults : ℕ
  pub written : Option (List ℕ)
  pub write_faults : ℕ

-- the streams as a run begins, and as it ends
pub record Traffic : Type 0 where
  pub before : Streams
  pub after : Streams

-- the traffic of a source and a sink: four functions tell what is left, what was written, and both counts of faults
abbrev pub traffic : {A B : Type 0} → (A → Option (List ℕ)) → (A → ℕ) → (B → Option (List ℕ)) → (B → ℕ) → A → A → B → B → Traffic
traffic rest read_faults written write_faults source source' sink sink' = record {
  before = record { rest = rest source; read_faults = read_faults source; written = written sink; write_faults = write_faults sink };
  after = record { rest = rest source'; read_faults = read_faults source'; written = written sink'; write_faults = write_faults sink' };
}

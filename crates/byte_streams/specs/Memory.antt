-- What contracts see of the sources and sinks in memory.
use Rattle.std.specs.Prelude.{ℕ, List}

-- a source in memory: the bytes that are left, the most that one read gives, the numbers of the reads
-- that fail, and how many reads and how many faults there were
pub record SourceState : Type 0 where
  pub left : List ℕ
  pub each : ℕ
  pub failing : List ℕ
  pub reads : ℕ
  pub faults : ℕ

-- a sink in memory: the bytes that it took, the room that is left, the most that one write takes, the
-- numbers of the writes that fail, and how many writes and how many faults there were
pub record SinkState : Type 0 where
  pub taken : List ℕ
  pub room : ℕ
  pub each : ℕ
  pub failing : List ℕ
  pub writes : ℕ
  pub faults : ℕ

-- a sink that fails only for want of room: the bytes that it took, the room that is left, and how many
-- faults there were
pub record SureSinkState : Type 0 where
  pub taken : List ℕ
  pub room : ℕ
  pub faults : ℕ

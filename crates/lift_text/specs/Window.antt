-- What clauses see of the bytes that are read and not used yet. No public clause cites this module.
use Rattle.std.specs.Prelude.{ℕ, List, Bool}

-- the unread bytes, how many more may be taken from the source, the room behind the unread bytes, and whether
-- the source has said that it is at its end
pub record WindowState : Type 0 where
  pub unread : List ℕ
  pub quota : ℕ
  pub room : ℕ
  pub ended : Bool

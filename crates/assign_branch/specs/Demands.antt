-- The calls that a node keeps for each car. No public clause cites this module.
use Rattle.std.specs.Prelude.{◌≡◌, ℕ, ◌<◌, ◌≤◌, ◌^◌, ◌==◌, List, length, slice_index, if◌then◌else◌}
use Rattle.call_sets.specs.Counting.{has}
use Rattle.search_model.specs.Nodes.{Node, set_of, allows, requires_of}

-- by car, the calls that it may board and those that it has to
pub record KeepsDemands (node : Node) (allowed required : List ℕ) : Type 0 where
  pub calls : length node ≤ 128
  pub cars : (j : ℕ) → set_of node j < 2 ^ 16
  pub allowed_are : (c j : ℕ) → c < 16 → has (slice_index allowed c) j ≡ allows node c j
  pub required_are : (c j : ℕ) → c < 16 → has (slice_index required c) j ≡ requires_of node c j

-- by car, the call is in the sets of these cars and of no others, and all other calls stay
abbrev pub Places : (call cars : ℕ) → (old new : List ℕ) → Type 0
Places call cars old new =
    (c j : ℕ) → c < 16 → has (slice_index new c) j ≡ (if j == call then has cars c else has (slice_index old c) j)

-- The rule of the word from which workers draw.
use Rattle.std.specs.Prelude.{◌≡◌, ℕ, ◌+◌, ◌-◌, ◌<◌, ◌≤◌, ◌^◌, List, [], ◌∷◌, ◌++◌, length, slice_index, sum_by}
use mathlib.Core.Option.{some}
use lib.ListN.{get_elem?}
use Rattle.atomic_table.specs.Table.{State, Step, Me}
use Rattle.work_fan.specs.declared.line.Share.{Share}
use Rattle.work_fan.specs.declared.line.LineSizes.{LineSizes}
use Rattle.work_fan.specs.Line.{times, times_below, past, EachOnce}

abbrev pub share : List ℕ → ℕ → Share
share drawn allowance = record { drawn = drawn; allowance = allowance }

-- each share fits its allowance: it has drawn at most that many numbers at or past the count, and none where it has no allowance
abbrev pub Fitting : ℕ → List Share → Type 0
Fitting count shares =
    (id : ℕ) (s : Share)
    → get_elem? shares id ≡ some s
    → (past count s.drawn ≤ s.allowance) × (s.allowance ≡ 0 → s.drawn ≡ [])

-- The numbers below the word are each in exactly one share, once, and no other number is in any share.
-- The allowances sum to the number of workers, and each share fits its allowance.
-- `draws` and `past_draws` follow from the others, and are kept so that no proof has to count.
pub record IsKept {S : Type 0} (limits : LineSizes) (state : State S Share) : Type 0 where
  pub small : limits.count + limits.workers < 2 ^ 63
  pub one_word : length state.words ≡ 1
  pub once : (x : ℕ)
      → sum_by (λ (s : Share). times x s.drawn) state.views ≡ times_below x (slice_index state.words 0)
  pub allowances : sum_by (λ (s : Share). s.allowance) state.views ≡ limits.workers
  pub fitting : Fitting limits.count state.views
  pub draws : sum_by (λ (s : Share). length s.drawn) state.views ≡ slice_index state.words 0
  pub past_draws :
      sum_by (λ (s : Share). past limits.count s.drawn) state.views ≡ slice_index state.words 0 - limits.count

module _ {S : Type 0} where
  -- the number found is drawn; all that the seat drew before is below it
  abbrev pub Draws : Step S → Me S Share → ℕ → Me S Share → Type 0
  Draws step me n after =
      (after ≡ (share (me.0.drawn ++ n ∷ []) me.0.allowance, me.1))
      × ((k : ℕ) → 0 < times k me.0.drawn → k < n)
      × EachOnce (me.0.drawn ++ n ∷ [])

  -- nothing changes; the seat has drawn no number twice
  abbrev pub Looks : Step S → Me S Share → ℕ → Me S Share → Type 0
  Looks step me n after = (after ≡ me) × EachOnce me.0.drawn

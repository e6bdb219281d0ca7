-- What each call and each group adds to a completion bound, in thousandths of a cost unit.
use Rattle.std.specs.Prelude.{ℕ, ◌+◌, ◌&&◌, not, ℤ, pos, ◌+ℤ◌, ◌-ℤ◌, Bool, if◌then◌else◌}
use Rattle.elevator_model.specs.Snapshot.{Snapshot, call_count}
use Rattle.elevator_model.specs.Tours.{Progress}
use Rattle.search_model.specs.Prices.{scaled}
use Rattle.search_model.specs.Bounds.{cost_if_straight, waiting_term}

-- the cost of the rest of the ride where it is carried, without its price where it boarded, or what it adds
-- where it has not
abbrev pub call_part : Snapshot → (price : ℕ → ℤ) → (allowed required : ℕ → Bool) → Progress → ℕ → ℤ
call_part s price allowed required p j =
    ((if p.carried j then scaled (cost_if_straight s p j) else pos 0) -ℤ (if p.boarded j then price j else pos 0)) +ℤ
    (if allowed j && not (p.boarded j) then waiting_term s price required p j else pos 0)

-- the cost of the ride where the group is carried
abbrev pub group_part : Snapshot → Progress → ℕ → ℤ
group_part s p k = if p.carried (call_count s + k) then scaled (cost_if_straight s p (call_count s + k)) else pos 0

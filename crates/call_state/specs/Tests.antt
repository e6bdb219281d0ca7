-- Tests of one item, apart.
use Rattle.std.specs.Prelude.{◌+◌, ◌==◌, ◌&&◌, ◌||◌, not, Bool, nat_le, nat_lt}
use Rattle.std.specs.List.{list_any}
use Rattle.elevator_model.specs.declared.CarSpec.{CarSpec}
use Rattle.elevator_model.specs.Building.{Building, floor_count}
use Rattle.elevator_model.specs.Faults.{is_within}

abbrev pub is_in_range : CarSpec → Bool
is_in_range car =
    nat_le 1 car.capacity && nat_le car.capacity 64 && nat_le car.opening 60000 && nat_le car.closing 60000 && nat_le car.boarding 60000
    && nat_le car.alighting 60000

abbrev pub has_motion_in_range : Building → Bool
has_motion_in_range b =
    is_within 1 3 b.version && is_within 2 64 (floor_count b) && not (list_any (λ h. nat_lt 1000000 h) b.heights) && is_within 100 20000 b.speed
    && is_within 100 5000 b.accel

abbrev pub has_weights_in_range : Building → Bool
has_weights_in_range b =
    nat_le b.wait_weight 1000 && nat_le b.travel_weight 1000 && nat_le b.patience 1000000000 && nat_le b.patience_weight 1000
    && (not (b.version == 1) || (b.patience + b.patience_weight == 0))

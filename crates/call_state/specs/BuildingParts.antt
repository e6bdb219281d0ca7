-- The building that its parts stand for.
use Rattle.elevator_model.specs.Building.{Building}
use Rattle.call_state.specs.declared.buildings.BuildingParts.{BuildingParts}

abbrev pub building_of : BuildingParts → Building
building_of p =
    record {
      version = p.version;
      heights = p.heights.items;
      speed = p.speed;
      accel = p.accel;
      wait_weight = p.wait_weight;
      travel_weight = p.travel_weight;
      patience = p.patience;
      patience_weight = p.patience_weight;
      cars = p.cars.items;
      travel = p.travel;
    }

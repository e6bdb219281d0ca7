use Rattle.std.proofs.Common.{◌≡◌, ◌==◌, None, sym, subst}
use Rattle.elevator_model.specs.Faults.{first_fault_of_building}
use Rattle.building_text.specs.BuildingText.{AreTravelTimes, HasTravel, building_from}
use Rattle.building_text.specs.Drafts.{Draft}
use Rattle.building_text.proofs.LawLemmas.{whole_travel, whole_faultless}
use Rattle.building_text.proofs.drafts.BuildingDraft.finish.Goals as goal

pub travel_times-requires : goal.travel_times-requires
travel_times-requires c =
    let d = c.args.self in
    let inside = c.self.inside in
    let ready : HasTravel inside.version inside.heights.items inside.speed inside.accel inside.times.items =
    subst (λ (d : Draft). HasTravel d.version d.heights d.speed d.accel d.times) (sym c.self.view_is) (whole_travel d c.requires) in
    subst (λ hs. HasTravel inside.version hs inside.speed inside.accel inside.times.items) (sym c.deref.ensures.value) ready

pub built-requires : goal.built-requires
built-requires c =
    let inside = c.self.inside in
    let travel = c.in_ok-travel.travel in
    let times = subst (λ hs. AreTravelTimes (inside.version == 3) hs inside.speed inside.accel inside.times.items travel) c.deref.ensures.value
    c.in_ok-travel.ensures in
    let seen : AreTravelTimes (c.args.self.version == 3) c.args.self.heights c.args.self.speed c.args.self.accel c.args.self.times travel =
    subst (λ (d : Draft). AreTravelTimes (d.version == 3) d.heights d.speed d.accel d.times travel) c.self.view_is times in
    subst (λ (d : Draft). first_fault_of_building (building_from d travel) ≡ None) (sym c.self.view_is) (whole_faultless c.args.self travel c.requires seen)

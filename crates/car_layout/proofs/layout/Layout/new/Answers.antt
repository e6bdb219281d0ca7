use Rattle.std.proofs.Common.{◌≡◌, ℕ, ap, ◌∙◌, length}
use Rattle.std.proofs.lemmas.List.{length-replicate}
use Rattle.car_layout.specs.Layouts.{persons_to, moments_to}
use Rattle.car_layout.proofs.GroupLemmas.{table_written}
use Rattle.car_layout.proofs.layout.Layout.new.Goals as goal

pub invariant_of-result : goal.invariant_of-result
invariant_of-result c =
    let s = c.args.snapshot.now in
    let persons = c.in_ok-persons.persons in
    let moments = c.in_ok-moments.moments in
    let persons_room : length persons.items ≡ 64 = ap length c.in_ok-persons.ensures.items ∙ length-replicate {A = ℕ} 64 0 in
    let moments_room : length moments.items ≡ 64 = ap length c.in_ok-moments.ensures.items ∙ length-replicate {A = ℕ} 64 0 in
    let all_persons = table_written persons.len persons.items c.as_mut_slice.result.now c.lay_out_riders.new.persons
    (persons_to s.aboard c.args.car) persons.ok.0 persons_room c.lay_out_riders.ensures.persons_size c.lay_out_riders.ensures.persons in
    let all_moments = table_written moments.len moments.items c.as_mut_slice-2.result.now c.lay_out_riders.new.moments
    (moments_to s.aboard c.args.car) moments.ok.0 moments_room c.lay_out_riders.ensures.moments_size c.lay_out_riders.ensures.moments in (
      c.calls-calls.ensures.accepted,
      c.in_ok-starting.ensures,
      c.in_ok-ending.ensures,
      c.in_ok-earlier.ensures,
      c.in_ok-fitting.ensures,
      record {
        car = c.requires;
        possible_are = c.calls_for.ensures;
        served_are = c.floors_served.ensures;
        first_are = c.first_floors.ensures;
        destinations_are = c.destinations.ensures;
        persons_size = all_persons.0;
        moments_size = all_moments.0;
        persons_are = all_persons.1;
        moments_are = all_moments.1;
      },
    )

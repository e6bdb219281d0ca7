use Rattle.std.proofs.Common.{◌<◌, sym, subst}
use Rattle.elevator_model.specs.Snapshot.{car_count}
use Rattle.car_layout.specs.Layouts.{LaidOut, persons_to, moments_to}
use Rattle.car_layout.proofs.GroupLemmas.{table_written}
use Rattle.car_layout.proofs.layout.Layout.restart.Goals as goal

pub invariant_of-self : goal.invariant_of-self
invariant_of-self c =
    let f = c.self.inside in
    let s = f.snapshot.now in
    let old = c.self.invariant in
    let all_persons = table_written f.persons.len f.persons.items c.as_mut_slice.result.now c.lay_out_riders.new.persons
    (persons_to s.aboard c.args.car) f.persons.ok.0 old.5.persons_size c.lay_out_riders.ensures.persons_size c.lay_out_riders.ensures.persons in
    let all_moments = table_written f.moments.len f.moments.items c.as_mut_slice-2.result.now c.lay_out_riders.new.moments
    (moments_to s.aboard c.args.car) f.moments.ok.0 old.5.moments_size c.lay_out_riders.ensures.moments_size c.lay_out_riders.ensures.moments in (
      old.0,
      old.1,
      old.2,
      old.3,
      old.4,
      record {
        car = subst (λ (l : LaidOut). c.args.car < car_count l.snapshot) (sym c.self.view_is) c.requires;
        possible_are = c.calls_for-self-inside.ensures;
        served_are = c.floors_served-self-inside.ensures;
        first_are = c.first_floors-self-inside.ensures;
        destinations_are = c.destinations-self-inside.ensures;
        persons_size = all_persons.0;
        moments_size = all_moments.0;
        persons_are = all_persons.1;
        moments_are = all_moments.1;
      },
    )

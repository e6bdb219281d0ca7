use Rattle.std.proofs.Common.{Some, sym, ap, ◌∙◌}
use Rattle.elevator_model.specs.Building.{Building}
use Rattle.elevator_model.specs.Snapshot.{Snapshot}
use Rattle.search_model.specs.declared.RowFault.TheVariants.{NoRow}
use Rattle.search_model.specs.Days.{Day}
use Rattle.day_text.specs.Records.{row_as_said, row_of_line, row_within}
use Rattle.std.specs.Option.{option_map}
use Rattle.day_laws.specs.Standing.{row_number}
use Rattle.day_laws.proofs.RowFaults.{good-row, no-row}
use Rattle.day_simulator.proofs.RowLemmas.{answer-said, refused-answer}
use Rattle.day_simulator.proofs.days.Day.any_row.Goals as goal

pub good_row-requires-clause-good : goal.good_row-requires-clause-good
good_row-requires-clause-good g c =
    let here = c.building.ensures.value ∙ ap (λ (s : Snapshot). s.building) (c.snapshot.ensures.value ∙ ap (λ (d : Day). d.world.snapshot) c.self.view_is) in
    let said = ap (option_map row_as_said) (sym c.in-Some.is) ∙ c.in_ok-row.ensures ∙ ap (λ (b : Building). row_within b (row_of_line c.args.bytes.now)) here in
    (good-row c.args.self.now.world.snapshot.building (row_of_line c.args.bytes.now) (row_as_said c.in-Some.row) said).1

pub returns-in-Some-clause-row : goal.returns-in-Some-clause-row
returns-in-Some-clause-row g c =
    let said = ap (option_map row_as_said) (sym c.in-Some.is) ∙ c.in_ok-row.ensures in
    answer-said (g.P.Planner.right c.args.planner.now) c.args.self.now (Some (row_as_said c.in-Some.row))
    (row_of_line c.args.bytes.now) c.good_row.new.self c.args.out.now.items c.good_row.new.out.items c.good_row.result
    (sym (good-row c.building.result.now (row_of_line c.args.bytes.now) (row_as_said c.in-Some.row) said).0) c.good_row.ensures.row

pub returns-in-None-clause-row : goal.returns-in-None-clause-row
returns-in-None-clause-row g c =
    let here = c.building.ensures.value ∙ ap (λ (s : Snapshot). s.building) (c.snapshot.ensures.value ∙ ap (λ (d : Day). d.world.snapshot) c.self.view_is) in
    let said = sym (ap (λ (b : Building). row_within b (row_of_line c.args.bytes.now)) here) ∙ sym c.in_ok-row.ensures
    ∙ ap (option_map row_as_said) c.in-None.is in
    refused-answer (g.P.Planner.right c.args.planner.now) c.args.self.now
    (row_of_line c.args.bytes.now) NoRow c.refuse.new.self c.args.out.now.items c.refuse.new.out.items c.refuse.result
    (no-row c.args.self.now.world (row_number c.args.self.now) (row_of_line c.args.bytes.now) said) c.refuse.ensures.refused

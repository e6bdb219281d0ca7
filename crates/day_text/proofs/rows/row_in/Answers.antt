use Rattle.std.proofs.Common.{rules, ◌∙◌, ap, option_map}
use Rattle.csv.specs.Records.{fields_of}
use Rattle.day_text.specs.Records.{row_as_said}
use Rattle.day_text.proofs.NumberLemmas.{row-in-ranges, where_someone, kept-row}
use Rattle.day_text.proofs.rows.row_in.Goals as goal

pub returns-in_err-row : goal.returns-in_err-row
returns-in_err-row c =
    ap (option_map row_as_said) c.from_residual.ensures
    ∙ ap where_someone c.in_err-row.ensures
    ∙ row-in-ranges c.args.building.now (fields_of c.args.fields.now) c.heights.ensures.building.floors_low (search rules)

pub returns : goal.returns
returns c =
    kept-row c.in_ok-row.row c.then_some.result c.carries_someone.result c.carries_someone.ensures c.then_some.ensures
    ∙ ap where_someone c.in_ok-row.ensures
    ∙ row-in-ranges c.args.building.now (fields_of c.args.fields.now) c.heights.ensures.building.floors_low (search rules)

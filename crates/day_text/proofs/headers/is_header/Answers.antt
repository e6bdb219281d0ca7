use Rattle.std.proofs.Common.{◌∙◌, sym, ap}
use Rattle.std.specs.Prelude.{option_map}
use Rattle.csv.specs.Records.{fields_of}
use Rattle.day_text.proofs.HeaderLemmas.{header-line}
use Rattle.day_text.proofs.headers.is_header.Goals as goal

pub returns-in-Some : goal.returns-in-Some
returns-in-Some c =
    header-line c.args.header c.args.line.now (fields_of c.in-Some.record) c.is_header_record.result
    (ap (option_map fields_of) (sym c.in-Some.is) ∙ c.in_ok-record.ensures) c.is_header_record.ensures

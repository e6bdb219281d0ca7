use Rattle.std.proofs.Common.{refl}
use Rattle.std.specs.Fmt.{digits}
use Rattle.service_report.specs.ReportTexts.{report_text}
use Rattle.library_tests.proofs.values.reports.texts_of_the_definition.Goals as goal

pub returns : goal.returns
unfolding report_text digits
returns c = record { three = refl; none = refl }

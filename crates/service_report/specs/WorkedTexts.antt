-- Worked texts of reports.
use Rattle.std.specs.Prelude.{◌≡◌, [], ◌∷◌, codes}
use Rattle.search_model.specs.Reports.{report_of}
use Rattle.search_model.specs.WorkedDays.{served}
use Rattle.service_report.specs.ReportTexts.{report_text}

pub record AreReportTexts : Type 0 where
  pub three : report_text (report_of (served 1 0 1000 7500 ∷ served 2 6500 10000 19000 ∷ served 3 9500 12500 25500 ∷ []))
      ≡ codes "measure,wait,ride,total\ncount,3,3,3\nsum,7500,28500,36000\ngreatest,3500,13000,16000\np50,3000,9000,12500\np90,3500,13000,16000\np99,3500,13000,16000\nmean,2500/1,9500/1,12000/1\n"
  pub none : report_text (report_of [])
      ≡ codes "measure,wait,ride,total\ncount,0,0,0\nsum,0,0,0\ngreatest,0,0,0\np50,0,0,0\np90,0,0,0\np99,0,0,0\nmean,0/1,0/1,0/1\n"

-- The text of a report.
use Rattle.std.specs.Prelude.{ℕ, List, [], ◌∷◌, ◌++◌, decimal, codes}
use Rattle.search_model.specs.declared.ReportColumn.{ReportColumn}
use Rattle.search_model.specs.declared.Report.{Report}

-- four fields with commas between them, and a line feed
abbrev pub line_of : (measure wait ride total : List ℕ) → List ℕ
line_of measure wait ride total = measure ++ 44 ∷ wait ++ 44 ∷ ride ++ 44 ∷ total ++ 10 ∷ []

abbrev pub number_line : (measure : List ℕ) → (wait ride total : ℕ) → List ℕ
number_line measure wait ride total = line_of measure (decimal wait) (decimal ride) (decimal total)

-- the mean with a slash between its two numbers
abbrev pub mean_text : ReportColumn → List ℕ
mean_text column = decimal column.mean_over ++ 47 ∷ decimal column.mean_under

unfoldable pub report_text : Report → List ℕ
report_text report =
    line_of (codes "measure") (codes "wait") (codes "ride") (codes "total")
    ++ number_line (codes "count") report.wait.count report.ride.count report.total.count
    ++ number_line (codes "sum") report.wait.sum report.ride.sum report.total.sum
    ++ number_line (codes "greatest") report.wait.greatest report.ride.greatest report.total.greatest
    ++ number_line (codes "p50") report.wait.p50 report.ride.p50 report.total.p50
    ++ number_line (codes "p90") report.wait.p90 report.ride.p90 report.total.p90
    ++ number_line (codes "p99") report.wait.p99 report.ride.p99 report.total.p99
    ++ line_of (codes "mean") (mean_text report.wait) (mean_text report.ride) (mean_text report.total)

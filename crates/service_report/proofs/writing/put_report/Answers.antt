use Rattle.service_report.specs.ReportTexts.{report_text}
use Rattle.service_report.proofs.writing.put_report.Goals as goal

pub returns : goal.returns
unfolding report_text
returns c none =
    let names = c.in_ok-put_line.ensures _ none in
    let counts = c.in_ok-put_numbers.ensures _ names in
    let sums = c.in_ok-put_numbers-2.ensures _ counts in
    let greatest = c.in_ok-put_numbers-3.ensures _ sums in
    let p50 = c.in_ok-put_numbers-4.ensures _ greatest in
    let p90 = c.in_ok-put_numbers-5.ensures _ p50 in
    let p99 = c.in_ok-put_numbers-6.ensures _ p90 in
    c.in_ok-put_means.ensures _ p99

use Rattle.std.proofs.Common.{◌≡◌, None, subst}
use Rattle.lift_text.specs.LineReader.{text, failure}
use Rattle.lift_text.specs.Shows.{RawShows}
use Rattle.lift_text.proofs.ShowLemmas.{raw_shows}
use Rattle.lift_text.proofs.reader.LineReader.raw_line.Goals as goal

pub returns-clause-shows : goal.returns-clause-shows
returns-clause-shows g c =
    let read = c.raw_line.ensures in
    let page = c.self.inside.page in
    let left = g.S.Source.left in
    subst (λ r. failure r ≡ None → RawShows (text left r) c.raw_line.result c.raw_line.new.self.line (left c.raw_line.new.source)) c.self.view_is
    (λ none. raw_shows page c.raw_line.new.self read.taken.0 (left c.self.inside.source.now) (left c.raw_line.new.source) c.raw_line.result read.taken.1.given
    (read.next none) read.line_feed read.line read.at_end read.end)

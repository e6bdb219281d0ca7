use Rattle.std.proofs.Common.{◌≡◌, ◌++◌, None, subst}
use Rattle.lift_text.specs.LineReader.{text, failure}
use Rattle.lift_text.specs.Reading.{BadLineShows}
use Rattle.lift_text.specs.Shows.{LineShows}
use Rattle.lift_text.proofs.ShowLemmas.{line_shows}
use Rattle.lift_text.proofs.reader.LineReader.next_line.Goals as goal

pub returns-clause-shows : goal.returns-clause-shows
returns-clause-shows g c =
    let read = c.next_line.ensures in
    let page = c.self.inside.page in
    let left = g.S.Source.left in
    let taken = read.taken in
    subst (λ r. failure r ≡ None → LineShows (text left r) c.next_line.result c.next_line.new.self.line (left c.next_line.new.source)) c.self.view_is
    (λ none. line_shows page c.next_line.new.self taken.0 (left c.self.inside.source.now) (left c.next_line.new.source) c.next_line.result taken.1.given
    (subst (λ f. BadLineShows f c.next_line.result page.line (page.unread ++ taken.0) (left c.next_line.new.source)) none taken.3)
    (read.next none) read.line_feeds read.at_end read.end)

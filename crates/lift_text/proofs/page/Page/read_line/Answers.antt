use Rattle.std.proofs.Common.{◌+◌, ◌<◌, inr, length, drop, sym, ap, subst, ◌∙◌}
use Rattle.std.proofs.lemmas.List.{take-append-drop}
use Rattle.std.specs.Io.KnownBytes.{prepend_known}
use Rattle.lift_text.specs.Front.{NoLineFeed}
use Rattle.lift_text.specs.Page.{PageState, Advanced, ReadLine, limit_of, text_at}
use Rattle.lift_text.proofs.PageLemmas.{empty_front}
use Rattle.lift_text.proofs.ReadLemmas.{read_found}
use Rattle.lift_text.proofs.page.Page.read_line.Goals as goal

pub returns-in-Ok-Line-clause-ok : goal.returns-in-Ok-Line-clause-ok
returns-in-Ok-Line-clause-ok g c =
    let left = g.S.Source.left c.advance.new.source in
    let page = c.advance.new.self in
    let before = text_at c.args.self.now (g.S.Source.left c.args.source.now) in
    let found = subst (λ f. Advanced f before page.current (text_at page left)) c.in-Ok-Line.field-0-is c.in-Ok-Line.ensures.ok in
    let read = read_found before page.line (limit_of page)
    (prepend_known page.unread left) page.current c.in-Ok-Line.line c.in-Ok-Line.field-0-1 c.judge_line.result c.judge_line.new.self.words found
    c.judge_line.ensures.judged in
    subst (λ (p : PageState). ReadLine before c.judge_line.result c.judge_line.new.self.words (text_at p left)) (sym c.judge_line.ensures.same) read

pub returns-in-Ok-Long-clause-shows : goal.returns-in-Ok-Long-clause-shows
returns-in-Ok-Long-clause-shows g c =
    let page = c.self.inside in
    let bytes = page.window.unread in
    let after = rw c.in-Ok-Long.field-0-is at c.in-Ok-Long.ensures in
    let zero = empty_front page.size bytes c.self.invariant.size_within (ap (λ (p : PageState). p.current) c.self.view_is ∙ after.forward.1) in
    let same = sym (ap (λ (p : PageState). p.unread) c.self.view_is) ∙ ap (λ n. drop n bytes) zero ∙ sym (take-append-drop (page.size + 4098) bytes) in (
      ap (λ (p : PageState). p.line + 1) c.self.view_is ∙ ap (λ n. n + 1) after.forward.0,
      inr (inr (subst (λ l. NoLineFeed l × (4097 < length l)) same after.shows)),
    )

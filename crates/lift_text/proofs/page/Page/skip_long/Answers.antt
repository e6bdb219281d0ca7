use Rattle.std.proofs.Common.{◌≡◌, ◌+◌, Ok, Err, None, length, take, drop, arith, ap, sym, subst, ◌∙◌, refl}
use Rattle.std.specs.Io.KnownBytes.{prepend_known}
use Rattle.lift_text.specs.Front.{SkippedIn}
use Rattle.lift_text.specs.Page.{PageState, SkippedLine, text_at}
use Rattle.lift_text.specs.Reading.{HaveLineFeeds}
use Rattle.lift_text.specs.declared.faults.RawLine.TheVariants.{Long}
use Rattle.lift_text.specs.declared.faults.TextFault.TheVariants.{TooLong}
use Rattle.lift_text.proofs.PageLemmas.{state, empty_front}
use Rattle.lift_text.proofs.EndLemmas.{first_feed}
use Rattle.lift_text.proofs.SkipLemmas.{skipped_text, cut_text}
use Rattle.lift_text.proofs.page.Page.skip_long.Goals as goal

pub returns-in-Ok-Whole-clause-skipped : goal.returns-in-Ok-Whole-clause-skipped
returns-in-Ok-Whole-clause-skipped g c =
    let left = g.S.Source.left in
    let page = c.self.inside in
    let before = left c.args.source.now in
    let zero = empty_front page.size page.window.unread c.self.invariant.size_within (ap (λ (p : PageState). p.current) c.self.view_is ∙ c.requires.current) in
    let window = c.skip_line.new.self in
    let after = left c.skip_line.new.source in
    let start = page.window.unread in
    let skipped = subst
    (λ f. SkippedIn f (prepend_known start before) (page.window.quota + length start) window.unread after window.quota) c.in-Ok-Whole.field-0-is
    c.in-Ok-Whole.ensures.ok in
    let passed = skipped_text page.line (page.window.quota + length start) window.quota (prepend_known start before) window.unread after skipped in
    subst (λ (p : PageState).
    SkippedLine (text_at p before) (Ok Long)
    (state (page.line + 1) (window.quota + length (drop page.size window.unread)) (prepend_known (drop page.size window.unread) after))) c.self.view_is
    (subst (λ n. SkippedLine (state page.line (page.window.quota + length (drop n start)) (prepend_known (drop n start) before)) (Ok Long)
    (state (page.line + 1) (window.quota + length (drop n window.unread)) (prepend_known (drop n window.unread) after))) (sym zero) passed)

pub returns-in-Ok-Cut-clause-skipped : goal.returns-in-Ok-Cut-clause-skipped
returns-in-Ok-Cut-clause-skipped g c =
    let page = c.self.inside in
    let before = g.S.Source.left c.args.source.now in
    let start = page.window.unread in
    let limit = page.window.quota + length start in
    let window = c.skip_line.new.self in
    let after = g.S.Source.left c.skip_line.new.source in
    let zero = empty_front page.size start c.self.invariant.size_within (ap (λ (p : PageState). p.current) c.self.view_is ∙ c.requires.current) in
    let skipped = subst (λ f. SkippedIn f (prepend_known start before) limit window.unread after window.quota) c.in-Ok-Cut.field-0-is c.in-Ok-Cut.ensures.ok in
    let cut = cut_text page.line limit window.quota (prepend_known start before) window.unread after None skipped in
    subst (λ (p : PageState). SkippedLine (text_at p before) (Err TooLong) None) c.self.view_is
    (subst (λ n. SkippedLine (state page.line (page.window.quota + length (drop n start)) (prepend_known (drop n start) before)) (Err TooLong) None)
    (sym zero) cut)

pub returns-in-Err-clause-raw : goal.returns-in-Err-clause-raw
returns-in-Err-clause-raw g c =
    let page = c.self.inside in
    let zero = empty_front page.size page.window.unread c.self.invariant.size_within (ap (λ (p : PageState). p.current) c.self.view_is ∙ c.requires.current) in
    let none : page.raw ≡ 0 = omega (arith, zero, c.self.invariant.raw_within) in
    ap (λ n. take n c.skip_line.new.self.unread) none

pub returns-in-Ok-Whole-clause-line_feed : goal.returns-in-Ok-Whole-clause-line_feed
returns-in-Ok-Whole-clause-line_feed g c =
    let page = c.self.inside in
    let before = g.S.Source.left c.args.source.now in
    let start = page.window.unread in
    let ended = c.skip_line.new.self.ended in
    let zero = empty_front page.size start c.self.invariant.size_within (ap (λ (p : PageState). p.current) c.self.view_is ∙ c.requires.current) in
    let skipped = rw c.in-Ok-Whole.field-0-is at c.in-Ok-Whole.ensures in
    let feed = first_feed page.line (page.window.quota + length start) (prepend_known start before) ended (skipped.line_feed refl) in
    subst (λ (p : PageState). HaveLineFeeds (text_at p before) 1 ended) c.self.view_is
    (subst (λ n. HaveLineFeeds (state page.line (page.window.quota + length (drop n start)) (prepend_known (drop n start) before)) 1 ended) (sym zero) feed)

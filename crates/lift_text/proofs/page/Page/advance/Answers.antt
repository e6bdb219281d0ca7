use Rattle.std.proofs.Common.{◌≤◌, All, rules, length-drop, ◌≡◌, ◌+◌, [], length, take, drop, arith, sym, ap, subst, ◌∙◌}
use Rattle.std.proofs.lemmas.List.{length-take-le}
use Rattle.std.specs.Io.KnownBytes.{prepend_known}
use Rattle.lift_text.specs.Lines.{HasWholeLine}
use Rattle.lift_text.specs.Words.{parts_of}
use Rattle.lift_text.specs.Front.{FoundIn, FoundShows}
use Rattle.lift_text.specs.Page.{PageState, Advanced, limit_of, text_at}
use Rattle.lift_text.specs.declared.window.Front.TheVariants.{Line, End}
use Rattle.lift_text.proofs.PageLemmas.{state, advanced_line, advanced_other, empty_front, no_parts, nothing_behind, forward_other, at_end, no_other_whole}
use Rattle.lift_text.proofs.PageLemmas.{current_one_other}
use Rattle.lift_text.proofs.EndLemmas.{gathered_same, line_ends_other}
use Rattle.lift_text.proofs.page.Page.advance.Goals as goal

pub returns-in-Line-clause-ok : goal.returns-in-Line-clause-ok
returns-in-Line-clause-ok g c =
    let left = g.S.Source.left in
    let page = c.self.inside in
    let window = c.find.new.self in
    let line = c.in-Line.line in
    let size = c.in-Line.size in
    let before = left c.args.source.now in
    let zero = empty_front page.size page.window.unread c.self.invariant.size_within (ap (λ (p : PageState). p.current) c.self.view_is ∙ c.requires.current) in
    let found = subst (λ f. FoundIn f (prepend_known page.window.unread before) window.unread (left c.find.new.source) window.quota) c.in-Line.is
    c.in_ok-found.ensures.ok in
    let after = state (page.line + 1) (window.quota + length (drop size window.unread)) (prepend_known (drop size window.unread) (left c.find.new.source)) in
    let known = advanced_line page.line page.window.quota window.quota page.window.unread window.unread before
    (left c.find.new.source) line size found c.in_ok-found.ensures.quota in
    subst (λ (p : PageState). Advanced (Line line size) (text_at p before) (take size window.unread) after) c.self.view_is
    (nothing_behind (Line line size) page.line page.window.quota page.size page.window.unread before (take size window.unread) after zero known)

pub invariant_of-self-in-Line : goal.invariant_of-self-in-Line
invariant_of-self-in-Line g c =
    let page = c.self.inside in
    let window = c.find.new.self in
    let size = c.in-Line.size in
    let before = prepend_known page.window.unread (g.S.Source.left c.args.source.now) in
    let zero = empty_front page.size page.window.unread c.self.invariant.size_within (ap (λ (p : PageState). p.current) c.self.view_is ∙ c.requires.current) in
    let none = no_parts page.window.unread page.spans.items (ap (λ (p : PageState). p.words) c.self.view_is ∙ c.requires.words) in
    let found = subst (λ f. FoundIn f before window.unread (g.S.Source.left c.find.new.source) window.quota) c.in-Line.is c.in_ok-found.ensures.ok in
    record {
      size_within = found.3;
      raw_within = omega (arith, c.self.invariant.raw_within);
      words_within = subst (All (λ span. (span.start ≤ span.end) × (span.end ≤ size))) (sym none) (search rules);
      few = c.self.invariant.few;
      room = c.self.invariant.room;
      counted = omega (
        arith,
        c.self.invariant.counted,
        c.in_ok-found.ensures.quota,
        found.2,
        found.3,
        length-drop size window.unread,
        length-drop page.size page.window.unread,
      );
    }

pub returns-in-Line-clause-forward : goal.returns-in-Line-clause-forward
returns-in-Line-clause-forward g c =
    let page = c.self.inside in
    let window = c.find.new.self in
    let size = c.in-Line.size in
    let before = prepend_known page.window.unread (g.S.Source.left c.args.source.now) in
    let zero = empty_front page.size page.window.unread c.self.invariant.size_within (ap (λ (p : PageState). p.current) c.self.view_is ∙ c.requires.current) in
    let found = subst (λ f. FoundIn f before window.unread (g.S.Source.left c.find.new.source) window.quota) c.in-Line.is c.in_ok-found.ensures.ok in (
      omega (arith, found.1, length-take-le size window.unread found.3),
      ap (λ (p : PageState). p.line + 1) c.self.view_is,
      omega (
        arith,
        ap limit_of c.self.view_is,
        c.in_ok-found.ensures.quota,
        found.2,
        found.3,
        length-drop size window.unread,
        length-drop page.size page.window.unread,
      ),
    )

pub returns-in_default : goal.returns-in_default
returns-in_default g c =
    let left = g.S.Source.left in
    let page = c.self.inside in
    let window = c.find.new.self in
    let before = left c.args.source.now in
    let zero = empty_front page.size page.window.unread c.self.invariant.size_within (ap (λ (p : PageState). p.current) c.self.view_is ∙ c.requires.current) in
    let none = no_parts page.window.unread page.spans.items (ap (λ (p : PageState). p.words) c.self.view_is ∙ c.requires.words) in
    let found = c.in_ok-found.found in
    let after = state page.line (window.quota + length window.unread) (prepend_known window.unread (left c.find.new.source)) in
    let known = advanced_other found page.line page.window.quota window.quota page.window.unread window.unread before
    (left c.find.new.source) c.in_default.not-Line c.in_ok-found.ensures.ok c.in_ok-found.ensures.quota [] in
    let no_raw : page.raw ≡ 0 = omega (arith, c.self.invariant.raw_within) in
    let whole = subst (λ (p : PageState). Advanced found (text_at p before) [] after) c.self.view_is
    (nothing_behind found page.line page.window.quota page.size page.window.unread before [] after zero known) in
    record {
      words = ap (parts_of window.unread) none;
      raw = ap (λ n. take n window.unread) no_raw;
      failure = ap (λ (p : PageState). p.failure) c.self.view_is;
      ok = subst (λ n. Advanced found (text_at c.args.self.now before) (take n window.unread)
          (state page.line (window.quota + length (drop n window.unread)) (prepend_known (drop n window.unread) (left c.find.new.source)))) (sym zero) whole;
      forward = forward_other found c.args.self.now _ _ (left c.find.new.source) window.quota c.in_default.not-Line
          (ap (λ (p : PageState). p.line) c.self.view_is)
          (ap (λ n. take n window.unread) zero)
          (subst (λ n. FoundIn found (prepend_known page.window.unread before) (drop n window.unread) (left c.find.new.source) window.quota)
          (sym zero) c.in_ok-found.ensures.ok);
      taken = (
        c.in_ok-found.ensures.taken.0,
        gathered_same _ _ _ page.size _ _ _ _ _ _ _ c.in_ok-found.ensures.taken.1
            (sym (ap (λ (p : PageState). p.quota) c.self.view_is))
            (sym (ap (λ (p : PageState). p.unread) c.self.view_is) ∙ ap (λ n. drop n page.window.unread) zero),
      );
      shows = line_ends_other found _ c.in_default.not-Line
          (subst (λ n. FoundShows found (drop n window.unread) window.ended) (sym zero) c.in_ok-found.ensures.shows);
      unasked = λ has. absurd (no_other_whole found window.unread c.in_default.not-Line
          (c.in_ok-found.ensures.unasked
          (subst HasWholeLine (sym (ap (λ (p : PageState). p.unread) c.self.view_is) ∙ ap (λ n. drop n page.window.unread) zero) has)).2);
      one = current_one_other found _ c.in_default.not-Line;
      none = tt;
      end = λ is. (let same : found ≡ End = cc in at_end found _ _ _ _ c.in_ok-found.ensures.ok same);
      at_end = c.in_ok-found.ensures.at_end;
      stays_ended = λ was. c.in_ok-found.ensures.stays_ended (ap (λ (p : PageState). p.ended) c.self.view_is ∙ was);
      ended = c.in_ok-found.ensures.ended;
      not_ended = tt;
      counted = omega arith;
      fault = tt;
    }

pub returns-in-Line-clause-taken : goal.returns-in-Line-clause-taken
returns-in-Line-clause-taken g c =
    let page = c.self.inside in
    let zero = empty_front page.size page.window.unread c.self.invariant.size_within (ap (λ (p : PageState). p.current) c.self.view_is ∙ c.requires.current) in
    let found = rw c.in-Line.is at c.in_ok-found.ensures in (
      found.taken.0,
      gathered_same _ _ _ c.in-Line.size _ _ _ _ _ _ _ found.taken.1
          (sym (ap (λ (p : PageState). p.quota) c.self.view_is))
          (sym (ap (λ (p : PageState). p.unread) c.self.view_is) ∙ ap (λ n. drop n page.window.unread) zero),
    )

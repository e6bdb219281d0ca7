use Rattle.std.proofs.Common.{◌≡◌, ◌≤◌, length, take, arith, sym, ap, subst, length-take, []}
use Rattle.std.proofs.lemmas.List.{take-take}
use Rattle.lift_text.specs.Words.{parts_of}
use Rattle.lift_text.specs.Judge.{Judged}
use Rattle.lift_text.specs.Page.{PageState, JudgedAs}
use Rattle.lift_text.proofs.WordLemmas.{parts_of-take, within_le}
use Rattle.lift_text.proofs.ReadLemmas.{judged_as, on_err_more}
use Rattle.lift_text.proofs.page.Page.judge_line.Goals as goal

pub returns-clause-judged : goal.returns-clause-judged
returns-clause-judged c =
    let page = c.self.inside in
    let window = page.window.unread in
    let count = c.args.count in
    let judgement = c.judge-judgement.result in
    let spans = c.judge-judgement.new.spans.items in
    let text = take count window in
    let value = c.unread.ensures.value in
    let within : count ≤ page.size = omega (arith, c.requires.within, ap (λ (p : PageState). length p.current) c.self.view_is, length-take page.size window) in
    let short : length text ≤ count = omega (arith, length-take count window) in
    let inside = rw value at c.judge-judgement.ensures.inside in
    let same = parts_of-take count window spans (within_le (length text) count spans short inside) in
    let judged = subst (λ words. Judged text judgement words) same
    (subst (λ bytes. Judged (take count bytes) judgement (parts_of (take count bytes) spans)) value c.judge-judgement.ensures.judged) in
    let none = on_err_more judgement _ (parts_of window spans ≡ []) c.judge-judgement.ensures.err (ap (parts_of window)) in
    let step = subst (λ r. JudgedAs page.line text r (parts_of window spans)) (sym c.step_of.ensures.value)
    (judged_as page.line text judgement (parts_of window spans) judged none) in
    subst (λ (p : PageState). JudgedAs p.line (take count p.current) c.step_of.result (parts_of window spans)) c.self.view_is
    (subst (λ t. JudgedAs page.line t c.step_of.result (parts_of window spans)) (sym (take-take count page.size window within)) step)

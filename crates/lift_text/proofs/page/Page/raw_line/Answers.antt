use Rattle.std.proofs.Common.{[], ap, sym, subst, ◌∙◌, refl}
use Rattle.byte_streams.specs.Streams.{Took}
use Rattle.lift_text.specs.Lines.{HasWholeLine}
use Rattle.lift_text.specs.Page.{PageState}
use Rattle.lift_text.proofs.TakenLemmas.{took_nothing}
use Rattle.lift_text.proofs.page.Page.raw_line.Goals as goal

pub returns-in-Some-clause-taken : goal.returns-in-Some-clause-taken
returns-in-Some-clause-taken g c =
    let page = c.args.self.now in
    let left = g.S.Source.left c.args.source.now in
    let failed = sym (ap (λ (p : PageState). p.failure) c.clear.ensures) ∙ sym (ap (λ (p : PageState). p.failure) c.self.view_is) ∙ c.in-Some.is in
    rw failed (
      [],
      subst (λ quota. Took 0 page.quota quota [] left left) (sym (ap (λ (p : PageState). p.quota) c.clear.ensures)) (took_nothing page.quota left),
      refl,
      λ is. absurd cc,
    )

pub returns-in-Err-clause-unasked : goal.returns-in-Err-clause-unasked
returns-in-Err-clause-unasked g c =
    λ has. c.read_raw-result.ensures.unasked (subst HasWholeLine (sym (ap (λ (p : PageState). p.unread) c.clear.ensures)) has)

use Rattle.std.proofs.Common.{◌++◌, take, ap, arith, ◌∙◌}
use Rattle.std.specs.Prelude.{slice_range}
use Rattle.std.proofs.lemmas.List.{length-take-le}
use Rattle.lift_text.specs.Window.{WindowState}
use Rattle.lift_text.proofs.WindowLemmas.{slice_range-written}
use Rattle.lift_text.proofs.window.Window.read_more.Goals as goal

pub returns-clause-ok : goal.returns-clause-ok
returns-clause-ok g c =
    let count = c.in_ok-count.count in
    let into = c.read.new.into in
    let bound = c.in_ok-count.ensures.bound in
    let start = c.self.inside.start in
    let end = c.self.inside.end in
    let bytes = c.deref_mut.result.now in
    let part = c.read.auto.into in
    let unread = slice_range-written bytes into _ _ start end count c.self.inside.bytes.len (omega arith) (omega arith) bound (omega arith) in (
      take count into,
      length-take-le count into bound,
      unread ∙ ap (λ l. slice_range l start end ++ take count into) c.deref_mut.ensures.value
          ∙ ap (λ (w : WindowState). w.unread ++ take count into) c.self.view_is,
      c.in_ok-count.ensures.given,
    )

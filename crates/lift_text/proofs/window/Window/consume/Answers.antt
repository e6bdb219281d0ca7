use Rattle.std.proofs.Common.{ap, ◌∙◌, drop}
use Rattle.lift_text.specs.Window.{WindowState}
use Rattle.lift_text.proofs.WindowLemmas.{slice_range-drop}
use Rattle.lift_text.proofs.window.Window.consume.Goals as goal

pub returns-clause-unread : goal.returns-clause-unread
returns-clause-unread c =
    slice_range-drop c.self.inside.bytes.items c.self.inside.start c.self.inside.end c.args.count
    ∙ ap (λ (w : WindowState). drop c.args.count w.unread) c.self.view_is

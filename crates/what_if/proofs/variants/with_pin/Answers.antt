use Rattle.std.proofs.Common.{sym, subst, ap, ◌∙◌}
use Rattle.elevator_model.specs.Snapshot.{IsAccepted}
use Rattle.what_if.specs.WhatIf.{with_calls}
use Rattle.what_if.proofs.VariantLaws.{pin-accepted}
use Rattle.what_if.proofs.variants.with_pin.Goals as goal

pub of_accepted-requires : goal.of_accepted-requires
of_accepted-requires c =
    let s = c.args.snapshot.now in
    subst IsAccepted (sym (c.in_ok-parts.ensures ∙ ap (with_calls s) c.in_ok-calls.ensures.calls))
    (pin-accepted s c.args.car c.calls_with_pin.ensures.accepted c.requires.last c.requires.takes)

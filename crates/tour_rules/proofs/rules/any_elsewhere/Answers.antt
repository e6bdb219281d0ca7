use Rattle.std.proofs.Common.{◌==◌, ◌&&◌, not, sym, ap, length, arith}
use Rattle.std.proofs.lemmas.Bool.{and_from, ne_eqb}
use Rattle.call_sets.specs.Counting.{has}
use Rattle.tour_rules.specs.Places.{call_in}
use Rattle.call_sets.proofs.BelowTests.{any_below-at}
use Rattle.tour_rules.proofs.rules.any_elsewhere.Goals as goal

pub returns-then-call-floor : goal.returns-then-call-floor
returns-then-call-floor c =
    sym (any_below-at (length c.args.calls.now) (λ j. has c.args.boards j && not ((call_in c.args.calls.now j).origin == c.args.floor)) c.loop-j.j
    (omega arith) (and_from _ _ (sym c.if-contains.ensures) (ap not (ne_eqb _ _ c.if-call-floor.true))))

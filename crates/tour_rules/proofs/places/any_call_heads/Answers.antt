use Rattle.std.proofs.Common.{sym, length, arith}
use Rattle.std.proofs.lemmas.Bool.{and_from}
use Rattle.tour_rules.specs.Places.{call_heads}
use Rattle.call_sets.proofs.BelowTests.{any_below-at}
use Rattle.tour_rules.proofs.places.any_call_heads.Goals as goal

pub returns-then-includes : goal.returns-then-includes
returns-then-includes c =
    sym (any_below-at (length c.args.calls.now) (call_heads c.args.calls.now c.args.set c.args.heading) c.loop-j.j (omega arith)
    (and_from _ _ (sym c.if-contains.ensures) (sym c.if-includes.ensures)))

use Rattle.std.proofs.Common.{◌==◌, ◌&&◌, ◌||◌, sym, arith, count_by}
use Rattle.std.specs.Prelude.{nat_le}
use Rattle.std.proofs.lemmas.Bool.{and_from}
use Rattle.call_sets.specs.Counting.{has}
use Rattle.call_sets.proofs.BelowTests.{any_below-at}
use Rattle.tour_rules.proofs.rules.any_twice.Goals as goal

pub returns-then-is_again : goal.returns-then-is_again
returns-then-is_again c =
    sym (any_below-at (c.args.calls)
    (λ j. has c.args.set j && ((has c.args.boarded j || has c.args.taken j) || nat_le 2 (count_by (λ x. x == j) c.args.boards.now))) c.loop-j.j
    (omega arith) (and_from _ _ (sym c.if-contains.ensures) (sym c.if-is_again.ensures)))

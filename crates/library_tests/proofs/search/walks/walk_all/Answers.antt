use Rattle.std.proofs.Common.{subst, sym}
use Rattle.elevator_model.specs.Partial.{course_of}
use Rattle.search_model.specs.Orders.{AreAllowed}
use Rattle.call_sets.specs.Counting.{has}
use Rattle.partial_tours.proofs.Follow.{is_some_has}
use Rattle.library_tests.proofs.search.walks.walk_all.Goals as goal

pub visit-requires-clause-kept : goal.visit-requires-clause-kept
visit-requires-clause-kept c =
    let t = c.args.prefix.now in
    let led = is_some_has (course_of t.snapshot t.car t.moves) c.moves-lawful.ensures.lawful in
    record {
      for_it = c.requires.for_it;
      at = led.0;
      leads = led.1;
      stands = c.start-sums.ensures led.0 led.1;
      may =
          subst (AreAllowed (has c.args.rides.now.allowed)) (sym c.requires.empty) tt;
    }

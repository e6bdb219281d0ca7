-- No car so far gives a reason, and the desk still holds the leaf.
use Rattle.std.proofs.Common.{◌≡◌, None}
use Rattle.search_model.specs.Verdicts.{reason_of_cars}
use Rattle.kept_tours.specs.Counting.{Holds}
use Rattle.cert_checker.proofs.leaves.judge_cars.Given as goal

abbrev pub invariant-loop-car : goal.invariant-loop-car
invariant-loop-car l = record {
  same : l.desk.snapshot.now ≡ l.initial.desk.snapshot.now;
  holds : Holds l.leaf l.desk;
  clear : reason_of_cars l.initial.desk.snapshot.now l.number l.node l.leaf l.car ≡ None;
}

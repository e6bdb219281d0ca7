use Rattle.std.proofs.Common.{◌≡◌, ◌<◌, ◌+◌, ℕ, length}
use Rattle.std.specs.Prelude.{slice_index_or}
use Rattle.kept_tours.specs.Counting.{Holds}
use Rattle.cert_claims.specs.Due.{claim_due}
use Rattle.cert_claims.specs.Leaves.{extra_of_cars, leaf_of}
use Rattle.cert_claims.proofs.leaves.claims_within.Given as goal

abbrev pub invariant-loop-car : goal.invariant-loop-car
invariant-loop-car l = record {
  snapshot : l.desk.snapshot.now ≡ l.fn.desk.snapshot.now;
  holds : Holds l.leaf l.desk;
  room : length l.by_car ≡ 16;
  due : (c : ℕ) → c < l.car → slice_index_or l.by_car c 0 ≡ claim_due l.fn.desk.snapshot.now l.node l.leaf c;
  left_is : extra_of_cars l.fn.desk.snapshot.now (leaf_of l.node l.leaf) l.car + l.left ≡ l.spare;
}

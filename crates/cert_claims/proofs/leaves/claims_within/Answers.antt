use Rattle.std.proofs.Common.{◌≡◌, ◌<◌, ◌∙◌, ap, arith, length, refl, rules, subst, sym}
use Rattle.std.proofs.lemmas.List.{length-set}
use Rattle.elevator_model.specs.Snapshot.{car_count}
use Rattle.kept_tours.proofs.LeafLemmas.{cars_few}
use Rattle.cert_claims.specs.Leaves.{AreClaimsWithin, IsClaimWithin, extra_of_cars, leaf_of}
use Rattle.cert_claims.proofs.CarLemmas.{claim_here, more_due, more_left, past}
use Rattle.cert_claims.proofs.leaves.claims_within.Goals as goal

pub loop-car-init : goal.loop-car-init
loop-car-init c = record {
  snapshot = c.lay_out.ensures.snapshot;
  holds = c.lay_out.ensures.holds;
  room = refl;
  due = λ k lt. absurd (omega (arith, lt));
  left_is = omega arith;
}

pub returns-in_err-claim-clause-within : goal.returns-in_err-claim-clause-within
returns-in_err-claim-clause-within c =
    let s = c.args.desk.now.snapshot.now in
    let node = c.args.node.now in
    let leaf = c.args.leaf.now in
    let here = claim_here s c.loop-car.desk.snapshot.now node leaf c.loop-car.left c.loop-car.car c.claim_within.result c.loop-car.invariant.snapshot
    (c.claim_within.ensures.claim leaf c.loop-car.invariant.holds) c.requires.leaf.worths in
    let over = subst (IsClaimWithin s c.loop-car.left (leaf_of node leaf) c.loop-car.car) c.in_err-claim.was here in
    let lt : c.loop-car.car < car_count s = search rules in
    subst (AreClaimsWithin s c.args.spare (leaf_of node leaf)) (sym c.from_residual.ensures)
    (past s (leaf_of node leaf) c.loop-car.car c.loop-car.left c.args.spare lt c.loop-car.invariant.left_is over)

pub overflow_sub-left : goal.overflow_sub-left
overflow_sub-left c =
    let s = c.args.desk.now.snapshot.now in
    let node = c.args.node.now in
    let leaf = c.args.leaf.now in
    let here = claim_here s c.loop-car.desk.snapshot.now node leaf c.loop-car.left c.loop-car.car c.claim_within.result c.loop-car.invariant.snapshot
    (c.claim_within.ensures.claim leaf c.loop-car.invariant.holds) c.requires.leaf.worths in
    let within = subst (IsClaimWithin s c.loop-car.left (leaf_of node leaf) c.loop-car.car) c.in_ok-claim.was here in
    let due = within.0 in
    omega (arith, due)

pub overflow_sub-left-in-loop-car : goal.overflow_sub-left-in-loop-car
overflow_sub-left-in-loop-car c =
    let s = c.args.desk.now.snapshot.now in
    let node = c.args.node.now in
    let leaf = c.args.leaf.now in
    let here = claim_here s c.loop-car.desk.snapshot.now node leaf c.loop-car.left c.loop-car.car c.claim_within.result c.loop-car.invariant.snapshot
    (c.claim_within.ensures.claim leaf c.loop-car.invariant.holds) c.requires.leaf.worths in
    let within = subst (IsClaimWithin s c.loop-car.left (leaf_of node leaf) c.loop-car.car) c.in_ok-claim.was here in
    let few = within.1 in
    omega (arith, few)

pub loop-car-preserved : goal.loop-car-preserved
loop-car-preserved c =
    let s = c.args.desk.now.snapshot.now in
    let node = c.args.node.now in
    let leaf = c.args.leaf.now in
    let at = leaf_of node leaf in
    let inv = c.loop-car.invariant in
    let here = claim_here s c.loop-car.desk.snapshot.now node leaf c.loop-car.left c.loop-car.car c.claim_within.result inv.snapshot
    (c.claim_within.ensures.claim leaf inv.holds) c.requires.leaf.worths in
    let within = subst (IsClaimWithin s c.loop-car.left at c.loop-car.car) c.in_ok-claim.was here in
    let lt : c.loop-car.car < car_count s = search rules in
    let few = cars_few s c.calls-calls.ensures.accepted in
    let room : c.loop-car.car < length c.loop-car.by_car = (let is = inv.room in omega (arith, is, few, lt)) in
    record {
      snapshot = c.claim_within.ensures.snapshot ∙ inv.snapshot;
      holds = c.claim_within.ensures.stays leaf inv.holds;
      room = length-set c.loop-car.by_car c.loop-car.car c.in_ok-claim.claim ∙ inv.room;
      due = more_due s at c.loop-car.car c.in_ok-claim.claim c.loop-car.by_car room within.0 inv.due;
      left_is = more_left s at c.loop-car.car c.loop-car.left c.args.spare c.in_ok-claim.claim inv.left_is within.0 within.1;
    }

pub returns : goal.returns
returns c =
    let s = c.args.desk.now.snapshot.now in
    let inv = c.loop-car.invariant in
    let at = leaf_of c.args.node.now c.args.leaf.now in
    let all : c.loop-car.car ≡ car_count s = search rules in
    let sum = inv.left_is in
    let whole = ap (extra_of_cars s at) all in
    record {
      snapshot = inv.snapshot;
      within = (record { due = λ k lt. inv.due k (omega (arith, lt, all)); extra = omega (arith, sum, whole) }, omega arith);
    }

use Rattle.std.proofs.Common.{◌≡◌, ◌*◌, drop, length, map, rules, subst, take, false, true}
use Rattle.cert_claims.specs.Leaves.{HasTaken, HasTakenAll, leaf_at}
use Rattle.cert_claims.proofs.CountLemmas.{group_past, group_taken, taken_few}
use Rattle.cert_claims.proofs.counting.count_all.Goals as goal

pub returns-then-not-branch : goal.returns-then-not-branch
returns-then-not-branch g c =
    let s = c.args.snapshot.now in
    let tasks = c.args.tasks.now in
    let now = c.loop-tally.tally in
    let some = c.next_tasks-some.result.now in
    let n = length now.claims.items in
    let step = 4 * length c.args.desks.now in
    let is : some ≡ take step (drop n tasks) = search rules in
    let answer : c.in_ok-count_some.field-0 ≡ false = search rules in
    let over = subst (HasTaken s (map leaf_at some) now c.count_some.new.tally) answer c.in_ok-count_some.ensures.taken in
    group_past s tasks some c.args.tally.now now n step is c.loop-tally.invariant.taken over

pub loop-tally-preserved : goal.loop-tally-preserved
loop-tally-preserved g c =
    let s = c.args.snapshot.now in
    let tasks = c.args.tasks.now in
    let now = c.loop-tally.tally in
    let some = c.next_tasks-some.result.now in
    let n = length now.claims.items in
    let step = 4 * length c.args.desks.now in
    let is : some ≡ take step (drop n tasks) = search rules in
    let answer : c.in_ok-count_some.field-0 ≡ true = search rules in
    let next : HasTakenAll s (map leaf_at some) now c.count_some.new.tally =
    subst (HasTaken s (map leaf_at some) now c.count_some.new.tally) answer c.in_ok-count_some.ensures.taken in
    let taken = group_taken s tasks some c.args.tally.now now n step is c.loop-tally.invariant.taken c.count_some.new.tally c.requires.none next in
    record {
      desks = c.in_ok-count_some.ensures.desks;
      workers = search rules;
      within = taken_few s tasks c.args.tally.now c.count_some.new.tally c.requires.none taken;
      taken = taken;
    }

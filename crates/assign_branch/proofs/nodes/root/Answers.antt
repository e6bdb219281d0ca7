use Rattle.std.proofs.Common.{◌≡◌, ℕ, ◌<◌, ◌^◌, sym, ap, ◌∙◌, subst, arith, length, List}
use Rattle.elevator_model.specs.Snapshot.{call_count}
use Rattle.search_model.specs.Nodes.{IsNodeOf, root_of, set_of}
use Rattle.search_model.proofs.SnapshotNodes.{root_is_node}
use Rattle.assign_branch.proofs.RootLemmas.{root-next, root-all, root_small}
use Rattle.assign_branch.proofs.nodes.root.Goals as goal

-- the loop has gone through all calls
sets_are : (c : goal.After-loop-call) → c.loop-call.sets.items ≡ root_of c.args.snapshot.now
sets_are c =
    root-all c.args.snapshot.now c.loop-call.sets.items c.loop-call.call (let same = ap length c.calls-calls.ensures.value in omega arith) c.loop-call.invariant

pub loop-call-preserved : goal.loop-call-preserved
loop-call-preserved c =
    let within : c.loop-call.call < call_count c.args.snapshot.now = let same = ap length c.calls-calls.ensures.value in omega arith in
    rw c.in_ok-push.ensures.items
    (root-next c.args.snapshot.now c.loop-call.sets.items c.loop-call.call c.possible.result within c.possible.ensures.cars c.loop-call.invariant)

pub of_sets-requires-clause-cars : goal.of_sets-requires-clause-cars
of_sets-requires-clause-cars c j =
    subst (λ (sets : List ℕ). set_of sets j < 2 ^ 16) (sym (sets_are c)) (root_small c.args.snapshot.now j c.calls-calls.ensures.accepted)

pub returns-clause-root : goal.returns-clause-root
returns-clause-root c =
    c.of_sets.ensures ∙ root-all c.args.snapshot.now c.loop-call.sets.items c.loop-call.call
    (let same = ap length c.calls-calls.ensures.value in omega arith) c.loop-call.invariant

pub returns-clause-node : goal.returns-clause-node
returns-clause-node c =
    subst (IsNodeOf c.args.snapshot.now) (sym (returns-clause-root c)) (root_is_node c.args.snapshot.now c.calls-calls.ensures.accepted)

use Rattle.std.proofs.Common.{◌≡◌, rules, subst, sym, refl}
use Rattle.std.specs.Prelude.{All}
use Rattle.cert_claims.specs.Leaves.{IsProvedTree}
use Rattle.cert_claims.specs.Lowered.{CanBeLowered}
use Rattle.cert_claims.specs.Lowering.{lowered_tree}
use Rattle.cert_claims.proofs.StatingLemmas.{can_be, lowered_proved, tried_beyond, tried_within}
use Rattle.cert_claims.proofs.stating.claimed_at.Goals as goal

pub lowered_tree-requires : goal.lowered_tree-requires
lowered_tree-requires g c =
    let same : c.args.tree.now.twigs ≡ c.as_slice.result.now = search rules in
    record {
      can = subst (All (CanBeLowered c.args.bound)) same
          (can_be c.args.snapshot.now c.calls-calls.ensures.accepted c.args.bound c.args.tree.now.twigs c.requires.tree);
    }

pub claims_of-requires-clause-proved : goal.claims_of-requires-clause-proved
claims_of-requires-clause-proved g c =
    let e : c.in_ok-lowered.lowered.twigs ≡ lowered_tree c.args.bound c.args.tree.now.twigs = search rules in
    subst (IsProvedTree c.args.snapshot.now) (sym e)
    (lowered_proved c.args.snapshot.now c.calls-calls.ensures.accepted c.args.bound c.args.tree.now.twigs c.requires.tree)

pub returns-in-None : goal.returns-in-None
returns-in-None g c =
    let e : c.in_ok-lowered.lowered.twigs ≡ lowered_tree c.args.bound c.args.tree.now.twigs = search rules in
    let over = rw e at (rw c.in-None.is at c.in_ok-all.ensures) in
    tried_beyond c.args.snapshot.now c.calls-calls.ensures.accepted c.args.bound c.args.tree.now.twigs c.requires.tree c.args.limit over

pub returns-in_ok-write_claims-in-Some : goal.returns-in_ok-write_claims-in-Some
returns-in_ok-write_claims-in-Some g c =
    let e : c.in_ok-lowered.lowered.twigs ≡ lowered_tree c.args.bound c.args.tree.now.twigs = search rules in
    let within = rw e at (rw c.in-Some.is at c.in_ok-all.ensures) in
    let is = rw e at (rw c.as_slice-in-Some.ensures.value at c.in_ok-write_claims-in-Some.ensures) in
    tried_within c.args.snapshot.now c.calls-calls.ensures.accepted c.args.bound c.args.tree.now.twigs c.requires.tree c.args.limit c.in-Some.all.items _
    within.0 within.1 is refl refl

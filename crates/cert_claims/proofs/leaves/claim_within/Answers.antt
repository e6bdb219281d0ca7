use Rattle.std.proofs.Common.{◌≡◌, ◌+◌, inl, inr, of_z, rules, subst, to_z}
use Rattle.std.specs.Prelude.{ℤ}
use Rattle.std.specs.Int.{w128}
use Rattle.kept_tours.specs.Counting.{IsCounted, found_tour}
use Rattle.cert_claims.proofs.WorthLemmas.{longer_claim, under_claim}
use Rattle.cert_claims.proofs.leaves.claim_within.Goals as goal

pub returns-in-Longer : goal.returns-in-Longer
returns-in-Longer c = record {
  snapshot = c.count.ensures.snapshot;
  stays = c.count.ensures.stays;
  claim = λ leaf holds worths.
      let s = c.args.desk.now.snapshot.now in
      let node = c.args.node.now in
      let limit = c.args.spare + 1 in
      let worth = c.stake-worth.result.worth in
      let tour = found_tour c.count.new.self in
      let same = c.stake-worth.ensures.worth leaf holds in
      let stored : to_z w128 (of_z w128 worth) ≡ worth = search rules in
      let counted = subst (λ (w : ℤ). IsCounted s node leaf c.args.car w limit tour c.count.result) stored (c.count.ensures.counted leaf holds) in
      elim c.in-Longer.is [
        | inl longer ↦ longer_claim s node leaf c.args.car limit c.calls-calls.ensures.accepted c.requires.car c.requires.node worths worth tour same
            (subst (IsCounted s node leaf c.args.car worth limit tour) longer counted)
        | inr under ↦ under_claim s node leaf c.args.car limit c.calls-calls.ensures.accepted c.requires.car c.requires.node worths worth tour under.0 same
            (subst (IsCounted s node leaf c.args.car worth limit tour) under.1 counted)
      ];
}

use Rattle.std.proofs.Common.{◌≡◌, ◌∙◌, Option, rules, to_z, of_z, subst}
use Rattle.std.specs.Prelude.{ℤ, IfOk, Result, Ok, Err}
use Rattle.std.specs.Int.{w128}
use Rattle.search_model.specs.declared.Leaf.{Leaf}
use Rattle.search_model.specs.declared.Reason.{Reason}
use Rattle.search_model.specs.Verdicts.{reason_of_car}
use Rattle.kept_tours.specs.Counting.{Holds, IsCounted, found_tour}
use Rattle.cert_checker.specs.Judging.{reason_of_count}
use Rattle.cert_checker.proofs.LeafLemmas.{car_reason}
use Rattle.cert_checker.proofs.leaves.judge_car.Goals as goal

ok_map : {A E : Type 0} (r : Result A E) (P Q : A → Type 0) → ((x : A) → P x → Q x) → IfOk r P → IfOk r Q
ok_map (Ok x) P Q on h = on x h
ok_map (Err e) P Q on h = tt

pub returns-clause-reason : goal.returns-clause-reason
returns-clause-reason c =
    let s = c.args.desk.now.snapshot.now in
    let node = c.args.node.now in
    let k = c.args.number in
    let car = c.args.car in
    let stake = c.stake-stake.result in
    let count = c.count-count.result in
    let tour = found_tour c.count-count.new.self in
    let worth : to_z w128 (of_z w128 stake.worth) ≡ stake.worth = search rules in
    ok_map c.reason_of_count.result (λ (reason : Option Reason). reason ≡ reason_of_count k car stake count tour)
    (λ (reason : Option Reason). (leaf : Leaf) → Holds leaf c.args.desk.now → reason ≡ reason_of_car s k node leaf car)
    (λ reason is leaf holds. is
    ∙ car_reason s k node leaf car stake tour count (c.stake-stake.ensures.worth leaf holds) (c.stake-stake.ensures.claim leaf holds)
    (subst (λ (w : ℤ). IsCounted s node leaf car w stake.claim tour count) worth (c.count-count.ensures.counted leaf holds))) c.reason_of_count.ensures

use Rattle.std.proofs.Common.{◌≡◌, ◌∙◌, Option, ap, sym, rules, to_z, of_z}
use Rattle.std.specs.Prelude.{IfOk, Result, Ok, Err}
use Rattle.std.specs.Int.{w128}
use Rattle.elevator_model.specs.Snapshot.{Snapshot, car_count}
use Rattle.search_model.specs.declared.Reason.{Reason}
use Rattle.search_model.specs.Verdicts.{reason_of_cars, reason_of_leaf}
use Rattle.cert_checker.proofs.LeafLemmas.{leaf_sum, leaf_cars}
use Rattle.cert_checker.proofs.leaves.judge_leaf.Goals as goal

pub returns-then-got-need-clause-reason : goal.returns-then-got-need-clause-reason
returns-then-got-need-clause-reason c =
    let s = c.args.desk.now.snapshot.now in
    let leaf = c.args.leaf.now in
    let whole = sym c.is_whole.ensures.whole ∙ c.if-not-is_whole.false in
    let need = to_z w128 (of_z w128 c.sum_needed-need.result) in
    let got = to_z w128 (of_z w128 c.sum_of_leaf-got.result) in
    let need_is : need ≡ c.sum_needed-need.result = search rules in
    let got_is : got ≡ c.sum_of_leaf-got.result = search rules in
    leaf_sum s c.args.bound c.args.number c.args.node.now leaf need got whole (need_is ∙ c.sum_needed-need.ensures)
    (got_is ∙ c.sum_of_leaf-got.ensures) c.if-got-need.true

ok_map : {A E : Type 0} (r : Result A E) (P Q : A → Type 0) → ((x : A) → P x → Q x) → IfOk r P → IfOk r Q
ok_map (Ok x) P Q on h = on x h
ok_map (Err e) P Q on h = tt

pub returns-clause-reason : goal.returns-clause-reason
returns-clause-reason c =
    let s = c.args.desk.now.snapshot.now in
    let node = c.args.node.now in
    let leaf = c.args.leaf.now in
    let number = c.args.number in
    let whole = sym c.is_whole.ensures.whole ∙ c.if-not-is_whole.false in
    let need = to_z w128 (of_z w128 c.sum_needed-need.result) in
    let got = to_z w128 (of_z w128 c.sum_of_leaf-got.result) in
    let need_is : need ≡ c.sum_needed-need.result = search rules in
    let got_is : got ≡ c.sum_of_leaf-got.result = search rules in
    let later = c.lay_out.new.self.snapshot.now in
    let same : later ≡ s = c.lay_out.ensures.snapshot in
    let all = leaf_cars s c.args.bound number node leaf need got whole (need_is ∙ c.sum_needed-need.ensures)
    (got_is ∙ c.sum_of_leaf-got.ensures) c.if-got-need.false in
    ok_map c.judge_cars.result (λ (reason : Option Reason). reason ≡ reason_of_cars later number node leaf (car_count later))
    (λ (reason : Option Reason). reason ≡ reason_of_leaf s c.args.bound number node leaf)
    (λ reason is. is ∙ ap (λ (v : Snapshot). reason_of_cars v number node leaf (car_count v)) same ∙ all) c.judge_cars.ensures.reason

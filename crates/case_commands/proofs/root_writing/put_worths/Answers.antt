use Rattle.std.proofs.Common.{◌≡◌, ◌++◌, ℕ, subst, arith, rules, to_z, of_z}
use Rattle.std.specs.Prelude.{pos, slice_index_or}
use Rattle.std.specs.Int.{w128}
use Rattle.elevator_model.specs.Snapshot.{car_count}
use Rattle.case_commands.specs.RootTexts.{worth_lines}
use Rattle.case_commands.proofs.RootTextLemmas.{more_worths, no_worths}
use Rattle.case_commands.proofs.root_writing.put_worths.Goals as goal

pub loop-car-init : goal.loop-car-init
loop-car-init c = no_worths c.args.snapshot.now c.args.worths.now c.args.out.now.items

pub loop-car-preserved : goal.loop-car-preserved
loop-car-preserved c =
    let at : to_z w128 (of_z w128 (slice_index_or c.args.worths.now c.loop-car.car (pos 0))) ≡ slice_index_or c.args.worths.now c.loop-car.car (pos 0) =
    search rules in
    more_worths c.args.snapshot.now c.args.worths.now c.loop-car.car _ c.args.out.now.items c.loop-car.out.items c.put_worth.new.out.items at
    c.loop-car.invariant c.in_ok-put_worth.ensures

pub returns : goal.returns
returns c =
    let counted = c.requires in
    let all : c.loop-car.car ≡ car_count c.args.snapshot.now = omega (arith, counted, c.loop-car-test.false, c.loop-car.auto.car-end) in
    subst (λ (n : ℕ). c.loop-car.out.items ≡ c.args.out.now.items ++ worth_lines c.args.snapshot.now c.args.worths.now n) all c.loop-car.invariant

use Rattle.std.proofs.Common.{◌∙◌, sym}
use Rattle.assign_branch.proofs.DemandLemmas.{single-has, none-single, empty-no_single, other-no_single}
use Rattle.assign_branch.proofs.SetNumbers.{single_number}
use Rattle.assign_branch.proofs.demands.if_single.Goals as goal

pub returns-in_default : goal.returns-in_default
returns-in_default c k lt =
    none-single c.args.set k c.empty.result c.empty.ensures (empty-no_single c.args.set k c.in_default.ensures.member)

pub returns-then-bits-car : goal.returns-then-bits-car
returns-then-bits-car c k lt =
    let member = c.in-Some.ensures.member in
    single-has c.args.set c.in-Some.car k (sym c.bits.ensures ∙ c.if-bits-car.true ∙ single_number c.in-Some.car member.1)

pub returns-else-bits-car : goal.returns-else-bits-car
returns-else-bits-car c k lt =
    let member = c.in-Some.ensures.member in
    none-single c.args.set k c.empty-else-bits-car.result c.empty-else-bits-car.ensures
    (other-no_single c.args.set c.in-Some.car k member.0 (λ e. c.if-bits-car.false (c.bits.ensures ∙ e ∙ sym (single_number c.in-Some.car member.1))))

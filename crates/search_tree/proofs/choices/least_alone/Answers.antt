use Rattle.std.proofs.Common.{◌≡◌, ◌^◌, ℕ, true, MatchOption, Option, subst, sym}
use Rattle.call_sets.specs.Counting.{has}
use Rattle.search_model.specs.Nodes.{is_part}
use Rattle.search_tree.proofs.ChoiceLemmas.{alone, alone-is_part, alone-number}
use Rattle.search_tree.proofs.choices.least_alone.Goals as goal

pub returns-in_err-least-clause-part : goal.returns-in_err-least-clause-part
returns-in_err-least-clause-part c =
    let set = c.args.set in
    let single = λ (k : ℕ) (member : has set k ≡ true).
    alone set c.without.result c.in_ok-car.car k c.in_ok-car.ensures.member.0 c.without.ensures c.in_err-least.ensures.member member in
    subst (λ (r : Option ℕ). MatchOption r ((k : ℕ) → has set k ≡ true → set ≡ 2 ^ k) (λ part. is_part set part ≡ true))
    (sym c.from_residual-in_err-least.ensures) single

pub returns-clause-part : goal.returns-clause-part
returns-clause-part c =
    let car = c.in_ok-car.ensures.member in
    let other = c.in_ok-least.ensures.member in
    alone-is_part c.args.set c.without.result c.empty.result c.with.result c.in_ok-car.car c.in_ok-least.field-0 car.1 car.0 c.without.ensures other.1 other.0
    c.empty.ensures c.with.ensures

pub returns-clause-least : goal.returns-clause-least
returns-clause-least c = record {
  car = c.in_ok-car.car;
  member = c.in_ok-car.ensures.member.0;
  least = c.in_ok-car.ensures.least;
  part_is = alone-number c.empty.result c.with.result c.in_ok-car.car c.empty.ensures c.with.ensures;
}

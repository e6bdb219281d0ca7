use Rattle.std.proofs.Common.{◌≡◌, ◌∙◌, length, arith}
use Rattle.std.proofs.lemmas.List.{get_or_default}
use Rattle.car_layout.proofs.GroupLemmas.{persons_few}
use Rattle.car_layout.proofs.layout.Layout.persons_to.Goals as goal

pub returns-clause-few : goal.returns-clause-few
returns-clause-few c =
    let f = c.self.inside in
    let car = c.self.invariant.5 in
    let few = persons_few f.snapshot.now f.car c.args.floor (length f.snapshot.now.aboard) c.self.invariant.0 car.car (omega arith) in
    let here = car.persons_are c.args.floor c.requires in
    let size = car.persons_size in
    let at = c.index.ensures ∙ get_or_default f.persons.items c.args.floor c.index.result.now 0 (omega (arith, size, c.requires)) in
    omega (arith, few, here, at)

use Rattle.std.proofs.Common.{ℕ, ◌∙◌, ap, sym, arith}
use Rattle.tour_rules.specs.Leaving.{leaving_cost}
use Rattle.partial_tours.specs.Courses.{reached}
use Rattle.partial_tours.proofs.Follow.{leave_leads_to, stands_in}
use Rattle.partial_tours.proofs.Tallied.{arrives_late, counts_leave, tally_leave, tally_small, kept_reached, boarded_reached}
use Rattle.partial_tours.proofs.steps.Step.after_leave.Goals as goal

pub opened_at-opened-requires-clause-to : goal.opened_at-opened-requires-clause-to
opened_at-opened-requires-clause-to c =
    let s = c.args.layout.now.snapshot in
    let car = c.args.layout.now.car in
    let l = c.requires.lawful in
    stands_in s car (reached s car l.0) c.args.floor (leave_leads_to s car l.0 c.args.floor l.1 l.7).1

pub leaving_at-leaving-requires-clause-floor : goal.leaving_at-leaving-requires-clause-floor
leaving_at-leaving-requires-clause-floor c =
    let s = c.args.layout.now.snapshot in
    let car = c.args.layout.now.car in
    let l = c.requires.lawful in
    let within = stands_in s car (reached s car l.0) c.args.floor (leave_leads_to s car l.0 c.args.floor l.1 l.7).1 in
    let high = c.snapshot-accepted.ensures.accepted.building.floors_high in
    omega (arith, within, high)

pub leaving_at-leaving-requires-clause-late : goal.leaving_at-leaving-requires-clause-late
leaving_at-leaving-requires-clause-late c =
    let s = c.args.layout.now.snapshot in
    let car = c.args.layout.now.car in
    let l = c.requires.lawful in
    let stands = (leave_leads_to s car l.0 c.args.floor l.1 l.7).1 in
    let late = arrives_late s car (reached s car l.0) c.args.floor c.snapshot-accepted.ensures.accepted c.car-car.ensures.car l.4.punctual stands in
    let opened = c.opened_at-opened.ensures.value (reached s car l.0) l.3.place l.4.counts.leaves in
    omega (arith, late, opened)

pub after_leave-requires-2-clause-small : goal.after_leave-requires-2-clause-small
after_leave-requires-2-clause-small c =
    let l = c.requires.lawful in
    tally_small c.args.layout.now.snapshot c.args.layout.now.car l.2 c.args.self.now.tally l.0 c.snapshot-accepted.ensures.accepted c.car-car.ensures.car l.4
    (let few = l.6 in omega (arith, few))

pub returns : goal.returns
returns c = λ x y count t tally noted few h.
    let s = c.args.layout.now.snapshot in
    let car = c.args.layout.now.car in
    let p = reached s car x in
    let kept = kept_reached s car count c.args.self.now.tally x tally in
    let boarded = boarded_reached s car count c.args.self.now.tally x c.args.moments.now tally noted in
    let opened = c.after_leave-2.ensures.opened ∙ c.opened_at-opened.ensures.value p t.place tally.counts.leaves in
    let same = c.after_leave-2.ensures.opened in
    let leaves = c.after_leave-2.ensures.leaves in
    let cost = c.leaving_at-leaving.ensures.cost p t.place kept boarded ∙ ap (λ (n : ℕ). leaving_cost s p c.args.floor n) (sym same) in
    let counts = counts_leave s car p c.args.floor c.args.self.now.tally c.after_leave-2.result c.leaving_at-leaving.result.persons
    c.leaving_at-leaving.result.cost kept tally.counts opened (c.leaving_at-leaving.ensures.persons p t.place)
    (omega (arith, leaves, same)) cost c.after_leave-2.ensures.settled in
    let timely = c.after_leave-2.ensures.leaves in
    let late = c.after_leave-2.ensures.late in
    let later = c.opened_at-opened.ensures.late in (
      c.after_leave.ensures x y t h,
      tally_leave s car count c.args.self.now.tally c.after_leave-2.result x y c.args.floor c.snapshot-accepted.ensures.accepted c.car-car.ensures.car tally
          few h counts (omega (arith, timely, same)) (omega (arith, late, later)),
    )

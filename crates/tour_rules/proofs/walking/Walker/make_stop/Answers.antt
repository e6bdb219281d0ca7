use Rattle.std.proofs.Common.{◌≡◌, ℕ, ◌+◌, ◌*◌, ap, ◌∙◌, arith}
use Rattle.elevator_model.specs.Snapshot.{spec_of}
use Rattle.elevator_model.specs.Tours.{arrival, persons_where, gets_off}
use Rattle.tour_rules.proofs.walking.Walker.make_stop.Goals as goal

leaves_after : (opened alighting boarding closing off on persons_off persons_on dwell : ℕ) → off ≡ persons_off → on ≡ persons_on
    → dwell ≡ alighting * off + boarding * on + closing → opened + dwell ≡ opened + alighting * persons_off + boarding * persons_on + closing
leaves_after opened alighting boarding closing off on persons_off persons_on dwell e h d =
    let a = ap (λ (x : ℕ). alighting * x) e in
    let b = ap (λ (x : ℕ). boarding * x) h in
    omega (arith, a, b, d)

pub returns-clause-stops : goal.returns-clause-stops
returns-clause-stops c = λ p test w is_set.
    let s = c.args.snapshot.now in
    let car = c.args.car in
    let g = c.args.floor in
    let spec = spec_of s car in
    let off = persons_where s (gets_off s p g) in
    let on = persons_where s test in
    let opened : c.arrival.result + c.opening_of.result ≡ arrival s car p g + spec.opening =
    omega (arith, c.arrival.ensures.value p w, c.opening_of.ensures.value) in
    let leaves = leaves_after
    (c.arrival.result + c.opening_of.result) spec.alighting spec.boarding spec.closing c.persons_carried-off.result c.persons_boarding-on.result off on
    c.dwell_of.result (c.persons_carried-off.ensures.value p w.place) (c.persons_boarding-on.ensures.value test is_set) c.dwell_of.ensures.value in
    record {
      place = c.after_stop.ensures.stops car p test w.place is_set;
      opened = opened;
      leaves = leaves ∙ ap (λ (n : ℕ). n + spec.alighting * off + spec.boarding * on + spec.closing) opened;
    }

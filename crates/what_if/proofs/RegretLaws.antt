-- How much more the call costs with the nearest car than with the best one.
use Rattle.std.proofs.Common.{◌≡◌, ℕ, zero, suc, ◌<◌, ◌≤◌, Bool, true, false, List, length, refl, sym, ◌∙◌, subst, inl, inr, arith}
use Rattle.std.specs.Prelude.{◌⊎◌, ℤ, ◌-ℤ◌, ◌≤ℤ◌, ◌<ℤ◌, int_lt}
use Rattle.std.proofs.lemmas.Int.{ints}
use Rattle.std.proofs.lemmas.Bool.{cases_Bool}
use Rattle.std.proofs.Math.Nat.{eq-or-lt_of_le}
use Rattle.elevator_model.specs.Snapshot.{Snapshot, car_count}
use Rattle.what_if.specs.declared.extras.Extra.{Extra}
use Rattle.what_if.specs.declared.regrets.Regret.{Regret}
use Rattle.what_if.specs.WhatIf.{AreExtras, AreSettled, CanTakeAsked, HasEnds, IsExtraCost, IsLeastExtra, IsNearest, IsRegret, IsRegretOf, extra_at, high_of}
use Rattle.what_if.specs.WhatIf.{is_settled, low_of, takes_asked}
use Rattle.what_if.proofs.ExtraLaws.{extra-at, extra-same, extra-within, settled-is, takes-has}

never : (b : Bool) → b ≡ false → b ≡ true → ⊥
never true e f = absurd (cc e)
never false e f = absurd (cc f)

all-or-not : (n : ℕ) (t : ℕ → Bool) → ((c : ℕ) → c < n → t c ≡ true) ⊎ (((c : ℕ) → c < n → t c ≡ true) → ⊥)
all-or-not zero t = inl (λ c below. absurd (omega (arith, below)))
all-or-not (suc n) t =
    elim (all-or-not n t) [ inl all ↦ with_last (t n) refl all | inr some ↦ inr (λ all. some (λ c below. all c (omega (arith, below)))) ]
  where
    with_last : (b : Bool) → t n ≡ b → ((c : ℕ) → c < n → t c ≡ true) → ((c : ℕ) → c < suc n → t c ≡ true) ⊎ (((c : ℕ) → c < suc n → t c ≡ true) → ⊥)
    with_last true e all = inl (λ c below. elim (eq-or-lt_of_le (at_most c below)) [
      | inl same ↦ subst (λ (k : ℕ). t k ≡ true) (sym same) e
      | inr low ↦ all c low
    ])
      where
        at_most : (c : ℕ) → c < suc n → c ≤ n
        at_most c below = omega (arith, below)
    with_last false e all = inr (λ every. never (t n) e (every n (omega arith)))

-- what is known of the car whose extra has the least low end
record IsCheapest (s : Snapshot) (extras : List Extra) (c : ℕ) : Type 0 where
  takes : CanTakeAsked s c
  least : (other : ℕ) → CanTakeAsked s other → low_of (extra_at extras c) ≤ℤ low_of (extra_at extras other)

cheapest-is : (s : Snapshot) (rounds most_tours : ℕ) (extras : List Extra) (r : Regret) (a : AreExtras s rounds most_tours extras) (e : HasEnds extras r)
    → IsCheapest s extras e.cheapest
cheapest-is s rounds most_tours extras r a e =
    let count = a.count in
    let is_car = e.is_car in
    let car : e.cheapest < car_count s = omega (arith, count, is_car) in
    record {
      takes = record {
        is_car = car;
        possible = takes-has s rounds most_tours a.before e.cheapest (extra_at extras e.cheapest) (a.each e.cheapest car) ∙ e.has;
      };
      least = λ other takes.
          (let below = takes.is_car in
          e.least other (omega (arith, below, count))
          (sym (takes-has s rounds most_tours a.before other (extra_at extras other) (a.each other takes.is_car)) ∙ takes.possible));
    }

-- of a settled list, what is said of a car is its extra cost
settled-at : (s : Snapshot) (rounds most_tours : ℕ) (extras : List Extra) → AreExtras s rounds most_tours extras → AreSettled extras → (c : ℕ)
    → CanTakeAsked s c
    → IsExtraCost s c (low_of (extra_at extras c)) × (low_of (extra_at extras c) ≡ high_of (extra_at extras c))
settled-at s rounds most_tours extras a all c takes =
    let count = a.count in
    let below = takes.is_car in
    settled-is s rounds most_tours a.before c (extra_at extras c) takes.possible (all c (omega (arith, count, below))) (a.each c takes.is_car)

-- a regret is at least the low end
low-end : (s : Snapshot) (rounds most_tours : ℕ) (extras : List Extra) (r : Regret) → AreExtras s rounds most_tours extras → IsNearest s r.car
    → HasEnds extras r
    → (regret : ℤ) → IsRegretOf s r.car regret → r.low ≤ℤ regret
low-end s rounds most_tours extras r a nearest e regret h =
    let takes = nearest.takes in
    let is = h.is in
    elim (all-or-not (length extras) (λ c. is_settled (extra_at extras c))) [
      | inl all ↦ (let cheapest = cheapest-is s rounds most_tours extras r a e in let own = settled-at s rounds most_tours extras a all r.car takes in
          let same = own.1 in let within =
          extra-within s rounds most_tours a.before r.car (extra_at extras r.car) h.extra takes.possible (a.each r.car takes.is_car) h.extra_cost in
          let from = within.0 in let best = settled-at s rounds most_tours extras a all e.cheapest cheapest.takes in
          let least = h.least.least e.cheapest (low_of (extra_at extras e.cheapest)) cheapest.takes best.0 in let low = e.settled all in let high = e.high in
          omega (arith, ints, same, from, least, low, high, is))
      | inr some ↦ (let low = e.unsettled some in let least = h.least.least r.car h.extra takes h.extra_cost in omega (arith, ints, low, least, is))
    ]

-- ---- there is one regret

less : (v w : ℤ) → int_lt v w ≡ true → v <ℤ w
less v w e = grind (arith, ints)

no_less : (v w : ℤ) → int_lt v w ≡ false → w ≤ℤ v
no_less v w e = grind (arith, ints)

-- of the cars below n that can take the call none has a lesser extra cost than this car, which can take it
record HasLeastBelow (s : Snapshot) (n : ℕ) : Type 0 where
  extra : ℤ
  car : ℕ
  takes : CanTakeAsked s car
  is : IsExtraCost s car extra
  least : (c : ℕ) (other : ℤ) → c < n → CanTakeAsked s c → IsExtraCost s c other → extra ≤ℤ other

module _ (s : Snapshot) (rounds most_tours : ℕ) (extras : List Extra) (a : AreExtras s rounds most_tours extras) (known : ℕ) (takes : CanTakeAsked s known) where
  extra-of : (c : ℕ) → CanTakeAsked s c → (extra : ℤ) × IsExtraCost s c extra
  extra-of c can = extra-at s rounds most_tours a.before c (extra_at extras c) can.possible (a.each c can.is_car)

  least-below : (n : ℕ) → n ≤ car_count s → HasLeastBelow s n
  least-below zero few =
      let own = extra-of known takes in
      record { extra = own.0; car = known; takes = takes; is = own.1; least = λ c other below can is. absurd (omega (arith, below)) }
  least-below (suc n) few = with_last (takes_asked s n) refl (least-below n (omega (arith, few)))
    where
      at_most : (c : ℕ) → c < suc n → c ≤ n
      at_most c below = omega (arith, below)

      with_last : (b : Bool) → takes_asked s n ≡ b → HasLeastBelow s n → HasLeastBelow s (suc n)
      with_last false none so_far = record {
        extra = so_far.extra;
        car = so_far.car;
        takes = so_far.takes;
        is = so_far.is;
        least = λ c other below can is.
            elim (eq-or-lt_of_le (at_most c below)) [
              | inl same ↦ absurd (never (takes_asked s n) none (subst (λ (k : ℕ). takes_asked s k ≡ true) same can.possible))
              | inr low ↦ so_far.least c other low can is
            ];
      }
      with_last true may so_far =
          let able : CanTakeAsked s n = record { is_car = omega (arith, few); possible = may } in
          let own = extra-of n able in
          elim (cases_Bool (int_lt own.0 so_far.extra)) [
            | inl first ↦ record {
              extra = own.0;
              car = n;
              takes = able;
              is = own.1;
              least = λ c other below can is.
                  elim (eq-or-lt_of_le (at_most c below)) [
                    | inl same ↦ (let one = extra-same s n own.0 other own.1 (subst (λ (k : ℕ). IsExtraCost s k other) same is) in omega (arith, ints, one))
                    | inr low ↦ (let le = so_far.least c other low can is in let lt = less own.0 so_far.extra first in omega (arith, ints, le, lt))
                  ];
            }
            | inr later ↦ record {
              extra = so_far.extra;
              car = so_far.car;
              takes = so_far.takes;
              is = so_far.is;
              least = λ c other below can is.
                  elim (eq-or-lt_of_le (at_most c below)) [
                    | inl same ↦ (let one = extra-same s n own.0 other own.1 (subst (λ (k : ℕ). IsExtraCost s k other) same is) in
                        let le = no_less own.0 so_far.extra later in omega (arith, ints, one, le))
                    | inr low ↦ so_far.least c other low can is
                  ];
            }
          ]

  least-extra : (best : ℤ) × IsLeastExtra s best
  least-extra =
      let found = least-below (car_count s) (omega arith) in
      (found.extra, record { car = found.car; takes = found.takes; is = found.is; least = λ c other can is. found.least c other can.is_car can is })

regret-same : (s : Snapshot) (c : ℕ) (one other : ℤ) → IsRegretOf s c one → IsRegretOf s c other → other ≡ one
regret-same s c one other x y =
    let extra = extra-same s c x.extra y.extra x.extra_cost y.extra_cost in
    let below = x.least.least y.least.car y.best y.least.takes y.least.is in
    let above = y.least.least x.least.car x.best x.least.takes x.least.is in
    let first = x.is in
    let second = y.is in
    omega (arith, ints, extra, below, above, first, second)

pub regret-is : (s : Snapshot) (rounds most_tours : ℕ) (extras : List Extra) (r : Regret) → AreExtras s rounds most_tours extras → IsNearest s r.car
    → HasEnds extras r
    → IsRegret s extras r
regret-is s rounds most_tours extras r a nearest e =
    let cheapest = cheapest-is s rounds most_tours extras r a e in
    let takes = nearest.takes in
    let here = a.each r.car takes.is_car in
    let high_is = e.high in
    let of_nearest = extra-of s rounds most_tours extras a r.car takes r.car takes in
    let of_best = least-extra s rounds most_tours extras a r.car takes in
    let there : IsRegretOf s r.car (of_nearest.0 -ℤ of_best.0) =
    record { extra = of_nearest.0; best = of_best.0; extra_cost = of_nearest.1; least = of_best.1; is = refl } in
    record {
      nearest = nearest;
      ends = e;
      regret = of_nearest.0 -ℤ of_best.0;
      regret_of = there;
      only = λ other h. regret-same s r.car (of_nearest.0 -ℤ of_best.0) other there h;
      holds = λ regret h.
          (let own = extra-within s rounds most_tours a.before r.car (extra_at extras r.car) h.extra takes.possible here h.extra_cost in let top = own.1 in
          let best = extra-within s rounds most_tours a.before h.least.car (extra_at extras h.least.car) h.best h.least.takes.possible
          (a.each h.least.car h.least.takes.is_car) h.least.is in let floor = best.0 in let least = cheapest.least h.least.car h.least.takes in
          let is = h.is in (low-end s rounds most_tours extras r a nearest e regret h, omega (arith, ints, top, floor, least, is, high_is)));
      exact = λ all. (let own = settled-at s rounds most_tours extras a all r.car takes in
          let best = settled-at s rounds most_tours extras a all e.cheapest cheapest.takes in let same = own.1 in let low = e.settled all in record {
            extra = low_of (extra_at extras r.car);
            best = low_of (extra_at extras e.cheapest);
            extra_cost = own.0;
            least = record {
              car = e.cheapest;
              takes = cheapest.takes;
              is = best.0;
              least = λ c other takes_too is.
                  (let le = cheapest.least c takes_too in
                  let within = extra-within s rounds most_tours a.before c (extra_at extras c) other takes_too.possible (a.each c takes_too.is_car) is in
                  let from = within.0 in omega (arith, ints, le, from));
            };
            is = omega (arith, ints, low, high_is, same);
          });
    }

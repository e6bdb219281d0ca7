-- The order of the calls of a queue.
use Rattle.std.proofs.Common.{◌≡◌, ◌<◌, ◌≤◌, Bool, true, false, ◌&&◌, eqb, ltb, refl, sym, ◌∙◌, inl, inr, arith}
use Rattle.std.proofs.lemmas.Bool.{or_cases, or_left, or_right, and_parts, and_from, ltb-true, lt-ltb, eqb-true, eq-eqb, false≢true, false_from_ne_true}
use Rattle.std.proofs.Math.Nat.{eq-or-lt_of_le}
use Rattle.elevator_model.specs.declared.Call.{Call}
use Rattle.elevator_model.specs.Tours.{is_later, is_later_in_queue, is_upward, same_direction}

pub record IsAfter (x y : Call) : Type 0 where
  pub released : y.released ≤ x.released
  pub id : x.released ≡ y.released → y.id < x.id

pub after_from : (x y : Call) → is_later x y ≡ true → IsAfter x y
after_from x y h =
    elim (or_cases (ltb y.released x.released) _ h) [
      | inl e ↦ (let lt = ltb-true y.released x.released e in record { released = omega arith; id = λ same. absurd (omega arith) })
      | inr e ↦ (let parts = and_parts (eqb x.released y.released) (ltb y.id x.id) e in let same = eqb-true x.released y.released parts.0 in
          let lt = ltb-true y.id x.id parts.1 in record { released = omega arith; id = λ _. lt })
    ]

pub after_to : (x y : Call) → IsAfter x y → is_later x y ≡ true
after_to x y h =
    let low = h.released in
    elim (eq-or-lt_of_le low) [
      | inl e ↦ or_right (ltb y.released x.released) _
          (and_from (eqb x.released y.released) _ (eq-eqb x.released y.released (sym e)) (lt-ltb y.id x.id (h.id (sym e))))
      | inr lt ↦ or_left (ltb y.released x.released) _ (lt-ltb y.released x.released lt)
    ]

pub later_trans : (x y z : Call) → is_later x y ≡ true → is_later y z ≡ true → is_later x z ≡ true
later_trans x y z h k =
    let a = after_from x y h in
    let b = after_from y z k in
    let ar = a.released in
    let br = b.released in
    after_to x z (record {
      released = omega arith;
      id = λ same. let e : x.released ≡ y.released = omega arith in let f : y.released ≡ z.released = omega arith in
          let i = a.id e in let j = b.id f in omega arith;
    })

pub not_later_itself : (x : Call) → is_later x x ≡ false
not_later_itself x = false_from_ne_true (is_later x x) (λ h. let lt = (after_from x x h).id refl in omega arith)

both : (a b d : Bool) → same_direction a b ≡ true → same_direction b d ≡ true → same_direction a d ≡ true
both true true d h k = k
both true false d h k = absurd (false≢true h)
both false true d h k = absurd (false≢true h)
both false false d h k = k

pub record InQueue (x y : Call) : Type 0 where
  pub origin : x.origin ≡ y.origin
  pub direction : same_direction (is_upward x) (is_upward y) ≡ true
  pub later : is_later x y ≡ true

pub queue_from : (x y : Call) → is_later_in_queue x y ≡ true → InQueue x y
queue_from x y h =
    let outer = and_parts ((eqb x.origin y.origin) && same_direction (is_upward x) (is_upward y)) (is_later x y) h in
    let inner = and_parts (eqb x.origin y.origin) _ outer.0 in
    record { origin = eqb-true x.origin y.origin inner.0; direction = inner.1; later = outer.1 }

pub queue_to : (x y : Call) → InQueue x y → is_later_in_queue x y ≡ true
queue_to x y q =
    and_from ((eqb x.origin y.origin) && same_direction (is_upward x) (is_upward y)) (is_later x y)
    (and_from (eqb x.origin y.origin) _ (eq-eqb x.origin y.origin q.origin) q.direction) q.later

pub queue_trans : (x y z : Call) → is_later_in_queue x y ≡ true → is_later_in_queue y z ≡ true → is_later_in_queue x z ≡ true
queue_trans x y z h k =
    let a = queue_from x y h in
    let b = queue_from y z k in
    queue_to x z (record {
      origin = a.origin ∙ b.origin;
      direction = both (is_upward x) (is_upward y) (is_upward z) a.direction b.direction;
      later =
          later_trans x y z a.later b.later;
    })

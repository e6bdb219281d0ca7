-- What holds wherever lawful moves lead, and the two steps: a partial tour can be extended where one of its
-- children can.
use Rattle.std.proofs.Common.{◌≡◌, ℕ, ◌-◌, eqb, leb, ◌<◌, Bool, true, false, ◌&&◌, ltb, refl, sym, ap, ◌∙◌, subst, inl, inr, arith, Option, Some, None}
use Rattle.std.specs.Option.{is_some}
use Rattle.std.proofs.lemmas.Bool.{or_cases, and_parts, not-true, ltb-true, leb-true, eqb-true}
use Rattle.elevator_model.specs.declared.Stop.{Stop}
use Rattle.elevator_model.specs.declared.Move.{Move}
use Rattle.elevator_model.specs.declared.Move.TheVariants.{Board, Leave, End}
use Rattle.elevator_model.specs.Snapshot.{Snapshot, IsAccepted, call_count, call_of, group_of, serves, is_possible}
use Rattle.elevator_model.specs.Tours.{Progress, start_of, make_stop, boards_at, stays_on, rider_count, destination_of}
use Rattle.elevator_model.specs.Partial.{Course, course_start, may_stand, may_end, move_on, progress_after, boards_allowed}
use Rattle.partial_tours.specs.Courses.{with_call_on, empty_stop, may_leave}
use Rattle.tour_rules.specs.Leaving.{IsKept}
use Rattle.tour_rules.proofs.Settled.{IsKept-start, IsKept-stop}
use Rattle.tour_rules.proofs.Sound.{cond-some}
use Rattle.partial_tours.proofs.Follow.{board_leads_to, leave_leads_to, ending_leads_to, end_some}
use Rattle.plain_plan.proofs.StopClear.{destination_of-call, serves_destination}
use Rattle.search_model.specs.Extending.{IsDemand, can_go_on, can_go_on_at, can_be_extended, any_waits}
use Rattle.tour_extension.proofs.Promising.{promising_from, promising_to, board_for}
use Rattle.tour_extension.proofs.BackSteps.{board_back, leave_back, end_back}
use Rattle.tour_rules.proofs.Riders.{at_group}

-- the car serves the floors where all go that it carries
abbrev pub AreServed : Snapshot → ℕ → Progress → Type 0
AreServed s c p = (r : ℕ) → r < rider_count s → p.carried r ≡ true → serves s.building c (destination_of s r) ≡ true

abbrev pub Stands : Snapshot → ℕ → Progress → Option Stop → Type 0
Stands s c q None = Unit {0}
Stands s c q (Some stop) = may_stand s c q stop ≡ true

-- before the first stop the car is where it starts
abbrev pub IsAtStart : Snapshot → ℕ → (ended : Bool) → Progress → Option Stop → Type 0
IsAtStart s c true q present = Unit {0}
IsAtStart s c false q None = q ≡ start_of s c
IsAtStart s c false q (Some stop) = Unit {0}

pub record Midway (s : Snapshot) (c : ℕ) (x : Course) : Type 0 where
  pub kept : IsKept s c x.before
  pub served : AreServed s c x.before
  pub stands : Stands s c x.before x.present
  pub start : IsAtStart s c x.ended x.before x.present

served_start : (s : Snapshot) (c : ℕ) → IsAccepted s → AreServed s c (start_of s c)
served_start s c ok r lt on =
    let outer = and_parts (leb (call_count s) r && ltb r (rider_count s)) (eqb (group_of s (r - call_count s)).car c) on in
    let le = leb-true (call_count s) r (and_parts (leb (call_count s) r) _ outer.0).0 in
    let goes = at_group r (call_count s) (call_of s r).destination (group_of s (r - call_count s)).destination le in
    subst (λ (d : ℕ). serves s.building c d ≡ true) (sym goes)
    (subst (λ (x : ℕ). serves s.building x (group_of s (r - call_count s)).destination ≡ true) (eqb-true (group_of s (r - call_count s)).car c outer.1)
    (ok.groups (r - call_count s) (omega arith)).served)

pub served_stop : (s : Snapshot) (c : ℕ) (q : Progress) (stop : Stop) → AreServed s c q → may_stand s c q stop ≡ true → AreServed s c (make_stop s c q stop)
served_stop s c q stop served stands r lt on =
    elim (or_cases (stays_on s q stop.floor r) (boards_at s stop r) on) [
      | inl e ↦ served r lt (and_parts (q.carried r) _ e).0
      | inr e ↦ (let parts = and_parts (ltb r (call_count s)) _ e in
          let may = and_parts (ltb r (call_count s)) (is_possible s c (call_of s r)) (board_for s c q stop r stands parts.1) in
          subst (λ (d : ℕ). serves s.building c d ≡ true) (sym (destination_of-call s r (ltb-true r (call_count s) parts.0))) (serves_destination s c r may.1))
    ]

served_after : (s : Snapshot) (c : ℕ) (q : Progress) (present : Option Stop) → AreServed s c q → Stands s c q present
    → AreServed s c (progress_after s c q present)
served_after s c q None served stands = served
served_after s c q (Some stop) served stands = served_stop s c q stop served stands

kept_after : (s : Snapshot) (c : ℕ) (q : Progress) (present : Option Stop) → IsKept s c q → IsKept s c (progress_after s c q present)
kept_after s c q None kept = kept
kept_after s c q (Some stop) kept = IsKept-stop s c q stop kept

pub Midway-start : (s : Snapshot) (c : ℕ) → IsAccepted s → Midway s c (course_start s c)
Midway-start s c ok = record { kept = IsKept-start s c; served = served_start s c ok; stands = tt; start = refl }

pub Midway-move : (s : Snapshot) (c : ℕ) (x : Course) (m : Move) (y : Course) → Midway s c x → move_on s c x m ≡ Some y → Midway s c y
Midway-move s c x (Board j) y mid h =
    let b = board_leads_to s c x j y h in
    subst (Midway s c) (sym b.leads) (record { kept = mid.kept; served = mid.served; stands = b.stands; start = tt })
Midway-move s c x (Leave g) y mid h =
    let l = leave_leads_to s c x g y h in
    subst (Midway s c) (sym l.2)
    (record {
      kept = kept_after s c x.before x.present mid.kept;
      served = served_after s c x.before x.present mid.served mid.stands;
      stands = l.1;
      start =
          tt;
    })
Midway-move s c x End y mid h =
    subst (Midway s c) (sym (ending_leads_to s c x y h))
    (record {
      kept = kept_after s c x.before x.present mid.kept;
      served = served_after s c x.before x.present mid.served mid.stands;
      stands = tt;
      start =
          tt;
    })

-- ---- one step back

board_step : (s : Snapshot) (c : ℕ) (allowed required : ℕ → Bool) (x : Course) (j : ℕ) (y : Course) → IsAccepted s → IsDemand s c allowed required
    → Midway s c x → move_on s c x (Board j) ≡ Some y → allowed j ≡ true → can_be_extended s c allowed required y ≡ true
    → can_be_extended s c allowed required x ≡ true
board_step s c allowed required x j y ok demand mid h allow e =
    let b = board_leads_to s c x j y h in
    let runs = (cond-some x.ended _ y h).0 in
    let good = promising_from s c allowed required x.before (with_call_on b.stop j) (sym (ap (can_be_extended s c allowed required) b.leads) ∙ e) in
    ap (λ (o : Bool). can_go_on_at s c allowed required o x.before x.present) runs ∙ ap (can_go_on_at s c allowed required false x.before) b.present
    ∙ promising_to s c allowed required x.before b.stop (board_back s c allowed required x.before b.stop j ok demand mid.kept b.rises b.stands allow good)

leave_at : (s : Snapshot) (c : ℕ) (allowed required : ℕ → Bool) (q : Progress) (present : Option Stop) (g : ℕ) → IsDemand s c allowed required
    → Stands s c q present → may_leave s c q present ≡ true → may_stand s c (progress_after s c q present) (empty_stop g) ≡ true
    → can_go_on s c allowed required (progress_after s c q present) (empty_stop g) ≡ true → can_go_on_at s c allowed required false q present ≡ true
leave_at s c allowed required q None g demand stands left next e = refl
leave_at s c allowed required q (Some stop) g demand stands left next e =
    promising_to s c allowed required q stop
    (leave_back s c allowed required q stop g demand left stands next (promising_from s c allowed required (make_stop s c q stop) (empty_stop g) e))

leave_step : (s : Snapshot) (c : ℕ) (allowed required : ℕ → Bool) (x : Course) (g : ℕ) (y : Course) → IsDemand s c allowed required → Midway s c x
    → move_on s c x (Leave g) ≡ Some y → can_be_extended s c allowed required y ≡ true → can_be_extended s c allowed required x ≡ true
leave_step s c allowed required x g y demand mid h e =
    let l = leave_leads_to s c x g y h in
    let runs = (cond-some x.ended _ y h).0 in
    ap (λ (o : Bool). can_go_on_at s c allowed required o x.before x.present) runs
    ∙ leave_at s c allowed required x.before x.present g demand mid.stands l.0 l.1 (sym (ap (can_be_extended s c allowed required) l.2) ∙ e)

end_at : (s : Snapshot) (c : ℕ) (allowed required : ℕ → Bool) (q : Progress) (present : Option Stop) → IsDemand s c allowed required → Stands s c q present
    → may_leave s c q present ≡ true → may_end s c (progress_after s c q present) ≡ true → any_waits s required (progress_after s c q present) ≡ false
    → can_go_on_at s c allowed required false q present ≡ true
end_at s c allowed required q None demand stands left over none = refl
end_at s c allowed required q (Some stop) demand stands left over none =
    promising_to s c allowed required q stop (end_back s c allowed required q stop demand left stands over none)

end_step : (s : Snapshot) (c : ℕ) (allowed required : ℕ → Bool) (x : Course) (y : Course) → IsDemand s c allowed required → Midway s c x
    → move_on s c x End ≡ Some y → can_be_extended s c allowed required y ≡ true → can_be_extended s c allowed required x ≡ true
end_step s c allowed required x y demand mid h e =
    let runs = (cond-some x.ended _ y h).0 in
    let test = and_parts (may_leave s c x.before x.present) _ (sym (end_some s c x runs) ∙ ap is_some h) in
    let none = not-true _ (sym (ap (can_be_extended s c allowed required) (ending_leads_to s c x y h)) ∙ e) in
    ap (λ (o : Bool). can_go_on_at s c allowed required o x.before x.present) runs
    ∙ end_at s c allowed required x.before x.present demand mid.stands test.0 test.1 none

-- Where a partial tour with one more allowed move can be extended, so can the one without.
pub step_back : (s : Snapshot) (c : ℕ) (allowed required : ℕ → Bool) (x : Course) (m : Move) (y : Course) → IsAccepted s → IsDemand s c allowed required
    → Midway s c x → move_on s c x m ≡ Some y → boards_allowed allowed m ≡ true → can_be_extended s c allowed required y ≡ true
    → can_be_extended s c allowed required x ≡ true
step_back s c allowed required x (Board j) y ok demand mid h may e = board_step s c allowed required x j y ok demand mid h may e
step_back s c allowed required x (Leave g) y ok demand mid h may e = leave_step s c allowed required x g y demand mid h e
step_back s c allowed required x End y ok demand mid h may e = end_step s c allowed required x y demand mid h e

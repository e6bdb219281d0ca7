-- What holds along the moves of a tour to its end: who is carried gets off, who boards rides.
use Rattle.std.proofs.Common.{◌≡◌, ℕ, ◌+◌, ◌*◌, ◌<◌, ◌≤◌, Bool, true, false, cond, ◌||◌, eqb, ltb, List, [], ◌∷◌, refl, sym, ap, ◌∙◌, subst, inl, inr, arith}
use Rattle.std.proofs.Common.{Some}
use Rattle.std.specs.List.{list_all}
use Rattle.std.proofs.lemmas.Bool.{both_ways, cases_Bool, eqb-true, eqb-false, or_left, or_right}
use Rattle.elevator_model.specs.declared.Stop.{Stop}
use Rattle.elevator_model.specs.declared.Move.{Move}
use Rattle.elevator_model.specs.declared.Move.TheVariants.{Board, Leave, End}
use Rattle.elevator_model.specs.Building.{floor_count}
use Rattle.elevator_model.specs.Travel.{time_between}
use Rattle.elevator_model.specs.Snapshot.{Snapshot, IsAccepted, call_count, call_of, spec_of}
use Rattle.elevator_model.specs.Tours.{Progress, boards_at, destination_of, has_leg, is_aboard, make_stop, rider_count, stays_on}
use Rattle.elevator_model.specs.Partial.{Course, move_on, moves_on}
use Rattle.tour_rules.proofs.RiderSums.{destination_of-call, persons_of-call}
use Rattle.tour_rules.proofs.Sound.{leads_on}
use Rattle.partial_tours.specs.Courses.{reached, with_call_on}
use Rattle.pricing_bound.specs.GrowthLemmas.{Boards, no_boards}
use Rattle.pricing_bound.specs.Standing.{IsStanding, standing_move}
use Rattle.route_bound.specs.ForcedRoute.{least_ride, next_open}
use Rattle.route_bound.specs.Moves.{Boarding, IsNoLater, board_leaves, boarding, ending, is_known, leaving, move_carries, move_keeps, move_later, move_legs}
use Rattle.route_bound.specs.Moves.{moves_keep, next_else, next_here, no_later_on, no_later_same}

-- the moves lead to an end
pub record Completes (s : Snapshot) (c : ℕ) (x : Course) (later : List Move) (z : Course) : Type 0 where
  pub leads : moves_on s c (Some x) later ≡ Some z
  pub ended : z.ended ≡ true
  pub empty : (r : ℕ) → r < rider_count s → (reached s c z).carried r ≡ false

-- some moves do
pub record CanEnd (s : Snapshot) (c : ℕ) (x : Course) : Type 0 where
  pub later : List Move
  pub last : Course
  pub completes : Completes s c x later last

-- ---- who is carried gets off

-- Something holds after each move. Where it holds at the rider's destination, the doors are open no sooner
-- than at the moment b. So the rider gets off no sooner.
pub delivers_by : (s : Snapshot) (c r : ℕ) (P : Course → Type 0) (b : ℕ) → r < rider_count s
    → ((x : Course) (m : Move) (y : Course) → IsStanding s c x → P x → move_on s c x m ≡ Some y → P y)
    → ((x : Course) → P x → (reached s c x).begun ≡ true → (reached s c x).floor ≡ destination_of s r → b ≤ (reached s c x).opened)
    → (x : Course) (later : List Move) (z : Course) → IsStanding s c x → P x → is_known s c (reached s c x) r ≡ true → (reached s c x).carried r ≡ true
    → Completes s c x later z → b ≤ (reached s c z).delivered_at r
delivers_by s c r P b in_all step here x [] z h p known on goes =
    let leads = goes.leads in
    let same : x ≡ z = cc in
    absurd (both_ways ((reached s c z).carried r) (goes.empty r in_all) (subst (λ (w : Course). (reached s c w).carried r ≡ true) same on))
delivers_by s c r P b in_all step here x (m ∷ later) z h p known on goes =
    let one = leads_on s c x m later z goes.leads in
    let y = one.next in
    let standing = standing_move s c x m y h one.first in
    let keeps = move_keeps s c r x m y h known one.first in
    let holds = step x m y h p one.first in
    let rest : Completes s c y later z = record { leads = one.later; ended = goes.ended; empty = goes.empty } in
    elim (move_carries s c r x m y h on one.first) [
      | inl still ↦ delivers_by s c r P b in_all step here y later z standing holds keeps.known still rest
      | inr off ↦ (let stays = moves_keep s c r y later z standing keeps.known one.later in let low = here y holds off.begun off.floor in
          let told = stays.delivered_at off.off ∙ off.delivered_at in omega (arith, low, told))
    ]

-- nothing is sooner than where the car was, and it travels on
pub record IsAfter (s : Snapshot) (c : ℕ) (p : Progress) (x : Course) : Type 0 where
  pub later : IsNoLater s c p (reached s c x)
  pub leg : has_leg s c (reached s c x) ≡ true

pub after_move : (s : Snapshot) (c : ℕ) (p : Progress) (x : Course) (m : Move) (y : Course) → IsAccepted s → IsStanding s c x → IsAfter s c p x
    → move_on s c x m ≡ Some y → IsAfter s c p y
after_move s c p x m y a h after leads =
    record {
      later = no_later_on s c p (reached s c x) (reached s c y) after.later (move_later s c x m y a h after.leg leads);
      leg =
          move_legs s c x m y h after.leg leads;
    }

-- at a floor where the car has stopped
pub after_opens : (s : Snapshot) (c : ℕ) (p : Progress) (x : Course) (g : ℕ) → g < floor_count s.building → IsAfter s c p x → (reached s c x).begun ≡ true
    → (reached s c x).floor ≡ g → next_open s c p g ≤ (reached s c x).opened
after_opens s c p x g b after begun floor =
    let low = after.later g b in
    let here = next_here s c (reached s c x) g begun (sym floor) in
    omega (arith, low, here)

-- who is carried gets off no sooner than on the straight way
pub delivers_straight : (s : Snapshot) (c r : ℕ) (x : Course) (later : List Move) (z : Course) → IsAccepted s → r < rider_count s
    → destination_of s r < floor_count s.building → IsStanding s c x → has_leg s c (reached s c x) ≡ true → is_known s c (reached s c x) r ≡ true
    → (reached s c x).carried r ≡ true → Completes s c x later z → next_open s c (reached s c x) (destination_of s r) ≤ (reached s c z).delivered_at r
delivers_straight s c r x later z a in_all to h leg known on goes =
    delivers_by s c r (IsAfter s c (reached s c x)) (next_open s c (reached s c x) (destination_of s r)) in_all
    (λ v m w standing p leads. after_move s c (reached s c x) v m w a standing p leads)
    (λ w p begun floor. after_opens s c (reached s c x) w (destination_of s r) to p begun floor) x later z h
    (record { later = no_later_same s c (reached s c x); leg = leg }) known on goes

-- ---- who boards

-- the call boarded no sooner than at the moment b, and rode
pub record Rode (s : Snapshot) (c j b : ℕ) (z : Progress) : Type 0 where
  pub boarded_at : b ≤ z.boarded_at j
  pub delivered_at : z.boarded_at j + least_ride s c j ≤ z.delivered_at j

pub board_comes : (s : Snapshot) (c : ℕ) (b : Progress) (stop : Stop) (i j : ℕ) → Boards s c b stop i → (make_stop s c b stop).boarded j ≡ false
    → (make_stop s c b (with_call_on stop i)).boarded j ≡ true → j ≡ i
board_comes s c b stop i j h old new =
    elim (cases_Bool (eqb j i)) [
      | inl e ↦ eqb-true j i e
      | inr e ↦ absurd (both_ways (b.boarded j || boards_at s (with_call_on stop i) j)
          (ap (λ (v : Bool). b.boarded j || v) (h.others j (eqb-false j i e)) ∙ old) new)
    ]

none_boards : (b x : Bool) → b ≡ false → x ≡ false → (b || x) ≡ false
none_boards false false h n = refl
none_boards b x h n = cc

-- the move by which a call has boarded is its own
pub move_boards : (s : Snapshot) (c j : ℕ) (x : Course) (m : Move) (y : Course) → IsStanding s c x → move_on s c x m ≡ Some y
    → (reached s c x).boarded j ≡ false → (reached s c y).boarded j ≡ true → Boarding s c j x y
move_boards s c j x (Leave g) y h leads old new =
    absurd (both_ways ((reached s c y).boarded j)
    (ap (λ (q : Progress). q.boarded j) (leaving s c x g y leads)
    ∙ none_boards ((reached s c x).boarded j) (boards_at s (record { floor = g; boards = [] }) j) old (no_boards s g j)) new)
move_boards s c j x (Board i) y h leads old new =
    let at = boarding s c x i y h leads in
    let same = board_comes s c at.before at.stop i j at.on (subst (λ (p : Progress). p.boarded j ≡ false) at.old old)
    (subst (λ (p : Progress). p.boarded j ≡ true) at.new new) in
    subst (λ (k : ℕ). Boarding s c k x y) (sym same) at
move_boards s c j x End y h leads old new =
    absurd (both_ways ((reached s c y).boarded j) (ap (λ (q : Progress). q.boarded j) (ending s c x y leads) ∙ old) new)

-- where the car is after the call boarded
pub record HasBoarded (s : Snapshot) (c j : ℕ) (p q : Progress) : Type 0 where
  pub call : j < call_count s
  pub begun : q.begun ≡ true
  pub floor : q.floor ≡ (call_of s j).origin
  pub before : p.floor ≡ q.floor
  pub opened : q.opened ≡ p.opened
  pub leaves : q.opened + (spec_of s c).boarding * (call_of s j).persons + (spec_of s c).closing ≤ q.leaves
  pub boarded : q.boarded j ≡ true
  pub carried : q.carried j ≡ true
  pub boarded_at : q.boarded_at j ≡ q.opened

board_has : (s : Snapshot) (c : ℕ) (b : Progress) (stop : Stop) (j : ℕ) → Boards s c b stop j → list_all (λ i. ltb i j) stop.boards ≡ true
    → HasBoarded s c j (make_stop s c b stop) (make_stop s c b (with_call_on stop j))
board_has s c b stop j h rises =
    let p = make_stop s c b stop in
    let q = make_stop s c b (with_call_on stop j) in
    let more = board_leaves s c b stop j h.call rises in
    let persons = ap (λ (n : ℕ). (spec_of s c).boarding * n) (persons_of-call s j h.call) in
    let late : p.opened + (spec_of s c).closing ≤ p.leaves = omega arith in
    record {
      call = h.call;
      begun = refl;
      floor = sym h.origin;
      before = refl;
      opened = refl;
      leaves = omega (arith, more, persons, late);
      boarded = or_right (b.boarded j) (boards_at s (with_call_on stop j) j) h.present;
      carried = or_right (stays_on s b stop.floor j) (boards_at s (with_call_on stop j) j) h.present;
      boarded_at = ap (λ (v : Bool). cond v q.opened (b.boarded_at j)) h.present;
    }

pub boarding_has : (s : Snapshot) (c j : ℕ) (x y : Course) → Boarding s c j x y → HasBoarded s c j (reached s c x) (reached s c y)
boarding_has s c j x y at =
    subst (λ (p : Progress). HasBoarded s c j p (reached s c y)) (sym at.old)
    (subst (λ (q : Progress). HasBoarded s c j (make_stop s c at.before at.stop) q) (sym at.new) (board_has s c at.before at.stop j at.on at.rises))

-- from its boarding on a call rides
rides : (s : Snapshot) (c j b : ℕ) (x y : Course) (later : List Move) (z : Course) → IsAccepted s → IsStanding s c y → Boarding s c j x y
    → b ≤ (reached s c x).opened → Completes s c y later z → Rode s c j b (reached s c z)
rides s c j b x y later z a h at low goes =
    let q = reached s c y in
    let has = boarding_has s c j x y at in
    let call = has.call in
    let in_all : j < rider_count s = omega (arith, call) in
    let known = or_left (q.boarded j) (is_aboard s c j) has.boarded in
    let keeps = moves_keep s c j y later z h known goes.leads in
    let accepted = a.calls j call in
    let to = destination_of-call s j call in
    let ends = accepted.destination in
    let leg : has_leg s c q ≡ true = or_left q.begun _ has.begun in
    let straight = delivers_straight s c j y later z a in_all (omega (arith, to, ends)) h leg known has.carried goes in
    let apart : destination_of s j ≡ q.floor → ⊥ = λ e. accepted.travels (sym has.floor ∙ sym e ∙ to) in
    let way = next_else s c q (destination_of s j) apart in
    let along = ap (time_between s.building.travel q.floor) to ∙ ap (λ (f : ℕ). time_between s.building.travel f (call_of s j).destination) has.floor in
    let opened = has.opened in
    let leaves = has.leaves in
    let same = keeps.boarded_at ∙ has.boarded_at in
    record { boarded_at = omega (arith, low, opened, same); delivered_at = omega (arith, straight, way, along, leaves, same) }

-- Something holds after each move. Where it holds and the call boards, the doors were open no sooner than at
-- the moment b. So the call boards no sooner, and rides.
pub boards_by : (s : Snapshot) (c j : ℕ) (P : Course → Type 0) (b : ℕ) → IsAccepted s
    → ((x : Course) (m : Move) (y : Course) → IsStanding s c x → P x → move_on s c x m ≡ Some y → P y)
    → ((x y : Course) → IsStanding s c x → IsStanding s c y → P x → Boarding s c j x y → CanEnd s c y → b ≤ (reached s c x).opened)
    → (x : Course) (later : List Move) (z : Course) → IsStanding s c x → P x → (reached s c x).boarded j ≡ false → (reached s c z).boarded j ≡ true
    → Completes s c x later z → Rode s c j b (reached s c z)
boards_by s c j P b a step here x [] z h p old new goes =
    let leads = goes.leads in
    let same : x ≡ z = cc in
    absurd (both_ways ((reached s c z).boarded j) (subst (λ (w : Course). (reached s c w).boarded j ≡ false) same old) new)
boards_by s c j P b a step here x (m ∷ later) z h p old new goes =
    let one = leads_on s c x m later z goes.leads in
    let y = one.next in
    let standing = standing_move s c x m y h one.first in
    let rest : Completes s c y later z = record { leads = one.later; ended = goes.ended; empty = goes.empty } in
    elim (cases_Bool ((reached s c y).boarded j)) [
      | inl e ↦ (let at = move_boards s c j x m y h one.first old e in
          rides s c j b x y later z a standing at (here x y h standing p at (record { later = later; last = z; completes = rest })) rest)
      | inr e ↦ boards_by s c j P b a step here y later z standing (step x m y h p one.first) e new rest
    ]
